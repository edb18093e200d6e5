-- What is asked and held begins and ends at short texts.
use Rattle.std.proofs.Common.{◌≡◌, ℕ, ℤ, zero, suc, ◌+◌, ◌≤◌, Bool, true, false, List, [], ◌∷◌, ◌++◌, length, Some, None, refl, ap, subst, ◌∙◌, arith, append-nil}
use Rattle.std.specs.Prelude.{◌&&◌, ◌||◌, ◌==◌, not, int_le, flat_map, filter, if◌then◌else◌}
use Rattle.std.specs.List.{list_all}
use Rattle.std.specs.Cmp.Derive.{both_true}
use Rattle.std.proofs.lemmas.Bool.{and_parts}
use Rattle.std.proofs.lemmas.List.Folds.{list_all-append}
use Rattle.std.proofs.lemmas.List.Concat.{flat_map-cons}
use Rattle.std.proofs.lemmas.Grind.{flat_map-append}
use Rattle.sr_cell.specs.declared.cell.Cell.{Cell}
use Rattle.sr_cell.specs.declared.cell.Cell.TheVariants.{Str, Null as NullCell}
use Rattle.sr_cell.specs.declared.table.Column.{Column}
use Rattle.sr_cell.specs.declared.table.Kind.{Kind}
use Rattle.sr_cell.specs.declared.table.Kind.TheVariants.{Num as Numbers, Str as Texts}
use Rattle.sr_cell.specs.declared.table.Table.{Table}
use Rattle.sr_cell.specs.Cells.{cell_eq}
use Rattle.sr_cell.specs.Columns.{are_bytes}
use Rattle.sr_cell.proofs.Order.{cell_eq-sound, cell_eq-refl}
use Rattle.sr_box.specs.declared.span.Span.{Span}
use Rattle.sr_box.specs.declared.span.Span.TheVariants.{Full, Nums, Strs, Null}
use Rattle.sr_box.specs.Points.{Rect, rect_fits}
use Rattle.sr_box.specs.Spans.{fits_kind, is_below, is_whole, end_bytes}
use Rattle.sr_box.specs.Corners.{null_cut}
use Rattle.sr_union.specs.Grid.{is_among, has_cut}
use Rattle.sr_bytes.specs.Writing.{may_write_span, may_write_rect}
use Rattle.sr_bytes.proofs.Numbers.{from-to}
use Rattle.sr_model.specs.Ends.{ends}
use Rattle.sr_model.specs.Queries as model
use Rattle.sr_query.specs.declared.query.Query.{Query}
use Rattle.sr_query.specs.Joined.{is_needed}
use Rattle.sr_history.specs.Ends.{CutsIn, part_ends, AllEndAmong}
use Rattle.sr_history.specs.Load.{parts_on}
use Rattle.sr_lines.specs.Short.{is_short, has_short_texts}
use Rattle.sr_lines.specs.Sound.{is_sound_part}
use Rattle.sr_lines.proofs.Short.{ends_are_short}
use Rattle.sr_client.specs.Bound.{IsMeaning}
use Rattle.sr_client.specs.Stands.{HaveShortEnds}
use Rattle.sr_client.proofs.EndLemmas.{parts_on-append}

-- ---- queries

abbrev part_short : model.Part → Bool
part_short part = has_short_texts part.condition

parts-short : (schema : List Table) (parts : List model.Part) → list_all (is_sound_part schema) parts ≡ true → list_all (λ (part : model.Part). has_short_texts part.condition) parts ≡ true
parts-short schema [] sound = refl
parts-short schema (part ∷ parts) sound =
    let s = and_parts (is_sound_part schema part) (list_all (is_sound_part schema) parts) sound in
    let own : part_short part ≡ true = grind (arith, s.0) in
    both_true own (parts-short schema parts s.1)

-- what holds of all parts holds of those of a table
kept : (p q : model.Part → Bool) (parts : List model.Part) → list_all p parts ≡ true → list_all p (filter q parts) ≡ true
kept p q [] all = refl
kept p q (part ∷ parts) all = let s = and_parts (p part) (list_all p parts) all in go (q part) s.0 (kept p q parts s.1)
  where
    go : (b : Bool) → p part ≡ true → list_all p (filter q parts) ≡ true → list_all p (if b then part ∷ filter q parts else filter q parts) ≡ true
    go true here rest = both_true here rest
    go false here rest = rest

ends-short : (parts : List model.Part) (c : ℕ) → list_all (λ (part : model.Part). has_short_texts part.condition) parts ≡ true → list_all (is_short 121) (part_ends parts c) ≡ true
ends-short [] c all = refl
ends-short (part ∷ parts) c all =
    let s = and_parts (has_short_texts part.condition) (list_all (λ (part : model.Part). has_short_texts part.condition) parts) all in
    ap (list_all (is_short 121)) (flat_map-cons (λ (part : model.Part). ends c part.condition) part parts)
    ∙ (list_all-append (is_short 121) (ends c part.condition) (part_ends parts c) ∙ both_true (ends_are_short c part.condition s.0) (ends-short parts c s.1))

-- the query that a text means
pub meaning-short : (schema : List Table) (q : Query) (m : model.Query) → IsMeaning schema q m → HaveShortEnds (m ∷ [])
meaning-short schema q m is t c =
    ends-short (parts_on t (m ∷ [])) c (kept part_short (λ (part : model.Part). part.table == t) (flat_map (λ (x : model.Query). x.parts) (m ∷ []))
    (ap (list_all part_short) (append-nil m.parts) ∙ parts-short schema m.parts (and_parts (list_all (is_sound_part schema) m.parts) (list_all (is_needed m.parts) m.outputs) is.sound).0))

-- those of two lists
pub short-append : (a b : List model.Query) → HaveShortEnds a → HaveShortEnds b → HaveShortEnds (a ++ b)
short-append a b x y t c =
    ap (λ parts. list_all (is_short 121) (part_ends parts c)) (parts_on-append t a b)
    ∙ (ap (list_all (is_short 121)) (flat_map-append (λ (part : model.Part). ends c part.condition) (parts_on t a) (parts_on t b))
    ∙ (list_all-append (is_short 121) (part_ends (parts_on t a) c) (part_ends (parts_on t b) c) ∙ both_true (x t c) (y t c)))

among-short : (vs : List Cell) (v : Cell) → list_all (is_short 121) vs ≡ true → is_among vs v ≡ true → is_short 121 v ≡ true
among-short [] v all among = absurd (cc)
among-short (u ∷ vs) v all among =
    let s = and_parts (is_short 121 u) (list_all (is_short 121) vs) all in
    go (cell_eq u v) refl among s.0 (λ rest. among-short vs v s.1 rest)
  where
    go : (b : Bool) → cell_eq u v ≡ b → (b || is_among vs v) ≡ true → is_short 121 u ≡ true → (is_among vs v ≡ true → is_short 121 v ≡ true) → is_short 121 v ≡ true
    go true same among own rest = subst (λ w. is_short 121 w ≡ true) (cell_eq-sound u v same) own
    go false same among own rest = rest among

-- ---- spans

abbrev CutsShort : Kind → ℤ → ℤ → Bool → Span → Type 0
CutsShort k low high nullable s = (v : Cell) → has_cut k low high nullable s v ≡ true → is_short 121 v ≡ true

first-is : (v : Cell) (vs : List Cell) → is_among (v ∷ vs) v ≡ true
first-is v vs = rw (cell_eq-refl v) refl

later-is : (u v : Cell) (vs : List Cell) → is_among vs v ≡ true → is_among (u ∷ vs) v ≡ true
later-is u v vs among = go (cell_eq u v)
  where
    go : (b : Bool) → (b || is_among vs v) ≡ true
    go true = refl
    go false = among

past-null : (nullable : Bool) (v : Cell) (vs : List Cell) → is_among vs v ≡ true → is_among (null_cut nullable ++ vs) v ≡ true
past-null true v vs among = later-is NullCell v vs among
past-null false v vs among = among

span-may : (k : Kind) (low high : ℤ) (nullable : Bool) (s : Span) → fits_kind k low high nullable s ≡ true → CutsShort k low high nullable s → may_write_span s ≡ true
span-may k low high nullable Full fits short = refl
span-may k low high nullable Null fits short = refl
span-may Numbers low high nullable (Nums lo hi) fits short = let s = and_parts (int_le low lo && int_le lo hi) _ (and_parts (int_le low lo && int_le lo hi && int_le hi high) _ fits).0 in (and_parts (int_le low lo) (int_le lo hi) (and_parts (int_le low lo && int_le lo hi) (int_le hi high) (and_parts (int_le low lo && int_le lo hi && int_le hi high) _ fits).0).0).1
span-may Numbers low high nullable (Strs lo hi) fits short = absurd (cc)
span-may Texts low high nullable (Nums lo hi) fits short = absurd (cc)
span-may Texts low high nullable (Strs [] None) fits short = refl
span-may Texts low high nullable (Strs (b ∷ lo) None) fits short = short (Str (b ∷ lo)) (past-null nullable (Str (b ∷ lo)) (Str (b ∷ lo) ∷ []) (first-is (Str (b ∷ lo)) []))
span-may Texts low high nullable (Strs [] (Some hi)) fits short =
    let below = (and_parts (are_bytes [] && end_bytes (Some hi)) (is_below [] (Some hi)) (and_parts (are_bytes [] && end_bytes (Some hi) && is_below [] (Some hi)) _ fits).0).1 in
    both_true (both_true refl (short (Str hi) (past-null nullable (Str hi) (Str hi ∷ []) (first-is (Str hi) [])))) below
span-may Texts low high nullable (Strs (b ∷ lo) (Some hi)) fits short =
    let below = (and_parts (are_bytes (b ∷ lo) && end_bytes (Some hi)) (is_below (b ∷ lo) (Some hi)) (and_parts (are_bytes (b ∷ lo) && end_bytes (Some hi) && is_below (b ∷ lo) (Some hi)) _ fits).0).1 in
    let cuts = Str (b ∷ lo) ∷ Str hi ∷ [] in
    both_true (both_true (short (Str (b ∷ lo)) (past-null nullable (Str (b ∷ lo)) cuts (first-is (Str (b ∷ lo)) (Str hi ∷ []))))
    (short (Str hi) (past-null nullable (Str hi) cuts (later-is (Str (b ∷ lo)) (Str hi) (Str hi ∷ []) (first-is (Str hi) []))))) below

spans-may : (values : ℕ → List Cell) (c : ℕ) (columns : List Column) (r : Rect) → ((k : ℕ) → list_all (is_short 121) (values k) ≡ true) → CutsIn values c columns r → rect_fits columns r ≡ true
    → list_all may_write_span r ≡ true
spans-may values c [] [] short cuts fits = refl
spans-may values c [] (s ∷ r) short cuts fits = absurd (cc)
spans-may values c (column ∷ columns) [] short cuts fits = absurd (cc)
spans-may values c (column ∷ columns) (s ∷ r) short cuts fits =
    let p = and_parts (fits_kind column.kind column.lo column.hi column.nullable s) (rect_fits columns r) fits in
    both_true (span-may column.kind column.lo column.hi column.nullable s p.0 (λ v cut. among-short (values c) v (short c) (cuts.0 v cut)))
    (spans-may values (c + 1) columns r short cuts.1 p.1)

fits-length : (columns : List Column) (r : Rect) → rect_fits columns r ≡ true → length r ≡ length columns
fits-length [] [] fits = refl
fits-length [] (s ∷ r) fits = absurd (cc)
fits-length (column ∷ columns) [] fits = absurd (cc)
fits-length (column ∷ columns) (s ∷ r) fits = ap (λ n. suc n) (fits-length columns r (and_parts (fits_kind column.kind column.lo column.hi column.nullable s) (rect_fits columns r) fits).1)

-- rects of a table that end only where tests of these queries do
pub rects-may : (columns : List Column) (t : ℕ) (queries : List model.Query) (rects : List Rect) → 1 ≤ length columns → length columns ≤ 12 → HaveShortEnds queries
    → AllEndAmong columns (parts_on t queries) rects → list_all (rect_fits columns) rects ≡ true → list_all may_write_rect rects ≡ true
rects-may columns t queries [] some few short along fits = refl
rects-may columns t queries (r ∷ rects) some few short along fits =
    let p = and_parts (rect_fits columns r) (list_all (rect_fits columns) rects) fits in
    let count = fits-length columns r p.0 in
    both_true (both_true (from-to 1 12 (length r) (omega (arith, count, some)) (omega (arith, count, few))) (spans-may (part_ends (parts_on t queries)) 0 columns r (short t) along.0 p.0))
    (rects-may columns t queries rects some few short along.1 p.1)
