-- The halves of a region.
use Rattle.std.proofs.Common.{◌≡◌, ℕ, ◌+◌, ◌≤◌, true, false, cond, List, [], ◌∷◌, ◌++◌, refl, sym, ap, ◌∙◌, subst, arith}
use Rattle.std.specs.Prelude.{Bool, not, ◌&&◌, nat_eq, if◌then◌else◌, filter, None, ℤ}
use Rattle.std.specs.List.{list_all, All}
use Rattle.std.proofs.lemmas.Bool.Decides.{nat_tests}
use Rattle.std.proofs.lemmas.List.Folds.{list_all-append}
use Rattle.std.proofs.lemmas.List.Elements.{All-nil, All-cons, All-head, All-tail}
use Rattle.sr_cell.specs.declared.cell.Cell.{Cell}
use Rattle.sr_cell.specs.declared.table.Column.{Column}
use Rattle.sr_cell.specs.declared.table.Table.{Table}
use Rattle.sr_cell.specs.declared.table.Kind.{Kind}
use Rattle.sr_cell.specs.declared.table.Kind.TheVariants.{Num as Numbers, Str as Texts}
use Rattle.sr_cell.specs.Attrs.{has_column, project}
use Rattle.sr_cell.specs.Cells.{Row}
use Rattle.sr_cell.specs.Columns.{is_point}
use Rattle.sr_box.specs.declared.span.Span.{Span}
use Rattle.sr_box.specs.declared.span.Span.TheVariants.{Full, Nums, Strs, Null}
use Rattle.sr_box.specs.Points.{Rect, Points, in_any, times, rect_fits, constrains_only}
use Rattle.sr_box.specs.Corners.{cuts_of, have_first}
use Rattle.sr_rows.proofs.Parts.{ascend-filter}
use Rattle.sr_union.specs.Pieces.{IsMinus}
use Rattle.sr_union.specs.Grid.{is_among, has_cut, first_cuts, others, CutsAmong, AreCutFrom}
use Rattle.sr_union.proofs.Times.{in_any-times}
use Rattle.sr_union.proofs.Parts.{are_part, are_fit}
use Rattle.sr_union.proofs.Among.{AreCutFrom-append}
use Rattle.sr_union.proofs.Once.{are_trans}
use Rattle.sr_union.proofs.Low.{has_point}
use Rattle.sr_union.proofs.SpanCuts.{numbers_cut, texts_cut, null_has_cut}
use Rattle.sr_region.specs.declared.region.Region.{Region}
use Rattle.sr_region.specs.Regions.{rank, is_in, IsRowIn, IsRegion}
use Rattle.sr_region.specs.Halves.{MaybeHalf, IsInside, IsOutside, half_of}
use Rattle.sr_region.proofs.Parts.{is_in-point}

no-cut : (k : Kind) (low high : ℤ) (nullable : Bool) → cuts_of k low high nullable Full ≡ []
no-cut Numbers low high nullable = refl
no-cut Texts low high nullable = refl

-- rects that do not constrain their first column have no cut there
first-free : (k : Column) (given : List Rect) (attrs c : ℕ) → list_all (constrains_only attrs c) given ≡ true → has_column attrs c ≡ false → (v : Cell) → is_among (first_cuts k given) v ≡ false
first-free k [] attrs c only free v = refl
first-free k ([] ∷ given) attrs c only free v = first-free k given attrs c (grind arith) free v
first-free k ((Full ∷ r) ∷ given) attrs c only free v = rw (no-cut k.kind k.lo k.hi k.nullable) (first-free k given attrs c (grind arith) free v)
first-free k ((Nums lo hi ∷ r) ∷ given) attrs c only free v = absurd (grind (arith, free))
first-free k ((Strs lo hi ∷ r) ∷ given) attrs c only free v = absurd (grind (arith, free))
first-free k ((Null ∷ r) ∷ given) attrs c only free v = absurd (grind (arith, free))

others-only : (given : List Rect) (attrs c : ℕ) → list_all (constrains_only attrs c) given ≡ true → list_all (constrains_only attrs (c + 1)) (others given) ≡ true
others-only [] attrs c only = refl
others-only ([] ∷ given) attrs c only = others-only given attrs c (grind arith)
others-only ((Full ∷ r) ∷ given) attrs c only = let ih = others-only given attrs c (grind arith) in grind (arith, ih)
others-only ((Nums lo hi ∷ r) ∷ given) attrs c only = let ih = others-only given attrs c (grind arith) in grind (arith, ih)
others-only ((Strs lo hi ∷ r) ∷ given) attrs c only = let ih = others-only given attrs c (grind arith) in grind (arith, ih)
others-only ((Null ∷ r) ∷ given) attrs c only = let ih = others-only given attrs c (grind arith) in grind (arith, ih)

-- a column with a cut is one of the constrained
is-constrained : (k : Column) (given : List Rect) (attrs c : ℕ) (s : Span) → list_all (constrains_only attrs c) given ≡ true
    → ((v : Cell) → has_cut k.kind k.lo k.hi k.nullable s v ≡ true → is_among (first_cuts k given) v ≡ true)
    → (v : Cell) × (has_cut k.kind k.lo k.hi k.nullable s v ≡ true) → has_column attrs c ≡ true
is-constrained k given attrs c s only among cut = go (has_column attrs c) (first-free k given attrs c only)
  where
    go : (b : Bool) → (b ≡ false → (v : Cell) → is_among (first_cuts k given) v ≡ false) → b ≡ true
    go true free = refl
    go false free = sym (free refl cut.0) ∙ among cut.0 cut.1

cut-only : (cs : List Column) (given : List Rect) (attrs c : ℕ) (r : Rect) → rect_fits cs r ≡ true → CutsAmong cs r given → list_all (constrains_only attrs c) given ≡ true → constrains_only attrs c r ≡ true
cut-only [] given attrs c [] f h only = refl
cut-only [] given attrs c (s ∷ r) f h only = absurd (grind arith)
cut-only (k ∷ cs) given attrs c [] f h only = refl
cut-only (k ∷ cs) given attrs c (Full ∷ r) f h only = cut-only cs (others given) attrs (c + 1) r (grind arith) h.1 (others-only given attrs c only)
cut-only (k ∷ cs) given attrs c (Nums lo hi ∷ r) f h only =
    let ih = cut-only cs (others given) attrs (c + 1) r (grind arith) h.1 (others-only given attrs c only) in
    let is = is-constrained k given attrs c (Nums lo hi) only h.0 (numbers_cut k.kind k.lo k.hi k.nullable lo hi (grind arith)) in
    rw (is, ih) refl
cut-only (k ∷ cs) given attrs c (Strs lo hi ∷ r) f h only =
    let ih = cut-only cs (others given) attrs (c + 1) r (grind arith) h.1 (others-only given attrs c only) in
    let is = is-constrained k given attrs c (Strs lo hi) only h.0 (texts_cut k.kind k.lo k.hi k.nullable lo hi (grind arith)) in
    rw (is, ih) refl
cut-only (k ∷ cs) given attrs c (Null ∷ r) f h only =
    let ih = cut-only cs (others given) attrs (c + 1) r (grind arith) h.1 (others-only given attrs c only) in
    let is = is-constrained k given attrs c Null only h.0 (null_has_cut k.kind k.lo k.hi k.nullable (grind arith)) in
    rw (is, ih) refl

-- rects whose cuts are among those of others constrain no other columns
pub cuts-only : (cs : List Column) (given rects : List Rect) (attrs : ℕ) → AreCutFrom cs given rects → list_all (constrains_only attrs 0) given ≡ true → list_all (constrains_only attrs 0) rects ≡ true
cuts-only cs given [] attrs h only = refl
cuts-only cs given (r ∷ rects) attrs h only =
    let ih = cuts-only cs given rects attrs h.2 only in
    let one = cut-only cs given attrs 0 r h.0 h.1 only in
    grind (arith, ih, one)

pub cuts-mid : (cs : List Column) (own cut outside : List Rect) → list_all (rect_fits cs) own ≡ true → AreCutFrom cs (own ++ cut) outside → AreCutFrom cs (own ++ cut) (own ++ outside)
cuts-mid cs own cut outside f h = AreCutFrom-append cs (own ++ cut) own outside (are_part cs [] own cut f) h

pub cuts-inside : (cs : List Column) (own cut outside inside : List Rect) → list_all (rect_fits cs) own ≡ true → AreCutFrom cs (own ++ cut) outside → AreCutFrom cs (own ++ outside) inside → AreCutFrom cs (own ++ cut) inside
cuts-inside cs own cut outside inside f h k = are_trans cs (own ++ cut) (own ++ outside) inside (cuts-mid cs own cut outside f h) k

-- the points of two differences, each once
pub outside-once : (cs : List Column) (own cut outside : List Rect) → ((p : Row) → is_point cs p ≡ true → times own p ≤ 1) → IsMinus cs own cut outside → (p : Row) → is_point cs p ≡ true
    → times outside p ≡ (if in_any own p && not (in_any cut p) then 1 else 0)
outside-once cs own cut outside once minus p point = go (in_any own p) (in_any cut p) (times own p) (times outside p) (once p point) (in_any-times own p) (minus p point)
  where
    go : (a b : Bool) (n m : ℕ) → n ≤ 1 → a ≡ not (nat_eq n 0) → m ≡ (if b then 0 else n) → m ≡ (if a && not b then 1 else 0)
    go true true n m le d e = e
    go true false n m le d e = grind (arith, nat_tests, le, d, e)
    go false true n m le d e = e
    go false false n m le d e = grind (arith, nat_tests, le, d, e)

pub inside-once : (cs : List Column) (own cut outside inside : List Rect) → ((p : Row) → is_point cs p ≡ true → times own p ≤ 1) → IsMinus cs own cut outside → IsMinus cs own outside inside
    → (p : Row) → is_point cs p ≡ true → times inside p ≡ (if in_any own p && in_any cut p then 1 else 0)
inside-once cs own cut outside inside once minus more p point =
    go (in_any own p) (in_any cut p) (in_any outside p) (times own p) (times outside p) (times inside p) (once p point) (in_any-times own p) (in_any-times outside p)
    (outside-once cs own cut outside once minus p point) (more p point)
  where
    go : (a b o : Bool) (n m i : ℕ) → n ≤ 1 → a ≡ not (nat_eq n 0) → o ≡ not (nat_eq m 0) → m ≡ (if a && not b then 1 else 0) → i ≡ (if o then 0 else n) → i ≡ (if a && b then 1 else 0)
    go a b true n m i le d e f g = grind (arith, nat_tests, le, d, e, f, g)
    go a b false n m i le d e f g = grind (arith, nat_tests, le, d, e, f, g)

abbrev pub AreThose : List Column → List Rect → Points → Type 0
AreThose cs rects those = (p : Row) → is_point cs p ≡ true → times rects p ≡ (if those p then 1 else 0)

those-any : (cs : List Column) (rects : List Rect) (those : Points) → AreThose cs rects those → (p : Row) → is_point cs p ≡ true → in_any rects p ≡ those p
those-any cs rects those h p point = in_any-times rects p ∙ go (those p) (times rects p) (h p point)
  where
    go : (b : Bool) (n : ℕ) → n ≡ (if b then 1 else 0) → not (nat_eq n 0) ≡ b
    go true n e = grind (arith, nat_tests, e)
    go false n e = grind (arith, nat_tests, e)

those-once : (cs : List Column) (rects : List Rect) (those : Points) → AreThose cs rects those → (p : Row) → is_point cs p ≡ true → times rects p ≤ 1
those-once cs rects those h p point = go (those p) (h p point)
  where
    go : (b : Bool) → times rects p ≡ (if b then 1 else 0) → times rects p ≤ 1
    go true e = omega (arith, e)
    go false e = omega (arith, e)

-- the elements that pass a test, where each that has a property and passes has another
All-kept : (P Q : Row → Type 0) (test : Row → Bool) → ((row : Row) → P row → test row ≡ true → Q row) → (rows : List Row) → All P rows → All Q (filter test rows)
All-kept P Q test one [] all = All-nil Q
All-kept P Q test one (row ∷ rows) all = go (test row) refl (All-kept P Q test one rows (All-tail P row rows all))
  where
    go : (b : Bool) → test row ≡ b → All Q (filter test rows) → All Q (cond b (row ∷ filter test rows) (filter test rows))
    go true e ih = All-cons Q row (filter test rows) (one row (All-head P row rows all) e) ih
    go false e ih = ih

-- on the rows of points of the whole the test tells whether the point is one of those
abbrev pub TestsThose : List Column → ℕ → List Rect → Points → (Row → Bool) → Type 0
TestsThose cs attrs own those test = (p : Row) → is_point cs p ≡ true → in_any own p ≡ true → test (project attrs p) ≡ those p

row-kept : (cs : List Column) (attrs : ℕ) (own rects : List Rect) (those : Points) (test : Row → Bool)
    → list_all (rect_fits cs) own ≡ true → list_all (constrains_only attrs 0) own ≡ true → list_all (rect_fits cs) rects ≡ true → list_all (constrains_only attrs 0) rects ≡ true
    → AreThose cs rects those → TestsThose cs attrs own those test → (row : Row) → IsRowIn cs attrs own row → test row ≡ true → IsRowIn cs attrs rects row
row-kept cs attrs own rects those test fit only fits onlys are tests row h passes =
    let p = h.0.0 in let point = h.0.1 in let is = h.0.2 in
    let inside : in_any own p ≡ true = sym (is_in-point cs attrs own p fit only point) ∙ ap (is_in attrs own) is ∙ h.1 in
    let one : those p ≡ true = sym (tests p point inside) ∙ ap test is ∙ passes in
    (h.0, ap (is_in attrs rects) (sym is) ∙ is_in-point cs attrs rects p fits onlys point ∙ those-any cs rects those are p point ∙ one)

none-kept : (cs : List Column) (attrs : ℕ) (rows : List Row) → All (IsRowIn cs attrs []) rows → rows ≡ []
none-kept cs attrs [] all = refl
none-kept cs attrs (row ∷ rows) all = let one = All-head (IsRowIn cs attrs []) row rows all in let inside = one.1 in absurd (cc)

pub half-from : (t : Table) (whole : Region) (cut rects : List Rect) (those : Points) (test : Row → Bool) → IsRegion t whole → have_first t.columns ≡ true
    → list_all (constrains_only whole.attrs 0) (whole.rects ++ cut) ≡ true
    → AreThose t.columns rects those → AreCutFrom t.columns (whole.rects ++ cut) rects → TestsThose t.columns whole.attrs whole.rects those test
    → MaybeHalf t whole cut those test (half_of whole rects (filter test whole.rows))
half-from t whole cut [] those test h first only are cuts tests = (
  (λ p point. sym (those-any t.columns [] those are p point)),
  none-kept t.columns whole.attrs (filter test whole.rows)
      (All-kept (IsRowIn t.columns whole.attrs whole.rects) (IsRowIn t.columns whole.attrs []) test
      (row-kept t.columns whole.attrs whole.rects [] those test h.area.fit h.area.only refl refl are tests) whole.rows h.rows),
)
half-from t whole cut (r ∷ rects) those test h first only are cuts tests =
    let fits = are_fit t.columns (whole.rects ++ cut) (r ∷ rects) cuts in
    let onlys = cuts-only t.columns (whole.rects ++ cut) (r ∷ rects) whole.attrs cuts only in
    let some : r ∷ rects ≡ [] → ⊥ = λ e. cc in
    let point = has_point t.columns (r ∷ rects) some fits first in
    record {
      region = record {
        area = record {
          key = h.area.key;
          has_key = h.area.has_key;
          own = h.area.own;
          some = some;
          fit = fits;
          only = onlys;
          once = those-once t.columns (r ∷ rects) those are;
        };
        rows = All-kept (IsRowIn t.columns whole.attrs whole.rects) (IsRowIn t.columns whole.attrs (r ∷ rects)) test
            (row-kept t.columns whole.attrs whole.rects (r ∷ rects) those test h.area.fit h.area.only fits onlys are tests) whole.rows h.rows;
        ascending = ascend-filter (rank whole.attrs whole.key) test whole.rows h.ascending;
      };
      class = record { table = refl; key = refl; attrs = refl; stamp = refl };
      some = (point.0, point.1, sym (those-any t.columns (r ∷ rects) those are point.0 point.1) ∙ point.2);
      points = those-any t.columns (r ∷ rects) those are;
      rows = refl;
      cuts = cuts;
    }

-- a half does not depend on the rects of the whole
pub half-emptied : (whole : Region) (own rects : List Rect) (rows : List Row) → half_of (record whole { rects = own }) rects rows ≡ half_of whole rects rows
half-emptied whole own [] rows = refl
half-emptied whole own (r ∷ rects) rows = refl

pub inside-from : (t : Table) (whole : Region) (cut outside inside : List Rect) → IsRegion t whole → have_first t.columns ≡ true
    → list_all (rect_fits t.columns) cut ≡ true → list_all (constrains_only whole.attrs 0) cut ≡ true
    → IsMinus t.columns whole.rects cut outside → IsMinus t.columns whole.rects outside inside → AreCutFrom t.columns (whole.rects ++ cut) inside
    → IsInside t whole cut (half_of whole inside (filter (is_in whole.attrs cut) whole.rows))
inside-from t whole cut outside inside h first fit only minus more cuts =
    let own = h.area.only in
    half-from t whole cut inside (λ p. in_any whole.rects p && in_any cut p) (is_in whole.attrs cut) h first
    (list_all-append (constrains_only whole.attrs 0) whole.rects cut ∙ grind (arith, own, only))
    (inside-once t.columns whole.rects cut outside inside h.area.once minus more) cuts
    (λ p point is. is_in-point t.columns whole.attrs cut p fit only point ∙ grind (arith, is))

pub outside-from : (t : Table) (whole : Region) (cut outside : List Rect) → IsRegion t whole → have_first t.columns ≡ true
    → list_all (rect_fits t.columns) cut ≡ true → list_all (constrains_only whole.attrs 0) cut ≡ true
    → IsMinus t.columns whole.rects cut outside → AreCutFrom t.columns (whole.rects ++ cut) outside
    → IsOutside t whole cut (half_of whole outside (filter (λ row. not (is_in whole.attrs cut row)) whole.rows))
outside-from t whole cut outside h first fit only minus cuts =
    let own = h.area.only in
    half-from t whole cut outside (λ p. in_any whole.rects p && not (in_any cut p)) (λ row. not (is_in whole.attrs cut row)) h first
    (list_all-append (constrains_only whole.attrs 0) whole.rects cut ∙ grind (arith, own, only))
    (outside-once t.columns whole.rects cut outside h.area.once minus) cuts
    (λ p point is. ap not (is_in-point t.columns whole.attrs cut p fit only point) ∙ grind (arith, is))

-- ---- where nothing is outside

none-fails : (test : Row → Bool) (rows : List Row) → filter (λ row. not (test row)) rows ≡ [] → filter test rows ≡ rows
none-fails test [] none = refl
none-fails test (row ∷ rows) none = go (test row) none (none-fails test rows)
  where
    go : (b : Bool) → cond (not b) (row ∷ filter (λ row. not (test row)) rows) (filter (λ row. not (test row)) rows) ≡ []
        → (filter (λ row. not (test row)) rows ≡ [] → filter test rows ≡ rows) → cond b (row ∷ filter test rows) (filter test rows) ≡ row ∷ rows
    go true none ih = ap (λ all. row ∷ all) (ih none)
    go false none ih = absurd (cc)

pub none-outside : (t : Table) (whole : Region) (cut outside : List Rect) → IsRegion t whole → have_first t.columns ≡ true
    → list_all (rect_fits t.columns) cut ≡ true → list_all (constrains_only whole.attrs 0) cut ≡ true
    → IsMinus t.columns whole.rects cut outside → outside ≡ [] → IsOutside t whole cut None
none-outside t whole cut outside h first fit only minus none =
    outside-from t whole cut [] h first fit only (subst (IsMinus t.columns whole.rects cut) none minus) tt

pub all-inside : (t : Table) (whole : Region) (cut outside inside : List Rect) → IsRegion t whole → have_first t.columns ≡ true
    → list_all (rect_fits t.columns) cut ≡ true → list_all (constrains_only whole.attrs 0) cut ≡ true
    → IsMinus t.columns whole.rects cut outside → IsMinus t.columns whole.rects outside inside → AreCutFrom t.columns (whole.rects ++ cut) inside
    → outside ≡ [] → IsInside t whole cut (half_of whole inside whole.rows)
all-inside t whole cut outside inside h first fit only minus more cuts none =
    subst (λ rows. IsInside t whole cut (half_of whole inside rows))
    (none-fails (is_in whole.attrs cut) whole.rows (none-outside t whole cut outside h first fit only minus none).1)
    (inside-from t whole cut outside inside h first fit only minus more cuts)
