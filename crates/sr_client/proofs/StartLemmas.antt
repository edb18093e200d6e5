-- A client that starts from kept parts stands for the past of its start.
use Rattle.std.proofs.Common.{◌≡◌, ℕ, ℤ, pos, ◌+◌, ◌≤◌, ◌+ℤ◌, Bool, true, false, not, List, [], ◌∷◌, ◌++◌, map, length, refl, sym, ◌∙◌, ap, subst, Option, Some, None, arith, append-nil, append_assoc}
use Rattle.std.specs.Prelude.{◌&&◌, ◌||◌, ◌==◌, nat_le, int_lt, filter, flat_map, if◌then◌else◌}
use Rattle.std.specs.List.{list_all, All, AllByRecursion, Contains}
use Rattle.std.specs.Cmp.Derive.{both_true}
use Rattle.std.proofs.lemmas.Bool.{and_parts}
use Rattle.std.proofs.lemmas.Bool.Decides.{nat_tests}
use Rattle.std.proofs.lemmas.Grind.{flat_map-append}
use Rattle.std.proofs.lemmas.List.Concat.{flat_map-cons}
use Rattle.std.proofs.lemmas.List.Folds.{list_all-append}
use Rattle.std.proofs.lemmas.List.Elements.{All-nil, All-cons, All-contains, All-head, All-tail, All-weaker, All-map, filter-append}
use Rattle.sr_cell.specs.declared.cell.Cell.{Cell}
use Rattle.sr_cell.specs.declared.cell.Cell.TheVariants.{Null as NullCell}
use Rattle.sr_cell.specs.declared.table.Column.{Column}
use Rattle.sr_cell.specs.declared.table.Kind.{Kind}
use Rattle.sr_cell.specs.declared.table.Kind.TheVariants.{Num as Numbers, Str as Texts}
use Rattle.sr_cell.specs.declared.table.Table.{Table}
use Rattle.sr_cell.specs.Cells.{cell_eq, text_le}
use Rattle.sr_cell.specs.Columns.{table_at}
use Rattle.sr_box.specs.declared.span.Span.{Span}
use Rattle.sr_box.specs.declared.span.Span.TheVariants.{Full, Nums, Strs, Null}
use Rattle.sr_box.specs.Points.{Rect}
use Rattle.sr_box.specs.Corners.{cuts_of, end_cut, null_cut, num_cut, text_cut}
use Rattle.sr_union.specs.Grid.{is_among, first_cuts, others}
use Rattle.sr_union.proofs.Cuts.{is_among-append}
use Rattle.sr_bytes.specs.Spelling.{is_from_to}
use Rattle.sr_bytes.specs.Writing.{may_write_span, may_write_rect}
use Rattle.sr_lines.specs.Short.{is_short}
use Rattle.sr_model.specs.Conditions.{Cond, Tests, Ge}
use Rattle.sr_model.specs.Ends.{ends, places_of}
use Rattle.sr_model.specs.Queries.{Part, Query}
use Rattle.sr_history.specs.Ends.{CutsIn, part_ends, AllEndAmong}
use Rattle.sr_history.specs.Load.{parts_on}
use Rattle.sr_history.proofs.Ends.{more_parts_keep_ends}
use Rattle.sr_history.specs.Marks.{with_marks}
use Rattle.sr_model.specs.Statements.{Tables}
use Rattle.sr_policy.specs.declared.policy.Limits.{Limits}
use Rattle.sr_query.specs.Bound.{is_table}
use Rattle.sr_region.specs.declared.region.Region.{Region}
use Rattle.sr_store.specs.declared.start.Kept.{Kept}
use Rattle.sr_store.specs.declared.start.StoreStart.{StoreStart}
use Rattle.sr_store.specs.declared.store.Store.{Store}
use Rattle.sr_store.specs.Brought.{IsToldOf}
use Rattle.sr_store.specs.Fitted.{count_rows}
use Rattle.sr_store.specs.Laws.{FitsStill}
use Rattle.sr_store.specs.Starting.{region_of, regions_of, mark_of, AreLawful, IsStart, AreTrueParts, kept_rows}
use Rattle.sr_store.specs.Stores.{IsStore}
use Rattle.sr_store.specs.Told.{told_of, IsTrueOf}
use Rattle.sr_store.proofs.Fewer.{fitted_fit_still}
use Rattle.sr_store.proofs.Meeting.{fitted_meets_told_budgets}
use Rattle.sr_store.proofs.Starting.{parts_tell, regions-keep, regions-store, starts_are_classes, starts_are_true}
use Rattle.sr_client.specs.Cutting.{EndWith, RegionsEnd}
use Rattle.sr_client.specs.Stands.{Facts, HaveShortEnds, Hidden, IsClient, StandsFor}
use Rattle.sr_client.specs.Starting.{cut_tests, tested, start_query, MayBeWritten, AreStartMarks, start_client, start_past}
use Rattle.sr_client.proofs.NewLemmas.{no_query}

-- ---- rects are cut where their cuts are

-- all cuts of the rects are among the values; c is the number of the first column
abbrev HasCuts : (ℕ → List Cell) → ℕ → List Column → List Rect → Type 0
HasCuts values c [] rects = Unit {0}
HasCuts values c (column ∷ columns) rects = ((v : Cell) → is_among (first_cuts column rects) v ≡ true → is_among (values c) v ≡ true) × HasCuts values (c + 1) columns (others rects)

no-columns : (values : ℕ → List Cell) (c : ℕ) (rects : List Rect) → AllByRecursion (CutsIn values c []) rects
no-columns values c [] = tt
no-columns values c (r ∷ rects) = (tt, no-columns values c rects)

by-first : (values : ℕ → List Cell) (c : ℕ) (column : Column) (columns : List Column) (rects : List Rect) → ((v : Cell) → is_among (first_cuts column rects) v ≡ true → is_among (values c) v ≡ true)
    → AllByRecursion (CutsIn values (c + 1) columns) (others rects) → AllByRecursion (CutsIn values c (column ∷ columns)) rects
by-first values c column columns [] has rest = tt
by-first values c column columns ([] ∷ rects) has rest = (tt, by-first values c column columns rects has rest)
by-first values c column columns ((s ∷ r) ∷ rects) has rest = (
  ((λ v cut. has v (front v cut)), rest.0),
  by-first values c column columns rects (λ v later. has v (behind v later)) rest.1,
)
  where
    front : (v : Cell) → is_among (cuts_of column.kind column.lo column.hi column.nullable s) v ≡ true
        → is_among (cuts_of column.kind column.lo column.hi column.nullable s ++ first_cuts column rects) v ≡ true
    front v h = let e = is_among-append (cuts_of column.kind column.lo column.hi column.nullable s) (first_cuts column rects) v in grind (arith, e, h)

    behind : (v : Cell) → is_among (first_cuts column rects) v ≡ true → is_among (cuts_of column.kind column.lo column.hi column.nullable s ++ first_cuts column rects) v ≡ true
    behind v h = let e = is_among-append (cuts_of column.kind column.lo column.hi column.nullable s) (first_cuts column rects) v in grind (arith, e, h)

own-cuts : (values : ℕ → List Cell) (c : ℕ) (columns : List Column) (rects : List Rect) → HasCuts values c columns rects → AllByRecursion (CutsIn values c columns) rects
own-cuts values c [] rects has = no-columns values c rects
own-cuts values c (column ∷ columns) rects has = by-first values c column columns rects has.0 (own-cuts values (c + 1) columns (others rects) has.1)

has-more : (values more : ℕ → List Cell) → ((c : ℕ) (v : Cell) → is_among (values c) v ≡ true → is_among (more c) v ≡ true)
    → (c : ℕ) (columns : List Column) (rects : List Rect) → HasCuts values c columns rects → HasCuts more c columns rects
has-more values more m c [] rects has = tt
has-more values more m c (column ∷ columns) rects has = ((λ v h. m c v (has.0 v h)), has-more values more m (c + 1) columns (others rects) has.1)

-- ---- the tests end there

abbrev tests_ends : List Cond → ℕ → List Cell
tests_ends tests c = flat_map (λ test. ends c test) tests

-- a test of each value ends at it
at-values : (c : ℕ) (vs : List Cell) (v : Cell) → is_among vs v ≡ true → is_among (tests_ends (map (λ v. Tests c (Ge v)) vs) c) v ≡ true
at-values c [] v h = absurd cc
at-values c (u ∷ vs) v h =
    let same : (c == c) ≡ true = grind (arith, nat_tests) in
    let rest = tests_ends (map (λ v. Tests c (Ge v)) vs) c in
    let all : tests_ends (map (λ v. Tests c (Ge v)) (u ∷ vs)) c ≡ NullCell ∷ u ∷ rest =
    flat_map-cons (λ test. ends c test) (Tests c (Ge u)) (map (λ v. Tests c (Ge v)) vs) ∙ ap (λ b. (if b then places_of (Ge u) else []) ++ rest) same in
    ap (λ ws. is_among ws v) all ∙ go (cell_eq NullCell v) (cell_eq u v) h (at-values c vs v)
  where
    go : (a b : Bool) → (b || is_among vs v) ≡ true → (is_among vs v ≡ true → is_among (tests_ends (map (λ v. Tests c (Ge v)) vs) c) v ≡ true)
        → (a || (b || is_among (tests_ends (map (λ v. Tests c (Ge v)) vs) c) v)) ≡ true
    go true b h ih = refl
    go false true h ih = refl
    go false false h ih = ih h

-- of two lists of tests
ends-apart : (k : ℕ) (front rest : List Cond) (v : Cell) → is_among (tests_ends (front ++ rest) k) v ≡ (is_among (tests_ends front k) v || is_among (tests_ends rest k) v)
ends-apart k front rest v = ap (λ vs. is_among vs v) (flat_map-append (λ test. ends k test) front rest) ∙ is_among-append (tests_ends front k) (tests_ends rest k) v

ends-front : (c : ℕ) (vs : List Cell) (rest : List Cond) (v : Cell) → is_among vs v ≡ true → is_among (tests_ends (map (λ v. Tests c (Ge v)) vs ++ rest) c) v ≡ true
ends-front c vs rest v h =
    let e = ends-apart c (map (λ v. Tests c (Ge v)) vs) rest v in
    let own : is_among (tests_ends (map (λ v. Tests c (Ge v)) vs) c) v ≡ true = at-values c vs v h in
    grind (arith, e, own)

ends-behind : (k : ℕ) (front rest : List Cond) (v : Cell) → is_among (tests_ends rest k) v ≡ true → is_among (tests_ends (front ++ rest) k) v ≡ true
ends-behind k front rest v h = let e = ends-apart k front rest v in grind (arith, e, h)

tests-have : (c : ℕ) (columns : List Column) (rects : List Rect) → HasCuts (tests_ends (cut_tests c columns rects)) c columns rects
tests-have c [] rects = tt
tests-have c (column ∷ columns) rects = (
  (λ v h. ends-front c (first_cuts column rects) (cut_tests (c + 1) columns (others rects)) v h),
  has-more (tests_ends (cut_tests (c + 1) columns (others rects))) (tests_ends (cut_tests c (column ∷ columns) rects))
      (λ k v h. ends-behind k (map (λ v. Tests c (Ge v)) (first_cuts column rects)) (cut_tests (c + 1) columns (others rects)) v h) (c + 1) columns (others rects)
      (tests-have (c + 1) columns (others rects)),
)

-- ---- the rects of a part

abbrev part_of : Kept → Cond → Part
part_of k test = record { table = k.table; need = k.attrs; condition = test }

parts-tests : (k : Kept) (tests : List Cond) (c : ℕ) → part_ends (map (part_of k) tests) c ≡ tests_ends tests c
parts-tests k [] c = refl
parts-tests k (test ∷ tests) c =
    flat_map-cons (λ (part : Part). ends c part.condition) (part_of k test) (map (part_of k) tests)
    ∙ (ap (λ vs. ends c test ++ vs) (parts-tests k tests c) ∙ sym (flat_map-cons (λ t. ends c t) test tests))

-- they begin and end where the tests of its parts do
own-end : (schema : List Table) (k : Kept) → AllEndAmong (table_at schema k.table).columns (tested schema k) k.rects
own-end schema k =
    let columns = (table_at schema k.table).columns in
    let tests = cut_tests 0 columns k.rects in
    own-cuts (part_ends (tested schema k)) 0 columns k.rects
    (has-more (tests_ends tests) (part_ends (tested schema k)) (λ c v h. ap (λ vs. is_among vs v) (parts-tests k tests c) ∙ h) 0 columns k.rects (tests-have 0 columns k.rects))

abbrev is_on : ℕ → Part → Bool
is_on t part = part.table == t

all-on : (k : Kept) (tests : List Cond) → filter (is_on k.table) (map (part_of k) tests) ≡ map (part_of k) tests
all-on k [] = refl
all-on k (test ∷ tests) =
    let same : (k.table == k.table) ≡ true = grind (arith, nat_tests) in
    ap (λ b. if b then part_of k test ∷ filter (is_on k.table) (map (part_of k) tests) else filter (is_on k.table) (map (part_of k) tests)) same ∙ ap (λ ps. part_of k test ∷ ps) (all-on k tests)

-- with more parts before and behind
among-end : (schema : List Table) (k : Kept) (before behind : List Part) → AllEndAmong (table_at schema k.table).columns (filter (is_on k.table) (before ++ (tested schema k ++ behind))) k.rects
among-end schema k before behind =
    subst (λ ps. AllEndAmong (table_at schema k.table).columns ps k.rects)
    (sym (filter-append (is_on k.table) before (tested schema k ++ behind)
    ∙ ap (λ ps. filter (is_on k.table) before ++ ps) (filter-append (is_on k.table) (tested schema k) behind
    ∙ ap (λ ps. ps ++ filter (is_on k.table) behind) (all-on k (cut_tests 0 (table_at schema k.table).columns k.rects)))))
    (more_parts_keep_ends (table_at schema k.table).columns (filter (is_on k.table) before) (tested schema k) (filter (is_on k.table) behind) k.rects (own-end schema k))

abbrev EndsIn : List Table → List Part → Kept → Type 0
EndsIn schema parts k = AllEndAmong (table_at schema k.table).columns (filter (is_on k.table) parts) k.rects

kept-end : (schema : List Table) (before : List Part) (kept : List Kept) → All (EndsIn schema (before ++ flat_map (tested schema) kept)) kept
kept-end schema before [] = All-nil _
kept-end schema before (k ∷ kept) =
    let all : flat_map (tested schema) (k ∷ kept) ≡ tested schema k ++ flat_map (tested schema) kept = flat_map-cons (tested schema) k kept in
    subst (λ ps. All (EndsIn schema (before ++ ps)) (k ∷ kept)) (sym all)
    (All-cons (EndsIn schema (before ++ (tested schema k ++ flat_map (tested schema) kept))) k kept (among-end schema k before (flat_map (tested schema) kept))
    (subst (λ ps. All (EndsIn schema ps) kept) (append_assoc before (tested schema k) (flat_map (tested schema) kept)) (kept-end schema (before ++ tested schema k) kept)))

-- the regions of the parts are cut where the start's tests end
start-end : (schema : List Table) (kept : List Kept) → RegionsEnd schema (start_query schema kept ∷ []) (regions_of schema kept)
start-end schema kept =
    All-map (λ (g : Region). EndWith schema (start_query schema kept ∷ []) g.table g.rects) (region_of schema) kept
    (All-weaker (EndsIn schema (flat_map (tested schema) kept)) (λ k. EndWith schema (start_query schema kept ∷ []) k.table k.rects)
    (λ k e. subst (λ ps. AllEndAmong (table_at schema k.table).columns (filter (is_on k.table) ps) k.rects) (sym (append-nil (flat_map (tested schema) kept))) e) kept (kept-end schema [] kept))

-- ---- at short texts

texts-short : (lo : List ℕ) (hi : Option (List ℕ)) → may_write_span (Strs lo hi) ≡ true → list_all (is_short 121) (text_cut lo ++ end_cut hi) ≡ true
texts-short [] None may = refl
texts-short (b ∷ lo) None may = both_true may refl
texts-short [] (Some hi) may =
    both_true (and_parts (nat_le 0 121) (nat_le (length hi) 121) (and_parts (nat_le 0 121 && nat_le (length hi) 121) (not (text_le hi [])) may).0).1 refl
texts-short (b ∷ lo) (Some hi) may =
    let two = and_parts (nat_le (length (b ∷ lo)) 121) (nat_le (length hi) 121) (and_parts (nat_le (length (b ∷ lo)) 121 && nat_le (length hi) 121) (not (text_le hi (b ∷ lo))) may).0 in
    both_true two.0 (both_true two.1 refl)

null-short : (nullable : Bool) (vs : List Cell) → list_all (is_short 121) vs ≡ true → list_all (is_short 121) (null_cut nullable ++ vs) ≡ true
null-short true vs short = short
null-short false vs short = short

cuts-short : (k : Kind) (low high : ℤ) (nullable : Bool) (s : Span) → may_write_span s ≡ true → list_all (is_short 121) (cuts_of k low high nullable s) ≡ true
cuts-short Numbers low high nullable Full may = refl
cuts-short Texts low high nullable Full may = refl
cuts-short Numbers low high nullable (Strs lo hi) may = refl
cuts-short Texts low high nullable (Nums lo hi) may = refl
cuts-short Numbers low high true Null may = refl
cuts-short Numbers low high false Null may = refl
cuts-short Texts low high true Null may = refl
cuts-short Texts low high false Null may = refl
cuts-short Texts low high nullable (Strs lo hi) may = null-short nullable (text_cut lo ++ end_cut hi) (texts-short lo hi may)
cuts-short Numbers low high nullable (Nums lo hi) may = null-short nullable (num_cut (int_lt low lo) lo ++ num_cut (int_lt hi high) (hi +ℤ pos 1)) (by (int_lt low lo) (int_lt hi high))
  where
    by : (a b : Bool) → list_all (is_short 121) (num_cut a lo ++ num_cut b (hi +ℤ pos 1)) ≡ true
    by true true = refl
    by true false = refl
    by false true = refl
    by false false = refl

abbrev may_write_spans : Rect → Bool
may_write_spans r = list_all may_write_span r

firsts-short : (column : Column) (rects : List Rect) → list_all may_write_spans rects ≡ true → list_all (is_short 121) (first_cuts column rects) ≡ true
firsts-short column [] may = refl
firsts-short column ([] ∷ rects) may = firsts-short column rects may
firsts-short column ((s ∷ r) ∷ rects) may =
    let two = and_parts (may_write_span s && may_write_spans r) (list_all may_write_spans rects) may in
    list_all-append (is_short 121) (cuts_of column.kind column.lo column.hi column.nullable s) (first_cuts column rects)
    ∙ both_true (cuts-short column.kind column.lo column.hi column.nullable s (and_parts (may_write_span s) (may_write_spans r) two.0).0) (firsts-short column rects two.1)

others-may : (rects : List Rect) → list_all may_write_spans rects ≡ true → list_all may_write_spans (others rects) ≡ true
others-may [] may = refl
others-may ([] ∷ rects) may = others-may rects may
others-may ((s ∷ r) ∷ rects) may =
    let two = and_parts (may_write_span s && may_write_spans r) (list_all may_write_spans rects) may in
    both_true (and_parts (may_write_span s) (may_write_spans r) two.0).1 (others-may rects two.1)

-- the test ends at short texts
abbrev IsShortTest : Cond → Type 0
IsShortTest test = (c : ℕ) → list_all (is_short 121) (ends c test) ≡ true

values-short : (c : ℕ) (vs : List Cell) → list_all (is_short 121) vs ≡ true → AllByRecursion IsShortTest (map (λ v. Tests c (Ge v)) vs)
values-short c [] short = tt
values-short c (v ∷ vs) short =
    let two = and_parts (is_short 121 v) (list_all (is_short 121) vs) short in
    ((λ k. go (c == k) two.0), values-short c vs two.1)
  where
    go : (b : Bool) → is_short 121 v ≡ true → list_all (is_short 121) (if b then places_of (Ge v) else []) ≡ true
    go true own = both_true own refl
    go false own = refl

all-append : (P : Cond → Type 0) (xs ys : List Cond) → AllByRecursion P xs → AllByRecursion P ys → AllByRecursion P (xs ++ ys)
all-append P [] ys a b = b
all-append P (x ∷ xs) ys a b = (a.0, all-append P xs ys a.1 b)

tests-short : (c : ℕ) (columns : List Column) (rects : List Rect) → list_all may_write_spans rects ≡ true → AllByRecursion IsShortTest (cut_tests c columns rects)
tests-short c [] rects may = tt
tests-short c (column ∷ columns) rects may =
    all-append IsShortTest (map (λ v. Tests c (Ge v)) (first_cuts column rects)) (cut_tests (c + 1) columns (others rects))
    (values-short c (first_cuts column rects) (firsts-short column rects may)) (tests-short (c + 1) columns (others rects) (others-may rects may))

spans-of : (rects : List Rect) → list_all may_write_rect rects ≡ true → list_all may_write_spans rects ≡ true
spans-of [] may = refl
spans-of (r ∷ rects) may =
    let two = and_parts (may_write_rect r) (list_all may_write_rect rects) may in
    both_true (and_parts (is_from_to 1 12 (length r)) (may_write_spans r) two.0).1 (spans-of rects two.1)

abbrev IsShortPart : Part → Type 0
IsShortPart part = IsShortTest part.condition

parts-append : (xs ys : List Part) → AllByRecursion IsShortPart xs → AllByRecursion IsShortPart ys → AllByRecursion IsShortPart (xs ++ ys)
parts-append [] ys a b = b
parts-append (x ∷ xs) ys a b = (a.0, parts-append xs ys a.1 b)

tested-short : (k : Kept) (tests : List Cond) → AllByRecursion IsShortTest tests → AllByRecursion IsShortPart (map (part_of k) tests)
tested-short k [] short = tt
tested-short k (test ∷ tests) short = (short.0, tested-short k tests short.1)

all-short : (schema : List Table) (kept : List Kept) → MayBeWritten kept → AllByRecursion IsShortPart (flat_map (tested schema) kept)
all-short schema [] may = tt
all-short schema (k ∷ kept) may =
    subst (AllByRecursion IsShortPart) (sym (flat_map-cons (tested schema) k kept))
    (parts-append (tested schema k) (flat_map (tested schema) kept)
    (tested-short k (cut_tests 0 (table_at schema k.table).columns k.rects) (tests-short 0 (table_at schema k.table).columns k.rects (spans-of k.rects (All-head (λ (x : Kept). list_all may_write_rect x.rects ≡ true) k kept may))))
    (all-short schema kept (All-tail (λ (x : Kept). list_all may_write_rect x.rects ≡ true) k kept may)))

some-short : (test : Part → Bool) (parts : List Part) → AllByRecursion IsShortPart parts → AllByRecursion IsShortPart (filter test parts)
some-short test [] short = tt
some-short test (part ∷ parts) short = go (test part) (some-short test parts short.1)
  where
    go : (b : Bool) → AllByRecursion IsShortPart (filter test parts) → AllByRecursion IsShortPart (if b then part ∷ filter test parts else filter test parts)
    go true rest = (short.0, rest)
    go false rest = rest

ends-short : (parts : List Part) (c : ℕ) → AllByRecursion IsShortPart parts → list_all (is_short 121) (part_ends parts c) ≡ true
ends-short [] c short = refl
ends-short (part ∷ parts) c short =
    ap (list_all (is_short 121)) (flat_map-cons (λ (x : Part). ends c x.condition) part parts)
    ∙ (list_all-append (is_short 121) (ends c part.condition) (part_ends parts c) ∙ both_true (short.0 c) (ends-short parts c short.1))

start-short : (schema : List Table) (kept : List Kept) → MayBeWritten kept → HaveShortEnds (start_query schema kept ∷ [])
start-short schema kept may t c =
    ends-short (parts_on t (start_query schema kept ∷ [])) c
    (some-short (is_on t) (flat_map (λ (q : Query). q.parts) (start_query schema kept ∷ []))
    (subst (AllByRecursion IsShortPart) (sym (append-nil (flat_map (tested schema) kept))) (all-short schema kept may)))

-- ---- the client

module _ (id : ℕ) (schema : List Table) (limits : Limits) (version : ℕ) (kept : List Kept) (start : StoreStart) (tables : list_all is_table schema ≡ true) (lawful : AreLawful schema kept)
    (is : IsStart schema limits kept start) where
  abbrev known : Hidden
  known = record { marks = with_marks [] start.marks; queries = []; counted_from = record { start = start_query schema kept ∷ []; from = 0 }; meaning = no_query }

  still : FitsStill schema limits (regions_of schema kept) start.store.regions
  still = fitted_fit_still schema limits [] (regions_of schema kept) start.store.regions is.drops is.fitted

  start-facts : MayBeWritten kept → IsStore schema start.store.regions → Facts (start_client id schema limits version start.store) known
  start-facts may store =
      record {
        tables = tables;
        tidy = refl;
        down = λ down. refl;
        meant = tt;
        fit = tt;
        store = store;
        settled = λ yes. absurd (let wrong : false ≡ true = sym (ap (λ (s : Store). s.settled) is.store) ∙ yes in cc);
        keeps = starts_are_classes schema limits kept start tables lawful is;
        queries = refl;
        last = ap (λ (s : Store). s.last) is.store;
        rows = subst (λ (l : Limits). count_rows start.store.regions ≤ l.rows) (sym (ap (λ (s : Store). s.limits) is.store)) still.rows;
        few = subst (λ (l : Limits). length start.store.regions ≤ l.regions) (sym (ap (λ (s : Store). s.limits) is.store)) still.regions;
        from = omega arith;
        short = start-short schema kept may;
        ends = All-weaker (Contains (regions_of schema kept)) (λ (g : Region). EndWith schema (start_query schema kept ∷ []) g.table g.rects)
            (λ g some. All-contains (λ (g : Region). EndWith schema (start_query schema kept ∷ []) g.table g.rects) (regions_of schema kept) g (start-end schema kept) some) start.store.regions still.some;
      }

  pub start-stands : MayBeWritten kept → IsStore schema start.store.regions → StandsFor (start_past schema version kept start.marks) (start_client id schema limits version start.store)
  start-stands may store = (known, start-facts may store, refl)

  pub start-over : MayBeWritten kept → IsStore schema start.store.regions → (rows : Tables) → AreTrueParts (told_of rows) kept
      → IsClient (start_client id schema limits version start.store) (start_past schema version kept start.marks) rows
  start-over may store rows are = record { hidden = known; facts = start-facts may store; same = refl; are_true = starts_are_true schema limits kept start (told_of rows) is are }

  -- by the rows of the parts
  tell : IsToldOf schema (kept_rows kept) (regions_of schema kept)
  tell = parts_tell schema kept tables lawful

  pub start-told : IsToldOf schema (kept_rows kept) start.store.regions
  start-told = (
    tell.0,
    All-weaker (Contains (regions_of schema kept)) (IsTrueOf (kept_rows kept)) (λ g some. All-contains (IsTrueOf (kept_rows kept)) (regions_of schema kept) g tell.1 some) start.store.regions still.some,
  )

  pub start-marks : AreStartMarks schema limits kept start.marks
  start-marks = record {
    drops = is.drops;
    budgets = fitted_meets_told_budgets schema (kept_rows kept) limits (with_marks [] (map mark_of kept)) [] [] (regions_of schema kept) start.store.regions is.drops tables tell.0
        (regions-store schema kept lawful) (regions-keep schema kept lawful) tell.1 refl is.fitted;
    all = is.marks;
  }
