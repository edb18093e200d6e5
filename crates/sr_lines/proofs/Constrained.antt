-- The rects of a sound part constrain no columns but those that it needs.
use Rattle.std.proofs.Common.{◌≡◌, ℕ, ◌+◌, Bool, true, false, List, [], ◌∷◌, ◌++◌, refl, sym, subst, ◌∙◌, arith, eqb-true}
use Rattle.std.specs.Prelude.{◌==◌, ◌&&◌, ◌||◌, nat_lt, length, if◌then◌else◌}
use Rattle.std.specs.List.{list_all, AllByRecursion}
use Rattle.std.specs.Cmp.Derive.{both_true}
use Rattle.std.proofs.lemmas.Bool.{and_parts}
use Rattle.std.proofs.lemmas.List.Folds.{list_any-append}
use Rattle.sr_cell.specs.declared.cell.Cell.{Cell}
use Rattle.sr_cell.specs.declared.table.Column.{Column}
use Rattle.sr_cell.specs.Cells.{cell_eq}
use Rattle.sr_cell.specs.Columns.{table_at}
use Rattle.sr_cell.specs.Attrs.{has_column}
use Rattle.sr_box.specs.declared.span.Span.TheVariants.{Full, Nums, Strs, Null}
use Rattle.sr_box.specs.Spans.{fits_kind}
use Rattle.sr_box.specs.Points.{Rect, rect_fits, constrains_only}
use Rattle.sr_union.specs.Grid.{is_among}
use Rattle.sr_model.specs.Conditions.{Cond, Conds, Tests, And, Or, Not, none, more}
use Rattle.sr_model.specs.Ends.{places_of, ends, all_ends}
use Rattle.sr_union.proofs.SpanCuts.{numbers_cut, texts_cut, null_has_cut}
use Rattle.sr_query.specs.Bound.{EndsWithTests}
use Rattle.sr_lines.specs.Sound.{columns_in, all_columns_in, RectsConstrainNeeded}

-- ---- a constraint that fits its column has a cut

-- ---- a column that has an end is tested

among_append : (v : Cell) (us vs : List Cell) → is_among (us ++ vs) v ≡ (is_among us v || is_among vs v)
among_append v us vs = list_any-append (λ u. cell_eq u v) us vs

mutual
  tested : (attrs c : ℕ) (d : Cond) (v : Cell) → columns_in attrs d ≡ true → is_among (ends c d) v ≡ true → has_column attrs c ≡ true
  tested attrs c (Tests column t) v all among = go (column == c) refl among
    where
      go : (b : Bool) → (column == c) ≡ b → is_among (if b then places_of t else []) v ≡ true → has_column attrs c ≡ true
      go true is among = subst (λ z. has_column attrs z ≡ true) (eqb-true column c is) all
      go false is among = absurd cc
  tested attrs c (And ds) v all among = members_tested attrs c ds v all among
  tested attrs c (Or ds) v all among = members_tested attrs c ds v all among
  tested attrs c (Not d) v all among = tested attrs c d v all among

  members_tested : (attrs c : ℕ) (ds : Conds) (v : Cell) → all_columns_in attrs ds ≡ true → is_among (all_ends c ds) v ≡ true → has_column attrs c ≡ true
  members_tested attrs c none v all among = absurd cc
  members_tested attrs c (more d ds) v all among =
      let p = and_parts (columns_in attrs d) (all_columns_in attrs ds) all in
      go (is_among (ends c d) v) refl (tested attrs c d v p.0) (members_tested attrs c ds v p.1) (sym (among_append v (ends c d) (all_ends c ds)) ∙ among)
    where
      go : (b : Bool) → is_among (ends c d) v ≡ b → (is_among (ends c d) v ≡ true → has_column attrs c ≡ true) → (is_among (all_ends c ds) v ≡ true → has_column attrs c ≡ true)
          → (b || is_among (all_ends c ds) v) ≡ true → has_column attrs c ≡ true
      go true is first others among = first is
      go false is first others among = others among

-- ---- rects

one_only : (attrs c : ℕ) (columns : List Column) (condition : Cond) (r : Rect) → columns_in attrs condition ≡ true → rect_fits columns r ≡ true → EndsWithTests c columns condition r → constrains_only attrs c r ≡ true
one_only attrs c [] condition [] all fits at_tests = refl
one_only attrs c [] condition (s ∷ r) all fits at_tests = absurd (grind arith)
one_only attrs c (k ∷ columns) condition [] all fits at_tests = refl
one_only attrs c (k ∷ columns) condition (Full ∷ r) all fits at_tests = one_only attrs (c + 1) columns condition r all (grind arith) at_tests.1
one_only attrs c (k ∷ columns) condition (Nums lo hi ∷ r) all fits at_tests =
    let p = and_parts (fits_kind k.kind k.lo k.hi k.nullable (Nums lo hi)) (rect_fits columns r) fits in
    let cut = numbers_cut k.kind k.lo k.hi k.nullable lo hi p.0 in
    both_true (tested attrs c condition cut.0 all (at_tests.0 cut.0 cut.1)) (one_only attrs (c + 1) columns condition r all p.1 at_tests.1)
one_only attrs c (k ∷ columns) condition (Strs lo hi ∷ r) all fits at_tests =
    let p = and_parts (fits_kind k.kind k.lo k.hi k.nullable (Strs lo hi)) (rect_fits columns r) fits in
    let cut = texts_cut k.kind k.lo k.hi k.nullable lo hi p.0 in
    both_true (tested attrs c condition cut.0 all (at_tests.0 cut.0 cut.1)) (one_only attrs (c + 1) columns condition r all p.1 at_tests.1)
one_only attrs c (k ∷ columns) condition (Null ∷ r) all fits at_tests =
    let p = and_parts (fits_kind k.kind k.lo k.hi k.nullable Null) (rect_fits columns r) fits in
    let cut = null_has_cut k.kind k.lo k.hi k.nullable p.0 in
    both_true (tested attrs c condition cut.0 all (at_tests.0 cut.0 cut.1)) (one_only attrs (c + 1) columns condition r all p.1 at_tests.1)

all_only : (attrs : ℕ) (columns : List Column) (condition : Cond) (rects : List Rect) → columns_in attrs condition ≡ true → list_all (rect_fits columns) rects ≡ true → AllByRecursion (EndsWithTests 0 columns condition) rects
    → list_all (constrains_only attrs 0) rects ≡ true
all_only attrs columns condition [] all fits at_tests = refl
all_only attrs columns condition (r ∷ rects) all fits at_tests =
    let p = and_parts (rect_fits columns r) (list_all (rect_fits columns) rects) fits in
    both_true (one_only attrs 0 columns condition r all p.0 at_tests.0) (all_only attrs columns condition rects all p.1 at_tests.1)

pub rects_constrain_needed : RectsConstrainNeeded
rects_constrain_needed schema p meaning is sound =
    let key = nat_lt meaning.table (length schema) && has_column meaning.need (table_at schema meaning.table).key in
    let w = and_parts (key && columns_in meaning.need meaning.condition) _ sound in
    let s = and_parts key (columns_in meaning.need meaning.condition) w.0 in
    subst (λ attrs. list_all (constrains_only attrs 0) p.rects ≡ true) (sym is.need)
    (all_only meaning.need (table_at schema meaning.table).columns meaning.condition p.rects s.1 is.rects.fits is.rects.ends)
