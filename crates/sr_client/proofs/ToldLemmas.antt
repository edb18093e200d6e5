-- Rows of some columns of a table, in rects and by key.
use Rattle.std.proofs.Common.{◌≡◌, ℕ, true, false, cond, List, [], ◌∷◌, min, refl, ap, ◌∙◌, arith, zero, suc}
use Rattle.std.specs.Prelude.{Bool, ◌&&◌, bit_and, filter, map}
use Rattle.std.specs.List.{list_all, All}
use Rattle.std.specs.Int.{bit_at}
use Rattle.std.proofs.lemmas.Bool.Decides.{nat_tests}
use Rattle.std.proofs.lemmas.Nat.Bits.{bit_at_and, bit_at-lt, same_from_bits}
use Rattle.std.proofs.lemmas.List.Elements.{All-nil, All-cons}
use Rattle.sr_cell.specs.declared.table.Column.{Column}
use Rattle.sr_cell.specs.declared.table.Table.{Table}
use Rattle.sr_cell.specs.Attrs.{has_column, includes, project}
use Rattle.sr_cell.specs.Cells.{Row}
use Rattle.sr_cell.specs.Columns.{table_at, is_point}
use Rattle.sr_box.specs.Points.{Rect, in_any, rect_fits, constrains_only}
use Rattle.sr_model.specs.SortedRows.{ascend}
use Rattle.sr_model.specs.Statements.{Tables}
use Rattle.sr_model.specs.Queries.{rows_at}
use Rattle.sr_region.specs.Regions.{is_in, IsPart}
use Rattle.sr_region.proofs.Ranks.{ascend-project}
use Rattle.sr_store.specs.Told.{told_of, IsTold}
use Rattle.sr_store.proofs.Noticing.{told-in}

-- ---- sets of columns

-- a set that has each column of another includes it
pub includes-each : (a b : ℕ) → ((c : ℕ) → has_column b c ≡ true → has_column a c ≡ true) → includes a b ≡ true
includes-each a b each = let same : bit_and a b ≡ b = same_from_bits (bit_and a b) b one in grind (arith, nat_tests, same)
  where
    one : (c : ℕ) → bit_at (bit_and a b) c ≡ bit_at b c
    one c = bit_at_and a b c ∙ by (bit_at b c) refl
      where
        by : (n : ℕ) → bit_at b c ≡ n → min (bit_at a c) n ≡ n
        by zero is = omega arith
        by (suc zero) is =
            let has : has_column b c ≡ true = grind (arith, nat_tests, is) in
            let more = each c has in
            let same : bit_at a c ≡ 1 = grind (arith, nat_tests, more) in
            omega (arith, same)
        by (suc (suc n)) is = absurd (omega (arith, is, bit_at-lt b c))

-- ---- rows

filter-filter : (f g : Row → Bool) (rows : List Row) → filter g (filter f rows) ≡ filter (λ row. f row && g row) rows
filter-filter f g [] = refl
filter-filter f g (row ∷ rows) = go (f row) (filter-filter f g rows)
  where
    go : (b : Bool) → filter g (filter f rows) ≡ filter (λ row. f row && g row) rows
        → filter g (cond b (row ∷ filter f rows) (filter f rows)) ≡ cond (b && g row) (row ∷ filter (λ row. f row && g row) rows) (filter (λ row. f row && g row) rows)
    go true ih = rw ih refl
    go false ih = ih

all-kept : (test keep : Row → Bool) (rows : List Row) → list_all test rows ≡ true → list_all test (filter keep rows) ≡ true
all-kept test keep [] h = refl
all-kept test keep (row ∷ rows) h = go (keep row) (all-kept test keep rows (grind arith))
  where
    go : (b : Bool) → list_all test (filter keep rows) ≡ true → list_all test (cond b (row ∷ filter keep rows) (filter keep rows)) ≡ true
    go true ih = grind (arith, ih)
    go false ih = ih

-- the rows of a telling in two lists of rects
pub told-both : (cs : List Column) (a : ℕ) (one two : List Rect) (rows : List Row) → list_all (rect_fits cs) one ≡ true → list_all (constrains_only a 0) one ≡ true
    → list_all (rect_fits cs) two ≡ true → list_all (constrains_only a 0) two ≡ true → list_all (is_point cs) rows ≡ true
    → filter (is_in a two) (filter (is_in a one) (map (project a) rows)) ≡ map (project a) (filter (λ p. in_any one p && in_any two p) rows)
told-both cs a one two rows fit only fits onlys points =
    ap (filter (is_in a two)) (told-in cs a one rows fit only points)
    ∙ told-in cs a two (filter (in_any one) rows) fits onlys (all-kept (is_point cs) (in_any one) rows points)
    ∙ ap (map (project a)) (filter-filter (in_any one) (in_any two) rows)

-- ---- a telling

are-parts : (cs : List Column) (a : ℕ) (rows : List Row) → list_all (is_point cs) rows ≡ true → All (IsPart cs a) (map (project a) rows)
are-parts cs a [] points = All-nil (IsPart cs a)
are-parts cs a (p ∷ rows) points = All-cons (IsPart cs a) (project a p) (map (project a) rows) (p, grind arith, refl) (are-parts cs a rows (grind arith))

-- rows by key that are points give a telling
pub is-told : (schema : List Table) (tables : Tables) → ((t : ℕ) → list_all (is_point (table_at schema t).columns) (rows_at tables t) ≡ true)
    → ((t : ℕ) → ascend (table_at schema t).key (rows_at tables t) ≡ true) → IsTold schema (told_of tables)
is-told schema tables points order = record {
  rows = λ t a. are-parts (table_at schema t).columns a (rows_at tables t) (points t);
  ascending = λ t a has. ascend-project a (table_at schema t).key (rows_at tables t) has ∙ order t;
}
