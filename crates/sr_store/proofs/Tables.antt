-- The columns of the tables of a schema have a first value, and lie far inside.
use Rattle.std.proofs.Common.{◌≡◌, ℕ, ◌+◌, zero, suc, Bool, true, false, List, [], ◌∷◌, refl, arith}
use Rattle.std.specs.Prelude.{not, ◌&&◌, Some, None, if◌then◌else◌}
use Rattle.std.specs.List.{list_all}
use Rattle.sr_cell.specs.declared.table.Column.{Column}
use Rattle.sr_cell.specs.declared.table.Table.{Table}
use Rattle.sr_cell.specs.Names.{is_bad_domain, bad_domain_from}
use Rattle.sr_cell.specs.Columns.{table_at}
use Rattle.sr_box.specs.Corners.{have_first}
use Rattle.sr_union.specs.Grid.{all_inner}
use Rattle.sr_union.proofs.Domains.{good-inner}
use Rattle.sr_query.specs.Bound.{is_table}

no-bad : (columns : List Column) (n : ℕ) → list_all (λ c. not (is_bad_domain c)) columns ≡ true → bad_domain_from n columns ≡ None
no-bad [] n good = refl
no-bad (c ∷ columns) n good = go (is_bad_domain c) (no-bad columns (n + 1)) good
  where
    go : (b : Bool) → (list_all (λ c. not (is_bad_domain c)) columns ≡ true → bad_domain_from (n + 1) columns ≡ None) → (not b && list_all (λ c. not (is_bad_domain c)) columns) ≡ true → (if b then Some n else bad_domain_from (n + 1) columns) ≡ None
    go true ih e = absurd (cc)
    go false ih e = ih e

table-good : (table : Table) → is_table table ≡ true → (all_inner table.columns ≡ true) × (have_first table.columns ≡ true)
table-good table is = good-inner table.columns 0 (no-bad table.columns 0 (grind arith))

tables-good : (schema : List Table) (t : ℕ) → list_all is_table schema ≡ true → (all_inner (table_at schema t).columns ≡ true) × (have_first (table_at schema t).columns ≡ true)
tables-good [] t are = (refl, refl)
tables-good (table ∷ schema) zero are = table-good table (grind arith)
tables-good (table ∷ schema) (suc t) are = tables-good schema t (grind arith)

pub tables_inner : (schema : List Table) (t : ℕ) → list_all is_table schema ≡ true → all_inner (table_at schema t).columns ≡ true
tables_inner schema t are = (tables-good schema t are).0

pub tables_first : (schema : List Table) (t : ℕ) → list_all is_table schema ≡ true → have_first (table_at schema t).columns ≡ true
tables_first schema t are = (tables-good schema t are).1
