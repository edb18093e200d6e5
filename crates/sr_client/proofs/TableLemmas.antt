-- Tables, and stores without regions.
use Rattle.std.proofs.Common.{◌≡◌, zero, suc, true, List, [], ◌∷◌, refl, arith}
use Rattle.std.specs.List.{list_all}
use Rattle.std.proofs.lemmas.List.Elements.{All-nil}
use Rattle.sr_cell.specs.declared.table.Table.{Table}
use Rattle.sr_model.specs.Statements.{Tables}
use Rattle.sr_query.specs.Bound.{is_table}
use Rattle.sr_trim.proofs.Tables.{table_first}
use Rattle.sr_region.specs.Applied.{AreTables}
use Rattle.sr_store.specs.Told.{told_of, IsTold}
use Rattle.sr_store.specs.Stores.{IsStore}
use Rattle.sr_client.proofs.Renewal.{HaveFirst}
use Rattle.sr_client.proofs.ToldLemmas.{is-told}

pub have-first : (schema : List Table) → list_all is_table schema ≡ true → HaveFirst schema
have-first [] h t = refl
have-first (table ∷ schema) h zero = table_first table (grind (arith, h))
have-first (table ∷ schema) h (suc t) = have-first schema (grind (arith, h)) t

-- tables of points by key are a telling
pub are-told : (schema : List Table) (tables : Tables) → AreTables schema tables → IsTold schema (told_of tables)
are-told schema tables are = is-told schema tables are.points are.ascending

-- a store without regions
pub no-store : (schema : List Table) → IsStore schema []
no-store schema = record {
  each = All-nil _;
  order = refl;
  once = λ t a p point. omega arith;
  keys = λ t a k. omega arith;
  few = omega arith;
}
