-- A query made of its parts, joins and outputs.
use Rattle.std.proofs.Common.{◌≡◌, ℕ, List, [], ◌∷◌, map, refl, ap, ◌∙◌}
use Rattle.std.specs.Prelude.{Ok}
use Rattle.std.specs.List.{AllZip}
use Rattle.sr_cell.specs.declared.table.Table.{Table}
use Rattle.sr_model.specs.Queries as model
use Rattle.sr_query.specs.declared.condition.Output.{Output}
use Rattle.sr_query.specs.declared.condition.Condition.{Condition}
use Rattle.sr_query.specs.declared.query.KeyJoin.{KeyJoin}
use Rattle.sr_query.specs.declared.query.Part.{Part}
use Rattle.sr_query.specs.Binding.{Bound, each, named_columns, parts_from}
use Rattle.sr_query.specs.Bound.{output_of, IsJoin, IsQuery}
use Rattle.sr_query.specs.Meant.{meant}
use Rattle.sr_resolve.specs.Joined.{join_of}
use Rattle.sr_bind.specs.Narrow.{AreNarrow}
use Rattle.sr_bind.specs.OneTable.{one_table, done}
use Rattle.sr_bind.specs.Queried.{queried}

are_joins : (schema : List Table) (tables : List ℕ) (js : List KeyJoin) → AllZip IsJoin js (map (join_of schema tables) js)
are_joins schema tables [] = tt
are_joins schema tables (j ∷ js) = (record { left = refl; column = refl; right = refl }, are_joins schema tables js)

pub asked : (schema : List Table) (tables : List ℕ) (columns : List model.Output) (js : List KeyJoin) (os : List Output) (bs : List Bound) (parts : List Part)
    → each one_table bs ≡ Ok (done bs) → columns ≡ named_columns (map output_of os) (map (join_of schema tables) js) bs → AreNarrow schema (Ok parts) (parts_from schema 0 tables columns bs)
    → (meaning : model.Query) × (queried schema tables (map (join_of schema tables) js) (map output_of os) bs ≡ Ok meaning) × IsQuery schema (record { parts = parts; joins = js; output = os }) meaning
asked schema tables columns js os bs parts apart named narrow = (
  record { parts = parts_from schema 0 tables columns bs; joins = map (join_of schema tables) js; outputs = map output_of os },
  rw (apart, ← named, narrow.0) refl,
  record { parts = narrow.1; joins = are_joins schema tables js; outputs = refl },
)

-- the columns that the query names, of the same lists
pub same_named : (schema : List Table) (tables : List ℕ) (os outputs : List Output) (js joins : List KeyJoin) (cs conjuncts : List Condition) (found named : List Output)
    → os ≡ outputs → js ≡ joins → cs ≡ conjuncts → found ≡ named
    → map output_of named ≡ named_columns (map output_of os) (map (join_of schema tables) js) (map meant cs)
    → map output_of found ≡ named_columns (map output_of outputs) (map (join_of schema tables) joins) (map meant conjuncts)
same_named schema tables os outputs js joins cs conjuncts found named a b d e h = ap (map output_of) e ∙ h ∙ rw (a, b, d) refl
