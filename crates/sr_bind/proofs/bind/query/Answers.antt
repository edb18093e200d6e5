use Rattle.std.proofs.Common.{◌≡◌, List, Ok, length, map, sym, subst}
use Rattle.std.specs.Prelude.{IsTrue}
use Rattle.std.specs.List.{list_all}
use Rattle.std.proofs.lemmas.Bool.{and_parts}
use Rattle.sr_model.specs.Queries as model
use Rattle.sr_query.specs.declared.query.KeyJoin.{KeyJoin}
use Rattle.sr_query.specs.declared.condition.Condition.{Condition}
use Rattle.sr_query.specs.Binding.{each}
use Rattle.sr_query.specs.Bound.{is_table, output_of}
use Rattle.sr_query.specs.Meant.{meant}
use Rattle.sr_resolve.specs.Joined.{join_of}
use Rattle.sr_bind.specs.Needs.{is_low, is_joined}
use Rattle.sr_bind.specs.OneTable.{one_table, done}
use Rattle.sr_bind.proofs.Asking.{asked, same_named}
use Rattle.sr_bind.proofs.Low.{are_joined, named_low}
use Rattle.sr_bind.proofs.bind.query.Goals as goal

pub named_columns-requires-clause-joined : goal.named_columns-requires-clause-joined
named_columns-requires-clause-joined c =
    let parts = length c.args.tables.now in
    let join = join_of c.args.schema.now c.args.tables.now in
    subst (λ (js : List KeyJoin). IsTrue (list_all (is_joined parts) (map join js))) (sym c.as_slice-3.ensures) (are_joined parts (map join c.args.joins) c.requires.joins)

pub parts-requires-clause-low : goal.parts-requires-clause-low
parts-requires-clause-low c =
    let schema = c.args.schema.now in
    let tables = c.args.tables.now in
    let named = same_named schema tables _ c.args.outputs _ c.args.joins _ c.args.conjuncts _ _ c.as_slice-2.ensures c.as_slice-3.ensures c.as_slice-4.ensures c.as_slice-5.ensures c.in_ok-named.ensures in
    let sound = (and_parts (list_all is_table schema) _ c.requires.known).0 in
    subst (λ (os : List model.Output). IsTrue (list_all is_low os)) (sym named)
    (named_low schema tables (map output_of c.args.outputs) (map (join_of schema tables) c.args.joins) (map meant c.args.conjuncts) sound c.requires.outputs c.requires.joins c.requires.suits)

pub returns-in-Ok-parts : goal.returns-in-Ok-parts
returns-in-Ok-parts c =
    let schema = c.args.schema.now in
    let tables = c.args.tables.now in
    let named = same_named schema tables _ c.args.outputs _ c.args.joins _ c.args.conjuncts _ _ c.as_slice-2.ensures c.as_slice-3.ensures c.as_slice-4.ensures c.as_slice-5.ensures c.in_ok-named.ensures in
    let apart : each one_table (map meant c.args.conjuncts) ≡ Ok (done (map meant c.args.conjuncts)) =
    subst (λ (cs : List Condition). each one_table (map meant cs) ≡ Ok (done (map meant cs))) c.as_slice.ensures c.in-Ok.ensures in
    asked schema tables (map output_of c.as_slice-5.result.now) c.args.joins c.args.outputs (map meant c.args.conjuncts) c.in-Ok-parts.parts apart named c.in-Ok-parts.ensures
