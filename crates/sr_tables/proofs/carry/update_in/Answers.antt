use Rattle.std.proofs.Common.{◌<◌, length, subst, arith}
use Rattle.std.proofs.lemmas.Grind.{common_steps}
use Rattle.sr_model.specs.Statements.{Update, updated}
use Rattle.std.specs.Prelude.{map}
use Rattle.sr_query.specs.Written.{place_of, condition_of}
use Rattle.sr_cell.specs.Columns.{table_at}
use Rattle.sr_tables.specs.Stored.{IsKeyed}
use Rattle.sr_tables.proofs.ByTable.{there, zip-at, zip-set, known-of, suits-of, places-suit}
use Rattle.sr_tables.proofs.Few.{few-of}
use Rattle.sr_tables.proofs.Done.{done, changed, refused}
use Rattle.sr_tables.proofs.carry.update_in.Goals as goal

pub index_mut-requires : goal.index_mut-requires
index_mut-requires c =
    let inside : c.args.table < length c.args.all.now.items = there _ _ _ c.requires.keyed (known-of c.args.schema.now (Update c.args.table (map place_of c.args.sets.now) (condition_of c.args.filter.now.condition)) c.requires.suits) in
    grind (arith, inside, common_steps)

pub update-requires-clause-keyed : goal.update-requires-clause-keyed
update-requires-clause-keyed c = rw (c.table_of-definition.ensures.table, c.index_mut.ensures.value) (zip-at _ _ _ _ c.requires.keyed (known-of c.args.schema.now (Update c.args.table (map place_of c.args.sets.now) (condition_of c.args.filter.now.condition)) c.requires.suits))

pub update-requires-clause-places : goal.update-requires-clause-places
update-requires-clause-places c = rw c.table_of-definition.ensures.table (places-suit (table_at c.args.schema.now c.args.table) c.args.sets.now (suits-of c.args.schema.now (Update c.args.table (map place_of c.args.sets.now) (condition_of c.args.filter.now.condition)) c.requires.suits))

pub update-requires-clause-few : goal.update-requires-clause-few
update-requires-clause-few c =
    let inside : c.args.table < length c.args.all.now.items = there _ _ _ c.requires.keyed (known-of c.args.schema.now (Update c.args.table (map place_of c.args.sets.now) (condition_of c.args.filter.now.condition)) c.requires.suits) in
    rw c.index_mut.ensures.value (few-of _ _ _ inside c.requires.few)

pub returns-clause-done : goal.returns-clause-done
returns-clause-done c =
    let inside : c.args.table < length c.args.all.now.items = there _ _ _ c.requires.keyed (known-of c.args.schema.now (Update c.args.table (map place_of c.args.sets.now) (condition_of c.args.filter.now.condition)) c.requires.suits) in
    done c.update.result c.args.all.now.items c.args.table _ _ c.update.new.rows (updated (table_at c.args.schema.now c.args.table) (map place_of c.args.sets.now) (condition_of c.args.filter.now.condition)) inside c.index_mut.ensures.value (rw (← c.table_of-definition.ensures.table) c.update.ensures.done)

pub returns-clause-changes : goal.returns-clause-changes
returns-clause-changes c =
    changed c.update.result _ _ c.args.table _ _ _ _ c.requires.keyed (known-of c.args.schema.now (Update c.args.table (map place_of c.args.sets.now) (condition_of c.args.filter.now.condition)) c.requires.suits) c.table_of-definition.ensures.table c.index_mut.ensures.value c.update.ensures.changes

pub returns-clause-refused : goal.returns-clause-refused
returns-clause-refused c =
    let inside : c.args.table < length c.args.all.now.items = there _ _ _ c.requires.keyed (known-of c.args.schema.now (Update c.args.table (map place_of c.args.sets.now) (condition_of c.args.filter.now.condition)) c.requires.suits) in
    refused c.update.result c.args.all.now.items c.args.table _ _ (updated (table_at c.args.schema.now c.args.table) (map place_of c.args.sets.now) (condition_of c.args.filter.now.condition)) inside c.index_mut.ensures.value (rw (← c.table_of-definition.ensures.table) c.update.ensures.refused)

pub returns-clause-keyed : goal.returns-clause-keyed
returns-clause-keyed c = zip-set _ _ _ _ c.requires.keyed (subst (λ t. IsKeyed t c.update.new.rows) c.table_of-definition.ensures.table c.update.ensures.keyed)
