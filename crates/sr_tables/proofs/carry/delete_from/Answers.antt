use Rattle.std.proofs.Common.{◌<◌, length, subst, arith}
use Rattle.std.proofs.lemmas.Grind.{common_steps}
use Rattle.sr_model.specs.Statements.{Delete, deleted}
use Rattle.sr_query.specs.Written.{condition_of}
use Rattle.sr_tables.specs.Stored.{IsKeyed}
use Rattle.sr_tables.proofs.ByTable.{there, zip-at, zip-set, known-of}
use Rattle.sr_tables.proofs.Few.{few-of}
use Rattle.sr_tables.proofs.Done.{done, changed, refused}
use Rattle.sr_tables.proofs.carry.delete_from.Goals as goal

pub index_mut-requires : goal.index_mut-requires
index_mut-requires c =
    let inside : c.args.table < length c.args.all.now.items = there _ _ _ c.requires.keyed (known-of c.args.schema.now (Delete c.args.table (condition_of c.args.filter.now.condition)) c.requires.suits) in
    grind (arith, inside, common_steps)

pub delete-requires-clause-keyed : goal.delete-requires-clause-keyed
delete-requires-clause-keyed c = rw (c.table_of-definition.ensures.table, c.index_mut.ensures.value) (zip-at _ _ _ _ c.requires.keyed (known-of c.args.schema.now (Delete c.args.table (condition_of c.args.filter.now.condition)) c.requires.suits))

pub delete-requires-clause-few : goal.delete-requires-clause-few
delete-requires-clause-few c =
    let inside : c.args.table < length c.args.all.now.items = there _ _ _ c.requires.keyed (known-of c.args.schema.now (Delete c.args.table (condition_of c.args.filter.now.condition)) c.requires.suits) in
    rw c.index_mut.ensures.value (few-of _ _ _ inside c.requires.few)

pub returns-clause-done : goal.returns-clause-done
returns-clause-done c =
    let inside : c.args.table < length c.args.all.now.items = there _ _ _ c.requires.keyed (known-of c.args.schema.now (Delete c.args.table (condition_of c.args.filter.now.condition)) c.requires.suits) in
    done c.delete.result c.args.all.now.items c.args.table _ _ c.delete.new.rows (deleted (condition_of c.args.filter.now.condition)) inside c.index_mut.ensures.value c.delete.ensures.done

pub returns-clause-changes : goal.returns-clause-changes
returns-clause-changes c =
    changed c.delete.result _ _ c.args.table _ _ _ _ c.requires.keyed (known-of c.args.schema.now (Delete c.args.table (condition_of c.args.filter.now.condition)) c.requires.suits) c.table_of-definition.ensures.table c.index_mut.ensures.value c.delete.ensures.changes

pub returns-clause-refused : goal.returns-clause-refused
returns-clause-refused c =
    let inside : c.args.table < length c.args.all.now.items = there _ _ _ c.requires.keyed (known-of c.args.schema.now (Delete c.args.table (condition_of c.args.filter.now.condition)) c.requires.suits) in
    refused c.delete.result c.args.all.now.items c.args.table _ _ (deleted (condition_of c.args.filter.now.condition)) inside c.index_mut.ensures.value c.delete.ensures.refused

pub returns-clause-keyed : goal.returns-clause-keyed
returns-clause-keyed c = zip-set _ _ _ _ c.requires.keyed (subst (λ t. IsKeyed t c.delete.new.rows) c.table_of-definition.ensures.table c.delete.ensures.keyed)
