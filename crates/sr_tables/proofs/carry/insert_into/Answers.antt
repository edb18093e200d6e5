use Rattle.std.proofs.Common.{◌<◌, length, subst, arith}
use Rattle.std.proofs.lemmas.Grind.{common_steps}
use Rattle.sr_model.specs.Statements.{Insert, inserted}
use Rattle.sr_cell.specs.Columns.{table_at}
use Rattle.sr_tables.specs.Stored.{IsKeyed}
use Rattle.sr_tables.proofs.ByTable.{there, zip-at, zip-set, known-of, suits-of}
use Rattle.sr_tables.proofs.Done.{done, changed, refused}
use Rattle.sr_tables.proofs.carry.insert_into.Goals as goal

pub index_mut-requires : goal.index_mut-requires
index_mut-requires c =
    let inside : c.args.table < length c.args.all.now.items = there _ _ _ c.requires.keyed (known-of c.args.schema.now (Insert c.args.table c.args.more) c.requires.suits) in
    grind (arith, inside, common_steps)

pub insert-requires-clause-keyed : goal.insert-requires-clause-keyed
insert-requires-clause-keyed c = rw (c.table_of-definition.ensures.table, c.index_mut.ensures.value) (zip-at _ _ _ _ c.requires.keyed (known-of c.args.schema.now (Insert c.args.table c.args.more) c.requires.suits))

pub insert-requires-clause-widths : goal.insert-requires-clause-widths
insert-requires-clause-widths c = rw c.table_of-definition.ensures.table (suits-of c.args.schema.now (Insert c.args.table c.args.more) c.requires.suits)

pub returns-clause-done : goal.returns-clause-done
returns-clause-done c =
    let inside : c.args.table < length c.args.all.now.items = there _ _ _ c.requires.keyed (known-of c.args.schema.now (Insert c.args.table c.args.more) c.requires.suits) in
    done c.insert.result c.args.all.now.items c.args.table _ _ c.insert.new.rows (inserted (table_at c.args.schema.now c.args.table) 0 c.args.more) inside c.index_mut.ensures.value (rw (← c.table_of-definition.ensures.table) c.insert.ensures.done)

pub returns-clause-changes : goal.returns-clause-changes
returns-clause-changes c =
    changed c.insert.result _ _ c.args.table _ _ _ _ c.requires.keyed (known-of c.args.schema.now (Insert c.args.table c.args.more) c.requires.suits) c.table_of-definition.ensures.table c.index_mut.ensures.value c.insert.ensures.changes

pub returns-clause-refused : goal.returns-clause-refused
returns-clause-refused c =
    let inside : c.args.table < length c.args.all.now.items = there _ _ _ c.requires.keyed (known-of c.args.schema.now (Insert c.args.table c.args.more) c.requires.suits) in
    refused c.insert.result c.args.all.now.items c.args.table _ _ (inserted (table_at c.args.schema.now c.args.table) 0 c.args.more) inside c.index_mut.ensures.value (rw (← c.table_of-definition.ensures.table) c.insert.ensures.refused)

pub returns-clause-keyed : goal.returns-clause-keyed
returns-clause-keyed c = zip-set _ _ _ _ c.requires.keyed (subst (λ t. IsKeyed t c.insert.new.rows) c.table_of-definition.ensures.table c.insert.ensures.keyed)
