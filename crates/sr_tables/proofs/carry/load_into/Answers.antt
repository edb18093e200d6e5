use Rattle.std.proofs.Common.{◌<◌, length, subst, arith}
use Rattle.std.proofs.lemmas.Grind.{common_steps}
use Rattle.sr_model.specs.Loads.{row_loaded}
use Rattle.sr_cell.specs.Columns.{table_at}
use Rattle.sr_tables.specs.Stored.{IsKeyed}
use Rattle.sr_tables.proofs.ByTable.{there, zip-at, zip-set}
use Rattle.sr_tables.proofs.Done.{done, refused}
use Rattle.sr_tables.proofs.carry.load_into.Goals as goal

pub index_mut-requires : goal.index_mut-requires
index_mut-requires c =
    let inside : c.args.table < length c.args.all.now.items = there _ _ _ c.requires.keyed (c.requires.table) in
    grind (arith, inside, common_steps)

pub load_row-requires-clause-keyed : goal.load_row-requires-clause-keyed
load_row-requires-clause-keyed c = rw (c.table_of-definition.ensures.table, c.index_mut.ensures.value) (zip-at _ _ _ _ c.requires.keyed (c.requires.table))

pub load_row-requires-clause-width : goal.load_row-requires-clause-width
load_row-requires-clause-width c = rw c.table_of-definition.ensures.table c.requires.width

pub returns-clause-loaded : goal.returns-clause-loaded
returns-clause-loaded c =
    let inside : c.args.table < length c.args.all.now.items = there _ _ _ c.requires.keyed (c.requires.table) in
    done c.load_row.result c.args.all.now.items c.args.table _ _ c.load_row.new.rows (row_loaded (table_at c.args.schema.now c.args.table) c.args.row) inside c.index_mut.ensures.value (rw (← c.table_of-definition.ensures.table) c.load_row.ensures.loaded)

pub returns-clause-refused : goal.returns-clause-refused
returns-clause-refused c =
    let inside : c.args.table < length c.args.all.now.items = there _ _ _ c.requires.keyed (c.requires.table) in
    refused c.load_row.result c.args.all.now.items c.args.table _ _ (row_loaded (table_at c.args.schema.now c.args.table) c.args.row) inside c.index_mut.ensures.value (rw (← c.table_of-definition.ensures.table) c.load_row.ensures.refused)

pub returns-clause-keyed : goal.returns-clause-keyed
returns-clause-keyed c = zip-set _ _ _ _ c.requires.keyed (subst (λ t. IsKeyed t c.load_row.new.rows) c.table_of-definition.ensures.table c.load_row.ensures.keyed)
