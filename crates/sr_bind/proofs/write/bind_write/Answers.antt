use Rattle.sr_grammar.specs.Trees as tree
use Rattle.sr_grammar.specs.Seen.{update_seen, delete_seen}
use Rattle.sr_bind.proofs.OnTables.{decided_suits}
use Rattle.sr_bind.proofs.write.bind_write.Goals as goal

pub returns-in-Insert-clause-suits : goal.returns-in-Insert-clause-suits
returns-in-Insert-clause-suits c = decided_suits c.args.schema.now (tree.Inserts c.in-Insert.insert) c.bind_insert.result c.bind_insert.ensures

pub returns-in-Update-clause-suits : goal.returns-in-Update-clause-suits
returns-in-Update-clause-suits c = decided_suits c.args.schema.now (tree.Updates (update_seen c.in-Update.update)) c.bind_update.result c.bind_update.ensures

pub returns-in-Delete-clause-suits : goal.returns-in-Delete-clause-suits
returns-in-Delete-clause-suits c = decided_suits c.args.schema.now (tree.Deletes (delete_seen c.in-Delete.delete)) c.bind_delete.result c.bind_delete.ensures
