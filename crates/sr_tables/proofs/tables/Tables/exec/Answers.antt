use Rattle.sr_grammar.specs.Seen.{statement_seen}
use Rattle.sr_query.specs.Written.{write_of}
use Rattle.sr_tables.proofs.Short.{bound-short}
use Rattle.sr_tables.proofs.tables.Tables.exec.Goals as goal

pub write-requires-clause-short : goal.write-requires-clause-short
write-requires-clause-short c = bound-short _ (statement_seen c.args.statement.now) (write_of c.in-Ok.write) c.in-Ok.ensures.bound c.requires.short
