use Rattle.std.proofs.lemmas.Result.{IfOk-from_err}
use Rattle.sr_reader.proofs.Meanings.{asks, asks_fault}
use Rattle.sr_reader.proofs.meaning.query_of.Goals as goal

pub returns-in_err-statement : goal.returns-in_err-statement
returns-in_err-statement c = IfOk-from_err c.from_residual.result _ c.from_residual.ensures.0

pub query_said-requires : goal.query_said-requires
query_said-requires c = record { tables = c.requires.tables }

pub returns-in-Ok : goal.returns-in-Ok
returns-in-Ok c = asks c.args.schema.now c.args.sql.now c.in_ok-statement.field-0 c.in-Ok.statement c.query_said.result c.in_ok-statement.ensures c.in-Ok.is c.query_said.ensures

pub returns-in-Err : goal.returns-in-Err
returns-in-Err c = asks_fault c.args.schema.now c.args.sql.now c.in_ok-statement.field-0 c.in-Err.why c.in_ok-statement.ensures c.in-Err.is
