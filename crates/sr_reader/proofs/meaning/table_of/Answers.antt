use Rattle.std.proofs.lemmas.Result.{IfOk-from_err}
use Rattle.sr_reader.proofs.Meanings.{created, fault_creates_none, other_creates_none}
use Rattle.sr_reader.proofs.meaning.table_of.Goals as goal

pub returns-in_err-statement : goal.returns-in_err-statement
returns-in_err-statement c = IfOk-from_err c.from_residual.result _ c.from_residual.ensures.0

pub returns-in-Err : goal.returns-in-Err
returns-in-Err c = fault_creates_none c.args.sql.now c.in_ok-statement.field-0 c.in-Err.field-0 c.in_ok-statement.ensures c.in-Err.is

pub returns-in-Create : goal.returns-in-Create
returns-in-Create c = created c.args.sql.now c.in_ok-statement.field-0 c.in-Ok.statement c.in-Create.table c.in_ok-statement.ensures c.in-Ok.is c.in-Create.is

pub returns-in_default : goal.returns-in_default
returns-in_default c = other_creates_none c.args.sql.now c.in_ok-statement.field-0 c.in-Ok.statement c.in_ok-statement.ensures c.in-Ok.is c.in_default.not-Create
