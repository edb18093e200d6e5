use Rattle.std.proofs.Common.{refl}
use Rattle.std.proofs.lemmas.Result.{IfOk-from_err}
use Rattle.sr_reader.proofs.Meanings.{writes, writes_fit, writes_fault}
use Rattle.sr_reader.proofs.meaning.write_of.Goals as goal

pub returns-in_err-statement-clause-written : goal.returns-in_err-statement-clause-written
returns-in_err-statement-clause-written c = IfOk-from_err c.from_residual.result _ c.from_residual.ensures.0

pub returns-in_err-statement-clause-fits : goal.returns-in_err-statement-clause-fits
returns-in_err-statement-clause-fits c = IfOk-from_err c.from_residual.result _ c.from_residual.ensures.0

pub write_said-requires : goal.write_said-requires
write_said-requires c = record { tables = c.requires.tables }

pub returns-in-Ok-clause-written : goal.returns-in-Ok-clause-written
returns-in-Ok-clause-written c = writes c.args.schema.now c.args.sql.now c.in_ok-statement.field-0 c.in-Ok.statement c.write_said.result c.in_ok-statement.ensures c.in-Ok.is c.write_said.ensures

pub returns-in-Ok-clause-fits : goal.returns-in-Ok-clause-fits
returns-in-Ok-clause-fits c = writes_fit c.args.schema.now c.args.sql.now c.in_ok-statement.field-0 c.in-Ok.statement c.write_said.result c.in_ok-statement.ensures c.in-Ok.is c.write_said.ensures

pub returns-in-Err-clause-written : goal.returns-in-Err-clause-written
returns-in-Err-clause-written c = writes_fault c.args.schema.now c.args.sql.now c.in_ok-statement.field-0 c.in-Err.fault c.in_ok-statement.ensures c.in-Err.is

pub returns-in-Err-clause-fits : goal.returns-in-Err-clause-fits
returns-in-Err-clause-fits c = refl
