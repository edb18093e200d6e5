use Rattle.sr_reader.proofs.Saids.{explain_said}
use Rattle.sr_reader.proofs.events.explain.Goals as goal

pub returns-in-Ok : goal.returns-in-Ok
returns-in-Ok c = explain_said c.args.schema.now c.args.sql.now c.args.client c.in-Ok.query c.in-Ok.ensures
