use Rattle.sr_reader.proofs.Saids.{query_said}
use Rattle.sr_reader.proofs.events.query.Goals as goal

pub returns-in-Ok : goal.returns-in-Ok
returns-in-Ok c = query_said c.args.schema.now c.args.sql.now c.args.client c.in-Ok.query c.in-Ok.ensures
