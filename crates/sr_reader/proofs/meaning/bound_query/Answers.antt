use Rattle.std.proofs.Common.{Ok}
use Rattle.sr_reader.proofs.Meanings.{bound_means}
use Rattle.sr_reader.proofs.meaning.bound_query.Goals as goal

pub returns-in-Ok : goal.returns-in-Ok
returns-in-Ok c = let b = c.in-Ok.ensures.bound in (Ok b.0, b.1, bound_means c.args.schema.now _ c.in-Ok.query b.0 c.requires.tables b.1 b.2)
