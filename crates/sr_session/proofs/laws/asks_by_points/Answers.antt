use Rattle.sr_session.proofs.PointLemmas.{asks-by-points}
use Rattle.sr_session.proofs.laws.asks_by_points.Goals as goal

pub returns : goal.returns
returns c = record { points = asks-by-points }
