use Rattle.std.proofs.lemmas.Result.{on_ok_weaker}
use Rattle.sr_region.proofs.Areas.{put-region}
use Rattle.sr_region.proofs.region.Region.put.Goals as goal

pub returns-clause-region : goal.returns-clause-region
returns-clause-region c = λ t.
    on_ok_weaker c.put.result (λ is. put-region t c.args.self.now c.args.row c.rank_of-place.result c.put.new.rows c.rank_of-place.ensures is) c.put.ensures.put
