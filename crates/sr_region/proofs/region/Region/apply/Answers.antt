use Rattle.std.proofs.lemmas.Result.{on_ok_weaker}
use Rattle.sr_region.proofs.Applied.{changed-region}
use Rattle.sr_region.proofs.region.Region.apply.Goals as goal

pub returns-clause-region : goal.returns-clause-region
returns-clause-region c = λ t.
    on_ok_weaker c.change_row.result
    (λ is. changed-region t c.args.key.now c.args.after.now c.in_ok-part.part c.rank_of-place.result c.args.self.now c.change_row.new.rows c.rank_of-place.ensures c.in_ok-part.ensures is)
    c.change_row.ensures.changed
