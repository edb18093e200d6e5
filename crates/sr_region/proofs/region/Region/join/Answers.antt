use Rattle.std.proofs.Common.{sym, subst}
use Rattle.std.proofs.lemmas.Result.{IfOk-weaker}
use Rattle.sr_region.specs.Regions.{IsRegion}
use Rattle.sr_region.proofs.Areas.{joined-region}
use Rattle.sr_region.proofs.region.Region.join.Goals as goal

pub returns-clause-region : goal.returns-clause-region
returns-clause-region c = λ t.
    IfOk-weaker c.put_together.result _ _ (λ both is h k class apart keys. subst (IsRegion t) (sym is) (joined-region t c.args.self c.args.other h k class apart keys)) c.put_together.ensures
