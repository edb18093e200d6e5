use Rattle.sr_trials_points.proofs.Regions.{class_inside, order_outside}
use Rattle.sr_trials_points.proofs.region.split_at.Goals as goal

pub returns-in-Ok-clause-inside : goal.returns-in-Ok-clause-inside
returns-in-Ok-clause-inside c =
    class_inside c.args.table.now c.args.region _ c.in-Ok.halves.inside c.in-Ok.ensures.inside c.requires.attrs c.requires.key

pub returns-in-Ok-clause-outside : goal.returns-in-Ok-clause-outside
returns-in-Ok-clause-outside c =
    order_outside c.args.table.now c.args.region _ c.in-Ok.halves.outside c.in-Ok.ensures.outside c.requires.attrs c.requires.key
