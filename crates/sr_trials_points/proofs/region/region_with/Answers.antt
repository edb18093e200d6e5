use Rattle.std.proofs.Common.{◌≡◌, refl, true}
use Rattle.sr_model.specs.SortedRows.{ascend}
use Rattle.sr_region.specs.Regions.{rank}
use Rattle.sr_trials_points.proofs.Regions.{with_one}
use Rattle.sr_trials_points.proofs.region.region_with.Goals as goal

pub returns-clause-class : goal.returns-clause-class
returns-clause-class c =
    with_one (λ region. (region.attrs ≡ 3) × (region.key ≡ 0)) _ _ c.new-region.result c.put.new.self c.put.result c.and.result c.new-region.ensures.is c.put.ensures.put c.and.ensures
    (refl, refl)

pub returns-clause-order : goal.returns-clause-order
returns-clause-order c =
    with_one (λ region. ascend (rank 3 0) region.rows ≡ true) _ _ c.new-region.result c.put.new.self c.put.result c.and.result c.new-region.ensures.is c.put.ensures.put c.and.ensures refl
