use Rattle.std.proofs.Common.{◌≡◌, ◌<◌, length, subst, ap, ◌∙◌}
use Rattle.std.specs.Prelude.{slice_get, Some}
use Rattle.sr_keyed.proofs.Order.{order}
use Rattle.sr_regions.specs.Named.{AgreesWith, may_have}
use Rattle.sr_regions.proofs.Places.{read-at}
use Rattle.sr_regions.proofs.Telling.{named-has}
use Rattle.sr_regions.proofs.regions.Regions.holders.Goals as goal

pub push_holder-requires-clause-may_have : goal.push_holder-requires-clause-may_have
push_holder-requires-clause-may_have c = λ holds.
    let number = c.loop-number.number in
    let now = c.args.self.now in
    let region = c.index.result.now in
    let below : number < length now = subst (λ n. number < n) c.len-number-end.ensures c.loop-number-test.true in
    let there : slice_get now number ≡ Some region = read-at c.self.inside.list.items now number region c.self.view_is below c.index.ensures in
    let agrees : AgreesWith order c.self.inside.index now = subst (AgreesWith order c.self.inside.index) c.self.view_is c.self.invariant in
    c.may_have.ensures ∙ ap (λ found. may_have found number) c.loop-number.invariant.candidates ∙ c.in_ok-candidates.ensures number
    ∙ named-has c.self.inside.index number region c.args.table c.args.key.now (agrees number region there) holds
