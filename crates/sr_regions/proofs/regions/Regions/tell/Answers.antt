use Rattle.std.proofs.Common.{◌≡◌, ◌+◌, ◌<◌, [], length, sym, subst, ap, ◌∙◌, arith}
use Rattle.std.specs.Prelude.{slice_get, Some}
use Rattle.std.proofs.lemmas.List.Edits.{map_over_more}
use Rattle.std.proofs.lemmas.List.Elements.{All-head}
use Rattle.std.proofs.lemmas.Option.{get_or_from_slice_get}
use Rattle.sr_keyed.proofs.Order.{order}
use Rattle.sr_regions.specs.Named.{AgreesWith, may_have}
use Rattle.sr_regions.specs.Touched.{told_one, IsOfSchema, IsTellOf}
use Rattle.sr_regions.proofs.Places.{All-at, some-at, next-unchanged}
use Rattle.sr_regions.proofs.Telling.{named-has, count-more, count-part}
use Rattle.sr_regions.proofs.regions.Regions.tell.Goals as goal

pub tell_at-requires-clause-ready : goal.tell_at-requires-clause-ready
tell_at-requires-clause-ready g c = (
  c.requires.0,
  λ h at.
      let now = c.args.self.now in
      let tell = c.args.tell.now in
      let number = c.loop-number.number in
      let there : slice_get now number ≡ Some h = sym (next-unchanged (told_one tell) now number) ∙ ap (λ xs. slice_get xs number) (sym c.loop-number.invariant.told) ∙ at in
      let agrees : AgreesWith order c.self.inside.index now = subst (AgreesWith order c.self.inside.index) c.self.view_is c.self.invariant in
      record {
        region = All-at (IsOfSchema c.requires.0) now number h there c.requires.1.0;
        tell_is = All-head (IsTellOf c.requires.0) tell [] c.requires.1.1;
        candidate_is = λ holds. c.may_have.ensures ∙ ap (λ found. may_have found number) c.loop-number.invariant.candidates ∙ c.in_ok-candidates.ensures number
            ∙ named-has c.self.inside.index number h tell.table tell.key (agrees number h there) holds;
      },
)

pub loop-number-preserved : goal.loop-number-preserved
loop-number-preserved g c =
    let now = c.args.self.now in
    let tell = c.args.tell.now in
    let number = c.loop-number.number in
    let below : number < length now = subst (λ n. number < n) c.len-number-end.ensures c.loop-number-test.true in
    let next = some-at now number below in
    let at : slice_get c.loop-number.self number ≡ Some next.0 = ap (λ xs. slice_get xs number) c.loop-number.invariant.told ∙ next-unchanged (told_one tell) now number ∙ next.1 in
    let own = sym (get_or_from_slice_get c.loop-number.self number next.0 next.0 at) in
    let steps = c.in_ok-tell_at.ensures.bound next.0 at in
    let so_far = c.loop-number.invariant.counted in
    let count = count-more tell now number next.0 next.1 in
    record {
      told = c.in_ok-tell_at.ensures.told next.0 at ∙ map_over_more (told_one tell) now c.loop-number.self number next.0 below c.loop-number.invariant.told own;
      candidates = c.loop-number.invariant.candidates;
      counted = omega (arith, steps, so_far, count);
    }

-- out of memory, the region that it is told last is counted too
pub returns-in_err-tell_at-clause-bound : goal.returns-in_err-tell_at-clause-bound
returns-in_err-tell_at-clause-bound g c =
    let now = c.args.self.now in
    let tell = c.args.tell.now in
    let number = c.loop-number.number in
    let below : number < length now = subst (λ n. number < n) c.len-number-end.ensures c.loop-number-test.true in
    let next = some-at now number below in
    let at : slice_get c.loop-number.self number ≡ Some next.0 = ap (λ xs. slice_get xs number) c.loop-number.invariant.told ∙ next-unchanged (told_one tell) now number ∙ next.1 in
    let steps = c.tell_at.ensures.bound next.0 at in
    let so_far = c.loop-number.invariant.counted in
    let count = count-more tell now number next.0 next.1 in
    let all = count-part tell (number + 1) now in
    omega (arith, steps, so_far, count, all)
