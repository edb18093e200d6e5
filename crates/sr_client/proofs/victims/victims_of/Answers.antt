use Rattle.std.proofs.Common.{◌≡◌, ℕ, [], refl, sym, subst, Option, Some, None}
use Rattle.std.specs.Prelude.{IsNone}
use Rattle.sr_policy.specs.Order.{IsVictim}
use Rattle.sr_store.proofs.Views.{victim_within}
use Rattle.sr_client.proofs.FallLemmas.{FallsSoFar, none-fell, left-within, one-fell, all-fell, one-fewer}
use Rattle.sr_client.proofs.victims.victims_of.Goals as goal

pub loop-number-init : goal.loop-number-init
loop-number-init c =
    let store = c.args.store.now in
    none-fell c.args.schema.now store.limits.policy store.last store.regions c.in_ok-views.views c.as_slice-regions.result.now c.in_ok-left.left c.new-fallen.result
    c.as_slice-regions.ensures c.in_ok-views.ensures c.in_ok-left.ensures c.new-fallen.ensures

pub remove-requires : goal.remove-requires
remove-requires c =
    let store = c.args.store.now in
    let victim = subst (λ last. IsVictim store.limits.policy last c.as_slice.result.now c.in-Some.number) c.as_slice-last.ensures c.in-Some.ensures.first in
    victim_within store.limits.policy store.last c.loop-number.views c.as_slice.result.now c.in-Some.number c.as_slice.ensures victim

pub remove-requires-in-Some : goal.remove-requires-in-Some
remove-requires-in-Some c =
    let store = c.args.store.now in
    left-within c.args.schema.now store.limits.policy store.last store.regions c.loop-number.views c.as_slice.result.now c.loop-number.left c.loop-number.fallen c.in-Some.number c.loop-number.invariant c.as_slice.ensures
    (subst (λ last. IsVictim store.limits.policy last c.as_slice.result.now c.in-Some.number) c.as_slice-last.ensures c.in-Some.ensures.first)

pub loop-number-smaller : goal.loop-number-smaller
loop-number-smaller c =
    let store = c.args.store.now in
    let victim = subst (λ last. IsVictim store.limits.policy last c.as_slice.result.now c.in-Some.number) c.as_slice-last.ensures c.in-Some.ensures.first in
    one-fewer c.in-Some.number c.loop-number.views c.remove.new.self (victim_within store.limits.policy store.last c.loop-number.views c.as_slice.result.now c.in-Some.number c.as_slice.ensures victim) c.remove.ensures.removed

pub loop-number-preserved : goal.loop-number-preserved
loop-number-preserved c =
    let store = c.args.store.now in
    let victim = subst (λ last. IsVictim store.limits.policy last c.as_slice.result.now c.in-Some.number) c.as_slice-last.ensures c.in-Some.ensures.first in
    subst (FallsSoFar c.args.schema.now store.limits.policy store.last store.regions c.remove.new.self c.remove-in-Some.new.self) (sym c.in_ok-push.ensures.pushed)
    (one-fell c.args.schema.now store.limits.policy store.last store.regions c.loop-number.views c.as_slice.result.now c.remove.new.self c.loop-number.left c.remove-in-Some.new.self c.loop-number.fallen c.in-Some.number
    c.remove-in-Some.result c.loop-number.invariant c.as_slice.ensures victim c.remove.ensures.removed c.remove-in-Some.ensures.taken c.remove-in-Some.ensures.removed)

none-is : (o : Option ℕ) → ((x : ℕ) → o ≡ Some x → ⊥) → IsNone o
none-is None other = refl
none-is (Some x) other = absurd (other x refl)

pub returns : goal.returns
returns c =
    let store = c.args.store.now in
    let none : c.as_slice.result.now ≡ [] = c.victim.ensures.none.0 (none-is c.victim.result c.in_default.not-Some) in
    all-fell c.args.schema.now store.limits.policy store.last store.regions c.loop-number.views c.as_slice.result.now c.loop-number.left c.loop-number.fallen c.loop-number.invariant c.as_slice.ensures none
