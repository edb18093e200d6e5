use Rattle.std.proofs.Common.{◌≡◌, ◌+◌, [], ◌∷◌, ◌∙◌, sym, ap, drop}
use Rattle.std.specs.List.{AllZip}
use Rattle.std.proofs.lemmas.List.{drop_more, drop_all}
use Rattle.sr_store.specs.Making.{IsStillOr}
use Rattle.sr_store.proofs.Making.{completes_more, completes_all}
use Rattle.sr_store.proofs.parting.changing.Goals as goal

pub loop-region-preserved : goal.loop-region-preserved
loop-region-preserved c =
    let gs = c.args.regions.now in
    let i = c.loop-region.region-index in
    let g = c.region-item.result in
    let first : drop i gs ≡ g ∷ drop (i + 1) gs = drop_more gs i g c.loop-region-test.true ∙ ap (λ g. g ∷ drop (i + 1) gs) (sym c.region-item.is) in
    completes_more (λ gs fs. AllZip (IsStillOr c.args.number c.args.parts.now) fs gs) gs c.loop-region.flags (c.may_change.result ∷ []) c.push.new.self
    g (drop i gs) (drop (i + 1) gs) first c.in_ok-push.ensures.pushed (λ more h. (c.may_change.ensures, h)) c.loop-region.invariant

pub returns : goal.returns
returns c =
    let none = drop_all c.loop-region.region-index c.args.regions.now c.loop-region-test.false in
    completes_all (λ gs fs. AllZip (IsStillOr c.args.number c.args.parts.now) fs gs) c.args.regions.now c.loop-region.flags (drop c.loop-region.region-index c.args.regions.now) none tt c.loop-region.invariant
