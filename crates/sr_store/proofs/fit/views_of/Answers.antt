use Rattle.std.proofs.Common.{◌≡◌, [], ◌∷◌, ◌+◌, ◌∙◌, drop, sym, ap}
use Rattle.std.specs.List.{AllZip}
use Rattle.std.proofs.lemmas.List.{drop_more, drop_all}
use Rattle.sr_store.specs.Fitted.{IsViewOf}
use Rattle.sr_store.proofs.Making.{completes_more, completes_all}
use Rattle.sr_store.proofs.fit.views_of.Goals as goal

pub loop-region-preserved : goal.loop-region-preserved
loop-region-preserved c =
    let gs = c.args.regions.now in
    let i = c.loop-region.region-index in
    let g = c.region-item.result in
    let first : drop i gs ≡ g ∷ drop (i + 1) gs = drop_more gs i g c.loop-region-test.true ∙ ap (λ g. g ∷ drop (i + 1) gs) (sym c.region-item.is) in
    let view = c.in_ok-push_view.ensures in
    completes_more (AllZip (IsViewOf c.args.schema.now)) gs c.loop-region.views (view.0 ∷ []) c.push_view.new.views
    g (drop i gs) (drop (i + 1) gs) first view.2 (λ more h. (view.1, h)) c.loop-region.invariant

pub returns : goal.returns
returns c =
    let none = drop_all c.loop-region.region-index c.args.regions.now c.loop-region-test.false in
    completes_all (AllZip (IsViewOf c.args.schema.now)) c.args.regions.now c.loop-region.views (drop c.loop-region.region-index c.args.regions.now) none tt c.loop-region.invariant
