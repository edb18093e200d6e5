use Rattle.std.proofs.Common.{◌≡◌, drop, ◌∷◌, [], ◌+◌, ◌∙◌, sym, ap}
use Rattle.std.proofs.lemmas.List.{drop_more, drop_all}
use Rattle.sr_store.specs.Answered.{AreFlags}
use Rattle.sr_store.specs.Making.{IsAbsorbedBy}
use Rattle.sr_store.proofs.Making.{completes_more, completes_all}
use Rattle.sr_store.proofs.absorb.absorbed.Goals as goal

pub loop-region-preserved : goal.loop-region-preserved
loop-region-preserved c =
    let gs = c.args.news.now in
    let i = c.loop-region.region-index in
    let g = c.region-item.result in
    let first : drop i gs ≡ g ∷ drop (i + 1) gs = drop_more gs i g c.loop-region-test.true ∙ ap (λ g. g ∷ drop (i + 1) gs) (sym c.region-item.is) in
    let flag = c.in_ok-push_absorbed.ensures in
    completes_more (λ gs fs. AreFlags (IsAbsorbedBy c.args.schema.now c.args.still.now c.args.news.now) fs gs) gs c.loop-region.flags (flag.0 ∷ []) c.push_absorbed.new.flags
    g (drop i gs) (drop (i + 1) gs) first flag.2 (λ more h. (flag.1, h)) c.loop-region.invariant

pub returns : goal.returns
returns c =
    let none = drop_all c.loop-region.region-index c.args.news.now c.loop-region-test.false in
    record {
      flags = completes_all (λ gs fs. AreFlags (IsAbsorbedBy c.args.schema.now c.args.still.now c.args.news.now) fs gs) c.args.news.now c.loop-region.flags (drop c.loop-region.region-index c.args.news.now) none tt c.loop-region.invariant;
    }
