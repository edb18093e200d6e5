use Rattle.std.proofs.Common.{◌≡◌, [], ◌∷◌, ◌++◌, arith, subst, sym}
use Rattle.std.specs.Vec.Iter.{into_iter_items}
use Rattle.std.proofs.lemmas.Grind.{common_steps}
use Rattle.std.proofs.lemmas.List.{append-nil}
use Rattle.sr_union.specs.Joined.{IsJoined}
use Rattle.sr_union.proofs.Joined.{both_fit, joined_next, joined_self, next_fit}
use Rattle.sr_union.proofs.join.with_all.Goals as goal

pub loop-rect-init : goal.loop-rect-init
loop-rect-init c =
    let items : into_iter_items c.into_iter-rect-iterator.result ≡ c.args.more = grind (arith, common_steps) in
    subst (λ more. IsJoined c.args.columns.now (c.args.rects ++ c.args.more) (c.args.rects ++ more)) (sym items) (joined_self c.args.columns.now (c.args.rects ++ c.args.more))

pub with_one-requires-clause-fits : goal.with_one-requires-clause-fits
with_one-requires-clause-fits c =
    let turn : into_iter_items c.loop-rect.rect-iterator ≡ c.in-Some.rect ∷ into_iter_items c.next.new.self = c.in-Some.ensures.steps.0 in
    (next_fit c.args.columns.now (c.args.rects ++ c.args.more) c.loop-rect.joined (into_iter_items c.loop-rect.rect-iterator) (into_iter_items c.next.new.self) c.in-Some.rect turn c.loop-rect.invariant
    (both_fit c.args.columns.now c.args.rects c.args.more c.requires.rects_fit c.requires.more_fit)).1

pub with_one-requires-clause-rects_fit : goal.with_one-requires-clause-rects_fit
with_one-requires-clause-rects_fit c =
    let turn : into_iter_items c.loop-rect.rect-iterator ≡ c.in-Some.rect ∷ into_iter_items c.next.new.self = c.in-Some.ensures.steps.0 in
    (next_fit c.args.columns.now (c.args.rects ++ c.args.more) c.loop-rect.joined (into_iter_items c.loop-rect.rect-iterator) (into_iter_items c.next.new.self) c.in-Some.rect turn c.loop-rect.invariant
    (both_fit c.args.columns.now c.args.rects c.args.more c.requires.rects_fit c.requires.more_fit)).0

pub loop-rect-preserved : goal.loop-rect-preserved
loop-rect-preserved c =
    let turn : into_iter_items c.loop-rect.rect-iterator ≡ c.in-Some.rect ∷ into_iter_items c.next.new.self = c.in-Some.ensures.steps.0 in
    joined_next c.args.columns.now (c.args.rects ++ c.args.more) c.loop-rect.joined c.in_ok-joined.joined (into_iter_items c.loop-rect.rect-iterator) (into_iter_items c.next.new.self) c.in-Some.rect turn
    c.loop-rect.invariant c.in_ok-joined.ensures

pub returns : goal.returns
returns c =
    let none = c.in-None.ensures.steps.0 in
    let over : into_iter_items c.loop-rect.rect-iterator ≡ [] = grind (arith, common_steps, none) in
    subst (IsJoined c.args.columns.now (c.args.rects ++ c.args.more)) (append-nil c.loop-rect.joined)
    (subst (λ rest. IsJoined c.args.columns.now (c.args.rects ++ c.args.more) (c.loop-rect.joined ++ rest)) over c.loop-rect.invariant)
