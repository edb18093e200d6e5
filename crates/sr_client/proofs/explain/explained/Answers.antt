use Rattle.std.proofs.Common.{rules, ◌∷◌, [], ◌++◌, ◌+◌, sym, subst, take}
use Rattle.std.specs.List.{AllZip}
use Rattle.sr_cell.proofs.Lists.{AllZip-push}
use Rattle.sr_client.specs.Explaining.{IsExplained}
use Rattle.sr_client.proofs.Items.{take-item}
use Rattle.sr_client.proofs.explain.explained.Goals as goal

pub loop-part-init : goal.loop-part-init
loop-part-init c = subst (AllZip (IsExplained c.args.regions.now c.args.asks.now) []) (sym c.new-all.ensures) tt

pub loop-part-preserved : goal.loop-part-preserved
loop-part-preserved c =
    let gs = c.args.regions.now in
    let asks = c.args.asks.now in
    let i = c.loop-part.part-index in
    let e = c.in_ok-explained_part.field-0 in
    let items = take-item c.args.parts.now i c.part-item.result (search rules) c.part-item.is in
    subst (AllZip (IsExplained gs asks) (take (i + 1) c.args.parts.now)) (sym c.in_ok-push.ensures.pushed)
    (subst (λ ps. AllZip (IsExplained gs asks) ps (c.loop-part.all ++ e ∷ [])) (sym items)
    (AllZip-push (IsExplained gs asks) (take i c.args.parts.now) c.loop-part.all c.part-item.result e c.loop-part.invariant c.in_ok-explained_part.ensures))
