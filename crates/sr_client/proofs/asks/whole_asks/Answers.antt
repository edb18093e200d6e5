use Rattle.std.proofs.Common.{◌≤◌, length, sym, subst, ◌∙◌, ap, rules}
use Rattle.std.specs.List.{All}
use Rattle.sr_message.specs.declared.message.AskPart.{AskPart}
use Rattle.sr_client.specs.Asking.{whole_asks}
use Rattle.sr_client.proofs.Items.{take-end}
use Rattle.sr_client.proofs.AskLemmas.{whole-narrow}
use Rattle.sr_client.proofs.asks.whole_asks.Goals as goal

pub returns-clause-few : goal.returns-clause-few
returns-clause-few c = λ schema meant.
    subst (All (λ (ask : AskPart). length ask.rects ≤ 64)) (sym (c.loop-part.invariant ∙ ap whole_asks (take-end c.args.parts.now c.loop-part.part-index (search rules)))) (whole-narrow schema c.args.parts.now meant)
