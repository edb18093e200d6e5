use Rattle.std.proofs.Common.{ap, ◌∙◌}
use Rattle.sr_print.proofs.Writing.{prefix_written}
use Rattle.sr_print.proofs.printer.Printer.prefix.Goals as goal

pub returns : goal.returns
returns c = prefix_written c.args.self.now c.args.text.now _ _ _ _ (ap (λ p. p.text) (c.self.view_is ∙ c.in_ok-blank.ensures)) c.in_ok-push_str.ensures.bytes c.in_ok-push_doubled.ensures c.in_ok-push_str-2.ensures.bytes
