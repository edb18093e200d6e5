use Rattle.std.proofs.Common.{◌≡◌, ◌++◌, ap, ◌∙◌, rules}
use Rattle.std.specs.Prelude.{string_bytes}
use Rattle.std.specs.Fmt.{signed_decimal}
use Rattle.sr_print.proofs.Writing.{number_written}
use Rattle.sr_print.proofs.printer.Printer.number.Goals as goal

pub returns : goal.returns
returns c =
    let printed : string_bytes c.write.new.self ≡ string_bytes c.self.inside.text ++ signed_decimal c.args.number = search rules in
    number_written c.args.self.now c.args.number _ _ (ap (λ p. p.text) (c.self.view_is ∙ c.in_ok-blank.ensures)) printed
