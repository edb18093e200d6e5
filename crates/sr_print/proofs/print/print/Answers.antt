use Rattle.std.proofs.Common.{[], true, ap, ◌∙◌}
use Rattle.sr_grammar.specs.Printed.{printed_tokens}
use Rattle.sr_grammar.specs.Seen.{statement_seen}
use Rattle.sr_print.specs.Writes.{Page, written}
use Rattle.sr_print.proofs.WritingLists.{written_text}
use Rattle.sr_print.proofs.AgainRead.{says_again}
use Rattle.sr_print.proofs.print.print.Goals as goal

pub returns : goal.returns
returns c =
    let tokens = printed_tokens (statement_seen c.args.statement.now) in
    let page = c.in_ok-statement.ensures ∙ ap (λ (p : Page). written p tokens) c.new-printer.ensures in
    let text = c.into_text.ensures ∙ ap (λ (p : Page). p.text) page ∙ written_text (record { text = []; tight = true }) tokens in
    record { text = text; again = says_again _ (statement_seen c.args.statement.now) text }
