use Rattle.std.proofs.Common.{arith}
use Rattle.std.proofs.lemmas.Grind.{common_steps}
use Rattle.std.proofs.lemmas.List.Elements.{AllWithin-more, at_read}
use Rattle.sr_script.specs.Printable.{HasNumbers}
use Rattle.sr_script.proofs.text.lines_text.Goals as goal

pub loop-line-preserved : goal.loop-line-preserved
loop-line-preserved c =
    let whole = HasNumbers c.args.schema.now in
    let before = c.loop-line.invariant in
    let own = at_read c.args.lines.now whole c.loop-line.line-index c.line-item.result (omega arith) c.line-item.is c.in_ok-push_line.ensures.numbers in
    record {
      text = grind (arith, common_steps);
      numbers = AllWithin-more whole c.args.lines.now 0 c.loop-line.line-index before.numbers own;
    }
