use Rattle.std.proofs.Common.{◌+◌, sym, subst, List, [], ◌∷◌, ◌++◌}
use Rattle.sr_reader.specs.declared.line.Line.{Line}
use Rattle.sr_reader.proofs.Stages.{Cut, cut_line}
use Rattle.sr_reader.proofs.lines.read_lines.Goals as goal

pub lines-preserved : goal.lines-preserved
lines-preserved c =
    let cut = c.cut_line-cut in
    let next = cut_line c.args.clients c.args.bytes.now c.lines.rest.now cut.result.rest.now cut.result.line.now c.lines.number c.lines.running c.lines.lines c.in-Ok.line c.lines.invariant cut.ensures.lines cut.ensures.shorter
    c.in-Ok.ensures.line c.in-Ok.ensures.inside in
    let begun = subst (λ z. Cut c.args.clients c.args.bytes.now (c.lines.number + 1) cut.result.rest.now z (c.lines.lines ++ c.in-Ok.line ∷ [])) (sym c.has_begun-running.ensures) next in
    subst (λ (z : List Line). Cut c.args.clients c.args.bytes.now (c.lines.number + 1) cut.result.rest.now c.has_begun-running.result z) (sym c.in_ok-push.ensures.pushed) begun
