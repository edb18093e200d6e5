use Rattle.sr_setup.proofs.Walks.{judged_more, more_lines}
use Rattle.sr_setup.proofs.own_lines.own_lines.Goals as goal

pub lines-preserved : goal.lines-preserved
lines-preserved g c =
    let cut = c.cut_line-cut in
    let so_far = c.lines.invariant in
    record {
      judged = judged_more (g.L.OwnLine.fault c.args.id) c.args.bytes.now c.lines.rest.now cut.result.rest.now cut.result.line.now c.lines.number so_far.judged cut.ensures.lines cut.ensures.shorter c.in-Ok.ensures.inside;
      read = more_lines g.L.OwnLine.says c.args.bytes.now c.lines.rest.now cut.result.rest.now cut.result.line.now c.lines.lines c.push.new.self c.in-Ok.line so_far.read cut.ensures.lines c.in-Ok.ensures.line c.in_ok-push-in-Ok.ensures.pushed;
    }
