use Rattle.sr_cell.specs.Clients.{most_clients}
use Rattle.sr_reader.specs.Lined.{IsLine}
use Rattle.sr_setup.specs.Files.{schema_fault}
use Rattle.sr_setup.proofs.Walks.{judged_more, more_lines}
use Rattle.sr_setup.proofs.schema_file.schema_lines.Goals as goal

pub lines-preserved : goal.lines-preserved
lines-preserved c =
    let cut = c.cut_line-cut in
    let so_far = c.lines.invariant in
    record {
      judged = judged_more schema_fault c.args.bytes.now c.lines.rest.now cut.result.rest.now cut.result.line.now c.lines.number so_far.judged cut.ensures.lines cut.ensures.shorter c.in-Ok.ensures.inside;
      read = more_lines (IsLine most_clients) c.args.bytes.now c.lines.rest.now cut.result.rest.now cut.result.line.now c.lines.lines c.push.new.self c.in-Ok.line so_far.read cut.ensures.lines c.in-Ok.ensures.line c.in_ok-push-in-Ok.ensures.pushed;
    }
