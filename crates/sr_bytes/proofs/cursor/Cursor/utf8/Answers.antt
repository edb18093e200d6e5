use Rattle.std.proofs.Common.{◌∙◌, ap, sym}
use Rattle.sr_bytes.specs.Reading.{Bad}
use Rattle.sr_bytes.proofs.Numbers.{is_text, is_no_text}
use Rattle.sr_bytes.proofs.cursor.Cursor.utf8.Goals as goal

pub returns-in-Ok : goal.returns-in-Ok
returns-in-Ok c =
    let same = c.in-Ok.ensures.cases in
    is_text c.args.count c.args.self.now c.in_ok-bytes.bytes.now c.front.new.self c.in-Ok.text.now c.in_ok-bytes.ensures same.0 same.1

pub returns-in-Err : goal.returns-in-Err
returns-in-Err c = is_no_text c.args.count c.args.self.now c.in_ok-bytes.bytes.now c.front.new.self c.in_ok-bytes.ensures c.in-Err.ensures.cases.0 ∙ ap Bad (sym c.self.view_is)
