use Rattle.sr_load.proofs.Texts.{is_text, is_no_text}
use Rattle.sr_load.proofs.fields.text_of.Goals as goal

pub returns-in_ok-of-in-Ok : goal.returns-in_ok-of-in-Ok
returns-in_ok-of-in-Ok c =
    let same = c.in-Ok.ensures.cases in
    is_text c.args.bytes.now c.in-Ok.text.now c.in_ok-of-in-Ok.field-0 c.in_ok-of-in-Ok.ensures same.0 same.1

pub returns-in-Err : goal.returns-in-Err
returns-in-Err c = is_no_text c.args.bytes.now c.in-Err.ensures.cases.0
