use Rattle.std.proofs.Common.{◌≡◌, length, true, ◌∙◌, sym, ap}
use Rattle.sr_image.specs.Reading.{same_texts, some_texts}
use Rattle.sr_image.specs.Spelling.{creates}
use Rattle.sr_image.proofs.Bodies.{behind-texts}
use Rattle.sr_image.proofs.read.read_body.Goals as goal

pub returns-then-are_same : goal.returns-then-are_same
returns-then-are_same c =
    let same : same_texts c.in-Ok.found (creates c.args.schema.now) ≡ true = cc (c.if-are_same.ensures, c.as_slice.ensures, c.as_slice-in-Ok.ensures, c.in_ok-texts-in-Ok.ensures) in
    let s = c.split_at.ensures.back in
    let e = c.over-cursor.ensures in
    let read = ap some_texts (sym (c.over-cursor.ensures ∙ c.split_at.ensures.back)) ∙ c.in-Ok.ensures in
    behind-texts c.finish.result c.args.schema.now (creates c.args.schema.now) c.in-Ok.found (length c.args.bytes.now) c.read_texts.new.bytes _ read same c.finish.ensures
