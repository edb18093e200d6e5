use Rattle.std.proofs.Common.{◌≡◌, ℕ, ◌-◌, List, length, drop, subst, sym, ◌∙◌, arith}
use Rattle.std.proofs.lemmas.List.{take_all, length-drop}
use Rattle.sr_bytes.specs.Views.{Reads}
use Rattle.sr_wire.specs.Bodies.{message_of}
use Rattle.sr_wire.specs.Reading.{fields_at}
use Rattle.sr_wire.proofs.frame.in_frame.Goals as goal

pub returns : goal.returns
returns c =
    let reading = fields_at c.args.kind (drop 5 c.args.frame.now) in
    let start : c.over-fields.result ≡ drop 5 c.args.frame.now =
    c.over-fields.ensures ∙ take_all (length c.args.frame.now - 5) (drop 5 c.args.frame.now) (omega (arith, length-drop 5 c.args.frame.now)) in
    let read : Reads message_of c.fields_of-read.result c.fields_of-read.new.fields reading =
    subst (λ (bytes : List ℕ). Reads message_of c.fields_of-read.result c.fields_of-read.new.fields (fields_at c.args.kind bytes)) start c.fields_of-read.ensures in
    c.finished.ensures reading (subst (λ (left : List ℕ). Reads message_of c.fields_of-read.result left reading) (sym c.left.ensures) read)
