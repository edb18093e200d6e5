use Rattle.std.proofs.Common.{◌≡◌, ℕ, ◌+◌, ◌≤◌, List, false, ltb, length, take, ap, ◌∙◌, refl, arith}
use Rattle.std.specs.Prelude.{Ok}
use Rattle.std.proofs.lemmas.Bool.{le-ltb}
use Rattle.std.proofs.lemmas.List.{length-take-le}
use Rattle.sr_cell.proofs.Columns.{are_bytes-fit}
use Rattle.sr_wire.specs.Bodies.{message_of}
use Rattle.sr_wire.specs.Reading.{cut, in_frame, go_on, Whole}
use Rattle.sr_wire.proofs.Decoding.{cut_is}
use Rattle.sr_wire.proofs.Frames.{length_is}
use Rattle.sr_wire.proofs.frame.frame_of.Goals as goal

all_there : (size : ℕ) (bytes : List ℕ) → size ≤ length bytes → cut size bytes ≡ Ok (take size bytes)
all_there size bytes whole = let long : ltb (length bytes) size ≡ false = le-ltb _ _ whole in rw long refl

pub invariant_of-result : goal.invariant_of-result
invariant_of-result c =
    let whole : c.args.length + 4 ≤ length c.args.bytes.now = omega arith in
    let f = cut_is c.args.bytes.now c.args.length c.args.kind (message_of c.in-Ok.body) (length (take (c.args.length + 4) c.args.bytes.now))
    (are_bytes-fit c.args.bytes.now c.type_inv.bytes) c.requires.length c.requires.kind whole c.in-Ok.ensures in
    (f.is, f.has)

pub returns-in-Ok : goal.returns-in-Ok
returns-in-Ok c =
    let whole : c.args.length + 4 ≤ length c.args.bytes.now = omega arith in
    let f = cut_is c.args.bytes.now c.args.length c.args.kind (message_of c.in-Ok.body) (length (take (c.args.length + 4) c.args.bytes.now))
    (are_bytes-fit c.args.bytes.now c.type_inv.bytes) c.requires.length c.requires.kind whole c.in-Ok.ensures in
    ap (λ r. go_on r (in_frame c.args.kind)) (all_there _ _ whole) ∙ c.in-Ok.ensures ∙ ap (Whole (message_of c.in-Ok.body)) (ap length f.is)

pub returns-in-Err : goal.returns-in-Err
returns-in-Err c =
    let whole : c.args.length + 4 ≤ length c.args.bytes.now = omega arith in
    ap (λ r. go_on r (in_frame c.args.kind)) (all_there _ _ whole) ∙ c.in-Err.ensures

pub in_frame-requires-clause-low : goal.in_frame-requires-clause-low
in_frame-requires-clause-low c =
    let whole : c.args.length + 4 ≤ length c.args.bytes.now = omega arith in
    rw (length-take-le (c.args.length + 4) c.args.bytes.now whole) (omega (arith, (length_is c.args.bytes.now c.args.length c.requires.length).some))
