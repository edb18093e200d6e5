use Rattle.std.proofs.Common.{◌≡◌, ◌-◌, length, ◌∙◌, arith, refl}
use Rattle.sr_bytes.specs.Spelling.{count_bytes}
use Rattle.sr_wire.specs.Spelling.{body_of}
use Rattle.sr_wire.proofs.Encoding.{behind_count, IsBehind}
use Rattle.sr_wire.proofs.encode.encode.Goals as goal

behind : (c : goal.After-len) → IsBehind c.push_body.new.out (body_of c.args.message.now)
behind c =
    let count : c.push_count.new.out ≡ count_bytes 0 = c.in_ok-push_count.ensures.written ∙ rw c.new-out.ensures refl in
    behind_count 0 c.push_body.new.out (body_of c.args.message.now) (c.in_ok-push_body.ensures.written ∙ rw count refl)

pub overflow_sub-length : goal.overflow_sub-length
overflow_sub-length c = omega (arith, (behind c).size, c.len.ensures)

pub overflow_cast-length : goal.overflow_cast-length
overflow_cast-length c = omega (arith, (behind c).size, c.len.ensures, c.requires.size)

pub put_length-requires : goal.put_length-requires
put_length-requires c =
    let count : c.push_count.new.out ≡ count_bytes 0 = c.in_ok-push_count.ensures.written ∙ rw c.new-out.ensures refl in
    let b = behind_count 0 c.push_body.new.out (body_of c.args.message.now) (c.in_ok-push_body.ensures.written ∙ rw count refl) in
    omega (arith, b.size)

pub returns-clause-written : goal.returns-clause-written
returns-clause-written c =
    let count : c.push_count.new.out ≡ count_bytes 0 = c.in_ok-push_count.ensures.written ∙ rw c.new-out.ensures refl in
    let b = behind_count 0 c.push_body.new.out (body_of c.args.message.now) (c.in_ok-push_body.ensures.written ∙ rw count refl) in
    let size : c.len.result - 4 ≡ length (body_of c.args.message.now) = omega (arith, b.size, c.len.ensures) in
    c.put_length.ensures ∙ rw (size, b.rest) refl
