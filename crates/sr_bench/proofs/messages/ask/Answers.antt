use Rattle.std.proofs.Common.{◌+◌, IsTrue, arith, length, refl}
use Rattle.std.proofs.lemmas.Grind.{common_steps}
use Rattle.std.specs.Prelude.{nat_le}
use Rattle.sr_wire.proofs.Sizes.{few_are_sendable}
use Rattle.sr_bench.proofs.messages.ask.Goals as goal

pub returns : goal.returns
returns c =
    let few : IsTrue (nat_le (0 + length c.in_ok-rects.rects) 16384) = grind (arith, common_steps, c.in_ok-rects.ensures.count, c.requires.high) in
    rw (c.in_ok-push.ensures.pushed, c.new-parts.ensures) (few_are_sendable _ (rw c.in_ok-rects.ensures.may refl) few)
