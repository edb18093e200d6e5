use Rattle.std.proofs.Common.{refl}
use Rattle.sr_wire.proofs.Sizes.{few_are_sendable}
use Rattle.sr_bench.proofs.messages.notice.Goals as goal

pub returns : goal.returns
returns c = rw (c.in_ok-push-2.ensures.pushed, c.in_ok-push.ensures.pushed, c.new-told.ensures) (few_are_sendable _ (rw c.in_ok-row.ensures refl) refl)
