use Rattle.std.proofs.Common.{◌≡◌}
use Rattle.sr_server.specs.Outboxes.{left_on}
use Rattle.sr_world.proofs.GivenLemmas.{GivenSoFar}
use Rattle.sr_world.proofs.seat.Seat.send_left.Given as goal

abbrev pub invariant-messages : goal.invariant-messages
invariant-messages l = record {
  so_far : GivenSoFar l.initial.self l.self (left_on l.initial.outbox l.server) (left_on l.outbox l.server) l.frames;
  others : l.outbox ≡ record l.initial.outbox { left = l.outbox.left };
  rest : l.self ≡ record l.initial.self { to_client = l.self.to_client };
}
