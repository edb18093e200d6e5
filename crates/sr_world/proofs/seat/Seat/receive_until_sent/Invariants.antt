use Rattle.std.proofs.Common.{◌≤◌, ◌+◌, length}
use Rattle.sr_world.specs.Seats.{Delivers, IsSomeSeat, SeatGoes}
use Rattle.sr_world.specs.Worlds.{rank, weight}
use Rattle.sr_world.proofs.seat.Seat.receive_until_sent.Given as goal

abbrev pub invariant-mail : goal.invariant-mail
invariant-mail l = record {
  goes : SeatGoes (λ n. Delivers l.done.frames n) l.initial.self l.server l.self l.server l.done.lines;
  some : IsSomeSeat l.self l.server;
  lighter : weight l.self ≤ weight l.initial.self;
  low : rank l.self.client.out + length l.self.to_server ≤ rank l.initial.self.client.out;
}

abbrev pub decreases-mail : goal.decreases-mail
decreases-mail l = length l.self.to_client
