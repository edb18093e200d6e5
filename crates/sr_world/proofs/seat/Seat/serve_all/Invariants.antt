use Rattle.std.proofs.Common.{◌≡◌, ◌≤◌, ◌+◌, length}
use Rattle.sr_log.specs.Held.{newest as newest_of}
use Rattle.sr_world.specs.Seats.{Delivers, IsSomeSeat, SeatGoes}
use Rattle.sr_world.specs.Worlds.{weight}
use Rattle.sr_world.proofs.seat.Seat.serve_all.Given as goal

abbrev pub invariant-mail : goal.invariant-mail
invariant-mail l = record {
  goes : SeatGoes (λ n. Delivers l.done.frames n) l.initial.self l.initial.server l.self l.server l.done.lines;
  some : IsSomeSeat l.self l.server;
  lighter : newest_of l.server.log + weight l.self ≤ newest_of l.initial.server.log + weight l.initial.self;
  client : l.self.client ≡ l.initial.self.client;
  schema : l.server.tables.schema ≡ l.initial.server.tables.schema;
}

abbrev pub decreases-mail : goal.decreases-mail
decreases-mail l = length l.self.to_server
