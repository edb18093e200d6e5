use Rattle.std.proofs.Common.{◌≤◌}
use Rattle.sr_world.specs.Worlds.{Goes, SameSetting, StandsForSome, potential}
use Rattle.sr_world.proofs.EventLemmas.{Leaves}
use Rattle.sr_world.proofs.world.World.settle_all.Given as goal

abbrev pub invariant-clients : goal.invariant-clients
invariant-clients l = record {
  goes : Goes (Leaves l.place) l.initial.self l.self l.lines;
  some : StandsForSome l.self;
  lighter : potential l.self ≤ potential l.initial.self;
  stays : SameSetting l.initial.self l.self;
}
