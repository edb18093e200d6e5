use Rattle.std.proofs.Common.{◌≡◌, ℕ, ◌+◌, ◌*◌, ◌≤◌, List, length, IsTrue}
use Rattle.std.specs.List.{list_all, AllZip}
use Rattle.std.specs.Vec.Iter.{into_iter_items}
use Rattle.sr_lines.specs.Events.{ScriptEvent}
use Rattle.sr_reader.specs.Read.{IsEventLine, event_fits}
use Rattle.sr_world.specs.Worlds.{IsWorld, SameSetting, drawn, most_drawn}
use Rattle.sr_world.specs.Ran.{Stays}
use Rattle.sr_world.proofs.ReplayLemmas.{RanSome}
use Rattle.sr_world.proofs.replay.run_events.Given as goal

abbrev pub invariant-loop-line : goal.invariant-loop-line
invariant-loop-line g l = record {
  ran : (events : List (ℕ × ScriptEvent)) → AllZip (IsEventLine l.fn.world.server.tables.schema) l.fn.lines events
      → RanSome l.fn.world.eager l.fn.world.server.tables.schema (into_iter_items l.line-iterator) events l.fn.world l.world (g.K.Outside.writing l.fn.sink).written (g.K.Outside.writing l.sink).written;
  world : IsWorld l.world;
  setting : SameSetting l.fn.world l.world;
  fits : IsTrue (list_all (λ line. event_fits (length l.fn.world.seats.items) l.fn.world.server.tables.schema line.event) (into_iter_items l.line-iterator));
  room : drawn l.world + length (into_iter_items l.line-iterator) * most_drawn ≤ drawn l.fn.world + length l.fn.lines * most_drawn;
  same_faults : (g.K.Outside.writing l.sink).faults ≡ (g.K.Outside.writing l.fn.sink).faults;
  stays : Stays _ g.K.Outside.reading g.K.Outside.linking g.K.Outside.held g.K.Outside.complaints g.K.Outside.IsSteady l.fn.sink l.sink;
}
