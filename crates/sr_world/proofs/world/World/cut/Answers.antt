use Rattle.std.proofs.Common.{refl, ◌-◌, arith, ap}
use Rattle.sr_log.specs.Held.{newest as newest_of}
use Rattle.sr_log.specs.Held.{Held}
use Rattle.sr_lines.specs.Events.{DoCut}
use Rattle.sr_runs.specs.Runs.{Acts}
use Rattle.sr_tables.specs.Stored.{Stored}
use Rattle.sr_world.specs.Worlds.{drawn_by}
use Rattle.sr_world.proofs.EventLemmas.{same-setting, seat-room, some-seat, world-drawn, world-goes}
use Rattle.sr_world.proofs.world.World.cut.Goals as goal

pub cut-requires-clause-stands : goal.cut-requires-clause-stands
cut-requires-clause-stands c = some-seat c.args.self.now c.args.client c.index_mut.result.now c.requires.world c.requires.number c.index_mut.ensures.value

pub cut-requires-clause-room : goal.cut-requires-clause-room
cut-requires-clause-room c = let room = seat-room drawn_by c.args.self.now c.args.client 2 c.index_mut.result.now c.requires.number c.index_mut.ensures.value c.requires.room in omega (arith, room)

pub returns-clause-acts : goal.returns-clause-acts
returns-clause-acts c =
    world-goes (λ n s. Acts s (DoCut n)) c.args.self.now _ c.args.client c.index_mut.result.now c.cut.new.self c.cut.result c.requires.number c.index_mut.ensures.value refl refl c.cut.ensures.goes

pub returns-clause-drawn : goal.returns-clause-drawn
returns-clause-drawn c = world-drawn c.args.self.now c.args.client c.index_mut.result.now c.cut.new.self c.cut.new.server.log c.cut.result c.requires.number c.index_mut.ensures.value (ap (λ (l : Held). newest_of l) c.cut.ensures.log) c.cut.ensures.draws

pub returns-clause-stays : goal.returns-clause-stays
returns-clause-stays c = same-setting c.args.self.now _ (c.args.client - 1) c.cut.new.self refl refl (ap (λ (t : Stored). t.schema) c.cut.ensures.tables)
