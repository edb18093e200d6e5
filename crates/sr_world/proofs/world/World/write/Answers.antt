use Rattle.std.proofs.Common.{refl, ◌-◌, arith}
use Rattle.sr_lines.specs.Events.{DoWrite}
use Rattle.sr_runs.specs.Runs.{Acts}
use Rattle.sr_world.specs.Worlds.{drawn_by}
use Rattle.sr_world.proofs.EventLemmas.{same-setting, seat-room, some-seat, world-drawn, world-goes}
use Rattle.sr_world.proofs.world.World.write.Goals as goal

pub write-requires-clause-stands : goal.write-requires-clause-stands
write-requires-clause-stands c = (c.args.self.now.server, some-seat c.args.self.now c.args.client c.index_mut.result.now c.requires.world c.requires.number c.index_mut.ensures.value)

pub write-requires-clause-room : goal.write-requires-clause-room
write-requires-clause-room c = let room = seat-room drawn_by c.args.self.now c.args.client 2 c.index_mut.result.now c.requires.number c.index_mut.ensures.value c.requires.room in omega (arith, room)

pub returns-clause-acts : goal.returns-clause-acts
returns-clause-acts c =
    world-goes (λ n s. Acts s (DoWrite n c.args.sql.now)) c.args.self.now _ c.args.client c.index_mut.result.now c.write.new.self c.write.result c.requires.number c.index_mut.ensures.value refl refl (c.write.ensures.goes c.args.self.now.server)

pub returns-clause-drawn : goal.returns-clause-drawn
returns-clause-drawn c = world-drawn c.args.self.now c.args.client c.index_mut.result.now c.write.new.self c.args.self.now.server.log c.write.result c.requires.number c.index_mut.ensures.value refl c.write.ensures.draws

pub returns-clause-stays : goal.returns-clause-stays
returns-clause-stays c = same-setting c.args.self.now _ (c.args.client - 1) c.write.new.self refl refl refl
