use Rattle.std.proofs.Common.{refl, ◌-◌, arith}
use Rattle.sr_lines.specs.Events.{DoResume}
use Rattle.sr_runs.specs.Runs.{Acts}
use Rattle.sr_world.specs.Worlds.{drawn_by}
use Rattle.sr_world.proofs.EventLemmas.{same-setting, seat-room, some-seat, world-drawn, world-goes}
use Rattle.sr_world.proofs.world.World.resume.Goals as goal

pub resume-requires-clause-stands : goal.resume-requires-clause-stands
resume-requires-clause-stands c = (c.args.self.now.server, some-seat c.args.self.now c.args.client c.index_mut.result.now c.requires.world c.requires.number c.index_mut.ensures.value)

pub resume-requires-clause-room : goal.resume-requires-clause-room
resume-requires-clause-room c = let room = seat-room drawn_by c.args.self.now c.args.client 2 c.index_mut.result.now c.requires.number c.index_mut.ensures.value c.requires.room in omega (arith, room)

pub returns-clause-acts : goal.returns-clause-acts
returns-clause-acts c =
    world-goes (λ n s. Acts s (DoResume n)) c.args.self.now _ c.args.client c.index_mut.result.now c.resume.new.self c.resume.result c.requires.number c.index_mut.ensures.value refl refl (c.resume.ensures.goes c.args.self.now.server)

pub returns-clause-drawn : goal.returns-clause-drawn
returns-clause-drawn c = world-drawn c.args.self.now c.args.client c.index_mut.result.now c.resume.new.self c.args.self.now.server.log c.resume.result c.requires.number c.index_mut.ensures.value refl c.resume.ensures.draws

pub returns-clause-stays : goal.returns-clause-stays
returns-clause-stays c = same-setting c.args.self.now _ (c.args.client - 1) c.resume.new.self refl refl refl
