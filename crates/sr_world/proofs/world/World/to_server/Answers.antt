use Rattle.std.proofs.Common.{refl, ◌-◌, arith}
use Rattle.sr_lines.specs.Events.{DoToServer}
use Rattle.sr_runs.specs.Runs.{Acts}
use Rattle.sr_world.specs.Worlds.{drawn_by}
use Rattle.sr_world.proofs.EventLemmas.{same-setting, seat-room, some-seat, world-goes, world-lightens}
use Rattle.sr_world.proofs.world.World.to_server.Goals as goal

pub serve-requires-clause-stands : goal.serve-requires-clause-stands
serve-requires-clause-stands c = some-seat c.args.self.now c.args.client c.index_mut.result.now c.requires.world c.requires.number c.index_mut.ensures.value

pub serve-requires-clause-room : goal.serve-requires-clause-room
serve-requires-clause-room c = let room = seat-room drawn_by c.args.self.now c.args.client 2 c.index_mut.result.now c.requires.number c.index_mut.ensures.value c.requires.room in omega (arith, room)

pub returns-clause-acts : goal.returns-clause-acts
returns-clause-acts c =
    world-goes (λ n s. Acts s (DoToServer n)) c.args.self.now _ c.args.client c.index_mut.result.now c.serve.new.self c.serve.result c.requires.number c.index_mut.ensures.value refl refl c.serve.ensures.goes

pub returns-clause-lightens : goal.returns-clause-lightens
returns-clause-lightens c = world-lightens c.args.self.now c.args.client c.index_mut.result.now c.serve.new.self c.serve.new.server.log c.serve.result c.requires.number c.index_mut.ensures.value c.serve.ensures.lightens

pub returns-clause-stays : goal.returns-clause-stays
returns-clause-stays c = same-setting c.args.self.now _ (c.args.client - 1) c.serve.new.self refl refl c.serve.ensures.schema
