use Rattle.std.proofs.Common.{refl, ◌-◌, arith}
use Rattle.sr_lines.specs.Events.{DoToClient}
use Rattle.sr_runs.specs.Runs.{Acts}
use Rattle.sr_world.specs.Worlds.{drawn_by}
use Rattle.sr_world.proofs.EventLemmas.{lighter-client, same-setting, seat-room, some-seat, world-goes, world-lightens}
use Rattle.sr_world.proofs.world.World.to_client.Goals as goal

pub receive-requires-clause-stands : goal.receive-requires-clause-stands
receive-requires-clause-stands c = (c.args.self.now.server, some-seat c.args.self.now c.args.client c.index_mut.result.now c.requires.world c.requires.number c.index_mut.ensures.value)

pub receive-requires-clause-room : goal.receive-requires-clause-room
receive-requires-clause-room c = let room = seat-room drawn_by c.args.self.now c.args.client 2 c.index_mut.result.now c.requires.number c.index_mut.ensures.value c.requires.room in omega (arith, room)

pub returns-clause-acts : goal.returns-clause-acts
returns-clause-acts c =
    world-goes (λ n s. Acts s (DoToClient n)) c.args.self.now _ c.args.client c.index_mut.result.now c.receive.new.self c.receive.result c.requires.number c.index_mut.ensures.value refl refl (c.receive.ensures.goes c.args.self.now.server)

pub returns-clause-lightens : goal.returns-clause-lightens
returns-clause-lightens c = world-lightens c.args.self.now c.args.client c.index_mut.result.now c.receive.new.self c.args.self.now.server.log c.receive.result c.requires.number c.index_mut.ensures.value (lighter-client c.args.self.now.server c.index_mut.result.now c.receive.new.self c.receive.result c.receive.ensures.lightens)

pub returns-clause-stays : goal.returns-clause-stays
returns-clause-stays c = same-setting c.args.self.now _ (c.args.client - 1) c.receive.new.self refl refl refl
