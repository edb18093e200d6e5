use Rattle.std.proofs.Common.{refl, ◌-◌, arith}
use Rattle.sr_world.specs.Worlds.{weight}
use Rattle.sr_world.proofs.EventLemmas.{same-setting, seat-room, some-seat, world-lightens, world-settles}
use Rattle.sr_world.proofs.world.World.deliver.Goals as goal

pub settle-requires-clause-stands : goal.settle-requires-clause-stands
settle-requires-clause-stands c = some-seat c.args.self.now c.args.client c.index_mut.result.now c.requires.world c.requires.number c.index_mut.ensures.value

pub settle-requires-clause-room : goal.settle-requires-clause-room
settle-requires-clause-room c = let room = seat-room weight c.args.self.now c.args.client 2 c.index_mut.result.now c.requires.number c.index_mut.ensures.value c.requires.room in omega (arith, room)

pub returns-clause-settles : goal.returns-clause-settles
returns-clause-settles c = world-settles c.args.self.now _ c.args.client c.index_mut.result.now c.settle.new.self c.settle.result c.requires.number c.index_mut.ensures.value refl refl c.settle.ensures.settles

pub returns-clause-lightens : goal.returns-clause-lightens
returns-clause-lightens c = world-lightens c.args.self.now c.args.client c.index_mut.result.now c.settle.new.self c.settle.new.server.log c.settle.result c.requires.number c.index_mut.ensures.value c.settle.ensures.lightens

pub returns-clause-stays : goal.returns-clause-stays
returns-clause-stays c = same-setting c.args.self.now _ (c.args.client - 1) c.settle.new.self refl refl c.settle.ensures.schema
