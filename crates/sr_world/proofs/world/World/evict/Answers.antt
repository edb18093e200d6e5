use Rattle.std.proofs.Common.{refl, ◌-◌}
use Rattle.sr_lines.specs.Events.{DoEvict}
use Rattle.sr_runs.specs.Runs.{Acts}
use Rattle.sr_world.proofs.EventLemmas.{same-setting, some-seat, world-drawn, world-goes}
use Rattle.sr_world.proofs.world.World.evict.Goals as goal

pub evict-requires : goal.evict-requires
evict-requires c = record { stands = (c.args.self.now.server, some-seat c.args.self.now c.args.client c.index_mut.result.now c.requires.world c.requires.number c.index_mut.ensures.value) }

pub returns-clause-acts : goal.returns-clause-acts
returns-clause-acts c =
    world-goes (λ n s. Acts s (DoEvict n c.args.place)) c.args.self.now _ c.args.client c.index_mut.result.now c.evict.new.self c.evict.result c.requires.number c.index_mut.ensures.value refl refl (c.evict.ensures.goes c.args.self.now.server)

pub returns-clause-drawn : goal.returns-clause-drawn
returns-clause-drawn c = world-drawn c.args.self.now c.args.client c.index_mut.result.now c.evict.new.self c.args.self.now.server.log c.evict.result c.requires.number c.index_mut.ensures.value refl c.evict.ensures.draws

pub returns-clause-stays : goal.returns-clause-stays
returns-clause-stays c = same-setting c.args.self.now _ (c.args.client - 1) c.evict.new.self refl refl refl
