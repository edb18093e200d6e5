use Rattle.std.proofs.Common.{refl, ◌-◌, ap}
use Rattle.sr_log.specs.Held.{newest as newest_of}
use Rattle.sr_log.specs.Held.{Held}
use Rattle.sr_lines.specs.Events.{DoPush}
use Rattle.sr_runs.specs.Runs.{Acts}
use Rattle.sr_tables.specs.Stored.{Stored}
use Rattle.sr_world.proofs.EventLemmas.{same-setting, some-seat, unchanged-draws, world-drawn, world-goes}
use Rattle.sr_world.proofs.world.World.push.Goals as goal

pub push-requires : goal.push-requires
push-requires c = record { stands = some-seat c.args.self.now c.args.client c.index_mut.result.now c.requires.world c.requires.number c.index_mut.ensures.value }

pub returns-clause-acts : goal.returns-clause-acts
returns-clause-acts c =
    world-goes (λ n s. Acts s (DoPush n)) c.args.self.now _ c.args.client c.index_mut.result.now c.push.new.self c.push.result c.requires.number c.index_mut.ensures.value refl refl c.push.ensures.goes

pub returns-clause-drawn : goal.returns-clause-drawn
returns-clause-drawn c = world-drawn c.args.self.now c.args.client c.index_mut.result.now c.push.new.self c.push.new.server.log c.push.result c.requires.number c.index_mut.ensures.value (ap (λ (l : Held). newest_of l) c.push.ensures.log) (unchanged-draws c.index_mut.result.now c.push.new.self c.push.result c.push.ensures.draws)

pub returns-clause-stays : goal.returns-clause-stays
returns-clause-stays c = same-setting c.args.self.now _ (c.args.client - 1) c.push.new.self refl refl (ap (λ (t : Stored). t.schema) c.push.ensures.tables)
