use Rattle.std.proofs.Common.{refl, ◌-◌, arith, subst, sym, Ok}
use Rattle.sr_lines.specs.Events.{DoQuery}
use Rattle.sr_runs.specs.Runs.{Acts}
use Rattle.sr_client.specs.Bound.{IsMeaning}
use Rattle.sr_world.specs.Worlds.{drawn_by}
use Rattle.sr_world.proofs.EventLemmas.{same-setting, seat-room, seat-schema, some-seat, world-drawn, world-goes}
use Rattle.sr_world.proofs.world.World.ask.Goals as goal

pub query-requires-clause-stands : goal.query-requires-clause-stands
query-requires-clause-stands c = (c.args.self.now.server, some-seat c.args.self.now c.args.client c.index_mut.result.now c.requires.world c.requires.number c.index_mut.ensures.value)

pub query-requires-clause-meant : goal.query-requires-clause-meant
query-requires-clause-meant c =
    (c.requires.meant.0, subst (λ schema. IsMeaning schema c.args.query c.requires.meant.0) (sym (seat-schema c.args.self.now c.args.client c.index_mut.result.now c.requires.world c.requires.number c.index_mut.ensures.value)) c.requires.meant.1)

pub query-requires-clause-room : goal.query-requires-clause-room
query-requires-clause-room c = let room = seat-room drawn_by c.args.self.now c.args.client 2 c.index_mut.result.now c.requires.number c.index_mut.ensures.value c.requires.room in omega (arith, room)

pub returns-clause-acts : goal.returns-clause-acts
returns-clause-acts c = λ meaning means.
    world-goes (λ n s. Acts s (DoQuery n (Ok meaning))) c.args.self.now _ c.args.client c.index_mut.result.now c.query.new.self c.query.result c.requires.number c.index_mut.ensures.value refl refl
    (c.query.ensures.goes c.args.self.now.server meaning
    (subst (λ schema. IsMeaning schema c.args.query meaning) (sym (seat-schema c.args.self.now c.args.client c.index_mut.result.now c.requires.world c.requires.number c.index_mut.ensures.value)) means))

pub returns-clause-drawn : goal.returns-clause-drawn
returns-clause-drawn c = world-drawn c.args.self.now c.args.client c.index_mut.result.now c.query.new.self c.args.self.now.server.log c.query.result c.requires.number c.index_mut.ensures.value refl c.query.ensures.draws

pub returns-clause-stays : goal.returns-clause-stays
returns-clause-stays c = same-setting c.args.self.now _ (c.args.client - 1) c.query.new.self refl refl refl
