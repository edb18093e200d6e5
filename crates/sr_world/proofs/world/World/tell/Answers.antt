use Rattle.std.proofs.Common.{subst, sym, Ok}
use Rattle.sr_lines.specs.Events.{DoExplain}
use Rattle.sr_runs.specs.Runs.{Acts}
use Rattle.sr_client.specs.Bound.{IsMeaning}
use Rattle.sr_world.proofs.EventLemmas.{seat-schema, some-seat, world-looks}
use Rattle.sr_world.proofs.world.World.tell.Goals as goal

pub explain-requires : goal.explain-requires
explain-requires c = record {
  stands = (c.args.self.now.server, some-seat c.args.self.now c.args.client c.index.result.now c.requires.world c.requires.number c.index.ensures);
  meant = (c.requires.meant.0, subst (λ schema. IsMeaning schema c.args.query.now c.requires.meant.0) (sym (seat-schema c.args.self.now c.args.client c.index.result.now c.requires.world c.requires.number c.index.ensures)) c.requires.meant.1);
}

pub returns : goal.returns
returns c = record {
  acts = λ meaning means.
      world-looks (λ n s. Acts s (DoExplain n (Ok meaning))) c.args.self.now c.args.client c.index.result.now c.explain.result c.requires.number c.index.ensures
      (c.explain.ensures.goes c.args.self.now.server meaning
      (subst (λ schema. IsMeaning schema c.args.query.now meaning) (sym (seat-schema c.args.self.now c.args.client c.index.result.now c.requires.world c.requires.number c.index.ensures)) means));
}
