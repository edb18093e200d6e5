use Rattle.sr_world.proofs.ExplainLemmas.{explain-goes, few-regions, some-stands}
use Rattle.std.proofs.Common.{arith}
use Rattle.sr_world.proofs.seat.Seat.explain.Goals as goal

pub explain-requires-clause-stands : goal.explain-requires-clause-stands
explain-requires-clause-stands c = some-stands c.args.self.now c.requires.stands

pub lines_of_explain-requires : goal.lines_of_explain-requires
lines_of_explain-requires c =
    let few = few-regions c.args.self.now c.requires.stands in
    let all = c.in_ok-explanation.ensures.victims in
    record { few = omega (arith, few, all) }

pub returns : goal.returns
returns c = record {
  goes = λ server meaning means.
      explain-goes c.args.self.now server meaning c.in_ok-explanation.explanation c.lines_of_explain.result (c.in_ok-explanation.ensures.explains meaning means) c.lines_of_explain.ensures;
}
