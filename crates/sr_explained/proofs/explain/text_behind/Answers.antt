use Rattle.sr_explained.proofs.FirstClient.{has-seat}
use Rattle.sr_explained.proofs.explain.text_behind.Goals as goal

pub text_over-text-requires-clause-first : goal.text_over-text-requires-clause-first
text_over-text-requires-clause-first c =
    let wrote = c.in-Ok.ensures.whole in
    has-seat c.args.options c.args.script.now c.args.loads.now wrote.trace wrote.last c.in-Ok.world c.requires.clients wrote.traced wrote.stands
