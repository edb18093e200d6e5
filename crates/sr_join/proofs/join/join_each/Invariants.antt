use Rattle.std.proofs.Common.{◌≡◌, ◌++◌, drop}
use Rattle.sr_join.specs.Joins.{answers_of, AreBy}
use Rattle.sr_join.proofs.join.join_each.Given as goal

abbrev pub invariant-loop-first : goal.invariant-loop-first
invariant-loop-first l = AreBy l.query.parts l.found → l.answer ++ answers_of l.query l.found (drop l.first-index l.firsts) ≡ answers_of l.query l.found l.firsts
