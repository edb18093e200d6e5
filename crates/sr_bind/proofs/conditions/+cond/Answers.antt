use Rattle.std.proofs.Common.{◌≡◌, ◌∷◌, ◌++◌, [], map, ap, ◌∙◌}
use Rattle.std.proofs.lemmas.List.{map_push}
use Rattle.sr_query.specs.Meant.{meant}
use Rattle.sr_bind.specs.AreBound.{are_bound}
use Rattle.sr_bind.proofs.Members.{members_are_bound, none_more_bound, one_more_bound, one_more_suits}
use Rattle.sr_bind.proofs.conditions.+cond.Goals as goal

pub bind_all-loop-cond-preserved : goal.bind_all-loop-cond-preserved
bind_all-loop-cond-preserved t c =
    let schema = c.args.schema.now in
    let tables = c.args.tables.now in
    let bs = map meant c.loop-cond.members in
    let b = meant c.in-Ok.member in
    let pushed : map meant c.push.new.self ≡ bs ++ b ∷ [] = ap (map meant) c.in_ok-push-in-Ok.ensures.pushed ∙ map_push meant c.loop-cond.members c.in-Ok.member in
    record {
      decided =
          one_more_bound schema tables c.args.conds.now c.loop-cond.cond-index c.cond-item.result bs _ b _ c.loop-cond-test.true c.cond-item.is c.in-Ok.ensures.decided pushed c.loop-cond.invariant.decided;
      suits = one_more_suits (are_bound schema tables) bs _ b pushed c.loop-cond.invariant.suits c.in-Ok.ensures.suits;
    }

pub bind_all-returns-clause-decided : goal.bind_all-returns-clause-decided
bind_all-returns-clause-decided t c =
    none_more_bound c.args.schema.now c.args.tables.now c.args.conds.now c.loop-cond.cond-index (map meant c.loop-cond.members) _ c.loop-cond-test.false c.loop-cond.invariant.decided

pub bind_all-returns-clause-suits : goal.bind_all-returns-clause-suits
bind_all-returns-clause-suits t c = rw (members_are_bound c.args.schema.now c.args.tables.now (map meant c.loop-cond.members)) c.loop-cond.invariant.suits
