use Rattle.std.proofs.Common.{◌≡◌, [], ◌∷◌, map, drop}
use Rattle.sr_join.specs.Joins.{choices, join_of, AreBy}
use Rattle.sr_join.proofs.join.choose.Given as goal

abbrev pub invariant-loop-join : goal.invariant-loop-join
invariant-loop-join l =
    AreBy l.query.parts l.found
    → choices l.found (map (join_of l.query.parts) l.query.joins) (l.fn.first ∷ []) ≡ choices l.found (map (join_of l.query.parts) (drop l.join-index l.join-items)) l.chosen
