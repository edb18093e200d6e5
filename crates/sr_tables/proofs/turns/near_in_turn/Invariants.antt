use Rattle.std.proofs.Common.{take, map}
use Rattle.sr_tables.proofs.InTurn.{IsFound}
use Rattle.sr_tables.proofs.turns.near_in_turn.Given as goal

abbrev pub invariant-loop-i : goal.invariant-loop-i
invariant-loop-i l = IsFound l.rows.key l.rows.rows (map (λ r. r.now) l.near.items) (take l.i l.rects) l.last
