use Rattle.std.proofs.Common.{◌≡◌, drop}
use Rattle.sr_semi.specs.Keys.{is_key}
use Rattle.sr_semi.proofs.keys.place_of.Given as goal

abbrev pub invariant-loop-i : goal.invariant-loop-i
invariant-loop-i l = is_key l.cells l.cell ≡ is_key (drop l.i l.cells) l.cell
