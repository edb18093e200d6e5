use Rattle.std.proofs.Common.{◌≡◌, drop}
use Rattle.sr_agg.specs.Starting.{place_among}
use Rattle.sr_agg.proofs.agg.place_in.Given as goal

abbrev pub invariant-loop-i : goal.invariant-loop-i
invariant-loop-i l = place_among 0 l.text l.texts ≡ place_among l.i l.text (drop l.i l.texts)
