use Rattle.std.proofs.Common.{◌≡◌, drop, fold, map}
use Rattle.sr_agg.specs.Inner.{spelling, with_text}
use Rattle.sr_agg.proofs.inner.push_names.Given as goal

abbrev pub invariant-loop-name : goal.invariant-loop-name
invariant-loop-name l = fold with_text l.texts (map spelling (drop l.name-index l.names)) ≡ fold with_text l.fn.texts (map spelling l.names)
