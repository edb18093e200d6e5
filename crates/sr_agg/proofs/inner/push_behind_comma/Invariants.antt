use Rattle.std.proofs.Common.{◌≡◌, ◌++◌, drop}
use Rattle.std.specs.Prelude.{string_bytes}
use Rattle.sr_agg.specs.Inner.{behind_comma}
use Rattle.sr_agg.proofs.inner.push_behind_comma.Given as goal

abbrev pub invariant-loop-more : goal.invariant-loop-more
invariant-loop-more l = string_bytes l.text ++ behind_comma (drop l.more-index l.texts) ≡ string_bytes l.fn.text ++ behind_comma l.texts
