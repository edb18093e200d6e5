use Rattle.std.proofs.Common.{◌≡◌, ◌++◌, drop}
use Rattle.sr_store.specs.Fitted.{lasts_of}
use Rattle.sr_store.proofs.fit.lasts_of.Given as goal

abbrev pub invariant-loop-part : goal.invariant-loop-part
invariant-loop-part l = l.lasts ++ lasts_of l.schema (drop l.part-index l.parts) ≡ lasts_of l.schema l.parts
