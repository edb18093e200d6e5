use Rattle.std.proofs.Common.{◌≡◌, ◌++◌, drop}
use Rattle.sr_store.specs.Renewing.{touching}
use Rattle.sr_store.proofs.restamp.touching_rects.Given as goal

abbrev pub invariant-loop-part : goal.invariant-loop-part
invariant-loop-part l = l.rects ++ touching (drop l.part-index l.parts) l.table l.attrs ≡ touching l.parts l.table l.attrs
