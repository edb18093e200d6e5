use Rattle.std.proofs.Common.{take}
use Rattle.std.specs.List.{AllZip}
use Rattle.sr_client.specs.Explaining.{IsExplained}
use Rattle.sr_client.proofs.explain.explained.Given as goal

abbrev pub invariant-loop-part : goal.invariant-loop-part
invariant-loop-part l = AllZip (IsExplained l.regions l.asks) (take l.part-index l.parts) l.all
