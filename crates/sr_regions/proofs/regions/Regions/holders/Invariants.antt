use Rattle.std.proofs.Common.{◌≡◌, take}
use Rattle.sr_regions.specs.Holders.{holders_of}
use Rattle.sr_regions.proofs.regions.Regions.holders.Given as goal

abbrev pub invariant-loop-number : goal.invariant-loop-number
invariant-loop-number l = record {
  classes : l.classes ≡ holders_of (take l.number l.self) l.table l.key;
  candidates : l.candidates ≡ l.initial.candidates;
}
