use Rattle.std.proofs.Common.{◌≡◌, ◌++◌, ◌+◌, map, take, drop}
use Rattle.sr_regions.specs.Touched.{told_one, count_touched}
use Rattle.sr_regions.proofs.regions.Regions.tell.Given as goal

abbrev pub invariant-loop-number : goal.invariant-loop-number
invariant-loop-number g l = record {
  told : l.self ≡ map (told_one l.tell) (take l.number l.fn.self) ++ drop l.number l.fn.self;
  candidates : l.candidates ≡ l.initial.candidates;
  counted : l.steps ≡ l.fn.steps + count_touched l.tell (take l.number l.fn.self);
}
