use Rattle.std.proofs.Common.{◌≡◌, map, not}
use Rattle.std.specs.Prelude.{filter}
use Rattle.sr_query.specs.Meant.{meant}
use Rattle.sr_bind.specs.OneTable.{is_on}
use Rattle.sr_bind.proofs.split.split.Given as goal

abbrev pub invariant-loop-conjunct : goal.invariant-loop-conjunct
invariant-loop-conjunct l = record {
  own : map meant l.own ≡ filter (is_on l.part) (map meant l.yielded);
  others : map meant l.others ≡ filter (λ b. not (is_on l.part b)) (map meant l.yielded);
}
