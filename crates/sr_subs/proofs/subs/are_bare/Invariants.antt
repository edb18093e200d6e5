use Rattle.std.proofs.Common.{◌≡◌, drop}
use Rattle.std.specs.List.{list_all}
use Rattle.sr_union.specs.Search.{is_nothing}
use Rattle.sr_subs.proofs.subs.are_bare.Given as goal

abbrev pub invariant-loop-holding : goal.invariant-loop-holding
invariant-loop-holding l = list_all (λ h. is_nothing h.rects) l.holdings ≡ list_all (λ h. is_nothing h.rects) (drop l.holding-index l.holdings)
