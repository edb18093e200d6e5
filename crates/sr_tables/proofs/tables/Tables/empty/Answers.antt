use Rattle.std.proofs.Common.{subst, ap, ◌∙◌}
use Rattle.std.specs.List.{AllZip}
use Rattle.sr_tables.specs.Stored.{IsKeyed, are_few}
use Rattle.sr_tables.proofs.Few.{few_empty}
use Rattle.sr_tables.proofs.tables.Tables.empty.Goals as goal

pub invariant_of-result : goal.invariant_of-result
invariant_of-result c = (
  c.requires,
  subst (λ tables. AllZip IsKeyed tables c.in_ok-rows.rows.items) c.as_slice.ensures c.in_ok-rows.ensures.keyed,
  ap (λ tables. are_few tables) c.in_ok-rows.ensures.none ∙ few_empty c.as_slice.result.now,
)
