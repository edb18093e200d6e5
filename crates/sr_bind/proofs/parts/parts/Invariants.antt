use Rattle.std.proofs.Common.{◌≡◌, ℕ, ◌≤◌, drop, map}
use Rattle.std.specs.Prelude.{filter}
use Rattle.sr_query.specs.Binding.{parts_from}
use Rattle.sr_query.specs.Bound.{output_of}
use Rattle.sr_query.specs.Meant.{meant}
use Rattle.sr_bind.specs.OneTable.{is_on}
use Rattle.sr_bind.proofs.Narrowing.{Going}
use Rattle.sr_bind.proofs.parts.parts.Given as goal

abbrev pub invariant-loop-part : goal.invariant-loop-part
invariant-loop-part l =
    let bs = map meant l.fn.conjuncts in
    let columns = map output_of l.named in
    record {
      going : Going l.schema l.parts (parts_from l.schema 0 l.tables columns bs) (parts_from l.schema l.part (drop l.part l.tables) columns bs);
      left : (k : ℕ) → l.part ≤ k → filter (is_on k) (map meant l.left) ≡ filter (is_on k) bs;
    }
