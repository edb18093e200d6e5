use Rattle.std.proofs.Common.{◌≡◌, ◌≤◌, drop, length}
use Rattle.sr_model.specs.Width.{product, total}
use Rattle.sr_query.specs.Meant.{members}
use Rattle.sr_condition.proofs.width.+condition.Given as goal

abbrev pub invariant-product-loop-i : goal.invariant-product-loop-i
invariant-product-loop-i l =
    record { inside : l.i ≤ length l.all; is : l.product ≡ product l.plain (members (drop l.i l.all)); most : l.product ≤ 65536 }

abbrev pub invariant-total-loop-i : goal.invariant-total-loop-i
invariant-total-loop-i l =
    record { inside : l.i ≤ length l.all; is : l.total ≡ total l.plain (members (drop l.i l.all)); most : l.total ≤ 65536 }

abbrev pub decreases-product-loop-i : goal.decreases-product-loop-i
decreases-product-loop-i l = l.i

abbrev pub decreases-total-loop-i : goal.decreases-total-loop-i
decreases-total-loop-i l = l.i
