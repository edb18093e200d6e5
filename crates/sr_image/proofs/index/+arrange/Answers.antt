use Rattle.std.proofs.Common.{◌≡◌, ℕ, List, ◌++◌, sym, subst}
use Rattle.std.specs.List.Sorted.{IsPermutation}
use Rattle.std.proofs.lemmas.List.Sorted.{IsPermutation-append, IsPermutation-trans}
use Rattle.sr_image.proofs.index.+arrange.Goals as goal

pub returns : goal.returns
returns t c =
    let after : List ℕ = c.arrange-2.new.order ++ c.arrange-3.new.order in
    IsPermutation-trans c.args.order.now c.sort_block.new.block after c.sort_block.ensures
    (subst (λ (xs : List ℕ). IsPermutation xs after) (sym c.split_at_mut-near.ensures.value)
    (IsPermutation-append c.split_at_mut-near.result.0.now c.arrange-2.new.order c.split_at_mut-near.result.1.now c.arrange-3.new.order c.arrange-2.ensures c.arrange-3.ensures))
