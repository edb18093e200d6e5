use Rattle.std.proofs.Common.{◌≡◌, true, subst, sym, inl, inr}
use Rattle.std.specs.Prelude.{not}
use Rattle.sr_cell.specs.Cells.{cell_le}
use Rattle.sr_keyed.specs.Keyed.{is_up_to}
use Rattle.sr_tables.proofs.Ends.{below-end, equal-up_to, so-of}
use Rattle.sr_tables.proofs.span.high_compared.Goals as goal

pub returns-in-Lt : goal.returns-in-Lt
returns-in-Lt c v kind passes =
    let below : not (cell_le c.args.value.now v) ≡ true = so-of v (not (cell_le c.args.value.now v)) (rw c.in-Lt.is at passes) in
    subst (λ end. is_up_to end v ≡ true) (sym c.of_kind.ensures) (below-end c.args.kind v c.args.value.now kind below)

pub returns-in-Eq : goal.returns-in-Eq
returns-in-Eq c v kind passes = elim c.in-Eq.is [
  | inl is ↦ equal-up_to v c.args.value.now (rw is at passes)
  | inr is ↦ so-of v (cell_le v c.args.value.now) (rw is at passes)
]
