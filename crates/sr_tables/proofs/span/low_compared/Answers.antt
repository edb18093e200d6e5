use Rattle.std.proofs.Common.{◌≡◌, true, subst, sym, inl, inr}
use Rattle.std.specs.Prelude.{not}
use Rattle.sr_cell.specs.Cells.{cell_le}
use Rattle.sr_keyed.specs.Keyed.{is_from}
use Rattle.sr_tables.proofs.Ends.{above-end, equal-from, so-of}
use Rattle.sr_tables.proofs.span.low_compared.Goals as goal

pub returns-in-Gt : goal.returns-in-Gt
returns-in-Gt c v kind passes =
    let above : not (cell_le v c.args.value.now) ≡ true = so-of v (not (cell_le v c.args.value.now)) (rw c.in-Gt.is at passes) in
    subst (λ end. is_from end v ≡ true) (sym c.of_kind.ensures) (above-end c.args.kind v c.args.value.now kind above)

pub returns-in-Eq : goal.returns-in-Eq
returns-in-Eq c v kind passes = elim c.in-Eq.is [
  | inl is ↦ equal-from v c.args.value.now (rw is at passes)
  | inr is ↦ so-of v (cell_le c.args.value.now v) (rw is at passes)
]
