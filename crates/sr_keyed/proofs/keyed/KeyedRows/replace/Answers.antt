use Rattle.std.proofs.Common.{◌≡◌, true, false, ap, ◌∙◌, sym, subst}
use Rattle.std.specs.List.{list_all}
use Rattle.std.specs.Map.{values_of}
use Rattle.sr_cell.specs.Columns.{are_values}
use Rattle.sr_keyed.proofs.Replaced.{replace-row, replace-keyed}
use Rattle.sr_cell.specs.Cells.{cell_at, cell_eq}
use Rattle.sr_keyed.specs.Places.{is_indexed}
use Rattle.sr_keyed.proofs.PlaceOrder.{place_order}
use Rattle.sr_keyed.proofs.Values.{all-replaced, others-replaced}
use Rattle.sr_keyed.proofs.keyed.KeyedRows.replace.Goals as goal

pub invariant_of-self : goal.invariant_of-self
invariant_of-self c = (
  rw c.put_in_place.ensures.replaced (replace-keyed c.self.inside.key c.self.inside.kind c.args.row c.self.inside.rows.entries c.self.invariant.0),
  c.put_in_place.ensures.ordered,
  rw c.put_in_place.ensures.replaced
      (subst (λ rows. list_all are_values rows ≡ true) (sym (replace-row c.self.inside.key c.self.inside.kind c.args.row c.self.inside.rows.entries c.self.invariant.0 c.self.invariant.1))
      (all-replaced are_values c.self.inside.key c.args.row (values_of c.self.inside.rows.entries) c.self.invariant.2 c.know_values.ensures)),
  rw c.put_in_place.ensures.replaced
      (subst (λ rows. list_all (is_indexed place_order c.add.new.self c.self.inside.key) rows ≡ true)
      (sym (replace-row c.self.inside.key c.self.inside.kind c.args.row c.self.inside.rows.entries c.self.invariant.0 c.self.invariant.1))
      (others-replaced (is_indexed place_order c.self.inside.index c.self.inside.key) (is_indexed place_order c.add.new.self c.self.inside.key) c.self.inside.key c.args.row
      (λ r apart h. c.add.ensures.stays r (c.forget.ensures r (subst (λ v. cell_eq (cell_at r c.self.inside.key) v ≡ false) (sym c.key_at.ensures) apart) h))
      c.add.ensures.added (values_of c.self.inside.rows.entries) c.self.invariant.3)),
)

pub forget-requires : goal.forget-requires
forget-requires c = (c.self.inside.kind, c.self.invariant.0)

pub returns : goal.returns
returns c =
    rw (← c.self.view_is) (ap (λ rows. record { key = c.self.inside.key; kind = c.self.inside.kind; rows = rows })
    (ap values_of c.put_in_place.ensures.replaced ∙ replace-row c.self.inside.key c.self.inside.kind c.args.row c.self.inside.rows.entries c.self.invariant.0 c.self.invariant.1))
