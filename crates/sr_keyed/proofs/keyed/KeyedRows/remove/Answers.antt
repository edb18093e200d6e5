use Rattle.std.proofs.Common.{◌≡◌, true, ap, ◌∙◌, sym, subst}
use Rattle.std.specs.List.{list_all}
use Rattle.std.specs.Map.{values_of}
use Rattle.sr_cell.specs.Columns.{are_values}
use Rattle.sr_keyed.proofs.Replaced.{remove-row, remove-keyed}
use Rattle.sr_keyed.specs.Places.{is_indexed}
use Rattle.sr_keyed.proofs.PlaceOrder.{place_order}
use Rattle.sr_keyed.proofs.Values.{all-without, others-without}
use Rattle.sr_keyed.proofs.keyed.KeyedRows.remove.Goals as goal

pub invariant_of-self : goal.invariant_of-self
invariant_of-self c = (
  rw c.remove.ensures.entries (remove-keyed c.self.inside.key c.self.inside.kind c.args.key.now c.self.inside.rows.entries c.self.invariant.0),
  c.remove.ensures.ordered,
  rw c.remove.ensures.entries
      (subst (λ rows. list_all are_values rows ≡ true) (sym (remove-row c.self.inside.key c.self.inside.kind c.args.key.now c.self.inside.rows.entries c.self.invariant.0 c.self.invariant.1))
      (all-without are_values c.self.inside.key c.args.key.now (values_of c.self.inside.rows.entries) c.self.invariant.2)),
  rw c.remove.ensures.entries
      (subst (λ rows. list_all (is_indexed place_order c.forget.new.index c.self.inside.key) rows ≡ true)
      (sym (remove-row c.self.inside.key c.self.inside.kind c.args.key.now c.self.inside.rows.entries c.self.invariant.0 c.self.invariant.1))
      (others-without (is_indexed place_order c.self.inside.index c.self.inside.key) (is_indexed place_order c.forget.new.index c.self.inside.key) c.self.inside.key c.args.key.now
      c.forget.ensures (values_of c.self.inside.rows.entries) c.self.invariant.3)),
)

pub forget-requires : goal.forget-requires
forget-requires c = (c.self.inside.kind, c.self.invariant.0)

pub returns : goal.returns
returns c =
    rw (← c.self.view_is) (ap (λ rows. record { key = c.self.inside.key; kind = c.self.inside.kind; rows = rows })
    (ap values_of c.remove.ensures.entries ∙ remove-row c.self.inside.key c.self.inside.kind c.args.key.now c.self.inside.rows.entries c.self.invariant.0 c.self.invariant.1))
