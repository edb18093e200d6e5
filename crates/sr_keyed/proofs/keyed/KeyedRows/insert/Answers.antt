use Rattle.std.proofs.Common.{◌≡◌, true, false, sym, ap, subst, ◌∙◌}
use Rattle.std.specs.List.{list_all}
use Rattle.std.specs.BTreeMap.{insert_entry}
use Rattle.std.specs.Map.{values_of}
use Rattle.std.proofs.lemmas.Result.{on_ok_weaker}
use Rattle.sr_cell.specs.Cells.{cell_at}
use Rattle.sr_cell.specs.Columns.{are_values}
use Rattle.sr_model.specs.SortedRows.{has_key}
use Rattle.sr_rows.proofs.Elements.{list_all-with_row}
use Rattle.sr_keyed.specs.Keyed.{Keyed, is_of}
use Rattle.sr_keyed.proofs.Order.{order}
use Rattle.sr_keyed.specs.Places.{is_indexed}
use Rattle.sr_keyed.proofs.PlaceOrder.{place_order}
use Rattle.sr_keyed.proofs.Values.{list_all-weaker}
use Rattle.sr_keyed.proofs.Entries.{either_way, insert-row, insert-keyed}
use Rattle.sr_keyed.proofs.keyed.KeyedRows.insert.Goals as goal

pub invariant_of-self : goal.invariant_of-self
invariant_of-self c =
    let map = c.self.inside.rows.entries in
    let kind : is_of c.self.inside.kind (cell_at c.args.row c.self.inside.key) ≡ true =
    subst (λ (s : Keyed). is_of s.kind (cell_at c.args.row s.key) ≡ true) (sym c.self.view_is) c.requires.kind in
    let other : has_key c.self.inside.key (cell_at c.args.row c.self.inside.key) (values_of map) ≡ false =
    subst (λ (s : Keyed). has_key s.key (cell_at c.args.row s.key) s.rows ≡ false) (sym c.self.view_is) c.requires.other in
    let stays : list_all (is_indexed place_order c.add.new.self c.self.inside.key) (values_of map) ≡ true =
    list_all-weaker (is_indexed place_order c.self.inside.index c.self.inside.key) (is_indexed place_order c.add.new.self c.self.inside.key) c.add.ensures.stays (values_of map) c.self.invariant.3 in (
      either_way c.put.result c.put.ensures.put c.put.ensures.unchanged
          (λ e. rw (e, c.in-Ok.ensures, c.key_at.ensures) (insert-keyed c.self.inside.key c.self.inside.kind c.args.row map c.self.invariant.0 kind other))
          (λ e. rw e c.self.invariant.0),
      c.put.ensures.ordered,
      either_way c.put.result c.put.ensures.put c.put.ensures.unchanged
          (λ e. rw (e, c.in-Ok.ensures, c.key_at.ensures)
          (subst (λ rows. list_all are_values rows ≡ true) (sym (insert-row c.self.inside.key c.self.inside.kind c.args.row map c.self.invariant.0 kind other))
          (list_all-with_row are_values c.self.inside.key (values_of map) c.args.row c.self.invariant.2 c.know_values.ensures)))
          (λ e. rw e c.self.invariant.2),
      either_way c.put.result c.put.ensures.put c.put.ensures.unchanged
          (λ e. rw (e, c.in-Ok.ensures, c.key_at.ensures)
          (subst (λ rows. list_all (is_indexed place_order c.add.new.self c.self.inside.key) rows ≡ true) (sym (insert-row c.self.inside.key c.self.inside.kind c.args.row map c.self.invariant.0 kind other))
          (list_all-with_row (is_indexed place_order c.add.new.self c.self.inside.key) c.self.inside.key (values_of map) c.args.row stays c.add.ensures.added)))
          (λ e. rw e stays),
    )

pub returns-in-Ok-clause-inserted : goal.returns-in-Ok-clause-inserted
returns-in-Ok-clause-inserted c =
    let map = c.self.inside.rows.entries in
    let kind : is_of c.self.inside.kind (cell_at c.args.row c.self.inside.key) ≡ true =
    subst (λ (s : Keyed). is_of s.kind (cell_at c.args.row s.key) ≡ true) (sym c.self.view_is) c.requires.kind in
    let other : has_key c.self.inside.key (cell_at c.args.row c.self.inside.key) (values_of map) ≡ false =
    subst (λ (s : Keyed). has_key s.key (cell_at c.args.row s.key) s.rows ≡ false) (sym c.self.view_is) c.requires.other in
    on_ok_weaker c.put.result
    (λ e. rw (← c.self.view_is) (ap (λ rows. record { key = c.self.inside.key; kind = c.self.inside.kind; rows = rows })
    (ap values_of (e ∙ ap (λ k. insert_entry order map k c.args.row) (c.in-Ok.ensures ∙ c.key_at.ensures)) ∙ insert-row c.self.inside.key c.self.inside.kind c.args.row map c.self.invariant.0 kind other)))
    c.put.ensures.put
