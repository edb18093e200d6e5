use Rattle.std.proofs.Common.{◌≡◌, ◌∷◌, ap, sym, subst, ◌∙◌}
use Rattle.std.specs.Prelude.{filter}
use Rattle.std.specs.List.{list_all}
use Rattle.std.specs.Vec.Iter.{into_iter_items}
use Rattle.sr_cell.specs.Columns.{fits_columns}
use Rattle.sr_model.specs.SortedRows.{with_row, with_rows}
use Rattle.sr_tables.specs.Stored.{IsKeyed}
use Rattle.sr_tables.specs.Inserts.{are_apart}
use Rattle.sr_tables.specs.Added.{is_changed, is_unchanged}
use Rattle.sr_tables.proofs.Changing.{apart-lacks}
use Rattle.sr_tables.proofs.Taking.{fresh_go}
use Rattle.sr_tables.proofs.Keeping.{all_first, all_rest, apart_first, apart_rest, key-kind, key-within, keyed-row}
use Rattle.sr_tables.proofs.put.put_each.Goals as goal

pub insert-requires-clause-cell : goal.insert-requires-clause-cell
insert-requires-clause-cell c =
    let t = c.args.table.now in
    let first = c.in-Some.ensures.steps.0 in
    let fits = all_first (fits_columns t.columns) c.in-Some.row _ (ap (λ xs. list_all (fits_columns t.columns) xs) (sym first) ∙ c.loop-row.invariant.fits) in
    key-within t c.loop-row.rows c.in-Some.row c.loop-row.invariant.keyed c.requires.key fits

pub insert-requires-clause-kind : goal.insert-requires-clause-kind
insert-requires-clause-kind c =
    let t = c.args.table.now in
    let first = c.in-Some.ensures.steps.0 in
    let fits = all_first (fits_columns t.columns) c.in-Some.row _ (ap (λ xs. list_all (fits_columns t.columns) xs) (sym first) ∙ c.loop-row.invariant.fits) in
    key-kind t c.loop-row.rows c.in-Some.row c.loop-row.invariant.keyed c.requires.key fits

pub insert-requires-clause-other : goal.insert-requires-clause-other
insert-requires-clause-other c =
    let t = c.args.table.now in
    let rows = c.loop-row.rows.rows in
    let first = c.in-Some.ensures.steps.0 in
    let apart = apart_first t.key rows c.in-Some.row _ (ap (λ xs. are_apart t.key rows xs) (sym first) ∙ c.loop-row.invariant.apart) in
    let lacks = apart-lacks t.key rows c.in-Some.row apart in
    let key = c.loop-row.invariant.keyed.key in
    cc

pub loop-row-preserved : goal.loop-row-preserved
loop-row-preserved c =
    let t = c.args.table.now in
    let key = t.key in
    let rows = c.loop-row.rows.rows in
    let row = c.in-Some.row in
    let changes = c.args.changes.now in
    let after = into_iter_items c.next.new.self in
    let first : into_iter_items c.loop-row.row-iterator ≡ row ∷ after = c.in-Some.ensures.steps.0 in
    let fits = ap (λ xs. list_all (fits_columns t.columns) xs) (sym first) ∙ c.loop-row.invariant.fits in
    let apart = ap (λ xs. are_apart key rows xs) (sym first) ∙ c.loop-row.invariant.apart in
    let changed = ap (λ xs. list_all (is_changed key changes) xs) (sym first) ∙ c.loop-row.invariant.changed in
    let new : c.insert.new.self.rows ≡ with_row key rows row = ap (λ k. k.rows) c.in-Ok.ensures.inserted ∙ ap (λ n. with_row n rows row) c.loop-row.invariant.keyed.key in
    record {
      keyed = subst (λ k. IsKeyed t k) (sym c.in-Ok.ensures.inserted) (keyed-row t c.loop-row.rows row c.loop-row.invariant.keyed (all_first (fits_columns t.columns) row after fits));
      same = ap (λ xs. with_rows key xs after) new ∙ sym (ap (λ xs. with_rows key rows xs) first) ∙ c.loop-row.invariant.same;
      fits = all_rest (fits_columns t.columns) row after fits;
      apart = ap (λ xs. are_apart key xs after) new ∙ apart_rest key rows row after apart;
      changed = all_rest (is_changed key changes) row after changed;
      others = ap (λ xs. filter (is_unchanged key changes) xs) new
          ∙ fresh_go key changes rows row (all_first (is_changed key changes) row after changed) ∙ c.loop-row.invariant.others;
    }
