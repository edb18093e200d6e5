use Rattle.std.proofs.Common.{◌≡◌, true, ap, ◌∙◌}
use Rattle.std.specs.Prelude.{filter}
use Rattle.std.specs.Option.{option_copied}
use Rattle.std.proofs.lemmas.Result.{IfOk-weaker}
use Rattle.sr_cell.specs.Cells.{Row, cell_at}
use Rattle.sr_box.specs.Points.{in_any}
use Rattle.sr_keyed.specs.Keyed.{is_from, is_up_to}
use Rattle.sr_tables.proofs.Outcomes.{near-passed}
use Rattle.sr_tables.proofs.select.near_between.Goals as goal

pub returns : goal.returns
returns c =
    let rows = c.args.rows.now in
    let lows : (row : Row) → in_any c.args.rects.now row ≡ true → is_from (option_copied c.as_ref.result) (cell_at row rows.key) ≡ true =
    λ row e. let h = c.lowest-low.ensures row e in cc in
    let highs : (row : Row) → in_any c.args.rects.now row ≡ true → is_up_to (option_copied c.as_ref-2.result) (cell_at row rows.key) ≡ true =
    λ row e. let h = c.highest-high.ensures row e in cc in
    let near = near-passed rows.key rows.rows (option_copied c.as_ref.result) (option_copied c.as_ref-2.result) (in_any c.args.rects.now) lows highs in
    IfOk-weaker c.between.result _ _ (λ found is. ap (filter (in_any c.args.rects.now)) is ∙ near) c.between.ensures
