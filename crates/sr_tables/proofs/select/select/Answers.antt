use Rattle.std.proofs.Common.{◌≡◌, ap, subst, map, ◌∙◌}
use Rattle.std.specs.Prelude.{filter}
use Rattle.std.proofs.lemmas.Result.{IfOk-weaker}
use Rattle.sr_cell.specs.Attrs.{project}
use Rattle.sr_box.specs.Points.{in_any}
use Rattle.sr_tables.proofs.select.select.Goals as goal

pub returns : goal.returns
returns c =
    let near : filter (in_any c.args.rects.now) (map (λ r. r.now) c.in_ok-near.near.items) ≡ filter (in_any c.args.rects.now) c.args.rows.now.rows =
    subst (λ rects. filter (in_any rects) (map (λ r. r.now) c.in_ok-near.near.items) ≡ filter (in_any rects) c.args.rows.now.rows) c.as_slice.ensures c.in_ok-near.ensures in
    let value = c.as_slice-2.ensures.value in
    let whole : filter (in_any c.args.rects.now) (map (λ r. r.now) c.as_slice-2.result.now) ≡ filter (in_any c.args.rects.now) c.args.rows.now.rows = cc in
    IfOk-weaker c.selected_among.result _ _ (λ selected out. out ∙ ap (map (project c.args.attrs)) whole) c.selected_among.ensures
