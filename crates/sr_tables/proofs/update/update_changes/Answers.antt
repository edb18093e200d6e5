use Rattle.std.proofs.Common.{◌≡◌, map, ◌∙◌}
use Rattle.std.specs.Prelude.{filter}
use Rattle.std.specs.Option.{option_copied}
use Rattle.std.proofs.lemmas.Result.{IfOk-weaker}
use Rattle.sr_query.specs.Written.{place_of, condition_of}
use Rattle.sr_model.specs.Statements.{is_changed}
use Rattle.sr_tables.specs.Steps.{update_change}
use Rattle.sr_tables.proofs.Outcomes.{near-kept}
use Rattle.sr_tables.proofs.Placing.{changed-meets}
use Rattle.sr_tables.proofs.update.update_changes.Goals as goal

pub returns : goal.returns
returns c =
    let places = map place_of c.args.sets.now in
    let condition = condition_of c.args.wanted.now.condition in
    let near = near-kept c.args.table.now c.args.rows.now c.requires.keyed (option_copied c.low_key-low.result) (option_copied c.high_key-high.result) (is_changed places condition)
    (λ row fits e. c.low_key-low.ensures row fits (changed-meets places condition row e)) (λ row fits e. c.high_key-high.ensures row fits (changed-meets places condition row e)) in
    let value = c.as_slice.ensures.value in
    let some = c.in_ok-near.ensures in
    let whole : map (update_change c.args.number c.args.table.now.key places condition) (filter (is_changed places condition) (map (λ r. r.now) c.as_slice.result.now))
    ≡ map (update_change c.args.number c.args.table.now.key places condition) (filter (is_changed places condition) c.args.rows.now.rows) = cc in
    IfOk-weaker c.changes_among.result _ _ (λ changes out. out ∙ whole) c.changes_among.ensures
