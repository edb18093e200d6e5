use Rattle.std.proofs.Common.{◌≡◌, map, ◌∙◌}
use Rattle.std.specs.Prelude.{filter}
use Rattle.std.specs.Option.{option_copied}
use Rattle.std.proofs.lemmas.Result.{IfOk-weaker}
use Rattle.sr_query.specs.Written.{condition_of}
use Rattle.sr_model.specs.Statements.{meets}
use Rattle.sr_tables.specs.Steps.{delete_change}
use Rattle.sr_tables.proofs.Outcomes.{near-kept}
use Rattle.sr_tables.proofs.delete.delete_changes.Goals as goal

pub returns : goal.returns
returns c =
    let near = near-kept c.args.table.now c.args.rows.now c.requires.keyed (option_copied c.low_key-low.result) (option_copied c.high_key-high.result) (meets (condition_of c.args.wanted.now.condition))
    c.low_key-low.ensures c.high_key-high.ensures in
    let value = c.as_slice.ensures.value in
    let some = c.in_ok-near.ensures in
    let whole : map (delete_change c.args.number c.args.table.now.key) (filter (meets (condition_of c.args.wanted.now.condition)) (map (λ r. r.now) c.as_slice.result.now))
    ≡ map (delete_change c.args.number c.args.table.now.key) (filter (meets (condition_of c.args.wanted.now.condition)) c.args.rows.now.rows) = cc in
    IfOk-weaker c.changes_among.result _ _ (λ changes out. out ∙ whole) c.changes_among.ensures
