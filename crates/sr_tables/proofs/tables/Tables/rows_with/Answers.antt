use Rattle.std.proofs.Common.{◌≡◌, ◌∙◌, [], map, sym, ap}
use Rattle.std.proofs.lemmas.Result.{IfOk-weaker}
use Rattle.sr_cell.specs.Attrs.{project}
use Rattle.sr_cell.specs.Columns.{table_at}
use Rattle.sr_model.specs.Queries.{rows_at}
use Rattle.sr_tables.specs.ByKey.{rows_with}
use Rattle.sr_tables.proofs.ByKey.{none-with}
use Rattle.sr_tables.proofs.tables.Tables.rows_with.Goals as goal

pub returns-in-None : goal.returns-in-None
returns-in-None c =
    let key = (table_at c.args.self.now.schema c.args.table).key in
    let none : rows_at c.args.self.now.rows c.args.table ≡ [] = c.in-None.ensures.none in
    c.new.ensures ∙ sym (ap (λ rows. map (project c.args.attrs) (rows_with key c.args.keys.now rows)) none ∙ ap (map (project c.args.attrs)) (none-with key c.args.keys.now))

pub returns-in-Some : goal.returns-in-Some
returns-in-Some c =
    IfOk-weaker c.rows_with.result _ _
    (λ out is. is
    ∙ (ap (λ key. map (project c.args.attrs) (rows_with key c.args.keys.now c.in-Some.rows.now.rows)) c.in-Some.ensures.key
    ∙ ap (λ rows. map (project c.args.attrs) (rows_with (table_at c.args.self.now.schema c.args.table).key c.args.keys.now rows)) c.in-Some.ensures.rows))
    c.rows_with.ensures
