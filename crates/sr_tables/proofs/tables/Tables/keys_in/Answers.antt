use Rattle.std.proofs.Common.{◌≡◌, ◌∙◌, [], sym, ap}
use Rattle.std.specs.Prelude.{filter}
use Rattle.std.proofs.lemmas.Result.{IfOk-weaker}
use Rattle.sr_box.specs.Points.{in_any}
use Rattle.sr_cell.specs.Columns.{table_at}
use Rattle.sr_model.specs.Queries.{rows_at}
use Rattle.sr_tables.specs.ByKey.{keys_of}
use Rattle.sr_tables.proofs.tables.Tables.keys_in.Goals as goal

pub returns-in-None : goal.returns-in-None
returns-in-None c =
    let none : rows_at c.args.self.now.rows c.args.table ≡ [] = c.in-None.ensures.none in
    c.new.ensures ∙ sym (ap (λ rows. keys_of (table_at c.args.self.now.schema c.args.table).key (filter (in_any c.args.rects.now) rows)) none)

pub returns-in-Some : goal.returns-in-Some
returns-in-Some c =
    IfOk-weaker c.keys_in.result _ _
    (λ keys is. is
    ∙ (ap (λ key. keys_of key (filter (in_any c.args.rects.now) c.in-Some.rows.now.rows)) c.in-Some.ensures.key
    ∙ ap (λ rows. keys_of (table_at c.args.self.now.schema c.args.table).key (filter (in_any c.args.rects.now) rows)) c.in-Some.ensures.rows))
    c.keys_in.ensures
