use Rattle.std.proofs.Common.{◌≡◌, ◌+◌, length, true, None, Some, ap, sym, ◌∙◌}
use Rattle.std.specs.Prelude.{Ok, Err}
use Rattle.sr_cell.specs.declared.list.No.TheVariants.{Refused}
use Rattle.sr_model.specs.SortedRows.{ascend, with_rows}
use Rattle.sr_model.specs.Changes.{table_changes}
use Rattle.sr_tables.specs.Inserts.{are_apart, limit_fault}
use Rattle.sr_tables.specs.Added.{added_rows}
use Rattle.sr_tables.proofs.Inserts.{refused-by_row, refused-by_limit, inserted-done, apart-faultless, few-inserted}
use Rattle.sr_tables.proofs.Inserting.{with_rows-fresh}
use Rattle.sr_tables.proofs.Changing.{changes-with_rows}
use Rattle.sr_tables.proofs.Keeping.{apart-fresh}
use Rattle.sr_tables.proofs.insert.insert.Goals as goal

pub returns-in-Err-clause-refused : goal.returns-in-Err-clause-refused
returns-in-Err-clause-refused c fault is =
    let no : c.in-Err.no ≡ Refused fault = cc in
    refused-by_row c.args.table.now c.args.more c.args.rows.now.rows fault (c.in-Err.ensures.refused fault (ap (λ e. Err e) no))

pub returns-in-Some-clause-refused : goal.returns-in-Some-clause-refused
returns-in-Some-clause-refused c fault is =
    let limit : limit_fault (length c.args.more) (length c.args.rows.now.rows + length c.args.more) ≡ Some fault = cc in
    refused-by_limit c.args.table.now c.args.more c.args.rows.now.rows fault c.in-Ok.ensures.faultless limit

pub put_fresh-requires-clause-apart : goal.put_fresh-requires-clause-apart
put_fresh-requires-clause-apart c =
    let t = c.args.table.now in
    let rows = c.args.rows.now.rows in
    let apart = apart-faultless t 0 rows c.args.more c.in-Ok.ensures.faultless c.requires.key c.requires.keyed.fits c.requires.widths in
    ap (λ xs. are_apart t.key rows xs) c.in-Ok.ensures.fresh ∙ apart-fresh t.key rows c.args.more apart.0

pub returns-in-Ok-put_fresh-clause-done : goal.returns-in-Ok-put_fresh-clause-done
returns-in-Ok-put_fresh-clause-done c =
    let t = c.args.table.now in
    let rows = c.args.rows.now.rows in
    let apart = apart-faultless t 0 rows c.args.more c.in-Ok.ensures.faultless c.requires.key c.requires.keyed.fits c.requires.widths in
    let few : limit_fault (length c.args.more) (length rows + length c.args.more) ≡ None = cc in
    let new : c.put_fresh.new.rows.rows ≡ with_rows t.key rows c.args.more =
    c.in-Ok-put_fresh.ensures.put ∙ ap (λ xs. with_rows t.key rows xs) c.in-Ok.ensures.fresh ∙ with_rows-fresh t.key rows c.args.more apart.0 in
    inserted-done t c.args.more rows c.in-Ok.ensures.faultless few ∙ ap (λ xs. Ok xs) (sym new)

pub returns-in-Ok-put_fresh-clause-changes : goal.returns-in-Ok-put_fresh-clause-changes
returns-in-Ok-put_fresh-clause-changes c =
    let t = c.args.table.now in
    let rows = c.args.rows.now.rows in
    let apart = apart-faultless t 0 rows c.args.more c.in-Ok.ensures.faultless c.requires.key c.requires.keyed.fits c.requires.widths in
    let new : c.put_fresh.new.rows.rows ≡ with_rows t.key rows c.args.more =
    c.in-Ok-put_fresh.ensures.put ∙ ap (λ xs. with_rows t.key rows xs) c.in-Ok.ensures.fresh ∙ with_rows-fresh t.key rows c.args.more apart.0 in
    let ascending : ascend t.key rows ≡ true = ap (λ n. ascend n rows) (sym c.requires.keyed.key) ∙ c.know_ascending.ensures in
    c.in-Ok-put_fresh.ensures.changes ∙ ap (λ xs. added_rows c.args.number t.key xs) c.in-Ok.ensures.fresh
    ∙ sym (changes-with_rows t c.args.number rows c.args.more ascending apart.0) ∙ ap (λ xs. table_changes t c.args.number rows xs) (sym new)

pub returns-in-Ok-put_fresh-clause-few : goal.returns-in-Ok-put_fresh-clause-few
returns-in-Ok-put_fresh-clause-few c =
    let t = c.args.table.now in
    let few : limit_fault (length c.args.more) (length c.args.rows.now.rows + length c.args.more) ≡ None = cc in
    few-inserted c.args.number t.key (length c.args.rows.now.rows + length c.args.more) c.args.more _ (c.in-Ok-put_fresh.ensures.changes ∙ ap (λ xs. added_rows c.args.number t.key xs) c.in-Ok.ensures.fresh) few
