use Rattle.std.proofs.Common.{◌≡◌, None, sym, subst}
use Rattle.sr_cell.specs.Cells.{cell_at}
use Rattle.sr_model.specs.SortedRows.{with_rows}
use Rattle.sr_model.specs.Statements.{fault_of_row}
use Rattle.sr_tables.specs.Stored.{IsKeyed}
use Rattle.sr_tables.proofs.Inserts.{row-faultless}
use Rattle.sr_tables.proofs.Keeping.{key-kind, fresh-lacks, fresh-apart, keyed-row}
use Rattle.sr_tables.proofs.fresh.add_fresh.Goals as goal

pub insert-requires-clause-kind : goal.insert-requires-clause-kind
insert-requires-clause-kind c =
    let t = c.args.table.now in
    let all = with_rows t.key c.args.rows.now.rows c.args.fresh.now.rows in
    let none : fault_of_row t c.args.number all c.args.row ≡ None = cc in
    let free = row-faultless t c.args.number all c.args.row none c.requires.width in
    key-kind t c.args.fresh.now c.args.row c.requires.fresh c.requires.key free.0

pub insert-requires-clause-other : goal.insert-requires-clause-other
insert-requires-clause-other c =
    let t = c.args.table.now in
    let all = with_rows t.key c.args.rows.now.rows c.args.fresh.now.rows in
    let none : fault_of_row t c.args.number all c.args.row ≡ None = cc in
    let free = row-faultless t c.args.number all c.args.row none c.requires.width in
    let lacks = fresh-lacks t.key (cell_at c.args.row t.key) c.args.rows.now.rows c.args.fresh.now.rows free.1 in
    let key = c.requires.fresh.key in
    cc

pub returns-in-Ok-clause-keyed : goal.returns-in-Ok-clause-keyed
returns-in-Ok-clause-keyed c =
    let t = c.args.table.now in
    let all = with_rows t.key c.args.rows.now.rows c.args.fresh.now.rows in
    let none : fault_of_row t c.args.number all c.args.row ≡ None = cc in
    let free = row-faultless t c.args.number all c.args.row none c.requires.width in
    subst (λ k. IsKeyed t k) (sym c.in-Ok.ensures.inserted) (keyed-row t c.args.fresh.now c.args.row c.requires.fresh free.0)

pub returns-in-Ok-clause-apart : goal.returns-in-Ok-clause-apart
returns-in-Ok-clause-apart c =
    let t = c.args.table.now in
    let all = with_rows t.key c.args.rows.now.rows c.args.fresh.now.rows in
    let none : fault_of_row t c.args.number all c.args.row ≡ None = cc in
    let free = row-faultless t c.args.number all c.args.row none c.requires.width in
    fresh-apart t c.args.rows.now.rows c.args.fresh.now.rows c.args.row c.requires.key c.requires.fresh.fits free.0 free.1
