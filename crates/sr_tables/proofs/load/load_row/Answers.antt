use Rattle.std.proofs.Common.{◌≡◌, None, sym, subst}
use Rattle.sr_model.specs.Loads.{load_fault}
use Rattle.sr_tables.specs.Stored.{IsKeyed}
use Rattle.sr_tables.proofs.Inserts.{load-faultless}
use Rattle.sr_tables.proofs.Keeping.{key-kind, keyed-row}
use Rattle.sr_tables.proofs.load.load_row.Goals as goal

pub insert-requires-clause-kind : goal.insert-requires-clause-kind
insert-requires-clause-kind c =
    let none : load_fault c.args.table.now c.args.rows.now.rows c.args.row ≡ None = cc in
    let fits = load-faultless c.args.table.now c.args.rows.now.rows c.args.row none c.requires.width in
    key-kind c.args.table.now c.args.rows.now c.args.row c.requires.keyed c.requires.key fits.0

pub returns-in-Ok-clause-keyed : goal.returns-in-Ok-clause-keyed
returns-in-Ok-clause-keyed c =
    let none : load_fault c.args.table.now c.args.rows.now.rows c.args.row ≡ None = cc in
    let fits = load-faultless c.args.table.now c.args.rows.now.rows c.args.row none c.requires.width in
    subst (λ k. IsKeyed c.args.table.now k) (sym c.in-Ok.ensures.inserted) (keyed-row c.args.table.now c.args.rows.now c.args.row c.requires.keyed fits.0)
