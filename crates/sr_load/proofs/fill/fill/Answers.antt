use Rattle.std.proofs.Common.{◌≡◌, ◌∙◌, Err, ap}
use Rattle.sr_cell.specs.declared.list.No.TheVariants.{Refused}
use Rattle.sr_load.specs.Filling.{with_file}
use Rattle.sr_load.proofs.Files.{file-refused}
use Rattle.sr_load.proofs.fill.fill.Goals as goal

pub returns-in-Err-load_file-clause-refused : goal.returns-in-Err-load_file-clause-refused
returns-in-Err-load_file-clause-refused c whole err =
    let file = c.index-loads-i.result in
    let tables = c.loop-i.tables in
    let is : c.named.result ≡ Refused whole = cc err in
    let refused : with_file tables.schema file tables.rows ≡ Err whole.fault = c.in-Err-load_file.ensures.refused whole.fault (ap Err (c.named.ensures.fault whole is)) in
    c.loop-i.invariant.filled
    ∙ file-refused c.args.schema c.args.loads.now c.loop-i.i file tables.rows whole c.loop-i-test.true c.index-loads-i.is (rw c.loop-i.invariant.schema at refused) (c.named.ensures.table whole is)
