use Rattle.std.proofs.Common.{arith}
use Rattle.sr_load.proofs.Files.{stored-length}
use Rattle.sr_load.proofs.fill.rows_for.Goals as goal

pub returns-clause-there : goal.returns-clause-there
returns-clause-there c =
    let same = stored-length c.args.tables.now.schema c.args.tables.now.rows c.know_stored.ensures.rows in
    omega (arith, same, c.requires.table)
