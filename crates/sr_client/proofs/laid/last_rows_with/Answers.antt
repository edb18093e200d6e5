use Rattle.std.proofs.Common.{sym}
use Rattle.sr_client.proofs.LaidLemmas.{rows-now, rows-same}
use Rattle.sr_client.proofs.laid.last_rows_with.Goals as goal

pub returns-then-brings_rows : goal.returns-then-brings_rows
returns-then-brings_rows c = rows-now c.args.messages.now c.args.message.now (sym c.if-brings_rows.ensures)

pub returns-else-brings_rows : goal.returns-else-brings_rows
returns-else-brings_rows c = rows-same c.args.messages.now c.args.last_rows c.args.message.now (sym c.if-brings_rows.ensures) c.requires
