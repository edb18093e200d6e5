use Rattle.sr_print.proofs.LexingAgain.{written_again}
use Rattle.sr_print.proofs.LexingWritable.{lexed_writable}
use Rattle.sr_print.proofs.laws.tokens_are_read_again.Goals as goal

pub returns : goal.returns
returns c = record { written = written_again; lexed = lexed_writable }
