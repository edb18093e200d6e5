use Rattle.sr_print.proofs.AgainRead.{read_again}
use Rattle.sr_print.proofs.laws.what_is_printed_is_read_again.Goals as goal

pub returns : goal.returns
returns c = record { again = read_again }
