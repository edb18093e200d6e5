use Rattle.sr_print.proofs.Again.{printed_again}
use Rattle.sr_print.proofs.laws.what_is_spelled_is_printed_again.Goals as goal

pub returns : goal.returns
returns c = record { printed = printed_again }
