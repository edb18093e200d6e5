use Rattle.sr_session.proofs.GrowLemmas.{queries-keep-their-numbers}
use Rattle.sr_session.proofs.laws.queries_keep_their_numbers.Goals as goal

pub returns : goal.returns
returns c = record { numbers = queries-keep-their-numbers }
