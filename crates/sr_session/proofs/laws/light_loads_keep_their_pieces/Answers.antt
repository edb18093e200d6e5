use Rattle.sr_session.proofs.ProgressLemmas.{light-queries-keep-their-pieces, light-replies-keep-their-pieces}
use Rattle.sr_session.proofs.laws.light_loads_keep_their_pieces.Goals as goal

pub returns : goal.returns
returns c = record { queries = light-queries-keep-their-pieces; replies = light-replies-keep-their-pieces }
