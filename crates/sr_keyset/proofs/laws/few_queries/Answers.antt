use Rattle.sr_keyset.proofs.Counting.{few-queries}
use Rattle.sr_keyset.proofs.laws.few_queries.Goals as goal

pub returns : goal.returns
returns c = few-queries
