use Rattle.sr_session.proofs.TidyLemmas.{rules-keep-tidy}
use Rattle.sr_session.proofs.laws.rules_keep_tidy.Goals as goal

pub returns : goal.returns
returns c = rules-keep-tidy
