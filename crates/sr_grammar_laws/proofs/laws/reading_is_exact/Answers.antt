use Rattle.sr_grammar_laws.proofs.Top.{each_is_exact}
use Rattle.sr_grammar_laws.proofs.laws.reading_is_exact.Goals as goal

pub returns : goal.returns
returns c = record { exact = each_is_exact }
