use Rattle.sr_grammar_laws.proofs.OneSaying.{each_says_something}
use Rattle.sr_grammar_laws.proofs.laws.a_text_says_something.Goals as goal

pub returns : goal.returns
returns c = record { something = each_says_something }
