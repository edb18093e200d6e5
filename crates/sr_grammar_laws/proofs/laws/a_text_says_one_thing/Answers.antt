use Rattle.sr_grammar_laws.proofs.OneSaying.{each_says_one}
use Rattle.sr_grammar_laws.proofs.laws.a_text_says_one_thing.Goals as goal

pub returns : goal.returns
returns c = record { one = each_says_one }
