use Rattle.sr_grammar.proofs.Cases.{is_same-upper}
use Rattle.sr_grammar.proofs.words.is_same.Goals as goal

pub returns : goal.returns
returns c = is_same-upper c.eq_ignore_ascii_case.result c.args.word.now c.args.other.now c.eq_ignore_ascii_case.ensures.test
