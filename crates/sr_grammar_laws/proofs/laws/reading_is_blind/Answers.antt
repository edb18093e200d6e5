use Rattle.sr_grammar_laws.proofs.BlindStatements.{is_blind}
use Rattle.sr_grammar_laws.proofs.laws.reading_is_blind.Goals as goal

pub returns : goal.returns
returns c = record { blind = is_blind }
