use Rattle.sr_session.proofs.AnswerLemmas.{an-ask-asks-the-uncovered}
use Rattle.sr_session.proofs.laws.an_ask_asks_the_uncovered.Goals as goal

pub returns : goal.returns
returns c = record { uncovered = an-ask-asks-the-uncovered }
