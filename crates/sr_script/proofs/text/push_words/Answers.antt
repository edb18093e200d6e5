use Rattle.sr_script.proofs.text.push_words.Goals as goal

pub returns-in-QueryAnswered-clause-words : goal.returns-in-QueryAnswered-clause-words
returns-in-QueryAnswered-clause-words c = rw c.in-QueryAnswered.is c.push_end_at.ensures

pub returns-in-ClientAnswered-clause-words : goal.returns-in-ClientAnswered-clause-words
returns-in-ClientAnswered-clause-words c = rw c.in-ClientAnswered.is c.push_end-in-ClientAnswered.ensures
