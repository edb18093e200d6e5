use Rattle.sr_runs.proofs.LineLemmas.{answer-lines-are-right}
use Rattle.sr_runs.proofs.laws.answer_lines_are_right.Goals as goal

pub returns : goal.returns
returns c = record { rows = answer-lines-are-right }
