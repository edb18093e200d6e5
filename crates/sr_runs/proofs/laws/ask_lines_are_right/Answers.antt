use Rattle.sr_runs.proofs.LineLemmas.{ask-lines-are-right}
use Rattle.sr_runs.proofs.laws.ask_lines_are_right.Goals as goal

pub returns : goal.returns
returns c = record { parts = ask-lines-are-right }
