use Rattle.sr_world.proofs.laws.replay_lines_can_be_printed.Goals as goal

pub returns : goal.returns
returns c = λ options script loads left trace last traced. traced.printable
