use Rattle.sr_cli.proofs.loads.read_load.Goals as goal

pub returns-in-Err-clause-not_read : goal.returns-in-Err-clause-not_read
returns-in-Err-clause-not_read g c = rw c.as_str.ensures at c.in-Err.ensures.not_read
