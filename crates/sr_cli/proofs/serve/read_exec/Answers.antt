use Rattle.sr_cli.proofs.serve.read_exec.Goals as goal

pub returns-in-Some-clause-not_read : goal.returns-in-Some-clause-not_read
returns-in-Some-clause-not_read g c = rw c.in-Some.is (rw c.as_str.ensures at c.read_file.ensures.not_read)
