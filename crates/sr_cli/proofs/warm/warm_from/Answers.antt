use Rattle.sr_cli.proofs.warm.warm_from.Goals as goal

pub returns-in-Ok-clause-whole : goal.returns-in-Ok-clause-whole
returns-in-Ok-clause-whole g c = λ bytes ahead read follows. c.warm_begun.ensures.whole bytes ahead (c.in-Ok.ensures.begins bytes read) follows

pub returns-in-Ok-clause-stopped : goal.returns-in-Ok-clause-stopped
returns-in-Ok-clause-stopped g c = λ bytes ahead read follows. c.warm_begun.ensures.stopped bytes ahead (c.in-Ok.ensures.begins bytes read) follows

pub warm_begun-requires-clause-begun : goal.warm_begun-requires-clause-begun
warm_begun-requires-clause-begun g c = let read = c.requires.read in (read.0, c.in-Ok.ensures.begins read.0 read.1)
