use Rattle.sr_client.proofs.StartLemmas.{start-marks, start-over, start-stands, start-told}
use Rattle.sr_client.proofs.client.Client.of.Goals as goal

pub returns-clause-marks : goal.returns-clause-marks
returns-clause-marks c = start-marks c.args.id c.args.schema c.args.limits c.args.version c.args.kept c.in_ok-start.start c.requires.tables c.requires.lawful c.in_ok-start.ensures.started

pub returns-clause-stands : goal.returns-clause-stands
returns-clause-stands c =
    rw (c.new.ensures)
    (start-stands c.args.id c.args.schema c.args.limits c.args.version c.args.kept c.in_ok-start.start c.requires.tables c.requires.lawful c.in_ok-start.ensures.started c.requires.short c.in_ok-start.ensures.store)

pub returns-clause-told : goal.returns-clause-told
returns-clause-told c = start-told c.args.id c.args.schema c.args.limits c.args.version c.args.kept c.in_ok-start.start c.requires.tables c.requires.lawful c.in_ok-start.ensures.started

pub returns-clause-over : goal.returns-clause-over
returns-clause-over c =
    rw (c.new.ensures)
    (start-over c.args.id c.args.schema c.args.limits c.args.version c.args.kept c.in_ok-start.start c.requires.tables c.requires.lawful c.in_ok-start.ensures.started c.requires.short c.in_ok-start.ensures.store)
