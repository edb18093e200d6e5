use Rattle.sr_server.proofs.Standing.{carried-by, stands-more}
use Rattle.sr_server.proofs.server.Server.exec.Goals as goal

pub returns-in-Ok-write-clause-stands : goal.returns-in-Ok-write-clause-stands
returns-in-Ok-write-clause-stands c db is =
    stands-more c.args.self.now c.add_version.new.self db is
    (carried-by c.args.self.now c.add_version.new.self c.write.new.self c.reserve.new.self c.in-Ok-write.changes c.write.ensures.schema c.in-Ok-write.ensures.changes c.in-Ok-write.ensures.few c.reserve.ensures.same
    c.add_version.ensures.pushed c.add_version.ensures.others c.add_version.ensures.stored c.add_version.ensures.values)
