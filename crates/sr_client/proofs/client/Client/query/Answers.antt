use Rattle.std.proofs.Common.{sym, subst}
use Rattle.sr_client.specs.Stands.{Stands}
use Rattle.sr_client.proofs.GiveUpLemmas.{given-stands, given-same}
use Rattle.sr_client.proofs.client.Client.query.Goals as goal

pub returns-in-Err-clause-stands : goal.returns-in-Err-clause-stands
returns-in-Err-clause-stands c = subst Stands (sym c.give_up.ensures.given) (given-stands c.args.self.now c.judge.new.self c.give_up.new.self.cuts c.requires.stands c.in-Err.ensures.stays.schema)

pub returns-in-Err-clause-nothing_left : goal.returns-in-Err-clause-nothing_left
returns-in-Err-clause-nothing_left c =
    given-same c.args.self.now c.judge.new.self c.give_up.new.self c.give_up.ensures.given c.give_up.ensures.counted c.in-Err.ensures.stays c.in-Err.ensures.numbers_left c.in-Err.ensures.cuts
