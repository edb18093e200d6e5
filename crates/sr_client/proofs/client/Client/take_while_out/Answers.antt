use Rattle.std.proofs.Common.{subst}
use Rattle.sr_client.specs.Stands.{IsFit}
use Rattle.sr_client.proofs.LayLemmas.{may-lay}
use Rattle.sr_client.proofs.client.Client.take_while_out.Goals as goal

pub reply-requires-clause-fit : goal.reply-requires-clause-fit
reply-requires-clause-fit c = subst (IsFit c.args.self.now) c.in-Reply.is c.requires.fit

pub written-requires-clause-fit : goal.written-requires-clause-fit
written-requires-clause-fit c = subst (IsFit c.args.self.now) c.in-Written.is c.requires.fit

pub refused-requires-clause-fit : goal.refused-requires-clause-fit
refused-requires-clause-fit c = subst (IsFit c.args.self.now) c.in-Refused.is c.requires.fit

pub welcome-requires-clause-fit : goal.welcome-requires-clause-fit
welcome-requires-clause-fit c = subst (IsFit c.args.self.now) c.in-Welcome.is c.requires.fit

pub lay_by-requires : goal.lay_by-requires
lay_by-requires c = record {
  stands = c.requires.stands;
  out = c.requires.out;
  fit = c.requires.fit;
  laid = may-lay c.args.self.now c.args.message c.requires.stands c.requires.fit c.in_default.not-Reply c.in_default.not-Written c.in_default.not-Refused c.in_default.not-Welcome;
}
