use Rattle.std.proofs.Common.{sym, subst}
use Rattle.sr_message.specs.declared.message.Message.TheVariants.{Notice}
use Rattle.sr_client.specs.Stands.{IsFit}
use Rattle.sr_client.proofs.RestLemmas.{rest-only}
use Rattle.sr_client.proofs.client.Client.take_at_rest.Goals as goal

pub apply-requires-clause-fit : goal.apply-requires-clause-fit
apply-requires-clause-fit c =
    subst (λ told. IsFit c.args.self.now (Notice c.in-Notice.version told)) (sym c.as_slice.ensures) (subst (IsFit c.args.self.now) c.in-Notice.is c.requires.fit)

pub forget-requires-clause-fit : goal.forget-requires-clause-fit
forget-requires-clause-fit c = subst (IsFit c.args.self.now) c.in-Lapse.is c.requires.fit

pub unreachable-requires : goal.unreachable-requires
unreachable-requires c = (rest-only c.args.self.now c.args.message c.requires.idle c.requires.fit c.in_default.not-Notice c.in_default.not-Lapse c.requires.stands.0.meaning)
