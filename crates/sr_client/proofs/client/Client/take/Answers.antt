use Rattle.std.proofs.Common.{◌≡◌, ◌∙◌, true, false, sym, subst, refl}
use Rattle.sr_session.specs.Misfits.{misfit}
use Rattle.sr_client.specs.declared.client.Client.{Client}
use Rattle.sr_client.specs.declared.steps.Took.TheVariants.{Bad}
use Rattle.sr_client.specs.Stands.{Stands, out_of}
use Rattle.sr_client.specs.Steps.{Takes, is_bad}
use Rattle.sr_client.proofs.GiveUpLemmas.{given-stands}
use Rattle.sr_client.proofs.LayLemmas.{takes-bad, bad-iff, good-iff, misfit-of}
use Rattle.sr_client.proofs.Results.{if_each, of_ok}
use Rattle.sr_client.proofs.client.Client.take.Goals as goal

pub returns-in-Some-clause-bad : goal.returns-in-Some-clause-bad
returns-in-Some-clause-bad c = λ w meaning.
    let old = c.args.self.now in
    bad-iff c.in-Some.why w (misfit old.schema (out_of meaning old.out) old.laid old.version c.args.message)
    (misfit-of old c.args.message c.as_slice.result.now c.misfit-why.result c.as_slice.ensures c.misfit-why.ensures meaning ∙ c.in-Some.is)

pub returns-in-Some-clause-takes : goal.returns-in-Some-clause-takes
returns-in-Some-clause-takes c =
    let old = c.args.self.now in
    subst (λ (x : Client). Takes old c.args.message x (Bad c.in-Some.why)) (sym c.give_up.ensures.given)
    (takes-bad old c.args.message c.in-Some.why c.give_up.new.self.cuts
    (λ meaning. misfit-of old c.args.message c.as_slice.result.now c.misfit-why.result c.as_slice.ensures c.misfit-why.ensures meaning ∙ c.in-Some.is) c.requires.stands)

pub returns-in-Some-clause-stands : goal.returns-in-Some-clause-stands
returns-in-Some-clause-stands c =
    let old = c.args.self.now in
    subst Stands (sym c.give_up.ensures.given) (given-stands old old c.give_up.new.self.cuts c.requires.stands refl)

pub take_fit-requires-clause-fit : goal.take_fit-requires-clause-fit
take_fit-requires-clause-fit c = λ meaning.
    let old = c.args.self.now in
    misfit-of old c.args.message c.as_slice.result.now c.misfit-why.result c.as_slice.ensures c.misfit-why.ensures meaning ∙ c.in-None.is

pub returns-in-None-clause-bad : goal.returns-in-None-clause-bad
returns-in-None-clause-bad c = λ w meaning.
    let old = c.args.self.now in
    let none = misfit-of old c.args.message c.as_slice.result.now c.misfit-why.result c.as_slice.ensures c.misfit-why.ensures meaning ∙ c.in-None.is in
    if_each _ c.take_fit.result (λ took e. good-iff took w (misfit old.schema (out_of meaning old.out) old.laid old.version c.args.message) none (of_ok (λ took. is_bad took ≡ false) c.take_fit.result took e c.take_fit.ensures.good))

pub returns-in-None-clause-bad_left : goal.returns-in-None-clause-bad_left
returns-in-None-clause-bad_left c =
    if_each _ c.take_fit.result (λ took e bad. absurd (let good = of_ok (λ took. is_bad took ≡ false) c.take_fit.result took e c.take_fit.ensures.good in let wrong : true ≡ false = sym bad ∙ good in cc))
