use Rattle.std.proofs.Common.{arith, [], sym, subst}
use Rattle.sr_store.specs.declared.store.Store.{Store}
use Rattle.sr_message.specs.declared.message.Message.TheVariants.{Lapse}
use Rattle.sr_client.specs.declared.steps.Took.TheVariants as took
use Rattle.sr_client.specs.Stands.{out_of}
use Rattle.sr_client.specs.Steps.{Takes}
use Rattle.sr_client.proofs.RestLemmas.{takes-lapse}
use Rattle.sr_client.proofs.SuitLemmas.{lapse-later}
use Rattle.sr_client.proofs.client.Client.forget.Goals as goal

pub returns-clause-takes : goal.returns-clause-takes
returns-clause-takes c =
    let old = c.args.self.now in
    let version = c.args.version in
    subst (λ (s : Store). Takes old (Lapse version) (record old { version = version; store = s }) (took.Forgot version c.in_ok-marks.marks)) (sym c.drop_all.ensures.nothing_left)
    (subst (λ marks. Takes old (Lapse version) (record old { version = version; store = record old.store { regions = [] } }) (took.Forgot version marks)) (sym c.in_ok-marks.ensures.marks)
    (takes-lapse old version c.requires.idle c.requires.fit c.requires.stands))

pub returns-clause-version : goal.returns-clause-version
returns-clause-version c =
    let old = c.args.self.now in
    let meaning = c.requires.stands.0.meaning in
    let later = lapse-later old.schema (out_of meaning old.out) old.laid old.version c.args.version (c.requires.fit meaning) in
    omega (arith, later)
