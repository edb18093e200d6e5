use Rattle.std.proofs.Common.{arith, map, sym, subst}
use Rattle.sr_store.specs.declared.store.Store.{Store}
use Rattle.sr_store.specs.Noticed.{told_to}
use Rattle.sr_message.specs.declared.message.Message.TheVariants.{Notice}
use Rattle.sr_client.specs.declared.steps.Took.TheVariants as took
use Rattle.sr_client.specs.Stands.{out_of}
use Rattle.sr_client.specs.Steps.{Takes}
use Rattle.sr_client.proofs.ReadLemmas.{store-then, fitted-of}
use Rattle.sr_client.proofs.RestLemmas.{takes-notice}
use Rattle.sr_client.proofs.SuitLemmas.{fit-tells, notice-later}
use Rattle.sr_client.proofs.client.Client.apply.Goals as goal

pub apply-requires : goal.apply-requires
apply-requires c =
    let old = c.args.self.now in
    let meaning = c.requires.stands.0.meaning in
    let tells = fit-tells old.schema (out_of meaning old.out) old.laid old.version c.args.version c.args.told.now (c.requires.fit meaning) c.know_told.ensures in
    (old.schema, c.requires.stands.1.store, tells)

pub fit-requires-clause-store : goal.fit-requires-clause-store
fit-requires-clause-store c =
    let old = c.args.self.now in
    let meaning = c.requires.stands.0.meaning in
    let tells = fit-tells old.schema (out_of meaning old.out) old.laid old.version c.args.version c.args.told.now (c.requires.fit meaning) c.know_told.ensures in
    c.in_ok-apply.ensures.store old.schema c.requires.stands.1.store tells

pub returns-clause-takes : goal.returns-clause-takes
returns-clause-takes c =
    let old = c.args.self.now in
    let version = c.args.version in
    let told = c.args.told.now in
    let marks = c.in_ok-marks.marks in
    let new = c.fit.new.self in
    let meaning = c.requires.stands.0.meaning in
    let tells = fit-tells old.schema (out_of meaning old.out) old.laid old.version version told (c.requires.fit meaning) c.know_told.ensures in
    let regions = c.in_ok-apply.ensures.applied in
    let fitted = fitted-of old.schema old.store c.apply.new.self (map (told_to told) old.store.regions) new.regions marks c.apply.ensures.limits c.apply.ensures.last regions c.in_ok-marks.ensures.fitted in
    subst (λ (s : Store). Takes old (Notice version told) (record old { version = version; store = s }) (took.Applied version marks))
    (sym (store-then old.store c.apply.new.self new c.apply.ensures.limits c.apply.ensures.last c.apply.ensures.flag c.fit.ensures.limits c.fit.ensures.last c.fit.ensures.flag))
    (takes-notice old version told new.regions marks c.requires.idle c.requires.fit tells fitted c.requires.stands)

pub returns-clause-version : goal.returns-clause-version
returns-clause-version c =
    let old = c.args.self.now in
    let meaning = c.requires.stands.0.meaning in
    let later = notice-later old.schema (out_of meaning old.out) old.laid old.version c.args.version c.args.told.now (c.requires.fit meaning) in
    omega (arith, later)
