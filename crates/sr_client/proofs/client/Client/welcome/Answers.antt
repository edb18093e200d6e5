use Rattle.std.proofs.Common.{◌≡◌, ◌≤◌, true, sym, ap, subst}
use Rattle.std.specs.List.{list_all}
use Rattle.sr_message.specs.declared.message.Message.TheVariants.{Welcome}
use Rattle.sr_client.specs.declared.client.Client.{Client}
use Rattle.sr_client.specs.declared.steps.Took.TheVariants as took
use Rattle.sr_client.specs.Stands.{out_of}
use Rattle.sr_client.specs.Steps.{Takes}
use Rattle.sr_client.specs.Values.{has_values}
use Rattle.sr_client.proofs.SettleLemmas.{takes-welcome, welcome-later}
use Rattle.sr_client.proofs.client.Client.welcome.Goals as goal

pub settle_welcomed-requires-clause-values : goal.settle_welcomed-requires-clause-values
settle_welcomed-requires-clause-values c = subst (λ ms. list_all has_values ms ≡ true) c.as_slice.ensures c.know_messages.ensures

pub returns-clause-takes : goal.returns-clause-takes
returns-clause-takes c =
    let old = c.args.self.now in
    let number = c.args.number in
    let version = c.args.version in
    let kept = c.args.kept in
    let marks = c.in_ok-marks.marks in
    let values = subst (λ ms. list_all has_values ms ≡ true) c.as_slice.ensures c.know_messages.ensures in
    subst (λ (x : Client). Takes old (Welcome number version kept) x (took.Welcomed version kept marks)) (sym c.in_ok-marks.ensures.now)
    (takes-welcome old number version kept marks c.settle_welcomed.new.self.store.regions c.requires.fit values c.in_ok-marks.ensures.welcomes c.requires.stands)

pub returns-clause-version : goal.returns-clause-version
returns-clause-version c =
    let old = c.args.self.now in
    let meaning = c.requires.stands.0.meaning in
    subst (λ v. old.version ≤ v) (sym (ap (λ (x : Client). x.version) c.in_ok-marks.ensures.now))
    (welcome-later old.schema (out_of meaning old.out) old.laid old.version c.args.number c.args.version c.args.kept (c.requires.fit meaning))
