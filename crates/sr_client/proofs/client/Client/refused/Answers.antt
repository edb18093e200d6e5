use Rattle.std.proofs.Common.{◌≡◌, ◌≤◌, ◌∙◌, true, [], arith, sym, ap, subst}
use Rattle.std.specs.List.{list_all}
use Rattle.sr_message.specs.declared.message.Message.TheVariants.{Refused}
use Rattle.sr_session.specs.Walks.{version_after}
use Rattle.sr_client.specs.declared.client.Client.{Client}
use Rattle.sr_client.specs.declared.steps.Took.TheVariants as took
use Rattle.sr_client.specs.Settling.{settled_at}
use Rattle.sr_client.specs.Stands.{out_of}
use Rattle.sr_client.specs.Steps.{Takes}
use Rattle.sr_client.specs.Values.{has_values}
use Rattle.sr_client.proofs.SettleLemmas.{takes-refused, laid-later}
use Rattle.sr_client.proofs.client.Client.refused.Goals as goal

pub settle-requires-clause-values : goal.settle-requires-clause-values
settle-requires-clause-values c = subst (λ ms. list_all has_values ms ≡ true) c.as_slice.ensures c.know_messages.ensures

pub returns-clause-takes : goal.returns-clause-takes
returns-clause-takes c =
    let old = c.args.self.now in
    let number = c.args.number in
    let fault = c.args.fault in
    let marks = c.in_ok-marks.marks in
    let gs = c.settle.new.self.store.regions in
    let values = subst (λ ms. list_all has_values ms ≡ true) c.as_slice.ensures c.know_messages.ensures in
    let last = c.version_after-version.ensures ∙ ap (version_after old.version) c.as_slice-2.ensures in
    subst (λ (x : Client). Takes old (Refused number fault) x (took.Refused number fault marks)) (sym (c.in_ok-marks.ensures.now ∙ ap (λ v. settled_at old v gs) last))
    (takes-refused old number fault marks gs c.requires.fit values c.in_ok-marks.ensures.settles c.requires.stands)

pub returns-clause-version : goal.returns-clause-version
returns-clause-version c =
    let old = c.args.self.now in
    let meaning = c.requires.stands.0.meaning in
    let last = c.version_after-version.ensures ∙ ap (version_after old.version) c.as_slice-2.ensures in
    subst (λ v. old.version ≤ v) (sym (ap (λ (x : Client). x.version) c.in_ok-marks.ensures.now ∙ last))
    (laid-later old.schema (out_of meaning old.out) old.version old.version [] old.laid c.requires.stands.1.fit (omega arith))
