use Rattle.std.proofs.Common.{◌≡◌, ◌∙◌, true, sym, subst, refl}
use Rattle.std.specs.List.{list_all, All}
use Rattle.sr_message.specs.declared.message.Message.TheVariants.{Reply}
use Rattle.sr_store.specs.Stores.{IsStore, IsSettled}
use Rattle.sr_store.specs.Answered.{IsArrival, AreApart, BringOwnKeys}
use Rattle.sr_client.specs.Arriving.{arrivals_of}
use Rattle.sr_client.specs.declared.client.Client.{Client}
use Rattle.sr_client.specs.declared.steps.Took.TheVariants as took
use Rattle.sr_client.specs.Laying.{asking, with_brought}
use Rattle.sr_client.specs.Stands.{out_of}
use Rattle.sr_client.specs.Steps.{Takes}
use Rattle.sr_client.specs.Values.{has_values}
use Rattle.sr_client.proofs.AskedLemmas.{after-settled, tells, laid-store}
use Rattle.sr_client.proofs.Calls.{Answers, IsAfter, after-of, answers-of}
use Rattle.sr_client.proofs.FinishLemmas.{allows}
use Rattle.sr_client.proofs.MeantLemmas.{Fit, Only, Named, parts-fit, parts-only, parts-named}
use Rattle.sr_client.proofs.ReplyLemmas.{takes-reply}
use Rattle.sr_client.proofs.SuitLemmas.{reply-later}
use Rattle.sr_client.proofs.client.Client.finish.Goals as goal

pub bring-requires-clause-tells : goal.bring-requires-clause-tells
bring-requires-clause-tells c =
    let values = subst (λ ms. list_all has_values ms ≡ true) c.as_slice.ensures c.know_messages.ensures in
    tells c.args.self.now c.args.out.now c.requires.stands.0 c.requires.stands.1 values

pub answered-requires-clause-store : goal.answered-requires-clause-store
answered-requires-clause-store c =
    let values = subst (λ ms. list_all has_values ms ≡ true) c.as_slice.ensures c.know_messages.ensures in
    subst (λ (x : Client). IsStore x.schema x.store.regions) (sym c.in_ok-arrivals.ensures.brought) (laid-store c.args.self.now c.args.out.now c.requires.stands.0 c.requires.stands.1 values)

pub answered-requires-clause-settled : goal.answered-requires-clause-settled
answered-requires-clause-settled c =
    subst (λ (x : Client). x.store.settled ≡ true → IsSettled x.schema x.store.regions) (sym c.in_ok-arrivals.ensures.brought)
    (λ is. after-settled c.args.self.now.schema c.args.self.now.laid c.args.self.now.store.regions (c.requires.stands.1.settled is))

pub answered-requires-clause-fit : goal.answered-requires-clause-fit
answered-requires-clause-fit c =
    subst (λ (x : Client). All (Fit x.schema) c.as_slice-4.result.now) (sym c.in_ok-arrivals.ensures.brought)
    (subst (All (Fit c.args.self.now.schema)) (sym c.as_slice-4.ensures) (parts-fit c.args.self.now.schema c.args.out.now.query c.requires.stands.0.meaning c.requires.stands.1.meant.0))

pub answered-requires-clause-only : goal.answered-requires-clause-only
answered-requires-clause-only c =
    subst (All Only) (sym c.as_slice-4.ensures) (parts-only c.args.self.now.schema c.args.out.now.query c.requires.stands.0.meaning c.requires.stands.1.meant.0)

pub answered-requires-clause-named : goal.answered-requires-clause-named
answered-requires-clause-named c =
    subst (λ (x : Client). All (Named x.schema) c.as_slice-4.result.now) (sym c.in_ok-arrivals.ensures.brought)
    (subst (All (Named c.args.self.now.schema)) (sym c.as_slice-4.ensures) (parts-named c.args.self.now.schema c.args.out.now.query c.requires.stands.0.meaning c.requires.stands.1.meant.0))

pub answered-requires-clause-arrivals : goal.answered-requires-clause-arrivals
answered-requires-clause-arrivals c =
    let values = subst (λ ms. list_all has_values ms ≡ true) c.as_slice.ensures c.know_messages.ensures in
    let all = allows c.args.self.now c.args.out.now c.requires.stands.0 c.requires.stands.1 values c.requires.whole in
    subst (λ (x : Client). All (IsArrival x.schema c.as_slice-4.result.now) c.in_ok-arrivals.arrivals) (sym c.in_ok-arrivals.ensures.brought)
    (subst (λ ps. All (IsArrival c.args.self.now.schema ps) c.in_ok-arrivals.arrivals) (sym c.as_slice-4.ensures)
    (subst (All (IsArrival c.args.self.now.schema c.args.out.now.query.parts)) (sym c.in_ok-arrivals.ensures.arrivals) all.each))

pub answered-requires-clause-apart : goal.answered-requires-clause-apart
answered-requires-clause-apart c =
    let values = subst (λ ms. list_all has_values ms ≡ true) c.as_slice.ensures c.know_messages.ensures in
    let all = allows c.args.self.now c.args.out.now c.requires.stands.0 c.requires.stands.1 values c.requires.whole in
    subst (λ (x : Client). AreApart x.schema x.store.regions c.in_ok-arrivals.arrivals) (sym c.in_ok-arrivals.ensures.brought)
    (subst (AreApart c.args.self.now.schema (with_brought c.args.self.now).store.regions) (sym c.in_ok-arrivals.ensures.arrivals) all.apart)

pub answered-requires-clause-own : goal.answered-requires-clause-own
answered-requires-clause-own c =
    let values = subst (λ ms. list_all has_values ms ≡ true) c.as_slice.ensures c.know_messages.ensures in
    let all = allows c.args.self.now c.args.out.now c.requires.stands.0 c.requires.stands.1 values c.requires.whole in
    subst BringOwnKeys (sym c.in_ok-arrivals.ensures.arrivals) all.own

pub returns-clause-takes : goal.returns-clause-takes
returns-clause-takes c =
    let old = c.args.self.now in
    let out = c.args.out.now in
    let b = c.bring.new.self in
    let store = c.answered.new.self in
    let rows = c.in_ok-rows.rows in
    let marks = c.in_ok-marks.marks in
    let b_is = c.in_ok-arrivals.ensures.brought in
    let arrivals_are = c.in_ok-arrivals.ensures.arrivals in
    let values = subst (λ ms. list_all has_values ms ≡ true) c.as_slice.ensures c.know_messages.ensures in
    let gives : Answers out.query (with_brought old).store.regions (arrivals_of old.schema out.parts old.laid) rows =
    subst (λ (x : Client). Answers out.query x.store.regions (arrivals_of old.schema out.parts old.laid) rows) b_is
    (answers-of out.query b.store.regions c.as_slice-2.result.now (arrivals_of old.schema out.parts old.laid) c.as_slice-3.result.now rows c.as_slice-2.ensures (c.as_slice-3.ensures ∙ arrivals_are) c.in_ok-rows.ensures) in
    let made : IsAfter old.schema out.query_number out.query.parts (arrivals_of old.schema out.parts old.laid) (with_brought old).store store marks =
    subst (λ (x : Client). IsAfter x.schema out.query_number out.query.parts (arrivals_of old.schema out.parts old.laid) x.store store marks) b_is
    (after-of b.schema b.schema out.query_number out.query.parts c.as_slice-4.result.now (arrivals_of old.schema out.parts old.laid) c.in_ok-arrivals.arrivals b.store store marks refl c.as_slice-4.ensures arrivals_are
    (record {
      answered = c.in_ok-marks.ensures.answered;
      cuts = c.in_ok-marks.ensures.cuts;
      store = c.in_ok-marks.ensures.store;
      settled = c.in_ok-marks.ensures.settled;
      true_still = c.in_ok-marks.ensures.true_still;
      last = c.in_ok-marks.ensures.last;
      limits = c.in_ok-marks.ensures.limits;
    })) in
    subst (λ (x : Client). Takes (asking old out) (Reply c.args.number c.args.version) (record x { version = c.args.version; store = store }) (took.Answered out.query_number c.args.version rows marks)) (sym b_is)
    (subst (λ o. Takes (asking old out) (Reply c.args.number c.args.version) (record old { version = c.args.version; out = o; laid = (with_brought old).laid; store = store }) (took.Answered out.query_number c.args.version rows marks)) (sym c.requires.taken)
    (takes-reply old out c.args.number c.args.version store marks rows c.requires.fit c.requires.whole values gives made c.requires.stands))

pub returns-clause-version : goal.returns-clause-version
returns-clause-version c =
    let asked = asking c.args.self.now c.args.out.now in
    let meaning = c.requires.stands.0.meaning in
    reply-later asked.schema (out_of meaning asked.out) asked.laid asked.version c.args.number c.args.version (c.requires.fit meaning)
