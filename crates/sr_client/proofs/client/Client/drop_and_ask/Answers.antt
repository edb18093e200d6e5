use Rattle.std.proofs.Common.{[], ◌∙◌, ap, subst}
use Rattle.sr_store.specs.declared.store.Store.{Store}
use Rattle.sr_client.specs.Asking.{whole_asks}
use Rattle.sr_client.specs.Sending.{IsSent}
use Rattle.sr_client.specs.Sends.{QuerySendsWell}
use Rattle.sr_client.specs.Steps.{Queries}
use Rattle.sr_client.specs.declared.client.Client.{Client}
use Rattle.sr_client.proofs.OverLemmas.{with_regions}
use Rattle.sr_client.proofs.Results.{if_each, of_ok}
use Rattle.sr_client.proofs.SendLemmas.{query-drops, facts-dropped, may-ask-whole}
use Rattle.sr_client.proofs.SendableLemmas.{sent-well}
use Rattle.sr_client.proofs.client.Client.drop_and_ask.Goals as goal

abbrev with_store : Client → Store → Client
with_store c store = record c { store = store }

pub returns-clause-queries : goal.returns-clause-queries
returns-clause-queries c = λ meaning is.
    let old = c.args.self.now in
    let q = c.args.query in
    let new = c.send_ask.new.self in
    let drops = c.in_ok-drops.drops in
    if_each (Queries old meaning new) c.send_ask.result (λ step e.
    let sent = of_ok (IsSent (with_store old c.drop_all.new.self) q c.in_ok-asks.asks drops new) c.send_ask.result step e c.send_ask.ensures.sent in
    let emptied = subst (λ (s : Store). IsSent (with_store old s) q c.in_ok-asks.asks drops new step) c.drop_all.ensures.nothing_left sent in
    let whole = subst (λ asks. IsSent (with_regions old []) q asks drops new step) (c.in_ok-asks.ensures.is ∙ ap whole_asks c.as_slice.ensures) emptied in
    query-drops old q meaning drops new step c.requires.idle c.requires.up is c.requires.left c.requires.over c.in_ok-drops.ensures.marks whole c.requires.stands)

pub returns-clause-sends : goal.returns-clause-sends
returns-clause-sends c =
    let old = c.args.self.now in
    let q = c.args.query in
    let new = c.send_ask.new.self in
    let drops = c.in_ok-drops.drops in
    let meaning = c.requires.meant.0 in
    let is = c.requires.meant.1 in
    let h = c.requires.stands.0 in
    let f = facts-dropped old h c.requires.stands.1 c.requires.idle in
    if_each (QuerySendsWell old.schema old.id) c.send_ask.result (λ step e.
    let sent = of_ok (IsSent (with_store old c.drop_all.new.self) q c.in_ok-asks.asks drops new) c.send_ask.result step e c.send_ask.ensures.sent in
    let emptied = subst (λ (s : Store). IsSent (with_store old s) q c.in_ok-asks.asks drops new step) c.drop_all.ensures.nothing_left sent in
    let whole = subst (λ asks. IsSent (with_regions old []) q asks drops new step) (c.in_ok-asks.ensures.is ∙ ap whole_asks c.as_slice.ensures) emptied in
    sent-well (with_regions old []) q meaning (whole_asks q.parts) drops _ new step (may-ask-whole old q meaning c.requires.idle is c.requires.left c.requires.stands) f whole)
