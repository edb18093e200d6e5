use Rattle.std.proofs.Common.{rules, ◌≡◌, ◌∙◌, ap, true, false, refl, cond, sym, subst, None}
use Rattle.sr_talk.proofs.SomeLemmas.{appends-nothing}
use Rattle.sr_dial.specs.Carrying.{SaysAs, SaysInPart}
use Rattle.sr_dial.specs.Courses.{Hands, BreaksOff}
use Rattle.sr_dial.specs.Known.{Setting}
use Rattle.sr_dial.specs.declared.steps.Handed.TheVariants.{Whole, Unwritten}
use Rattle.sr_dial.specs.Runs.{none_taken}
use Rattle.sr_dial.proofs.QuietLemmas.{says-hands}
use Rattle.sr_talk.proofs.MoveLemmas.{so-in-err}
use Rattle.sr_dial.proofs.OffLemmas.{says-off}
use Rattle.sr_dial.proofs.steps.write.Goals as goal

pub returns-clause-told : goal.returns-clause-told
returns-clause-told g c k first s steady ahead further line failed feed same free on =
    let spoke : true ≡ k.says = (let yes : true ≡ c.says.result = search rules in yes) ∙ (c.says.ensures ∙ ap (λ (x : Setting). x.says) same) in
    subst (λ handed. Hands _ g.C.Asks.stands g.C.Asks.lent g.C.Peer.is_of g.C.Hearer.has_told k handed s (λ answer. further None) c.args.number none_taken failed (g.K.Outside.linking c.write_text.new.sink) (g.K.Outside.writing c.write_text.new.sink) feed c.args.client.now) (sym c.written_by.ensures)
    (subst (λ l. Hands _ g.C.Asks.stands g.C.Asks.lent g.C.Peer.is_of g.C.Hearer.has_told k (cond c.in_ok-said.said Whole Unwritten) s (λ answer. further None) c.args.number none_taken failed l (g.K.Outside.writing c.write_text.new.sink) feed c.args.client.now) (sym c.write_text.ensures.linking_stays)
    (says-hands _ g.C.Asks.stands g.C.Asks.lent g.C.Peer.is_of g.C.Hearer.has_told k s ahead further line c.args.number failed _ _ _ feed _ c.args.text.now c.in_ok-said.said free on
    (subst (λ b. SaysAs b c.in_ok-said.said (g.K.Outside.writing c.args.sink.now) (g.K.Outside.writing c.write_text.new.sink) c.args.text.now) spoke c.in_ok-said.ensures.said)))

pub returns-then-not-says-clause-told : goal.returns-then-not-says-clause-told
returns-then-not-says-clause-told g c k first s steady ahead further line failed feed same free on =
    let quiet : false ≡ c.says.result = search rules in
    let spoke : false ≡ k.says = quiet ∙ (c.says.ensures ∙ ap (λ (x : Setting). x.says) same) in
    says-hands _ g.C.Asks.stands g.C.Asks.lent g.C.Peer.is_of g.C.Hearer.has_told k s ahead further line c.args.number failed _ _ _ feed _ c.args.text.now true free on
    (subst (λ b. SaysAs b true (g.K.Outside.writing c.args.sink.now) (g.K.Outside.writing c.args.sink.now) c.args.text.now) spoke (appends-nothing (g.K.Outside.writing c.args.sink.now).written, refl))

pub returns-in_err-said-clause-broken_off : goal.returns-in_err-said-clause-broken_off
returns-in_err-said-clause-broken_off g c k first s steady ahead further line failed feed same free on =
    let spoke : true ≡ k.says = (let yes : true ≡ c.says.result = search rules in yes) ∙ (c.says.ensures ∙ ap (λ (x : Setting). x.says) same) in
    so-in-err c.from_residual.result
    (subst (λ l. BreaksOff _ g.C.Asks.stands g.C.Asks.lent g.C.Peer.is_of g.C.Hearer.has_told k s l (g.K.Outside.writing c.write_text.new.sink)) (sym c.write_text.ensures.linking_stays)
    (says-off _ g.C.Asks.stands g.C.Asks.lent g.C.Peer.is_of g.C.Hearer.has_told k s ahead further line c.args.number failed _ _ _ feed _ free c.args.text.now on
    (subst (λ b. SaysInPart b (g.K.Outside.writing c.args.sink.now) (g.K.Outside.writing c.write_text.new.sink) c.args.text.now) spoke c.in_err-said.ensures.broken_off)))
