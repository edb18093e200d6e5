use Rattle.std.proofs.Common.{◌≡◌, ◌≤◌, inr, refl, sym, subst}
use Rattle.std.specs.Prelude.{◌⊎◌, flat_map}
use Rattle.sr_io.specs.Pieces.{SendsPart}
use Rattle.sr_io.specs.Told.{Linking, sent_on}
use Rattle.sr_script.specs.TraceText.{line_text}
use Rattle.sr_talk.specs.Moves.{SendsAs, SendsInPart}
use Rattle.sr_talk.specs.Serving.{spelled}
use Rattle.sr_dial.specs.Carrying.{SaysInPart, spoken}
use Rattle.sr_talk.proofs.SomeLemmas.{none-written}
use Rattle.sr_talk.proofs.MoveLemmas.{so-in-err}
use Rattle.sr_dial.proofs.OffLemmas.{all-or-some}
use Rattle.sr_dial.proofs.steps.carry.Goals as goal

pub returns-in_err-sent-clause-broken_off : goal.returns-in_err-sent-clause-broken_off
returns-in_err-sent-clause-broken_off g c =
    let part = subst (λ ms. SendsInPart (g.H.Outside.linking c.args.host.now) (g.H.Outside.linking c.send_messages.new.link) (spelled ms)) c.as_slice.ensures c.in_err-sent.ensures.in_part in
    so-in-err c.from_residual.result (
      inr (part.0, c.send_messages.ensures.stays.faults_never_fall),
      subst (λ w. SaysInPart c.args.says (g.H.Outside.writing c.args.host.now) w (flat_map (line_text c.args.schema.now c.args.number) c.args.told.now.lines)) (sym c.send_messages.ensures.stays.writing_stays)
          (none-written (g.H.Outside.writing c.args.host.now).written (spoken c.args.says (flat_map (line_text c.args.schema.now c.args.number) c.args.told.now.lines)), refl),
    )

pub returns-in_err-say-clause-broken_off : goal.returns-in_err-say-clause-broken_off
returns-in_err-say-clause-broken_off g c =
    let sent = subst (λ ms. SendsAs c.in_ok-sent.sent (g.H.Outside.linking c.args.host.now) (g.H.Outside.linking c.send_messages.new.link) (spelled ms)) c.as_slice.ensures c.in_ok-sent.ensures.sent in
    so-in-err c.from_residual-in_err-say.result (
      subst (λ (l : Linking). ((l ≡ sent_on (spelled c.args.told.now.sent) (g.H.Outside.linking c.args.host.now)) ⊎ (SendsPart (g.H.Outside.linking c.args.host.now) l (spelled c.args.told.now.sent) × ((g.H.Outside.linking c.args.host.now).faults ≤ l.faults)))) (sym c.say.ensures.linking_stays)
          (all-or-some c.in_ok-sent.sent (g.H.Outside.linking c.args.host.now) (g.H.Outside.linking c.send_messages.new.link) (spelled c.args.told.now.sent) c.send_messages.ensures.stays.faults_never_fall sent),
      subst (λ w. SaysInPart c.args.says w (g.H.Outside.writing c.say.new.sink) (flat_map (line_text c.args.schema.now c.args.number) c.args.told.now.lines)) c.send_messages.ensures.stays.writing_stays
          (subst (λ ls. SaysInPart c.args.says (g.H.Outside.writing c.send_messages.new.link) (g.H.Outside.writing c.say.new.sink) (flat_map (line_text c.args.schema.now c.args.number) ls)) c.as_slice-2.ensures c.in_err-say.ensures.broken_off),
    )
