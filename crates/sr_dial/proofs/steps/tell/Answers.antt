use Rattle.std.proofs.Common.{◌≡◌, ◌∙◌, ap, cond, sym, subst, None, [], ◌∷◌, ◌++◌}
use Rattle.std.specs.Prelude.{flat_map}
use Rattle.sr_reader.specs.Read.{Means}
use Rattle.sr_script.specs.TraceText.{line_text}
use Rattle.sr_dial.specs.Carrying.{SaysAs, SaysInPart}
use Rattle.sr_dial.specs.Courses.{Hands, BreaksOff}
use Rattle.sr_dial.specs.Known.{Setting, Tells}
use Rattle.sr_dial.specs.Runs.{left_by}
use Rattle.sr_dial.specs.declared.steps.Handed.TheVariants.{Whole, Unwritten}
use Rattle.sr_dial.specs.Runs.{none_taken}
use Rattle.sr_dial.proofs.QuietLemmas.{explains-hands}
use Rattle.sr_talk.proofs.MoveLemmas.{so-in-err}
use Rattle.sr_dial.proofs.OffLemmas.{explains-off, off-free}
use Rattle.sr_dial.proofs.steps.tell.Goals as goal

pub returns-clause-told : goal.returns-clause-told
returns-clause-told g c k first s steady ahead further line failed feed text same schema free means on =
    let lines = c.in_ok-lines.lines in
    let past = left_by s.past (free.at.course.earlier ++ free.at.course.call ∷ []) in
    let tells = subst (λ x. Tells g.C.Peer.is_of x c.args.client.now past text lines) same
    (c.in_ok-lines.ensures.told past text free.at.course.steps.stands (subst (λ (x : Setting). Means x.schema c.args.query text) (sym same) means)) in
    let spoke : c.says.result ≡ k.says = c.says.ensures ∙ ap (λ (x : Setting). x.says) same in
    subst (λ handed. Hands _ g.C.Asks.stands g.C.Asks.lent g.C.Peer.is_of g.C.Hearer.has_told k handed s (λ answer. further None) c.args.number none_taken failed (g.K.Outside.linking c.say.new.sink) (g.K.Outside.writing c.say.new.sink) feed c.args.client.now) (sym c.written_by.ensures)
    (subst (λ l. Hands _ g.C.Asks.stands g.C.Asks.lent g.C.Peer.is_of g.C.Hearer.has_told k (cond c.in_ok-said.said Whole Unwritten) s (λ answer. further None) c.args.number none_taken failed l (g.K.Outside.writing c.say.new.sink) feed c.args.client.now) (sym c.say.ensures.linking_stays)
    (explains-hands _ g.C.Asks.stands g.C.Asks.lent g.C.Peer.is_of g.C.Hearer.has_told k s ahead further line c.args.number failed _ _ _ feed _ text lines c.in_ok-said.said free on tells
    (subst (λ x. SaysAs k.says c.in_ok-said.said (g.K.Outside.writing c.args.sink.now) (g.K.Outside.writing c.say.new.sink) (flat_map (line_text x c.args.number) lines)) schema
    (subst (λ ls. SaysAs k.says c.in_ok-said.said (g.K.Outside.writing c.args.sink.now) (g.K.Outside.writing c.say.new.sink) (flat_map (line_text c.args.schema.now c.args.number) ls)) c.as_slice.ensures
    (subst (λ b. SaysAs b c.in_ok-said.said (g.K.Outside.writing c.args.sink.now) (g.K.Outside.writing c.say.new.sink) (flat_map (line_text c.args.schema.now c.args.number) c.as_slice.result.now)) spoke c.in_ok-said.ensures.said)))))

pub returns-in_err-lines-clause-broken_off : goal.returns-in_err-lines-clause-broken_off
returns-in_err-lines-clause-broken_off g c k first s steady ahead further line failed feed text same schema free means on =
    so-in-err c.from_residual.result (off-free _ g.C.Asks.stands g.C.Asks.lent g.C.Peer.is_of g.C.Hearer.has_told k s ahead line failed _ _ feed _ free)

pub returns-in_err-said-clause-broken_off : goal.returns-in_err-said-clause-broken_off
returns-in_err-said-clause-broken_off g c k first s steady ahead further line failed feed text same schema free means on =
    let lines = c.in_ok-lines.lines in
    let past = left_by s.past (free.at.course.earlier ++ free.at.course.call ∷ []) in
    let tells = subst (λ x. Tells g.C.Peer.is_of x c.args.client.now past text lines) same
    (c.in_ok-lines.ensures.told past text free.at.course.steps.stands (subst (λ (x : Setting). Means x.schema c.args.query text) (sym same) means)) in
    let spoke : c.says.result ≡ k.says = c.says.ensures ∙ ap (λ (x : Setting). x.says) same in
    so-in-err c.from_residual-in_err-said.result
    (subst (λ l. BreaksOff _ g.C.Asks.stands g.C.Asks.lent g.C.Peer.is_of g.C.Hearer.has_told k s l (g.K.Outside.writing c.say.new.sink)) (sym c.say.ensures.linking_stays)
    (explains-off _ g.C.Asks.stands g.C.Asks.lent g.C.Peer.is_of g.C.Hearer.has_told k s ahead further line c.args.number failed _ _ _ feed _ free text lines on tells
    (subst (λ x. SaysInPart k.says (g.K.Outside.writing c.args.sink.now) (g.K.Outside.writing c.say.new.sink) (flat_map (line_text x c.args.number) lines)) schema
    (subst (λ ls. SaysInPart k.says (g.K.Outside.writing c.args.sink.now) (g.K.Outside.writing c.say.new.sink) (flat_map (line_text c.args.schema.now c.args.number) ls)) c.as_slice.ensures
    (subst (λ b. SaysInPart b (g.K.Outside.writing c.args.sink.now) (g.K.Outside.writing c.say.new.sink) (flat_map (line_text c.args.schema.now c.args.number) c.as_slice.result.now)) spoke c.in_err-said.ensures.broken_off)))))
