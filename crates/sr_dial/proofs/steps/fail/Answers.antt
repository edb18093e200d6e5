use Rattle.std.proofs.Common.{◌≡◌, [], ◌∙◌, ap, subst}
use Rattle.std.specs.Prelude.{flat_map}
use Rattle.sr_script.specs.TraceText.{line_text}
use Rattle.sr_links.specs.Steps.{WasCut}
use Rattle.sr_dial.specs.Carrying.{SaysAs, SaysInPart}
use Rattle.sr_dial.specs.Known.{Makes, Setting}
use Rattle.sr_io.specs.Told.{Linking}
use Rattle.sr_dial.proofs.LineLemmas.{fails-as}
use Rattle.sr_dial.proofs.Results.{if-ok, on-err}
use Rattle.sr_talk.proofs.MoveLemmas.{so-in-err}
use Rattle.sr_dial.proofs.OffLemmas.{all-is-some, fails-off, off-broken}
use Rattle.sr_dial.proofs.steps.fail.Goals as goal

pub returns-clause-failed : goal.returns-clause-failed
returns-clause-failed g c k first s steady ahead feed same schema broken =
    let old = c.args.client.now in
    let new = c.cut.new.self in
    let lines = c.in_ok-lines.lines in
    let number = c.args.number in
    let after = g.H.Outside.writing c.say.new.sink in
    let spoke : c.says.result ≡ k.says = c.says.ensures ∙ ap (λ (x : Setting). x.says) (c.cut.ensures.setting ∙ same) in
    if-ok _ _ c.say.result (λ said says. fails-as _ g.C.Asks.stands g.C.Asks.lent g.C.Peer.is_of g.C.Hearer.has_told k s ahead number _ _ _ _ feed _ _ lines said broken
    (λ past st. subst (λ x. Makes g.C.Asks.stands g.C.Asks.lent g.C.Peer.is_of g.C.Hearer.has_told x old new past WasCut lines []) same (c.in_ok-lines.ensures.made past st))
    (c.say.ensures.linking_stays ∙ c.hang_up.ensures.over)
    (subst (λ w. SaysAs k.says said w (g.H.Outside.writing c.say.new.sink) (flat_map (line_text k.schema c.args.number) c.in_ok-lines.lines)) c.hang_up.ensures.writing_stays
    (subst (λ x. SaysAs k.says said (g.H.Outside.writing c.hang_up.new.self) (g.H.Outside.writing c.say.new.sink) (flat_map (line_text x c.args.number) c.in_ok-lines.lines)) schema
    (subst (λ ls. SaysAs k.says said (g.H.Outside.writing c.hang_up.new.self) (g.H.Outside.writing c.say.new.sink) (flat_map (line_text c.args.schema.now c.args.number) ls)) c.as_slice.ensures
    (subst (λ b. SaysAs b said (g.H.Outside.writing c.hang_up.new.self) (g.H.Outside.writing c.say.new.sink) (flat_map (line_text c.args.schema.now c.args.number) c.as_slice.result.now)) spoke says))))) c.say.ensures.said

pub returns-in_err-lines-clause-broken_off : goal.returns-in_err-lines-clause-broken_off
returns-in_err-lines-clause-broken_off g c k first s steady ahead feed same schema broken =
    so-in-err c.from_residual.result (off-broken _ g.C.Asks.stands g.C.Asks.lent g.C.Peer.is_of g.C.Hearer.has_told k s ahead c.args.number _ feed _ _ (all-is-some s _) _ broken)

pub returns-clause-broken_off : goal.returns-clause-broken_off
returns-clause-broken_off g c k first s steady ahead feed same schema broken =
    let old = c.args.client.now in
    let new = c.cut.new.self in
    let lines = c.in_ok-lines.lines in
    let spoke : c.says.result ≡ k.says = c.says.ensures ∙ ap (λ (x : Setting). x.says) (c.cut.ensures.setting ∙ same) in
    on-err _ _ c.say.result (λ part. fails-off _ g.C.Asks.stands g.C.Asks.lent g.C.Peer.is_of g.C.Hearer.has_told k s ahead c.args.number _ _ _ _ feed _ _ lines broken
    (λ past st. subst (λ x. Makes g.C.Asks.stands g.C.Asks.lent g.C.Peer.is_of g.C.Hearer.has_told x old new past WasCut lines []) same (c.in_ok-lines.ensures.made past st))
    (c.say.ensures.linking_stays ∙ c.hang_up.ensures.over)
    (subst (λ w. SaysInPart k.says w (g.H.Outside.writing c.say.new.sink) (flat_map (line_text k.schema c.args.number) lines)) c.hang_up.ensures.writing_stays
    (subst (λ x. SaysInPart k.says (g.H.Outside.writing c.hang_up.new.self) (g.H.Outside.writing c.say.new.sink) (flat_map (line_text x c.args.number) lines)) schema
    (subst (λ ls. SaysInPart k.says (g.H.Outside.writing c.hang_up.new.self) (g.H.Outside.writing c.say.new.sink) (flat_map (line_text c.args.schema.now c.args.number) ls)) c.as_slice.ensures
    (subst (λ b. SaysInPart b (g.H.Outside.writing c.hang_up.new.self) (g.H.Outside.writing c.say.new.sink) (flat_map (line_text c.args.schema.now c.args.number) c.as_slice.result.now)) spoke part))))) c.say.ensures.broken_off

pub returns-clause-hangs_up : goal.returns-clause-hangs_up
returns-clause-hangs_up g c =
    if-ok _ _ c.say.result (λ said says. ap (λ (x : Linking). x.is_up) (c.say.ensures.linking_stays ∙ c.hang_up.ensures.over)) c.say.ensures.said
