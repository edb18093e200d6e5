use Rattle.std.proofs.Common.{rules, ◌≡◌, true, ◌∙◌, [], ap, cond, Some, refl, sym, subst}
use Rattle.std.specs.Prelude.{flat_map}
use Rattle.sr_io.specs.Causes.{Rose}
use Rattle.sr_io.specs.Told.{OnlyFaults, connected_at}
use Rattle.sr_script.specs.TraceText.{line_text}
use Rattle.sr_links.specs.Steps.{Resumed}
use Rattle.sr_talk.specs.Serving.{spelled}
use Rattle.sr_dial.specs.Carrying.{Carries, SaysAs, CarriesInPart, SaysInPart, spoken}
use Rattle.sr_dial.specs.Courses.{Hands, BreaksOff}
use Rattle.sr_dial.specs.Known.{IsDeed, Makes, Setting}
use Rattle.sr_dial.specs.declared.steps.Handed.TheVariants.{Broken, Unwritten, Whole}
use Rattle.sr_dial.specs.Runs.{none_taken}
use Rattle.sr_dial.proofs.LineLemmas.{resumes-up, resumes-dialled, resumes-alone}
use Rattle.sr_dial.proofs.Results.{if-ok-also, on-err}
use Rattle.sr_talk.proofs.MoveLemmas.{so-in-err}
use Rattle.sr_talk.proofs.SomeLemmas.{none-written}
use Rattle.sr_dial.proofs.OffLemmas.{alone-off, dialled-off, off-ready, up-still-off}
use Rattle.sr_dial.proofs.steps.begin.Goals as goal

pub returns-then-is_empty-clause-begun : goal.returns-then-is_empty-clause-begun
returns-then-is_empty-clause-begun g c k first s steady ahead further line failed at same schema ready is on =
    let old = c.args.client.now in
    let new = c.act.new.self in
    let told = c.in_ok-told.told in
    let spoke : c.says.result ≡ k.says = c.says.ensures ∙ ap (λ (x : Setting). x.says) (c.act.ensures.setting ∙ same) in
    let none : c.in_ok-told.told.sent ≡ [] = c.is_empty.ensures.0 c.if-is_empty.true in
    if-ok-also (g.H.Outside.IsSteady c.args.host.now × ((g.H.Outside.linking c.args.host.now).is_up ≡ true)) _ _ (λ handed. handed ≡ Whole) c.carry.result (λ handed carries whole. resumes-up _ g.C.Asks.stands g.C.Asks.lent g.C.Peer.is_of g.C.Hearer.has_told k s ahead further line c.args.number failed _ _ _ _ c.args.feed.now _ _ told.lines told.sent on ready
    (λ past st. subst (λ x. Makes g.C.Asks.stands g.C.Asks.lent g.C.Peer.is_of g.C.Hearer.has_told x old new past Resumed told.lines told.sent) same
    (c.in_ok-told.ensures.made past Resumed st (subst (λ (x : Setting). IsDeed x.schema c.args.event Resumed) (sym same) is))) handed (λ z up. whole (steady z, up)) none
    (subst (λ x. Carries k.says handed (g.H.Outside.linking c.args.host.now) (g.H.Outside.linking c.carry.new.host) (g.H.Outside.writing c.args.host.now) (g.H.Outside.writing c.carry.new.host) (spelled told.sent)
    (flat_map (line_text x c.args.number) told.lines)) schema
    (subst (λ b. Carries b handed (g.H.Outside.linking c.args.host.now) (g.H.Outside.linking c.carry.new.host) (g.H.Outside.writing c.args.host.now) (g.H.Outside.writing c.carry.new.host) (spelled told.sent)
    (flat_map (line_text c.args.schema.now c.args.number) told.lines)) spoke carries))) c.carry.ensures.carried (λ both. c.carry.ensures.steady_links both.0 both.1)

pub returns-in-Ok-clause-begun : goal.returns-in-Ok-clause-begun
returns-in-Ok-clause-begun g c k first s steady ahead further line failed at same schema ready is on =
    let old = c.args.client.now in
    let new = c.act.new.self in
    let told = c.in_ok-told.told in
    let some : c.in_ok-told.told.sent ≡ [] → ⊥ = λ none. absurd (let wrong = c.is_empty.ensures.1 none in let no = c.if-is_empty.false in cc) in
    let spoke : c.says-in-Ok.result ≡ k.says = c.says-in-Ok.ensures ∙ ap (λ (x : Setting). x.says) (c.act.ensures.setting ∙ same) in
    if-ok-also (g.H.Outside.IsSteady c.args.host.now × ((g.H.Outside.linking c.dial.new.self).is_up ≡ true)) _ _ (λ handed. handed ≡ Whole) c.carry-in-Ok.result (λ handed carries whole.
    subst (λ feed. Hands _ g.C.Asks.stands g.C.Asks.lent g.C.Peer.is_of g.C.Hearer.has_told k handed s further c.args.number none_taken failed (g.H.Outside.linking c.carry-in-Ok.new.host) (g.H.Outside.writing c.carry-in-Ok.new.host) feed c.act.new.self) (sym c.new.ensures)
    (resumes-dialled _ g.C.Asks.stands g.C.Asks.lent g.C.Peer.is_of g.C.Hearer.has_told k s ahead further line c.args.number failed _ _ _ _ c.args.feed.now _ _ told.lines told.sent on ready
    (λ past st. subst (λ x. Makes g.C.Asks.stands g.C.Asks.lent g.C.Peer.is_of g.C.Hearer.has_told x old new past Resumed told.lines told.sent) same
    (c.in_ok-told.ensures.made past Resumed st (subst (λ (x : Setting). IsDeed x.schema c.args.event Resumed) (sym same) is))) handed (g.H.Outside.linking c.dial.new.self) (λ z up. whole (steady z, up)) some
    (λ last. c.in-Ok.ensures.none_past_the_last last refl)
    (subst (λ a. g.H.Outside.linking c.dial.new.self ≡ connected_at (Some a) (g.H.Outside.linking c.args.host.now)) (sym at) c.in-Ok.ensures.made)
    (subst (λ x. Carries k.says handed (g.H.Outside.linking c.dial.new.self) (g.H.Outside.linking c.carry-in-Ok.new.host) (g.H.Outside.writing c.args.host.now) (g.H.Outside.writing c.carry-in-Ok.new.host) (spelled told.sent)
    (flat_map (line_text x c.args.number) told.lines)) schema
    (subst (λ w. Carries k.says handed (g.H.Outside.linking c.dial.new.self) (g.H.Outside.linking c.carry-in-Ok.new.host) w (g.H.Outside.writing c.carry-in-Ok.new.host) (spelled told.sent)
    (flat_map (line_text c.args.schema.now c.args.number) told.lines)) c.dial.ensures.writing_stays
    (subst (λ b. Carries b handed (g.H.Outside.linking c.dial.new.self) (g.H.Outside.linking c.carry-in-Ok.new.host) (g.H.Outside.writing c.dial.new.self) (g.H.Outside.writing c.carry-in-Ok.new.host) (spelled told.sent)
    (flat_map (line_text c.args.schema.now c.args.number) told.lines)) spoke carries))))) c.carry-in-Ok.ensures.carried (λ both. c.carry-in-Ok.ensures.steady_links (c.dial.ensures.stays_steady both.0) both.1)

pub returns-in-Err-Refused-clause-begun : goal.returns-in-Err-Refused-clause-begun
returns-in-Err-Refused-clause-begun g c k first s steady ahead further line failed at same schema ready is on =
    let old = c.args.client.now in
    let new = c.act.new.self in
    let told = c.in_ok-told.told in
    let said = c.in_ok-said-in-Err-Refused.said in
    let spoke : c.says-in-Err-Refused.result ≡ k.says = c.says-in-Err-Refused.ensures ∙ ap (λ (x : Setting). x.says) (c.act.ensures.setting ∙ same) in
    let some : c.in_ok-told.told.sent ≡ [] → ⊥ = λ none. absurd (let wrong = c.is_empty.ensures.1 none in let no = c.if-is_empty.false in cc) in
    let rose : Rose (g.H.Outside.linking c.args.host.now).faults (g.H.Outside.linking c.dial.new.self).faults = search rules in
    subst (λ handed. Hands _ g.C.Asks.stands g.C.Asks.lent g.C.Peer.is_of g.C.Hearer.has_told k handed s further c.args.number none_taken failed (g.H.Outside.linking c.say.new.sink) (g.H.Outside.writing c.say.new.sink) c.new.result c.act.new.self) (sym c.broken_by.ensures)
    (subst (λ feed. Hands _ g.C.Asks.stands g.C.Asks.lent g.C.Peer.is_of g.C.Hearer.has_told k (cond said Broken Unwritten) s further c.args.number none_taken failed (g.H.Outside.linking c.say.new.sink) (g.H.Outside.writing c.say.new.sink) feed c.act.new.self) (sym c.new.ensures)
    (resumes-alone _ g.C.Asks.stands g.C.Asks.lent g.C.Peer.is_of g.C.Hearer.has_told k s ahead further line c.args.number failed _ _ _ _ c.args.feed.now _ _ told.lines told.sent on ready
    (λ past st. subst (λ x. Makes g.C.Asks.stands g.C.Asks.lent g.C.Peer.is_of g.C.Hearer.has_told x old new past Resumed told.lines told.sent) same
    (c.in_ok-told.ensures.made past Resumed st (subst (λ (x : Setting). IsDeed x.schema c.args.event Resumed) (sym same) is))) said some
    (subst (λ l. OnlyFaults (g.H.Outside.linking c.args.host.now) l) (sym c.say.ensures.linking_stays) c.in-Err-Refused.ensures.unchanged)
    (subst (λ (l : Rattle.sr_io.specs.Told.Linking). Rose (g.H.Outside.linking c.args.host.now).faults l.faults) (sym c.say.ensures.linking_stays) rose)
    (λ z. c.dial.ensures.steady_fails_only_past_the_last (steady z) (search rules))
    (subst (λ x. SaysAs k.says said (g.H.Outside.writing c.args.host.now) (g.H.Outside.writing c.say.new.sink) (flat_map (line_text x c.args.number) told.lines)) schema
    (subst (λ ls. SaysAs k.says said (g.H.Outside.writing c.args.host.now) (g.H.Outside.writing c.say.new.sink) (flat_map (line_text c.args.schema.now c.args.number) ls)) c.as_slice.ensures
    (subst (λ w. SaysAs k.says said w (g.H.Outside.writing c.say.new.sink) (flat_map (line_text c.args.schema.now c.args.number) c.as_slice.result.now)) c.dial.ensures.writing_stays
    (subst (λ b. SaysAs b said (g.H.Outside.writing c.dial.new.self) (g.H.Outside.writing c.say.new.sink) (flat_map (line_text c.args.schema.now c.args.number) c.as_slice.result.now)) spoke c.in_ok-said-in-Err-Refused.ensures.said))))))

pub returns-in_err-told-clause-broken_off : goal.returns-in_err-told-clause-broken_off
returns-in_err-told-clause-broken_off g c k first s steady ahead further line failed at same schema ready is on =
    so-in-err c.from_residual.result (off-ready _ g.C.Asks.stands g.C.Asks.lent g.C.Peer.is_of g.C.Hearer.has_told k s ahead line failed _ _ c.args.feed.now _ ready)

pub returns-then-is_empty-clause-broken_off : goal.returns-then-is_empty-clause-broken_off
returns-then-is_empty-clause-broken_off g c k first s steady ahead further line failed at same schema ready is on =
    let old = c.args.client.now in
    let new = c.act.new.self in
    let told = c.in_ok-told.told in
    let spoke : c.says.result ≡ k.says = c.says.ensures ∙ ap (λ (x : Setting). x.says) (c.act.ensures.setting ∙ same) in
    let none : c.in_ok-told.told.sent ≡ [] = c.is_empty.ensures.0 c.if-is_empty.true in
    on-err _ _ c.carry.result (λ carries. up-still-off _ g.C.Asks.stands g.C.Asks.lent g.C.Peer.is_of g.C.Hearer.has_told k s ahead further line c.args.number failed _ _ _ _ c.args.feed.now _ _ told.lines told.sent on ready
    (λ past st. subst (λ x. Makes g.C.Asks.stands g.C.Asks.lent g.C.Peer.is_of g.C.Hearer.has_told x old new past Resumed told.lines told.sent) same
    (c.in_ok-told.ensures.made past Resumed st (subst (λ (x : Setting). IsDeed x.schema c.args.event Resumed) (sym same) is))) none
    (subst (λ x. CarriesInPart k.says (g.H.Outside.linking c.args.host.now) (g.H.Outside.linking c.carry.new.host) (g.H.Outside.writing c.args.host.now) (g.H.Outside.writing c.carry.new.host) (spelled told.sent) (flat_map (line_text x c.args.number) told.lines)) schema
    (subst (λ b. CarriesInPart b (g.H.Outside.linking c.args.host.now) (g.H.Outside.linking c.carry.new.host) (g.H.Outside.writing c.args.host.now) (g.H.Outside.writing c.carry.new.host) (spelled told.sent) (flat_map (line_text c.args.schema.now c.args.number) told.lines)) spoke carries))) c.carry.ensures.broken_off

pub returns-in-Ok-clause-broken_off : goal.returns-in-Ok-clause-broken_off
returns-in-Ok-clause-broken_off g c k first s steady ahead further line failed at same schema ready is on =
    let old = c.args.client.now in
    let new = c.act.new.self in
    let told = c.in_ok-told.told in
    let some : c.in_ok-told.told.sent ≡ [] → ⊥ = λ none. absurd (let wrong = c.is_empty.ensures.1 none in let no = c.if-is_empty.false in cc) in
    let spoke : c.says-in-Ok.result ≡ k.says = c.says-in-Ok.ensures ∙ ap (λ (x : Setting). x.says) (c.act.ensures.setting ∙ same) in
    on-err _ _ c.carry-in-Ok.result (λ carries. dialled-off _ g.C.Asks.stands g.C.Asks.lent g.C.Peer.is_of g.C.Hearer.has_told k s ahead further line c.args.number failed _ _ _ _ c.args.feed.now _ _ told.lines told.sent on ready
    (λ past st. subst (λ x. Makes g.C.Asks.stands g.C.Asks.lent g.C.Peer.is_of g.C.Hearer.has_told x old new past Resumed told.lines told.sent) same
    (c.in_ok-told.ensures.made past Resumed st (subst (λ (x : Setting). IsDeed x.schema c.args.event Resumed) (sym same) is))) some (g.H.Outside.linking c.dial.new.self)
    (λ last. c.in-Ok.ensures.none_past_the_last last refl)
    (subst (λ a. g.H.Outside.linking c.dial.new.self ≡ connected_at (Some a) (g.H.Outside.linking c.args.host.now)) (sym at) c.in-Ok.ensures.made)
    (subst (λ x. CarriesInPart k.says (g.H.Outside.linking c.dial.new.self) (g.H.Outside.linking c.carry-in-Ok.new.host) (g.H.Outside.writing c.args.host.now) (g.H.Outside.writing c.carry-in-Ok.new.host) (spelled told.sent) (flat_map (line_text x c.args.number) told.lines)) schema
    (subst (λ w. CarriesInPart k.says (g.H.Outside.linking c.dial.new.self) (g.H.Outside.linking c.carry-in-Ok.new.host) w (g.H.Outside.writing c.carry-in-Ok.new.host) (spelled told.sent) (flat_map (line_text c.args.schema.now c.args.number) told.lines)) c.dial.ensures.writing_stays
    (subst (λ b. CarriesInPart b (g.H.Outside.linking c.dial.new.self) (g.H.Outside.linking c.carry-in-Ok.new.host) (g.H.Outside.writing c.dial.new.self) (g.H.Outside.writing c.carry-in-Ok.new.host) (spelled told.sent) (flat_map (line_text c.args.schema.now c.args.number) told.lines)) spoke carries)))) c.carry-in-Ok.ensures.broken_off

pub returns-in_err-said-in-Err-Refused-clause-broken_off : goal.returns-in_err-said-in-Err-Refused-clause-broken_off
returns-in_err-said-in-Err-Refused-clause-broken_off g c k first s steady ahead further line failed at same schema ready is on =
    let old = c.args.client.now in
    let new = c.act.new.self in
    let told = c.in_ok-told.told in
    let some : c.in_ok-told.told.sent ≡ [] → ⊥ = λ none. absurd (let wrong = c.is_empty.ensures.1 none in let no = c.if-is_empty.false in cc) in
    let spoke : c.says-in-Err-Refused.result ≡ k.says = c.says-in-Err-Refused.ensures ∙ ap (λ (x : Setting). x.says) (c.act.ensures.setting ∙ same) in
    so-in-err c.from_residual-in_err-said-in-Err-Refused.result
    (subst (λ l. BreaksOff _ g.C.Asks.stands g.C.Asks.lent g.C.Peer.is_of g.C.Hearer.has_told k s l (g.H.Outside.writing c.say.new.sink)) (sym c.say.ensures.linking_stays)
    (alone-off _ g.C.Asks.stands g.C.Asks.lent g.C.Peer.is_of g.C.Hearer.has_told k s ahead further line c.args.number failed _ _ _ _ c.args.feed.now _ _ told.lines told.sent on ready
    (λ past st. subst (λ x. Makes g.C.Asks.stands g.C.Asks.lent g.C.Peer.is_of g.C.Hearer.has_told x old new past Resumed told.lines told.sent) same
    (c.in_ok-told.ensures.made past Resumed st (subst (λ (x : Setting). IsDeed x.schema c.args.event Resumed) (sym same) is))) some c.in-Err-Refused.ensures.unchanged c.dial.ensures.faults_never_fall
    (subst (λ x. SaysInPart k.says (g.H.Outside.writing c.args.host.now) (g.H.Outside.writing c.say.new.sink) (flat_map (line_text x c.args.number) told.lines)) schema
    (subst (λ ls. SaysInPart k.says (g.H.Outside.writing c.args.host.now) (g.H.Outside.writing c.say.new.sink) (flat_map (line_text c.args.schema.now c.args.number) ls)) c.as_slice.ensures
    (subst (λ w. SaysInPart k.says w (g.H.Outside.writing c.say.new.sink) (flat_map (line_text c.args.schema.now c.args.number) c.as_slice.result.now)) c.dial.ensures.writing_stays
    (subst (λ b. SaysInPart b (g.H.Outside.writing c.dial.new.self) (g.H.Outside.writing c.say.new.sink) (flat_map (line_text c.args.schema.now c.args.number) c.as_slice.result.now)) spoke c.in_err-said-in-Err-Refused.ensures.broken_off))))))

pub returns-clause-broken_off : goal.returns-clause-broken_off
returns-clause-broken_off g c k first s steady ahead further line failed at same schema ready is on =
    let old = c.args.client.now in
    let new = c.act.new.self in
    let told = c.in_ok-told.told in
    let some : c.in_ok-told.told.sent ≡ [] → ⊥ = λ none. absurd (let wrong = c.is_empty.ensures.1 none in let no = c.if-is_empty.false in cc) in
    alone-off _ g.C.Asks.stands g.C.Asks.lent g.C.Peer.is_of g.C.Hearer.has_told k s ahead further line c.args.number failed _ _ _ _ c.args.feed.now _ _ told.lines told.sent on ready
    (λ past st. subst (λ x. Makes g.C.Asks.stands g.C.Asks.lent g.C.Peer.is_of g.C.Hearer.has_told x old new past Resumed told.lines told.sent) same
    (c.in_ok-told.ensures.made past Resumed st (subst (λ (x : Setting). IsDeed x.schema c.args.event Resumed) (sym same) is))) some c.in-Err-NoMemory.ensures.unchanged c.dial.ensures.faults_never_fall
    (subst (λ w. SaysInPart k.says (g.H.Outside.writing c.args.host.now) w (flat_map (line_text k.schema c.args.number) told.lines)) (sym c.dial.ensures.writing_stays)
    (none-written (g.H.Outside.writing c.args.host.now).written (spoken k.says (flat_map (line_text k.schema c.args.number) told.lines)), refl))
