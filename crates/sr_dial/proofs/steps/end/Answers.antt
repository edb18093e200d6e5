use Rattle.std.proofs.Common.{◌≡◌, [], ◌∷◌, ◌++◌, ◌∙◌, ap, sym, subst}
use Rattle.std.specs.Prelude.{flat_map}
use Rattle.sr_script.specs.TraceText.{line_text}
use Rattle.sr_links.specs.Steps.{WasCut}
use Rattle.sr_talk.specs.Serving.{spelled}
use Rattle.sr_dial.specs.Carrying.{Carries, CarriesInPart}
use Rattle.sr_dial.specs.Known.{IsDeed, Makes, Setting}
use Rattle.sr_dial.specs.Runs.{left_by}
use Rattle.sr_io.specs.Told.{Linking}
use Rattle.sr_dial.proofs.HandLemmas.{carries-up, cut-hands}
use Rattle.sr_dial.proofs.Results.{if-ok, on-err}
use Rattle.sr_talk.proofs.MoveLemmas.{so-in-err}
use Rattle.sr_dial.proofs.OffLemmas.{off-free, cut-off}
use Rattle.sr_dial.proofs.steps.end.Goals as goal

pub returns-clause-cut : goal.returns-clause-cut
returns-clause-cut g c k first s steady ahead further line failed feed same schema free is on =
    let old = c.args.client.now in
    let new = c.act.new.self in
    let told = c.in_ok-told.told in
    let past = left_by s.past (free.at.course.earlier ++ free.at.course.call ∷ []) in
    let m = c.in_ok-told.ensures.made past WasCut free.at.course.steps.stands (subst (λ (x : Setting). IsDeed x.schema c.args.event WasCut) (sym same) is) in
    let made = subst (λ x. Makes g.C.Asks.stands g.C.Asks.lent g.C.Peer.is_of g.C.Hearer.has_told x old new past WasCut told.lines told.sent) same m in
    let spoke : c.says.result ≡ k.says = c.says.ensures ∙ ap (λ (x : Setting). x.says) (c.act.ensures.setting ∙ same) in
    if-ok _ _ c.carry.result (λ handed carries. cut-hands _ g.C.Asks.stands g.C.Asks.lent g.C.Peer.is_of g.C.Hearer.has_told k s ahead further line c.args.number failed _ (g.H.Outside.linking c.hang_up.new.self) _ _ _ feed _ _ _ _ handed free on made c.hang_up.ensures.over
    (subst (λ x. Carries k.says handed (g.H.Outside.linking c.hang_up.new.self) (g.H.Outside.linking c.carry.new.host) (g.H.Outside.writing c.args.host.now) (g.H.Outside.writing c.carry.new.host) (spelled told.sent)
    (flat_map (line_text x c.args.number) told.lines)) schema
    (subst (λ w. Carries k.says handed (g.H.Outside.linking c.hang_up.new.self) (g.H.Outside.linking c.carry.new.host) w (g.H.Outside.writing c.carry.new.host) (spelled told.sent)
    (flat_map (line_text c.args.schema.now c.args.number) told.lines)) c.hang_up.ensures.writing_stays
    (subst (λ b. Carries b handed (g.H.Outside.linking c.hang_up.new.self) (g.H.Outside.linking c.carry.new.host) (g.H.Outside.writing c.hang_up.new.self) (g.H.Outside.writing c.carry.new.host) (spelled told.sent)
    (flat_map (line_text c.args.schema.now c.args.number) told.lines)) spoke carries)))) c.carry.ensures.carried

pub returns-in_err-told-clause-broken_off : goal.returns-in_err-told-clause-broken_off
returns-in_err-told-clause-broken_off g c k first s steady ahead further line failed feed same schema free is on =
    so-in-err c.from_residual.result (off-free _ g.C.Asks.stands g.C.Asks.lent g.C.Peer.is_of g.C.Hearer.has_told k s ahead line failed _ _ feed _ free)

pub returns-clause-broken_off : goal.returns-clause-broken_off
returns-clause-broken_off g c k first s steady ahead further line failed feed same schema free is on =
    let old = c.args.client.now in
    let new = c.act.new.self in
    let told = c.in_ok-told.told in
    let past = left_by s.past (free.at.course.earlier ++ free.at.course.call ∷ []) in
    let m = c.in_ok-told.ensures.made past WasCut free.at.course.steps.stands (subst (λ (x : Setting). IsDeed x.schema c.args.event WasCut) (sym same) is) in
    let made = subst (λ x. Makes g.C.Asks.stands g.C.Asks.lent g.C.Peer.is_of g.C.Hearer.has_told x old new past WasCut told.lines told.sent) same m in
    let spoke : c.says.result ≡ k.says = c.says.ensures ∙ ap (λ (x : Setting). x.says) (c.act.ensures.setting ∙ same) in
    on-err _ _ c.carry.result (λ carries. cut-off _ g.C.Asks.stands g.C.Asks.lent g.C.Peer.is_of g.C.Hearer.has_told k s ahead further line c.args.number failed _ (g.H.Outside.linking c.hang_up.new.self) _ _ _ feed _ _ _ _ free on made c.hang_up.ensures.over
    (subst (λ x. CarriesInPart k.says (g.H.Outside.linking c.hang_up.new.self) (g.H.Outside.linking c.carry.new.host) (g.H.Outside.writing c.args.host.now) (g.H.Outside.writing c.carry.new.host) (spelled told.sent) (flat_map (line_text x c.args.number) told.lines)) schema
    (subst (λ w. CarriesInPart k.says (g.H.Outside.linking c.hang_up.new.self) (g.H.Outside.linking c.carry.new.host) w (g.H.Outside.writing c.carry.new.host) (spelled told.sent) (flat_map (line_text c.args.schema.now c.args.number) told.lines)) c.hang_up.ensures.writing_stays
    (subst (λ b. CarriesInPart b (g.H.Outside.linking c.hang_up.new.self) (g.H.Outside.linking c.carry.new.host) (g.H.Outside.writing c.hang_up.new.self) (g.H.Outside.writing c.carry.new.host) (spelled told.sent) (flat_map (line_text c.args.schema.now c.args.number) told.lines)) spoke carries)))) c.carry.ensures.broken_off

pub returns-clause-hangs_up : goal.returns-clause-hangs_up
returns-clause-hangs_up g c =
    if-ok _ _ c.carry.result (λ handed carries. carries-up _ handed _ _ _ _ _ _ carries ∙ ap (λ (x : Linking). x.is_up) c.hang_up.ensures.over) c.carry.ensures.carried
