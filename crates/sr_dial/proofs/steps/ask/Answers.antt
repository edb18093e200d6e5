use Rattle.std.proofs.Common.{◌≡◌, true, [], ◌∷◌, ◌++◌, ◌∙◌, ap, sym, subst}
use Rattle.std.specs.Prelude.{flat_map}
use Rattle.sr_script.specs.TraceText.{line_text}
use Rattle.sr_talk.specs.Serving.{spelled}
use Rattle.sr_dial.specs.Carrying.{Carries, CarriesInPart}
use Rattle.sr_dial.specs.declared.steps.Handed.TheVariants.{Whole}
use Rattle.sr_dial.specs.Known.{IsDeed, Makes, Setting}
use Rattle.sr_dial.specs.Runs.{left_by}
use Rattle.sr_dial.proofs.HandLemmas.{plain-hands}
use Rattle.sr_dial.proofs.Results.{if-ok-also, on-err}
use Rattle.sr_talk.proofs.MoveLemmas.{so-in-err}
use Rattle.sr_dial.proofs.OffLemmas.{off-free, plain-off}
use Rattle.sr_dial.proofs.steps.ask.Goals as goal

pub returns-clause-asked : goal.returns-clause-asked
returns-clause-asked g c k first s steady ahead further line failed feed deed same schema free is plain on =
    let old = c.args.client.now in
    let new = c.act.new.self in
    let told = c.in_ok-told.told in
    let past = left_by s.past (free.at.course.earlier ++ free.at.course.call ∷ []) in
    let m = c.in_ok-told.ensures.made past deed free.at.course.steps.stands (subst (λ (x : Setting). IsDeed x.schema c.args.event deed) (sym same) is) in
    let made = subst (λ x. Makes g.C.Asks.stands g.C.Asks.lent g.C.Peer.is_of g.C.Hearer.has_told x old new past deed told.lines told.sent) same m in
    let spoke : c.says.result ≡ k.says = c.says.ensures ∙ ap (λ (x : Setting). x.says) (c.act.ensures.setting ∙ same) in
    if-ok-also (g.H.Outside.IsSteady c.args.host.now × ((g.H.Outside.linking c.args.host.now).is_up ≡ true)) _ _ (λ handed. handed ≡ Whole) c.carry.result (λ handed carries whole. plain-hands _ g.C.Asks.stands g.C.Asks.lent g.C.Peer.is_of g.C.Hearer.has_told k s ahead further line c.args.number failed _ _ _ _ feed _ _ deed _ _ handed (λ z up. whole (steady z, up)) free plain on made
    (subst (λ x. Carries k.says handed (g.H.Outside.linking c.args.host.now) (g.H.Outside.linking c.carry.new.host) (g.H.Outside.writing c.args.host.now) (g.H.Outside.writing c.carry.new.host) (spelled told.sent)
    (flat_map (line_text x c.args.number) told.lines)) schema
    (subst (λ b. Carries b handed (g.H.Outside.linking c.args.host.now) (g.H.Outside.linking c.carry.new.host) (g.H.Outside.writing c.args.host.now) (g.H.Outside.writing c.carry.new.host) (spelled told.sent)
    (flat_map (line_text c.args.schema.now c.args.number) told.lines)) spoke carries))) c.carry.ensures.carried (λ both. c.carry.ensures.steady_links both.0 both.1)

pub returns-in_err-told-clause-broken_off : goal.returns-in_err-told-clause-broken_off
returns-in_err-told-clause-broken_off g c k first s steady ahead further line failed feed deed same schema free is plain on =
    so-in-err c.from_residual.result (off-free _ g.C.Asks.stands g.C.Asks.lent g.C.Peer.is_of g.C.Hearer.has_told k s ahead line failed _ _ feed _ free)

pub returns-clause-broken_off : goal.returns-clause-broken_off
returns-clause-broken_off g c k first s steady ahead further line failed feed deed same schema free is plain on =
    let old = c.args.client.now in
    let new = c.act.new.self in
    let told = c.in_ok-told.told in
    let past = left_by s.past (free.at.course.earlier ++ free.at.course.call ∷ []) in
    let m = c.in_ok-told.ensures.made past deed free.at.course.steps.stands (subst (λ (x : Setting). IsDeed x.schema c.args.event deed) (sym same) is) in
    let made = subst (λ x. Makes g.C.Asks.stands g.C.Asks.lent g.C.Peer.is_of g.C.Hearer.has_told x old new past deed told.lines told.sent) same m in
    let spoke : c.says.result ≡ k.says = c.says.ensures ∙ ap (λ (x : Setting). x.says) (c.act.ensures.setting ∙ same) in
    on-err _ _ c.carry.result (λ carries. plain-off _ g.C.Asks.stands g.C.Asks.lent g.C.Peer.is_of g.C.Hearer.has_told k s ahead further line c.args.number failed _ _ _ _ feed _ _ deed _ _ free plain on made
    (subst (λ x. CarriesInPart k.says (g.H.Outside.linking c.args.host.now) (g.H.Outside.linking c.carry.new.host) (g.H.Outside.writing c.args.host.now) (g.H.Outside.writing c.carry.new.host) (spelled told.sent) (flat_map (line_text x c.args.number) told.lines)) schema
    (subst (λ b. CarriesInPart b (g.H.Outside.linking c.args.host.now) (g.H.Outside.linking c.carry.new.host) (g.H.Outside.writing c.args.host.now) (g.H.Outside.writing c.carry.new.host) (spelled told.sent) (flat_map (line_text c.args.schema.now c.args.number) told.lines)) spoke carries))) c.carry.ensures.broken_off
