use Rattle.std.proofs.Common.{◌≡◌, [], ◌∷◌, ◌++◌, ◌∙◌, Some, None, ap, sym, subst}
use Rattle.std.specs.Prelude.{flat_map}
use Rattle.sr_script.specs.TraceText.{line_text}
use Rattle.sr_session.specs.Misfits.{misfit}
use Rattle.sr_links.specs.Steps.{Took}
use Rattle.sr_talk.specs.Serving.{spelled}
use Rattle.sr_dial.specs.Carrying.{Carries, CarriesInPart}
use Rattle.sr_dial.specs.Courses.{Handles}
use Rattle.sr_dial.specs.Known.{Makes, MaySend, Setting, TakesAs}
use Rattle.sr_dial.specs.Runs.{left_by}
use Rattle.sr_dial.proofs.WaitLemmas.{handles, handles-bad, takes-off}
use Rattle.sr_talk.proofs.MoveLemmas.{so-in-err}
use Rattle.sr_dial.proofs.OffLemmas.{all-is-some, off-at}
use Rattle.sr_dial.proofs.waiting.handle.Goals as goal

pub carry-requires : goal.carry-requires
carry-requires g c = record { sendable = subst MaySend c.in-Taken.is c.in_ok-why.ensures.sendable }

pub returns-in-Bad-clause-handled : goal.returns-in-Bad-clause-handled
returns-in-Bad-clause-handled g c k first s steady ahead count failed after most same schema h some is =
    let old = c.args.client.now in
    let past = left_by s.past (h.course.earlier ++ h.course.call ∷ []) in
    let took = subst (λ came. TakesAs came g.C.Asks.stands g.C.Asks.lent g.C.Peer.is_of g.C.Hearer.has_told (g.C.Asks.setting old) old c.take.new.self past c.args.message) c.in-Bad.is (c.in_ok-why.ensures.taken past h.course.steps.stands) in
    handles-bad _ g.C.Asks.stands g.C.Asks.lent g.C.Peer.is_of g.C.Hearer.has_told k s ahead c.args.number count failed (g.H.Outside.linking c.args.host.now) (g.H.Outside.linking c.args.host.now) (g.H.Outside.writing c.args.host.now) (g.H.Outside.writing c.args.host.now) after
    old c.take.new.self c.args.message h c.in-Bad.why some is (subst (λ (x : Setting). misfit x.schema past.out past.laid past.version c.args.message ≡ Some c.in-Bad.why) same took)

pub returns-in_ok-handed-in-Taken-clause-handled : goal.returns-in_ok-handed-in-Taken-clause-handled
returns-in_ok-handed-in-Taken-clause-handled g c k first s steady ahead count failed after most same schema h some is =
    let old = c.args.client.now in
    let new = c.take.new.self in
    let told = c.in-Taken.told in
    let past = left_by s.past (h.course.earlier ++ h.course.call ∷ []) in
    let took = subst (λ came. TakesAs came g.C.Asks.stands g.C.Asks.lent g.C.Peer.is_of g.C.Hearer.has_told (g.C.Asks.setting old) old new past c.args.message) c.in-Taken.is (c.in_ok-why.ensures.taken past h.course.steps.stands) in
    let made = subst (λ x. Makes g.C.Asks.stands g.C.Asks.lent g.C.Peer.is_of g.C.Hearer.has_told x old new past (Took c.args.message) told.lines told.sent) same took.0 in
    let fits = subst (λ (x : Setting). misfit x.schema past.out past.laid past.version c.args.message ≡ None) same took.1 in
    let handed = c.in_ok-handed-in-Taken.handed in
    let spoke : c.says.result ≡ k.says = c.says.ensures ∙ ap (λ (x : Setting). x.says) (c.take.ensures.setting ∙ same) in
    subst (λ x. Handles _ g.C.Asks.stands g.C.Asks.lent g.C.Peer.is_of g.C.Hearer.has_told k x s ahead c.args.number count failed c.args.message (g.H.Outside.linking c.carry.new.host) (g.H.Outside.writing c.carry.new.host) after c.take.new.self) (sym c.handled_by.ensures)
    (handles _ g.C.Asks.stands g.C.Asks.lent g.C.Peer.is_of g.C.Hearer.has_told k s ahead c.args.number count failed (g.H.Outside.linking c.args.host.now) (g.H.Outside.linking c.carry.new.host) (g.H.Outside.writing c.args.host.now) (g.H.Outside.writing c.carry.new.host) after
    old c.take.new.self c.args.message h most told.lines told.sent handed (λ z up. c.in_ok-handed-in-Taken.ensures.steady_links (steady z) up) c.is_empty-again.result c.is_empty-again.ensures some is fits made
    (subst (λ x. Carries k.says handed (g.H.Outside.linking c.args.host.now) (g.H.Outside.linking c.carry.new.host) (g.H.Outside.writing c.args.host.now) (g.H.Outside.writing c.carry.new.host) (spelled told.sent)
    (flat_map (line_text x c.args.number) told.lines)) schema
    (subst (λ b. Carries b handed (g.H.Outside.linking c.args.host.now) (g.H.Outside.linking c.carry.new.host) (g.H.Outside.writing c.args.host.now) (g.H.Outside.writing c.carry.new.host) (spelled told.sent)
    (flat_map (line_text c.args.schema.now c.args.number) told.lines)) spoke c.in_ok-handed-in-Taken.ensures.carried)))

pub returns-in_err-why-clause-broken_off : goal.returns-in_err-why-clause-broken_off
returns-in_err-why-clause-broken_off g c k first s steady ahead count failed after most same schema h some is =
    so-in-err c.from_residual.result (off-at _ g.C.Asks.stands g.C.Asks.lent g.C.Peer.is_of g.C.Hearer.has_told k s ahead c.args.number _ _ _ _ (all-is-some s _) count failed _ h)

pub returns-in_err-handed-in-Taken-clause-broken_off : goal.returns-in_err-handed-in-Taken-clause-broken_off
returns-in_err-handed-in-Taken-clause-broken_off g c k first s steady ahead count failed after most same schema h some is =
    let old = c.args.client.now in
    let new = c.take.new.self in
    let told = c.in-Taken.told in
    let past = left_by s.past (h.course.earlier ++ h.course.call ∷ []) in
    let took = subst (λ came. TakesAs came g.C.Asks.stands g.C.Asks.lent g.C.Peer.is_of g.C.Hearer.has_told (g.C.Asks.setting old) old new past c.args.message) c.in-Taken.is (c.in_ok-why.ensures.taken past h.course.steps.stands) in
    let made = subst (λ x. Makes g.C.Asks.stands g.C.Asks.lent g.C.Peer.is_of g.C.Hearer.has_told x old new past (Took c.args.message) told.lines told.sent) same took.0 in
    let fits = subst (λ (x : Setting). misfit x.schema past.out past.laid past.version c.args.message ≡ None) same took.1 in
    let spoke : c.says.result ≡ k.says = c.says.ensures ∙ ap (λ (x : Setting). x.says) (c.take.ensures.setting ∙ same) in
    so-in-err c.from_residual-in_err-handed-in-Taken.result
    (takes-off _ g.C.Asks.stands g.C.Asks.lent g.C.Peer.is_of g.C.Hearer.has_told k s ahead c.args.number count failed _ _ _ _ after _ _ c.args.message h most told.lines told.sent some is fits made
    (subst (λ x. CarriesInPart k.says (g.H.Outside.linking c.args.host.now) (g.H.Outside.linking c.carry.new.host) (g.H.Outside.writing c.args.host.now) (g.H.Outside.writing c.carry.new.host) (spelled told.sent) (flat_map (line_text x c.args.number) told.lines)) schema
    (subst (λ b. CarriesInPart b (g.H.Outside.linking c.args.host.now) (g.H.Outside.linking c.carry.new.host) (g.H.Outside.writing c.args.host.now) (g.H.Outside.writing c.carry.new.host) (spelled told.sent) (flat_map (line_text c.args.schema.now c.args.number) told.lines)) spoke c.in_err-handed-in-Taken.ensures.broken_off)))
