use Rattle.std.proofs.Common.{rules, ◌≡◌, ◌∙◌, true, false, [], ◌∷◌, ◌++◌, sym, subst}
use Rattle.std.specs.Option.{is_some}
use Rattle.sr_dial.specs.Courses.{Waits, BreaksOff}
use Rattle.sr_dial.specs.Runs.{left_by}
use Rattle.sr_dial.proofs.WaitLemmas.{is-free, awaits-last, is-up}
use Rattle.sr_talk.proofs.MoveLemmas.{so-in-err}
use Rattle.sr_dial.proofs.OffLemmas.{off-read}
use Rattle.sr_dial.proofs.waiting.end_of_many.Goals as goal

pub returns-then-not-is_waiting-clause-awaited : goal.returns-then-not-is_waiting-clause-awaited
returns-then-not-is_waiting-clause-awaited g c k first s steady ahead count failed many h =
    let quiet : c.is_waiting.result ≡ false = search rules in
    is-free _ g.C.Asks.stands g.C.Asks.lent g.C.Peer.is_of g.C.Hearer.has_told k s ahead c.args.number count failed _ _ _ _ h (sym (c.is_waiting.ensures (left_by s.past (h.course.earlier ++ h.course.call ∷ [])) h.course.steps.stands) ∙ quiet)

pub returns-clause-awaited : goal.returns-clause-awaited
returns-clause-awaited g c k first s steady ahead count failed many h =
    let waiting : c.is_waiting.result ≡ true = search rules in
    let some : is_some (left_by s.past (h.course.earlier ++ h.course.call ∷ [])).out ≡ true = sym (c.is_waiting.ensures (left_by s.past (h.course.earlier ++ h.course.call ∷ [])) h.course.steps.stands) ∙ waiting in
    subst (λ how. Waits _ g.C.Asks.stands g.C.Asks.lent g.C.Peer.is_of g.C.Hearer.has_told k how s ahead c.args.number failed (g.H.Outside.linking c.next_frame.new.link) (g.H.Outside.writing c.next_frame.new.link) c.next_frame.new.feed c.args.client.now) (sym c.last_of.ensures)
    (awaits-last _ g.C.Asks.stands g.C.Asks.lent g.C.Peer.is_of g.C.Hearer.has_told k s ahead c.args.number count failed _ _ _ _ h some _ _ _ c.in_ok-next.next (λ z up. c.in_ok-next.ensures.steady_fails_only_down (steady z) up) many c.next_frame.ensures.stays.writing_stays c.in_ok-next.ensures.next)

pub returns-in_err-next-clause-broken_off : goal.returns-in_err-next-clause-broken_off
returns-in_err-next-clause-broken_off g c k first s steady ahead count failed many h =
    let waiting : c.is_waiting.result ≡ true = search rules in
    let some : is_some (left_by s.past (h.course.earlier ++ h.course.call ∷ [])).out ≡ true = sym (c.is_waiting.ensures (left_by s.past (h.course.earlier ++ h.course.call ∷ [])) h.course.steps.stands) ∙ waiting in
    so-in-err c.from_residual.result
    (subst (λ w. BreaksOff _ g.C.Asks.stands g.C.Asks.lent g.C.Peer.is_of g.C.Hearer.has_told k s (g.H.Outside.linking c.next_frame.new.link) w) (sym c.next_frame.ensures.stays.writing_stays)
    (off-read _ g.C.Asks.stands g.C.Asks.lent g.C.Peer.is_of g.C.Hearer.has_told k s ahead c.args.number failed _ _ _ _ count _ _ h (is-up _ g.C.Asks.stands g.C.Asks.lent g.C.Peer.is_of g.C.Hearer.has_told k s ahead c.args.number count failed _ _ _ _ h some) c.in_err-next.ensures.wanting))
