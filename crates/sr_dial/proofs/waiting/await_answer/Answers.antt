use Rattle.std.proofs.Common.{rules, ◌≡◌, ◌∙◌, true, false, [], ◌∷◌, ◌++◌, arith, refl, sym, subst, ap, ◌+◌, ◌≤◌}
use Rattle.std.specs.Option.{is_some}
use Rattle.sr_talk.specs.Reading.{Nexts}
use Rattle.sr_dial.specs.Courses.{At, Broken, Handles, IsWritten, Over, BreaksOff}
use Rattle.sr_dial.specs.declared.waiting.Count.{Count}
use Rattle.sr_dial.proofs.SoFarLemmas.{few-anew, spent, spent-anew, spent-more}
use Rattle.sr_dial.specs.Runs.{left_by}
use Rattle.sr_dial.specs.declared.ending.Ending.TheVariants.{Spoiled}
use Rattle.sr_dial.proofs.WaitLemmas.{is-free, awaits-end, awaits-torn, awaits-fault, awaits-spoiled, reads-on, is-up}
use Rattle.sr_talk.proofs.MoveLemmas.{so-in-err}
use Rattle.sr_dial.proofs.OffLemmas.{off-read}
use Rattle.sr_dial.proofs.waiting.await_answer.Goals as goal

pub frames-init : goal.frames-init
frames-init g c = record {
  so_far = λ k first s steady ahead failed same schema at. at;
  same = refl;
  draws = omega arith;
  most = omega arith;
  stays = record { stays_steady = λ s. s; reading_stays = refl; held_stays = refl; complaints_stay = refl };
}

pub returns-then-not-is_waiting-clause-awaited : goal.returns-then-not-is_waiting-clause-awaited
returns-then-not-is_waiting-clause-awaited g c k first s steady ahead failed same schema at =
    let h = c.frames.invariant.so_far k first s steady ahead failed same schema at in
    let quiet : c.is_waiting.result ≡ false = search rules in
    is-free _ g.C.Asks.stands g.C.Asks.lent g.C.Peer.is_of g.C.Hearer.has_told k s ahead c.args.number c.frames.count failed _ _ _ _ h (sym (c.is_waiting.ensures (left_by s.past (h.course.earlier ++ h.course.call ∷ [])) h.course.steps.stands) ∙ quiet)

pub returns-in-End-clause-awaited : goal.returns-in-End-clause-awaited
returns-in-End-clause-awaited g c k first s steady ahead failed same schema at =
    let h = c.frames.invariant.so_far k first s steady ahead failed same schema at in
    let waiting : c.is_waiting.result ≡ true = search rules in
    let some : is_some (left_by s.past (h.course.earlier ++ h.course.call ∷ [])).out ≡ true = sym (c.is_waiting.ensures (left_by s.past (h.course.earlier ++ h.course.call ∷ [])) h.course.steps.stands) ∙ waiting in
    subst (λ w. Broken _ g.C.Asks.stands g.C.Asks.lent g.C.Peer.is_of g.C.Hearer.has_told k s ahead c.args.number (g.H.Outside.linking c.next_frame.new.link) (IsWritten s w) c.next_frame.new.feed c.frames.client) (sym c.next_frame.ensures.stays.writing_stays)
    (awaits-end _ g.C.Asks.stands g.C.Asks.lent g.C.Peer.is_of g.C.Hearer.has_told k s ahead c.args.number c.frames.count failed _ _ _ _ h some _ _ (subst (λ next. Nexts next (g.H.Outside.linking c.frames.host) (g.H.Outside.linking c.next_frame.new.link) c.frames.feed c.next_frame.new.feed) c.in-End.is c.in_ok-next_frame.ensures.next))

pub returns-in-Torn-clause-awaited : goal.returns-in-Torn-clause-awaited
returns-in-Torn-clause-awaited g c k first s steady ahead failed same schema at =
    let h = c.frames.invariant.so_far k first s steady ahead failed same schema at in
    let waiting : c.is_waiting.result ≡ true = search rules in
    let some : is_some (left_by s.past (h.course.earlier ++ h.course.call ∷ [])).out ≡ true = sym (c.is_waiting.ensures (left_by s.past (h.course.earlier ++ h.course.call ∷ [])) h.course.steps.stands) ∙ waiting in
    subst (λ w. Broken _ g.C.Asks.stands g.C.Asks.lent g.C.Peer.is_of g.C.Hearer.has_told k s ahead c.args.number (g.H.Outside.linking c.next_frame.new.link) (IsWritten s w) c.next_frame.new.feed c.frames.client) (sym c.next_frame.ensures.stays.writing_stays)
    (awaits-torn _ g.C.Asks.stands g.C.Asks.lent g.C.Peer.is_of g.C.Hearer.has_told k s ahead c.args.number c.frames.count failed _ _ _ _ h some _ _ (subst (λ next. Nexts next (g.H.Outside.linking c.frames.host) (g.H.Outside.linking c.next_frame.new.link) c.frames.feed c.next_frame.new.feed) c.in-Torn.is c.in_ok-next_frame.ensures.next))

pub returns-in-Fault-clause-awaited : goal.returns-in-Fault-clause-awaited
returns-in-Fault-clause-awaited g c k first s steady ahead failed same schema at =
    let h = c.frames.invariant.so_far k first s steady ahead failed same schema at in
    let waiting : c.is_waiting.result ≡ true = search rules in
    let some : is_some (left_by s.past (h.course.earlier ++ h.course.call ∷ [])).out ≡ true = sym (c.is_waiting.ensures (left_by s.past (h.course.earlier ++ h.course.call ∷ [])) h.course.steps.stands) ∙ waiting in
    subst (λ w. Broken _ g.C.Asks.stands g.C.Asks.lent g.C.Peer.is_of g.C.Hearer.has_told k s ahead c.args.number (g.H.Outside.linking c.next_frame.new.link) (IsWritten s w) c.next_frame.new.feed c.frames.client) (sym c.next_frame.ensures.stays.writing_stays)
    (awaits-fault _ g.C.Asks.stands g.C.Asks.lent g.C.Peer.is_of g.C.Hearer.has_told k s ahead c.args.number c.frames.count failed _ _ _ _ h some _ _
    (λ z up. c.in_ok-next_frame.ensures.steady_fails_only_down (c.frames.invariant.stays.stays_steady (steady z)) up c.in-Fault.is) (subst (λ next. Nexts next (g.H.Outside.linking c.frames.host) (g.H.Outside.linking c.next_frame.new.link) c.frames.feed c.next_frame.new.feed) c.in-Fault.is c.in_ok-next_frame.ensures.next))

pub returns-in-Bad-clause-awaited : goal.returns-in-Bad-clause-awaited
returns-in-Bad-clause-awaited g c k first s steady ahead failed same schema at =
    let h = c.frames.invariant.so_far k first s steady ahead failed same schema at in
    let waiting : c.is_waiting.result ≡ true = search rules in
    let some : is_some (left_by s.past (h.course.earlier ++ h.course.call ∷ [])).out ≡ true = sym (c.is_waiting.ensures (left_by s.past (h.course.earlier ++ h.course.call ∷ [])) h.course.steps.stands) ∙ waiting in
    subst (λ w. Over _ g.C.Asks.stands g.C.Asks.lent g.C.Peer.is_of g.C.Hearer.has_told k s (Spoiled c.in-Bad.fault) (g.H.Outside.linking c.next_frame.new.link) w c.frames.client) (sym c.next_frame.ensures.stays.writing_stays)
    (awaits-spoiled _ g.C.Asks.stands g.C.Asks.lent g.C.Peer.is_of g.C.Hearer.has_told k s ahead c.args.number c.frames.count failed _ _ _ _ h some _ _ c.in-Bad.fault (subst (λ next. Nexts next (g.H.Outside.linking c.frames.host) (g.H.Outside.linking c.next_frame.new.link) c.frames.feed c.next_frame.new.feed) c.in-Bad.is c.in_ok-next_frame.ensures.next))

pub returns-in-Broken-clause-awaited : goal.returns-in-Broken-clause-awaited
returns-in-Broken-clause-awaited g c k first s steady ahead failed same schema at =
    let most : c.frames.count.taken + 1 ≤ 1000000 = search rules in
    let h = c.frames.invariant.so_far k first s steady ahead failed same schema at in
    let waiting : c.is_waiting.result ≡ true = search rules in
    let some : is_some (left_by s.past (h.course.earlier ++ h.course.call ∷ [])).out ≡ true = sym (c.is_waiting.ensures (left_by s.past (h.course.earlier ++ h.course.call ∷ [])) h.course.steps.stands) ∙ waiting in
    let r = reads-on _ g.C.Asks.stands g.C.Asks.lent g.C.Peer.is_of g.C.Hearer.has_told k s ahead c.args.number c.frames.count failed _ _ _ _ h some (g.H.Outside.linking c.next_frame.new.link) (g.H.Outside.writing c.next_frame.new.link) c.in-Frame.message c.next_frame.new.feed c.next_frame.ensures.stays.writing_stays (subst (λ next. Nexts next (g.H.Outside.linking c.frames.host) (g.H.Outside.linking c.next_frame.new.link) c.frames.feed c.next_frame.new.feed) c.in-Frame.is c.in_ok-next_frame.ensures.next) in
    subst (λ x. Handles _ g.C.Asks.stands g.C.Asks.lent g.C.Peer.is_of g.C.Hearer.has_told k x s ahead c.args.number c.frames.count failed c.in-Frame.message (g.H.Outside.linking c.handle.new.host) (g.H.Outside.writing c.handle.new.host) c.next_frame.new.feed c.handle.new.client)
    c.in-Broken.is (c.in_ok-handle.ensures.handled k first s (λ z. c.next_frame.ensures.stays.stays_steady (c.frames.invariant.stays.stays_steady (steady z))) ahead c.frames.count failed c.next_frame.new.feed most (c.frames.invariant.same ∙ same) schema r.at r.waits r.spells)

pub returns-in-Unwritten-clause-awaited : goal.returns-in-Unwritten-clause-awaited
returns-in-Unwritten-clause-awaited g c k first s steady ahead failed same schema at =
    let most : c.frames.count.taken + 1 ≤ 1000000 = search rules in
    let h = c.frames.invariant.so_far k first s steady ahead failed same schema at in
    let waiting : c.is_waiting.result ≡ true = search rules in
    let some : is_some (left_by s.past (h.course.earlier ++ h.course.call ∷ [])).out ≡ true = sym (c.is_waiting.ensures (left_by s.past (h.course.earlier ++ h.course.call ∷ [])) h.course.steps.stands) ∙ waiting in
    let r = reads-on _ g.C.Asks.stands g.C.Asks.lent g.C.Peer.is_of g.C.Hearer.has_told k s ahead c.args.number c.frames.count failed _ _ _ _ h some (g.H.Outside.linking c.next_frame.new.link) (g.H.Outside.writing c.next_frame.new.link) c.in-Frame.message c.next_frame.new.feed c.next_frame.ensures.stays.writing_stays (subst (λ next. Nexts next (g.H.Outside.linking c.frames.host) (g.H.Outside.linking c.next_frame.new.link) c.frames.feed c.next_frame.new.feed) c.in-Frame.is c.in_ok-next_frame.ensures.next) in
    subst (λ x. Handles _ g.C.Asks.stands g.C.Asks.lent g.C.Peer.is_of g.C.Hearer.has_told k x s ahead c.args.number c.frames.count failed c.in-Frame.message (g.H.Outside.linking c.handle.new.host) (g.H.Outside.writing c.handle.new.host) c.next_frame.new.feed c.handle.new.client)
    c.in-Unwritten.is (c.in_ok-handle.ensures.handled k first s (λ z. c.next_frame.ensures.stays.stays_steady (c.frames.invariant.stays.stays_steady (steady z))) ahead c.frames.count failed c.next_frame.new.feed most (c.frames.invariant.same ∙ same) schema r.at r.waits r.spells)

pub returns-in-Refused-clause-awaited : goal.returns-in-Refused-clause-awaited
returns-in-Refused-clause-awaited g c k first s steady ahead failed same schema at =
    let most : c.frames.count.taken + 1 ≤ 1000000 = search rules in
    let h = c.frames.invariant.so_far k first s steady ahead failed same schema at in
    let waiting : c.is_waiting.result ≡ true = search rules in
    let some : is_some (left_by s.past (h.course.earlier ++ h.course.call ∷ [])).out ≡ true = sym (c.is_waiting.ensures (left_by s.past (h.course.earlier ++ h.course.call ∷ [])) h.course.steps.stands) ∙ waiting in
    let r = reads-on _ g.C.Asks.stands g.C.Asks.lent g.C.Peer.is_of g.C.Hearer.has_told k s ahead c.args.number c.frames.count failed _ _ _ _ h some (g.H.Outside.linking c.next_frame.new.link) (g.H.Outside.writing c.next_frame.new.link) c.in-Frame.message c.next_frame.new.feed c.next_frame.ensures.stays.writing_stays (subst (λ next. Nexts next (g.H.Outside.linking c.frames.host) (g.H.Outside.linking c.next_frame.new.link) c.frames.feed c.next_frame.new.feed) c.in-Frame.is c.in_ok-next_frame.ensures.next) in
    subst (λ x. Handles _ g.C.Asks.stands g.C.Asks.lent g.C.Peer.is_of g.C.Hearer.has_told k x s ahead c.args.number c.frames.count failed c.in-Frame.message (g.H.Outside.linking c.handle.new.host) (g.H.Outside.writing c.handle.new.host) c.next_frame.new.feed c.handle.new.client)
    c.in-Refused.is (c.in_ok-handle.ensures.handled k first s (λ z. c.next_frame.ensures.stays.stays_steady (c.frames.invariant.stays.stays_steady (steady z))) ahead c.frames.count failed c.next_frame.new.feed most (c.frames.invariant.same ∙ same) schema r.at r.waits r.spells)

pub frames-preserved-in-Whole : goal.frames-preserved-in-Whole
frames-preserved-in-Whole g c =
    let most : c.frames.count.taken + 1 ≤ 1000000 = search rules in
    let before = c.frames.invariant in
    let one = c.next_frame.ensures.stays in
    let two = c.handle.ensures.stays in
    let drawn = before.draws in
    let draws = c.handle.ensures.draws in
    let waiting : c.is_waiting.result ≡ true = search rules in
    record {
      so_far = λ k first s steady ahead failed same schema at.
          let h = before.so_far k first s steady ahead failed same schema at in
          let some : is_some (left_by s.past (h.course.earlier ++ h.course.call ∷ [])).out ≡ true = sym (c.is_waiting.ensures (left_by s.past (h.course.earlier ++ h.course.call ∷ [])) h.course.steps.stands) ∙ waiting in
          let r = reads-on _ g.C.Asks.stands g.C.Asks.lent g.C.Peer.is_of g.C.Hearer.has_told k s ahead c.args.number c.frames.count failed _ _ _ _ h some (g.H.Outside.linking c.next_frame.new.link) (g.H.Outside.writing c.next_frame.new.link) c.in-Frame.message c.next_frame.new.feed c.next_frame.ensures.stays.writing_stays (subst (λ next. Nexts next (g.H.Outside.linking c.frames.host) (g.H.Outside.linking c.next_frame.new.link) c.frames.feed c.next_frame.new.feed) c.in-Frame.is c.in_ok-next_frame.ensures.next) in
          subst (λ (n : Count). At _ g.C.Asks.stands g.C.Asks.lent g.C.Peer.is_of g.C.Hearer.has_told k s ahead c.args.number n failed (g.H.Outside.linking c.handle.new.host) (IsWritten s (g.H.Outside.writing c.handle.new.host)) c.next_frame.new.feed c.handle.new.client) (sym c.one_more-count.ensures)
          (subst (λ x. Handles _ g.C.Asks.stands g.C.Asks.lent g.C.Peer.is_of g.C.Hearer.has_told k x s ahead c.args.number c.frames.count failed c.in-Frame.message (g.H.Outside.linking c.handle.new.host) (g.H.Outside.writing c.handle.new.host) c.next_frame.new.feed c.handle.new.client)
          c.in-Whole.is (c.in_ok-handle.ensures.handled k first s (λ z. c.next_frame.ensures.stays.stays_steady (c.frames.invariant.stays.stays_steady (steady z))) ahead c.frames.count failed c.next_frame.new.feed most (c.frames.invariant.same ∙ same) schema r.at r.waits r.spells));
      same = c.handle.ensures.setting ∙ before.same;
      draws = (let more = spent-more c.frames.count in let is = ap spent c.one_more-count.ensures in omega (arith, drawn, draws, more, is));
      most = subst (λ (n : Count). n.taken ≤ 1000000) (sym c.one_more-count.ensures) most;
      stays = record {
        stays_steady = λ s. two.stays_steady (one.stays_steady (before.stays.stays_steady s));
        reading_stays = two.reading_stays ∙ (one.reading_stays ∙ before.stays.reading_stays);
        held_stays = two.held_stays ∙ (one.held_stays ∙ before.stays.held_stays);
        complaints_stay = two.complaints_stay ∙ (one.complaints_stay ∙ before.stays.complaints_stay);
      };
    }

pub frames-preserved : goal.frames-preserved
frames-preserved g c =
    let most : c.frames.count.taken + 1 ≤ 1000000 = search rules in
    let before = c.frames.invariant in
    let one = c.next_frame.ensures.stays in
    let two = c.handle.ensures.stays in
    let drawn = before.draws in
    let draws = c.handle.ensures.draws in
    let waiting : c.is_waiting.result ≡ true = search rules in
    record {
      so_far = λ k first s steady ahead failed same schema at.
          let h = before.so_far k first s steady ahead failed same schema at in
          let some : is_some (left_by s.past (h.course.earlier ++ h.course.call ∷ [])).out ≡ true = sym (c.is_waiting.ensures (left_by s.past (h.course.earlier ++ h.course.call ∷ [])) h.course.steps.stands) ∙ waiting in
          let r = reads-on _ g.C.Asks.stands g.C.Asks.lent g.C.Peer.is_of g.C.Hearer.has_told k s ahead c.args.number c.frames.count failed _ _ _ _ h some (g.H.Outside.linking c.next_frame.new.link) (g.H.Outside.writing c.next_frame.new.link) c.in-Frame.message c.next_frame.new.feed c.next_frame.ensures.stays.writing_stays (subst (λ next. Nexts next (g.H.Outside.linking c.frames.host) (g.H.Outside.linking c.next_frame.new.link) c.frames.feed c.next_frame.new.feed) c.in-Frame.is c.in_ok-next_frame.ensures.next) in
          subst (λ (n : Count). At _ g.C.Asks.stands g.C.Asks.lent g.C.Peer.is_of g.C.Hearer.has_told k s ahead c.args.number n failed (g.H.Outside.linking c.handle.new.host) (IsWritten s (g.H.Outside.writing c.handle.new.host)) c.next_frame.new.feed c.handle.new.client) (sym c.anew-count.ensures)
          (subst (λ x. Handles _ g.C.Asks.stands g.C.Asks.lent g.C.Peer.is_of g.C.Hearer.has_told k x s ahead c.args.number c.frames.count failed c.in-Frame.message (g.H.Outside.linking c.handle.new.host) (g.H.Outside.writing c.handle.new.host) c.next_frame.new.feed c.handle.new.client)
          c.in-Again.is (c.in_ok-handle.ensures.handled k first s (λ z. c.next_frame.ensures.stays.stays_steady (c.frames.invariant.stays.stays_steady (steady z))) ahead c.frames.count failed c.next_frame.new.feed most (c.frames.invariant.same ∙ same) schema r.at r.waits r.spells));
      same = c.handle.ensures.setting ∙ before.same;
      draws = (let more = spent-anew c.frames.count most in let is = ap spent c.anew-count.ensures in omega (arith, drawn, draws, more, is));
      most = subst (λ (n : Count). n.taken ≤ 1000000) (sym c.anew-count.ensures) (few-anew c.frames.count most);
      stays = record {
        stays_steady = λ s. two.stays_steady (one.stays_steady (before.stays.stays_steady s));
        reading_stays = two.reading_stays ∙ (one.reading_stays ∙ before.stays.reading_stays);
        held_stays = two.held_stays ∙ (one.held_stays ∙ before.stays.held_stays);
        complaints_stay = two.complaints_stay ∙ (one.complaints_stay ∙ before.stays.complaints_stay);
      };
    }

pub returns-clause-awaited : goal.returns-clause-awaited
returns-clause-awaited g c k first s steady ahead failed same schema at =
    let most = c.frames.invariant.most in
    let many : c.frames.count.taken ≡ 1000000 = search rules in
    c.end_of_many.ensures.awaited k first s (λ z. c.frames.invariant.stays.stays_steady (steady z)) ahead c.frames.count failed many (c.frames.invariant.so_far k first s steady ahead failed same schema at)

pub returns-in_err-next_frame-clause-broken_off : goal.returns-in_err-next_frame-clause-broken_off
returns-in_err-next_frame-clause-broken_off g c k first s steady ahead failed same schema at =
    let h = c.frames.invariant.so_far k first s steady ahead failed same schema at in
    let waiting : c.is_waiting.result ≡ true = search rules in
    let some : is_some (left_by s.past (h.course.earlier ++ h.course.call ∷ [])).out ≡ true = sym (c.is_waiting.ensures (left_by s.past (h.course.earlier ++ h.course.call ∷ [])) h.course.steps.stands) ∙ waiting in
    so-in-err c.from_residual.result
    (subst (λ w. BreaksOff _ g.C.Asks.stands g.C.Asks.lent g.C.Peer.is_of g.C.Hearer.has_told k s (g.H.Outside.linking c.next_frame.new.link) w) (sym c.next_frame.ensures.stays.writing_stays)
    (off-read _ g.C.Asks.stands g.C.Asks.lent g.C.Peer.is_of g.C.Hearer.has_told k s ahead c.args.number failed _ _ _ _ c.frames.count _ _ h (is-up _ g.C.Asks.stands g.C.Asks.lent g.C.Peer.is_of g.C.Hearer.has_told k s ahead c.args.number c.frames.count failed _ _ _ _ h some) c.in_err-next_frame.ensures.wanting))

pub returns-in_err-handle-clause-broken_off : goal.returns-in_err-handle-clause-broken_off
returns-in_err-handle-clause-broken_off g c k first s steady ahead failed same schema at =
    let most : c.frames.count.taken + 1 ≤ 1000000 = search rules in
    let h = c.frames.invariant.so_far k first s steady ahead failed same schema at in
    let waiting : c.is_waiting.result ≡ true = search rules in
    let some : is_some (left_by s.past (h.course.earlier ++ h.course.call ∷ [])).out ≡ true = sym (c.is_waiting.ensures (left_by s.past (h.course.earlier ++ h.course.call ∷ [])) h.course.steps.stands) ∙ waiting in
    let r = reads-on _ g.C.Asks.stands g.C.Asks.lent g.C.Peer.is_of g.C.Hearer.has_told k s ahead c.args.number c.frames.count failed _ _ _ _ h some (g.H.Outside.linking c.next_frame.new.link) (g.H.Outside.writing c.next_frame.new.link) c.in-Frame.message c.next_frame.new.feed c.next_frame.ensures.stays.writing_stays (subst (λ next. Nexts next (g.H.Outside.linking c.frames.host) (g.H.Outside.linking c.next_frame.new.link) c.frames.feed c.next_frame.new.feed) c.in-Frame.is c.in_ok-next_frame.ensures.next) in
    so-in-err c.from_residual-in_err-handle.result (c.in_err-handle.ensures.broken_off k first s (λ z. c.next_frame.ensures.stays.stays_steady (c.frames.invariant.stays.stays_steady (steady z))) ahead c.frames.count failed c.next_frame.new.feed most (c.frames.invariant.same ∙ same) schema r.at r.waits r.spells)

pub returns-clause-broken_off : goal.returns-clause-broken_off
returns-clause-broken_off g c k first s steady ahead failed same schema at =
    let most = c.frames.invariant.most in
    let many : c.frames.count.taken ≡ 1000000 = search rules in
    c.end_of_many.ensures.broken_off k first s (λ z. c.frames.invariant.stays.stays_steady (steady z)) ahead c.frames.count failed many (c.frames.invariant.so_far k first s steady ahead failed same schema at)
