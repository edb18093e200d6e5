use Rattle.std.proofs.Common.{◌∙◌, ◌+◌, [], subst, arith, inl, inr, rules}
use Rattle.sr_links.specs.Honest.{Server}
use Rattle.sr_talk.specs.Reading.{Nexts}
use Rattle.sr_talk.specs.Talked.{LeftAs, LeftBy, Turns}
use Rattle.sr_talk.specs.declared.serve.How.TheVariants.{Fault}
use Rattle.sr_talk.specs.declared.serve.Turn.TheVariants.{Broken}
use Rattle.sr_talk.proofs.MoveLemmas.{stays-on, so-in-err}
use Rattle.sr_talk.proofs.TalkLemmas.{at-end, at-torn, at-fault, at-bad, at-refused, at-broken, at-limit, left-as, so-far-more, stops-reading, stops-answering}
use Rattle.sr_talk.proofs.serve.serve_frames.Goals as goal

pub returns-in-End-clause-talked : goal.returns-in-End-clause-talked
returns-in-End-clause-talked g c s is =
    rw (c.ended.ensures)
    (at-end g.S.Serves.gives s (g.L.Outside.linking c.args.link.now) (g.L.Outside.linking c.loop-frames.link) (g.L.Outside.linking c.next_frame.new.link) c.loop-frames.feed c.next_frame.new.feed c.loop-frames.frames
    (g.S.Serves.is_of c.loop-frames.server) (c.loop-frames.invariant.so_far s is) (search rules)
    (subst (λ next. Nexts next (g.L.Outside.linking c.loop-frames.link) (g.L.Outside.linking c.next_frame.new.link) c.loop-frames.feed c.next_frame.new.feed) c.in-End.is c.in_ok-next_frame.ensures.next))

pub returns-in-Torn-clause-talked : goal.returns-in-Torn-clause-talked
returns-in-Torn-clause-talked g c s is =
    rw (c.ended-in-Torn.ensures)
    (at-torn g.S.Serves.gives s (g.L.Outside.linking c.args.link.now) (g.L.Outside.linking c.loop-frames.link) (g.L.Outside.linking c.next_frame.new.link) c.loop-frames.feed c.next_frame.new.feed c.loop-frames.frames
    (g.S.Serves.is_of c.loop-frames.server) (c.loop-frames.invariant.so_far s is) (search rules)
    (subst (λ next. Nexts next (g.L.Outside.linking c.loop-frames.link) (g.L.Outside.linking c.next_frame.new.link) c.loop-frames.feed c.next_frame.new.feed) c.in-Torn.is c.in_ok-next_frame.ensures.next))

pub returns-in-Fault-clause-talked : goal.returns-in-Fault-clause-talked
returns-in-Fault-clause-talked g c s is =
    let IsNow : Server → Type 0 = g.S.Serves.is_of c.loop-frames.server in
    rw (c.ended-in-Fault.ensures)
    (left-as g.S.Serves.gives Fault s (g.L.Outside.linking c.args.link.now) (g.L.Outside.linking c.next_frame.new.link) c.loop-frames.frames IsNow (LeftAs Fault IsNow) (λ x stands. inl stands)
    (at-fault g.S.Serves.gives s (g.L.Outside.linking c.args.link.now) (g.L.Outside.linking c.loop-frames.link) (g.L.Outside.linking c.next_frame.new.link) c.loop-frames.feed c.next_frame.new.feed c.loop-frames.frames
    IsNow (c.loop-frames.invariant.so_far s is) (search rules)
    (subst (λ next. Nexts next (g.L.Outside.linking c.loop-frames.link) (g.L.Outside.linking c.next_frame.new.link) c.loop-frames.feed c.next_frame.new.feed) c.in-Fault.is c.in_ok-next_frame.ensures.next)))

pub returns-in-Bad-clause-talked : goal.returns-in-Bad-clause-talked
returns-in-Bad-clause-talked g c s is =
    rw (c.ended-in-Bad.ensures)
    (at-bad g.S.Serves.gives s (g.L.Outside.linking c.args.link.now) (g.L.Outside.linking c.loop-frames.link) (g.L.Outside.linking c.next_frame.new.link) c.loop-frames.feed c.next_frame.new.feed c.loop-frames.frames
    (g.S.Serves.is_of c.loop-frames.server) (c.loop-frames.invariant.so_far s is) (search rules) c.in-Bad.field-0
    (subst (λ next. Nexts next (g.L.Outside.linking c.loop-frames.link) (g.L.Outside.linking c.next_frame.new.link) c.loop-frames.feed c.next_frame.new.feed) c.in-Bad.is c.in_ok-next_frame.ensures.next))

pub returns-in-Refused-clause-talked : goal.returns-in-Refused-clause-talked
returns-in-Refused-clause-talked g c s is =
    let h = c.loop-frames.invariant.so_far s is in
    let next = subst (λ next. Nexts next (g.L.Outside.linking c.loop-frames.link) (g.L.Outside.linking c.next_frame.new.link) c.loop-frames.feed c.next_frame.new.feed) c.in-Frame.is c.in_ok-next_frame.ensures.next in
    rw (c.ended-in-Refused.ensures)
    (at-refused g.S.Serves.gives s (g.L.Outside.linking c.args.link.now) (g.L.Outside.linking c.loop-frames.link) (g.L.Outside.linking c.next_frame.new.link) (g.L.Outside.linking c.answer_frame-turn.new.link)
    c.loop-frames.feed c.next_frame.new.feed c.in-Frame.message c.loop-frames.frames (g.S.Serves.is_of c.loop-frames.server) (g.S.Serves.is_of c.answer_frame-turn.new.server) h (search rules) next.0 next.1
    (subst (λ turn. Turns g.S.Serves.gives turn h.after c.in-Frame.message (g.L.Outside.linking c.next_frame.new.link) (g.L.Outside.linking c.answer_frame-turn.new.link) (LeftBy turn (g.S.Serves.is_of c.answer_frame-turn.new.server)))
    c.in-Refused.is (c.in_ok-turn.ensures.turn h.after h.stands)))

pub returns-in-Broken-clause-talked : goal.returns-in-Broken-clause-talked
returns-in-Broken-clause-talked g c s is =
    let h = c.loop-frames.invariant.so_far s is in
    let next = subst (λ next. Nexts next (g.L.Outside.linking c.loop-frames.link) (g.L.Outside.linking c.next_frame.new.link) c.loop-frames.feed c.next_frame.new.feed) c.in-Frame.is c.in_ok-next_frame.ensures.next in
    let IsNew : Server → Type 0 = g.S.Serves.is_of c.answer_frame-turn.new.server in
    rw (c.ended-in-Broken.ensures)
    (left-as g.S.Serves.gives Fault s (g.L.Outside.linking c.args.link.now) (g.L.Outside.linking c.answer_frame-turn.new.link) (c.loop-frames.frames + 1) (LeftBy Broken IsNew) (LeftAs Fault IsNew) (λ x stands. inr stands)
    (at-broken g.S.Serves.gives s (g.L.Outside.linking c.args.link.now) (g.L.Outside.linking c.loop-frames.link) (g.L.Outside.linking c.next_frame.new.link) (g.L.Outside.linking c.answer_frame-turn.new.link)
    c.loop-frames.feed c.next_frame.new.feed c.in-Frame.message c.loop-frames.frames (g.S.Serves.is_of c.loop-frames.server) (LeftBy Broken IsNew) h (search rules) next.0 next.1
    (subst (λ turn. Turns g.S.Serves.gives turn h.after c.in-Frame.message (g.L.Outside.linking c.next_frame.new.link) (g.L.Outside.linking c.answer_frame-turn.new.link) (LeftBy turn IsNew))
    c.in-Broken.is (c.in_ok-turn.ensures.turn h.after h.stands))))

pub loop-frames-preserved : goal.loop-frames-preserved
loop-frames-preserved g c = record {
  so_far = λ s is.
      let h = c.loop-frames.invariant.so_far s is in
      let next = subst (λ next. Nexts next (g.L.Outside.linking c.loop-frames.link) (g.L.Outside.linking c.next_frame.new.link) c.loop-frames.feed c.next_frame.new.feed) c.in-Frame.is c.in_ok-next_frame.ensures.next in
      so-far-more g.S.Serves.gives s (g.L.Outside.linking c.args.link.now) (g.L.Outside.linking c.loop-frames.link) (g.L.Outside.linking c.next_frame.new.link) (g.L.Outside.linking c.answer_frame-turn.new.link)
      c.loop-frames.feed c.next_frame.new.feed c.in-Frame.message c.loop-frames.frames (g.S.Serves.is_of c.loop-frames.server) (g.S.Serves.is_of c.answer_frame-turn.new.server) h next.0 next.1
      (subst (λ turn. Turns g.S.Serves.gives turn h.after c.in-Frame.message (g.L.Outside.linking c.next_frame.new.link) (g.L.Outside.linking c.answer_frame-turn.new.link) (LeftBy turn (g.S.Serves.is_of c.answer_frame-turn.new.server)))
      c.in-Whole.is (c.in_ok-turn.ensures.turn h.after h.stands));
  draws = (let before = c.loop-frames.invariant.draws in let one = c.answer_frame-turn.ensures.draws in omega (arith, before, one));
  stays = stays-on _ g.L.Outside.reading g.L.Outside.writing g.L.Outside.linking g.L.Outside.held g.L.Outside.complaints g.L.Outside.IsSteady c.args.link.now c.next_frame.new.link c.answer_frame-turn.new.link
      (stays-on _ g.L.Outside.reading g.L.Outside.writing g.L.Outside.linking g.L.Outside.held g.L.Outside.complaints g.L.Outside.IsSteady c.args.link.now c.loop-frames.link c.next_frame.new.link c.loop-frames.invariant.stays c.next_frame.ensures.stays)
      c.answer_frame-turn.ensures.stays;
  up = c.answer_frame-turn.ensures.stays_up ∙ (c.next_frame.ensures.stays_up ∙ c.loop-frames.invariant.up);
}

pub returns-clause-talked : goal.returns-clause-talked
returns-clause-talked g c s is =
    rw (c.ended-2.ensures)
    (at-limit g.S.Serves.gives s (g.L.Outside.linking c.args.link.now) (g.L.Outside.linking c.loop-frames.link) c.loop-frames.feed c.loop-frames.frames (g.S.Serves.is_of c.loop-frames.server)
    (c.loop-frames.invariant.so_far s is) (search rules))

pub returns-in_err-next_frame-clause-in_part : goal.returns-in_err-next_frame-clause-in_part
returns-in_err-next_frame-clause-in_part g c s is =
    so-in-err c.from_residual.result
    (stops-reading g.S.Serves.gives s (g.L.Outside.linking c.args.link.now) (g.L.Outside.linking c.loop-frames.link) (g.L.Outside.linking c.next_frame.new.link) c.loop-frames.feed [] c.next_frame.new.feed c.loop-frames.frames
    (g.S.Serves.is_of c.loop-frames.server) (c.loop-frames.invariant.so_far s is) (search rules) c.in_err-next_frame.ensures.wanting)

pub returns-in_err-turn-clause-in_part : goal.returns-in_err-turn-clause-in_part
returns-in_err-turn-clause-in_part g c s is =
    let h = c.loop-frames.invariant.so_far s is in
    let next = subst (λ next. Nexts next (g.L.Outside.linking c.loop-frames.link) (g.L.Outside.linking c.next_frame.new.link) c.loop-frames.feed c.next_frame.new.feed) c.in-Frame.is c.in_ok-next_frame.ensures.next in
    so-in-err c.from_residual-in_err-turn.result
    (stops-answering g.S.Serves.gives s (g.L.Outside.linking c.args.link.now) (g.L.Outside.linking c.loop-frames.link) (g.L.Outside.linking c.next_frame.new.link) (g.L.Outside.linking c.answer_frame-turn.new.link)
    c.loop-frames.feed c.next_frame.new.feed c.in-Frame.message c.loop-frames.frames (g.S.Serves.is_of c.loop-frames.server) (LeftBy Broken (g.S.Serves.is_of c.answer_frame-turn.new.server)) h (search rules) next.0 next.1
    (c.in_err-turn.ensures.in_part h.after h.stands))
