use Rattle.sr_talk.proofs.TalkLemmas.{ServedSoFar}
use Rattle.sr_talk.proofs.serve.serve_frames.Given as goal

abbrev pub invariant-loop-frames : goal.invariant-loop-frames
invariant-loop-frames g l = ServedSoFar g.S.Serves.gives _ _ g.L.Outside.reading g.L.Outside.writing g.L.Outside.linking g.L.Outside.held g.L.Outside.complaints g.L.Outside.IsSteady g.S.Serves.is_of g.S.Serves.room l.initial.link l.link l.feed l.initial.server l.server l.frames
