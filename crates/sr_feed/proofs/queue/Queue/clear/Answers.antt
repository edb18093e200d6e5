use Rattle.std.proofs.Common.{sym, ap, ◌∙◌, subst}
use Rattle.sr_feed.specs.Frames.{messages_in, AreFramesOf}
use Rattle.sr_feed.proofs.Frames.{none_in, no_frames, all_passed}
use Rattle.sr_feed.proofs.queue.Queue.clear.Goals as goal

pub invariant_of-self : goal.invariant_of-self
invariant_of-self c = subst (λ b. AreFramesOf b (messages_in b)) (sym (all_passed c.self.inside.frames c.pass.new.self c.left-left.result c.left-left.ensures c.pass.ensures)) no_frames

pub returns : goal.returns
returns c = ap messages_in (all_passed c.self.inside.frames c.pass.new.self c.left-left.result c.left-left.ensures c.pass.ensures) ∙ none_in
