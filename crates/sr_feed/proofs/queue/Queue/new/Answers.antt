use Rattle.std.proofs.Common.{sym, ap, ◌∙◌, subst}
use Rattle.sr_feed.specs.Frames.{messages_in, AreFramesOf}
use Rattle.sr_feed.proofs.Frames.{none_in, no_frames}
use Rattle.sr_feed.proofs.queue.Queue.new.Goals as goal

pub invariant_of-result : goal.invariant_of-result
invariant_of-result c = subst (λ b. AreFramesOf b (messages_in b)) (sym c.new.ensures) no_frames

pub returns : goal.returns
returns c = ap messages_in c.new.ensures ∙ none_in
