use Rattle.std.proofs.Common.{◌≡◌, ◌++◌, ◌∷◌, [], ◌∙◌, subst, OnOk}
use Rattle.sr_feed.specs.Frames.{messages_in}
use Rattle.sr_feed.proofs.Frames.{fed_frames, fed_message}
use Rattle.sr_feed.proofs.queue.Queue.push.Goals as goal

pub invariant_of-self : goal.invariant_of-self
invariant_of-self c =
    fed_frames c.feed.result c.self.inside.frames c.feed.new.self c.as_slice.result.now c.args.message.now c.self.invariant c.feed.ensures.fed c.feed.ensures.unchanged
    (c.as_slice.ensures ∙ c.in_ok-frame.ensures.written) c.in_ok-frame.ensures.spelled

pub returns-clause-pushed : goal.returns-clause-pushed
returns-clause-pushed c =
    subst (λ old. OnOk c.feed.result (messages_in c.feed.new.self ≡ old ++ c.args.message.now ∷ [])) c.self.view_is
    (fed_message c.feed.result c.self.inside.frames c.feed.new.self c.as_slice.result.now c.args.message.now c.self.invariant c.feed.ensures.fed
    (c.as_slice.ensures ∙ c.in_ok-frame.ensures.written) c.in_ok-frame.ensures.spelled)
