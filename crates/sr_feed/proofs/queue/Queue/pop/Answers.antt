use Rattle.std.proofs.Common.{sym, ◌∙◌, subst}
use Rattle.std.specs.Prelude.{Some, None}
use Rattle.sr_feed.specs.Taken.{IsInFront}
use Rattle.sr_feed.proofs.Frames.{none_in_front, passed_frames, passed_message}
use Rattle.sr_feed.proofs.queue.Queue.pop.Goals as goal

pub invariant_of-self : goal.invariant_of-self
invariant_of-self c =
    let front : IsInFront c.self.inside.frames (Some c.in-Some.field-0) = subst (IsInFront c.self.inside.frames) c.in-Some.is c.in_ok-front_of.ensures.front in
    passed_frames c.self.inside.frames c.pass.new.self c.in-Some.field-0.message c.in-Some.field-0.size c.self.invariant front.0 c.pass.ensures

pub returns-in-None-clause-empty : goal.returns-in-None-clause-empty
returns-in-None-clause-empty c =
    let none : IsInFront c.self.inside.frames None = subst (IsInFront c.self.inside.frames) c.in-None.is c.in_ok-front_of.ensures.front in
    sym c.self.view_is ∙ none_in_front c.self.inside.frames c.self.invariant none

pub returns-in-Some-clause-taken : goal.returns-in-Some-clause-taken
returns-in-Some-clause-taken c =
    let front : IsInFront c.self.inside.frames (Some c.in-Some.field-0) = subst (IsInFront c.self.inside.frames) c.in-Some.is c.in_ok-front_of.ensures.front in
    sym c.self.view_is ∙ passed_message c.self.inside.frames c.pass.new.self c.in-Some.field-0.message c.in-Some.field-0.size c.self.invariant front.0 c.pass.ensures
