use Rattle.std.proofs.Common.{ap}
use Rattle.sr_calls.proofs.HoldLemmas.{same_ready}
use Rattle.sr_calls.proofs.StepLemmas.{resume_makes, resume_sendable}
use Rattle.sr_world.proofs.Sent.{first-opens}
use Rattle.sr_calls.proofs.calls.resume.Goals as goal

pub told_of_resume-requires : goal.told_of_resume-requires
told_of_resume-requires c = record { opens = first-opens c.args.client.now c.in_ok-step.step c.in_ok-step.ensures.first }

pub returns-clause-made : goal.returns-clause-made
returns-clause-made c = λ keeps past stands.
    resume_makes c.args.client.now c.resume.new.self c.in_ok-step.step c.in_ok-lines.lines c.done_with.result c.in_ok-step.ensures.resumes c.resume.ensures.stays (ap (λ s. s.regions) c.resume.ensures.held)
    (λ p o says. record { lines = c.in_ok-lines.ensures.lines p o says; sent = c.in_ok-lines.ensures.sent p o says }) c.done_with.ensures (c.in_ok-step.ensures.sends c.requires.ready.1) keeps past stands

pub returns-clause-sendable : goal.returns-clause-sendable
returns-clause-sendable c =
    resume_sendable c.args.client.now c.resume.new.self c.in_ok-step.step c.in_ok-lines.lines c.done_with.result c.in_ok-step.ensures.resumes c.resume.ensures.stays (ap (λ s. s.regions) c.resume.ensures.held)
    (λ p o says. record { lines = c.in_ok-lines.ensures.lines p o says; sent = c.in_ok-lines.ensures.sent p o says }) c.done_with.ensures c.requires.ready.0 (c.in_ok-step.ensures.sends c.requires.ready.1)

pub returns-clause-ready : goal.returns-clause-ready
returns-clause-ready c = same_ready c.args.client.now c.resume.new.self c.requires.ready c.resume.ensures.held c.resume.ensures.stands c.resume.ensures.stays
