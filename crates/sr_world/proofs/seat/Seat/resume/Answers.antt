use Rattle.std.proofs.Common.{◌≤◌, ◌+◌, refl, sym, subst}
use Rattle.std.proofs.lemmas.Result.{on_ok_weaker}
use Rattle.sr_world.specs.declared.seat.Seat.{Seat}
use Rattle.sr_world.specs.Worlds.{drawn_by}
use Rattle.sr_world.proofs.ClientLemmas.{resume-goes, resume-numbers, resume-sendable}
use Rattle.sr_world.proofs.Sent.{first-opens}
use Rattle.sr_world.proofs.seat.Seat.resume.Goals as goal

pub returns-clause-goes : goal.returns-clause-goes
returns-clause-goes c = λ server.
    let old = c.args.self.now in
    resume-goes old (record old { client = c.resume.new.self }) c.send.new.self server c.in_ok-step.step c.in_ok-told.told c.send.result
    c.in_ok-step.ensures.resumes c.resume.ensures.stays refl
    (λ past o says. record { lines = c.in_ok-told.ensures.lines past o says; sent = c.in_ok-told.ensures.sent past o says })
    c.in_ok-step.ensures.sends c.send.ensures.sent c.send.ensures.lines

pub returns-clause-draws : goal.returns-clause-draws
returns-clause-draws c =
    let old = c.args.self.now in
    let few = resume-numbers old c.resume.new.self c.in_ok-step.step c.requires.stands c.in_ok-step.ensures.resumes in
    on_ok_weaker c.send.result (λ made. subst (λ (x : Seat). drawn_by x ≤ drawn_by old + 2) (sym made) few) c.send.ensures.sent

pub told_of_resume-requires : goal.told_of_resume-requires
told_of_resume-requires c = record { opens = first-opens c.args.self.now.client c.in_ok-step.step c.in_ok-step.ensures.first }

pub send-requires : goal.send-requires
send-requires c = record {
  sendable =
      resume-sendable c.args.self.now c.resume.new.self c.in_ok-step.step c.in_ok-told.told.sent c.requires.stands c.in_ok-step.ensures.resumes c.in_ok-told.ensures.sent c.in_ok-step.ensures.sends;
}
