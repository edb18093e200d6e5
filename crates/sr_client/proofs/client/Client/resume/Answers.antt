use Rattle.std.proofs.Common.{rules, false, sym, subst}
use Rattle.sr_client.specs.declared.client.Client.{Client}
use Rattle.sr_client.specs.declared.steps.ResumeStep.TheVariants.{Sent}
use Rattle.sr_client.specs.Sends.{IsWellSent}
use Rattle.sr_client.specs.Stands.{Stands}
use Rattle.sr_client.specs.Steps.{Resumes}
use Rattle.sr_client.proofs.SendableLemmas.{first-sent}
use Rattle.sr_client.proofs.ResumeLemmas.{resume-up, resume-sent, resuming-stands}
use Rattle.sr_client.proofs.client.Client.resume.Goals as goal

pub returns-then-not-self-clause-resumes : goal.returns-then-not-self-clause-resumes
returns-then-not-self-clause-resumes c = resume-up c.args.self.now c.requires.stands (search rules)

pub returns-clause-resumes : goal.returns-clause-resumes
returns-clause-resumes c =
    let old = c.args.self.now in
    let message = c.in_ok-message.message in
    subst (λ (x : Client). Resumes old (record x { cut = false }) (Sent old.next_request message)) (sym c.set_out.ensures)
    (resume-sent old message c.requires.stands (search rules) c.in_ok-message.ensures.first)

pub returns-clause-stands : goal.returns-clause-stands
returns-clause-stands c = subst (λ (x : Client). Stands (record x { cut = false })) (sym c.set_out.ensures) (resuming-stands c.args.self.now c.requires.stands (search rules))

pub returns-clause-sends : goal.returns-clause-sends
returns-clause-sends c = λ format.
    let old = c.args.self.now in
    subst (IsWellSent old.schema old.id) (sym c.in_ok-message.ensures.first) (first-sent old c.requires.stands format c.in_ok-message.ensures.few)
