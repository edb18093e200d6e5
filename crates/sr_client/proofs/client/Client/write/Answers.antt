use Rattle.std.proofs.Common.{rules, ◌≤◌, length, sym, subst, ap, arith}
use Rattle.sr_message.specs.declared.message.Message.TheVariants.{Write}
use Rattle.sr_client.specs.declared.client.Client.{Client}
use Rattle.sr_client.specs.declared.steps.WriteStep.TheVariants.{Sent}
use Rattle.sr_client.specs.Sends.{IsWellSent}
use Rattle.sr_client.specs.Stands.{Stands}
use Rattle.sr_client.specs.Steps.{Writes}
use Rattle.sr_client.proofs.SendableLemmas.{write-sent-well}
use Rattle.sr_client.proofs.WriteLemmas.{write-busy, write-over-cut, write-sent, writing-stands}
use Rattle.sr_client.proofs.client.Client.write.Goals as goal

pub returns-in-Some-clause-writes : goal.returns-in-Some-clause-writes
returns-in-Some-clause-writes c = λ few. write-busy c.args.self.now c.args.sql.now c.number.result c.in-Some.request c.requires.stands (search rules) c.number.ensures

pub returns-then-self-clause-writes : goal.returns-then-self-clause-writes
returns-then-self-clause-writes c = λ few. write-over-cut c.args.self.now c.args.sql.now c.requires.stands c.in_default.is c.if-self.true

pub returns-clause-writes : goal.returns-clause-writes
returns-clause-writes c = λ few.
    let old = c.args.self.now in
    subst (λ (x : Client). Writes old c.args.sql.now x (Sent old.next_request (Write old.next_request c.in_ok-of.field-0))) (sym c.set_out.ensures)
    (write-sent old c.args.sql.now _ c.requires.stands c.in_default.is c.if-self.false (ap (Write old.next_request) c.in_ok-of.ensures))

pub returns-clause-stands : goal.returns-clause-stands
returns-clause-stands c = subst (λ (x : Client). Stands x) (sym c.set_out.ensures) (writing-stands c.args.self.now c.requires.stands c.in_default.is c.if-self.false)

pub returns-clause-sends : goal.returns-clause-sends
returns-clause-sends c =
    let old = c.args.self.now in
    let few : length c.args.sql.now ≤ 65536 = omega arith in
    subst (λ sql. IsWellSent old.schema old.id (Write old.next_request sql)) (sym c.in_ok-of.ensures) (write-sent-well old.schema old.id old.next_request c.args.sql.now few)

-- a text is too long, or it is not
pub returns-then-sql-clause-writes : goal.returns-then-sql-clause-writes
returns-then-sql-clause-writes c = λ few. absurd (omega (arith, few))

pub returns-in-Some-clause-too_long : goal.returns-in-Some-clause-too_long
returns-in-Some-clause-too_long c = λ long. absurd (omega (arith, long))

pub returns-then-self-clause-too_long : goal.returns-then-self-clause-too_long
returns-then-self-clause-too_long c = λ long. absurd (omega (arith, long))

pub returns-in_err-of-clause-too_long : goal.returns-in_err-of-clause-too_long
returns-in_err-of-clause-too_long c = λ long. absurd (omega (arith, long))

pub returns-clause-too_long : goal.returns-clause-too_long
returns-clause-too_long c = λ long. absurd (omega (arith, long))
