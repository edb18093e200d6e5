use Rattle.std.proofs.Common.{sym, subst, refl, Err}
use Rattle.sr_cell.specs.declared.list.No.TheVariants.{Refused}
use Rattle.std.specs.List.{All}
use Rattle.sr_wire.specs.Limits.{IsSendable}
use Rattle.sr_server.proofs.Taking.{begun-closed, finished-takes, given-up, gives-up-on, handed-on, takes-on}
use Rattle.sr_server.proofs.server.Server.take.Goals as goal

pub read_out-requires-clause-client : goal.read_out-requires-clause-client
read_out-requires-clause-client c =
    rw (c.in_ok-outbox.ensures.begun c.requires.stands.0 c.requires.stands.1).is_for c.requires.client

pub read_out-requires-clause-closed : goal.read_out-requires-clause-closed
read_out-requires-clause-closed c =
    let db = c.requires.stands.0 in
    begun-closed db c.args.self.now c.begin.new.self c.args.client c.args.message.now c.in_ok-outbox.outbox c.requires.client c.requires.stands.1 (c.in_ok-outbox.ensures.begun db c.requires.stands.1)

pub read_out-requires-clause-fits : goal.read_out-requires-clause-fits
read_out-requires-clause-fits c = (c.in_ok-outbox.ensures.begun c.requires.stands.0 c.requires.stands.1).fits

pub returns-in-Ok-clause-taken : goal.returns-in-Ok-clause-taken
returns-in-Ok-clause-taken c db is =
    finished-takes db c.args.self.now c.begin.new.self c.read_out.new.self c.args.client c.args.message.now c.in_ok-outbox.outbox c.in-Ok.sent (c.in_ok-outbox.ensures.begun db is) c.in-Ok.ensures.sent c.in-Ok.ensures.put

pub returns-in-Ok-clause-sendable : goal.returns-in-Ok-clause-sendable
returns-in-Ok-clause-sendable c = subst (All IsSendable) (sym c.in-Ok.ensures.sent) c.in_ok-outbox.ensures.sendable

pub returns-in-Ok-clause-stands : goal.returns-in-Ok-clause-stands
returns-in-Ok-clause-stands c =
    let db = c.requires.stands.0 in
    let is = c.requires.stands.1 in
    (takes-on db c.args.self.now c.read_out.new.self c.args.client c.args.message.now c.in-Ok.sent is
    (finished-takes db c.args.self.now c.begin.new.self c.read_out.new.self c.args.client c.args.message.now c.in_ok-outbox.outbox c.in-Ok.sent (c.in_ok-outbox.ensures.begun db is) c.in-Ok.ensures.sent c.in-Ok.ensures.put)).stands

pub returns-in-Ok-clause-grows : goal.returns-in-Ok-clause-grows
returns-in-Ok-clause-grows c =
    let db = c.requires.stands.0 in
    let is = c.requires.stands.1 in
    (takes-on db c.args.self.now c.read_out.new.self c.args.client c.args.message.now c.in-Ok.sent is
    (finished-takes db c.args.self.now c.begin.new.self c.read_out.new.self c.args.client c.args.message.now c.in_ok-outbox.outbox c.in-Ok.sent (c.in_ok-outbox.ensures.begun db is) c.in-Ok.ensures.sent c.in-Ok.ensures.put)).grows

pub returns-in-Err-clause-wanting : goal.returns-in-Err-clause-wanting
returns-in-Err-clause-wanting c db is wants =
    given-up db c.args.self.now c.begin.new.self c.read_out.new.self c.args.client c.args.message.now c.in_ok-outbox.outbox (c.in_ok-outbox.ensures.begun db is) c.in-Err.ensures.unchanged

pub returns-in-Err-clause-stands : goal.returns-in-Err-clause-stands
returns-in-Err-clause-stands c =
    let db = c.requires.stands.0 in
    let is = c.requires.stands.1 in
    (gives-up-on db c.args.self.now c.read_out.new.self c.args.client c.args.message.now is
    (given-up db c.args.self.now c.begin.new.self c.read_out.new.self c.args.client c.args.message.now c.in_ok-outbox.outbox (c.in_ok-outbox.ensures.begun db is) c.in-Err.ensures.unchanged)).stands

pub returns-in-Err-clause-grows : goal.returns-in-Err-clause-grows
returns-in-Err-clause-grows c =
    let db = c.requires.stands.0 in
    let is = c.requires.stands.1 in
    (gives-up-on db c.args.self.now c.read_out.new.self c.args.client c.args.message.now is
    (given-up db c.args.self.now c.begin.new.self c.read_out.new.self c.args.client c.args.message.now c.in_ok-outbox.outbox (c.in_ok-outbox.ensures.begun db is) c.in-Err.ensures.unchanged)).grows

pub returns-in-Ok-clause-bad : goal.returns-in-Ok-clause-bad
returns-in-Ok-clause-bad c = λ why. ((λ wrong. absurd (cc)), (λ is. let no = (c.in_ok-outbox.ensures.bad why).1 is in absurd (cc)))

pub returns-in-Err-clause-bad : goal.returns-in-Err-clause-bad
returns-in-Err-clause-bad c = λ why. ((λ wrong. absurd (cc)), (λ is. let no = (c.in_ok-outbox.ensures.bad why).1 is in absurd (cc)))

pub returns-in_err-outbox-clause-bad : goal.returns-in_err-outbox-clause-bad
returns-in_err-outbox-clause-bad c = λ why.
    handed-on c.from_residual.result (Err c.in_err-outbox.field-0.0) c.in_err-outbox.field-0.0 (Refused why) _ refl c.from_residual.ensures.1 (c.in_err-outbox.ensures.bad why)
