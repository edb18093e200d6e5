use Rattle.std.proofs.Common.{◌≡◌, sym, ◌∙◌, subst, None}
use Rattle.std.specs.List.{All}
use Rattle.sr_wire.specs.Limits.{IsSendable}
use Rattle.sr_session.specs.Refusals.{server_misfit}
use Rattle.sr_server.specs.Servers.{session_at}
use Rattle.sr_server.proofs.Sending.{taken-sent}
use Rattle.sr_server.proofs.Slots.{session-is}
use Rattle.sr_server.proofs.Taking.{begun-on, gives-up-on}
use Rattle.sr_server.proofs.server.Server.begin.Goals as goal

pub returns-in-Ok-clause-stands : goal.returns-in-Ok-clause-stands
returns-in-Ok-clause-stands c =
    (begun-on c.requires.stands.0 c.args.self.now c.begin_on.new.self c.args.client c.args.message.now c.in-Ok.outbox c.requires.stands.1 (c.in-Ok.ensures.begun c.requires.stands.0 c.requires.stands.1)).stands

pub returns-in-Ok-clause-grows : goal.returns-in-Ok-clause-grows
returns-in-Ok-clause-grows c =
    (begun-on c.requires.stands.0 c.args.self.now c.begin_on.new.self c.args.client c.args.message.now c.in-Ok.outbox c.requires.stands.1 (c.in-Ok.ensures.begun c.requires.stands.0 c.requires.stands.1)).grows

pub returns-in-Err-clause-stands : goal.returns-in-Err-clause-stands
returns-in-Err-clause-stands c =
    (gives-up-on c.requires.stands.0 c.args.self.now c.begin_on.new.self c.args.client c.args.message.now c.requires.stands.1 (c.in-Err.ensures.wanting c.requires.stands.0 c.requires.stands.1)).stands

pub returns-in-Err-clause-grows : goal.returns-in-Err-clause-grows
returns-in-Err-clause-grows c =
    (gives-up-on c.requires.stands.0 c.args.self.now c.begin_on.new.self c.args.client c.args.message.now c.requires.stands.1 (c.in-Err.ensures.wanting c.requires.stands.0 c.requires.stands.1)).grows

pub returns-in-Ok-clause-sendable : goal.returns-in-Ok-clause-sendable
returns-in-Ok-clause-sendable c =
    let db = c.requires.stands.0 in
    let is = c.requires.stands.1 in
    let begun = c.in-Ok.ensures.begun db is in
    let none : server_misfit db.schema (session_at c.args.self.now.sessions c.args.client) c.args.client c.args.message.now ≡ None =
    subst (λ schema. server_misfit schema (session_at c.args.self.now.sessions c.args.client) c.args.client c.args.message.now ≡ None) is.knows.schema (sym c.misfit.ensures ∙ c.in-None.is) in
    subst (All IsSendable) (sym begun.sends) (taken-sent db (session_at c.args.self.now.sessions c.args.client) c.args.client c.args.message.now begun.result is.sound (session-is db c.args.self.now.sessions c.args.client c.requires.client is.count is.sessions) begun.stands.sound none c.requires.parts)
