use Rattle.sr_server.specs.Servers.{session_at}
use Rattle.sr_server.proofs.Fitting.{suits-schema}
use Rattle.sr_server.proofs.Served.{served-suits}
use Rattle.sr_server.proofs.Taking.{two-ok, on-err, gives-up, begins-request}
use Rattle.sr_server.proofs.server.Server.begin_on.Goals as goal

pub returns-in_default-clause-begun : goal.returns-in_default-clause-begun
returns-in_default-clause-begun c db is =
    two-ok c.begin_request.result _ _ _
    (λ outbox is_for serves. begins-request db c.args.self.now c.begin_request.new.self c.args.client c.args.message.now outbox c.requires.client is
    (suits-schema c.args.self.now.tables.schema (session_at c.args.self.now.sessions c.args.client) c.args.client c.args.message.now c.requires.suits)
    c.in_default.not-Write is_for serves c.begin_request.ensures.closed)
    c.begin_request.ensures.is_for (c.begin_request.ensures.serves db is)

pub returns-in_default-clause-wanting : goal.returns-in_default-clause-wanting
returns-in_default-clause-wanting c db is =
    on-err c.begin_request.result (gives-up db c.args.self.now c.begin_request.new.self c.args.client c.args.message.now is c.begin_request.ensures.closed)

pub begin_request-requires-clause-served : goal.begin_request-requires-clause-served
begin_request-requires-clause-served c =
    served-suits c.args.self.now.tables.schema (session_at c.args.self.now.sessions c.args.client) c.args.client c.args.message.now c.requires.suits c.in_default.not-Write
