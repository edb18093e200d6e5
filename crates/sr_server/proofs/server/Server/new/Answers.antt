use Rattle.std.proofs.Common.{◌≡◌, ◌∙◌, ap, arith, subst, None}
use Rattle.std.specs.Prelude.{replicate}
use Rattle.sr_server.specs.Servers.{IsServer, first_database}
use Rattle.sr_server.proofs.Standing.{first-stands}
use Rattle.sr_server.proofs.server.Server.new.Goals as goal

pub returns-clause-stands : goal.returns-clause-stands
returns-clause-stands c =
    let full : c.clients.counter ≡ 64 = omega arith in
    subst (λ limit. IsServer (record { tables = c.args.tables; log = c.new.result; sessions = c.clients.sessions }) (first_database c.args.tables.schema limit c.args.tables.rows)) c.new.ensures.limit
    (first-stands (record { tables = c.args.tables; log = c.new.result; sessions = c.clients.sessions })
    (record { tables = c.know_stored.ensures.tables; stored = c.know_stored.ensures.rows; values = c.know_values.ensures }) c.new.ensures.floor c.new.ensures.kept (c.clients.invariant ∙ ap (λ n. replicate n None) full))
