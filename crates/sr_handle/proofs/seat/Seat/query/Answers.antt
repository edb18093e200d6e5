use Rattle.std.proofs.Common.{ap, ◌∙◌}
use Rattle.sr_client.specs.declared.client.Client.{Client}
use Rattle.sr_handle.proofs.Asked.{meant}
use Rattle.sr_handle.proofs.seat.Seat.query.Goals as goal

pub judge-requires : goal.judge-requires
judge-requires c =
    let same = c.self.invariant.schema ∙ ap (λ (s : Client). s.schema) c.self.view_is in
    let m = meant c.self.inside.schema c.args.self.now.schema c.args.sql.now c.in_ok-asked.asked c.in-Ok.query same c.in_ok-asked.ensures c.in-Ok.is in
    record { meant = (m.0, m.2) }

pub returns-in_ok-step-in-Ok-clause-asks : goal.returns-in_ok-step-in-Ok-clause-asks
returns-in_ok-step-in-Ok-clause-asks c =
    let same = c.self.invariant.schema ∙ ap (λ (s : Client). s.schema) c.self.view_is in
    let m = meant c.self.inside.schema c.args.self.now.schema c.args.sql.now c.in_ok-asked.asked c.in-Ok.query same c.in_ok-asked.ensures c.in-Ok.is in
    (m.0, m.1, c.in_ok-step-in-Ok.ensures.queries m.0 m.2)
