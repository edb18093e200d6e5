use Rattle.std.proofs.Common.{Ok, subst}
use Rattle.sr_lines.specs.Script.{AsksOf}
use Rattle.sr_model.specs.Queries.{Query as TheQuery}
use Rattle.sr_client.specs.Explaining.{Explains}
use Rattle.sr_client.specs.declared.client.Client.{Client}
use Rattle.sr_handle.proofs.Asked.{meant}
use Rattle.sr_handle.proofs.seat.Seat.explain.Goals as goal

pub explain-requires-clause-meant : goal.explain-requires-clause-meant
explain-requires-clause-meant c =
    let own = c.self.inside in
    let m = meant own.schema own.client.schema c.args.sql.now c.in_ok-query.field-0 c.in-Ok.query c.self.invariant.schema c.in_ok-query.ensures c.in-Ok.is in
    (m.0, m.2)

pub returns-in_ok-explain-in-Ok-clause-explains : goal.returns-in_ok-explain-in-Ok-clause-explains
returns-in_ok-explain-in-Ok-clause-explains c =
    let own = c.self.inside in
    let m = meant own.schema own.client.schema c.args.sql.now c.in_ok-query.field-0 c.in-Ok.query c.self.invariant.schema c.in_ok-query.ensures c.in-Ok.is in
    subst (λ (s : Client). (x : TheQuery) × AsksOf s.schema c.args.sql.now (Ok x) × Explains s x c.in_ok-explain-in-Ok.field-0) c.self.view_is
    (m.0, m.1, c.in_ok-explain-in-Ok.ensures.explains m.0 m.2)
