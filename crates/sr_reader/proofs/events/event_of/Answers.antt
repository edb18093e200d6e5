use Rattle.std.proofs.Common.{sym, subst}
use Rattle.std.specs.Prelude.{IfOk}
use Rattle.sr_reader.specs.LineSeen.{words_seen}
use Rattle.sr_reader.specs.Meaning.{IsSaid}
use Rattle.sr_reader.proofs.events.event_of.Goals as goal

pub returns-in-Exec : goal.returns-in-Exec
returns-in-Exec c = subst (λ z. IfOk c.exec.result (IsSaid c.args.schema.now (words_seen z))) (sym c.in-Exec.is) c.exec.ensures

pub returns-in-Explain : goal.returns-in-Explain
returns-in-Explain c = subst (λ z. IfOk c.explain.result (IsSaid c.args.schema.now (words_seen z))) (sym c.in-Explain.is) c.explain.ensures

pub returns-in-Query : goal.returns-in-Query
returns-in-Query c = subst (λ z. IfOk c.query.result (IsSaid c.args.schema.now (words_seen z))) (sym c.in-Query.is) c.query.ensures
