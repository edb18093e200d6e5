use Rattle.std.proofs.Common.{List, ℕ, ◌∙◌, subst, refl, rules}
use Rattle.sr_reader.specs.Meaning.{IsAsking}
use Rattle.sr_report.specs.Plans.{Refused}
use Rattle.sr_report.proofs.Entries.{made_of_begun}
use Rattle.sr_report.proofs.report.aggregate_step.Goals as goal

pub returns-in_ok-query-in-Ok : goal.returns-in_ok-query-in-Ok
returns-in_ok-query-in-Ok c =
    let query = c.in_ok-query-in-Ok.query in
    let asking = subst (λ (z : List ℕ). IsAsking c.args.schema.now z query) (c.as_str.ensures ∙ c.inner.ensures) c.in_ok-query-in-Ok.ensures in
    made_of_begun c.args.id c.args.schema.now c.args.number c.args.sql.now c.in-Ok.agg query c.in-Ok.ensures.begun asking

pub returns-in_ok-refused_text-in-Err-Refused : goal.returns-in_ok-refused_text-in-Err-Refused
returns-in_ok-refused_text-in-Err-Refused c =
    (Refused c.in-Err-Refused.fault, c.in-Err-Refused.ensures.refused c.in-Err-Refused.fault (search rules), (refl, c.in_ok-refused_text-in-Err-Refused.ensures))
