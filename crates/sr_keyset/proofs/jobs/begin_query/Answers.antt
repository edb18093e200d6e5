use Rattle.std.proofs.Common.{◌≡◌, List, refl, ◌∙◌, ap, subst, Some, None}
use Rattle.std.specs.Prelude.{Result, Err, Option}
use Rattle.sr_cell.specs.declared.list.No.{No}
use Rattle.sr_cell.specs.declared.list.No.TheVariants.{Refused}
use Rattle.sr_cell.specs.declared.table.Table.{Table}
use Rattle.sr_dial.specs.Jobs.{IsJob}
use Rattle.sr_keyset.specs.Plans.{query_plan, runs}
use Rattle.sr_semi.specs.declared.fault.SemiFault.{SemiFault}
use Rattle.sr_semi.specs.declared.fault.SemiFault.TheVariants.{Sql, NotTwo, Unread}
use Rattle.sr_semi.specs.declared.semi.Semi.{Semi}
use Rattle.sr_semi.specs.Sides.{Sides}
use Rattle.sr_semi.specs.Starting.{IsBegun, IsNotTwo, IsRefused, IsUnread}
use Rattle.sr_keyset.proofs.Handing.{hands-left, hands-plain}
use Rattle.sr_keyset.proofs.Saying.{sides-begun, sides-none}
use Rattle.sr_keyset.proofs.jobs.begin_query.Goals as goal

pub returns-in_ok-job-in-Ok-clause-hands : goal.returns-in_ok-job-in-Ok-clause-hands
returns-in_ok-job-in-Ok-clause-hands c said rest says =
    let tables = c.args.tables.now in
    let sql = c.args.sql.now in
    let begun = subst (λ (t : List Table). IsBegun t sql c.in-Ok.semi) c.schema.ensures.same c.in-Ok.ensures.begun in
    let text = c.as_str.ensures ∙ c.first.ensures in
    let job = c.in_ok-job-in-Ok.job in
    hands-left tables said rest (record { job = job; going = Some (record { semi = c.in-Ok.semi; number = c.args.number; client = c.args.client; sql = c.args.sql }) })
    (record { semi = c.in-Ok.semi; number = c.args.number; client = c.args.client; sql = c.args.sql }) c.args.number c.args.client sql _ (sides-begun tables said says sql c.in-Ok.semi begun) begun.stage refl refl refl refl
    c.in_ok-job-in-Ok.ensures.number (subst (λ t. IsJob tables job (runs tables said t)) text (c.in_ok-job-in-Ok.ensures.is said says))

pub returns-in_ok-query_job-in-Err-Refused-clause-hands : goal.returns-in_ok-query_job-in-Err-Refused-clause-hands
returns-in_ok-query_job-in-Err-Refused-clause-hands c said rest says =
    let tables = c.args.tables.now in
    let sql = c.args.sql.now in
    let fault = c.in-Err-Refused.field-0-0 in
    let same = c.schema.ensures.same in
    let known = c.in-Err-Refused.ensures in
    let err : (e : SemiFault) → fault ≡ e → ◌≡◌ {A = Result Semi (No SemiFault)} (Err c.in-Err-Refused.field-0) (Err (Refused e)) =
    λ e is. ap (λ (no : No SemiFault). Err no) (c.in-Err-Refused.field-0-is ∙ ap (λ (f : SemiFault). Refused f) is) in
    let none = sides-none tables said says sql fault
    (λ f is. subst (λ (t : List Table). IsRefused t sql f) same (known.sql f (err (Sql f) is)))
    (λ n is. subst (λ (t : List Table). IsNotTwo t sql n) same (known.not_two n (err (NotTwo n) is)))
    (λ f is. subst (λ (t : List Table). IsUnread t sql f) same (known.unread f (err (Unread f) is))) in
    hands-plain tables said rest _ (record { job = c.in_ok-query_job-in-Err-Refused.field-0; going = None }) c.args.number (runs tables said sql) c.in_ok-query_job-in-Err-Refused.ensures.number
    (c.in_ok-query_job-in-Err-Refused.ensures.is said says) refl (λ answer. refl) (ap (λ (o : Option Sides). query_plan tables said c.args.number c.args.client sql o rest) none)
