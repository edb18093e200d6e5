use Rattle.std.proofs.Common.{◌≡◌, inl, sym, ap, subst, ◌∙◌}
use Rattle.std.specs.Prelude.{Err}
use Rattle.sr_cell.specs.declared.list.No.TheVariants.{Refused}
use Rattle.sr_semi.specs.declared.fault.SemiFault.TheVariants.{Sql}
use Rattle.sr_semi.specs.Seen.{sides_seen}
use Rattle.sr_semi.specs.Starting.{AreSides}
use Rattle.sr_semi.proofs.Looking.{ok-weaker}
use Rattle.sr_semi.proofs.Sided.{sql-of}
use Rattle.sr_semi.proofs.starts.sides_of.Goals as goal

pub returns-in-Err-clause-sql : goal.returns-in-Err-clause-sql
returns-in-Err-clause-sql c fault e =
    let same : c.as_sql.result ≡ Refused (Sql fault) = cc e in
    inl (c.in-Err.ensures.refused fault (ap Err (sql-of c.in-Err.no fault (sym c.as_sql.ensures ∙ same))))

pub returns-in-Ok-sides-clause-sides : goal.returns-in-Ok-sides-clause-sides
returns-in-Ok-sides-clause-sides c =
    let are = c.in-Ok-sides.ensures.sides c.args.sql.now c.in-Ok.ensures.found in
    ok-weaker c.if_read.result _ (λ sides. AreSides c.args.schema.now c.args.sql.now (sides_seen sides))
    (λ sides same. subst (λ s. AreSides c.args.schema.now c.args.sql.now (sides_seen s)) (sym same) are) c.if_read.ensures.same

pub returns-in-Ok-sides-clause-unread : goal.returns-in-Ok-sides-clause-unread
returns-in-Ok-sides-clause-unread c fault e =
    (sides_seen c.in-Ok-sides.sides, c.in-Ok-sides.ensures.sides c.args.sql.now c.in-Ok.ensures.found, c.if_read.ensures.unread fault e)

pub returns-in-Err-sides-clause-sql : goal.returns-in-Err-sides-clause-sql
returns-in-Err-sides-clause-sql c fault e = c.in-Err-sides.ensures.sql c.args.sql.now fault c.in-Ok.ensures.found e
