-- What the rules go by over a database.
use Rattle.std.specs.Prelude.{Some}
use Rattle.sr_policy.specs.declared.policy.Limits.{Limits}
use Rattle.sr_model.specs.Queries.{rows_of}
use Rattle.sr_history.specs.Kept.{kept}
use Rattle.sr_session.specs.Sessions.{Database, tables_of}
use Rattle.sr_session.specs.Rules.{Basis}

-- answers are the rows on these versions
abbrev pub basis_of : Database → Limits → Basis
basis_of db limits = record {
  schema = db.schema;
  limits = limits;
  count = λ v marks. kept (tables_of db v) marks;
  rows = Some (λ v q. rows_of q (tables_of db v));
}
