use Rattle.sr_session.proofs.TableLemmas.{tables-stay-of-the-schema}
use Rattle.sr_session.proofs.laws.tables_stay_of_the_schema.Goals as goal

pub returns : goal.returns
returns c = record { tables = tables-stay-of-the-schema }
