-- What is asked of a client.
use Rattle.std.proofs.Common.{◌≡◌, List, sym, ap, Result, Ok, Err}
use Rattle.sr_cell.specs.declared.fault.Fault.{Fault}
use Rattle.sr_cell.specs.declared.table.Table.{Table}
use Rattle.sr_model.specs.Queries as model
use Rattle.sr_query.specs.declared.query.Query.{Query}
use Rattle.sr_reader.specs.Read.{Means}
use Rattle.sr_client.specs.Bound.{IsMeaning}

-- what a bound query means
pub some_meaning : (schema : List Table) (q : Query) (meaning : Result model.Query Fault) → Means schema (Ok q) meaning → (m : model.Query) × IsMeaning schema q m
some_meaning schema q (Ok m) means = (m, record { query = means.0; joined = means.1; few = means.2; sound = means.3; own = means.4 })
some_meaning schema q (Err fault) means = absurd means

pub meaning_is : (schema : List Table) (q : Query) (meaning : Result model.Query Fault) (P : Result model.Query Fault → Type 0) → Means schema (Ok q) meaning → ((m : model.Query) → IsMeaning schema q m → P (Ok m)) → P meaning
meaning_is schema q (Ok m) P means each = each m (record { query = means.0; joined = means.1; few = means.2; sound = means.3; own = means.4 })
meaning_is schema q (Err fault) P means each = absurd means

-- a text that is refused means nothing else
pub refused_is : (schema : List Table) (fault : Fault) (meaning : Result model.Query Fault) → Means schema (Err fault) meaning → meaning ≡ Err fault
refused_is schema fault (Ok m) means = absurd means
refused_is schema fault (Err same) means = ap Err (sym means)
