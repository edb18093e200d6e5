-- What a text that was read asks.
use Rattle.std.proofs.Common.{◌≡◌, ℕ, List, subst, Result, Ok, Err}
use Rattle.sr_cell.specs.declared.fault.Fault.{Fault}
use Rattle.sr_cell.specs.declared.table.Table.{Table}
use Rattle.sr_lines.specs.Script.{AsksOf}
use Rattle.sr_model.specs.Queries as model
use Rattle.sr_query.specs.declared.query.Query.{Query}
use Rattle.sr_reader.specs.Meaning.{IsAsking}
use Rattle.sr_reader.specs.Read.{Means}
use Rattle.sr_client.specs.Bound.{IsMeaning}

-- the query means something, and the text says that, to the tables by whatever name
pub meant : (tables own : List Table) (sql : List ℕ) (asked : Result Query Fault) (q : Query) → tables ≡ own → IsAsking tables sql asked → asked ≡ Ok q
    → (m : model.Query) × AsksOf own sql (Ok m) × IsMeaning own q m
meant tables own sql asked q same asks is =
    let own_asks = subst (λ (r : Result Query Fault). IsAsking own sql r) is (subst (λ (ts : List Table). IsAsking ts sql asked) same asks) in
    of own_asks.0 own_asks.1 own_asks.2
  where
    of : (meaning : Result model.Query Fault) → AsksOf own sql meaning → Means own (Ok q) meaning → (m : model.Query) × AsksOf own sql (Ok m) × IsMeaning own q m
    of (Ok m) asks means = (m, asks, record { query = means.0; joined = means.1; few = means.2; sound = means.3; own = means.4 })
    of (Err fault) asks means = absurd means
