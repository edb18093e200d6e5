-- Clients before anything happens.
use Rattle.std.proofs.Common.{◌≡◌, ℕ, true, List, [], refl, arith}
use Rattle.std.specs.List.{list_all}
use Rattle.std.proofs.lemmas.List.Elements.{All-nil}
use Rattle.sr_cell.specs.declared.table.Table.{Table}
use Rattle.sr_model.specs.Queries.{Query}
use Rattle.sr_policy.specs.declared.policy.Limits.{Limits}
use Rattle.sr_query.specs.Bound.{is_table}
use Rattle.sr_history.specs.Marks.{is_held}
use Rattle.sr_history.specs.Classes.{stamp}
use Rattle.sr_store.specs.Classes.{Keeps}
use Rattle.sr_store.proofs.Fewer.{none_settled}
use Rattle.sr_session.specs.Sessions.{Database}
use Rattle.sr_session.specs.Clients.{from_query}
use Rattle.sr_session.specs.Laws.{IsSound}
use Rattle.sr_session.specs.Scenes.{new_pair}
use Rattle.sr_client.specs.Stands.{Hidden, Facts, Stands, StandsOver, new_client, opened_client}
use Rattle.sr_client.proofs.TableLemmas.{no-store}

abbrev pub no_query : Query
no_query = record { parts = []; joins = []; outputs = [] }

abbrev pub at_first : Hidden
at_first = record { marks = []; queries = []; counted_from = from_query 0; meaning = no_query }

pub nothing-kept : (schema : List Table) → Keeps schema (is_held []) (stamp []) []
nothing-kept schema = record { points = λ t a p point. refl; stamped = All-nil _ }

pub new-facts : (id : ℕ) (schema : List Table) (limits : Limits) → list_all is_table schema ≡ true → Facts (new_client id schema limits) at_first
new-facts id schema limits tables = record {
  tables = tables;
  tidy = refl;
  down = λ down. refl;
  meant = tt;
  fit = tt;
  store = no-store schema;
  settled = λ is. none_settled schema;
  keeps = nothing-kept schema;
  queries = refl;
  last = refl;
  rows = omega arith;
  few = omega arith;
  from = omega arith;
  short = λ t c. refl;
  ends = All-nil _;
}

opened-facts : (id : ℕ) (schema : List Table) (limits : Limits) → list_all is_table schema ≡ true → Facts (opened_client id schema limits) at_first
opened-facts id schema limits tables = record {
  tables = tables;
  tidy = refl;
  down = λ down. refl;
  meant = tt;
  fit = tt;
  store = no-store schema;
  settled = λ is. none_settled schema;
  keeps = nothing-kept schema;
  queries = refl;
  last = refl;
  rows = omega arith;
  few = omega arith;
  from = omega arith;
  short = λ t c. refl;
  ends = All-nil _;
}

pub new_stands : (id : ℕ) (schema : List Table) (limits : Limits) → list_all is_table schema ≡ true → Stands (new_client id schema limits)
new_stands id schema limits tables = (at_first, new-facts id schema limits tables)

pub opened_stands : (id : ℕ) (schema : List Table) (limits : Limits) → list_all is_table schema ≡ true → Stands (opened_client id schema limits)
opened_stands id schema limits tables = (at_first, opened-facts id schema limits tables)

pub opened_over : (id : ℕ) (schema : List Table) (limits : Limits) → list_all is_table schema ≡ true → (db : Database) → IsSound db → db.schema ≡ schema
    → StandsOver db new_pair.client (opened_client id schema limits)
opened_over id schema limits tables db sound same = record {
  sound = sound;
  schema = same;
  within = omega arith;
  client = record { hidden = at_first; facts = opened-facts id schema limits tables; same = refl; are_true = All-nil _ };
}
