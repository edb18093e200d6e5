-- What is shown of a client over the databases of its own schema is so over each database that it stands over.
use Rattle.std.proofs.Common.{◌≡◌, ◌≤◌, List, refl, sym, subst}
use Rattle.sr_cell.specs.declared.table.Table.{Table}
use Rattle.sr_region.specs.declared.region.Region.{Region}
use Rattle.sr_store.specs.Told.{told_of, AreTrueOf}
use Rattle.sr_session.specs.Sessions.{Database, newest, tables_of}
use Rattle.sr_session.specs.Clients as session
use Rattle.sr_session.specs.Laws.{IsSound}
use Rattle.sr_client.specs.declared.client.Client.{Client}
use Rattle.sr_client.specs.Stands.{Hidden, past_of, Facts, StandsOver}

abbrev pub on : Client → Database → Database
on c db = record db { schema = c.schema }

-- The database is sound for the client's schema, and the regions have the rows of the client's version.
pub record IsHere (db : Database) (c : Client) : Type 0 where
  pub sound : IsSound (on c db)
  pub within : c.version ≤ newest db
  pub are_true : AreTrueOf (told_of (tables_of db c.version)) c.store.regions

pub of-schema : (c : Client) (Goal : Database → session.Client → Type 0) (h : Hidden) → Facts c h → ((db : Database) → IsHere db c → Goal (on c db) (past_of c h))
    → (db : Database) → db.schema ≡ c.schema → IsSound db → c.version ≤ newest db → AreTrueOf (told_of (tables_of db c.version)) c.store.regions → Goal db (past_of c h)
of-schema c Goal h f each db same sound within are_true =
    subst (λ (s : List Table). Goal (record db { schema = s }) (past_of c h)) (sym same)
    (each db (record { sound = subst (λ (s : List Table). IsSound (record db { schema = s })) same sound; within = within; are_true = are_true }))

pub over : (c : Client) (Goal : Database → session.Client → Type 0) → ((h : Hidden) → Facts c h → (db : Database) → IsHere db c → Goal (on c db) (past_of c h))
    → (db : Database) (past : session.Client) → StandsOver db past c → Goal db past
over c Goal each db past s =
    let h = s.client.hidden in
    let goal : (db : Database) → db.schema ≡ c.schema → IsSound db → c.version ≤ newest db → AreTrueOf (told_of (tables_of db c.version)) c.store.regions → Goal db (past_of c h) =
    of-schema c Goal h s.client.facts (each h s.client.facts) in
    subst (Goal db) (sym s.client.same)
    (goal db s.schema s.sound (subst (λ (p : session.Client). p.version ≤ newest db) s.client.same s.within)
    (subst (λ (p : session.Client). AreTrueOf (told_of (tables_of db p.version)) c.store.regions) s.client.same s.client.are_true))

-- the client with other regions
abbrev pub with_regions : Client → List Region → Client
with_regions c gs = record c { store = record c.store { regions = gs } }

-- a client stands over a database of its schema
pub stands-over : (c : Client) (h : Hidden) (db : Database) → Facts c h → IsHere db c → StandsOver (on c db) (past_of c h) c
stands-over c h db f here = record {
  sound = here.sound;
  schema = refl;
  within = here.within;
  client = record { hidden = h; facts = f; same = refl; are_true = here.are_true };
}
