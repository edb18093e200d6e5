-- A server at the first version, and after a statement.
use Rattle.std.proofs.Common.{◌≡◌, ℕ, suc, ◌-◌, ◌<◌, ◌≤◌, true, List, [], ◌∷◌, ◌++◌, length, refl, sym, ◌∙◌, ap, subst, arith, Option, Some, None}
use Rattle.std.specs.Prelude.{nat_le, replicate, IsTrue}
use Rattle.std.specs.List.{All, list_all}
use Rattle.std.proofs.lemmas.List.{length-append, length-replicate}
use Rattle.std.proofs.lemmas.List.Elements.{All-weaker, All-replicate}
use Rattle.std.proofs.lemmas.Bool.Decides.{nat_tests}
use Rattle.sr_cell.specs.declared.change.Change.{Change}
use Rattle.sr_cell.specs.declared.table.Table.{Table}
use Rattle.sr_cell.specs.Columns.{are_values}
use Rattle.sr_cell.proofs.Lists.{list_all-push}
use Rattle.sr_log.specs.Held.{Held, KeepsNewest, IsPushed}
use Rattle.sr_log.proofs.Again.{push_keeps_newest}
use Rattle.sr_model.specs.Statements.{Tables}
use Rattle.sr_model.specs.Changes.{changes, newest_of, version_at}
use Rattle.sr_query.specs.Bound.{is_table}
use Rattle.sr_session.specs.Sessions.{Database, Session, all_changes, newest, tables_of, with_version}
use Rattle.sr_session.proofs.TableLemmas.{last-version}
use Rattle.sr_tables.specs.Stored.{Stored, are_stored}
use Rattle.sr_server.specs.declared.server.Server.{Server}
use Rattle.sr_server.specs.Servers.{are_few, IsCarriedOut, IsServer, IsSessionIf, IsSound, Logs, first_database}

-- ---- a version more

pub newest-more : (db : Database) (tables : Tables) → newest (with_version db tables) ≡ length db.versions
newest-more db tables = omega (arith, length-append db.versions (tables ∷ []))

tables-more : (db : Database) (tables : Tables) → tables_of (with_version db tables) (newest (with_version db tables)) ≡ tables
tables-more db tables = ap (λ v. version_at (db.versions ++ tables ∷ []) v) (newest-more db tables) ∙ last-version db.versions tables

later-newest : (db : Database) (tables : Tables) → newest db ≤ newest (with_version db tables)
later-newest db tables = let more = newest-more db tables in omega (arith, more)

changes-more : (schema : List Table) (versions : List Tables) (tables : Tables) → 0 < length versions
    → all_changes schema (versions ++ tables ∷ []) ≡ all_changes schema versions ++ changes schema (version_at versions (newest_of versions)) tables ∷ []
changes-more schema [] tables some = absurd (omega (arith, some))
changes-more schema (old ∷ []) tables some = refl
changes-more schema (old ∷ new ∷ versions) tables some =
    let last : length (old ∷ new ∷ versions) - 1 ≡ suc (length (new ∷ versions) - 1) = omega arith in
    ap (λ cs. changes schema old new ∷ cs)
    (changes-more schema (new ∷ versions) tables (omega arith)
    ∙ ap (λ v. all_changes schema (new ∷ versions) ++ changes schema (version_at (old ∷ new ∷ versions) v) tables ∷ []) (sym last))

-- ---- the log

pub logs-more : (db : Database) (tables : Tables) (old new : Held) (made : List Change) → 0 < length db.versions → Logs db old → made ≡ changes db.schema (tables_of db (newest db)) tables → IsPushed old made new
    → Logs (with_version db tables) new
logs-more db tables old new made some keeps are pushed =
    subst (λ all. KeepsNewest db.log_limit all new) (sym (changes-more db.schema db.versions tables some))
    (push_keeps_newest db.log_limit (all_changes db.schema db.versions) (changes db.schema (tables_of db (newest db)) tables) old new keeps (subst (λ cs. IsPushed old cs new) are pushed))

-- ---- sessions

pub session-stays : (db : Database) (tables : Tables) (session : Option Session) → IsSessionIf db session → IsSessionIf (with_version db tables) session
session-stays db tables None is = tt
session-stays db tables (Some session) is = let later = later-newest db tables in record { upto = (let here = is.upto in omega (arith, here, later)); points = is.points }

pub sessions-stay : (db : Database) (tables : Tables) (sessions : List (Option Session)) → All (IsSessionIf db) sessions → All (IsSessionIf (with_version db tables)) sessions
sessions-stay db tables sessions all = All-weaker (IsSessionIf db) (IsSessionIf (with_version db tables)) (session-stays db tables) sessions all

-- ---- what is sound

few-more : (db : Database) (tables : Tables) (made : List Change) → IsSound db → made ≡ changes db.schema (tables_of db (newest db)) tables → length made ≤ 10000
    → list_all are_few (all_changes db.schema (db.versions ++ tables ∷ [])) ≡ true
few-more db tables made sound are few =
    let last : are_few made ≡ true = by (length made) few in
    ap (list_all are_few) (changes-more db.schema db.versions tables sound.some)
    ∙ list_all-push are_few (all_changes db.schema db.versions) (changes db.schema (tables_of db (newest db)) tables) sound.few (ap are_few (sym are) ∙ last)
  where
    by : (n : ℕ) → n ≤ 10000 → nat_le n 10000 ≡ true
    by n few = grind (arith, nat_tests)

sound-more : (db : Database) (tables : Tables) (made : List Change) → IsSound db → are_stored db.schema tables ≡ true → list_all (list_all are_values) tables ≡ true
    → made ≡ changes db.schema (tables_of db (newest db)) tables → length made ≤ 10000 → IsSound (with_version db tables)
sound-more db tables made sound stored values are few = record {
  tables = sound.tables;
  some = (let more = length-append db.versions (tables ∷ []) in omega (arith, more));
  stored = list_all-push (are_stored db.schema) db.versions tables sound.stored stored;
  values = list_all-push (list_all (list_all are_values)) db.versions tables sound.values values;
  few = few-more db tables made sound are few;
}

-- ---- servers

-- the rows are such as tables of the schema may have
pub record HasSound (held : Stored) : Type 0 where
  pub tables : IsTrue (list_all is_table held.schema)
  pub stored : are_stored held.schema held.rows ≡ true
  pub values : list_all (list_all are_values) held.rows ≡ true

-- a statement is carried out on tables and a log, which are put in the place of the old ones
pub carried-by : (old new : Server) (tables : Stored) (log : Held) (made : List Change) → tables.schema ≡ old.tables.schema → made ≡ changes old.tables.schema old.tables.rows tables.rows → length made ≤ 10000
    → log ≡ record old.log { room = log.room } → IsPushed log made new.log → new ≡ record { tables = tables; log = new.log; sessions = old.sessions }
    → are_stored new.tables.schema new.tables.rows ≡ true → list_all (list_all are_values) new.tables.rows ≡ true → IsCarriedOut old new
carried-by old new tables log made schema are few roomy pushed is stored values =
    let there : new.tables ≡ tables = ap (λ (s : Server). s.tables) is in
    record {
      schema = ap (λ (t : Stored). t.schema) there ∙ schema;
      made = made;
      are = are ∙ ap (λ (t : Stored). changes old.tables.schema old.tables.rows t.rows) (sym there);
      few = few;
      pushed = subst (λ (h : Held). IsPushed h made new.log) roomy pushed;
      stored = stored;
      values = values;
      sessions = ap (λ (s : Server). s.sessions) is;
    }

pub stands-more : (old new : Server) (db : Database) → IsServer old db → IsCarriedOut old new → IsServer new (with_version db new.tables.rows)
stands-more old new db is did =
    let schema : new.tables.schema ≡ db.schema = did.schema ∙ is.knows.schema in
    let are : did.made ≡ changes db.schema (tables_of db (newest db)) new.tables.rows =
    did.are ∙ (ap (λ s. changes s old.tables.rows new.tables.rows) is.knows.schema ∙ ap (λ rows. changes db.schema rows new.tables.rows) is.knows.rows) in
    record {
      sound = sound-more db new.tables.rows did.made is.sound (subst (λ s. are_stored s new.tables.rows ≡ true) schema did.stored) did.values are did.few;
      knows = record {
        schema = schema;
        rows = sym (tables-more db new.tables.rows);
        log = logs-more db new.tables.rows old.log new.log did.made is.sound.some is.knows.log are did.pushed;
      };
      count = ap length did.sessions ∙ is.count;
      sessions = subst (All (IsSessionIf (with_version db new.tables.rows))) (sym did.sessions) (sessions-stay db new.tables.rows old.sessions is.sessions);
    }

-- the log may have more room
pub stands-still : (old new : Server) (db : Database) → IsServer old db → new.tables ≡ old.tables → new.log ≡ record old.log { room = new.log.room } → All (IsSessionIf db) new.sessions
    → length new.sessions ≡ 64 → IsServer new db
stands-still old new db is tables log sessions count = record {
  sound = is.sound;
  knows = record {
    schema = ap (λ (t : Stored). t.schema) tables ∙ is.knows.schema;
    rows = ap (λ (t : Stored). t.rows) tables ∙ is.knows.rows;
    log = subst (λ (held : Held). Logs db held) (sym log) is.knows.log;
  };
  count = count;
  sessions = sessions;
}

-- no client has a session yet
pub first-stands : (server : Server) → HasSound server.tables → server.log.floor ≡ 0 → server.log.kept ≡ [] → server.sessions ≡ replicate 64 None
    → IsServer server (first_database server.tables.schema server.log.limit server.tables.rows)
first-stands server sound floor kept sessions = record {
  sound = record { tables = sound.tables; some = omega arith; stored = rw sound.stored refl; values = rw sound.values refl; few = refl };
  knows = record { schema = refl; rows = refl; log = (refl, kept, floor) };
  count = ap length sessions ∙ length-replicate {A = Option Session} 64 None;
  sessions = subst (All (IsSessionIf (first_database server.tables.schema server.log.limit server.tables.rows))) (sym sessions)
      (All-replicate (IsSessionIf (first_database server.tables.schema server.log.limit server.tables.rows)) 64 None tt);
}
