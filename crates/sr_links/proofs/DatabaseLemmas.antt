-- Versions only come.
use Rattle.std.proofs.Common.{◌≡◌, ℕ, ◌<◌, ◌≤◌, List, [], ◌∷◌, length, refl, ◌∙◌, subst, arith, Option, Some, None, length-append, true}
use Rattle.std.specs.Prelude.{Result, Ok, Err}
use Rattle.std.specs.List.{list_all}
use Rattle.sr_cell.specs.declared.fault.Fault.{Fault}
use Rattle.sr_cell.specs.Columns.{table_at, fits_columns}
use Rattle.sr_message.specs.declared.message.Message.{Message}
use Rattle.sr_message.specs.declared.message.Message.TheVariants.{Hello, Resume, Ask, Write, Welcome, Notice, Rows, Reply, Written, Refused, Lapse}
use Rattle.sr_model.specs.Queries.{rows_at}
use Rattle.sr_model.specs.Statements.{Tables}
use Rattle.sr_region.specs.Applied.{AreTables}
use Rattle.sr_session.specs.Laws.{IsSound}
use Rattle.sr_session.specs.Scenes.{taken}
use Rattle.sr_session.specs.Sessions.{Database, Session, newest, tables_of, with_version}
use Rattle.sr_session.proofs.ExecLemmas.{version-stays, newest-more}
use Rattle.sr_links.specs.Honest.{Server, Input, Version, Frame, CutOff, answer, server_after, server_at_last}

-- the second has the versions of the first, and maybe more
pub record Grows (few many : Database) : Type 0 where
  pub schema : many.schema ≡ few.schema
  pub more : newest few ≤ newest many
  pub same : (v : ℕ) → v ≤ newest few → tables_of many v ≡ tables_of few v

-- and one at least
pub record More (few many : Database) : Type 0 where
  pub grows : Grows few many
  pub some : 0 < length many.versions

pub grows-still : (db : Database) → Grows db db
grows-still db = record { schema = refl; more = omega arith; same = λ v le. refl }

pub grows-on : (a b c : Database) → Grows a b → Grows b c → Grows a c
grows-on a b c one two =
    let x = one.more in
    let y = two.more in
    record { schema = two.schema ∙ one.schema; more = omega (arith, x, y); same = λ v le. two.same v (omega (arith, le, x)) ∙ one.same v le }

more-on : (a b c : Database) → More a b → More b c → More a c
more-on a b c one two = record { grows = grows-on a b c one.grows two.grows; some = two.some }

still : (db : Database) → 0 < length db.versions → More db db
still db some = record { grows = grows-still db; some = some }

pub version-more : (db : Database) (tables : Tables) → 0 < length db.versions → More db (with_version db tables)
version-more db tables some =
    let up = newest-more db tables some in
    record {
      grows = record { schema = refl; more = omega (arith, up); same = λ v le. version-stays db.versions tables v (omega (arith, le, some)) };
      some = omega (arith, length-append db.versions (tables ∷ []));
    }

frame-more : (db : Database) (session : Option Session) (m : Message) (result : Result Tables Fault) → 0 < length db.versions → More db (taken db session m result).database
frame-more db None m result some = still db some
frame-more db (Some session) (Write k sql) (Ok tables) some = version-more db tables some
frame-more db (Some session) (Write k sql) (Err fault) some = still db some
frame-more db (Some session) (Hello wire client k) result some = still db some
frame-more db (Some session) (Resume wire client k version holdings) result some = still db some
frame-more db (Some session) (Ask k fresh parts) result some = still db some
frame-more db (Some session) (Welcome k version kept) result some = still db some
frame-more db (Some session) (Notice version told) result some = still db some
frame-more db (Some session) (Rows k part rows) result some = still db some
frame-more db (Some session) (Reply k version) result some = still db some
frame-more db (Some session) (Written k version) result some = still db some
frame-more db (Some session) (Refused k fault) result some = still db some
frame-more db (Some session) (Lapse version) result some = still db some

pub answer-more : (s : Server) (input : Input) → 0 < length s.database.versions → More s.database (answer s input).server.database
answer-more s (Version tables) some = version-more s.database tables some
answer-more s (Frame m result) some = frame-more s.database s.session m result some
answer-more s CutOff some = still s.database some

pub after-more : (s : Server) (inputs : List Input) → 0 < length s.database.versions → More s.database (server_after s inputs).database
after-more s [] some = still s.database some
after-more s (input ∷ inputs) some =
    let one = answer-more s input some in
    more-on s.database (answer s input).server.database (server_after (answer s input).server inputs).database one (after-more (answer s input).server inputs one.some)

pub last-more : (s : Server) (pieces : List (List Input)) → 0 < length s.database.versions → More s.database (server_at_last s pieces).database
last-more s [] some = still s.database some
last-more s (piece ∷ pieces) some =
    let one = after-more s piece some in
    more-on s.database (server_after s piece).database (server_at_last (server_after s piece) pieces).database one (last-more (server_after s piece) pieces one.some)

pub sound-before : (db all : Database) → 0 < length db.versions → Grows db all → IsSound all → IsSound db
sound-before db all some grows sound =
    let more = grows.more in
    record {
      some = some;
      tables = λ v le. subst (λ schema. AreTables schema (tables_of db v)) grows.schema (subst (AreTables all.schema) (grows.same v le) (sound.tables v (omega (arith, le, more))));
      fits = λ v le t. subst (λ schema. list_all (fits_columns (table_at schema t).columns) (rows_at (tables_of db v) t) ≡ true) grows.schema
          (subst (λ tables. list_all (fits_columns (table_at all.schema t).columns) (rows_at tables t) ≡ true) (grows.same v le) (sound.fits v (omega (arith, le, more)) t));
    }
