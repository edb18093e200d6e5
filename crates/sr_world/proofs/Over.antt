-- A client stands over a database with a version more.
use Rattle.std.proofs.Common.{◌≡◌, ◌<◌, [], ◌∷◌, length, refl, sym, subst, arith, Option, Some, None, Ok, Err}
use Rattle.std.specs.Prelude.{Result}
use Rattle.std.proofs.lemmas.List.{length-append}
use Rattle.sr_cell.specs.declared.fault.Fault.{Fault}
use Rattle.sr_message.specs.declared.message.Message.{Message}
use Rattle.sr_message.specs.declared.message.Message.TheVariants.{Hello, Resume, Ask, Write, Welcome, Notice, Rows, Reply, Written, Refused, Lapse}
use Rattle.sr_model.specs.Statements.{Tables}
use Rattle.sr_session.specs.Sessions.{Database, Session, with_version}
use Rattle.sr_session.specs.Clients as session
use Rattle.sr_session.specs.Laws.{IsSound}
use Rattle.sr_session.specs.Scenes.{taken}
use Rattle.sr_session.proofs.ExecLemmas.{version-stays}
use Rattle.sr_client.specs.declared.client.Client.{Client}
use Rattle.sr_client.specs.Stands.{IsClient, StandsOver}

-- a database from which clients that stood over the other stand over it
pub record Grows (db next : Database) : Type 0 where
  pub schema : next.schema ≡ db.schema
  pub clients : (past : session.Client) (c : Client) → StandsOver db past c → StandsOver next past c

pub grows-none : (db : Database) → Grows db db
grows-none db = record { schema = refl; clients = λ past c stands. stands }

pub grows-more : (db : Database) (tables : Tables) → IsSound (with_version db tables) → Grows db (with_version db tables)
grows-more db tables sound = record { schema = refl; clients = still }
  where
    still : (past : session.Client) (c : Client) → StandsOver db past c → StandsOver (with_version db tables) past c
    still past c stands =
        let within = stands.within in
        let some = stands.sound.some in
        let below : past.version < length db.versions = omega (arith, within, some) in
        record {
          sound = sound;
          schema = stands.schema;
          within = omega (arith, within, some, length-append db.versions (tables ∷ []));
          client = subst (IsClient c past) (sym (version-stays db.versions tables past.version below)) stands.client;
        }

-- a message that the server takes makes a version more, or none
pub grows-taken : (db : Database) (session : Option Session) (m : Message) (result : Result Tables Fault) → IsSound (taken db session m result).database → Grows db (taken db session m result).database
grows-taken db None m result sound = grows-none db
grows-taken db (Some session) (Write number sql) (Ok tables) sound = grows-more db tables sound
grows-taken db (Some session) (Write number sql) (Err fault) sound = grows-none db
grows-taken db (Some session) (Hello wire client number) result sound = grows-none db
grows-taken db (Some session) (Resume wire client number version holdings) result sound = grows-none db
grows-taken db (Some session) (Ask number fresh parts) result sound = grows-none db
grows-taken db (Some session) (Welcome number version kept) result sound = grows-none db
grows-taken db (Some session) (Notice version told) result sound = grows-none db
grows-taken db (Some session) (Rows number part rows) result sound = grows-none db
grows-taken db (Some session) (Reply number version) result sound = grows-none db
grows-taken db (Some session) (Written number version) result sound = grows-none db
grows-taken db (Some session) (Refused number fault) result sound = grows-none db
grows-taken db (Some session) (Lapse version) result sound = grows-none db
