-- What a server makes of a text is what the scene's event has of it.
use Rattle.std.proofs.Common.{◌≡◌, ℕ, false, List, ◌∷◌, refl, sym, ◌∙◌, subst, inl, inr, Option, Some, None, Result, Ok, Err}
use Rattle.sr_cell.specs.declared.fault.Fault.{Fault}
use Rattle.sr_grammar.specs.Says.{Says}
use Rattle.sr_grammar.specs.Trees.{Statement}
use Rattle.sr_message.specs.declared.message.Message.{Message}
use Rattle.sr_message.specs.declared.message.Message.TheVariants.{Hello, Resume, Ask, Write, Welcome, Notice, Rows, Reply, Written, Refused, Lapse}
use Rattle.sr_model.specs.Statements.{Tables, executed}
use Rattle.sr_model.specs.Statements.{Write as TheWrite}
use Rattle.sr_lines.specs.Script.{Writes}
use Rattle.sr_query.specs.Binding.{◌>>=◌}
use Rattle.sr_query.specs.Writes.{bound_write}
use Rattle.sr_session.specs.Sessions.{Database, Session, newest, serve, tables_of}
use Rattle.sr_session.specs.Scenes.{taken}
use Rattle.sr_tables.specs.Stored.{done_by}
use Rattle.sr_server.specs.Servers as servers
use Rattle.sr_server.specs.Servers.{Executes}
use Rattle.sr_runs.specs.Scripts.{Gives, begins_with_write, gives, gives_nothing, result_of}

-- ---- texts

-- what a text makes of the newest tables is what some statement that it writes gives
record Said (db : Database) (sql : List ℕ) (result : Result Tables Fault) : Type 0 where
  statement : Result TheWrite Fault
  writes : Writes db.schema sql statement
  same : result ≡ result_of db statement

bound-said : (db : Database) (sql : List ℕ) (s : Statement) (bound : Result TheWrite Fault) → Says sql (Ok s) → bound_write db.schema s ≡ bound
    → Said db sql (bound >>= λ write. executed db.schema write (tables_of db (newest db)))
bound-said db sql s (Ok write) says is = record { statement = Ok write; writes = (s, says, is); same = refl }
bound-said db sql s (Err fault) says is = record { statement = Err fault; writes = inr (s, says, is); same = refl }

said-of : (db : Database) (sql : List ℕ) (said : Result Statement Fault) → Says sql said → Said db sql (said >>= λ s. done_by db.schema s (tables_of db (newest db)))
said-of db sql (Ok s) says = bound-said db sql s (bound_write db.schema s) says refl
said-of db sql (Err fault) says = record { statement = Err fault; writes = inl says; same = refl }

executes-said : (db : Database) (sql : List ℕ) (result : Result Tables Fault) → Executes db.schema sql (tables_of db (newest db)) result → Said db sql result
executes-said db sql result e = subst (Said db sql) (sym e.2) (said-of db sql e.0 e.1)

-- ---- messages

-- a result that the oldest message gives, and that makes the same of it
pub record IsGiven (db : Database) (session : Option Session) (m : Message) (queue : List Message) (result : Result Tables Fault) : Type 0 where
  pub given : Result Tables Fault
  pub gives : Gives db (m ∷ queue) given
  pub same : taken db session m given ≡ taken db session m result

write-given : (db : Database) (session : Option Session) (number : ℕ) (sql : List ℕ) (queue : List Message) (result : Result Tables Fault) → Executes db.schema sql (tables_of db (newest db)) result
    → IsGiven db session (Write number sql) queue result
write-given db session number sql queue result e =
    let said = executes-said db sql result e in
    record { given = result; gives = subst (Gives db (Write number sql ∷ queue)) (sym said.same) (gives number sql queue said.statement said.writes); same = refl }

-- what is no write is taken in one way alone
other-given : (db : Database) (session : Option Session) (m : Message) (queue : List Message) (result : Result Tables Fault) → begins_with_write (m ∷ queue) ≡ false
    → ((r : Result Tables Fault) → taken db session m r ≡ record { database = db; served = serve db session m }) → IsGiven db session m queue result
other-given db session m queue result other same =
    record { given = Ok (tables_of db (newest db)); gives = gives_nothing (m ∷ queue) other; same = same (Ok (tables_of db (newest db))) ∙ sym (same result) }

pub is-given : (db : Database) (session : Option Session) (m : Message) (queue : List Message) (result : Result Tables Fault) → servers.Gives db m result → IsGiven db session m queue result
is-given db session (Write number sql) queue result e = write-given db session number sql queue result e
is-given db None (Hello w n number) queue result e = other-given db None (Hello w n number) queue result refl (λ r. refl)
is-given db (Some s) (Hello w n number) queue result e = other-given db (Some s) (Hello w n number) queue result refl (λ r. refl)
is-given db None (Resume w n number version holdings) queue result e = other-given db None (Resume w n number version holdings) queue result refl (λ r. refl)
is-given db (Some s) (Resume w n number version holdings) queue result e = other-given db (Some s) (Resume w n number version holdings) queue result refl (λ r. refl)
is-given db None (Ask number fresh parts) queue result e = other-given db None (Ask number fresh parts) queue result refl (λ r. refl)
is-given db (Some s) (Ask number fresh parts) queue result e = other-given db (Some s) (Ask number fresh parts) queue result refl (λ r. refl)
is-given db None (Welcome number version kept) queue result e = other-given db None (Welcome number version kept) queue result refl (λ r. refl)
is-given db (Some s) (Welcome number version kept) queue result e = other-given db (Some s) (Welcome number version kept) queue result refl (λ r. refl)
is-given db None (Notice version told) queue result e = other-given db None (Notice version told) queue result refl (λ r. refl)
is-given db (Some s) (Notice version told) queue result e = other-given db (Some s) (Notice version told) queue result refl (λ r. refl)
is-given db None (Rows number part rows) queue result e = other-given db None (Rows number part rows) queue result refl (λ r. refl)
is-given db (Some s) (Rows number part rows) queue result e = other-given db (Some s) (Rows number part rows) queue result refl (λ r. refl)
is-given db None (Reply number version) queue result e = other-given db None (Reply number version) queue result refl (λ r. refl)
is-given db (Some s) (Reply number version) queue result e = other-given db (Some s) (Reply number version) queue result refl (λ r. refl)
is-given db None (Written number version) queue result e = other-given db None (Written number version) queue result refl (λ r. refl)
is-given db (Some s) (Written number version) queue result e = other-given db (Some s) (Written number version) queue result refl (λ r. refl)
is-given db None (Refused number fault) queue result e = other-given db None (Refused number fault) queue result refl (λ r. refl)
is-given db (Some s) (Refused number fault) queue result e = other-given db (Some s) (Refused number fault) queue result refl (λ r. refl)
is-given db None (Lapse version) queue result e = other-given db None (Lapse version) queue result refl (λ r. refl)
is-given db (Some s) (Lapse version) queue result e = other-given db (Some s) (Lapse version) queue result refl (λ r. refl)
