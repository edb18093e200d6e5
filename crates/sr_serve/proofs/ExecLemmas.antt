-- Statements that were carried out so far, with their lines.
use Rattle.std.proofs.Common.{◌≡◌, ℕ, ◌+◌, ◌≤◌, List, [], ◌∷◌, ◌++◌, length, drop, arith, append_assoc, append-nil, refl, sym, ◌∙◌, ap, subst, Option, Result}
use Rattle.std.specs.Io.KnownBytes.{Appends}
use Rattle.std.specs.List.{All}
use Rattle.std.proofs.lemmas.Grind.{flat_map-append}
use Rattle.std.proofs.lemmas.List.{length-append, take-append-le}
use Rattle.sr_cell.specs.declared.fault.Fault.{Fault}
use Rattle.sr_cell.specs.declared.table.Table.{Table}
use Rattle.sr_grammar_laws.proofs.OneSaying.{each_says_something}
use Rattle.sr_io.specs.Pieces.{WritesPrefix}
use Rattle.sr_io.specs.Told.{Reading, Writing, Linking}
use Rattle.sr_io.proofs.SoFar.{Appends-append}
use Rattle.sr_log.specs.Held.{newest as newest_of}
use Rattle.sr_model.specs.Statements.{Tables}
use Rattle.sr_query.specs.Binding.{◌>>=◌}
use Rattle.sr_session.specs.Sessions.{Database, newest, tables_of}
use Rattle.sr_server.specs.Servers.{Executes, Gives, IsServer, IsSessionIf}
use Rattle.sr_server.specs.declared.server.Server.{Server}
use Rattle.sr_server.proofs.Standing.{stands-still}
use Rattle.sr_tables.specs.Stored.{done_by}
use Rattle.sr_talk.specs.Rounds.{OnlyOutput, text_of}
use Rattle.sr_talk.specs.Serving.{AreExecuted, exec_line, grown}
use Rattle.sr_talk.proofs.SomeLemmas.{all-written, appends-nothing, prefix-behind}
use Rattle.sr_serve.specs.Execs.{Executed, ExecutesInPart, AllExecuted, PartExecuted}

-- ---- one statement

pub executes-there : (old : Server) (db : Database) (text : List ℕ) (result : Result Tables Fault) → IsServer old db → Executes old.tables.schema text old.tables.rows result
    → Executes db.schema text (tables_of db (newest db)) result
executes-there old db text result is executes =
    subst (λ (s : List Table). Executes s text (tables_of db (newest db)) result) is.knows.schema
    (subst (λ (rows : Tables). Executes old.tables.schema text rows result) is.knows.rows executes)

-- the log may have more room
pub roomy-stands : (old new : Server) (db : Database) → IsServer old db → new ≡ record old { log = record old.log { room = new.log.room } } → IsServer new db
roomy-stands old new db is roomy =
    stands-still old new db is (ap (λ (s : Server). s.tables) roomy) (ap (λ (s : Server). s.log) roomy)
    (subst (All (IsSessionIf db)) (sym (ap (λ (s : Server). s.sessions) roomy)) is.sessions) (ap (λ (s : Server). length s.sessions) roomy ∙ is.count)

-- ---- any texts

-- whatever the texts are, they are carried out or refused in some way
pub record AnyWay (db : Database) (texts : List (List ℕ)) : Type 0 where
  pub lines : List (List ℕ)
  pub last : Database
  pub executed : AreExecuted Gives db texts lines last

pub some-way : (db : Database) (texts : List (List ℕ)) → AnyWay db texts
some-way db [] = record { lines = []; last = db; executed = (refl, refl) }
some-way db (text ∷ texts) =
    let says = each_says_something text in
    let result : Result Tables Fault = says.0 >>= λ s. done_by db.schema s (tables_of db (newest db)) in
    let more = some-way (grown db result) texts in
    record { lines = exec_line db result ∷ more.lines; last = more.last; executed = (result, more.lines, (says.0, says.1, refl), refl, more.executed) }

-- ---- so far

-- The first texts have these lines, and the versions go on from here.
pub record ExecutedSome (db : Database) (texts left : List (List ℕ)) (before after : Writing) (server : Server) : Type 0 where
  pub lines : List (List ℕ)
  pub now : Database
  pub goes_on : (more : List (List ℕ)) (last : Database) → AreExecuted Gives now left more last → AreExecuted Gives db texts (lines ++ more) last
  pub written : Appends before.written after.written (text_of lines)
  pub faults_stay : after.faults ≡ before.faults
  pub stands : IsServer server now

pub record SoFar (K : Type 0) (reading : K → Reading) (writing : K → Writing) (linking : K → Linking) (held : K → List ℕ → Option (List ℕ)) (complaints : K → Option (List ℕ)) (IsSteady : K → Type 0) (texts : List (List ℕ)) (first now : K) (server_first server : Server) (at : ℕ) : Type 0 where
  pub so_far : (db : Database) → IsServer server_first db → ExecutedSome db texts (drop at texts) (writing first) (writing now) server
  pub sessions : server.sessions ≡ server_first.sessions
  pub grows : newest_of server.log ≤ newest_of server_first.log + at
  pub stays : OnlyOutput K reading held complaints IsSteady first now
  pub linking_stays : linking now ≡ linking first

pub none-executed : (db : Database) (texts : List (List ℕ)) (w : Writing) (server : Server) → IsServer server db → ExecutedSome db texts texts w w server
none-executed db texts w server is = record {
  lines = [];
  now = db;
  goes_on = λ more last are. are;
  written = appends-nothing w.written;
  faults_stay = refl;
  stands = is;
}

texts-one : (lines : List (List ℕ)) (line : List ℕ) → text_of (lines ++ line ∷ []) ≡ text_of lines ++ line
texts-one lines line = flat_map-append (λ line. line) lines (line ∷ []) ∙ ap (λ x. text_of lines ++ x) (append-nil line)

pub prefix-of-more : (old now : Option (List ℕ)) (some more : List ℕ) → WritesPrefix old now some → WritesPrefix old now (some ++ more)
prefix-of-more old now some more w =
    let within = w.within in
    record { count = w.count; within = omega (arith, within, length-append some more); appended = subst (Appends old now) (sym (take-append-le w.count some more w.within)) w.appended }

-- out of memory before the next one has a line
pub lines-so-far : (db : Database) (texts left : List (List ℕ)) (before mid : Writing) (server : Server) → ExecutedSome db texts left before mid server → ExecutesInPart db texts before mid
lines-so-far db texts left before mid server h =
    let more = some-way h.now left in (
      record {
        lines = h.lines ++ more.lines;
        last = more.last;
        executed = h.goes_on more.lines more.last more.executed;
        written = subst (WritesPrefix before.written mid.written) (sym (flat_map-append (λ line. line) h.lines more.lines))
            (prefix-of-more before.written mid.written (text_of h.lines) (text_of more.lines) (all-written before.written mid.written (text_of h.lines) h.written));
      },
      h.faults_stay,
    )

module _ (db : Database) (texts left : List (List ℕ)) (text : List ℕ) (before mid after : Writing) (server new : Server) (line : List ℕ) where
  -- one more goes on behind those before
  behind : (h : ExecutedSome db texts (text ∷ left) before mid server) (e : Executed h.now text line new) (more : List (List ℕ)) (last : Database) → AreExecuted Gives (grown h.now e.result) left more last
      → AreExecuted Gives db texts ((h.lines ++ line ∷ []) ++ more) last
  behind h e more last are =
      subst (λ lines. AreExecuted Gives db texts lines last) (sym (append_assoc h.lines (line ∷ []) more))
      (h.goes_on (line ∷ more) last (e.result, more, e.executes, ap (λ l. l ∷ more) e.line_is, are))

  pub one-executed : ExecutedSome db texts (text ∷ left) before mid server → ((now : Database) → IsServer server now → Executed now text line new)
      → Appends mid.written after.written line → after.faults ≡ mid.faults → ExecutedSome db texts left before after new
  one-executed h one line_written same =
      let e = one h.now h.stands in
      record {
        lines = h.lines ++ line ∷ [];
        now = grown h.now e.result;
        goes_on = behind h e;
        written = subst (Appends before.written after.written) (sym (texts-one h.lines line)) (Appends-append before.written mid.written after.written _ _ h.written line_written);
        faults_stay = same ∙ h.faults_stay;
        stands = e.stands;
      }

  -- its line is not written
  pub part-executed : ExecutedSome db texts (text ∷ left) before mid server → ((now : Database) → IsServer server now → Executed now text line new)
      → WritesPrefix mid.written after.written line → PartExecuted db texts before after
  part-executed h one line_written =
      let e = one h.now h.stands in
      let more = some-way (grown h.now e.result) left in
      record {
        lines = (h.lines ++ line ∷ []) ++ more.lines;
        last = more.last;
        executed = behind h e more.lines more.last more.executed;
        written = subst (WritesPrefix before.written after.written) (sym (flat_map-append (λ line. line) (h.lines ++ line ∷ []) more.lines ∙ ap (λ x. x ++ text_of more.lines) (texts-one h.lines line)))
            (prefix-of-more before.written after.written (text_of h.lines ++ line) (text_of more.lines) (prefix-behind before.written mid.written after.written (text_of h.lines) line h.written line_written));
      }

pub all-executed : (db : Database) (texts : List (List ℕ)) (before after : Writing) (server : Server) → ExecutedSome db texts [] before after server → AllExecuted db texts before after server
all-executed db texts before after server h = record {
  lines = h.lines;
  last = h.now;
  executed = subst (λ lines. AreExecuted Gives db texts lines h.now) (append-nil h.lines) (h.goes_on [] h.now (refl, refl));
  written = h.written;
  faults_stay = h.faults_stay;
  stands = h.stands;
}
