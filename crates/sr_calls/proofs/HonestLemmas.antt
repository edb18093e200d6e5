-- A client over an honest link.
use Rattle.std.proofs.Common.{◌≡◌, ℕ, ◌<◌, Bool, true, List, length, [], ◌∷◌, ◌++◌, refl, sym, ap, subst, arith}
use Rattle.std.specs.List.{list_all}
use Rattle.sr_cell.specs.declared.table.Table.{Table}
use Rattle.sr_model.specs.Statements.{Tables}
use Rattle.sr_policy.specs.declared.policy.Limits.{Limits}
use Rattle.sr_query.specs.Bound.{is_table}
use Rattle.sr_store.specs.Brought.{nothing_told}
use Rattle.sr_store.specs.Told.{told_of}
use Rattle.sr_session.specs.Bases.{basis_of}
use Rattle.sr_session.specs.Clients as session
use Rattle.sr_session.specs.Headline.{KeepsToBudgets}
use Rattle.sr_session.specs.Laws.{IsSound, OutAsksKeys}
use Rattle.sr_session.specs.Sessions.{Database, newest, tables_of}
use Rattle.sr_session.proofs.BudgetLemmas.{is-count, nothing-held}
use Rattle.sr_client.proofs.ByToldLemmas.{nothing-is-told, told-none}
use Rattle.sr_client.proofs.LayLemmas.{out-keys}
use Rattle.sr_client.proofs.TableLemmas.{are-told}
use Rattle.sr_links.specs.Answers.{AsksKeys}
use Rattle.sr_links.specs.Honest.{Input, Rests, Server, server_at_last}
use Rattle.sr_links.proofs.DatabaseLemmas.{last-more, sound-before}
use Rattle.sr_server.specs.Servers.{Gives}
use Rattle.sr_talk.specs.Rounds.{at_rest}
use Rattle.sr_dial_laws.specs.Honest.{IsTrue}
use Rattle.sr_dial_laws.specs.Served.{HaveInputs}
use Rattle.sr_dial_laws.proofs.ServedLemmas.{served-calls-are-explained}
use Rattle.sr_dial_laws.proofs.HonestLemmas.{are-asked}
use Rattle.sr_dial_laws.proofs.LimitLemmas.{scripts-few}
use Rattle.sr_dial_laws.proofs.TrueLemmas.{honest-runs-are-true}
use Rattle.sr_dial_laws.proofs.TrueLemmas as dial
use Rattle.sr_calls.specs.ClientEnds.{End, HasTold, IsEnd, setting_of}
use Rattle.sr_calls.specs.Honest.{BrokenRunsGoByTold, HonestRunsAreShort, HonestRunsAreTrue, NewHonestRunsAreShort, NewHonestRunsAreTrue, RunsFromAnyClientGoByTold, RunsGoByTold, ScriptsAreAskedFor, ScriptsAskFew, ServedRunsAreTrue}
use Rattle.sr_calls.specs.Runs.{new_end, new_past}
use Rattle.sr_calls.proofs.RunLemmas.{new_stands}

-- an ask that is out asks the key of each of its parts
asks-keys : AsksKeys IsEnd
asks-keys schema e past tables (same, is) =
    subst (λ own. OutAsksKeys own past.out) (sym same) (subst (OutAsksKeys e.client.schema) (sym (ap (λ (p : session.Client). p.out) is.same)) (out-keys e.client is.hidden is.facts))

-- what has the rows of a server's version has rows that were told
has-rows : (db : Database) (end : End) (past : session.Client) (own : List Table) → db.schema ≡ own → IsSound db → Rests IsEnd db end past → HasTold own end past (told_of (tables_of db past.version))
has-rows db end past own same sound rests =
    let is = rests.is.1 in
    subst (λ schema. HasTold schema end past (told_of (tables_of db past.version))) same
    ((is.hidden, is.facts, is.same), (are-told db.schema (tables_of db past.version) (sound.tables past.version rests.version), is.are_true))

-- a new client has nothing that was told
has-nothing : (id : ℕ) (schema : List Table) (limits : Limits) (keeps says : Bool) → list_all is_table schema ≡ true → HasTold schema (new_end id schema limits keeps says) new_past nothing_told
has-nothing id schema limits keeps says tables = (new_stands id schema limits keeps says tables, told-none schema nothing_told (nothing-is-told schema))

pub runs-from-any-client-go-by-told : RunsFromAnyClientGoByTold
runs-from-any-client-go-by-told end left past address plan ended old new before after told has run =
    dial.runs-go-by-told IsEnd HasTold (setting_of end) end past address plan ended old new before after told has run.run

pub runs-go-by-told : RunsGoByTold
runs-go-by-told id address schema limits keeps says plan ended old new before after run =
    runs-from-any-client-go-by-told (new_end id schema limits keeps says) run.left new_past address plan ended old new before after nothing_told
    (has-nothing id schema limits keeps says (run.begins []).1.facts.tables) run.ran

pub broken-runs-go-by-told : BrokenRunsGoByTold
broken-runs-go-by-told end past address plan old new before after told has run =
    dial.broken-runs-go-by-told IsEnd HasTold (setting_of end) end past address plan old new before after told has run

pub runs-from-any-client-are-true : HonestRunsAreTrue
runs-from-any-client-are-true s pieces end left past address plan ended old new before after tables rests keeps asked run h =
    let sound = sound-before s.database (server_at_last s pieces).database h.some (last-more s pieces h.some).grows h.sound in
    honest-runs-are-true IsEnd HasTold (setting_of end) s pieces end past address plan ended old new before after (told_of (tables_of s.database past.version))
    asks-keys tables rests keeps (has-rows s.database end past end.client.schema h.schema_is sound rests) asked run.run h

-- at first nothing is out
module _ (id : ℕ) (schema : List Table) (limits : Limits) (keeps says : Bool) (s : Server) (pieces : List (List Input)) (begins : (tables : Tables) → IsEnd schema (new_end id schema limits keeps says) new_past tables) (same : s.database.schema ≡ schema) where
  new-rests : Rests IsEnd s.database (new_end id schema limits keeps says) new_past
  new-rests = record {
    cut = refl;
    out = refl;
    laid = refl;
    version = omega arith;
    is = subst (λ own. IsEnd own (new_end id schema limits keeps says) new_past (tables_of s.database 0)) (sym same) (begins (tables_of s.database 0));
  }

  -- nothing is held
  new-budgets : 0 < length s.database.versions → IsSound (server_at_last s pieces).database → KeepsToBudgets (basis_of s.database limits) new_past
  new-budgets some last =
      let sound = sound-before s.database (server_at_last s pieces).database some (last-more s pieces some).grows last in
      nothing-held (basis_of s.database limits) (newest s.database) (is-count (record { database = s.database; limits = limits; pairs = [] }) sound.tables) new_past (omega arith) (λ t a p point. refl)

pub new-honest-runs-are-true : NewHonestRunsAreTrue
new-honest-runs-are-true id address schema limits keeps says s pieces plan ended old new before after asked run h =
    runs-from-any-client-are-true s pieces (new_end id schema limits keeps says) run.left new_past address plan ended old new before after (run.begins []).1.facts.tables
    (new-rests id schema limits keeps says s pieces run.begins h.schema_is) (new-budgets id schema limits keeps says s pieces run.begins h.schema_is h.some h.sound) asked run.ran h

pub runs-from-any-client-are-short : HonestRunsAreShort
runs-from-any-client-are-short s pieces end left past address plan ended old new before after tables rests asked few run h limit rows =
    let sound = sound-before s.database (server_at_last s pieces).database h.some (last-more s pieces h.some).grows h.sound in
    dial.honest-runs-are-short IsEnd HasTold (setting_of end) s pieces end past address plan ended old new before after (told_of (tables_of s.database past.version))
    asks-keys tables rests (has-rows s.database end past end.client.schema h.schema_is sound rests) asked run.run h limit rows few

pub new-honest-runs-are-short : NewHonestRunsAreShort
new-honest-runs-are-short id address schema limits keeps says s pieces plan ended old new before after asked few run h limit rows =
    runs-from-any-client-are-short s pieces (new_end id schema limits keeps says) run.left new_past address plan ended old new before after (run.begins []).1.facts.tables
    (new-rests id schema limits keeps says s pieces run.begins h.schema_is) asked few run.ran h limit rows

pub served-runs-are-true : ServedRunsAreTrue
served-runs-are-true id address schema limits keeps says db last talks plan ended old new before after asked run same some sound served =
    let calls = run.ran.run.ran.earlier ++ run.ran.run.ran.last ∷ [] in
    let i : HaveInputs End Gives db calls last = served-calls-are-explained End Gives db last calls talks served in
    subst (λ (s : Server). IsTrue s.database limits new_past (run.ran.run.ran.earlier ++ run.ran.run.ran.last ∷ []) ended) i.after
    (new-honest-runs-are-true id address schema limits keeps says (at_rest db) i.pieces plan ended old new before after asked run
    (record { schema_is = same; some = some; sound = subst (λ (s : Server). IsSound s.database) (sym i.after) sound; explained = i.explained }))

pub scripts-are-asked-for : ScriptsAreAskedFor
scripts-are-asked-for schema lines script are = (tt, λ answer. are-asked schema lines script are)

pub scripts-ask-few : ScriptsAskFew
scripts-ask-few schema lines script are = (tt, λ answer. scripts-few schema lines script are)
