-- A client that starts from parts that are true of the server's tables, over an honest link.
use Rattle.std.proofs.Common.{◌≡◌, ◌≤◌, List, [], ◌∷◌, ◌++◌, map, None, refl, sym, ◌∙◌, ap, subst}
use Rattle.std.proofs.lemmas.List.{length-map}
use Rattle.sr_cell.specs.declared.table.Table.{Table}
use Rattle.sr_history.specs.Classes.{AreClasses, stamp}
use Rattle.sr_history.specs.Kept.{kept}
use Rattle.sr_model.specs.Statements.{Tables}
use Rattle.sr_policy.specs.declared.policy.Limits.{Limits}
use Rattle.sr_region.specs.Applied.{AreTables}
use Rattle.sr_store.specs.Past.{class_of}
use Rattle.sr_store.specs.Told.{told_of}
use Rattle.sr_store.specs.declared.store.Store.{Store}
use Rattle.sr_store.proofs.Classing.{all_solid, are_classes}
use Rattle.sr_store.proofs.KeptRows.{kept_rows}
use Rattle.sr_store.proofs.Starting.{starts_are_true}
use Rattle.sr_session.specs.Bases.{basis_of}
use Rattle.sr_session.specs.Clients as session
use Rattle.sr_session.specs.Headline.{KeepsToBudgets}
use Rattle.sr_session.specs.Laws.{IsSound}
use Rattle.sr_session.specs.Sessions.{Database, tables_of}
use Rattle.sr_client.specs.Stands.{IsClient}
use Rattle.sr_client.specs.Starting.{start_past}
use Rattle.sr_client.specs.declared.client.Client.{Client}
use Rattle.sr_client.proofs.TableLemmas.{have-first}
use Rattle.sr_links.specs.Honest.{Rests, server_at_last}
use Rattle.sr_links.proofs.DatabaseLemmas.{last-more, sound-before}
use Rattle.sr_dial.specs.Calls.{Call}
use Rattle.sr_dial_laws.specs.Honest.{IsHonest, IsTrue}
use Rattle.sr_calls.specs.ClientEnds.{End, IsEnd, end_with}
use Rattle.sr_calls.specs.Started.{StartedRunsAreTrue}
use Rattle.sr_calls.proofs.HonestLemmas.{runs-from-any-client-are-true}

-- a client with the rows of its version on a database keeps to its budgets there
keeps-over : (db : Database) (c : Client) (past : session.Client) → db.schema ≡ c.schema → AreTables db.schema (tables_of db past.version) → IsClient c past (tables_of db past.version)
    → KeepsToBudgets (basis_of db c.store.limits) past
keeps-over db c past same tables is =
    let h = is.hidden in
    let f = is.facts in
    let first = have-first c.schema f.tables in
    let marks = ap (λ (p : session.Client). p.marks) is.same in
    let queries = ap (λ (p : session.Client). p.queries) is.same in
    record {
      rows = subst (λ n. n ≤ c.store.limits.rows)
          (sym (ap (kept (tables_of db past.version)) marks ∙ kept_rows c.schema (tables_of db past.version) h.marks (stamp h.queries) c.store.regions
          (subst (λ schema. AreTables schema (tables_of db past.version)) same tables) f.store.each (all_solid c.schema c.store.regions first f.store.each) f.keeps is.are_true)) f.rows;
      classes = map class_of c.store.regions;
      are = subst (λ schema. AreClasses schema past.marks past.queries (map class_of c.store.regions)) (sym same)
          (subst (λ ms. AreClasses c.schema ms past.queries (map class_of c.store.regions)) (sym marks)
          (subst (λ qs. AreClasses c.schema h.marks qs (map class_of c.store.regions)) (sym queries)
          (are_classes c.schema h.marks h.queries c.store.regions first f.store.each f.store.order f.keeps)));
      few = subst (λ n. n ≤ c.store.limits.regions) (sym (length-map c.store.regions class_of)) f.few;
    }

pub started-runs-are-true : StartedRunsAreTrue
started-runs-are-true id version address schema limits keeps says kept marks c left s pieces plan ended old new before after is are asked run h =
    subst (λ (l : Limits). IsTrue (server_at_last s pieces).database l past calls ended) within
    (runs-from-any-client-are-true s pieces (end_with keeps says c None) left past address plan ended old new before after is.stands.1.tables rests
    (keeps-over s.database c past same (sound.tables version are.within) client) asked run (subst (λ own. IsHonest own s pieces calls) (sym own) h))
  where
    past : session.Client
    past = start_past schema version kept marks

    calls : List (Call End)
    calls = run.run.ran.earlier ++ run.run.ran.last ∷ []

    own : c.schema ≡ schema
    own = ap (λ (x : Client). x.schema) is.client

    within : c.store.limits ≡ limits
    within = ap (λ (x : Store). x.limits) is.start.store

    same : s.database.schema ≡ c.schema
    same = h.schema_is ∙ sym own

    sound : IsSound s.database
    sound = sound-before s.database (server_at_last s pieces).database h.some (last-more s pieces h.some).grows h.sound

    client : IsClient c past (tables_of s.database version)
    client = record {
      hidden = is.stands.0;
      facts = is.stands.1;
      same = is.stands.2;
      are_true = starts_are_true schema limits kept (record { store = c.store; marks = marks }) (told_of (tables_of s.database version)) is.start are.rows;
    }

    rests : Rests IsEnd s.database (end_with keeps says c None) past
    rests = record { cut = refl; out = refl; laid = refl; version = are.within; is = (same, client) }
