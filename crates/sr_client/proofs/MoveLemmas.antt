-- What is shown of a step from each past that a client stands for, over the databases of its own schema.
use Rattle.std.proofs.Common.{ℕ, ◌+◌, ◌≤◌, List, Ok, sym, subst}
use Rattle.sr_message.specs.declared.message.Message.{Message}
use Rattle.sr_model.specs.Queries as model
use Rattle.sr_session.specs.Sessions.{Database}
use Rattle.sr_session.specs.Clients as session
use Rattle.sr_session.specs.Rules.{Outcome}
use Rattle.sr_session.specs.Rules as rules
use Rattle.sr_session.specs.Bases.{basis_of}
use Rattle.sr_session.specs.Brought.{told_after}
use Rattle.sr_client.specs.ByTold.{GoesByTold}
use Rattle.sr_client.specs.declared.client.Client.{Client}
use Rattle.sr_client.specs.declared.steps.CutStep.{CutStep}
use Rattle.sr_client.specs.declared.steps.EvictStep.{EvictStep}
use Rattle.sr_client.specs.declared.steps.QueryStep.{QueryStep}
use Rattle.sr_client.specs.declared.steps.ResumeStep.{ResumeStep}
use Rattle.sr_client.specs.declared.steps.Took.{Took}
use Rattle.sr_client.specs.declared.steps.WriteStep.{WriteStep}
use Rattle.sr_client.specs.Stands.{Hidden, Facts, Stands, StandsFor, StandsOver, Truly, past_of, drawn}
use Rattle.sr_client.specs.Steps.{Goes, KeepsLink, Moves, SaysQuery, SaysTook, SaysEvict, SaysWrite, SaysResume, SaysCut, Queries, Takes, Evicts, Writes, Resumes, Cuts}
use Rattle.sr_client.proofs.OverLemmas.{on, IsHere, of-schema}

-- one outcome and one next past, for the databases of the client's schema
pub record MovesHere (old new : Client) (past : session.Client) (says : Outcome → Type 0) (If : Database → Type 0) (rule : Database → Outcome → session.Client → Type 0) : Type 0 where
  pub outcome : Outcome
  pub next : session.Client
  pub is : says outcome
  pub link : KeepsLink past outcome next
  pub draws : drawn new + new.cuts ≤ (drawn old + old.cuts) + 2
  pub stands : StandsFor next new
  pub over : (db : Database) → IsHere db old → If (on old db) → rule (on old db) outcome next × StandsOver (on old db) next new

module _ (old new : Client) (says : session.Client → Outcome → Type 0) (If : session.Client → Database → Type 0) (rule : session.Client → Database → Outcome → session.Client → Type 0)
    (lawful : session.Client → Outcome → session.Client → Type 0) where
  -- with what is so whatever the database
  record IsMoved (past : session.Client) : Type 0 where
    moves : Moves old new past (says past) (If past) (rule past)
    ruled : lawful past moves.outcome moves.next

  -- so it is for all databases
  moved-for : (each : (h : Hidden) → Facts old h → MovesHere old new (past_of old h) (says (past_of old h)) (If (past_of old h)) (rule (past_of old h)))
      → ((h : Hidden) (f : Facts old h) → lawful (past_of old h) (each h f).outcome (each h f).next)
      → (past : session.Client) → StandsFor past old → IsMoved past
  moved-for each law past (h, f, same) =
      let m = each h f in
      subst IsMoved (sym same) (record {
        moves = record {
          outcome = m.outcome;
          next = m.next;
          is = m.is;
          link = m.link;
          draws = m.draws;
          stands = m.stands;
          over = λ db s. of-schema old (λ db past. If past db → rule past db m.outcome m.next × StandsOver db m.next new) h f m.over db s.schema s.sound s.within s.client.are_true;
        };
        ruled = law h f;
      })

  -- and over one
  goes-by : ((past : session.Client) → StandsFor past old → Moves old new past (says past) (If past) (rule past))
      → (db : Database) (past : session.Client) → StandsOver db past old → If past db → Goes db (says past) (rule past db) new
  goes-by moves db past s it =
      let m = moves past (s.client.hidden, s.client.facts, s.client.same) in
      let o = m.over db s it in
      record { outcome = m.outcome; next = m.next; is = m.is; allowed = o.0; stands = o.1 }

  record Both : Type 0 where
    by_rules : (db : Database) (past : session.Client) → StandsOver db past old → If past db → Goes db (says past) (rule past db) new
    moves : (past : session.Client) → StandsFor past old → Moves old new past (says past) (If past) (rule past)
    ruled : (past : session.Client) (stands : StandsFor past old) → lawful past (moves past stands).outcome (moves past stands).next
    stands : Stands new

  both : (each : (h : Hidden) → Facts old h → MovesHere old new (past_of old h) (says (past_of old h)) (If (past_of old h)) (rule (past_of old h)))
      → ((h : Hidden) (f : Facts old h) → lawful (past_of old h) (each h f).outcome (each h f).next) → Stands old → Both
  both each law (h, f) =
      let moved : (past : session.Client) → StandsFor past old → IsMoved past = moved-for each law in
      let m = each h f in
      record {
        by_rules = goes-by (λ past s. (moved past s).moves);
        moves = λ past s. (moved past s).moves;
        ruled = λ past s. (moved past s).ruled;
        stands = (m.stands.0, m.stands.1);
      }

module _ (old new : Client) where
  pub queries-by : (meaning : model.Query) (step : QueryStep)
      → (each : (h : Hidden) → Facts old h → MovesHere old new (past_of old h) (SaysQuery (past_of old h) step) (λ db. Unit {0}) (λ db. rules.QueryStep (basis_of db old.store.limits) (past_of old h) (Ok meaning)))
      → ((h : Hidden) (f : Facts old h) → GoesByTold old new (λ told. told) (λ b. rules.QueryStep b (past_of old h) (Ok meaning) (each h f).outcome (each h f).next))
      → Stands old → Queries old meaning new step
  queries-by meaning step each law stands =
      let b = both old new (λ past. SaysQuery past step) (λ past db. Unit {0}) (λ past db. rules.QueryStep (basis_of db old.store.limits) past (Ok meaning)) (λ past o next. GoesByTold old new (λ told. told) (λ b. rules.QueryStep b past (Ok meaning) o next)) each law stands in
      record { by_rules = λ db past s. b.by_rules db past s tt; moves = b.moves; ruled = b.ruled; stands = b.stands }

  pub takes-by : (m : Message) (took : Took)
      → (each : (h : Hidden) → Facts old h → MovesHere old new (past_of old h) (SaysTook took) (λ db. Truly db (past_of old h) m) (λ db. rules.TakeStep (basis_of db old.store.limits) (past_of old h) m))
      → ((h : Hidden) (f : Facts old h) → GoesByTold old new (told_after old.schema (past_of old h) m) (λ b. rules.TakeStep b (past_of old h) m (each h f).outcome (each h f).next))
      → Stands old → Takes old m new took
  takes-by m took each law stands =
      let b = both old new (λ past. SaysTook took) (λ past db. Truly db past m) (λ past db. rules.TakeStep (basis_of db old.store.limits) past m) (λ past o next. GoesByTold old new (told_after old.schema past m) (λ b. rules.TakeStep b past m o next)) each law stands in
      record { by_rules = b.by_rules; moves = λ past s good. b.moves past s; ruled = λ past s good. b.ruled past s; stands = b.stands }

  pub evicts-by : (place : ℕ) (step : EvictStep)
      → (each : (h : Hidden) → Facts old h → MovesHere old new (past_of old h) (SaysEvict step) (λ db. Unit {0}) (λ db. rules.EvictStep (basis_of db old.store.limits) place (past_of old h)))
      → ((h : Hidden) (f : Facts old h) → GoesByTold old new (λ told. told) (λ b. rules.EvictStep b place (past_of old h) (each h f).outcome (each h f).next))
      → Stands old → Evicts old place new step
  evicts-by place step each law stands =
      let b = both old new (λ past. SaysEvict step) (λ past db. Unit {0}) (λ past db. rules.EvictStep (basis_of db old.store.limits) place past) (λ past o next. GoesByTold old new (λ told. told) (λ b. rules.EvictStep b place past o next)) each law stands in
      record { by_rules = λ db past s. b.by_rules db past s tt; moves = b.moves; ruled = b.ruled; stands = b.stands }

  pub writes-by : (sql : List ℕ) (step : WriteStep)
      → (each : (h : Hidden) → Facts old h → MovesHere old new (past_of old h) (SaysWrite sql step) (λ db. Unit {0}) (λ db. rules.WriteStep sql (past_of old h)))
      → ((h : Hidden) (f : Facts old h) → rules.WriteStep sql (past_of old h) (each h f).outcome (each h f).next)
      → Stands old → Writes old sql new step
  writes-by sql step each law stands =
      let b = both old new (λ past. SaysWrite sql step) (λ past db. Unit {0}) (λ past db. rules.WriteStep sql past) (λ past. rules.WriteStep sql past) each law stands in
      record { by_rules = λ db past s. b.by_rules db past s tt; moves = b.moves; ruled = b.ruled; stands = b.stands }

  pub resumes-by : (step : ResumeStep)
      → (each : (h : Hidden) → Facts old h → MovesHere old new (past_of old h) (SaysResume (past_of old h) step) (λ db. Unit {0}) (λ db. rules.ResumeStep db.schema (past_of old h)))
      → ((h : Hidden) (f : Facts old h) → rules.ResumeStep old.schema (past_of old h) (each h f).outcome (each h f).next)
      → Stands old → Resumes old new step
  resumes-by step each law stands =
      let b = both old new (λ past. SaysResume past step) (λ past db. Unit {0}) (λ past db. rules.ResumeStep db.schema past) (λ past. rules.ResumeStep old.schema past) each law stands in
      record { by_rules = λ db past s. b.by_rules db past s tt; moves = b.moves; ruled = b.ruled; stands = b.stands }

  pub cuts-by : (step : CutStep)
      → (each : (h : Hidden) → Facts old h → MovesHere old new (past_of old h) (SaysCut (past_of old h) old step) (λ db. Unit {0}) (λ db. rules.CutStep (past_of old h)))
      → ((h : Hidden) (f : Facts old h) → rules.CutStep (past_of old h) (each h f).outcome (each h f).next)
      → Stands old → Cuts old new step
  cuts-by step each law stands =
      let b = both old new (λ past. SaysCut past old step) (λ past db. Unit {0}) (λ past db. rules.CutStep past) (λ past. rules.CutStep past) each law stands in
      record { by_rules = λ db past s. b.by_rules db past s tt; moves = b.moves; ruled = b.ruled; stands = b.stands }
