-- A step of the code is what the rules allow, from any past that it stands for.
use Rattle.std.proofs.Common.{◌≡◌, ◌≤◌, ℕ, Bool, map, true, false, List, [], refl, sym, ◌∙◌, ap, subst, Option, None}
use Rattle.std.specs.Prelude.{◌≢◌}
use Rattle.std.specs.List.{All}
use Rattle.std.proofs.lemmas.List.{length-map}
use Rattle.std.proofs.lemmas.List.Elements.{All-cons, All-nil}
use Rattle.sr_cell.specs.declared.fault.Fault.{Fault}
use Rattle.sr_message.specs.declared.message.Message.{Message}
use Rattle.sr_message.specs.declared.message.Message.TheVariants.{Ask, Write}
use Rattle.sr_script.specs.declared.line.TraceLine.{TraceLine}
use Rattle.sr_history.specs.Classes.{stamp}
use Rattle.sr_store.specs.Brought.{IsToldOf}
use Rattle.sr_store.specs.Past.{class_of}
use Rattle.sr_store.proofs.Classing.{all_solid, are_classes}
use Rattle.sr_store.proofs.KeptTold.{kept_told_rows}
use Rattle.sr_store.specs.Told.{Told}
use Rattle.sr_session.specs.Sessions.{Database}
use Rattle.sr_session.specs.Clients as session
use Rattle.sr_session.specs.Brought.{told_basis}
use Rattle.sr_session.specs.Headline.{KeepsToBudgets}
use Rattle.sr_session.specs.Rules.{Answered, Basis, Outcome, AlreadyCut, AlreadyUp, AskSent, CutDone, QueryRefused, ResumeSent, WriteSent, sent_of}
use Rattle.sr_session.specs.Bases.{basis_of}
use Rattle.sr_links.specs.Brought.{GoesByTold, IsLawful, told_next}
use Rattle.sr_links.specs.Steps.{Deed, ComesIf, Does, IsFair}
use Rattle.sr_dial.specs.Calls.{lines_of}
use Rattle.sr_client.specs.ByTold as by
use Rattle.sr_client.specs.ByTold.{ClientsKeepToBudgets}
use Rattle.sr_client.specs.Stands.{StandsFor, Stays, out_of}
use Rattle.sr_client.specs.Steps as client
use Rattle.sr_client.specs.Steps.{Moves}
use Rattle.sr_client.specs.declared.client.Client.{Client}
use Rattle.sr_client.proofs.TableLemmas.{have-first}
use Rattle.sr_dial.specs.Following.{answer_of}
use Rattle.sr_dial.specs.Known.{IsFrom, KeepsLink}
use Rattle.sr_dial.specs.declared.parts.Answer.{Answer}
use Rattle.sr_calls.specs.ClientEnds.{Did, HasTold, IsEnd, end_with, silent}

-- by the rows that were told a client keeps to its budgets
clients-keep-to-budgets : ClientsKeepToBudgets
clients-keep-to-budgets c past told (h, f, same) is =
    let first = have-first c.schema f.tables in
    subst (KeepsToBudgets (told_basis c.schema c.store.limits told)) (sym same) (record {
      rows = subst (λ n. n ≤ c.store.limits.rows)
          (sym (kept_told_rows c.schema told h.marks (stamp h.queries) c.store.regions first is.0 f.store.each (all_solid c.schema c.store.regions first f.store.each) f.keeps is.1)) f.rows;
      classes = map class_of c.store.regions;
      are = are_classes c.schema h.marks h.queries c.store.regions first f.store.each f.store.order f.keeps;
      few = subst (λ n. n ≤ c.store.limits.regions) (sym (length-map c.store.regions class_of)) f.few;
    })

-- over a cut link nothing is out
pub rests : (past : session.Client) (c : Client) → StandsFor past c → past.cut ≡ true → past.out ≡ None
rests past c s down = ap (λ (p : session.Client). p.out) s.2 ∙ ap (out_of s.0.meaning) (s.1.down (sym (ap (λ (p : session.Client). p.cut) s.2) ∙ down))

-- what is sent is out
pub waits : (past next : session.Client) (o : Outcome) → client.KeepsLink past o next → sent_of o ≢ [] → next.out ≢ None
waits past next (AskSent drops request fresh parts) link some = link.2
waits past next (WriteSent request sql) link some = link.2
waits past next (ResumeSent message) link some = link.2
waits past next other link some = absurd (some refl)

-- ---- the link

-- it comes of no resume and of no cut
abbrev pub IsPlainOutcome : Outcome → Type 0
IsPlainOutcome (ResumeSent message) = ⊥
IsPlainOutcome AlreadyUp = ⊥
IsPlainOutcome (CutDone cut ended) = ⊥
IsPlainOutcome (AlreadyCut cut) = ⊥
IsPlainOutcome other = Unit {0}

-- the link stays as it was, and what is sent goes over one that is up
abbrev pub LinkStays : session.Client → session.Client → List Message → Type 0
LinkStays past next sent = (next.cut ≡ past.cut) × (sent ≢ [] → past.cut ≡ false)

pub plain_link : (past next : session.Client) (o : Outcome) → IsPlainOutcome o → client.KeepsLink past o next → LinkStays past next (sent_of o)
plain_link past next (AskSent drops request fresh parts) plain link = (link.1 ∙ sym link.0, λ some. link.0)
plain_link past next (WriteSent request sql) plain link = (link.1 ∙ sym link.0, λ some. link.0)
plain_link past next (ResumeSent message) plain link = absurd plain
plain_link past next AlreadyUp plain link = absurd plain
plain_link past next (CutDone cut ended) plain link = absurd plain
plain_link past next (AlreadyCut cut) plain link = absurd plain
plain_link past next other plain link = (link, λ some. absurd (some refl))

-- what names nobody is from any client
pub plain_from : (id : ℕ) (o : Outcome) → IsPlainOutcome o → All (IsFrom id) (sent_of o)
plain_from id (AskSent drops request fresh parts) plain = All-cons (IsFrom id) (Ask request fresh parts) [] refl (All-nil (IsFrom id))
plain_from id (WriteSent request sql) plain = All-cons (IsFrom id) (Write request sql) [] refl (All-nil (IsFrom id))
plain_from id (ResumeSent message) plain = absurd plain
plain_from id other plain = All-nil (IsFrom id)

-- ---- its answer

-- it answers no query
abbrev pub IsUnanswered : Outcome → Type 0
IsUnanswered (Answered query version rows marks) = ⊥
IsUnanswered other = Unit {0}

pub unanswered : (keeps : Bool) (o : Outcome) → IsUnanswered o → None ≡ answer_of keeps o
unanswered true (Answered query version rows marks) none = absurd none
unanswered true other none = refl
unanswered false o none = refl

-- ---- a step

module _ (keeps : Bool) (old new : Client) (past : session.Client) (deed : Deed) (says : Outcome → Type 0) (If : Database → Type 0) (rule : Database → Outcome → session.Client → Type 0) (m : Moves old new past says If rule)
    (from : All (IsFrom old.id) (sent_of m.outcome)) (does : (db : Database) (o : Outcome) (next : session.Client) → rule db o next → Does (basis_of db old.store.limits) deed past o next) (comes : (db : Database) → ComesIf db past deed → If db)
    (stays : Stays old new) (ruled : by.GoesByTold old new (λ told. told_next old.schema past deed told) (λ b. Does b deed past m.outcome m.next)) where
  fair : (writes : Bool) (lent answer : Option Answer) → IsFair IsEnd old.store.limits (end_with keeps writes old lent) past (record { deed = deed; outcome = m.outcome; past = m.next; code = end_with keeps writes new answer })
  fair writes lent answer db sound within is come =
      let both = m.over db (record { sound = sound; schema = is.0; within = within; client = is.1 }) (comes db come) in
      (does db m.outcome m.next both.0, (both.1.schema, both.1.client))

  -- on any link, by the rows that the frames brought
  budgets : (told : Told) → IsToldOf old.schema told new.store.regions → KeepsToBudgets (told_basis old.schema old.store.limits told) m.next
  budgets told is =
      subst (λ schema. KeepsToBudgets (told_basis schema old.store.limits told) m.next) stays.schema
      (subst (λ limits. KeepsToBudgets (told_basis new.schema limits told) m.next) stays.limits
      (clients-keep-to-budgets new m.next told m.stands (subst (λ schema. IsToldOf schema told new.store.regions) (sym stays.schema) is)))

  lawful : (writes : Bool) (lent answer : Option Answer)
      → IsLawful HasTold old.store.limits old.schema (end_with keeps writes old lent) past (record { deed = deed; outcome = m.outcome; past = m.next; code = end_with keeps writes new answer })
  lawful writes lent answer told has =
      let goes = ruled told has.1 in
      (record { does = goes.1; budgets = budgets (told_next old.schema past deed told) goes.0 }, (m.stands, goes.0))

  pub makes : (answer : Option Answer) (lines : List TraceLine) (sent : List Message) → answer ≡ answer_of keeps m.outcome → lines ≡ lines_of old.id deed m.outcome → sent ≡ sent_of m.outcome → KeepsLink deed (sent_of m.outcome) past m.next
      → Did keeps old new past deed (record { told = record { lines = lines; sent = sent }; answer = answer })
  makes answer lines sent answer_is lines_are sent_is link = λ writes lent. record {
    outcome = m.outcome;
    next = m.next;
    lines_are = lines_are;
    sent_is = sent_is;
    from = subst (All (IsFrom old.id)) (sym sent_is) from;
    link = subst (λ ms. KeepsLink deed ms past m.next) (sym sent_is) link;
    waits = λ some. waits past m.next m.outcome m.link (λ none. some (sent_is ∙ none));
    rests = rests m.next new m.stands;
    answers = answer_is;
    stands = m.stands;
    fair = fair writes lent answer;
    lawful = lawful writes lent answer;
  }

-- what is refused by the client itself changes nothing
pub refuses : (keeps : Bool) (old : Client) (past : session.Client) (deed : Deed) (fault : Fault) (lines : List TraceLine) → StandsFor past old → lines ≡ lines_of old.id deed (QueryRefused fault) → KeepsLink deed [] past past
    → ((told : Told) → told_next old.schema past deed told ≡ told) → ((b : Basis) → Does b deed past (QueryRefused fault) past) → Did keeps old old past deed (silent lines)
refuses keeps old past deed fault lines stands lines_are link untold does = λ writes lent. record {
  outcome = QueryRefused fault;
  next = past;
  lines_are = lines_are;
  sent_is = refl;
  from = All-nil (IsFrom old.id);
  link = link;
  waits = λ some. absurd (some refl);
  rests = rests past old stands;
  answers = unanswered keeps (QueryRefused fault) tt;
  stands = stands;
  fair = λ db sound within is come. (does (basis_of db old.store.limits), is);
  lawful = λ told has. subst (λ t. GoesByTold old.store.limits old.schema past (record { deed = deed; outcome = QueryRefused fault; past = past; code = end_with keeps writes old None }) t × HasTold old.schema (end_with keeps writes old None) past t)
      (sym (untold told)) (record { does = does (told_basis old.schema old.store.limits told); budgets = clients-keep-to-budgets old past told stands has.1 }, (stands, has.1));
}
