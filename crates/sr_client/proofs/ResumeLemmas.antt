-- What a resume does.
use Rattle.std.proofs.Common.{◌≡◌, ℕ, ◌+◌, true, false, List, [], ◌∷◌, refl, sym, ◌∙◌, subst, arith, Some, None}
use Rattle.std.specs.Prelude.{◌==◌, ◌↔◌}
use Rattle.std.proofs.lemmas.Bool.Decides.{nat_tests}
use Rattle.sr_message.specs.declared.message.Message.{Message}
use Rattle.sr_history.specs.Marks.{HoldsNothing, is_held}
use Rattle.sr_history.specs.Classes.{stamp}
use Rattle.sr_region.specs.declared.region.Region.{Region}
use Rattle.sr_store.specs.Classes.{Keeps}
use Rattle.sr_store.specs.Stores.{IsStore}
use Rattle.sr_store.proofs.Covering.{all_none}
use Rattle.sr_session.specs.Clients.{IsResumeMessage}
use Rattle.sr_session.specs.Refusals.{is_request_of}
use Rattle.sr_session.specs.Resumable.{CanResume}
use Rattle.sr_session.specs.Rules.{already_up, resumes}
use Rattle.sr_session.specs.Rules as rules
use Rattle.sr_session.specs.Walks.{AreLaid, ResumeOut}
use Rattle.sr_session.proofs.ResumableLemmas.{regions-can-resume}
use Rattle.sr_client.specs.declared.client.Client.{Client}
use Rattle.sr_client.specs.declared.client.Request.TheVariants as request
use Rattle.sr_client.specs.declared.steps.ResumeStep.TheVariants.{Sent, Up}
use Rattle.sr_client.specs.Sends.{first_of}
use Rattle.sr_client.specs.Stands.{Hidden, Facts, Stands, past_of, AreFit}
use Rattle.sr_client.specs.Steps.{Resumes}
use Rattle.sr_client.proofs.MoveLemmas.{resumes-by}
use Rattle.sr_client.proofs.OverLemmas.{stands-over}
use Rattle.sr_client.proofs.QueryLemmas.{none-laid}
use Rattle.sr_client.proofs.TableLemmas.{have-first}

pub resume-up : (c : Client) → Stands c → c.cut ≡ false → Resumes c c Up
resume-up c stands up = resumes-by c c Up (λ h f. record {
  outcome = rules.AlreadyUp;
  next = past_of c h;
  is = refl;
  link = (up, up);
  draws = omega arith;
  stands = (h, f, refl);
  over = λ db here it. (already_up up, stands-over c h db f here);
}) (λ h f. already_up up) stands

-- ---- what it is

-- the client's regions can be named in a Resume
can-resume : (c : Client) (h : Hidden) → Facts c h → (gs : List Region) → c.store.regions ≡ gs → CanResume c.schema h.marks h.queries gs
can-resume c h f gs same =
    regions-can-resume c.schema h.marks h.queries gs f.tables (subst (IsStore c.schema) same f.store) (subst (Keeps c.schema (is_held h.marks) (stamp h.queries)) same f.keeps)

first-is : (c : Client) (h : Hidden) → Facts c h → IsResumeMessage c.schema (past_of c h) c.next_request (first_of c c.store.regions)
first-is c h f = by c.store.regions refl
  where
    none : (c.store.regions ≡ []) ↔ HoldsNothing c.schema h.marks
    none = all_none c.schema h.marks (stamp h.queries) c.store.regions (have-first c.schema f.tables) f.store.each f.keeps

    by : (gs : List Region) → c.store.regions ≡ gs → IsResumeMessage c.schema (past_of c h) c.next_request (first_of c gs)
    by [] e = (refl, refl, none.0 e)
    by (g ∷ gs) e =
        let can = can-resume c h f (g ∷ gs) e in (
          refl,
          refl,
          refl,
          can.holdings,
          (λ nothing. let empty = none.1 nothing in let wrong : g ∷ gs ≡ [] = sym e ∙ empty in absurd (cc)),
          can.suits,
        )

pub first-well : (c : Client) → Stands c → is_request_of c.schema c.id (first_of c c.store.regions) ≡ true
first-well c stands = by c.store.regions refl
  where
    own : (c.id == c.id) ≡ true
    own = grind (arith, nat_tests)

    by : (gs : List Region) → c.store.regions ≡ gs → is_request_of c.schema c.id (first_of c gs) ≡ true
    by [] e = rw own refl
    by (g ∷ gs) e = let can = can-resume c stands.0 stands.1 (g ∷ gs) e in rw (own, can.suits) refl

-- ---- the link is up

-- the client once its link is up, and the first message out
abbrev pub resuming : Client → Client
resuming c = record c { next_request = c.next_request + 1; out = Some (request.Resume c.next_request); cut = false }

resuming-facts : (c : Client) (h : Hidden) → Facts c h → c.cut ≡ true → Facts (resuming c) h
resuming-facts c h f down =
    let laid = none-laid c h f (f.down down) in
    record {
      tables = f.tables;
      tidy = (refl, subst AreLaid (sym laid) tt);
      down = λ wrong. absurd (let no : true ≡ false = sym wrong in cc);
      meant = tt;
      fit = subst (AreFit c.schema (Some (ResumeOut c.next_request)) c.version []) (sym laid) tt;
      store = f.store;
      settled = f.settled;
      keeps = f.keeps;
      queries = f.queries;
      last = f.last;
      rows = f.rows;
      few = f.few;
      from = f.from;
      short = f.short;
      ends = f.ends;
    }

pub resuming-stands : (c : Client) → Stands c → c.cut ≡ true → Stands (resuming c)
resuming-stands c stands down = (stands.0, resuming-facts c stands.0 stands.1 down)

pub resume-sent : (c : Client) (message : Message) → Stands c → c.cut ≡ true → message ≡ first_of c c.store.regions → Resumes c (resuming c) (Sent c.next_request message)
resume-sent c message stands down told = resumes-by c (resuming c) (Sent c.next_request message) (λ h f. record {
  outcome = rules.ResumeSent message;
  next = past_of (resuming c) h;
  is = (refl, refl);
  link = (down, refl, λ none. absurd (let wrong : Some (ResumeOut c.next_request) ≡ None = none in cc));
  draws = omega arith;
  stands = (h, resuming-facts c h f down, refl);
  over = λ db here it. (
    resumes message down (subst (IsResumeMessage c.schema (past_of c h) c.next_request) (sym told) (first-is c h f)),
    stands-over (resuming c) h db (resuming-facts c h f down) (record { sound = here.sound; within = here.within; are_true = here.are_true }),
  );
}) (λ h f. resumes message down (subst (IsResumeMessage c.schema (past_of c h) c.next_request) (sym told) (first-is c h f))) stands
