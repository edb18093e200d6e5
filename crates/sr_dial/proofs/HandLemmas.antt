-- What comes of a step that was carried out.
use Rattle.std.proofs.Common.{◌≡◌, ℕ, ◌≤◌, Bool, true, false, List, [], ◌∷◌, ◌++◌, arith, append-nil, inl, inr, refl, sym, ◌∙◌, ap, subst, Option}
use Rattle.std.specs.Prelude.{◌≢◌, ◌⊎◌, flat_map}
use Rattle.sr_io.specs.Causes.{Rose}
use Rattle.sr_io.specs.Told.{Linking, Writing, connections, sent_on}
use Rattle.sr_io.proofs.SoFar.{Appends-append}
use Rattle.sr_message.specs.declared.message.Message.{Message}
use Rattle.sr_script.specs.declared.line.TraceLine.{TraceLine}
use Rattle.sr_script.specs.TraceText.{line_text}
use Rattle.sr_session.specs.Clients.{Client}
use Rattle.sr_session.specs.Rules.{sent_of}
use Rattle.sr_links.specs.Brought.{Holding}
use Rattle.sr_links.specs.Steps.{Standing, Deed, Queried, Wrote, Evicted, Took, WasCut, Resumed, StaysOn, taken_by}
use Rattle.sr_dial.specs.Calls.{Cause, Scripted, Do, is_failed}
use Rattle.sr_talk.specs.Serving.{spelled}
use Rattle.sr_talk.proofs.MoveLemmas.{nothing-sent}
use Rattle.sr_talk.proofs.SomeLemmas.{prefix-behind}
use Rattle.sr_dial.specs.Carrying.{Carries, SaysAs, spoken}
use Rattle.sr_dial.specs.Known.{KeepsLink, IsPlain, Makes, Setting}
use Rattle.sr_dial.specs.Runs.{IsInPlace, left_by, more_taken, none_taken}
use Rattle.sr_dial.specs.Courses.{At, Free, Hands, IsPartWritten, IsWritten, Start}
use Rattle.sr_dial.specs.declared.steps.Handed.{Handed}
use Rattle.sr_dial.specs.declared.steps.Handed.TheVariants.{Whole, Broken, Unwritten}
use Rattle.sr_dial.proofs.CourseLemmas.{at-up, at-down}
use Rattle.sr_dial.proofs.BrokenLemmas.{one-sent, send-breaks}
use Rattle.sr_dial.proofs.EndLemmas.{unwritten-at, unwritten-broken}
use Rattle.sr_dial.specs.declared.parts.Answer.{Answer}
use Rattle.sr_dial.specs.Following.{Ahead}
use Rattle.sr_plan.specs.Plans.{Next}
use Rattle.sr_dial.proofs.PlanLemmas.{GoesOn}
use Rattle.sr_dial.specs.declared.waiting.Count.{Count}

module _ {C Z : Type 0} (says : Bool) (s : Start C Z) (w new_w : Writing) (text : List ℕ) where
  pub wrote : SaysAs says true w new_w text → (texts : List ℕ) → IsWritten s w texts → IsWritten s new_w (texts ++ spoken says text)
  wrote (is, same) texts (before, faults) = (Appends-append s.writing.written w.written new_w.written texts (spoken says text) before is, same ∙ faults)

pub half : {C Z : Type 0} (says : Bool) (s : Start C Z) (w new_w : Writing) (text : List ℕ) → SaysAs says false w new_w text → (texts : List ℕ) → IsWritten s w texts → IsPartWritten says s new_w (texts ++ spoken says text)
half {C} {Z} true s w new_w text (spoke, part, rose) texts (before, faults) =
    (spoke, prefix-behind s.writing.written w.written new_w.written texts text before part, subst (λ n. Rose n new_w.faults) faults rose)
half {C} {Z} false s w new_w text (spoke, part, rose) texts written = absurd (let wrong : false ≡ true = spoke in cc)

module _ {Z : Type 0} (C : Type 0) (Stands : C → Client → Type 0) (lent : C → Option Answer) (IsOf : Standing C) (Has : Holding C) (k : Setting) (s : Start C Z) (ahead further : Ahead) (line : ℕ) (came : Count) (number : ℕ) (cause : Cause) (code new : C) (deed : Deed) (lines : List TraceLine) (sent : List Message)
    (on : GoesOn cause ahead (lent code) number deed further) (most : (more_taken cause sent came).taken ≤ 1000000) (failed : Bool) (l new_l : Linking) (w new_w : Writing) (feed left : List ℕ) (h : At C Stands lent IsOf Has k s ahead line came failed l (IsWritten s w) feed code)
    (m : Makes Stands lent IsOf Has k code new (left_by s.past (h.course.earlier ++ h.course.call ∷ [])) deed lines sent)
    (place : IsInPlace k.schema cause line number deed (left_by s.past (h.course.earlier ++ h.course.call ∷ []))) (stays : StaysOn (left_by s.past (h.course.earlier ++ h.course.call ∷ [])) deed)
    (not_failed : is_failed cause ≡ false) where
  abbrev text : List ℕ
  text = flat_map (line_text k.schema number) lines

  -- over a link that is up
  pub hands-up : (handed : Handed) → (Z → l.is_up ≡ true → handed ≡ Whole) → (left_by s.past (h.course.earlier ++ h.course.call ∷ [])).cut ≡ false → m.next.cut ≡ false → feed ≡ spelled (taken_by deed) ++ left
      → Carries k.says handed l new_l w new_w (spelled sent) (flat_map (line_text k.schema number) lines) → Hands C Stands lent IsOf Has k handed s further number (more_taken cause sent came) failed new_l new_w left new
  hands-up Whole calm up still fed (is, says) =
      at-up C Stands lent IsOf Has k s ahead further line came number cause (IsWritten s w) (IsWritten s new_w) code new deed lines sent on most (wrote k.says s w new_w text says) failed l new_l feed left h m place stays not_failed up still fed is
  hands-up Broken calm up still fed ((part, rose), says) =
      send-breaks C Stands lent IsOf Has k s ahead further line came number cause (IsWritten s w) (IsWritten s new_w) code new deed lines sent on most (wrote k.says s w new_w text says) failed l new_l feed left h m place stays not_failed up fed part rose
      (λ z. absurd (let wrong : Broken ≡ Whole = calm z (h.up up) in cc))
  hands-up Unwritten calm up still fed (inl is, says) =
      unwritten-at C Stands lent IsOf Has k s further number (more_taken cause sent came) new_l left new new_w failed
      (at-up C Stands lent IsOf Has k s ahead further line came number cause (IsWritten s w) (IsPartWritten k.says s new_w) code new deed lines sent on most (half k.says s w new_w text says) failed l new_l feed left h m place stays not_failed up still fed is)
  hands-up Unwritten calm up still fed (inr (part, rose), says) =
      unwritten-broken C Stands lent IsOf Has k s further number (more_taken cause sent came) new_l left new new_w
      (send-breaks C Stands lent IsOf Has k s ahead further line came number cause (IsWritten s w) (IsPartWritten k.says s new_w) code new deed lines sent on most (half k.says s w new_w text says) failed l new_l feed left h m place stays not_failed up fed part rose
      (λ z. absurd (let wrong : Unwritten ≡ Whole = calm z (h.up up) in cc)))

  -- where it is down then
  pub hands-down : (handed : Handed) (mid : Linking) → m.next.cut ≡ true → sent ≡ [] → taken_by deed ≡ [] → connections mid ≡ connections l → mid.peers ≡ l.peers → mid.faults ≡ l.faults
      → Carries k.says handed mid new_l w new_w (spelled sent) (flat_map (line_text k.schema number) lines) → Hands C Stands lent IsOf Has k handed s further number (more_taken cause sent came) failed new_l new_w feed new
  hands-down handed mid down none took same peers quiet carries = by handed (subst (λ ms. Carries k.says handed mid new_l w new_w (spelled ms) (flat_map (line_text k.schema number) lines)) none carries)
    where
      same-links : new_l ≡ sent_on [] mid → connections new_l ≡ connections l
      same-links is = ap connections (is ∙ nothing-sent mid) ∙ same

      same-peers : new_l ≡ sent_on [] mid → new_l.peers ≡ l.peers
      same-peers is = ap (λ (x : Linking). x.peers) is ∙ peers

      same-faults : new_l ≡ sent_on [] mid → new_l.faults ≡ l.faults
      same-faults is = ap (λ (x : Linking). x.faults) is ∙ quiet

      by : (handed : Handed) → Carries k.says handed mid new_l w new_w [] (flat_map (line_text k.schema number) lines) → Hands C Stands lent IsOf Has k handed s further number (more_taken cause sent came) failed new_l new_w feed new
      by Whole (is, says) =
          at-down C Stands lent IsOf Has k s ahead further line came number cause (IsWritten s w) (IsWritten s new_w) code new deed lines sent on most (wrote k.says s w new_w text says) failed l new_l feed left h m place stays not_failed down none took
          (same-links is) (same-peers is) (same-faults is)
      by Broken ((part, rose), says) = absurd (let fewer = part.fewer in omega (arith, fewer))
      by Unwritten (inl is, says) =
          unwritten-at C Stands lent IsOf Has k s further number (more_taken cause sent came) new_l feed new new_w failed
          (at-down C Stands lent IsOf Has k s ahead further line came number cause (IsWritten s w) (IsPartWritten k.says s new_w) code new deed lines sent on most (half k.says s w new_w text says) failed l new_l feed left h m place stays not_failed down none took
          (same-links is) (same-peers is) (same-faults is))
      by Unwritten (inr (part, rose), says) = absurd (let fewer = part.fewer in omega (arith, fewer))

-- ---- a line that leaves the link as it is

pub plain-stays : (deed : Deed) (c : Client) → IsPlain deed → StaysOn c deed
plain-stays (Queried query) c is = tt
plain-stays (Wrote sql) c is = tt
plain-stays (Evicted place) c is = tt
plain-stays (Took m) c is = absurd is
plain-stays WasCut c is = absurd is
plain-stays Resumed c is = absurd is

pub plain-link : (deed : Deed) (sent : List Message) (c next : Client) → IsPlain deed → KeepsLink deed sent c next → (next.cut ≡ c.cut) × (sent ≢ [] → c.cut ≡ false)
plain-link (Queried query) sent c next is link = link
plain-link (Wrote sql) sent c next is link = link
plain-link (Evicted place) sent c next is link = link
plain-link (Took m) sent c next is link = absurd is
plain-link WasCut sent c next is link = absurd is
plain-link Resumed sent c next is link = absurd is

pub plain-none : (deed : Deed) → IsPlain deed → taken_by deed ≡ []
plain-none (Queried query) is = refl
plain-none (Wrote sql) is = refl
plain-none (Evicted place) is = refl
plain-none (Took m) is = absurd is
plain-none WasCut is = absurd is
plain-none Resumed is = absurd is

-- nothing is sent over a link that is down
pub down-silent : {C : Type 0} (Stands : C → Client → Type 0) (lent : C → Option Answer) (IsOf : Standing C) (Has : Holding C) (k : Setting) (code new : C) (c : Client) (deed : Deed) (lines : List TraceLine) (sent : List Message)
    → Makes Stands lent IsOf Has k code new c deed lines sent → c.cut ≡ true → (sent ≢ [] → c.cut ≡ false) → sent ≡ []
down-silent {C} Stands lent IsOf Has k code new c deed lines sent m down up = by (one-sent m.outcome)
  where
    by : (sent_of m.outcome ≡ []) ⊎ ((x : Message) × (sent_of m.outcome ≡ x ∷ [])) → sent ≡ []
    by (inl none) = m.sent_is ∙ none
    by (inr (x, one)) = absurd (let no : true ≡ false = sym down ∙ up (λ none. absurd (let wrong : x ∷ [] ≡ [] = sym (m.sent_is ∙ one) ∙ none in cc)) in cc)

pub plain-hands : {Z : Type 0} (C : Type 0) (Stands : C → Client → Type 0) (lent : C → Option Answer) (IsOf : Standing C) (Has : Holding C) (k : Setting) (s : Start C Z) (ahead further : Ahead) (line number : ℕ) (failed : Bool) (l new_l : Linking) (w new_w : Writing) (feed : List ℕ) (code new : C)
    (deed : Deed) (lines : List TraceLine) (sent : List Message) (handed : Handed) (calm : Z → l.is_up ≡ true → handed ≡ Whole) (h : Free C Stands lent IsOf Has k s ahead line failed l (IsWritten s w) feed code) → IsPlain deed → ahead (lent code) ≡ Next number (Do deed) further
    → Makes Stands lent IsOf Has k code new (left_by s.past (h.at.course.earlier ++ h.at.course.call ∷ [])) deed lines sent
    → Carries k.says handed l new_l w new_w (spelled sent) (flat_map (line_text k.schema number) lines) → Hands C Stands lent IsOf Has k handed s further number none_taken failed new_l new_w feed new
plain-hands {Z} C Stands lent IsOf Has k s ahead further line number failed l new_l w new_w feed code new deed lines sent handed calm h plain on m carries =
    by (left_by s.past (h.at.course.earlier ++ h.at.course.call ∷ [])).cut refl
  where
    link : (m.next.cut ≡ (left_by s.past (h.at.course.earlier ++ h.at.course.call ∷ [])).cut) × (sent ≢ [] → (left_by s.past (h.at.course.earlier ++ h.at.course.call ∷ [])).cut ≡ false)
    link = plain-link deed sent (left_by s.past (h.at.course.earlier ++ h.at.course.call ∷ [])) m.next plain m.link

    by : (cut : Bool) → (left_by s.past (h.at.course.earlier ++ h.at.course.call ∷ [])).cut ≡ cut → Hands C Stands lent IsOf Has k handed s further number none_taken failed new_l new_w feed new
    by false up =
        hands-up C Stands lent IsOf Has k s ahead further line h.came number Scripted code new deed lines sent on (omega arith) failed l new_l w new_w feed feed h.at m h.free (plain-stays deed (left_by s.past (h.at.course.earlier ++ h.at.course.call ∷ [])) plain) refl handed calm up (link.0 ∙ up)
        (ap (λ ms. spelled ms ++ feed) (sym (plain-none deed plain))) carries
    by true down =
        hands-down C Stands lent IsOf Has k s ahead further line h.came number Scripted code new deed lines sent on (omega arith) failed l new_l w new_w feed feed h.at m h.free (plain-stays deed (left_by s.past (h.at.course.earlier ++ h.at.course.call ∷ [])) plain) refl handed l (link.0 ∙ down)
        (down-silent Stands lent IsOf Has k code new (left_by s.past (h.at.course.earlier ++ h.at.course.call ∷ [])) deed lines sent m down link.1) (plain-none deed plain) refl refl refl carries

-- ---- a line that cuts the link

pub cut-hands : {Z : Type 0} (C : Type 0) (Stands : C → Client → Type 0) (lent : C → Option Answer) (IsOf : Standing C) (Has : Holding C) (k : Setting) (s : Start C Z) (ahead further : Ahead) (line number : ℕ) (failed : Bool) (l mid new_l : Linking) (w new_w : Writing) (feed : List ℕ) (code new : C)
    (lines : List TraceLine) (sent : List Message) (handed : Handed) (h : Free C Stands lent IsOf Has k s ahead line failed l (IsWritten s w) feed code)
    → ahead (lent code) ≡ Next number (Do WasCut) further
    → Makes Stands lent IsOf Has k code new (left_by s.past (h.at.course.earlier ++ h.at.course.call ∷ [])) WasCut lines sent → mid ≡ Rattle.sr_io.specs.Told.hung_up l
    → Carries k.says handed mid new_l w new_w (spelled sent) (flat_map (line_text k.schema number) lines) → Hands C Stands lent IsOf Has k handed s further number none_taken failed new_l new_w feed new
cut-hands {Z} C Stands lent IsOf Has k s ahead further line number failed l mid new_l w new_w feed code new lines sent handed h on m gone carries =
    hands-down C Stands lent IsOf Has k s ahead further line h.came number Scripted code new WasCut lines sent on (omega arith) failed l new_l w new_w feed feed h.at m h.free tt refl handed mid m.link.0 m.link.1 refl
    (ap connections gone ∙ append-nil (connections l)) (ap (λ (x : Linking). x.peers) gone) (ap (λ (x : Linking). x.faults) gone) carries

-- whatever is sent and written, the link stays up or down
pub carries-up : (says : Bool) (handed : Handed) (l new_l : Linking) (w new_w : Writing) (bytes text : List ℕ) → Carries says handed l new_l w new_w bytes text → new_l.is_up ≡ l.is_up
carries-up says Whole l new_l w new_w bytes text (is, said) = ap (λ (x : Linking). x.is_up) is
carries-up says Broken l new_l w new_w bytes text ((part, rose), said) = part.sent.is_up
carries-up says Unwritten l new_l w new_w bytes text (inl is, said) = ap (λ (x : Linking). x.is_up) is
carries-up says Unwritten l new_l w new_w bytes text (inr (part, rose), said) = part.sent.is_up
