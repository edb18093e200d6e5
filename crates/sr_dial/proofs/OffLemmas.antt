-- Runs that are broken off for want of memory.
use Rattle.std.proofs.Common.{◌≡◌, ℕ, ◌≤◌, Bool, true, false, List, [], ◌∷◌, ◌++◌, arith, append-nil, inl, inr, refl, sym, ◌∙◌, ap, subst, Option, Some, None, Result}
use Rattle.std.specs.Prelude.{◌≢◌, ◌⊎◌, IfSome, flat_map}
use Rattle.std.proofs.lemmas.List.Elements.{All-nil}
use Rattle.sr_cell.specs.declared.fault.Fault.{Fault}
use Rattle.sr_io.specs.Pieces.{SendsPart}
use Rattle.sr_io.specs.Told.{Connection, Linking, OnlyFaults, Writing, connected_at, connections, hung_up, sent_on}
use Rattle.sr_message.specs.declared.message.Message.{Message}
use Rattle.sr_model.specs.Queries.{Query}
use Rattle.sr_script.specs.declared.line.TraceLine.{TraceLine}
use Rattle.sr_script.specs.TraceText.{line_text}
use Rattle.sr_session.specs.Clients.{Client}
use Rattle.sr_session.specs.Rules.{sent_of}
use Rattle.sr_links.specs.Brought.{Holding}
use Rattle.sr_links.specs.Steps.{Standing, Deed, Resumed, StaysOn, WasCut, requests_of, taken_by}
use Rattle.sr_dial.specs.Calls.{Call, Cause, Scripted, Do, Done, Explained, Said, Task, Explain, Say, all_done, calls_told, count_faults, done_in, is_failed, steps_in, text_of}
use Rattle.sr_talk.specs.Moves.{SendsAs}
use Rattle.sr_talk.specs.Reading.{Reads}
use Rattle.sr_talk.specs.Serving.{RoseBy, spelled}
use Rattle.sr_talk.proofs.MoveLemmas.{nothing-sent}
use Rattle.sr_talk.proofs.SomeLemmas.{all-written, none-written, prefix-behind}
use Rattle.sr_dial.specs.Carrying.{CarriesInPart, SaysInPart, spoken}
use Rattle.sr_dial.specs.Known.{AreFairlyExplained, IsFrom, IsPlain, KeepsLink, Makes, Setting, Tells, said_by}
use Rattle.sr_dial.specs.Runs.{IsCarried, IsInPlace, IsToldIf, SendsMost, SentAs, left_by, more_taken, none_taken}
use Rattle.sr_dial.specs.Courses.{At, BreaksOff, Broken, Course, Free, IsReady, IsSomeWritten, IsWritten, Rests, Start, Unbegun}
use Rattle.sr_dial.specs.declared.parts.Answer.{Answer}
use Rattle.sr_dial.specs.declared.waiting.Count.{Count}
use Rattle.sr_dial.specs.Following.{Ahead}
use Rattle.sr_plan.specs.Plans.{Next}
use Rattle.sr_dial.proofs.ListLemmas.{calls-one, dialled-one}
use Rattle.sr_dial.proofs.CourseLemmas.{at-down, at-up, count-still, made-of, weaken-told}
use Rattle.sr_dial.proofs.BrokenLemmas.{IsShort, at-read, fail-ends, one-sent, send-short}
use Rattle.sr_dial.proofs.BeginLemmas.{begin-alone, begin-short, begins}
use Rattle.sr_dial.proofs.EndLemmas.{most-of}
use Rattle.sr_dial.proofs.HandLemmas.{down-silent, plain-link, plain-none, plain-stays}
use Rattle.sr_dial.proofs.LineLemmas.{resting}
use Rattle.sr_dial.proofs.PlanLemmas.{GoesOn}
use Rattle.sr_dial.proofs.QuietLemmas.{IsQuiet, at-quiet, quiet-explained, quiet-said}
use Rattle.sr_dial.proofs.ToldLemmas.{told-more}

module _ {C Z : Type 0} (says : Bool) (s : Start C Z) (w new_w : Writing) (text : List ℕ) where
  -- behind all texts a beginning of one more is written
  pub partly : SaysInPart says w new_w text → (texts : List ℕ) → IsWritten s w texts → IsSomeWritten s new_w (texts ++ spoken says text)
  partly (part, same) texts (before, faults) = (prefix-behind s.writing.written w.written new_w.written texts (spoken says text) before part, same ∙ faults)

-- what was sent, whole or not
pub all-or-some : (whole : Bool) (l new_l : Linking) (bytes : List ℕ) → l.faults ≤ new_l.faults → SendsAs whole l new_l bytes → (new_l ≡ sent_on bytes l) ⊎ (SendsPart l new_l bytes × (l.faults ≤ new_l.faults))
all-or-some true l new_l bytes never is = inl is
all-or-some false l new_l bytes never (part, rose) = inr (part, never)

-- all is a beginning
pub all-is-some : {C Z : Type 0} (s : Start C Z) (w : Writing) (texts : List ℕ) → IsWritten s w texts → IsSomeWritten s w texts
all-is-some {C} {Z} s w texts (is, same) = (all-written s.writing.written w.written texts is, same)

module _ {Z : Type 0} (C : Type 0) (Stands : C → Client → Type 0) (lent : C → Option Answer) (IsOf : Standing C) (Has : Holding C) (k : Setting) (s : Start C Z) where
  -- ---- wherever it is

  module _ (ahead : Ahead) (line : ℕ) (P : List ℕ → Type 0) (feed : List ℕ) (code : C) (w : Writing) (written : (texts : List ℕ) → P texts → IsSomeWritten s w texts) where
    off-course : (came : Count) (l : Linking) (h : Course C Stands lent IsOf Has k s ahead line came P feed code) → IfSome h.call.told (λ t. SentAs h.call.torn (requests_of (steps_in (done_in h.call))) t.sent)
        → connections l ≡ connections s.linking ++ calls_told (h.earlier ++ h.call ∷ []) → RoseBy s.linking.faults (count_faults (h.earlier ++ h.call ∷ [])) l.faults → BreaksOff C Stands lent IsOf Has k s l w
    off-course came l h sent made faults =
        let texts = written (flat_map (said_by k) (all_done (h.earlier ++ h.call ∷ []))) h.steps.writes in
        record {
          calls = h.earlier ++ h.call ∷ [];
          earlier = h.earlier;
          cut_short = Some h.call;
          calls_are = refl;
          are = calls-one s.past h.earlier h.call h.are h.is;
          in_place = h.steps.in_place;
          few = h.steps.few;
          from = h.steps.from;
          goes = h.steps.goes;
          fair = h.steps.fair;
          lawful = h.steps.lawful;
          explained = h.steps.explained;
          carried = h.carried;
          last_carried = record {
            taken = h.taken;
            sent = weaken-told (λ t. SentAs h.call.torn (requests_of (steps_in (done_in h.call))) t.sent) (λ t. SendsMost (requests_of (steps_in (done_in h.call))) t.sent) h.call.told
                (λ t. most-of h.call.torn (requests_of (steps_in (done_in h.call))) t.sent h.some) sent;
            counted = λ whole. absurd (let wrong : true ≡ false = whole in cc);
          };
          made = made;
          dialled = dialled-one s.address h.earlier h.call h.before_dialled h.dialled;
          each_told = told-more s.linking.peers h.earlier h.call h.before_told h.is_told;
          faults = faults;
          written = texts.0;
          write_faults = texts.1;
        }

    pub off-at : (came : Count) (failed : Bool) (l : Linking) → At C Stands lent IsOf Has k s ahead line came failed l P feed code → BreaksOff C Stands lent IsOf Has k s l w
    off-at came failed l h =
        off-course came l h.course h.sent (made-of (left_by s.past (h.course.earlier ++ h.course.call ∷ [])).cut h.course.earlier h.course.call s.linking l h.there) h.faults

    pub off-short : (l new_l : Linking) → l.faults ≤ new_l.faults → IsShort C Stands lent IsOf Has k s ahead line l new_l P feed code → BreaksOff C Stands lent IsOf Has k s new_l w
    off-short l new_l never h =
        let before = h.before in
        let none = count-still h.course.earlier h.course.call h.not_yet in
        off-course h.came new_l h.course h.sent h.made (omega (arith, before, none, never))

    pub off-broken : (l : Linking) → Broken C Stands lent IsOf Has k s ahead line l P feed code → BreaksOff C Stands lent IsOf Has k s l w
    off-broken l h =
        let before = h.faults in
        let none = count-still h.course.earlier h.course.call h.not_yet in
        off-course h.came l h.course h.sent h.made (omega (arith, before, none))

  -- before anything was done
  pub off-unbegun : (ahead : Ahead) (line : ℕ) (failed : Bool) (l : Linking) (w : Writing) (code : C) → Unbegun C Stands lent IsOf Has k s ahead line failed l (IsWritten s w) code → BreaksOff C Stands lent IsOf Has k s l w
  off-unbegun ahead line failed l w code u =
      let texts = all-is-some s w [] u.written in
      record {
        calls = [];
        earlier = [];
        cut_short = None;
        calls_are = refl;
        are = tt;
        in_place = tt;
        few = tt;
        from = All-nil (IsFrom k.number);
        goes = tt;
        fair = tt;
        lawful = tt;
        explained = tt;
        carried = All-nil (IsCarried false);
        last_carried = tt;
        made = ap connections u.links ∙ sym (append-nil (connections s.linking));
        dialled = All-nil (λ (t : Connection). t.address ≡ s.address);
        each_told = All-nil (IsToldIf s.linking.peers);
        faults = subst (λ (x : Linking). RoseBy s.linking.faults 0 x.faults) (sym u.links) (omega arith);
        written = texts.0;
        write_faults = texts.1;
      }

  module _ (ahead : Ahead) (line : ℕ) (failed : Bool) (l : Linking) (w : Writing) (feed : List ℕ) (code : C) where
    pub off-free : Free C Stands lent IsOf Has k s ahead line failed l (IsWritten s w) feed code → BreaksOff C Stands lent IsOf Has k s l w
    off-free f = off-at ahead line (IsWritten s w) feed code w (all-is-some s w) f.came failed l f.at

    pub off-ready : IsReady C Stands lent IsOf Has k s ahead line failed l (IsWritten s w) feed code → BreaksOff C Stands lent IsOf Has k s l w
    off-ready (inl f) = off-free f
    off-ready (inr u) = off-unbegun ahead line failed l w code u

    -- while bytes are taken
    pub off-read : (came : Count) (new_l : Linking) (after : List ℕ) (h : At C Stands lent IsOf Has k s ahead line came failed l (IsWritten s w) feed code)
        → (left_by s.past (h.course.earlier ++ h.course.call ∷ [])).cut ≡ false → Reads l new_l feed [] after → BreaksOff C Stands lent IsOf Has k s new_l w
    off-read came new_l after h up r =
        off-at ahead line (IsWritten s w) after code w (all-is-some s w) came failed new_l (at-read C Stands lent IsOf Has k s ahead line came failed l new_l (IsWritten s w) feed [] after code h up r)

  -- ---- while a step is carried out

  module _ (ahead further : Ahead) (line : ℕ) (came : Count) (number : ℕ) (cause : Cause) (code new : C) (deed : Deed) (lines : List TraceLine) (sent : List Message)
      (on : GoesOn cause ahead (lent code) number deed further) (most : (more_taken cause sent came).taken ≤ 1000000) (failed : Bool) (l new_l : Linking) (w new_w : Writing) (feed left : List ℕ) (h : At C Stands lent IsOf Has k s ahead line came failed l (IsWritten s w) feed code)
      (m : Makes Stands lent IsOf Has k code new (left_by s.past (h.course.earlier ++ h.course.call ∷ [])) deed lines sent)
      (place : IsInPlace k.schema cause line number deed (left_by s.past (h.course.earlier ++ h.course.call ∷ []))) (stays : StaysOn (left_by s.past (h.course.earlier ++ h.course.call ∷ [])) deed)
      (not_failed : is_failed cause ≡ false) where
    -- over a link that is up
    pub up-off : (left_by s.past (h.course.earlier ++ h.course.call ∷ [])).cut ≡ false → m.next.cut ≡ false → feed ≡ spelled (taken_by deed) ++ left
        → CarriesInPart k.says l new_l w new_w (spelled sent) (flat_map (line_text k.schema number) lines) → BreaksOff C Stands lent IsOf Has k s new_l new_w
    up-off up still fed (inl is, says) =
        off-at further number (IsSomeWritten s new_w) left new new_w (λ texts is. is) (more_taken cause sent came) failed new_l
        (at-up C Stands lent IsOf Has k s ahead further line came number cause (IsWritten s w) (IsSomeWritten s new_w) code new deed lines sent on most (partly k.says s w new_w (flat_map (line_text k.schema number) lines) says) failed l new_l feed left h m place stays not_failed up still fed is)
    up-off up still fed (inr (part, never), says) =
        off-short further number (IsSomeWritten s new_w) left new new_w (λ texts is. is) l new_l never
        (send-short C Stands lent IsOf Has k s ahead further line came number cause (IsWritten s w) (IsSomeWritten s new_w) code new deed lines sent on most (partly k.says s w new_w (flat_map (line_text k.schema number) lines) says) failed l new_l feed left h m place stays not_failed up fed part)

    -- where it is down then
    pub down-off : (mid : Linking) → m.next.cut ≡ true → sent ≡ [] → taken_by deed ≡ [] → connections mid ≡ connections l → mid.peers ≡ l.peers → mid.faults ≡ l.faults
        → CarriesInPart k.says mid new_l w new_w (spelled sent) (flat_map (line_text k.schema number) lines) → BreaksOff C Stands lent IsOf Has k s new_l new_w
    down-off mid down none took same peers quiet carries = by (subst (λ ms. CarriesInPart k.says mid new_l w new_w (spelled ms) (flat_map (line_text k.schema number) lines)) none carries)
      where
        by : CarriesInPart k.says mid new_l w new_w [] (flat_map (line_text k.schema number) lines) → BreaksOff C Stands lent IsOf Has k s new_l new_w
        by (inl is, says) =
            off-at further number (IsSomeWritten s new_w) feed new new_w (λ texts is. is) (more_taken cause sent came) failed new_l
            (at-down C Stands lent IsOf Has k s ahead further line came number cause (IsWritten s w) (IsSomeWritten s new_w) code new deed lines sent on most (partly k.says s w new_w (flat_map (line_text k.schema number) lines) says) failed l new_l feed left h m place stays not_failed down none took
            (ap connections (is ∙ nothing-sent mid) ∙ same) (ap (λ (x : Linking). x.peers) is ∙ peers) (ap (λ (x : Linking). x.faults) is ∙ quiet))
        by (inr (part, never), says) = absurd (let fewer = part.fewer in omega (arith, fewer))

  -- a line that leaves the link as it is
  pub plain-off : (ahead further : Ahead) (line number : ℕ) (failed : Bool) (l new_l : Linking) (w new_w : Writing) (feed : List ℕ) (code new : C)
      (deed : Deed) (lines : List TraceLine) (sent : List Message) (h : Free C Stands lent IsOf Has k s ahead line failed l (IsWritten s w) feed code) → IsPlain deed → ahead (lent code) ≡ Next number (Do deed) further
      → Makes Stands lent IsOf Has k code new (left_by s.past (h.at.course.earlier ++ h.at.course.call ∷ [])) deed lines sent
      → CarriesInPart k.says l new_l w new_w (spelled sent) (flat_map (line_text k.schema number) lines) → BreaksOff C Stands lent IsOf Has k s new_l new_w
  plain-off ahead further line number failed l new_l w new_w feed code new deed lines sent h plain on m carries =
      by (left_by s.past (h.at.course.earlier ++ h.at.course.call ∷ [])).cut refl
    where
      link : (m.next.cut ≡ (left_by s.past (h.at.course.earlier ++ h.at.course.call ∷ [])).cut) × (sent ≢ [] → (left_by s.past (h.at.course.earlier ++ h.at.course.call ∷ [])).cut ≡ false)
      link = plain-link deed sent (left_by s.past (h.at.course.earlier ++ h.at.course.call ∷ [])) m.next plain m.link

      by : (cut : Bool) → (left_by s.past (h.at.course.earlier ++ h.at.course.call ∷ [])).cut ≡ cut → BreaksOff C Stands lent IsOf Has k s new_l new_w
      by false up =
          up-off ahead further line h.came number Scripted code new deed lines sent on (omega arith) failed l new_l w new_w feed feed h.at m h.free (plain-stays deed (left_by s.past (h.at.course.earlier ++ h.at.course.call ∷ [])) plain) refl up (link.0 ∙ up)
          (ap (λ ms. spelled ms ++ feed) (sym (plain-none deed plain))) carries
      by true down =
          down-off ahead further line h.came number Scripted code new deed lines sent on (omega arith) failed l new_l w new_w feed feed h.at m h.free (plain-stays deed (left_by s.past (h.at.course.earlier ++ h.at.course.call ∷ [])) plain) refl l (link.0 ∙ down)
          (down-silent Stands lent IsOf Has k code new (left_by s.past (h.at.course.earlier ++ h.at.course.call ∷ [])) deed lines sent m down link.1) (plain-none deed plain) refl refl refl carries

  -- a line that cuts the link
  pub cut-off : (ahead further : Ahead) (line number : ℕ) (failed : Bool) (l mid new_l : Linking) (w new_w : Writing) (feed : List ℕ) (code new : C)
      (lines : List TraceLine) (sent : List Message) (h : Free C Stands lent IsOf Has k s ahead line failed l (IsWritten s w) feed code) → ahead (lent code) ≡ Next number (Do WasCut) further
      → Makes Stands lent IsOf Has k code new (left_by s.past (h.at.course.earlier ++ h.at.course.call ∷ [])) WasCut lines sent → mid ≡ hung_up l
      → CarriesInPart k.says mid new_l w new_w (spelled sent) (flat_map (line_text k.schema number) lines) → BreaksOff C Stands lent IsOf Has k s new_l new_w
  cut-off ahead further line number failed l mid new_l w new_w feed code new lines sent h on m gone carries =
      down-off ahead further line h.came number Scripted code new WasCut lines sent on (omega arith) failed l new_l w new_w feed feed h.at m h.free tt refl mid m.link.0 m.link.1 refl
      (ap connections gone ∙ append-nil (connections l)) (ap (λ (x : Linking). x.peers) gone) (ap (λ (x : Linking). x.faults) gone) carries

  -- what is no step
  module _ (ahead further : Ahead) (line number : ℕ) (failed : Bool) (l : Linking) (w new_w : Writing) (feed : List ℕ) (code : C) (h : Free C Stands lent IsOf Has k s ahead line failed l (IsWritten s w) feed code) where
    quiet-off : (d : Done C) (task : Task) → IsQuiet k.keeps d number task → ahead (lent code) ≡ Next number task further
        → AreFairlyExplained IsOf k.limits code (left_by s.past (h.at.course.earlier ++ h.at.course.call ∷ [])) (d ∷ []) → SaysInPart k.says w new_w (text_of k.schema k.number d) → BreaksOff C Stands lent IsOf Has k s l new_w
    quiet-off d task quiet on fair says =
        off-at (λ answer. further None) number (IsSomeWritten s new_w) feed code new_w (λ texts is. is) none_taken failed l
        (at-quiet C Stands lent IsOf Has k s ahead further line h.came number (IsWritten s w) (IsSomeWritten s new_w) code d task quiet on (partly k.says s w new_w (text_of k.schema k.number d) says) failed l feed h.at h.free fair)

    pub explains-off : (text : Result Query Fault) (lines : List TraceLine) → ahead (lent code) ≡ Next number (Explain text) further → Tells IsOf k code (left_by s.past (h.at.course.earlier ++ h.at.course.call ∷ [])) text lines
        → SaysInPart k.says w new_w (flat_map (line_text k.schema number) lines) → BreaksOff C Stands lent IsOf Has k s l new_w
    explains-off text lines on t says =
        quiet-off (Explained number text t.result) (Explain text) (quiet-explained k.keeps number text t.result) on (t.fair, tt) (subst (λ ls. SaysInPart k.says w new_w (flat_map (line_text k.schema number) ls)) t.lines_are says)

    pub says-off : (text : List ℕ) → ahead (lent code) ≡ Next number (Say text) further → SaysInPart k.says w new_w text → BreaksOff C Stands lent IsOf Has k s l new_w
    says-off text on says = quiet-off (Said number text) (Say text) (quiet-said k.keeps number text) on tt says

  -- ---- a resume

  module _ (ahead further : Ahead) (line number : ℕ) (failed : Bool) (l new_l : Linking) (w new_w : Writing) (feed : List ℕ) (code new : C) (lines : List TraceLine) (sent : List Message)
      (on : ahead (lent code) ≡ Next number (Do Resumed) further) (ready : IsReady C Stands lent IsOf Has k s ahead line failed l (IsWritten s w) feed code) (act : (c : Client) → Stands code c → Makes Stands lent IsOf Has k code new c Resumed lines sent) where
    -- the link is up: nothing is sent
    pub up-still-off : sent ≡ [] → CarriesInPart k.says l new_l w new_w (spelled sent) (flat_map (line_text k.schema number) lines) → BreaksOff C Stands lent IsOf Has k s new_l new_w
    up-still-off none carries = by ready
      where
        by : IsReady C Stands lent IsOf Has k s ahead line failed l (IsWritten s w) feed code → BreaksOff C Stands lent IsOf Has k s new_l new_w
        by (inl f) =
            let m = act (left_by s.past (f.at.course.earlier ++ f.at.course.call ∷ [])) f.at.course.steps.stands in
            let link = subst (λ ms. KeepsLink Resumed ms (left_by s.past (f.at.course.earlier ++ f.at.course.call ∷ [])) m.next) none m.link in
            up-off ahead further line f.came number Scripted code new Resumed lines sent on (omega arith) failed l new_l w new_w feed feed f.at m f.free link.0 refl link.0 link.1 refl carries
        by (inr u) =
            let m = act s.past (subst (λ x. Stands x s.past) (sym u.code_is) u.stands) in
            let link = subst (λ ms. KeepsLink Resumed ms s.past m.next) none m.link in
            absurd (let wrong : true ≡ false = sym u.cut ∙ link.0 in cc)

    -- it is down
    module _ (more : sent ≡ [] → ⊥) where
      r : Rests C Stands lent IsOf Has k s ahead line failed l (IsWritten s w) code
      r = resting C Stands lent IsOf Has k s ahead further line number failed l new_l w new_w feed code new lines sent on ready act more

      m : Makes Stands lent IsOf Has k code new (left_by s.past r.calls) Resumed lines sent
      m = act (left_by s.past r.calls) r.steps.stands

      one : (x : Message) × (sent ≡ x ∷ [])
      one = by (one-sent m.outcome)
        where
          by : (sent_of m.outcome ≡ []) ⊎ ((x : Message) × (sent_of m.outcome ≡ x ∷ [])) → (x : Message) × (sent ≡ x ∷ [])
          by (inl none) = absurd (more (m.sent_is ∙ none))
          by (inr (x, is)) = (x, m.sent_is ∙ is)

      -- somebody is dialled
      pub dialled-off : (mid : Linking) → (l.peers ≡ Some [] → ⊥) → mid ≡ connected_at (Some s.address) l → CarriesInPart k.says mid new_l w new_w (spelled sent) (flat_map (line_text k.schema number) lines)
          → BreaksOff C Stands lent IsOf Has k s new_l new_w
      dialled-off mid peers made carries = by (subst (λ x. CarriesInPart k.says x new_l w new_w (spelled sent) (flat_map (line_text k.schema number) lines)) made carries)
        where
          by : CarriesInPart k.says (connected_at (Some s.address) l) new_l w new_w (spelled sent) (flat_map (line_text k.schema number) lines) → BreaksOff C Stands lent IsOf Has k s new_l new_w
          by (inl is, says) =
              off-at further number (IsSomeWritten s new_w) [] new new_w (λ texts is. is) none_taken failed new_l
              (begins C Stands lent IsOf Has k s ahead further line number failed (IsWritten s w) (IsSomeWritten s new_w) l code new lines sent on (partly k.says s w new_w (flat_map (line_text k.schema number) lines) says) r m (r.steps.rests r.cut) one.0 one.1 new_l peers is)
          by (inr (part, never), says) =
              off-short further number (IsSomeWritten s new_w) [] new new_w (λ texts is. is) l new_l never
              (begin-short C Stands lent IsOf Has k s ahead further line number failed (IsWritten s w) (IsSomeWritten s new_w) l code new lines sent on (partly k.says s w new_w (flat_map (line_text k.schema number) lines) says) r m (r.steps.rests r.cut) one.0 one.1 new_l peers part)

      -- nobody is, with a part of the lines or none of them
      pub alone-off : OnlyFaults l new_l → l.faults ≤ new_l.faults → SaysInPart k.says w new_w (flat_map (line_text k.schema number) lines) → BreaksOff C Stands lent IsOf Has k s new_l new_w
      alone-off only never says =
          off-short further number (IsSomeWritten s new_w) [] new new_w (λ texts is. is) l new_l never
          (begin-alone C Stands lent IsOf Has k s ahead further line number failed (IsWritten s w) (IsSomeWritten s new_w) l code new lines sent on (partly k.says s w new_w (flat_map (line_text k.schema number) lines) says) r m (r.steps.rests r.cut) one.0 one.1 new_l only)

  -- ---- the link failed

  pub fails-off : (ahead : Ahead) (line : ℕ) (l new_l : Linking) (w new_w : Writing) (feed : List ℕ) (code new : C) (lines : List TraceLine)
      (b : Broken C Stands lent IsOf Has k s ahead line l (IsWritten s w) feed code) → ((c : Client) → Stands code c → Makes Stands lent IsOf Has k code new c WasCut lines []) → new_l ≡ hung_up l
      → SaysInPart k.says w new_w (flat_map (line_text k.schema line) lines) → BreaksOff C Stands lent IsOf Has k s new_l new_w
  fails-off ahead line l new_l w new_w feed code new lines b cut gone says =
      let m = cut (left_by s.past (b.course.earlier ++ b.course.call ∷ [])) b.course.steps.stands in
      let f = fail-ends C Stands lent IsOf Has k s ahead line (IsWritten s w) (IsSomeWritten s new_w) l feed code new lines (partly k.says s w new_w (flat_map (line_text k.schema line) lines) says) b m in
      subst (λ x. BreaksOff C Stands lent IsOf Has k s x new_w) (sym gone)
      (off-at ahead line (IsSomeWritten s new_w) feed new new_w (λ texts is. is) f.came true (hung_up l) f.at)
