-- A run in which one thing more is done that is no step: all else stays as it is.
use Rattle.std.proofs.Common.{◌≡◌, ℕ, ◌+◌, ◌≤◌, arith, Bool, true, false, cond, List, [], ◌∷◌, ◌++◌, append-nil, length, refl, sym, ◌∙◌, ap, subst, Option, None}
use Rattle.std.specs.Prelude.{◌&&◌, ◌||◌, IfSome, Result, flat_map}
use Rattle.std.specs.List.{list_any, All}
use Rattle.std.proofs.lemmas.Grind.{flat_map-append}
use Rattle.sr_cell.specs.declared.fault.Fault.{Fault}
use Rattle.sr_cell.specs.declared.table.Table.{Table}
use Rattle.sr_io.specs.Told.{Linking, Writing, connections}
use Rattle.sr_model.specs.Queries.{Query}
use Rattle.sr_script.specs.declared.line.TraceLine.{TraceLine}
use Rattle.sr_script.specs.TraceText.{line_text}
use Rattle.sr_session.specs.Clients.{Client}
use Rattle.sr_explain.specs.declared.explanation.Explanation.{Explanation}
use Rattle.sr_links.specs.Brought.{AreLawful, Holding}
use Rattle.sr_links.specs.Steps.{Step, Standing, AreFair, OnOne, code_after, given_of, past_after, requests_of}
use Rattle.sr_plan.specs.Plans.{Next, Passed}
use Rattle.sr_dial.specs.Calls.{Call, Done, Explained, Said, Task, Explain, Say, all_done, count_faults, done_in, fails, has_failed, is_fault, number_of, one_if, steps_in, text_of}
use Rattle.sr_dial.specs.Following.{Ahead, did_of}
use Rattle.sr_talk.specs.Serving.{RoseBy, spelled}
use Rattle.sr_dial.specs.Carrying.{SaysAs}
use Rattle.sr_dial.specs.Known.{AreFairlyExplained, IsFrom, Setting, Tells, said_by}
use Rattle.sr_dial.specs.Runs.{AreInPlace, SentAs, left_by, none_taken, taken_after}
use Rattle.sr_dial.specs.Courses.{At, Free, Hands, IsPartWritten, IsThere, IsWritten, Start, Stepped, line_after}
use Rattle.sr_dial.specs.declared.parts.Answer.{Answer}
use Rattle.sr_dial.specs.declared.steps.Handed.TheVariants.{Whole, Unwritten}
use Rattle.sr_dial.proofs.ListLemmas.{any-one, count-one, explained-append, fails-one, few-append, line-append, place-append, steps-append, taken-append, told-one}
use Rattle.sr_dial.proofs.CourseLemmas.{all-step, given-step, given_by, or-no, past-step, past_by, requests-step, sent_by, with_step}
use Rattle.sr_dial.proofs.EndLemmas.{unwritten-at}
use Rattle.sr_dial.proofs.HandLemmas.{half, wrote}
use Rattle.sr_dial.proofs.PlanLemmas.{passed-ahead, passed-answer, passed-goes}
use Rattle.sr_dial.proofs.SteadyLemmas.{steadily-on}
use Rattle.sr_dial.proofs.ToldLemmas.{told-same}
use Rattle.sr_dial.specs.declared.waiting.Count.{Count}

-- It is no step, has that number, and was this task of a plan.
pub record IsQuiet {C : Type 0} (keeps : Bool) (d : Done C) (number : ℕ) (task : Task) : Type 0 where
  pub number_is : number_of d ≡ number
  pub did : did_of keeps d ≡ Passed (number, task)
  pub steps : steps_in (d ∷ []) ≡ []
  pub still : (c : Client) → past_by c d ≡ c
  pub given : given_by d ≡ []
  pub sent : sent_by d ≡ []
  pub fine : has_failed d ≡ false
  pub zero : (n : Count) → taken_after n (d ∷ []) ≡ none_taken
  pub place : (schema : List Table) (line : ℕ) (c : Client) → c.out ≡ None → AreInPlace schema line c (d ∷ [])

pub quiet-explained : {C : Type 0} (keeps : Bool) (number : ℕ) (text : Result Query Fault) (result : Result Explanation Fault) → IsQuiet {C = C} keeps (Explained number text result) number (Explain text)
quiet-explained keeps number text result =
    record { number_is = refl; did = refl; steps = refl; still = λ c. refl; given = refl; sent = refl; fine = refl; zero = λ n. refl; place = λ schema line c free. (free, tt) }

pub quiet-said : {C : Type 0} (keeps : Bool) (number : ℕ) (text : List ℕ) → IsQuiet {C = C} keeps (Said number text) number (Say text)
quiet-said keeps number text =
    record { number_is = refl; did = refl; steps = refl; still = λ c. refl; given = refl; sent = refl; fine = refl; zero = λ n. refl; place = λ schema line c free. (free, tt) }

module _ {Z : Type 0} (C : Type 0) (Stands : C → Client → Type 0) (lent : C → Option Answer) (IsOf : Standing C) (Has : Holding C) (k : Setting) (s : Start C Z) (ahead further : Ahead) (line : ℕ) (came : Count) (number : ℕ) (P Q : List ℕ → Type 0) (code : C) (d : Done C) (task : Task)
    (quiet : IsQuiet k.keeps d number task) (on : ahead (lent code) ≡ Next number task further) (says : (texts : List ℕ) → P texts → Q (texts ++ said_by k d)) where
  stepped-more : (ds : List (Done C)) → Stepped C Stands lent IsOf Has k s ahead line came ds P code → (past_after s.past (steps_in ds)).out ≡ None → AreFairlyExplained IsOf k.limits code (past_after s.past (steps_in ds)) (d ∷ [])
      → Stepped C Stands lent IsOf Has k s (λ answer. further None) number none_taken (ds ++ d ∷ []) Q code
  stepped-more ds h free fair =
      let same : steps_in (ds ++ d ∷ []) ≡ steps_in ds = steps-append ds (d ∷ []) ∙ (ap (λ more. steps_in ds ++ more) quiet.steps ∙ append-nil (steps_in ds)) in
      let texts : flat_map (said_by k) (ds ++ d ∷ []) ≡ flat_map (said_by k) ds ++ said_by k d =
      flat_map-append (said_by k) ds (d ∷ []) ∙ ap (λ x. flat_map (said_by k) ds ++ x) (append-nil (said_by k d)) in
      record {
        in_place = place-append k.schema 0 s.past ds (d ∷ []) h.in_place (quiet.place k.schema (line_after 0 ds) (past_after s.past (steps_in ds)) free);
        line_is = line-append 0 ds (d ∷ []) ∙ quiet.number_is;
        came_is = taken-append none_taken ds (d ∷ []) ∙ quiet.zero (taken_after none_taken ds);
        few = few-append none_taken ds d h.few (subst (λ (n : Count). n.taken ≤ 1000000) (sym (quiet.zero (taken_after none_taken ds))) (omega arith));
        goes = passed-goes k.keeps s.plan ds ahead further (lent code) h.goes h.ahead_is h.answer_is d number task quiet.did on;
        ahead_is = passed-ahead k.keeps s.plan ds ahead further (lent code) h.goes h.ahead_is h.answer_is d number task quiet.did on;
        answer_is = passed-answer k.keeps s.plan ds ahead further (lent code) h.goes h.ahead_is h.answer_is d number task quiet.did;
        from = subst (λ steps. All (IsFrom k.number) (requests_of steps)) (sym same) h.from;
        fair = subst (AreFair IsOf k.limits s.code s.past) (sym same) h.fair;
        lawful = subst (AreLawful Has k.limits k.schema s.code s.past) (sym same) h.lawful;
        explained = explained-append IsOf k.limits s.code s.past ds (d ∷ []) h.explained
            (subst (λ x. AreFairlyExplained IsOf k.limits x (past_after s.past (steps_in ds)) (d ∷ [])) (sym h.code_is) fair);
        code_is = ap (code_after s.code) same ∙ h.code_is;
        stands = subst (λ steps. Stands code (past_after s.past steps)) (sym same) h.stands;
        rests = subst (λ (steps : List (Step C)). (past_after s.past steps).cut ≡ true → (past_after s.past steps).out ≡ None) (sym same) h.rests;
        writes = subst Q (sym texts) (says (flat_map (said_by k) ds) h.writes);
      }

  module _ (failed : Bool) (l : Linking) (feed : List ℕ) (h : At C Stands lent IsOf Has k s ahead line came failed l P feed code) (free : (left_by s.past (h.course.earlier ++ h.course.call ∷ [])).out ≡ None)
      (fair : AreFairlyExplained IsOf k.limits code (left_by s.past (h.course.earlier ++ h.course.call ∷ [])) (d ∷ [])) where
    abbrev longer : Call C
    longer = with_step h.course.call d h.course.call.torn h.course.call.told h.course.call.left

    given-same : given_of (steps_in (done_in longer)) ≡ given_of (steps_in (done_in h.course.call))
    given-same = given-step h.course.call d h.course.call.torn h.course.call.told h.course.call.left ∙ (ap (λ ms. given_of (steps_in (done_in h.course.call)) ++ ms) quiet.given ∙ append-nil (given_of (steps_in (done_in h.course.call))))

    requests-same : requests_of (steps_in (done_in longer)) ≡ requests_of (steps_in (done_in h.course.call))
    requests-same = requests-step h.course.call d h.course.call.torn h.course.call.told h.course.call.left ∙ (ap (λ ms. requests_of (steps_in (done_in h.course.call)) ++ ms) quiet.sent ∙ append-nil (requests_of (steps_in (done_in h.course.call))))

    fails-same : fails longer ≡ fails h.course.call
    fails-same = fails-one h.course.call.others d ∙ or-no (fails h.course.call) (has_failed d) quiet.fine

    past-same : left_by s.past (h.course.earlier ++ longer ∷ []) ≡ left_by s.past (h.course.earlier ++ h.course.call ∷ [])
    past-same = past-step s.past h.course.earlier h.course.call d h.course.call.torn h.course.call.told h.course.call.left ∙ quiet.still (left_by s.past (h.course.earlier ++ h.course.call ∷ []))

    there-same : (down : Bool) → IsThere down h.course.earlier h.course.call s.linking l → IsThere down h.course.earlier longer s.linking l
    there-same true there = there ∙ ap (λ x. connections s.linking ++ x) (told-one h.course.earlier h.course.call ∙ sym (told-one h.course.earlier longer))
    there-same false (present, past, none, connected) = (present, past, fails-same ∙ none, connected)

    pub at-quiet : At C Stands lent IsOf Has k s (λ answer. further None) number none_taken failed l Q feed code
    at-quiet = record {
      course = record {
        earlier = h.course.earlier;
        call = longer;
        are = h.course.are;
        is = record {
          first = h.course.is.first;
          was_cut = h.course.is.was_cut;
          on_one = subst (OnOne h.course.call.first.past) (sym (steps-append h.course.call.others (d ∷ []) ∙ (ap (λ more. steps_in h.course.call.others ++ more) quiet.steps ∙ append-nil (steps_in h.course.call.others)))) h.course.is.on_one;
        };
        carried = h.course.carried;
        before_dialled = h.course.before_dialled;
        dialled = h.course.dialled;
        before_told = h.course.before_told;
        is_told = told-same s.linking.peers h.course.call longer refl given-same refl refl h.course.is_told;
        left = h.course.left;
        some = λ none. h.course.some (sym requests-same ∙ none);
        taken = subst (λ ms. IfSome h.course.call.told (λ t. t.taken ≡ spelled ms ++ h.course.call.left)) (sym given-same) h.course.taken;
        steps = subst (λ ds. Stepped C Stands lent IsOf Has k s (λ answer. further None) number none_taken ds Q code)
            (sym (all-step h.course.earlier h.course.call d h.course.call.torn h.course.call.told h.course.call.left))
            (stepped-more (all_done (h.course.earlier ++ h.course.call ∷ [])) h.course.steps free fair);
      };
      sent = subst (λ ms. IfSome h.course.call.told (λ t. SentAs h.course.call.torn ms t.sent)) (sym requests-same) h.sent;
      counted = λ yes. fails-same ∙ h.counted yes;
      faults = subst (λ n. RoseBy s.linking.faults n l.faults)
          (sym (count-one h.course.earlier longer ∙ (ap (λ b. count_faults h.course.earlier + one_if (b && is_fault h.course.call)) fails-same ∙ sym (count-one h.course.earlier h.course.call)))) h.faults;
      there = subst (λ b. IsThere b h.course.earlier longer s.linking l) (sym (ap (λ (c : Client). c.cut) past-same))
          (there-same (left_by s.past (h.course.earlier ++ h.course.call ∷ [])).cut h.there);
      failed_is = any-one h.course.earlier longer ∙ (ap (λ b. list_any fails h.course.earlier || b) fails-same ∙ (sym (any-one h.course.earlier h.course.call) ∙ h.failed_is));
      calm = h.calm;
      peers_stay = h.peers_stay;
      up = λ still_up. h.up (sym (ap (λ (c : Client). c.cut) past-same) ∙ still_up);
      steadily = steadily-on Z (count_faults (h.course.earlier ++ h.course.call ∷ [])) (count_faults (h.course.earlier ++ longer ∷ [])) (length h.course.earlier + 1) s.linking l l
          (count-one h.course.earlier longer ∙ (ap (λ b. count_faults h.course.earlier + one_if (b && is_fault h.course.call)) fails-same ∙ sym (count-one h.course.earlier h.course.call))) refl refl h.steadily;
    }

-- its text is written, or not
quiet-hands : {Z : Type 0} (C : Type 0) (Stands : C → Client → Type 0) (lent : C → Option Answer) (IsOf : Standing C) (Has : Holding C) (k : Setting) (s : Start C Z) (ahead further : Ahead) (line number : ℕ) (failed : Bool) (l : Linking) (w new_w : Writing) (feed : List ℕ) (code : C)
    (d : Done C) (task : Task) (said : Bool) (h : Free C Stands lent IsOf Has k s ahead line failed l (IsWritten s w) feed code) → IsQuiet k.keeps d number task → ahead (lent code) ≡ Next number task further
    → AreFairlyExplained IsOf k.limits code (left_by s.past (h.at.course.earlier ++ h.at.course.call ∷ [])) (d ∷ []) → SaysAs k.says said w new_w (text_of k.schema k.number d)
    → Hands C Stands lent IsOf Has k (cond said Whole Unwritten) s (λ answer. further None) number none_taken failed l new_w feed code
quiet-hands {Z} C Stands lent IsOf Has k s ahead further line number failed l w new_w feed code d task true h quiet on fair says =
    at-quiet C Stands lent IsOf Has k s ahead further line h.came number (IsWritten s w) (IsWritten s new_w) code d task quiet on (wrote k.says s w new_w (text_of k.schema k.number d) says) failed l feed h.at h.free fair
quiet-hands {Z} C Stands lent IsOf Has k s ahead further line number failed l w new_w feed code d task false h quiet on fair says =
    unwritten-at C Stands lent IsOf Has k s (λ answer. further None) number none_taken l feed code new_w failed
    (at-quiet C Stands lent IsOf Has k s ahead further line h.came number (IsWritten s w) (IsPartWritten k.says s new_w) code d task quiet on (half k.says s w new_w (text_of k.schema k.number d) says) failed l feed h.at h.free fair)

pub explains-hands : {Z : Type 0} (C : Type 0) (Stands : C → Client → Type 0) (lent : C → Option Answer) (IsOf : Standing C) (Has : Holding C) (k : Setting) (s : Start C Z) (ahead further : Ahead) (line number : ℕ) (failed : Bool) (l : Linking) (w new_w : Writing) (feed : List ℕ) (code : C)
    (text : Result Query Fault) (lines : List TraceLine) (said : Bool) (h : Free C Stands lent IsOf Has k s ahead line failed l (IsWritten s w) feed code) → ahead (lent code) ≡ Next number (Explain text) further
    → Tells IsOf k code (left_by s.past (h.at.course.earlier ++ h.at.course.call ∷ [])) text lines → SaysAs k.says said w new_w (flat_map (line_text k.schema number) lines)
    → Hands C Stands lent IsOf Has k (cond said Whole Unwritten) s (λ answer. further None) number none_taken failed l new_w feed code
explains-hands {Z} C Stands lent IsOf Has k s ahead further line number failed l w new_w feed code text lines said h on t says =
    quiet-hands C Stands lent IsOf Has k s ahead further line number failed l w new_w feed code (Explained number text t.result) (Explain text) said h (quiet-explained k.keeps number text t.result) on (t.fair, tt)
    (subst (λ ls. SaysAs k.says said w new_w (flat_map (line_text k.schema number) ls)) t.lines_are says)

pub says-hands : {Z : Type 0} (C : Type 0) (Stands : C → Client → Type 0) (lent : C → Option Answer) (IsOf : Standing C) (Has : Holding C) (k : Setting) (s : Start C Z) (ahead further : Ahead) (line number : ℕ) (failed : Bool) (l : Linking) (w new_w : Writing) (feed : List ℕ) (code : C)
    (text : List ℕ) (said : Bool) → Free C Stands lent IsOf Has k s ahead line failed l (IsWritten s w) feed code → ahead (lent code) ≡ Next number (Say text) further → SaysAs k.says said w new_w text
    → Hands C Stands lent IsOf Has k (cond said Whole Unwritten) s (λ answer. further None) number none_taken failed l new_w feed code
says-hands {Z} C Stands lent IsOf Has k s ahead further line number failed l w new_w feed code text said h on says =
    quiet-hands C Stands lent IsOf Has k s ahead further line number failed l w new_w feed code (Said number text) (Say text) said h (quiet-said k.keeps number text) on tt says
