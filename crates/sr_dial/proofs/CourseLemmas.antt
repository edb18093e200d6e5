-- A run, one step more.
use Rattle.std.proofs.Common.{◌≡◌, ℕ, ◌+◌, ◌≤◌, Bool, true, false, List, [], ◌∷◌, ◌++◌, arith, append_assoc, append-nil, length, refl, sym, ◌∙◌, ap, subst, Option, Some, None, option_map, option_to_list}
use Rattle.std.specs.Prelude.{◌≢◌, ◌&&◌, ◌||◌, IfSome, flat_map}
use Rattle.std.specs.List.{list_any, All}
use Rattle.std.proofs.lemmas.Grind.{flat_map-append}
use Rattle.std.proofs.lemmas.List.Elements.{All-append}
use Rattle.sr_io.specs.Told.{Connection, Linking, connections, sends, sent_on}
use Rattle.sr_message.specs.declared.message.Message.{Message}
use Rattle.sr_script.specs.declared.line.TraceLine.{TraceLine}
use Rattle.sr_script.specs.TraceText.{line_text}
use Rattle.sr_session.specs.Clients.{Client}
use Rattle.sr_session.specs.Rules.{sent_of}
use Rattle.sr_links.specs.Brought.{AreLawful, Holding, IsLawful}
use Rattle.sr_links.specs.Steps.{Step, Standing, Deed, IsFair, AreFair, OnOne, StaysOn, code_after, given_of, past_after, requests_of, taken_by}
use Rattle.sr_dial.specs.Calls.{Call, Cause, Done, Made, Explained, Said, all_done, calls_told, count_faults, done_in, fails, is_failed, is_fault, lines_of, one_if, steps_in}
use Rattle.sr_talk.specs.Serving.{RoseBy, spelled}
use Rattle.sr_talk.proofs.TalkLemmas.{spelled-append}
use Rattle.sr_dial.specs.Carrying.{spoken}
use Rattle.sr_dial.specs.Known.{IsFrom, Setting, Makes, said_by}
use Rattle.sr_dial.specs.Runs.{IsInPlace, IsToldIf, SentAs, left_by, more_taken, none_taken}
use Rattle.sr_dial.specs.Courses.{At, Course, IsThere, Start, Stepped}
use Rattle.sr_dial.proofs.ListLemmas.{all-one, any-one, code-append, count-one, explained-append, fails-one, fair-append, few-append, given-append, lawful-append, line-append, on-append, past-append, place-append, requests-append, steps-append, taken-append, told-one}
use Rattle.sr_dial.proofs.SteadyLemmas.{steadily-on}
use Rattle.sr_dial.proofs.ToldLemmas.{still-same, told-on, told-same}
use Rattle.sr_dial.specs.declared.parts.Answer.{Answer}
use Rattle.sr_dial.specs.Following.{Ahead}
use Rattle.sr_dial.proofs.PlanLemmas.{GoesOn, made-ahead, made-answer, made-goes}
use Rattle.sr_dial.specs.declared.waiting.Count.{Count}

-- what is so of a connection is so, changed, of what a link tells of it
pub map-told : (f : Connection → Connection) (P Q : Connection → Type 0) (told : Option Connection) → ((t : Connection) → P t → Q (f t)) → IfSome told P → IfSome (option_map f told) Q
map-told f P Q None each h = tt
map-told f P Q (Some t) each h = each t h

pub weaken-told : (P Q : Connection → Type 0) (told : Option Connection) → ((t : Connection) → P t → Q t) → IfSome told P → IfSome told Q
weaken-told P Q None each h = tt
weaken-told P Q (Some t) each h = each t h

pub append-some : (xs ys : List Message) → xs ≢ [] → xs ++ ys ≢ []
append-some [] ys some none = some refl
append-some (x ∷ xs) ys some none = cc

pub not-torn : (torn fails : Bool) → (torn ≡ true → fails ≡ true) → fails ≡ false → torn ≡ false
not-torn false fails counted none = refl
not-torn true fails counted none = absurd (let wrong : true ≡ false = sym (counted refl) ∙ none in cc)

pub or-no : (a b : Bool) → b ≡ false → (a || b) ≡ a
or-no true b none = refl
or-no false b none = none

-- one more that was done, with what is left behind it, and whether sending failed
abbrev pub with_step : {C : Type 0} → Call C → Done C → Bool → Option Connection → List ℕ → Call C
with_step {C} call d torn told left = record { number = call.number; first = call.first; others = call.others ++ d ∷ []; connected = call.connected; torn = torn; told = told; left = left }

-- the client behind it, and what was taken and sent with it
abbrev pub past_by : {C : Type 0} → Client → Done C → Client
past_by {C} c (Made number cause step) = step.past
past_by {C} c (Explained number text result) = c
past_by {C} c (Said number text) = c

abbrev pub given_by : {C : Type 0} → Done C → List Message
given_by {C} (Made number cause step) = taken_by step.deed
given_by {C} (Explained number text result) = []
given_by {C} (Said number text) = []

abbrev pub sent_by : {C : Type 0} → Done C → List Message
sent_by {C} (Made number cause step) = sent_of step.outcome
sent_by {C} (Explained number text result) = []
sent_by {C} (Said number text) = []

module _ {C : Type 0} where
  pub all-step : (E : List (Call C)) (call : Call C) (d : Done C) (torn : Bool) (told : Option Connection) (left : List ℕ) → all_done (E ++ with_step call d torn told left ∷ []) ≡ all_done (E ++ call ∷ []) ++ d ∷ []
  all-step E call d torn told left =
      all-one E (with_step call d torn told left) ∙ (sym (append_assoc (all_done E) (done_in call) (d ∷ [])) ∙ ap (λ ds. ds ++ d ∷ []) (sym (all-one E call)))

  -- the client behind it
  pub past-one : (c : Client) (ds : List (Done C)) (d : Done C) → past_after c (steps_in (ds ++ d ∷ [])) ≡ past_by (past_after c (steps_in ds)) d
  past-one c ds d = ap (past_after c) (steps-append ds (d ∷ [])) ∙ (past-append c (steps_in ds) (steps_in (d ∷ [])) ∙ by d)
    where
      by : (d : Done C) → past_after (past_after c (steps_in ds)) (steps_in (d ∷ [])) ≡ past_by (past_after c (steps_in ds)) d
      by (Made number cause step) = refl
      by (Explained number text result) = refl
      by (Said number text) = refl

  pub past-step : (c : Client) (E : List (Call C)) (call : Call C) (d : Done C) (torn : Bool) (told : Option Connection) (left : List ℕ) → left_by c (E ++ with_step call d torn told left ∷ []) ≡ past_by (left_by c (E ++ call ∷ [])) d
  past-step c E call d torn told left = ap (λ ds. past_after c (steps_in ds)) (all-step E call d torn told left) ∙ past-one c (all_done (E ++ call ∷ [])) d

  -- the client of the present call
  pub past-call : (c : Client) (E : List (Call C)) (call : Call C) → left_by c (E ++ call ∷ []) ≡ past_after call.first.past (steps_in call.others)
  past-call c E call =
      ap (λ ds. past_after c (steps_in ds)) (all-one E call) ∙ (ap (past_after c) (steps-append (all_done E) (done_in call)) ∙ past-append c (steps_in (all_done E)) (steps_in (done_in call)))

  pub given-step : (call : Call C) (d : Done C) (torn : Bool) (told : Option Connection) (left : List ℕ) → given_of (steps_in (done_in (with_step call d torn told left))) ≡ given_of (steps_in (done_in call)) ++ given_by d
  given-step call d torn told left =
      ap given_of (steps-append (done_in call) (d ∷ [])) ∙ (given-append (steps_in (done_in call)) (steps_in (d ∷ [])) ∙ ap (λ ms. given_of (steps_in (done_in call)) ++ ms) (by d))
    where
      by : (d : Done C) → given_of (steps_in (d ∷ [])) ≡ given_by d
      by (Made number cause step) = append-nil (taken_by step.deed)
      by (Explained number text result) = refl
      by (Said number text) = refl

  pub requests-step : (call : Call C) (d : Done C) (torn : Bool) (told : Option Connection) (left : List ℕ)
      → requests_of (steps_in (done_in (with_step call d torn told left))) ≡ requests_of (steps_in (done_in call)) ++ sent_by d
  requests-step call d torn told left =
      ap requests_of (steps-append (done_in call) (d ∷ []))
      ∙ (requests-append (steps_in (done_in call)) (steps_in (d ∷ [])) ∙ ap (λ ms. requests_of (steps_in (done_in call)) ++ ms) (by d))
    where
      by : (d : Done C) → requests_of (steps_in (d ∷ [])) ≡ sent_by d
      by (Made number cause step) = append-nil (sent_of step.outcome)
      by (Explained number text result) = refl
      by (Said number text) = refl

  -- where a call did not fail, no fault is counted of it
  pub count-still : (E : List (Call C)) (call : Call C) → fails call ≡ false → count_faults (E ++ call ∷ []) ≡ count_faults E
  count-still E call none = count-one E call ∙ (ap (λ b. count_faults E + one_if (b && is_fault call)) none ∙ omega arith)

  -- the connections that are told, in any state of the link
  pub made-of : (down : Bool) (E : List (Call C)) (call : Call C) (old l : Linking) → IsThere down E call old l → connections l ≡ connections old ++ calls_told (E ++ call ∷ [])
  made-of true E call old l there = there
  made-of false E call old l (present, past, none, connected) =
      ap (λ p. l.past ++ option_to_list p) present
      ∙ (ap (λ x. x ++ option_to_list call.told) past
      ∙ (append_assoc (connections old) (calls_told E) (option_to_list call.told) ∙ ap (λ x. connections old ++ x) (sym (told-one E call))))

module _ {Z : Type 0} (C : Type 0) (Stands : C → Client → Type 0) (lent : C → Option Answer) (IsOf : Standing C) (Has : Holding C) (k : Setting) (s : Start C Z) where
  -- a step that was made
  abbrev pub step_of : {code new : C} {c : Client} {deed : Deed} {lines : List TraceLine} {sent : List Message} → Makes Stands lent IsOf Has k code new c deed lines sent → Step C
  step_of {code} {new} {c} {deed} {lines} {sent} m = record { deed = deed; outcome = m.outcome; past = m.next; code = new }

  abbrev pub done_of : {code new : C} {c : Client} {deed : Deed} {lines : List TraceLine} {sent : List Message} → ℕ → Cause → Makes Stands lent IsOf Has k code new c deed lines sent → Done C
  done_of {code} {new} {c} {deed} {lines} {sent} number cause m = Made number cause (record { deed = deed; outcome = m.outcome; past = m.next; code = new })

  module _ (ahead further : Ahead) (line : ℕ) (came : Count) (number : ℕ) (cause : Cause) (P Q : List ℕ → Type 0) (code new : C) (deed : Deed) (lines : List TraceLine) (sent : List Message)
      (on : GoesOn cause ahead (lent code) number deed further) (most : (more_taken cause sent came).taken ≤ 1000000) (says : (texts : List ℕ) → P texts → Q (texts ++ spoken k.says (flat_map (line_text k.schema number) lines))) where
    pub stepped-one : (ds : List (Done C)) → Stepped C Stands lent IsOf Has k s ahead line came ds P code → (m : Makes Stands lent IsOf Has k code new (past_after s.past (steps_in ds)) deed lines sent)
        → IsInPlace k.schema cause line number deed (past_after s.past (steps_in ds))
        → Stepped C Stands lent IsOf Has k s further number (more_taken cause sent came) (ds ++ done_of number cause m ∷ []) Q new
    stepped-one ds h m place =
        let past : past_after s.past (steps_in (ds ++ done_of number cause m ∷ [])) ≡ m.next = past-one s.past ds (done_of number cause m) in
        let texts : flat_map (said_by k) (ds ++ done_of number cause m ∷ []) ≡ flat_map (said_by k) ds ++ spoken k.says (flat_map (line_text k.schema number) (lines_of k.number deed m.outcome)) =
        flat_map-append (said_by k) ds (done_of number cause m ∷ []) ∙ ap (λ x. flat_map (said_by k) ds ++ x) (append-nil (spoken k.says (flat_map (line_text k.schema number) (lines_of k.number deed m.outcome)))) in
        record {
          in_place = place-append k.schema 0 s.past ds (done_of number cause m ∷ []) h.in_place (subst (λ n. IsInPlace k.schema cause n number deed (past_after s.past (steps_in ds))) (sym h.line_is) place, tt);
          line_is = line-append 0 ds (done_of number cause m ∷ []);
          came_is = taken-append none_taken ds (done_of number cause m ∷ []) ∙ (ap (more_taken cause (sent_of m.outcome)) h.came_is ∙ ap (λ ms. more_taken cause ms came) (sym m.sent_is));
          few = few-append none_taken ds (done_of number cause m) h.few (subst (λ (n : Count). (more_taken cause (sent_of m.outcome) n).taken ≤ 1000000) (sym h.came_is) (subst (λ ms. (more_taken cause ms came).taken ≤ 1000000) m.sent_is most));
          goes = made-goes k.keeps s.plan ds ahead further (lent code) h.goes h.ahead_is h.answer_is number cause (step_of m) on;
          ahead_is = made-ahead k.keeps s.plan ds ahead further (lent code) h.goes h.ahead_is h.answer_is number cause (step_of m) on;
          answer_is = made-answer k.keeps s.plan ds ahead further (lent code) h.goes h.ahead_is h.answer_is number cause (step_of m) ∙ sym m.answers;
          from = subst (All (IsFrom k.number)) (sym (ap requests_of (steps-append ds (done_of number cause m ∷ [])) ∙ requests-append (steps_in ds) (step_of m ∷ [])))
              (All-append (IsFrom k.number) (requests_of (steps_in ds)) (requests_of (step_of m ∷ [])) h.from
              (subst (All (IsFrom k.number)) (m.sent_is ∙ sym (append-nil (sent_of m.outcome))) m.from));
          fair = subst (AreFair IsOf k.limits s.code s.past) (sym (steps-append ds (done_of number cause m ∷ [])))
              (fair-append IsOf k.limits s.code s.past (steps_in ds) (step_of m ∷ []) h.fair
              (subst (λ x. IsFair IsOf k.limits x (past_after s.past (steps_in ds)) (step_of m)) (sym h.code_is) m.fair, tt));
          lawful = subst (AreLawful Has k.limits k.schema s.code s.past) (sym (steps-append ds (done_of number cause m ∷ [])))
              (lawful-append Has k.limits k.schema s.code s.past (steps_in ds) (step_of m ∷ []) h.lawful
              (subst (λ x. IsLawful Has k.limits k.schema x (past_after s.past (steps_in ds)) (step_of m)) (sym h.code_is) m.lawful, tt));
          explained = explained-append IsOf k.limits s.code s.past ds (done_of number cause m ∷ []) h.explained tt;
          code_is = ap (code_after s.code) (steps-append ds (done_of number cause m ∷ [])) ∙ code-append s.code (steps_in ds) (step_of m ∷ []);
          stands = subst (Stands new) (sym past) m.stands;
          rests = subst (λ (p : Client). p.cut ≡ true → p.out ≡ None) (sym past) m.rests;
          writes = subst Q (sym texts) (subst (λ ls. Q (flat_map (said_by k) ds ++ spoken k.says (flat_map (line_text k.schema number) ls))) m.lines_are (says (flat_map (said_by k) ds) h.writes));
        }

    -- ---- a step of the present call

    -- with what the link tells then
    abbrev pub course-one : (feed left new_feed : List ℕ) (same : left ≡ new_feed) (torn : Bool) (told : Option Connection) (h : Course C Stands lent IsOf Has k s ahead line came P feed code) (m : Makes Stands lent IsOf Has k code new (left_by s.past (h.earlier ++ h.call ∷ [])) deed lines sent)
        → IsInPlace k.schema cause line number deed (left_by s.past (h.earlier ++ h.call ∷ [])) → StaysOn (left_by s.past (h.earlier ++ h.call ∷ [])) deed
        → IfSome told (λ t. t.taken ≡ spelled (given_of (steps_in (done_in h.call)) ++ taken_by deed) ++ left) → IfSome told (λ t. t.address ≡ s.address)
        → IsToldIf s.linking.peers (with_step h.call (done_of number cause m) torn told left)
        → Course C Stands lent IsOf Has k s further number (more_taken cause sent came) Q new_feed new
    course-one feed left new_feed same torn told h m place stays taken dialled is_told = record {
      earlier = h.earlier;
      call = with_step h.call (done_of number cause m) torn told left;
      are = h.are;
      is = record {
        first = h.is.first;
        was_cut = h.is.was_cut;
        on_one = subst (OnOne h.call.first.past) (sym (steps-append h.call.others (done_of number cause m ∷ [])))
            (on-append h.call.first.past (steps_in h.call.others) (step_of m) h.is.on_one (subst (λ c. StaysOn c deed) (past-call s.past h.earlier h.call) stays));
      };
      carried = h.carried;
      before_dialled = h.before_dialled;
      dialled = dialled;
      before_told = h.before_told;
      is_told = is_told;
      left = same;
      some = λ none. append-some (requests_of (steps_in (done_in h.call))) (sent_of m.outcome) h.some (sym (requests-step h.call (done_of number cause m) torn told left) ∙ none);
      taken = subst (λ ms. IfSome told (λ t. t.taken ≡ spelled ms ++ left)) (sym (given-step h.call (done_of number cause m) torn told left)) taken;
      steps = subst (λ ds. Stepped C Stands lent IsOf Has k s further number (more_taken cause sent came) ds Q new) (sym (all-step h.earlier h.call (done_of number cause m) torn told left))
          (stepped-one (all_done (h.earlier ++ h.call ∷ [])) h.steps m place);
    }

    module _ (failed : Bool) (l new_l : Linking) (feed left : List ℕ) (h : At C Stands lent IsOf Has k s ahead line came failed l P feed code)
        (m : Makes Stands lent IsOf Has k code new (left_by s.past (h.course.earlier ++ h.course.call ∷ [])) deed lines sent)
        (place : IsInPlace k.schema cause line number deed (left_by s.past (h.course.earlier ++ h.course.call ∷ []))) (stays : StaysOn (left_by s.past (h.course.earlier ++ h.course.call ∷ [])) deed)
        (not_failed : is_failed cause ≡ false) where
      -- all behind it went over the link, which is up
      pub at-up : (left_by s.past (h.course.earlier ++ h.course.call ∷ [])).cut ≡ false → m.next.cut ≡ false → feed ≡ spelled (taken_by deed) ++ left → new_l ≡ sent_on (spelled sent) l
          → At C Stands lent IsOf Has k s further number (more_taken cause sent came) failed new_l Q left new
      at-up up still fed is =
          let there = subst (λ b. IsThere b h.course.earlier h.course.call s.linking l) up h.there in
          let fails-no : fails (with_step h.course.call (done_of number cause m) h.course.call.torn (option_map (sends (spelled sent)) h.course.call.told) left) ≡ false =
          fails-one h.course.call.others (done_of number cause m) ∙ (or-no (fails h.course.call) (is_failed cause) not_failed ∙ there.2) in
          let same : fails (with_step h.course.call (done_of number cause m) h.course.call.torn (option_map (sends (spelled sent)) h.course.call.told) left) ≡ fails h.course.call = fails-no ∙ sym there.2 in
          let sum : requests_of (steps_in (done_in (with_step h.course.call (done_of number cause m) h.course.call.torn (option_map (sends (spelled sent)) h.course.call.told) left))) ≡ requests_of (steps_in (done_in h.course.call)) ++ sent =
          requests-step h.course.call (done_of number cause m) h.course.call.torn (option_map (sends (spelled sent)) h.course.call.told) left ∙ ap (λ ms. requests_of (steps_in (done_in h.course.call)) ++ ms) (sym m.sent_is) in
          let before = h.faults in
          let whole : h.course.call.torn ≡ false = not-torn h.course.call.torn (fails h.course.call) h.counted there.2 in
          record {
            course = course-one feed left left refl h.course.call.torn (option_map (sends (spelled sent)) h.course.call.told) h.course m place stays
                (map-told (sends (spelled sent)) (λ t. t.taken ≡ spelled (given_of (steps_in (done_in h.course.call))) ++ h.course.call.left)
                (λ t. t.taken ≡ spelled (given_of (steps_in (done_in h.course.call)) ++ taken_by deed) ++ left) h.course.call.told
                (λ t e. e ∙ (ap (λ x. spelled (given_of (steps_in (done_in h.course.call))) ++ x) (h.course.left ∙ fed)
                ∙ (sym (append_assoc (spelled (given_of (steps_in (done_in h.course.call)))) (spelled (taken_by deed)) left)
                ∙ ap (λ x. x ++ left) (sym (spelled-append (given_of (steps_in (done_in h.course.call))) (taken_by deed)))))) h.course.taken)
                (map-told (sends (spelled sent)) (λ t. t.address ≡ s.address) (λ t. t.address ≡ s.address) h.course.call.told (λ t e. e) h.course.dialled)
                (told-on s.linking.peers h.course.call (with_step h.course.call (done_of number cause m) h.course.call.torn (option_map (sends (spelled sent)) h.course.call.told) left) (sends (spelled sent)) there.3 refl refl h.course.is_told);
            sent = map-told (sends (spelled sent)) (λ t. SentAs h.course.call.torn (requests_of (steps_in (done_in h.course.call))) t.sent)
                (λ t. SentAs h.course.call.torn
                (requests_of (steps_in (done_in (with_step h.course.call (done_of number cause m) h.course.call.torn (option_map (sends (spelled sent)) h.course.call.told) left)))) t.sent) h.course.call.told
                (λ t e.
                let was : t.sent ≡ spelled (requests_of (steps_in (done_in h.course.call))) = subst (λ b. SentAs b (requests_of (steps_in (done_in h.course.call))) t.sent) whole e in
                subst (λ b. SentAs b (requests_of (steps_in (done_in (with_step h.course.call (done_of number cause m) h.course.call.torn (option_map (sends (spelled sent)) h.course.call.told) left)))) (t.sent ++ spelled sent)) (sym whole)
                (ap (λ x. x ++ spelled sent) was ∙ (sym (spelled-append (requests_of (steps_in (done_in h.course.call))) sent) ∙ ap spelled (sym sum)))) h.sent;
            counted = λ yes. same ∙ h.counted yes;
            faults = subst (λ n. RoseBy s.linking.faults n new_l.faults)
                (count-still h.course.earlier h.course.call there.2 ∙ sym (count-still h.course.earlier (with_step h.course.call (done_of number cause m) h.course.call.torn (option_map (sends (spelled sent)) h.course.call.told) left) fails-no))
                (subst (λ (x : Linking). RoseBy s.linking.faults (count_faults (h.course.earlier ++ h.course.call ∷ [])) x.faults) (sym is) before);
            there = subst (λ b. IsThere b h.course.earlier (with_step h.course.call (done_of number cause m) h.course.call.torn (option_map (sends (spelled sent)) h.course.call.told) left) s.linking new_l)
                (sym (ap (λ (c : Client). c.cut) (past-step s.past h.course.earlier h.course.call (done_of number cause m) h.course.call.torn (option_map (sends (spelled sent)) h.course.call.told) left) ∙ still))
                (ap (λ (x : Linking). x.present) is ∙ ap (option_map (sends (spelled sent))) there.0, ap (λ (x : Linking). x.past) is ∙ there.1, fails-no, there.3);
            failed_is = any-one h.course.earlier (with_step h.course.call (done_of number cause m) h.course.call.torn (option_map (sends (spelled sent)) h.course.call.told) left)
                ∙ (ap (λ b. list_any fails h.course.earlier || b) same ∙ (sym (any-one h.course.earlier h.course.call) ∙ h.failed_is));
            calm = λ no. ap (λ (x : Linking). x.faults) is ∙ h.calm no;
            peers_stay = still-same s.linking l new_l (ap (λ (x : Linking). x.peers) is) h.peers_stay;
            up = λ still_up. ap (λ (x : Linking). x.is_up) is ∙ h.up up;
            steadily = steadily-on Z (count_faults (h.course.earlier ++ h.course.call ∷ [])) (count_faults (h.course.earlier ++ with_step h.course.call (done_of number cause m) h.course.call.torn (option_map (sends (spelled sent)) h.course.call.told) left ∷ [])) (length h.course.earlier + 1) s.linking l new_l
                (count-still h.course.earlier (with_step h.course.call (done_of number cause m) h.course.call.torn (option_map (sends (spelled sent)) h.course.call.told) left) fails-no ∙ sym (count-still h.course.earlier h.course.call there.2))
                (ap (λ (x : Linking). x.faults) is) (ap (λ (x : Linking). x.peers) is) h.steadily;
          }

      -- nothing went over the link, which is down then
      pub at-down : m.next.cut ≡ true → sent ≡ [] → taken_by deed ≡ [] → connections new_l ≡ connections l → new_l.peers ≡ l.peers → new_l.faults ≡ l.faults
          → At C Stands lent IsOf Has k s further number (more_taken cause sent came) failed new_l Q feed new
      at-down down none took same_links same_peers quiet =
          let fails-same : fails (with_step h.course.call (done_of number cause m) h.course.call.torn h.course.call.told h.course.call.left) ≡ fails h.course.call =
          fails-one h.course.call.others (done_of number cause m) ∙ or-no (fails h.course.call) (is_failed cause) not_failed in
          let sum : requests_of (steps_in (done_in (with_step h.course.call (done_of number cause m) h.course.call.torn h.course.call.told h.course.call.left))) ≡ requests_of (steps_in (done_in h.course.call)) =
          requests-step h.course.call (done_of number cause m) h.course.call.torn h.course.call.told h.course.call.left
          ∙ (ap (λ ms. requests_of (steps_in (done_in h.course.call)) ++ ms) (sym m.sent_is ∙ none) ∙ append-nil (requests_of (steps_in (done_in h.course.call)))) in
          let before = h.faults in
          let count : count_faults (h.course.earlier ++ with_step h.course.call (done_of number cause m) h.course.call.torn h.course.call.told h.course.call.left ∷ []) ≡ count_faults (h.course.earlier ++ h.course.call ∷ []) =
          count-one h.course.earlier (with_step h.course.call (done_of number cause m) h.course.call.torn h.course.call.told h.course.call.left)
          ∙ (ap (λ b. count_faults h.course.earlier + one_if (b && is_fault h.course.call)) fails-same ∙ sym (count-one h.course.earlier h.course.call)) in
          record {
            course = course-one feed h.course.call.left feed h.course.left h.course.call.torn h.course.call.told h.course m place stays
                (weaken-told (λ t. t.taken ≡ spelled (given_of (steps_in (done_in h.course.call))) ++ h.course.call.left)
                (λ t. t.taken ≡ spelled (given_of (steps_in (done_in h.course.call)) ++ taken_by deed) ++ h.course.call.left) h.course.call.told
                (λ t e. e ∙ ap (λ ms. spelled ms ++ h.course.call.left) (sym (ap (λ ms. given_of (steps_in (done_in h.course.call)) ++ ms) took ∙ append-nil (given_of (steps_in (done_in h.course.call)))))) h.course.taken)
                h.course.dialled
                (told-same s.linking.peers h.course.call (with_step h.course.call (done_of number cause m) h.course.call.torn h.course.call.told h.course.call.left) refl
                (given-step h.course.call (done_of number cause m) h.course.call.torn h.course.call.told h.course.call.left
                ∙ (ap (λ ms. given_of (steps_in (done_in h.course.call)) ++ ms) took ∙ append-nil (given_of (steps_in (done_in h.course.call))))) refl refl h.course.is_told);
            sent = weaken-told (λ t. SentAs h.course.call.torn (requests_of (steps_in (done_in h.course.call))) t.sent)
                (λ t. SentAs h.course.call.torn
                (requests_of (steps_in (done_in (with_step h.course.call (done_of number cause m) h.course.call.torn h.course.call.told h.course.call.left)))) t.sent) h.course.call.told
                (λ t e. subst (λ ms. SentAs h.course.call.torn ms t.sent) (sym sum) e) h.sent;
            counted = λ yes. fails-same ∙ h.counted yes;
            faults = subst (λ n. RoseBy s.linking.faults n new_l.faults) (sym count) (omega (arith, before, quiet));
            there = subst (λ b. IsThere b h.course.earlier (with_step h.course.call (done_of number cause m) h.course.call.torn h.course.call.told h.course.call.left) s.linking new_l)
                (sym (ap (λ (c : Client). c.cut) (past-step s.past h.course.earlier h.course.call (done_of number cause m) h.course.call.torn h.course.call.told h.course.call.left) ∙ down))
                (same_links ∙ (made-of (left_by s.past (h.course.earlier ++ h.course.call ∷ [])).cut h.course.earlier h.course.call s.linking l h.there
                ∙ ap (λ x. connections s.linking ++ x) (told-one h.course.earlier h.course.call ∙ sym (told-one h.course.earlier (with_step h.course.call (done_of number cause m) h.course.call.torn h.course.call.told h.course.call.left)))));
            failed_is = any-one h.course.earlier (with_step h.course.call (done_of number cause m) h.course.call.torn h.course.call.told h.course.call.left)
                ∙ (ap (λ b. list_any fails h.course.earlier || b) fails-same ∙ (sym (any-one h.course.earlier h.course.call) ∙ h.failed_is));
            calm = λ no. quiet ∙ h.calm no;
            peers_stay = still-same s.linking l new_l same_peers h.peers_stay;
            up = λ still_up. absurd (let wrong : true ≡ false =
                sym (ap (λ (c : Client). c.cut) (past-step s.past h.course.earlier h.course.call (done_of number cause m) h.course.call.torn h.course.call.told h.course.call.left) ∙ down) ∙ still_up in cc);
            steadily = steadily-on Z (count_faults (h.course.earlier ++ h.course.call ∷ []))
                (count_faults (h.course.earlier ++ with_step h.course.call (done_of number cause m) h.course.call.torn h.course.call.told h.course.call.left ∷ [])) (length h.course.earlier + 1) s.linking l new_l count quiet same_peers h.steadily;
          }
