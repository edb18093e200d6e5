-- A run whose link fails, or that ends.
use Rattle.std.proofs.Common.{◌≡◌, ℕ, ◌+◌, ◌≤◌, Bool, true, false, List, [], ◌∷◌, ◌++◌, arith, append_assoc, append-nil, length, inl, inr, refl, sym, ◌∙◌, ap, subst, Option, Some, None, option_map}
use Rattle.std.specs.Prelude.{◌≢◌, ◌&&◌, ◌||◌, ◌⊎◌, IfSome, flat_map, take, drop}
use Rattle.std.specs.List.{list_any}
use Rattle.std.proofs.lemmas.List.{take-append-drop}
use Rattle.sr_io.specs.Causes.{Rose}
use Rattle.sr_io.specs.Pieces.{SendsPart}
use Rattle.sr_io.specs.Told.{Connection, Linking, OnlyFaults, IsOver, connections, hung_up, sends, takes}
use Rattle.sr_message.specs.declared.message.Message.{Message}
use Rattle.sr_script.specs.declared.line.TraceLine.{TraceLine}
use Rattle.sr_script.specs.TraceText.{line_text}
use Rattle.sr_session.specs.Clients.{Client}
use Rattle.sr_message.specs.declared.message.Message.TheVariants.{Ask, Write}
use Rattle.sr_session.specs.Rules.{Outcome, QueryRefused, Busy, Down, Answered, AskSent, WriteSent, Evicted, NoSuchClass, Laid, Applied, Forgot, WriteDone, WriteRefused, Welcomed, CutDone, AlreadyCut, ResumeSent, AlreadyUp, sent_of}
use Rattle.sr_wire.specs.Reading.{decoded, Faulty}
use Rattle.sr_wire.specs.declared.wire_fault.WireFault.TheVariants.{Short}
use Rattle.sr_wire.specs.Spelling.{spelling}
use Rattle.sr_links.specs.Brought.{Holding}
use Rattle.sr_links.specs.Steps.{Standing, Deed, StaysOn, WasCut, given_of, past_after, requests_of, taken_by}
use Rattle.sr_dial.specs.Calls.{Call, Cause, Failed, all_done, calls_told, count_faults, done_in, fails, is_coming, is_failed, is_fault, one_if, steps_in}
use Rattle.sr_talk.specs.Reading.{Reads}
use Rattle.sr_talk.specs.Serving.{RoseBy, spelled}
use Rattle.sr_talk.proofs.TalkLemmas.{spelled-append}
use Rattle.sr_dial.specs.Carrying.{spoken}
use Rattle.sr_dial.specs.Known.{Setting, Makes}
use Rattle.sr_dial.specs.Runs.{IsInPlace, SendsMost, SentAs, left_by, more_taken, none_taken}
use Rattle.sr_dial.specs.Courses.{At, Broken, Course, Free, IsThere, Start, Stepped, TellsStill}
use Rattle.sr_dial.proofs.ListLemmas.{all-one, any-one, count-one, fails-one, told-one}
use Rattle.sr_dial.proofs.CourseLemmas.{course-one, done_of, given-step, made-of, map-told, not-torn, weaken-told, or-no, past-step, requests-step, with_step, count-still}
use Rattle.sr_dial.proofs.SteadyLemmas.{steadily-on}
use Rattle.sr_talk.specs.Rounds.{HasPeers}
use Rattle.sr_dial.proofs.ToldLemmas.{still-same, told-on, told-same}
use Rattle.sr_dial.specs.declared.parts.Answer.{Answer}
use Rattle.sr_dial.specs.Following.{Ahead}
use Rattle.sr_dial.proofs.PlanLemmas.{GoesOn}
use Rattle.sr_dial.specs.declared.waiting.Count.{Count}

-- ---- messages that are sent

-- the last one of some messages
pub most-all : (ms : List Message) → ms ≢ [] → SendsMost ms (spelled ms)
most-all [] some = absurd (some refl)
most-all (m ∷ []) some = record { earlier = []; last = m; part = spelling m; are = refl; beginning = record { rest = []; all = sym (append-nil (spelling m)) }; is = append-nil (spelling m) }
most-all (m ∷ n ∷ ms) some =
    let more = most-all (n ∷ ms) (λ none. absurd (cc)) in
    record {
      earlier = m ∷ more.earlier;
      last = more.last;
      part = more.part;
      are = ap (λ x. m ∷ x) more.are;
      beginning = more.beginning;
      is = ap (λ x. spelling m ++ x) more.is ∙ sym (append_assoc (spelling m) (spelled more.earlier) more.part);
    }

-- behind those that were sent, some bytes of one more
pub most-part : (ms : List Message) (m : Message) (count : ℕ) → SendsMost (ms ++ m ∷ []) (spelled ms ++ take count (spelled (m ∷ [])))
most-part ms m count = record {
  earlier = ms;
  last = m;
  part = take count (spelled (m ∷ []));
  are = refl;
  beginning = record { rest = drop count (spelled (m ∷ [])); all = sym (append-nil (spelling m)) ∙ sym (take-append-drop count (spelled (m ∷ []))) };
  is = refl;
}

-- a step sends one message at most
pub one-sent : (o : Outcome) → (sent_of o ≡ []) ⊎ ((m : Message) × (sent_of o ≡ m ∷ []))
one-sent (QueryRefused fault) = inl refl
one-sent (Busy request) = inl refl
one-sent (Down cut) = inl refl
one-sent (Answered query version rows marks) = inl refl
one-sent (Evicted drop) = inl refl
one-sent (NoSuchClass count) = inl refl
one-sent Laid = inl refl
one-sent (Applied version drops) = inl refl
one-sent (Forgot version drops) = inl refl
one-sent (WriteDone request version drops) = inl refl
one-sent (WriteRefused request fault drops) = inl refl
one-sent (Welcomed version kept drops) = inl refl
one-sent (CutDone cut ended) = inl refl
one-sent (AlreadyCut cut) = inl refl
one-sent AlreadyUp = inl refl
one-sent (AskSent drops request fresh parts) = inr (Ask request fresh parts, refl)
one-sent (WriteSent request sql) = inr (Write request sql, refl)
one-sent (ResumeSent message) = inr (message, refl)

pub one-at-most : (b : Bool) → one_if b ≤ 1
one-at-most true = omega arith
one-at-most false = omega arith

pub or-yes : (a : Bool) → (a || true) ≡ true
or-yes true = refl
or-yes false = refl

module _ {Z : Type 0} (C : Type 0) (Stands : C → Client → Type 0) (lent : C → Option Answer) (IsOf : Standing C) (Has : Holding C) (k : Setting) (s : Start C Z) where
  -- ---- a connection that went short of something, whether or not a fault is counted for it

  pub record IsShort (ahead : Ahead) (line : ℕ) (l new_l : Linking) (P : List ℕ → Type 0) (feed : List ℕ) (code : C) : Type 0 where
    pub came : Count
    pub course : Course C Stands lent IsOf Has k s ahead line came P feed code
    pub sent : IfSome course.call.told (λ t. SentAs course.call.torn (requests_of (steps_in (done_in course.call))) t.sent)
    pub before : RoseBy s.linking.faults (count_faults course.earlier) l.faults
    pub made : connections new_l ≡ connections s.linking ++ calls_told (course.earlier ++ course.call ∷ [])
    pub out : (left_by s.past (course.earlier ++ course.call ∷ [])).out ≢ None
    pub not_yet : fails course.call ≡ false
    pub peers_stay : TellsStill s.linking new_l

  -- where one is, the link failed
  pub short-breaks : (ahead : Ahead) (line : ℕ) (l new_l : Linking) (P : List ℕ → Type 0) (feed : List ℕ) (code : C) (h : IsShort ahead line l new_l P feed code) → Rose l.faults new_l.faults
      → (Z → (more : ℕ) → HasPeers (length h.course.earlier + 1 + more) s.linking → ⊥) → Broken C Stands lent IsOf Has k s ahead line new_l P feed code
  short-breaks ahead line l new_l P feed code h rose never =
      let before = h.before in
      let once = one-at-most (is_fault h.course.call) in
      record { came = h.came; course = h.course; sent = h.sent; faults = omega (arith, before, rose, once); made = h.made; out = h.out; not_yet = h.not_yet; peers_stay = h.peers_stay; steadily = λ z more enough. absurd (never z more enough) }

  -- ---- bytes that are taken

  -- behind what was left these bytes came
  module _ (ahead : Ahead) (line : ℕ) (came : Count) (failed : Bool) (l new_l : Linking) (P : List ℕ → Type 0) (feed frame after : List ℕ) (code : C) (h : At C Stands lent IsOf Has k s ahead line came failed l P feed code)
      (up : (left_by s.past (h.course.earlier ++ h.course.call ∷ [])).cut ≡ false) (r : Reads l new_l feed frame after) where
    abbrev read_call : Call C
    read_call = record { number = h.course.call.number; first = h.course.call.first; others = h.course.call.others; connected = h.course.call.connected; torn = h.course.call.torn; told = option_map (takes r.bytes) h.course.call.told; left = frame ++ after }

    pub all-same : all_done (h.course.earlier ++ record { number = h.course.call.number; first = h.course.call.first; others = h.course.call.others; connected = h.course.call.connected; torn = h.course.call.torn; told = option_map (takes r.bytes) h.course.call.told; left = frame ++ after } ∷ [])
        ≡ all_done (h.course.earlier ++ h.course.call ∷ [])
    all-same = all-one h.course.earlier read_call ∙ sym (all-one h.course.earlier h.course.call)

    abbrev pub at-read : At C Stands lent IsOf Has k s ahead line came failed new_l P (frame ++ after) code
    at-read =
        let there = subst (λ b. IsThere b h.course.earlier h.course.call s.linking l) up h.there in
        let before = h.faults in
        record {
          course = record {
            earlier = h.course.earlier;
            call = read_call;
            are = h.course.are;
            is = record { first = h.course.is.first; was_cut = h.course.is.was_cut; on_one = h.course.is.on_one };
            carried = h.course.carried;
            before_dialled = h.course.before_dialled;
            dialled = map-told (takes r.bytes) (λ t. t.address ≡ s.address) (λ t. t.address ≡ s.address) h.course.call.told (λ t e. e) h.course.dialled;
            before_told = h.course.before_told;
            is_told = told-on s.linking.peers h.course.call read_call (takes r.bytes) there.3 refl refl h.course.is_told;
            left = refl;
            some = h.course.some;
            taken = map-told (takes r.bytes) (λ t. t.taken ≡ spelled (given_of (steps_in (done_in h.course.call))) ++ h.course.call.left)
                (λ t. t.taken ≡ spelled (given_of (steps_in (done_in h.course.call))) ++ (frame ++ after)) h.course.call.told
                (λ t e. ap (λ x. x ++ r.bytes) e ∙ (append_assoc (spelled (given_of (steps_in (done_in h.course.call)))) h.course.call.left r.bytes
                ∙ ap (λ x. spelled (given_of (steps_in (done_in h.course.call))) ++ x) (ap (λ x. x ++ r.bytes) h.course.left ∙ r.cut))) h.course.taken;
            steps = subst (λ ds. Stepped C Stands lent IsOf Has k s ahead line came ds P code) (sym all-same) h.course.steps;
          };
          sent = map-told (takes r.bytes) (λ t. SentAs h.course.call.torn (requests_of (steps_in (done_in h.course.call))) t.sent)
              (λ t. SentAs h.course.call.torn (requests_of (steps_in (done_in h.course.call))) t.sent) h.course.call.told (λ t e. e) h.sent;
          counted = h.counted;
          faults = subst (λ n. RoseBy s.linking.faults n new_l.faults) (count-still h.course.earlier h.course.call there.2 ∙ sym (count-still h.course.earlier read_call there.2))
              (subst (λ (x : Linking). RoseBy s.linking.faults (count_faults (h.course.earlier ++ h.course.call ∷ [])) x.faults) (sym r.is) before);
          there = subst (λ b. IsThere b h.course.earlier read_call s.linking new_l) (sym (ap (λ ds. (past_after s.past (steps_in ds)).cut) all-same ∙ up))
              (ap (λ (x : Linking). x.present) r.is ∙ ap (option_map (takes r.bytes)) there.0, ap (λ (x : Linking). x.past) r.is ∙ there.1, there.2, there.3);
          failed_is = any-one h.course.earlier read_call ∙ (sym (any-one h.course.earlier h.course.call) ∙ h.failed_is);
          calm = λ no. ap (λ (x : Linking). x.faults) r.is ∙ h.calm no;
          peers_stay = still-same s.linking l new_l (ap (λ (x : Linking). x.peers) r.is) h.peers_stay;
          up = λ still_up. ap (λ (x : Linking). x.is_up) r.is ∙ h.up up;
          steadily = steadily-on Z (count_faults (h.course.earlier ++ h.course.call ∷ [])) (count_faults (h.course.earlier ++ read_call ∷ [])) (length h.course.earlier + 1) s.linking l new_l
              (count-still h.course.earlier read_call there.2 ∙ sym (count-still h.course.earlier h.course.call there.2)) (ap (λ (x : Linking). x.faults) r.is) (ap (λ (x : Linking). x.peers) r.is) h.steadily;
        }

    -- the client is the one before
    pub read-past : left_by s.past (at-read.course.earlier ++ at-read.course.call ∷ []) ≡ left_by s.past (h.course.earlier ++ h.course.call ∷ [])
    read-past = ap (λ ds. past_after s.past (steps_in ds)) all-same

  -- ---- the link fails while a request is out

  module _ (ahead : Ahead) (line : ℕ) (came : Count) (failed : Bool) (l : Linking) (P : List ℕ → Type 0) (feed : List ℕ) (code : C) (h : At C Stands lent IsOf Has k s ahead line came failed l P feed code)
      (up : (left_by s.past (h.course.earlier ++ h.course.call ∷ [])).cut ≡ false) (out : (left_by s.past (h.course.earlier ++ h.course.call ∷ [])).out ≢ None) where
    -- a fault is counted
    pub fault-breaks : (new_l : Linking) → OnlyFaults l new_l → Rose l.faults new_l.faults → (Z → ⊥) → Broken C Stands lent IsOf Has k s ahead line new_l P feed code
    fault-breaks new_l only rose never =
        let there = subst (λ b. IsThere b h.course.earlier h.course.call s.linking l) up h.there in
        let before = h.faults in
        let none = count-still h.course.earlier h.course.call there.2 in
        let most = one-at-most (is_fault h.course.call) in
        record {
          came = came;
          course = h.course;
          sent = h.sent;
          faults = omega (arith, before, rose, none, most);
          made = made-of false h.course.earlier h.course.call s.linking new_l (only.present ∙ there.0, only.past ∙ there.1, there.2, there.3);
          out = out;
          not_yet = there.2;
          peers_stay = still-same s.linking l new_l only.peers h.peers_stay;
          steadily = λ z more enough. absurd (never z);
        }

    not-coming : (told : Option Connection) → IsOver told → is_coming told ≡ false
    not-coming None over = refl
    not-coming (Some t) over = ap (λ (x : List ℕ). Rattle.std.specs.Prelude.nat_lt 0 (length x)) over

    -- the peer says no more
    pub end-breaks : IsOver l.present → decoded feed ≡ Faulty Short → Broken C Stands lent IsOf Has k s ahead line l P feed code
    end-breaks over short =
        let there = subst (λ b. IsThere b h.course.earlier h.course.call s.linking l) up h.there in
        let before = h.faults in
        let none = count-still h.course.earlier h.course.call there.2 in
        let no_fault : is_fault h.course.call ≡ false =
        rw (not-torn h.course.call.torn (fails h.course.call) h.counted there.2, there.3, not-coming h.course.call.told (subst IsOver there.0 over), h.course.left, short) refl in
        record {
          came = came;
          course = h.course;
          sent = h.sent;
          faults = subst (λ b. RoseBy s.linking.faults (count_faults h.course.earlier + one_if b) l.faults) (sym no_fault) (omega (arith, before, none));
          made = made-of false h.course.earlier h.course.call s.linking l there;
          out = out;
          not_yet = there.2;
          peers_stay = h.peers_stay;
          steadily = steadily-on Z (count_faults (h.course.earlier ++ h.course.call ∷ [])) (count_faults h.course.earlier + one_if (is_fault h.course.call)) (length h.course.earlier + 1) s.linking l l
              (subst (λ b. count_faults h.course.earlier + one_if b ≡ count_faults (h.course.earlier ++ h.course.call ∷ [])) (sym no_fault) (omega (arith, none))) refl refl h.steadily;
        }

  module _ (ahead further : Ahead) (line : ℕ) (came : Count) (number : ℕ) (cause : Cause) (P Q : List ℕ → Type 0) (code new : C) (deed : Deed) (lines : List TraceLine) (sent : List Message)
      (on : GoesOn cause ahead (lent code) number deed further) (most : (more_taken cause sent came).taken ≤ 1000000) (says : (texts : List ℕ) → P texts → Q (texts ++ spoken k.says (flat_map (line_text k.schema number) lines))) where
    -- a request is cut short
    pub send-short : (failed : Bool) (l new_l : Linking) (feed left : List ℕ) (h : At C Stands lent IsOf Has k s ahead line came failed l P feed code)
        (m : Makes Stands lent IsOf Has k code new (left_by s.past (h.course.earlier ++ h.course.call ∷ [])) deed lines sent)
        → IsInPlace k.schema cause line number deed (left_by s.past (h.course.earlier ++ h.course.call ∷ [])) → StaysOn (left_by s.past (h.course.earlier ++ h.course.call ∷ [])) deed
        → is_failed cause ≡ false → (left_by s.past (h.course.earlier ++ h.course.call ∷ [])).cut ≡ false → feed ≡ spelled (taken_by deed) ++ left
        → SendsPart l new_l (spelled sent) → IsShort further number l new_l Q left new
    send-short failed l new_l feed left h m place stays not_failed up fed part = by (one-sent m.outcome)
      where
        by : (sent_of m.outcome ≡ []) ⊎ ((x : Message) × (sent_of m.outcome ≡ x ∷ [])) → IsShort further number l new_l Q left new
        by (inl none) = absurd (let fewer = part.fewer in let zero_is : length (spelled sent) ≡ 0 = ap (λ ms. length (spelled ms)) (m.sent_is ∙ none) in omega (arith, fewer, zero_is))
        by (inr (x, one)) =
            let there = subst (λ b. IsThere b h.course.earlier h.course.call s.linking l) up h.there in
            let bytes : List ℕ = take part.count (spelled sent) in
            let told : Option Connection = option_map (sends (take part.count (spelled sent))) h.course.call.told in
            let fails-no : fails (with_step h.course.call (done_of C Stands lent IsOf Has k s number cause m) true (option_map (sends (take part.count (spelled sent))) h.course.call.told) left) ≡ false =
            fails-one h.course.call.others (done_of C Stands lent IsOf Has k s number cause m) ∙ (or-no (fails h.course.call) (is_failed cause) not_failed ∙ there.2) in
            let same : sent ≡ x ∷ [] = m.sent_is ∙ one in
            let sum : requests_of (steps_in (done_in (with_step h.course.call (done_of C Stands lent IsOf Has k s number cause m) true (option_map (sends (take part.count (spelled sent))) h.course.call.told) left)))
            ≡ requests_of (steps_in (done_in h.course.call)) ++ x ∷ [] =
            requests-step h.course.call (done_of C Stands lent IsOf Has k s number cause m) true (option_map (sends (take part.count (spelled sent))) h.course.call.told) left
            ∙ ap (λ ms. requests_of (steps_in (done_in h.course.call)) ++ ms) one in
            let before = h.faults in
            let none = count-still h.course.earlier h.course.call there.2 in
            record {
              came = more_taken cause sent came;
              course = course-one C Stands lent IsOf Has k s ahead further line came number cause P Q code new deed lines sent on most says feed left left refl true (option_map (sends (take part.count (spelled sent))) h.course.call.told) h.course m place stays
                  (map-told (sends (take part.count (spelled sent))) (λ t. t.taken ≡ spelled (given_of (steps_in (done_in h.course.call))) ++ h.course.call.left)
                  (λ t. t.taken ≡ spelled (given_of (steps_in (done_in h.course.call)) ++ taken_by deed) ++ left) h.course.call.told
                  (λ t e. e ∙ (ap (λ x. spelled (given_of (steps_in (done_in h.course.call))) ++ x) (h.course.left ∙ fed)
                  ∙ (sym (append_assoc (spelled (given_of (steps_in (done_in h.course.call)))) (spelled (taken_by deed)) left)
                  ∙ ap (λ x. x ++ left) (sym (spelled-append (given_of (steps_in (done_in h.course.call))) (taken_by deed)))))) h.course.taken)
                  (map-told (sends (take part.count (spelled sent))) (λ t. t.address ≡ s.address) (λ t. t.address ≡ s.address) h.course.call.told (λ t e. e) h.course.dialled)
                  (told-on s.linking.peers h.course.call (with_step h.course.call (done_of C Stands lent IsOf Has k s number cause m) true (option_map (sends (take part.count (spelled sent))) h.course.call.told) left) (sends (take part.count (spelled sent))) there.3 refl refl h.course.is_told);
              sent = map-told (sends (take part.count (spelled sent))) (λ t. SentAs h.course.call.torn (requests_of (steps_in (done_in h.course.call))) t.sent)
                  (λ t. SendsMost (requests_of (steps_in (done_in (with_step h.course.call (done_of C Stands lent IsOf Has k s number cause m) true (option_map (sends (take part.count (spelled sent))) h.course.call.told) left)))) t.sent)
                  h.course.call.told
                  (λ t e.
                  let was : t.sent ≡ spelled (requests_of (steps_in (done_in h.course.call))) = subst (λ b. SentAs b (requests_of (steps_in (done_in h.course.call))) t.sent) (not-torn h.course.call.torn (fails h.course.call) h.counted there.2) e in
                  subst (λ ms. SendsMost ms (t.sent ++ take part.count (spelled sent))) (sym sum)
                  (subst (λ ms. SendsMost (requests_of (steps_in (done_in h.course.call)) ++ x ∷ []) (t.sent ++ take part.count (spelled ms))) (sym same)
                  (subst (λ b. SendsMost (requests_of (steps_in (done_in h.course.call)) ++ x ∷ []) (b ++ take part.count (spelled (x ∷ [])))) (sym was) (most-part (requests_of (steps_in (done_in h.course.call))) x part.count)))) h.sent;
              before = omega (arith, before, none);
              made = made-of false h.course.earlier (with_step h.course.call (done_of C Stands lent IsOf Has k s number cause m) true (option_map (sends (take part.count (spelled sent))) h.course.call.told) left) s.linking new_l
                  (part.sent.present ∙ ap (option_map (sends (take part.count (spelled sent)))) there.0, part.sent.past ∙ there.1, fails-no, there.3);
              out = λ none_out. m.waits (λ no. absurd (let wrong : x ∷ [] ≡ [] = sym same ∙ no in cc))
                  (sym (ap (λ (c : Client). c.out) (past-step s.past h.course.earlier h.course.call (done_of C Stands lent IsOf Has k s number cause m) true (option_map (sends (take part.count (spelled sent))) h.course.call.told) left)) ∙ none_out);
              not_yet = fails-no;
              peers_stay = still-same s.linking l new_l part.sent.peers h.peers_stay;
            }

    pub send-breaks : (failed : Bool) (l new_l : Linking) (feed left : List ℕ) (h : At C Stands lent IsOf Has k s ahead line came failed l P feed code)
        (m : Makes Stands lent IsOf Has k code new (left_by s.past (h.course.earlier ++ h.course.call ∷ [])) deed lines sent)
        → IsInPlace k.schema cause line number deed (left_by s.past (h.course.earlier ++ h.course.call ∷ [])) → StaysOn (left_by s.past (h.course.earlier ++ h.course.call ∷ [])) deed
        → is_failed cause ≡ false → (left_by s.past (h.course.earlier ++ h.course.call ∷ [])).cut ≡ false → feed ≡ spelled (taken_by deed) ++ left
        → SendsPart l new_l (spelled sent) → Rose l.faults new_l.faults → (Z → ⊥) → Broken C Stands lent IsOf Has k s further number new_l Q left new
    send-breaks failed l new_l feed left h m place stays not_failed up fed part rose never =
        short-breaks further number l new_l Q left new (send-short failed l new_l feed left h m place stays not_failed up fed part) rose (λ z more enough. never z)

  -- ---- the client is cut, and the connection given up

  pub fail-ends : (ahead : Ahead) (line : ℕ) (P Q : List ℕ → Type 0) (l : Linking) (feed : List ℕ) (code new : C) (lines : List TraceLine)
      → ((texts : List ℕ) → P texts → Q (texts ++ spoken k.says (flat_map (line_text k.schema line) lines))) → (b : Broken C Stands lent IsOf Has k s ahead line l P feed code)
      → Makes Stands lent IsOf Has k code new (left_by s.past (b.course.earlier ++ b.course.call ∷ [])) WasCut lines []
      → Free C Stands lent IsOf Has k s ahead line true (hung_up l) Q feed new
  fail-ends ahead line P Q l feed code new lines says b m =
      let E : List (Call C) = b.course.earlier in
      let fails-yes : fails (with_step b.course.call (done_of C Stands lent IsOf Has k s line Failed m) b.course.call.torn b.course.call.told b.course.call.left) ≡ true =
      fails-one b.course.call.others (done_of C Stands lent IsOf Has k s line Failed m) ∙ or-yes (fails b.course.call) in
      let sum : requests_of (steps_in (done_in (with_step b.course.call (done_of C Stands lent IsOf Has k s line Failed m) b.course.call.torn b.course.call.told b.course.call.left))) ≡ requests_of (steps_in (done_in b.course.call)) =
      requests-step b.course.call (done_of C Stands lent IsOf Has k s line Failed m) b.course.call.torn b.course.call.told b.course.call.left
      ∙ (ap (λ ms. requests_of (steps_in (done_in b.course.call)) ++ ms) (sym m.sent_is) ∙ append-nil (requests_of (steps_in (done_in b.course.call)))) in
      let before = b.faults in
      let count : count_faults (b.course.earlier ++ with_step b.course.call (done_of C Stands lent IsOf Has k s line Failed m) b.course.call.torn b.course.call.told b.course.call.left ∷ []) ≡ count_faults b.course.earlier + one_if (is_fault b.course.call) =
      count-one b.course.earlier (with_step b.course.call (done_of C Stands lent IsOf Has k s line Failed m) b.course.call.torn b.course.call.told b.course.call.left)
      ∙ ap (λ y. count_faults b.course.earlier + one_if (y && is_fault b.course.call)) fails-yes in
      record {
        came = none_taken;
        at = record {
          course = course-one C Stands lent IsOf Has k s ahead ahead line b.came line Failed P Q code new WasCut lines [] refl (omega arith) says feed b.course.call.left feed b.course.left b.course.call.torn b.course.call.told b.course m (refl, b.out) tt
              (weaken-told (λ t. t.taken ≡ spelled (given_of (steps_in (done_in b.course.call))) ++ b.course.call.left)
              (λ t. t.taken ≡ spelled (given_of (steps_in (done_in b.course.call)) ++ []) ++ b.course.call.left) b.course.call.told
              (λ t e. e ∙ ap (λ ms. spelled ms ++ b.course.call.left) (sym (append-nil (given_of (steps_in (done_in b.course.call)))))) b.course.taken)
              b.course.dialled
              (told-same s.linking.peers b.course.call (with_step b.course.call (done_of C Stands lent IsOf Has k s line Failed m) b.course.call.torn b.course.call.told b.course.call.left) refl
              (given-step b.course.call (done_of C Stands lent IsOf Has k s line Failed m) b.course.call.torn b.course.call.told b.course.call.left ∙ append-nil (given_of (steps_in (done_in b.course.call)))) refl refl b.course.is_told);
          sent = subst (λ ms. IfSome b.course.call.told (λ t. SentAs b.course.call.torn ms t.sent)) (sym sum) b.sent;
          counted = λ yes. fails-yes;
          faults = subst (λ n. RoseBy s.linking.faults n l.faults) (sym count) before;
          there = subst (λ y. IsThere y b.course.earlier (with_step b.course.call (done_of C Stands lent IsOf Has k s line Failed m) b.course.call.torn b.course.call.told b.course.call.left) s.linking (hung_up l))
              (sym (ap (λ (c : Client). c.cut) (past-step s.past b.course.earlier b.course.call (done_of C Stands lent IsOf Has k s line Failed m) b.course.call.torn b.course.call.told b.course.call.left) ∙ m.link.0))
              (append-nil (connections l) ∙ (b.made
              ∙ ap (λ x. connections s.linking ++ x) (told-one b.course.earlier b.course.call ∙ sym (told-one b.course.earlier (with_step b.course.call (done_of C Stands lent IsOf Has k s line Failed m) b.course.call.torn b.course.call.told b.course.call.left)))));
          failed_is = any-one b.course.earlier (with_step b.course.call (done_of C Stands lent IsOf Has k s line Failed m) b.course.call.torn b.course.call.told b.course.call.left)
              ∙ (ap (λ y. list_any fails b.course.earlier || y) fails-yes ∙ or-yes (list_any fails b.course.earlier));
          calm = λ no. absurd (let wrong : true ≡ false = no in cc);
          peers_stay = b.peers_stay;
          up = λ still_up. absurd (let wrong : true ≡ false =
              sym (ap (λ (c : Client). c.cut) (past-step s.past b.course.earlier b.course.call (done_of C Stands lent IsOf Has k s line Failed m) b.course.call.torn b.course.call.told b.course.call.left) ∙ m.link.0) ∙ still_up in cc);
          steadily = steadily-on Z (count_faults b.course.earlier + one_if (is_fault b.course.call))
              (count_faults (b.course.earlier ++ with_step b.course.call (done_of C Stands lent IsOf Has k s line Failed m) b.course.call.torn b.course.call.told b.course.call.left ∷ [])) (length b.course.earlier + 1) s.linking l (hung_up l) count refl refl b.steadily;
        };
        free = ap (λ (c : Client). c.out) (past-step s.past b.course.earlier b.course.call (done_of C Stands lent IsOf Has k s line Failed m) b.course.call.torn b.course.call.told b.course.call.left) ∙ m.rests m.link.0;
      }
