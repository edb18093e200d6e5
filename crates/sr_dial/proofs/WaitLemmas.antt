-- Messages that are awaited.
use Rattle.std.proofs.Common.{◌≡◌, ℕ, ◌+◌, ◌≤◌, Bool, true, false, List, [], ◌∷◌, ◌++◌, append-nil, refl, sym, ◌∙◌, ap, subst, Option, Some, None, arith}
use Rattle.std.specs.Prelude.{◌≢◌, ◌↔◌, IsTrue, flat_map, not}
use Rattle.std.specs.Option.{is_some}
use Rattle.sr_io.specs.Causes.{Rose}
use Rattle.sr_io.specs.Told.{Linking, Writing}
use Rattle.sr_message.specs.declared.message.Message.{Message}
use Rattle.sr_script.specs.TraceText.{line_text}
use Rattle.sr_session.specs.Clients.{Client}
use Rattle.sr_session.specs.Walks.{Request}
use Rattle.sr_wire.specs.declared.bad_frame.BadFrame.{BadFrame}
use Rattle.sr_wire.specs.declared.wire_fault.WireFault.{WireFault}
use Rattle.sr_wire.specs.Spelling.{has_spelling, spelling}
use Rattle.sr_links.specs.Brought.{Holding}
use Rattle.sr_links.specs.Steps.{Standing, Took}
use Rattle.sr_dial.specs.Calls.{Delivered}
use Rattle.sr_talk.specs.Reading.{Nexts, Reads}
use Rattle.sr_talk.specs.Serving.{spelled}
use Rattle.sr_talk.specs.declared.frames.Next.{Next}
use Rattle.sr_talk.specs.declared.frames.Next.TheVariants.{Frame, End, Torn, Fault, Bad as NextBad}
use Rattle.sr_dial.specs.Carrying.{Carries, CarriesInPart}
use Rattle.sr_dial.specs.Known.{Makes, Setting}
use Rattle.sr_dial.specs.Runs.{anew_if, left_by, more_if}
use Rattle.sr_dial.specs.Courses.{At, BreaksOff, Broken, Free, Handles, Hands, IsWritten, Over, Start, Waits, handled_by, last_of}
use Rattle.sr_dial.specs.declared.ending.Ending.TheVariants as ending
use Rattle.sr_dial.specs.declared.steps.Handed.{Handed}
use Rattle.sr_dial.specs.declared.steps.Handed.TheVariants.{Whole, Broken as HandedBroken, Unwritten}
use Rattle.sr_dial.proofs.BrokenLemmas.{at-read, end-breaks, fault-breaks, read-past}
use Rattle.sr_dial.proofs.EndLemmas.{over-at}
use Rattle.sr_dial.proofs.HandLemmas.{hands-up}
use Rattle.sr_dial.proofs.OffLemmas.{up-off}
use Rattle.sr_dial.specs.declared.parts.Answer.{Answer}
use Rattle.sr_dial.specs.Following.{Ahead}
use Rattle.sr_dial.specs.declared.waiting.Count.{Count}
use Rattle.sr_script.specs.declared.line.TraceLine.{TraceLine}
use Rattle.sr_session.specs.Misfits.{misfit}

module _ {Z : Type 0} (C : Type 0) (Stands : C → Client → Type 0) (lent : C → Option Answer) (IsOf : Standing C) (Has : Holding C) (k : Setting) (s : Start C Z) (ahead : Ahead) (line : ℕ) (came : Count) (failed : Bool) (l : Linking) (w : Writing) (feed : List ℕ) (code : C)
    (h : At C Stands lent IsOf Has k s ahead line came failed l (IsWritten s w) feed code) where
  abbrev now : Client
  now = left_by s.past (h.course.earlier ++ h.course.call ∷ [])

  pub some-out : is_some (left_by s.past (h.course.earlier ++ h.course.call ∷ [])).out ≡ true → (left_by s.past (h.course.earlier ++ h.course.call ∷ [])).out ≢ None
  some-out some none = absurd (let wrong : false ≡ true = sym (ap is_some none) ∙ some in cc)

  none-out : (out : Option Request) → is_some out ≡ false → out ≡ None
  none-out None none = refl
  none-out (Some r) none = absurd (cc)

  -- nothing is out
  pub is-free : is_some (left_by s.past (h.course.earlier ++ h.course.call ∷ [])).out ≡ false → Free C Stands lent IsOf Has k s ahead line failed l (IsWritten s w) feed code
  is-free none = record { came = came; at = h; free = none-out (left_by s.past (h.course.earlier ++ h.course.call ∷ [])).out none }

  module _ (some : is_some (left_by s.past (h.course.earlier ++ h.course.call ∷ [])).out ≡ true) where
    -- the link is up then
    pub is-up : (left_by s.past (h.course.earlier ++ h.course.call ∷ [])).cut ≡ false
    is-up = by (left_by s.past (h.course.earlier ++ h.course.call ∷ [])).cut refl
      where
        by : (cut : Bool) → (left_by s.past (h.course.earlier ++ h.course.call ∷ [])).cut ≡ cut → cut ≡ false
        by true down = absurd (some-out some (h.course.steps.rests down))
        by false up = refl

    -- behind what was read, the client is the one before
    module _ (new_l : Linking) (frame after : List ℕ) (r : Reads l new_l feed frame after) where
      abbrev pub read : At C Stands lent IsOf Has k s ahead line came failed new_l (IsWritten s w) (frame ++ after) code
      read = at-read C Stands lent IsOf Has k s ahead line came failed l new_l (IsWritten s w) feed frame after code h is-up r

      same : left_by s.past (read.course.earlier ++ read.course.call ∷ []) ≡ left_by s.past (h.course.earlier ++ h.course.call ∷ [])
      same = read-past C Stands lent IsOf Has k s ahead line came failed l new_l (IsWritten s w) feed frame after code h is-up r

      pub read-some : is_some (left_by s.past (read.course.earlier ++ read.course.call ∷ [])).out ≡ true
      read-some = ap (λ (c : Client). is_some c.out) same ∙ some

      read-up : (left_by s.past (read.course.earlier ++ read.course.call ∷ [])).cut ≡ false
      read-up = ap (λ (c : Client). c.cut) same ∙ is-up

      read-out : (left_by s.past (read.course.earlier ++ read.course.call ∷ [])).out ≢ None
      read-out none = some-out some (sym (ap (λ (c : Client). c.out) same) ∙ none)

    pub awaits-end : (new_l : Linking) (after : List ℕ) → Nexts End l new_l feed after → Broken C Stands lent IsOf Has k s ahead line new_l (IsWritten s w) after code
    awaits-end new_l after (r, none, over) =
        end-breaks C Stands lent IsOf Has k s ahead line came failed new_l (IsWritten s w) after code (read new_l [] after r) (read-up new_l [] after r) (read-out new_l [] after r) over
        (subst (λ bytes. Rattle.sr_wire.specs.Reading.decoded bytes ≡ Rattle.sr_wire.specs.Reading.Faulty Rattle.sr_wire.specs.declared.wire_fault.WireFault.TheVariants.Short) (sym none) refl)

    pub awaits-torn : (new_l : Linking) (after : List ℕ) → Nexts Torn l new_l feed after → Broken C Stands lent IsOf Has k s ahead line new_l (IsWritten s w) after code
    awaits-torn new_l after (r, some_left, short, over) =
        end-breaks C Stands lent IsOf Has k s ahead line came failed new_l (IsWritten s w) after code (read new_l [] after r) (read-up new_l [] after r) (read-out new_l [] after r) over short

    pub awaits-fault : (new_l : Linking) (after : List ℕ) → (Z → l.is_up ≡ true → ⊥) → Nexts Fault l new_l feed after → Broken C Stands lent IsOf Has k s ahead line new_l (IsWritten s w) after code
    awaits-fault new_l after never all =
        fault-breaks C Stands lent IsOf Has k s ahead line came failed all.linking (IsWritten s w) after code (read all.linking [] after all.reads) (read-up all.linking [] after all.reads)
        (read-out all.linking [] after all.reads) new_l all.only (subst (λ n. Rose n new_l.faults) (sym (ap (λ (x : Linking). x.faults) all.reads.is)) all.rose) (λ z. never z (h.up is-up))

    pub awaits-spoiled : (new_l : Linking) (after : List ℕ) (fault : WireFault) → Nexts (NextBad fault) l new_l feed after → Over C Stands lent IsOf Has k s (ending.Spoiled fault) new_l w code
    awaits-spoiled new_l after fault (r, faulty, other) =
        over-at C Stands lent IsOf Has k s ahead line came new_l after code code w failed (ending.Spoiled fault) (read new_l [] after r) refl (λ fine. refl)
        (λ whole. record { fault_is = faulty; whole = other; waits = read-out new_l [] after r }) (λ texts is. is)

    -- as many as may be came for one request
    pub awaits-no-more : (new_l : Linking) (after : List ℕ) (m : Message) → came.taken ≡ 1000000 → Nexts (Frame m) l new_l feed after → Over C Stands lent IsOf Has k s ending.Limit new_l w code
    awaits-no-more new_l after m many (r, is) =
        over-at C Stands lent IsOf Has k s ahead line came new_l (spelling m ++ after) code code w failed ending.Limit (read new_l (spelling m) after r) refl (λ fine. refl)
        (λ whole. record { message = m; rest = after; many = ap (λ (n : Count). n.taken) (read new_l (spelling m) after r).course.steps.came_is ∙ many; next = refl; spells = is }) (λ texts is. is)

    -- a message came, and is not taken yet
    pub record IsRead (new_l : Linking) (new_w : Writing) (m : Message) (after : List ℕ) : Type 0 where
      pub at : At C Stands lent IsOf Has k s ahead line came failed new_l (IsWritten s new_w) (spelling m ++ after) code
      pub waits : is_some (left_by s.past (at.course.earlier ++ at.course.call ∷ [])).out ≡ true
      pub spells : IsTrue (has_spelling m)

    pub reads-on : (new_l : Linking) (new_w : Writing) (m : Message) (after : List ℕ) → new_w ≡ w → Nexts (Frame m) l new_l feed after → IsRead new_l new_w m after
    reads-on new_l new_w m after same (r, is) =
        subst (λ x. IsRead new_l x m after) (sym same) (record { at = read new_l (spelling m) after r; waits = read-some new_l (spelling m) after r; spells = is })

    -- what comes next is the last thing that is looked at
    pub awaits-last : (new_l : Linking) (new_w : Writing) (after : List ℕ) (next : Next) → (Z → l.is_up ≡ true → next ≢ Fault) → came.taken ≡ 1000000 → new_w ≡ w → Nexts next l new_l feed after
        → Waits C Stands lent IsOf Has k (last_of next) s ahead line failed new_l new_w after code
    awaits-last new_l new_w after next calm many same comes = subst (λ x. Waits C Stands lent IsOf Has k (last_of next) s ahead line failed new_l x after code) (sym same) (by next calm comes)
      where
        by : (next : Next) → (Z → l.is_up ≡ true → next ≢ Fault) → Nexts next l new_l feed after → Waits C Stands lent IsOf Has k (last_of next) s ahead line failed new_l w after code
        by (Frame m) calm comes = awaits-no-more new_l after m many comes
        by End calm comes = awaits-end new_l after comes
        by Torn calm comes = awaits-torn new_l after comes
        by Fault calm comes = awaits-fault new_l after (λ z up. calm z up refl) comes
        by (NextBad fault) calm comes = awaits-spoiled new_l after fault comes

-- ---- one message

module _ {Z : Type 0} (C : Type 0) (Stands : C → Client → Type 0) (lent : C → Option Answer) (IsOf : Standing C) (Has : Holding C) (k : Setting) (s : Start C Z) (ahead : Ahead) (line : ℕ) (came : Count) (failed : Bool) (l new_l : Linking) (w new_w : Writing) (after : List ℕ) (code new : C) (m : Message)
    (h : At C Stands lent IsOf Has k s ahead line came failed l (IsWritten s w) (spelling m ++ after) code) where
  -- it must be refused
  pub handles-bad : (why : BadFrame) → is_some (left_by s.past (h.course.earlier ++ h.course.call ∷ [])).out ≡ true → IsTrue (has_spelling m)
      → Rattle.sr_session.specs.Misfits.misfit k.schema (left_by s.past (h.course.earlier ++ h.course.call ∷ [])).out (left_by s.past (h.course.earlier ++ h.course.call ∷ [])).laid
      (left_by s.past (h.course.earlier ++ h.course.call ∷ [])).version m ≡ Some why → Over C Stands lent IsOf Has k s (ending.Bad why) l w new
  handles-bad why some is bad =
      over-at C Stands lent IsOf Has k s ahead line came l (spelling m ++ after) code new w failed (ending.Bad why) h refl (λ fine. absurd (let wrong : true ≡ false = fine in cc)) (λ whole. record { message = m; rest = after; next = refl; spells = is; waits = some-out C Stands lent IsOf Has k s ahead line came failed l w (spelling m ++ after) code h some; why_is = bad }) (λ texts is. is)

  most-more : (sent : List Message) → came.taken + 1 ≤ 1000000 → (more_if sent came).taken ≤ 1000000
  most-more [] most = most
  most-more (x ∷ sent) most = by came.again
    where
      by : (again : Bool) → (anew_if again came.taken).taken ≤ 1000000
      by true = most
      by false = omega arith

  -- it is taken
  pub handles : came.taken + 1 ≤ 1000000 → (lines : List TraceLine) (sent : List Message) (handed : Handed) → (Z → l.is_up ≡ true → handed ≡ Whole) → (empty : Bool) → (IsTrue empty ↔ (sent ≡ [])) → is_some (left_by s.past (h.course.earlier ++ h.course.call ∷ [])).out ≡ true → IsTrue (has_spelling m)
      → misfit k.schema (left_by s.past (h.course.earlier ++ h.course.call ∷ [])).out (left_by s.past (h.course.earlier ++ h.course.call ∷ [])).laid
      (left_by s.past (h.course.earlier ++ h.course.call ∷ [])).version m ≡ None
      → Makes Stands lent IsOf Has k code new (left_by s.past (h.course.earlier ++ h.course.call ∷ [])) (Took m) lines sent
      → Carries k.says handed l new_l w new_w (spelled sent) (flat_map (line_text k.schema line) lines) → Handles C Stands lent IsOf Has k (handled_by handed (not empty)) s ahead line came failed m new_l new_w after new
  handles most lines sent handed calm empty is_empty some is fits made carries =
      by handed sent empty is_empty
      (hands-up C Stands lent IsOf Has k s ahead ahead line came line Delivered code new (Took m) lines sent refl (most-more sent most) failed l new_l w new_w (spelling m ++ after) after h made (refl, some-out C Stands lent IsOf Has k s ahead line came failed l w (spelling m ++ after) code h some, is, fits) tt refl
      handed calm (is-up C Stands lent IsOf Has k s ahead line came failed l w (spelling m ++ after) code h some)
      (made.link.0 ∙ is-up C Stands lent IsOf Has k s ahead line came failed l w (spelling m ++ after) code h some) (ap (λ x. x ++ after) (sym (append-nil (spelling m)))) carries)
    where
      by : (handed : Handed) (sent : List Message) (empty : Bool) → (IsTrue empty ↔ (sent ≡ [])) → Hands C Stands lent IsOf Has k handed s ahead line (more_if sent came) failed new_l new_w after new
          → Handles C Stands lent IsOf Has k (handled_by handed (not empty)) s ahead line came failed m new_l new_w after new
      by Whole [] true is hands = hands
      by Whole [] false is hands = absurd (let wrong = is.1 refl in cc)
      by Whole (x ∷ sent) false is hands = hands
      by Whole (x ∷ sent) true is hands = absurd (let wrong : x ∷ sent ≡ [] = is.0 refl in cc)
      by HandedBroken sent empty is hands = hands
      by Unwritten sent empty is hands = hands

  -- it is taken, and what it sends or its lines are cut short
  pub takes-off : came.taken + 1 ≤ 1000000 → (lines : List TraceLine) (sent : List Message) → is_some (left_by s.past (h.course.earlier ++ h.course.call ∷ [])).out ≡ true → IsTrue (has_spelling m)
      → misfit k.schema (left_by s.past (h.course.earlier ++ h.course.call ∷ [])).out (left_by s.past (h.course.earlier ++ h.course.call ∷ [])).laid
      (left_by s.past (h.course.earlier ++ h.course.call ∷ [])).version m ≡ None
      → Makes Stands lent IsOf Has k code new (left_by s.past (h.course.earlier ++ h.course.call ∷ [])) (Took m) lines sent
      → CarriesInPart k.says l new_l w new_w (spelled sent) (flat_map (line_text k.schema line) lines) → BreaksOff C Stands lent IsOf Has k s new_l new_w
  takes-off most lines sent some is fits made carries =
      up-off C Stands lent IsOf Has k s ahead ahead line came line Delivered code new (Took m) lines sent refl (most-more sent most) failed l new_l w new_w (spelling m ++ after) after h made (refl, some-out C Stands lent IsOf Has k s ahead line came failed l w (spelling m ++ after) code h some, is, fits) tt refl
      (is-up C Stands lent IsOf Has k s ahead line came failed l w (spelling m ++ after) code h some)
      (made.link.0 ∙ is-up C Stands lent IsOf Has k s ahead line came failed l w (spelling m ++ after) code h some) (ap (λ x. x ++ after) (sym (append-nil (spelling m)))) carries
