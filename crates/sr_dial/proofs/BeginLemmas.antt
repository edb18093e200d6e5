-- A client resumes.
use Rattle.std.proofs.Common.{◌≡◌, ℕ, Bool, true, false, List, [], ◌∷◌, ◌++◌, arith, append-nil, refl, sym, ◌∙◌, ap, subst, Option, Some, None, option_map, option_to_list, length}
use Rattle.std.specs.Prelude.{◌≢◌, ◌||◌, IfSome, flat_map, take}
use Rattle.std.specs.List.{list_any}
use Rattle.std.proofs.lemmas.List.Elements.{All-append, All-cons, All-nil}
use Rattle.sr_io.specs.Causes.{Rose}
use Rattle.sr_io.specs.Pieces.{SendsPart}
use Rattle.sr_io.specs.Told.{Connection, Linking, OnlyFaults, connected_at, connections, next_peer, sends, sent_on}
use Rattle.sr_message.specs.declared.message.Message.{Message}
use Rattle.sr_script.specs.declared.line.TraceLine.{TraceLine}
use Rattle.sr_script.specs.TraceText.{line_text}
use Rattle.sr_session.specs.Clients.{Client}
use Rattle.sr_session.specs.Rules.{sent_of}
use Rattle.sr_links.specs.Brought.{Holding}
use Rattle.sr_links.specs.Steps.{Standing, Resumed, past_after, requests_of}
use Rattle.sr_dial.specs.Calls.{Call, Scripted, Do, all_done, calls_told, count_faults, fails, is_fault, steps_in}
use Rattle.sr_talk.specs.Serving.{RoseBy, spelled}
use Rattle.sr_dial.specs.Carrying.{spoken}
use Rattle.sr_dial.specs.Known.{Setting, Makes}
use Rattle.sr_dial.specs.Runs.{IsCarried, IsToldIf, SendsMost, left_by, none_taken}
use Rattle.sr_dial.specs.Courses.{At, Broken, Course, IsThere, Rests, Start, Steadily, Stepped}
use Rattle.sr_dial.proofs.ListLemmas.{all-one, any-one, calls-one, dialled-one, told-one}
use Rattle.sr_dial.proofs.CourseLemmas.{count-still, done_of, made-of, past-one, step_of, stepped-one}
use Rattle.sr_dial.proofs.BrokenLemmas.{IsShort, most-part, short-breaks}
use Rattle.sr_dial.proofs.SteadyLemmas.{length-one, steadily-more, steadily-peer}
use Rattle.sr_dial.proofs.ToldLemmas.{still-other, still-same, told-first, told-more, told-none}
use Rattle.sr_dial.specs.declared.parts.Answer.{Answer}
use Rattle.sr_dial.specs.Following.{Ahead}
use Rattle.sr_plan.specs.Plans.{Next}
use Rattle.sr_dial.specs.declared.waiting.Count.{Count}

-- what a connection that has just been made has sent and taken
told-fresh : (P : Connection → Type 0) (address bytes : List ℕ) (peers : Option (List (List ℕ))) → ((coming : List ℕ) → P (record { address = address; sent = bytes; taken = []; coming = coming }))
    → IfSome (option_map (sends bytes) (next_peer (Some address) peers)) P
told-fresh P address bytes None each = tt
told-fresh P address bytes (Some []) each = tt
told-fresh P address bytes (Some (coming ∷ more)) each = each coming

module _ {Z : Type 0} (C : Type 0) (Stands : C → Client → Type 0) (lent : C → Option Answer) (IsOf : Standing C) (Has : Holding C) (k : Setting) (s : Start C Z) where
  -- where the link is cut the present call is over
  pub rests-of : (ahead : Ahead) (line : ℕ) (came : Count) (failed : Bool) (l : Linking) (P : List ℕ → Type 0) (feed : List ℕ) (code : C) (h : At C Stands lent IsOf Has k s ahead line came failed l P feed code)
      → (left_by s.past (h.course.earlier ++ h.course.call ∷ [])).cut ≡ true → Rests C Stands lent IsOf Has k s ahead line failed l P code
  rests-of ahead line came failed l P feed code h down = record {
    calls = h.course.earlier ++ h.course.call ∷ [];
    are = calls-one s.past h.course.earlier h.course.call h.course.are h.course.is;
    carried = All-append (IsCarried false) h.course.earlier (h.course.call ∷ []) h.course.carried
        (All-cons (IsCarried false) h.course.call [] (record { taken = h.course.taken; sent = h.sent; counted = λ whole. h.counted }) (All-nil (IsCarried false)));
    dialled = dialled-one s.address h.course.earlier h.course.call h.course.before_dialled h.course.dialled;
    each_told = told-more s.linking.peers h.course.earlier h.course.call h.course.before_told h.course.is_told;
    peers_stay = h.peers_stay;
    made = made-of (left_by s.past (h.course.earlier ++ h.course.call ∷ [])).cut h.course.earlier h.course.call s.linking l h.there;
    faults = h.faults;
    failed_is = h.failed_is;
    calm = h.calm;
    came = came;
    steps = h.course.steps;
    cut = down;
    steadily = subst (λ n. Steadily Z (count_faults (h.course.earlier ++ h.course.call ∷ [])) n s.linking l) (sym (length-one h.course.earlier h.course.call)) h.steadily;
  }

  module _ (ahead further : Ahead) (line number : ℕ) (failed : Bool) (P Q : List ℕ → Type 0) (l : Linking) (code new : C) (lines : List TraceLine) (sent : List Message)
      (on : ahead (lent code) ≡ Next number (Do Resumed) further) (says : (texts : List ℕ) → P texts → Q (texts ++ spoken k.says (flat_map (line_text k.schema number) lines))) (r : Rests C Stands lent IsOf Has k s ahead line failed l P code)
      (m : Makes Stands lent IsOf Has k code new (left_by s.past r.calls) Resumed lines sent) (free : (left_by s.past r.calls).out ≡ None) (message : Message) (one : sent ≡ message ∷ []) where
    -- its next past is that of a link that is up
    next-up : m.next.cut ≡ false
    next-up = (subst (λ ms. Rattle.sr_dial.specs.Known.KeepsLink Resumed ms (left_by s.past r.calls) m.next) one m.link).1

    abbrev new_call : Bool → Bool → Option Connection → Call C
    new_call connected torn told = record { number = number; first = step_of C Stands lent IsOf Has k s m; others = []; connected = connected; torn = torn; told = told; left = [] }

    abbrev new_course : (connected torn : Bool) (told : Option Connection) → IfSome told (λ t. t.taken ≡ []) → IfSome told (λ t. t.address ≡ s.address) → IsToldIf s.linking.peers (new_call connected torn told) → Course C Stands lent IsOf Has k s further number none_taken Q [] new
    new_course connected torn told taken dialled is_told = record {
      earlier = r.calls;
      call = record { number = number; first = step_of C Stands lent IsOf Has k s m; others = []; connected = connected; torn = torn; told = told; left = [] };
      are = r.are;
      is = record { first = refl; was_cut = r.cut; on_one = tt };
      carried = r.carried;
      before_dialled = r.dialled;
      dialled = dialled;
      before_told = r.each_told;
      is_told = is_told;
      left = refl;
      some = λ none. absurd (let wrong : message ∷ [] ≡ [] = sym one ∙ (m.sent_is ∙ (sym (append-nil (sent_of m.outcome)) ∙ none)) in cc);
      taken = taken;
      steps = subst (λ ds. Stepped C Stands lent IsOf Has k s further number none_taken ds Q new)
          (sym (all-one r.calls (record { number = number; first = step_of C Stands lent IsOf Has k s m; others = []; connected = connected; torn = torn; told = told; left = [] })))
          (stepped-one C Stands lent IsOf Has k s ahead further line r.came number Scripted P Q code new Resumed lines sent on (omega arith) says (all_done r.calls) r.steps m free);
    }

    sum : requests_of (step_of C Stands lent IsOf Has k s m ∷ []) ≡ sent
    sum = append-nil (sent_of m.outcome) ∙ sym m.sent_is

    past-new : (connected torn : Bool) (told : Option Connection)
        → left_by s.past (r.calls ++ record { number = number; first = step_of C Stands lent IsOf Has k s m; others = []; connected = connected; torn = torn; told = told; left = [] } ∷ []) ≡ m.next
    past-new connected torn told =
        ap (λ ds. past_after s.past (steps_in ds)) (all-one r.calls (record { number = number; first = step_of C Stands lent IsOf Has k s m; others = []; connected = connected; torn = torn; told = told; left = [] }))
        ∙ past-one s.past (all_done r.calls) (done_of C Stands lent IsOf Has k s number Scripted m)

    or-none : (b : Bool) → (b || false) ≡ b
    or-none true = refl
    or-none false = refl

    -- it dials, and its message is sent
    pub begins : (new_l : Linking) → (l.peers ≡ Some [] → ⊥) → new_l ≡ sent_on (spelled sent) (connected_at (Some s.address) l) → At C Stands lent IsOf Has k s further number none_taken failed new_l Q [] new
    begins new_l more is =
        let before = r.faults in
        record {
          course = new_course true false (option_map (sends (spelled sent)) (next_peer (Some s.address) l.peers)) (told-fresh (λ t. t.taken ≡ []) s.address (spelled sent) l.peers (λ coming. refl))
              (told-fresh (λ t. t.address ≡ s.address) s.address (spelled sent) l.peers (λ coming. refl))
              (told-first s.linking l s.address (sends (spelled sent)) (new_call true false (option_map (sends (spelled sent)) (next_peer (Some s.address) l.peers))) refl refl more r.peers_stay);
          sent = told-fresh (λ t. t.sent ≡ spelled (requests_of (step_of C Stands lent IsOf Has k s m ∷ []))) s.address (spelled sent) l.peers (λ coming. ap spelled (sym sum));
          counted = λ yes. absurd (let wrong : false ≡ true = yes in cc);
          faults = subst (λ n. RoseBy s.linking.faults n new_l.faults) (sym (count-still r.calls (new_call true false (option_map (sends (spelled sent)) (next_peer (Some s.address) l.peers))) refl))
              (subst (λ (x : Linking). RoseBy s.linking.faults (count_faults r.calls) x.faults) (sym is) before);
          there = subst (λ b. IsThere b r.calls (new_call true false (option_map (sends (spelled sent)) (next_peer (Some s.address) l.peers))) s.linking new_l)
              (sym (ap (λ (c : Client). c.cut) (past-new true false (option_map (sends (spelled sent)) (next_peer (Some s.address) l.peers))) ∙ next-up))
              (ap (λ (x : Linking). x.present) is, ap (λ (x : Linking). x.past) is ∙ r.made, refl, refl);
          failed_is = any-one r.calls (new_call true false (option_map (sends (spelled sent)) (next_peer (Some s.address) l.peers))) ∙ (or-none (list_any fails r.calls) ∙ r.failed_is);
          calm = λ no. ap (λ (x : Linking). x.faults) is ∙ r.calm no;
          peers_stay = still-other s.linking l new_l (ap (λ (x : Linking). x.peers) is) r.peers_stay;
          up = λ still_up. ap (λ (x : Linking). x.is_up) is;
          steadily = steadily-more Z (count_faults r.calls) (count_faults (r.calls ++ new_call true false (option_map (sends (spelled sent)) (next_peer (Some s.address) l.peers)) ∷ [])) (length r.calls) s.linking l new_l
              (count-still r.calls (new_call true false (option_map (sends (spelled sent)) (next_peer (Some s.address) l.peers))) refl) (ap (λ (x : Linking). x.faults) is) (ap (λ (x : Linking). x.peers) is) r.steadily;
        }

    not-free : (connected torn : Bool) (told : Option Connection)
        → (left_by s.past (r.calls ++ record { number = number; first = step_of C Stands lent IsOf Has k s m; others = []; connected = connected; torn = torn; told = told; left = [] } ∷ [])).out ≢ None
    not-free connected torn told none = m.waits (λ no. absurd (let wrong : message ∷ [] ≡ [] = sym one ∙ no in cc)) (sym (ap (λ (c : Client). c.out) (past-new connected torn told)) ∙ none)

    -- nobody could be dialled
    pub begin-alone : (new_l : Linking) → OnlyFaults l new_l → IsShort C Stands lent IsOf Has k s further number l new_l Q [] new
    begin-alone new_l only =
        let before = r.faults in
        record {
          came = none_taken;
          course = new_course false false None tt tt (told-none s.linking.peers (new_call false false None) refl refl refl refl);
          sent = tt;
          before = before;
          made = ap (λ p. new_l.past ++ option_to_list p) only.present ∙ (ap (λ x. x ++ option_to_list l.present) only.past
              ∙ (r.made ∙ ap (λ x. connections s.linking ++ x) (sym (append-nil (calls_told r.calls)) ∙ sym (told-one r.calls (new_call false false None)))));
          out = not-free false false None;
          not_yet = refl;
          peers_stay = still-same s.linking l new_l only.peers r.peers_stay;
        }

    pub begin-fails : (new_l : Linking) → OnlyFaults l new_l → Rose l.faults new_l.faults → (Z → l.peers ≡ Some []) → Broken C Stands lent IsOf Has k s further number new_l Q [] new
    unfolding begin-alone
    begin-fails new_l only rose last =
        short-breaks C Stands lent IsOf Has k s further number l new_l Q [] new (begin-alone new_l only) rose (steadily-peer Z (count_faults r.calls) 0 (length r.calls) s.linking l new_l last r.steadily)

    -- the message is cut short
    pub begin-short : (new_l : Linking) → (l.peers ≡ Some [] → ⊥) → SendsPart (connected_at (Some s.address) l) new_l (spelled sent) → IsShort C Stands lent IsOf Has k s further number l new_l Q [] new
    begin-short new_l more part =
        let before = r.faults in
        record {
          came = none_taken;
          course = new_course true true (option_map (sends (take part.count (spelled sent))) (next_peer (Some s.address) l.peers)) (told-fresh (λ t. t.taken ≡ []) s.address (take part.count (spelled sent)) l.peers (λ coming. refl))
              (told-fresh (λ t. t.address ≡ s.address) s.address (take part.count (spelled sent)) l.peers (λ coming. refl))
              (told-first s.linking l s.address (sends (take part.count (spelled sent))) (new_call true true (option_map (sends (take part.count (spelled sent))) (next_peer (Some s.address) l.peers))) refl refl more r.peers_stay);
          sent = told-fresh (λ t. SendsMost (requests_of (step_of C Stands lent IsOf Has k s m ∷ [])) t.sent) s.address (take part.count (spelled sent)) l.peers
              (λ coming. subst (λ ms. SendsMost ms (take part.count (spelled sent))) (sym (sum ∙ one)) (subst (λ ms. SendsMost (message ∷ []) (take part.count (spelled ms))) (sym one) (most-part [] message part.count)));
          before = before;
          made = made-of false r.calls (new_call true true (option_map (sends (take part.count (spelled sent))) (next_peer (Some s.address) l.peers))) s.linking new_l (part.sent.present, part.sent.past ∙ r.made, refl, refl);
          out = not-free true true (option_map (sends (take part.count (spelled sent))) (next_peer (Some s.address) l.peers));
          not_yet = refl;
          peers_stay = still-other s.linking l new_l part.sent.peers r.peers_stay;
        }

    pub begin-breaks : (new_l : Linking) → (l.peers ≡ Some [] → ⊥) → SendsPart (connected_at (Some s.address) l) new_l (spelled sent) → Rose l.faults new_l.faults → (Z → ⊥) → Broken C Stands lent IsOf Has k s further number new_l Q [] new
    begin-breaks new_l more part rose never =
        short-breaks C Stands lent IsOf Has k s further number l new_l Q [] new (begin-short new_l more part) rose (λ z more enough. never z)
