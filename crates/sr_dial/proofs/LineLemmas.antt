-- Lines of a ahead, from how they begin to how they end.
use Rattle.std.proofs.Common.{◌≡◌, ℕ, Bool, true, false, cond, List, [], ◌∷◌, ◌++◌, append-nil, inl, inr, refl, sym, ◌∙◌, subst, ap, arith, Some, Option}
use Rattle.std.proofs.lemmas.List.Elements.{All-nil}
use Rattle.std.specs.Prelude.{◌⊎◌, flat_map}
use Rattle.sr_io.specs.Causes.{Rose}
use Rattle.sr_io.specs.Told.{Connection, Linking, OnlyFaults, Writing, connected_at, hung_up, connections}
use Rattle.sr_message.specs.declared.message.Message.{Message}
use Rattle.sr_script.specs.declared.line.TraceLine.{TraceLine}
use Rattle.sr_script.specs.TraceText.{line_text}
use Rattle.sr_session.specs.Clients.{Client}
use Rattle.sr_session.specs.Rules.{sent_of}
use Rattle.sr_links.specs.Brought.{Holding}
use Rattle.sr_links.specs.Steps.{Standing, WasCut, Resumed}
use Rattle.sr_dial.specs.Calls.{Scripted, Do}
use Rattle.sr_talk.specs.Serving.{spelled}
use Rattle.sr_dial.specs.Carrying.{Carries, SaysAs}
use Rattle.sr_dial.specs.Known.{IsFrom, KeepsLink, Makes, Setting}
use Rattle.sr_dial.specs.Runs.{left_by, none_taken, IsCarried, IsToldIf}
use Rattle.sr_dial.specs.Courses.{Broken, FailsAs, Hands, IsPartWritten, IsReady, IsWritten, Rests, Start, TellsStill, Unbegun}
use Rattle.sr_dial.specs.declared.steps.Handed.{Handed}
use Rattle.sr_dial.specs.declared.steps.Handed.TheVariants.{Whole, Broken as HandedBroken, Unwritten}
use Rattle.sr_dial.proofs.BeginLemmas.{begins, begin-breaks, begin-fails, rests-of}
use Rattle.sr_dial.proofs.BrokenLemmas.{fail-ends, one-sent}
use Rattle.sr_dial.proofs.EndLemmas.{unwritten-at, unwritten-broken}
use Rattle.sr_dial.proofs.HandLemmas.{half, hands-up, wrote}
use Rattle.sr_dial.proofs.SteadyLemmas.{steadily-first}
use Rattle.sr_dial.proofs.ToldLemmas.{still-self}
use Rattle.sr_dial.specs.declared.parts.Answer.{Answer}
use Rattle.sr_dial.specs.Following.{Ahead}
use Rattle.sr_plan.specs.Plans.{Next}

module _ {Z : Type 0} (C : Type 0) (Stands : C → Client → Type 0) (lent : C → Option Answer) (IsOf : Standing C) (Has : Holding C) (k : Setting) (s : Start C Z) where
  -- ---- a resume

  -- before anything was done the client's link is cut
  unbegun-rests : (ahead : Ahead) (line : ℕ) (failed : Bool) (l : Linking) (P : List ℕ → Type 0) (code : C) → Unbegun C Stands lent IsOf Has k s ahead line failed l P code → Rests C Stands lent IsOf Has k s ahead line failed l P code
  unbegun-rests ahead line failed l P code u = record {
    calls = [];
    are = tt;
    carried = All-nil (IsCarried false);
    dialled = All-nil (λ (t : Connection). t.address ≡ s.address);
    each_told = All-nil (IsToldIf s.linking.peers);
    peers_stay = subst (TellsStill s.linking) (sym u.links) (still-self s.linking);
    made = ap connections u.links ∙ sym (append-nil (connections s.linking));
    faults = subst (λ (x : Linking). Rattle.sr_talk.specs.Serving.RoseBy s.linking.faults 0 x.faults) (sym u.links) (omega arith);
    failed_is = sym u.not_failed;
    calm = λ no. ap (λ (x : Linking). x.faults) u.links;
    came = none_taken;
    steps = record {
      in_place = tt;
      line_is = sym u.first;
      came_is = refl;
      few = tt;
      goes = tt;
      ahead_is = sym u.none;
      answer_is = sym u.lends;
      from = All-nil (IsFrom k.number);
      fair = tt;
      lawful = tt;
      explained = tt;
      code_is = sym u.code_is;
      stands = subst (λ x. Stands x s.past) (sym u.code_is) u.stands;
      rests = λ down. u.out;
      writes = u.written;
    };
    cut = u.cut;
    steadily = steadily-first Z s.linking l u.links;
  }

  module _ (ahead further : Ahead) (line number : ℕ) (failed : Bool) (l mid new_l : Linking) (w new_w : Writing) (code new : C) (lines : List TraceLine) (sent : List Message)
      (on : ahead (lent code) ≡ Next number (Do Resumed) further) where
    abbrev text : List ℕ
    text = flat_map (line_text k.schema number) lines

    module _ (r : Rests C Stands lent IsOf Has k s ahead line failed l (IsWritten s w) code) (m : Makes Stands lent IsOf Has k code new (left_by s.past r.calls) Resumed lines sent)
        (message : Message) (one : sent ≡ message ∷ []) where
      -- somebody is dialled
      pub dialled : (handed : Handed) → (Z → mid.is_up ≡ true → handed ≡ Whole) → (l.peers ≡ Some [] → ⊥) → mid ≡ connected_at (Some s.address) l → Carries k.says handed mid new_l w new_w (spelled sent) (flat_map (line_text k.schema number) lines)
          → Hands C Stands lent IsOf Has k handed s further number none_taken failed new_l new_w [] new
      dialled handed calm more made carries = by handed (λ z. calm z (ap (λ (x : Linking). x.is_up) made)) (subst (λ x. Carries k.says handed x new_l w new_w (spelled sent) (flat_map (line_text k.schema number) lines)) made carries)
        where
          by : (handed : Handed) → (Z → handed ≡ Whole) → Carries k.says handed (connected_at (Some s.address) l) new_l w new_w (spelled sent) (flat_map (line_text k.schema number) lines)
              → Hands C Stands lent IsOf Has k handed s further number none_taken failed new_l new_w [] new
          by Whole calm (is, says) = begins C Stands lent IsOf Has k s ahead further line number failed (IsWritten s w) (IsWritten s new_w) l code new lines sent on (wrote k.says s w new_w text says) r m (r.steps.rests r.cut) message one new_l more is
          by HandedBroken calm ((part, rose), says) =
              begin-breaks C Stands lent IsOf Has k s ahead further line number failed (IsWritten s w) (IsWritten s new_w) l code new lines sent on (wrote k.says s w new_w text says) r m (r.steps.rests r.cut) message one new_l more part rose
              (λ z. absurd (let wrong : HandedBroken ≡ Whole = calm z in cc))
          by Unwritten calm (inl is, says) =
              unwritten-at C Stands lent IsOf Has k s further number none_taken new_l [] new new_w failed
              (begins C Stands lent IsOf Has k s ahead further line number failed (IsWritten s w) (IsPartWritten k.says s new_w) l code new lines sent on (half k.says s w new_w text says) r m (r.steps.rests r.cut) message one new_l more is)
          by Unwritten calm (inr (part, rose), says) =
              unwritten-broken C Stands lent IsOf Has k s further number none_taken new_l [] new new_w
              (begin-breaks C Stands lent IsOf Has k s ahead further line number failed (IsWritten s w) (IsPartWritten k.says s new_w) l code new lines sent on (half k.says s w new_w text says) r m (r.steps.rests r.cut) message one new_l more part rose
              (λ z. absurd (let wrong : Unwritten ≡ Whole = calm z in cc)))

      -- nobody is
      pub not-dialled : (said : Bool) → OnlyFaults l new_l → Rose l.faults new_l.faults → (Z → l.peers ≡ Some []) → SaysAs k.says said w new_w (flat_map (line_text k.schema number) lines)
          → Hands C Stands lent IsOf Has k (cond said HandedBroken Unwritten) s further number none_taken failed new_l new_w [] new
      not-dialled true only rose last says = begin-fails C Stands lent IsOf Has k s ahead further line number failed (IsWritten s w) (IsWritten s new_w) l code new lines sent on (wrote k.says s w new_w text says) r m (r.steps.rests r.cut) message one new_l only rose last
      not-dialled false only rose last says =
          unwritten-broken C Stands lent IsOf Has k s further number none_taken new_l [] new new_w
          (begin-fails C Stands lent IsOf Has k s ahead further line number failed (IsWritten s w) (IsPartWritten k.says s new_w) l code new lines sent on (half k.says s w new_w text says) r m (r.steps.rests r.cut) message one new_l only rose last)

  module _ (ahead further : Ahead) (line number : ℕ) (failed : Bool) (l new_l : Linking) (w new_w : Writing) (feed : List ℕ) (code new : C) (lines : List TraceLine) (sent : List Message)
      (on : ahead (lent code) ≡ Next number (Do Resumed) further) (ready : IsReady C Stands lent IsOf Has k s ahead line failed l (IsWritten s w) feed code) (act : (c : Client) → Stands code c → Makes Stands lent IsOf Has k code new c Resumed lines sent) where
    -- the link is up: nothing is done
    pub resumes-up : (handed : Handed) → (Z → l.is_up ≡ true → handed ≡ Whole) → sent ≡ [] → Carries k.says handed l new_l w new_w (spelled sent) (flat_map (line_text k.schema number) lines)
        → Hands C Stands lent IsOf Has k handed s further number none_taken failed new_l new_w feed new
    resumes-up handed calm none carries = by ready
      where
        by : IsReady C Stands lent IsOf Has k s ahead line failed l (IsWritten s w) feed code → Hands C Stands lent IsOf Has k handed s further number none_taken failed new_l new_w feed new
        by (inl f) =
            let m = act (left_by s.past (f.at.course.earlier ++ f.at.course.call ∷ [])) f.at.course.steps.stands in
            let link = subst (λ ms. KeepsLink Resumed ms (left_by s.past (f.at.course.earlier ++ f.at.course.call ∷ [])) m.next) none m.link in
            hands-up C Stands lent IsOf Has k s ahead further line f.came number Scripted code new Resumed lines sent on (omega arith) failed l new_l w new_w feed feed f.at m f.free link.0 refl handed calm link.0 link.1 refl carries
        by (inr u) =
            let m = act s.past (subst (λ x. Stands x s.past) (sym u.code_is) u.stands) in
            let link = subst (λ ms. KeepsLink Resumed ms s.past m.next) none m.link in
            absurd (let wrong : true ≡ false = sym u.cut ∙ link.0 in cc)

    -- it is down: the present call is over
    pub resting : (sent ≡ [] → ⊥) → Rests C Stands lent IsOf Has k s ahead line failed l (IsWritten s w) code
    resting some = by ready
      where
        down : (c : Client) → (m : Makes Stands lent IsOf Has k code new c Resumed lines sent) → (ms : List Message) → sent ≡ ms → c.cut ≡ true
        down c m [] e = absurd (some e)
        down c m (x ∷ ms) e = (subst (λ ms. KeepsLink Resumed ms c m.next) e m.link).0

        by : IsReady C Stands lent IsOf Has k s ahead line failed l (IsWritten s w) feed code → Rests C Stands lent IsOf Has k s ahead line failed l (IsWritten s w) code
        by (inl f) =
            let c : Client = left_by s.past (f.at.course.earlier ++ f.at.course.call ∷ []) in
            rests-of C Stands lent IsOf Has k s ahead line f.came failed l (IsWritten s w) feed code f.at
            (down (left_by s.past (f.at.course.earlier ++ f.at.course.call ∷ [])) (act (left_by s.past (f.at.course.earlier ++ f.at.course.call ∷ [])) f.at.course.steps.stands) sent refl)
        by (inr u) = unbegun-rests ahead line failed l (IsWritten s w) code u

    pub resumes-dialled : (handed : Handed) (mid : Linking) → (Z → mid.is_up ≡ true → handed ≡ Whole) → (sent ≡ [] → ⊥) → (l.peers ≡ Some [] → ⊥) → mid ≡ connected_at (Some s.address) l → Carries k.says handed mid new_l w new_w (spelled sent) (flat_map (line_text k.schema number) lines)
        → Hands C Stands lent IsOf Has k handed s further number none_taken failed new_l new_w [] new
    resumes-dialled handed mid calm some more made carries = by (one-sent m.outcome)
      where
        r : Rests C Stands lent IsOf Has k s ahead line failed l (IsWritten s w) code
        r = resting some

        m : Makes Stands lent IsOf Has k code new (left_by s.past r.calls) Resumed lines sent
        m = act (left_by s.past r.calls) r.steps.stands

        by : (sent_of m.outcome ≡ []) ⊎ ((x : Message) × (sent_of m.outcome ≡ x ∷ [])) → Hands C Stands lent IsOf Has k handed s further number none_taken failed new_l new_w [] new
        by (inl none) = absurd (some (m.sent_is ∙ none))
        by (inr (x, one)) = dialled ahead further line number failed l mid new_l w new_w code new lines sent on r m x (m.sent_is ∙ one) handed calm more made carries

    pub resumes-alone : (said : Bool) → (sent ≡ [] → ⊥) → OnlyFaults l new_l → Rose l.faults new_l.faults → (Z → l.peers ≡ Some []) → SaysAs k.says said w new_w (flat_map (line_text k.schema number) lines)
        → Hands C Stands lent IsOf Has k (cond said HandedBroken Unwritten) s further number none_taken failed new_l new_w [] new
    resumes-alone said some only rose last says = by (one-sent m.outcome)
      where
        r : Rests C Stands lent IsOf Has k s ahead line failed l (IsWritten s w) code
        r = resting some

        m : Makes Stands lent IsOf Has k code new (left_by s.past r.calls) Resumed lines sent
        m = act (left_by s.past r.calls) r.steps.stands

        by : (sent_of m.outcome ≡ []) ⊎ ((x : Message) × (sent_of m.outcome ≡ x ∷ [])) → Hands C Stands lent IsOf Has k (cond said HandedBroken Unwritten) s further number none_taken failed new_l new_w [] new
        by (inl none) = absurd (some (m.sent_is ∙ none))
        by (inr (x, one)) = not-dialled ahead further line number failed l l new_l w new_w code new lines sent on r m x (m.sent_is ∙ one) said only rose last says

  -- ---- the link failed

  pub fails-as : (ahead : Ahead) (line : ℕ) (l new_l : Linking) (w new_w : Writing) (feed : List ℕ) (code new : C) (lines : List TraceLine) (said : Bool)
      (b : Broken C Stands lent IsOf Has k s ahead line l (IsWritten s w) feed code) → ((c : Client) → Stands code c → Makes Stands lent IsOf Has k code new c WasCut lines []) → new_l ≡ hung_up l
      → SaysAs k.says said w new_w (flat_map (line_text k.schema line) lines) → FailsAs C Stands lent IsOf Has k said s ahead line new_l new_w feed new
  fails-as ahead line l new_l w new_w feed code new lines said b cut gone says =
      subst (λ x. FailsAs C Stands lent IsOf Has k said s ahead line x new_w feed new) (sym gone) (by said says)
    where
      m : Makes Stands lent IsOf Has k code new (left_by s.past (b.course.earlier ++ b.course.call ∷ [])) WasCut lines []
      m = cut (left_by s.past (b.course.earlier ++ b.course.call ∷ [])) b.course.steps.stands

      by : (said : Bool) → SaysAs k.says said w new_w (flat_map (line_text k.schema line) lines) → FailsAs C Stands lent IsOf Has k said s ahead line (hung_up l) new_w feed new
      by true says =
          fail-ends C Stands lent IsOf Has k s ahead line (IsWritten s w) (IsWritten s new_w) l feed code new lines (wrote k.says s w new_w (flat_map (line_text k.schema line) lines) says) b m
      by false says =
          let f = fail-ends C Stands lent IsOf Has k s ahead line (IsWritten s w) (IsPartWritten k.says s new_w) l feed code new lines (half k.says s w new_w (flat_map (line_text k.schema line) lines) says) b m in
          unwritten-at C Stands lent IsOf Has k s ahead line f.came (hung_up l) feed new new_w true f.at
