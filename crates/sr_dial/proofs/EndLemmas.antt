-- How a run ends.
use Rattle.std.proofs.Common.{◌≡◌, ℕ, Bool, true, false, List, [], ◌∷◌, ◌++◌, arith, sym, ◌∙◌, subst, Option}
use Rattle.std.specs.Prelude.{◌≢◌, flat_map}
use Rattle.sr_io.specs.Told.{Linking, Writing}
use Rattle.sr_message.specs.declared.message.Message.{Message}
use Rattle.sr_session.specs.Clients.{Client}
use Rattle.sr_links.specs.Brought.{Holding}
use Rattle.sr_links.specs.Steps.{Standing, requests_of}
use Rattle.sr_dial.specs.Calls.{Task, all_done, done_in, steps_in}
use Rattle.sr_dial.specs.Known.{Setting, said_by}
use Rattle.sr_dial.specs.Runs.{EndsBy, IsCarried, SendsMost, SentAs, WritesAs, is_bad, is_unwritten, left_by}
use Rattle.sr_dial.specs.Courses.{At, Broken, IsPartWritten, IsWritten, Over, Start}
use Rattle.sr_dial.specs.declared.ending.Ending.{Ending}
use Rattle.sr_dial.specs.declared.ending.Ending.TheVariants as ending
use Rattle.sr_dial.proofs.ListLemmas.{calls-one, dialled-one}
use Rattle.sr_dial.proofs.CourseLemmas.{count-still, made-of, weaken-told}
use Rattle.sr_dial.proofs.BrokenLemmas.{most-all}
use Rattle.sr_dial.proofs.ToldLemmas.{told-more}
use Rattle.sr_dial.specs.declared.parts.Answer.{Answer}
use Rattle.sr_dial.specs.Following.{Ahead}
use Rattle.sr_plan.specs.Plans.{Plan}
use Rattle.sr_dial.specs.declared.waiting.Count.{Count}

pub most-of : (b : Bool) (ms : List Message) (bytes : List ℕ) → ms ≢ [] → SentAs b ms bytes → SendsMost ms bytes
most-of true ms bytes some sent = sent
most-of false ms bytes some sent = subst (SendsMost ms) (sym sent) (most-all ms some)

module _ {Z : Type 0} (C : Type 0) (Stands : C → Client → Type 0) (lent : C → Option Answer) (IsOf : Standing C) (Has : Holding C) (k : Setting) (s : Start C Z) (ahead : Ahead) (line : ℕ) (came : Count) (l : Linking) (feed : List ℕ) (code : C) where
  -- the lines of a step are not written, all else of it was done
  pub unwritten-at : (w : Writing) (failed : Bool) → At C Stands lent IsOf Has k s ahead line came failed l (IsPartWritten k.says s w) feed code → Over C Stands lent IsOf Has k s ending.Unwritten l w code
  unwritten-at w failed h = record {
    earlier = h.course.earlier;
    last = h.course.call;
    are = calls-one s.past h.course.earlier h.course.call h.course.are h.course.is;
    in_place = h.course.steps.in_place;
    few = h.course.steps.few;
    from = h.course.steps.from;
    goes = h.course.steps.goes;
    fair = h.course.steps.fair;
    lawful = h.course.steps.lawful;
    explained = h.course.steps.explained;
    code_is = λ fine. h.course.steps.code_is;
    stands = λ fine. h.course.steps.stands;
    carried = h.course.carried;
    last_carried = record {
      taken = h.course.taken;
      sent = weaken-told (λ t. SentAs h.course.call.torn (requests_of (steps_in (done_in h.course.call))) t.sent) (λ t. SendsMost (requests_of (steps_in (done_in h.course.call))) t.sent) h.course.call.told
          (λ t. most-of h.course.call.torn (requests_of (steps_in (done_in h.course.call))) t.sent h.course.some) h.sent;
      counted = λ whole. absurd (let wrong : true ≡ false = whole in cc);
    };
    dialled = dialled-one s.address h.course.earlier h.course.call h.course.before_dialled h.course.dialled;
    each_told = told-more s.linking.peers h.course.earlier h.course.call h.course.before_told h.course.is_told;
    made = made-of (left_by s.past (h.course.earlier ++ h.course.call ∷ [])).cut h.course.earlier h.course.call s.linking l h.there;
    faults = h.faults;
    steadily = h.steadily;
    ends = λ rest. tt;
    writes = h.course.steps.writes;
  }

  pub unwritten-broken : (w : Writing) → Broken C Stands lent IsOf Has k s ahead line l (IsPartWritten k.says s w) feed code → Over C Stands lent IsOf Has k s ending.Unwritten l w code
  unwritten-broken w b =
      let before = b.faults in
      let none = count-still b.course.earlier b.course.call b.not_yet in
      record {
        earlier = b.course.earlier;
        last = b.course.call;
        are = calls-one s.past b.course.earlier b.course.call b.course.are b.course.is;
        in_place = b.course.steps.in_place;
        few = b.course.steps.few;
        from = b.course.steps.from;
        goes = b.course.steps.goes;
        fair = b.course.steps.fair;
        lawful = b.course.steps.lawful;
        explained = b.course.steps.explained;
        code_is = λ fine. b.course.steps.code_is;
        stands = λ fine. b.course.steps.stands;
        carried = b.course.carried;
        last_carried = record {
          taken = b.course.taken;
          sent = weaken-told (λ t. SentAs b.course.call.torn (requests_of (steps_in (done_in b.course.call))) t.sent) (λ t. SendsMost (requests_of (steps_in (done_in b.course.call))) t.sent) b.course.call.told
              (λ t. most-of b.course.call.torn (requests_of (steps_in (done_in b.course.call))) t.sent b.course.some) b.sent;
          counted = λ whole. absurd (let wrong : true ≡ false = whole in cc);
        };
        dialled = dialled-one s.address b.course.earlier b.course.call b.course.before_dialled b.course.dialled;
        each_told = told-more s.linking.peers b.course.earlier b.course.call b.course.before_told b.course.is_told;
        made = b.made;
        faults = omega (arith, before, none);
        steadily = λ z more enough. let calm = b.steadily z more enough in let zero = calm.0 in (omega (arith, zero, none), calm.1, calm.2);
        ends = λ rest. tt;
        writes = b.course.steps.writes;
      }

  -- what came next ends it
  pub over-at : (new : C) (w : Writing) (failed : Bool) (ended : Ending) (h : At C Stands lent IsOf Has k s ahead line came failed l (IsWritten s w) feed code) → is_unwritten ended ≡ false → (is_bad ended ≡ false → new ≡ code)
      → ((rest : Plan Task Answer) → EndsBy ended k.schema (h.course.earlier ++ h.course.call ∷ []) (left_by s.past (h.course.earlier ++ h.course.call ∷ [])) feed rest)
      → ((texts : List ℕ) → IsWritten s w texts → WritesAs k.says ended texts s.writing w) → Over C Stands lent IsOf Has k s ended l w new
  over-at new w failed ended h written kept ends writes = record {
    earlier = h.course.earlier;
    last = h.course.call;
    are = calls-one s.past h.course.earlier h.course.call h.course.are h.course.is;
    in_place = h.course.steps.in_place;
    few = h.course.steps.few;
    from = h.course.steps.from;
    goes = h.course.steps.goes;
    fair = h.course.steps.fair;
    lawful = h.course.steps.lawful;
    explained = h.course.steps.explained;
    code_is = λ fine. h.course.steps.code_is ∙ sym (kept fine);
    stands = λ fine. subst (λ x. Stands x (left_by s.past (h.course.earlier ++ h.course.call ∷ []))) (sym (kept fine)) h.course.steps.stands;
    carried = h.course.carried;
    last_carried = subst (λ b. IsCarried b h.course.call) (sym written) (record { taken = h.course.taken; sent = h.sent; counted = λ whole. h.counted });
    dialled = dialled-one s.address h.course.earlier h.course.call h.course.before_dialled h.course.dialled;
    each_told = told-more s.linking.peers h.course.earlier h.course.call h.course.before_told h.course.is_told;
    made = made-of (left_by s.past (h.course.earlier ++ h.course.call ∷ [])).cut h.course.earlier h.course.call s.linking l h.there;
    faults = h.faults;
    steadily = h.steadily;
    ends = λ rest. subst (λ x. EndsBy ended k.schema (h.course.earlier ++ h.course.call ∷ []) (left_by s.past (h.course.earlier ++ h.course.call ∷ [])) x rest) (sym h.course.left) (ends rest);
    writes = writes (flat_map (said_by k) (all_done (h.course.earlier ++ h.course.call ∷ []))) h.course.steps.writes;
  }
