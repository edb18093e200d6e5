-- Runs, by what ended them.
use Rattle.std.proofs.Common.{◌≡◌, ℕ, Bool, true, false, List, [], ◌∷◌, ◌++◌, append-nil, arith, length, ◌+◌, refl, sym, ◌∙◌, ap, subst, Option}
use Rattle.std.specs.Prelude.{flat_map}
use Rattle.sr_io.specs.Told.{Connection, Linking, Writing, connections, hung_up}
use Rattle.sr_session.specs.Clients.{Client}
use Rattle.sr_links.specs.Brought.{Holding}
use Rattle.sr_links.specs.Steps.{Standing}
use Rattle.sr_plan.specs.Plans.{Plan, Over as Nothing, left}
use Rattle.sr_talk.specs.Serving.{RoseBy}
use Rattle.sr_dial.specs.Calls.{Call, Task, all_done, count_faults}
use Rattle.sr_dial.specs.Following.{stage_by}
use Rattle.sr_dial.specs.declared.parts.Answer.{Answer}
use Rattle.sr_dial.specs.Known.{Setting, said_by}
use Rattle.sr_dial.specs.Runs.{EndsBy, EndsFree, IsCarried, LinksSteadily, RanSteadily, WritesAs, is_unwritten, left_by}
use Rattle.sr_dial.specs.Courses.{Finishes, IsDone, IsWritten, Over, Start, Steadily}
use Rattle.sr_talk.specs.Rounds.{HasPeers}
use Rattle.sr_dial.proofs.SteadyLemmas.{length-one}
use Rattle.sr_dial.specs.declared.ending.Ending.{Ending}
use Rattle.sr_dial.specs.declared.ending.Ending.TheVariants as ending
use Rattle.sr_dial.proofs.ListLemmas.{calls-one, dialled-one}
use Rattle.sr_dial.proofs.CourseLemmas.{made-of}
use Rattle.sr_dial.proofs.PlanLemmas.{left-is}
use Rattle.sr_dial.proofs.ToldLemmas.{told-more}

module _ {Z : Type 0} (C : Type 0) (Stands : C → Client → Type 0) (lent : C → Option Answer) (IsOf : Standing C) (Has : Holding C) (k : Setting) (s : Start C Z) (l new_l : Linking) (w : Writing) (feed : List ℕ) (code : C) (gone : new_l ≡ hung_up l) where
  made-still : {made : List Connection} → connections l ≡ made → connections new_l ≡ made
  made-still {made} is = ap connections gone ∙ (append-nil (connections l) ∙ is)

  quiet : (earlier : List (Call C)) (last : Call C) → Steadily Z (count_faults (earlier ++ last ∷ [])) (length earlier + 1) s.linking l → LinksSteadily Z (earlier ++ last ∷ []) s.linking new_l
  quiet earlier last steadily = λ z enough.
      let one : length (earlier ++ last ∷ []) ≡ length earlier + 1 = length-one earlier last in
      let none : length (earlier ++ last ∷ []) ≡ length earlier + 1 + 0 = omega (arith, one) in
      let b = steadily z 0 (subst (λ n. HasPeers n s.linking) none enough) in
      (b.0, ap (λ (x : Linking). x.faults) gone ∙ b.1)

  free-ran : (ended : Ending) (failed : Bool) → (ended ≡ ending.Whole → failed ≡ false) → IsDone C Stands lent IsOf Has k s failed l w feed code → is_unwritten ended ≡ false
      → ((calls : List (Call C)) (c : Client) (rest_bytes : List ℕ) (rest : Plan Task Answer) → EndsFree c calls rest failed → EndsBy ended k.schema calls c rest_bytes rest)
      → ((texts : List ℕ) → IsWritten s w texts → WritesAs k.says ended texts s.writing w) → RanSteadily C Z Stands IsOf Has k s.code s.past s.address s.plan ended s.linking new_l s.writing w code
  free-ran ended failed fine d written ends writes =
      let h = d.free.at in
      let none : left (stage_by k.keeps s.plan (all_done (h.course.earlier ++ h.course.call ∷ []))) ≡ Nothing =
      left-is k.keeps s.plan (all_done (h.course.earlier ++ h.course.call ∷ [])) d.ahead (lent code) h.course.steps.ahead_is h.course.steps.answer_is ∙ d.none in
      record {
        to = record {
          run = record {
            ran = record {
              earlier = h.course.earlier;
              last = h.course.call;
              are = calls-one s.past h.course.earlier h.course.call h.course.are h.course.is;
              in_place = h.course.steps.in_place;
              few = h.course.steps.few;
              from = h.course.steps.from;
              goes = h.course.steps.goes;
              carried = h.course.carried;
              last_carried = subst (λ b. IsCarried b h.course.call) (sym written) (record { taken = h.course.taken; sent = h.sent; counted = λ whole. h.counted });
              dialled = dialled-one s.address h.course.earlier h.course.call h.course.before_dialled h.course.dialled;
              each_told = told-more s.linking.peers h.course.earlier h.course.call h.course.before_told h.course.is_told;
              made = made-still (made-of (left_by s.past (h.course.earlier ++ h.course.call ∷ [])).cut h.course.earlier h.course.call s.linking l h.there);
              hung_up = ap (λ (x : Linking). x.is_up) gone;
              faults = subst (λ (x : Linking). RoseBy s.linking.faults (count_faults (h.course.earlier ++ h.course.call ∷ [])) x.faults) (sym gone) h.faults;
              calm = λ whole. ap (λ (x : Linking). x.faults) gone ∙ h.calm (fine whole);
              ends = ends (h.course.earlier ++ h.course.call ∷ []) (left_by s.past (h.course.earlier ++ h.course.call ∷ [])) h.course.call.left (left (stage_by k.keeps s.plan (all_done (h.course.earlier ++ h.course.call ∷ []))))
                  (record { all = none; free = d.free.free; failed_is = h.failed_is });
              writes = writes (flat_map (said_by k) (all_done (h.course.earlier ++ h.course.call ∷ []))) h.course.steps.writes;
            };
            fair = h.course.steps.fair;
            lawful = h.course.steps.lawful;
            explained = h.course.steps.explained;
          };
          code_is = λ fine. h.course.steps.code_is;
          stands = λ fine. h.course.steps.stands;
        };
        steady_links = quiet h.course.earlier h.course.call h.steadily;
      }

  over-ran : (ended : Ending) → (ended ≡ ending.Whole → ⊥) → Over C Stands lent IsOf Has k s ended l w code → RanSteadily C Z Stands IsOf Has k s.code s.past s.address s.plan ended s.linking new_l s.writing w code
  over-ran ended early o = record {
    to = record {
      run = record {
        ran = record {
          earlier = o.earlier;
          last = o.last;
          are = o.are;
          in_place = o.in_place;
          few = o.few;
          from = o.from;
          goes = o.goes;
          carried = o.carried;
          last_carried = o.last_carried;
          dialled = o.dialled;
          each_told = o.each_told;
          made = made-still o.made;
          hung_up = ap (λ (x : Linking). x.is_up) gone;
          faults = subst (λ (x : Linking). RoseBy s.linking.faults (count_faults (o.earlier ++ o.last ∷ [])) x.faults) (sym gone) o.faults;
          calm = λ whole. absurd (early whole);
          ends = o.ends (left (stage_by k.keeps s.plan (all_done (o.earlier ++ o.last ∷ []))));
          writes = o.writes;
        };
        fair = o.fair;
        lawful = o.lawful;
        explained = o.explained;
      };
      code_is = o.code_is;
      stands = o.stands;
    };
    steady_links = quiet o.earlier o.last o.steadily;
  }

  pub finishes-ran : (ended : Ending) → Finishes C Stands lent IsOf Has k ended s l w feed code → RanSteadily C Z Stands IsOf Has k s.code s.past s.address s.plan ended s.linking new_l s.writing w code
  finishes-ran ending.Whole d = free-ran ending.Whole false (λ whole. refl) d refl (λ calls c bytes rest free. free) (λ texts is. is)
  finishes-ran ending.Faulty d = free-ran ending.Faulty true (λ whole. absurd (cc)) d refl (λ calls c bytes rest free. free) (λ texts is. is)
  finishes-ran ending.Unwritten o = over-ran ending.Unwritten (λ whole. absurd (cc)) o
  finishes-ran (ending.Spoiled fault) o = over-ran (ending.Spoiled fault) (λ whole. absurd (cc)) o
  finishes-ran (ending.Bad why) o = over-ran (ending.Bad why) (λ whole. absurd (cc)) o
  finishes-ran ending.Limit o = over-ran ending.Limit (λ whole. absurd (cc)) o
