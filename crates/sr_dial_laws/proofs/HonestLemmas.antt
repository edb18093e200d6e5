-- The calls of a run over an honest link, as talks with a server.
use Rattle.std.proofs.Common.{◌≡◌, ℕ, Bool, true, false, List, [], ◌∷◌, ◌++◌, length, map, append_assoc, refl, sym, ◌∙◌, ap, subst, inl, inr, Option, None}
use Rattle.std.specs.Prelude.{◌≢◌, ◌⊎◌, ◌&&◌, IsTrue}
use Rattle.std.specs.List.{list_all}
use Rattle.sr_cell.specs.declared.table.Table.{Table}
use Rattle.sr_message.specs.declared.message.Message.{Message}
use Rattle.sr_policy.specs.declared.policy.Limits.{Limits}
use Rattle.sr_reader.specs.declared.script.Event as code
use Rattle.sr_reader.specs.declared.script.Event.TheVariants as read
use Rattle.sr_reader.specs.declared.script.EventLine.{EventLine}
use Rattle.sr_wire.specs.declared.wire_fault.WireFault.{WireFault}
use Rattle.sr_wire.specs.declared.wire_fault.WireFault.TheVariants.{Short}
use Rattle.sr_wire.specs.Reading.{Faulty, Whole, decoded}
use Rattle.sr_wire.specs.Spelling.{has_spelling, spelling}
use Rattle.sr_wire.proofs.Frames.{decoded_again, one_spelling}
use Rattle.sr_wire.proofs.Staying.{answer_stays}
use Rattle.sr_session.specs.Clients.{Client}
use Rattle.sr_links.specs.Honest.{Server, Input, IsPrefix, AreTalks, IsHonest, sent_for, server_after, steps_of}
use Rattle.sr_links.specs.Steps.{Step, Standing, Deed, Queried, Wrote, Evicted, Took, WasCut, Resumed, AreAwaited, AreFair, IsAwaited, code_after, given_of, past_after, taken_by}
use Rattle.sr_dial.specs.Calls.{Call, Cause, Scripted, Delivered, Failed, Done, Made, Explained, Said, Task, Do, Explain, Say, AreCalls, all_done, done_in, steps_in, talk_of}
use Rattle.sr_talk.specs.Serving.{spelled}
use Rattle.sr_dial_laws.specs.Honest.{AreExplained, IsAsked, IsAskedFor}
use Rattle.sr_dial.specs.Following.{answer_of, did_by, dids_of}
use Rattle.sr_dial.specs.declared.parts.Answer.{Answer}
use Rattle.sr_plan.specs.Laws.{AreOf}
use Rattle.sr_plan.specs.Plans.{AllTasks, Did, plan_of}
use Rattle.sr_dial.specs.Known.{AreTasks, IsDeed, IsTask}
use Rattle.sr_dial.specs.Runs.{AreInPlace, IsInPlace}
use Rattle.sr_dial.proofs.ListLemmas.{steps-append}

-- ---- frames

both : (a b : Bool) → (a && b) ≡ true → (a ≡ true) × (b ≡ true)
both true b h = (refl, h)
both false b h = absurd (cc)

spells-back : (xs ys : List Message) → list_all has_spelling (xs ++ ys) ≡ true → list_all has_spelling ys ≡ true
spells-back [] ys h = h
spells-back (x ∷ xs) ys h = spells-back xs ys (both (has_spelling x) (list_all has_spelling (xs ++ ys)) h).1

-- Messages whose frames begin others are the first of them, and what stands behind begins the frames of the rest.
pub record Fronts (xs ys : List Message) (left : List ℕ) : Type 0 where
  pub front : IsPrefix xs ys
  pub behind : IsPrefix left (spelled front.rest)

pub fronts : (xs ys : List Message) (left more : List ℕ) → list_all has_spelling xs ≡ true → list_all has_spelling ys ≡ true → spelled ys ≡ (spelled xs ++ left) ++ more → Fronts xs ys left
fronts [] ys left more own all e = record { front = record { rest = ys; all = refl }; behind = record { rest = more; all = e } }
fronts (x ∷ xs) [] left more own all e =
    let tail : List ℕ = (spelled xs ++ left) ++ more in
    let is : [] ≡ spelling x ++ tail = e ∙ (ap (λ bytes. bytes ++ more) (append_assoc (spelling x) (spelled xs) left) ∙ append_assoc (spelling x) (spelled xs ++ left) more) in
    absurd (let wrong : Faulty Short ≡ Whole x (length (spelling x)) = ap decoded is ∙ decoded_again x tail (both (has_spelling x) (list_all has_spelling xs) own).0 in cc)
fronts (x ∷ xs) (y ∷ ys) left more own all e =
    let tail : List ℕ = (spelled xs ++ left) ++ more in
    let is : spelling y ++ spelled ys ≡ spelling x ++ tail = e ∙ (ap (λ bytes. bytes ++ more) (append_assoc (spelling x) (spelled xs) left) ∙ append_assoc (spelling x) (spelled xs ++ left) more) in
    let (x_spells, xs_spell) = both (has_spelling x) (list_all has_spelling xs) own in
    let (y_spells, ys_spell) = both (has_spelling y) (list_all has_spelling ys) all in
    let (same, others) = one_spelling y x (spelled ys) tail y_spells x_spells is in
    let r : Fronts xs ys left = fronts xs ys left more xs_spell ys_spell others in
    record { front = record { rest = r.front.rest; all = ap (λ z. z ∷ ys) same ∙ ap (λ zs. x ∷ zs) r.front.all }; behind = r.behind }

-- what begins frames is no fault
not-faulty : (left : List ℕ) (ms : List Message) → list_all has_spelling ms ≡ true → IsPrefix left (spelled ms) → (fault : WireFault) → decoded left ≡ Faulty fault → fault ≢ Short → ⊥
not-faulty [] [] all p fault bad other = other (let is : Faulty fault ≡ Faulty Short = sym bad in cc)
not-faulty (b ∷ left) [] all p fault bad other = absurd (let wrong : [] ≡ b ∷ (left ++ p.rest) = p.all in cc)
not-faulty left (m ∷ ms) all p fault bad other =
    let whole = decoded_again m (spelled ms) (both (has_spelling m) (list_all has_spelling ms) all).0 in
    let stays : decoded (left ++ p.rest) ≡ decoded left = answer_stays left p.rest (λ short. other (let is : Faulty fault ≡ Faulty Short = sym bad ∙ short in cc)) in
    absurd (let wrong : Whole m (length (spelling m)) ≡ Faulty fault = sym whole ∙ (ap decoded p.all ∙ (stays ∙ bad)) in cc)

-- ---- lines ask for no message

deed-asked : (schema : List Table) (event : code.Event) (deed : Deed) → IsDeed schema event deed → IsAsked deed
deed-asked schema (read.Query n query) deed (meaning, means, is) = subst IsAsked (sym is) tt
deed-asked schema (read.Write n sql) deed is = subst IsAsked (sym is) tt
deed-asked schema (read.Evict n place) deed is = subst IsAsked (sym is) tt
deed-asked schema (read.Cut n) deed is = subst IsAsked (sym is) tt
deed-asked schema (read.Resume n) deed is = subst IsAsked (sym is) tt
deed-asked schema (read.Exec statement) deed is = absurd is
deed-asked schema (read.Explain n query) deed is = absurd is
deed-asked schema (read.Push n) deed is = absurd is
deed-asked schema (read.ToServer n) deed is = absurd is
deed-asked schema (read.ToClient n) deed is = absurd is
deed-asked schema (read.Settle n) deed is = absurd is

task-asked : (schema : List Table) (event : code.Event) (task : Task) → IsTask schema event task → IsAskedFor task
task-asked schema event (Do deed) is = deed-asked schema event deed is
task-asked schema event (Explain text) is = tt
task-asked schema event (Say text) is = absurd is

pub are-asked : (schema : List Table) (lines : List EventLine) (script : List (ℕ × Task)) → AreTasks schema lines script → AllTasks IsAskedFor (plan_of {A = Answer} script)
are-asked schema [] [] h = tt
are-asked schema [] (x ∷ xs) h = absurd h
are-asked schema (line ∷ lines) [] h = absurd h
are-asked schema (line ∷ lines) (x ∷ xs) ((task, is, same), more) =
    (subst (λ (numbered : ℕ × Task). IsAskedFor numbered.1) (sym same) (task-asked schema line.event task is), λ answer. are-asked schema lines xs more)

-- where a line asked for it, it is no message
abbrev AsksIf : Cause → Deed → Type 0
AsksIf Scripted deed = IsAsked deed
AsksIf other deed = Unit {0}

asked-first : (cause : Cause) (number : ℕ) (deed : Deed) (answer : Option Answer) (ds : List (Did Task Answer)) → AreOf IsAskedFor (did_by cause number deed answer ∷ ds) → AsksIf cause deed × AreOf IsAskedFor ds
asked-first Scripted number deed answer ds asked = asked
asked-first Delivered number deed answer ds asked = (tt, asked)
asked-first Failed number deed answer ds asked = (tt, asked)

-- ---- what was taken was awaited, and came as frames

abbrev pub IsHeard : Deed → Client → Type 0
IsHeard (Took m) c = (c.out ≢ None) × IsTrue (has_spelling m)
IsHeard other c = Unit {0}

abbrev pub AreHeard : {C : Type 0} → Client → List (Done C) → Type 0
AreHeard {C} c [] = Unit {0}
AreHeard {C} c (Made number cause step ∷ ds) = IsHeard step.deed c × AreHeard step.past ds
AreHeard {C} c (Explained number text result ∷ ds) = AreHeard c ds
AreHeard {C} c (Said number text ∷ ds) = AreHeard c ds

heard-one : (schema : List Table) (cause : Cause) (line number : ℕ) (deed : Deed) (c : Client) → IsInPlace schema cause line number deed c → AsksIf cause deed → IsHeard deed c
heard-one schema cause line number (Queried query) c place asked = tt
heard-one schema cause line number (Wrote sql) c place asked = tt
heard-one schema cause line number (Evicted at) c place asked = tt
heard-one schema cause line number WasCut c place asked = tt
heard-one schema cause line number Resumed c place asked = tt
heard-one schema Scripted line number (Took m) c place asked = absurd asked
heard-one schema Delivered line number (Took m) c (same, waits, is, fits) asked = (waits, is)
heard-one schema Failed line number (Took m) c place asked = absurd place

awaited-one : (deed : Deed) (c : Client) → IsHeard deed c → IsAwaited c deed
awaited-one (Queried query) c h = tt
awaited-one (Wrote sql) c h = tt
awaited-one (Evicted at) c h = tt
awaited-one (Took m) c h = h.0
awaited-one WasCut c h = tt
awaited-one Resumed c h = tt

spells-one : (deed : Deed) (c : Client) (ms : List Message) → IsHeard deed c → list_all has_spelling ms ≡ true → list_all has_spelling (taken_by deed ++ ms) ≡ true
spells-one (Queried query) c ms h all = all
spells-one (Wrote sql) c ms h all = all
spells-one (Evicted at) c ms h all = all
spells-one (Took m) c ms h all = ap (λ b. b && list_all has_spelling ms) h.1 ∙ all
spells-one WasCut c ms h all = all
spells-one Resumed c ms h all = all

module _ {C : Type 0} where
  pub are-heard : (keeps : Bool) (schema : List Table) (line : ℕ) (c : Client) (ds : List (Done C)) → AreInPlace schema line c ds → AreOf IsAskedFor (dids_of keeps ds) → AreHeard c ds
  are-heard keeps schema line c [] place asked = tt
  are-heard keeps schema line c (Made number cause step ∷ ds) (one, more) asked =
      let both = asked-first cause number step.deed (answer_of keeps step.outcome) (dids_of keeps ds) asked in
      (heard-one schema cause line number step.deed c one both.0, are-heard keeps schema number step.past ds more both.1)
  are-heard keeps schema line c (Explained number text result ∷ ds) (one, more) asked = are-heard keeps schema number c ds more asked.1
  are-heard keeps schema line c (Said number text ∷ ds) (one, more) asked = are-heard keeps schema number c ds more asked.1

  heard-front : (c : Client) (xs ys : List (Done C)) → AreHeard c (xs ++ ys) → AreHeard c xs
  heard-front c [] ys h = tt
  heard-front c (Made number cause step ∷ xs) ys (one, more) = (one, heard-front step.past xs ys more)
  heard-front c (Explained number text result ∷ xs) ys h = heard-front c xs ys h
  heard-front c (Said number text ∷ xs) ys h = heard-front c xs ys h

  heard-back : (c : Client) (xs ys : List (Done C)) → AreHeard c (xs ++ ys) → AreHeard (past_after c (steps_in xs)) ys
  heard-back c [] ys h = h
  heard-back c (Made number cause step ∷ xs) ys (one, more) = heard-back step.past xs ys more
  heard-back c (Explained number text result ∷ xs) ys h = heard-back c xs ys h
  heard-back c (Said number text ∷ xs) ys h = heard-back c xs ys h

  pub heard-append : (c : Client) (xs ys : List (Done C)) → AreHeard c xs → AreHeard (past_after c (steps_in xs)) ys → AreHeard c (xs ++ ys)
  heard-append c [] ys h one = one
  heard-append c (Made number cause step ∷ xs) ys (first, more) one = (first, heard-append step.past xs ys more one)
  heard-append c (Explained number text result ∷ xs) ys h one = heard-append c xs ys h one
  heard-append c (Said number text ∷ xs) ys h one = heard-append c xs ys h one

  heard-awaited : (c : Client) (ds : List (Done C)) → AreHeard c ds → AreAwaited c (steps_in ds)
  heard-awaited c [] h = tt
  heard-awaited c (Made number cause step ∷ ds) (one, more) = (awaited-one step.deed c one, heard-awaited step.past ds more)
  heard-awaited c (Explained number text result ∷ ds) h = heard-awaited c ds h
  heard-awaited c (Said number text ∷ ds) h = heard-awaited c ds h

  heard-spells : (c : Client) (ds : List (Done C)) → AreHeard c ds → list_all has_spelling (given_of (steps_in ds)) ≡ true
  heard-spells c [] h = refl
  heard-spells c (Made number cause step ∷ ds) (one, more) = spells-one step.deed c (given_of (steps_in ds)) one (heard-spells step.past ds more)
  heard-spells c (Explained number text result ∷ ds) h = heard-spells c ds h
  heard-spells c (Said number text ∷ ds) h = heard-spells c ds h

  fair-front : (IsOf : Standing C) (limits : Limits) (code : C) (c : Client) (xs ys : List (Step C)) → AreFair IsOf limits code c (xs ++ ys) → AreFair IsOf limits code c xs
  fair-front IsOf limits code c [] ys f = tt
  fair-front IsOf limits code c (x ∷ xs) ys (one, more) = (one, fair-front IsOf limits x.code x.past xs ys more)

  fair-back : (IsOf : Standing C) (limits : Limits) (code : C) (c : Client) (xs ys : List (Step C)) → AreFair IsOf limits code c (xs ++ ys) → AreFair IsOf limits (code_after code xs) (past_after c xs) ys
  fair-back IsOf limits code c [] ys f = f
  fair-back IsOf limits code c (x ∷ xs) ys (one, more) = fair-back IsOf limits x.code x.past xs ys more

  -- ---- talks

  pub talk-steps : (calls : List (Call C)) → steps_of (map talk_of calls) ≡ steps_in (all_done calls)
  talk-steps [] = refl
  talk-steps (call ∷ calls) = ap (λ xs. steps_in (done_in call) ++ xs) (talk-steps calls) ∙ sym (steps-append (done_in call) (all_done calls))

  cut-or-last : (c : Client) (calls : List (Call C)) → AreCalls c calls → (c.cut ≡ true) ⊎ (map talk_of calls ≡ [])
  cut-or-last c [] are = inr refl
  cut-or-last c (call ∷ calls) (first, was_cut, on_one, more) = inl was_cut

  pub are-talks : (IsOf : Standing C) (limits : Limits) (code : C) (c : Client) (calls : List (Call C)) → AreCalls c calls → AreHeard c (all_done calls) → AreFair IsOf limits code c (steps_in (all_done calls))
      → AreTalks IsOf limits code c (map talk_of calls)
  are-talks IsOf limits code c [] are heard fair = tt
  are-talks IsOf limits code c (call ∷ calls) (first, was_cut, on_one, more) heard fair =
      let split : AreFair IsOf limits code c (steps_in (done_in call) ++ steps_in (all_done calls)) = subst (AreFair IsOf limits code c) (steps-append (done_in call) (all_done calls)) fair in (
        record {
          begins = first;
          on_one = on_one;
          fair = fair-front IsOf limits code c (steps_in (done_in call)) (steps_in (all_done calls)) split;
          awaited = heard-awaited c (done_in call) (heard-front c (done_in call) (all_done calls) heard);
        },
        cut-or-last (past_after c (steps_in (done_in call))) calls more,
        are-talks IsOf limits (code_after code (steps_in (done_in call))) (past_after c (steps_in (done_in call))) calls more (heard-back c (done_in call) (all_done calls) heard)
            (fair-back IsOf limits code c (steps_in (done_in call)) (steps_in (all_done calls)) split),
      )

  pub are-honest : (s : Server) (c : Client) (pieces : List (List Input)) (calls : List (Call C)) → AreHeard c (all_done calls) → AreExplained s pieces calls → IsHonest s pieces (map talk_of calls)
  are-honest s c [] [] heard explained = tt
  are-honest s c [] (call ∷ calls) heard explained = absurd explained
  are-honest s c (piece ∷ pieces) [] heard explained = absurd explained
  are-honest s c (piece ∷ pieces) (call ∷ calls) heard (one, more) =
      let f : Fronts (given_of (steps_in (done_in call))) (sent_for s piece) call.left =
      fronts (given_of (steps_in (done_in call))) (sent_for s piece) call.left one.came.rest (heard-spells c (done_in call) (heard-front c (done_in call) (all_done calls) heard)) one.spells one.came.all in (
        record { frames = one.frames; given = f.front },
        are-honest (server_after s piece) (past_after c (steps_in (done_in call))) pieces calls (heard-back c (done_in call) (all_done calls) heard) more,
      )

  -- what is left behind the last messages is no fault
  pub never-spoiled : (s : Server) (c : Client) (pieces : List (List Input)) (earlier : List (Call C)) (last : Call C) → AreHeard c (all_done (earlier ++ last ∷ [])) → AreExplained s pieces (earlier ++ last ∷ [])
      → (fault : WireFault) → decoded last.left ≡ Faulty fault → fault ≢ Short → ⊥
  never-spoiled s c [] [] last heard explained fault bad other = absurd explained
  never-spoiled s c [] (call ∷ calls) last heard explained fault bad other = absurd explained
  never-spoiled s c (piece ∷ pieces) (call ∷ calls) last heard (one, more) fault bad other =
      never-spoiled (server_after s piece) (past_after c (steps_in (done_in call))) pieces calls last (heard-back c (done_in call) (all_done (calls ++ last ∷ [])) heard) more fault bad other
  never-spoiled s c (piece ∷ pieces) [] last heard (one, more) fault bad other =
      let f : Fronts (given_of (steps_in (done_in last))) (sent_for s piece) last.left =
      fronts (given_of (steps_in (done_in last))) (sent_for s piece) last.left one.came.rest (heard-spells c (done_in last) (heard-front c (done_in last) [] heard)) one.spells one.came.all in
      not-faulty last.left f.front.rest (spells-back (given_of (steps_in (done_in last))) f.front.rest (subst (λ ms. list_all has_spelling ms ≡ true) f.front.all one.spells)) f.behind fault bad other
