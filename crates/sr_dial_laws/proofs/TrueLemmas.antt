-- What is true of a run over an honest link.
use Rattle.std.proofs.Common.{◌≡◌, ℕ, ◌≤◌, true, List, [], ◌∷◌, ◌++◌, map, append_assoc, append-nil, refl, sym, ◌∙◌, ap, subst, arith, Some, None}
use Rattle.std.specs.Prelude.{◌≢◌, Result}
use Rattle.std.specs.List.{list_all}
use Rattle.sr_cell.specs.declared.fault.Fault.{Fault}
use Rattle.sr_cell.specs.declared.table.Table.{Table}
use Rattle.sr_message.specs.declared.message.Message.{Message}
use Rattle.sr_model.specs.Queries.{Query}
use Rattle.sr_model.specs.Statements.{Tables}
use Rattle.sr_policy.specs.declared.policy.Limits.{Limits}
use Rattle.sr_history.specs.declared.mark.Mark.{Mark}
use Rattle.sr_query.specs.Bound.{is_table}
use Rattle.sr_wire.specs.declared.bad_frame.BadFrame.{BadFrame}
use Rattle.sr_wire.specs.Spelling.{spelling}
use Rattle.sr_session.specs.Clients.{Client}
use Rattle.sr_session.specs.Headline.{KeepsToBudgets}
use Rattle.sr_session.specs.Misfits.{misfit}
use Rattle.sr_session.specs.Rules.{Basis, Outcome, Laid, Before, as_it_is, emptied, QueryStep, query_refused, query_busy, query_answered, query_down, query_asks, answering_now, answering_then, TakeStep, lays, applies, forgets, answers, asks_once_more, written, refused_write, is_welcomed, EvictStep, evict_busy, evicts_none, evicts, WriteStep, write_busy, write_down, write_sends, already_cut, cuts, already_up, resumes}
use Rattle.sr_session.specs.Sessions.{Database, tables_of}
use Rattle.sr_session.proofs.NeverLemmas.{never-refused}
use Rattle.sr_session.specs.Bases.{basis_of}
use Rattle.sr_links.specs.Answers.{AreTrueSteps, AsksKeys}
use Rattle.sr_links.specs.Brought.{Holding}
use Rattle.sr_links.specs.Counts.{AskFew, HasFewRows, LayFew}
use Rattle.sr_links.specs.Honest.{Server, Input, IsPrefix, Rests, frames_of, sent_for, server_after, server_at_last}
use Rattle.sr_links.specs.Steps.{Step, Standing, Deed, Queried, Wrote, Evicted, Took, WasCut, Resumed, too_long, writes, Does, IsFair, AreFair, AreRuled, OnOne, code_after, given_of, past_after, requests_of}
use Rattle.sr_links.proofs.AnswerLemmas.{answers-are-true, answered-at, few-are-laid}
use Rattle.sr_links.proofs.BroughtLemmas.{steps-go-by-told}
use Rattle.sr_links.proofs.DatabaseLemmas.{last-more, sound-before}
use Rattle.sr_links.proofs.MendLemmas.{AreNearlyRuled, nearly-ruled, nearly-taking, runs}
use Rattle.sr_links.proofs.TalkLemmas.{AreLawful, IsLawful}
use Rattle.sr_dial.specs.Calls.{Call, Done, Made, Delivered, AreCalls, all_done, done_in, steps_in, talk_of}
use Rattle.sr_talk.specs.Serving.{spelled}
use Rattle.sr_talk.proofs.TalkLemmas.{spelled-append}
use Rattle.sr_plan.specs.Plans.{begun, left}
use Rattle.sr_plan.proofs.Going.{are-of}
use Rattle.sr_dial.specs.Following.{dids_of, stage_by}
use Rattle.sr_dial_laws.specs.Honest.{AreExplained, AsksFew, BrokenRunsGoByTold, HonestRunsAreShort, HonestRunsAreTrue, IsAskedFor, IsHonest, NamesVersion, NeverFall, RunsGoByTold, came_over}
use Rattle.sr_dial.specs.Runs.{EndsBy, IsRefused, left_by, none_taken, taken_after}
use Rattle.sr_dial.specs.Statuses.{status_of}
use Rattle.sr_dial.specs.declared.ending.Ending.{Ending}
use Rattle.sr_dial.specs.declared.ending.Ending.TheVariants as ending
use Rattle.sr_dial.proofs.CourseLemmas.{all-step, given-step, requests-step, with_step}
use Rattle.sr_dial_laws.proofs.HonestLemmas.{AreHeard, are-heard, are-honest, are-talks, heard-append, never-spoiled, talk-steps}
use Rattle.sr_dial_laws.proofs.LimitLemmas.{ask-few, none-out, taken-few}
use Rattle.sr_dial.proofs.ListLemmas.{fair-append, on-append, steps-append}

-- ---- versions never fall

-- the client is at no older version, and an answer names it
abbrev IsLater : Client → Outcome → Client → Type 0
IsLater c o new = (c.version ≤ new.version) × NamesVersion o new

module _ (b : Basis) where
  query-later : (text : Result Query Fault) (c : Client) (o : Outcome) (new : Client) → QueryStep b c text o new → IsLater c o new
  query-later text c o new (query_refused fault) = (omega arith, tt)
  query-later text c o new (query_busy q request out) = (omega arith, tt)
  query-later text c o new (query_answered q rows marks after out asks are step) =
      let at = answered-at b (answering_now c q) c marks after step in (omega (arith, at), sym at)
  query-later text c o new (query_down q out down left) = (omega arith, tt)
  query-later text c o new (query_asks q drops old ask others fresh out before up asks few mode) = by drops old before
    where
      by : (drops : List Mark) (old : Client) → Before b q c drops old → (c.version ≤ old.version) × Unit {0}
      by drops old as_it_is = (omega arith, tt)
      by drops old (emptied ds first) = (omega arith, tt)

  take-later : (m : Message) (c : Client) (o : Outcome) (new : Client) → TakeStep b c m o new → IsLater c o new
  take-later m c o new (lays request x out laid own) = (omega arith, tt)
  take-later m c o new (applies w told drops out later met) = (later, tt)
  take-later m c o new (forgets w drops out later all) = (later, tt)
  take-later m c o new (answers number query q fresh parts w rows marks after out whole later are step) =
      let at = answered-at b (answering_then c query q parts w) c marks after step in (omega (arith, at, later), sym at)
  take-later m c o new (asks_once_more number query q fresh parts w drops whole out again later all asks few) = (later, tt)
  take-later m c o new (written number w drops out later d) = (later, tt)
  take-later m c o new (refused_write number fault drops out later d) = (later, tt)
  take-later m c o new (is_welcomed number w keeps drops out later d) = (later, tt)

  evict-later : (place : ℕ) (c : Client) (o : Outcome) (new : Client) → EvictStep b place c o new → IsLater c o new
  evict-later place c o new (evict_busy request out) = (omega arith, tt)
  evict-later place c o new (evicts_none classes out are few) = (omega arith, tt)
  evict-later place c o new (evicts classes chosen d out are at drop) = (omega arith, tt)

  write-later : (sql : List ℕ) (c : Client) (o : Outcome) (new : Client) → WriteStep sql c o new → IsLater c o new
  write-later sql c o new (write_busy request out) = (omega arith, tt)
  write-later sql c o new (write_down out down) = (omega arith, tt)
  write-later sql c o new (write_sends out up) = (omega arith, tt)

  does-later : (deed : Deed) (c : Client) (o : Outcome) (new : Client) → Does b deed c o new → IsLater c o new
  does-later (Queried text) c o new does = query-later text c o new does
  does-later (Wrote sql) c o new (too_long is) = (omega arith, tt)
  does-later (Wrote sql) c o new (writes did after short does) = write-later sql c o new does
  does-later (Evicted place) c o new does = evict-later place c o new does
  does-later (Took m) c o new does = take-later m c o new does
  does-later WasCut c o new (already_cut is) = (omega arith, tt)
  does-later WasCut c o new (cuts up) = (omega arith, tt)
  does-later Resumed c o new (already_up up) = (omega arith, tt)
  does-later Resumed c o new (resumes m down is) = (omega arith, tt)

never-fall : {C : Type 0} (limits : Limits) (all : Database) (c : Client) (steps : List (Step C)) → AreLawful limits all c steps → NeverFall c steps
never-fall {C} limits all c [] lawful = tt
never-fall {C} limits all c (step ∷ steps) (one, more) =
    let (later, names) = does-later (basis_of one.db limits) step.deed c step.outcome step.past one.does in (later, names, never-fall limits all step.past steps more)

last-lawful : {C : Type 0} (limits : Limits) (all : Database) (c : Client) (steps : List (Step C)) (step : Step C) → AreLawful limits all c (steps ++ step ∷ []) → IsLawful limits all (past_after c steps) step
last-lawful {C} limits all c [] step (one, more) = one
last-lawful {C} limits all c (x ∷ steps) step (one, more) = last-lawful limits all x.past steps step more

-- ---- over tables of one schema

module _ {C : Type 0} (own : List Table) (IsOf : Standing C) where
  -- the client stands for its past over tables of this schema alone
  abbrev pub Here : List Table → C → Client → Tables → Type 0
  Here schema code c tables = IsOf schema code c tables × (schema ≡ own)

  fair-here : (limits : Limits) (code : C) (c : Client) (steps : List (Step C)) → AreFair IsOf limits code c steps → AreFair Here limits code c steps
  fair-here limits code c [] fair = tt
  fair-here limits code c (step ∷ steps) (one, more) =
      (λ db sound within is comes. let (does, then_is) = one db sound within is.0 comes in (does, (then_is, is.1)), fair-here limits step.code step.past steps more)

-- ---- the calls of a run

module _ {C : Type 0} (IsOf : Standing C) (keys : AsksKeys IsOf) (limits : Limits) (own : List Table) (tables : list_all is_table own ≡ true) (s : Server) (pieces : List (List Input)) (code : C) (c : Client)
    (rests : Rests IsOf s.database code c) where
  module _ (calls : List (Call C)) (h : IsHonest own s pieces calls) where
    last-schema : (server_at_last s pieces).database.schema ≡ own
    last-schema = (last-more s pieces h.some).grows.schema ∙ h.schema_is

    last-tables : list_all is_table (server_at_last s pieces).database.schema ≡ true
    last-tables = subst (λ schema. list_all is_table schema ≡ true) (sym last-schema) tables

    rests-here : Rests (Here own IsOf) s.database code c
    rests-here = record { cut = rests.cut; out = rests.out; laid = rests.laid; version = rests.version; is = (rests.is, h.schema_is) }

    keys-here : AsksKeys (Here own IsOf)
    keys-here schema e past rows is = keys schema e past rows is.0

    module _ (are : AreCalls c calls) (heard : AreHeard c (all_done calls)) (fair : AreFair (Here own IsOf) limits code c (steps_in (all_done calls))) where
      pub are-lawful : AreNearlyRuled c (steps_in (all_done calls)) → AreLawful limits (server_at_last s pieces).database c (steps_in (all_done calls))
      are-lawful ruled = subst (AreLawful limits (server_at_last s pieces).database c) (talk-steps calls)
          (runs (Here own IsOf) keys-here limits (map talk_of calls) pieces s code c h.some h.sound last-tables rests-here
          (are-talks (Here own IsOf) limits code c calls are heard fair) (subst (AreNearlyRuled c) (sym (talk-steps calls)) ruled) (are-honest s c pieces calls heard h.explained)).lawful

      pub few-laid : s.database.log_limit ≤ 500000 → HasFewRows (server_at_last s pieces).database → AskFew (steps_in (all_done calls)) → AreRuled c (steps_in (all_done calls)) → LayFew c (steps_in (all_done calls))
      few-laid limit rows asks ruled = subst (LayFew c) (talk-steps calls)
          (few-are-laid (Here own IsOf) limits s code c (map talk_of calls) pieces keys-here
          (sound-before s.database (server_at_last s pieces).database h.some (last-more s pieces h.some).grows h.sound) (subst (λ schema. list_all is_table schema ≡ true) (sym h.schema_is) tables) h.sound
          limit rows (subst AskFew (sym (talk-steps calls)) asks) rests-here
          (are-talks (Here own IsOf) limits code c calls are heard fair) (subst (AreRuled c) (sym (talk-steps calls)) ruled) (are-honest s c pieces calls heard h.explained))

      pub true-steps : KeepsToBudgets (basis_of s.database limits) c → AreRuled c (steps_in (all_done calls)) → AreTrueSteps (server_at_last s pieces).database limits c (steps_in (all_done calls))
      true-steps keeps ruled = subst (AreTrueSteps (server_at_last s pieces).database limits c) (talk-steps calls)
          (answers-are-true (Here own IsOf) limits s code c (map talk_of calls) pieces keys-here
          (sound-before s.database (server_at_last s pieces).database h.some (last-more s pieces h.some).grows h.sound) (subst (λ schema. list_all is_table schema ≡ true) (sym h.schema_is) tables) h.sound rests-here keeps
          (are-talks (Here own IsOf) limits code c calls are heard fair) (subst (AreRuled c) (sym (talk-steps calls)) ruled) (are-honest s c pieces calls heard h.explained))

  -- ---- a message more, which is refused

  module _ (m : Message) (rest : List ℕ) (now : Client) (code_now : C) where
    abbrev took_step : Step C
    took_step = record { deed = Took m; outcome = Laid; past = now; code = code_now }

    abbrev took : Done C
    took = Made 0 Delivered took_step

    more-calls : (from : Client) (earlier : List (Call C)) (call : Call C) → AreCalls from (earlier ++ call ∷ []) → AreCalls from (earlier ++ with_step call took call.torn call.told rest ∷ [])
    more-calls from [] call (first, was_cut, on_one, more) =
        (first, was_cut, subst (OnOne call.first.past) (sym (steps-append call.others (took ∷ []))) (on-append call.first.past (steps_in call.others) took_step on_one tt), tt)
    more-calls from (x ∷ earlier) call (first, was_cut, on_one, more) = (first, was_cut, on_one, more-calls (past_after from (steps_in (done_in x))) earlier call more)

    module _ (call : Call C) (next : call.left ≡ spelling m ++ rest) where
      same-bytes : came_over (with_step call took call.torn call.told rest) ≡ came_over call
      same-bytes =
          ap (λ ms. spelled ms ++ rest) (given-step call took call.torn call.told rest)
          ∙ (ap (λ bytes. bytes ++ rest) (spelled-append (given_of (steps_in (done_in call))) (m ∷ []) ∙ ap (λ bytes. spelled (given_of (steps_in (done_in call))) ++ bytes) (append-nil (spelling m)))
          ∙ (append_assoc (spelled (given_of (steps_in (done_in call)))) (spelling m) rest ∙ ap (λ bytes. spelled (given_of (steps_in (done_in call))) ++ bytes) (sym next)))

      more-explained : (from : Server) (ps : List (List Input)) (earlier : List (Call C)) → AreExplained from ps (earlier ++ call ∷ []) → AreExplained from ps (earlier ++ with_step call took call.torn call.told rest ∷ [])
      more-explained from [] [] explained = absurd explained
      more-explained from [] (x ∷ earlier) explained = absurd explained
      more-explained from (piece ∷ ps) (x ∷ earlier) (one, more) = (one, more-explained (server_after from piece) ps earlier more)
      more-explained from (piece ∷ []) [] (one, more) = (
        record {
          frames = subst (IsPrefix (frames_of piece)) (sym (requests-step call took call.torn call.told rest ∙ append-nil (requests_of (steps_in (done_in call))))) one.frames;
          spells = one.spells;
          came = subst (λ bytes. IsPrefix bytes (spelled (sent_for from piece))) (sym same-bytes) one.came;
        },
        tt,
      )
      more-explained from (piece ∷ other ∷ ps) [] (one, more) = absurd more

  -- so it is none that had to be refused
  module _ (earlier : List (Call C)) (call : Call C) (h : IsHonest own s pieces (earlier ++ call ∷ [])) (are : AreCalls c (earlier ++ call ∷ [])) (heard : AreHeard c (all_done (earlier ++ call ∷ [])))
      (fair : AreFair (Here own IsOf) limits code c (steps_in (all_done (earlier ++ call ∷ [])))) (ruled : AreRuled c (steps_in (all_done (earlier ++ call ∷ [])))) (why : BadFrame) (r : IsRefused own (left_by c (earlier ++ call ∷ [])) call.left why) where
    abbrev before : List (Step C)
    before = steps_in (all_done (earlier ++ call ∷ []))

    abbrev now : Client
    now = past_after c before

    abbrev code_now : C
    code_now = code_after code before

    abbrev bad_step : Step C
    bad_step = record { deed = Took r.message; outcome = Laid; past = now; code = code_now }

    abbrev step : Done C
    step = Made 0 Delivered bad_step

    abbrev longer : Call C
    longer = with_step call step call.torn call.told r.rest

    not-none : (schema : List Table) → schema ≡ own → misfit schema now.out now.laid now.version r.message ≡ None → ⊥
    not-none schema same none = absurd (let wrong : Some why ≡ None = sym r.why_is ∙ (ap (λ schema. misfit schema now.out now.laid now.version r.message) (sym same) ∙ none) in cc)

    step-fair : IsFair (Here own IsOf) limits code_now now bad_step
    step-fair db sound within is comes =
        absurd (not-none db.schema is.1 (never-refused db now comes.connection comes.session r.message comes.queue sound (subst (λ schema. list_all is_table schema ≡ true) (sym is.1) tables)
        (keys db.schema code_now now (tables_of db now.version) is.0) comes.is_open comes.first))

    longer-steps : steps_in (all_done (earlier ++ longer ∷ [])) ≡ before ++ bad_step ∷ []
    longer-steps = ap (λ ds. steps_in ds) (all-step earlier call step call.torn call.told r.rest) ∙ steps-append (all_done (earlier ++ call ∷ [])) (step ∷ [])

    longer-lawful : AreLawful limits (server_at_last s pieces).database c (before ++ bad_step ∷ [])
    longer-lawful = subst (AreLawful limits (server_at_last s pieces).database c) longer-steps
        (are-lawful (earlier ++ longer ∷ [])
        (record { schema_is = h.schema_is; some = h.some; sound = h.sound; explained = more-explained r.message r.rest now code_now call r.next s pieces earlier h.explained })
        (more-calls r.message r.rest now code_now c earlier call are)
        (subst (AreHeard c) (sym (all-step earlier call step call.torn call.told r.rest)) (heard-append c (all_done (earlier ++ call ∷ [])) (step ∷ []) heard ((r.waits, r.spells), tt)))
        (subst (AreFair (Here own IsOf) limits code c) (sym longer-steps) (fair-append (Here own IsOf) limits code c before (bad_step ∷ []) fair (step-fair, tt)))
        (subst (AreNearlyRuled c) (sym longer-steps) (nearly-taking c before bad_step r.message ruled refl refl)))

    pub never-bad : ⊥
    never-bad =
        let is = last-lawful limits (server_at_last s pieces).database c before bad_step longer-lawful in
        not-none is.db.schema (sym is.grows.schema ∙ ((last-more s pieces h.some).grows.schema ∙ h.schema_is)) is.fits

-- ---- a run

-- over any link
pub runs-go-by-told : {C : Type 0} (IsOf : Standing C) (Has : Holding C) → RunsGoByTold IsOf Has
runs-go-by-told {C} IsOf Has k code c address plan ended old new before after told has run =
    (steps-go-by-told Has k.limits k.schema code c (steps_in (all_done (run.ran.earlier ++ run.ran.last ∷ []))) told has run.lawful).0

pub broken-runs-go-by-told : {C : Type 0} (IsOf : Standing C) (Has : Holding C) → BrokenRunsGoByTold IsOf Has
broken-runs-go-by-told {C} IsOf Has k code c address plan old new before after told has run = (steps-go-by-told Has k.limits k.schema code c (steps_in (all_done run.calls)) told has run.lawful).0

-- over an honest one
pub honest-runs-are-true : {C : Type 0} (IsOf : Standing C) (Has : Holding C) → HonestRunsAreTrue IsOf Has
honest-runs-are-true {C} IsOf Has k s pieces code c address plan ended old new before after told keys tables rests keeps has asked run h = record {
  steps = true-steps IsOf keys k.limits k.schema tables s pieces code c rests (run.ran.earlier ++ run.ran.last ∷ []) h run.ran.are heard fair keeps ruled;
  versions = never-fall k.limits (server_at_last s pieces).database c (steps_in (all_done (run.ran.earlier ++ run.ran.last ∷ []))) (are-lawful IsOf keys k.limits k.schema tables s pieces code c rests (run.ran.earlier ++ run.ran.last ∷ []) h run.ran.are heard fair (nearly-ruled c (steps_in (all_done (run.ran.earlier ++ run.ran.last ∷ []))) ruled));
  accepted = by ended run.ran.ends;
}
  where
    heard : AreHeard c (all_done (run.ran.earlier ++ run.ran.last ∷ []))
    heard = are-heard k.keeps k.schema 0 c (all_done (run.ran.earlier ++ run.ran.last ∷ [])) run.ran.in_place
        (are-of IsAskedFor (begun plan) (dids_of k.keeps (all_done (run.ran.earlier ++ run.ran.last ∷ []))) (λ answer. asked) run.ran.goes)

    fair : AreFair (Here k.schema IsOf) k.limits code c (steps_in (all_done (run.ran.earlier ++ run.ran.last ∷ [])))
    fair = fair-here k.schema IsOf k.limits code c (steps_in (all_done (run.ran.earlier ++ run.ran.last ∷ []))) run.fair

    ruled : AreRuled c (steps_in (all_done (run.ran.earlier ++ run.ran.last ∷ [])))
    ruled = (steps-go-by-told Has k.limits k.schema code c (steps_in (all_done (run.ran.earlier ++ run.ran.last ∷ []))) told has run.lawful).1

    by : (ended : Ending) → EndsBy ended k.schema (run.ran.earlier ++ run.ran.last ∷ []) (left_by c (run.ran.earlier ++ run.ran.last ∷ [])) run.ran.last.left (left (stage_by k.keeps plan (all_done (run.ran.earlier ++ run.ran.last ∷ [])))) → status_of ended ≢ 8
    by ending.Whole ends is = absurd (let wrong : 0 ≡ 8 = is in omega (arith, wrong))
    by ending.Faulty ends is = absurd (let wrong : 5 ≡ 8 = is in omega (arith, wrong))
    by ending.Unwritten ends is = absurd (let wrong : 4 ≡ 8 = is in omega (arith, wrong))
    by ending.Limit ends is = absurd (let wrong : 11 ≡ 8 = is in omega (arith, wrong))
    by (ending.Spoiled fault) ends is = never-spoiled s c pieces run.ran.earlier run.ran.last heard h.explained fault ends.fault_is ends.whole
    by (ending.Bad why) ends is = never-bad IsOf keys k.limits k.schema tables s pieces code c rests run.ran.earlier run.ran.last h run.ran.are heard fair ruled why ends

-- where the server keeps few changes, no request takes a million frames
pub honest-runs-are-short : {C : Type 0} (IsOf : Standing C) (Has : Holding C) → HonestRunsAreShort IsOf Has
honest-runs-are-short {C} IsOf Has k s pieces code c address plan ended old new before after told keys tables rests has asked run h limit rows asks = by ended run.ran.ends
  where
    heard : AreHeard c (all_done (run.ran.earlier ++ run.ran.last ∷ []))
    heard = are-heard k.keeps k.schema 0 c (all_done (run.ran.earlier ++ run.ran.last ∷ [])) run.ran.in_place
        (are-of IsAskedFor (begun plan) (dids_of k.keeps (all_done (run.ran.earlier ++ run.ran.last ∷ []))) (λ answer. asked) run.ran.goes)

    fair : AreFair (Here k.schema IsOf) k.limits code c (steps_in (all_done (run.ran.earlier ++ run.ran.last ∷ [])))
    fair = fair-here k.schema IsOf k.limits code c (steps_in (all_done (run.ran.earlier ++ run.ran.last ∷ []))) run.fair

    ruled : AreRuled c (steps_in (all_done (run.ran.earlier ++ run.ran.last ∷ [])))
    ruled = (steps-go-by-told Has k.limits k.schema code c (steps_in (all_done (run.ran.earlier ++ run.ran.last ∷ []))) told has run.lawful).1

    asks-few : AskFew (steps_in (all_done (run.ran.earlier ++ run.ran.last ∷ [])))
    asks-few = ask-few k.keeps k.schema 0 c (all_done (run.ran.earlier ++ run.ran.last ∷ [])) run.ran.in_place ruled
        (are-of AsksFew (begun plan) (dids_of k.keeps (all_done (run.ran.earlier ++ run.ran.last ∷ []))) (λ answer. asks) run.ran.goes) (none-out c rests.out)

    few : (taken_after none_taken (all_done (run.ran.earlier ++ run.ran.last ∷ []))).taken ≤ 501026
    few = taken-few k.schema c (all_done (run.ran.earlier ++ run.ran.last ∷ [])) run.ran.in_place ruled
        (few-laid IsOf keys k.limits k.schema tables s pieces code c rests (run.ran.earlier ++ run.ran.last ∷ []) h run.ran.are heard fair limit rows asks-few ruled)

    by : (ended : Ending) → EndsBy ended k.schema (run.ran.earlier ++ run.ran.last ∷ []) (left_by c (run.ran.earlier ++ run.ran.last ∷ [])) run.ran.last.left (left (stage_by k.keeps plan (all_done (run.ran.earlier ++ run.ran.last ∷ [])))) → status_of ended ≢ 11
    by ending.Whole ends is = absurd (let wrong : 0 ≡ 11 = is in omega (arith, wrong))
    by ending.Faulty ends is = absurd (let wrong : 5 ≡ 11 = is in omega (arith, wrong))
    by ending.Unwritten ends is = absurd (let wrong : 4 ≡ 11 = is in omega (arith, wrong))
    by (ending.Spoiled fault) ends is = absurd (let wrong : 8 ≡ 11 = is in omega (arith, wrong))
    by (ending.Bad why) ends is = absurd (let wrong : 8 ≡ 11 = is in omega (arith, wrong))
    by ending.Limit ends is = let many = ends.many in absurd (omega (arith, many, few))
