-- How many messages a run takes for one request, where few are laid by.
use Rattle.std.proofs.Common.{◌≡◌, ℕ, ◌+◌, ◌≤◌, Bool, true, false, List, [], ◌∷◌, length, refl, sym, subst, arith, Option, Some, None, Result, Ok, Err, length-append}
use Rattle.std.specs.Prelude.{◌≢◌}
use Rattle.sr_cell.specs.declared.fault.Fault.{Fault}
use Rattle.sr_cell.specs.declared.table.Table.{Table}
use Rattle.sr_message.specs.declared.message.AskPart.{AskPart}
use Rattle.sr_message.specs.declared.message.Message.{Message}
use Rattle.sr_message.specs.declared.message.Message.TheVariants.{Hello, Resume, Ask, Write, Welcome, Notice, Rows, Reply, Written, Refused, Lapse}
use Rattle.sr_model.specs.Queries.{Part, Query}
use Rattle.sr_history.specs.declared.mark.Mark.{Mark}
use Rattle.sr_history.specs.Marks.{with_marks}
use Rattle.sr_history.specs.Rests.{Asks, nothing, covered, asked}
use Rattle.sr_query.specs.declared.query.Query as code_query
use Rattle.sr_reader.specs.declared.script.Event as code
use Rattle.sr_reader.specs.declared.script.Event.TheVariants as read
use Rattle.sr_reader.specs.declared.script.EventLine.{EventLine}
use Rattle.sr_reader.specs.Read.{Means}
use Rattle.sr_session.specs.Clients.{Client, IsResumeMessage}
use Rattle.sr_session.specs.Rules.{Answering, AnswerStep, renewed, given_up, Basis, Outcome, is_given_up, sent_of, QueryStep, query_refused, query_busy, query_answered, query_down, query_asks, TakeStep, lays, applies, forgets, answers, asks_once_more, written, refused_write, is_welcomed, EvictStep, evict_busy, evicts_none, evicts, WriteStep, write_busy, write_down, write_sends, already_cut, cuts, already_up, resumes}
use Rattle.sr_session.specs.Walks.{Request, AskOut}
use Rattle.sr_links.specs.Counts.{AreShortAsks, AskFew, IsShortAsk, LaysFew, LayFew}
use Rattle.sr_links.specs.Steps.{AreRuled, Deed, Queried, Wrote, Evicted, Took, WasCut, Resumed, too_long, writes, Does}
use Rattle.sr_links.proofs.FewLemmas.{answer-frees}
use Rattle.sr_plan.specs.Plans.{AllTasks, Did, plan_of}
use Rattle.sr_plan.specs.Laws.{AreOf}
use Rattle.sr_dial.specs.Calls.{Cause, Scripted, Delivered, Failed, Done, Made, Explained, Said, Task, Do, Explain, Say, steps_in}
use Rattle.sr_dial.specs.Following.{answer_of, did_by, dids_of}
use Rattle.sr_dial_laws.specs.Honest.{AsksFew}
use Rattle.sr_dial.specs.Known.{AreTasks, IsDeed, IsTask}
use Rattle.sr_dial.specs.Runs.{AreInPlace, IsInPlace, anew_if, more_if, more_taken, none_taken, taken_after}
use Rattle.sr_dial.specs.declared.parts.Answer.{Answer}
use Rattle.sr_dial.specs.declared.waiting.Count.{Count}

-- a fresh ask is out
abbrev IsFreshOut : Option Request → Type 0
IsFreshOut (Some (AskOut number query meaning true parts)) = Unit {0}
IsFreshOut other = ⊥

-- No more were taken for the request that is out than were laid by; and behind a second request of a line, which is fresh, there is no third.
record Counted (c : Client) (n : Count) : Type 0 where
  pub within : c.out ≢ None → n.taken ≤ length c.laid
  pub most : n.taken ≤ 501026
  pub fresh : n.again ≡ true → c.out ≢ None → IsFreshOut c.out

begun : (c : Client) → Counted c none_taken
begun c = record { within = λ some. omega arith; most = omega arith; fresh = λ again some. absurd (cc) }

never-again : (number query : ℕ) (meaning : Query) (fresh : Bool) (parts : List AskPart) (laid : List Message) → IsFreshOut (Some (AskOut number query meaning fresh parts)) → is_given_up fresh laid ≡ true → ⊥
never-again number query meaning true parts laid is gives = absurd (cc)
never-again number query meaning false parts laid is gives = absurd is

module _ (b : Basis) (c : Client) (n : Count) (some : c.out ≢ None) (few : length c.laid + 1 ≤ 501026) (h : Counted c n) where
  -- a request ends
  ended : (new : Client) (again : Bool) → new.out ≡ None → Counted new (record { taken = n.taken + 1; again = again })
  ended new again none =
      let within = h.within some in
      record { within = λ busy. absurd (busy none); most = omega (arith, within, few); fresh = λ is busy. absurd (busy none) }

  taken-one : (m : Message) (o : Outcome) (new : Client) → TakeStep b c m o new → Counted new (more_if (sent_of o) n)
  taken-one m o new (lays request x out laid for) =
      let within = h.within some in
      record { within = λ busy. omega (arith, within, length-append c.laid (x ∷ [])); most = omega (arith, within, few); fresh = h.fresh }
  taken-one m o new (applies version told drops out later met) = absurd (some out)
  taken-one m o new (forgets version drops out later all) = absurd (some out)
  taken-one m o new (answers number query q fresh parts version rows marks after out whole later are step) = ended new n.again (answer-frees b _ c marks new step)
  taken-one m o new (asks_once_more number query q fresh parts version drops whole out again later all asks few_rects) = by n.again refl
    where
      by : (x : Bool) → n.again ≡ x → Counted new (anew_if n.again n.taken)
      by false is = subst (λ x. Counted new (anew_if x n.taken)) (sym is) (record { within = λ busy. omega arith; most = omega arith; fresh = λ yes busy. tt })
      by true is = absurd (never-again number query q fresh parts c.laid (subst IsFreshOut out (h.fresh is some)) again)
  taken-one m o new (written number version drops out later d) = ended new n.again refl
  taken-one m o new (refused_write number fault drops out later d) = ended new n.again refl
  taken-one m o new (is_welcomed number version keeps drops out later d) = ended new n.again refl

counted-step : (schema : List Table) (cause : Cause) (line number : ℕ) (deed : Deed) (b : Basis) (c : Client) (o : Outcome) (new : Client) (n : Count) → IsInPlace schema cause line number deed c
    → Does b deed c o new → LaysFew deed c → Counted c n → Counted new (more_taken cause (sent_of o) n)
counted-step schema Scripted line number deed b c o new n place does few h = begun new
counted-step schema Failed line number deed b c o new n place does few h = begun new
counted-step schema Delivered line number (Took m) b c o new n place does few h = taken-one b c n place.1 few h m o new does
counted-step schema Delivered line number (Queried query) b c o new n place does few h = absurd place
counted-step schema Delivered line number (Wrote sql) b c o new n place does few h = absurd place
counted-step schema Delivered line number (Evicted at) b c o new n place does few h = absurd place
counted-step schema Delivered line number WasCut b c o new n place does few h = absurd place
counted-step schema Delivered line number Resumed b c o new n place does few h = absurd place

counted-all : {C : Type 0} (schema : List Table) (line : ℕ) (c : Client) (n : Count) (ds : List (Done C)) → AreInPlace schema line c ds → AreRuled c (steps_in ds) → LayFew c (steps_in ds) → Counted c n
    → (taken_after n ds).taken ≤ 501026
counted-all {C} schema line c n [] place ruled few h = h.most
counted-all {C} schema line c n (Made number cause step ∷ ds) (one, more) (rule, ruled) (first, few) h =
    counted-all schema number step.past (more_taken cause (sent_of step.outcome) n) ds more ruled few (counted-step schema cause line number step.deed rule.0 c step.outcome step.past n one rule.1 first h)
counted-all {C} schema line c n (Explained number text result ∷ ds) (one, more) ruled few h = counted-all schema number c none_taken ds more ruled few (begun c)
counted-all {C} schema line c n (Said number text ∷ ds) (one, more) ruled few h = counted-all schema number c none_taken ds more ruled few (begun c)

pub taken-few : {C : Type 0} (schema : List Table) (c : Client) (ds : List (Done C)) → AreInPlace schema 0 c ds → AreRuled c (steps_in ds) → LayFew c (steps_in ds) → (taken_after none_taken ds).taken ≤ 501026
taken-few {C} schema c ds place ruled few = counted-all schema 0 c none_taken ds place ruled few (begun c)

-- ---- each ask has few parts

-- at most one for each part of the query
asks-fewer : (schema : List Table) (marks : List Mark) (parts : List Part) (asks : List AskPart) → Asks schema marks parts asks → length asks ≤ length parts
asks-fewer schema marks parts asks nothing = omega arith
asks-fewer schema marks parts asks (covered part others some none more) = let ih = asks-fewer schema marks others some more in omega (arith, ih)
asks-fewer schema marks parts asks (asked part others ask some rest more) = let ih = asks-fewer schema marks others some more in omega (arith, ih)

-- the query has few parts whose ask is out
abbrev OutFew : Option Request → Type 0
OutFew (Some (AskOut number query meaning fresh parts)) = length meaning.parts ≤ 4
OutFew other = Unit {0}

answer-few : (b : Basis) (a : Answering) (c : Client) (marks : List Mark) (new : Client) → AnswerStep b a c marks new → OutFew new.out
answer-few b a c marks new (renewed ms renews) = tt
answer-few b a c marks new (given_up ms gives) = tt

greeting-short : (schema : List Table) (c : Client) (number : ℕ) (m : Message) → IsResumeMessage schema c number m → IsShortAsk m
greeting-short schema c number (Hello wire client k) is = tt
greeting-short schema c number (Resume wire client k version holdings) is = tt
greeting-short schema c number (Ask k fresh parts) is = absurd is
greeting-short schema c number (Write k sql) is = tt
greeting-short schema c number (Welcome k w kept) is = tt
greeting-short schema c number (Notice w told) is = tt
greeting-short schema c number (Rows k part rows) is = tt
greeting-short schema c number (Reply k w) is = tt
greeting-short schema c number (Written k w) is = tt
greeting-short schema c number (Refused k fault) is = tt
greeting-short schema c number (Lapse w) is = tt

-- what is sent asks few parts, and of what is out then that is so again
abbrev StaysFew : Outcome → Client → Type 0
StaysFew o new = AreShortAsks (sent_of o) × OutFew new.out

module _ (b : Basis) (c : Client) (h : OutFew c.out) where
  query-few : (text : Result Query Fault) (o : Outcome) (new : Client) → AsksFew (Do (Queried text)) → QueryStep b c text o new → StaysFew o new
  query-few text o new few (query_refused fault) = (tt, h)
  query-few text o new few (query_busy q request out) = (tt, h)
  query-few text o new few (query_answered q rows marks after out asks are step) = (tt, answer-few b _ c marks new step)
  query-few text o new few (query_down q out down left) = (tt, h)
  query-few text o new few (query_asks q drops old ask others fresh out before up asks few_rects mode) =
      let fewer = asks-fewer b.schema old.marks q.parts (ask ∷ others) asks in ((omega (arith, fewer, few), tt), few)

  take-few : (m : Message) (o : Outcome) (new : Client) → TakeStep b c m o new → StaysFew o new
  take-few m o new (lays request x out laid for) = (tt, h)
  take-few m o new (applies version told drops out later met) = (tt, h)
  take-few m o new (forgets version drops out later all) = (tt, h)
  take-few m o new (answers number query q fresh parts version rows marks after out whole later are step) = (tt, answer-few b _ c marks new step)
  take-few m o new (asks_once_more number query q fresh parts version drops whole out again later all asks few_rects) =
      let few : length q.parts ≤ 4 = subst OutFew out h in
      let fewer = asks-fewer b.schema (with_marks c.marks drops) q.parts whole asks in ((omega (arith, fewer, few), tt), few)
  take-few m o new (written number version drops out later d) = (tt, tt)
  take-few m o new (refused_write number fault drops out later d) = (tt, tt)
  take-few m o new (is_welcomed number version keeps drops out later d) = (tt, tt)

  evict-few : (place : ℕ) (o : Outcome) (new : Client) → EvictStep b place c o new → StaysFew o new
  evict-few place o new (evict_busy request out) = (tt, h)
  evict-few place o new (evicts_none classes out are few) = (tt, h)
  evict-few place o new (evicts classes chosen d out are at drop) = (tt, h)

  write-few : (sql : List ℕ) (o : Outcome) (new : Client) → WriteStep sql c o new → StaysFew o new
  write-few sql o new (write_busy request out) = (tt, h)
  write-few sql o new (write_down out down) = (tt, h)
  write-few sql o new (write_sends out up) = ((tt, tt), tt)

  does-few : (deed : Deed) (o : Outcome) (new : Client) → AsksFew (Do deed) → Does b deed c o new → StaysFew o new
  does-few (Queried text) o new few does = query-few text o new few does
  does-few (Wrote sql) o new few (too_long is) = (tt, h)
  does-few (Wrote sql) o new few (writes did after short does) = write-few sql o new does
  does-few (Evicted place) o new few does = evict-few place o new does
  does-few (Took m) o new few does = take-few m o new does
  does-few WasCut o new few (already_cut is) = (tt, h)
  does-few WasCut o new few (cuts up) = (tt, tt)
  does-few Resumed o new few (already_up up) = (tt, h)
  does-few Resumed o new few (resumes m down is) = ((greeting-short b.schema c c.next_request m is, tt), tt)

-- where a line asked for it, it was a task of the plan
abbrev FewIf : Cause → Deed → Type 0
FewIf Scripted deed = AsksFew (Do deed)
FewIf other deed = Unit {0}

first-few : (cause : Cause) (number : ℕ) (deed : Deed) (answer : Option Answer) (ds : List (Did Task Answer)) → AreOf AsksFew (did_by cause number deed answer ∷ ds) → FewIf cause deed × AreOf AsksFew ds
first-few Scripted number deed answer ds few = few
first-few Delivered number deed answer ds few = (tt, few)
first-few Failed number deed answer ds few = (tt, few)

deed-few : (schema : List Table) (cause : Cause) (line number : ℕ) (deed : Deed) (c : Client) → IsInPlace schema cause line number deed c → FewIf cause deed → AsksFew (Do deed)
deed-few schema cause line number (Wrote sql) c place few = tt
deed-few schema cause line number (Evicted at) c place few = tt
deed-few schema cause line number (Took m) c place few = tt
deed-few schema cause line number WasCut c place few = tt
deed-few schema cause line number Resumed c place few = tt
deed-few schema cause line number (Queried (Err fault)) c place few = tt
deed-few schema Scripted line number (Queried (Ok q)) c place few = few
deed-few schema Delivered line number (Queried (Ok q)) c place few = absurd place
deed-few schema Failed line number (Queried (Ok q)) c place few = absurd place

pub ask-few : {C : Type 0} (keeps : Bool) (schema : List Table) (line : ℕ) (c : Client) (ds : List (Done C)) → AreInPlace schema line c ds → AreRuled c (steps_in ds) → AreOf AsksFew (dids_of keeps ds) → OutFew c.out
    → AskFew (steps_in ds)
ask-few {C} keeps schema line c [] place ruled few h = tt
ask-few {C} keeps schema line c (Made number cause step ∷ ds) (one, more) (rule, ruled) few h =
    let both = first-few cause number step.deed (answer_of keeps step.outcome) (dids_of keeps ds) few in
    let stays = does-few rule.0 c h step.deed step.outcome step.past (deed-few schema cause line number step.deed c one both.0) rule.1 in
    (stays.0, ask-few keeps schema number step.past ds more ruled both.1 stays.1)
ask-few {C} keeps schema line c (Explained number text result ∷ ds) (one, more) ruled few h = ask-few keeps schema number c ds more ruled few.1 h
ask-few {C} keeps schema line c (Said number text ∷ ds) (one, more) ruled few h = ask-few keeps schema number c ds more ruled few.1 h

pub none-out : (c : Client) → c.out ≡ None → OutFew c.out
none-out c none = subst OutFew (sym none) tt

-- the lines of a script ask few parts
task-few : (schema : List Table) (event : code.Event) (task : Task) → IsTask schema event task → AsksFew task
task-few schema event (Explain text) is = tt
task-few schema event (Say text) is = absurd is
task-few schema event (Do (Queried (Ok q))) is = query-of event is
  where
    query-of : (event : code.Event) → IsDeed schema event (Queried (Ok q)) → length q.parts ≤ 4
    query-of (read.Query n query) (meaning, means, same) = by query meaning means (let e : Queried (Ok q) ≡ Queried meaning = same in cc)
      where
        by : (query : Result code_query.Query Fault) (meaning : Result Query Fault) → Means schema query meaning → Ok q ≡ meaning → length q.parts ≤ 4
        by (Ok bound) (Ok other) means e = let same_query : q ≡ other = cc in subst (λ (x : Query). length x.parts ≤ 4) (sym same_query) means.2
        by (Ok bound) (Err fault) means e = absurd means
        by (Err fault) (Ok other) means e = absurd means
        by (Err fault) (Err same) means e = absurd (cc)
    query-of (read.Write n sql) is = absurd (cc)
    query-of (read.Evict n place) is = absurd (cc)
    query-of (read.Cut n) is = absurd (cc)
    query-of (read.Resume n) is = absurd (cc)
    query-of (read.Exec statement) is = absurd is
    query-of (read.Explain n query) is = absurd is
    query-of (read.Push n) is = absurd is
    query-of (read.ToServer n) is = absurd is
    query-of (read.ToClient n) is = absurd is
    query-of (read.Settle n) is = absurd is
task-few schema event (Do (Queried (Err fault))) is = tt
task-few schema event (Do (Wrote sql)) is = tt
task-few schema event (Do (Evicted place)) is = tt
task-few schema event (Do (Took m)) is = tt
task-few schema event (Do WasCut) is = tt
task-few schema event (Do Resumed) is = tt

pub scripts-few : (schema : List Table) (lines : List EventLine) (script : List (ℕ × Task)) → AreTasks schema lines script → AllTasks AsksFew (plan_of {A = Answer} script)
scripts-few schema [] [] h = tt
scripts-few schema [] (x ∷ xs) h = absurd h
scripts-few schema (line ∷ lines) [] h = absurd h
scripts-few schema (line ∷ lines) (x ∷ xs) ((task, is, same), more) =
    (subst (λ (numbered : ℕ × Task). AsksFew numbered.1) (sym same) (task-few schema line.event task is), λ answer. scripts-few schema lines xs more)
