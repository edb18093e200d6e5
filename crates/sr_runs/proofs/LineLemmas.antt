-- Lines of answers and asks are right, in the trace of each script.
use Rattle.std.proofs.Common.{◌≡◌, ℕ, suc, ◌<◌, ◌≤◌, Bool, true, false, List, [], ◌∷◌, ◌++◌, length, length-append, refl, sym, ◌∙◌, ap, subst, arith, Some, inl, inr}
use Rattle.std.specs.Prelude.{map, flat_map, slice_get, ◌⊎◌, IsTrue}
use Rattle.std.proofs.lemmas.List.{append-nil, append_assoc, map-append}
use Rattle.sr_cell.specs.declared.table.Table.{Table}
use Rattle.sr_message.specs.declared.message.AskPart.{AskPart}
use Rattle.sr_model.specs.Queries.{Query, rows_of}
use Rattle.sr_script.specs.declared.line.TraceLine.{TraceLine}
use Rattle.sr_script.specs.declared.line.TraceLine.TheVariants as line
use Rattle.sr_script.specs.TraceText.{line_text, trace_text}
use Rattle.sr_session.specs.Sessions.{Database, newest, tables_of}
use Rattle.sr_session.specs.Walks.{AskOut}
use Rattle.sr_session.specs.Clients.{Pair}
use Rattle.sr_session.specs.Tidy.{IsTidyWith}
use Rattle.sr_session.specs.Rules.{Answered, AskSent}
use Rattle.sr_session.specs.Scenes.{Did, Event, Happens, Report, Scene, SceneStands, client_of, done, next, pair_at}
use Rattle.sr_session.specs.Scenes.{Runs as EventsRun}
use Rattle.sr_session.specs.Headline.{IsReached, query_at}
use Rattle.sr_session.proofs.EventLemmas.{at, events-keep}
use Rattle.sr_session.proofs.ReachLemmas.{get-last, reached-stands, stands-tidy}
use Rattle.sr_session.proofs.ExecLemmas.{newest-more, version-stays}
use Rattle.sr_session.proofs.GrowLemmas.{answers-never-fall, is-later}
use Rattle.sr_session.proofs.AnswerLemmas.{an-ask-asks-the-uncovered, answers-are-right}
use Rattle.sr_session.proofs.BudgetLemmas.{Grows, grows, more, same}
use Rattle.sr_runs.specs.Lines.{part_line}
use Rattle.sr_runs.specs.Runs.{numbered}
use Rattle.sr_runs.specs.Headline.{AnswerLinesAreRight, AskLinesAreRight, IsExplained, IsMoment, IsRightAnswerLine, IsRightAskLine, IsScripted, IsStep, IsTold, start_of}
use Rattle.sr_runs.proofs.AskedLemmas.{queries-are-asked}
use Rattle.sr_runs.proofs.BlockLemmas.{HeadsAnswer, HeadsAsk, blocks, heads}
use Rattle.sr_runs.proofs.ExplainLemmas.{no-head}
use Rattle.sr_runs.proofs.MomentLemmas.{farther, lines-are-told, wider}
use Rattle.sr_runs.proofs.PairLemmas.{still-there}
use Rattle.sr_runs.proofs.StepLemmas.{runs-lead}

-- lines that all have one number, as they are written one by one
pub numbered-text : (schema : List Table) (number : ℕ) (lines : List TraceLine) → flat_map (line_text schema number) lines ≡ trace_text schema (numbered number lines)
numbered-text schema number [] = refl
numbered-text schema number (l ∷ lines) = ap (λ text. line_text schema number l ++ text) (numbered-text schema number lines)

-- ---- what stays until the last scene

tables-stay : (old new : Database) (version : ℕ) → 0 < length old.versions → Grows old new → version ≤ newest old
    → (version ≤ newest new) × (tables_of new version ≡ tables_of old version)
tables-stay old new version some same within = (within, refl)
tables-stay old new version some (more tables) within =
    let grown = newest-more old tables some in
    (omega (arith, within, grown), version-stays old.versions tables version (omega (arith, within, some)))

-- a query of a client has its number and its meaning, and the tables of a version are what they were
pub record Stays (old new : Scene) (n number version : ℕ) (q : Query) : Type 0 where
  pub pair : Pair
  pub pair_is : pair_at new n ≡ Some pair
  pub done : Bool
  pub query_is : query_at pair.client number ≡ Some (record { query = q; answered = done })
  pub there : version ≤ newest new.database
  pub tables : tables_of new.database version ≡ tables_of old.database version

stays : (s : Scene) (events : List Event) (reports : List Report) (last : Scene) (n number version : ℕ) (q : Query) (answered : Bool) (pair : Pair) → SceneStands s
    → EventsRun s events reports last → pair_at s n ≡ Some pair → query_at pair.client number ≡ Some (record { query = q; answered = answered })
    → version ≤ newest s.database → Stays s last n number version q
stays s events reports last n number version q answered pair h (done a) is there within =
    record { pair = pair; pair_is = is; done = answered; query_is = there; there = within; tables = refl }
stays s events reports last n number version q answered pair h (next a event report mid left told end happens rest) is there within =
    let on = still-there s mid event report happens n pair is in
    let later = is-later n pair on.0 s mid event report h happens is on.1 in
    let query = later.numbers number (record { query = q; answered = answered }) there in
    let kept = tables-stay s.database mid.database version h.some (grows s mid event report happens) within in
    let ended = stays mid left told last n number version q query.0 on.0 (events-keep s mid event report h happens) rest on.1 query.1 kept.0 in
    record { pair = ended.pair; pair_is = ended.pair_is; done = ended.done; query_is = ended.query_is; there = ended.there; tables = ended.tables ∙ kept.1 }

-- ---- moments of a script

moment-reached : (last : Scene) (script : IsScripted last) (event : Event) (report : Report) (m : IsMoment (start_of last script) last event report) → IsReached m.before
moment-reached last script event report m = record {
  limits = script.limits;
  schema = script.schema;
  log_limit = script.log_limit;
  tables = script.tables;
  clients = script.clients;
  events = m.leads.0;
  reports = m.leads.1;
  runs = m.leads.2;
}

abbrev same-report : (s new : Scene) (event : Event) (report other : Report) → report ≡ other → IsMoment s new event report → IsMoment s new event other
same-report s new event report other is m = record { before = m.before; after = m.after; leads = m.leads; happens = subst (λ r. Happens m.before event r m.after) is m.happens; follows = m.follows }

-- what stands behind a line of an event, with its number
behind-block : (number : ℕ) (block others own : List TraceLine) (behind rest : List (ℕ × TraceLine)) → own ≡ block ++ others → behind ≡ numbered number own ++ rest
    → behind ≡ numbered number block ++ (numbered number others ++ rest)
behind-block number block others own behind rest own_is is =
    is ∙ (ap (λ lines. numbered number lines ++ rest) own_is
    ∙ (ap (λ lines. lines ++ rest) (map-append (λ line. (number, line)) block others) ∙ append_assoc (numbered number block) (numbered number others) rest))

-- ---- answers

right-answer : (last : Scene) (script : IsScripted last) (number n query version rows : ℕ) (behind : List (ℕ × TraceLine))
    → (t : IsTold (start_of last script) last number (line.Answer n query version rows) behind)
    → HeadsAnswer t.event t.report (line.Answer n query version rows) t.own → IsRightAnswerLine last script number n query version rows behind
right-answer last script number n query version rows behind t h =
    let m = same-report (start_of last script) last t.event t.report (Did (Answered h.query h.version h.rows h.marks)) h.report_is t.moment in
    let reached = moment-reached last script t.event (Did (Answered h.query h.version h.rows h.marks)) m in
    let right = answers-are-right m.before m.after t.event h.query h.version h.rows h.marks reached m.happens in
    let rising = answers-never-fall m.before m.after t.event h.query h.version h.rows h.marks right.old reached m.happens right.old_is in
    let stands = events-keep m.before m.after t.event (Did (Answered h.query h.version h.rows h.marks)) (reached-stands m.before reached) m.happens in
    let line_is : line.Answer (client_of t.event) h.query h.version (length h.rows) ≡ line.Answer n query version rows = h.line_is in
    let of_n : client_of t.event ≡ n = cc in
    let of_query : h.query ≡ query = cc in
    let of_version : h.version ≡ version = cc in
    let of_rows : length h.rows ≡ rows = cc in
    let on = stays m.after m.follows.0 m.follows.1 last (client_of t.event) h.query h.version right.query true right.after stands m.follows.2 right.after_is right.answered rising.1 in
    let rows_are : h.rows ≡ rows_of right.query (tables_of last.database version) =
    right.rows_are ∙ (ap (rows_of right.query) (sym on.tables) ∙ ap (λ v. rows_of right.query (tables_of last.database v)) of_version) in
    record {
      pair = on.pair;
      pair_is = ap (pair_at last) (sym of_n) ∙ on.pair_is;
      meaning = right.query;
      done = on.done;
      query_is = ap (query_at on.pair.client) (sym of_query) ∙ on.query_is;
      asked = queries-are-asked last script n query right.query
          (record { pair = on.pair; done = on.done; pair_is = ap (pair_at last) (sym of_n) ∙ on.pair_is; query_is = ap (query_at on.pair.client) (sym of_query) ∙ on.query_is });
      there = subst (λ v. v ≤ newest last.database) of_version on.there;
      count = sym of_rows ∙ ap length rows_are;
      rest = numbered number h.more ++ t.rest;
      behind_is =
          behind-block number (map line.Row h.rows) h.more t.own behind t.rest h.own_is t.behind_is
          ∙ ap (λ rs. numbered number (map line.Row rs) ++ (numbered number h.more ++ t.rest)) rows_are;
    }

pub answer-lines-are-right : AnswerLinesAreRight
answer-lines-are-right last script front number n query version rows behind there =
    go (farther start told.0.there told.0.next last number (line.Answer n query version rows) behind [] behind (runs-lead script.eager start told.0.earlier told.0.lines told.0.there told.0.runs)
    (runs-lead script.eager told.0.next told.0.later told.0.rest last told.0.ends) (sym (append-nil behind)) told.1)
  where
    start : Scene
    start = start_of last script

    told : (step : IsStep script.eager start last script.events number front)
        × (IsTold step.there step.next number (line.Answer n query version rows) behind ⊎ (IsExplained step.there step.next number (line.Answer n query version rows) behind ⊎ IsTrue false))
    told = lines-are-told script.eager start last script.events script.lines script.runs front number (line.Answer n query version rows) behind there

    by : (t : IsTold (start_of last script) last number (line.Answer n query version rows) behind)
        → HeadsAnswer t.event t.report (line.Answer n query version rows) t.own ⊎ HeadsAsk t.event t.report (line.Answer n query version rows) t.own
        → IsRightAnswerLine last script number n query version rows behind
    by t (inl h) = right-answer last script number n query version rows behind t h
    by t (inr h) = absurd (let wrong : line.Ask (client_of t.event) h.request h.fresh (length h.parts) ≡ line.Answer n query version rows = h.line_is in cc)

    go : IsTold (start_of last script) last number (line.Answer n query version rows) behind ⊎ (IsExplained (start_of last script) last number (line.Answer n query version rows) behind ⊎ IsTrue false)
        → IsRightAnswerLine last script number n query version rows behind
    go (inl t) = by t (heads t.event t.report (blocks t.moment.before t.moment.after t.event t.report t.moment.happens) t.front (line.Answer n query version rows) t.own refl t.lines)
    go (inr (inl h)) = absurd (no-head h.there h.client h.text h.front (line.Answer n query version rows) h.own refl h.explains)
    go (inr (inr wrong)) = absurd (cc)

-- ---- asks

-- the query whose ask is out is the client's newest
out-is-numbered : (s : Scene) (n : ℕ) (pair : Pair) (request number : ℕ) (q : Query) (fresh : Bool) (parts : List AskPart) → SceneStands s → pair_at s n ≡ Some pair
    → pair.client.out ≡ Some (AskOut request number q fresh parts) → query_at pair.client number ≡ Some (record { query = q; answered = false })
out-is-numbered s n pair request number q fresh parts h is out =
    let tidy : IsTidyWith s.database.schema pair.client (Some (AskOut request number q fresh parts)) =
    subst (IsTidyWith s.database.schema pair.client) out (stands-tidy s.database pair (at s n pair h is)) in
    let i = length tidy.0.1.earlier in
    let e : number ≡ suc i = omega (arith, tidy.0.1.query_is ∙ (ap length tidy.0.1.newest ∙ length-append tidy.0.1.earlier (record { query = q; answered = false } ∷ []))) in
    ap (query_at pair.client) e ∙ (ap (λ all. slice_get all i) tidy.0.1.newest ∙ get-last tidy.0.1.earlier (record { query = q; answered = false }))

right-ask : (last : Scene) (script : IsScripted last) (front : List (ℕ × TraceLine)) (number n request : ℕ) (fresh : Bool) (count : ℕ) (behind : List (ℕ × TraceLine))
    → (step : IsStep script.eager (start_of last script) last script.events number front) → (t : IsTold step.there step.next number (line.Ask n request fresh count) behind)
    → HeadsAsk t.event t.report (line.Ask n request fresh count) t.own → IsRightAskLine last script front number n request fresh count behind
right-ask last script front number n request fresh count behind step t h =
    let line_is : line.Ask (client_of t.event) h.request h.fresh (length h.parts) ≡ line.Ask n request fresh count = h.line_is in
    let of_n : client_of t.event ≡ n = cc in
    let of_request : h.request ≡ request = cc in
    let of_fresh : h.fresh ≡ fresh = cc in
    let of_count : length h.parts ≡ count = cc in
    let told : t.report ≡ Did (AskSent h.drops request fresh h.parts) =
    h.report_is ∙ (ap (λ r. Did (AskSent h.drops r h.fresh h.parts)) of_request ∙ ap (λ f. Did (AskSent h.drops request f h.parts)) of_fresh) in
    let m = same-report step.there step.next t.event t.report (Did (AskSent h.drops request fresh h.parts)) told t.moment in
    let wide = wider (start_of last script) step.there step.next last t.event (Did (AskSent h.drops request fresh h.parts))
    (runs-lead script.eager (start_of last script) step.earlier step.lines step.there step.runs) (runs-lead script.eager step.next step.later step.rest last step.ends) m in
    let reached = moment-reached last script t.event (Did (AskSent h.drops request fresh h.parts)) wide in
    let u = an-ask-asks-the-uncovered m.before m.after t.event h.drops request fresh h.parts reached m.happens in
    let stands = events-keep m.before m.after t.event (Did (AskSent h.drops request fresh h.parts)) (reached-stands m.before reached) m.happens in
    let on = stays m.after wide.follows.0 wide.follows.1 last (client_of t.event) u.number 0 u.query false u.after stands wide.follows.2 u.after_is
    (out-is-numbered m.after (client_of t.event) u.after request u.number u.query fresh h.parts stands u.after_is u.out) (omega arith) in
    record {
      step = step;
      event = t.event;
      drops = h.drops;
      parts = h.parts;
      moment = m;
      of_client = of_n;
      uncovered = u;
      asked = queries-are-asked last script n u.number u.query
          (record { pair = on.pair; done = on.done; pair_is = ap (pair_at last) (sym of_n) ∙ on.pair_is; query_is = on.query_is });
      count_is = sym of_count;
      rest = numbered number h.more ++ t.rest;
      behind_is = behind-block number (map part_line h.parts) h.more t.own behind t.rest h.own_is t.behind_is;
    }

pub ask-lines-are-right : AskLinesAreRight
ask-lines-are-right last script front number n request fresh count behind there = go told.1
  where
    start : Scene
    start = start_of last script

    told : (step : IsStep script.eager start last script.events number front)
        × (IsTold step.there step.next number (line.Ask n request fresh count) behind ⊎ (IsExplained step.there step.next number (line.Ask n request fresh count) behind ⊎ IsTrue false))
    told = lines-are-told script.eager start last script.events script.lines script.runs front number (line.Ask n request fresh count) behind there

    by : (t : IsTold told.0.there told.0.next number (line.Ask n request fresh count) behind)
        → HeadsAnswer t.event t.report (line.Ask n request fresh count) t.own ⊎ HeadsAsk t.event t.report (line.Ask n request fresh count) t.own
        → IsRightAskLine last script front number n request fresh count behind
    by t (inl h) = absurd (let wrong : line.Answer (client_of t.event) h.query h.version (length h.rows) ≡ line.Ask n request fresh count = h.line_is in cc)
    by t (inr h) = right-ask last script front number n request fresh count behind told.0 t h

    go : IsTold told.0.there told.0.next number (line.Ask n request fresh count) behind ⊎ (IsExplained told.0.there told.0.next number (line.Ask n request fresh count) behind ⊎ IsTrue false)
        → IsRightAskLine last script front number n request fresh count behind
    go (inl t) = by t (heads t.event t.report (blocks t.moment.before t.moment.after t.event t.report t.moment.happens) t.front (line.Ask n request fresh count) t.own refl t.lines)
    go (inr (inl h)) = absurd (no-head h.there h.client h.text h.front (line.Ask n request fresh count) h.own refl h.explains)
    go (inr (inr wrong)) = absurd (cc)
