-- The step of a covered query.
use Rattle.std.proofs.Common.{◌≡◌, ℕ, Bool, List, [], ◌∷◌, ◌++◌, refl, sym, ◌∙◌, ap, subst, Some, None}
use Rattle.std.specs.Prelude.{Result, Ok}
use Rattle.std.proofs.lemmas.List.{append-nil, append_assoc}
use Rattle.sr_cell.specs.declared.fault.Fault.{Fault}
use Rattle.sr_cell.specs.Cells.{Row}
use Rattle.sr_model.specs.Queries.{Query, rows_of}
use Rattle.sr_history.specs.declared.mark.Mark.{Mark}
use Rattle.sr_script.specs.declared.line.TraceLine.{TraceLine}
use Rattle.sr_script.specs.declared.line.TraceLine.TheVariants as line
use Rattle.sr_session.specs.Sessions.{tables_of}
use Rattle.sr_session.specs.Clients.{Client, Pair}
use Rattle.sr_session.specs.Rules.{Answered, AskSent, Basis, Outcome, QueryStep, answering_now, next_query, query_answered, query_asks, query_busy, query_down, query_refused}
use Rattle.sr_session.specs.Scenes.{Did, Event, Happens, QueryOf, Report, Scene, acted, basis_of, client_idle, client_took, cut, evicted, executed, not_executed, pair_at, push_closed, pushed, queried, resumed, server_idle, server_took, wrote}
use Rattle.sr_session.specs.Headline.{IsCovered}
use Rattle.sr_session.proofs.MarkLemmas.{kept}
use Rattle.sr_session.proofs.PointLemmas.{a-covered-query-is-answered}
use Rattle.sr_session.proofs.ReachLemmas.{at-set}
use Rattle.sr_runs.specs.Lines.{answer_lines, lines_of, mark_lines}
use Rattle.sr_lines.specs.Events.{DoQuery, ScriptEvent}
use Rattle.sr_runs.specs.Scripts.{Is, is_cut, is_evict, is_exec, is_push, is_query, is_resume, is_to_client, is_to_server, is_write_of}
use Rattle.sr_runs.specs.Runs.{Acts, Does, Steps, acts, alone, does, does_settle, eagerly, explains, too_long}
use Rattle.sr_runs.specs.Headline.{ACoveredQueryAsksNothing, IsAnsweredAtOnce}
use Rattle.sr_runs.proofs.BlockLemmas.{blocks}
use Rattle.sr_runs.proofs.FreeLemmas.{AsksNot, IsFree, all-settle-free, asks-not, none-asked, not-joined}

query-event : (s : Scene) (what : ScriptEvent) (event : Event) (n : ℕ) (q : Query) → Is s what event → what ≡ DoQuery n (Ok q) → event ≡ QueryOf n (Ok q)
query-event s what event n q (is_exec statement) is = absurd (cc)
query-event s what event n q (is_query m query) is =
    let here : m ≡ n = cc in
    let text : query ≡ Ok q = cc in
    ap (λ k. QueryOf k query) here ∙ ap (QueryOf n) text
query-event s what event n q (is_write_of m sql short) is = absurd (cc)
query-event s what event n q (is_push m) is = absurd (cc)
query-event s what event n q (is_to_server m pair result there gives) is = absurd (cc)
query-event s what event n q (is_to_client m) is = absurd (cc)
query-event s what event n q (is_evict m place) is = absurd (cc)
query-event s what event n q (is_cut m) is = absurd (cc)
query-event s what event n q (is_resume m) is = absurd (cc)

-- once a query is answered, no request is out
answered-free : (b : Basis) (c : Client) (text : Result Query Fault) (o : Outcome) (new : Client) → QueryStep b c text o new
    → (number version : ℕ) (rows : List Row) (marks : List Mark) → o ≡ Answered number version rows marks → new.out ≡ None
answered-free b c text o new (query_refused fault) number version rows marks is = absurd (cc)
answered-free b c text o new (query_busy q request out) number version rows marks is = absurd (cc)
answered-free b c text o new (query_answered q given made after out asks are step) number version rows marks is =
    ap (λ x. x.out) (kept b (answering_now c q) c made after step).is
answered-free b c text o new (query_down q out down left) number version rows marks is = absurd (cc)
answered-free b c text o new (query_asks q drops old ask others fresh out before up asks few mode) number version rows marks is = absurd (cc)

-- the event of a query has an outcome, and leaves its client free where it is answered
record IsQueried (s new : Scene) (n : ℕ) (report : Report) : Type 0 where
  outcome : Outcome
  report_is : report ≡ Did outcome
  free : (number version : ℕ) (rows : List Row) (marks : List Mark) → outcome ≡ Answered number version rows marks → IsFree new n

is-queried : (s new : Scene) (event : Event) (report : Report) (n : ℕ) (q : Query) → Happens s event report new → event ≡ QueryOf n (Ok q) → IsQueried s new n report
is-queried s new event report n q (executed tables) is = absurd (cc)
is-queried s new event report n q (not_executed fault) is = absurd (cc)
is-queried s new event report n q (queried m text own o c there step) is = record {
  outcome = o;
  report_is = refl;
  free = λ number version rows marks told. (
    acted c own.connection o,
    (let here : m ≡ n = cc in ap (pair_at new) (sym here) ∙ at-set s m own (acted c own.connection o) there),
    answered-free (basis_of s) own.client text o c step number version rows marks told,
  );
}
is-queried s new event report n q (wrote m sql own o c there step) is = absurd (cc)
is-queried s new event report n q (evicted m place own o c there step) is = absurd (cc)
is-queried s new event report n q (cut m own o c there step) is = absurd (cc)
is-queried s new event report n q (resumed m own o c there step) is = absurd (cc)
is-queried s new event report n q (pushed m own session there opened) is = absurd (cc)
is-queried s new event report n q (push_closed m own there closed) is = absurd (cc)
is-queried s new event report n q (server_idle m result own there empty) is = absurd (cc)
is-queried s new event report n q (server_took m result own x queue there first) is = absurd (cc)
is-queried s new event report n q (client_idle m own there empty) is = absurd (cc)
is-queried s new event report n q (client_took m own x queue o c there first step) is = absurd (cc)

module _ (s : Scene) (n : ℕ) (q : Query) (old : Pair) (is : pair_at s n ≡ Some old) (covered : IsCovered s.database.schema old.client.marks q) (out : old.client.out ≡ None) where
  abbrev number : ℕ
  number = next_query old.client

  abbrev rows : List Row
  rows = rows_of q (tables_of s.database old.client.version)

  abbrev block : List TraceLine
  block = answer_lines n number old.client.version rows

  -- the lines of the query itself
  record FirstBlock (new : Scene) (lines : List TraceLine) : Type 0 where
    marks : List Mark
    lines_are : lines ≡ block ++ (mark_lines n marks ++ line.QueryAnswered n number ∷ [])
    free : IsFree new n
    asks : AsksNot n lines

  event-block : (new : Scene) (report : Report) → Happens s (QueryOf n (Ok q)) report new → FirstBlock new (lines_of (QueryOf n (Ok q)) report)
  event-block new report happens =
      let had = is-queried s new (QueryOf n (Ok q)) report n q happens refl in
      let told : Happens s (QueryOf n (Ok q)) (Did had.outcome) new = subst (λ r. Happens s (QueryOf n (Ok q)) r new) had.report_is happens in
      let answer = a-covered-query-is-answered s new n q had.outcome old told is covered out in
      let report_is : report ≡ Did (Answered number old.client.version rows answer.0) = had.report_is ∙ ap Did answer.1 in
      record {
        marks = answer.0;
        lines_are = ap (lines_of (QueryOf n (Ok q))) report_is ∙ append_assoc block (mark_lines n answer.0) (line.QueryAnswered n number ∷ []);
        free = had.free number old.client.version rows answer.0 answer.1;
        asks = asks-not n (QueryOf n (Ok q)) report (blocks s new (QueryOf n (Ok q)) report happens)
            (λ drops request fresh parts here wrong. absurd (let both : Did (Answered number old.client.version rows answer.0) ≡ Did (AskSent drops request fresh parts) = sym report_is ∙ wrong in cc));
      }

  acts-block : (new : Scene) (what : ScriptEvent) (lines : List TraceLine) → what ≡ DoQuery n (Ok q) → Acts s what lines new → FirstBlock new lines
  acts-block new what lines same (acts a event report b being happens) =
      let told = query-event s what event n q being same in
      subst (λ e. FirstBlock new (lines_of e report)) (sym told) (event-block new report (subst (λ e. Happens s e report new) told happens))
  acts-block new what lines same (too_long m sql pair there long) = absurd (cc)
  acts-block new what lines same (explains m text ls there) = absurd (cc)

  does-block : (new : Scene) (what : ScriptEvent) (lines : List TraceLine) → what ≡ DoQuery n (Ok q) → Does s what lines new → FirstBlock new lines
  does-block new what lines same (does a b c act) = acts-block new what lines same act
  does-block new what lines same (does_settle m frames first b settle) = absurd (cc)

  answered-at-once : (lines front rest : List TraceLine) (new : Scene) → FirstBlock new front → lines ≡ front ++ rest → AsksNot n rest → IsAnsweredAtOnce s old n q lines
  answered-at-once lines front rest new h are none = record {
    marks = h.marks;
    rest = rest;
    lines_are =
        are ∙ (ap (λ ls. ls ++ rest) h.lines_are ∙ (append_assoc block (mark_lines n h.marks ++ line.QueryAnswered n number ∷ []) rest
        ∙ ap (λ ls. block ++ ls) (append_assoc (mark_lines n h.marks) (line.QueryAnswered n number ∷ []) rest)));
    asks_nothing = subst (AsksNot n) (sym are) (not-joined n front rest h.asks none);
  }

  step-block : (eager : Bool) (new : Scene) (what : ScriptEvent) (lines : List TraceLine) → what ≡ DoQuery n (Ok q) → Steps eager s what lines new → IsAnsweredAtOnce s old n q lines
  step-block eager new what lines same (alone a b c d one) = answered-at-once lines lines [] new (does-block new what lines same one) (sym (append-nil lines)) (none-asked n)
  step-block eager new what lines same (eagerly a b first mid rest d one settle) =
      let h = does-block mid what first same one in
      answered-at-once (first ++ rest) first rest mid h refl (all-settle-free n 1 _ mid rest new settle h.free).1

pub a-covered-query-asks-nothing : ACoveredQueryAsksNothing
a-covered-query-asks-nothing eager s new n q lines old step is covered out = step-block s n q old is covered out eager new (DoQuery n (Ok q)) lines refl step
