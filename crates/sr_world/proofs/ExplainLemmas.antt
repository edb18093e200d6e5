-- What a client explains is what the rules say of its past.
use Rattle.std.proofs.Common.{◌≡◌, ◌≤◌, List, length, refl, sym, ◌∙◌, ap, subst, arith, Result, Ok, Err}
use Rattle.std.specs.Prelude.{IfOk}
use Rattle.sr_script.specs.declared.line.TraceLine.{TraceLine}
use Rattle.sr_lines.specs.Events.{DoExplain}
use Rattle.sr_model.specs.Queries.{Query}
use Rattle.sr_policy.specs.declared.policy.Limits.{Limits}
use Rattle.sr_session.specs.Sessions.{tables_of}
use Rattle.sr_explain.specs.declared.explanation.Explanation.{Explanation}
use Rattle.sr_explain.specs.Explained as rules
use Rattle.sr_explain.specs.Explained.{count_in, explained}
use Rattle.sr_explain.specs.Telling.{explain_lines}
use Rattle.sr_client.specs.Explaining.{Explains}
use Rattle.sr_client.specs.Stands.{Stands}
use Rattle.sr_server.specs.declared.server.Server.{Server}
use Rattle.sr_runs.specs.Runs.{Acts, explains}
use Rattle.sr_world.specs.declared.seat.Seat.{Seat}
use Rattle.sr_world.specs.Seats.{IsSomeSeat, SeatGoes}
use Rattle.sr_world.proofs.ClientLemmas.{by-limits}
use Rattle.sr_world.proofs.SeatLemmas.{seat-stays}

pub some-stands : (seat : Seat) → (server : Server) × IsSomeSeat seat server → Stands seat.client
some-stands seat some = let client = some.1.2.seat.client.client in (client.hidden, client.facts)

-- no more than the format has room for
pub few-regions : (seat : Seat) → (server : Server) × IsSomeSeat seat server → length seat.client.store.regions ≤ 1024
few-regions seat some =
    let h = some.1.2.seat in
    let few = h.client.client.facts.few in
    let most = subst (λ (l : Limits). l.regions ≤ 1024) (sym h.limits) h.regions in
    omega (arith, few, most)

pub explain-goes : {E : Type 0} (seat : Seat) (server : Server) (meaning : Query) (e : Explanation) (r : Result (List TraceLine) E) → Explains seat.client meaning e
    → IfOk r (λ lines. lines ≡ explain_lines seat.client.id (Ok e)) → IfOk r (SeatGoes (λ n s. Acts s (DoExplain n (Ok meaning))) seat server seat server)
explain-goes {E} seat server meaning e (Err want) does told = tt
explain-goes {E} seat server meaning e (Ok lines) does told = λ s n h.
    let past = h.pair.client in
    let by_rules = by-limits (λ b. rules.Explains b (count_in (tables_of s.database past.version) past.marks past.queries) past meaning e) s n seat server h (does s.database past h.seat.client) in
    seat-stays s n server server seat (DoExplain n (Ok meaning)) lines h refl
    (explains n (Ok meaning) lines (h.pair, h.there, Ok e, explained meaning e by_rules, told ∙ ap (λ k. explain_lines k (Ok e)) h.seat.number))
