-- How many numbers steps of a client draw.
use Rattle.std.proofs.Common.{◌≡◌, ℕ, ◌+◌, ◌≤◌, Bool, true, false, List, [], ◌∷◌, length, refl, sym, ◌∙◌, ap, arith, Option, Some, None, Result}
use Rattle.std.specs.Prelude.{if◌then◌else◌, not, ◌&&◌}
use Rattle.std.proofs.lemmas.List.{length-append, length-set}
use Rattle.sr_cell.specs.declared.fault.Fault.{Fault}
use Rattle.sr_message.specs.declared.message.Message.{Message}
use Rattle.sr_model.specs.Queries.{Query}
use Rattle.sr_history.specs.declared.mark.Mark.{Mark}
use Rattle.sr_session.specs.Sessions.{Database}
use Rattle.sr_session.specs.Walks.{Request, AskOut, WriteOut, ResumeOut, has_lapse}
use Rattle.sr_session.specs.Clients.{Client, Pair, Stands, Flows, is_down, is_idle, is_open, is_resuming, is_sent, is_served}
use Rattle.sr_session.specs.Rules.{Answering, AnswerStep, Basis, Before, CutStep, Outcome, QueryStep, ResumeStep, TakeStep, WriteStep, already_cut, already_up, answering_now, answering_then, answers, applies, as_it_is, asks_once_more, cuts, emptied, forgets, given_up, is_welcomed, lays, query_answered, query_asks, query_busy, query_down, query_refused, refused_write, renewed, resumes, sent_of, with_answered, with_query, write_busy, write_down, write_sends, written}
use Rattle.sr_client.specs.declared.client.Client as code
use Rattle.sr_client.specs.declared.client.Request as request
use Rattle.sr_client.specs.declared.client.Request.TheVariants.{Ask, Write, Resume}
use Rattle.sr_client.specs.Stands.{StandsOver, drawn, out_of, past_of}
use Rattle.sr_world.specs.Worlds.{rank}

-- the numbers that a past drew
abbrev pub past_drawn : Client → ℕ
past_drawn c = (length c.queries + c.next_request) + c.cuts

abbrev pub past_rank : Option Request → ℕ
past_rank None = 0
past_rank (Some (AskOut number query meaning fresh parts)) = if fresh then 0 else 2
past_rank (Some (WriteOut number)) = 0
past_rank (Some (ResumeOut number)) = 0

-- ---- a client's numbers are its past's

pub drawn-is : (db : Database) (past : Client) (c : code.Client) → StandsOver db past c → drawn c + c.cuts ≡ past_drawn past
drawn-is db past c stands =
    let h = stands.client.hidden in
    let count : length h.queries ≡ c.queries = stands.client.facts.queries in
    let there : past_drawn (past_of c h) ≡ past_drawn past = ap past_drawn (sym stands.client.same) in
    let own : drawn c + c.cuts ≡ past_drawn (past_of c h) = omega (arith, count) in
    own ∙ there

rank-out : (meaning : Query) (out : Option request.Request) → past_rank (out_of meaning out) ≡ rank out
rank-out meaning None = refl
rank-out meaning (Some (Ask o)) = refl
rank-out meaning (Some (Write number)) = refl
rank-out meaning (Some (Resume number)) = refl

pub rank-is : (db : Database) (past : Client) (c : code.Client) → StandsOver db past c → rank c.out ≡ past_rank past.out
rank-is db past c stands =
    let h = stands.client.hidden in
    sym (rank-out h.meaning c.out) ∙ ap (λ (p : Client). past_rank p.out) (sym stands.client.same)

-- ---- answers

pub answer-draws : (b : Basis) (a : Answering) (c : Client) (marks : List Mark) (new : Client) → AnswerStep b a c marks new → past_drawn new ≡ (length a.queries + c.next_request) + c.cuts
answer-draws b a c marks new (renewed m r) = refl
answer-draws b a c marks new (given_up m g) = refl

pub answer-out : (b : Basis) (a : Answering) (c : Client) (marks : List Mark) (new : Client) → AnswerStep b a c marks new → past_rank new.out ≡ 0
answer-out b a c marks new (renewed m r) = refl
answer-out b a c marks new (given_up m g) = refl

one-more : (q : Query) (done : Bool) (c : Client) → length (with_query q done c) ≡ length c.queries + 1
one-more q done c = length-append c.queries (record { query = q; answered = done } ∷ [])

-- ---- steps

before-draws : (b : Basis) (q : Query) (c : Client) (drops : List Mark) (old : Client) → Before b q c drops old → past_drawn old ≡ past_drawn c
before-draws b q c drops old as_it_is = refl
before-draws b q c drops old (emptied d first) = refl

pub query-draws : (b : Basis) (c : Client) (text : Result Query Fault) (o : Outcome) (new : Client) → QueryStep b c text o new → past_drawn new ≤ past_drawn c + 2
query-draws b c text o new (query_refused fault) = omega arith
query-draws b c text o new (query_busy q request out) = omega arith
query-draws b c text o new (query_answered q rows marks n out asks right step) =
    let drawn = answer-draws b (answering_now c q) c marks new step in
    omega (arith, drawn, one-more q true c)
query-draws b c text o new (query_down q out down left) = omega arith
query-draws b c text o new (query_asks q drops old ask others fresh out before cut asks few where_fresh) =
    omega (arith, before-draws b q c drops old before, one-more q false old)

pub write-draws : (sql : List ℕ) (c : Client) (o : Outcome) (new : Client) → WriteStep sql c o new → past_drawn new ≤ past_drawn c + 2
write-draws sql c o new (write_busy request out) = omega arith
write-draws sql c o new (write_down out cut) = omega arith
write-draws sql c o new (write_sends out cut) = omega arith

pub cut-draws : (c : Client) (o : Outcome) (new : Client) → CutStep c o new → past_drawn new ≤ past_drawn c + 2
cut-draws c o new (already_cut cut) = omega arith
cut-draws c o new (cuts cut) = omega arith

pub resume-draws : (b : Basis) (c : Client) (o : Outcome) (new : Client) → ResumeStep b.schema c o new → past_drawn new ≤ past_drawn c + 2
resume-draws b c o new (already_up up) = omega arith
resume-draws b c o new (resumes message cut is) = omega arith

-- ---- a message

-- what is given up was not fresh
not-fresh : (fresh lapse : Bool) → (not fresh && lapse) ≡ true → fresh ≡ false
not-fresh true lapse is = absurd (cc)
not-fresh false lapse is = refl

-- A message draws a number only for a second ask, which is fresh.
pub record TakesFew (c : Client) (o : Outcome) (new : Client) : Type 0 where
  pub all : past_drawn new + (length (sent_of o) + past_rank new.out) ≤ past_drawn c + past_rank c.out
  pub rank : past_rank new.out + length (sent_of o) ≤ past_rank c.out

pub take-draws : (b : Basis) (c : Client) (m : Message) (o : Outcome) (new : Client) → TakeStep b c m o new → TakesFew c o new
take-draws b c m o new (lays request x out laid for_it) = record { all = omega arith; rank = omega arith }
take-draws b c m o new (applies version told drops out later meets) = record { all = omega arith; rank = omega arith }
take-draws b c m o new (forgets version drops out later all) = record { all = omega arith; rank = omega arith }
take-draws b c m o new (answers number query q fresh parts version rows marks n out kept later right step) =
    let drawn = answer-draws b (answering_then c query q parts version) c marks new step in
    let none = answer-out b (answering_then c query q parts version) c marks new step in
    let same : length (with_answered query q c.queries) ≡ length c.queries = length-set c.queries _ _ in
    record { all = omega (arith, drawn, none, same); rank = omega (arith, none) }
take-draws b c m o new (asks_once_more number query q fresh parts version drops whole out given later all asks few) =
    let not_fresh : fresh ≡ false = not-fresh fresh (has_lapse c.laid) given in
    let two : past_rank c.out ≡ 2 = ap past_rank out ∙ ap (λ (f : Bool). past_rank (Some (AskOut number query q f parts))) not_fresh in
    record { all = omega (arith, two); rank = omega (arith, two) }
take-draws b c m o new (written number version drops out later does) = record { all = omega arith; rank = omega arith }
take-draws b c m o new (refused_write number fault drops out later does) = record { all = omega arith; rank = omega arith }
take-draws b c m o new (is_welcomed number version kept drops out later does) = record { all = omega arith; rank = omega arith }

-- ---- queues to the server

pub few-sent : (db : Database) (pair : Pair) → Stands db pair → length pair.connection.to_server ≤ 1
few-sent db pair (is_open session h) = by pair.client.out h.flows
  where
    by : (out : Option Request) → Flows db pair.client pair.connection session out → length pair.connection.to_server ≤ 1
    by out (is_idle empty none walks) = let e : length pair.connection.to_server ≡ 0 = ap length empty in omega (arith, e)
    by out (is_sent request o all f) = let e : length pair.connection.to_server ≡ 1 = ap length f.to_server in omega (arith, e)
    by out (is_served request o all f) = let e : length pair.connection.to_server ≡ 0 = ap length f.to_server in omega (arith, e)
few-sent db pair (is_down h) = let e : length pair.connection.to_server ≡ 0 = ap length h.to_server in omega (arith, e)
few-sent db pair (is_resuming h) = let e : length pair.connection.to_server ≡ 1 = ap length h.to_server in omega (arith, e)

pub low-rank : (out : Option request.Request) → rank out ≤ 2
low-rank None = omega arith
low-rank (Some (Ask o)) = by o.fresh
  where
    by : (fresh : Bool) → (if fresh then 0 else 2) ≤ 2
    by true = omega arith
    by false = omega arith
low-rank (Some (Write number)) = omega arith
low-rank (Some (Resume number)) = omega arith
