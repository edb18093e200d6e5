-- Few messages wait for a client: no more than a server answers one frame with.
use Rattle.std.proofs.Common.{◌≡◌, ℕ, ◌+◌, ◌≤◌, true, List, [], ◌∷◌, ◌++◌, length, refl, sym, ◌∙◌, ap, subst, arith, inl, inr, Option, Some, None, append-nil, length-append}
use Rattle.std.specs.Prelude.{◌≢◌, ◌⊎◌, Result}
use Rattle.sr_cell.specs.declared.fault.Fault.{Fault}
use Rattle.sr_history.specs.declared.mark.Mark.{Mark}
use Rattle.sr_message.specs.declared.message.Message.{Message}
use Rattle.sr_model.specs.Queries.{Query}
use Rattle.sr_model.specs.Statements.{Tables}
use Rattle.sr_session.specs.Clients.{Client, Connection, Flows, Stands, is_down, is_idle, is_open, is_resuming, is_sent, is_served}
use Rattle.sr_session.specs.Rules.{Answering, AnswerStep, renewed, given_up, Basis, Before, as_it_is, emptied, Outcome, sends, sent_of, QueryStep, query_refused, query_busy, query_answered, query_down, query_asks, TakeStep, lays, applies, forgets, answers, asks_once_more, written, refused_write, is_welcomed, EvictStep, evict_busy, evicts_none, evicts, WriteStep, write_busy, write_down, write_sends, cuts, already_up, resumes}
use Rattle.sr_session.specs.Scenes.{taken}
use Rattle.sr_session.specs.Sessions.{Database}
use Rattle.sr_session.specs.Walks.{Request, IsLaid}
use Rattle.sr_links.specs.Steps.{Deed, Queried, Wrote, Evicted, Took, WasCut, Resumed, too_long, writes, Does}
use Rattle.sr_links.proofs.CountLemmas.{AreLaidFirst, IsShortAnswer, laid-tail, last-alone}
use Rattle.sr_links.proofs.PairLemmas.{pair, nothing, IsQuiet, is-down}

-- While a request is on its way nothing waits, nor where nothing is out; what waits, with what was laid by, is at most one answer; and only its
-- last message may end a request.
pub record IsFew (c : Client) (l : Connection) : Type 0 where
  pub waits : l.to_server ≢ [] → (c.laid ≡ []) × (l.to_client ≡ [])
  pub idle : c.out ≡ None → l.to_client ≡ []
  pub few : length c.laid + length l.to_client ≤ 501026
  pub ends : AreLaidFirst l.to_client

-- ---- what stands

-- where nothing is out nothing was laid by
none-laid : (db : Database) (c : Client) (l : Connection) → Stands db (pair c l) → c.out ≡ None → c.laid ≡ []
none-laid db c l (is_down h) out = h.laid
none-laid db c l (is_resuming h) out = h.laid
none-laid db c l (is_open session h) out = by c.out refl h.flows
  where
    by : (request : Option Request) → c.out ≡ request → Flows db c l session request → c.laid ≡ []
    by request is (is_idle empty none walks) = none
    by request is (is_sent asked o all f) = absurd (let wrong : Some asked ≡ None = sym is ∙ out in cc)
    by request is (is_served asked o all f) = absurd (let wrong : Some asked ≡ None = sym is ∙ out in cc)

-- one request at most is on its way
one-asked : (db : Database) (c : Client) (l : Connection) (m : Message) (queue : List Message) → Stands db (pair c l) → l.to_server ≡ m ∷ queue → queue ≡ []
one-asked db c l m queue (is_down h) first = absurd (let wrong : m ∷ queue ≡ [] = sym first ∙ h.to_server in cc)
one-asked db c l m queue (is_resuming h) first = let is : m ∷ queue ≡ h.message ∷ [] = sym first ∙ h.to_server in cc
one-asked db c l m queue (is_open session h) first = by c.out h.flows
  where
    by : (request : Option Request) → Flows db c l session request → queue ≡ []
    by request (is_idle empty none walks) = absurd (let wrong : m ∷ queue ≡ [] = sym first ∙ empty in cc)
    by request (is_sent asked o all f) = let is : m ∷ queue ≡ f.message ∷ [] = sym first ∙ f.to_server in cc
    by request (is_served asked o all f) = absurd (let wrong : m ∷ queue ≡ [] = sym first ∙ f.to_server in cc)

-- and it is out
asked-out : (db : Database) (c : Client) (l : Connection) (m : Message) (queue : List Message) → Stands db (pair c l) → l.to_server ≡ m ∷ queue → c.out ≡ None → ⊥
asked-out db c l m queue (is_down h) first out = absurd (let wrong : m ∷ queue ≡ [] = sym first ∙ h.to_server in cc)
asked-out db c l m queue (is_resuming h) first out = absurd (let wrong : Some _ ≡ None = sym h.out ∙ out in cc)
asked-out db c l m queue (is_open session h) first out = by c.out refl h.flows
  where
    by : (request : Option Request) → c.out ≡ request → Flows db c l session request → ⊥
    by request is (is_idle empty none walks) = absurd (let wrong : m ∷ queue ≡ [] = sym first ∙ empty in cc)
    by request is (is_sent asked o all f) = absurd (let wrong : Some asked ≡ None = sym is ∙ out in cc)
    by request is (is_served asked o all f) = absurd (let wrong : Some asked ≡ None = sym is ∙ out in cc)

-- ---- what takes no message and cuts nothing

-- Nothing is laid by with it, and it sends only where nothing is out.
record IsSoft (c : Client) (o : Outcome) (new : Client) : Type 0 where
  pub laid : (new.laid ≡ c.laid) ⊎ (new.laid ≡ [])
  pub out : new.out ≡ None → c.out ≡ None
  pub sends : (sent_of o ≡ []) ⊎ (c.out ≡ None)

same-soft : (c : Client) (o : Outcome) → sent_of o ≡ [] → IsSoft c o c
same-soft c o silent = record { laid = inl refl; out = λ none. none; sends = inl silent }

answer-lays : (b : Basis) (a : Answering) (c : Client) (marks : List Mark) (new : Client) → AnswerStep b a c marks new → new.laid ≡ []
answer-lays b a c marks new (renewed ms renews) = refl
answer-lays b a c marks new (given_up ms gives) = refl

pub answer-frees : (b : Basis) (a : Answering) (c : Client) (marks : List Mark) (new : Client) → AnswerStep b a c marks new → new.out ≡ None
answer-frees b a c marks new (renewed ms renews) = refl
answer-frees b a c marks new (given_up ms gives) = refl

before-lays : (b : Basis) (q : Query) (c : Client) (drops : List Mark) (old : Client) → Before b q c drops old → old.laid ≡ c.laid
before-lays b q c drops old as_it_is = refl
before-lays b q c drops old (emptied ds drop) = refl

soft-query : (b : Basis) (c : Client) (text : Result Query Fault) (o : Outcome) (new : Client) → QueryStep b c text o new → IsSoft c o new
soft-query b c text o new (query_refused fault) = same-soft c o refl
soft-query b c text o new (query_busy q request out) = same-soft c o refl
soft-query b c text o new (query_answered q rows marks after out asks are step) = record { laid = inr (answer-lays b _ c marks new step); out = λ none. out; sends = inl refl }
soft-query b c text o new (query_down q out down left) = same-soft c o refl
soft-query b c text o new (query_asks q drops old ask others fresh out before up asks few mode) =
    record { laid = inl (before-lays b q c drops old before); out = λ none. out; sends = inr out }

soft-evict : (b : Basis) (place : ℕ) (c : Client) (o : Outcome) (new : Client) → EvictStep b place c o new → IsSoft c o new
soft-evict b place c o new (evict_busy request out) = same-soft c o refl
soft-evict b place c o new (evicts_none classes out are few) = same-soft c o refl
soft-evict b place c o new (evicts classes chosen d out are at drop) = record { laid = inl refl; out = λ none. none; sends = inl refl }

soft-write : (sql : List ℕ) (c : Client) (o : Outcome) (new : Client) → WriteStep sql c o new → IsSoft c o new
soft-write sql c o new (write_busy request out) = same-soft c o refl
soft-write sql c o new (write_down out down) = same-soft c o refl
soft-write sql c o new (write_sends out up) = record { laid = inl refl; out = λ none. out; sends = inr out }

soft : (b : Basis) (deed : Deed) (c : Client) (o : Outcome) (new : Client) → (c.cut ≡ true → c.out ≡ None) → IsQuiet deed → Does b deed c o new → IsSoft c o new
soft b (Queried text) c o new rests quiet does = soft-query b c text o new does
soft b (Wrote sql) c o new rests quiet (too_long is) = same-soft c o refl
soft b (Wrote sql) c o new rests quiet (writes did after short does) = soft-write sql c o new does
soft b (Evicted place) c o new rests quiet does = soft-evict b place c o new does
soft b (Took m) c o new rests quiet does = absurd quiet
soft b WasCut c o new rests quiet does = absurd quiet
soft b Resumed c o new rests quiet (already_up up) = same-soft c o refl
soft b Resumed c o new rests quiet (resumes m down is) = record { laid = inl refl; out = λ none. rests down; sends = inr (rests down) }

module _ (db : Database) (c : Client) (l : Connection) (stands : Stands db (pair c l)) (few : IsFew c l) where
  pub quiet-few : (b : Basis) (deed : Deed) (o : Outcome) (new : Client) → IsQuiet deed → Does b deed c o new → IsFew new (sends l o)
  quiet-few b deed o new quiet does = by (soft b deed c o new (λ down. (is-down db c l down stands).out) quiet does)
    where
      none-more : IsSoft c o new → c.laid ≡ [] → new.laid ≡ []
      none-more s none = elim s.laid [
        | inl same ↦ same ∙ none
        | inr gone ↦ gone
      ]

      waiting : (s : IsSoft c o new) → (sent_of o ≡ []) ⊎ (c.out ≡ None) → l.to_server ++ sent_of o ≢ [] → (new.laid ≡ []) × (l.to_client ≡ [])
      waiting s (inl silent) some =
          let w = few.waits (λ none. some (ap (λ ms. l.to_server ++ ms) silent ∙ (append-nil l.to_server ∙ none))) in (none-more s w.0, w.1)
      waiting s (inr out) some = (none-more s (none-laid db c l stands out), few.idle out)

      count : (new.laid ≡ c.laid) ⊎ (new.laid ≡ []) → length new.laid + length l.to_client ≤ 501026
      count (inl same) = subst (λ ms. length ms + length l.to_client ≤ 501026) (sym same) few.few
      count (inr gone) = let most = few.few in subst (λ ms. length ms + length l.to_client ≤ 501026) (sym gone) (omega (arith, most))

      by : IsSoft c o new → IsFew new (sends l o)
      by s = record { waits = waiting s s.sends; idle = λ none. few.idle (s.out none); few = count s.laid; ends = few.ends }

  -- ---- a message is taken

  module _ (m : Message) (queue : List Message) (first : l.to_client ≡ m ∷ queue) (awaited : c.out ≡ None → ⊥) where
    here : length c.laid + length (m ∷ queue) ≤ 501026
    here = subst (λ ms. length c.laid + length ms ≤ 501026) first few.few

    -- it is one of at most so many
    pub one-of-few : length c.laid + 1 ≤ 501026
    one-of-few = let most = here in omega (arith, most)

    row : AreLaidFirst (m ∷ queue)
    row = subst AreLaidFirst first few.ends

    empty : l.to_server ≡ []
    empty = by l.to_server refl
      where
        by : (ms : List Message) → l.to_server ≡ ms → l.to_server ≡ []
        by [] is = is
        by (x ∷ ms) is =
            let w = few.waits (λ none. let wrong : x ∷ ms ≡ [] = sym is ∙ none in cc) in
            absurd (let wrong : m ∷ queue ≡ [] = sym first ∙ w.1 in cc)

    -- the last one of an answer: nothing waits behind it
    last-few : (o : Outcome) (new : Client) → (IsLaid m → ⊥) → new.laid ≡ [] → IsFew new (sends (record l { to_client = queue }) o)
    last-few o new ends gone =
        let none : queue ≡ [] = last-alone m queue row ends in
        let a : length new.laid ≡ 0 = ap length gone in
        let b : length queue ≡ 0 = ap length none in
        record { waits = λ some. (gone, none); idle = λ out. none; few = omega (arith, a, b); ends = subst AreLaidFirst (sym none) tt }

    pub take-few : (b : Basis) (o : Outcome) (new : Client) → TakeStep b c m o new → IsFew new (sends (record l { to_client = queue }) o)
    take-few b o new does = by m refl o new does
      where
        by : (x : Message) → m ≡ x → (o : Outcome) (new : Client) → TakeStep b c x o new → IsFew new (sends (record l { to_client = queue }) o)
        by x is o new (lays request y out laid for) =
            let most = here in
            record {
              waits = λ some. absurd (some (append-nil l.to_server ∙ empty));
              idle = λ none. absurd (awaited none);
              few = omega (arith, most, length-append c.laid (x ∷ []));
              ends = laid-tail m queue row;
            }
        by x is o new (applies version told drops out later meets) = absurd (awaited out)
        by x is o new (forgets version drops out later all) = absurd (awaited out)
        by x is o new (answers number query q fresh parts version rows marks after out whole later are step) = last-few o new (λ laid. subst IsLaid is laid) (answer-lays b _ c marks new step)
        by x is o new (asks_once_more number query q fresh parts version drops whole out again later all asks few) = last-few o new (λ laid. subst IsLaid is laid) refl
        by x is o new (written number version drops out later all) = last-few o new (λ laid. subst IsLaid is laid) refl
        by x is o new (refused_write number fault drops out later all) = last-few o new (λ laid. subst IsLaid is laid) refl
        by x is o new (is_welcomed number version kept drops out later all) = last-few o new (λ laid. subst IsLaid is laid) refl

  -- ---- the server takes a frame

  pub server-few : (m : Message) (queue : List Message) (result : Result Tables Fault) → l.to_server ≡ m ∷ queue → IsShortAnswer (taken db l.session m result).served.sent
      → IsFew c (record { to_server = queue; to_client = l.to_client ++ (taken db l.session m result).served.sent; session = (taken db l.session m result).served.session })
  server-few m queue result first short =
      let w = few.waits (λ none. let wrong : m ∷ queue ≡ [] = sym first ∙ none in cc) in
      let none : queue ≡ [] = one-asked db c l m queue stands first in
      let a : length c.laid ≡ 0 = ap length w.0 in
      let b : length l.to_client ≡ 0 = ap length w.1 in
      let most = short.few in
      record {
        waits = λ some. absurd (some none);
        idle = λ out. absurd (asked-out db c l m queue stands first out);
        few = omega (arith, a, b, most, length-append l.to_client (taken db l.session m result).served.sent);
        ends = subst (λ ms. AreLaidFirst (ms ++ (taken db l.session m result).served.sent)) (sym w.1) short.ends;
      }

-- at first nothing waits
pub first-few : (c : Client) (l : Connection) → c.laid ≡ [] → l.to_server ≡ [] → l.to_client ≡ [] → IsFew c l
first-few c l laid none empty =
    let a : length c.laid ≡ 0 = ap length laid in
    let b : length l.to_client ≡ 0 = ap length empty in
    record { waits = λ some. absurd (some none); idle = λ out. empty; few = omega (arith, a, b); ends = subst AreLaidFirst (sym empty) tt }
