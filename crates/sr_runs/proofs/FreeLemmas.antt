-- A client with no request out asks nothing at any delivery.
use Rattle.std.proofs.Common.{◌≡◌, ℕ, ◌+◌, Bool, true, false, List, [], ◌∷◌, ◌++◌, length, refl, sym, ◌∙◌, ap, subst, arith, Some, None, inl, inr}
use Rattle.std.specs.Prelude.{◌==◌, ◌⊎◌}
use Rattle.std.proofs.lemmas.Bool.Decides.{nat_tests}
use Rattle.sr_message.specs.declared.message.AskPart.{AskPart}
use Rattle.sr_message.specs.declared.message.Message.{Message}
use Rattle.sr_history.specs.declared.mark.Mark.{Mark}
use Rattle.sr_script.specs.declared.line.TraceLine.{TraceLine}
use Rattle.sr_script.specs.declared.line.TraceLine.TheVariants as line
use Rattle.sr_session.specs.Walks.{AskOut, ResumeOut, WriteOut}
use Rattle.sr_session.specs.Clients.{Client, Pair}
use Rattle.sr_session.specs.Rules.{AskSent, Basis, Outcome, TakeStep, answers, applies, asks_once_more, forgets, is_welcomed, lays, refused_write, written}
use Rattle.sr_session.specs.Scenes.{Did, Event, Happens, Report, Scene, Taken, ToClient, ToServer, acted, basis_of, client_idle, client_of, client_took, cut, evicted, executed, given, not_executed, pair_at, push_closed, pushed, queried, resumed, server_idle, server_took, taken, with_pair, wrote}
use Rattle.sr_session.proofs.EventLemmas.{other-stays, same-pairs}
use Rattle.sr_session.proofs.ReachLemmas.{at-set}
use Rattle.sr_runs.specs.Lines.{lines_of}
use Rattle.sr_lines.specs.Events.{DoToClient, DoToServer, ScriptEvent}
use Rattle.sr_runs.specs.Scripts.{Is, is_cut, is_evict, is_exec, is_push, is_query, is_resume, is_to_client, is_to_server, is_write_of}
use Rattle.sr_runs.specs.Runs.{Acts, AllSettle, Settles, acts, delivers, explains, is_quiet, next_of, no_client, one_more, too_long}
use Rattle.sr_runs.proofs.Splits.{Side, in_left, in_right, none-there, split}
use Rattle.sr_runs.proofs.BlockLemmas.{Blocks, HeadsAnswer, HeadsAsk, blocks, heads}

-- the client has no request out
abbrev pub IsFree : Scene → ℕ → Type 0
IsFree s n = (pair : Pair) × (pair_at s n ≡ Some pair) × (pair.client.out ≡ None)

-- no line is that of an ask of client n
abbrev pub AsksNot : ℕ → List TraceLine → Type 0
AsksNot n lines = (front : List TraceLine) (request : ℕ) (fresh : Bool) (count : ℕ) (behind : List TraceLine) → lines ≡ front ++ line.Ask n request fresh count ∷ behind → ⊥

pub none-asked : (n : ℕ) → AsksNot n []
none-asked n front request fresh count behind is = none-there front (line.Ask n request fresh count) behind is

pub not-joined : (n : ℕ) (xs ys : List TraceLine) → AsksNot n xs → AsksNot n ys → AsksNot n (xs ++ ys)
not-joined n xs ys one two front request fresh count behind is = go (split xs ys front (line.Ask n request fresh count) behind is)
  where
    go : Side xs ys front (line.Ask n request fresh count) behind → ⊥
    go (in_left mid e f) = one front request fresh count mid e
    go (in_right mid e f) = two mid request fresh count behind f

-- what is reported is no ask of client n
abbrev pub IsNoAsk : ℕ → Event → Report → Type 0
IsNoAsk n event report = (drops : List Mark) (request : ℕ) (fresh : Bool) (parts : List AskPart) → client_of event ≡ n → report ≡ Did (AskSent drops request fresh parts) → ⊥

pub asks-not : (n : ℕ) (event : Event) (report : Report) → Blocks event report → IsNoAsk n event report → AsksNot n (lines_of event report)
asks-not n event report made none front request fresh count behind is = go (heads event report made front (line.Ask n request fresh count) behind refl is)
  where
    go : HeadsAnswer event report (line.Ask n request fresh count) behind ⊎ HeadsAsk event report (line.Ask n request fresh count) behind → ⊥
    go (inl h) = absurd (let wrong : line.Answer (client_of event) h.query h.version (length h.rows) ≡ line.Ask n request fresh count = h.line_is in cc)
    go (inr h) =
        let same : line.Ask (client_of event) h.request h.fresh (length h.parts) ≡ line.Ask n request fresh count = h.line_is in
        let of_n : client_of event ≡ n = cc in
        none h.drops h.request h.fresh h.parts of_n h.report_is

-- ---- one message

abbrev FreeStep : Outcome → Client → Type 0
FreeStep o new = (new.out ≡ None) × ((drops : List Mark) (request : ℕ) (fresh : Bool) (parts : List AskPart) → o ≡ AskSent drops request fresh parts → ⊥)

free-step : (b : Basis) (c : Client) (m : Message) (o : Outcome) (new : Client) → TakeStep b c m o new → c.out ≡ None → FreeStep o new
free-step b c m o new (lays request x out laid own) free = absurd (let wrong : Some request ≡ None = sym out ∙ free in cc)
free-step b c m o new (applies w told drops out later met) free = (free, λ ds request fresh parts is. absurd (cc))
free-step b c m o new (forgets w drops out later all) free = (free, λ ds request fresh parts is. absurd (cc))
free-step b c m o new (answers number query q fresh parts w rows marks after out whole later are step) free =
    absurd (let wrong : Some (AskOut number query q fresh parts) ≡ None = sym out ∙ free in cc)
free-step b c m o new (asks_once_more number query q fresh parts w drops whole out again later all asks few) free =
    absurd (let wrong : Some (AskOut number query q fresh parts) ≡ None = sym out ∙ free in cc)
free-step b c m o new (written number w drops out later d) free = absurd (let wrong : Some (WriteOut number) ≡ None = sym out ∙ free in cc)
free-step b c m o new (refused_write number fault drops out later d) free = absurd (let wrong : Some (WriteOut number) ≡ None = sym out ∙ free in cc)
free-step b c m o new (is_welcomed number w keeps drops out later d) free = absurd (let wrong : Some (ResumeOut number) ≡ None = sym out ∙ free in cc)

-- ---- one delivery

abbrev IsDelivery : Event → Type 0
IsDelivery (ToServer m result) = Unit {0}
IsDelivery (ToClient m) = Unit {0}
IsDelivery other = ⊥

module _ (n : ℕ) where
  own-free : (s : Scene) (m : ℕ) (own : Pair) → n ≡ m → pair_at s m ≡ Some own → IsFree s n → own.client.out ≡ None
  own-free s m own here there free =
      let both : Some free.0 ≡ Some own = sym free.1 ∙ (ap (pair_at s) here ∙ there) in
      let one : free.0 ≡ own = cc in
      subst (λ pair. pair.client.out ≡ None) one free.2

  put-free : (s : Scene) (m : ℕ) (own new : Pair) → pair_at s m ≡ Some own → (own.client.out ≡ None → new.client.out ≡ None) → IsFree s n → IsFree (with_pair s m new) n
  put-free s m own new there keeps free = go (n == m) refl
    where
      go : (b : Bool) → (n == m) ≡ b → IsFree (with_pair s m new) n
      go true e =
          let here : n ≡ m = grind (arith, nat_tests, e) in
          (new, ap (pair_at (with_pair s m new)) here ∙ at-set s m own new there, keeps (own-free s m own here there free))
      go false e = (free.0, other-stays s m new n (λ here. absurd (grind (arith, nat_tests, e, here))) ∙ free.1, free.2)

  free-on : (s new : Scene) (event : Event) (report : Report) → Happens s event report new → IsDelivery event → IsFree s n → IsFree new n × IsNoAsk n event report
  free-on s new event report (executed tables) is free = absurd is
  free-on s new event report (not_executed fault) is free = absurd is
  free-on s new event report (queried m text own o c there step) is free = absurd is
  free-on s new event report (wrote m sql own o c there step) is free = absurd is
  free-on s new event report (evicted m place own o c there step) is free = absurd is
  free-on s new event report (cut m own o c there step) is free = absurd is
  free-on s new event report (resumed m own o c there step) is free = absurd is
  free-on s new event report (pushed m own session there opened) is free = absurd is
  free-on s new event report (push_closed m own there closed) is free = absurd is
  free-on s new event report (server_idle m result own there empty) is free = (free, λ ds request fresh parts here wrong. absurd (cc))
  free-on s new event report (server_took m result own x queue there first) is free =
      let t : Taken = taken s.database own.connection.session x result in
      let grown : Scene = record s { database = t.database } in
      (put-free grown m own (given own queue t.served) (same-pairs s grown m refl ∙ there) (λ out. out) (free.0, same-pairs s grown n refl ∙ free.1, free.2), λ ds request fresh parts here wrong. absurd (cc))
  free-on s new event report (client_idle m own there empty) is free = (free, λ ds request fresh parts here wrong. absurd (cc))
  free-on s new event report (client_took m own x queue o c there first step) is free = (
    put-free s m own (acted c (record own.connection { to_client = queue }) o) there (λ out. (free-step (basis_of s) own.client x o c step out).0) free,
    λ ds request fresh parts here asked. (free-step (basis_of s) own.client x o c step (own-free s m own (sym here) there free)).1 ds request fresh parts (same-outcome o (AskSent ds request fresh parts) asked),
  )
    where
      same-outcome : (a b : Outcome) → Did a ≡ Did b → a ≡ b
      same-outcome a b is = cc

  -- ---- deliveries of scripts

  abbrev Delivers : ScriptEvent → Type 0
  Delivers (DoToServer m) = Unit {0}
  Delivers (DoToClient m) = Unit {0}
  Delivers other = ⊥

  next-delivers : (k : ℕ) (to_server to_client : List Message) (what : ScriptEvent) → next_of k to_server to_client ≡ Some what → Delivers what
  next-delivers k [] [] what is = absurd (cc)
  next-delivers k [] (m ∷ to_client) what is = let same : DoToClient k ≡ what = cc in subst Delivers same tt
  next-delivers k (m ∷ to_server) to_client what is = let same : DoToServer k ≡ what = cc in subst Delivers same tt

  is-delivery : (s : Scene) (what : ScriptEvent) (event : Event) → Is s what event → Delivers what → IsDelivery event
  is-delivery s what event (is_exec statement) d = absurd d
  is-delivery s what event (is_query m query) d = absurd d
  is-delivery s what event (is_write_of m sql short) d = absurd d
  is-delivery s what event (is_push m) d = absurd d
  is-delivery s what event (is_to_server m pair result there gives) d = tt
  is-delivery s what event (is_to_client m) d = tt
  is-delivery s what event (is_evict m place) d = absurd d
  is-delivery s what event (is_cut m) d = absurd d
  is-delivery s what event (is_resume m) d = absurd d

  abbrev Frees : Scene → List TraceLine → Type 0
  Frees new lines = IsFree new n × AsksNot n lines

  acts-free : (s new : Scene) (what : ScriptEvent) (lines : List TraceLine) → Acts s what lines new → Delivers what → IsFree s n → Frees new lines
  acts-free s new what lines (acts a event report b is happens) d free =
      let on = free-on s new event report happens (is-delivery s what event is d) free in
      (on.0, asks-not n event report (blocks s new event report happens) on.1)
  acts-free s new what lines (too_long m sql pair is long) d free = absurd d
  acts-free s new what lines (explains m text ls is) d free = absurd d

  settles-free : (k : ℕ) (s : Scene) (frames : ℕ) (lines : List TraceLine) (new : Scene) → Settles k s frames lines new → IsFree s n → Frees new lines
  settles-free k s frames lines new (is_quiet a pair is quiet) free = (free, none-asked n)
  settles-free k s frames lines new (delivers a pair what first mid left rest last is next act others) free =
      let one = acts-free s mid what first act (next-delivers k pair.connection.to_server pair.connection.to_client what next) free in
      let two = settles-free k mid left rest new others one.0 in
      (two.0, not-joined n first rest one.1 two.1)

  pub all-settle-free : (k clients : ℕ) (s : Scene) (lines : List TraceLine) (new : Scene) → AllSettle k clients s lines new → IsFree s n → Frees new lines
  all-settle-free k clients s lines new (no_client a b) free = (free, none-asked n)
  all-settle-free k clients s lines new (one_more a left b frames first mid rest last one others) free =
      let settled = settles-free k s frames first mid one free in
      let two = all-settle-free (k + 1) left mid rest new others settled.0 in
      (two.0, not-joined n first rest settled.1 two.1)
