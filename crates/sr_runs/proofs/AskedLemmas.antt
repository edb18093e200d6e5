-- Each query of a client is one that the script asks of it.
use Rattle.std.proofs.Common.{◌≡◌, ℕ, zero, suc, ◌+◌, ◌<◌, ◌≤◌, Bool, true, false, List, [], ◌∷◌, ◌++◌, length, length-append, get_or, refl, sym, ◌∙◌, ap, subst, arith, Option, Some, None, inl, inr}
use Rattle.std.specs.Prelude.{slice_get, slice_set, replicate, ◌==◌, ◌⊎◌, Result, Ok}
use Rattle.std.proofs.lemmas.Bool.Decides.{nat_tests}
use Rattle.std.proofs.lemmas.List.Elements.{All-replicate}
use Rattle.std.proofs.lemmas.Option.{slice_get_cases, slice_get_within}
use Rattle.sr_cell.specs.declared.fault.Fault.{Fault}
use Rattle.sr_message.specs.declared.message.Message.{Message}
use Rattle.sr_model.specs.Queries.{Query}
use Rattle.sr_history.specs.declared.mark.Mark.{Mark}
use Rattle.sr_history.specs.Classes.{Numbered}
use Rattle.sr_script.specs.declared.line.TraceLine.{TraceLine}
use Rattle.sr_session.specs.Sessions.{serve_push}
use Rattle.sr_session.specs.Clients.{Client, Pair}
use Rattle.sr_session.specs.Rules.{Basis, Before, CutStep, EvictStep, Outcome, QueryStep, ResumeStep, TakeStep, WriteStep, already_cut, already_up, answering_now, answering_then, answers, applies, as_it_is, asks_once_more, cuts, emptied, evict_busy, evicts, evicts_none, forgets, is_welcomed, lays, query_answered, query_asks, query_busy, query_down, query_refused, refused_write, resumes, with_query, write_busy, write_down, write_sends, written}
use Rattle.sr_session.specs.Scenes.{Event, Happens, QueryOf, Report, Scene, SceneStands, Taken, acted, basis_of, client_idle, client_of, client_took, cut, cut_off, evicted, executed, first_scene, given, new_pair, not_executed, pair_at, push_closed, pushed, queried, resumed, server_idle, server_took, taken, with_pair, wrote}
use Rattle.sr_session.specs.Headline.{query_at}
use Rattle.sr_session.proofs.EventLemmas.{events-keep, first-stands, get-all, others-stay, same-pairs}
use Rattle.sr_session.proofs.GrowLemmas.{is-later}
use Rattle.sr_session.proofs.MarkLemmas.{kept}
use Rattle.sr_session.proofs.ReachLemmas.{at-set, get-last}
use Rattle.sr_lines.specs.Events.{DoQuery, DoToClient, DoToServer, ScriptEvent}
use Rattle.sr_runs.specs.Scripts.{Is, is_cut, is_evict, is_exec, is_push, is_query, is_resume, is_to_client, is_to_server, is_write_of}
use Rattle.sr_runs.specs.Runs.{Acts, AllSettle, Does, Runs, Settles, Steps, acts, alone, delivers, does, does_settle, eagerly, ends, explains, goes_on, is_quiet, next_of, no_client, one_more, too_long}
use Rattle.sr_runs.specs.Headline.{IsAsked, IsScripted}

-- ---- what a step adds to a client

-- It has as many queries as before; or one more, which is so.
abbrev Grown : Client → Client → (Query → Type 0) → Type 0
Grown old new P = (length new.queries ≡ length old.queries) ⊎ ((q : Query) × (done : Bool) × (new.queries ≡ old.queries ++ record { query = q; answered = done } ∷ []) × P q)

length-set : {X : Type 0} (xs : List X) (i : ℕ) (x : X) → length (slice_set xs i x) ≡ length xs
length-set {X} [] i x = refl
length-set {X} (y ∷ xs) zero x = refl
length-set {X} (y ∷ xs) (suc i) x = ap suc (length-set xs i x)

module _ (b : Basis) where
  query-grown : (n : ℕ) (text : Result Query Fault) (c : Client) (o : Outcome) (new : Client) → QueryStep b c text o new → Grown c new (λ q. QueryOf n text ≡ QueryOf n (Ok q))
  query-grown n text c o new (query_refused fault) = inl refl
  query-grown n text c o new (query_busy q request out) = inl refl
  query-grown n text c o new (query_answered q rows marks after out asks are step) =
      inr (q, true, ap (λ x. x.queries) (kept b (answering_now c q) c marks after step).is, refl)
  query-grown n text c o new (query_down q out down left) = inl refl
  query-grown n text c o new (query_asks q drops old ask others fresh out before up asks few mode) = inr (q, false, same drops old before, refl)
    where
      same : (drops : List Mark) (old : Client) → Before b q c drops old → with_query q false old ≡ with_query q false c
      same drops old as_it_is = refl
      same drops old (emptied ds first) = refl

  take-grown : (m : Message) (c : Client) (o : Outcome) (new : Client) → TakeStep b c m o new → length new.queries ≡ length c.queries
  take-grown m c o new (lays request x out laid own) = refl
  take-grown m c o new (applies w told drops out later met) = refl
  take-grown m c o new (forgets w drops out later all) = refl
  take-grown m c o new (answers number query q fresh parts w rows marks after out whole later are step) =
      ap (λ x. length x.queries) (kept b (answering_then c query q parts w) c marks after step).is ∙ length-set c.queries _ _
  take-grown m c o new (asks_once_more number query q fresh parts w drops whole out again later all asks few) = refl
  take-grown m c o new (written number w drops out later d) = refl
  take-grown m c o new (refused_write number fault drops out later d) = refl
  take-grown m c o new (is_welcomed number w keeps drops out later d) = refl

  evict-grown : (place : ℕ) (c : Client) (o : Outcome) (new : Client) → EvictStep b place c o new → length new.queries ≡ length c.queries
  evict-grown place c o new (evict_busy request out) = refl
  evict-grown place c o new (evicts_none classes out are few) = refl
  evict-grown place c o new (evicts classes chosen d out are at drop) = refl

  write-grown : (sql : List ℕ) (c : Client) (o : Outcome) (new : Client) → WriteStep sql c o new → length new.queries ≡ length c.queries
  write-grown sql c o new (write_busy request out) = refl
  write-grown sql c o new (write_down out down) = refl
  write-grown sql c o new (write_sends out up) = refl

  cut-grown : (c : Client) (o : Outcome) (new : Client) → CutStep c o new → length new.queries ≡ length c.queries
  cut-grown c o new (already_cut down) = refl
  cut-grown c o new (cuts up) = refl

  resume-grown : (c : Client) (o : Outcome) (new : Client) → ResumeStep b.schema c o new → length new.queries ≡ length c.queries
  resume-grown c o new (already_up up) = refl
  resume-grown c o new (resumes m down is) = refl

-- what an event adds to its own client
record Own (s : Scene) (event : Event) (after : Pair) : Type 0 where
  old : Pair
  old_is : pair_at s (client_of event) ≡ Some old
  grown : Grown old.client after.client (λ q. event ≡ QueryOf (client_of event) (Ok q))

by-set : (s grown : Scene) (event : Event) (own new after : Pair) → pair_at s (client_of event) ≡ Some own → pair_at grown (client_of event) ≡ pair_at s (client_of event)
    → pair_at (with_pair grown (client_of event) new) (client_of event) ≡ Some after → Grown own.client new.client (λ q. event ≡ QueryOf (client_of event) (Ok q)) → Own s event after
by-set s grown event own new after there same is h =
    let last : Some new ≡ Some after = sym (at-set grown (client_of event) own new (same ∙ there)) ∙ is in
    let one : new ≡ after = cc in
    record { old = own; old_is = there; grown = subst (λ (pair : Pair). Grown own.client pair.client (λ q. event ≡ QueryOf (client_of event) (Ok q))) one h }

by-none : (s : Scene) (event : Event) (after : Pair) → pair_at s (client_of event) ≡ Some after → Own s event after
by-none s event after is = record { old = after; old_is = is; grown = inl refl }

own : (s new : Scene) (event : Event) (report : Report) → Happens s event report new → (after : Pair) → pair_at new (client_of event) ≡ Some after → Own s event after
own s new event report (executed tables) after is = absurd (cc)
own s new event report (not_executed fault) after is = absurd (cc)
own s new event report (queried n text old o c there step) after is = by-set s s event old (acted c old.connection o) after there refl is (query-grown (basis_of s) n text old.client o c step)
own s new event report (wrote n sql old o c there step) after is = by-set s s event old (acted c old.connection o) after there refl is (inl (write-grown (basis_of s) sql old.client o c step))
own s new event report (evicted n place old o c there step) after is = by-set s s event old (acted c old.connection o) after there refl is (inl (evict-grown (basis_of s) place old.client o c step))
own s new event report (cut n old o c there step) after is = by-set s s event old (cut_off c) after there refl is (inl (cut-grown (basis_of s) old.client o c step))
own s new event report (resumed n old o c there step) after is = by-set s s event old (acted c old.connection o) after there refl is (inl (resume-grown (basis_of s) old.client o c step))
own s new event report (pushed n old session there opened) after is = by-set s s event old (given old old.connection.to_server (serve_push s.database session)) after there refl is (inl refl)
own s new event report (push_closed n old there closed) after is = by-none s event after is
own s new event report (server_idle n result old there empty) after is = by-none s event after is
own s new event report (server_took n result old m queue there first) after is =
    let t : Taken = taken s.database old.connection.session m result in
    by-set s (record s { database = t.database }) event old (given old queue t.served) after there (same-pairs s (record s { database = t.database }) n refl) is (inl refl)
own s new event report (client_idle n old there empty) after is = by-none s event after is
own s new event report (client_took n old m queue o c there first step) after is =
    by-set s s event old (acted c (record old.connection { to_client = queue }) o) after there refl is (inl (take-grown (basis_of s) m old.client o c step))

-- ---- what an event adds to any client

-- the client has this query under that number
pub record IsThere (s : Scene) (n number : ℕ) (q : Query) : Type 0 where
  pub pair : Pair
  pub done : Bool
  pub pair_is : pair_at s n ≡ Some pair
  pub query_is : query_at pair.client number ≡ Some (record { query = q; answered = done })

one-query : (q p : Query) (one two : Bool) → (let some : Option Numbered = Some (record { query = q; answered = one }) in some) ≡ Some (record { query = p; answered = two }) → q ≡ p
one-query q p one two is =
    let same : ◌≡◌ {A = Numbered} (record { query = q; answered = one }) (record { query = p; answered = two }) = cc in
    ap (λ (x : Numbered). x.query) same

-- each query that is there was there before, or is so
abbrev Adds : Scene → Scene → (ℕ → Query → Type 0) → Type 0
Adds s new P = (n number : ℕ) (q : Query) → IsThere new n number q → IsThere s n number q ⊎ P n q

event-adds : (s new : Scene) (event : Event) (report : Report) → SceneStands s → Happens s event report new → Adds s new (λ n q. event ≡ QueryOf n (Ok q))
event-adds s new event report h happens n number q there = by (n == client_of event) refl
  where
    -- a query under the number that is next
    added : (old : Pair) (i : ℕ) → n ≡ client_of event → length old.client.queries ≤ i → slice_get there.pair.client.queries i ≡ Some (record { query = q; answered = there.done })
        → Grown old.client there.pair.client (λ p. event ≡ QueryOf (client_of event) (Ok p)) → event ≡ QueryOf n (Ok q)
    added old i here past is (inl same) = absurd (let within = slice_get_within there.pair.client.queries i (record { query = q; answered = there.done }) is in omega (arith, within, same, past))
    added old i here past is (inr (p, done, are, event_is)) =
        let within = slice_get_within there.pair.client.queries i (record { query = q; answered = there.done }) is in
        let more : length there.pair.client.queries ≡ length old.client.queries + 1 = ap length are ∙ length-append old.client.queries (record { query = p; answered = done } ∷ []) in
        let last : i ≡ length old.client.queries = omega (arith, within, more, past) in
        let get : Some (record { query = q; answered = there.done }) ≡ Some (record { query = p; answered = done }) =
        sym is ∙ (ap (slice_get there.pair.client.queries) last ∙ (ap (λ qs. slice_get qs (length old.client.queries)) are ∙ get-last old.client.queries (record { query = p; answered = done }))) in
        let same : q ≡ p = one-query q p there.done done get in
        event_is ∙ (ap (λ k. QueryOf k (Ok p)) (sym here) ∙ ap (λ x. QueryOf n (Ok x)) (sym same))

    numbered : (number : ℕ) → query_at there.pair.client number ≡ Some (record { query = q; answered = there.done }) → n ≡ client_of event → Own s event there.pair
        → IsThere s n number q ⊎ (event ≡ QueryOf n (Ok q))
    numbered zero is here o = absurd (cc)
    numbered (suc i) is here o = cases (slice_get_cases o.old.client.queries i).1
      where
        cases : ((x : Numbered) × (i < length o.old.client.queries) × (slice_get o.old.client.queries i ≡ Some x) × (get_or o.old.client.queries i x ≡ x))
            ⊎ ((length o.old.client.queries ≤ i) × (slice_get o.old.client.queries i ≡ None)) → IsThere s n (suc i) q ⊎ (event ≡ QueryOf n (Ok q))
        cases (inl (x, within, get, or)) =
            let later = is-later n o.old there.pair s new event report h happens (ap (pair_at s) here ∙ o.old_is) there.pair_is in
            let on = later.numbers (suc i) x get in
            let get_new : Some (record { query = q; answered = there.done }) ≡ Some (record { query = x.query; answered = on.0 }) = sym is ∙ on.1 in
            let same : q ≡ x.query = one-query q x.query there.done on.0 get_new in
            inl (record {
              pair = o.old;
              done = x.answered;
              pair_is = ap (pair_at s) here ∙ o.old_is;
              query_is = get ∙ ap (λ p. Some (record { query = p; answered = x.answered })) (sym same);
            })
        cases (inr (past, none)) = inr (added o.old i here past is o.grown)

    by : (b : Bool) → (n == client_of event) ≡ b → IsThere s n number q ⊎ (event ≡ QueryOf n (Ok q))
    by true e =
        let here : n ≡ client_of event = grind (arith, nat_tests, e) in
        numbered number there.query_is here (own s new event report happens there.pair (ap (pair_at new) (sym here) ∙ there.pair_is))
    by false e = inl (record {
      pair = there.pair;
      done = there.done;
      pair_is = sym (others-stay s new event report happens n (λ here. absurd (grind (arith, nat_tests, e, here)))) ∙ there.pair_is;
      query_is = there.query_is;
    })

-- ---- steps of scripts

-- the scene stands, and each query there was there before, or is so
abbrev Goes : Scene → Scene → (ℕ → Query → Type 0) → Type 0
Goes s new P = SceneStands new × Adds s new P

weaker : (s new : Scene) (P R : ℕ → Query → Type 0) → ((n : ℕ) (q : Query) → P n q → R n q) → Adds s new P → Adds s new R
weaker s new P R so adds n number q there = by (adds n number q there)
  where
    by : IsThere s n number q ⊎ P n q → IsThere s n number q ⊎ R n q
    by (inl was) = inl was
    by (inr p) = inr (so n q p)

both : (s mid new : Scene) (P : ℕ → Query → Type 0) → Adds s mid P → Adds mid new P → Adds s new P
both s mid new P one two n number q there = by (two n number q there)
  where
    by : IsThere mid n number q ⊎ P n q → IsThere s n number q ⊎ P n q
    by (inl was) = one n number q was
    by (inr p) = inr p

-- the event of the script asks this query of that client
abbrev Says : ScriptEvent → ℕ → Query → Type 0
Says what n q = what ≡ DoQuery n (Ok q)

abbrev Nothing : ℕ → Query → Type 0
Nothing n q = ⊥

is-said : (s : Scene) (what : ScriptEvent) (event : Event) → Is s what event → (n : ℕ) (q : Query) → event ≡ QueryOf n (Ok q) → Says what n q
is-said s what event (is_exec statement) n q is = absurd (cc)
is-said s what event (is_query m query) n q is =
    let one : m ≡ n = cc in
    let two : query ≡ Ok q = cc in
    ap (λ k. DoQuery k query) one ∙ ap (DoQuery n) two
is-said s what event (is_write_of m sql short) n q is = absurd (cc)
is-said s what event (is_push m) n q is = absurd (cc)
is-said s what event (is_to_server m pair result there given) n q is = absurd (cc)
is-said s what event (is_to_client m) n q is = absurd (cc)
is-said s what event (is_evict m place) n q is = absurd (cc)
is-said s what event (is_cut m) n q is = absurd (cc)
is-said s what event (is_resume m) n q is = absurd (cc)

acts-go : (s new : Scene) (what : ScriptEvent) (lines : List TraceLine) → SceneStands s → Acts s what lines new → Goes s new (Says what)
acts-go s new what lines h (acts a event report b is happens) =
    (events-keep s new event report h happens, weaker s new (λ n q. event ≡ QueryOf n (Ok q)) (Says what) (is-said s what event is) (event-adds s new event report h happens))
acts-go s new what lines h (too_long n sql pair is long) = (h, λ n number q there. inl there)
acts-go s new what lines h (explains n text ls is) = (h, λ n number q there. inl there)

-- a delivery asks no query
delivers-none : (k : ℕ) (to_server to_client : List Message) (what : ScriptEvent) → next_of k to_server to_client ≡ Some what → (n : ℕ) (q : Query) → Says what n q → Nothing n q
delivers-none k [] [] what is n q same = absurd (cc)
delivers-none k [] (m ∷ to_client) what is n q same =
    let one : Some (DoToClient k) ≡ Some (DoQuery n (Ok q)) = is ∙ ap Some same in
    let wrong : DoToClient k ≡ DoQuery n (Ok q) = cc in
    absurd (cc)
delivers-none k (m ∷ to_server) to_client what is n q same =
    let one : Some (DoToServer k) ≡ Some (DoQuery n (Ok q)) = is ∙ ap Some same in
    let wrong : DoToServer k ≡ DoQuery n (Ok q) = cc in
    absurd (cc)

settles-go : (n : ℕ) (s : Scene) (frames : ℕ) (lines : List TraceLine) (new : Scene) → SceneStands s → Settles n s frames lines new → Goes s new Nothing
settles-go n s frames lines new h (is_quiet a pair is quiet) = (h, λ k number q there. inl there)
settles-go n s frames lines new h (delivers a pair what front mid left rest last is next act more) =
    let one = acts-go s mid what front h act in
    let others = settles-go n mid left rest new one.0 more in
    (others.0, both s mid new Nothing (weaker s mid (Says what) Nothing (delivers-none n pair.connection.to_server pair.connection.to_client what next) one.1) others.1)

all-settle-go : (n clients : ℕ) (s : Scene) (lines : List TraceLine) (new : Scene) → SceneStands s → AllSettle n clients s lines new → Goes s new Nothing
all-settle-go n clients s lines new h (no_client k a) = (h, λ m number q there. inl there)
all-settle-go n clients s lines new h (one_more k left a frames front mid rest last one others) =
    let first = settles-go n s frames front mid h one in
    let more = all-settle-go (n + 1) left mid rest new first.0 others in
    (more.0, both s mid new Nothing first.1 more.1)

says-nothing : (s new : Scene) (what : ScriptEvent) → Adds s new Nothing → Adds s new (Says what)
says-nothing s new what = weaker s new Nothing (Says what) (λ n q none. absurd none)

does-go : (s new : Scene) (what : ScriptEvent) (lines : List TraceLine) → SceneStands s → Does s what lines new → Goes s new (Says what)
does-go s new what lines h (does a b c act) = acts-go s new what lines h act
does-go s new what lines h (does_settle n frames front b settle) =
    let g = settles-go n s frames front new h settle in
    (g.0, says-nothing s new what g.1)

steps-go : (eager : Bool) (s new : Scene) (what : ScriptEvent) (lines : List TraceLine) → SceneStands s → Steps eager s what lines new → Goes s new (Says what)
steps-go eager s new what lines h (alone a b c d one) = does-go s new what lines h one
steps-go eager s new what lines h (eagerly a b front mid rest d one settle) =
    let first = does-go s mid what front h one in
    let more = all-settle-go 1 _ mid rest new first.0 settle in
    (more.0, both s mid new (Says what) first.1 (says-nothing mid new what more.1))

runs-add : (eager : Bool) (s : Scene) (events : List (ℕ × ScriptEvent)) (lines : List (ℕ × TraceLine)) (new : Scene) → SceneStands s → Runs eager s events lines new → Adds s new (IsAsked events)
runs-add eager s events lines new h (ends a) n number q there = inl there
runs-add eager s events lines new h (goes_on a at what front mid left rest last step more) n number q there =
    let first = steps-go eager s mid what front h step in
    both s mid new (IsAsked ((at, what) ∷ left))
    (weaker s mid (Says what) (IsAsked ((at, what) ∷ left)) (λ k p is. record { front = []; number = at; behind = left; events_are = ap (λ w. (at, w) ∷ left) is }) first.1)
    (weaker mid new (IsAsked left) (IsAsked ((at, what) ∷ left))
    (λ k p a. record { front = (at, what) ∷ a.front; number = a.number; behind = a.behind; events_are = ap (λ es. (at, what) ∷ es) a.events_are })
    (runs-add eager mid left rest new first.0 more))
    n number q there

-- ---- scripts

-- before anything happens there is no query
none-at-first : (last : Scene) (script : IsScripted last) (n number : ℕ) (q : Query) → IsThere (first_scene script.limits script.schema script.log_limit script.tables script.clients) n number q → ⊥
none-at-first last script zero number q there = absurd (let wrong : None ≡ Some there.pair = there.pair_is in cc)
none-at-first last script (suc i) number q there =
    let new : there.pair ≡ new_pair = get-all (λ pair. pair ≡ new_pair) (replicate script.clients new_pair) i there.pair (All-replicate (λ pair. pair ≡ new_pair) script.clients new_pair refl) there.pair_is in
    none number (ap (λ (pair : Pair). query_at pair.client number) (sym new) ∙ there.query_is)
  where
    none : (number : ℕ) → query_at new_pair.client number ≡ Some (record { query = q; answered = there.done }) → ⊥
    none zero is = absurd (cc)
    none (suc k) is = absurd (cc)

pub queries-are-asked : (last : Scene) (script : IsScripted last) (n number : ℕ) (q : Query) → IsThere last n number q → IsAsked script.events n q
queries-are-asked last script n number q there =
    by (runs-add script.eager (first_scene script.limits script.schema script.log_limit script.tables script.clients) script.events script.lines last
    (first-stands script.limits script.schema script.log_limit script.tables script.clients) script.runs n number q there)
  where
    by : IsThere (first_scene script.limits script.schema script.log_limit script.tables script.clients) n number q ⊎ IsAsked script.events n q → IsAsked script.events n q
    by (inl was) = absurd (none-at-first last script n number q was)
    by (inr asked) = asked
