-- Versions never fall, and queries keep their numbers.
use Rattle.std.proofs.Common.{◌≡◌, ℕ, zero, suc, ◌+◌, ◌-◌, ◌≤◌, Bool, true, false, List, [], ◌∷◌, ◌++◌, length, refl, sym, ◌∙◌, ap, subst, arith, Some, length-append}
use Rattle.std.specs.Prelude.{slice_get, slice_set, Result, ◌==◌}
use Rattle.std.proofs.lemmas.Bool.Decides.{nat_tests}
use Rattle.sr_cell.specs.declared.fault.Fault.{Fault}
use Rattle.sr_message.specs.declared.message.Message.{Message}
use Rattle.sr_model.specs.Queries.{Query}
use Rattle.sr_history.specs.declared.mark.Mark.{Mark}
use Rattle.sr_history.specs.Classes.{Numbered}
use Rattle.sr_session.specs.Sessions.{serve_push, with_version}
use Rattle.sr_session.specs.Walks.{AskOut}
use Rattle.sr_session.specs.Clients.{Client, Pair}
use Rattle.sr_session.specs.Rules.{Answered, Basis, Before, CutStep, EvictStep, Outcome, QueryStep, ResumeStep, TakeStep, WriteStep, already_cut, already_up, answering_now, answering_then, answers, applies, as_it_is, asks_once_more, cuts, emptied, evict_busy, evicts, evicts_none, forgets, is_welcomed, lays, query_answered, query_asks, query_busy, query_down, query_refused, refused_write, resumes, with_ask, write_busy, write_down, write_sends, written}
use Rattle.sr_session.specs.Tidy.{IsTidy, IsTidyWith}
use Rattle.sr_session.specs.Scenes.{Did, Event, Happens, Report, Scene, SceneStands, Taken, acted, basis_of, client_idle, client_of, client_took, cut, cut_off, evicted, executed, given, not_executed, pair_at, push_closed, pushed, queried, resumed, server_idle, server_took, taken, with_pair, wrote}
use Rattle.sr_session.specs.Headline.{AnswersNeverFall, QueriesKeepTheirNumbers, VersionsNeverFall, query_at}
use Rattle.sr_session.proofs.MarkLemmas.{kept}
use Rattle.sr_session.proofs.EventLemmas.{at, events-keep, get-set-other, other-stays, same-pairs}
use Rattle.sr_session.proofs.ReachLemmas.{at-set, get-first, get-last, get-set-same, reached-stands, stands-tidy}
use Rattle.sr_session.proofs.AnswerLemmas.{answers-are-right}
use Rattle.sr_session.proofs.ServeLemmas.{stands-version}

-- ---- a client later

-- its version is no earlier one, and its queries have their numbers
pub record IsLater (old new : Client) : Type 0 where
  pub version : old.version ≤ new.version
  pub numbers : (number : ℕ) (q : Numbered) → query_at old number ≡ Some q → (done : Bool) × (query_at new number ≡ Some (record { query = q.query; answered = done }))

same-queries : (old new : Client) → new.queries ≡ old.queries → (number : ℕ) (q : Numbered) → query_at old number ≡ Some q → (done : Bool) × (query_at new number ≡ Some (record { query = q.query; answered = done }))
same-queries old new same zero q is = absurd (cc)
same-queries old new same (suc i) q is = (q.answered, ap (λ qs. slice_get qs i) same ∙ is)

more-queries : (old new : Client) (x : Numbered) → new.queries ≡ old.queries ++ x ∷ [] → (number : ℕ) (q : Numbered) → query_at old number ≡ Some q → (done : Bool) × (query_at new number ≡ Some (record { query = q.query; answered = done }))
more-queries old new x more zero q is = absurd (cc)
more-queries old new x more (suc i) q is = (q.answered, ap (λ qs. slice_get qs i) more ∙ get-first old.queries (x ∷ []) i q is)

-- one of the queries is answered
answered-query : (old new : Client) (place : ℕ) (x y : Numbered) → new.queries ≡ slice_set old.queries place y → slice_get old.queries place ≡ Some x → x.query ≡ y.query
    → (number : ℕ) (q : Numbered) → query_at old number ≡ Some q → (done : Bool) × (query_at new number ≡ Some (record { query = q.query; answered = done }))
answered-query old new place x y set there same zero q is = absurd (cc)
answered-query old new place x y set there same (suc i) q is = go (i == place) refl
  where
    go : (b : Bool) → (i == place) ≡ b → (done : Bool) × (slice_get new.queries i ≡ Some (record { query = q.query; answered = done }))
    go true e =
        let here : i ≡ place = grind (arith, nat_tests, e) in
        let one : Some q ≡ Some x = sym is ∙ (ap (slice_get old.queries) here ∙ there) in
        let own : q ≡ x = cc in
        let meaning : y.query ≡ q.query = sym same ∙ ap (λ z. z.query) (sym own) in
        (y.answered, ap (λ qs. slice_get qs i) set ∙ (ap (slice_get (slice_set old.queries place y)) here ∙ (get-set-same old.queries place x y there ∙ ap (λ m. Some (record { query = m; answered = y.answered })) meaning)))
    go false e = (q.answered, ap (λ qs. slice_get qs i) set ∙ (get-set-other old.queries place i y (λ here. absurd (grind (arith, nat_tests, e, here))) ∙ is))

still : (c new : Client) → new.version ≡ c.version → new.queries ≡ c.queries → IsLater c new
still c new version queries = record { version = omega (arith, version); numbers = same-queries c new queries }

module _ (b : Basis) where
  query-later : (text : Result Query Fault) (c : Client) (o : Outcome) (new : Client) → QueryStep b c text o new → IsLater c new
  query-later text c o new (query_refused fault) = still c new refl refl
  query-later text c o new (query_busy q request out) = still c new refl refl
  query-later text c o new (query_answered q rows marks after out asks are step) =
      let k = kept b (answering_now c q) c marks after step in
      let version = ap (λ x. x.version) k.is in
      record { version = omega (arith, version); numbers = more-queries c after (record { query = q; answered = true }) (ap (λ x. x.queries) k.is) }
  query-later text c o new (query_down q out down left) = still c new refl refl
  query-later text c o new (query_asks q drops old ask others fresh out before up asks few mode) = by drops old before
    where
      by : (drops : List Mark) (old : Client) → Before b q c drops old → IsLater c (with_ask old q fresh (ask ∷ others))
      by drops old as_it_is = record { version = omega arith; numbers = more-queries c (with_ask c q fresh (ask ∷ others)) (record { query = q; answered = false }) refl }
      by drops old (emptied ds first) = record { version = omega arith; numbers = more-queries c (with_ask old q fresh (ask ∷ others)) (record { query = q; answered = false }) refl }

  take-later : (m : Message) (c : Client) (o : Outcome) (new : Client) → IsTidy b.schema c → TakeStep b c m o new → IsLater c new
  take-later m c o new tidy (lays request x out laid own) = still c new refl refl
  take-later m c o new tidy (applies w told drops out later met) = record { version = later; numbers = same-queries c new refl }
  take-later m c o new tidy (forgets w drops out later all) = record { version = later; numbers = same-queries c new refl }
  take-later m c o new tidy (answers number query q fresh parts w rows marks after out whole later are step) =
      let k = kept b (answering_then c query q parts w) c marks after step in
      let is : IsTidyWith b.schema c (Some (AskOut number query q fresh parts)) = subst (IsTidyWith b.schema c) out tidy in
      let i = length is.0.1.earlier in
      let e : query ≡ i + 1 = is.0.1.query_is ∙ (ap length is.0.1.newest ∙ length-append is.0.1.earlier (record { query = q; answered = false } ∷ [])) in
      let place : query - 1 ≡ i = omega (arith, e) in
      let there : slice_get c.queries (query - 1) ≡ Some (record { query = q; answered = false }) =
      ap (slice_get c.queries) place ∙ (ap (λ all. slice_get all i) is.0.1.newest ∙ get-last is.0.1.earlier (record { query = q; answered = false })) in
      let version = ap (λ x. x.version) k.is in
      record {
        version = omega (arith, version, later);
        numbers = answered-query c after (query - 1) (record { query = q; answered = false }) (record { query = q; answered = true }) (ap (λ x. x.queries) k.is) there refl;
      }
  take-later m c o new tidy (asks_once_more number query q fresh parts w drops whole out again later all asks few) = record { version = later; numbers = same-queries c new refl }
  take-later m c o new tidy (written number w drops out later d) = record { version = later; numbers = same-queries c new refl }
  take-later m c o new tidy (refused_write number fault drops out later d) = record { version = later; numbers = same-queries c new refl }
  take-later m c o new tidy (is_welcomed number w keeps drops out later d) = record { version = later; numbers = same-queries c new refl }

  evict-later : (place : ℕ) (c : Client) (o : Outcome) (new : Client) → EvictStep b place c o new → IsLater c new
  evict-later place c o new (evict_busy request out) = still c new refl refl
  evict-later place c o new (evicts_none classes out are few) = still c new refl refl
  evict-later place c o new (evicts classes chosen d out are at drop) = still c new refl refl

  write-later : (sql : List ℕ) (c : Client) (o : Outcome) (new : Client) → WriteStep sql c o new → IsLater c new
  write-later sql c o new (write_busy request out) = still c new refl refl
  write-later sql c o new (write_down out down) = still c new refl refl
  write-later sql c o new (write_sends out up) = still c new refl refl

  cut-later : (c : Client) (o : Outcome) (new : Client) → CutStep c o new → IsLater c new
  cut-later c o new (already_cut down) = still c new refl refl
  cut-later c o new (cuts up) = still c new refl refl

  resume-later : (c : Client) (o : Outcome) (new : Client) → ResumeStep b.schema c o new → IsLater c new
  resume-later c o new (already_up up) = still c new refl refl
  resume-later c o new (resumes m down is) = still c new refl refl

-- ---- every client

module _ (n : ℕ) (old after : Pair) where
  unmoved : (s new : Scene) → pair_at new n ≡ pair_at s n → pair_at s n ≡ Some old → pair_at new n ≡ Some after → IsLater old.client after.client
  unmoved s new same before is =
      let e : Some old ≡ Some after = sym before ∙ (sym same ∙ is) in
      let one : old ≡ after = cc in
      subst (λ pair. IsLater old.client pair.client) one (still old.client old.client refl refl)

  moved : (s : Scene) (m : ℕ) (own new : Pair) → pair_at s m ≡ Some own → IsLater own.client new.client
      → pair_at s n ≡ Some old → pair_at (with_pair s m new) n ≡ Some after → IsLater old.client after.client
  moved s m own new there later before is = go (n == m) refl
    where
      go : (b : Bool) → (n == m) ≡ b → IsLater old.client after.client
      go true e =
          let here : n ≡ m = grind (arith, nat_tests, e) in
          let first : Some own ≡ Some old = sym there ∙ (ap (pair_at s) (sym here) ∙ before) in
          let last : Some new ≡ Some after = sym (at-set s m own new there) ∙ (ap (pair_at (with_pair s m new)) (sym here) ∙ is) in
          let one : own ≡ old = cc in
          let two : new ≡ after = cc in
          subst (λ pair. IsLater pair.client after.client) one (subst (λ pair. IsLater own.client pair.client) two later)
      go false e = unmoved s (with_pair s m new) (other-stays s m new n (λ here. absurd (grind (arith, nat_tests, e, here)))) before is

  pub is-later : (s new : Scene) (event : Event) (report : Report) → SceneStands s → Happens s event report new → pair_at s n ≡ Some old → pair_at new n ≡ Some after → IsLater old.client after.client
  is-later s new event report h (executed tables) before is = unmoved s (record s { database = with_version s.database tables }) (same-pairs s (record s { database = with_version s.database tables }) n refl) before is
  is-later s new event report h (not_executed fault) before is = unmoved s s refl before is
  is-later s new event report h (queried m text own o c there step) before is = moved s m own (acted c own.connection o) there (query-later (basis_of s) text own.client o c step) before is
  is-later s new event report h (wrote m sql own o c there step) before is = moved s m own (acted c own.connection o) there (write-later (basis_of s) sql own.client o c step) before is
  is-later s new event report h (evicted m place own o c there step) before is = moved s m own (acted c own.connection o) there (evict-later (basis_of s) place own.client o c step) before is
  is-later s new event report h (cut m own o c there step) before is = moved s m own (cut_off c) there (cut-later (basis_of s) own.client o c step) before is
  is-later s new event report h (resumed m own o c there step) before is = moved s m own (acted c own.connection o) there (resume-later (basis_of s) own.client o c step) before is
  is-later s new event report h (pushed m own session there opened) before is =
      moved s m own (given own own.connection.to_server (serve_push s.database session)) there (still own.client own.client refl refl) before is
  is-later s new event report h (push_closed m own there closed) before is = unmoved s s refl before is
  is-later s new event report h (server_idle m result own there empty) before is = unmoved s s refl before is
  is-later s new event report h (server_took m result own x queue there first) before is =
      let t : Taken = taken s.database own.connection.session x result in
      let grown : Scene = record s { database = t.database } in
      let same : (k : ℕ) → pair_at grown k ≡ pair_at s k = λ k. same-pairs s grown k refl in
      moved grown m own (given own queue t.served) (same m ∙ there) (still own.client own.client refl refl) (same n ∙ before) is
  is-later s new event report h (client_idle m own there empty) before is = unmoved s s refl before is
  is-later s new event report h (client_took m own x queue o c there first step) before is =
      moved s m own (acted c (record own.connection { to_client = queue }) o) there (take-later (basis_of s) x own.client o c (stands-tidy s.database own (at s m own h there)) step) before is

pub versions-never-fall : VersionsNeverFall
versions-never-fall s new event report n old after reached happens before is =
    let h = reached-stands s reached in
    ((is-later n old after s new event report h happens before is).version, stands-version new.database after (at new n after (events-keep s new event report h happens) is))

pub queries-keep-their-numbers : QueriesKeepTheirNumbers
queries-keep-their-numbers s new event report n number old after q reached happens before is there =
    (is-later n old after s new event report (reached-stands s reached) happens before is).numbers number q there

pub answers-never-fall : AnswersNeverFall
answers-never-fall s new event number version rows marks old reached happens before =
    let right = answers-are-right s new event number version rows marks reached happens in
    let two = versions-never-fall s new event (Did (Answered number version rows marks)) (client_of event) old right.after reached happens before right.after_is in
    (omega (arith, two.0, right.version_is), omega (arith, two.1, right.version_is))
