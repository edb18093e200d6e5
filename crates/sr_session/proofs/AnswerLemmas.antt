-- Answers are right, and asks ask the uncovered.
use Rattle.std.proofs.Common.{◌≡◌, ℕ, ◌+◌, ◌-◌, ◌≤◌, Bool, true, false, List, [], ◌∷◌, ◌++◌, length, refl, sym, ◌∙◌, ap, subst, arith, Some, None, length-append}
use Rattle.std.specs.Prelude.{slice_get, slice_set, Result, Ok}
use Rattle.sr_cell.specs.declared.fault.Fault.{Fault}
use Rattle.sr_cell.specs.Cells.{Row}
use Rattle.sr_message.specs.declared.message.AskPart.{AskPart}
use Rattle.sr_message.specs.declared.message.Message.{Message}
use Rattle.sr_message.specs.declared.message.Message.TheVariants.{Ask, Reply}
use Rattle.sr_message.specs.Sizes.{most_rects, count_asked}
use Rattle.sr_model.specs.Queries.{Query, rows_of}
use Rattle.sr_history.specs.declared.mark.Mark.{Mark}
use Rattle.sr_history.specs.Marks.{with_marks}
use Rattle.sr_history.specs.Rests.{Asks}
use Rattle.sr_history.specs.Classes.{Numbered}
use Rattle.sr_session.specs.Sessions.{Database, tables_of}
use Rattle.sr_session.specs.Walks.{AskOut}
use Rattle.sr_session.specs.Clients.{Client, Connection, Pair, Stands, is_down, is_open, is_resuming}
use Rattle.sr_session.specs.Rules.{Answered, AnswersWith, AskSent, Basis, Before, CutStep, EvictStep, Outcome, QueryStep, ResumeStep, TakeStep, WriteStep, already_cut, already_up, answering_now, answering_then, answers, applies, as_it_is, asks_once_more, cuts, emptied, evict_busy, evicts, evicts_none, forgets, is_welcomed, lays, next_query, query_answered, query_asks, query_busy, query_down, query_refused, refused_write, resumes, with_ask, write_busy, write_down, write_sends, written}
use Rattle.sr_session.specs.Tidy.{IsTidy, IsTidyWith}
use Rattle.sr_session.specs.Scenes.{CutOf, Did, Event, EvictOf, Happens, QueryOf, Report, ResumeOf, Scene, SceneStands, ToClient, WriteOf, acted, basis_of, client_idle, client_of, client_took, cut, cut_off, evicted, executed, not_executed, pair_at, push_closed, pushed, queried, resumed, server_idle, server_took, with_pair, wrote}
use Rattle.sr_session.specs.Headline.{AnAskAsksTheUncovered, AnswersAreRight, IsAbout, query_at}
use Rattle.sr_session.proofs.TakeLemmas.{served-queue}
use Rattle.sr_session.proofs.MarkLemmas.{kept}
use Rattle.sr_session.proofs.EventLemmas.{at}
use Rattle.sr_session.proofs.ReachLemmas.{at-set, get-last, get-set-same, idle-queue, query-at-plus, reached-stands, same-database, stands-tidy}

-- ---- what an outcome says of a client and its connection, before and after

pub record IsAnswer (b : Basis) (event : Event) (old new : Client) (number version : ℕ) (rows : List Row) : Type 0 where
  pub query : Query
  pub about : IsAbout event old number query
  pub answered : query_at new number ≡ Some (record { query = query; answered = true })
  pub rows_are : AnswersWith b version query rows
  pub version_is : version ≡ new.version

pub record IsAsk (b : Basis) (event : Event) (old new : Pair) (drops : List Mark) (request : ℕ) (fresh : Bool) (parts : List AskPart) : Type 0 where
  pub number : ℕ
  pub query : Query
  pub about : IsAbout event old.client number query
  pub out : new.client.out ≡ Some (AskOut request number query fresh parts)
  pub marks : new.client.marks ≡ with_marks old.client.marks drops
  pub asks : Asks b.schema (with_marks old.client.marks drops) query.parts parts
  pub few : count_asked parts ≤ most_rects
  pub sent : new.connection.to_server ≡ Ask request fresh parts ∷ []

abbrev pub Says : Basis → Event → Pair → Pair → Outcome → Type 0
Says b event old new (Answered number version rows marks) = IsAnswer b event old.client new.client number version rows
Says b event old new (AskSent drops request fresh parts) = IsAsk b event old new drops request fresh parts
Says b event old new other = Unit {0}

-- where the reply of the ask that is out comes, nothing is on its way to the server
abbrev pub IsServedAt : Client → Connection → Message → Type 0
IsServedAt c l m = (number query : ℕ) (q : Query) (fresh : Bool) (parts : List AskPart) (w : ℕ) → c.out ≡ Some (AskOut number query q fresh parts) → m ≡ Reply number w → l.to_server ≡ []

abbrev pub pair_of : Client → Connection → Pair
pair_of c l = record { client = c; connection = l }

module _ (b : Basis) (n : ℕ) where
  last-number : (c : Client) (qs : List Numbered) (x : Numbered) → c.queries ≡ qs ++ x ∷ [] → query_at c (length qs + 1) ≡ Some x
  last-number c qs x is = query-at-plus c (length qs) ∙ (ap (λ all. slice_get all (length qs)) is ∙ get-last qs x)

  query-says : (text : Result Query Fault) (c : Client) (l : Connection) (o : Outcome) (new : Client) → (c.out ≡ None → l.to_server ≡ []) → QueryStep b c text o new
      → Says b (QueryOf n text) (pair_of c l) (acted new l o) o
  query-says text c l o new idle (query_refused fault) = tt
  query-says text c l o new idle (query_busy q request out) = tt
  query-says text c l o new idle (query_answered q rows marks after out asks are step) =
      let k = kept b (answering_now c q) c marks after step in
      record {
        query = q;
        about = (refl, refl);
        answered = last-number after c.queries (record { query = q; answered = true }) (ap (λ x. x.queries) k.is);
        rows_are = are;
        version_is = sym (ap (λ x. x.version) k.is);
      }
  query-says text c l o new idle (query_down q out down left) = tt
  query-says text c l o new idle (query_asks q drops old ask others fresh out before up asks few mode) = by drops old before asks
    where
      by : (drops : List Mark) (old : Client) → Before b q c drops old → Asks b.schema old.marks q.parts (ask ∷ others)
          → IsAsk b (QueryOf n (Ok q)) (pair_of c l) (acted (with_ask old q fresh (ask ∷ others)) l (AskSent drops old.next_request fresh (ask ∷ others))) drops old.next_request fresh (ask ∷ others)
      by drops old as_it_is asks = record { number = next_query c; query = q; about = (refl, refl); out = refl; marks = refl; asks = asks; few = few; sent = ap (λ queue. queue ++ Ask c.next_request fresh (ask ∷ others) ∷ []) (idle out) }
      by drops old (emptied ds first) asks = record { number = next_query c; query = q; about = (refl, refl); out = refl; marks = refl; asks = asks; few = few; sent = ap (λ queue. queue ++ Ask c.next_request fresh (ask ∷ others) ∷ []) (idle out) }

  -- the query of an ask that is out, by its number
  asked-number : (c : Client) (number query : ℕ) (q : Query) (fresh : Bool) (parts : List AskPart) → IsTidy b.schema c → c.out ≡ Some (AskOut number query q fresh parts)
      → query_at c query ≡ Some (record { query = q; answered = false })
  asked-number c number query q fresh parts tidy out =
      let is : IsTidyWith b.schema c (Some (AskOut number query q fresh parts)) = subst (IsTidyWith b.schema c) out tidy in
      let rest = is.0.1 in
      let e : query ≡ length rest.earlier + 1 = rest.query_is ∙ (ap length rest.newest ∙ length-append rest.earlier (record { query = q; answered = false } ∷ [])) in
      ap (query_at c) e ∙ last-number c rest.earlier (record { query = q; answered = false }) rest.newest

  take-says : (m : Message) (c : Client) (l before : Connection) (o : Outcome) (new : Client) → IsTidy b.schema c → IsServedAt c l m → TakeStep b c m o new
      → Says b (ToClient n) (pair_of c before) (acted new l o) o
  take-says m c l before o new tidy served (lays request x out laid own) = tt
  take-says m c l before o new tidy served (applies w told drops out later met) = tt
  take-says m c l before o new tidy served (forgets w drops out later all) = tt
  take-says m c l before o new tidy served (answers number query q fresh parts w rows marks after out whole later are step) =
      let k = kept b (answering_then c query q parts w) c marks after step in
      let is : IsTidyWith b.schema c (Some (AskOut number query q fresh parts)) = subst (IsTidyWith b.schema c) out tidy in
      let i = length is.0.1.earlier in
      let e : query ≡ i + 1 = is.0.1.query_is ∙ (ap length is.0.1.newest ∙ length-append is.0.1.earlier (record { query = q; answered = false } ∷ [])) in
      let place : query - 1 ≡ i = omega (arith, e) in
      let there : slice_get c.queries i ≡ Some (record { query = q; answered = false }) =
      ap (λ all. slice_get all i) is.0.1.newest ∙ get-last is.0.1.earlier (record { query = q; answered = false }) in
      let here : slice_get (slice_set c.queries (query - 1) (record { query = q; answered = true })) i ≡ Some (record { query = q; answered = true }) =
      ap (λ j. slice_get (slice_set c.queries j (record { query = q; answered = true })) i) place ∙ get-set-same c.queries i (record { query = q; answered = false }) (record { query = q; answered = true }) there in
      record {
        query = q;
        about = asked-number c number query q fresh parts tidy out;
        answered = ap (query_at after) e ∙ (query-at-plus after i ∙ (ap (λ x. slice_get x.queries i) k.is ∙ here));
        rows_are = are;
        version_is = sym (ap (λ x. x.version) k.is);
      }
  take-says m c l before o new tidy served (asks_once_more number query q fresh parts w drops whole out again later all asks few) =
      record { number = query; query = q; about = asked-number c number query q fresh parts tidy out; out = refl; marks = refl; asks = asks; few = few; sent = ap (λ queue. queue ++ Ask c.next_request true whole ∷ []) (served number query q fresh parts w out refl) }
  take-says m c l before o new tidy served (written number w drops out later d) = tt
  take-says m c l before o new tidy served (refused_write number fault drops out later d) = tt
  take-says m c l before o new tidy served (is_welcomed number w keeps drops out later d) = tt

  write-says : (sql : List ℕ) (old after : Pair) (c : Client) (o : Outcome) (new : Client) → WriteStep sql c o new → Says b (WriteOf n sql) old after o
  write-says sql old after c o new (write_busy request out) = tt
  write-says sql old after c o new (write_down out down) = tt
  write-says sql old after c o new (write_sends out up) = tt

  evict-says : (place : ℕ) (old after : Pair) (c : Client) (o : Outcome) (new : Client) → EvictStep b place c o new → Says b (EvictOf n place) old after o
  evict-says place old after c o new (evict_busy request out) = tt
  evict-says place old after c o new (evicts_none classes out are few) = tt
  evict-says place old after c o new (evicts classes chosen d out are at drop) = tt

  cut-says : (old after : Pair) (c : Client) (o : Outcome) (new : Client) → CutStep c o new → Says b (CutOf n) old after o
  cut-says old after c o new (already_cut down) = tt
  cut-says old after c o new (cuts up) = tt

  resume-says : (old after : Pair) (c : Client) (o : Outcome) (new : Client) → ResumeStep b.schema c o new → Says b (ResumeOf n) old after o
  resume-says old after c o new (already_up up) = tt
  resume-says old after c o new (resumes m down is) = tt

-- ---- what a report says

pub record DidSo (s new : Scene) (event : Event) (o : Outcome) : Type 0 where
  pub old : Pair
  pub after : Pair
  pub old_is : pair_at s (client_of event) ≡ Some old
  pub after_is : pair_at new (client_of event) ≡ Some after
  pub says : Says (basis_of s) event old after o
  pub database : new.database ≡ s.database

abbrev pub SaysSo : Scene → Scene → Event → Report → Type 0
SaysSo s new event (Did o) = DidSo s new event o
SaysSo s new event other = Unit {0}

did-so : (s : Scene) (n : ℕ) (event : Event) (o : Outcome) (old after : Pair) → n ≡ client_of event → pair_at s n ≡ Some old → Says (basis_of s) event old after o
    → DidSo s (with_pair s n after) event o
did-so s n event o old after of is says =
    record { old = old; after = after; old_is = ap (pair_at s) (sym of) ∙ is; after_is = ap (pair_at (with_pair s n after)) (sym of) ∙ at-set s n old after is; says = says; database = same-database s n after }

served-at : (db : Database) (old : Pair) (m : Message) (queue : List Message) → Stands db old → old.connection.to_client ≡ m ∷ queue
    → IsServedAt old.client (record old.connection { to_client = queue }) m
served-at db old m queue (is_open session h) first number query q fresh parts w out is =
    served-queue db old.client old.connection session queue number query q fresh parts number w h out (first ∙ ap (λ x. x ∷ queue) is)
served-at db old m queue (is_down h) first number query q fresh parts w out is = absurd (let wrong : m ∷ queue ≡ [] = sym first ∙ h.to_client in cc)
served-at db old m queue (is_resuming h) first number query q fresh parts w out is = absurd (let wrong : m ∷ queue ≡ [] = sym first ∙ h.to_client in cc)

pub says-so : (s new : Scene) (event : Event) (report : Report) → SceneStands s → Happens s event report new → SaysSo s new event report
says-so s new event report h (executed tables) = tt
says-so s new event report h (not_executed fault) = tt
says-so s new event report h (queried n text old o c is step) = did-so s n (QueryOf n text) o old (acted c old.connection o) refl is (query-says (basis_of s) n text old.client old.connection o c (idle-queue s.database old (at s n old h is)) step)
says-so s new event report h (wrote n sql old o c is step) = did-so s n (WriteOf n sql) o old (acted c old.connection o) refl is (write-says (basis_of s) n sql old (acted c old.connection o) old.client o c step)
says-so s new event report h (evicted n place old o c is step) = did-so s n (EvictOf n place) o old (acted c old.connection o) refl is (evict-says (basis_of s) n place old (acted c old.connection o) old.client o c step)
says-so s new event report h (cut n old o c is step) = did-so s n (CutOf n) o old (cut_off c) refl is (cut-says (basis_of s) n old (cut_off c) old.client o c step)
says-so s new event report h (resumed n old o c is step) = did-so s n (ResumeOf n) o old (acted c old.connection o) refl is (resume-says (basis_of s) n old (acted c old.connection o) old.client o c step)
says-so s new event report h (pushed n old session is opened) = tt
says-so s new event report h (push_closed n old is closed) = tt
says-so s new event report h (server_idle n result old is empty) = tt
says-so s new event report h (server_took n result old m queue is first) = tt
says-so s new event report h (client_idle n old is empty) = tt
says-so s new event report h (client_took n old m queue o c is first step) =
    did-so s n (ToClient n) o old (acted c (record old.connection { to_client = queue }) o) refl is
    (take-says (basis_of s) n m old.client (record old.connection { to_client = queue }) old.connection o c (stands-tidy s.database old (at s n old h is))
    (served-at s.database old m queue (at s n old h is) first) step)

pub answers-are-right : AnswersAreRight
answers-are-right s new event number version rows marks reached happens =
    let d : DidSo s new event (Answered number version rows marks) = says-so s new event (Did (Answered number version rows marks)) (reached-stands s reached) happens in
    let says = d.says in
    record {
      old = d.old;
      after = d.after;
      old_is = d.old_is;
      after_is = d.after_is;
      query = says.query;
      about = says.about;
      answered = says.answered;
      rows_are = subst (λ db. rows ≡ rows_of says.query (tables_of db version)) (sym d.database) says.rows_are;
      version_is = says.version_is;
    }

pub an-ask-asks-the-uncovered : AnAskAsksTheUncovered
an-ask-asks-the-uncovered s new event drops request fresh parts reached happens =
    let d : DidSo s new event (AskSent drops request fresh parts) = says-so s new event (Did (AskSent drops request fresh parts)) (reached-stands s reached) happens in
    let says = d.says in
    record {
      old = d.old;
      after = d.after;
      old_is = d.old_is;
      after_is = d.after_is;
      number = says.number;
      query = says.query;
      about = says.about;
      out = says.out;
      marks = says.marks;
      asks = says.asks;
      few = says.few;
      sent = says.sent;
    }
