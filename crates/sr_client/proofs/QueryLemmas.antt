-- What a query does that is answered at once, or that comes while a request is out or over a cut link.
use Rattle.std.proofs.Common.{◌≡◌, ℕ, ◌+◌, true, List, [], ◌∷◌, ◌++◌, length, refl, sym, ◌∙◌, ap, subst, arith, Some, None, Ok, length-append}
use Rattle.std.proofs.lemmas.List.Elements.{All-nil}
use Rattle.sr_cell.specs.Cells.{Row}
use Rattle.sr_model.specs.Queries as model
use Rattle.sr_model.specs.Statements.{Tables}
use Rattle.sr_model.specs.Queries.{rows_of}
use Rattle.sr_query.specs.declared.query.Query.{Query}
use Rattle.sr_history.specs.declared.mark.Mark.{Mark}
use Rattle.sr_history.specs.Marks.{with_marks}
use Rattle.sr_history.specs.Classes.{Numbered, stamp}
use Rattle.sr_history.specs.Rests.{Asks}
use Rattle.sr_store.specs.declared.store.Store.{Store}
use Rattle.sr_store.specs.Told.{told_of}
use Rattle.sr_store.proofs.Stamping.{stamp_more}
use Rattle.sr_store.specs.Answered.{IsArrival}
use Rattle.sr_store.specs.declared.store.Arrival.{Arrival}
use Rattle.sr_session.specs.Sessions.{Database, tables_of}
use Rattle.sr_session.specs.Clients as session
use Rattle.sr_session.specs.Clients.{Counting, answered}
use Rattle.sr_session.specs.Rules.{number_of, answering_now, counted, query_busy, query_answered, query_down, AnswerStep}
use Rattle.sr_session.specs.Rules as rules
use Rattle.sr_session.specs.Tidy.{IsTidyWith}
use Rattle.sr_session.specs.Bases.{basis_of}
use Rattle.sr_session.specs.Brought.{told_basis}
use Rattle.sr_client.specs.ByTold.{GoesByTold}
use Rattle.sr_client.specs.Asking.{AsksRest, LeavesRest}
use Rattle.sr_client.specs.Bound.{IsMeaning}
use Rattle.sr_client.specs.declared.client.Client.{Client}
use Rattle.sr_client.specs.declared.client.Request as code
use Rattle.sr_client.specs.declared.steps.QueryStep.TheVariants.{Answered, Busy, Down}
use Rattle.sr_client.specs.Stands.{Hidden, Facts, HaveShortEnds, Stands, StandsOver, past_of, out_of, request_of, IsMeant, AreFit}
use Rattle.sr_client.specs.Steps.{Queries}
use Rattle.sr_client.proofs.Calls.{Answers, IsAfter, none-arrived}
use Rattle.sr_client.proofs.KeptLemmas.{IsAnswering, AreTrue, from_of, kept, kept-true, kept-told, still-told, kept-last, answer-step, told-step}
use Rattle.sr_client.proofs.MeantLemmas.{are-sound, is-joinable, parts-fit}
use Rattle.sr_client.proofs.MoveLemmas.{queries-by}
use Rattle.sr_client.proofs.OverLemmas.{on, IsHere, stands-over}
use Rattle.sr_client.proofs.ShortLemmas.{meaning-short, short-append}
use Rattle.sr_client.proofs.CoverLemmas.{all-held}
use Rattle.sr_client.specs.Cutting.{PartsEnd, EndWith, RegionsEnd}
use Rattle.sr_client.proofs.LastLemmas.{last-answered}
use Rattle.sr_client.proofs.EndLemmas.{parts-end, regions-more}
use Rattle.sr_client.proofs.CountLemmas.{counted-more}

-- ---- while a request is out

pub query-busy : (c : Client) (m : model.Query) (number : ℕ) (request : code.Request) → Stands c → c.out ≡ Some request → ((meaning : model.Query) → number ≡ number_of (request_of meaning request))
    → Queries c m c (Busy number)
query-busy c m number request stands out number_is = queries-by c c m (Busy number) (λ h f. record {
  outcome = rules.Busy number;
  next = past_of c h;
  is = refl;
  link = refl;
  draws = omega arith;
  stands = (h, f, refl);
  over = λ db here it. (
    subst (λ k. rules.QueryStep (basis_of (on c db) c.store.limits) (past_of c h) (Ok m) (rules.Busy k) (past_of c h)) (sym (number_is h.meaning))
        (query_busy m (request_of h.meaning request) (ap (out_of h.meaning) out)),
    stands-over c h db f here,
  );
}) (λ h f told is. (
  is,
  subst (λ k. rules.QueryStep (told_basis c.schema c.store.limits told) (past_of c h) (Ok m) (rules.Busy k) (past_of c h)) (sym (number_is h.meaning))
      (query_busy m (request_of h.meaning request) (ap (out_of h.meaning) out)),
)) stands

-- ---- over a cut link

-- what is left of a query is left by each past
pub left-here : (c : Client) (q : Query) (m : model.Query) (h : Hidden) → IsMeaning c.schema q m → Facts c h → LeavesRest c.schema c.store.regions q.parts → Asks c.schema h.marks m.parts [] → ⊥
left-here c q m h is f left = left h.marks (stamp h.queries) m.parts f.keeps is.query.parts (are-sound c.schema q m is)

pub query-over-cut : (c : Client) (q : Query) (m : model.Query) → Stands c → c.out ≡ None → c.cut ≡ true → IsMeaning c.schema q m → LeavesRest c.schema c.store.regions q.parts → Queries c m c (Down c.cuts)
query-over-cut c q m stands out down is left = queries-by c c m (Down c.cuts) (λ h f. record {
  outcome = rules.Down c.cuts;
  next = past_of c h;
  is = refl;
  link = refl;
  draws = omega arith;
  stands = (h, f, refl);
  over = λ db here it. (query_down m (ap (out_of h.meaning) out) down (left-here c q m h is f left), stands-over c h db f here);
}) (λ h f told own. (own, query_down m (ap (out_of h.meaning) out) down (left-here c q m h is f left))) stands

-- ---- at once

-- nothing is laid by while nothing is out
pub none-laid : (c : Client) (h : Hidden) → Facts c h → c.out ≡ None → c.laid ≡ []
none-laid c h f out = subst (λ o. IsTidyWith c.schema (past_of c h) (out_of h.meaning o)) out f.tidy

-- the client once a query is answered at once
abbrev pub with_now : Client → Store → Client
with_now c store = record c { queries = c.queries + 1; store = store }

abbrev with_query : Hidden → model.Query → List Numbered
with_query h m = h.queries ++ record { query = m; answered = true } ∷ []

-- the answer is that of the client's version
rows-now : (c : Client) (h : Hidden) (db : Database) (q : Query) (m : model.Query) (rows : List Row) → IsMeaning c.schema q m → Facts c h → IsHere db c → Asks c.schema h.marks m.parts [] → Answers q c.store.regions [] rows
    → rows ≡ rows_of m (tables_of db c.version)
rows-now c h db q m rows is f here asks gives =
    let tables : Tables = tables_of db c.version in
    let are = here.sound.tables c.version here.within in
    gives c.schema tables m (is-joinable c.schema tables q m is are.ascending)
    (record { each = f.store.each; are_true = here.are_true })
    (all-held c.schema tables h.marks (stamp h.queries) c.store.regions q.parts m.parts [] asks refl are.points f.keeps is.query.parts (are-sound c.schema q m is))

-- what is known where a query is answered at once
is-answering : (c : Client) (h : Hidden) (q : Query) (m : model.Query) → Facts c h → IsMeaning c.schema q m
    → IsAnswering c.schema (length h.queries + 1) q.parts [] c.store [] m (with_query h m) (past_of c h)
is-answering c h q m f is =
    let s = c.schema in
    let all : List model.Query = counted h.counted_from h.queries in
    let more : counted h.counted_from (with_query h m) ≡ all ++ m ∷ [] = counted-more h.counted_from h.queries (record { query = m; answered = true }) f.from in
    record {
      tables = f.tables;
      store = f.store;
      keeps = f.keeps;
      stamps = stamp_more s (length h.queries + 1) q.parts h.queries m is.query.parts refl;
      meant = is.query.parts;
      last = last-answered h.queries m;
      fit = parts-fit s q m is;
      arrive = All-nil (IsArrival s q.parts);
      apart = λ t a p point. let le = f.store.once t a p point in omega (arith, le);
      holds = tt;
      were = λ t a some. absurd (cc);
      nothing = λ none. refl;
      from = let few = f.from in omega (arith, few);
      count = let long = length-append h.queries (record { query = m; answered = true } ∷ []) in omega (arith, long);
      short = subst HaveShortEnds (sym more) (short-append all (m ∷ []) f.short (meaning-short s q m is));
      regions_end = subst (λ qs. RegionsEnd s qs c.store.regions) (sym more) (regions-more s all (m ∷ []) c.store.regions f.ends);
      parts_end = subst (λ qs. PartsEnd s qs q.parts) (sym more) (parts-end s all m [] q.parts m.parts refl is.query.parts);
      arrivals_end = All-nil (λ (r : Arrival). EndWith s (counted h.counted_from (with_query h m)) r.table r.rects);
    }

module _ (c : Client) (q : Query) (m : model.Query) (store : Store) (marks : List Mark) (rows : List Row) (out : c.out ≡ None) (is : IsMeaning c.schema q m)
    (nothing : AsksRest c.schema c.store.regions q.parts []) (gives : Answers q c.store.regions [] rows) (made : IsAfter c.schema (c.queries + 1) q.parts [] c.store store marks) where
  module _ (h : Hidden) (f : Facts c h) where
    after : IsAfter c.schema (length h.queries + 1) q.parts [] c.store store marks
    after = subst (λ n. IsAfter c.schema (n + 1) q.parts [] c.store store marks) (sym f.queries) made

    answering : IsAnswering c.schema (length h.queries + 1) q.parts [] c.store [] m (with_query h m) (past_of c h)
    answering = is-answering c h q m f is

    abbrev from : Counting
    from = from_of (length h.queries + 1) h.counted_from after.answered

    abbrev later : Hidden
    later = record { marks = with_marks h.marks marks; queries = with_query h m; counted_from = from; meaning = h.meaning }

    laid : c.laid ≡ []
    laid = none-laid c h f out

    now-facts : Facts (with_now c store) later
    now-facts =
        let k = kept c.schema (length h.queries + 1) q.parts [] c.store [] m (with_query h m) (past_of c h) answering store marks after in
        let more : length (with_query h m) ≡ length h.queries + 1 = length-append h.queries (record { query = m; answered = true } ∷ []) in
        record {
          tables = f.tables;
          tidy = subst (λ o. IsTidyWith c.schema (past_of (with_now c store) later) (out_of h.meaning o)) (sym out) laid;
          down = f.down;
          meant = subst (IsMeant c.schema (counted from (with_query h m)) h.meaning) (sym out) tt;
          fit = subst (AreFit c.schema (out_of h.meaning c.out) c.version []) (sym laid) tt;
          store = made.store;
          settled = λ is. made.settled;
          keeps = k.points;
          queries = more ∙ ap (λ n. n + 1) f.queries;
          last = kept-last c.schema (length h.queries + 1) q.parts [] c.store [] m (with_query h m) (past_of c h) answering store marks after;
          rows = k.rows;
          few = k.regions;
          from = let few = k.few in omega (arith, few, more);
          short = k.short;
          ends = k.ends;
        }

    now-same : answered (past_of c h) (with_query h m) from c.version marks ≡ past_of (with_now c store) later
    now-same = sym (ap (λ o. record (past_of (with_now c store) later) { out = out_of h.meaning o }) out ∙ ap (λ ms. record (past_of (with_now c store) later) { out = None; laid = ms }) laid)

    now-over : (db : Database) → IsHere db c
        → rules.QueryStep (basis_of (on c db) c.store.limits) (past_of c h) (Ok m) (rules.Answered (c.queries + 1) c.version rows marks) (answered (past_of c h) (with_query h m) from c.version marks)
        × StandsOver (on c db) (answered (past_of c h) (with_query h m) from c.version marks) (with_now c store)
    now-over db here =
        let past : session.Client = past_of c h in
        let asks : Asks c.schema h.marks m.parts [] = nothing h.marks (stamp h.queries) m.parts f.keeps is.query.parts (are-sound c.schema q m is) in
        let are = here.sound.tables c.version here.within in
        let t : AreTrue c.schema (tables_of db c.version) [] c.store.regions = record { are_tables = are; are_true = here.are_true; arrived = none-arrived (told_of (tables_of db c.version)) } in
        let step : AnswerStep (basis_of (on c db) c.store.limits) (answering_now past m) past marks (answered past (with_query h m) from c.version marks) =
        answer-step c.schema (length h.queries + 1) q.parts [] c.store [] m (with_query h m) (past_of c h) answering store marks after db c.version t in (
          subst (λ n. rules.QueryStep (basis_of (on c db) c.store.limits) (past_of c h) (Ok m) (rules.Answered (n + 1) c.version rows marks) (answered past (with_query h m) from c.version marks)) f.queries
              (query_answered m rows marks (answered past (with_query h m) from c.version marks) (ap (out_of h.meaning) out) asks (rows-now c h db q m rows is f here asks gives) step),
          record {
            sound = here.sound;
            schema = refl;
            within = here.within;
            client = record {
              hidden = later;
              facts = now-facts;
              same = now-same;
              are_true = kept-true c.schema (length h.queries + 1) q.parts [] c.store [] m (with_query h m) (past_of c h) answering store marks after (tables_of db c.version) t;
            };
          },
        )

    now-told : GoesByTold c (with_now c store) (λ told. told)
        (λ b. rules.QueryStep b (past_of c h) (Ok m) (rules.Answered (c.queries + 1) c.version rows marks) (answered (past_of c h) (with_query h m) from c.version marks))
    now-told told own =
        let past : session.Client = past_of c h in
        let asks : Asks c.schema h.marks m.parts [] = nothing h.marks (stamp h.queries) m.parts f.keeps is.query.parts (are-sound c.schema q m is) in
        let still = still-told c.schema (length h.queries + 1) q.parts [] c.store [] m (with_query h m) (past_of c h) answering store marks after refl told own in
        let step : AnswerStep (told_basis c.schema c.store.limits told) (answering_now past m) past marks (answered past (with_query h m) from c.version marks) =
        told-step c.schema (length h.queries + 1) q.parts [] c.store [] m (with_query h m) (past_of c h) answering store marks after told c.version still.0 still.1 in (
          kept-told c.schema (length h.queries + 1) q.parts [] c.store [] m (with_query h m) (past_of c h) answering store marks after told c.version still.0 still.1,
          subst (λ n. rules.QueryStep (told_basis c.schema c.store.limits told) (past_of c h) (Ok m) (rules.Answered (n + 1) c.version rows marks) (answered past (with_query h m) from c.version marks)) f.queries
              (query_answered m rows marks (answered past (with_query h m) from c.version marks) (ap (out_of h.meaning) out) asks tt step),
        )

  pub answered-now : Stands c → Queries c m (with_now c store) (Answered (c.queries + 1) c.version rows marks)
  answered-now stands = queries-by c (with_now c store) m (Answered (c.queries + 1) c.version rows marks) (λ h f. record {
    outcome = rules.Answered (c.queries + 1) c.version rows marks;
    next = answered (past_of c h) (with_query h m) (from h f) c.version marks;
    is = refl;
    link = refl;
    draws = omega arith;
    stands = (later h f, now-facts h f, now-same h f);
    over = λ db here it. now-over h f db here;
  }) now-told stands
