-- What is known where the reply of an ask comes.
use Rattle.std.proofs.Common.{◌≡◌, ℕ, ◌+◌, ◌-◌, true, false, List, [], ◌∷◌, ◌++◌, map, length, refl, sym, ◌∙◌, ap, subst, arith}
use Rattle.std.specs.Prelude.{◌&&◌, ◌||◌, ◌==◌}
use Rattle.std.specs.List.{list_all, list_any, All, AllZip}
use Rattle.std.proofs.lemmas.List.Elements.{All-nil, All-cons, All-head, All-tail}
use Rattle.sr_cell.specs.declared.table.Table.{Table}
use Rattle.sr_message.specs.declared.message.AskPart.{AskPart}
use Rattle.sr_message.specs.declared.message.Message.{Message}
use Rattle.sr_model.specs.Queries as model
use Rattle.sr_query.specs.declared.query.Part.{Part}
use Rattle.sr_history.specs.Classes.{stamp}
use Rattle.sr_region.specs.declared.region.Region.{Region}
use Rattle.sr_store.specs.declared.store.Arrival.{Arrival}
use Rattle.sr_store.specs.Classes.{restamped}
use Rattle.sr_store.specs.Answered.{IsArrival, AreApart, BringOwnKeys, held_of}
use Rattle.sr_store.specs.Brought.{AreOfOwnTables}
use Rattle.sr_store.proofs.Stamping.{stamp_answered}
use Rattle.sr_store.proofs.Stepping.{AreStampsAfter}
use Rattle.sr_session.specs.Regions.{after_messages}
use Rattle.sr_session.specs.Rules.{Holds, counted, with_answered, is_given_up}
use Rattle.sr_client.specs.Arriving.{arrivals_from, arrivals_of}
use Rattle.sr_client.specs.Cutting.{EndWith, RegionsEnd, PartsEnd}
use Rattle.sr_client.specs.Laying.{asking}
use Rattle.sr_client.specs.declared.client.AskOut as code
use Rattle.sr_client.specs.declared.client.Client.{Client}
use Rattle.sr_client.specs.Stands.{Hidden, Facts, HaveShortEnds, past_of}
use Rattle.sr_client.specs.Values.{has_values}
use Rattle.sr_client.proofs.AskedLemmas.{after-all, is-out, laid-store, laid-keeps}
use Rattle.sr_client.proofs.CameLemmas.{CameRight, all-arrive, all-apart, all-apiece, all-own}
use Rattle.sr_client.proofs.CountLemmas.{counted-answered, set-length}
use Rattle.sr_client.proofs.HeavyLemmas.{WereAsked}
use Rattle.sr_client.proofs.KeptLemmas.{IsAnswering}
use Rattle.sr_client.proofs.LastLemmas.{last-with-answered}
use Rattle.sr_client.proofs.MeantLemmas.{are-sound, parts-fit, tables-differ}
use Rattle.sr_client.proofs.PartsLemmas.{EachFrom, each-at}
use Rattle.sr_client.proofs.SuitLemmas.{laid-rows}
use Rattle.sr_client.proofs.TableLemmas.{have-first}

-- what the store asks of arrivals
pub record Allows (schema : List Table) (regions : List Region) (parts : List Part) (arrivals : List Arrival) : Type 0 where
  pub each : All (IsArrival schema parts) arrivals
  pub apart : AreApart schema regions arrivals
  pub own : BringOwnKeys arrivals

-- ---- what arrives is what was asked

-- all of it is held then
holds-from : (schema : List Table) (parts : List Part) (ms : List Message) (i : ℕ) (asks : List AskPart) → All (IsArrival schema parts) (arrivals_from i schema asks ms)
    → AllZip (Holds schema) asks (map held_of (arrivals_from i schema asks ms))
holds-from schema parts ms i [] are = tt
holds-from schema parts ms i (ask ∷ asks) are =
    let own = All-head (IsArrival schema parts) _ (arrivals_from (i + 1) schema asks ms) are in
    ((refl, refl, own.fit, λ p point. refl), holds-from schema parts ms (i + 1) asks (All-tail (IsArrival schema parts) _ (arrivals_from (i + 1) schema asks ms) are))

same-columns : (schema : List Table) (ms : List Message) (t u i : ℕ) (asks : List AskPart)
    → list_any (λ (r : Arrival). r.table == t && r.attrs == u) (arrivals_from i schema asks ms) ≡ list_any (λ (ask : AskPart). ask.table == t && ask.attrs == u) asks
same-columns schema ms t u i [] = refl
same-columns schema ms t u i (ask ∷ asks) = ap (λ b. (ask.table == t && ask.attrs == u) || b) (same-columns schema ms t u (i + 1) asks)

were-asked : (schema : List Table) (ms : List Message) (asks : List AskPart) → WereAsked (arrivals_of schema asks ms) asks
were-asked schema ms asks t u some = sym (same-columns schema ms t u 0 asks) ∙ some

-- it ends where that does
ends-from : (schema : List Table) (queries : List model.Query) (ms : List Message) (i : ℕ) (asks : List AskPart) → All (λ (ask : AskPart). EndWith schema queries ask.table ask.rects) asks
    → All (λ (r : Arrival). EndWith schema queries r.table r.rects) (arrivals_from i schema asks ms)
ends-from schema queries ms i [] ends = All-nil (λ (r : Arrival). EndWith schema queries r.table r.rects)
ends-from schema queries ms i (ask ∷ asks) ends =
    All-cons (λ (r : Arrival). EndWith schema queries r.table r.rects) _ (arrivals_from (i + 1) schema asks ms)
    (All-head (λ (ask : AskPart). EndWith schema queries ask.table ask.rects) ask asks ends)
    (ends-from schema queries ms (i + 1) asks (All-tail (λ (ask : AskPart). EndWith schema queries ask.table ask.rects) ask asks ends))

-- ---- where the reply comes

module _ (c : Client) (o : code.AskOut) (h : Hidden) (f : Facts (asking c o) h) (values : list_all has_values c.laid ≡ true) where
  pub came-right : EachFrom (CameRight c.schema c.laid) 0 o.parts
  came-right =
      each-at (CameRight c.schema c.laid) o.parts
      (λ k ask at. laid-rows c.schema o.parts o.number o.query_number c.version h.meaning o.fresh k ask at (have-first c.schema f.tables ask.table) c.laid f.fit values)

  arrive : All (IsArrival c.schema o.query.parts) (arrivals_of c.schema o.parts c.laid)
  arrive =
      all-arrive c.schema h.marks c.laid 0 o.query.parts h.meaning.parts o.parts (is-out c o h f).1.asks f.meant.0.query.parts (are-sound c.schema o.query h.meaning f.meant.0) f.meant.0.own came-right

  -- where the rows are not given up
  module _ (whole : is_given_up o.fresh c.laid ≡ false) where
    pub allows : Allows c.schema (after_messages c.laid c.store.regions) o.query.parts (arrivals_of c.schema o.parts c.laid)
    allows =
        let differ = tables-differ c.schema o.query h.meaning f.meant.0 in
        record {
          each = arrive;
          apart = all-apart c.schema h.marks c.laid 0 (stamp h.queries) (after_messages c.laid c.store.regions) o.query.parts h.meaning.parts o.parts (is-out c o h f).1.asks f.meant.0.query.parts
              (are-sound c.schema o.query h.meaning f.meant.0) differ (laid-keeps c o h f values whole) (laid-store c o h f values);
          own = all-own c.schema h.marks c.laid 0 h.meaning.parts o.parts (is-out c o h f).1.asks differ;
        }

    -- each arrives of another table
    pub apiece : AreOfOwnTables (arrivals_of c.schema o.parts c.laid)
    apiece = all-apiece c.schema h.marks c.laid 0 h.meaning.parts o.parts (is-out c o h f).1.asks (tables-differ c.schema o.query h.meaning f.meant.0)

    -- the counted queries are the same
    same : counted h.counted_from (with_answered o.query_number h.meaning h.queries) ≡ counted h.counted_from h.queries
    same = counted-answered h.counted_from o.query_number h.queries (is-out c o h f).1.earlier h.meaning (is-out c o h f).1.newest (is-out c o h f).1.query_is

    stamps : AreStampsAfter c.schema o.query_number o.query.parts h.queries (with_answered o.query_number h.meaning h.queries)
    stamps t u p point =
        let out = (is-out c o h f).1 in
        let at : o.query_number ≡ length (out.earlier ++ record { query = h.meaning; answered = false } ∷ []) = out.query_is ∙ ap length out.newest in
        subst (λ qs. restamped o.query_number o.query.parts (stamp qs) t u p ≡ stamp (with_answered o.query_number h.meaning qs) t u p) (sym out.newest)
        (stamp_answered c.schema o.query_number o.query.parts out.earlier h.meaning f.meant.0.query.parts at t u p point)

    pub answering : IsAnswering c.schema o.query_number o.query.parts (arrivals_of c.schema o.parts c.laid) (record c.store { regions = after_messages c.laid c.store.regions }) o.parts h.meaning
        (with_answered o.query_number h.meaning h.queries) (past_of (asking c o) h)
    answering = record {
      tables = f.tables;
      store = laid-store c o h f values;
      keeps = laid-keeps c o h f values whole;
      stamps = stamps;
      meant = f.meant.0.query.parts;
      last = last-with-answered o.query_number h.queries (is-out c o h f).1.earlier h.meaning (is-out c o h f).1.newest (is-out c o h f).1.query_is;
      fit = parts-fit c.schema o.query h.meaning f.meant.0;
      arrive = arrive;
      apart = allows.apart;
      holds = holds-from c.schema o.query.parts c.laid 0 o.parts arrive;
      were = were-asked c.schema c.laid o.parts;
      nothing = λ none. ap (λ asks. arrivals_of c.schema asks c.laid) none;
      from = let few = f.from in let number = (is-out c o h f).1.query_is in omega (arith, few, number);
      count =
          let long : length (with_answered o.query_number h.meaning h.queries) ≡ length h.queries = set-length h.queries (o.query_number - 1) (record { query = h.meaning; answered = true }) in
          let number = (is-out c o h f).1.query_is in omega (arith, long, number);
      short = subst HaveShortEnds (sym same) f.short;
      regions_end = subst (λ qs. RegionsEnd c.schema qs (after_messages c.laid c.store.regions)) (sym same)
          (after-all (λ x. EndWith c.schema (counted h.counted_from h.queries) x.table x.rects) (λ x rows e. e) c.laid c.store.regions f.ends);
      parts_end = subst (λ qs. PartsEnd c.schema qs o.query.parts) (sym same) f.meant.1;
      arrivals_end = subst (λ qs. All (λ (x : Arrival). EndWith c.schema qs x.table x.rects) (arrivals_of c.schema o.parts c.laid)) (sym same)
          (ends-from c.schema (counted h.counted_from h.queries) c.laid 0 o.parts f.meant.2);
    }
