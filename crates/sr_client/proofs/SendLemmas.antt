-- What a query does that asks something.
use Rattle.std.proofs.Common.{◌≡◌, ℕ, ◌+◌, ◌≤◌, ◌<◌, Bool, true, false, List, [], ◌∷◌, ◌++◌, map, length, refl, sym, ◌∙◌, ap, subst, arith, Some, None, Ok, length-append}
use Rattle.std.specs.Prelude.{IsTrue, not, ◌&&◌, ◌↔◌}
use Rattle.std.specs.List.{All, AllZip}
use Rattle.std.proofs.lemmas.List.Elements.{All-nil}
use Rattle.std.proofs.lemmas.List.Sums.{sum_by-le}
use Rattle.sr_cell.specs.declared.cause.Cause.TheVariants.{Pieces}
use Rattle.sr_cell.specs.declared.table.Table.{Table}
use Rattle.sr_box.specs.Points.{Rect, in_any}
use Rattle.sr_message.specs.declared.message.AskPart.{AskPart}
use Rattle.sr_message.specs.Sizes.{most_rects, count_asked}
use Rattle.sr_model.specs.Queries as model
use Rattle.sr_query.specs.Bound.{IsPart}
use Rattle.sr_query.specs.declared.query.Part.{Part}
use Rattle.sr_query.specs.declared.query.Query.{Query}
use Rattle.sr_history.specs.declared.mark.Mark.{Mark}
use Rattle.sr_history.specs.Marks.{is_held, is_covered, HoldsNothing, with_marks}
use Rattle.sr_history.specs.Classes.{stamp}
use Rattle.sr_history.specs.Load.{IsHeavy}
use Rattle.sr_history.specs.Rests.{Asks, nothing, covered}
use Rattle.sr_history.specs.Victims.{AreLast}
use Rattle.sr_region.specs.declared.region.Region.{Region}
use Rattle.sr_store.specs.Classes.{Stamps, Keeps}
use Rattle.sr_store.specs.Told.{Told, told_of, IsTrueOf}
use Rattle.sr_store.specs.Stores.{drop_of, IsOfSchema}
use Rattle.sr_store.proofs.Absorbing.{drops_all}
use Rattle.sr_store.proofs.Covering.{all_none, keeps_same}
use Rattle.sr_store.proofs.Fewer.{none_store, none_settled}
use Rattle.sr_store.proofs.Stamping.{stamp_none}
use Rattle.sr_store.proofs.Stepping.{dropped_marks}
use Rattle.sr_session.specs.Sessions.{Database, tables_of}
use Rattle.sr_session.specs.Clients as session
use Rattle.sr_session.specs.Clients.{from_query}
use Rattle.sr_session.specs.Walks.{AskOut, AreLaid}
use Rattle.sr_session.specs.Rules.{Before, as_it_is, emptied, counted, with_ask, query_asks}
use Rattle.sr_session.specs.Rules as rules
use Rattle.sr_session.specs.Tidy.{IsTidyWith}
use Rattle.sr_session.specs.Bases.{basis_of}
use Rattle.sr_session.specs.Brought.{told_basis}
use Rattle.sr_store.specs.Brought.{IsToldOf}
use Rattle.sr_client.specs.ByTold.{GoesByTold}
use Rattle.sr_client.proofs.ByToldLemmas.{told-none}
use Rattle.sr_client.specs.Asking.{AsksRest, LeavesRest, entry_of, whole_asks}
use Rattle.sr_client.specs.Arriving.{is_empty}
use Rattle.sr_client.specs.Bound.{IsMeaning}
use Rattle.sr_client.specs.Cutting.{EndWith, RegionsEnd, PartsEnd, AsksEnd, AreCutAlong, IsOver}
use Rattle.sr_client.specs.Sending.{next_ask, with_out, asked_step, IsSent}
use Rattle.sr_client.specs.declared.client.Client.{Client}
use Rattle.sr_client.specs.declared.steps.QueryStep.{QueryStep}
use Rattle.sr_client.specs.Stands.{Hidden, Facts, HaveShortEnds, Stands, past_of, out_of, IsMeant, AreFit}
use Rattle.sr_client.specs.Steps.{SaysQuery, Queries}
use Rattle.sr_client.proofs.AskLemmas.{asks-whole, whole-along, whole-narrow}
use Rattle.sr_client.proofs.CountLemmas.{counted-more, counted-none}
use Rattle.sr_client.proofs.EndLemmas.{regions-more, parts-end}
use Rattle.sr_client.proofs.HeavyLemmas.{heavy-parts}
use Rattle.sr_client.proofs.LastLemmas.{last-asked}
use Rattle.sr_client.proofs.MeantLemmas.{are-meant, are-sound, tables-differ, parts-few}
use Rattle.sr_client.proofs.MoveLemmas.{MovesHere, queries-by}
use Rattle.sr_client.proofs.OverLemmas.{on, IsHere, with_regions}
use Rattle.sr_client.proofs.QueryLemmas.{none-laid, left-here}
use Rattle.sr_client.proofs.Renewal.{HaveFirst}
use Rattle.sr_client.proofs.ShortLemmas.{meaning-short, short-append}
use Rattle.sr_client.proofs.TableLemmas.{have-first}

is-empty : (gs : List Region) → is_empty gs ≡ true → gs ≡ []
is-empty [] h = refl
is-empty (g ∷ gs) h = absurd (cc)

empty-is : (gs : List Region) → gs ≡ [] → is_empty gs ≡ true
empty-is gs none = rw none refl

-- the mode of an ask says whether anything is held
mode-is : (schema : List Table) (marks : List Mark) (stamps : Stamps) (gs : List Region) → HaveFirst schema → All (IsOfSchema schema) gs → Keeps schema (is_held marks) stamps gs
    → IsTrue (is_empty gs) ↔ HoldsNothing schema marks
mode-is schema marks stamps gs first each keeps =
    let all = all_none schema marks stamps gs first each keeps in
    (λ h. all.0 (is-empty gs h), λ none. empty-is gs (all.1 none))

-- ---- a client that is about to ask

-- The client by whose marks a query asks: as it was, or once all is dropped.
pub record IsReady (c : Client) (m : model.Query) (h : Hidden) (drops : List Mark) (gs : List Region) : Type 0 where
  pub hidden : Hidden
  pub facts : Facts (with_regions c gs) hidden
  pub over : (db : Database) → IsHere db c → Before (basis_of (on c db) c.store.limits) m (past_of c h) drops (past_of (with_regions c gs) hidden) × IsHere db (with_regions c gs)
  pub told : (rows : Told) → IsToldOf c.schema rows c.store.regions → Before (told_basis c.schema c.store.limits rows) m (past_of c h) drops (past_of (with_regions c gs) hidden) × IsToldOf c.schema rows gs

pub ready-still : (c : Client) (m : model.Query) (h : Hidden) → Facts c h → IsReady c m h [] c.store.regions
ready-still c m h f = record { hidden = h; facts = f; over = λ db here. (as_it_is, here); told = λ rows is. (as_it_is, is) }

-- what asks: these parts of a query
pub record MayAsk (c : Client) (q : Query) (m : model.Query) (asks : List AskPart) : Type 0 where
  pub out : c.out ≡ None
  pub is : IsMeaning c.schema q m
  pub rest : AsksRest c.schema c.store.regions q.parts asks
  pub along : AreCutAlong c.schema c.store.regions q.parts asks
  pub some : asks ≡ [] → ⊥
  pub few : count_asked asks ≤ most_rects

abbrev asked_hidden : Hidden → model.Query → Hidden
asked_hidden h m = record h { queries = h.queries ++ record { query = m; answered = false } ∷ []; meaning = m }

-- the step of a query that asks something
asks-some : (b : rules.Basis) (past old : session.Client) (m : model.Query) (drops : List Mark) (asks : List AskPart) (fresh : Bool) → past.out ≡ None → Before b m past drops old → old.cut ≡ false → (asks ≡ [] → ⊥)
    → Asks b.schema old.marks m.parts asks → count_asked asks ≤ most_rects → IsTrue fresh ↔ HoldsNothing b.schema old.marks
    → rules.QueryStep b past (Ok m) (rules.AskSent drops old.next_request fresh asks) (with_ask old m fresh asks)
asks-some b past old m drops [] fresh out before up some asks few mode = absurd (some refl)
asks-some b past old m drops (ask ∷ others) fresh out before up some asks few mode = query_asks m drops old ask others fresh out before up asks few mode

module _ (c : Client) (q : Query) (m : model.Query) (asks : List AskPart) (may : MayAsk c q m asks) (h : Hidden) (f : Facts c h) where
  abbrev fresh : Bool
  fresh = is_empty c.store.regions

  abbrev sent : Client
  sent = with_out c (next_ask c q asks)

  pub are-asked : Asks c.schema h.marks m.parts asks
  are-asked = may.rest h.marks (stamp h.queries) m.parts f.keeps may.is.query.parts (are-sound c.schema q m may.is)

  pub mode : IsTrue (is_empty c.store.regions) ↔ HoldsNothing c.schema h.marks
  mode = mode-is c.schema h.marks (stamp h.queries) c.store.regions (have-first c.schema f.tables) f.store.each f.keeps

  laid : c.laid ≡ []
  laid = none-laid c h f may.out

  counts : length (asked_hidden h m).queries ≡ length h.queries + 1
  counts = length-append h.queries (record { query = m; answered = false } ∷ [])

  more : counted h.counted_from (asked_hidden h m).queries ≡ counted h.counted_from h.queries ++ m ∷ []
  more = counted-more h.counted_from h.queries (record { query = m; answered = false }) f.from

  ends : RegionsEnd c.schema (counted h.counted_from h.queries ++ m ∷ []) c.store.regions
  ends = regions-more c.schema (counted h.counted_from h.queries) (m ∷ []) c.store.regions f.ends

  own-end : PartsEnd c.schema (counted h.counted_from h.queries ++ m ∷ []) q.parts
  own-end = parts-end c.schema (counted h.counted_from h.queries) m [] q.parts m.parts refl may.is.query.parts

  pub ask-ends : AsksEnd c.schema (counted h.counted_from h.queries ++ m ∷ []) asks
  ask-ends = may.along (counted h.counted_from h.queries ++ m ∷ []) ends own-end

  pub sent-facts : c.cut ≡ false → Facts (with_out c (next_ask c q asks)) (asked_hidden h m)
  sent-facts up = record {
    tables = f.tables;
    tidy = (
      (
        refl,
        record {
          asks = are-asked;
          some = may.some;
          fresh_where = mode;
          earlier = h.queries;
          newest = refl;
          query_is = ap (λ n. n + 1) (sym f.queries) ∙ sym counts;
        },
      ),
      subst AreLaid (sym laid) tt,
    );
    down = λ down. absurd (let wrong : true ≡ false = sym down ∙ up in cc);
    meant = (may.is, subst (λ qs. PartsEnd c.schema qs q.parts) (sym more) own-end, subst (λ qs. AsksEnd c.schema qs asks) (sym more) ask-ends, may.few);
    fit = subst (AreFit c.schema (Some (AskOut c.next_request (c.queries + 1) m fresh asks)) c.version []) (sym laid) tt;
    store = f.store;
    settled = f.settled;
    keeps = keeps_same c.schema (is_held h.marks) (is_held h.marks) (stamp h.queries) (stamp (asked_hidden h m).queries) c.store.regions (λ t a p point. refl) (λ t a p point. sym (stamp_none h.queries m t a p)) f.keeps;
    queries = counts ∙ ap (λ n. n + 1) f.queries;
    last = subst (λ ps. AreLast c.schema ps c.store.last) (sym (last-asked h.queries m)) f.last;
    rows = f.rows;
    few = f.few;
    from = let few = f.from in omega (arith, few, counts);
    short = subst HaveShortEnds (sym more) (short-append (counted h.counted_from h.queries) (m ∷ []) f.short (meaning-short c.schema q m may.is));
    ends = subst (λ qs. RegionsEnd c.schema qs c.store.regions) (sym more) ends;
  }

-- what comes of it, by the marks of the client that is ready
module _ (c : Client) (q : Query) (m : model.Query) (asks : List AskPart) (drops : List Mark) (gs : List Region) (may : MayAsk (with_regions c gs) q m asks) where
  abbrev ready : Client
  ready = with_regions c gs

  abbrev gone : Client
  gone = with_out (with_regions c gs) (next_ask (with_regions c gs) q asks)

  abbrev sent-goes : (h : Hidden) → Facts c h → IsReady c m h drops gs → c.cut ≡ false
      → MovesHere c (with_out (with_regions c gs) (next_ask (with_regions c gs) q asks)) (past_of c h) (SaysQuery (past_of c h) (asked_step (next_ask (with_regions c gs) q asks) drops)) (λ db. Unit {0})
      (λ db. rules.QueryStep (basis_of db c.store.limits) (past_of c h) (Ok m))
  sent-goes h f r up =
      let old : session.Client = past_of (with_regions c gs) r.hidden in
      let fresh : Bool = is_empty gs in
      let facts = sent-facts (with_regions c gs) q m asks may r.hidden r.facts up in
      let asked : session.Client → ℕ → session.Client = λ old n. record old { queries = (asked_hidden r.hidden m).queries; next_request = c.next_request + 1; out = Some (AskOut c.next_request n m fresh asks) } in
      record {
        outcome = rules.AskSent drops c.next_request fresh asks;
        next = with_ask old m fresh asks;
        is = (ap (λ n. n + 1) (sym f.queries), fresh, asks, refl, refl);
        link = (up, up, λ none. absurd (let wrong : Some (AskOut c.next_request (length r.hidden.queries + 1) m fresh asks) ≡ None = none in cc));
        draws = omega arith;
        stands = (asked_hidden r.hidden m, facts, ap (λ n. asked old (n + 1)) r.facts.queries);
        over = λ db here it.
            let o = r.over db here in (
              asks-some (basis_of (on c db) c.store.limits) (past_of c h) old m drops asks fresh (ap (out_of h.meaning) may.out) o.0 up may.some
                  (are-asked (with_regions c gs) q m asks may r.hidden r.facts) may.few (mode (with_regions c gs) q m asks may r.hidden r.facts),
              record {
                sound = here.sound;
                schema = refl;
                within = here.within;
                client = record {
                  hidden = asked_hidden r.hidden m;
                  facts = facts;
                  same = ap (λ n. asked old (n + 1)) r.facts.queries;
                  are_true = o.1.are_true;
                };
              },
            );
      }

  sent-told : (h : Hidden) → Facts c h → c.cut ≡ false
      → (r : IsReady c m h drops gs) → GoesByTold c (with_out (with_regions c gs) (next_ask (with_regions c gs) q asks)) (λ told. told)
      (λ b. rules.QueryStep b (past_of c h) (Ok m) (rules.AskSent drops c.next_request (is_empty gs) asks) (with_ask (past_of (with_regions c gs) r.hidden) m (is_empty gs) asks))
  sent-told h f up r told is =
      let t = r.told told is in (
        t.1,
        asks-some (told_basis c.schema c.store.limits told) (past_of c h) (past_of (with_regions c gs) r.hidden) m drops asks (is_empty gs) (ap (out_of h.meaning) may.out) t.0 up may.some
            (are-asked (with_regions c gs) q m asks may r.hidden r.facts) may.few (mode (with_regions c gs) q m asks may r.hidden r.facts),
      )

  -- for every past that the client stood for
  pub query-sent : (new : Client) (step : QueryStep) → ((h : Hidden) → Facts c h → IsReady c m h drops gs) → c.cut ≡ false → IsSent (with_regions c gs) q asks drops new step → Stands c → Queries c m new step
  query-sent new step each up sent stands =
      let asked : Queries c m gone (asked_step (next_ask (with_regions c gs) q asks) drops) = queries-by c gone m (asked_step (next_ask (with_regions c gs) q asks) drops) (λ h f. sent-goes h f (each h f) up) (λ h f. sent-told h f up (each h f)) stands in
      subst (λ n. Queries c m n step) (sym sent.out) (subst (Queries c m gone) (sym sent.told) asked)

-- the rest of a query is asked
pub query-asks : (c : Client) (q : Query) (m : model.Query) (asks : List AskPart) (new : Client) (step : QueryStep) → MayAsk c q m asks → c.cut ≡ false → IsSent c q asks [] new step → Stands c → Queries c m new step
query-asks c q m asks new step may up sent stands = query-sent c q m asks [] c.store.regions may new step (ready-still c m) up sent stands

-- ---- all is dropped first

-- of parts without rects nothing is left
none-whole : (schema : List Table) (marks : List Mark) (parts : List Part) (meant : List model.Part) → AllZip (IsPart schema) parts meant → whole_asks parts ≡ [] → Asks schema marks meant []
none-whole schema marks [] [] zip none = nothing
none-whole schema marks [] (m ∷ meant) zip none = absurd zip
none-whole schema marks (p ∷ parts) [] zip none = absurd zip
none-whole schema marks (p ∷ parts) (m ∷ meant) zip none = by p.rects refl none (none-whole schema marks parts meant zip.1)
  where
    by : (rects : List Rect) → p.rects ≡ rects → entry_of p.table p.need rects ++ whole_asks parts ≡ [] → (whole_asks parts ≡ [] → Asks schema marks meant []) → Asks schema marks (m ∷ meant) []
    by [] e none rest =
        covered m meant [] (λ x point. ap (λ b. b && not (is_covered marks m.table m.need x)) (sym (zip.0.rects.points x point) ∙ ap (λ rects. in_any rects x) e)) (rest none)
    by (r ∷ rects) e none rest = absurd (cc)

-- the load is too high
pub load-heavy : (c : Client) (h : Hidden) (q : Query) (m : model.Query) → IsMeaning c.schema q m → Facts c h → IsOver c.schema c.store.regions q.parts
    → IsHeavy c.schema h.marks [] m (counted h.counted_from (h.queries ++ record { query = m; answered = false } ∷ []))
load-heavy c h q m is f over =
    let s = c.schema in
    let all : List model.Query = counted h.counted_from h.queries in
    let more : counted h.counted_from (h.queries ++ record { query = m; answered = false } ∷ []) ≡ all ++ m ∷ [] = counted-more h.counted_from h.queries (record { query = m; answered = false }) f.from in
    subst (IsHeavy s h.marks [] m) (sym more)
    (heavy-parts s h.marks m (all ++ m ∷ []) c.store.regions q.parts f.store.each (regions-more s all (m ∷ []) c.store.regions f.ends) is.query.parts (are-sound s q m is) (tables-differ s q m is)
    (parts-end s all m [] q.parts m.parts refl is.query.parts) over)

-- what is hidden once all is dropped before the next query
abbrev dropped_hidden : Hidden → List Mark → Hidden
dropped_hidden h drops = record h { marks = with_marks h.marks drops; counted_from = from_query (length h.queries + 1) }

pub facts-dropped : (c : Client) (h : Hidden) → Facts c h → c.out ≡ None → Facts (with_regions c []) (dropped_hidden h (map (drop_of Pieces) c.store.regions))
facts-dropped c h f out =
    let new : Hidden = dropped_hidden h (map (drop_of Pieces) c.store.regions) in
    record {
      tables = f.tables;
      tidy = subst (λ o. IsTidyWith c.schema (past_of (with_regions c []) (dropped_hidden h (map (drop_of Pieces) c.store.regions))) (out_of h.meaning o)) (sym out) (none-laid c h f out);
      down = f.down;
      meant = subst (IsMeant c.schema (counted (from_query (length h.queries + 1)) h.queries) h.meaning) (sym out) tt;
      fit = f.fit;
      store = none_store c.schema c.store.regions f.store;
      settled = λ is. none_settled c.schema;
      keeps = dropped_marks c.schema Pieces h.marks (stamp h.queries) c.store.regions f.keeps;
      queries = f.queries;
      last = f.last;
      rows = omega arith;
      few = omega arith;
      from = omega arith;
      short = subst HaveShortEnds (sym (counted-none (length h.queries) h.queries (omega arith))) (λ t k. refl);
      ends = All-nil (λ (g : Region). EndWith c.schema (counted (from_query (length h.queries + 1)) h.queries) g.table g.rects);
    }

-- all is dropped; where nothing was held the client stays as it is
ready-dropped : (c : Client) (q : Query) (m : model.Query) → IsMeaning c.schema q m → c.out ≡ None → LeavesRest c.schema c.store.regions q.parts → IsOver c.schema c.store.regions q.parts → (h : Hidden) → Facts c h
    → IsReady c m h (map (drop_of Pieces) c.store.regions) []
ready-dropped c q m is out left over h f = by c.store.regions refl
  where
    by : (gs : List Region) → c.store.regions ≡ gs → IsReady c m h (map (drop_of Pieces) c.store.regions) []
    by [] none =
        let still : IsReady c m h [] c.store.regions = ready-still c m h f in
        subst (λ rs. IsReady c m h (map (drop_of Pieces) rs) []) (sym none) (subst (IsReady c m h []) none still)
    by (g ∷ gs) some = record {
      hidden = dropped_hidden h (map (drop_of Pieces) c.store.regions);
      facts = facts-dropped c h f out;
      over = λ db here. (
        emptied (map (drop_of Pieces) c.store.regions) (record {
          left = left-here c q m h is f left;
          heavy = load-heavy c h q m is f over;
          all = drops_all c.schema h.marks h.queries Pieces c.store.regions (have-first c.schema f.tables) f.store.each f.store.order f.keeps;
          some = subst (λ rs. 0 < length (map (drop_of Pieces) rs)) (sym some) (omega arith);
        }),
        record { sound = here.sound; within = here.within; are_true = All-nil (IsTrueOf (told_of (tables_of db c.version))) },
      );
      told = λ rows own. (
        emptied (map (drop_of Pieces) c.store.regions) (record {
          left = left-here c q m h is f left;
          heavy = load-heavy c h q m is f over;
          all = drops_all c.schema h.marks h.queries Pieces c.store.regions (have-first c.schema f.tables) f.store.each f.store.order f.keeps;
          some = subst (λ rs. 0 < length (map (drop_of Pieces) rs)) (sym some) (omega arith);
        }),
        told-none c.schema rows own.0,
      );
    }

-- an entry of each part at most is asked
whole-length : (parts : List Part) → length (whole_asks parts) ≤ length parts
whole-length [] = omega arith
whole-length (p ∷ parts) = by p.rects (whole-length parts)
  where
    by : (rects : List Rect) → length (whole_asks parts) ≤ length parts → length (entry_of p.table p.need rects ++ whole_asks parts) ≤ length (p ∷ parts)
    by [] few = omega (arith, few)
    by (r ∷ rects) few = omega (arith, few)

-- in few rects
pub whole-rects : (schema : List Table) (q : Query) (m : model.Query) → IsMeaning schema q m → count_asked (whole_asks q.parts) ≤ most_rects
whole-rects schema q m is =
    let narrow = whole-narrow schema q.parts (are-meant schema q m is) in
    let entries = whole-length q.parts in
    let few = parts-few schema q m is in
    let sum = sum_by-le (λ (ask : AskPart). length ask.rects) 64 (whole_asks q.parts) narrow in
    omega (arith, entries, few, sum)

-- all of a query, once all is dropped
pub may-ask-whole : (c : Client) (q : Query) (m : model.Query) → c.out ≡ None → IsMeaning c.schema q m → LeavesRest c.schema c.store.regions q.parts → Stands c → MayAsk (with_regions c []) q m (whole_asks q.parts)
may-ask-whole c q m out is left stands = record {
  out = out;
  is = is;
  rest = asks-whole c.schema q.parts (have-first c.schema stands.1.tables);
  along = whole-along c.schema q.parts;
  some = λ none. left-here c q m stands.0 is stands.1 left (none-whole c.schema stands.0.marks q.parts m.parts is.query.parts none);
  few = whole-rects c.schema q m is;
}

pub query-drops : (c : Client) (q : Query) (m : model.Query) (drops : List Mark) (new : Client) (step : QueryStep) → c.out ≡ None → c.cut ≡ false → IsMeaning c.schema q m → LeavesRest c.schema c.store.regions q.parts
    → IsOver c.schema c.store.regions q.parts → drops ≡ map (drop_of Pieces) c.store.regions → IsSent (with_regions c []) q (whole_asks q.parts) drops new step → Stands c → Queries c m new step
query-drops c q m drops new step out up is left over drops_are sent stands =
    let may = may-ask-whole c q m out is left stands in
    query-sent c q m (whole_asks q.parts) (map (drop_of Pieces) c.store.regions) [] may new step (ready-dropped c q m is out left over) up
    (subst (λ ms. IsSent (with_regions c []) q (whole_asks q.parts) ms new step) drops_are sent) stands
