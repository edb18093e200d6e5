-- What a client keeps once a query is answered: all as it is renewed, within the limits, or nothing where that would be too many pieces.
use Rattle.std.proofs.Common.{◌≡◌, ℕ, ◌+◌, ◌≤◌, ◌<◌, true, List, [], ◌∷◌, ◌++◌, map, length, refl, sym, ◌∙◌, ap, subst, arith, inl, inr, append_assoc}
use Rattle.std.specs.Prelude.{◌⊎◌}
use Rattle.std.specs.List.{list_all, All, AllZip}
use Rattle.std.proofs.lemmas.List.Elements.{All-nil, All-weaker}
use Rattle.sr_cell.specs.declared.cause.Cause.TheVariants.{Pieces}
use Rattle.sr_cell.specs.declared.table.Table.{Table}
use Rattle.sr_cell.specs.Columns.{table_at}
use Rattle.sr_box.specs.Points.{Rect}
use Rattle.sr_message.specs.declared.message.AskPart.{AskPart}
use Rattle.sr_model.specs.Queries.{Query}
use Rattle.sr_model.specs.Statements.{Tables}
use Rattle.sr_query.specs.Bound.{is_table, IsPart}
use Rattle.sr_query.specs.declared.query.Part.{Part}
use Rattle.sr_policy.specs.declared.policy.Limits.{Limits}
use Rattle.sr_history.specs.declared.mark.Mark.{Mark}
use Rattle.sr_history.specs.Marks.{is_held, with_marks}
use Rattle.sr_history.specs.Classes.{Numbered, stamp}
use Rattle.sr_history.specs.Drops.{DropsAll}
use Rattle.sr_history.specs.Load.{parts_on, IsHeavy}
use Rattle.sr_history.specs.Victims.{AreLast, last_parts}
use Rattle.sr_history.proofs.Ends.{cuts_keep_ends}
use Rattle.sr_history.proofs.Marking.{with_marks-append}
use Rattle.sr_region.specs.declared.region.Region.{Region}
use Rattle.sr_region.specs.Applied.{AreTables}
use Rattle.sr_store.specs.declared.store.Arrival.{Arrival}
use Rattle.sr_store.specs.declared.store.Store.{Store}
use Rattle.sr_store.specs.Classes.{IsStamped, Keeps}
use Rattle.sr_store.specs.Brought.{IsToldOf}
use Rattle.sr_store.specs.Told.{Told, told_of, AreTrueOf}
use Rattle.sr_store.specs.Stores.{IsStore, drop_of}
use Rattle.sr_store.specs.Answered.{IsArrival, AreApart, giving_way, HaveArrived, IsGivenUp, held_of, rects_on}
use Rattle.sr_store.specs.Answered as store
use Rattle.sr_store.specs.Fitted.{lasts_of, count_rows, IsAnswered}
use Rattle.sr_store.specs.Renewing.{IsCutFrom}
use Rattle.sr_store.proofs.Absorbing.{drops_all}
use Rattle.sr_store.proofs.Fewer.{fitted_fit_still}
use Rattle.sr_store.proofs.Given.{FitsPart, given_fit}
use Rattle.sr_store.proofs.GivingWay.{nothing-gives}
use Rattle.sr_store.proofs.Lasts.{lasts_are_last}
use Rattle.sr_store.proofs.Meeting.{fitted_meets_budgets, fitted_meets_told_budgets}
use Rattle.sr_store.proofs.Stepping.{AreStampsAfter, dropped_marks}
use Rattle.sr_session.specs.Sessions.{Database, tables_of}
use Rattle.sr_session.specs.Clients as session
use Rattle.sr_session.specs.Clients.{Counting, answered, from_query}
use Rattle.sr_session.specs.Rules.{Answering, AnswerStep, Holds, counted, renewed, given_up}
use Rattle.sr_session.specs.Bases.{basis_of}
use Rattle.sr_session.specs.Brought.{told_basis}
use Rattle.sr_client.specs.Cutting.{EndWith, RegionsEnd, PartsEnd}
use Rattle.sr_client.specs.Stands.{HaveShortEnds}
use Rattle.sr_client.proofs.Calls.{IsAfter, none-arrived}
use Rattle.sr_client.proofs.CountLemmas.{counted-none}
use Rattle.sr_client.proofs.EndLemmas.{rects_on-end}
use Rattle.sr_client.proofs.FitLemmas.{fitted-keeps}
use Rattle.sr_client.proofs.HeavyLemmas.{WereAsked, heavy-load, light}
use Rattle.sr_client.proofs.Renewal.{HaveFirst, renewal}
use Rattle.sr_client.proofs.TableLemmas.{have-first, are-told}

-- What is known where a query is answered, whatever came. The queries are those after the answer.
pub record IsAnswering (schema : List Table) (number : ℕ) (parts : List Part) (arrivals : List Arrival) (old : Store) (asked : List AskPart) (q : Query) (queries : List Numbered) (c : session.Client) : Type 0 where
  pub tables : list_all is_table schema ≡ true
  pub store : IsStore schema old.regions
  pub keeps : Keeps schema (is_held c.marks) (stamp c.queries) old.regions
  pub stamps : AreStampsAfter schema number parts c.queries queries
  pub meant : AllZip (IsPart schema) parts q.parts
  pub last : last_parts queries ≡ q.parts
  pub fit : All (FitsPart schema) parts
  pub arrive : All (IsArrival schema parts) arrivals
  pub apart : AreApart schema old.regions arrivals
  pub holds : AllZip (Holds schema) asked (map held_of arrivals)
  pub were : WereAsked arrivals asked
  pub nothing : asked ≡ [] → arrivals ≡ []
  pub from : c.counted_from.from ≤ number + 1
  pub count : length queries ≤ number
  pub short : HaveShortEnds (counted c.counted_from queries)
  pub regions_end : RegionsEnd schema (counted c.counted_from queries) old.regions
  pub parts_end : PartsEnd schema (counted c.counted_from queries) parts
  pub arrivals_end : All (λ r. EndWith schema (counted c.counted_from queries) r.table r.rects) arrivals

-- the regions and what arrives have the rows of these tables
pub record AreTrue (schema : List Table) (tables : Tables) (arrivals : List Arrival) (regions : List Region) : Type 0 where
  pub are_tables : AreTables schema tables
  pub are_true : AreTrueOf (told_of tables) regions
  pub arrived : HaveArrived (told_of tables) arrivals

-- What is kept then: the regions are the classes of what is held, within the limits; queries from this number on count.
pub record IsKept (schema : List Table) (number : ℕ) (from : Counting) (queries : List Numbered) (c : session.Client) (marks : List Mark) (new : Store) : Type 0 where
  pub few : from.from ≤ number + 1
  pub short : HaveShortEnds (counted from queries)
  pub points : Keeps schema (is_held (with_marks c.marks marks)) (stamp queries) new.regions
  pub ends : RegionsEnd schema (counted from queries) new.regions
  pub rows : count_rows new.regions ≤ new.limits.rows
  pub regions : length new.regions ≤ new.limits.regions

-- regions that were cut along rects with such ends have such ends
cut-ends : (schema : List Table) (queries : List Query) (given : ℕ → List Rect) (gs : List Region) → ((t : ℕ) → EndWith schema queries t (given t)) → All (IsCutFrom schema given) gs → RegionsEnd schema queries gs
cut-ends schema queries given gs ends cuts =
    All-weaker (IsCutFrom schema given) (λ (g : Region). EndWith schema queries g.table g.rects)
    (λ g cut. cuts_keep_ends (table_at schema g.table).columns (parts_on g.table queries) (given g.table) g.rects cut (ends g.table)) gs cuts

-- whose tests count once this one is answered
abbrev pub from_of : {A B : Type 0} → ℕ → Counting → A ⊎ B → Counting
from_of number from (inl r) = from
from_of number from (inr g) = from_query (number + 1)

module _ (schema : List Table) (number : ℕ) (parts : List Part) (arrivals : List Arrival) (old : Store) (asked : List AskPart) (q : Query) (queries : List Numbered) (c : session.Client)
    (h : IsAnswering schema number parts arrivals old asked q queries c) (new : Store) (marks : List Mark) (a : IsAfter schema number parts arrivals old new marks) where
  first : HaveFirst schema
  first = have-first schema h.tables

  all-end : (t : ℕ) → EndWith schema (counted c.counted_from queries) t (rects_on old.regions parts arrivals t)
  all-end t = rects_on-end schema (counted c.counted_from queries) old.regions parts arrivals t h.regions_end h.parts_end h.arrivals_end

  -- what the query asked of its tables
  pub kept-last : AreLast schema (last_parts queries) new.last
  kept-last = subst (AreLast schema (last_parts queries)) (sym a.last) (subst (λ ps. AreLast schema ps (lasts_of schema parts)) (sym h.last) (lasts_are_last schema parts q.parts h.tables h.meant))

  -- ---- whatever came

  kept-renewed : IsAnswered schema old.limits number parts arrivals old.regions new.regions marks → IsKept schema number c.counted_from queries c marks new
  kept-renewed r =
      let ren = renewal schema number parts arrivals old.regions r.mid r.front c.marks c.queries queries first r.renewed h.keeps h.stamps in
      let held : List Mark = map held_of arrivals in
      let before : List Mark = with_marks (with_marks c.marks held) ren.absorbed in
      let left = fitted_fit_still schema old.limits (lasts_of schema parts) r.mid new.regions r.drops r.fitted in
      let all : marks ≡ held ++ (ren.absorbed ++ r.drops) = r.all ∙ (ap (λ ms. ms ++ r.drops) ren.all ∙ append_assoc held ren.absorbed r.drops) in
      let after : with_marks c.marks marks ≡ with_marks before r.drops =
      ap (with_marks c.marks) all ∙ (with_marks-append c.marks held (ren.absorbed ++ r.drops) ∙ with_marks-append (with_marks c.marks held) ren.absorbed r.drops) in
      record {
        few = h.from;
        short = h.short;
        points = subst (λ ms. Keeps schema (is_held ms) (stamp queries) new.regions) (sym after)
            (fitted-keeps schema old.limits (lasts_of schema parts) before (stamp queries) r.mid new.regions r.drops r.fitted ren.keeps);
        ends = cut-ends schema (counted c.counted_from queries) (rects_on old.regions parts arrivals) new.regions all-end a.cuts;
        rows = subst (λ (l : Limits). count_rows new.regions ≤ l.rows) (sym a.limits) left.rows;
        regions = subst (λ (l : Limits). length new.regions ≤ l.regions) (sym a.limits) left.regions;
      }

  kept-nothing : IsGivenUp schema parts arrivals old.regions new.regions marks → IsKept schema number (from_query (number + 1)) queries c marks new
  kept-nothing g =
      let left = subst (λ ms. Keeps schema (is_held (with_marks c.marks ms)) (stamp c.queries) []) (sym g.marks_are) (dropped_marks schema Pieces c.marks (stamp c.queries) old.regions h.keeps) in
      let none : Keeps schema (is_held (with_marks c.marks marks)) (stamp queries) [] = record { points = left.points; stamped = All-nil (IsStamped schema (stamp queries)) } in
      record {
        few = omega arith;
        short = subst HaveShortEnds (sym (counted-none number queries h.count)) (λ t k. refl);
        points = subst (Keeps schema (is_held (with_marks c.marks marks)) (stamp queries)) (sym g.left) none;
        ends = subst (RegionsEnd schema (counted (from_query (number + 1)) queries)) (sym g.left) (All-nil (λ (r : Region). EndWith schema (counted (from_query (number + 1)) queries) r.table r.rects));
        rows = subst (λ gs. count_rows gs ≤ new.limits.rows) (sym g.left) (omega arith);
        regions = subst (λ (gs : List Region). length gs ≤ new.limits.regions) (sym g.left) (omega arith);
      }

  kept-by : (x : IsAnswered schema old.limits number parts arrivals old.regions new.regions marks ⊎ IsGivenUp schema parts arrivals old.regions new.regions marks)
      → IsKept schema number (from_of number c.counted_from x) queries c marks new
  kept-by (inl r) = kept-renewed r
  kept-by (inr g) = kept-nothing g

  pub kept : IsKept schema number (from_of number c.counted_from a.answered) queries c marks new
  kept = kept-by a.answered

  -- ---- where the rows are those of some tables

  -- nothing gave way, since what was held and what arrived have the rows of the same tables
  given-true : (tables : Tables) → AreTrue schema tables arrivals old.regions → AreTrueOf (told_of tables) (giving_way arrivals old.regions)
  given-true tables t =
      subst (AreTrueOf (told_of tables))
      (sym (nothing-gives schema parts old.regions arrivals (told_of tables) h.store.each h.arrive h.apart (are-told schema tables t.are_tables) t.are_true t.arrived)) t.are_true

  pub kept-true : (tables : Tables) → AreTrue schema tables arrivals old.regions → AreTrueOf (told_of tables) new.regions
  kept-true tables t = a.true_still (told_of tables) (are-told schema tables t.are_tables) (given-true tables t) t.arrived

  -- the load is too high
  is-heavy : store.IsHeavy schema old.regions parts arrivals → IsHeavy schema c.marks asked q (counted c.counted_from queries)
  is-heavy heavy =
      heavy-load schema c.marks (stamp c.queries) old.regions arrivals asked q (counted c.counted_from queries) heavy.sets (rects_on old.regions parts arrivals) first h.store.each h.keeps h.were heavy.once heavy.used
      (λ t. given_fit schema old.regions parts arrivals t h.store.each h.fit h.arrive) all-end heavy.heavy

  -- something is dropped, or was asked
  is-some : store.IsHeavy schema old.regions parts arrivals → marks ≡ map (drop_of Pieces) old.regions → 0 < length marks + length asked
  is-some heavy marks_are = by asked refl old.regions refl
    where
      by : (asks : List AskPart) → asked ≡ asks → (gs : List Region) → old.regions ≡ gs → 0 < length marks + length asked
      by (ask ∷ asks) e gs f = let l : length asked ≡ length (ask ∷ asks) = ap length e in omega (arith, l)
      by [] e (g ∷ gs) f = let l : length marks ≡ length (map (drop_of Pieces) (g ∷ gs)) = ap length marks_are ∙ ap (λ rs. length (map (drop_of Pieces) rs)) f in omega (arith, l)
      by [] e [] f =
          let none = h.nothing e in
          absurd (light heavy.sets (rects_on old.regions parts arrivals) schema
          (λ t. subst (λ rs. list_all (store.is_used [] rs t) (heavy.sets t) ≡ true) none (subst (λ gs. list_all (store.is_used gs arrivals t) (heavy.sets t) ≡ true) f (heavy.used t))) heavy.heavy)

  abbrev answering : ℕ → Answering
  answering version = record { number = number; query = q; version = version; asked = asked; queries = queries }

  -- by the rows that the frames brought, whatever they were
  module _ (told : Told) (version : ℕ) (is : IsToldOf schema told (giving_way arrivals old.regions)) (arrived : HaveArrived told arrivals) where
    pub kept-told : IsToldOf schema told new.regions
    kept-told = (is.0, a.true_still told is.0 is.1 arrived)

    told-renewed : IsAnswered schema old.limits number parts arrivals old.regions new.regions marks
        → AnswerStep (told_basis schema old.limits told) (answering version) c marks (answered c queries c.counted_from version marks)
    told-renewed r =
        let ren = renewal schema number parts arrivals old.regions r.mid r.front c.marks c.queries queries first r.renewed h.keeps h.stamps in
        let held : List Mark = map held_of arrivals in
        let before : List Mark = with_marks (with_marks c.marks held) ren.absorbed in
        let last = subst (λ ps. AreLast schema ps (lasts_of schema parts)) (sym h.last) (lasts_are_last schema parts q.parts h.tables h.meant) in
        let met = fitted_meets_told_budgets schema told old.limits before queries (lasts_of schema parts) r.mid new.regions r.drops h.tables is.0 r.store ren.keeps (r.true_still told is.0 is.1 arrived) last r.fitted in
        let all : marks ≡ held ++ (ren.absorbed ++ r.drops) = r.all ∙ (ap (λ ms. ms ++ r.drops) ren.all ∙ append_assoc held ren.absorbed r.drops) in
        renewed marks (record { held = held; absorbed = ren.absorbed; drops = r.drops; holds = h.holds; absorbs = ren.absorbs; budgets = met; all = all })

    told-nothing : IsGivenUp schema parts arrivals old.regions new.regions marks
        → AnswerStep (told_basis schema old.limits told) (answering version) c marks (answered c queries (from_query (number + 1)) version marks)
    told-nothing g =
        let all : DropsAll schema c.marks c.queries Pieces marks = subst (DropsAll schema c.marks c.queries Pieces) (sym g.marks_are) (drops_all schema c.marks c.queries Pieces old.regions first h.store.each h.store.order h.keeps) in
        given_up marks (record { heavy = is-heavy g.heavy; drops = all; some = is-some g.heavy g.marks_are })

    told-by : (x : IsAnswered schema old.limits number parts arrivals old.regions new.regions marks ⊎ IsGivenUp schema parts arrivals old.regions new.regions marks)
        → AnswerStep (told_basis schema old.limits told) (answering version) c marks (answered c queries (from_of number c.counted_from x) version marks)
    told-by (inl r) = told-renewed r
    told-by (inr g) = told-nothing g

    pub told-step : AnswerStep (told_basis schema old.limits told) (answering version) c marks (answered c queries (from_of number c.counted_from a.answered) version marks)
    told-step = told-by a.answered

  -- where nothing arrives nothing gives way
  pub still-told : arrivals ≡ [] → (told : Told) → IsToldOf schema told old.regions → IsToldOf schema told (giving_way arrivals old.regions) × HaveArrived told arrivals
  still-told none told (is, own) =
      let arrived : HaveArrived told arrivals = subst (HaveArrived told) (sym none) (none-arrived told) in
      ((is, subst (AreTrueOf told) (sym (nothing-gives schema parts old.regions arrivals told h.store.each h.arrive h.apart is own arrived)) own), arrived)

  -- over a database of this schema, at one of its versions
  module _ (db : Database) (version : ℕ) (t : AreTrue schema (tables_of db version) arrivals old.regions) where
    abbrev over : Database
    over = record db { schema = schema }

    step-renewed : IsAnswered schema old.limits number parts arrivals old.regions new.regions marks
        → AnswerStep (basis_of over old.limits) (answering version) c marks (answered c queries c.counted_from version marks)
    step-renewed r =
        let tables : Tables = tables_of db version in
        let ren = renewal schema number parts arrivals old.regions r.mid r.front c.marks c.queries queries first r.renewed h.keeps h.stamps in
        let held : List Mark = map held_of arrivals in
        let before : List Mark = with_marks (with_marks c.marks held) ren.absorbed in
        let true_mid = r.true_still (told_of tables) (are-told schema tables t.are_tables) (given-true tables t) t.arrived in
        let last = subst (λ ps. AreLast schema ps (lasts_of schema parts)) (sym h.last) (lasts_are_last schema parts q.parts h.tables h.meant) in
        let met = fitted_meets_budgets schema tables old.limits before queries (lasts_of schema parts) r.mid new.regions r.drops h.tables t.are_tables r.store ren.keeps true_mid last r.fitted in
        let all : marks ≡ held ++ (ren.absorbed ++ r.drops) = r.all ∙ (ap (λ ms. ms ++ r.drops) ren.all ∙ append_assoc held ren.absorbed r.drops) in
        renewed marks (record { held = held; absorbed = ren.absorbed; drops = r.drops; holds = h.holds; absorbs = ren.absorbs; budgets = met.0; all = all })

    step-nothing : IsGivenUp schema parts arrivals old.regions new.regions marks
        → AnswerStep (basis_of over old.limits) (answering version) c marks (answered c queries (from_query (number + 1)) version marks)
    step-nothing g =
        let all : DropsAll schema c.marks c.queries Pieces marks = subst (DropsAll schema c.marks c.queries Pieces) (sym g.marks_are) (drops_all schema c.marks c.queries Pieces old.regions first h.store.each h.store.order h.keeps) in
        given_up marks (record { heavy = is-heavy g.heavy; drops = all; some = is-some g.heavy g.marks_are })

    step-by : (x : IsAnswered schema old.limits number parts arrivals old.regions new.regions marks ⊎ IsGivenUp schema parts arrivals old.regions new.regions marks)
        → AnswerStep (basis_of over old.limits) (answering version) c marks (answered c queries (from_of number c.counted_from x) version marks)
    step-by (inl r) = step-renewed r
    step-by (inr g) = step-nothing g

    pub answer-step : AnswerStep (basis_of over old.limits) (answering version) c marks (answered c queries (from_of number c.counted_from a.answered) version marks)
    answer-step = step-by a.answered
