-- What is asked, point by point, and queries of which nothing is asked.
use Rattle.std.proofs.Common.{◌≡◌, ℕ, zero, suc, Bool, true, false, List, [], ◌∷◌, refl, sym, ◌∙◌, ap, subst, arith, Some, None, inl, inr}
use Rattle.std.specs.Prelude.{◌&&◌, ◌==◌, ◌⊎◌, not, slice_get, Result, Ok}
use Rattle.std.specs.List.{All}
use Rattle.std.proofs.lemmas.Bool.Decides.{nat_tests}
use Rattle.std.proofs.lemmas.List.Elements.{All-nil, All-cons, All-head, All-tail}
use Rattle.sr_cell.specs.declared.fault.Fault.{Fault}
use Rattle.sr_cell.specs.declared.table.Table.{Table}
use Rattle.sr_cell.specs.Attrs.{includes}
use Rattle.sr_cell.specs.Cells.{Row}
use Rattle.sr_cell.specs.Columns.{is_point, table_at}
use Rattle.sr_box.specs.Points.{HasNoPoint, in_any}
use Rattle.sr_message.specs.declared.message.AskPart.{AskPart}
use Rattle.sr_model.specs.Queries.{Part, Query, points_of, rows_of}
use Rattle.sr_history.specs.declared.mark.Mark.{Mark}
use Rattle.sr_history.specs.Marks.{is_covered, is_held}
use Rattle.sr_history.specs.Rests.{Asks, IsRest, asked, covered, nothing, rest_of}
use Rattle.sr_history.specs.Classes.{Numbered, stamp}
use Rattle.sr_history.proofs.Marking.{some-attrs, any-attrs}
use Rattle.sr_session.specs.Sessions.{tables_of}
use Rattle.sr_session.specs.Clients.{Client, Pair}
use Rattle.sr_session.specs.Rules.{Answered, Basis, Before, LeavesSome, Outcome, QueryStep, as_it_is, emptied, next_query, query_answered, query_asks, query_busy, query_down, query_refused, sent_of}
use Rattle.sr_session.specs.Scenes.{Scene, acted, basis_of, pair_at, queried, with_pair}
use Rattle.sr_session.specs.Headline.{ACoveredQueryIsAnswered, ACoveredQuerySendsNothing, AreAskedFor, AsksByPoints, HasClassFor, IsAskedJust, IsCovered, IsOfSomePart, IsSilent, IsUncovered}
use Rattle.sr_session.proofs.QueryLemmas.{silent-line}
use Rattle.sr_session.proofs.ReachLemmas.{at-set}

-- ---- covered points, by classes

module _ (marks : List Mark) (queries : List Numbered) (part : Part) (p : Row) where
  abbrev serves : ℕ → Bool
  serves a = includes a part.need && is_held marks part.table a p

  class-for : is_covered marks part.table part.need p ≡ true → HasClassFor marks queries part p
  class-for is =
      let found = any-attrs serves marks is in
      let a = found.0 in
      let need : includes a part.need ≡ true = grind (arith, found.1) in
      let own : is_held marks part.table a p ≡ true = grind (arith, found.1) in
      let same : (stamp queries part.table a p == stamp queries part.table a p) ≡ true = grind (arith, nat_tests) in
      (record { table = part.table; attrs = a; stamp = stamp queries part.table a p }, refl, need, rw (own, same) refl)

  covered-by : HasClassFor marks queries part p → is_covered marks part.table part.need p ≡ true
  covered-by (k, table, need, inside) =
      let own : is_held marks k.table k.attrs p ≡ true = grind (arith, inside) in
      let here : is_held marks part.table k.attrs p ≡ true = subst (λ t. is_held marks t k.attrs p ≡ true) table own in
      some-attrs serves marks part.table k.attrs p here (grind (arith, need, here))

  uncovered : rest_of marks part p ≡ true → IsUncovered marks queries part p
  uncovered is = (grind (arith, is), λ class. let yes = covered-by class in let no : is_covered marks part.table part.need p ≡ false = grind (arith, is) in let wrong : true ≡ false = sym yes ∙ no in cc)

  is-rest : IsUncovered marks queries part p → rest_of marks part p ≡ true
  is-rest (meets, none) = go (is_covered marks part.table part.need p) refl
    where
      go : (b : Bool) → is_covered marks part.table part.need p ≡ b → (points_of part p && not b) ≡ true
      go true e = absurd (none (class-for e))
      go false e = grind (arith, meets)

-- ---- what is asked

module _ (schema : List Table) (marks : List Mark) (queries : List Numbered) where
  asked-there : (asks : List AskPart) (ask : AskPart) (part : Part) → IsAskedJust schema marks queries asks part → IsAskedJust schema marks queries (ask ∷ asks) part
  asked-there asks ask part h = record { rects = h.rects; asked = by h.asked; just = h.just }
    where
      by : (h.rects ≡ []) ⊎ AreAskedFor asks part h.rects → (h.rects ≡ []) ⊎ AreAskedFor (ask ∷ asks) part h.rects
      by (inl none) = inl none
      by (inr a) = inr (record { place = suc a.place; ask = a.ask; there = a.there; table = a.table; columns = a.columns; rects_are = a.rects_are })

  none-asked : (asks : List AskPart) (part : Part) → HasNoPoint (table_at schema part.table).columns (rest_of marks part) → IsAskedJust schema marks queries asks part
  none-asked asks part free = record {
    rects = [];
    asked = inl refl;
    just = λ p point. (λ inside. absurd (let wrong : false ≡ true = inside in cc), λ un. absurd (let yes = is-rest marks queries part p un in let wrong : true ≡ false = sym yes ∙ free p point in cc));
  }

  first-asked : (asks : List AskPart) (ask : AskPart) (part : Part) → IsRest schema marks part ask → IsAskedJust schema marks queries (ask ∷ asks) part
  first-asked asks ask part rest = record {
    rects = ask.rects;
    asked = inr (record { place = 0; ask = ask; there = refl; table = rest.table; columns = λ c need. (rest.columns c).1 (inl need); rects_are = refl });
    just = λ p point. (λ inside. uncovered marks queries part p (sym (rest.same p point) ∙ inside), λ un. rest.same p point ∙ is-rest marks queries part p un);
  }

  each-part : (parts : List Part) (asks : List AskPart) → Asks schema marks parts asks → (place : ℕ) (part : Part) → slice_get parts place ≡ Some part → IsAskedJust schema marks queries asks part
  each-part parts asks nothing place part is = absurd (cc)
  each-part parts asks (covered first others more free rest) zero part is = let same : first ≡ part = cc in subst (IsAskedJust schema marks queries asks) same (none-asked asks first free)
  each-part parts asks (covered first others more free rest) (suc place) part is = each-part others asks rest place part is
  each-part parts asks (asked first others ask more own rest) zero part is = let same : first ≡ part = cc in subst (IsAskedJust schema marks queries asks) same (first-asked more ask first own)
  each-part parts asks (asked first others ask more own rest) (suc place) part is = asked-there more ask part (each-part others more rest place part is)

  later-part : (first : Part) (others : List Part) (ask : AskPart) (p : Row) → IsOfSomePart marks queries others ask p → IsOfSomePart marks queries (first ∷ others) ask p
  later-part first others ask p h = record { place = suc h.place; part = h.part; there = h.there; table = h.table; uncovered = h.uncovered }

  nothing-else : (parts : List Part) (asks : List AskPart) → Asks schema marks parts asks → (place : ℕ) (ask : AskPart) (p : Row) → slice_get asks place ≡ Some ask
      → is_point (table_at schema ask.table).columns p ≡ true → in_any ask.rects p ≡ true → IsOfSomePart marks queries parts ask p
  nothing-else parts asks nothing place ask p is point inside = absurd (cc)
  nothing-else parts asks (covered first others more free rest) place ask p is point inside = later-part first others ask p (nothing-else others asks rest place ask p is point inside)
  nothing-else parts asks (asked first others own more rest tail) zero ask p is point inside =
      let same : ask ≡ own = cc in
      let table : ask.table ≡ first.table = ap (λ a. a.table) same ∙ rest.table in
      let here : is_point (table_at schema first.table).columns p ≡ true = subst (λ t. is_point (table_at schema t).columns p ≡ true) table point in
      let there : in_any own.rects p ≡ true = subst (λ a. in_any a.rects p ≡ true) same inside in
      record { place = 0; part = first; there = refl; table = sym table; uncovered = uncovered marks queries first p (sym (rest.same p here) ∙ there) }
  nothing-else parts asks (asked first others own more rest tail) (suc place) ask p is point inside = later-part first others ask p (nothing-else others more tail place ask p is point inside)

pub asks-by-points : AsksByPoints
asks-by-points schema marks queries parts asks h = record { each = each-part schema marks queries parts asks h; nothing_else = nothing-else schema marks queries parts asks h }

-- ---- nothing is asked of what is covered

none-to-ask : (schema : List Table) (marks : List Mark) (parts : List Part) (asks : List AskPart) → All (λ part. HasNoPoint (table_at schema part.table).columns (rest_of marks part)) parts
    → Asks schema marks parts asks → asks ≡ []
none-to-ask schema marks parts asks all nothing = refl
none-to-ask schema marks parts asks all (covered part others more free rest) =
    none-to-ask schema marks others asks (All-tail (λ part. HasNoPoint (table_at schema part.table).columns (rest_of marks part)) part others all) rest
none-to-ask schema marks parts asks all (asked part others ask more own rest) =
    let free = All-head (λ part. HasNoPoint (table_at schema part.table).columns (rest_of marks part)) part others all in
    let p = own.some.0 in
    absurd (let no = free p own.some.1 in let wrong : true ≡ false = sym own.some.2 ∙ no in cc)

-- where nothing is asked, each point is covered; and conversely
pub none-left : (schema : List Table) (marks : List Mark) (parts : List Part) → Asks schema marks parts [] → All (λ part. HasNoPoint (table_at schema part.table).columns (rest_of marks part)) parts
none-left schema marks [] nothing = All-nil (λ part. HasNoPoint (table_at schema part.table).columns (rest_of marks part))
none-left schema marks (part ∷ parts) (covered own others asks free rest) =
    All-cons (λ part. HasNoPoint (table_at schema part.table).columns (rest_of marks part)) part parts free (none-left schema marks parts rest)

pub nothing-left : (schema : List Table) (marks : List Mark) (parts : List Part) → All (λ part. HasNoPoint (table_at schema part.table).columns (rest_of marks part)) parts → Asks schema marks parts []
nothing-left schema marks [] all = nothing
nothing-left schema marks (part ∷ parts) all =
    covered part parts [] (All-head (λ part. HasNoPoint (table_at schema part.table).columns (rest_of marks part)) part parts all)
    (nothing-left schema marks parts (All-tail (λ part. HasNoPoint (table_at schema part.table).columns (rest_of marks part)) part parts all))

-- where something is asked, something is left to ask
pub some-left : (schema : List Table) (marks : List Mark) (parts : List Part) (asks : List AskPart) → Asks schema marks parts asks → (asks ≡ [] → ⊥) → Asks schema marks parts [] → ⊥
some-left schema marks parts asks rest some none = some (none-to-ask schema marks parts asks (none-left schema marks parts none) rest)

module _ (b : Basis) (q : Query) (c : Client) (is_covered_all : IsCovered b.schema c.marks q) where
  -- something is left of no covered query
  never-left : LeavesSome b q c → ⊥
  never-left left = left (nothing-left b.schema c.marks q.parts is_covered_all)

  pub asks-never : (drops : List Mark) (mid : Client) (ask : AskPart) (others : List AskPart) → Before b q c drops mid → Asks b.schema mid.marks q.parts (ask ∷ others) → ⊥
  asks-never drops mid ask others as_it_is asks = let none = none-to-ask b.schema c.marks q.parts (ask ∷ others) is_covered_all asks in cc
  asks-never drops mid ask others (emptied ds first) asks = never-left first.left

  -- nothing is sent
  pub query-silent : (text : Result Query Fault) (o : Outcome) (new : Client) → text ≡ Ok q → QueryStep b c text o new → sent_of o ≡ []
  query-silent text o new says (query_refused fault) = refl
  query-silent text o new says (query_busy x request out) = refl
  query-silent text o new says (query_answered x rows marks after out asks are step) = refl
  query-silent text o new says (query_down x out down left) = refl
  query-silent text o new says (query_asks x drops mid ask others fresh out before up asks few mode) =
      let same : x ≡ q = cc in
      absurd (asks-never drops mid ask others (subst (λ y. Before b y c drops mid) same before) (subst (λ y. Asks b.schema mid.marks y.parts (ask ∷ others)) same asks))

silent-so : (s : Scene) (n : ℕ) (old : Pair) (o : Outcome) (new : Client) → pair_at s n ≡ Some old → sent_of o ≡ [] → IsSilent (with_pair s n (acted new old.connection o)) n old o
silent-so s n old o new is none = record {
  sends = none;
  after = acted new old.connection o;
  after_is = at-set s n old (acted new old.connection o) is;
  connection = silent-line old.connection o none;
}

pub a-covered-query-sends-nothing : ACoveredQuerySendsNothing
a-covered-query-sends-nothing s new n q o old (queried m text own x c there step) before covered_all =
    let e : Some own ≡ Some old = sym there ∙ before in
    let same : own ≡ old = cc in
    subst (λ pair. IsSilent (with_pair s n (acted c pair.connection o)) n old o) (sym same)
    (silent-so s n old o c before
    (query-silent (basis_of s) q old.client covered_all (Ok q) o c refl (subst (λ pair. QueryStep (basis_of s) pair.client (Ok q) o c) same step)))

module _ (s : Scene) (q : Query) (c : Client) (is_covered_all : IsCovered s.database.schema c.marks q) (free : c.out ≡ None) where
  abbrev IsAnswered : Outcome → Type 0
  IsAnswered o = (marks : List Mark) × (o ≡ Answered (next_query c) c.version (rows_of q (tables_of s.database c.version)) marks)

  query-answers : (text : Result Query Fault) (o : Outcome) (new : Client) → text ≡ Ok q → QueryStep (basis_of s) c text o new → IsAnswered o
  query-answers text o new says (query_refused fault) = absurd (cc)
  query-answers text o new says (query_busy x request out) = absurd (let wrong : None ≡ Some request = sym free ∙ out in cc)
  query-answers text o new says (query_answered x rows marks after out asks are step) =
      let same : x ≡ q = cc in
      let right : rows ≡ rows_of q (tables_of s.database c.version) = are ∙ ap (λ y. rows_of y (tables_of s.database c.version)) same in
      (marks, ap (λ r. Answered (next_query c) c.version r marks) right)
  query-answers text o new says (query_down x out down left) =
      let same : x ≡ q = cc in
      absurd (never-left (basis_of s) q c is_covered_all (subst (λ y. LeavesSome (basis_of s) y c) same left))
  query-answers text o new says (query_asks x drops mid ask others fresh out before up asks few mode) =
      let same : x ≡ q = cc in
      absurd (asks-never (basis_of s) q c is_covered_all drops mid ask others (subst (λ y. Before (basis_of s) y c drops mid) same before)
      (subst (λ y. Asks s.database.schema mid.marks y.parts (ask ∷ others)) same asks))

pub a-covered-query-is-answered : ACoveredQueryIsAnswered
a-covered-query-is-answered s new n q o old (queried m text own x c there step) before covered_all free =
    let e : Some own ≡ Some old = sym there ∙ before in
    let same : own ≡ old = cc in
    query-answers s q old.client covered_all free (Ok q) o c refl (subst (λ pair. QueryStep (basis_of s) pair.client (Ok q) o c) same step)
