-- What the tests need of stores to which no rows come, or one.
use Rattle.std.proofs.Common.{◌≡◌, ℕ, ◌+◌, ◌<◌, ◌≤◌, zero, suc, true, false, List, [], ◌∷◌, length, get_or, refl, sym, ap, ap₂, subst, ◌∙◌, arith}
use Rattle.std.specs.Prelude.{Bool, ◌&&◌, ◌||◌, ◌==◌, if◌then◌else◌, ℤ, pos, Some}
use Rattle.std.specs.List.{All, list_all}
use Rattle.std.proofs.lemmas.Bool.Decides.{nat_tests}
use Rattle.std.proofs.lemmas.List.Elements.{All-nil, All-cons, All-same}
use Rattle.sr_cell.specs.declared.cell.Cell.TheVariants.{Num}
use Rattle.sr_cell.specs.declared.table.Table.{Table}
use Rattle.sr_cell.specs.Attrs.{includes}
use Rattle.sr_cell.specs.Cells.{Row, cell_at}
use Rattle.sr_cell.specs.Columns.{table_at, is_point}
use Rattle.sr_message.specs.declared.message.Tell.{Tell}
use Rattle.sr_model.specs.SortedRows.{ascend}
use Rattle.sr_box.specs.declared.span.Span.TheVariants.{Full, Nums}
use Rattle.sr_box.specs.Points.{Rect, in_any, rect_fits}
use Rattle.sr_query.specs.declared.query.Part.{Part}
use Rattle.sr_region.specs.declared.region.Region.{Region}
use Rattle.sr_region.specs.Regions.{rank, IsRowIn}
use Rattle.sr_store.specs.declared.store.Arrival.{Arrival}
use Rattle.sr_store.specs.Classes.{occurs}
use Rattle.sr_store.specs.Stores.{IsOfSchema, IsStore, IsSettled, cover_of}
use Rattle.sr_store.specs.Answered.{AreApart, IsArrival}
use Rattle.sr_store.specs.Making.{HaveNoCommon}
use Rattle.sr_store.specs.Noticed.{IsTellOf}
use Rattle.sr_store.proofs.Covering.{cover_has}
use Rattle.sr_store.proofs.Fewer.{none_settled}
use Rattle.sr_trials_points.proofs.Regions.{first_two}

abbrev pub empty_store : (schema : List Table) (gs : List Region) → gs ≡ [] → IsStore schema gs
empty_store schema gs none = subst (IsStore schema) (sym none) (record {
  each = All-nil (IsOfSchema schema);
  order = refl;
  once = λ t a p point. omega arith;
  keys = λ t a k. omega arith;
  few = omega arith;
})

abbrev pub empty_settled : (schema : List Table) (gs : List Region) → gs ≡ [] → IsSettled schema gs
empty_settled schema gs none = subst (IsSettled schema) (sym none) (none_settled schema)

-- ---- one range of ages, and what arrives of it

abbrev pub ages_of : ℤ → ℤ → List Rect
ages_of lo hi = (Full ∷ Nums lo hi ∷ Full ∷ []) ∷ []

-- the numbers of a program are those that were given
pub ages_same : (rects : List Rect) (a b lo hi : ℤ) → rects ≡ ages_of a b → a ≡ lo → b ≡ hi → rects ≡ ages_of lo hi
ages_same rects a b lo hi is low high = is ∙ ap₂ ages_of low high

abbrev pub part_of : List Rect → Part
part_of rects = record { table = 0; key = 0; need = 3; rects = rects; width = 1 }

abbrev pub arrival_of : List Rect → List Row → Arrival
arrival_of rects rows = record { table = 0; key = 0; attrs = 3; rects = rects; rows = rows }

pub one_arrives : (schema : List Table) (parts : List Part) (rs : List Arrival) (lo hi : ℤ) (rows : List Row) → parts ≡ part_of (ages_of lo hi) ∷ []
    → rs ≡ arrival_of (ages_of lo hi) rows ∷ [] → 0 < length schema → (table_at schema 0).key ≡ 0 → list_all (rect_fits (table_at schema 0).columns) (ages_of lo hi) ≡ true
    → All (IsRowIn (table_at schema 0).columns 3 (ages_of lo hi)) rows → ascend (rank 3 0) rows ≡ true → All (IsArrival schema parts) rs
one_arrives schema parts rs lo hi rows asked is there key fit each ascending =
    All-same (IsArrival schema parts) rs (arrival_of (ages_of lo hi) rows ∷ []) is
    (All-cons (IsArrival schema parts) (arrival_of (ages_of lo hi) rows) []
    (subst (λ ps. IsArrival schema ps (arrival_of (ages_of lo hi) rows)) (sym asked) (record {
      table = there;
      key = sym key;
      has_key = refl;
      own = first_two (table_at schema 0) Full (Nums lo hi) (Full ∷ []) fit;
      some = λ none. absurd (cc none);
      fit = fit;
      only = refl;
      touched = λ p point there. ap (λ b. b || false) there;
      rows = each;
      ascending = ascending;
    }))
    (All-nil (IsArrival schema parts)))

-- a check against the first table is one against the table of number zero
pub first_fits : (schema ts : List Table) (t : Table) (rects given : List Rect) → ts ≡ schema → 0 < length schema → t ≡ get_or ts 0 t → rects ≡ given
    → list_all (rect_fits t.columns) rects ≡ true → list_all (rect_fits (table_at schema 0).columns) given ≡ true
first_fits schema ts t rects given same there is own fit =
    let table = go schema there (is ∙ ap (λ us. get_or us 0 t) same) in
    ap (λ (u : Table). list_all (rect_fits u.columns) given) (sym table) ∙ ap (λ rs. list_all (rect_fits t.columns) rs) (sym own) ∙ fit
  where
    go : (us : List Table) → 0 < length us → t ≡ get_or us 0 t → t ≡ table_at us 0
    go [] none at = absurd (omega (arith, none))
    go (u ∷ us) some at = at

pub apart_alone : (schema : List Table) (gs : List Region) (rs : List Arrival) (r : Arrival) → rs ≡ r ∷ [] → gs ≡ [] → AreApart schema gs rs
apart_alone schema gs rs r is none = subst (AreApart schema gs) (sym is) (subst (λ hs. AreApart schema hs (r ∷ [])) (sym none) (λ t a p point. go ((r.table == t && r.attrs == a) && in_any r.rects p)))
  where
    go : (b : Bool) → ((if b then 1 else 0) + 0) + 0 ≤ 1
    go true = omega arith
    go false = omega arith

-- ---- what arrives where it is not covered

none-there : (part : Part) (gs : List Region) (a : ℕ) (p : Row) (n : ℕ) → occurs gs part.table a p ≡ n → includes a part.need ≡ true → in_any (cover_of part gs) p ≡ false → n ≡ 0
none-there part gs a p zero is need out = refl
none-there part gs a p (suc n) is need out =
    let inside = cover_has part gs a p need (λ e. absurd (omega (arith, is, e))) in
    absurd (cc (inside, out))

pub apart_one : (schema : List Table) (gs : List Region) (part : Part) (rs : List Arrival) (r : Arrival) (rects cover : List Rect) → rs ≡ r ∷ [] → IsStore schema gs → part.table ≡ r.table
    → includes r.attrs part.need ≡ true → rects ≡ r.rects → cover ≡ cover_of part gs → HaveNoCommon (table_at schema r.table).columns rects cover → AreApart schema gs rs
apart_one schema gs part rs r rects cover is store table need own covered none = subst (AreApart schema gs) (sym is) (λ t a p point. go t a p point (r.table == t) (r.attrs == a) (in_any r.rects p) refl refl refl)
  where
    go : (t a : ℕ) (p : Row) → is_point (table_at schema t).columns p ≡ true → (x y z : Bool) → (r.table == t) ≡ x → (r.attrs == a) ≡ y → in_any r.rects p ≡ z
        → ((if (x && y) && z then 1 else 0) + 0) + occurs gs t a p ≤ 1
    go t a p point true true true ex ey ez =
        let et : r.table ≡ t = grind (arith, nat_tests, ex) in
        let ea : r.attrs ≡ a = grind (arith, nat_tests, ey) in
        let both : (in_any rects p && in_any cover p) ≡ false = none p (subst (λ u. is_point (table_at schema u).columns p ≡ true) (sym et) point) in
        let inside : in_any rects p ≡ true = ap (λ qs. in_any qs p) own ∙ ez in
        let out : in_any (cover_of part gs) p ≡ false = ap (λ qs. in_any qs p) (sym covered) ∙ ap (λ b. b && in_any cover p) (sym inside) ∙ both in
        let zero : occurs gs part.table r.attrs p ≡ 0 = none-there part gs r.attrs p (occurs gs part.table r.attrs p) refl need out in
        let here : occurs gs t a p ≡ 0 = ap (λ u. occurs gs t u p) (sym ea) ∙ ap (λ u. occurs gs u r.attrs p) (sym et) ∙ ap (λ u. occurs gs u r.attrs p) (sym table) ∙ zero in
        omega (arith, here)
    go t a p point true true false ex ey ez = let le = store.once t a p point in omega (arith, le)
    go t a p point true false z ex ey ez = let le = store.once t a p point in omega (arith, le)
    go t a p point false y z ex ey ez = let le = store.once t a p point in omega (arith, le)

pub first_is : (ps : List Part) (p part : Part) → ps ≡ p ∷ [] → part ≡ get_or ps 0 part → part ≡ p
first_is ps p part is at = at ∙ ap (λ qs. get_or qs 0 part) is

-- what is told of one person of the first table
pub tells_one : (schema : List Table) (told : List Tell) (whose own id age : ℤ) → 0 < length schema → (table_at schema 0).key ≡ 0
    → is_point (table_at schema 0).columns (Num id ∷ Num age ∷ Num (pos 5) ∷ []) ≡ true → whose ≡ id → own ≡ age
    → told ≡ record { table = 0; key = Num whose; after = Some (Num whose ∷ Num own ∷ Num (pos 5) ∷ []) } ∷ [] → All (IsTellOf schema) told
tells_one schema told whose own id age there key point who same is =
    All-same (IsTellOf schema) told (record { table = 0; key = Num whose; after = Some (Num whose ∷ Num own ∷ Num (pos 5) ∷ []) } ∷ []) is
    (All-cons (IsTellOf schema) (record { table = 0; key = Num whose; after = Some (Num whose ∷ Num own ∷ Num (pos 5) ∷ []) }) [] (
      there,
      (
        subst (λ n. is_point (table_at schema 0).columns (Num whose ∷ Num n ∷ Num (pos 5) ∷ []) ≡ true) (sym same)
            (subst (λ n. is_point (table_at schema 0).columns (Num n ∷ Num age ∷ Num (pos 5) ∷ []) ≡ true) (sym who) point),
        ap (cell_at (Num whose ∷ Num own ∷ Num (pos 5) ∷ [])) key,
      ),
    )
    (All-nil (IsTellOf schema)))
