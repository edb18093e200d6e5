-- What the regions cover, where they hold what some marks say.
use Rattle.std.proofs.Common.{◌≡◌, ℕ, ◌+◌, true, false, cond, List, [], ◌∷◌, ◌++◌, map, refl, sym, ap, ◌∙◌, ◌↔◌, arith}
use Rattle.std.specs.Prelude.{Bool, not, ◌&&◌, ◌||◌, ◌==◌, nat_eq, if◌then◌else◌, filter, flat_map}
use Rattle.std.specs.List.{list_any, All}
use Rattle.std.proofs.lemmas.Bool.Decides.{nat_tests}
use Rattle.std.proofs.lemmas.List.Elements.{All-head}
use Rattle.std.specs.Cmp.{first_so, second_so}
use Rattle.sr_cell.specs.declared.table.Table.{Table}
use Rattle.sr_cell.specs.declared.cause.Cause.{Cause}
use Rattle.sr_cell.specs.Cells.{Row}
use Rattle.sr_cell.specs.Columns.{table_at, is_point}
use Rattle.sr_cell.specs.Attrs.{includes}
use Rattle.sr_box.specs.Points.{Rect, in_any, times, HasPoint}
use Rattle.sr_box.specs.Corners.{have_first}
use Rattle.sr_union.proofs.Times.{in_any-times}
use Rattle.sr_union.proofs.Once.{in_any-append}
use Rattle.sr_union.proofs.Low.{has_point}
use Rattle.sr_query.specs.declared.query.Part.{Part}
use Rattle.sr_history.specs.declared.mark.Mark.{Mark}
use Rattle.sr_history.specs.Marks.{attrs_of, is_held, is_covered, HoldsNothing, with_marks}
use Rattle.sr_history.specs.Drops.{is_held_wider}
use Rattle.sr_history.proofs.Marking.{some-attrs, any-attrs}
use Rattle.sr_region.specs.declared.region.Region.{Region}
use Rattle.sr_store.specs.declared.store.Arrival.{Arrival}
use Rattle.sr_store.specs.Classes.{Held, Stamps, occurs, Keeps}
use Rattle.sr_store.specs.Stores.{IsOfSchema, cover_of, drop_of, wider}
use Rattle.sr_store.specs.Answered.{arrives, held_of}

-- ---- regions whose columns pass a test

abbrev pub chosen : (ℕ → Bool) → List Region → ℕ → List Rect
chosen test gs t = flat_map (λ g. g.rects) (filter (λ g. g.table == t && test g.attrs) gs)

pub chosen-some : (test : ℕ → Bool) (gs : List Region) (t : ℕ) (p : Row) → in_any (chosen test gs t) p ≡ true → (b : ℕ) × (test b ≡ true) × ((occurs gs t b p ≡ 0) → ⊥)
chosen-some test [] t p h = absurd (grind arith)
chosen-some test (g ∷ gs) t p h = go (g.table == t) (test g.attrs) refl refl h (in_any-append g.rects (chosen test gs t) p) (chosen-some test gs t p)
  where
    later : (b : ℕ) × (test b ≡ true) × ((occurs gs t b p ≡ 0) → ⊥) → (b : ℕ) × (test b ≡ true) × ((occurs (g ∷ gs) t b p ≡ 0) → ⊥)
    later (b, m, k) = (b, m, λ e. k (omega (arith, e)))

    go : (x y : Bool) → (g.table == t) ≡ x → test g.attrs ≡ y
        → in_any (flat_map (λ g. g.rects) (cond (x && y) (g ∷ filter (λ g. g.table == t && test g.attrs) gs) (filter (λ g. g.table == t && test g.attrs) gs))) p ≡ true
        → in_any (g.rects ++ chosen test gs t) p ≡ (in_any g.rects p || in_any (chosen test gs t) p)
        → (in_any (chosen test gs t) p ≡ true → (b : ℕ) × (test b ≡ true) × ((occurs gs t b p ≡ 0) → ⊥)) → (b : ℕ) × (test b ≡ true) × ((occurs (g ∷ gs) t b p ≡ 0) → ⊥)
    go true true ex ey i a ih = here (in_any g.rects p) refl (sym a ∙ i)
      where
        here : (c : Bool) → in_any g.rects p ≡ c → (c || in_any (chosen test gs t) p) ≡ true → (b : ℕ) × (test b ≡ true) × ((occurs (g ∷ gs) t b p ≡ 0) → ⊥)
        here true ec k = (g.attrs, ey, λ e. let x = in_any-times g.rects p in grind (arith, nat_tests, x, e))
        here false ec k = later (ih k)
    go true false ex ey i a ih = later (ih i)
    go false y ex ey i a ih = later (ih i)

pub chosen-has : (test : ℕ → Bool) (gs : List Region) (t : ℕ) (p : Row) (b : ℕ) → test b ≡ true → ((occurs gs t b p ≡ 0) → ⊥) → in_any (chosen test gs t) p ≡ true
chosen-has test [] t p b m k = absurd (k refl)
chosen-has test (g ∷ gs) t p b m k = go (g.table == t) (test g.attrs) (g.attrs == b) refl refl refl (in_any-append g.rects (chosen test gs t) p) (chosen-has test gs t p b m)
  where
    go : (x y z : Bool) → (g.table == t) ≡ x → test g.attrs ≡ y → (g.attrs == b) ≡ z → in_any (g.rects ++ chosen test gs t) p ≡ (in_any g.rects p || in_any (chosen test gs t) p)
        → (((occurs gs t b p ≡ 0) → ⊥) → in_any (chosen test gs t) p ≡ true)
        → in_any (flat_map (λ g. g.rects) (cond (x && y) (g ∷ filter (λ g. g.table == t && test g.attrs) gs) (filter (λ g. g.table == t && test g.attrs) gs))) p ≡ true
    go true true z ex ey ez a ih = a ∙ here (in_any g.rects p) refl
      where
        here : (c : Bool) → in_any g.rects p ≡ c → (c || in_any (chosen test gs t) p) ≡ true
        here true ec = refl
        here false ec = ih (λ e. k (let x = in_any-times g.rects p in grind (arith, nat_tests, x, e)))
    go true false true ex ey ez a ih = absurd (let e : g.attrs ≡ b = grind (arith, nat_tests) in let f = sym (ap test e) in let u = sym m ∙ f ∙ ey in grind (arith, u))
    go true false false ex ey ez a ih = ih (λ e. k (grind (arith, e, ex, ez)))
    go false y z ex ey ez a ih = ih (λ e. k (grind (arith, e, ex)))

-- ---- marks whose columns pass a test

-- a point of the table lies in these regions exactly where it is held under such columns
chosen-is : (test : ℕ → Bool) (marks : List Mark) (gs : List Region) (t : ℕ) (p : Row) → ((b : ℕ) → occurs gs t b p ≡ (if is_held marks t b p then 1 else 0))
    → in_any (chosen test gs t) p ≡ list_any (λ mark. test (attrs_of mark) && is_held marks t (attrs_of mark) p) marks
chosen-is test marks gs t p h = equal (in_any (chosen test gs t) p) (list_any (λ mark. test (attrs_of mark) && is_held marks t (attrs_of mark) p) marks)
    (λ i. let s = chosen-some test gs t p i in let m = s.1 in let y = held s.0 s.2 in
    some-attrs (λ b. test b && is_held marks t b p) marks t s.0 p (held s.0 s.2) (grind (arith, m, y)))
    (λ i. let s = any-attrs (λ b. test b && is_held marks t b p) marks i in
    chosen-has test gs t p s.0 (first_so (test s.0) (is_held marks t s.0 p) s.1)
    (λ e. let x = h s.0 in let y = second_so (test s.0) (is_held marks t s.0 p) s.1 in grind (arith, x, y, e)))
  where
    held : (b : ℕ) → ((occurs gs t b p ≡ 0) → ⊥) → is_held marks t b p ≡ true
    held b k = go (is_held marks t b p) (h b)
      where
        go : (x : Bool) → occurs gs t b p ≡ (if x then 1 else 0) → x ≡ true
        go true e = refl
        go false e = absurd (k e)

    equal : (x y : Bool) → (x ≡ true → y ≡ true) → (y ≡ true → x ≡ true) → x ≡ y
    equal true y f g = sym (f refl)
    equal false true f g = g refl
    equal false false f g = refl

-- the regions that serve a part cover what is covered
pub cover_is : (schema : List Table) (marks : List Mark) (stamps : Stamps) (gs : List Region) (part : Part) (p : Row) → Keeps schema (is_held marks) stamps gs
    → is_point (table_at schema part.table).columns p ≡ true → in_any (cover_of part gs) p ≡ is_covered marks part.table part.need p
cover_is schema marks stamps gs part p k point = chosen-is (λ b. includes b part.need) marks gs part.table p (λ b. k.points part.table b p point)

-- a point that lies in regions with such columns lies in the cover
pub cover_has : (part : Part) (gs : List Region) (b : ℕ) (p : Row) → includes b part.need ≡ true → ((occurs gs part.table b p ≡ 0) → ⊥) → in_any (cover_of part gs) p ≡ true
cover_has part gs b p m k = chosen-has (λ b. includes b part.need) gs part.table p b m k

-- the regions with more columns have what is held under more columns
pub wider_is : (schema : List Table) (marks : List Mark) (stamps : Stamps) (gs : List Region) (t a : ℕ) (p : Row) → Keeps schema (is_held marks) stamps gs
    → is_point (table_at schema t).columns p ≡ true → in_any (wider gs t a) p ≡ is_held_wider marks t a p
wider_is schema marks stamps gs t a p k point = chosen-is (λ b. includes b a && not (b == a)) marks gs t p (λ b. k.points t b p point)

-- ---- whether anything is held

pub none_held : (schema : List Table) (marks : List Mark) (stamps : Stamps) → Keeps schema (is_held marks) stamps [] → HoldsNothing schema marks
none_held schema marks stamps k t a p point = go (is_held marks t a p) (k.points t a p point)
  where
    go : (b : Bool) → occurs [] t a p ≡ (if b then 1 else 0) → b ≡ false
    go true e = absurd (omega (arith, e))
    go false e = refl

region-point : (schema : List Table) (g : Region) → have_first (table_at schema g.table).columns ≡ true → IsOfSchema schema g → HasPoint (table_at schema g.table).columns (in_any g.rects)
region-point schema g first h = has_point (table_at schema g.table).columns g.rects h.1.area.some h.1.area.fit first

-- a region that is there has a held point
pub some_held : (schema : List Table) (marks : List Mark) (stamps : Stamps) (g : Region) (gs : List Region) → have_first (table_at schema g.table).columns ≡ true → IsOfSchema schema g
    → Keeps schema (is_held marks) stamps (g ∷ gs) → HasPoint (table_at schema g.table).columns (is_held marks g.table g.attrs)
some_held schema marks stamps g gs first h k =
    let s = region-point schema g first h in
    (s.0, s.1, go (is_held marks g.table g.attrs s.0) (g.table == g.table) (g.attrs == g.attrs) (same g.table) (same g.attrs) (sym (in_any-times g.rects s.0) ∙ s.2) (k.points g.table g.attrs s.0 s.1))
  where
    same : (n : ℕ) → (n == n) ≡ true
    same n = grind (arith, nat_tests)

    go : (b x y : Bool) → x ≡ true → y ≡ true → not (nat_eq (times g.rects (region-point schema g first h).0) 0) ≡ true
        → (if x && y then times g.rects (region-point schema g first h).0 else 0) + occurs gs g.table g.attrs (region-point schema g first h).0 ≡ (if b then 1 else 0) → b ≡ true
    go true x y ex ey n e = refl
    go false true true ex ey n e = absurd (grind (arith, nat_tests, n, e))
    go false true false ex ey n e = absurd (cc)
    go false false y ex ey n e = absurd (cc)

pub all_none : (schema : List Table) (marks : List Mark) (stamps : Stamps) (gs : List Region) → ((t : ℕ) → have_first (table_at schema t).columns ≡ true) → All (IsOfSchema schema) gs
    → Keeps schema (is_held marks) stamps gs → (gs ≡ []) ↔ HoldsNothing schema marks
all_none schema marks stamps [] first each k = ((λ e. none_held schema marks stamps k), λ h. refl)
all_none schema marks stamps (g ∷ gs) first each k = (
  (λ e. absurd (cc)),
  λ h. let s = some_held schema marks stamps g gs (first g.table) (All-head (IsOfSchema schema) g gs each) k in
      let no : false ≡ true = sym (h g.table g.attrs s.0 s.1) ∙ s.2 in absurd (cc),
)

-- ---- the marks of an answer

pub held_more : (marks : List Mark) (arrivals : List Arrival) (t a : ℕ) (p : Row) → is_held (with_marks marks (map held_of arrivals)) t a p ≡ (is_held marks t a p || arrives arrivals t a p)
held_more marks [] t a p = grind arith
held_more marks (r ∷ rs) t a p = held_more (held_of r ∷ marks) rs t a p ∙ go ((r.table == t && r.attrs == a) && in_any r.rects p) (is_held marks t a p)
  where
    go : (b h : Bool) → ((if b then true else h) || arrives rs t a p) ≡ (h || (b || arrives rs t a p))
    go true true = refl
    go true false = refl
    go false h = refl

pub held_less : (cause : Cause) (marks : List Mark) (gs : List Region) (t a : ℕ) (p : Row)
    → is_held (with_marks marks (map (drop_of cause) gs)) t a p ≡ (is_held marks t a p && occurs gs t a p == 0)
held_less cause marks [] t a p = grind (arith, nat_tests)
held_less cause marks (g ∷ gs) t a p =
    held_less cause (drop_of cause g ∷ marks) gs t a p
    ∙ go (g.table == t) (g.attrs == a) (in_any g.rects p) (times g.rects p) (is_held marks t a p) (in_any-times g.rects p)
  where
    go : (x y i : Bool) (n : ℕ) (h : Bool) → i ≡ not (nat_eq n 0)
        → ((if x && y && i then false else h) && occurs gs t a p == 0) ≡ (h && ((if x && y then n else 0) + occurs gs t a p) == 0)
    go true true true n h f = grind (arith, nat_tests, f)
    go true true false n h f = grind (arith, nat_tests, f)
    go true false i n h f = grind (arith, nat_tests)
    go false y i n h f = grind (arith, nat_tests)

-- ---- the same points, and the same stamps

pub keeps_same : (schema : List Table) (held others : Held) (stamps more : Stamps) (gs : List Region)
    → ((t a : ℕ) (p : Row) → is_point (table_at schema t).columns p ≡ true → held t a p ≡ others t a p)
    → ((t a : ℕ) (p : Row) → is_point (table_at schema t).columns p ≡ true → stamps t a p ≡ more t a p)
    → Keeps schema held stamps gs → Keeps schema others more gs
keeps_same schema held others stamps more gs h e k = record {
  points = λ t a p point. k.points t a p point ∙ ap (λ b. if b then 1 else 0) (h t a p point);
  stamped = λ n d lt p point inside. sym (e _ _ p point) ∙ k.stamped n d lt p point inside;
}
