-- The regions are the classes of what they hold.
use Rattle.std.proofs.Common.{◌≡◌, ℕ, ◌+◌, true, false, List, [], ◌∷◌, map, refl, sym, ap, subst, ◌∙◌, arith}
use Rattle.std.specs.Prelude.{Bool, not, ◌&&◌, ◌||◌, ◌==◌, nat_eq, if◌then◌else◌}
use Rattle.std.specs.List.{list_any, All}
use Rattle.std.proofs.lemmas.Bool.Decides.{nat_tests}
use Rattle.std.proofs.lemmas.List.Elements.{All-nil, All-cons, All-head, All-tail, All-weaker}
use Rattle.sr_cell.specs.declared.table.Table.{Table}
use Rattle.sr_cell.specs.Cells.{Row}
use Rattle.sr_cell.specs.Columns.{table_at, is_point}
use Rattle.sr_box.specs.Points.{in_any, times, HasPoint}
use Rattle.sr_box.specs.Corners.{have_first}
use Rattle.sr_union.proofs.Times.{in_any-times}
use Rattle.sr_union.proofs.Low.{has_point}
use Rattle.sr_history.specs.declared.mark.Mark.{Mark}
use Rattle.sr_history.specs.Marks.{is_held}
use Rattle.sr_history.specs.Classes.{Numbered, stamp, Class, in_class, same_class, ascending, AreClasses}
use Rattle.sr_region.specs.declared.region.Region.{Region}
use Rattle.sr_store.specs.Classes.{Stamps, is_of, occurs, IsStamped, is_before, ascends, Keeps}
use Rattle.sr_store.specs.Stores.{IsOfSchema}
use Rattle.sr_store.specs.Past.{class_of}
use Rattle.sr_store.proofs.Dropping.{ascends_all, before_all}

-- the point lies in a region of that class
abbrev in_regions : List Region → Class → Row → Bool
in_regions [] k p = false
in_regions (g ∷ gs) k p = same_class k (class_of g) && in_any g.rects p || in_regions gs k p

same-is : (k : Class) (g : Region) → same_class k (class_of g) ≡ (is_of g k.table k.attrs && g.stamp == k.stamp)
same-is k g = go (k.table == g.table) (k.attrs == g.attrs) (k.stamp == g.stamp) (swap k.table g.table) (swap k.attrs g.attrs) (swap k.stamp g.stamp)
  where
    swap : (n m : ℕ) → (n == m) ≡ (m == n)
    swap n m = grind (arith, nat_tests)

    go : (x y z : Bool) → x ≡ (g.table == k.table) → y ≡ (g.attrs == k.attrs) → z ≡ (g.stamp == k.stamp) → (x && y && z) ≡ (g.table == k.table && g.attrs == k.attrs && g.stamp == k.stamp)
    go x y z ex ey ez = rw (ex, ey, ez) refl

pub of-table : (g : Region) (t a : ℕ) → is_of g t a ≡ true → g.table ≡ t
of-table g t a h = grind (arith, nat_tests)

pub of-attrs : (g : Region) (t a : ℕ) → is_of g t a ≡ true → g.attrs ≡ a
of-attrs g t a h = grind (arith, nat_tests)

class-walk : (schema : List Table) (stamps : Stamps) (gs : List Region) (k : Class) (p : Row) → is_point (table_at schema k.table).columns p ≡ true → All (IsStamped schema stamps) gs
    → in_regions gs k p ≡ (not (occurs gs k.table k.attrs p == 0) && stamps k.table k.attrs p == k.stamp)
class-walk schema stamps [] k p point all = refl
class-walk schema stamps (g ∷ gs) k p point all =
    rw (same-is k g) (go (is_of g k.table k.attrs) refl (class-walk schema stamps gs k p point (All-tail (IsStamped schema stamps) g gs all)) (in_any-times g.rects p))
  where
    go : (b : Bool) → is_of g k.table k.attrs ≡ b → in_regions gs k p ≡ (not (occurs gs k.table k.attrs p == 0) && stamps k.table k.attrs p == k.stamp) → in_any g.rects p ≡ not (nat_eq (times g.rects p) 0)
        → (b && g.stamp == k.stamp && in_any g.rects p || in_regions gs k p) ≡ (not (((if b then times g.rects p else 0) + occurs gs k.table k.attrs p) == 0) && stamps k.table k.attrs p == k.stamp)
    go false e ih i = let zero : 0 + occurs gs k.table k.attrs p ≡ occurs gs k.table k.attrs p = omega arith in rw zero ih
    go true e ih i = here (in_any g.rects p) refl ih i
      where
        st : in_any g.rects p ≡ true → stamps k.table k.attrs p ≡ g.stamp
        st inside =
            let table = of-table g k.table k.attrs e in
            ap (λ t. stamps t k.attrs p) (sym table) ∙ ap (λ a. stamps g.table a p) (sym (of-attrs g k.table k.attrs e))
            ∙ All-head (IsStamped schema stamps) g gs all p (subst (λ t. is_point (table_at schema t).columns p ≡ true) (sym table) point) inside

        here : (c : Bool) → in_any g.rects p ≡ c → in_regions gs k p ≡ (not (occurs gs k.table k.attrs p == 0) && stamps k.table k.attrs p == k.stamp) → in_any g.rects p ≡ not (nat_eq (times g.rects p) 0)
            → (true && g.stamp == k.stamp && c || in_regions gs k p) ≡ (not ((times g.rects p + occurs gs k.table k.attrs p) == 0) && stamps k.table k.attrs p == k.stamp)
        here true x ih i = let y = st x in grind (arith, nat_tests)
        here false x ih i = grind (arith, nat_tests)

-- a point lies in the region of a class exactly where it is in the class
regions-class : (schema : List Table) (marks : List Mark) (queries : List Numbered) (gs : List Region) (k : Class) (p : Row) → Keeps schema (is_held marks) (stamp queries) gs
    → is_point (table_at schema k.table).columns p ≡ true → in_regions gs k p ≡ in_class marks queries k p
regions-class schema marks queries gs k p keeps point =
    go (is_held marks k.table k.attrs p) (class-walk schema (stamp queries) gs k p point keeps.stamped) (keeps.points k.table k.attrs p point)
  where
    go : (h : Bool) → in_regions gs k p ≡ (not (occurs gs k.table k.attrs p == 0) && stamp queries k.table k.attrs p == k.stamp) → occurs gs k.table k.attrs p ≡ (if h then 1 else 0)
        → in_regions gs k p ≡ (h && stamp queries k.table k.attrs p == k.stamp)
    go true x y = grind (arith, nat_tests)
    go false x y = grind (arith, nat_tests)

-- ---- each region has a point, so each class is one of the regions'

abbrev pub IsSolid : List Table → Region → Type 0
IsSolid schema g = HasPoint (table_at schema g.table).columns (in_any g.rects)

to-point : (schema : List Table) (gs : List Region) (k : Class) → All (IsSolid schema) gs → list_any (same_class k) (map class_of gs) ≡ true → HasPoint (table_at schema k.table).columns (in_regions gs k)
to-point schema [] k s h = absurd (grind arith)
to-point schema (g ∷ gs) k s h = go (same_class k (class_of g)) refl h (to-point schema gs k (All-tail (IsSolid schema) g gs s)) (All-head (IsSolid schema) g gs s)
  where
    go : (b : Bool) → same_class k (class_of g) ≡ b → (b || list_any (same_class k) (map class_of gs)) ≡ true
        → (list_any (same_class k) (map class_of gs) ≡ true → HasPoint (table_at schema k.table).columns (in_regions gs k)) → IsSolid schema g
        → HasPoint (table_at schema k.table).columns (in_regions (g ∷ gs) k)
    go true e o ih one =
        let t : g.table ≡ k.table = grind (arith, nat_tests) in
        let i = one.2 in (one.0, subst (λ t. is_point (table_at schema t).columns one.0 ≡ true) t one.1, grind (arith, e, i))
    go false e o ih one = let r = ih o in let i = r.2 in (r.0, r.1, grind (arith, i))

to-class : (gs : List Region) (k : Class) (p : Row) → in_regions gs k p ≡ true → list_any (same_class k) (map class_of gs) ≡ true
to-class [] k p h = absurd (grind arith)
to-class (g ∷ gs) k p h = go (same_class k (class_of g)) (in_any g.rects p) h (to-class gs k p)
  where
    go : (b c : Bool) → (b && c || in_regions gs k p) ≡ true → (in_regions gs k p ≡ true → list_any (same_class k) (map class_of gs) ≡ true)
        → (b || list_any (same_class k) (map class_of gs)) ≡ true
    go true c o ih = refl
    go false c o ih = ih o

class-order : (gs : List Region) → ascending (map class_of gs) ≡ ascends gs
class-order [] = refl
class-order (g ∷ []) = refl
class-order (g ∷ h ∷ gs) = ap (λ b. is_before g h && b) (class-order (h ∷ gs))

pub all_solid : (schema : List Table) (gs : List Region) → ((t : ℕ) → have_first (table_at schema t).columns ≡ true) → All (IsOfSchema schema) gs → All (IsSolid schema) gs
all_solid schema gs first each =
    All-weaker (IsOfSchema schema) (IsSolid schema) (λ g h. has_point (table_at schema g.table).columns g.rects h.1.area.some h.1.area.fit (first g.table)) gs each

pub are_classes : (schema : List Table) (marks : List Mark) (queries : List Numbered) (gs : List Region) → ((t : ℕ) → have_first (table_at schema t).columns ≡ true) → All (IsOfSchema schema) gs
    → ascends gs ≡ true → Keeps schema (is_held marks) (stamp queries) gs → AreClasses schema marks queries (map class_of gs)
are_classes schema marks queries gs first each order keeps = record {
  order = class-order gs ∙ order;
  each = λ k. (
    (λ h. let r = to-point schema gs k (all_solid schema gs first each) h in (r.0, r.1, sym (regions-class schema marks queries gs k r.0 keeps r.1) ∙ r.2)),
    (λ h. to-class gs k h.0 (regions-class schema marks queries gs k h.0 keeps h.1 ∙ h.2)),
  );
}

-- ---- a region alone has the points of its class

abbrev IsOwn : List Region → Region → Type 0
IsOwn all g = (p : Row) → in_regions all (class_of g) p ≡ in_any g.rects p

other-class : (g h : Region) → is_before g h ≡ true → (same_class (class_of g) (class_of h) ≡ false) × (same_class (class_of h) (class_of g) ≡ false)
other-class g h b = (grind (arith, nat_tests), grind (arith, nat_tests))

own-more : (h : Region) (all gs : List Region) → before_all h gs ≡ true → All (IsOwn all) gs → All (IsOwn (h ∷ all)) gs
own-more h all [] b o = All-nil (IsOwn (h ∷ all))
own-more h all (g ∷ gs) b o =
    All-cons (IsOwn (h ∷ all)) g gs (λ p. let x = (other-class h g (grind arith)).1 in let y = All-head (IsOwn all) g gs o p in rw x y)
    (own-more h all gs (grind arith) (All-tail (IsOwn all) g gs o))

lone : (h : Region) (gs : List Region) (p : Row) → before_all h gs ≡ true → in_regions gs (class_of h) p ≡ false
lone h [] p b = refl
lone h (g ∷ gs) p b = let ih = lone h gs p (grind arith) in let x = (other-class h g (grind arith)).0 in rw x ih

same-self : (h : Region) → same_class (class_of h) (class_of h) ≡ true
same-self h = grind (arith, nat_tests)

all-own : (gs : List Region) → ascends gs ≡ true → All (IsOwn gs) gs
all-own [] a = All-nil (IsOwn [])
all-own (h ∷ gs) a =
    let two = ascends_all h gs a in
    All-cons (IsOwn (h ∷ gs)) h gs (λ p. let x = lone h gs p two.0 in let y = same-self h in rw (y, x) (or-false (in_any h.rects p))) (own-more h gs gs two.0 (all-own gs two.1))
  where
    or-false : (b : Bool) → (b || false) ≡ b
    or-false true = refl
    or-false false = refl

own-points : (schema : List Table) (marks : List Mark) (queries : List Numbered) (gs : List Region) (g : Region) → Keeps schema (is_held marks) (stamp queries) gs → IsOwn gs g
    → (p : Row) → is_point (table_at schema g.table).columns p ≡ true → in_any g.rects p ≡ in_class marks queries (class_of g) p
own-points schema marks queries gs g keeps own p point = sym (own p) ∙ regions-class schema marks queries gs (class_of g) p keeps point

-- each region has just the points of its class
abbrev pub HasClass : List Table → List Mark → List Numbered → Region → Type 0
HasClass schema marks queries g = (p : Row) → is_point (table_at schema g.table).columns p ≡ true → in_any g.rects p ≡ in_class marks queries (class_of g) p

pub have_classes : (schema : List Table) (marks : List Mark) (queries : List Numbered) (gs : List Region) → ascends gs ≡ true → Keeps schema (is_held marks) (stamp queries) gs
    → All (HasClass schema marks queries) gs
have_classes schema marks queries gs order keeps =
    All-weaker (IsOwn gs) (HasClass schema marks queries) (λ g own. own-points schema marks queries gs g keeps own) gs (all-own gs order)
