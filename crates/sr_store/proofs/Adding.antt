-- Regions put together by class.
use Rattle.std.proofs.Common.{◌≡◌, ℕ, ◌+◌, ◌≤◌, true, false, List, [], ◌∷◌, ◌++◌, refl, sym, ap, subst, ◌∙◌, arith}
use Rattle.std.specs.Prelude.{Bool, not, ◌&&◌, ◌||◌, nat_eq, if◌then◌else◌}
use Rattle.std.specs.List.{list_all, All}
use Rattle.std.proofs.lemmas.Bool.Decides.{nat_tests}
use Rattle.std.proofs.lemmas.List.Elements.{All-cons, All-head, All-tail}
use Rattle.sr_cell.specs.declared.table.Table.{Table}
use Rattle.sr_cell.specs.Cells.{Row}
use Rattle.sr_cell.specs.Columns.{table_at, is_point}
use Rattle.sr_box.specs.Points.{Rect, in_any, times}
use Rattle.sr_union.specs.Grid.{AreCutFrom}
use Rattle.sr_union.proofs.Times.{times-append, in_any-times}
use Rattle.sr_union.proofs.Once.{in_any-append}
use Rattle.sr_union.proofs.Among.{AreCutFrom-append}
use Rattle.sr_region.specs.declared.region.Region.{Region}
use Rattle.sr_region.specs.Regions.{joined}
use Rattle.sr_store.specs.Classes.{Stamps, is_of, occurs, IsStamped, is_before, is_same, ascends}
use Rattle.sr_store.specs.Renewing.{IsCutFrom, with_region, with_regions}

-- ---- points

same-of : (h g : Region) (t a : ℕ) → is_same h g ≡ true → is_of g t a ≡ is_of h t a
same-of h g t a e = grind (arith, nat_tests)

pub with_region-occurs : (hs : List Region) (g : Region) (t a : ℕ) (p : Row) → occurs (with_region hs g) t a p ≡ occurs (g ∷ hs) t a p
with_region-occurs [] g t a p = refl
with_region-occurs (h ∷ hs) g t a p = go (is_before g h) (is_same h g) refl (with_region-occurs hs g t a p) (same-of h g t a) (times-append h.rects g.rects p)
  where
    go : (b s : Bool) → is_same h g ≡ s → occurs (with_region hs g) t a p ≡ occurs (g ∷ hs) t a p → (is_same h g ≡ true → is_of g t a ≡ is_of h t a) → times (h.rects ++ g.rects) p ≡ times h.rects p + times g.rects p
        → occurs (if b then g ∷ h ∷ hs else (if s then joined h g ∷ hs else h ∷ with_region hs g)) t a p ≡ occurs (g ∷ h ∷ hs) t a p
    go true s e ih k l = refl
    go false true e ih k l = let k2 = k e in grind (arith, k2, l)
    go false false e ih k l = omega (arith, ih)

pub with_regions-occurs : (hs gs : List Region) (t a : ℕ) (p : Row) → occurs (with_regions hs gs) t a p ≡ occurs hs t a p + occurs gs t a p
with_regions-occurs hs [] t a p = omega arith
with_regions-occurs hs (g ∷ gs) t a p = let ih = with_regions-occurs (with_region hs g) gs t a p in let x = with_region-occurs hs g t a p in omega (arith, ih, x)

-- ---- one after another

pub with_regions_append : (hs gs more : List Region) → with_regions hs (gs ++ more) ≡ with_regions (with_regions hs gs) more
with_regions_append hs [] more = refl
with_regions_append hs (g ∷ gs) more = with_regions_append (with_region hs g) gs more

-- ---- class order

-- f stands before the list
abbrev leads : Region → List Region → Bool
leads f [] = true
leads f (h ∷ hs) = is_before f h

pub not-before : (g h : Region) → is_before g h ≡ false → is_same h g ≡ false → is_before h g ≡ true
not-before g h b s = grind (arith, nat_tests)

with_region-leads : (f : Region) (hs : List Region) (g : Region) → leads f hs ≡ true → is_before f g ≡ true → leads f (with_region hs g) ≡ true
with_region-leads f [] g l b = b
with_region-leads f (h ∷ hs) g l b = go (is_before g h) (is_same h g)
  where
    go : (x y : Bool) → leads f (if x then g ∷ h ∷ hs else (if y then joined h g ∷ hs else h ∷ with_region hs g)) ≡ true
    go true y = b
    go false true = l
    go false false = l

ascends-cons : (f : Region) (hs : List Region) → ascends (f ∷ hs) ≡ (leads f hs && ascends hs)
ascends-cons f [] = refl
ascends-cons f (h ∷ hs) = refl

joined-ascends : (h g : Region) (hs : List Region) → ascends (joined h g ∷ hs) ≡ ascends (h ∷ hs)
joined-ascends h g [] = refl
joined-ascends h g (f ∷ hs) = refl

pub with_region-ascends : (hs : List Region) (g : Region) → ascends hs ≡ true → ascends (with_region hs g) ≡ true
with_region-ascends [] g a = refl
with_region-ascends (h ∷ hs) g a = go (is_before g h) (is_same h g) refl refl (with_region-ascends hs g) (with_region-leads h hs g)
  where
    go : (b e : Bool) → is_before g h ≡ b → is_same h g ≡ e → (ascends hs ≡ true → ascends (with_region hs g) ≡ true)
        → (leads h hs ≡ true → is_before h g ≡ true → leads h (with_region hs g) ≡ true)
        → ascends (if b then g ∷ h ∷ hs else (if e then joined h g ∷ hs else h ∷ with_region hs g)) ≡ true
    go true e k l ih m = grind (arith, k, a)
    go false true k l ih m = joined-ascends h g hs ∙ a
    go false false k l ih m = let c = ascends-cons h hs in let n = not-before g h k l in ascends-cons h (with_region hs g) ∙ grind (arith, ih, m, c, n, a)

pub with_regions-ascends : (hs gs : List Region) → ascends hs ≡ true → ascends (with_regions hs gs) ≡ true
with_regions-ascends hs [] a = a
with_regions-ascends hs (g ∷ gs) a = with_regions-ascends (with_region hs g) gs (with_region-ascends hs g a)

-- ---- what two regions of one class with no common point hand on to both together

class-parts : (h g : Region) → is_same h g ≡ true → (g.table ≡ h.table) × (g.attrs ≡ h.attrs) × (g.stamp ≡ h.stamp)
class-parts h g e = (grind (arith, nat_tests), grind (arith, nat_tests), grind (arith, nat_tests))

abbrev pub HaveNone : List Table → Region → Region → Type 0
HaveNone schema h g = (p : Row) → is_point (table_at schema h.table).columns p ≡ true → (in_any h.rects p && in_any g.rects p) ≡ false

-- each point lies in one region at most of those of a table and columns
abbrev pub AreOnce : List Table → List Region → Type 0
AreOnce schema regions = (t a : ℕ) (p : Row) → is_point (table_at schema t).columns p ≡ true → occurs regions t a p ≤ 1

have-none : (schema : List Table) (h g : Region) (hs : List Region) → AreOnce schema (g ∷ h ∷ hs) → is_same h g ≡ true → HaveNone schema h g
have-none schema h g hs once e p point =
    go (is_of g h.table h.attrs) (is_of h h.table h.attrs) (of-self h) (same-of h g h.table h.attrs e) (in_any h.rects p) (in_any g.rects p) (in_any-times h.rects p) (in_any-times g.rects p) (once h.table h.attrs p point)
  where
    of-self : (h : Region) → is_of h h.table h.attrs ≡ true
    of-self h = grind (arith, nat_tests)

    go : (x y : Bool) → y ≡ true → x ≡ y → (b c : Bool) → b ≡ not (nat_eq (times h.rects p) 0) → c ≡ not (nat_eq (times g.rects p) 0)
        → (if x then times g.rects p else 0) + ((if y then times h.rects p else 0) + occurs hs h.table h.attrs p) ≤ 1 → (b && c) ≡ false
    go x y ey ex false c eb ec le = refl
    go x y ey ex true false eb ec le = refl
    go true true ey ex true true eb ec le =
        let one : 1 ≤ times h.rects p = grind (arith, nat_tests, eb) in let two : 1 ≤ times g.rects p = grind (arith, nat_tests, ec) in absurd (omega (arith, one, two, le))
    go true false ey ex true true eb ec le = absurd (cc)
    go false true ey ex true true eb ec le = absurd (cc)
    go false false ey ex true true eb ec le = absurd (cc)

once-tail : (schema : List Table) (h g : Region) (hs : List Region) → AreOnce schema (g ∷ h ∷ hs) → AreOnce schema (g ∷ hs)
once-tail schema h g hs once t a p point = let x = once t a p point in omega (arith, x)

module _ (schema : List Table) (P : Region → Type 0) (joins : (h g : Region) → is_same h g ≡ true → HaveNone schema h g → P h → P g → P (joined h g)) where
  pub with_region-all : (hs : List Region) (g : Region) → AreOnce schema (g ∷ hs) → All P hs → P g → All P (with_region hs g)
  with_region-all [] g once all one = All-cons P g [] one all
  with_region-all (h ∷ hs) g once all one =
      go (is_before g h) (is_same h g) refl (with_region-all hs g (once-tail schema h g hs once) (All-tail P h hs all) one)
    where
      go : (b e : Bool) → is_same h g ≡ e → All P (with_region hs g) → All P (if b then g ∷ h ∷ hs else (if e then joined h g ∷ hs else h ∷ with_region hs g))
      go true e k ih = All-cons P g (h ∷ hs) one all
      go false true k ih = All-cons P (joined h g) hs (joins h g k (have-none schema h g hs once k) (All-head P h hs all) one) (All-tail P h hs all)
      go false false k ih = All-cons P h (with_region hs g) (All-head P h hs all) ih

  pub with_regions-all : (hs gs : List Region) → ((t a : ℕ) (p : Row) → is_point (table_at schema t).columns p ≡ true → occurs hs t a p + occurs gs t a p ≤ 1) → All P hs → All P gs → All P (with_regions hs gs)
  with_regions-all hs [] once all each = all
  with_regions-all hs (g ∷ gs) once all each =
      with_regions-all (with_region hs g) gs (λ t a p point. let x = once t a p point in let y = with_region-occurs hs g t a p in omega (arith, x, y))
      (with_region-all hs g (λ t a p point. let x = once t a p point in omega (arith, x)) all (All-head P g gs each)) (All-tail P g gs each)

-- ---- stamps, cuts and columns

pub joined_stamped : (schema : List Table) (stamps : Stamps) (h g : Region) → is_same h g ≡ true → HaveNone schema h g → IsStamped schema stamps h → IsStamped schema stamps g → IsStamped schema stamps (joined h g)
joined_stamped schema stamps h g e none sh sg p point inside = go (in_any h.rects p) refl (sym (in_any-append h.rects g.rects p) ∙ inside)
  where
    go : (b : Bool) → in_any h.rects p ≡ b → (b || in_any g.rects p) ≡ true → stamps h.table h.attrs p ≡ h.stamp
    go true x k = sh p point x
    go false x k =
        let s = class-parts h g e in
        ap (λ t. stamps t h.attrs p) (sym s.0) ∙ ap (λ a. stamps g.table a p) (sym s.1) ∙ sg p (subst (λ t. is_point (table_at schema t).columns p ≡ true) (sym s.0) point) k ∙ s.2

pub joined_cut : (schema : List Table) (given : ℕ → List Rect) (h g : Region) → is_same h g ≡ true → HaveNone schema h g → IsCutFrom schema given h → IsCutFrom schema given g → IsCutFrom schema given (joined h g)
joined_cut schema given h g e none ch cg =
    let s = class-parts h g e in
    AreCutFrom-append (table_at schema h.table).columns (given h.table) h.rects g.rects ch (subst (λ t. AreCutFrom (table_at schema t).columns (given t) g.rects) s.0 cg)

with_region-classes : (is : ℕ → ℕ → ℕ → Bool) (hs : List Region) (g : Region) → list_all (λ g. is g.table g.attrs g.stamp) hs ≡ true → is g.table g.attrs g.stamp ≡ true
    → list_all (λ g. is g.table g.attrs g.stamp) (with_region hs g) ≡ true
with_region-classes is [] g all one = rw one refl
with_region-classes is (h ∷ hs) g all one = go (is_before g h) (is_same h g) (with_region-classes is hs g (grind arith) one)
  where
    go : (b e : Bool) → list_all (λ g. is g.table g.attrs g.stamp) (with_region hs g) ≡ true
        → list_all (λ g. is g.table g.attrs g.stamp) (if b then g ∷ h ∷ hs else (if e then joined h g ∷ hs else h ∷ with_region hs g)) ≡ true
    go true e ih = grind (arith, all, one)
    go false true ih = all
    go false false ih = grind (arith, all, ih)

pub with_regions-classes : (is : ℕ → ℕ → ℕ → Bool) (hs gs : List Region) → list_all (λ g. is g.table g.attrs g.stamp) hs ≡ true → list_all (λ g. is g.table g.attrs g.stamp) gs ≡ true
    → list_all (λ g. is g.table g.attrs g.stamp) (with_regions hs gs) ≡ true
with_regions-classes is hs [] all each = all
with_regions-classes is hs (g ∷ gs) all each = with_regions-classes is (with_region hs g) gs (with_region-classes is hs g all (grind arith)) (grind arith)

pub with_regions-used : (used : ℕ → ℕ → Bool) (hs gs : List Region) → list_all (λ g. used g.table g.attrs) hs ≡ true → list_all (λ g. used g.table g.attrs) gs ≡ true
    → list_all (λ g. used g.table g.attrs) (with_regions hs gs) ≡ true
with_regions-used used hs gs all each = with_regions-classes (λ t a s. used t a) hs gs all each
