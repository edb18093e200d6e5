-- Some regions are dropped.
use Rattle.std.proofs.Common.{◌≡◌, ℕ, ◌+◌, ◌≤◌, zero, suc, true, false, List, [], ◌∷◌, ◌++◌, length, take, drop, refl, sym, ap, subst, ◌∙◌, arith}
use Rattle.std.specs.Prelude.{Bool, ◌&&◌, ◌==◌, if◌then◌else◌, Some, slice_get}
use Rattle.std.specs.List.{list_all, All}
use Rattle.std.proofs.lemmas.Bool.Decides.{nat_tests}
use Rattle.std.proofs.lemmas.List.Elements.{All-nil, All-cons, All-head, All-tail}
use Rattle.std.proofs.lemmas.List.Sums.{sum_by-cons}
use Rattle.sr_cell.specs.declared.cell.Cell.{Cell}
use Rattle.sr_cell.specs.declared.table.Table.{Table}
use Rattle.sr_cell.specs.Cells.{Row}
use Rattle.sr_model.specs.SortedRows.{has_key}
use Rattle.sr_box.specs.Points.{times}
use Rattle.sr_region.specs.declared.region.Region.{Region}
use Rattle.sr_region.specs.Regions.{rank}
use Rattle.sr_store.specs.Classes.{Held, Stamps, is_of, occurs, key_occurs, IsStamped, is_before, ascends, Keeps}
use Rattle.sr_store.specs.Stores.{IsOfSchema, IsStore, IsSettled, count_rects, IsAbsorbedIn}
use Rattle.sr_store.specs.Answered.{AreFlags, same_flag, flagged}
use Rattle.sr_store.proofs.Settled.{settled_less}
use Rattle.sr_store.proofs.Joining.{before-trans}

-- ---- what each region has

pub flagged_all : (P : Region → Type 0) (b : Bool) (fs : List Bool) (gs : List Region) → All P gs → All P (flagged b fs gs)
flagged_all P b [] gs h = All-nil P
flagged_all P b (f ∷ fs) [] h = All-nil P
flagged_all P b (f ∷ fs) (g ∷ gs) h = go (same_flag f b) (flagged_all P b fs gs (All-tail P g gs h))
  where
    go : (x : Bool) → All P (flagged b fs gs) → All P (if x then g ∷ flagged b fs gs else flagged b fs gs)
    go true ih = All-cons P g (flagged b fs gs) (All-head P g gs h) ih
    go false ih = ih

pub AreFlags_length : (P : Region → Type 0) (fs : List Bool) (gs : List Region) → AreFlags P fs gs → length fs ≡ length gs
AreFlags_length P [] [] h = refl
AreFlags_length P [] (g ∷ gs) h = absurd h
AreFlags_length P (f ∷ fs) [] h = absurd h
AreFlags_length P (f ∷ fs) (g ∷ gs) h = let ih = AreFlags_length P fs gs h.1 in omega (arith, ih)

-- ---- points

pub flagged_occurs : (fs : List Bool) (gs : List Region) (t a : ℕ) (p : Row) → length fs ≡ length gs
    → occurs (flagged false fs gs) t a p + occurs (flagged true fs gs) t a p ≡ occurs gs t a p
flagged_occurs [] [] t a p l = refl
flagged_occurs [] (g ∷ gs) t a p l = absurd (omega arith)
flagged_occurs (f ∷ fs) [] t a p l = absurd (omega arith)
flagged_occurs (true ∷ fs) (g ∷ gs) t a p l = let ih = flagged_occurs fs gs t a p (omega arith) in omega (arith, ih)
flagged_occurs (false ∷ fs) (g ∷ gs) t a p l = let ih = flagged_occurs fs gs t a p (omega arith) in omega (arith, ih)

pub flagged_fewer : (b : Bool) (fs : List Bool) (gs : List Region) (t a : ℕ) (p : Row) → occurs (flagged b fs gs) t a p ≤ occurs gs t a p
flagged_fewer b [] gs t a p = omega arith
flagged_fewer b (f ∷ fs) [] t a p = omega arith
flagged_fewer b (f ∷ fs) (g ∷ gs) t a p = go (same_flag f b) (flagged_fewer b fs gs t a p)
  where
    go : (x : Bool) → occurs (flagged b fs gs) t a p ≤ occurs gs t a p
        → occurs (if x then g ∷ flagged b fs gs else flagged b fs gs) t a p ≤ (if is_of g t a then times g.rects p else 0) + occurs gs t a p
    go true ih = omega (arith, ih)
    go false ih = omega (arith, ih)

pub flagged_fewer_keys : (b : Bool) (fs : List Bool) (gs : List Region) (t a : ℕ) (k : Cell) → key_occurs (flagged b fs gs) t a k ≤ key_occurs gs t a k
flagged_fewer_keys b [] gs t a k = omega arith
flagged_fewer_keys b (f ∷ fs) [] t a k = omega arith
flagged_fewer_keys b (f ∷ fs) (g ∷ gs) t a k = go (same_flag f b) (flagged_fewer_keys b fs gs t a k)
  where
    go : (x : Bool) → key_occurs (flagged b fs gs) t a k ≤ key_occurs gs t a k
        → key_occurs (if x then g ∷ flagged b fs gs else flagged b fs gs) t a k ≤ (if is_of g t a && has_key (rank g.attrs g.key) k g.rows then 1 else 0) + key_occurs gs t a k
    go true ih = omega (arith, ih)
    go false ih = omega (arith, ih)

pub count_rects-cons : (g : Region) (gs : List Region) → count_rects (g ∷ gs) ≡ length g.rects + count_rects gs
count_rects-cons g gs = sum_by-cons (λ (g : Region). length g.rects) g gs

pub flagged_few : (b : Bool) (fs : List Bool) (gs : List Region) → count_rects (flagged b fs gs) ≤ count_rects gs
flagged_few b [] gs = omega arith
flagged_few b (f ∷ fs) [] = omega arith
flagged_few b (f ∷ fs) (g ∷ gs) = go (same_flag f b) (flagged_few b fs gs) (count_rects-cons g gs) (count_rects-cons g (flagged b fs gs))
  where
    go : (x : Bool) → count_rects (flagged b fs gs) ≤ count_rects gs → count_rects (g ∷ gs) ≡ length g.rects + count_rects gs
        → count_rects (g ∷ flagged b fs gs) ≡ length g.rects + count_rects (flagged b fs gs)
        → count_rects (if x then g ∷ flagged b fs gs else flagged b fs gs) ≤ count_rects (g ∷ gs)
    go true ih more less = let le : length g.rects + count_rects (flagged b fs gs) ≤ length g.rects + count_rects gs = omega (arith, ih) in
        subst (λ n. n ≤ count_rects (g ∷ gs)) (sym less) (subst (λ n. length g.rects + count_rects (flagged b fs gs) ≤ n) (sym more) le)
    go false ih more less = let le : count_rects (flagged b fs gs) ≤ length g.rects + count_rects gs = omega (arith, ih) in
        subst (λ n. count_rects (flagged b fs gs) ≤ n) (sym more) le

-- ---- class order

abbrev pub before_all : Region → List Region → Bool
before_all f gs = list_all (is_before f) gs

pub before-less : (f g : Region) (gs : List Region) → is_before f g ≡ true → before_all g gs ≡ true → before_all f gs ≡ true
before-less f g [] x y = refl
before-less f g (h ∷ gs) x y = let ih = before-less f g gs x (grind arith) in let z = before-trans f g h x (grind arith) in grind (arith, ih, z)

pub ascends_all : (g : Region) (gs : List Region) → ascends (g ∷ gs) ≡ true → (before_all g gs ≡ true) × (ascends gs ≡ true)
ascends_all g [] h = (refl, refl)
ascends_all g (f ∷ gs) h = let ih = ascends_all f gs (grind arith) in let x = before-less g f gs (grind arith) ih.0 in (grind (arith, x), grind arith)

all-ascends : (g : Region) (gs : List Region) → before_all g gs ≡ true → ascends gs ≡ true → ascends (g ∷ gs) ≡ true
all-ascends g [] x y = refl
all-ascends g (f ∷ gs) x y = grind arith

pub flagged-before : (g : Region) (b : Bool) (fs : List Bool) (gs : List Region) → before_all g gs ≡ true → before_all g (flagged b fs gs) ≡ true
flagged-before g b [] gs h = refl
flagged-before g b (f ∷ fs) [] h = refl
flagged-before g b (f ∷ fs) (k ∷ gs) h = go (same_flag f b) (flagged-before g b fs gs (grind arith))
  where
    go : (x : Bool) → before_all g (flagged b fs gs) ≡ true → before_all g (if x then k ∷ flagged b fs gs else flagged b fs gs) ≡ true
    go true ih = grind (arith, ih)
    go false ih = ih

pub flagged_ascends : (b : Bool) (fs : List Bool) (gs : List Region) → ascends gs ≡ true → ascends (flagged b fs gs) ≡ true
flagged_ascends b [] gs h = refl
flagged_ascends b (f ∷ fs) [] h = refl
flagged_ascends b (f ∷ fs) (g ∷ gs) h = let two = ascends_all g gs h in go (same_flag f b) (flagged_ascends b fs gs two.1) (flagged-before g b fs gs two.0)
  where
    go : (x : Bool) → ascends (flagged b fs gs) ≡ true → before_all g (flagged b fs gs) ≡ true → ascends (if x then g ∷ flagged b fs gs else flagged b fs gs) ≡ true
    go true ih a = all-ascends g (flagged b fs gs) a ih
    go false ih a = ih

-- ---- what stays

pub kept_store : (schema : List Table) (b : Bool) (fs : List Bool) (gs : List Region) → IsStore schema gs → IsStore schema (flagged b fs gs)
kept_store schema b fs gs h = record {
  each = flagged_all (IsOfSchema schema) b fs gs h.each;
  order = flagged_ascends b fs gs h.order;
  once = λ t a p point. let x = flagged_fewer b fs gs t a p in let y = h.once t a p point in omega (arith, x, y);
  keys = λ t a k. let x = flagged_fewer_keys b fs gs t a k in let y = h.keys t a k in omega (arith, x, y);
  few = let x = flagged_few b fs gs in let y = h.few in omega (arith, x, y);
}

pub kept_settled : (schema : List Table) (b : Bool) (fs : List Bool) (gs : List Region) → IsSettled schema gs → IsSettled schema (flagged b fs gs)
kept_settled schema b fs gs all =
    settled_less schema (flagged b fs gs) gs (flagged b fs gs) (λ t a p point. flagged_fewer b fs gs t a p) (flagged_all (λ g. IsAbsorbedIn schema gs g → ⊥) b fs gs all)

-- what stays holds what was held and is in no dropped region
pub kept_keeps : (schema : List Table) (held : Held) (stamps : Stamps) (fs : List Bool) (gs : List Region) → length fs ≡ length gs → Keeps schema held stamps gs
    → Keeps schema (λ t a p. held t a p && occurs (flagged true fs gs) t a p == 0) stamps (flagged false fs gs)
kept_keeps schema held stamps fs gs l k = record {
  points = λ t a p point.
      go (held t a p) (occurs (flagged false fs gs) t a p) (occurs (flagged true fs gs) t a p) (flagged_occurs fs gs t a p l ∙ k.points t a p point);
  stamped = flagged_all (IsStamped schema stamps) false fs gs k.stamped;
}
  where
    go : (h : Bool) (x y : ℕ) → x + y ≡ (if h then 1 else 0) → x ≡ (if h && y == 0 then 1 else 0)
    go true x y e = grind (arith, nat_tests)
    go false x y e = omega (arith, e)

-- ---- one region is taken out

-- a flag for each region
unfoldable pub all_flags : List Region → List Bool
all_flags [] = []
all_flags (g ∷ gs) = true ∷ all_flags gs

pub all-flagged : (gs : List Region) → (length (all_flags gs) ≡ length gs) × (flagged false (all_flags gs) gs ≡ []) × (flagged true (all_flags gs) gs ≡ gs)
unfolding all_flags
all-flagged [] = (refl, refl, refl)
all-flagged (g ∷ gs) = let ih = all-flagged gs in (omega (arith, ih.0), ih.1, ap (λ rest. g ∷ rest) ih.2)

unfoldable pub no_flags : List Region → List Bool
no_flags [] = []
no_flags (g ∷ gs) = false ∷ no_flags gs

-- a flag at that place alone
unfoldable pub flags_at : ℕ → List Region → List Bool
flags_at n [] = []
flags_at zero (g ∷ gs) = true ∷ no_flags gs
flags_at (suc n) (g ∷ gs) = false ∷ flags_at n gs

no_flags-length : (gs : List Region) → length (no_flags gs) ≡ length gs
unfolding no_flags
no_flags-length [] = refl
no_flags-length (g ∷ gs) = let ih = no_flags-length gs in omega (arith, ih)

pub flags_at-length : (n : ℕ) (gs : List Region) → length (flags_at n gs) ≡ length gs
unfolding flags_at
flags_at-length n [] = refl
flags_at-length zero (g ∷ gs) = let l = no_flags-length gs in omega (arith, l)
flags_at-length (suc n) (g ∷ gs) = let ih = flags_at-length n gs in omega (arith, ih)

none-kept : (gs : List Region) → (flagged false (no_flags gs) gs ≡ gs) × (flagged true (no_flags gs) gs ≡ [])
unfolding no_flags
none-kept [] = (refl, refl)
none-kept (g ∷ gs) = let ih = none-kept gs in (ap (λ rest. g ∷ rest) ih.0, ih.1)

pub flags_at-others : (n : ℕ) (gs : List Region) → flagged false (flags_at n gs) gs ≡ take n gs ++ drop (suc n) gs
unfolding flags_at
flags_at-others zero [] = refl
flags_at-others (suc n) [] = refl
flags_at-others zero (g ∷ gs) = (none-kept gs).0
flags_at-others (suc n) (g ∷ gs) = ap (λ rest. g ∷ rest) (flags_at-others n gs)

pub flags_at-one : (n : ℕ) (gs : List Region) (g : Region) → slice_get gs n ≡ Some g → flagged true (flags_at n gs) gs ≡ g ∷ []
unfolding flags_at
flags_at-one n [] g is = cc
flags_at-one zero (h ∷ gs) g is = let e : h ≡ g = cc in rw (e, (none-kept gs).1) refl
flags_at-one (suc n) (h ∷ gs) g is = flags_at-one n gs g is

add-one : (n : ℕ) → suc n ≡ n + 1
add-one n = omega arith

others-at : (n : ℕ) (gs : List Region) → flagged false (flags_at n gs) gs ≡ take n gs ++ drop (n + 1) gs
others-at n gs = flags_at-others n gs ∙ ap (λ m. take n gs ++ drop m gs) (add-one n)

pub evicted_all : (P : Region → Type 0) (n : ℕ) (gs : List Region) → All P gs → All P (take n gs ++ drop (n + 1) gs)
evicted_all P n gs h = subst (All P) (others-at n gs) (flagged_all P false (flags_at n gs) gs h)

pub evicted_store : (schema : List Table) (n : ℕ) (gs : List Region) → IsStore schema gs → IsStore schema (take n gs ++ drop (n + 1) gs)
evicted_store schema n gs h = subst (IsStore schema) (others-at n gs) (kept_store schema false (flags_at n gs) gs h)

pub evicted_settled : (schema : List Table) (n : ℕ) (gs : List Region) → IsSettled schema gs → IsSettled schema (take n gs ++ drop (n + 1) gs)
evicted_settled schema n gs h = subst (IsSettled schema) (others-at n gs) (kept_settled schema false (flags_at n gs) gs h)

pub evicted_keeps : (schema : List Table) (held : Held) (stamps : Stamps) (n : ℕ) (gs : List Region) (g : Region) → slice_get gs n ≡ Some g → Keeps schema held stamps gs
    → Keeps schema (λ t a p. held t a p && occurs (g ∷ []) t a p == 0) stamps (take n gs ++ drop (n + 1) gs)
evicted_keeps schema held stamps n gs g is k =
    subst (Keeps schema (λ t a p. held t a p && occurs (g ∷ []) t a p == 0) stamps) (others-at n gs)
    (subst (λ dropped. Keeps schema (λ t a p. held t a p && occurs dropped t a p == 0) stamps (flagged false (flags_at n gs) gs)) (flags_at-one n gs g is)
    (kept_keeps schema held stamps (flags_at n gs) gs (flags_at-length n gs) k))
