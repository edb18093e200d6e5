-- The rects of AND, OR and NOT from those of their members.
use Rattle.std.proofs.Common.{◌≡◌, ℕ, zero, suc, ◌+◌, ◌*◌, ◌<◌, ◌≤◌, true, false, List, [], ◌∷◌, ◌++◌, length, drop, slice_index_or, refl, sym, subst, arith, ◌∙◌}
use Rattle.std.specs.Prelude.{Bool, not, ◌&&◌, ◌||◌, ◌==◌}
use Rattle.std.specs.List.{AllByRecursion}
use Rattle.std.proofs.lemmas.Bool.Decides.{nat_tests}
use Rattle.std.proofs.lemmas.Nat.{mul-le}
use Rattle.std.proofs.lemmas.List.{length-append}
use Rattle.std.proofs.lemmas.List.Folds.{list_any-append, list_all-append}
use Rattle.sr_cell.specs.declared.cell.Cell.{Cell}
use Rattle.sr_cell.specs.declared.table.Column.{Column}
use Rattle.sr_cell.specs.Cells.{Row, cell_at}
use Rattle.sr_box.specs.Corners.{cuts_of}
use Rattle.sr_box.specs.Points.{Rect, in_rect, in_any, rect_fits, full_rect, times}
use Rattle.sr_union.specs.Grid.{is_among, first_cuts, others, CutsAmong, AreCutFrom}
use Rattle.sr_union.specs.Pieces.{IsMeet}
use Rattle.sr_union.proofs.Cuts.{is_among-append}
use Rattle.sr_union.proofs.Times.{in_any-times}
use Rattle.sr_union.proofs.Among.{AreCutFrom-fits}
use Rattle.sr_model.specs.Conditions.{Cond, Conds, Not, none, more, truth, truth_of_all, truth_of_any}
use Rattle.sr_model.specs.Ends.{ends, all_ends}
use Rattle.sr_model.proofs.Sides.{both-true, both-false, either-true, either-false, not-side}
use Rattle.sr_query.specs.Binding.{cond_of}
use Rattle.sr_query.specs.Bound.{EndsWithTests}
use Rattle.sr_query.specs.Meant.{meant, members}
use Rattle.sr_query.specs.declared.condition.Condition.{Condition}
use Rattle.sr_condition.specs.Said.{says, all_of, any_of, room, AreRects}
use Rattle.sr_condition.proofs.Members.{members_at, no_members}
use Rattle.sr_condition.proofs.Constrained.{full-in, full-fits, full-ends}

-- ---- where rects begin and end

-- each end of the one is an end of the other
abbrev EndsWithin : Cond → Cond → Type 0
EndsWithin a b = (k : ℕ) (v : Cell) → is_among (ends k a) v ≡ true → is_among (ends k b) v ≡ true

rect-ends : (n : ℕ) (columns : List Column) (a b : Cond) (r : Rect) → EndsWithin a b → EndsWithTests n columns a r → EndsWithTests n columns b r
rect-ends n [] a b r m h = tt
rect-ends n (c ∷ columns) a b [] m h = tt
rect-ends n (c ∷ columns) a b (s ∷ r) m h = ((λ v x. m n v (h.0 v x)), rect-ends (n + 1) columns a b r m h.1)

all-ends : (columns : List Column) (a b : Cond) (rects : List Rect) → EndsWithin a b → AllByRecursion (EndsWithTests 0 columns a) rects → AllByRecursion (EndsWithTests 0 columns b) rects
all-ends columns a b [] m h = tt
all-ends columns a b (r ∷ rects) m h = (rect-ends 0 columns a b r m h.0, all-ends columns a b rects m h.1)

ends-append : (columns : List Column) (a : Cond) (x y : List Rect) → AllByRecursion (EndsWithTests 0 columns a) x → AllByRecursion (EndsWithTests 0 columns a) y → AllByRecursion (EndsWithTests 0 columns a) (x ++ y)
ends-append columns a [] y h k = k
ends-append columns a (r ∷ x) y h k = (h.0, ends-append columns a x y h.1 k)

-- the ends of a member, and of the other members
first-ends : (plain : Bool) (c : Cond) (cs : Conds) → EndsWithin c (all_of plain (more c cs))
first-ends true c cs k v h = is_among-append (ends k c) (all_ends k cs) v ∙ grind arith
first-ends false c cs k v h = is_among-append (ends k c) (all_ends k cs) v ∙ grind arith

other-ends : (plain : Bool) (c : Cond) (cs : Conds) → EndsWithin (all_of plain cs) (all_of plain (more c cs))
other-ends true c cs k v h = is_among-append (ends k c) (all_ends k cs) v ∙ grind arith
other-ends false c cs k v h = is_among-append (ends k c) (all_ends k cs) v ∙ grind arith

-- cuts among those of rects that end with tests do so too
cuts-end : (n : ℕ) (c : Column) (columns : List Column) (a : Cond) (given : List Rect) (v : Cell) → AllByRecursion (EndsWithTests n (c ∷ columns) a) given → is_among (first_cuts c given) v ≡ true → is_among (ends n a) v ≡ true
cuts-end n c columns a [] v h x = absurd (grind arith)
cuts-end n c columns a ([] ∷ given) v h x = cuts-end n c columns a given v h.1 x
cuts-end n c columns a ((s ∷ r) ∷ given) v h x =
    let e = is_among-append (cuts_of c.kind c.lo c.hi c.nullable s) (first_cuts c given) v in let m = h.0.0 v in let ih = cuts-end n c columns a given v h.1 in grind (arith, x, e, m, ih)

others-end : (n : ℕ) (c : Column) (columns : List Column) (a : Cond) (given : List Rect) → AllByRecursion (EndsWithTests n (c ∷ columns) a) given → AllByRecursion (EndsWithTests (n + 1) columns a) (others given)
others-end n c columns a [] h = tt
others-end n c columns a ([] ∷ given) h = others-end n c columns a given h.1
others-end n c columns a ((s ∷ r) ∷ given) h = (h.0.1, others-end n c columns a given h.1)

among-ends : (n : ℕ) (columns : List Column) (a : Cond) (given : List Rect) (r : Rect) → AllByRecursion (EndsWithTests n columns a) given → CutsAmong columns r given → EndsWithTests n columns a r
among-ends n [] a given r h k = tt
among-ends n (c ∷ columns) a given [] h k = tt
among-ends n (c ∷ columns) a given (s ∷ r) h k = ((λ v x. cuts-end n c columns a given v h (k.0 v x)), among-ends (n + 1) columns a (others given) r (others-end n c columns a given h) k.1)

cut-ends : (columns : List Column) (a : Cond) (given rects : List Rect) → AllByRecursion (EndsWithTests 0 columns a) given → AreCutFrom columns given rects → AllByRecursion (EndsWithTests 0 columns a) rects
cut-ends columns a given [] h k = tt
cut-ends columns a given (r ∷ rects) h k = (among-ends 0 columns a given r h k.1, cut-ends columns a given rects h k.2)

-- ---- what all say

all-says : (plain : Bool) (c : Cond) (cs : Conds) (p : Row) → (says plain c p && says plain (all_of plain cs) p) ≡ says plain (all_of plain (more c cs)) p
all-says true c cs p = sym (both-true (truth (cell_at p) c) (truth_of_all (cell_at p) cs))
all-says false c cs p = sym (either-false (truth (cell_at p) c) (truth_of_any (cell_at p) cs))

all-room : (plain : Bool) (c : Cond) (cs : Conds) → room plain c * room plain (all_of plain cs) ≡ room plain (all_of plain (more c cs))
all-room true c cs = refl
all-room false c cs = refl

meet-in : (columns : List Column) (a b both : List Rect) (p : Row) → times both p ≡ times a p * times b p → in_any both p ≡ (in_any a p && in_any b p)
meet-in columns a b both p e =
    let x = in_any-times a p in let y = in_any-times b p in let z = in_any-times both p in
    z ∙ rw (x, y, e) (go (times a p) (times b p))
  where
    go : (m n : ℕ) → not (m * n == 0) ≡ (not (m == 0) && not (n == 0))
    go zero n = let e : 0 * n ≡ 0 = omega arith in rw e refl
    go (suc m) zero = let e : suc m * 0 ≡ 0 = omega arith in rw e (grind (arith, nat_tests))
    go (suc m) (suc n) = let e : suc m * suc n ≡ suc (m * n + m + n) = omega arith in rw e (grind (arith, nat_tests))

all-none : (columns : List Column) (plain : Bool) (rects : List Rect) → rects ≡ full_rect columns ∷ [] → AreRects columns plain (all_of plain none) rects
all-none columns plain rects is = subst (AreRects columns plain (all_of plain none)) (sym is) (record {
  fits = let f = full-fits columns in grind (arith, f);
  points = λ p h. let f = full-in columns p h in says-all plain p f;
  few = one plain;
  ends = (full-ends 0 columns (all_of plain none), tt);
})
  where
    says-all : (plain : Bool) (p : Row) → in_rect (full_rect columns) p ≡ true → in_any (full_rect columns ∷ []) p ≡ says plain (all_of plain none) p
    says-all true p f = grind (arith, f)
    says-all false p f = grind (arith, f)

    one : (plain : Bool) → 1 ≤ room plain (all_of plain none)
    one true = omega arith
    one false = omega arith

all-more : (columns : List Column) (plain : Bool) (c : Cond) (cs : Conds) (a b both : List Rect) → AreRects columns plain c a → AreRects columns plain (all_of plain cs) b → IsMeet columns a b both
    → AreCutFrom columns (a ++ b) both → length both ≤ length a * length b → AreRects columns plain (all_of plain (more c cs)) both
all-more columns plain c cs a b both one rest meets cuts few = record {
  fits = AreCutFrom-fits columns (a ++ b) both cuts;
  points = λ p h. let x = one.points p h in let y = rest.points p h in meet-in columns a b both p (meets p h) ∙ (rw (x, y) (all-says plain c cs p));
  few = let r = all-room plain c cs in let m = mul-le (length a) (length b) (room plain c) (room plain (all_of plain cs)) one.few rest.few in omega (arith, r, m, few);
  ends = cut-ends columns (all_of plain (more c cs)) (a ++ b) both
      (ends-append columns (all_of plain (more c cs)) a b (all-ends columns c (all_of plain (more c cs)) a (first-ends plain c cs) one.ends)
      (all-ends columns (all_of plain cs) (all_of plain (more c cs)) b (other-ends plain c cs) rest.ends)) cuts;
}

-- ---- what any says

any-first : (plain : Bool) (c : Cond) (cs : Conds) → EndsWithin c (any_of plain (more c cs))
any-first true c cs = first-ends false c cs
any-first false c cs = first-ends true c cs

any-other : (plain : Bool) (c : Cond) (cs : Conds) → EndsWithin (any_of plain cs) (any_of plain (more c cs))
any-other true c cs = other-ends false c cs
any-other false c cs = other-ends true c cs

any-says : (plain : Bool) (c : Cond) (cs : Conds) (p : Row) → (says plain c p || says plain (any_of plain cs) p) ≡ says plain (any_of plain (more c cs)) p
any-says true c cs p = sym (either-true (truth (cell_at p) c) (truth_of_any (cell_at p) cs))
any-says false c cs p = sym (both-false (truth (cell_at p) c) (truth_of_all (cell_at p) cs))

any-room : (plain : Bool) (c : Cond) (cs : Conds) → room plain c + room plain (any_of plain cs) ≡ room plain (any_of plain (more c cs))
any-room true c cs = refl
any-room false c cs = refl

any-more : (columns : List Column) (plain : Bool) (c : Cond) (cs : Conds) (a b rects : List Rect) → AreRects columns plain c a → AreRects columns plain (any_of plain cs) b → rects ≡ a ++ b
    → AreRects columns plain (any_of plain (more c cs)) rects
any-more columns plain c cs a b rects one rest is = subst (AreRects columns plain (any_of plain (more c cs))) (sym is) (record {
  fits = let x = one.fits in let y = rest.fits in list_all-append (rect_fits columns) a b ∙ grind arith;
  points = λ p h. let x = one.points p h in let y = rest.points p h in list_any-append (λ r. in_rect r p) a b ∙ rw (x, y) (any-says plain c cs p);
  few = let r = any-room plain c cs in let x = one.few in let y = rest.few in let l = length-append a b in omega arith;
  ends = ends-append columns (any_of plain (more c cs)) a b (all-ends columns c (any_of plain (more c cs)) a (any-first plain c cs) one.ends)
      (all-ends columns (any_of plain cs) (any_of plain (more c cs)) b (any-other plain c cs) rest.ends);
})

-- ---- NOT

not-says : (plain : Bool) (c : Cond) (p : Row) → says (not plain) c p ≡ says plain (Not c) p
not-says plain c p = sym (not-side plain (truth (cell_at p) c))

not-room : (plain : Bool) (c : Cond) → room (not plain) c ≡ room plain (Not c)
not-room true c = refl
not-room false c = refl

pub not-rects : (columns : List Column) (plain : Bool) (c : Cond) (rects : List Rect) → AreRects columns (not plain) c rects → AreRects columns plain (Not c) rects
not-rects columns plain c rects are = record {
  fits = are.fits;
  points = λ p h. are.points p h ∙ not-says plain c p;
  few = let r = not-room plain c in let f = are.few in omega (arith, r, f);
  ends = all-ends columns c (Not c) rects (λ k v h. h) are.ends;
}

-- ---- the loops over the members

pub meet-step : (columns : List Column) (plain : Bool) (xs : List Condition) (i k : ℕ) (x : Condition) (a b both : List Rect) → k + 1 ≡ i → k < length xs → x ≡ slice_index_or xs k x
    → AreRects columns plain (cond_of (meant x)) a → AreRects columns plain (all_of plain (members (drop i xs))) b → IsMeet columns a b both → AreCutFrom columns (a ++ b) both
    → length both ≤ length a * length b → AreRects columns plain (all_of plain (members (drop k xs))) both
meet-step columns plain xs i k x a b both next l e one rest meets cuts few =
    subst (λ (cs : Conds). AreRects columns plain (all_of plain cs) both) (sym (members_at xs k x l e))
    (all-more columns plain (cond_of (meant x)) (members (drop (k + 1) xs)) a b both one (subst (λ (j : ℕ). AreRects columns plain (all_of plain (members (drop j xs))) b) (sym next) rest) meets cuts few)

pub join-step : (columns : List Column) (plain : Bool) (xs : List Condition) (i k : ℕ) (x : Condition) (a b any : List Rect) → k + 1 ≡ i → k < length xs → x ≡ slice_index_or xs k x
    → AreRects columns plain (cond_of (meant x)) a → AreRects columns plain (any_of plain (members (drop i xs))) b → any ≡ a ++ b → AreRects columns plain (any_of plain (members (drop k xs))) any
join-step columns plain xs i k x a b any next l e one rest is =
    subst (λ (cs : Conds). AreRects columns plain (any_of plain cs) any) (sym (members_at xs k x l e))
    (any-more columns plain (cond_of (meant x)) (members (drop (k + 1) xs)) a b any one (subst (λ (j : ℕ). AreRects columns plain (any_of plain (members (drop j xs))) b) (sym next) rest) is)

pub meet-init : (columns : List Column) (plain : Bool) (xs : List Condition) (rects : List Rect) → rects ≡ full_rect columns ∷ [] → AreRects columns plain (all_of plain (members (drop (length xs) xs))) rects
meet-init columns plain xs rects is = subst (λ (cs : Conds). AreRects columns plain (all_of plain cs) rects) (sym (no_members xs)) (all-none columns plain rects is)

any-none : (columns : List Column) (plain : Bool) → AreRects columns plain (any_of plain none) []
any-none columns true = record { fits = refl; points = λ p h. refl; few = omega arith; ends = tt }
any-none columns false = record { fits = refl; points = λ p h. refl; few = omega arith; ends = tt }

pub join-init : (columns : List Column) (plain : Bool) (xs : List Condition) (rects : List Rect) → rects ≡ [] → AreRects columns plain (any_of plain (members (drop (length xs) xs))) rects
join-init columns plain xs rects is = subst (AreRects columns plain (any_of plain (members (drop (length xs) xs)))) (sym is)
    (subst (λ (cs : Conds). AreRects columns plain (any_of plain cs) []) (sym (no_members xs)) (any-none columns plain))
