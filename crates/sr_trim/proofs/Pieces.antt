-- What is left of rects, from what was cut and tidied.
use Rattle.std.proofs.Common.{◌≡◌, ℕ, ◌<◌, ◌≤◌, ◌⊎◌, ◌↔◌, inl, inr, Bool, true, false, List, [], ◌∷◌, ◌++◌, length, refl, arith, ◌∙◌, sym, ap, subst}
use Rattle.std.specs.Prelude.{not, ◌&&◌, nat_eq, nat_le, if◌then◌else◌}
use Rattle.std.specs.List.{list_all, AllByRecursion}
use Rattle.std.proofs.lemmas.Bool.Decides.{nat_tests}
use Rattle.std.proofs.lemmas.List.{append-nil}
use Rattle.sr_cell.specs.declared.table.Column.{Column}
use Rattle.sr_cell.specs.Attrs.{has_column}
use Rattle.sr_cell.specs.Cells.{Row}
use Rattle.sr_cell.specs.Columns.{is_point}
use Rattle.sr_box.specs.Points.{Rect, in_any, times, rect_fits, constrained, IsEssential, HasPoint, HasNoPoint}
use Rattle.sr_box.proofs.Essential.{essential-same}
use Rattle.sr_union.specs.Pieces.{IsMinus, IsOnce, IsWithin, AllConstrainEssential}
use Rattle.sr_box.specs.Corners.{have_first}
use Rattle.sr_union.specs.Grid.{AreCutFrom, grid}
use Rattle.sr_union.proofs.Times.{in_any-times}
use Rattle.sr_union.proofs.Low.{has_point}
use Rattle.sr_union.proofs.Among.{AreCutFrom-append}
use Rattle.sr_union.proofs.Parts.{are_part}
use Rattle.sr_union.proofs.Once.{are_trans, grid_among, in_any-once}
use Rattle.sr_union.proofs.Inner.{fits_length}
use Rattle.sr_trim.specs.Left.{left_over, AreLeft}

left_point : (had : Bool) (left rects : ℕ) (inside : Bool) → left ≡ (if had then 0 else rects) → inside ≡ not (nat_eq rects 0) → not (nat_eq left 0) ≡ (inside && not had)
left_point true left rects true is has = rw is refl
left_point true left rects false is has = rw is refl
left_point false left rects true is has = rw is (sym has)
left_point false left rects false is has = rw is (sym has)

minus_is : (cs : List Column) (rects cover left : List Rect) → IsMinus cs rects cover left → (p : Row) → is_point cs p ≡ true → in_any left p ≡ left_over rects cover p
minus_is cs rects cover left minus p e = in_any-times left p ∙ left_point (in_any cover p) (times left p) (times rects p) (in_any rects p) (minus p e) (in_any-times rects p)

-- what is left of a list that has each point of the rects once
pub once_left : (cs : List Column) (rects once cover left : List Rect) → IsOnce cs rects once → IsMinus cs once cover left → (p : Row) → is_point cs p ≡ true → in_any left p ≡ left_over rects cover p
once_left cs rects once cover left is minus p e = minus_is cs once cover left minus p e ∙ ap (λ b. b && not (in_any cover p)) (in_any-once cs rects once is p e)

needs_same : (cs : List Column) (need : ℕ) (a b : Row → Bool) (c : ℕ) → ((p : Row) → is_point cs p ≡ true → a p ≡ b p)
    → (has_column need c ≡ true) ⊎ IsEssential cs a c → (has_column need c ≡ true) ⊎ IsEssential cs b c
needs_same cs need a b c same (inl e) = inl e
needs_same cs need a b c same (inr e) = inr (essential-same cs a b c same e)

bound_same : (cs : List Column) (need : ℕ) (a : Row → Bool) (left rest : List Rect) → ((p : Row) → is_point cs p ≡ true → in_any left p ≡ a p) → AllConstrainEssential cs need left rest
    → AllByRecursion (λ r. (c : ℕ) → has_column (constrained r) c ≡ true → (has_column need c ≡ true) ⊎ IsEssential cs a c) rest
bound_same cs need a left [] same h = tt
bound_same cs need a left (r ∷ rest) same h = ((λ c e. needs_same cs need (in_any left) a c same (h.0 c e)), bound_same cs need a left rest same h.1)

pub tidy_left : (cs : List Column) (need : ℕ) (a : Row → Bool) (left rest : List Rect) → ((p : Row) → is_point cs p ≡ true → in_any left p ≡ a p) → IsOnce cs left rest → AllConstrainEssential cs need left rest
    → AreLeft cs need a rest
tidy_left cs need a left rest same once bound = record {
  once = λ p e. once p e ∙ ap (λ b. if b then 1 else 0) (same p e);
  bound = bound_same cs need a left rest same bound;
}

-- the points that are left
pub left_same : (cs : List Column) (need : ℕ) (a : Row → Bool) (rest : List Rect) → AreLeft cs need a rest → (p : Row) → is_point cs p ≡ true → in_any rest p ≡ a p
left_same cs need a rest left p e = in_any-times rest p ∙ go (a p) (times rest p) (left.once p e)
  where
    go : (b : Bool) (n : ℕ) → n ≡ (if b then 1 else 0) → not (nat_eq n 0) ≡ b
    go true n x = grind (arith, nat_tests, x)
    go false n x = grind (arith, nat_tests, x)

pub left_once : (cs : List Column) (need : ℕ) (a : Row → Bool) (rest : List Rect) → AreLeft cs need a rest → (p : Row) → is_point cs p ≡ true → times rest p ≤ 1
left_once cs need a rest left p e = go (a p) (left.once p e)
  where
    go : (b : Bool) → times rest p ≡ (if b then 1 else 0) → times rest p ≤ 1
    go true x = omega (arith, x)
    go false x = omega (arith, x)

pub left_some : (cs : List Column) (a : Row → Bool) (rest : List Rect) → have_first cs ≡ true → list_all (rect_fits cs) rest ≡ true → ((p : Row) → is_point cs p ≡ true → in_any rest p ≡ a p)
    → (rest ≡ [] → ⊥) → HasPoint cs a
left_some cs a rest first fit same some = let at = has_point cs rest some fit first in (at.0, at.1, sym (same at.0 at.1) ∙ at.2)

pub left_empty : (cs : List Column) (a : Row → Bool) (rest : List Rect) → have_first cs ≡ true → list_all (rect_fits cs) rest ≡ true → ((p : Row) → is_point cs p ≡ true → in_any rest p ≡ a p)
    → (rest ≡ []) ↔ HasNoPoint cs a
left_empty cs a [] first fit same = ((λ e p is. sym (same p is)), λ none. refl)
left_empty cs a (r ∷ rest) first fit same = (
  (λ e. absurd (cc)),
  λ none. let at = left_some cs a (r ∷ rest) first fit same (λ e. absurd (cc)) in let yes = at.2 in let no = none at.0 at.1 in absurd (grind (arith, yes, no)),
)

-- the cuts: of the list that has each point once and the cover, and of what is left of these
pub once_cut : (cs : List Column) (rects once cover : List Rect) → list_all (rect_fits cs) rects ≡ true → list_all (rect_fits cs) cover ≡ true → AreCutFrom cs rects once
    → AreCutFrom cs (rects ++ cover) (once ++ cover)
once_cut cs rects once cover fit cover_fit cut =
    let own : AreCutFrom cs (rects ++ cover) rects = are_part cs [] rects cover fit in
    let other : AreCutFrom cs (rects ++ cover) cover = subst (λ all. AreCutFrom cs (rects ++ all) cover) (append-nil cover) (are_part cs rects cover [] cover_fit) in
    AreCutFrom-append cs (rects ++ cover) once cover (are_trans cs (rects ++ cover) rects once own cut) other

-- the limits
pub once_over : (cs : List Column) (rects cover : List Rect) (limit : ℕ) → list_all (rect_fits cs) rects ≡ true → limit < grid cs rects → limit < grid cs (rects ++ cover)
once_over cs rects cover limit fit h = let few = grid_among cs (rects ++ cover) rects (are_part cs [] rects cover fit) in omega (arith, h, few)

pub cut_over : (cs : List Column) (given left : List Rect) (limit : ℕ) → AreCutFrom cs given left → limit < grid cs left → limit < grid cs given
cut_over cs given left limit cut h = let few = grid_among cs given left cut in omega (arith, h, few)

-- rects of a table are not wide
pub all_narrow : (cs : List Column) (rects : List Rect) → length cs ≤ 12 → list_all (rect_fits cs) rects ≡ true → list_all (λ rect. nat_le (length rect) 16) rects ≡ true
all_narrow cs [] few fit = refl
all_narrow cs (r ∷ rects) few fit =
    let one = fits_length cs r (grind arith) in let ih = all_narrow cs rects few (grind arith) in grind (arith, nat_tests, one, ih, few)

-- nothing is left of rects whose points are all had
pub none_left : (cs : List Column) (need : ℕ) (rects cover : List Rect) → IsWithin cs rects cover → AreLeft cs need (left_over rects cover) []
none_left cs need rects cover within = record { once = λ p point. go (in_any rects p) (in_any cover p) p (within p point); bound = tt }
  where
    go : (b c : Bool) (p : Row) → (b ≡ true → c ≡ true) → times [] p ≡ (if b && not c then 1 else 0)
    go true c p h = let had = h refl in rw had refl
    go false c p h = refl
