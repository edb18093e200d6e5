-- What a search for a point outside finds.
use Rattle.std.proofs.Common.{◌≡◌, ℕ, ◌<◌, ◌+◌, zero, suc, true, false, List, [], ◌∷◌, ◌++◌, length, drop, take, refl, arith, ◌∙◌, sym, ap, subst, slice_index_or, append_assoc}
use Rattle.std.specs.Prelude.{Bool, ◌&&◌, ◌||◌, ◌==◌, IsTrue, Option, Some, None, if◌then◌else◌}
use Rattle.std.proofs.lemmas.Bool.{and_from, and_parts, eq-eqb, eqb-true}
use Rattle.std.specs.List.{list_all, sum_by}
use Rattle.std.proofs.lemmas.List.{append-nil, take_more, take_all}
use Rattle.std.proofs.lemmas.List.Folds.{list_all-append}
use Rattle.std.proofs.lemmas.List.Sums.{sum_by-append, sum_by-cons}
use Rattle.sr_cell.specs.declared.table.Column.{Column}
use Rattle.sr_cell.specs.Cells.{Row}
use Rattle.sr_box.specs.Points.{Rect, rect_fits, in_rect, in_any}
use Rattle.sr_box.specs.declared.span.Span.{Span}
use Rattle.sr_box.specs.Cut.{meet, under, over}
use Rattle.sr_cell.proofs.Numbers.{eqb_same}
use Rattle.sr_union.specs.Pieces.{with_front, fronts, with_fronts, beyond_in, above, meets, rect_minus, minus_one, minus_each, minus_all, IsWithin, HasOutside}
use Rattle.sr_box.specs.Corners.{have_first}
use Rattle.sr_union.specs.Search.{from_met, is_nothing, is_covered, is_done, todos, steps, steps_of}
use Rattle.sr_union.proofs.Times.{minus_all-times}
use Rattle.sr_union.proofs.Inner.{fits_length}
use Rattle.sr_union.proofs.Parts.{left_are, are_fit}
use Rattle.sr_union.proofs.Within.{within_from, outside_from}
use Rattle.sr_union.specs.declared.search.Todo.{Todo}

minus_each-append : (cs : List Column) (a b : List Rect) (q : Rect) → minus_each cs (a ++ b) q ≡ minus_each cs a q ++ minus_each cs b q
minus_each-append cs [] b q = refl
minus_each-append cs (r ∷ a) b q = ap (λ l. minus_one cs r q ++ l) (minus_each-append cs a b q) ∙ sym (append_assoc (minus_one cs r q) (minus_each cs a q) (minus_each cs b q))

minus_all-both : (cs : List Column) (a b qs : List Rect) → minus_all cs (a ++ b) qs ≡ minus_all cs a qs ++ minus_all cs b qs
minus_all-both cs a b [] = refl
minus_all-both cs a b (q ∷ qs) = ap (λ rs. minus_all cs rs qs) (minus_each-append cs a b q) ∙ minus_all-both cs (minus_each cs a q) (minus_each cs b q) qs

is_nothing-append : (a b : List Rect) → is_nothing (a ++ b) ≡ (is_nothing a && is_nothing b)
is_nothing-append [] b = refl
is_nothing-append (r ∷ a) b = refl

minus_all-nothing : (cs : List Column) (qs : List Rect) → minus_all cs [] qs ≡ []
minus_all-nothing cs [] = refl
minus_all-nothing cs (q ∷ qs) = minus_all-nothing cs qs

-- each of the pieces is covered where nothing of them all is left
pub todos-covered : (cs : List Column) (others : List Rect) (from : ℕ) (pieces : List Rect)
    → list_all (is_done cs others) (todos from pieces) ≡ is_nothing (minus_all cs pieces (drop from others))
todos-covered cs others from [] = sym (ap is_nothing (minus_all-nothing cs (drop from others)))
todos-covered cs others from (r ∷ pieces) =
    let ih = todos-covered cs others from pieces in
    ap (λ b. is_nothing (minus_all cs (r ∷ []) (drop from others)) && b) ih
    ∙ sym (ap is_nothing (minus_all-both cs (r ∷ []) pieces (drop from others)) ∙ is_nothing-append (minus_all cs (r ∷ []) (drop from others)) (minus_all cs pieces (drop from others)))

pub todos-steps : (cs : List Column) (others : List Rect) (from : ℕ) (pieces : List Rect)
    → sum_by (steps_of cs others) (todos from pieces) ≡ sum_by (λ p. steps cs (drop from others) p) pieces
todos-steps cs others from [] = refl
todos-steps cs others from (r ∷ pieces) =
    sum_by-cons (steps_of cs others) (record { rect = r; from = from }) (todos from pieces) ∙ (ap (λ n. steps cs (drop from others) r + n) (todos-steps cs others from pieces)
    ∙ sym (sum_by-cons (λ p. steps cs (drop from others) p) r pieces))

-- what does not meet the others stays
pub unmet : (cs : List Column) (r : Rect) (qs : List Rect) → from_met r qs ≡ [] → is_covered cs qs r ≡ false
unmet cs r [] h = refl
unmet cs r (q ∷ qs) h = go (meets r q) refl (unmet cs r qs) h
  where
    go : (b : Bool) → meets r q ≡ b → (from_met r qs ≡ [] → is_covered cs qs r ≡ false) → (if b then q ∷ qs else from_met r qs) ≡ [] → is_nothing (minus_all cs (minus_each cs (r ∷ []) q) qs) ≡ false
    go true e ih k = absurd (cc)
    go false e ih k = rw e (ih k)

-- what meets one of the others is covered where the pieces beside it are
pub met : (cs : List Column) (r : Rect) (qs : List Rect) (q : Rect) (rest : List Rect) → from_met r qs ≡ q ∷ rest
    → is_covered cs qs r ≡ is_nothing (minus_all cs (rect_minus cs r q) rest)
met cs r [] q rest h = absurd (cc)
met cs r (p ∷ qs) q rest h = go (meets r p) refl (met cs r qs q rest) h
  where
    go : (b : Bool) → meets r p ≡ b → (from_met r qs ≡ q ∷ rest → is_covered cs qs r ≡ is_nothing (minus_all cs (rect_minus cs r q) rest)) → (if b then p ∷ qs else from_met r qs) ≡ q ∷ rest → is_nothing (minus_all cs (minus_each cs (r ∷ []) p) qs) ≡ is_nothing (minus_all cs (rect_minus cs r q) rest)
    go true e ih k = rw (e, append-nil (rect_minus cs r p)) (grind (arith, k))
    go false e ih k = rw e (ih k)

pub met-steps : (cs : List Column) (r : Rect) (qs : List Rect) (q : Rect) (rest : List Rect) → from_met r qs ≡ q ∷ rest
    → steps cs qs r ≡ 1 + sum_by (λ p. steps cs rest p) (rect_minus cs r q)
met-steps cs r [] q rest h = absurd (cc)
met-steps cs r (p ∷ qs) q rest h = go (meets r p) (met-steps cs r qs q rest) h
  where
    go : (b : Bool) → (from_met r qs ≡ q ∷ rest → steps cs qs r ≡ 1 + sum_by (λ p. steps cs rest p) (rect_minus cs r q)) → (if b then p ∷ qs else from_met r qs) ≡ q ∷ rest → (if b then 1 + sum_by (λ p. steps cs qs p) (rect_minus cs r p) else steps cs qs r) ≡ 1 + sum_by (λ p. steps cs rest p) (rect_minus cs r q)
    go true ih k = grind (arith, k)
    go false ih k = ih k

pub drop_at : (qs : List Rect) (at : ℕ) (d : Rect) → at < length qs → drop at qs ≡ slice_index_or qs at d ∷ drop (at + 1) qs
drop_at [] at d h = absurd (omega arith)
drop_at (q ∷ qs) zero d h = refl
drop_at (q ∷ qs) (suc at) d h =
    let e : suc (at + 1) ≡ suc at + 1 = omega arith in
    subst (λ n. drop (suc at) (q ∷ qs) ≡ slice_index_or (q ∷ qs) (suc at) d ∷ drop n (q ∷ qs)) e (drop_at qs at d (omega arith))

nothing-is : (rs : List Rect) → is_nothing rs ≡ true → rs ≡ []
nothing-is [] h = refl
nothing-is (r ∷ rs) h = absurd (cc)

nothing-not : (rs : List Rect) → is_nothing rs ≡ false → rs ≡ [] → ⊥
nothing-not [] h e = absurd (cc)
nothing-not (r ∷ rs) h e = absurd (cc)

fit_left : (cs : List Column) (r : Rect) (qs : List Rect) → have_first cs ≡ true → rect_fits cs r ≡ true → list_all (rect_fits cs) qs ≡ true → list_all (rect_fits cs) (minus_all cs (r ∷ []) qs) ≡ true
fit_left cs r qs d f g = subst (λ all. list_all (rect_fits cs) (minus_all cs (r ∷ []) all) ≡ true) (take_all (length qs) qs (omega arith))
    (are_fit cs ((r ∷ []) ++ qs) (minus_all cs (r ∷ []) (take (length qs) qs)) (left_are cs (r ∷ []) qs (length qs) d (grind (arith, f)) g))

pub covered-within : (cs : List Column) (r : Rect) (qs : List Rect) → have_first cs ≡ true → rect_fits cs r ≡ true → list_all (rect_fits cs) qs ≡ true
    → is_covered cs qs r ≡ true → IsWithin cs (r ∷ []) qs
covered-within cs r qs d f g h =
    (within_from cs (r ∷ []) qs (minus_all cs (r ∷ []) qs) d (λ p e. minus_all-times cs (r ∷ []) qs p g e) (fit_left cs r qs d f g)).0 (nothing-is (minus_all cs (r ∷ []) qs) h)

pub covered-outside : (cs : List Column) (r : Rect) (qs : List Rect) → have_first cs ≡ true → rect_fits cs r ≡ true → list_all (rect_fits cs) qs ≡ true
    → is_covered cs qs r ≡ false → HasOutside cs (r ∷ []) qs
covered-outside cs r qs d f g h =
    outside_from cs (r ∷ []) qs (minus_all cs (r ∷ []) qs) d (λ p e. minus_all-times cs (r ∷ []) qs p g e) (fit_left cs r qs d f g) (nothing-not (minus_all cs (r ∷ []) qs) h)

pub fits_at : (cs : List Column) (qs : List Rect) (i : ℕ) (d : Rect) → list_all (rect_fits cs) qs ≡ true → i < length qs → rect_fits cs (slice_index_or qs i d) ≡ true
fits_at cs [] i d f h = absurd (omega arith)
fits_at cs (q ∷ qs) zero d f h = grind (arith, f)
fits_at cs (q ∷ qs) (suc i) d f h = fits_at cs qs i d (grind (arith, f)) (omega arith)

pub fits_items : (cs : List Column) (rects items : List Rect) (i : ℕ) (r : Rect) → list_all (rect_fits cs) rects ≡ true → items ≡ rects → i < length items → r ≡ slice_index_or items i r → rect_fits cs r ≡ true
fits_items cs rects items i r f e l is = ap (rect_fits cs) is ∙ fits_at cs items i r (ap (list_all (rect_fits cs)) e ∙ f) l

-- one rect more that lies within the others
pub within_more : (cs : List Column) (items others : List Rect) (i : ℕ) (r : Rect) → i < length items → r ≡ slice_index_or items i r → IsWithin cs (take i items) others → IsWithin cs (r ∷ []) others
    → IsWithin cs (take (i + 1) items) others
within_more cs items others i r l is w v = λ p e h.
    let split : in_any (take (i + 1) items) p ≡ (in_any (take i items) p || in_rect r p) =
    ap (λ rs. in_any rs p) (take_more items i r l) ∙ (in_any-push (take i items) (slice_index_or items i r) p ∙ ap (λ q. in_any (take i items) p || in_rect q p) (sym is)) in
    go (in_any (take i items) p) (in_rect r p) (in_any others p) (grind (arith, split, h)) (w p e) (v p e)
  where
    in_any-push : (rs : List Rect) (r : Rect) (p : Row) → in_any (rs ++ r ∷ []) p ≡ (in_any rs p || in_rect r p)
    in_any-push [] r p = grind arith
    in_any-push (q ∷ rs) r p = let ih = in_any-push rs r p in grind (arith, ih)

    go : (a b d : Bool) → (a || b) ≡ true → (IsTrue a → IsTrue d) → (IsTrue (b || false) → IsTrue d) → IsTrue d
    go true b d h x y = x refl
    go false true d h x y = y refl
    go false false d h x y = absurd (cc)

popped : (p : Todo → Bool) (todo left : List Todo) (t : Todo) → todo ≡ left ++ t ∷ [] → list_all p todo ≡ (list_all p left && p t)
popped p todo left t e = ap (list_all p) e ∙ (list_all-append p left (t ∷ []) ∙ and_true (list_all p left) (p t))
  where
    and_true : (a b : Bool) → (a && (b && true)) ≡ (a && b)
    and_true a b = grind arith

-- a rect that meets none of the others decides
pub ends : (cs : List Column) (others : List Rect) (todo left : List Todo) (t : Todo) → todo ≡ left ++ t ∷ [] → from_met t.rect (drop t.from others) ≡ [] → list_all (is_done cs others) todo ≡ false
ends cs others todo left t e h = let x = popped (is_done cs others) todo left t e in let y = unmet cs t.rect (drop t.from others) h in grind (arith, x, y)

met_at : (qs : List Rect) (r : Rect) (from at : ℕ) (d : Rect) → at < length qs → from_met r (drop from qs) ≡ drop at qs → from_met r (drop from qs) ≡ slice_index_or qs at d ∷ drop (at + 1) qs
met_at qs r from at d l h = h ∙ drop_at qs at d l

-- the pieces stand for the rect that they are of
pub goes_on : (cs : List Column) (others : List Rect) (todo left next : List Todo) (t : Todo) (at : ℕ) (q : Rect) (pieces : List Rect) → todo ≡ left ++ t ∷ [] → at < length others
    → from_met t.rect (drop t.from others) ≡ drop at others → q ≡ slice_index_or others at q → pieces ≡ rect_minus cs t.rect q → next ≡ left ++ todos (at + 1) pieces
    → list_all (is_done cs others) next ≡ list_all (is_done cs others) todo
goes_on cs others todo left next t at q pieces e l h is p n =
    let x = popped (is_done cs others) todo left t e in
    let m = met cs t.rect (drop t.from others) q (drop (at + 1) others) (met_at others t.rect t.from at q l h ∙ ap (λ r. r ∷ drop (at + 1) others) (sym is)) in
    ap (list_all (is_done cs others)) n ∙ (list_all-append (is_done cs others) left (todos (at + 1) pieces)
    ∙ (ap (λ b. list_all (is_done cs others) left && b) (todos-covered cs others (at + 1) pieces ∙ (ap (λ ps. is_nothing (minus_all cs ps (drop (at + 1) others))) p ∙ sym m)) ∙ sym x))

pub smaller : (cs : List Column) (others : List Rect) (todo left next : List Todo) (t : Todo) (at : ℕ) (q : Rect) (pieces : List Rect) → todo ≡ left ++ t ∷ [] → at < length others
    → from_met t.rect (drop t.from others) ≡ drop at others → q ≡ slice_index_or others at q → pieces ≡ rect_minus cs t.rect q → next ≡ left ++ todos (at + 1) pieces
    → sum_by (steps_of cs others) next < sum_by (steps_of cs others) todo
smaller cs others todo left next t at q pieces e l h is p n =
    let m = met-steps cs t.rect (drop t.from others) q (drop (at + 1) others) (met_at others t.rect t.from at q l h ∙ ap (λ r. r ∷ drop (at + 1) others) (sym is)) in
    let a = ap (sum_by (steps_of cs others)) n ∙ sum_by-append (steps_of cs others) left (todos (at + 1) pieces) in
    let b = todos-steps cs others (at + 1) pieces ∙ ap (sum_by (λ p. steps cs (drop (at + 1) others) p)) p in
    let d = ap (sum_by (steps_of cs others)) e ∙ (sum_by-append (steps_of cs others) left (t ∷ []) ∙ ap (λ k. sum_by (steps_of cs others) left + k) (sum_by-cons (steps_of cs others) t [])) in
    omega (arith, m, a, b, d)

-- ---- rects that are searched have a span for each column

-- so many spans
abbrev is_wide : ℕ → Rect → Bool
is_wide n r = length r == n

abbrev pub is_wide_todo : ℕ → Todo → Bool
is_wide_todo n t = length t.rect == n

front-wide : (m : Option Span) (r : Rect) → list_all (is_wide (suc (length r))) (with_front m r) ≡ true
front-wide None r = refl
front-wide (Some s) r = and_from (suc (length r) == suc (length r)) true (eqb_same (suc (length r))) refl

fronts-wide : (n : ℕ) (s : Span) (rs : List Rect) → list_all (is_wide n) rs ≡ true → list_all (is_wide (suc n)) (fronts s rs) ≡ true
fronts-wide n s [] h = refl
fronts-wide n s (r ∷ rs) h =
    let both = and_parts (is_wide n r) (list_all (is_wide n) rs) h in
    and_from (suc (length r) == suc n) (list_all (is_wide (suc n)) (fronts s rs)) (eq-eqb (suc (length r)) (suc n) (ap suc (eqb-true (length r) n both.0))) (fronts-wide n s rs both.1)

with_fronts-wide : (n : ℕ) (m : Option Span) (rs : List Rect) → list_all (is_wide n) rs ≡ true → list_all (is_wide (suc n)) (with_fronts m rs) ≡ true
with_fronts-wide n None rs h = refl
with_fronts-wide n (Some s) rs h = fronts-wide n s rs h

both-wide : (n : ℕ) (a b : List Rect) → list_all (is_wide n) a ≡ true → list_all (is_wide n) b ≡ true → list_all (is_wide n) (a ++ b) ≡ true
both-wide n a b x y = list_all-append (is_wide n) a b ∙ and_from (list_all (is_wide n) a) (list_all (is_wide n) b) x y

rect_minus-wide : (cs : List Column) (r q : Rect) → list_all (is_wide (length r)) (rect_minus cs r q) ≡ true
rect_minus-wide [] r q = refl
rect_minus-wide (c ∷ cs) [] q = refl
rect_minus-wide (c ∷ cs) (s ∷ r) [] = refl
rect_minus-wide (c ∷ cs) (s ∷ r) (t ∷ q) =
    both-wide (suc (length r)) (with_front (under c.lo s t) r) (above c s t r ++ with_fronts (meet s t) (rect_minus cs r q)) (front-wide (under c.lo s t) r)
    (both-wide (suc (length r)) (above c s t r) (with_fronts (meet s t) (rect_minus cs r q))
    (both-wide (suc (length r)) (with_front (over c.hi s t) r) (with_front (beyond_in c s t) r) (front-wide (over c.hi s t) r) (front-wide (beyond_in c s t) r))
    (with_fronts-wide (length r) (meet s t) (rect_minus cs r q) (rect_minus-wide cs r q)))

todos-wide : (n from : ℕ) (pieces : List Rect) → list_all (is_wide n) pieces ≡ true → list_all (is_wide_todo n) (todos from pieces) ≡ true
todos-wide n from [] h = refl
todos-wide n from (r ∷ pieces) h =
    let both = and_parts (is_wide n r) (list_all (is_wide n) pieces) h in and_from (is_wide n r) (list_all (is_wide_todo n) (todos from pieces)) both.0 (todos-wide n from pieces both.1)

pub start_wide : (cs : List Column) (r copy : Rect) (todo : List Todo) → rect_fits cs r ≡ true → copy ≡ r → todo ≡ record { rect = copy; from = 0 } ∷ [] → list_all (is_wide_todo (length cs)) todo ≡ true
start_wide cs r copy todo f same is =
    ap (list_all (is_wide_todo (length cs))) is ∙ and_from (length copy == length cs) true (eq-eqb (length copy) (length cs) (ap length same ∙ fits_length cs r f)) refl

and_last : (b : Bool) → (b && true) ≡ b
and_last true = refl
and_last false = refl

pub start_same : (cs : List Column) (others : List Rect) (r copy : Rect) (todo : List Todo) → copy ≡ r → todo ≡ record { rect = copy; from = 0 } ∷ [] → list_all (is_done cs others) todo ≡ is_covered cs others r
start_same cs others r copy todo same is = ap (list_all (is_done cs others)) is ∙ (and_last (is_covered cs others copy) ∙ ap (is_covered cs others) same)

pub popped_wide : (n : ℕ) (todo left : List Todo) (t : Todo) → todo ≡ left ++ t ∷ [] → list_all (is_wide_todo n) todo ≡ true → (list_all (is_wide_todo n) left ≡ true) × (length t.rect ≡ n)
popped_wide n todo left t e f =
    let both = and_parts (list_all (is_wide_todo n) left) (is_wide_todo n t) (sym (popped (is_wide_todo n) todo left t e) ∙ f) in (both.0, eqb-true (length t.rect) n both.1)

pub goes_on_wide : (cs : List Column) (n : ℕ) (todo left next : List Todo) (t : Todo) (from : ℕ) (q : Rect) → todo ≡ left ++ t ∷ [] → list_all (is_wide_todo n) todo ≡ true
    → next ≡ left ++ todos from (rect_minus cs t.rect q) → list_all (is_wide_todo n) next ≡ true
goes_on_wide cs n todo left next t from q e f is =
    let before = popped_wide n todo left t e f in
    let pieces : list_all (is_wide n) (rect_minus cs t.rect q) ≡ true = subst (λ m. list_all (is_wide m) (rect_minus cs t.rect q) ≡ true) before.1 (rect_minus-wide cs t.rect q) in
    ap (list_all (is_wide_todo n)) is ∙ (list_all-append (is_wide_todo n) left (todos from (rect_minus cs t.rect q))
    ∙ and_from (list_all (is_wide_todo n) left) (list_all (is_wide_todo n) (todos from (rect_minus cs t.rect q))) before.0 (todos-wide n from (rect_minus cs t.rect q) pieces))

-- an answer of either kind decides
pub decided : (cs : List Column) (rs qs : List Rect) (yes : Bool) → (yes ≡ true → IsWithin cs rs qs) → (yes ≡ false → HasOutside cs rs qs) → (IsTrue yes → IsWithin cs rs qs) × (IsWithin cs rs qs → IsTrue yes)
decided cs rs qs true w o = ((λ e. w refl), λ e. refl)
decided cs rs qs false w o = ((λ e. absurd (cc)), λ v. go (o refl) v)
  where
    go : HasOutside cs rs qs → IsWithin cs rs qs → IsTrue false
    go (p, point, inside, outside) v = let x = v p point inside in absurd (cc)
