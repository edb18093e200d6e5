-- Rects and their own cuts; what is left after some of the others.
use Rattle.std.proofs.Common.{◌≡◌, ℕ, ◌<◌, ◌≤◌, ◌+◌, ◌*◌, zero, suc, true, List, [], ◌∷◌, ◌++◌, length, take, slice_index_or, refl, arith, ◌∙◌, sym, append_assoc, subst}
use Rattle.std.specs.List.{list_all}
use Rattle.std.proofs.lemmas.List.Folds.{list_all-append}
use Rattle.std.proofs.lemmas.List.{append-nil, take_more}
use Rattle.sr_cell.specs.declared.cell.Cell.{Cell}
use Rattle.sr_cell.specs.declared.table.Column.{Column}
use Rattle.sr_box.specs.declared.span.Span.{Span}
use Rattle.sr_cell.specs.Columns.{is_point}
use Rattle.sr_box.specs.Points.{rect_fits, times}
use Rattle.sr_box.specs.Corners.{cuts_of, have_first}
use Rattle.sr_union.specs.Pieces.{minus_each, minus_all}
use Rattle.sr_union.specs.Grid.{first_cuts, others, CutsAmong, AreCutFrom, grid}
use Rattle.sr_union.proofs.Cuts.{is_among-append}
use Rattle.sr_union.proofs.Times.{minus_all-times}
use Rattle.sr_union.proofs.Among.{minus_all-are}
use Rattle.sr_union.proofs.Count.{length-grid}

first_cuts-append : (c : Column) (a b : List (List Span)) → first_cuts c (a ++ b) ≡ first_cuts c a ++ first_cuts c b
first_cuts-append c [] b = refl
first_cuts-append c ([] ∷ a) b = first_cuts-append c a b
first_cuts-append c ((s ∷ r) ∷ a) b = rw (first_cuts-append c a b) (sym (append_assoc (cuts_of c.kind c.lo c.hi c.nullable s) (first_cuts c a) (first_cuts c b)))

others-append : (a b : List (List Span)) → others (a ++ b) ≡ others a ++ others b
others-append [] b = refl
others-append ([] ∷ a) b = others-append a b
others-append ((s ∷ r) ∷ a) b = rw (others-append a b) refl

among-member : (cs : List Column) (pre : List (List Span)) (r : List Span) (post : List (List Span)) → CutsAmong cs r (pre ++ r ∷ post)
among-member [] pre r post = tt
among-member (c ∷ cs) pre [] post = tt
among-member (c ∷ cs) pre (s ∷ r) post = (
  λ v h. rw (first_cuts-append c pre ((s ∷ r) ∷ post), is_among-append (first_cuts c pre) (cuts_of c.kind c.lo c.hi c.nullable s ++ first_cuts c post) v, is_among-append (cuts_of c.kind c.lo c.hi c.nullable s) (first_cuts c post) v) (grind (arith, h)),
  rw (others-append pre ((s ∷ r) ∷ post)) (among-member cs (others pre) r (others post)),
)

pub are_part : (cs : List Column) (pre rs post : List (List Span)) → list_all (rect_fits cs) rs ≡ true → AreCutFrom cs (pre ++ (rs ++ post)) rs
are_part cs pre [] post f = tt
are_part cs pre (r ∷ rs) post f = (
  grind arith,
  among-member cs pre r (rs ++ post),
  subst (λ given. AreCutFrom cs given rs) (append_assoc pre (r ∷ []) (rs ++ post)) (are_part cs (pre ++ r ∷ []) rs post (grind arith)),
)

pub are_fit : (cs : List Column) (given rs : List (List Span)) → AreCutFrom cs given rs → list_all (rect_fits cs) rs ≡ true
are_fit cs given [] h = refl
are_fit cs given (r ∷ rs) h = let ih = are_fit cs given rs h.2 in let x = h.0 in grind arith

pub are_take : (cs : List Column) (given rs : List (List Span)) (k : ℕ) → AreCutFrom cs given rs → AreCutFrom cs given (take k rs)
are_take cs given [] zero h = tt
are_take cs given [] (suc k) h = tt
are_take cs given (r ∷ rs) zero h = tt
are_take cs given (r ∷ rs) (suc k) h = (h.0, h.1, are_take cs given rs k h.2)

minus_all-append : (cs : List Column) (rs a b : List (List Span)) → minus_all cs rs (a ++ b) ≡ minus_all cs (minus_all cs rs a) b
minus_all-append cs rs [] b = refl
minus_all-append cs rs (q ∷ a) b = minus_all-append cs (minus_each cs rs q) a b

-- what is left of the rects without the first k of the others
pub left_are : (cs : List Column) (rs qs : List (List Span)) (k : ℕ) → have_first cs ≡ true → list_all (rect_fits cs) rs ≡ true → list_all (rect_fits cs) qs ≡ true → AreCutFrom cs (rs ++ qs) (minus_all cs rs (take k qs))
left_are cs rs qs k d f g = minus_all-are cs (rs ++ qs) rs (take k qs) d (are_part cs [] rs qs f)
    (are_take cs (rs ++ qs) qs k (subst (λ all. AreCutFrom cs (rs ++ all) qs) (append-nil qs) (are_part cs rs qs [] g)))

pub left_few : (cs : List Column) (rs qs : List (List Span)) (k m : ℕ) → have_first cs ≡ true → list_all (rect_fits cs) rs ≡ true → list_all (rect_fits cs) qs ≡ true
    → ((p : List Cell) → is_point cs p ≡ true → times rs p ≤ m) → length (minus_all cs rs (take k qs)) ≤ m * grid cs (rs ++ qs)
left_few cs rs qs k m d f g h = length-grid cs (rs ++ qs) (minus_all cs rs (take k qs)) m d (list_all-append (rect_fits cs) rs qs ∙ grind (arith, f, g)) (left_are cs rs qs k d f g)
    (λ p e. let x = minus_all-times cs rs (take k qs) p (are_fit cs (rs ++ qs) (take k qs) (are_take cs (rs ++ qs) qs k (subst (λ all. AreCutFrom cs (rs ++ all) qs) (append-nil qs) (are_part cs rs qs [] g)))) e in
    let y = h p e in grind (arith, x, y))

pub left_more : (cs : List Column) (rs qs : List (List Span)) (k : ℕ) (d : List Span) → k < length qs → minus_all cs rs (take (k + 1) qs) ≡ minus_each cs (minus_all cs rs (take k qs)) (slice_index_or qs k d)
left_more cs rs qs k d l = rw (take_more qs k d l) (minus_all-append cs rs (take k qs) (slice_index_or qs k d ∷ []))
