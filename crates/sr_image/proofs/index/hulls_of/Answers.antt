use Rattle.std.proofs.Common.{◌≡◌, ℕ, suc, ◌*◌, ◌+◌, ◌≤◌, List, [], ◌∷◌, ◌++◌, true, length, take, drop, sym, ap, ◌∙◌, length-append, arith}
use Rattle.std.specs.Prelude.{Option}
use Rattle.sr_box.specs.Points.{Rect}
use Rattle.sr_image.specs.Index.{are_under, is_under}
use Rattle.sr_image.proofs.Covering.{hulls-more, take-past}
use Rattle.sr_image.proofs.Spelled.{drop-again}
use Rattle.sr_image.proofs.index.hulls_of.Goals as goal

one-more : (size n m : ℕ) → m ≡ n + 1 → size + n * size ≡ m * size
one-more size n m e =
    let turn : size + n * size ≡ n * size + size = omega arith in
    let next : n * size + size ≡ suc n * size = grind arith in
    let is : suc n ≡ m = omega (arith, e) in
    turn ∙ next ∙ ap (λ (k : ℕ). k * size) is

pub loop-left-preserved : goal.loop-left-preserved
loop-left-preserved c =
    let rects : List Rect = c.args.rects.now in
    let size : ℕ = c.args.size in
    let order : List ℕ = c.args.order.now in
    let hulls : List (Option Rect) = c.loop-left.hulls.items in
    let hull : Option Rect = c.in_ok-hull.hull in
    let pushed : c.push.new.self.items ≡ hulls ++ hull ∷ [] = c.in_ok-push.ensures.items in
    let here : is_under rects hull (take size (drop (length hulls * size) order)) ≡ true =
    ap (λ (xs : List ℕ). is_under rects hull (take size xs)) (sym c.loop-left.invariant.left) ∙ (ap (is_under rects hull) (sym c.split_at.ensures.front) ∙ c.in_ok-hull.ensures) in
    let longer : length (hulls ++ hull ∷ []) ≡ length hulls + 1 = length-append hulls (hull ∷ []) in
    let more : size + length hulls * size ≡ length (hulls ++ hull ∷ []) * size = one-more size (length hulls) (length (hulls ++ hull ∷ [])) longer in
    record {
      under = ap (λ (hs : List (Option Rect)). are_under rects size hs order) pushed ∙ hulls-more rects size hulls order hull c.loop-left.invariant.under here;
      left =
          c.split_at.ensures.back ∙ ap (drop size) c.loop-left.invariant.left ∙ drop-again size (length hulls * size) order ∙ ap (λ n. drop n order) more
          ∙ ap (λ (hs : List (Option Rect)). drop (length hs * size) order) (sym pushed);
    }

pub returns : goal.returns
returns c =
    let rects : List Rect = c.args.rects.now in
    let size : ℕ = c.args.size in
    let order : List ℕ = c.args.order.now in
    let hulls : List (Option Rect) = c.loop-left.hulls.items in
    let hull : Option Rect = c.in_ok-hull-2.hull in
    let pushed : c.push-2.new.self.items ≡ hulls ++ hull ∷ [] = c.in_ok-push-2.ensures.items in
    let here : is_under rects hull (take size (drop (length hulls * size) order)) ≡ true =
    ap (λ (xs : List ℕ). is_under rects hull (take size xs)) (sym c.loop-left.invariant.left)
    ∙ (ap (is_under rects hull) (take-past size c.loop-left.left.now c.loop-left-test.false) ∙ c.in_ok-hull-2.ensures) in
    ap (λ (hs : List (Option Rect)). are_under rects size hs order) pushed ∙ hulls-more rects size hulls order hull c.loop-left.invariant.under here
