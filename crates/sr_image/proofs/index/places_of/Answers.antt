use Rattle.std.proofs.Common.{◌≡◌, ◌∙◌, ℕ, ◌+◌, ◌≤◌, List, ◌∷◌, [], ◌++◌, length, take, get_or, sym, ap, arith}
use Rattle.std.proofs.lemmas.List.{length-take-le, take_more}
use Rattle.sr_box.specs.Points.{Rect}
use Rattle.sr_image.specs.Index.{numbered}
use Rattle.sr_image.proofs.Covering.{numbered-more}
use Rattle.sr_image.proofs.index.places_of.Goals as goal

pub loop-place-preserved : goal.loop-place-preserved
loop-place-preserved c =
    let rects : List Rect = c.args.rects.now in
    let i : ℕ = c.loop-place.place in
    let none : Rect = [] in
    let size : length (take i rects) ≡ i = length-take-le i rects (omega arith) in
    let e : 0 + length (take i rects) ≡ i = omega (arith, size) in
    c.in_ok-push.ensures.items ∙ ap (λ (xs : List ℕ). xs ++ i ∷ []) c.loop-place.invariant
    ∙ sym (ap (numbered 0) (take_more rects i none (omega arith)) ∙ numbered-more 0 (take i rects) (get_or rects i none) ∙ ap (λ (n : ℕ). numbered 0 (take i rects) ++ n ∷ []) e)
