use Rattle.std.proofs.Common.{◌≡◌, ℕ, List, false, take, get_or, sym, ap, ◌∙◌}
use Rattle.sr_box.specs.Points.{Rect}
use Rattle.sr_image.specs.Reading.{meets_some}
use Rattle.sr_image.proofs.Apart.{met-more}
use Rattle.sr_image.proofs.index.place_met.Goals as goal

pub loop-place-preserved : goal.loop-place-preserved
loop-place-preserved c =
    let rects : List Rect = c.args.rects.now in
    let i : ℕ = c.loop-place.place in
    let d : Rect = c.index-rects-place.result in
    let met : meets_some (take i rects) (get_or rects i d) ≡ false = ap (meets_some (take i rects)) (sym c.index-rects-place.is) ∙ (sym c.meets_before.ensures ∙ c.if-meets_before.false) in
    c.loop-place.invariant ∙ met-more rects i d c.loop-place-test.true met
