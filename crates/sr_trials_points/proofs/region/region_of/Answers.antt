use Rattle.std.proofs.Common.{◌≡◌, List, [], ◌∷◌, w64, ap, ap₂, sym, arith, ◌∙◌}
use Rattle.std.proofs.lemmas.Int.{to_z-of_z}
use Rattle.sr_box.specs.declared.span.Span.TheVariants.{Full, Nums}
use Rattle.sr_box.specs.Points.{Rect}
use Rattle.sr_region.specs.declared.region.Region.{Region}
use Rattle.sr_trials_points.proofs.Regions.{one_area}
use Rattle.sr_trials_points.proofs.region.region_of.Goals as goal

pub returns-clause-region : goal.returns-clause-region
returns-clause-region c =
    let no = c.if-not-fits.false in
    let fit = c.fits.ensures in
    c.new.ensures.region c.args.table.now (one_area c.args.table.now _ _ c.in_ok-rects.rects (sym c.requires) c.in_ok-rects.ensures (grind (arith, no, fit)))

pub returns-clause-is : goal.returns-clause-is
returns-clause-is c =
    let lo : _ ≡ c.args.lo = to_z-of_z w64 c.args.lo c.ranges.lo in
    let hi : _ ≡ c.args.hi = to_z-of_z w64 c.args.hi c.ranges.hi in
    let is = c.in_ok-rects.ensures ∙ ap₂ (λ a b. (Full ∷ Nums a b ∷ []) ∷ []) lo hi in
    c.new.ensures.is ∙ ap (λ (rects : List Rect). let g : Region = record { table = 2; key = 0; attrs = 3; stamp = 7; rects = rects; rows = [] } in g) is
