use Rattle.std.proofs.Common.{◌≡◌, true, [], ◌∷◌, ◌++◌, Some, subst, sym}
use Rattle.std.specs.Prelude.{IfSome, slice_get}
use Rattle.std.specs.List.{list_all}
use Rattle.sr_box.specs.Points.{Rect, rect_fits}
use Rattle.sr_union.specs.declared.join.Found.{Found}
use Rattle.sr_union.specs.Joined.{IsJoined}
use Rattle.sr_union.proofs.Joined.{all_fit, each_fit, joined_at, joined_trans}
use Rattle.sr_union.proofs.join.with_one.Goals as goal

pub find_neighbour-requires-clause-fits : goal.find_neighbour-requires-clause-fits
find_neighbour-requires-clause-fits c =
    (each_fit c.args.columns.now (c.args.rects ++ c.args.rect ∷ []) c.loop-rect.rects c.loop-rect.rect c.loop-rect.invariant (all_fit c.args.columns.now c.args.rects c.args.rect c.requires.rects_fit c.requires.fits)).1

pub find_neighbour-requires-clause-rects_fit : goal.find_neighbour-requires-clause-rects_fit
find_neighbour-requires-clause-rects_fit c =
    subst (λ rects. list_all (rect_fits c.args.columns.now) rects ≡ true) (sym c.as_slice.ensures)
    (each_fit c.args.columns.now (c.args.rects ++ c.args.rect ∷ []) c.loop-rect.rects c.loop-rect.rect c.loop-rect.invariant (all_fit c.args.columns.now c.args.rects c.args.rect c.requires.rects_fit c.requires.fits)).0

pub loop-rect-preserved : goal.loop-rect-preserved
loop-rect-preserved c =
    let found = subst (λ some. IfSome some (λ (f : Found). (r : Rect) → slice_get c.as_slice.result.now f.place ≡ Some r → IsJoined c.args.columns.now (r ∷ c.loop-rect.rect ∷ []) (f.both ∷ []))) c.in-Some.is c.in_ok-found.ensures.joined in
    let taken = subst (λ rects. slice_get rects c.in-Some.found.place ≡ Some c.remove.result) (sym c.as_slice.ensures) c.remove.ensures.taken in
    joined_trans c.args.columns.now (c.args.rects ++ c.args.rect ∷ []) (c.loop-rect.rects ++ c.loop-rect.rect ∷ []) (c.remove.new.self ++ c.in-Some.found.both ∷ []) c.loop-rect.invariant
    (joined_at c.args.columns.now c.loop-rect.rects c.remove.new.self c.remove.result c.loop-rect.rect c.in-Some.found.both c.in-Some.found.place c.remove.ensures.taken c.remove.ensures.removed
    (found c.remove.result taken))
