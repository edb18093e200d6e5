use Rattle.std.proofs.Common.{◌≡◌, true, [], ◌∷◌, sym, subst, arith}
use Rattle.std.specs.List.{list_all}
use Rattle.sr_union.specs.Hulls.{in_hull}
use Rattle.sr_union.proofs.Hulls.{all_both, all_wider}
use Rattle.sr_union.proofs.rects.Rects.push.Goals as goal

pub invariant_of-self-2 : goal.invariant_of-self-2
invariant_of-self-2 c =
    let has = c.with-hull.ensures.has in
    subst (λ rects. list_all (in_hull c.with-hull.result) rects ≡ true) (sym c.in_ok-push.ensures.pushed)
    (all_both (in_hull c.with-hull.result) c.self.inside.rects (c.args.rect ∷ [])
    (all_wider (in_hull c.self.inside.hull) (in_hull c.with-hull.result) c.with-hull.ensures.more c.self.inside.rects c.self.invariant) (grind (arith, has)))
