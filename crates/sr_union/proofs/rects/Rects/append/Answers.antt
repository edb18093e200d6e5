use Rattle.std.proofs.Common.{◌≡◌, true, sym, subst}
use Rattle.std.specs.List.{list_all}
use Rattle.sr_union.specs.Hulls.{in_hull}
use Rattle.sr_union.proofs.Hulls.{all_both, all_wider}
use Rattle.sr_union.proofs.rects.Rects.append.Goals as goal

pub invariant_of-self-2 : goal.invariant_of-self-2
invariant_of-self-2 c =
    let hull = in_hull c.both-self-inside.result in
    subst (λ rects. list_all hull rects ≡ true) (sym c.in_ok-append.ensures.appended)
    (all_both hull c.self.inside.rects c.more.inside.rects
    (all_wider (in_hull c.self.inside.hull) hull c.both-self-inside.ensures.one c.self.inside.rects c.self.invariant)
    (all_wider (in_hull c.more.inside.hull) hull c.both-self-inside.ensures.other c.more.inside.rects c.more.invariant))
