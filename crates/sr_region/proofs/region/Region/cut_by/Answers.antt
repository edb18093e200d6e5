use Rattle.std.proofs.Common.{◌≡◌, [], ◌++◌, sym, ◌∙◌, subst, arith}
use Rattle.std.specs.Prelude.{filter, not}
use Rattle.std.proofs.lemmas.Grind.{common_steps}
use Rattle.sr_union.specs.Pieces.{near, IsMinus}
use Rattle.sr_union.specs.Grid.{AreCutFrom}
use Rattle.sr_region.specs.Regions.{is_in}
use Rattle.sr_region.specs.Halves.{IsInside, IsOutside}
use Rattle.sr_region.proofs.Sides.{half-emptied, inside-from, outside-from, all-inside, none-outside}
use Rattle.sr_region.proofs.Near.{stays-inside, stays-outside}
use Rattle.sr_region.proofs.region.Region.cut_by.Goals as goal

pub returns-in-Ok-rooms-clause-inside : goal.returns-in-Ok-rooms-clause-inside
returns-in-Ok-rooms-clause-inside c =
    subst (IsInside c.args.table.now c.args.self c.args.rects.now) (sym (c.halves_of.ensures.inside ∙ half-emptied c.args.self c.replace-own.new.dest c.in-Ok.cut.inside (filter (is_in c.args.self.attrs c.args.rects.now) c.args.self.rows)))
    (inside-from c.args.table.now c.args.self c.args.rects.now c.in-Ok.cut.outside c.in-Ok.cut.inside c.requires.region c.requires.first c.requires.fit c.requires.only
    (subst (λ own. IsMinus c.args.table.now.columns own c.args.rects.now c.in-Ok.cut.outside) c.replace-own.ensures.value c.in-Ok.ensures.outside)
    (subst (λ own. IsMinus c.args.table.now.columns own c.in-Ok.cut.outside c.in-Ok.cut.inside) c.replace-own.ensures.value c.in-Ok.ensures.inside)
    (subst (λ own. AreCutFrom c.args.table.now.columns (own ++ c.args.rects.now) c.in-Ok.cut.inside) c.replace-own.ensures.value c.in-Ok.ensures.cuts_inside))

pub returns-in-Ok-rooms-clause-outside : goal.returns-in-Ok-rooms-clause-outside
returns-in-Ok-rooms-clause-outside c =
    subst (IsOutside c.args.table.now c.args.self c.args.rects.now)
    (sym (c.halves_of.ensures.outside ∙ half-emptied c.args.self c.replace-own.new.dest c.in-Ok.cut.outside (filter (λ row. not (is_in c.args.self.attrs c.args.rects.now row)) c.args.self.rows)))
    (outside-from c.args.table.now c.args.self c.args.rects.now c.in-Ok.cut.outside c.requires.region c.requires.first c.requires.fit c.requires.only
    (subst (λ own. IsMinus c.args.table.now.columns own c.args.rects.now c.in-Ok.cut.outside) c.replace-own.ensures.value c.in-Ok.ensures.outside)
    (subst (λ own. AreCutFrom c.args.table.now.columns (own ++ c.args.rects.now) c.in-Ok.cut.outside) c.replace-own.ensures.value c.in-Ok.ensures.cuts))

pub returns-then-len-limit-clause-inside : goal.returns-then-len-limit-clause-inside
returns-then-len-limit-clause-inside c =
    let empty : c.in_ok-meeting.meeting ≡ [] = grind (arith, common_steps) in
    let none : near c.args.rects.now c.args.self.rects ≡ [] = sym c.in_ok-meeting.ensures ∙ empty in
    stays-inside c.args.table.now c.args.self c.args.rects.now c.requires.region c.requires.first c.requires.fit c.requires.only none

pub returns-then-len-limit-clause-outside : goal.returns-then-len-limit-clause-outside
returns-then-len-limit-clause-outside c =
    let empty : c.in_ok-meeting.meeting ≡ [] = grind (arith, common_steps) in
    let none : near c.args.rects.now c.args.self.rects ≡ [] = sym c.in_ok-meeting.ensures ∙ empty in
    stays-outside c.args.table.now c.args.self c.args.rects.now c.requires.region c.requires.first c.requires.fit c.requires.only none

pub returns-then-is_empty-2-clause-inside : goal.returns-then-is_empty-2-clause-inside
returns-then-is_empty-2-clause-inside c =
    let none : c.in-Ok.cut.outside ≡ [] = grind (arith, common_steps) in
    subst (IsInside c.args.table.now c.args.self c.args.rects.now) (sym (c.all_inside.ensures.inside ∙ half-emptied c.args.self c.replace-own.new.dest c.in-Ok.cut.inside c.args.self.rows))
    (all-inside c.args.table.now c.args.self c.args.rects.now c.in-Ok.cut.outside c.in-Ok.cut.inside c.requires.region c.requires.first c.requires.fit c.requires.only
    (subst (λ own. IsMinus c.args.table.now.columns own c.args.rects.now c.in-Ok.cut.outside) c.replace-own.ensures.value c.in-Ok.ensures.outside)
    (subst (λ own. IsMinus c.args.table.now.columns own c.in-Ok.cut.outside c.in-Ok.cut.inside) c.replace-own.ensures.value c.in-Ok.ensures.inside)
    (subst (λ own. AreCutFrom c.args.table.now.columns (own ++ c.args.rects.now) c.in-Ok.cut.inside) c.replace-own.ensures.value c.in-Ok.ensures.cuts_inside)
    none)

pub returns-then-is_empty-2-clause-outside : goal.returns-then-is_empty-2-clause-outside
returns-then-is_empty-2-clause-outside c =
    let none : c.in-Ok.cut.outside ≡ [] = grind (arith, common_steps) in
    subst (IsOutside c.args.table.now c.args.self c.args.rects.now) (sym c.all_inside.ensures.outside)
    (none-outside c.args.table.now c.args.self c.args.rects.now c.in-Ok.cut.outside c.requires.region c.requires.first c.requires.fit c.requires.only
    (subst (λ own. IsMinus c.args.table.now.columns own c.args.rects.now c.in-Ok.cut.outside) c.replace-own.ensures.value c.in-Ok.ensures.outside) none)
