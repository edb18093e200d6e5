use Rattle.std.proofs.Common.{◌≡◌, ◌++◌, ◌≤◌, length, true, sym, ap, subst, arith}
use Rattle.std.proofs.lemmas.Bool.Decides.{nat_tests}
use Rattle.sr_cell.specs.Cells.{Row}
use Rattle.sr_cell.specs.Columns.{is_point}
use Rattle.std.specs.List.{list_all}
use Rattle.sr_box.specs.Points.{times, rect_fits}
use Rattle.sr_union.specs.Pieces.{near, IsMinus, IsMeet}
use Rattle.sr_union.specs.Grid.{AreCutFrom, grid}
use Rattle.sr_union.proofs.Parts.{are_fit}
use Rattle.sr_union.proofs.Meets.{near-fits}
use Rattle.sr_union.proofs.Once.{err_same}
use Rattle.sr_region.proofs.Near.{near-few, near-cuts, near-grid, near-minus, meet-cuts, meet-minus}
use Rattle.sr_region.proofs.halves.cut_rects.Goals as goal

pub returns-in-Err-clause-over : goal.returns-in-Err-clause-over
returns-in-Err-clause-over c = λ e.
    let many = c.in-Err.ensures.over 1 (err_same c.in-Err.no _ e) c.requires.once in omega (arith, many)

pub without-requires-2-clause-other_fits : goal.without-requires-2-clause-other_fits
without-requires-2-clause-other_fits c = are_fit c.args.table.now.columns (c.args.own ++ c.args.cut.now) c.in-Ok.outside c.in-Ok.ensures.cuts

pub returns-in-Ok-without-clause-inside : goal.returns-in-Ok-without-clause-inside
returns-in-Ok-without-clause-inside c =
    let columns = c.args.table.now.columns in
    near-minus columns c.args.own c.args.cut.now c.in-Ok.outside c.in-Ok-without.inside c.in-Ok.ensures.points
    (subst (λ rects. IsMinus columns rects c.in-Ok.outside c.in-Ok-without.inside) c.requires.meeting c.in-Ok-without.ensures.points)

pub returns-in-Ok-without-clause-cuts_inside : goal.returns-in-Ok-without-clause-cuts_inside
returns-in-Ok-without-clause-cuts_inside c =
    let columns = c.args.table.now.columns in
    near-cuts columns c.args.own c.args.cut.now c.in-Ok.outside c.in-Ok-without.inside c.requires.own_fit c.in-Ok.ensures.cuts
    (subst (λ rects. AreCutFrom columns (rects ++ c.in-Ok.outside) c.in-Ok-without.inside) c.requires.meeting c.in-Ok-without.ensures.cuts)

pub returns-in-Err-without-clause-over : goal.returns-in-Err-without-clause-over
returns-in-Err-without-clause-over c = λ e.
    let columns = c.args.table.now.columns in
    let own = c.args.own in
    let cut = c.args.cut.now in
    let once : (p : Row) → is_point columns p ≡ true → times c.args.meeting p ≤ 1 = λ p point.
    subst (λ rects. times rects p ≤ 1) (sym c.requires.meeting) (let one = c.requires.once p point in omega (arith, one, near-few cut own p)) in
    let many = c.in-Err-without.ensures.over 1 (err_same c.in-Err-without.no _ e) once in
    let few = near-grid columns own cut c.in-Ok.outside c.requires.own_fit c.in-Ok.ensures.cuts in
    let same : grid columns (c.args.meeting ++ c.in-Ok.outside) ≡ grid columns (near cut own ++ c.in-Ok.outside) = ap (λ rects. grid columns (rects ++ c.in-Ok.outside)) c.requires.meeting in
    omega (arith, many, few, same)

pub without-requires-2-clause-self_fits : goal.without-requires-2-clause-self_fits
without-requires-2-clause-self_fits c =
    let columns = c.args.table.now.columns in
    subst (λ rects. list_all (rect_fits columns) rects ≡ true) (sym c.requires.meeting) (near-fits columns c.args.cut.now c.args.own c.requires.own_fit)

pub common-requires-clause-self_fits : goal.common-requires-clause-self_fits
common-requires-clause-self_fits c =
    let columns = c.args.table.now.columns in
    subst (λ rects. list_all (rect_fits columns) rects ≡ true) (sym c.requires.meeting) (near-fits columns c.args.cut.now c.args.own c.requires.own_fit)

pub returns-then-len-limit-clause-inside : goal.returns-then-len-limit-clause-inside
returns-then-len-limit-clause-inside c =
    let columns = c.args.table.now.columns in
    let one : length c.args.cut.now ≡ 1 = let is = c.len.ensures in let test = c.if-len-eq1.true in grind (arith, nat_tests, is, test) in
    meet-minus columns c.args.own c.args.cut.now c.in-Ok.outside c.in_ok-inside.inside one c.in-Ok.ensures.points
    (subst (λ rects. IsMeet columns rects c.args.cut.now c.in_ok-inside.inside) c.requires.meeting c.in_ok-inside.ensures.points)

pub returns-then-len-limit-clause-cuts_inside : goal.returns-then-len-limit-clause-cuts_inside
returns-then-len-limit-clause-cuts_inside c =
    let columns = c.args.table.now.columns in
    meet-cuts columns c.args.own c.args.cut.now c.in_ok-inside.inside c.requires.own_fit c.requires.cut_fit
    (subst (λ rects. AreCutFrom columns (rects ++ c.args.cut.now) c.in_ok-inside.inside) c.requires.meeting c.in_ok-inside.ensures.cuts)
