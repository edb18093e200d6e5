use Rattle.std.proofs.Common.{◌≡◌, ◌++◌, List, map, ap, subst, ◌∙◌}
use Rattle.std.specs.Option.{option_copied}
use Rattle.std.specs.Prelude.{IfSome}
use Rattle.sr_cell.specs.Cells.{Row, cell_at}
use Rattle.sr_semi.specs.Going.{output_in}
use Rattle.sr_semi.specs.Keys.{by_key, with_key}
use Rattle.sr_semi.specs.Seen.{sides_seen}
use Rattle.sr_semi.specs.Sides.{right_place}
use Rattle.sr_semi.proofs.Looking.{joined-more}
use Rattle.sr_semi.proofs.joining.join.Goals.{in-Some+in_ok-join_one-in-Some, in-None+in_ok-join_other-in-None}
use Rattle.sr_semi.proofs.joining.join.Goals as goal

pub loop-left-preserved : goal.loop-left-preserved
loop-left-preserved c =
    let s = sides_seen c.args.sides.now in
    let rights = c.args.rights.now in
    let left = c.left-item.result in
    let made = λ (rows : List Row). c.loop-left.answer ++ map (λ r. map (output_in s left r) s.outputs) rows in
    let is : List Row → Type 0 = λ rows. rows ≡ with_key c.right_place.result rights (cell_at left c.left_place-place.result) in
    joined-more s c.args.lefts.now rights c.loop-left.left-index left c.loop-left.answer c.match-found_for.answer _
    c.loop-left-test.true c.left-item.is (elim c.match-found_for.branch [
      | in-Some+in_ok-join_one-in-Some w ↦
          w.answer-is ∙ (w.in_ok-join_one-in-Some.ensures
          ∙ ap made (w.as_slice-in-Some.ensures ∙ (subst (λ o. IfSome (option_copied o) is) w.in-Some.is
          (c.found_for.ensures c.right_place.result rights (c.in_ok-found.ensures ∙ ap (by_key c.right_place.result rights) c.as_slice.ensures))
          ∙ (ap (λ p. with_key p rights (cell_at left c.left_place-place.result)) c.right_place.ensures ∙ ap (λ p. with_key (right_place s) rights (cell_at left p)) c.left_place-place.ensures))))
      | in-None+in_ok-join_other-in-None w ↦ w.answer-is ∙ w.in_ok-join_other-in-None.ensures
    ]) c.loop-left.invariant
