use Rattle.std.proofs.Common.{◌≡◌, ℕ, ◌*◌, ◌/◌, ◌%◌, ◌+◌, List, Bool, Some, true, false, take, drop, get_or, refl, sym, ap, ◌∙◌, arith}
use Rattle.std.specs.Prelude.{Option, slice_get, not}
use Rattle.std.proofs.lemmas.Nat.{div-add-mod'}
use Rattle.std.proofs.lemmas.Option.{slice_get-get_or}
use Rattle.sr_box.specs.Points.{Rect}
use Rattle.sr_image.specs.Index.{is_in_hull, is_under}
use Rattle.sr_image.proofs.Covering.{none-under, block-under}
use Rattle.sr_image.proofs.index.is_passed.Goals as goal

no-way : (b : Bool) → not b ≡ true → b ≡ false
no-way true h = absurd cc
no-way false h = refl

pub returns-in-Some-Some-clause-none : goal.returns-in-Some-Some-clause-none
returns-in-Some-Some-clause-none c =
    λ rects order passed under.
    let size : ℕ = c.args.level.now.size in
    let j : ℕ = c.args.at / size in
    let hulls : List (Option Rect) = c.args.level.now.hulls.items in
    let look = c.in-Some-Some.ensures.lookup in
    let at : slice_get hulls j ≡ Some (Some c.in-Some-Some.hull) =
    ap (λ (hs : List (Option Rect)). slice_get hs j) (sym c.deref.ensures.value)
    ∙ slice_get-get_or c.deref.result.now j c.in-Some-Some.field-0.now look.3.0
    ∙ ap (λ (h : Option Rect). Some h) (sym look.1 ∙ c.in-Some-Some.field-0-is) in
    let whole = div-add-mod' c.args.at size in
    let is : j * size ≡ c.args.at = omega (arith, whole, c.if-at-level-ne0.false) in
    let block = block-under rects size j hulls order (Some c.in-Some-Some.hull) at under in
    let none : is_in_hull c.args.sought.now c.in-Some-Some.hull ≡ false = sym c.may_be_in.ensures ∙ no-way c.may_be_in.result passed in
    none-under c.args.sought.now rects c.in-Some-Some.hull (take size (drop c.args.at order)) (ap (λ n. is_under rects (Some c.in-Some-Some.hull) (take size (drop n order))) (sym is) ∙ block) none
