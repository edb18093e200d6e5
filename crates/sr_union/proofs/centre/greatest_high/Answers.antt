use Rattle.std.proofs.Common.{◌≡◌, ◌∷◌, ◌+◌, ◌∙◌, map, drop, ap, sym, w64, to_z, of_z}
use Rattle.std.specs.Prelude.{int_le, if◌then◌else◌}
use Rattle.std.proofs.lemmas.List.{drop_more}
use Rattle.sr_box.specs.Points.{Rect}
use Rattle.sr_union.specs.Free.{span_at}
use Rattle.sr_union.specs.Centre.{high_of, greatest}
use Rattle.sr_union.proofs.Middles.{held}
use Rattle.sr_union.proofs.centre.greatest_high.Goals as goal

pub loop-rect-preserved : goal.loop-rect-preserved
loop-rect-preserved c =
    let others = c.args.others.now in
    let i = c.loop-rect.rect-index in
    let r = c.rect-item.result in
    let far = to_z w64 c.loop-rect.greatest-bits in
    let of_rect = λ (q : Rect). high_of c.args.column.now.kind c.args.column.now.lo c.args.column.now.hi (span_at c.args.k q) in
    let first : drop i others ≡ r ∷ drop (i + 1) others = drop_more others i r c.loop-rect-test.true ∙ ap (λ q. q ∷ drop (i + 1) others) (sym c.rect-item.is) in
    let own = held c.high_at.result (record { sfits = c.high_at.type_inv }) in
    let new = held c.greater-greatest.result (record { sfits = c.greater-greatest.type_inv }) in
    let step : to_z w64 (of_z w64 c.greater-greatest.result) ≡ (if int_le far (of_rect r) then of_rect r else far) = cc (own, new) in
    ap (λ x. greatest x (map of_rect (drop (i + 1) others))) step ∙ sym (ap (λ qs. greatest far (map of_rect qs)) first) ∙ c.loop-rect.invariant
