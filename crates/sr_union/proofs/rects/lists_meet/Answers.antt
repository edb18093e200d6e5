use Rattle.std.proofs.Common.{◌≡◌, true, false, List, ◌++◌, length, take, sym, ap, ◌∙◌, arith, eqb-true}
use Rattle.std.proofs.lemmas.List.{take-append-drop}
use Rattle.sr_box.specs.Points.{Rect}
use Rattle.sr_union.proofs.Blocks.{no-block, none-left, some_meet, some-block}
use Rattle.sr_union.proofs.rects.lists_meet.Goals as goal

pub returns-then-meets_block : goal.returns-then-meets_block
returns-then-meets_block c =
    let rest : List Rect = c.loop-rest.rest.now in
    let is : rest ≡ c.split_at.result.0.now ++ c.split_at.result.1.now =
    sym (ap (λ (xs : List Rect). xs ++ c.split_at.result.1.now) c.split_at.ensures.front ∙ (ap (λ (xs : List Rect). take c.min.result rest ++ xs) c.split_at.ensures.back ∙ take-append-drop c.min.result rest)) in
    let some : some_meet c.split_at.result.0.now c.args.rects.now ≡ true = grind (arith, c.if-meets_block.true, c.meets_block.ensures) in
    sym (some-block c.split_at.result.0.now c.split_at.result.1.now rest c.args.rects.now is some) ∙ c.loop-rest.invariant

pub loop-rest-preserved : goal.loop-rest-preserved
loop-rest-preserved c =
    let rest : List Rect = c.loop-rest.rest.now in
    let is : rest ≡ c.split_at.result.0.now ++ c.split_at.result.1.now =
    sym (ap (λ (xs : List Rect). xs ++ c.split_at.result.1.now) c.split_at.ensures.front ∙ (ap (λ (xs : List Rect). take c.min.result rest ++ xs) c.split_at.ensures.back ∙ take-append-drop c.min.result rest)) in
    let none : some_meet c.split_at.result.0.now c.args.rects.now ≡ false = grind (arith, c.if-meets_block.false, c.meets_block.ensures) in
    no-block c.split_at.result.0.now c.split_at.result.1.now rest c.args.rects.now is none ∙ c.loop-rest.invariant

pub returns : goal.returns
returns c =
    let empty : c.is_empty.result ≡ true = grind (arith, c.loop-rest-test.false) in
    let none : length c.loop-rest.rest.now ≡ 0 = eqb-true (length c.loop-rest.rest.now) 0 (sym c.is_empty.ensures ∙ empty) in
    sym (none-left c.loop-rest.rest.now c.args.rects.now none) ∙ c.loop-rest.invariant
