use Rattle.std.proofs.Common.{◌+◌, ◌∙◌, false, sym, ap, drop, length, get_or, arith}
use Rattle.std.specs.Prelude.{if◌then◌else◌}
use Rattle.sr_region.specs.declared.region.Region.{Region}
use Rattle.sr_store.specs.Stores.{count_rects}
use Rattle.sr_store.specs.Answered.{flagged}
use Rattle.sr_store.proofs.Partings.{room_step, room_less, room_none}
use Rattle.sr_store.proofs.answer.room_after.Goals as goal

pub loop-i-preserved : goal.loop-i-preserved
loop-i-preserved c =
    let i = c.loop-i.i in
    let g = c.index-regions-i.result in
    let behind = count_rects (flagged false (drop (i + 1) c.args.flags.now) (drop (i + 1) c.args.regions.now)) in
    let f = get_or c.args.flags.now i false in
    let step =
    room_step c.args.flags.now c.args.regions.now i false g c.requires c.loop-i-test.true
    ∙ ap (λ (h : Region). (if f then 0 else length h.rects) + behind) (sym c.index-regions-i.is) ∙ ap (λ n. n + behind) (sym c.plain_count-count.ensures) in
    room_less (count_rects (flagged false c.args.flags.now c.args.regions.now)) c.loop-i.left c.args.room (count_rects (flagged false (drop i c.args.flags.now) (drop i c.args.regions.now))) behind
    c.plain_count-count.result c.loop-i.invariant step (omega (arith, c.if-count-left.false))

pub returns-then-count-left-clause-none : goal.returns-then-count-left-clause-none
returns-then-count-left-clause-none c =
    let i = c.loop-i.i in
    let g = c.index-regions-i.result in
    let behind = count_rects (flagged false (drop (i + 1) c.args.flags.now) (drop (i + 1) c.args.regions.now)) in
    let f = get_or c.args.flags.now i false in
    let step =
    room_step c.args.flags.now c.args.regions.now i false g c.requires c.loop-i-test.true
    ∙ ap (λ (h : Region). (if f then 0 else length h.rects) + behind) (sym c.index-regions-i.is) ∙ ap (λ n. n + behind) (sym c.plain_count-count.ensures) in
    room_none (count_rects (flagged false c.args.flags.now c.args.regions.now)) c.loop-i.left c.args.room (count_rects (flagged false (drop i c.args.flags.now) (drop i c.args.regions.now))) behind
    c.plain_count-count.result c.loop-i.invariant step c.if-count-left.true
