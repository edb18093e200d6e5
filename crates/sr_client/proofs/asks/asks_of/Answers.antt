use Rattle.std.proofs.Common.{rules, ◌≡◌, ◌≤◌, ◌+◌, ◌++◌, ◌∷◌, [], length, sym, subst, arith, take}
use Rattle.sr_message.specs.Sizes.{most_rects, count_asked}
use Rattle.sr_query.specs.declared.query.Part.{Part}
use Rattle.sr_union.proofs.Once.{err_same}
use Rattle.sr_client.specs.Asking.{AsksRest, AreMeant}
use Rattle.sr_client.specs.Cutting.{AreCutAlong}
use Rattle.sr_client.proofs.Items.{take-item, take-end}
use Rattle.sr_client.proofs.AskLemmas.{IsAskedOf, asked-none, asked-more, over-at, meant-at, leaves-at}
use Rattle.sr_client.proofs.asks.asks_of.Goals as goal

pub loop-part-init : goal.loop-part-init
loop-part-init c =
    let s = c.args.schema.now in
    let gs = c.args.store.now.regions in
    subst (IsAskedOf s gs [] most_rects) (sym c.new-asks.ensures) (asked-none s gs)

pub rest_of-requires-clause-meant : goal.rest_of-requires-clause-meant
rest_of-requires-clause-meant c =
    subst (λ (p : Part). AreMeant c.args.schema.now (p ∷ [])) (sym c.part-item.is)
    (meant-at c.args.schema.now c.args.parts.now c.loop-part.part-index c.part-item.result (search rules) c.requires.meant)

pub loop-part-preserved : goal.loop-part-preserved
loop-part-preserved c =
    let s = c.args.schema.now in
    let gs = c.args.store.now.regions in
    let i = c.loop-part.part-index in
    let items = take-item c.args.parts.now i c.part-item.result (search rules) c.part-item.is in
    let fits = subst (λ asks. c.room_behind-room.result + count_asked asks ≡ c.loop-part.room) c.as_slice.ensures c.room_behind-room.ensures in
    let more = asked-more s gs (take i c.args.parts.now) c.part-item.result c.loop-part.room c.room_behind-room.result c.loop-part.asks c.in-Ok.rest c.loop-part.invariant c.in-Ok.ensures.asks c.in-Ok.ensures.cuts
    c.in-Ok.ensures.few c.in-Ok.ensures.grid fits in
    subst (IsAskedOf s gs (take (i + 1) c.args.parts.now) c.room_behind-room.result) (sym c.in_ok-append-in-Ok.ensures.appended)
    (subst (λ ps. IsAskedOf s gs ps c.room_behind-room.result (c.loop-part.asks ++ c.in-Ok.rest)) (sym items) more)

pub returns-in-Err-clause-over : goal.returns-in-Err-clause-over
returns-in-Err-clause-over c = λ e.
    over-at c.args.schema.now c.args.store.now.regions c.args.parts.now c.loop-part.part-index c.part-item.result c.loop-part.room c.loop-part.asks (search rules) c.part-item.is c.loop-part.invariant (c.in-Err.ensures.over (err_same c.in-Err.no _ e))

pub returns-in-Err-clause-over_left : goal.returns-in-Err-clause-over_left
returns-in-Err-clause-over_left c = λ e.
    leaves-at c.args.schema.now c.args.store.now.regions c.args.parts.now c.loop-part.part-index c.part-item.result (search rules) c.part-item.is (c.in-Err.ensures.over_left (err_same c.in-Err.no _ e))

pub returns-clause-asks : goal.returns-clause-asks
returns-clause-asks c = subst (λ ps. AsksRest c.args.schema.now c.args.store.now.regions ps c.loop-part.asks) (take-end c.args.parts.now c.loop-part.part-index (search rules)) c.loop-part.invariant.rest

pub returns-clause-few : goal.returns-clause-few
returns-clause-few c = subst (λ ps. length c.loop-part.asks ≤ length ps) (take-end c.args.parts.now c.loop-part.part-index (search rules)) c.loop-part.invariant.few

pub returns-clause-rects : goal.returns-clause-rects
returns-clause-rects c = omega (arith, c.loop-part.invariant.left)

pub returns-clause-cuts : goal.returns-clause-cuts
returns-clause-cuts c = subst (λ ps. AreCutAlong c.args.schema.now c.args.store.now.regions ps c.loop-part.asks) (take-end c.args.parts.now c.loop-part.part-index (search rules)) c.loop-part.invariant.along
