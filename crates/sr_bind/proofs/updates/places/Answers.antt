use Rattle.std.proofs.Common.{◌≡◌, List, Ok, Err, subst}
use Rattle.sr_query.specs.declared.write.Place.{Place}
use Rattle.sr_query.specs.Decided.{Decides}
use Rattle.sr_query.specs.Written.{place_of}
use Rattle.sr_bind.specs.Written.{columns_of, next_place}
use Rattle.sr_bind.proofs.Writing.{one_place_more, no_place_more}
use Rattle.sr_bind.proofs.updates.places.Goals as goal

pub returns-in-Err : goal.returns-in-Err
returns-in-Err c =
    let table = c.args.table.now in
    let set = c.set-item.result in
    let refused =
    subst (λ (places : List Place). Decides place_of (Err c.in-Err.no) (next_place table (columns_of places) set)) c.as_slice.ensures c.in-Err.ensures in
    no_place_more table c.args.sets.now c.loop-set.set-index set c.loop-set.places c.in-Err.no _ c.loop-set-test.true c.set-item.is refused c.loop-set.invariant

pub loop-set-preserved : goal.loop-set-preserved
loop-set-preserved c =
    let table = c.args.table.now in
    let set = c.set-item.result in
    let placed =
    subst (λ (places : List Place). next_place table (columns_of places) set ≡ Ok (place_of c.in-Ok.place)) c.as_slice.ensures c.in-Ok.ensures in
    one_place_more table c.args.sets.now c.loop-set.set-index set c.loop-set.places c.push.new.self c.in-Ok.place _ c.loop-set-test.true c.set-item.is placed c.in_ok-push-in-Ok.ensures.pushed c.loop-set.invariant
