-- The steps of a client over any link go by what the frames brought.
use Rattle.std.proofs.Common.{[], ◌∷◌}
use Rattle.sr_store.specs.Told.{Told}
use Rattle.sr_session.specs.Brought.{told_basis}
use Rattle.sr_links.specs.Brought.{Holding, told_next, StepsGoByTold}

pub steps-go-by-told : {C : Type 0} (Has : Holding C) → StepsGoByTold Has
steps-go-by-told {C} Has limits schema code c [] told has lawful = (tt, tt)
steps-go-by-told {C} Has limits schema code c (step ∷ steps) told has (one, others) =
    let goes = one told has in
    let next : Told = told_next schema c step.deed told in
    let rest = steps-go-by-told Has limits schema step.code step.past steps next goes.1 others in
    ((goes.0, rest.0), ((told_basis schema limits next, goes.0.does), rest.1))
