use Rattle.std.proofs.Common.{◌≡◌, List, [], ◌∷◌, w64, subst}
use Rattle.std.proofs.lemmas.Int.{to_z-of_z}
use Rattle.std.specs.Prelude.{IfOk}
use Rattle.sr_box.specs.Points.{Rect}
use Rattle.sr_store.specs.declared.store.Arrival.{Arrival}
use Rattle.sr_trials_points.proofs.Stores.{ages_same, arrival_of}
use Rattle.sr_trials_points.proofs.store.narrow.Goals as goal

pub returns : goal.returns
returns c =
    let ages = ages_same c.in_ok-ages.field-0 _ _ c.args.lo c.args.hi c.in_ok-ages.ensures (to_z-of_z w64 c.args.lo c.ranges.lo) (to_z-of_z w64 c.args.hi c.ranges.hi) in
    subst (λ (rects : List Rect). IfOk c.list_of.result (λ (rs : List Arrival). rs ≡ arrival_of rects [] ∷ [])) ages
    (subst (λ (r : Arrival). IfOk c.list_of.result (λ (rs : List Arrival). rs ≡ r ∷ [])) c.arrival_of.ensures c.list_of.ensures)
