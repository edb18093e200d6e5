use Rattle.std.proofs.Common.{◌≡◌, List, [], ◌∷◌, w64, ap, ◌∙◌, subst}
use Rattle.std.proofs.lemmas.Int.{to_z-of_z}
use Rattle.std.specs.Prelude.{IfOk, pos}
use Rattle.sr_cell.specs.declared.cell.Cell.TheVariants.{Num}
use Rattle.sr_cell.specs.Cells.{Row}
use Rattle.sr_box.specs.Points.{Rect}
use Rattle.sr_store.specs.declared.store.Arrival.{Arrival}
use Rattle.sr_trials_points.proofs.Stores.{ages_same, arrival_of}
use Rattle.sr_trials_points.proofs.store.arrival_with_row.Goals as goal

pub returns : goal.returns
returns c =
    let ages = ages_same c.in_ok-ages.field-0 _ _ c.args.age c.args.hi c.in_ok-ages.ensures (to_z-of_z w64 c.args.age c.ranges.age) (to_z-of_z w64 c.args.hi c.ranges.hi) in
    let rows = c.in_ok-rows.ensures ∙ ap (λ n. (Num (pos 1) ∷ Num n ∷ []) ∷ []) (to_z-of_z w64 c.args.age c.ranges.age) in
    subst (λ (rects : List Rect). IfOk c.list_of.result (λ (rs : List Arrival). rs ≡ arrival_of rects ((Num (pos 1) ∷ Num c.args.age ∷ []) ∷ []) ∷ [])) ages
    (subst (λ (rows : List Row). IfOk c.list_of.result (λ (rs : List Arrival). rs ≡ arrival_of c.in_ok-ages.field-0 rows ∷ [])) rows c.list_of.ensures)
