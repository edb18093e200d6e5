-- What is held, asked and dropped where a class is dropped by the user.
use Rattle.std.proofs.Common.{◌≡◌, ℕ, Bool, true, false, ◌≤◌, List, [], ◌∷◌, refl, arith, inl, inr}
use Rattle.std.specs.Prelude.{IsTrue, codes, if◌then◌else◌}
use Rattle.std.proofs.lemmas.Bool.Decides.{nat_tests}
use Rattle.std.proofs.lemmas.Int.{ints}
use Rattle.sr_cell.specs.declared.cause.Cause.TheVariants.{Asked}
use Rattle.sr_cell.specs.Cells.{Row}
use Rattle.sr_cell.specs.Columns.{is_point}
use Rattle.sr_box.specs.Points.{AreSame, in_any}
use Rattle.sr_history.specs.declared.mark.Mark.{Mark}
use Rattle.sr_history.specs.declared.mark.Mark.TheVariants.{Dropped, Held}
use Rattle.sr_history.specs.Marks.{HoldsNothing, concerns, is_held}
use Rattle.sr_history.specs.Classes.{AreClasses, in_class, stamp}
use Rattle.sr_history.specs.Drops.{Absorbs, IsDropOf}
use Rattle.sr_history.specs.Budgets.{MeetsBudgets}
use Rattle.sr_history.specs.Rests.{Asks, rest_of}
use Rattle.sr_runs.specs.Example.{ages, default_limits, employee, employees, part, schema}
use Rattle.sr_runs.proofs.ExampleRests.{ask, asks-ages, held_1, of-employees, only-two, same-points}
use Rattle.sr_runs.proofs.ExampleClasses.{absorbs-none, asked_1, class, later-stamp, meets, one-class, only-1, stamp-1}

abbrev pub evicted : Mark
evicted = Dropped Asked 0 3 1 (ages 30 40)

abbrev pub held_nothing : List Mark
held_nothing = evicted ∷ held_1

abbrev pub held_again : List Mark
held_again = Held 0 3 (ages 30 40) ∷ held_nothing

-- the class that is there
pub classes : AreClasses schema held_1 (asked_1 ∷ []) (class 1 ∷ [])
classes = one-class held_1 (asked_1 ∷ []) 1 only-1 stamp-1 (employee 1 35 (codes "ann") 3, refl, refl) (λ p. refl)

class-same : AreSame employees.columns (in_any (ages 30 40)) (in_class held_1 (asked_1 ∷ []) (class 1))
class-same = same-points _ _ (λ m n s d low high. grind (arith, ints, nat_tests))

pub drops : IsDropOf schema held_1 (asked_1 ∷ []) Asked (class 1) evicted
drops = (refl, refl, refl, refl, refl, class-same)

-- what is dropped where it is held is not held
gone : (b : Bool) → (if b then false else (if b then true else false)) ≡ false
gone true = refl
gone false = refl

pub holds_nothing : HoldsNothing schema held_nothing
holds_nothing table attrs p point = gone (concerns evicted table attrs p)

again-same : AreSame employees.columns (in_any (ages 30 40)) (rest_of held_nothing (part 30 40))
again-same = same-points _ _ (λ m n s d low high. grind arith)

pub again-asks : Asks schema held_nothing (part 30 40 ∷ []) (ask 30 40 ∷ [])
again-asks = asks-ages held_nothing 30 40 30 40 (record {
  table = refl;
  fits = refl;
  bound = refl;
  some = (employee 1 35 (codes "ann") 3, refl, refl);
  same = again-same;
  columns = λ c. (λ h. inl h, λ h. elim h [ inl need ↦ need | inr essential ↦ only-two _ c (λ x y z w u v. refl) essential ]);
})

only-again : (t a : ℕ) (p : Row) → is_held held_again t a p ≡ true → (t ≡ 0) × (a ≡ 3)
only-again t a p h = (grind (arith, nat_tests), grind (arith, nat_tests))

stamp-again : (p : Row) → IsTrue (is_point employees.columns p) → is_held held_again 0 3 p ≡ true → stamp (asked_1 ∷ asked_1 ∷ []) 0 3 p ≡ 2
stamp-again p point = of-employees (λ p. is_held held_again 0 3 p ≡ true → stamp (asked_1 ∷ asked_1 ∷ []) 0 3 p ≡ 2) (λ m n s d low high h. later-stamp _ _ (grind (arith, ints, h))) p point

pub absorbs-again : Absorbs schema held_again (asked_1 ∷ asked_1 ∷ []) []
absorbs-again = absorbs-none held_again (asked_1 ∷ asked_1 ∷ []) 2 only-again stamp-again (employee 1 35 (codes "ann") 3, refl, refl) (λ p. refl)

pub budgets-again : (count : List Mark → ℕ) → count held_again ≤ 10000 → MeetsBudgets schema default_limits count (asked_1 ∷ asked_1 ∷ []) held_again []
budgets-again = meets held_again (asked_1 ∷ asked_1 ∷ []) 2 only-again stamp-again (employee 1 35 (codes "ann") 3, refl, refl) (λ p. refl)
