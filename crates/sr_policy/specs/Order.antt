-- In which order classes are dropped.
use Rattle.std.specs.Prelude.{ℕ, ℤ, ◌-ℤ◌, nat_abs, ◌+◌, Bool, true, false, ◌&&◌, ◌||◌, ◌==◌, nat_lt, List, [], ◌∷◌, ◌≡◌, Option, Some, None, slice_get, if◌then◌else◌}
use Rattle.std.specs.List.{All}
use Rattle.sr_policy.specs.declared.policy.Policy.{Policy}
use Rattle.sr_policy.specs.declared.policy.Policy.TheVariants.{Recency, Distance}
use Rattle.sr_policy.specs.declared.policy.ClassView.{ClassView}
use Rattle.sr_policy.specs.declared.policy.Last.{Last}

-- the least stamp first; then by table, and by the columns as a number
abbrev pub is_older : ClassView → ClassView → Bool
is_older a b =
    nat_lt a.stamp b.stamp || (a.stamp == b.stamp && (nat_lt a.table b.table || (a.table == b.table && nat_lt a.attrs b.attrs)))

-- the sum over the columns of how far apart two centres are
abbrev pub distance : List ℤ → List ℤ → ℕ
distance [] centre = 0
distance (x ∷ xs) [] = 0
distance (x ∷ xs) (y ∷ ys) = nat_abs (x -ℤ y) + distance xs ys

-- how far a class is from what the last answered query asked of its table; none where it asked no point of it
abbrev pub far_from : List Last → ClassView → Option ℕ
far_from [] k = None
far_from (part ∷ last) k = if part.table == k.table then Some (distance part.centre k.centre) else far_from last k

-- Classes of tables that were not asked go first, then the farther ones, and of those that are as far the older ones.
abbrev pub is_farther : Option ℕ → Option ℕ → Bool → Bool
is_farther None None older = older
is_farther None (Some far) older = true
is_farther (Some far) None older = false
is_farther (Some far) (Some other) older = nat_lt other far || (far == other && older)

-- class a is dropped before class b
abbrev pub goes_before : Policy → List Last → ClassView → ClassView → Bool
goes_before Recency last a b = is_older a b
goes_before Distance last a b = is_farther (far_from last a) (far_from last b) (is_older a b)

-- the class of that number is there, and none goes before it
pub record IsVictim (policy : Policy) (last : List Last) (classes : List ClassView) (number : ℕ) : Type 0 where
  pub class : ClassView
  pub there : slice_get classes number ≡ Some class
  pub first : All (λ other. goes_before policy last other class ≡ false) classes
