-- A text begins with another.
use Rattle.std.proofs.Common.{◌≡◌, ℕ, List, [], ◌∷◌, refl, ap}
use Rattle.std.specs.Prelude.{◌==◌, ◌&&◌}
use Rattle.std.specs.List.{starts_with}
use Rattle.sr_model.specs.Conditions.{begins}

pub same_start : (p s : List ℕ) → starts_with (λ a b. a == b) s p ≡ begins p s
same_start [] s = refl
same_start (a ∷ p) [] = refl
same_start (a ∷ p) (b ∷ s) = ap (λ x. a == b && x) (same_start p s)
