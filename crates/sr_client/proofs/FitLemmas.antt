-- Regions that are made to fit are the classes of the marks with the drops.
use Rattle.std.proofs.Common.{◌≡◌, ℕ, ◌+◌, ◌≤◌, zero, suc, List, [], ◌∷◌, ◌++◌, length, take, drop, sym, ◌∙◌, ap, subst, arith}
use Rattle.sr_cell.specs.declared.cause.Cause.{Cause}
use Rattle.sr_cell.specs.declared.cause.Cause.TheVariants.{Rows, Regions}
use Rattle.sr_cell.specs.declared.table.Table.{Table}
use Rattle.sr_policy.specs.declared.policy.Policy.{Policy}
use Rattle.sr_policy.specs.declared.policy.Limits.{Limits}
use Rattle.sr_policy.specs.declared.policy.Last.{Last}
use Rattle.sr_history.specs.declared.mark.Mark.{Mark}
use Rattle.sr_history.specs.Marks.{is_held, with_marks}
use Rattle.sr_history.proofs.Marking.{with_marks-append}
use Rattle.sr_region.specs.declared.region.Region.{Region}
use Rattle.sr_store.specs.Classes.{Stamps, Keeps}
use Rattle.sr_store.specs.Fitted.{count_rows, without, DropsWhile, IsFitted}
use Rattle.sr_store.proofs.Stepping.{evicted_marks}

module _ (schema : List Table) (policy : Policy) (last : List Last) (cause : Cause) (size : List Region → ℕ) (limit : ℕ) (stamps : Stamps) where
  while-keeps : (marks drops : List Mark) (old new : List Region) → DropsWhile schema policy last cause size limit old new drops → Keeps schema (is_held marks) stamps old
      → Keeps schema (is_held (with_marks marks drops)) stamps new
  while-keeps marks [] old new h k = subst (Keeps schema (is_held marks) stamps) (sym h.1) k
  while-keeps marks (d ∷ drops) old new (more, n, g, f, is, h) k =
      while-keeps (d ∷ marks) drops (without n old) new h
      (subst (λ m. Keeps schema (is_held (m ∷ marks)) stamps (without n old)) (sym is) (evicted_marks schema cause marks stamps n old g f.there k))

pub fitted-keeps : (schema : List Table) (limits : Limits) (last : List Last) (marks : List Mark) (stamps : Stamps) (old new : List Region) (drops : List Mark) → IsFitted schema limits last old new drops
    → Keeps schema (is_held marks) stamps old → Keeps schema (is_held (with_marks marks drops)) stamps new
fitted-keeps schema limits last marks stamps old new drops h k =
    let one = while-keeps schema limits.policy last Rows count_rows limits.rows stamps marks h.rows old h.mid h.for_rows k in
    let two = while-keeps schema limits.policy last Regions length limits.regions stamps (with_marks marks h.rows) h.regions h.mid new h.for_regions one in
    subst (λ ms. Keeps schema (is_held ms) stamps new) (sym (ap (with_marks marks) h.all ∙ with_marks-append marks h.rows h.regions)) two

-- ---- without one region

shorter : (n : ℕ) (gs : List Region) → length (take n gs ++ drop (suc n) gs) ≤ length gs
shorter zero [] = omega arith
shorter (suc n) [] = omega arith
shorter zero (g ∷ gs) = omega arith
shorter (suc n) (g ∷ gs) = let ih = shorter n gs in omega (arith, ih)

pub fewer-regions : (n : ℕ) (gs : List Region) → length (without n gs) ≤ length gs
fewer-regions n gs = let e : suc n ≡ n + 1 = omega arith in subst (λ m. length (take n gs ++ drop m gs) ≤ length gs) e (shorter n gs)
