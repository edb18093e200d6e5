-- Regions that are made to fit: what stays true while one after another is dropped.
use Rattle.std.proofs.Common.{◌≡◌, ℕ, ◌+◌, ◌≤◌, zero, suc, true, List, [], ◌∷◌, ◌++◌, length, take, drop, sym, subst, arith}
use Rattle.std.specs.Prelude.{Result, Ok, Err, IfOk, OnErr}
use Rattle.std.specs.List.{All, Contains}
use Rattle.std.proofs.lemmas.List.Elements.{All-nil, All-contains_itself}
use Rattle.std.proofs.lemmas.List.Sums.{sum_by-cons}
use Rattle.sr_cell.specs.declared.cause.Cause.{Cause}
use Rattle.sr_cell.specs.declared.cause.Cause.TheVariants.{Rows, Regions}
use Rattle.sr_cell.specs.declared.table.Table.{Table}
use Rattle.sr_policy.specs.declared.policy.Policy.{Policy}
use Rattle.sr_policy.specs.declared.policy.Limits.{Limits}
use Rattle.sr_policy.specs.declared.policy.Last.{Last}
use Rattle.sr_history.specs.declared.mark.Mark.{Mark}
use Rattle.sr_region.specs.declared.region.Region.{Region}
use Rattle.sr_store.specs.Stores.{IsStore, IsSettled, IsAbsorbedIn}
use Rattle.sr_store.specs.Fitted.{count_rows, without, DropsWhile, IsFitted}
use Rattle.sr_store.specs.Laws.{FittedFitStill}
use Rattle.sr_store.proofs.Dropping.{kept_store, evicted_all, evicted_store, evicted_settled}

module _ (schema : List Table) (policy : Policy) (last : List Last) (cause : Cause) (size : List Region → ℕ) (limit : ℕ) where
  -- what is true of the regions without any one is true of those that are left
  pub drops_keep : (P : List Region → Type 0) → ((n : ℕ) (gs : List Region) → P gs → P (without n gs))
      → (old new : List Region) (drops : List Mark) → DropsWhile schema policy last cause size limit old new drops → P old → P new
  drops_keep P step old new [] h p = subst P (sym h.1) p
  drops_keep P step old new (d ∷ drops) h p = drops_keep P step (without h.1 old) new drops h.5 (step h.1 old p)

  pub drops_end : (old new : List Region) (drops : List Mark) → DropsWhile schema policy last cause size limit old new drops → size new ≤ limit
  drops_end old new [] h = subst (λ gs. size gs ≤ limit) (sym h.1) h.0
  drops_end old new (d ∷ drops) h = drops_end (without h.1 old) new drops h.5

pub count_rows-cons : (g : Region) (gs : List Region) → count_rows (g ∷ gs) ≡ length g.rows + count_rows gs
count_rows-cons g gs = sum_by-cons (λ (g : Region). length g.rows) g gs

pub less-after : (n : ℕ) (gs : List Region) → count_rows (take n gs ++ drop (suc n) gs) ≤ count_rows gs
less-after zero [] = omega arith
less-after (suc n) [] = omega arith
less-after zero (g ∷ gs) = let e = count_rows-cons g gs in let le : count_rows gs ≤ length g.rows + count_rows gs = omega arith in subst (λ m. count_rows gs ≤ m) (sym e) le
less-after (suc n) (g ∷ gs) =
    let ih = less-after n gs in
    let left = take n gs ++ drop (suc n) gs in
    let le : length g.rows + count_rows left ≤ length g.rows + count_rows gs = omega (arith, ih) in
    subst (λ m. count_rows (g ∷ left) ≤ m) (sym (count_rows-cons g gs)) (subst (λ m. m ≤ length g.rows + count_rows gs) (sym (count_rows-cons g left)) le)

pub fewer_rows : (n : ℕ) (gs : List Region) → count_rows (without n gs) ≤ count_rows gs
fewer_rows n gs = let e : suc n ≡ n + 1 = omega arith in subst (λ m. count_rows (take n gs ++ drop m gs) ≤ count_rows gs) e (less-after n gs)

-- what is true of the regions without any one is true of those that fit
pub fitted_keeps : (schema : List Table) (limits : Limits) (last : List Last) (old new : List Region) (drops : List Mark) (P : List Region → Type 0)
    → ((n : ℕ) (gs : List Region) → P gs → P (without n gs)) → IsFitted schema limits last old new drops → P old → P new
fitted_keeps schema limits last old new drops P step h p =
    drops_keep schema limits.policy last Regions length limits.regions P step h.mid new h.regions h.for_regions
    (drops_keep schema limits.policy last Rows count_rows limits.rows P step old h.mid h.rows h.for_rows p)

pub fitted_fit_still : FittedFitStill
fitted_fit_still schema limits last old new drops h = record {
  some = fitted_keeps schema limits last old new drops (All (Contains old)) (λ n gs p. evicted_all (Contains old) n gs p) h (All-contains_itself old);
  store = fitted_keeps schema limits last old new drops (IsStore schema) (λ n gs p. evicted_store schema n gs p) h;
  settled = fitted_keeps schema limits last old new drops (IsSettled schema) (λ n gs p. evicted_settled schema n gs p) h;
  rows =
      let few : count_rows h.mid ≤ limits.rows = drops_end schema limits.policy last Rows count_rows limits.rows old h.mid h.rows h.for_rows in
      drops_keep schema limits.policy last Regions length limits.regions (λ gs. count_rows gs ≤ limits.rows)
      (λ n gs p. let x = fewer_rows n gs in omega (arith, x, p)) h.mid new h.regions h.for_regions few;
  regions = drops_end schema limits.policy last Regions length limits.regions h.mid new h.regions h.for_regions;
}

-- what is true of no regions, and of the regions without any one, is true of those that a store keeps, also when memory ran out
pub kept_left : {E : Type 0} (schema : List Table) (limits : Limits) (last : List Last) (front : List Mark) (old new : List Region) (r : Result (List Mark) E) (P : List Region → Type 0)
    → ((n : ℕ) (gs : List Region) → P gs → P (without n gs)) → P [] → P old
    → IfOk r (λ marks. (drops : List Mark) × IsFitted schema limits last old new drops × (marks ≡ front ++ drops)) → OnErr r (new ≡ []) → P new
kept_left schema limits last front old new (Ok marks) P step nil p kept none = fitted_keeps schema limits last old new kept.0 P step kept.1 p
kept_left schema limits last front old new (Err e) P step nil p kept none = subst P (sym none) nil

-- the store of no regions, of the same tables
pub none_store : (schema : List Table) (gs : List Region) → IsStore schema gs → IsStore schema []
none_store schema gs h = kept_store schema true [] gs h

-- of no regions none is absorbed
pub none_settled : (schema : List Table) → IsSettled schema []
none_settled schema = All-nil (λ g. IsAbsorbedIn schema [] g → ⊥)
