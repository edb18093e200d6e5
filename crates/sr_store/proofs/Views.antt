-- Regions, and how a policy sees them, place by place; and how both grow fewer.
use Rattle.std.proofs.Common.{◌≡◌, ℕ, ◌+◌, ◌<◌, ◌≤◌, zero, suc, true, false, List, [], ◌∷◌, ◌++◌, length, take, drop, refl, sym, ap, subst, ◌∙◌, arith}
use Rattle.std.specs.Prelude.{Bool, nat_lt}
use Rattle.std.specs.List.{AllZip}
use Rattle.std.proofs.lemmas.Bool.Decides.{nat_tests}
use Rattle.std.proofs.lemmas.List.{append_assoc, append-nil}
use Rattle.std.proofs.lemmas.Option.{slice_get_within}
use Rattle.sr_cell.specs.declared.cause.Cause.{Cause}
use Rattle.sr_cell.specs.declared.table.Table.{Table}
use Rattle.sr_policy.specs.declared.policy.Policy.{Policy}
use Rattle.sr_policy.specs.declared.policy.ClassView.{ClassView}
use Rattle.sr_policy.specs.declared.policy.Last.{Last}
use Rattle.sr_policy.specs.Order.{IsVictim}
use Rattle.sr_history.specs.declared.mark.Mark.{Mark}
use Rattle.sr_region.specs.declared.region.Region.{Region}
use Rattle.sr_store.specs.declared.fit.Fitting.{Fitting}
use Rattle.sr_store.specs.Stores.{drop_of}
use Rattle.sr_store.specs.Fitted.{IsViewOf, DropsWhile}
use Rattle.sr_store.specs.Fitting.{DropsFirst, DropsTill}

-- ---- two lists in step

module _ {A B : Type 0} (R : A → B → Type 0) where
  pub zip_none : (xs : List A) (ys : List B) → AllZip R xs ys → ys ≡ [] → xs ≡ []
  zip_none [] ys h e = refl
  zip_none (x ∷ xs) [] h e = absurd h
  zip_none (x ∷ xs) (y ∷ ys) h e = absurd (cc)

  zip-others : (xs : List A) (ys : List B) (n : ℕ) → AllZip R xs ys → AllZip R (take n xs ++ drop (suc n) xs) (take n ys ++ drop (suc n) ys)
  zip-others [] [] zero h = tt
  zip-others [] [] (suc n) h = tt
  zip-others [] (y ∷ ys) n h = absurd h
  zip-others (x ∷ xs) [] n h = absurd h
  zip-others (x ∷ xs) (y ∷ ys) zero h = h.1
  zip-others (x ∷ xs) (y ∷ ys) (suc n) h = (h.0, zip-others xs ys n h.1)

  -- both lists without the items of one place
  pub zip_without : (xs : List A) (ys : List B) (n : ℕ) → AllZip R xs ys → AllZip R (take n xs ++ drop (n + 1) xs) (take n ys ++ drop (n + 1) ys)
  zip_without xs ys n h = subst (λ m. AllZip R (take n xs ++ drop m xs) (take n ys ++ drop m ys)) (next n) (zip-others xs ys n h)
    where
      next : (n : ℕ) → suc n ≡ n + 1
      next n = omega arith

pub victim_within : (policy : Policy) (last : List Last) (views others : List ClassView) (n : ℕ) → others ≡ views → IsVictim policy last others n → n < length views
victim_within policy last views others n same v = subst (λ (vs : List ClassView). n < length vs) same (slice_get_within others n v.class v.there)

-- ---- one region after another

-- what was dropped so far: whatever else has to be dropped stands behind it
pub record DropsSoFar (schema : List Table) (policy : Policy) (last : List Last) (cause : Cause) (size : List Region → ℕ) (limit : ℕ) (old mid : Fitting) : Type 0 where
  pub seen : AllZip (IsViewOf schema) mid.regions mid.views
  pub drops : List Mark
  pub marks : mid.marks ≡ old.marks ++ drops
  pub whole : (new : List Region) (more : List Mark) → DropsWhile schema policy last cause size limit mid.regions new more
      → DropsWhile schema policy last cause size limit old.regions new (drops ++ more)

module _ (schema : List Table) (policy : Policy) (last : List Last) (cause : Cause) (size : List Region → ℕ) (limit : ℕ) where
  pub one_so_far : (old mid next : Fitting) → DropsSoFar schema policy last cause size limit old mid → limit < size mid.regions → DropsFirst schema policy last cause mid next
      → DropsSoFar schema policy last cause size limit old next
  one_so_far old mid next h much d = record {
    seen = d.seen;
    drops = h.drops ++ drop_of cause d.region ∷ [];
    marks = d.marks ∙ ap (λ ms. ms ++ drop_of cause d.region ∷ []) h.marks ∙ append_assoc old.marks h.drops (drop_of cause d.region ∷ []);
    whole = λ new more k.
        subst (DropsWhile schema policy last cause size limit old.regions new) (sym (append_assoc h.drops (drop_of cause d.region ∷ []) more))
        (h.whole new (drop_of cause d.region ∷ more)
        (much, d.number, d.region, d.first, refl, subst (λ gs. DropsWhile schema policy last cause size limit gs new more) d.left k));
  }

  pub all_so_far : (old mid : Fitting) → DropsSoFar schema policy last cause size limit old mid → size mid.regions ≤ limit → DropsTill schema policy last cause size limit old mid
  all_so_far old mid h few = record {
    drops = h.drops;
    dropped = subst (DropsWhile schema policy last cause size limit old.regions mid.regions) (append-nil h.drops) (h.whole mid.regions [] (few, refl));
    marks = h.marks;
    seen = h.seen;
  }

-- ---- tests of a size

pub above : (limit n : ℕ) (b : Bool) → b ≡ nat_lt limit n → b ≡ true → limit < n
above limit n b is more = let e : nat_lt limit n ≡ true = sym is ∙ more in grind (arith, nat_tests, e)

pub not_above : (limit n : ℕ) (b : Bool) → b ≡ nat_lt limit n → b ≡ false → n ≤ limit
not_above limit n b is none = let e : nat_lt limit n ≡ false = sym is ∙ none in grind (arith, nat_tests, e)
