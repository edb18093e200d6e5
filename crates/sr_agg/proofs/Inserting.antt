-- Keys may be put to others in any order.
use Rattle.std.proofs.Common.{◌≡◌, List, [], ◌∷◌, refl, sym, ap, subst, ◌∙◌}
use Rattle.std.specs.declared.cmp.Ordering.{Ordering}
use Rattle.std.specs.declared.cmp.Ordering.TheVariants.{Less, Equal, Greater}
use Rattle.std.specs.Cmp.{IsTotalOrder}
use Rattle.std.specs.BTreeSet.{insert_key}
use Rattle.std.proofs.lemmas.Map.Lookups.{CmpEqualImpliesEq}
use Rattle.sr_agg.proofs.Order.{above, below}

module _ {K : Type 0} {R : K → K → Ordering} (o : IsTotalOrder R) (exact : CmpEqualImpliesEq R) where
  ascending : (a b : K) → R a b ≡ Less → (ks : List K) → insert_key R (insert_key R ks a) b ≡ insert_key R (insert_key R ks b) a
  ascending a b less [] = let more = above o a b less in simp (less, more) refl
  ascending a b less (x ∷ xs) = by (R a x) refl (R b x) refl (ascending a b less xs)
    where
      more : R b a ≡ Greater
      more = above o a b less

      by : (p : Ordering) → R a x ≡ p → (q : Ordering) → R b x ≡ q → insert_key R (insert_key R xs a) b ≡ insert_key R (insert_key R xs b) a
          → insert_key R (insert_key R (x ∷ xs) a) b ≡ insert_key R (insert_key R (x ∷ xs) b) a
      by Less e Less f ih = simp (e, f, more, less) refl
      by Less e Equal f ih = simp (e, f, more) refl
      by Less e Greater f ih = simp (e, f, more) refl
      by Equal e Less f ih = let k : Greater ≡ Less = sym (above o x b (sym (o.congr a x b e) ∙ less)) ∙ f in absurd cc
      by Equal e Equal f ih = let k : Greater ≡ Equal = sym (above o x b (sym (o.congr a x b e) ∙ less)) ∙ f in absurd cc
      by Equal e Greater f ih = simp (e, f) refl
      by Greater e Less f ih = let k : Greater ≡ Less = sym (above o x b (o.trans x a b (below o a x e) less)) ∙ f in absurd cc
      by Greater e Equal f ih = let k : Greater ≡ Equal = sym (above o x b (o.trans x a b (below o a x e) less)) ∙ f in absurd cc
      by Greater e Greater f ih = simp (e, f) (ap (λ ks. x ∷ ks) ih)

  pub either-first : (ks : List K) (a b : K) → insert_key R (insert_key R ks a) b ≡ insert_key R (insert_key R ks b) a
  either-first ks a b = by (R a b) refl
    where
      by : (p : Ordering) → R a b ≡ p → insert_key R (insert_key R ks a) b ≡ insert_key R (insert_key R ks b) a
      by Less e = ascending a b e ks
      by Equal e = let same = exact a b e in subst (λ c. insert_key R (insert_key R ks a) c ≡ insert_key R (insert_key R ks c) a) same refl
      by Greater e = sym (ascending b a (below o a b e) ks)
