-- Runs over a steady host.
use Rattle.std.proofs.Common.{◌≡◌, ℕ, ◌+◌, ◌≤◌, List, [], ◌∷◌, ◌++◌, length, Option, Some, None, arith, refl, sym, ◌∙◌, ap, subst}
use Rattle.std.specs.Prelude.{◌≢◌, IfSome}
use Rattle.std.proofs.lemmas.List.{length-append}
use Rattle.sr_io.specs.Told.{Linking, other_peers}
use Rattle.sr_talk.specs.Rounds.{HasPeers}
use Rattle.sr_talk.proofs.PeerLemmas.{not-last}
use Rattle.sr_dial.specs.Courses.{Steadily}

behind : (more : ℕ) (peers : Option (List (List ℕ))) → IfSome peers (λ ps. more + 1 ≤ length ps) → IfSome (other_peers peers) (λ ps. more ≤ length ps)
behind more None enough = tt
behind more (Some []) enough = absurd (omega (arith, enough))
behind more (Some (first ∷ others)) enough = omega (arith, enough)

-- of one call more
pub length-one : {A : Type 0} (xs : List A) (x : A) → length (xs ++ x ∷ []) ≡ length xs + 1
length-one {A} xs x = length-append xs (x ∷ [])

module _ (Z : Type 0) (n m calls : ℕ) (old l new : Linking) where
  -- no fault is counted, and nobody is dialled
  pub steadily-on : m ≡ n → new.faults ≡ l.faults → new.peers ≡ l.peers → Steadily Z n calls old l → Steadily Z m calls old new
  steadily-on same quiet peers h = λ z more enough.
      let b = h z more enough in
      (same ∙ b.0, quiet ∙ b.1, subst (λ ps. IfSome ps (λ some. more ≤ length some)) (sym peers) b.2)

  one-more : (more : ℕ) → HasPeers (calls + 1 + more) old → HasPeers (calls + (more + 1)) old
  one-more more enough =
      let same : calls + 1 + more ≡ calls + (more + 1) = omega arith in
      subst (λ k. HasPeers k old) same enough

  -- one peer is dialled
  pub steadily-more : m ≡ n → new.faults ≡ l.faults → new.peers ≡ other_peers l.peers → Steadily Z n calls old l → Steadily Z m (calls + 1) old new
  steadily-more same quiet peers h = λ z more enough.
      let b = h z (more + 1) (one-more more enough) in
      (same ∙ b.0, quiet ∙ b.1, subst (λ ps. IfSome ps (λ some. more ≤ length some)) (sym peers) (behind more l.peers b.2))

  -- there is one to dial
  pub steadily-peer : (Z → l.peers ≡ Some []) → Steadily Z n calls old l → Z → (more : ℕ) → HasPeers (calls + 1 + more) old → ⊥
  steadily-peer last h z more enough =
      let b = h z (more + 1) (one-more more enough) in
      not-last l more b.2 (last z)

-- before the first call
pub steadily-first : (Z : Type 0) (old l : Linking) → l ≡ old → Steadily Z 0 0 old l
steadily-first Z old l is = λ z more enough.
    let none : 0 + more ≡ more = omega arith in
    (refl, ap (λ (x : Linking). x.faults) is, subst (λ x. HasPeers more x) (sym is) (subst (λ k. HasPeers k old) none enough))
