-- The peers that are still to come.
use Rattle.std.proofs.Common.{◌≡◌, ℕ, ◌+◌, ◌≤◌, Bool, true, false, List, [], ◌∷◌, length, Option, Some, None, arith, refl, sym, ◌∙◌, ap, subst}
use Rattle.std.specs.Prelude.{◌≢◌, ◌||◌, IfSome}
use Rattle.sr_io.specs.Told.{Linking, connected_at, hung_up, taken_from, other_peers}
use Rattle.sr_talk.specs.Rounds.{HasPeers, KeepsPeers}
use Rattle.sr_talk.specs.Serving.{by_fault}
use Rattle.sr_talk.specs.Talked.{SentOn}
use Rattle.sr_talk.specs.declared.serve.How.{How}
use Rattle.sr_talk.specs.declared.serve.How.TheVariants.{End, Torn, Fault, Bad, Refused, Limit}

-- what is said over a connection leaves them
stay : (how : How) (n : ℕ) (bytes taken : List ℕ) (made talked : Linking) → SentOn how n bytes (taken_from taken made) talked → talked.peers ≡ made.peers
stay End n bytes taken made talked is = ap (λ (l : Linking). l.peers) is
stay Torn n bytes taken made talked is = ap (λ (l : Linking). l.peers) is
stay Fault n bytes taken made talked some = some.only.peers
stay Bad n bytes taken made talked is = ap (λ (l : Linking). l.peers) is
stay Refused n bytes taken made talked is = ap (λ (l : Linking). l.peers) is
stay Limit n bytes taken made talked is = ap (λ (l : Linking). l.peers) is

behind : (more : ℕ) (peers : Option (List (List ℕ))) → IfSome peers (λ ps. more + 1 ≤ length ps) → IfSome (other_peers peers) (λ ps. more ≤ length ps)
behind more None enough = tt
behind more (Some []) enough = absurd (omega (arith, enough))
behind more (Some (first ∷ others)) enough = omega (arith, enough)

still-told : (peers : Option (List (List ℕ))) → IfSome peers (λ ps. other_peers peers ≢ None)
still-told None = tt
still-told (Some []) = λ wrong. absurd (cc)
still-told (Some (first ∷ others)) = λ wrong. absurd (cc)

-- behind a connection the others are left
others-left : (how : How) (n : ℕ) (bytes taken : List ℕ) (l made talked new : Linking) → made ≡ connected_at l.docked l → SentOn how n bytes (taken_from taken made) talked → new ≡ hung_up talked
    → new.peers ≡ other_peers l.peers
others-left how n bytes taken l made talked new is said gone =
    ap (λ (l : Linking). l.peers) gone ∙ (stay how n bytes taken made talked said ∙ ap (λ (l : Linking). l.peers) is)

-- and told as before
pub keeps-peers : (how : How) (n : ℕ) (bytes taken : List ℕ) (l made talked new : Linking) → made ≡ connected_at l.docked l → SentOn how n bytes (taken_from taken made) talked → new ≡ hung_up talked
    → KeepsPeers l new
keeps-peers how n bytes taken l made talked new is said gone =
    subst (λ others. IfSome l.peers (λ ps. others ≢ None)) (sym (others-left how n bytes taken l made talked new is said gone)) (still-told l.peers)

-- one less, behind a connection
pub one-less : (how : How) (n : ℕ) (bytes taken : List ℕ) (l made talked new : Linking) (more : ℕ) → made ≡ connected_at l.docked l → SentOn how n bytes (taken_from taken made) talked → new ≡ hung_up talked
    → HasPeers (more + 1) l → HasPeers more new
one-less how n bytes taken l made talked new more is said gone enough =
    subst (λ peers. IfSome peers (λ ps. more ≤ length ps)) (sym (others-left how n bytes taken l made talked new is said gone)) (behind more l.peers enough)

-- there is one
pub not-last : (l : Linking) (more : ℕ) → HasPeers (more + 1) l → l.peers ≢ Some []
not-last l more enough last = omega (arith, subst (λ peers. IfSome peers (λ ps. more + 1 ≤ length ps)) last enough)

pub still-none : (faulty : Bool) (how : How) → faulty ≡ false → how ≢ Fault → (faulty || by_fault how) ≡ false
still-none true how none other = absurd (cc)
still-none false End none other = refl
still-none false Torn none other = refl
still-none false Fault none other = absurd (other refl)
still-none false Bad none other = refl
still-none false Refused none other = refl
still-none false Limit none other = refl
