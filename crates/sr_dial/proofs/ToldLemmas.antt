-- Calls whose connections are told.
use Rattle.std.proofs.Common.{◌≡◌, ℕ, true, false, List, [], ◌∷◌, ◌++◌, refl, sym, ◌∙◌, subst, Option, Some, None, option_map}
use Rattle.std.specs.Prelude.{◌≢◌, IfSome}
use Rattle.std.specs.List.{All}
use Rattle.std.proofs.lemmas.List.Elements.{All-append, All-cons, All-nil}
use Rattle.sr_io.specs.Told.{Connection, Linking, next_peer, other_peers}
use Rattle.sr_links.specs.Steps.{given_of}
use Rattle.sr_dial.specs.Calls.{Call, done_in, steps_in}
use Rattle.sr_dial.specs.Courses.{TellsStill}
use Rattle.sr_dial.specs.Runs.{IsToldIf}

-- ---- a link that told its peers

pub still-same : (old l new_l : Linking) → new_l.peers ≡ l.peers → TellsStill old l → TellsStill old new_l
still-same old l new_l same still = subst (λ x. IfSome old.peers (λ peers. x ≢ None)) (sym same) still

pub still-self : (l : Linking) → TellsStill l l
still-self l = by l.peers refl
  where
    by : (peers : Option (List (List ℕ))) → l.peers ≡ peers → IfSome peers (λ peers. l.peers ≢ None)
    by None is = tt
    by (Some peers) is = λ none. absurd (let wrong : Some peers ≡ None = sym is ∙ none in cc)

-- one peer is dialled
pub still-other : (old l new_l : Linking) → new_l.peers ≡ other_peers l.peers → TellsStill old l → TellsStill old new_l
still-other old l new_l same still = subst (λ x. IfSome old.peers (λ peers. x ≢ None)) (sym same) (by old.peers still)
  where
    others : (peers : Option (List (List ℕ))) → peers ≢ None → other_peers peers ≢ None
    others None some = absurd (some refl)
    others (Some []) some = λ none. absurd (cc)
    others (Some (bytes ∷ more)) some = λ none. absurd (cc)

    by : (peers : Option (List (List ℕ))) → IfSome peers (λ peers. l.peers ≢ None) → IfSome peers (λ peers. other_peers l.peers ≢ None)
    by None still = tt
    by (Some peers) still = others l.peers still

-- ---- calls

-- somebody was dialled
pub fresh-told : (address : List ℕ) (peers : Option (List (List ℕ))) (f : Connection → Connection) → (peers ≡ Some [] → ⊥) → peers ≢ None → option_map f (next_peer (Some address) peers) ≢ None
fresh-told address None f more some = absurd (some refl)
fresh-told address (Some []) f more some = absurd (more refl)
fresh-told address (Some (bytes ∷ others)) f more some = λ none. absurd (cc)

map-none : (f : Connection → Connection) (told : Option Connection) → option_map f told ≡ None → told ≡ None
map-none f None none = refl
map-none f (Some t) none = absurd (cc)

module _ {C : Type 0} where
  pub told-first : (old l : Linking) (address : List ℕ) (f : Connection → Connection) (call : Call C) → call.connected ≡ true → call.told ≡ option_map f (next_peer (Some address) l.peers) → (l.peers ≡ Some [] → ⊥)
      → TellsStill old l → IsToldIf old.peers call
  told-first old l address f call connected is more still = record {
    nothing = λ none. absurd (let wrong : true ≡ false = sym connected ∙ none in cc);
    told = subst (λ x. IfSome old.peers (λ peers. call.connected ≡ true → x ≢ None)) (sym is) (by old.peers still);
  }
    where
      by : (peers : Option (List (List ℕ))) → IfSome peers (λ peers. l.peers ≢ None) → IfSome peers (λ peers. call.connected ≡ true → option_map f (next_peer (Some address) l.peers) ≢ None)
      by None still = tt
      by (Some peers) still = λ yes. fresh-told address l.peers f more still

  -- nobody was
  pub told-none : (peers : Option (List (List ℕ))) (call : Call C) → call.connected ≡ false → given_of (steps_in (done_in call)) ≡ [] → call.left ≡ [] → call.told ≡ None → IsToldIf peers call
  told-none peers call connected given left told = record { nothing = λ none. (given, left, told); told = by peers }
    where
      by : (peers : Option (List (List ℕ))) → IfSome peers (λ more. call.connected ≡ true → call.told ≢ None)
      by None = tt
      by (Some more) = λ yes. absurd (let wrong : true ≡ false = sym yes ∙ connected in cc)

  -- a call that goes on over its connection
  pub told-on : (peers : Option (List (List ℕ))) (call longer : Call C) (f : Connection → Connection) → call.connected ≡ true → longer.connected ≡ call.connected → longer.told ≡ option_map f call.told
      → IsToldIf peers call → IsToldIf peers longer
  told-on peers call longer f connected same is h = record {
    nothing = λ none. absurd (let wrong : true ≡ false = sym (same ∙ connected) ∙ none in cc);
    told = subst (λ x. IfSome peers (λ more. longer.connected ≡ true → x ≢ None)) (sym is) (by peers h.told);
  }
    where
      by : (peers : Option (List (List ℕ))) → IfSome peers (λ more. call.connected ≡ true → call.told ≢ None) → IfSome peers (λ more. longer.connected ≡ true → option_map f call.told ≢ None)
      by None told = tt
      by (Some more) told = λ yes none. told connected (map-none f call.told none)

  -- a call of which nothing more came
  pub told-same : (peers : Option (List (List ℕ))) (call longer : Call C) → longer.connected ≡ call.connected → given_of (steps_in (done_in longer)) ≡ given_of (steps_in (done_in call)) → longer.left ≡ call.left
      → longer.told ≡ call.told → IsToldIf peers call → IsToldIf peers longer
  told-same peers call longer same given left is h = record {
    nothing = λ none. let was = h.nothing (sym same ∙ none) in (given ∙ was.0, left ∙ was.1, is ∙ was.2);
    told = subst (λ x. IfSome peers (λ more. longer.connected ≡ true → x ≢ None)) (sym is) (subst (λ b. IfSome peers (λ more. b ≡ true → call.told ≢ None)) (sym same) h.told);
  }

  -- one call more
  pub told-more : (peers : Option (List (List ℕ))) (cs : List (Call C)) (x : Call C) → All (IsToldIf peers) cs → IsToldIf peers x → All (IsToldIf peers) (cs ++ x ∷ [])
  told-more peers cs x before last = All-append (IsToldIf peers) cs (x ∷ []) before (All-cons (IsToldIf peers) x [] last (All-nil (IsToldIf peers)))
