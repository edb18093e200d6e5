-- Taking the text between quotes apart at its quotes.
use Rattle.std.proofs.Common.{◌≡◌, ◌≢◌, ℕ, suc, ◌+◌, ◌<◌, Bool, true, false, eqb, List, [], ◌∷◌, ◌++◌, length, Option, Some, None, Bor, refl, sym, ap, ◌∙◌, append_assoc, arith}
use Rattle.std.specs.List.{position_or_len, before_first, after_first}
use Rattle.std.specs.Option.{MatchOption, unwrap_or}
use Rattle.std.proofs.lemmas.List.{append-nil, length-drop}
use Rattle.std.proofs.lemmas.Bool.Decides.{nat_tests}
use Rattle.sr_token.specs.Tokens.{quoted_length, longer}
use Rattle.sr_token.specs.Texts.{IsQuoted}
use Rattle.sr_grammar.specs.Tokens.{up_to_quote, unquoted}

abbrev is_quote : ℕ → Bool
is_quote b = eqb b 39

-- behind the first quote, that quote included
abbrev from_first : List ℕ → List ℕ
from_first s = 39 ∷ after_first is_quote s

up_before : (s : List ℕ) → position_or_len is_quote s < length s → up_to_quote s ≡ before_first is_quote s ++ up_to_quote (from_first s)
up_before [] lt = absurd (omega arith)
up_before (b ∷ []) lt = go (eqb b 39) refl
  where
    go : (x : Bool) → eqb b 39 ≡ x → up_to_quote (b ∷ []) ≡ before_first is_quote (b ∷ []) ++ up_to_quote (from_first (b ∷ []))
    go true p = rw p refl
    go false p = let h : 1 + 0 < 1 = rw p at lt in absurd (omega (arith, h))
up_before (b ∷ c ∷ s) lt = go (eqb b 39) refl (up_before (c ∷ s))
  where
    go : (x : Bool) → eqb b 39 ≡ x → (position_or_len is_quote (c ∷ s) < length (c ∷ s) → up_to_quote (c ∷ s) ≡ before_first is_quote (c ∷ s) ++ up_to_quote (from_first (c ∷ s)))
        → up_to_quote (b ∷ c ∷ s) ≡ before_first is_quote (b ∷ c ∷ s) ++ up_to_quote (from_first (b ∷ c ∷ s))
    go true p next = rw p refl
    go false p next =
        let n = position_or_len is_quote (c ∷ s) in
        let k : 1 + n ≡ suc n = omega arith in
        let j : suc n + 1 ≡ suc (n + 1) = omega arith in
        let h : 1 + n < length (b ∷ c ∷ s) = rw p at lt in
        rw (p, k, j) (ap (λ z. b ∷ z) (next (omega (arith, h))))

back : (n k : ℕ) (o : Option ℕ) → longer k o ≡ Some n → (j : ℕ) × (o ≡ Some j) × (n ≡ j + k)
back n k None e = absurd cc
back n k (Some j) e = let i : j + k ≡ n = cc in (j, refl, sym i)

shorter : (n k m : ℕ) (o : Option ℕ) → longer k o ≡ Some n → n ≡ m + k → o ≡ Some m
shorter n k m o e sum = let b = back n k o e in b.1 ∙ ap (λ z. Some z) (omega (arith, b.2, sum))

abbrev Ends : List ℕ → Type 0
Ends s = quoted_length s ≡ Some (length s)

ends_before : (s : List ℕ) → position_or_len is_quote s < length s → Ends s → Ends (from_first s)
ends_before [] lt e = absurd (omega arith)
ends_before (b ∷ []) lt e = go (eqb b 39) refl
  where
    go : (x : Bool) → eqb b 39 ≡ x → Ends (from_first (b ∷ []))
    go true p = rw p refl
    go false p = let h : 1 + 0 < 1 = rw p at lt in absurd (omega (arith, h))
ends_before (b ∷ c ∷ s) lt e = go (eqb b 39) refl (ends_before (c ∷ s))
  where
    go : (x : Bool) → eqb b 39 ≡ x → (position_or_len is_quote (c ∷ s) < length (c ∷ s) → Ends (c ∷ s) → Ends (from_first (c ∷ s))) → Ends (from_first (b ∷ c ∷ s))
    go true p next = let h = rw p at e in rw p h
    go false p next =
        let n = position_or_len is_quote (c ∷ s) in
        let k : 1 + n ≡ suc n = omega arith in
        let j : suc n + 1 ≡ suc (n + 1) = omega arith in
        let h : 1 + n < length (b ∷ c ∷ s) = rw p at lt in
        let f : longer 1 (quoted_length (c ∷ s)) ≡ Some (length (b ∷ c ∷ s)) = rw p at e in
        let g = shorter (length (b ∷ c ∷ s)) 1 (length (c ∷ s)) (quoted_length (c ∷ s)) f (omega arith) in
        rw (p, k, j) (next (omega (arith, h)) g)

is_last : (after : List ℕ) → ((rest : List ℕ) → after ≢ 39 ∷ rest) → Ends (39 ∷ after) → after ≡ []
is_last [] differs e = refl
is_last (c ∷ after) differs e = go (eqb c 39) refl
  where
    go : (x : Bool) → eqb c 39 ≡ x → c ∷ after ≡ []
    go true p = let k : c ≡ 39 = grind (arith, nat_tests, p) in absurd (differs after (ap (λ z. z ∷ after) k))
    go false p = let f : Some 1 ≡ Some (length (39 ∷ c ∷ after)) = rw p at e in let k : 1 ≡ length (39 ∷ c ∷ after) = cc in absurd (omega (arith, k))

none_there : (s : List ℕ) → position_or_len is_quote s ≡ length s → quoted_length s ≡ None
none_there [] e = refl
none_there (b ∷ []) e = go (eqb b 39) refl
  where
    go : (x : Bool) → eqb b 39 ≡ x → quoted_length (b ∷ []) ≡ None
    go true p = let h : 0 ≡ 1 = rw p at e in absurd (omega (arith, h))
    go false p = rw p refl
none_there (b ∷ c ∷ s) e = go (eqb b 39) refl (none_there (c ∷ s))
  where
    go : (x : Bool) → eqb b 39 ≡ x → (position_or_len is_quote (c ∷ s) ≡ length (c ∷ s) → quoted_length (c ∷ s) ≡ None) → quoted_length (b ∷ c ∷ s) ≡ None
    go true p next = let h : 0 ≡ length (b ∷ c ∷ s) = rw p at e in absurd (omega (arith, h))
    go false p next =
        let h : 1 + position_or_len is_quote (c ∷ s) ≡ length (b ∷ c ∷ s) = rw p at e in
        rw p (ap (longer 1) (next (omega (arith, h))))

-- what stands in a text up to `rest` is kept, and the rest ends with the last quote
pub record Kept (text inner rest : List ℕ) : Type 0 where
  pub so_far : inner ++ up_to_quote rest ≡ unquoted text
  pub ends : Ends rest

pub kept_first : (text rest : List ℕ) → IsQuoted text → text ≡ 39 ∷ rest → Kept text [] rest
kept_first [] rest q e = absurd q
kept_first (b ∷ text) rest q e = let k : text ≡ rest = cc in rw (← k) record { so_far = refl; ends = q.1 }

pub kept_on : (text inner rest before after more : List ℕ) → Kept text inner rest → position_or_len is_quote rest < length rest → before ≡ before_first is_quote rest → after ≡ after_first is_quote rest
    → after ≡ 39 ∷ more → Kept text ((inner ++ before) ++ 39 ∷ []) more
kept_on text inner rest before after more k lt b a e =
    let ends : Ends (39 ∷ 39 ∷ more) = rw (← a, e) at (ends_before rest lt k.ends) in
    let up : up_to_quote rest ≡ before ++ up_to_quote (39 ∷ 39 ∷ more) = rw (← b, ← a, e) at (up_before rest lt) in
    record {
      so_far = append_assoc (inner ++ before) (39 ∷ []) (up_to_quote more) ∙ append_assoc inner before (39 ∷ up_to_quote more) ∙ ap (λ z. inner ++ z) (sym up) ∙ k.so_far;
      ends = shorter (length (39 ∷ 39 ∷ more)) 2 (length more) (quoted_length more) ends (omega arith);
    }

pub kept_all : (text inner rest before after : List ℕ) → Kept text inner rest → position_or_len is_quote rest < length rest → before ≡ before_first is_quote rest → after ≡ after_first is_quote rest
    → ((more : List ℕ) → after ≢ 39 ∷ more) → inner ++ before ≡ unquoted text
kept_all text inner rest before after k lt b a differs =
    let ends : Ends (39 ∷ after) = rw (← a) at (ends_before rest lt k.ends) in
    let last = is_last after differs ends in
    let up : up_to_quote rest ≡ before ++ [] = rw (← b, ← a, last) at (up_before rest lt) in
    ap (λ z. inner ++ z) (sym (append-nil before)) ∙ ap (λ z. inner ++ z) (sym up) ∙ k.so_far

pub kept_none : (text inner rest : List ℕ) → Kept text inner rest → position_or_len is_quote rest ≡ length rest → ⊥
kept_none text inner rest k e = let none = none_there rest e in let both : None ≡ Some (length rest) = sym none ∙ k.ends in absurd cc

pub after_less : (s : List ℕ) (more : List ℕ) → after_first is_quote s ≡ 39 ∷ more → position_or_len is_quote s < length s → length more < length s
after_less s more e lt = omega (arith, ap length e, length-drop (position_or_len is_quote s + 1) s, lt)

never : (s : List ℕ) → IsQuoted s → ((rest : List ℕ) → s ≢ 39 ∷ rest) → ⊥
never [] q differs = q
never (b ∷ s) q differs = differs s (ap (λ z. z ∷ s) q.0)

pub kept_begins : (found : Option (Bor (List ℕ))) (text result : Bor (List ℕ)) → IsQuoted text.now → MatchOption found ((rest : List ℕ) → text.now ≢ 39 ∷ rest) (λ x. text.now ≡ 39 ∷ x.now)
    → result ≡ unwrap_or found text → Kept text.now [] result.now
kept_begins None text result q m e = absurd (never text.now q m)
kept_begins (Some x) text result q m e = rw e (kept_first text.now x.now q m)
