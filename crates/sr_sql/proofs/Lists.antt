-- Reading a list as a loop does, each of its items at one place.
use Rattle.std.proofs.Common.{◌≡◌, ℕ, Bool, true, List, [], ◌∷◌, ◌++◌, length, refl, sym, ap, ◌∙◌}
use Rattle.std.proofs.lemmas.Bool.{cond-true}
use Rattle.sr_grammar.specs.Tokens.{Kind, Tok, is}
use Rattle.sr_grammar.specs.Words.{place_of}
use Rattle.sr_grammar_laws.specs.Reading.{Reading, Got, Fails, Reader, ◌>>=◌, one, next_is, many_for, many}
use Rattle.sr_grammar_laws.specs.Readers.{list}
use Rattle.sr_grammar_laws.proofs.Loops.{Shrinks, goes_on, with_front, item, regroup}

-- what was read before, and the list that is still read, is all
pub record Listing {A : Type 0} (k : Kind) (text : List ℕ) (p : Reader A) (front : List A) (ts : List Tok) (total : Reading (List A)) : Type 0 where
  pub so_far : with_front front (list k text p ts) ≡ total

pub listing_first : {A : Type 0} (k : Kind) (text : List ℕ) (p : Reader A) (ts : List Tok) → Listing k text p [] ts (list k text p ts)
listing_first {A = A} k text p ts = record { so_far = go (list k text p ts) }
  where
    go : (r : Reading (List A)) → with_front [] r ≡ r
    go (Got y end) = refl
    go (Fails deep bad) = refl

-- what a first item and those behind it give
abbrev rest_of : {A : Type 0} → Kind → List ℕ → Reader A → Reading A → Reading (List A)
rest_of k text p read = read >>= λ a rest. many (is k text) (item k text p) rest >>= λ more end. Got (a ∷ more) end

behind : {A : Type 0} (k : Kind) (text : List ℕ) (p : Reader A) (front : List A) (ts mid : List Tok) (a : A) (total : Reading (List A)) → p ts ≡ Got a mid → Listing k text p front ts total
    → with_front (front ++ a ∷ []) (many (is k text) (item k text p) mid) ≡ total
behind k text p front ts mid a total e l =
    sym (regroup front a (many (is k text) (item k text p) mid)) ∙ ap (λ r. with_front front (rest_of k text p r)) (sym e) ∙ l.so_far

-- an item that is not read, behind its mark
wrong : {A : Type 0} (k : Kind) (text : List ℕ) (p : Reader A) (front : List A) (ts mid bad : List Tok) (a : A) (deep : Bool) (total : Reading (List A)) → p ts ≡ Got a mid → next_is (is k text) mid ≡ true
    → item k text p mid ≡ Fails deep bad → Listing k text p front ts total → total ≡ Fails deep bad
wrong k text p front ts mid bad a deep total e next h l =
    let none : many (is k text) (item k text p) mid ≡ Fails deep bad =
    cond-true _ _ _ next ∙ ap (λ r. r >>= λ x rest. many_for (length mid) (is k text) (item k text p) rest >>= λ y end. Got (x ∷ y) end) h in
    sym (behind k text p front ts mid a total e l) ∙ ap (with_front (front ++ a ∷ [])) none

pub listing_on : {A : Type 0} (k : Kind) (text : List ℕ) (p : Reader A) → Shrinks p → (front : List A) (ts mid rest : List Tok) (at : ℕ) (a : A) (total : Reading (List A)) → p ts ≡ Got a mid
    → next_is (is k text) mid ≡ true → one (place_of k text) mid ≡ Got at rest → Listing k text p front ts total → Listing k text p (front ++ a ∷ []) rest total
listing_on {A = A} k text p s front ts mid rest at a total e next h l = record { so_far = go (p rest) refl }
  where
    go : (r : Reading A) → p rest ≡ r → with_front (front ++ a ∷ []) (list k text p rest) ≡ total
    go (Got b end) was =
        let going = goes_on k text p s (front ++ a ∷ []) mid rest at b end total next h was (record { so_far = behind k text p front ts mid a total e l }) in
        ap (λ r. with_front (front ++ a ∷ []) (rest_of k text p r)) was ∙ regroup (front ++ a ∷ []) b (many (is k text) (item k text p) end) ∙ going.so_far
    go (Fails deep bad) was =
        let whole : item k text p mid ≡ Fails deep bad = ap (λ r. r >>= λ _. p) h ∙ was in
        ap (λ r. with_front (front ++ a ∷ []) (rest_of k text p r)) was ∙ sym (wrong k text p front ts mid bad a deep total e next whole l)
