-- Names without regard to case.
use Rattle.std.proofs.Common.{◌≡◌, ℕ, Bool, true, false, List, refl, sym, ap, ◌∙◌, ◌↔◌}
use Rattle.std.specs.Prelude.{IsTrue, bytes_eq, if◌then◌else◌}
use Rattle.std.proofs.lemmas.Slice.Eq.{bytes_eq-Decides}
use Rattle.sr_token.specs.declared.token.TokenKind.TheVariants as code
use Rattle.sr_grammar.specs.Tokens.{Key, Named, is, is_reserved, upper, lower, seen}
use Rattle.sr_grammar.proofs.Cases.{ups}

-- the test of a word that is not reserved
pub is-name : (r : Bool) (text word : List ℕ) (from : ℕ) → is_reserved (upper word) ≡ false → (IsTrue r ↔ (lower text ≡ lower word)) → r ≡ is Named (lower word) (seen code.Word from text)
is-name r text word from free iff = go r (is_reserved (upper text)) refl (bytes_eq (lower text) (lower word)) refl iff
  where
    go : (r x : Bool) → is_reserved (upper text) ≡ x → (y : Bool) → bytes_eq (lower text) (lower word) ≡ y → (IsTrue r ↔ (lower text ≡ lower word))
        → r ≡ is Named (lower word) (if x then record { kind = Key; text = upper text; from = from } else record { kind = Named; text = lower text; from = from })
    go true x was y eq iff =
        let e : lower text ≡ lower word = iff.0 refl in
        let b : bytes_eq (lower text) (lower word) ≡ true = (bytes_eq-Decides (lower text) (lower word)).1 e in
        let k : x ≡ false = sym was ∙ (ap is_reserved (ups text word e) ∙ free) in
        rw (k, b) refl
    go false true was y eq iff = refl
    go false false was true eq iff = absurd (let k : false ≡ true = iff.1 ((bytes_eq-Decides (lower text) (lower word)).0 eq) in cc)
    go false false was false eq iff = rw eq refl
