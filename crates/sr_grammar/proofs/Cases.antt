-- Texts that are the same without regard to case.
use Rattle.sr_token.specs.declared.token.TokenKind.TheVariants as code
use Rattle.std.proofs.Common.{◌≡◌, ℕ, arith, List, [], ◌∷◌, refl, Bool, true, false, sym, ap, ◌∙◌, ◌↔◌}
use Rattle.std.specs.Char.{to_ascii_uppercase, to_ascii_lowercase}
use Rattle.std.proofs.lemmas.Bool.Decides.{nat_tests}
use Rattle.std.specs.Prelude.{if◌then◌else◌, IsTrue, bytes_eq}
use Rattle.std.proofs.lemmas.Slice.Eq.{bytes_eq-Decides}
use Rattle.sr_grammar.specs.Tokens.{upper, lower, Key, Named, is, is_reserved, seen}

pub up : (x y : ℕ) → to_ascii_lowercase x ≡ to_ascii_lowercase y → to_ascii_uppercase x ≡ to_ascii_uppercase y
up x y e = grind (arith, nat_tests)

pub down : (x y : ℕ) → to_ascii_uppercase x ≡ to_ascii_uppercase y → to_ascii_lowercase x ≡ to_ascii_lowercase y
down x y e = grind (arith, nat_tests)

pub ups : (a b : List ℕ) → lower a ≡ lower b → upper a ≡ upper b
ups [] [] e = refl
ups [] (y ∷ b) e = absurd cc
ups (x ∷ a) [] e = absurd cc
ups (x ∷ a) (y ∷ b) e =
    let h : to_ascii_lowercase x ≡ to_ascii_lowercase y = cc in
    let t : lower a ≡ lower b = cc in
    rw (up x y h, ups a b t) refl

pub downs : (a b : List ℕ) → upper a ≡ upper b → lower a ≡ lower b
downs [] [] e = refl
downs [] (y ∷ b) e = absurd cc
downs (x ∷ a) [] e = absurd cc
downs (x ∷ a) (y ∷ b) e =
    let h : to_ascii_uppercase x ≡ to_ascii_uppercase y = cc in
    let t : upper a ≡ upper b = cc in
    rw (down x y h, downs a b t) refl

-- the test of a word, by its letters as they are read
pub is_same-upper : (r : Bool) (word other : List ℕ) → (IsTrue r ↔ (lower word ≡ lower other)) → r ≡ bytes_eq (upper word) (upper other)
is_same-upper r word other iff = go r (bytes_eq (upper word) (upper other)) refl iff
  where
    go : (x y : Bool) → bytes_eq (upper word) (upper other) ≡ y → (IsTrue x ↔ (lower word ≡ lower other)) → x ≡ y
    go true y was iff = sym ((bytes_eq-Decides (upper word) (upper other)).1 (ups word other (iff.0 refl))) ∙ was
    go false true was iff = iff.1 (downs word other ((bytes_eq-Decides (upper word) (upper other)).0 was))
    go false false was iff = refl

-- the test of a reserved word
pub is-key : (r : Bool) (text word : List ℕ) (from : ℕ) → IsTrue (is_reserved (upper word)) → (IsTrue r ↔ (lower text ≡ lower word)) → r ≡ is Key (upper word) (seen code.Word from text)
is-key r text word from res iff = go r (is_reserved (upper text)) refl (bytes_eq (upper text) (upper word)) refl iff
  where
    same : bytes_eq (upper text) (upper word) ≡ true → upper text ≡ upper word
    same e = (bytes_eq-Decides (upper text) (upper word)).0 e

    go : (r x : Bool) → is_reserved (upper text) ≡ x → (y : Bool) → bytes_eq (upper text) (upper word) ≡ y → (IsTrue r ↔ (lower text ≡ lower word))
        → r ≡ is Key (upper word) (if x then record { kind = Key; text = upper text; from = from } else record { kind = Named; text = lower text; from = from })
    go true x was y eq iff =
        let e : upper text ≡ upper word = ups text word (iff.0 refl) in
        let b : bytes_eq (upper text) (upper word) ≡ true = (bytes_eq-Decides (upper text) (upper word)).1 e in
        let k : x ≡ true = sym was ∙ (ap is_reserved e ∙ res) in
        rw (k, b) refl
    go false true was true eq iff = absurd (let k : false ≡ true = iff.1 (downs text word (same eq)) in cc)
    go false true was false eq iff = rw eq refl
    go false false was y eq iff = refl
