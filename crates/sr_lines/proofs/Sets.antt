-- The set of needed columns: it has the one that it begins with, and each that is named of its part.
use Rattle.std.proofs.Common.{◌≡◌, ℕ, zero, suc, ◌+◌, ◌*◌, ◌/◌, ◌%◌, ◌^◌, ◌⊎◌, inl, inr, Bool, true, false, List, [], ◌∷◌, refl, sym, ap, subst, ◌∙◌, arith}
use Rattle.std.specs.Prelude.{◌==◌, ◌||◌, not, if◌then◌else◌}
use Rattle.std.specs.List.{list_all}
use Rattle.std.specs.Cmp.Derive.{both_true}
use Rattle.std.proofs.Math.Nat.{add-mul-div_right, div_self, div-div-eq-div-mul, pow-succ'}
use Rattle.std.proofs.lemmas.Nat.{pow-add, pow_pos}
use Rattle.std.proofs.lemmas.Bool.Decides.{nat_tests}
use Rattle.sr_cell.specs.Attrs.{has_column}
use Rattle.sr_model.specs.Queries.{Output}
use Rattle.sr_query.specs.Binding.{with_column, needed}

-- ---- one column more

-- one more at a place that is even
one_more : (attrs c : ℕ) → (attrs + 2 ^ c) / 2 ^ c ≡ attrs / 2 ^ c + 1
one_more attrs c = ap (λ d. (attrs + d) / 2 ^ c) (let same : 2 ^ c ≡ 1 * 2 ^ c = omega arith in same) ∙ add-mul-div_right attrs 1 (pow_pos c)

odd_now : (n : ℕ) → (n % 2 == 1) ≡ false → ((n + 1) % 2 == 1) ≡ true
odd_now n even = grind (arith, nat_tests)

here : (attrs c : ℕ) → has_column attrs c ≡ false → has_column (attrs + 2 ^ c) c ≡ true
here attrs c free = ap (λ n. n % 2 == 1) (one_more attrs c) ∙ odd_now (attrs / 2 ^ c) free

-- below, an even number is added
below : (attrs d k : ℕ) → has_column (attrs + 2 ^ (suc k + d)) d ≡ has_column attrs d
below attrs d k =
    ap (λ n. n % 2 == 1) (ap (λ p. (attrs + p) / 2 ^ d) (pow-add 2 (suc k) d) ∙ add-mul-div_right attrs (2 ^ suc k) (pow_pos d))
    ∙ even (attrs / 2 ^ d) (2 ^ k) (2 ^ suc k) (omega arith)
  where
    even : (n half more : ℕ) → more ≡ 2 * half → ((n + more) % 2 == 1) ≡ (n % 2 == 1)
    even n half more is = let same : (n + more) % 2 ≡ n % 2 = omega (arith, is) in ap (λ x. x == 1) same

-- above, a place that was even does not carry
pub above : (attrs c k : ℕ) → has_column attrs c ≡ false → has_column (attrs + 2 ^ c) (c + suc k) ≡ has_column attrs (c + suc k)
above attrs c k free =
    ap (λ n. n % 2 == 1)
    (far (attrs + 2 ^ c) ∙ (ap (λ n. n / 2 / 2 ^ k) (one_more attrs c) ∙ (ap (λ n. n / 2 ^ k) (half (attrs / 2 ^ c) free) ∙ sym (far attrs))))
  where
    far : (n : ℕ) → n / 2 ^ (c + suc k) ≡ n / 2 ^ c / 2 / 2 ^ k
    far n =
        ap (λ d. n / d) (pow-add 2 c (suc k)) ∙ (sym (div-div-eq-div-mul n (2 ^ c) (2 ^ suc k))
        ∙ (ap (λ d. n / 2 ^ c / d) (pow-succ' 2 k) ∙ sym (div-div-eq-div-mul (n / 2 ^ c) 2 (2 ^ k))))

    half : (n : ℕ) → (n % 2 == 1) ≡ false → (n + 1) / 2 ≡ n / 2
    half n even = grind (arith, nat_tests)

-- another column stays
stays : (attrs c d : ℕ) → has_column attrs c ≡ false → has_column attrs d ≡ true → has_column (attrs + 2 ^ c) d ≡ true
stays attrs c d free has = elim (order c d) [
  | inl (k, is) ↦ (let far = above attrs c k free in subst (λ z. has_column (attrs + 2 ^ c) z ≡ true) (sym is) (far ∙ subst (λ z. has_column attrs z ≡ true) is has))
  | inr (inl is) ↦ absurd (let k : true ≡ false = sym has ∙ (ap (has_column attrs) (sym is) ∙ free) in cc)
  | inr (inr (k, is)) ↦ subst (λ z. has_column (attrs + 2 ^ z) d ≡ true) (sym is) (below attrs d k ∙ has)
]
  where
    order : (c d : ℕ) → ((k : ℕ) × (d ≡ c + suc k)) ⊎ ((c ≡ d) ⊎ ((k : ℕ) × (c ≡ suc k + d)))
    order zero zero = inr (inl refl)
    order zero (suc d) = inl (d, omega arith)
    order (suc c) zero = inr (inr (c, omega arith))
    order (suc c) (suc d) = elim (order c d) [
      | inl (k, is) ↦ inl (k, omega (arith, is))
      | inr (inl is) ↦ inr (inl (ap suc is))
      | inr (inr (k, is)) ↦ inr (inr (k, omega (arith, is)))
    ]

with_has : (attrs c : ℕ) → has_column (with_column c attrs) c ≡ true
with_has attrs c = go (has_column attrs c) refl
  where
    go : (b : Bool) → has_column attrs c ≡ b → has_column (if b then attrs else attrs + 2 ^ c) c ≡ true
    go true is = is
    go false is = here attrs c is

with_keeps : (attrs c d : ℕ) → has_column attrs d ≡ true → has_column (with_column c attrs) d ≡ true
with_keeps attrs c d has = go (has_column attrs c) refl
  where
    go : (b : Bool) → has_column attrs c ≡ b → has_column (if b then attrs else attrs + 2 ^ c) d ≡ true
    go true is = has
    go false is = stays attrs c d is has

-- ---- the columns of a part

pub needed_keeps : (part : ℕ) (os : List Output) (attrs d : ℕ) → has_column attrs d ≡ true → has_column (needed part os attrs) d ≡ true
needed_keeps part [] attrs d has = has
needed_keeps part (o ∷ others) attrs d has = needed_keeps part others (if o.part == part then with_column o.column attrs else attrs) d (go (o.part == part))
  where
    go : (b : Bool) → has_column (if b then with_column o.column attrs else attrs) d ≡ true
    go true = with_keeps attrs o.column d has
    go false = has

pub one_column : (c : ℕ) → has_column (2 ^ c) c ≡ true
one_column c = ap (λ n. n % 2 == 1) (div_self (pow_pos c))

-- a column of another part, or one of these
abbrev pub is_covered : ℕ → ℕ → Output → Bool
is_covered part attrs o = not (o.part == part) || has_column attrs o.column

pub covers : (part : ℕ) (os : List Output) (attrs : ℕ) → list_all (is_covered part (needed part os attrs)) os ≡ true
covers part [] attrs = refl
covers part (o ∷ others) attrs = both_true (go (o.part == part) refl) (covers part others (if o.part == part then with_column o.column attrs else attrs))
  where
    go : (b : Bool) → (o.part == part) ≡ b → (not (o.part == part) || has_column (needed part others (if o.part == part then with_column o.column attrs else attrs)) o.column) ≡ true
    go true is = rw (is, needed_keeps part others (with_column o.column attrs) o.column (with_has attrs o.column)) refl
    go false is = rw is refl
