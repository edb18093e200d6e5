-- Words and literals, printed.
use Rattle.std.proofs.Common.{◌≡◌, ℕ, zero, suc, ◌+◌, ◌-◌, ◌^◌, ◌<◌, ◌≤◌, Bool, true, false, List, [], ◌∷◌, ◌++◌, inl, inr, length, take, Option, Some, None, refl, sym, ap, subst, ◌∙◌, arith, ℤ, pos, negsuc, decimal, leb-true, le-leb, eqb-true}
use Rattle.std.specs.Prelude.{◌==◌, ◌&&◌, ◌||◌, if◌then◌else◌, codes, IsTrue, nat_le}
use Rattle.std.specs.Char.{is_ascii_digit}
use Rattle.std.specs.List.{list_all}
use Rattle.std.specs.Str.Parse.{AllDigits, digits_value}
use Rattle.std.proofs.Math.Nat.{pow-le-pow_right}
use Rattle.std.proofs.lemmas.Fmt.{decimal_is_IsNumeral, length-decimal-le}
use Rattle.std.proofs.lemmas.Int.Digits.{digits_value-lt}
use Rattle.std.proofs.lemmas.Str.{digit_value_digit}
use Rattle.std.proofs.lemmas.Str.Parse.{digit_from_value}
use Rattle.std.proofs.lemmas.Option.{same_Some}
use Rattle.sr_cell.specs.declared.cell.Cell.TheVariants.{Num, Str}
use Rattle.sr_grammar.specs.declared.statement.Op.TheVariants.{Eq, Ne, Lt, Le, Gt, Ge}
use Rattle.sr_grammar.specs.Tokens.{Kind, Key, Named, Number, Quoted, Mark, Bad, Tok, is_kind}
use Rattle.sr_grammar.specs.Words.{Word, name_of, number_of, minus, plain_of, is_prefix, prefix_of, op_of, reference_of}
use Rattle.sr_grammar.specs.Rules.{One, ◌>>=◌ as ◌▸◌}
use Rattle.sr_grammar.specs.Conditions.{MARK, MaybeOf, IsLiteral, IsValue, IsReference}
use Rattle.sr_grammar.specs.Printed.{token, mark, name, number, literal, prefix, reference, sign}
use Rattle.sr_print.specs.Writable.{is_name, is_digits, is_writable_as, are_writable}
use Rattle.sr_print.proofs.AgainTokens.{Writable, both_true, true_both, cut, only, Printed, Again, at_end}

-- ---- names

pub name_again : (a : Word) (x : List Tok) → Writable x → One name_of a x → IsTrue (is_name a.text)
name_again a x w h = go h.0.kind (only x h.0 w h.2) h.1
  where
    go : (k : Kind) → IsTrue (is_writable_as k h.0.text) → (if is_kind k Named then Some (record { text = h.0.text; place = h.0.from }) else None) ≡ Some a → IsTrue (is_name a.text)
    go Key w e = absurd cc
    go Named w e = subst (λ z. IsTrue (is_name z.text)) (same_Some _ a e) w
    go Number w e = absurd cc
    go Quoted w e = absurd cc
    go Mark w e = absurd cc
    go Bad w e = absurd cc

-- a name at any place
pub name_one : (text : List ℕ) (place : ℕ) → One name_of (record { text = text; place = place }) (name text place ∷ [])
name_one text place = (name text place, refl, refl)

pub writable_name : (text : List ℕ) (place : ℕ) (ts : List Tok) → IsTrue (is_name text) → Writable ts → Writable (name text place ∷ ts)
writable_name text place ts h k = true_both (is_name text) (are_writable ts) h k

-- ---- numbers

-- as large as 18 digits are
abbrev pub IsSmall : ℤ → Type 0
IsSmall (pos n) = n < 10 ^ 18
IsSmall (negsuc n) = n + 1 < 10 ^ 18

all_digits : (ds : List ℕ) → IsTrue (list_all is_ascii_digit ds) → AllDigits 10 ds
all_digits [] h = tt
all_digits (d ∷ ds) h =
    let s = both_true (is_ascii_digit d) (list_all is_ascii_digit ds) h in
    let r = both_true (nat_le 48 d) (nat_le d 57) s.0 in
    let v = digit_value_digit d (leb-true 48 d r.0, leb-true d 57 r.1) in
    (omega (arith, leb-true d 57 r.1, v), all_digits ds s.1)

digits_all : (ds : List ℕ) → AllDigits 10 ds → IsTrue (list_all is_ascii_digit ds)
digits_all [] h = refl
digits_all (d ∷ ds) h =
    let r = digit_from_value d h.0 in
    true_both (is_ascii_digit d) (list_all is_ascii_digit ds) (true_both (nat_le 48 d) (nat_le d 57) (le-leb 48 d r.0) (le-leb d 57 r.1)) (digits_all ds h.1)

small_value : (ds : List ℕ) → IsTrue (is_digits ds) → digits_value 10 ds < 10 ^ 18
small_value ds h =
    let s = both_true (nat_le 1 (length ds)) (list_all is_ascii_digit ds && nat_le (length ds) 18) h in
    let r = both_true (list_all is_ascii_digit ds) (nat_le (length ds) 18) s.1 in
    let below = digits_value-lt 10 ds (all_digits ds r.0) in
    let most : 10 ^ length ds ≤ 10 ^ 18 = pow-le-pow_right {n = 10} (omega arith) (leb-true (length ds) 18 r.1) in
    omega (arith, below, most)

pub number_again : (n : ℕ) (x : List Tok) → Writable x → One number_of n x → n < 10 ^ 18
number_again n x w h = go h.0.kind (only x h.0 w h.2) h.1
  where
    go : (k : Kind) → IsTrue (is_writable_as k h.0.text) → (if is_kind k Number then Some (digits_value 10 h.0.text) else None) ≡ Some n → n < 10 ^ 18
    go Key w e = absurd cc
    go Named w e = absurd cc
    go Number w e = subst (λ z. z < 10 ^ 18) (same_Some _ n e) (small_value h.0.text w)
    go Quoted w e = absurd cc
    go Mark w e = absurd cc
    go Bad w e = absurd cc

writable_decimal : (n : ℕ) → n < 10 ^ 18 → IsTrue (is_digits (decimal n))
writable_decimal n h =
    let d = decimal_is_IsNumeral n (omega arith) in
    true_both (nat_le 1 (length (decimal n))) (list_all is_ascii_digit (decimal n) && nat_le (length (decimal n)) 18) (le-leb 1 (length (decimal n)) (omega (arith, d.0.0)))
    (true_both (list_all is_ascii_digit (decimal n)) (nat_le (length (decimal n)) 18) (digits_all (decimal n) d.0.1) (le-leb (length (decimal n)) 18 (length-decimal-le 18 n (omega arith) h (omega arith))))

pub decimal_one : (n place : ℕ) → n < 10 ^ 18 → One number_of n (token Number (decimal n) place ∷ [])
decimal_one n place h = (token Number (decimal n) place, ap Some (decimal_is_IsNumeral n (omega arith)).1, refl)

pub writable_number : (z : ℤ) (place : ℕ) → IsSmall z → Writable (number z place)
writable_number (pos n) place h = true_both (is_digits (decimal n)) true (writable_decimal n h) refl
writable_number (negsuc n) place h = true_both (is_digits (decimal (n + 1))) true (writable_decimal (n + 1) h) refl

-- ---- literals

pub small_minus : (n : ℕ) → n < 10 ^ 18 → IsSmall (minus n)
small_minus zero h = h
small_minus (suc n) h = omega arith

pub minus_more : (n : ℕ) → negsuc n ≡ minus (n + 1)
minus_more n = let e : suc n ≡ n + 1 = omega arith in ap minus e

number_literal : (z : ℤ) (place : ℕ) → IsSmall z → IsLiteral (record { cell = Num z; place = place }) (number z place)
number_literal (pos n) place h = inr (token Number (decimal n) place, ap (λ v. Some (record { cell = Num (pos v); place = place })) (decimal_is_IsNumeral n (omega arith)).1, refl)
number_literal (negsuc n) place h =
    inl (
      place,
      token Mark (codes "-") place ∷ [],
      token Number (decimal (n + 1)) 0 ∷ [],
      refl,
      (token Mark (codes "-") place, refl, refl),
      at_end (One number_of) _ (λ m. record { cell = Num (minus m); place = place }) (n + 1) _ (ap (λ z. record { cell = Num z; place = place }) (minus_more n)) (decimal_one (n + 1) 0 h),
    )

pub literal_again : Again IsLiteral literal
literal_again l x w h = elim h [
  | inl k ↦ (
      let s = cut x k.1 k.2 w k.3 in
      let t = cut k.2 k.5.1 k.5.2 s.1 k.5.3 in
      at (minus k.5.0) k.0 (small_minus k.5.0 (number_again k.5.0 k.5.1 t.0 k.5.4)) k.5.5.0)
  | inr k ↦ plain k.0.kind k.0.text k.0.from (only x k.0 w k.2) k.1
]
  where
    at : (z : ℤ) (place : ℕ) → IsSmall z → l ≡ record { cell = Num z; place = place } → Printed IsLiteral literal l
    at z place small e = subst (Printed IsLiteral literal) (sym e) (number_literal z place small, writable_number z place small)

    plain : (k : Kind) (text : List ℕ) (place : ℕ) → IsTrue (is_writable_as k text) → plain_of (token k text place) ≡ Some l → Printed IsLiteral literal l
    plain Key text place w e = absurd cc
    plain Named text place w e = absurd cc
    plain Number text place w e = at (pos (digits_value 10 text)) place (small_value text w) (sym (same_Some _ l e))
    plain Quoted text place w e = subst (Printed IsLiteral literal) (same_Some _ l e) (inr (token Quoted text place, refl, refl), refl)
    plain Mark text place w e = absurd cc
    plain Bad text place w e = absurd cc

pub value_again : Again IsValue literal
value_again l x w h = elim h [
  | inl k ↦ subst (Printed IsValue literal) (sym k.5.0) (
    inl (k.0, token Key (codes "NULL") k.0 ∷ [], [], refl, (token Key (codes "NULL") k.0, refl, refl), (refl, refl)),
    refl,
  )
  | inr k ↦ (let r = literal_again l x w k in (inr r.0, r.1))
]

-- ---- prefixes

front_of : (s : List ℕ) → is_prefix s ≡ true → take (length s - 1) s ++ codes "%" ≡ s
front_of [] h = absurd cc
front_of (b ∷ []) h = ap (λ z. z ∷ []) (sym (eqb-true b 37 h))
front_of (b ∷ c ∷ s) h = ap (λ n. take n (b ∷ c ∷ s) ++ codes "%") less ∙ ap (λ z. b ∷ z) (front_of (c ∷ s) (go (b == 37 || b == 95) h))
  where
    less : length (b ∷ c ∷ s) - 1 ≡ suc (length (c ∷ s) - 1)
    less = omega arith

    go : (test : Bool) → (if test then false else is_prefix (c ∷ s)) ≡ true → is_prefix (c ∷ s) ≡ true
    go true e = absurd cc
    go false e = e

pub prefix_again : Again (One prefix_of) prefix
prefix_again l x w h = go h.0.kind h.0.text h.0.from h.1
  where
    made : (text : List ℕ) (place : ℕ) (test : Bool) → is_prefix text ≡ test → (if test then Some (record { cell = Str (take (length text - 1) text); place = place }) else None) ≡ Some l → Printed (One prefix_of) prefix l
    made text place false t e = absurd cc
    made text place true t e =
        let is : prefix_of (token Quoted text place) ≡ Some (record { cell = Str (take (length text - 1) text); place = place }) = rw t refl in
        subst (Printed (One prefix_of) prefix) (same_Some _ l e)
        (subst (λ z. One prefix_of (record { cell = Str (take (length text - 1) text); place = place }) (token Quoted z place ∷ [])) (sym (front_of text t)) (token Quoted text place, is, refl), refl)

    go : (k : Kind) (text : List ℕ) (place : ℕ) → prefix_of (token k text place) ≡ Some l → Printed (One prefix_of) prefix l
    go Key text place e = absurd cc
    go Named text place e = absurd cc
    go Number text place e = absurd cc
    go Quoted text place e = made text place (is_prefix text) refl e
    go Mark text place e = absurd cc
    go Bad text place e = absurd cc

-- ---- signs and references

pub sign_again : Again (One op_of) (λ op. mark (sign op) ∷ [])
sign_again Eq x w h = ((mark (sign Eq), refl, refl), refl)
sign_again Ne x w h = ((mark (sign Ne), refl, refl), refl)
sign_again Lt x w h = ((mark (sign Lt), refl, refl), refl)
sign_again Le x w h = ((mark (sign Le), refl, refl), refl)
sign_again Gt x w h = ((mark (sign Gt), refl, refl), refl)
sign_again Ge x w h = ((mark (sign Ge), refl, refl), refl)

pub reference_again : Again IsReference reference
reference_again n x w h =
    let s = cut x h.1 h.2 w h.3 in
    let t = cut h.2 h.5.1 h.5.2 s.1 h.5.3 in
    subst (Printed IsReference reference) (sym h.5.5.0) (go h.0 h.5.0 h.5.1 (name_again h.0 h.1 s.0 h.4) t.0 h.5.4)
  where
    go : (a : Word) (b : Option Word) (y : List Tok) → IsTrue (is_name a.text) → Writable y → MaybeOf (MARK (codes ".") ▸ λ _. One name_of) b y → Printed IsReference reference (reference_of a b)
    go a None y na w m =
        ((a, name a.text a.place ∷ [], [], refl, name_one a.text a.place, (None, [], [], refl, inr (refl, refl), (refl, refl))), writable_name a.text a.place [] na refl)
    go a (Some b) y na w m = elim m [
      | inl k ↦ (
          let s = cut y k.1 k.2 w k.3 in
          let r = cut k.1 k.4.1 k.4.2 s.0 k.4.3 in
          let nb : IsTrue (is_name b.text) = subst (λ z. IsTrue (is_name z.text)) (same_Some k.0 b (sym k.5.0)) (name_again k.0 k.4.2 r.1 k.4.5) in (
            (
              a,
              name a.text a.place ∷ [],
              mark (codes ".") ∷ name b.text 0 ∷ [],
              refl,
              name_one a.text a.place,
              (
                Some (record b { place = 0 }),
                mark (codes ".") ∷ name b.text 0 ∷ [],
                [],
                refl,
                inl (at_end (MARK (codes ".") ▸ λ _. One name_of) _ Some (record b { place = 0 }) _ refl (0, mark (codes ".") ∷ [], name b.text 0 ∷ [], refl, (mark (codes "."), refl, refl), name_one b.text 0)),
                (refl, refl),
              ),
            ),
            writable_name a.text a.place (mark (codes ".") ∷ name b.text 0 ∷ []) na (writable_name b.text 0 [] nb refl),
          ))
      | inr k ↦ absurd (let e = k.0 in cc e)
    ]
