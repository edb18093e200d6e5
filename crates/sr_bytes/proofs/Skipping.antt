-- Passing over values, one by one.
use Rattle.std.proofs.Common.{◌≡◌, ℕ, zero, suc, ◌-◌, ◌+◌, ◌<◌, ◌≤◌, List, ◌∷◌, refl, sym, ap, ◌∙◌, arith}
use Rattle.sr_bytes.specs.Reading.{Reading, Got, Bad, Reader, read_on, ◌>>=◌, give, many, item_and, items}

abbrev pub with_value : {A B : Type 0} → B → Reading A → Reading B
with_value y (Got x rest) = Got y rest
with_value y (Bad rest) = Bad rest

abbrev pub skip_on : {A : Type 0} → Reading A → (List ℕ → Reading ℕ) → Reading ℕ
skip_on (Got x rest) more = more rest
skip_on (Bad rest) more = Bad rest

-- where so many values end, or what is at fault
abbrev pub skipped : {A : Type 0} → Reader A → ℕ → List ℕ → Reading ℕ
skipped r zero bytes = Got 0 bytes
skipped r (suc n) bytes = skip_on (r bytes) (skipped r n)

-- what is read are the items, if all can be read

with_first : {A : Type 0} (x : A) (xs : List A) (rest : Reading ℕ) → read_on (with_value xs rest) (λ others. give (x ∷ others)) ≡ with_value (x ∷ xs) rest
with_first x xs (Got y left) = refl
with_first x xs (Bad left) = refl

many_on : {A : Type 0} (r : Reader A) (n : ℕ) → ((left : List ℕ) → many r n left ≡ with_value (items r n left) (skipped r n left)) → (first : Reading A)
    → read_on first (λ x. many r n >>= λ others. give (x ∷ others)) ≡ with_value (item_and first (items r n)) (skip_on first (skipped r n))
many_on r n others (Got x left) = rw (others left) (with_first x (items r n left) (skipped r n left))
many_on r n others (Bad left) = refl

pub many_is : {A : Type 0} (r : Reader A) (n : ℕ) (bytes : List ℕ) → many r n bytes ≡ with_value (items r n bytes) (skipped r n bytes)
many_is r zero bytes = refl
many_is r (suc n) bytes = many_on r n (many_is r n) (r bytes)

-- one value more was passed over
pub skips_one : {A : Type 0} (r : Reader A) (count i : ℕ) (bytes rest : List ℕ) (x : A) → i < count → r bytes ≡ Got x rest → skipped r (count - (i + 1)) rest ≡ skipped r (count - i) bytes
skips_one r count i bytes rest x lt e =
    let k : count - i ≡ suc (count - (i + 1)) = omega arith in
    rw (k, e) refl

-- the next value is at fault
pub none_more : {A : Type 0} (r : Reader A) (count i : ℕ) (bytes left rest : List ℕ) → i < count → r left ≡ Bad rest → skipped r (count - i) left ≡ skipped r count bytes → many r count bytes ≡ Bad rest
none_more r count i bytes left rest lt e so_far =
    let k : count - i ≡ suc (count - (i + 1)) = omega arith in
    let fault : skipped r (count - i) left ≡ Bad rest = rw (k, e) refl in
    many_is r count bytes ∙ ap (with_value (items r count bytes)) (sym so_far ∙ fault)

-- all were passed over
pub all_read : {A : Type 0} (r : Reader A) (count i : ℕ) (bytes left : List ℕ) → count ≤ i → skipped r (count - i) left ≡ skipped r count bytes → many r count bytes ≡ Got (items r count bytes) left
all_read r count i bytes left le so_far =
    let k : count - i ≡ 0 = omega arith in
    let end : skipped r (count - i) left ≡ Got 0 left = rw k refl in
    many_is r count bytes ∙ ap (with_value (items r count bytes)) (sym so_far ∙ end)
