-- What is written as an image is read again.
use Rattle.std.proofs.Common.{◌≡◌, ℕ, zero, suc, ◌+◌, ◌^◌, ◌<◌, ◌≤◌, Bool, true, false, cond, ltb, List, [], ◌∷◌, ◌++◌, length, take, drop, refl, sym, ap, ◌∙◌, append-nil, arith}
use Rattle.std.specs.Prelude.{IsTrue, nat_lt, bytes_eq, Ok}
use Rattle.std.specs.Int.{w64, from_be_bytes}
use Rattle.std.specs.List.{flat_map}
use Rattle.std.proofs.lemmas.Bool.{le-ltb}
use Rattle.std.proofs.lemmas.List.{length-append}
use Rattle.sr_cell.specs.declared.table.Table.{Table}
use Rattle.sr_bytes.specs.Reading.{Got, Bad}
use Rattle.sr_bytes.specs.Spelling.{long_bytes, count_bytes}
use Rattle.sr_bytes.proofs.Numbers.{long_again}
use Rattle.sr_bytes.proofs.Steps.{got_value, got_rest}
use Rattle.sr_image.specs.declared.image.Image.{Image}
use Rattle.sr_image.specs.Laws.{is_image}
use Rattle.sr_image.specs.Reading.{an_image, some_texts, same_texts, length_in, behind_texts, image_in, image_over}
use Rattle.sr_image.specs.Spelling.{creates, magic, long_text_bytes, kept_bytes, kepts_bytes, body_bytes, bytes_over, image_bytes}
use Rattle.sr_image.specs.Writing.{are_short, may_write_schema}
use Rattle.sr_image.proofs.Exact.{image-exact, parts_bytes, texts-again}

same-bytes : (text : List ℕ) → bytes_eq text text ≡ true
same-bytes [] = refl
same-bytes (b ∷ text) = grind (arith, same-bytes text)

same-texts : (texts : List (List ℕ)) → same_texts texts texts ≡ true
same-texts [] = refl
same-texts (text ∷ texts) = rw (same-bytes text) (same-texts texts)

-- what stands behind the first sixteen bytes
number-in : (n : ℕ) (body : List ℕ) → n < 2 ^ 64 → (from_be_bytes w64 (take 8 (long_bytes n ++ body)) ≡ n) × (drop 8 (long_bytes n ++ body) ≡ body)
number-in n body low = by (ltb (length (long_bytes n ++ body)) 8) (long_again n body low)
  where
    by : (b : Bool) → cond b (Bad (long_bytes n ++ body)) (Got (from_be_bytes w64 (take 8 (long_bytes n ++ body))) (drop 8 (long_bytes n ++ body))) ≡ Got n body
        → (from_be_bytes w64 (take 8 (long_bytes n ++ body)) ≡ n) × (drop 8 (long_bytes n ++ body) ≡ body)
    by true e = absurd cc
    by false e = (got_value _ _ _ _ e, got_rest _ _ _ _ e)

pub long-length : (n : ℕ) → length (long_bytes n) ≡ 8
unfolding long_bytes
long-length n = refl

count-length : (n : ℕ) → length (count_bytes n) ≡ 4
unfolding count_bytes
count-length n = refl

-- the number of texts, the version and the number of parts are thirteen bytes
at-least : (texts : List (List ℕ)) (image : Image) → 13 ≤ length (body_bytes texts image)
at-least texts image =
    let parts : List ℕ = flat_map kept_bytes image.kept in
    let rest : List ℕ = long_bytes image.version ++ (count_bytes (length image.kept) ++ parts) in
    let a = length-append (flat_map long_text_bytes texts) rest in
    let b = length-append (long_bytes image.version) (count_bytes (length image.kept) ++ parts) in
    let c = length-append (count_bytes (length image.kept)) parts in
    let d = long-length image.version in
    let e = count-length (length image.kept) in
    omega (arith, a, b, c, d, e)

not-below : (m n k : ℕ) → m ≡ n → k ≤ n → nat_lt m k ≡ false
not-below m n k same within = le-ltb _ _ (omega (arith, same, within))

not-above : (m n k : ℕ) → m ≡ n → n ≤ k → nat_lt k m ≡ false
not-above m n k same within = le-ltb _ _ (omega (arith, same, within))

-- a length that is right is passed over
goes-on : (schema : List Table) (texts : List (List ℕ)) (bytes body : List ℕ) (n : ℕ) (image : Image) → length_in (magic ++ bytes) ≡ n → length (magic ++ bytes) ≡ n → 29 ≤ n → drop 8 bytes ≡ body
    → behind_texts schema texts (length (magic ++ bytes)) (some_texts body) ≡ Ok image → image_over schema texts (magic ++ bytes) ≡ Ok image
goes-on schema texts bytes body n image number size some behind all =
    let is_long : nat_lt (length (magic ++ bytes)) 16 ≡ false = not-below (length (magic ++ bytes)) n 16 size (omega (arith, some)) in
    let is_whole : nat_lt (length (magic ++ bytes)) (length_in (magic ++ bytes)) ≡ false = not-above (length_in (magic ++ bytes)) n (length (magic ++ bytes)) number (omega (arith, size)) in
    let is_some : nat_lt (length_in (magic ++ bytes)) 29 ≡ false = not-below (length_in (magic ++ bytes)) n 29 number some in
    let is_all : nat_lt (length_in (magic ++ bytes)) (length (magic ++ bytes)) ≡ false = not-above (length (magic ++ bytes)) n (length_in (magic ++ bytes)) size (by (length_in (magic ++ bytes)) number) in
    rw (is_long, is_whole, is_some, is_all) (ap (λ t. behind_texts schema texts (length (magic ++ bytes)) (some_texts t)) behind ∙ all)
  where
    by : (m : ℕ) → m ≡ n → n ≤ m
    by m same = omega (arith, same)

over-again : (schema : List Table) (texts : List (List ℕ)) (image : Image) → IsTrue (is_image schema image) → IsTrue (are_short texts) → length (bytes_over texts image) < 2 ^ 64
    → image_over schema texts (bytes_over texts image) ≡ Ok image
over-again schema texts image lawful short low =
    let body : List ℕ = body_bytes texts image in
    let n : ℕ = length body + 16 in
    let size : length (long_bytes n ++ body) ≡ 8 + length body = length-append (long_bytes n) body ∙ ap (λ k. k + length body) (long-length n) in
    let small : n < 2 ^ 64 = omega (arith, low, size) in
    let (number, behind) = number-in n body small in
    let parts : an_image schema (parts_bytes image) ≡ Got image [] = ap (an_image schema) (sym (append-nil (parts_bytes image))) ∙ (image-exact schema).again image [] lawful in
    let all : behind_texts schema texts (length (bytes_over texts image)) (some_texts body) ≡ Ok image =
    ap (λ r. behind_texts schema texts (length (bytes_over texts image)) r) (texts-again texts (parts_bytes image) short) ∙ rw (same-texts texts, parts) refl in
    let whole : length (magic ++ (long_bytes n ++ body)) ≡ n = omega (arith, size) in
    let enough = at-least texts image in
    goes-on schema texts (long_bytes n ++ body) body n image number whole (omega (arith, enough)) behind all

pub read-again : (schema : List Table) (image : Image) → IsTrue (is_image schema image) → IsTrue (may_write_schema schema) → length (image_bytes schema image) < 2 ^ 64
    → image_in schema (image_bytes schema image) ≡ Ok image
read-again schema image lawful short low = over-again schema (creates schema) image lawful short low
