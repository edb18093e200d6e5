-- What is read as an image was spelled just so.
use Rattle.std.proofs.Common.{◌≡◌, ℕ, zero, suc, ◌+◌, ◌≤◌, Bool, true, false, cond, List, [], ◌∷◌, ◌++◌, length, take, drop, refl, sym, ap, ◌∙◌, append-nil, append_assoc, arith}
use Rattle.std.specs.Prelude.{IsTrue, ◌&&◌, ◌==◌, nat_lt, bytes_eq, Result, Ok, Err}
use Rattle.std.specs.Int.{w64, from_be_bytes}
use Rattle.std.proofs.lemmas.Bool.{ltb-false, le-ltb}
use Rattle.std.proofs.lemmas.Bool.Decides.{nat_tests}
use Rattle.std.proofs.lemmas.List.{length-append}
use Rattle.sr_cell.specs.declared.table.Table.{Table}
use Rattle.sr_cell.specs.Columns.{are_bytes}
use Rattle.sr_bytes.specs.Reading.{Reading, Got, Bad, a_number}
use Rattle.sr_bytes.specs.Spelling.{long_bytes}
use Rattle.sr_bytes.proofs.Numbers.{long_spelled}
use Rattle.sr_bytes.proofs.Steps.{rest_bytes, got_value}
use Rattle.sr_image.specs.declared.image.Image.{Image}
use Rattle.sr_image.specs.declared.image.ImageFault.{ImageFault}
use Rattle.sr_image.specs.declared.image.ImageFault.TheVariants.{Schema}
use Rattle.sr_image.specs.Laws.{is_image}
use Rattle.sr_image.specs.Reading.{an_image, are_alike, behind_texts, finished, image_in, image_over, length_in, same_texts, some_texts}
use Rattle.sr_image.specs.Spelling.{creates, magic, texts_bytes, body_bytes, bytes_over, image_bytes}
use Rattle.sr_image.proofs.Again.{long-length}
use Rattle.sr_image.proofs.Exact.{image-exact, parts_bytes, texts-spelled}
use Rattle.sr_image.proofs.Front.{passes, drop-few}

-- bytes that begin so, where they are as many
alike-all : (front bytes : List ℕ) → length front ≤ length bytes → are_alike front bytes ≡ true → bytes ≡ front ++ drop (length front) bytes
alike-all [] bytes le h = refl
alike-all (a ∷ front) [] le h = absurd (omega (arith, le))
alike-all (a ∷ front) (b ∷ bytes) le h = by (a == b) refl h (alike-all front bytes (omega (arith, le)))
  where
    by : (same : Bool) → (a == b) ≡ same → (same && are_alike front bytes) ≡ true → (are_alike front bytes ≡ true → bytes ≡ front ++ drop (length front) bytes) → b ∷ bytes ≡ a ∷ (front ++ drop (length front) bytes)
    by true is h ih = let eq : a ≡ b = grind (arith, nat_tests, is) in ap (λ (n : ℕ). n ∷ bytes) (sym eq) ∙ ap (λ (t : List ℕ). a ∷ t) (ih h)
    by false is h ih = absurd cc

-- texts that are the same are one
equal-bytes : (a b : List ℕ) → bytes_eq a b ≡ true → a ≡ b
equal-bytes [] [] h = refl
equal-bytes [] (y ∷ b) h = absurd cc
equal-bytes (x ∷ a) [] h = absurd cc
equal-bytes (x ∷ a) (y ∷ b) h = grind (arith, nat_tests, equal-bytes a b)

equal-texts : (xs ys : List (List ℕ)) → same_texts xs ys ≡ true → xs ≡ ys
equal-texts [] [] h = refl
equal-texts [] (y ∷ ys) h = absurd cc
equal-texts (x ∷ xs) [] h = absurd cc
equal-texts (x ∷ xs) (y ∷ ys) h = by (bytes_eq x y) refl h (equal-texts xs ys)
  where
    by : (same : Bool) → bytes_eq x y ≡ same → (same && same_texts xs ys) ≡ true → (same_texts xs ys ≡ true → xs ≡ ys) → x ∷ xs ≡ y ∷ ys
    by true is h ih = ap (λ (t : List ℕ). t ∷ xs) (equal-bytes x y is) ∙ ap (λ (ts : List (List ℕ)). y ∷ ts) (ih h)
    by false is h ih = absurd cc

-- what stands behind the first sixteen bytes
record IsBody (schema : List Table) (texts : List (List ℕ)) (bytes : List ℕ) (image : Image) : Type 0 where
  pub parts : bytes ≡ body_bytes texts image
  pub is : IsTrue (is_image schema image)

-- all was read, and nothing is left
whole : (size : ℕ) (reading : Reading Image) (image : Image) → finished size reading ≡ Ok image → reading ≡ Got image []
whole size (Got found []) image e = let same : found ≡ image = cc in ap (λ (i : Image). Got i []) same
whole size (Got found (b ∷ rest)) image e = absurd cc
whole size (Bad rest) image e = absurd cc

body-is : (schema : List Table) (texts : List (List ℕ)) (size : ℕ) (bytes : List ℕ) (reading : Reading (List (List ℕ))) (image : Image) → IsTrue (are_bytes bytes) → some_texts bytes ≡ reading
    → behind_texts schema texts size reading ≡ Ok image → IsBody schema texts bytes image
body-is schema texts size bytes (Got found rest) image fits read e = by (same_texts found texts) refl e
  where
    by : (same : Bool) → same_texts found texts ≡ same → cond same (finished size (an_image schema rest)) (Err Schema) ≡ Ok image → IsBody schema texts bytes image
    by true is e =
        let front = texts-spelled bytes found rest fits read in
        let parts = (image-exact schema).spelled rest image [] (rest_bytes bytes (texts_bytes found) rest front fits) (whole size (an_image schema rest) image e) in
        record {
          parts = front ∙ ap (λ (ts : List (List ℕ)). texts_bytes ts ++ rest) (equal-texts found texts is) ∙ ap (λ (t : List ℕ). texts_bytes texts ++ t) (parts.0 ∙ append-nil (parts_bytes image));
          is = parts.1;
        }
    by false is e = absurd cc
body-is schema texts size bytes (Bad rest) image fits read e = absurd cc

pub drop-again : (n k : ℕ) (bytes : List ℕ) → drop n (drop k bytes) ≡ drop (n + k) bytes
drop-again n zero bytes = let e : n + 0 ≡ n = omega arith in ap (λ m. drop m bytes) (sym e)
drop-again n (suc k) [] = drop-nil n
  where
    drop-nil : (n : ℕ) → drop n [] ≡ drop {A = ℕ} (n + suc k) []
    drop-nil zero = let e : 0 + suc k ≡ suc k = omega arith in ap (λ m. drop {A = ℕ} m []) (sym e)
    drop-nil (suc n) = let e : suc n + suc k ≡ suc (n + suc k) = omega arith in ap (λ m. drop {A = ℕ} m []) (sym e)
drop-again n (suc k) (b ∷ bytes) = let e : n + suc k ≡ suc (n + k) = omega arith in drop-again n k bytes ∙ ap (λ m. drop m (b ∷ bytes)) (sym e)

over-spelled : (schema : List Table) (texts : List (List ℕ)) (bytes : List ℕ) (image : Image) → IsTrue (are_bytes bytes) → image_over schema texts bytes ≡ Ok image
    → (bytes ≡ bytes_over texts image) × IsTrue (is_image schema image)
over-spelled schema texts bytes image fits e =
    let p = passes (are_alike magic bytes) (nat_lt (length bytes) 16) (nat_lt (length bytes) (length_in bytes)) (nat_lt (length_in bytes) 29) (nat_lt (length_in bytes) (length bytes))
    (behind_texts schema texts (length bytes) (some_texts (drop 16 bytes))) image e in
    let many : 16 ≤ length bytes = ltb-false _ _ p.few_is in
    let within : length_in bytes ≤ length bytes = ltb-false _ _ p.short_is in
    let all : length bytes ≤ length_in bytes = ltb-false _ _ p.long_is in
    let front : bytes ≡ magic ++ drop 8 bytes = alike-all magic bytes (omega (arith, many)) p.alike_is in
    let fits_behind = rest_bytes bytes magic (drop 8 bytes) front fits in
    let enough : 8 ≤ length (drop 8 bytes) = drop-few 8 bytes 8 (omega (arith, many)) in
    let long : nat_lt (length (drop 8 bytes)) 8 ≡ false = le-ltb _ _ enough in
    let number : a_number w64 (drop 8 bytes) ≡ Got (length_in bytes) (drop 8 (drop 8 bytes)) = rw long refl in
    let spelled = (long_spelled (drop 8 bytes) (length_in bytes) (drop 8 (drop 8 bytes)) fits_behind number).0 in
    let tail : drop 8 (drop 8 bytes) ≡ drop 16 bytes = drop-again 8 8 bytes in
    let behind : drop 8 bytes ≡ long_bytes (length_in bytes) ++ drop 16 bytes = spelled ∙ ap (λ (t : List ℕ). long_bytes (length_in bytes) ++ t) tail in
    let body = body-is schema texts (length bytes) (drop 16 bytes) (some_texts (drop 16 bytes)) image (rest_bytes (drop 8 bytes) (long_bytes (length_in bytes)) (drop 16 bytes) behind fits_behind) refl p.tail_is in
    let b : List ℕ = body_bytes texts image in
    let sizes = ap length front in
    let more = ap length behind in
    let two = length-append (long_bytes (length_in bytes)) (drop 16 bytes) in
    let eight = long-length (length_in bytes) in
    let last = ap length body.parts in
    let size : length_in bytes ≡ length b + 16 = omega (arith, within, all, sizes, more, two, eight, last) in
    (front ∙ ap (λ (t : List ℕ). magic ++ t) (behind ∙ ap (λ n. long_bytes n ++ drop 16 bytes) size ∙ ap (λ (t : List ℕ). long_bytes (length b + 16) ++ t) body.parts), body.is)

pub was-spelled : (schema : List Table) (bytes : List ℕ) (image : Image) → IsTrue (are_bytes bytes) → image_in schema bytes ≡ Ok image → (bytes ≡ image_bytes schema image) × IsTrue (is_image schema image)
was-spelled schema bytes image fits e = over-spelled schema (creates schema) bytes image fits e
