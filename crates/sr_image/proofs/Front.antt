-- The first bytes of an image: how it begins, and its length.
use Rattle.std.proofs.Common.{◌≡◌, ℕ, zero, suc, ◌+◌, ◌≤◌, ◌<◌, ◌^◌, Bool, true, false, cond, List, [], ◌∷◌, ◌++◌, length, take, drop, refl, sym, ap, ◌∙◌, arith, inl, inr}
use Rattle.std.specs.Prelude.{◌==◌, ◌&&◌, ◌||◌, not, nat_lt, Result, Ok, Err, ◌⊎◌, if◌then◌else◌}
use Rattle.std.specs.Int.{w64, from_be_bytes}
use Rattle.std.proofs.lemmas.Bool.{ltb-false, lt-ltb, cases_Bool}
use Rattle.std.proofs.lemmas.List.{take-append-le, length-append}
use Rattle.sr_cell.specs.declared.table.Table.{Table}
use Rattle.sr_image.specs.declared.image.Image.{Image}
use Rattle.sr_image.specs.declared.image.ImageFault.{ImageFault}
use Rattle.sr_image.specs.declared.image.ImageFault.TheVariants.{Magic, Short, Left, Field}
use Rattle.sr_image.specs.Reading.{are_alike, behind_texts, image_in, image_over, length_in, some_texts}
use Rattle.sr_image.specs.Spelling.{creates, magic}

both : (a b : Bool) → (a && b) ≡ true → (a ≡ true) × (b ≡ true)
both true b h = (refl, h)
both false b h = absurd cc

alike-front : (front bytes more : List ℕ) → are_alike front (bytes ++ more) ≡ true → are_alike front bytes ≡ true
alike-front [] bytes more h = refl
alike-front (a ∷ front) [] more h = refl
alike-front (a ∷ front) (b ∷ bytes) more h =
    let (same, others) = both (a == b) (are_alike front (bytes ++ more)) h in
    rw same (alike-front front bytes more others)

-- what is read on has none of the first faults
pub record Passes (alike few short small long : Bool) (tail : Result Image ImageFault) (image : Image) : Type 0 where
  pub alike_is : alike ≡ true
  pub few_is : few ≡ false
  pub short_is : short ≡ false
  pub small_is : small ≡ false
  pub long_is : long ≡ false
  pub tail_is : tail ≡ Ok image

pub passes : (alike few short small long : Bool) (tail : Result Image ImageFault) (image : Image)
    → cond (not alike) (Err Magic) (cond (few || short) (Err Short) (cond small (Err (Field 8)) (cond long (Err Left) tail))) ≡ Ok image → Passes alike few short small long tail image
passes false few short small long tail image e = absurd cc
passes true true short small long tail image e = absurd cc
passes true false true small long tail image e = absurd cc
passes true false false true long tail image e = absurd cc
passes true false false false true tail image e = absurd cc
passes true false false false false tail image e = record { alike_is = refl; few_is = refl; short_is = refl; small_is = refl; long_is = refl; tail_is = e }

is-short : (alike few short : Bool) (other : Result Image ImageFault) → alike ≡ true → (few || short) ≡ true → cond (not alike) (Err Magic) (cond (few || short) (Err Short) other) ≡ Err Short
is-short alike few short other a s = rw (a, s) refl

drop-front : (n : ℕ) (bytes more : List ℕ) → n ≤ length bytes → drop n (bytes ++ more) ≡ drop n bytes ++ more
drop-front zero bytes more h = refl
drop-front (suc n) [] more h = absurd (omega (arith, h))
drop-front (suc n) (b ∷ bytes) more h = drop-front n bytes more (omega (arith, h))

pub drop-few : (n : ℕ) (bytes : List ℕ) (k : ℕ) → k + n ≤ length bytes → k ≤ length (drop n bytes)
drop-few zero bytes k h = omega (arith, h)
drop-few (suc n) [] k h = omega (arith, h)
drop-few (suc n) (b ∷ bytes) k h = drop-few n bytes k (omega (arith, h))

same-length : (bytes more : List ℕ) → 16 ≤ length bytes → length_in (bytes ++ more) ≡ length_in bytes
same-length bytes more h =
    ap (λ (t : List ℕ). from_be_bytes w64 (take 8 t)) (drop-front 8 bytes more (omega (arith, h)))
    ∙ ap (from_be_bytes w64) (take-append-le 8 (drop 8 bytes) more (drop-few 8 bytes 8 (omega (arith, h))))

over-front : (schema : List Table) (texts : List (List ℕ)) (front : List ℕ) (b : ℕ) (more : List ℕ) (image : Image)
    → image_over schema texts (front ++ b ∷ more) ≡ Ok image → image_over schema texts front ≡ Err Short
over-front schema texts front b more image e =
    let bytes : List ℕ = front ++ b ∷ more in
    let p = passes (are_alike magic bytes) (nat_lt (length bytes) 16) (nat_lt (length bytes) (length_in bytes)) (nat_lt (length_in bytes) 29) (nat_lt (length_in bytes) (length bytes))
    (behind_texts schema texts (length bytes) (some_texts (drop 16 bytes))) image e in
    let within : length_in bytes ≤ length bytes = ltb-false _ _ p.short_is in
    let all : length bytes ≤ length_in bytes = ltb-false _ _ p.long_is in
    let size = length-append front (b ∷ more) in
    is-short (are_alike magic front) (nat_lt (length front) 16) (nat_lt (length front) (length_in front))
    (if nat_lt (length_in front) 29 then Err (Field 8) else if nat_lt (length_in front) (length front) then Err Left else behind_texts schema texts (length front) (some_texts (drop 16 front)))
    (alike-front magic front (b ∷ more) p.alike_is) (by (cases_Bool (nat_lt (length front) 16)) all size)
  where
    by : (nat_lt (length front) 16 ≡ true) ⊎ (nat_lt (length front) 16 ≡ false) → length (front ++ b ∷ more) ≤ length_in (front ++ b ∷ more) → length (front ++ b ∷ more) ≡ length front + length (b ∷ more)
        → (nat_lt (length front) 16 || nat_lt (length front) (length_in front)) ≡ true
    by (inl few) all size = rw few refl
    by (inr long) all size =
        let many : 16 ≤ length front = ltb-false _ _ long in
        let same : length_in (front ++ b ∷ more) ≡ length_in front = same-length front (b ∷ more) many in
        let short : nat_lt (length front) (length_in front) ≡ true = lt-ltb _ _ (omega (arith, all, size, same)) in
        rw (long, short) refl

pub none-begins : (schema : List Table) (front : List ℕ) (b : ℕ) (more : List ℕ) (image : Image) → image_in schema (front ++ b ∷ more) ≡ Ok image → image_in schema front ≡ Err Short
none-begins schema front b more image e = over-front schema (creates schema) front b more image e
