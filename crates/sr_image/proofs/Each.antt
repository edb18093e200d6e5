-- Reading items one after another, each by those before it.
use Rattle.std.proofs.Common.{◌≡◌, ℕ, suc, ◌-◌, ◌+◌, ◌<◌, ◌≤◌, List, [], ◌∷◌, ◌++◌, append_assoc, refl, sym, ap, ◌∙◌, arith}
use Rattle.std.specs.Prelude.{Err}
use Rattle.sr_cell.specs.declared.list.No.{No}
use Rattle.sr_cell.specs.declared.list.No.TheVariants.{Refused, NoMemory}
use Rattle.sr_bytes.specs.declared.cursor.BadField.{BadField}
use Rattle.sr_bytes.specs.Reading.{Reading, Got, Bad, Reader, read_on, ◌>>=◌, give}
use Rattle.sr_image.specs.Reading.{each_behind}
use Rattle.sr_image.specs.Found.{ReadsOr}

-- items in front of those that are read
abbrev pub with_front : {A : Type 0} → List A → Reading (List A) → Reading (List A)
with_front front (Got xs rest) = Got (front ++ xs) rest
with_front front (Bad rest) = Bad rest

-- the items that were read, and those that are read now, of n items
abbrev pub all_of : {A : Type 0} → (List A → Reader A) → ℕ → ℕ → List A → List ℕ → Reading (List A)
all_of r n i before bytes = with_front before (each_behind r (n - i) before bytes)

in-front : {A : Type 0} (before : List A) (x : A) (reading : Reading (List A)) → with_front before (read_on reading (λ more. give (x ∷ more))) ≡ with_front (before ++ x ∷ []) reading
in-front before x (Got xs rest) = ap (λ ys. Got ys rest) (sym (append_assoc before (x ∷ []) xs))
in-front before x (Bad rest) = refl

-- the next item decides
next-is : {A : Type 0} (r : List A → Reader A) (n i : ℕ) (before : List A) (bytes : List ℕ) (reading : Reading A) → i < n → r before bytes ≡ reading
    → all_of r n i before bytes ≡ with_front before (read_on reading (λ y. each_behind r (n - (i + 1)) (before ++ y ∷ []) >>= λ others. give (y ∷ others)))
next-is {A} r n i before bytes reading lt e =
    let more : n - i ≡ suc (n - (i + 1)) = omega arith in
    ap (λ k. with_front before (each_behind r k before bytes)) more
    ∙ ap (λ (reading : Reading A). with_front before (read_on reading (λ y. each_behind r (n - (i + 1)) (before ++ y ∷ []) >>= λ others. give (y ∷ others)))) e

-- one item more, where the call saw the items and a push put it behind them
pub one-more : {A : Type 0} (r : List A → Reader A) (n i : ℕ) (before : List A) (bytes : List ℕ) (x : A) (rest : List ℕ) (whole : Reading (List A)) → i < n → r before bytes ≡ Got x rest
    → all_of r n i before bytes ≡ whole → (next : List A) → next ≡ before ++ x ∷ [] → all_of r n (i + 1) next rest ≡ whole
one-more {A} r n i before bytes x rest whole lt e so_far next pushed =
    ap (λ (ys : List A). all_of r n (i + 1) ys rest) pushed
    ∙ (sym (in-front before x (each_behind r (n - (i + 1)) (before ++ x ∷ []) rest)) ∙ (sym (next-is r n i before bytes (Got x rest) lt e) ∙ so_far))

-- what stops an item stops all
pub stops : {A : Type 0} (no : No BadField) (r : List A → Reader A) (n i : ℕ) (before : List A) (bytes rest : List ℕ) (whole : Reading (List A)) → i < n
    → ReadsOr {X = A} (Err no) rest (r before bytes) → all_of r n i before bytes ≡ whole → ReadsOr {X = List A} (Err no) rest whole
stops (Refused bad) r n i before bytes rest whole lt e so_far = sym so_far ∙ next-is r n i before bytes (Bad rest) lt e
stops NoMemory r n i before bytes rest whole lt e so_far = tt
