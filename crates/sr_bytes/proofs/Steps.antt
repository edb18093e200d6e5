-- Readings, step by step.
use Rattle.std.proofs.Common.{◌≡◌, ℕ, zero, suc, Bool, true, false, cond, List, [], ◌∷◌, ◌++◌, length, refl, sym, ap, subst, ◌∙◌, append_assoc}
use Rattle.std.specs.Prelude.{IsTrue}
use Rattle.std.specs.List.{list_all, flat_map}
use Rattle.std.proofs.lemmas.List.Folds.{list_all-append}
use Rattle.std.proofs.lemmas.List.Concat.{flat_map-cons}
use Rattle.std.proofs.lemmas.Bool.{and_from}
use Rattle.std.specs.Cmp.{first_so, second_so}
use Rattle.sr_cell.specs.Columns.{are_bytes}
use Rattle.sr_bytes.specs.Reading.{Reading, Got, Bad, Reader, read_on, ◌>>=◌, give, tested, many}
use Rattle.sr_bytes.specs.Laws.{IsExact}

-- a step that did not fail
pub record Step {A B : Type 0} (reading : Reading A) (f : A → Reader B) (y : B) (rest : List ℕ) : Type 0 where
  pub value : A
  pub left : List ℕ
  pub first : reading ≡ Got value left
  pub second : f value left ≡ Got y rest

pub step_of : {A B : Type 0} (reading : Reading A) (f : A → Reader B) (y : B) (rest : List ℕ) → read_on reading f ≡ Got y rest → Step reading f y rest
step_of (Got x left) f y rest e = record { value = x; left = left; first = refl; second = e }
step_of (Bad at) f y rest e = absurd cc

pub got_value : {A : Type 0} (x y : A) (r s : List ℕ) → Got x r ≡ Got y s → x ≡ y
got_value x y r s e = cc

pub got_rest : {A : Type 0} (x y : A) (r s : List ℕ) → Got x r ≡ Got y s → r ≡ s
got_rest x y r s e = cc

-- a test that did not fail
pub passed : {A : Type 0} (test : A → Bool) (bytes : List ℕ) (reading : Reading A) (y : A) (rest : List ℕ) → tested test bytes reading ≡ Got y rest → (reading ≡ Got y rest) × IsTrue (test y)
passed test bytes (Got x left) y rest e = chosen (test x) refl e
  where
    chosen : (b : Bool) → test x ≡ b → cond b (Got x left) (Bad bytes) ≡ Got y rest → (Got x left ≡ Got y rest) × IsTrue (test y)
    chosen true is e = (e, subst (λ v. IsTrue (test v)) (got_value x y left rest e) is)
    chosen false is e = absurd cc
passed test bytes (Bad at) y rest e = absurd cc

-- a value behind another
pub behind : (bytes a b left rest : List ℕ) → bytes ≡ a ++ left → left ≡ b ++ rest → bytes ≡ (a ++ b) ++ rest
behind bytes a b left rest e f = e ∙ ap (λ (t : List ℕ). a ++ t) f ∙ sym (append_assoc a b rest)

-- the bytes behind a front, and those of the front
pub rest_bytes : (bytes front rest : List ℕ) → bytes ≡ front ++ rest → IsTrue (are_bytes bytes) → IsTrue (are_bytes rest)
rest_bytes bytes front rest e fits = second_so (are_bytes front) (are_bytes rest) (sym (list_all-append _ front rest) ∙ ap are_bytes (sym e) ∙ fits)

pub front_bytes : (bytes front rest : List ℕ) → bytes ≡ front ++ rest → IsTrue (are_bytes bytes) → IsTrue (are_bytes front)
front_bytes bytes front rest e fits = first_so (are_bytes front) (are_bytes rest) (sym (list_all-append _ front rest) ∙ ap are_bytes (sym e) ∙ fits)

pub many_again : {A : Type 0} (r : Reader A) (bytes_of : A → List ℕ) (has : A → Bool) → IsExact r bytes_of has
    → (xs : List A) (rest : List ℕ) → IsTrue (list_all has xs) → many r (length xs) (flat_map bytes_of xs ++ rest) ≡ Got xs rest
many_again r bytes_of has exact [] rest h = refl
many_again r bytes_of has exact (x ∷ xs) rest h =
    let here = first_so (has x) (list_all has xs) h in
    let others = second_so (has x) (list_all has xs) h in
    let regrouped : flat_map bytes_of (x ∷ xs) ++ rest ≡ bytes_of x ++ (flat_map bytes_of xs ++ rest) = ap (λ (t : List ℕ). t ++ rest) (flat_map-cons bytes_of x xs) ∙ append_assoc (bytes_of x) (flat_map bytes_of xs) rest in
    ap (many r (suc (length xs))) regrouped ∙ rw (exact.again x (flat_map bytes_of xs ++ rest) here, many_again r bytes_of has exact xs rest others) refl

-- so many values, in a row
pub record AreRead {A : Type 0} (bytes_of : A → List ℕ) (has : A → Bool) (n : ℕ) (bytes : List ℕ) (xs : List A) (rest : List ℕ) : Type 0 where
  pub parts : bytes ≡ flat_map bytes_of xs ++ rest
  pub count : length xs ≡ n
  pub all : IsTrue (list_all has xs)

pub many_spelled : {A : Type 0} (r : Reader A) (bytes_of : A → List ℕ) (has : A → Bool) → IsExact r bytes_of has
    → (n : ℕ) (bytes : List ℕ) (xs : List A) (rest : List ℕ) → IsTrue (are_bytes bytes) → many r n bytes ≡ Got xs rest → AreRead bytes_of has n bytes xs rest
many_spelled r bytes_of has exact zero bytes xs rest fits e =
    subst (λ ys. AreRead bytes_of has 0 bytes ys rest) (got_value [] xs bytes rest e) (record { parts = got_rest [] xs bytes rest e; count = refl; all = refl })
many_spelled r bytes_of has exact (suc n) bytes xs rest fits e =
    let one = step_of (r bytes) (λ first. many r n >>= λ others. give (first ∷ others)) xs rest e in
    let two = step_of (many r n one.left) (λ others. give (one.value ∷ others)) xs rest one.second in
    let here = exact.spelled bytes one.value one.left fits one.first in
    let others = many_spelled r bytes_of has exact n one.left two.value two.left (rest_bytes bytes (bytes_of one.value) one.left here.0 fits) two.first in
    let last = got_rest (one.value ∷ two.value) xs two.left rest two.second in
    let parts = behind bytes (bytes_of one.value) (flat_map bytes_of two.value) one.left rest here.0 (others.parts ∙ ap (λ (t : List ℕ). flat_map bytes_of two.value ++ t) last) in
    subst (λ ys. AreRead bytes_of has (suc n) bytes ys rest) (got_value (one.value ∷ two.value) xs two.left rest two.second)
    (record { parts = rw flat_map-cons parts; count = ap suc others.count; all = and_from (has one.value) (list_all has two.value) here.1 others.all })
