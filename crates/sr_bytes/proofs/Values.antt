-- Cells, rows, spans and rects: what is spelled is read again, and what is read is spelled.
use Rattle.std.proofs.Common.{◌≡◌, ℕ, zero, suc, ◌^◌, ◌<◌, ◌≤◌, Bool, List, [], ◌∷◌, ◌++◌, length, Some, None, refl, sym, ap, subst, ◌∙◌, append_assoc, arith}
use Rattle.std.specs.Prelude.{IsTrue, ◌&&◌, int_le, not, nat_le, nat_lt}
use Rattle.std.specs.Int.{w16, w32}
use Rattle.std.specs.List.{list_all, flat_map}
use Rattle.std.specs.Str.{is_utf8}
use Rattle.std.proofs.lemmas.Bool.{leb-true, and_from}
use Rattle.std.specs.Cmp.{first_so, second_so}
use Rattle.sr_cell.specs.declared.cell.Cell.{Cell}
use Rattle.sr_cell.specs.declared.cell.Cell.TheVariants.{Num, Str, Null as NullCell}
use Rattle.sr_cell.specs.Cells.{text_le, is_null}
use Rattle.sr_cell.specs.Columns.{are_bytes}
use Rattle.sr_box.specs.declared.span.Span.{Span}
use Rattle.sr_box.specs.declared.span.Span.TheVariants.{Full, Nums, Strs, Null}
use Rattle.sr_bytes.specs.Reading.{Got, Reader, ◌>>=◌, give, passing, many, a_byte, a_number, a_signed, a_text, any_bytes, a_key_of, a_key, a_cell_of, a_cell, a_row, some_rows, a_span_of, a_span, a_rect, some_rects}
use Rattle.sr_bytes.specs.Spelling.{number_bytes, count_bytes, short_count_bytes, text_bytes, cell_bytes, row_bytes, rows_bytes, span_bytes, rect_bytes, rects_bytes, is_from_to, is_number, is_bound, has_cell_bytes, has_key_bytes, has_row_bytes, have_rows_bytes, has_span_bytes, has_rect_bytes, have_rects_bytes}
use Rattle.sr_bytes.specs.Laws.{IsExact}
use Rattle.sr_bytes.proofs.Steps.{step_of, got_value, got_rest, passed, rest_bytes, front_bytes, behind, many_again, many_spelled}
use Rattle.sr_bytes.proofs.Numbers.{byte_in_spelled, short_count_again, short_count_spelled, count_again, count_spelled, signed_again, signed_spelled, from_zero, to_zero, text_again, text_spelled}

-- ---- lists behind a byte of their length

abbrev pub counted : {A : Type 0} → ℕ → ℕ → Reader A → Reader (List A)
counted low high r = passing (is_from_to low high) a_byte >>= λ n. many r n

abbrev pub counted_bytes : {A : Type 0} → (A → List ℕ) → List A → List ℕ
counted_bytes bytes_of xs = length xs ∷ flat_map bytes_of xs

abbrev pub have_counted : {A : Type 0} → ℕ → ℕ → (A → Bool) → List A → Bool
have_counted low high has xs = is_from_to low high (length xs) && list_all has xs

counted_again : {A : Type 0} (low high : ℕ) (r : Reader A) (bytes_of : A → List ℕ) (has : A → Bool) → IsExact r bytes_of has
    → (xs : List A) (rest : List ℕ) → IsTrue (have_counted low high has xs) → counted low high r (counted_bytes bytes_of xs ++ rest) ≡ Got xs rest
counted_again low high r bytes_of has exact xs rest h =
    let count = first_so (is_from_to low high (length xs)) (list_all has xs) h in
    let all = second_so (is_from_to low high (length xs)) (list_all has xs) h in
    rw count (many_again r bytes_of has exact xs rest all)

counted_spelled : {A : Type 0} (low high : ℕ) (r : Reader A) (bytes_of : A → List ℕ) (has : A → Bool) → IsExact r bytes_of has
    → (bytes : List ℕ) (xs : List A) (rest : List ℕ) → IsTrue (are_bytes bytes) → counted low high r bytes ≡ Got xs rest
    → (bytes ≡ counted_bytes bytes_of xs ++ rest) × IsTrue (have_counted low high has xs)
counted_spelled low high r bytes_of has exact bytes xs rest fits e =
    let s = step_of (passing (is_from_to low high) a_byte bytes) (λ n. many r n) xs rest e in
    let b = byte_in_spelled (is_from_to low high) bytes s.value s.left s.first in
    let m = many_spelled r bytes_of has exact s.value s.left xs rest (rest_bytes bytes (s.value ∷ []) s.left b.0 fits) s.second in (
      b.0 ∙ ap (λ (t : List ℕ). s.value ∷ t) m.parts ∙ ap (λ (n : ℕ). n ∷ (flat_map bytes_of xs ++ rest)) (sym m.count),
      and_from (is_from_to low high (length xs)) (list_all has xs) (rw m.count b.1) m.all,
    )

pub counted_exact : {A : Type 0} (low high : ℕ) (r : Reader A) (bytes_of : A → List ℕ) (has : A → Bool) → IsExact r bytes_of has
    → IsExact (counted low high r) (counted_bytes bytes_of) (have_counted low high has)
counted_exact low high r bytes_of has exact =
    record { again = counted_again low high r bytes_of has exact; spelled = counted_spelled low high r bytes_of has exact }

-- ---- cells and rows

key_again : (c : Cell) (rest : List ℕ) → IsTrue (has_key_bytes c) → a_key (cell_bytes c ++ rest) ≡ Got c rest
key_again (Num n) rest h = rw (signed_again n rest h) refl
key_again (Str text) rest h =
    rw (text_again 0 120 is_utf8 text rest (from_zero 120 (length text) (first_so (nat_le (length text) 120) (is_utf8 text) h)) (second_so (nat_le (length text) 120) (is_utf8 text) h)) refl
key_again NullCell rest h = absurd cc

key_behind : (kind : ℕ) (bytes : List ℕ) (c : Cell) (rest : List ℕ) → IsTrue (is_from_to 0 1 kind) → IsTrue (are_bytes bytes) → a_key_of kind bytes ≡ Got c rest
    → (kind ∷ bytes ≡ cell_bytes c ++ rest) × IsTrue (has_key_bytes c)
key_behind zero bytes c rest k fits e =
    let s = step_of (a_signed bytes) (λ n. give (Num n)) c rest e in
    let t = signed_spelled bytes s.value s.left fits s.first in
    let is_rest = got_rest (Num s.value) c s.left rest s.second in
    subst (λ v. (0 ∷ bytes ≡ cell_bytes v ++ rest) × IsTrue (has_key_bytes v)) (got_value (Num s.value) c s.left rest s.second)
    (ap (λ (u : List ℕ). 0 ∷ u) (t.0 ∙ ap (λ (r : List ℕ). number_bytes s.value ++ r) is_rest), t.1)
key_behind (suc zero) bytes c rest k fits e =
    let s = step_of (a_text 0 120 is_utf8 bytes) (λ text. give (Str text)) c rest e in
    let t = text_spelled 0 120 is_utf8 bytes s.value s.left s.first in
    let is_rest = got_rest (Str s.value) c s.left rest s.second in
    subst (λ v. (1 ∷ bytes ≡ cell_bytes v ++ rest) × IsTrue (has_key_bytes v)) (got_value (Str s.value) c s.left rest s.second)
    (ap (λ (u : List ℕ). 1 ∷ u) (t.parts ∙ ap (λ (r : List ℕ). text_bytes s.value ++ r) is_rest), and_from (nat_le (length s.value) 120) (is_utf8 s.value) (to_zero 120 (length s.value) t.count) t.passes)
key_behind (suc (suc kind)) bytes c rest k fits e = absurd (omega (arith, leb-true _ _ (to_zero 1 (suc (suc kind)) k)))

key_spelled : (bytes : List ℕ) (c : Cell) (rest : List ℕ) → IsTrue (are_bytes bytes) → a_key bytes ≡ Got c rest → (bytes ≡ cell_bytes c ++ rest) × IsTrue (has_key_bytes c)
key_spelled bytes c rest fits e =
    let s = step_of (passing (is_from_to 0 1) a_byte bytes) a_key_of c rest e in
    let b = byte_in_spelled (is_from_to 0 1) bytes s.value s.left s.first in
    let t = key_behind s.value s.left c rest b.1 (rest_bytes bytes (s.value ∷ []) s.left b.0 fits) s.second in
    (b.0 ∙ t.0, t.1)

pub key_exact : IsExact a_key cell_bytes has_key_bytes
key_exact = record { again = key_again; spelled = key_spelled }

cell_again : (c : Cell) (rest : List ℕ) → IsTrue (has_cell_bytes c) → a_cell (cell_bytes c ++ rest) ≡ Got c rest
cell_again (Num n) rest h = rw (signed_again n rest h) refl
cell_again (Str text) rest h =
    rw (text_again 0 120 is_utf8 text rest (from_zero 120 (length text) (first_so (nat_le (length text) 120) (is_utf8 text) h)) (second_so (nat_le (length text) 120) (is_utf8 text) h)) refl
cell_again NullCell rest h = refl

-- a key is a cell
key_is_cell : (kind : ℕ) (bytes : List ℕ) (c : Cell) (rest : List ℕ) → IsTrue (is_from_to 0 1 kind) → IsTrue (are_bytes bytes) → a_key_of kind bytes ≡ Got c rest
    → (kind ∷ bytes ≡ cell_bytes c ++ rest) × IsTrue (has_cell_bytes c)
key_is_cell kind bytes c rest k fits e =
    let t = key_behind kind bytes c rest k fits e in
    (t.0, second_so (not (is_null c)) (has_cell_bytes c) t.1)

cell_behind : (kind : ℕ) (bytes : List ℕ) (c : Cell) (rest : List ℕ) → IsTrue (is_from_to 0 2 kind) → IsTrue (are_bytes bytes) → a_cell_of kind bytes ≡ Got c rest
    → (kind ∷ bytes ≡ cell_bytes c ++ rest) × IsTrue (has_cell_bytes c)
cell_behind zero bytes c rest k fits e = key_is_cell 0 bytes c rest refl fits e
cell_behind (suc zero) bytes c rest k fits e = key_is_cell 1 bytes c rest refl fits e
cell_behind (suc (suc zero)) bytes c rest k fits e =
    subst (λ v. (2 ∷ bytes ≡ cell_bytes v ++ rest) × IsTrue (has_cell_bytes v)) (got_value NullCell c bytes rest e)
    (ap (λ (t : List ℕ). 2 ∷ t) (got_rest NullCell c bytes rest e), refl)
cell_behind (suc (suc (suc kind))) bytes c rest k fits e = absurd (omega (arith, leb-true _ _ (to_zero 2 (suc (suc (suc kind))) k)))

cell_spelled : (bytes : List ℕ) (c : Cell) (rest : List ℕ) → IsTrue (are_bytes bytes) → a_cell bytes ≡ Got c rest → (bytes ≡ cell_bytes c ++ rest) × IsTrue (has_cell_bytes c)
cell_spelled bytes c rest fits e =
    let s = step_of (passing (is_from_to 0 2) a_byte bytes) a_cell_of c rest e in
    let b = byte_in_spelled (is_from_to 0 2) bytes s.value s.left s.first in
    let t = cell_behind s.value s.left c rest b.1 (rest_bytes bytes (s.value ∷ []) s.left b.0 fits) s.second in
    (b.0 ∙ t.0, t.1)

pub cell_exact : IsExact a_cell cell_bytes has_cell_bytes
cell_exact = record { again = cell_again; spelled = cell_spelled }

pub row_exact : IsExact a_row row_bytes has_row_bytes
row_exact = counted_exact 1 12 a_cell cell_bytes has_cell_bytes cell_exact

-- ---- spans and rects

span_again : (s : Span) (rest : List ℕ) → IsTrue (has_span_bytes s) → a_span (span_bytes s ++ rest) ≡ Got s rest
span_again Full rest h = refl
span_again (Nums lo hi) rest h =
    let ends = first_so (is_number lo && is_number hi) (int_le lo hi) h in
    let above = second_so (is_number lo && is_number hi) (int_le lo hi) h in
    ap (λ (t : List ℕ). a_span (1 ∷ t)) (append_assoc (number_bytes lo) (number_bytes hi) rest)
    ∙ rw (signed_again lo (number_bytes hi ++ rest) (first_so (is_number lo) (is_number hi) ends), signed_again hi rest (second_so (is_number lo) (is_number hi) ends), above) refl
span_again (Strs lo (Some hi)) rest h =
    let ends = first_so (is_bound lo && is_bound hi) (not (text_le hi lo)) h in
    let above = second_so (is_bound lo && is_bound hi) (not (text_le hi lo)) h in
    ap (λ (t : List ℕ). a_span (2 ∷ t)) (append_assoc (text_bytes lo) (text_bytes hi) rest)
    ∙ rw (
      text_again 0 121 any_bytes lo (text_bytes hi ++ rest) (from_zero 121 (length lo) (first_so (nat_le (length lo) 121) (are_bytes lo) (first_so (is_bound lo) (is_bound hi) ends))) refl,
      text_again 0 121 any_bytes hi rest (from_zero 121 (length hi) (first_so (nat_le (length hi) 121) (are_bytes hi) (second_so (is_bound lo) (is_bound hi) ends))) refl,
      above,
    ) refl
span_again (Strs lo None) rest h = rw (text_again 0 121 any_bytes lo rest (from_zero 121 (length lo) (first_so (nat_le (length lo) 121) (are_bytes lo) h)) refl) refl
span_again Null rest h = refl

bound_is : (text : List ℕ) → IsTrue (is_from_to 0 121 (length text)) → IsTrue (are_bytes text) → IsTrue (is_bound text)
bound_is text few fits = and_from (nat_le (length text) 121) (are_bytes text) (to_zero 121 (length text) few) fits

-- the bytes of a text that stood in front
bytes_of_text : (bytes text rest : List ℕ) → bytes ≡ text_bytes text ++ rest → IsTrue (are_bytes bytes) → IsTrue (are_bytes text)
bytes_of_text bytes text rest e fits = second_so (nat_lt (length text) 256) (are_bytes text) (front_bytes bytes (text_bytes text) rest e fits)

span_behind : (kind : ℕ) (bytes : List ℕ) (s : Span) (rest : List ℕ) → IsTrue (is_from_to 0 4 kind) → IsTrue (are_bytes bytes) → a_span_of kind bytes ≡ Got s rest
    → (kind ∷ bytes ≡ span_bytes s ++ rest) × IsTrue (has_span_bytes s)
span_behind zero bytes s rest k fits e =
    subst (λ v. (0 ∷ bytes ≡ span_bytes v ++ rest) × IsTrue (has_span_bytes v)) (got_value Full s bytes rest e)
    (ap (λ (t : List ℕ). 0 ∷ t) (got_rest Full s bytes rest e), refl)
span_behind (suc zero) bytes s rest k fits e =
    let one = step_of (a_signed bytes) (λ lo. passing (int_le lo) a_signed >>= λ hi. give (Nums lo hi)) s rest e in
    let lo = one.value in
    let first = signed_spelled bytes lo one.left fits one.first in
    let two = step_of (passing (int_le lo) a_signed one.left) (λ hi. give (Nums lo hi)) s rest one.second in
    let p = passed (int_le lo) one.left (a_signed one.left) two.value two.left two.first in
    let hi = two.value in
    let second = signed_spelled one.left hi two.left (rest_bytes bytes (number_bytes lo) one.left first.0 fits) p.0 in
    let is_rest = got_rest (Nums lo hi) s two.left rest two.second in
    subst (λ v. (1 ∷ bytes ≡ span_bytes v ++ rest) × IsTrue (has_span_bytes v)) (got_value (Nums lo hi) s two.left rest two.second) (
      ap (λ (t : List ℕ). 1 ∷ t) (behind bytes (number_bytes lo) (number_bytes hi) one.left rest first.0 (second.0 ∙ ap (λ (r : List ℕ). number_bytes hi ++ r) is_rest)),
      and_from (is_number lo && is_number hi) (int_le lo hi) (and_from (is_number lo) (is_number hi) first.1 second.1) p.1,
    )
span_behind (suc (suc zero)) bytes s rest k fits e =
    let one = step_of (a_text 0 121 any_bytes bytes) (λ lo. passing (λ hi. not (text_le hi lo)) (a_text 0 121 any_bytes) >>= λ hi. give (Strs lo (Some hi))) s rest e in
    let lo = one.value in
    let first = text_spelled 0 121 any_bytes bytes lo one.left one.first in
    let two = step_of (passing (λ hi. not (text_le hi lo)) (a_text 0 121 any_bytes) one.left) (λ hi. give (Strs lo (Some hi))) s rest one.second in
    let p = passed (λ hi. not (text_le hi lo)) one.left (a_text 0 121 any_bytes one.left) two.value two.left two.first in
    let hi = two.value in
    let second = text_spelled 0 121 any_bytes one.left hi two.left p.0 in
    let more = rest_bytes bytes (text_bytes lo) one.left first.parts fits in
    let is_rest = got_rest (Strs lo (Some hi)) s two.left rest two.second in
    let lo_bytes = bytes_of_text bytes lo one.left first.parts fits in
    let hi_bytes = bytes_of_text one.left hi two.left second.parts more in
    subst (λ v. (2 ∷ bytes ≡ span_bytes v ++ rest) × IsTrue (has_span_bytes v)) (got_value (Strs lo (Some hi)) s two.left rest two.second) (
      ap (λ (t : List ℕ). 2 ∷ t) (behind bytes (text_bytes lo) (text_bytes hi) one.left rest first.parts (second.parts ∙ ap (λ (r : List ℕ). text_bytes hi ++ r) is_rest)),
      and_from (is_bound lo && is_bound hi) (not (text_le hi lo))
          (and_from (is_bound lo) (is_bound hi) (bound_is lo first.count lo_bytes) (bound_is hi second.count hi_bytes)) p.1,
    )
span_behind (suc (suc (suc zero))) bytes s rest k fits e =
    let one = step_of (a_text 0 121 any_bytes bytes) (λ lo. give (Strs lo None)) s rest e in
    let first = text_spelled 0 121 any_bytes bytes one.value one.left one.first in
    let is_rest = got_rest (Strs one.value None) s one.left rest one.second in
    subst (λ v. (3 ∷ bytes ≡ span_bytes v ++ rest) × IsTrue (has_span_bytes v)) (got_value (Strs one.value None) s one.left rest one.second)
    (ap (λ (t : List ℕ). 3 ∷ t) (first.parts ∙ ap (λ (r : List ℕ). text_bytes one.value ++ r) is_rest), bound_is one.value first.count (bytes_of_text bytes one.value one.left first.parts fits))
span_behind (suc (suc (suc (suc zero)))) bytes s rest k fits e =
    subst (λ v. (4 ∷ bytes ≡ span_bytes v ++ rest) × IsTrue (has_span_bytes v)) (got_value Null s bytes rest e)
    (ap (λ (t : List ℕ). 4 ∷ t) (got_rest Null s bytes rest e), refl)
span_behind (suc (suc (suc (suc (suc kind))))) bytes s rest k fits e = absurd (omega (arith, leb-true _ _ (to_zero 4 (suc (suc (suc (suc (suc kind))))) k)))

span_spelled : (bytes : List ℕ) (s : Span) (rest : List ℕ) → IsTrue (are_bytes bytes) → a_span bytes ≡ Got s rest → (bytes ≡ span_bytes s ++ rest) × IsTrue (has_span_bytes s)
span_spelled bytes v rest fits e =
    let s = step_of (passing (is_from_to 0 4) a_byte bytes) a_span_of v rest e in
    let b = byte_in_spelled (is_from_to 0 4) bytes s.value s.left s.first in
    let t = span_behind s.value s.left v rest b.1 (rest_bytes bytes (s.value ∷ []) s.left b.0 fits) s.second in
    (b.0 ∙ t.0, t.1)

span_exact : IsExact a_span span_bytes has_span_bytes
span_exact = record { again = span_again; spelled = span_spelled }

rect_exact : IsExact a_rect rect_bytes has_rect_bytes
rect_exact = counted_exact 1 12 a_span span_bytes has_span_bytes span_exact

-- ---- lists behind a number of their length

-- a count of two or four bytes
pub record IsCount (limit : ℕ) (r : Reader ℕ) (bytes_of : ℕ → List ℕ) : Type 0 where
  pub again : (n : ℕ) (rest : List ℕ) → n < limit → r (bytes_of n ++ rest) ≡ Got n rest
  pub spelled : (bytes : List ℕ) (n : ℕ) (rest : List ℕ) → IsTrue (are_bytes bytes) → r bytes ≡ Got n rest → (bytes ≡ bytes_of n ++ rest) × (n < limit)

pub short_counts : IsCount (2 ^ 16) (a_number w16) short_count_bytes
short_counts = record { again = short_count_again; spelled = short_count_spelled }

pub counts : IsCount (2 ^ 32) (a_number w32) count_bytes
counts = record { again = count_again; spelled = count_spelled }

abbrev pub listed : {A : Type 0} → ℕ → ℕ → Reader ℕ → Reader A → Reader (List A)
listed low high count r = passing (is_from_to low high) count >>= λ n. many r n

abbrev pub listed_bytes : {A : Type 0} → (ℕ → List ℕ) → (A → List ℕ) → List A → List ℕ
listed_bytes count_of bytes_of xs = count_of (length xs) ++ flat_map bytes_of xs

listed_again : {A : Type 0} (limit low high : ℕ) (count : Reader ℕ) (count_of : ℕ → List ℕ) → IsCount limit count count_of → high < limit
    → (r : Reader A) (bytes_of : A → List ℕ) (has : A → Bool) → IsExact r bytes_of has
    → (xs : List A) (rest : List ℕ) → IsTrue (have_counted low high has xs) → listed low high count r (listed_bytes count_of bytes_of xs ++ rest) ≡ Got xs rest
listed_again limit low high count count_of counts below r bytes_of has exact xs rest h =
    let number = first_so (is_from_to low high (length xs)) (list_all has xs) h in
    let all = second_so (is_from_to low high (length xs)) (list_all has xs) h in
    let few : length xs ≤ high = leb-true _ _ (second_so (nat_le low (length xs)) (nat_le (length xs) high) number) in
    ap (listed low high count r) (append_assoc (count_of (length xs)) (flat_map bytes_of xs) rest)
    ∙ rw (counts.again (length xs) (flat_map bytes_of xs ++ rest) (omega (arith, few, below)), number) (many_again r bytes_of has exact xs rest all)

listed_spelled : {A : Type 0} (limit low high : ℕ) (count : Reader ℕ) (count_of : ℕ → List ℕ) → IsCount limit count count_of
    → (r : Reader A) (bytes_of : A → List ℕ) (has : A → Bool) → IsExact r bytes_of has
    → (bytes : List ℕ) (xs : List A) (rest : List ℕ) → IsTrue (are_bytes bytes) → listed low high count r bytes ≡ Got xs rest
    → (bytes ≡ listed_bytes count_of bytes_of xs ++ rest) × IsTrue (have_counted low high has xs)
listed_spelled limit low high count count_of counts r bytes_of has exact bytes xs rest fits e =
    let s = step_of (passing (is_from_to low high) count bytes) (λ n. many r n) xs rest e in
    let p = passed (is_from_to low high) bytes (count bytes) s.value s.left s.first in
    let n = counts.spelled bytes s.value s.left fits p.0 in
    let m = many_spelled r bytes_of has exact s.value s.left xs rest (rest_bytes bytes (count_of s.value) s.left n.0 fits) s.second in (
      behind bytes (count_of (length xs)) (flat_map bytes_of xs) s.left rest (n.0 ∙ ap (λ (k : ℕ). count_of k ++ s.left) (sym m.count)) m.parts,
      and_from (is_from_to low high (length xs)) (list_all has xs) (rw m.count p.1) m.all,
    )

pub listed_exact : {A : Type 0} (limit low high : ℕ) (count : Reader ℕ) (count_of : ℕ → List ℕ) → IsCount limit count count_of → high < limit
    → (r : Reader A) (bytes_of : A → List ℕ) (has : A → Bool) → IsExact r bytes_of has
    → IsExact (listed low high count r) (listed_bytes count_of bytes_of) (have_counted low high has)
listed_exact limit low high count count_of counts below r bytes_of has exact = record {
  again = listed_again limit low high count count_of counts below r bytes_of has exact;
  spelled = listed_spelled limit low high count count_of counts r bytes_of has exact;
}

pub rows_exact : IsExact some_rows rows_bytes have_rows_bytes
rows_exact = listed_exact (2 ^ 16) 1 256 (a_number w16) short_count_bytes short_counts (omega arith) a_row row_bytes has_row_bytes row_exact

pub rects_exact : IsExact some_rects rects_bytes have_rects_bytes
rects_exact = listed_exact (2 ^ 32) 1 16384 (a_number w32) count_bytes counts (omega arith) a_rect rect_bytes has_rect_bytes rect_exact
