-- Reading and spelling of items, lists and parts are each other's inverse.
use Rattle.std.proofs.Common.{◌≡◌, ℕ, zero, suc, ◌+◌, ◌^◌, ◌<◌, ◌≤◌, Bool, true, false, cond, ltb, List, [], ◌∷◌, ◌++◌, length, take, drop, refl, sym, ap, subst, ◌∙◌, append_assoc, append-nil, length-append, arith}
use Rattle.std.specs.Prelude.{IsTrue, ◌&&◌, nat_lt, nat_le}
use Rattle.std.specs.Int.{w16, w32, w64}
use Rattle.std.specs.List.{list_all, flat_map}
use Rattle.std.proofs.lemmas.Bool.{le-ltb, lt-ltb, ltb-true, leb-true, and_from}
use Rattle.std.proofs.lemmas.List.{take_at, drop_at}
use Rattle.std.proofs.lemmas.List.Concat.{flat_map-cons}
use Rattle.std.specs.Cmp.{first_so, second_so}
use Rattle.sr_cell.specs.declared.table.Table.{Table}
use Rattle.sr_cell.specs.Cells.{Row}
use Rattle.sr_cell.specs.Columns.{are_bytes, table_at}
use Rattle.sr_box.specs.Points.{Rect}
use Rattle.sr_bytes.specs.Laws.{IsExact}
use Rattle.sr_bytes.specs.Reading.{Got, Bad, Reader, ◌>>=◌, give, passing, many, a_byte, a_number, bytes_that, any_bytes, a_rect, a_row}
use Rattle.sr_bytes.specs.Reading as plain
use Rattle.sr_bytes.specs.Spelling.{long_bytes, count_bytes, short_count_bytes, row_bytes, rect_bytes, rects_bytes, is_from_to, has_rect_bytes, has_row_bytes, have_rects_bytes}
use Rattle.sr_bytes.proofs.Numbers.{byte_spelled, byte_in_spelled, short_count_again, short_count_spelled, count_again, count_spelled, long_again, long_spelled, from_zero, to_zero, front_spelled}
use Rattle.sr_bytes.proofs.Steps.{step_of, got_value, got_rest, passed, rest_bytes, behind}
use Rattle.sr_bytes.proofs.Values.{row_exact, rects_exact}
use Rattle.sr_image.specs.declared.image.Head.{Head}
use Rattle.sr_image.specs.declared.image.Image.{Image}
use Rattle.sr_store.specs.declared.start.Kept.{Kept}
use Rattle.sr_image.specs.Laws.{each_may, are_counted, is_rect, is_row, is_head, is_kept, is_image}
use Rattle.sr_image.specs.Reading.{each_behind, counted, head_of, may_head, may_rect, may_row, count_rects, a_head, some_rects, some_rows, kept_behind, a_kept, an_image, a_long_text, some_texts}
use Rattle.sr_image.specs.Spelling.{long_text_bytes, texts_bytes, all_rows_bytes, kept_bytes, kepts_bytes}
use Rattle.sr_image.specs.Writing.{are_short}

-- ---- items that are read by those before them

-- what may stand behind those before it is read from its spelling, and what is read was spelled so
pub record IsExactBehind {A : Type 0} (r : List A → Reader A) (bytes_of : A → List ℕ) (is : List A → A → Bool) : Type 0 where
  pub again : (before : List A) (x : A) (rest : List ℕ) → IsTrue (is before x) → r before (bytes_of x ++ rest) ≡ Got x rest
  pub spelled : (before : List A) (bytes : List ℕ) (x : A) (rest : List ℕ) → IsTrue (are_bytes bytes) → r before bytes ≡ Got x rest → (bytes ≡ bytes_of x ++ rest) × IsTrue (is before x)

each-again : {A : Type 0} (r : List A → Reader A) (bytes_of : A → List ℕ) (is : List A → A → Bool) → IsExactBehind r bytes_of is
    → (before xs : List A) (rest : List ℕ) → IsTrue (each_may is before xs) → each_behind r (length xs) before (flat_map bytes_of xs ++ rest) ≡ Got xs rest
each-again r bytes_of is exact before [] rest h = refl
each-again r bytes_of is exact before (x ∷ xs) rest h =
    let here = first_so (is before x) (each_may is (before ++ x ∷ []) xs) h in
    let others = second_so (is before x) (each_may is (before ++ x ∷ []) xs) h in
    let regrouped : flat_map bytes_of (x ∷ xs) ++ rest ≡ bytes_of x ++ (flat_map bytes_of xs ++ rest) = ap (λ (t : List ℕ). t ++ rest) (flat_map-cons bytes_of x xs) ∙ append_assoc (bytes_of x) (flat_map bytes_of xs) rest in
    ap (each_behind r (suc (length xs)) before) regrouped ∙ rw (exact.again before x (flat_map bytes_of xs ++ rest) here, each-again r bytes_of is exact (before ++ x ∷ []) xs rest others) refl

-- so many items, in a row
record AreRead {A : Type 0} (bytes_of : A → List ℕ) (is : List A → A → Bool) (n : ℕ) (before : List A) (bytes : List ℕ) (xs : List A) (rest : List ℕ) : Type 0 where
  pub parts : bytes ≡ flat_map bytes_of xs ++ rest
  pub count : length xs ≡ n
  pub all : IsTrue (each_may is before xs)

each-spelled : {A : Type 0} (r : List A → Reader A) (bytes_of : A → List ℕ) (is : List A → A → Bool) → IsExactBehind r bytes_of is
    → (n : ℕ) (before : List A) (bytes : List ℕ) (xs : List A) (rest : List ℕ) → IsTrue (are_bytes bytes) → each_behind r n before bytes ≡ Got xs rest → AreRead bytes_of is n before bytes xs rest
each-spelled r bytes_of is exact zero before bytes xs rest fits e =
    subst (λ ys. AreRead bytes_of is 0 before bytes ys rest) (got_value [] xs bytes rest e) (record { parts = got_rest [] xs bytes rest e; count = refl; all = refl })
each-spelled r bytes_of is exact (suc n) before bytes xs rest fits e =
    let one = step_of (r before bytes) (λ x. each_behind r n (before ++ x ∷ []) >>= λ others. give (x ∷ others)) xs rest e in
    let two = step_of (each_behind r n (before ++ one.value ∷ []) one.left) (λ others. give (one.value ∷ others)) xs rest one.second in
    let here = exact.spelled before bytes one.value one.left fits one.first in
    let others = each-spelled r bytes_of is exact n (before ++ one.value ∷ []) one.left two.value two.left (rest_bytes bytes (bytes_of one.value) one.left here.0 fits) two.first in
    let last = got_rest (one.value ∷ two.value) xs two.left rest two.second in
    let parts = behind bytes (bytes_of one.value) (flat_map bytes_of two.value) one.left rest here.0 (others.parts ∙ ap (λ (t : List ℕ). flat_map bytes_of two.value ++ t) last) in
    subst (λ ys. AreRead bytes_of is (suc n) before bytes ys rest) (got_value (one.value ∷ two.value) xs two.left rest two.second)
    (record { parts = rw flat_map-cons parts; count = ap suc others.count; all = and_from (is before one.value) (each_may is (before ++ one.value ∷ []) two.value) here.1 others.all })

-- what passes a test too
pub tested-exact : {A : Type 0} (r : Reader A) (bytes_of : A → List ℕ) (has : A → Bool) → IsExact r bytes_of has
    → (may : List A → A → Bool) → IsExactBehind (λ before. passing (may before) r) bytes_of (λ before x. may before x && has x)
tested-exact {A} r bytes_of has exact may = record { again = again; spelled = spelled }
  where
    again : (before : List A) (x : A) (rest : List ℕ) → IsTrue (may before x && has x) → passing (may before) r (bytes_of x ++ rest) ≡ Got x rest
    again before x rest h =
        let allowed = first_so (may before x) (has x) h in
        rw (exact.again x rest (second_so (may before x) (has x) h), allowed) refl

    spelled : (before : List A) (bytes : List ℕ) (x : A) (rest : List ℕ) → IsTrue (are_bytes bytes) → passing (may before) r bytes ≡ Got x rest → (bytes ≡ bytes_of x ++ rest) × IsTrue (may before x && has x)
    spelled before bytes x rest fits e =
        let p = passed (may before) bytes (r bytes) x rest e in
        let s = exact.spelled bytes x rest fits p.0 in
        (s.0, and_from (may before x) (has x) p.1 s.1)

abbrev pub counted_bytes : {A : Type 0} → (A → List ℕ) → List A → List ℕ
counted_bytes bytes_of xs = count_bytes (length xs) ++ flat_map bytes_of xs

pub counted-exact : {A : Type 0} (low high : ℕ) → high < 2 ^ 32 → (r : List A → Reader A) (bytes_of : A → List ℕ) (is : List A → A → Bool) → IsExactBehind r bytes_of is
    → IsExact (counted low high r) (counted_bytes bytes_of) (are_counted low high is)
counted-exact {A} low high below r bytes_of is exact = record { again = again; spelled = spelled }
  where
    again : (xs : List A) (rest : List ℕ) → IsTrue (are_counted low high is xs) → counted low high r (counted_bytes bytes_of xs ++ rest) ≡ Got xs rest
    again xs rest h =
        let number = first_so (is_from_to low high (length xs)) (each_may is [] xs) h in
        let all = second_so (is_from_to low high (length xs)) (each_may is [] xs) h in
        let few : length xs ≤ high = leb-true _ _ (second_so (nat_le low (length xs)) (nat_le (length xs) high) number) in
        ap (counted low high r) (append_assoc (count_bytes (length xs)) (flat_map bytes_of xs) rest)
        ∙ rw (count_again (length xs) (flat_map bytes_of xs ++ rest) (omega (arith, few, below)), number) (each-again r bytes_of is exact [] xs rest all)

    spelled : (bytes : List ℕ) (xs : List A) (rest : List ℕ) → IsTrue (are_bytes bytes) → counted low high r bytes ≡ Got xs rest → (bytes ≡ counted_bytes bytes_of xs ++ rest) × IsTrue (are_counted low high is xs)
    spelled bytes xs rest fits e =
        let s = step_of (passing (is_from_to low high) (a_number w32) bytes) (λ n. each_behind r n []) xs rest e in
        let p = passed (is_from_to low high) bytes (a_number w32 bytes) s.value s.left s.first in
        let n = count_spelled bytes s.value s.left fits p.0 in
        let m = each-spelled r bytes_of is exact s.value [] s.left xs rest (rest_bytes bytes (count_bytes s.value) s.left n.0 fits) s.second in (
          behind bytes (count_bytes (length xs)) (flat_map bytes_of xs) s.left rest (n.0 ∙ ap (λ (k : ℕ). count_bytes k ++ s.left) (sym m.count)) m.parts,
          and_from (is_from_to low high (length xs)) (each_may is [] xs) (rw m.count p.1) m.all,
        )

-- ---- rects and rows

one-rect : (r : Rect) → flat_map rect_bytes (r ∷ []) ≡ rect_bytes r
one-rect r = flat_map-cons rect_bytes r [] ∙ append-nil (rect_bytes r)

one-has : (r : Rect) → have_rects_bytes (r ∷ []) ≡ has_rect_bytes r
one-has r = grind arith

number-fits : (bytes : List ℕ) → IsTrue (are_bytes bytes) → IsTrue (are_bytes (count_bytes 1 ++ bytes))
unfolding count_bytes
number-fits bytes fits = fits

number-gone : (a b : List ℕ) → count_bytes 1 ++ a ≡ count_bytes 1 ++ b → a ≡ b
unfolding count_bytes
number-gone a b e = cc

-- a list of one rect, behind its number
listed-one : (bytes rest : List ℕ) (r : Rect) → a_rect bytes ≡ Got r rest → plain.some_rects (count_bytes 1 ++ bytes) ≡ Got (r ∷ []) rest
listed-one bytes rest r e = rw (count_again 1 bytes (omega arith), e) refl

pub rect-exact : IsExact a_rect rect_bytes has_rect_bytes
rect-exact = record { again = again; spelled = spelled }
  where
    again : (r : Rect) (rest : List ℕ) → IsTrue (has_rect_bytes r) → a_rect (rect_bytes r ++ rest) ≡ Got r rest
    again r rest h =
        let bytes : List ℕ = flat_map rect_bytes (r ∷ []) ++ rest in
        let e = rects_exact.again (r ∷ []) rest (rw h refl) in
        let n : a_number w32 (rects_bytes (r ∷ []) ++ rest) ≡ Got 1 bytes = ap (a_number w32) (append_assoc (count_bytes 1) (flat_map rect_bytes (r ∷ [])) rest) ∙ count_again 1 bytes (omega arith) in
        let all : many a_rect 1 bytes ≡ Got (r ∷ []) rest = rw n at e in
        let s = step_of (a_rect bytes) (λ first. many a_rect 0 >>= λ others. give (first ∷ others)) (r ∷ []) rest all in
        let value : s.value ∷ [] ≡ r ∷ [] = got_value (s.value ∷ []) (r ∷ []) s.left rest s.second in
        let behind : s.left ≡ rest = got_rest (s.value ∷ []) (r ∷ []) s.left rest s.second in
        let same : s.value ≡ r = cc in
        ap (λ (t : List ℕ). a_rect (t ++ rest)) (sym (one-rect r)) ∙ s.first ∙ (ap (λ v. Got v s.left) same ∙ ap (Got r) behind)

    spelled : (bytes : List ℕ) (r : Rect) (rest : List ℕ) → IsTrue (are_bytes bytes) → a_rect bytes ≡ Got r rest → (bytes ≡ rect_bytes r ++ rest) × IsTrue (has_rect_bytes r)
    spelled bytes r rest fits e =
        let s = rects_exact.spelled (count_bytes 1 ++ bytes) (r ∷ []) rest (number-fits bytes fits) (listed-one bytes rest r e) in
        let parts : count_bytes 1 ++ bytes ≡ count_bytes 1 ++ (flat_map rect_bytes (r ∷ []) ++ rest) = s.0 ∙ append_assoc (count_bytes 1) (flat_map rect_bytes (r ∷ [])) rest in
        (number-gone bytes (flat_map rect_bytes (r ∷ []) ++ rest) parts ∙ ap (λ (t : List ℕ). t ++ rest) (one-rect r), sym (one-has r) ∙ s.1)

rects-exact : (t : Table) (attrs many : ℕ) → IsExact (some_rects t attrs many) rects_bytes (are_counted 1 16384 (is_rect t attrs many))
rects-exact t attrs many = counted-exact 1 16384 (omega arith) _ rect_bytes (is_rect t attrs many) (tested-exact a_rect rect_bytes has_rect_bytes rect-exact (may_rect t attrs many))

rows-exact : (t : Table) (attrs : ℕ) (rects : List Rect) → IsExact (some_rows t attrs rects) all_rows_bytes (are_counted 0 200000 (is_row t attrs rects))
rows-exact t attrs rects = counted-exact 0 200000 (omega arith) _ row_bytes (is_row t attrs rects) (tested-exact a_row row_bytes has_row_bytes row_exact (may_row t attrs rects))

-- ---- parts

abbrev head_bytes : Head → List ℕ
head_bytes h = h.table ∷ short_count_bytes h.attrs

head-exact : IsExact a_head head_bytes (λ h. is_from_to 0 4095 h.attrs)
head-exact = record { again = again; spelled = spelled }
  where
    again : (h : Head) (rest : List ℕ) → IsTrue (is_from_to 0 4095 h.attrs) → a_head (head_bytes h ++ rest) ≡ Got h rest
    again h rest few =
        let small : h.attrs ≤ 4095 = leb-true _ _ (to_zero 4095 h.attrs few) in
        rw (short_count_again h.attrs rest (omega (arith, small)), few) refl

    spelled : (bytes : List ℕ) (h : Head) (rest : List ℕ) → IsTrue (are_bytes bytes) → a_head bytes ≡ Got h rest → (bytes ≡ head_bytes h ++ rest) × IsTrue (is_from_to 0 4095 h.attrs)
    spelled bytes h rest fits e =
        let one = step_of (a_byte bytes) (λ table. passing (is_from_to 0 4095) (a_number w16) >>= λ attrs. give (record { table = table; attrs = attrs })) h rest e in
        let two = step_of (passing (is_from_to 0 4095) (a_number w16) one.left) (λ attrs. give (record { table = one.value; attrs = attrs })) h rest one.second in
        let first = byte_spelled bytes one.value one.left one.first in
        let p = passed (is_from_to 0 4095) one.left (a_number w16 one.left) two.value two.left two.first in
        let n = short_count_spelled one.left two.value two.left (rest_bytes bytes (one.value ∷ []) one.left first fits) p.0 in
        let value = got_value (record { table = one.value; attrs = two.value }) h two.left rest two.second in
        let last = got_rest (record { table = one.value; attrs = two.value }) h two.left rest two.second in
        subst (λ (v : Head). (bytes ≡ head_bytes v ++ rest) × IsTrue (is_from_to 0 4095 v.attrs)) value
        (first ∙ ap (λ (t : List ℕ). one.value ∷ t) (n.0 ∙ ap (λ (t : List ℕ). short_count_bytes two.value ++ t) last), p.1)

kept-again : (schema : List Table) (before : List Kept) (k : Kept) (rest : List ℕ) → IsTrue (is_kept schema before k) → a_kept schema before (kept_bytes k ++ rest) ≡ Got k rest
kept-again schema before k rest h =
    let t : Table = table_at schema k.table in
    let many : ℕ = count_rects before in
    let are_rects : Bool = are_counted 1 16384 (is_rect t k.attrs many) k.rects in
    let are_rows : Bool = are_counted 0 200000 (is_row t k.attrs k.rects) k.rows in
    let head = first_so (is_head schema before k) (are_rects && are_rows) h in
    let others = second_so (is_head schema before k) (are_rects && are_rows) h in
    let may = first_so (may_head schema before (head_of k)) (is_from_to 0 4095 k.attrs) head in
    let few = second_so (may_head schema before (head_of k)) (is_from_to 0 4095 k.attrs) head in
    let rows : List ℕ = all_rows_bytes k.rows in
    let regrouped : kept_bytes k ++ rest ≡ head_bytes (head_of k) ++ (rects_bytes k.rects ++ (rows ++ rest)) =
    ap (λ (x : List ℕ). k.table ∷ x) (append_assoc (short_count_bytes k.attrs) (rects_bytes k.rects ++ rows) rest ∙ ap (λ (x : List ℕ). short_count_bytes k.attrs ++ x) (append_assoc (rects_bytes k.rects) rows rest)) in
    let one = head-exact.again (head_of k) (rects_bytes k.rects ++ (rows ++ rest)) few in
    let two = (rects-exact t k.attrs many).again k.rects (rows ++ rest) (first_so are_rects are_rows others) in
    let three = (rows-exact t k.attrs k.rects).again k.rows rest (second_so are_rects are_rows others) in
    ap (a_kept schema before) regrouped ∙ rw (one, may, two, three) refl

kept-spelled : (schema : List Table) (before : List Kept) (bytes : List ℕ) (k : Kept) (rest : List ℕ) → IsTrue (are_bytes bytes) → a_kept schema before bytes ≡ Got k rest
    → (bytes ≡ kept_bytes k ++ rest) × IsTrue (is_kept schema before k)
kept-spelled schema before bytes k rest fits e =
    let many : ℕ = count_rects before in
    let one = step_of (passing (may_head schema before) a_head bytes) (kept_behind schema many) k rest e in
    let h : Head = one.value in
    let t : Table = table_at schema h.table in
    let two = step_of (some_rects t h.attrs many one.left) (λ rects. some_rows t h.attrs rects >>= λ rows. give (record { table = h.table; attrs = h.attrs; rects = rects; rows = rows })) k rest one.second in
    let three = step_of (some_rows t h.attrs two.value two.left) (λ rows. give (record { table = h.table; attrs = h.attrs; rects = two.value; rows = rows })) k rest two.second in
    let is : Kept = record { table = h.table; attrs = h.attrs; rects = two.value; rows = three.value } in
    let p = passed (may_head schema before) bytes (a_head bytes) h one.left one.first in
    let head = head-exact.spelled bytes h one.left fits p.0 in
    let fits_one = rest_bytes bytes (head_bytes h) one.left head.0 fits in
    let rects = (rects-exact t h.attrs many).spelled one.left two.value two.left fits_one two.first in
    let rows = (rows-exact t h.attrs two.value).spelled two.left three.value three.left (rest_bytes one.left (rects_bytes two.value) two.left rects.0 fits_one) three.first in
    let last = got_rest is k three.left rest three.second in
    let all : bytes ≡ head_bytes h ++ (rects_bytes two.value ++ (all_rows_bytes three.value ++ rest)) =
    head.0 ∙ ap (λ (x : List ℕ). head_bytes h ++ x) (rects.0 ∙ ap (λ (x : List ℕ). rects_bytes two.value ++ x) (rows.0 ∙ ap (λ (x : List ℕ). all_rows_bytes three.value ++ x) last)) in
    let regrouped : kept_bytes is ++ rest ≡ head_bytes h ++ (rects_bytes two.value ++ (all_rows_bytes three.value ++ rest)) =
    ap (λ (x : List ℕ). h.table ∷ x) (append_assoc (short_count_bytes h.attrs) (rects_bytes two.value ++ all_rows_bytes three.value) rest ∙ ap (λ (x : List ℕ). short_count_bytes h.attrs ++ x) (append_assoc (rects_bytes two.value) (all_rows_bytes three.value) rest)) in
    subst (λ (v : Kept). (bytes ≡ kept_bytes v ++ rest) × IsTrue (is_kept schema before v)) (got_value is k three.left rest three.second) (
      all ∙ sym regrouped,
      and_from (is_head schema before is) (are_counted 1 16384 (is_rect t h.attrs many) two.value && are_counted 0 200000 (is_row t h.attrs two.value) three.value)
          (and_from (may_head schema before h) (is_from_to 0 4095 h.attrs) p.1 head.1)
          (and_from (are_counted 1 16384 (is_rect t h.attrs many) two.value) (are_counted 0 200000 (is_row t h.attrs two.value) three.value) rects.1 rows.1),
    )

pub kepts-exact : (schema : List Table) → IsExact (counted 0 1024 (a_kept schema)) kepts_bytes (are_counted 0 1024 (is_kept schema))
kepts-exact schema = counted-exact 0 1024 (omega arith) (a_kept schema) kept_bytes (is_kept schema) (record { again = kept-again schema; spelled = kept-spelled schema })

-- ---- the version and the parts

abbrev pub parts_bytes : Image → List ℕ
parts_bytes image = long_bytes image.version ++ kepts_bytes image.kept

pub image-exact : (schema : List Table) → IsExact (an_image schema) parts_bytes (is_image schema)
image-exact schema = record { again = again; spelled = spelled }
  where
    again : (image : Image) (rest : List ℕ) → IsTrue (is_image schema image) → an_image schema (parts_bytes image ++ rest) ≡ Got image rest
    again image rest h =
        let low : image.version < 2 ^ 64 = ltb-true _ _ (first_so (nat_lt image.version (2 ^ 64)) (are_counted 0 1024 (is_kept schema) image.kept) h) in
        let parts = second_so (nat_lt image.version (2 ^ 64)) (are_counted 0 1024 (is_kept schema) image.kept) h in
        ap (an_image schema) (append_assoc (long_bytes image.version) (kepts_bytes image.kept) rest)
        ∙ rw (long_again image.version (kepts_bytes image.kept ++ rest) low, (kepts-exact schema).again image.kept rest parts) refl

    spelled : (bytes : List ℕ) (image : Image) (rest : List ℕ) → IsTrue (are_bytes bytes) → an_image schema bytes ≡ Got image rest → (bytes ≡ parts_bytes image ++ rest) × IsTrue (is_image schema image)
    spelled bytes image rest fits e =
        let one = step_of (a_number w64 bytes) (λ version. counted 0 1024 (a_kept schema) >>= λ kept. give (record { version = version; kept = kept })) image rest e in
        let two = step_of (counted 0 1024 (a_kept schema) one.left) (λ kept. give (record { version = one.value; kept = kept })) image rest one.second in
        let is : Image = record { version = one.value; kept = two.value } in
        let n = long_spelled bytes one.value one.left fits one.first in
        let k = (kepts-exact schema).spelled one.left two.value two.left (rest_bytes bytes (long_bytes one.value) one.left n.0 fits) two.first in
        let last = got_rest is image two.left rest two.second in
        subst (λ (v : Image). (bytes ≡ parts_bytes v ++ rest) × IsTrue (is_image schema v)) (got_value is image two.left rest two.second) (
          behind bytes (long_bytes one.value) (kepts_bytes two.value) one.left rest n.0 (k.0 ∙ ap (λ (x : List ℕ). kepts_bytes two.value ++ x) last),
          and_from (nat_lt one.value (2 ^ 64)) (are_counted 0 1024 (is_kept schema) two.value) (lt-ltb _ _ n.1) k.1,
        )

-- ---- texts

abbrev is_short : List ℕ → Bool
is_short text = nat_lt (length text) (2 ^ 32)

text-again : (before : List (List ℕ)) (text rest : List ℕ) → IsTrue (is_short text) → a_long_text (long_text_bytes text ++ rest) ≡ Got text rest
text-again before text rest h =
    let long : ltb (length (text ++ rest)) (length text) ≡ false = le-ltb _ _ (omega (arith, length-append text rest)) in
    ap a_long_text (append_assoc (count_bytes (length text)) text rest)
    ∙ rw (count_again (length text) (text ++ rest) (ltb-true _ _ h), long, take_at text rest (length text) refl, drop_at text rest (length text) refl) refl

text-spelled : (before : List (List ℕ)) (bytes text rest : List ℕ) → IsTrue (are_bytes bytes) → a_long_text bytes ≡ Got text rest → (bytes ≡ long_text_bytes text ++ rest) × IsTrue (is_short text)
text-spelled before bytes text rest fits e =
    let s = step_of (a_number w32 bytes) (bytes_that any_bytes) text rest e in
    let n = count_spelled bytes s.value s.left fits s.first in
    let f = front_spelled any_bytes s.value s.left text rest s.second in (
      behind bytes (count_bytes (length text)) text s.left rest (n.0 ∙ ap (λ (k : ℕ). count_bytes k ++ s.left) (sym f.count)) f.parts,
      lt-ltb _ _ (subst (λ (k : ℕ). k < 2 ^ 32) (sym f.count) n.1),
    )

text-exact : IsExactBehind (λ before. a_long_text) long_text_bytes (λ before text. is_short text)
text-exact = record { again = text-again; spelled = text-spelled }

-- where those before an item are nothing to it
alone : {A : Type 0} (test : A → Bool) (before xs : List A) → each_may (λ b x. test x) before xs ≡ list_all test xs
alone test before [] = refl
alone test before (x ∷ xs) = ap (λ b. test x && b) (alone test (before ++ x ∷ []) xs)

pub texts-again : (texts : List (List ℕ)) (rest : List ℕ) → IsTrue (are_short texts) → some_texts (texts_bytes texts ++ rest) ≡ Got texts rest
texts-again texts rest h =
    let few = first_so (nat_le (length texts) 16) (list_all is_short texts) h in
    let short = second_so (nat_le (length texts) 16) (list_all is_short texts) h in
    let number : is_from_to 0 16 (length texts) ≡ true = from_zero 16 (length texts) few in
    rw number (each-again (λ (before : List (List ℕ)). a_long_text) long_text_bytes (λ before text. is_short text) text-exact [] texts rest (alone is_short [] texts ∙ short))

pub texts-spelled : (bytes : List ℕ) (texts : List (List ℕ)) (rest : List ℕ) → IsTrue (are_bytes bytes) → some_texts bytes ≡ Got texts rest → bytes ≡ texts_bytes texts ++ rest
texts-spelled bytes texts rest fits e =
    let s = step_of (passing (is_from_to 0 16) a_byte bytes) (λ n. each_behind (λ before. a_long_text) n []) texts rest e in
    let b = byte_in_spelled (is_from_to 0 16) bytes s.value s.left s.first in
    let m = each-spelled (λ (before : List (List ℕ)). a_long_text) long_text_bytes (λ before text. is_short text) text-exact s.value [] s.left texts rest (rest_bytes bytes (s.value ∷ []) s.left b.0 fits) s.second in
    b.0 ∙ ap (λ (t : List ℕ). s.value ∷ t) m.parts ∙ ap (λ (n : ℕ). n ∷ (flat_map long_text_bytes texts ++ rest)) (sym m.count)
