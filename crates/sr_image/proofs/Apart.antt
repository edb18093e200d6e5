-- Rects that were read whether they meet or not, and do not meet.
use Rattle.std.proofs.Common.{◌≡◌, ℕ, zero, suc, Bool, true, false, cond, List, [], ◌∷◌, ◌++◌, Some, None, length, take, drop, get_or, refl, sym, ap, ◌∙◌, ◌<◌, ◌≤◌, ◌+◌, arith}
use Rattle.std.specs.Prelude.{Option}
use Rattle.std.proofs.lemmas.List.{take_more}
use Rattle.sr_cell.specs.declared.table.Table.{Table}
use Rattle.sr_box.specs.Points.{Rect}
use Rattle.sr_bytes.specs.Reading.{Reading, Reader, Got, ◌>>=◌, give, read_on, tested, passing, a_rect}
use Rattle.sr_bytes.proofs.Steps.{step_of, got_value, passed}
use Rattle.sr_image.specs.Index.{first_met}
use Rattle.sr_image.specs.Reading.{each_behind, is_lone, may_rect, meets_some}

not-met : (b : Bool) (k : ℕ) (o : Option ℕ) → cond b (Some k) o ≡ None → (b ≡ false) × (o ≡ None)
not-met true k o e = absurd cc
not-met false k o e = (refl, e)

may-pass : (t : Table) (attrs many : ℕ) (before : List Rect) (bytes : List ℕ) (reading : Reading Rect) (x : Rect) (left : List ℕ) → reading ≡ Got x left → is_lone t attrs many (length before) x ≡ true
    → meets_some before x ≡ false → tested (may_rect t attrs many before) bytes reading ≡ Got x left
may-pass t attrs many before bytes reading x left e lone apart = ap (tested (may_rect t attrs many before) bytes) e ∙ rw (lone, apart) refl

go-on : {A : Type 0} (first : Reading A) (x : A) (left : List ℕ) (r : A → Reader (List A)) (ys : List A) (rest : List ℕ) → first ≡ Got x left → r x left ≡ Got ys rest → read_on first (λ y. r y >>= λ others. give (y ∷ others)) ≡ Got (x ∷ ys) rest
go-on first x left r ys rest e f = ap (λ (reading : Reading _). read_on reading (λ y. r y >>= λ others. give (y ∷ others))) e ∙ ap (λ (reading : Reading _). read_on reading (λ others. give (x ∷ others))) f

pub lone-is : (t : Table) (attrs many n : ℕ) (before : List Rect) (bytes : List ℕ) (xs : List Rect) (rest : List ℕ)
    → each_behind (λ before. passing (is_lone t attrs many (length before)) a_rect) n before bytes ≡ Got xs rest → first_met before xs ≡ None
    → each_behind (λ before. passing (may_rect t attrs many before) a_rect) n before bytes ≡ Got xs rest
lone-is t attrs many zero before bytes xs rest e f = e
lone-is t attrs many (suc n) before bytes xs rest e f =
    let one = step_of (passing (is_lone t attrs many (length before)) a_rect bytes)
    (λ x. each_behind (λ (b : List Rect). passing (is_lone t attrs many (length b)) a_rect) n (before ++ x ∷ []) >>= λ others. give (x ∷ others)) xs rest e in
    let two = step_of (each_behind (λ (b : List Rect). passing (is_lone t attrs many (length b)) a_rect) n (before ++ one.value ∷ []) one.left) (λ others. give (one.value ∷ others)) xs rest one.second in
    let p = passed (is_lone t attrs many (length before)) bytes (a_rect bytes) one.value one.left one.first in
    let value : one.value ∷ two.value ≡ xs = got_value (one.value ∷ two.value) xs two.left rest two.second in
    let none : first_met before (one.value ∷ two.value) ≡ None = ap (first_met before) value ∙ f in
    let (apart, others) = not-met (meets_some before one.value) (length before) (first_met (before ++ one.value ∷ []) two.value) none in
    let ih = lone-is t attrs many n (before ++ one.value ∷ []) one.left two.value two.left two.first others in
    let here : passing (may_rect t attrs many before) a_rect bytes ≡ Got one.value one.left = may-pass t attrs many before bytes (a_rect bytes) one.value one.left p.0 p.1 apart in
    go-on (passing (may_rect t attrs many before) a_rect bytes) one.value one.left (λ (x : Rect). each_behind (λ (b : List Rect). passing (may_rect t attrs many b) a_rect) n (before ++ x ∷ [])) two.value two.left here ih ∙ two.second

-- ---- the loop that looks for the first rect that meets one before it

split : (rects : List Rect) (i : ℕ) (d : Rect) → i < length rects → drop i rects ≡ get_or rects i d ∷ drop (i + 1) rects
split [] i d lt = absurd (omega (arith, lt))
split (r ∷ rects) zero d lt = let e : 0 + 1 ≡ suc 0 = omega arith in ap (λ n. r ∷ drop n (r ∷ rects)) (sym e)
split (r ∷ rects) (suc i) d lt = let e : suc i + 1 ≡ suc (i + 1) = omega arith in split rects i d (omega (arith, lt)) ∙ ap (λ n. get_or rects i d ∷ drop n (r ∷ rects)) (sym e)

pub met-more : (rects : List Rect) (i : ℕ) (d : Rect) → i < length rects → meets_some (take i rects) (get_or rects i d) ≡ false
    → first_met (take i rects) (drop i rects) ≡ first_met (take (i + 1) rects) (drop (i + 1) rects)
met-more rects i d lt met =
    ap (first_met (take i rects)) (split rects i d lt) ∙ rw met (ap (λ (b : List Rect). first_met b (drop (i + 1) rects)) (sym (take_more rects i d lt)))
