-- Lists of rects without needless constraints.
use Rattle.std.proofs.Common.{◌≡◌, ℕ, zero, suc, true, false, List, [], ◌∷◌, ◌+◌, ◌*◌, ◌/◌, ◌%◌, ◌^◌, ◌<◌, ◌≤◌, ◌⊎◌, inl, inr, length, slice_index_or, refl, arith, ◌∙◌, sym, ap, subst}
use Rattle.std.specs.Prelude.{Bool, ◌||◌, ◌==◌, slice_set, if◌then◌else◌, ℤ}
use Rattle.std.specs.List.{list_all}
use Rattle.std.proofs.Math.Nat.{pow-succ', div-div-eq-div-mul, add-mul-div_left, add-mul-mod_self_left, div-one}
use Rattle.sr_cell.specs.declared.cell.Cell.{Cell}
use Rattle.sr_cell.specs.declared.table.Kind.{Kind}
use Rattle.sr_cell.specs.declared.table.Column.{Column}
use Rattle.sr_cell.specs.Attrs.{has_column}
use Rattle.sr_cell.specs.Cells.{Row}
use Rattle.sr_cell.specs.Columns.{is_point}
use Rattle.sr_box.specs.declared.span.Span.{Span}
use Rattle.sr_box.specs.declared.span.Span.TheVariants.{Full, Nums, Strs, Null}
use Rattle.sr_box.specs.Spans.{fits_kind}
use Rattle.sr_box.specs.Points.{Rect, in_rect, in_any, rect_fits, constrains, constrained, IsEssential}
use Rattle.sr_union.specs.Grid.{is_among, has_cut, first_cuts, others, CutsAmong, AreCutFrom}
use Rattle.sr_union.specs.Free.{free_all, span_at, is_free, IsSettled, IsNext, kept, essential, freed}
use Rattle.sr_union.proofs.Low.{low_of, low-in}
use Rattle.sr_union.proofs.Cuts.{is_among-append}
use Rattle.sr_union.proofs.Inner.{fits_length}
use Rattle.sr_union.proofs.Once.{are_self}
use Rattle.sr_union.proofs.Parts.{are_fit}
use Rattle.sr_box.specs.Corners.{cuts_of, have_first}
use Rattle.sr_union.specs.Pieces.{HasOutside, IsWithin, ConstrainsEssential, AllConstrainEssential}
use Rattle.std.proofs.lemmas.Bool.{cases_lt}
use Rattle.sr_cell.proofs.Booleans.{same_tests}
use Rattle.sr_cell.proofs.ColumnSets.{has_column-none}
use Rattle.sr_box.proofs.Essential.{essential-same}
use Rattle.sr_union.proofs.SpanCuts.{no_cut-full, null_has_cut, numbers_cut, texts_cut}

-- a point of a freed rect, and a point of the rect that differs in that column alone
record Swapped (cs : List Column) (r : Rect) (c : ℕ) (p : Row) : Type 0 where
  inside : Row
  other : Cell
  in_it : in_rect r inside ≡ true
  point : is_point cs inside ≡ true
  back : slice_set inside c other ≡ p

swapped : (cs : List Column) (r : Rect) (c : ℕ) (p : Row) → have_first cs ≡ true → rect_fits cs r ≡ true → is_point cs p ≡ true → in_rect (slice_set r c Full) p ≡ true → c < length cs → Swapped cs r c p
unfolding low_of
swapped [] r c p d f i h l = absurd (omega (arith, l))
swapped (k ∷ cs) [] c p d f i h l = absurd (grind arith)
swapped (k ∷ cs) (s ∷ r) c [] d f i h l = absurd (grind arith)
swapped (k ∷ cs) (s ∷ r) zero (v ∷ p) d f i h l =
    let low = low-in k.kind k.lo k.hi k.nullable s (grind arith) (grind arith) in let a = low.0 in let b = low.1 in
    record { inside = low_of k.kind k.lo s ∷ p; other = v; in_it = grind (arith, a); point = grind (arith, b); back = refl }
swapped (k ∷ cs) (s ∷ r) (suc c) (v ∷ p) d f i h l =
    let ih = swapped cs r c p (grind arith) (grind arith) (grind arith) (grind arith) (omega (arith, l)) in let a = ih.in_it in let b = ih.point in
    record { inside = v ∷ ih.inside; other = ih.other; in_it = grind (arith, a); point = grind (arith, b); back = ap (λ q. v ∷ q) ih.back }

-- where a point of the freed rects is none of the rects, the column is essential to them
pub essential_from : (cs : List Column) (a : Row → Bool) (rects : List Rect) (c : ℕ) (p : Row) → have_first cs ≡ true → list_all (rect_fits cs) rects ≡ true → c < length cs
    → ((q : Row) → is_point cs q ≡ true → in_any rects q ≡ true → a q ≡ true) → is_point cs p ≡ true → in_any (free_all c rects) p ≡ true → a p ≡ false → IsEssential cs a c
essential_from cs a [] c p d f l same i h o = absurd (grind arith)
essential_from cs a (r ∷ rects) c p d f l same i h o = go (in_rect (slice_set r c Full) p) refl h (λ k. essential_from cs a rects c p d (grind arith) l (λ q j m. same q j (grind (arith, m))) i k o)
  where
    go : (b : Bool) → in_rect (slice_set r c Full) p ≡ b → (b || in_any (free_all c rects) p) ≡ true → (in_any (free_all c rects) p ≡ true → IsEssential cs a c) → IsEssential cs a c
    go true e k ih =
        let s = swapped cs r c p d (grind arith) i e l in let x = s.in_it in
        record {
          inside = s.inside;
          other = s.other;
          is_inside = (s.point, same s.inside s.point (grind (arith, x)));
          is_outside = (sym (ap (is_point cs) (sym s.back)) ∙ i, ap a s.back ∙ o);
        }
    go false e k ih = ih k

-- freed rects have the points of the rects
free-has : (r : Rect) (c : ℕ) (p : Row) → in_rect r p ≡ true → in_rect (slice_set r c Full) p ≡ true
free-has [] c p h = h
free-has (s ∷ r) c [] h = absurd (grind arith)
free-has (s ∷ r) zero (v ∷ p) h = grind arith
free-has (s ∷ r) (suc c) (v ∷ p) h = let ih = free-has r c p (grind arith) in grind (arith, ih)

pub free_all-has : (c : ℕ) (rects : List Rect) (p : Row) → in_any rects p ≡ true → in_any (free_all c rects) p ≡ true
free_all-has c [] p h = absurd (grind arith)
free_all-has c (r ∷ rects) p h = let ih = free_all-has c rects p in let one = free-has r c p in grind (arith, ih, one)

free-at : (r : Rect) (c : ℕ) → constrains (span_at c (slice_set r c Full)) ≡ false
free-at [] c = refl
free-at (s ∷ r) zero = refl
free-at (s ∷ r) (suc c) = free-at r c

free-stays : (r : Rect) (c k : ℕ) → constrains (span_at k r) ≡ false → constrains (span_at k (slice_set r c Full)) ≡ false
free-stays [] c k h = h
free-stays (s ∷ r) zero zero h = refl
free-stays (s ∷ r) zero (suc k) h = h
free-stays (s ∷ r) (suc c) zero h = h
free-stays (s ∷ r) (suc c) (suc k) h = free-stays r c k h

pub free_all-free : (c : ℕ) (rects : List Rect) → is_free c (free_all c rects) ≡ true
free_all-free c [] = refl
free_all-free c (r ∷ rects) = let ih = free_all-free c rects in let one = free-at r c in grind (arith, ih, one)

pub free_all-stays : (c k : ℕ) (rects : List Rect) → is_free k rects ≡ true → is_free k (free_all c rects) ≡ true
free_all-stays c k [] h = refl
free_all-stays c k (r ∷ rects) h = let ih = free_all-stays c k rects (grind arith) in let one = free-stays r c k (grind arith) in grind (arith, ih, one)

-- which columns are constrained
constrained-first : (b : Bool) (n : ℕ) → has_column ((if b then 1 else 0) + 2 * n) 0 ≡ b
constrained-first b n = ap (λ m. m % 2 == 1) (div-one ((if b then 1 else 0) + 2 * n)) ∙ go b
  where
    go : (b : Bool) → (((if b then 1 else 0) + 2 * n) % 2 == 1) ≡ b
    go true = ap (λ m. m == 1) (add-mul-mod_self_left 1 2 n)
    go false = ap (λ m. m == 1) (add-mul-mod_self_left 0 2 n)

constrained-behind : (b : Bool) (n c : ℕ) → has_column ((if b then 1 else 0) + 2 * n) (suc c) ≡ has_column n c
constrained-behind b n c = ap (λ m. m % 2 == 1) (ap (λ d. ((if b then 1 else 0) + 2 * n) / d) (pow-succ' 2 c) ∙ (sym (div-div-eq-div-mul ((if b then 1 else 0) + 2 * n) 2 (2 ^ c)) ∙ ap (λ m. m / 2 ^ c) (half b)))
  where
    half : (b : Bool) → ((if b then 1 else 0) + 2 * n) / 2 ≡ n
    half true = add-mul-div_left 1 n (omega arith) ∙ omega arith
    half false = add-mul-div_left 0 n (omega arith) ∙ omega arith

pub constrained-is : (r : Rect) (c : ℕ) → has_column (constrained r) c ≡ constrains (span_at c r)
constrained-is [] c = has_column-none c
constrained-is (s ∷ r) zero = constrained-first (constrains s) (constrained r)
constrained-is (s ∷ r) (suc c) = constrained-behind (constrains s) (constrained r) c ∙ constrained-is r c

free-fits : (cs : List Column) (r : Rect) (c : ℕ) → rect_fits cs r ≡ true → rect_fits cs (slice_set r c Full) ≡ true
free-fits cs [] c f = f
free-fits [] (s ∷ r) c f = absurd (grind arith)
free-fits (k ∷ cs) (s ∷ r) zero f = grind arith
free-fits (k ∷ cs) (s ∷ r) (suc c) f = let ih = free-fits cs r c (grind arith) in grind (arith, ih)

free-among : (cs : List Column) (r : Rect) (c : ℕ) (given : List Rect) → CutsAmong cs r given → CutsAmong cs (slice_set r c Full) given
free-among [] r c given h = tt
free-among (k ∷ cs) [] c given h = tt
free-among (k ∷ cs) (s ∷ r) zero given h = ((λ v e. let n = no_cut-full k.kind k.lo k.hi k.nullable v in absurd (grind (arith, e, n))), h.1)
free-among (k ∷ cs) (s ∷ r) (suc c) given h = (h.0, free-among cs r c (others given) h.1)

pub free_all-are : (cs : List Column) (given rects : List Rect) (c : ℕ) → AreCutFrom cs given rects → AreCutFrom cs given (free_all c rects)
free_all-are cs given [] c h = tt
free_all-are cs given (r ∷ rects) c h = (free-fits cs r c h.0, free-among cs r c given h.1, free_all-are cs given rects c h.2)

-- a span of some values alone has a cut
cut_constrains : (k : Kind) (low high : ℤ) (n : Bool) (s : Span) → fits_kind k low high n s ≡ true → ((v : Cell) → has_cut k low high n s v ≡ true → ⊥) → constrains s ≡ false
cut_constrains k low high n Full f h = refl
cut_constrains k low high n (Nums lo hi) f h = let cut = numbers_cut k low high n lo hi f in absurd (h cut.0 cut.1)
cut_constrains k low high n (Strs lo hi) f h = let cut = texts_cut k low high n lo hi f in absurd (h cut.0 cut.1)
cut_constrains k low high n Null f h = let cut = null_has_cut k low high n f in absurd (h cut.0 cut.1)

free-cuts : (c : Column) (given : List Rect) (v : Cell) → is_free 0 given ≡ true → is_among (first_cuts c given) v ≡ false
free-cuts c [] v h = refl
free-cuts c ([] ∷ given) v h = free-cuts c given v (grind arith)
free-cuts c ((s ∷ r) ∷ given) v h = is_among-append (cuts_of c.kind c.lo c.hi c.nullable s) (first_cuts c given) v ∙ go s (grind arith) (free-cuts c given v (grind arith))
  where
    go : (s : Span) → constrains s ≡ false → is_among (first_cuts c given) v ≡ false → (is_among (cuts_of c.kind c.lo c.hi c.nullable s) v || is_among (first_cuts c given) v) ≡ false
    go Full e ih = let n = no_cut-full c.kind c.lo c.hi c.nullable v in grind (arith, n, ih)
    go (Nums lo hi) e ih = absurd (grind arith)
    go (Strs lo hi) e ih = absurd (grind arith)
    go Null e ih = absurd (grind arith)

free-behind : (k : ℕ) (given : List Rect) → is_free (suc k) given ≡ true → is_free k (others given) ≡ true
free-behind k [] h = refl
free-behind k ([] ∷ given) h = free-behind k given (grind arith)
free-behind k ((s ∷ r) ∷ given) h = let ih = free-behind k given (grind arith) in grind (arith, ih)

-- a rect with cuts among those of others constrains only columns that they do
pub free-kept : (cs : List Column) (given : List Rect) (r : Rect) (k : ℕ) → rect_fits cs r ≡ true → CutsAmong cs r given → is_free k given ≡ true → constrains (span_at k r) ≡ false
free-kept cs given [] k f h e = refl
free-kept [] given (s ∷ r) k f h e = absurd (grind arith)
free-kept (c ∷ cs) given (s ∷ r) zero f h e = cut_constrains c.kind c.lo c.hi c.nullable s (grind arith) (λ v is. let x = h.0 v is in let y = free-cuts c given v e in absurd (grind (arith, x, y)))
free-kept (c ∷ cs) given (s ∷ r) (suc k) f h e = free-kept cs (others given) r k (grind arith) h.1 (free-behind k given e)

beyond : (r : Rect) (k : ℕ) → length r ≤ k → constrains (span_at k r) ≡ false
beyond [] k h = refl
beyond (s ∷ r) zero h = absurd (omega (arith, h))
beyond (s ∷ r) (suc k) h = beyond r k (omega (arith, h))

-- settled rects, cut further, constrain what is essential alone
settled_one : (cs : List Column) (keep : ℕ) (given rects : List Rect) (r : Rect) → ((k : ℕ) → k < length cs → IsSettled cs keep given rects k) → rect_fits cs r ≡ true → CutsAmong cs r rects
    → ConstrainsEssential cs keep given r
settled_one cs keep given rects r s f h k is = go (cases_lt k (length cs))
  where
    constrained : constrains (span_at k r) ≡ true
    constrained = sym (constrained-is r k) ∙ is

    settled : IsSettled cs keep given rects k → (has_column keep k ≡ true) ⊎ IsEssential cs (in_any given) k
    settled (inl e) = inl e
    settled (inr (inl e)) = inr e
    settled (inr (inr e)) = let x = free-kept cs rects r k f h e in absurd (grind (arith, x, constrained))

    go : (k < length cs) ⊎ (length cs ≤ k) → (has_column keep k ≡ true) ⊎ IsEssential cs (in_any given) k
    go (inl l) = settled (s k l)
    go (inr l) = let x = beyond r k (omega (arith, l, fits_length cs r f)) in absurd (grind (arith, x, constrained))

pub settled_all : (cs : List Column) (keep : ℕ) (given rects tidy : List Rect) → ((k : ℕ) → k < length cs → IsSettled cs keep given rects k) → AreCutFrom cs rects tidy → AllConstrainEssential cs keep given tidy
settled_all cs keep given rects [] s h = tt
settled_all cs keep given rects (r ∷ tidy) s h = (settled_one cs keep given rects r s h.0 h.1, settled_all cs keep given rects tidy s h.2)

-- what stands after the first columns have been looked at
pub record IsTidied (cs : List Column) (keep n : ℕ) (given rects : List Rect) : Type 0 where
  pub same : (p : Row) → is_point cs p ≡ true → in_any rects p ≡ in_any given p
  pub cuts : AreCutFrom cs given rects
  pub settled : (k : ℕ) → k < n → IsSettled cs keep given rects k
  pub as_many : length rects ≡ length given

free_all-length : (c : ℕ) (rects : List Rect) → length (free_all c rects) ≡ length rects
free_all-length c [] = refl
free_all-length c (r ∷ rects) = ap suc (free_all-length c rects)

pub tidied_none : (cs : List Column) (keep : ℕ) (given : List Rect) → list_all (rect_fits cs) given ≡ true → IsTidied cs keep 0 given given
tidied_none cs keep given f = record { same = λ p e. refl; cuts = are_self cs given f; settled = λ k l. absurd (omega (arith, l)); as_many = refl }

settled_stays : (cs : List Column) (keep c k : ℕ) (given rects : List Rect) → IsSettled cs keep given rects k → IsSettled cs keep given (free_all c rects) k
settled_stays cs keep c k given rects (inl e) = inl e
settled_stays cs keep c k given rects (inr (inl e)) = inr (inl e)
settled_stays cs keep c k given rects (inr (inr e)) = inr (inr (free_all-stays c k rects e))

settled_at : (cs : List Column) (keep n : ℕ) (given rects : List Rect) → ((k : ℕ) → k < n → IsSettled cs keep given rects k) → IsSettled cs keep given rects n → (k : ℕ) → k < n + 1 → IsSettled cs keep given rects k
settled_at cs keep n given rects before at k l = go (cases_lt k n)
  where
    go : (k < n) ⊎ (n ≤ k) → IsSettled cs keep given rects k
    go (inl x) = before k x
    go (inr x) = let is : n ≡ k = omega (arith, l, x) in subst (IsSettled cs keep given rects) is at

pub tidied_more : (cs : List Column) (keep n : ℕ) (given rects next : List Rect) → IsTidied cs keep n given rects → IsNext cs keep n rects next → IsTidied cs keep (n + 1) given next
tidied_more cs keep n given rects next t (kept h e) = subst (IsTidied cs keep (n + 1) given) (sym e) (record { same = t.same; cuts = t.cuts; settled = settled_at cs keep n given rects t.settled (inl h); as_many = t.as_many })
tidied_more cs keep n given rects next t (essential h e) =
    subst (IsTidied cs keep (n + 1) given) (sym e) (record { same = t.same; cuts = t.cuts; settled = settled_at cs keep n given rects t.settled (inr (inl (essential-same cs (in_any rects) (in_any given) n t.same h))); as_many = t.as_many })
tidied_more cs keep n given rects next t (freed h e) = subst (IsTidied cs keep (n + 1) given) (sym e) (record {
  same = λ p is. same_tests (in_any (free_all n rects) p) (in_any rects p) (h p is) (free_all-has n rects p) ∙ t.same p is;
  cuts = free_all-are cs given rects n t.cuts;
  settled = settled_at cs keep n given (free_all n rects) (λ k l. settled_stays cs keep n k given rects (t.settled k l)) (inr (inr (free_all-free n rects)));
  as_many = free_all-length n rects ∙ t.as_many;
})

in_any_at : (rects : List Rect) (i : ℕ) (d : Rect) (p : Row) → i < length rects → in_rect (slice_index_or rects i d) p ≡ true → in_any rects p ≡ true
in_any_at [] i d p l h = absurd (omega (arith, l))
in_any_at (r ∷ rects) zero d p l h = grind (arith, h)
in_any_at (r ∷ rects) (suc i) d p l h = let ih = in_any_at rects i d p (omega (arith, l)) h in grind (arith, ih)

pub outside_more : (cs : List Column) (rects others items : List Rect) (i : ℕ) (r : Rect) → items ≡ rects → i < length items → r ≡ slice_index_or items i r → HasOutside cs (r ∷ []) others → HasOutside cs rects others
outside_more cs rects others items i r e l is (p, point, inside, outside) =
    let at : in_rect (slice_index_or items i r) p ≡ true = sym (ap (λ x. in_rect x p) is) ∙ alone (in_rect r p) inside in
    (p, point, subst (λ xs. in_any xs p ≡ true) e (in_any_at items i r p l at), outside)
  where
    alone : (b : Bool) → (b || false) ≡ true → b ≡ true
    alone true h = h
    alone false h = h

-- freed rects beside the rects
pub free_fit : (cs : List Column) (rects next : List Rect) (c : ℕ) → list_all (rect_fits cs) rects ≡ true → next ≡ free_all c rects → list_all (rect_fits cs) next ≡ true
free_fit cs rects next c f e = are_fit cs rects next (subst (AreCutFrom cs rects) (sym e) (free_all-are cs rects rects c (are_self cs rects f)))

-- rects that do not constrain the column stay as they are without it
free-same : (r : Rect) (c : ℕ) → constrains (span_at c r) ≡ false → slice_set r c Full ≡ r
free-same [] c h = refl
free-same (Full ∷ r) zero h = refl
free-same (Nums lo hi ∷ r) zero h = absurd (cc)
free-same (Strs lo hi ∷ r) zero h = absurd (cc)
free-same (Null ∷ r) zero h = absurd (cc)
free-same (s ∷ r) (suc c) h = ap (λ q. s ∷ q) (free-same r c h)

free_all-same : (c : ℕ) (rects : List Rect) → is_free c rects ≡ true → free_all c rects ≡ rects
free_all-same c [] h = refl
free_all-same c (r ∷ rects) h = let one = free-same r c (grind (arith, h)) in let ih = free_all-same c rects (grind (arith, h)) in grind (arith, one, ih)

pub free_next : (cs : List Column) (keep c : ℕ) (rects : List Rect) → is_free c rects ≡ true → IsNext cs keep c rects rects
free_next cs keep c rects h = let same = free_all-same c rects h in
    freed (subst (λ rs. IsWithin cs rs rects) (sym same) (λ p is inside. inside)) (sym same)

pub free_needed : (cs : List Column) (keep c : ℕ) (rects next : List Rect) → have_first cs ≡ true → list_all (rect_fits cs) rects ≡ true → c < length cs → next ≡ free_all c rects → HasOutside cs next rects
    → IsNext cs keep c rects rects
free_needed cs keep c rects next d f l e (p, point, inside, outside) =
    essential (essential_from cs (in_any rects) rects c p d f l (λ q i o. o) point (subst (λ xs. in_any xs p ≡ true) e inside) outside) refl
