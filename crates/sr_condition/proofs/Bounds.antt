-- The bounds of the values of a test.
use Rattle.std.proofs.Common.{◌≡◌, ℕ, true, false, List, [], ◌∷◌, ◌++◌, refl, sym, subst, arith, ◌∙◌}
use Rattle.std.specs.Prelude.{ℤ, pos, ◌+ℤ◌, ◌-ℤ◌, int_le, int_lt, Bool, not, ◌&&◌, ◌||◌, Option, Some, None}
use Rattle.std.proofs.lemmas.Int.{ints}
use Rattle.std.proofs.lemmas.Bool.Decides.{nat_tests}
use Rattle.sr_cell.specs.declared.cell.Cell.{Cell}
use Rattle.sr_cell.specs.declared.cell.Cell.TheVariants.{Num, Str, Null as NullCell}
use Rattle.sr_cell.specs.declared.table.Kind.{Kind}
use Rattle.sr_cell.specs.declared.table.Kind.TheVariants.{Num as Numbers, Str as Texts}
use Rattle.sr_cell.specs.declared.table.Column.{Column}
use Rattle.sr_cell.specs.Cells.{text_le, cell_le, cell_eq}
use Rattle.sr_cell.specs.Columns.{in_kind, are_bytes}
use Rattle.sr_cell.proofs.Order.{cell_eq-sound}
use Rattle.sr_box.specs.declared.span.Span.{Span}
use Rattle.sr_box.specs.declared.span.Span.TheVariants.{Nums, Strs}
use Rattle.sr_box.specs.Spans.{in_span, is_below, end_bytes}
use Rattle.sr_box.specs.Corners.{text_cut, end_cut, num_cut, null_cut}
use Rattle.sr_box.specs.Prefixes as box
use Rattle.sr_box.proofs.Prefixes.{prefixes_are_spans, prefixes_fit}
use Rattle.sr_union.specs.Grid.{is_among, has_cut}
use Rattle.sr_union.proofs.Cuts.{is_among-append, cut-is}
use Rattle.sr_model.specs.Conditions.{Test, passes, begins, Eq, Lt, Le, Gt, Ge, Between, Prefix}
use Rattle.sr_model.specs.Ends.{test_ends, places_of, next_text}
use Rattle.sr_condition.specs.Ranges.{is_range, IsRange}

-- ---- the place before Null

null-place : (n : Bool) (ends : List Cell) (v : Cell) → is_among (null_cut n) v ≡ true → is_among (NullCell ∷ ends) v ≡ true
null-place true ends v h = grind (arith, h)
null-place false ends v h = absurd (cc)

-- where the cuts among the values are ends, all cuts are, the place before Null with them
or-null : (k : Kind) (low high : ℤ) (n : Bool) (s : Span) (ends : List Cell) → ((v : Cell) → has_cut k low high false s v ≡ true → is_among ends v ≡ true)
    → (v : Cell) → has_cut k low high n s v ≡ true → is_among (NullCell ∷ ends) v ≡ true
or-null k low high n s ends values v h = let c = cut-is k low high n s v in let a = null-place n ends v in let x = values v in grind (arith, c, a, x, h)

-- ---- numbers

among-same : (places : List Cell) (u v : Cell) → is_among places u ≡ true → cell_eq u v ≡ true → is_among places v ≡ true
among-same places u v h e = subst (λ w. is_among places w ≡ true) (cell_eq-sound u v e) h

number-point : (k : Kind) (low high : ℤ) (nullable : Bool) (lo hi : ℤ) (t : Test) → k ≡ Numbers → passes t NullCell ≡ false
    → ((n : ℤ) → int_le low n ≡ true → int_le n high ≡ true → (int_le lo n && int_le n hi) ≡ passes t (Num n))
    → (v : Cell) → in_kind k low high nullable v ≡ true → in_span (Nums lo hi) v ≡ passes t v
number-point Numbers low high nullable lo hi t k null h (Num n) p = h n (grind arith) (grind arith)
number-point Numbers low high nullable lo hi t k null h (Str s) p = absurd (grind arith)
number-point Numbers low high nullable lo hi t k null h NullCell p = sym null
number-point Texts low high nullable lo hi t k null h v p = absurd (cc)

number-end : (k : Kind) (low high lo hi : ℤ) (places : List Cell) → k ≡ Numbers → (int_lt low lo ≡ true → is_among places (Num lo) ≡ true) → (int_lt hi high ≡ true → is_among places (Num (hi +ℤ pos 1)) ≡ true)
    → (v : Cell) → has_cut k low high false (Nums lo hi) v ≡ true → is_among places v ≡ true
number-end Numbers low high lo hi places k a b v h =
    go (int_lt low lo) (int_lt hi high) a b (sym (is_among-append (num_cut (int_lt low lo) lo) (num_cut (int_lt hi high) (hi +ℤ pos 1)) v) ∙ h)
  where
    go : (x y : Bool) → (x ≡ true → is_among places (Num lo) ≡ true) → (y ≡ true → is_among places (Num (hi +ℤ pos 1)) ≡ true)
        → (is_among (num_cut x lo) v || is_among (num_cut y (hi +ℤ pos 1)) v) ≡ true → is_among places v ≡ true
    go true true a b h = let m = among-same places (Num lo) v (a refl) in let n = among-same places (Num (hi +ℤ pos 1)) v (b refl) in grind (arith, m, n)
    go true false a b h = let m = among-same places (Num lo) v (a refl) in grind (arith, m)
    go false true a b h = let n = among-same places (Num (hi +ℤ pos 1)) v (b refl) in grind (arith, n)
    go false false a b h = absurd (grind arith)
number-end Texts low high lo hi places k a b v h = absurd (cc)

number-kind : (k : Kind) (lo hi : ℤ) → k ≡ Numbers → is_range k (Nums lo hi) ≡ true
number-kind k lo hi e = rw e refl

pub number-range : (column : Column) (t : Test) (lo hi : ℤ) → column.kind ≡ Numbers → passes t NullCell ≡ false
    → ((n : ℤ) → int_le column.lo n ≡ true → int_le n column.hi ≡ true → (int_le lo n && int_le n hi) ≡ passes t (Num n))
    → (int_lt column.lo lo ≡ true → is_among (test_ends t) (Num lo) ≡ true) → (int_lt hi column.hi ≡ true → is_among (test_ends t) (Num (hi +ℤ pos 1)) ≡ true)
    → IsRange column (passes t) (places_of t) (Nums lo hi)
number-range column t lo hi k null h a b = record {
  kind = number-kind column.kind lo hi k;
  points = number-point column.kind column.lo column.hi column.nullable lo hi t k null h;
  ends = or-null column.kind column.lo column.hi column.nullable (Nums lo hi) (test_ends t) (number-end column.kind column.lo column.hi lo hi (test_ends t) k a b);
}

pub equal-number : (column : Column) (w : ℤ) → column.kind ≡ Numbers → IsRange column (passes (Eq (Num w))) (places_of (Eq (Num w))) (Nums w w)
equal-number column w k = number-range column (Eq (Num w)) w w k refl (λ n a b. grind arith) (λ a. grind (arith, ints)) (λ b. grind (arith, ints))

pub below-number : (column : Column) (w : ℤ) → column.kind ≡ Numbers → IsRange column (passes (Lt (Num w))) (places_of (Lt (Num w))) (Nums column.lo (w -ℤ pos 1))
below-number column w k = number-range column (Lt (Num w)) column.lo (w -ℤ pos 1) k refl (λ n a b. grind (arith, ints)) (λ a. absurd (grind (arith, ints))) (λ b. grind (arith, ints))

pub at_most-number : (column : Column) (w : ℤ) → column.kind ≡ Numbers → IsRange column (passes (Le (Num w))) (places_of (Le (Num w))) (Nums column.lo w)
at_most-number column w k = number-range column (Le (Num w)) column.lo w k refl (λ n a b. grind (arith, ints)) (λ a. absurd (grind (arith, ints))) (λ b. grind (arith, ints))

pub above-number : (column : Column) (w : ℤ) → column.kind ≡ Numbers → IsRange column (passes (Gt (Num w))) (places_of (Gt (Num w))) (Nums (w +ℤ pos 1) column.hi)
above-number column w k = number-range column (Gt (Num w)) (w +ℤ pos 1) column.hi k refl (λ n a b. grind (arith, ints)) (λ a. grind (arith, ints)) (λ b. absurd (grind (arith, ints)))

pub at_least-number : (column : Column) (w : ℤ) → column.kind ≡ Numbers → IsRange column (passes (Ge (Num w))) (places_of (Ge (Num w))) (Nums w column.hi)
at_least-number column w k = number-range column (Ge (Num w)) w column.hi k refl (λ n a b. grind (arith, ints)) (λ a. grind (arith, ints)) (λ b. absurd (grind (arith, ints)))

pub between-numbers : (column : Column) (u w : ℤ) → column.kind ≡ Numbers → cell_le (Num u) (Num w) ≡ true → IsRange column (passes (Between (Num u) (Num w))) (places_of (Between (Num u) (Num w))) (Nums u w)
between-numbers column u w k le = number-range column (Between (Num u) (Num w)) u w k refl (λ n a b. grind (arith, ints)) (λ a. rw le (grind (arith, ints))) (λ b. rw le (grind (arith, ints)))

-- ---- texts

text-point : (k : Kind) (low high : ℤ) (nullable : Bool) (lo : List ℕ) (hi : Option (List ℕ)) (t : Test) → k ≡ Texts → passes t NullCell ≡ false
    → ((s : List ℕ) → are_bytes s ≡ true → (text_le lo s && is_below s hi) ≡ passes t (Str s))
    → (v : Cell) → in_kind k low high nullable v ≡ true → in_span (Strs lo hi) v ≡ passes t v
text-point Texts low high nullable lo hi t k null h (Num n) p = absurd (grind arith)
text-point Texts low high nullable lo hi t k null h (Str s) p = h s p
text-point Texts low high nullable lo hi t k null h NullCell p = sym null
text-point Numbers low high nullable lo hi t k null h v p = absurd (cc)

text-end : (k : Kind) (low high : ℤ) (lo : List ℕ) (hi : Option (List ℕ)) (places : List Cell) → k ≡ Texts → ((v : Cell) → is_among (text_cut lo) v ≡ true → is_among places v ≡ true)
    → ((v : Cell) → is_among (end_cut hi) v ≡ true → is_among places v ≡ true) → (v : Cell) → has_cut k low high false (Strs lo hi) v ≡ true → is_among places v ≡ true
text-end Texts low high lo hi places k a b v h = let e = sym (is_among-append (text_cut lo) (end_cut hi) v) ∙ h in let m = a v in let n = b v in grind (arith, e, m, n)
text-end Numbers low high lo hi places k a b v h = absurd (cc)

text-kind : (k : Kind) (lo : List ℕ) (hi : Option (List ℕ)) → k ≡ Texts → are_bytes lo ≡ true → end_bytes hi ≡ true → is_range k (Strs lo hi) ≡ true
text-kind k lo hi e a b = rw (e, a, b) refl

pub text-range : (column : Column) (t : Test) (lo : List ℕ) (hi : Option (List ℕ)) → column.kind ≡ Texts → passes t NullCell ≡ false → are_bytes lo ≡ true → end_bytes hi ≡ true
    → ((s : List ℕ) → are_bytes s ≡ true → (text_le lo s && is_below s hi) ≡ passes t (Str s))
    → ((v : Cell) → is_among (text_cut lo) v ≡ true → is_among (test_ends t) v ≡ true) → ((v : Cell) → is_among (end_cut hi) v ≡ true → is_among (test_ends t) v ≡ true)
    → IsRange column (passes t) (places_of t) (Strs lo hi)
text-range column t lo hi k null bytes end_bytes h a b = record {
  kind = text-kind column.kind lo hi k bytes end_bytes;
  points = text-point column.kind column.lo column.hi column.nullable lo hi t k null h;
  ends = or-null column.kind column.lo column.hi column.nullable (Strs lo hi) (test_ends t) (text-end column.kind column.lo column.hi lo hi (test_ends t) k a b);
}

-- the texts from the next one on are those above
pub next-above : (w s : List ℕ) → text_le (w ++ 0 ∷ []) s ≡ not (text_le s w)
next-above [] [] = refl
next-above [] (b ∷ s) = grind (arith, nat_tests)
next-above (a ∷ w) [] = refl
next-above (a ∷ w) (b ∷ s) = let ih = next-above w s in grind (arith, nat_tests, ih)

next-bytes : (w : List ℕ) → are_bytes w ≡ true → are_bytes (w ++ 0 ∷ []) ≡ true
next-bytes [] h = refl
next-bytes (a ∷ w) h = let ih = next-bytes w in grind (arith, ih)

pub text_cut-is : (w : List ℕ) (v : Cell) → is_among (text_cut w) v ≡ true → cell_eq (Str w) v ≡ true
text_cut-is [] v h = absurd (grind arith)
text_cut-is (a ∷ w) v h = grind arith

pub equal-text : (column : Column) (w : List ℕ) → column.kind ≡ Texts → are_bytes w ≡ true → IsRange column (passes (Eq (Str w))) (places_of (Eq (Str w))) (Strs w (Some (w ++ 0 ∷ [])))
equal-text column w k bytes = text-range column (Eq (Str w)) w (Some (w ++ 0 ∷ [])) k refl bytes (next-bytes w bytes)
    (λ s _. let e = next-above w s in grind (arith, e)) (λ v h. let e = text_cut-is w v h in grind (arith, e)) (λ v h. grind arith)

pub at_most-text : (column : Column) (w : List ℕ) → column.kind ≡ Texts → are_bytes w ≡ true → IsRange column (passes (Le (Str w))) (places_of (Le (Str w))) (Strs [] (Some (w ++ 0 ∷ [])))
at_most-text column w k bytes = text-range column (Le (Str w)) [] (Some (w ++ 0 ∷ [])) k refl refl (next-bytes w bytes) (λ s _. let e = next-above w s in grind (arith, e)) (λ v h. absurd (grind arith)) (λ v h. h)

pub above-text : (column : Column) (w : List ℕ) → column.kind ≡ Texts → are_bytes w ≡ true → IsRange column (passes (Gt (Str w))) (places_of (Gt (Str w))) (Strs (w ++ 0 ∷ []) None)
above-text column w k bytes = text-range column (Gt (Str w)) (w ++ 0 ∷ []) None k refl (next-bytes w bytes) refl (λ s _. let e = next-above w s in grind (arith, e))
    (λ v h. let e = text_cut-is (w ++ 0 ∷ []) v h in grind (arith, e)) (λ v h. absurd (grind arith))

pub between-texts : (column : Column) (u w : List ℕ) → column.kind ≡ Texts → are_bytes u ≡ true → are_bytes w ≡ true → cell_le (Str u) (Str w) ≡ true
    → IsRange column (passes (Between (Str u) (Str w))) (places_of (Between (Str u) (Str w))) (Strs u (Some (w ++ 0 ∷ [])))
between-texts column u w k bytes more le = text-range column (Between (Str u) (Str w)) u (Some (w ++ 0 ∷ [])) k refl bytes (next-bytes w more)
    (λ s _. let e = next-above w s in grind (arith, e)) (λ v h. let e = text_cut-is u v h in rw le (grind (arith, e))) (λ v h. rw le (grind arith))

same-begins : (p s : List ℕ) → box.begins p s ≡ begins p s
same-begins [] s = refl
same-begins (a ∷ p) [] = refl
same-begins (a ∷ p) (b ∷ s) = let ih = same-begins p s in grind (arith, ih)

end_bytes-next : (p : List ℕ) → are_bytes p ≡ true → end_bytes (box.next_prefix p) ≡ true
end_bytes-next [] h = refl
end_bytes-next (b ∷ p) h = let fit = prefixes_fit (record { name = []; kind = Texts; lo = pos 0; hi = pos 0; nullable = false }) b p refl h in grind (arith, fit)

pub prefix-texts : (column : Column) (p : List ℕ) → column.kind ≡ Texts → are_bytes p ≡ true → IsRange column (passes (Prefix p)) (places_of (Prefix p)) (Strs p (box.next_prefix p))
prefix-texts column p k bytes = text-range column (Prefix p) p (box.next_prefix p) k refl bytes (end_bytes-next p bytes)
    (λ s b. prefixes_are_spans p s bytes b ∙ same-begins p s) (λ v h. let e = text_cut-is p v h in grind (arith, e)) (ends (box.next_prefix p))
  where
    ends : (next : Option (List ℕ)) (v : Cell) → is_among (end_cut next) v ≡ true → is_among (Str p ∷ next_text next) v ≡ true
    ends None v h = absurd (grind arith)
    ends (Some e) v h = grind arith
