-- Two lists of rects with the same points have one centre.
use Rattle.std.proofs.Common.{◌≡◌, ℕ, ◌<◌, ◌≤◌, ◌+◌, zero, suc, true, false, List, [], ◌∷◌, ◌++◌, length, drop, drop-cons, append_assoc, refl, arith, ◌∙◌, sym, ap, subst, w64, rules, to_z, of_z}
use Rattle.std.specs.Prelude.{Bool, not, ◌&&◌, ◌||◌, if◌then◌else◌, Option, Some, None, ℤ, pos, ◌+ℤ◌, ◌-ℤ◌, ◌^◌, int_le, int_lt, map, slice_index_or, slice_get, FitsSigned, ◌<ℤ◌}
use Rattle.std.specs.List.{list_any, list_all}
use Rattle.std.proofs.lemmas.Int.{ints, to_z-of_z}
use Rattle.std.proofs.lemmas.Bool.Decides.{nat_tests}
use Rattle.std.proofs.lemmas.List.Folds.{list_all-append}
use Rattle.std.specs.Cmp.{first_so, second_so}
use Rattle.sr_cell.specs.declared.cell.Cell.{Cell}
use Rattle.sr_cell.specs.declared.cell.Cell.TheVariants.{Num, Str, Null as NullCell}
use Rattle.sr_cell.specs.declared.table.Column.{Column}
use Rattle.sr_cell.specs.declared.table.Kind.{Kind}
use Rattle.sr_cell.specs.declared.table.Kind.TheVariants.{Num as Numbers, Str as Texts}
use Rattle.sr_box.specs.declared.span.Span.{Span}
use Rattle.sr_box.specs.declared.span.Span.TheVariants.{Full, Nums, Strs, Null}
use Rattle.sr_cell.specs.Cells.{text_le}
use Rattle.sr_cell.specs.Columns.{are_bytes, in_kind, in_column, is_point}
use Rattle.sr_cell.proofs.Order.{text_le-trans, text_le-total, text_le-refl}
use Rattle.sr_box.specs.Spans.{in_span, span_fits, fits_kind, end_bytes, is_below}
use Rattle.sr_box.specs.Points.{Rect, in_rect, in_any, rect_fits}
use Rattle.sr_box.specs.Corners.{first_value, first_span, other_spans, have_first}
use Rattle.sr_union.specs.Grid.{is_inner_kind, is_inner, all_inner}
use Rattle.sr_union.proofs.Low.{low_point, low-point, low-in, has_point, low_of as cell_low}
use Rattle.sr_union.specs.Centre.{bytes_1, bytes_2, bytes_3, first_bytes, low_of, high_text, high_of, least, greatest, middle, least_low, greatest_high, middle_at, centre_from, SameCentre}
use Rattle.sr_union.specs.Free.{span_at}

-- the ends of the k-th column
abbrev low_at : List Column → ℕ → Rect → ℤ
low_at [] k r = pos 0
low_at (c ∷ cs) zero r = low_of c.kind c.lo (first_span r)
low_at (c ∷ cs) (suc k) r = low_at cs k (other_spans r)

abbrev high_at : List Column → ℕ → Rect → ℤ
high_at [] k r = pos 0
high_at (c ∷ cs) zero r = high_of c.kind c.lo c.hi (first_span r)
high_at (c ∷ cs) (suc k) r = high_at cs k (other_spans r)

abbrev centre_at : List Column → ℕ → Rect → List Rect → ℤ
centre_at cs k r rects = least (low_at cs k r) (map (low_at cs k) rects) +ℤ greatest (high_at cs k r) (map (high_at cs k) rects)

-- extremes of lists
least-all : (t : ℤ → Bool) (x : ℤ) (xs : List ℤ) → list_all t (x ∷ xs) ≡ true → t (least x xs) ≡ true
least-all t x [] h = grind arith
least-all t x (y ∷ ys) h = least-all t (if int_le x y then x else y) ys (go (int_le x y))
  where
    go : (b : Bool) → (t (if b then x else y) && list_all t ys) ≡ true
    go true = grind arith
    go false = grind arith

least-any : (x z : ℤ) (xs : List ℤ) → list_any (λ y. int_le y z) (x ∷ xs) ≡ true → int_le (least x xs) z ≡ true
least-any x z [] h = grind arith
least-any x z (y ∷ ys) h = least-any (if int_le x y then x else y) z ys (go (int_le x y) refl)
  where
    go : (b : Bool) → int_le x y ≡ b → (int_le (if b then x else y) z || list_any (λ y. int_le y z) ys) ≡ true
    go true e = some (list_any (λ y. int_le y z) ys) h
      where
        some : (o : Bool) → (int_le x z || (int_le y z || o)) ≡ true → (int_le x z || o) ≡ true
        some true k = grind arith
        some false k = grind (arith, ints)
    go false e = some (list_any (λ y. int_le y z) ys) h
      where
        some : (o : Bool) → (int_le x z || (int_le y z || o)) ≡ true → (int_le y z || o) ≡ true
        some true k = grind arith
        some false k = grind (arith, ints)

-- where each number has one at most it in the other list, the least is at most the least
least-le : (x y : ℤ) (xs ys : List ℤ) → list_all (λ u. list_any (λ v. int_le v u) (y ∷ ys)) (x ∷ xs) ≡ true → int_le (least y ys) (least x xs) ≡ true
least-le x y xs ys h = least-all (λ u. int_le (least y ys) u) x xs (walk (x ∷ xs) h)
  where
    walk : (us : List ℤ) → list_all (λ u. list_any (λ v. int_le v u) (y ∷ ys)) us ≡ true → list_all (λ u. int_le (least y ys) u) us ≡ true
    walk [] h = refl
    walk (u ∷ us) h = let a = least-any y u ys (first_so (list_any (λ v. int_le v u) (y ∷ ys)) _ h) in let b = walk us (second_so (list_any (λ v. int_le v u) (y ∷ ys)) _ h) in grind (arith, a, b)

-- the order of first bytes
mono_1 : (s t : List ℕ) → are_bytes s ≡ true → are_bytes t ≡ true → text_le s t ≡ true → (bytes_1 s ≤ bytes_1 t) × (bytes_1 s < 256)
mono_1 [] t a b h = (omega arith, omega arith)
mono_1 (x ∷ s) [] a b h = absurd (grind arith)
mono_1 (x ∷ s) (y ∷ t) a b h = (grind (arith, nat_tests), grind (arith, nat_tests))

mono_2 : (s t : List ℕ) → are_bytes s ≡ true → are_bytes t ≡ true → text_le s t ≡ true → (bytes_2 s ≤ bytes_2 t) × (bytes_2 s < 65536)
mono_2 [] t a b h = (omega arith, omega arith)
mono_2 (x ∷ s) [] a b h = absurd (grind arith)
mono_2 (x ∷ s) (y ∷ t) a b h = let r = mono_1 s s (grind arith) (grind arith) (text_le-refl s) in let i = mono_1 s t (grind arith) (grind arith) in (grind (arith, nat_tests, r, i), grind (arith, nat_tests, r))

mono_3 : (s t : List ℕ) → are_bytes s ≡ true → are_bytes t ≡ true → text_le s t ≡ true → (bytes_3 s ≤ bytes_3 t) × (bytes_3 s < 16777216)
mono_3 [] t a b h = (omega arith, omega arith)
mono_3 (x ∷ s) [] a b h = absurd (grind arith)
mono_3 (x ∷ s) (y ∷ t) a b h = let r = mono_2 s s (grind arith) (grind arith) (text_le-refl s) in let i = mono_2 s t (grind arith) (grind arith) in (grind (arith, nat_tests, r, i), grind (arith, nat_tests, r))

mono : (s t : List ℕ) → are_bytes s ≡ true → are_bytes t ≡ true → text_le s t ≡ true → (first_bytes s ≤ first_bytes t) × (first_bytes s < 4294967296)
mono [] t a b h = (omega arith, omega arith)
mono (x ∷ s) [] a b h = absurd (grind arith)
mono (x ∷ s) (y ∷ t) a b h = let r = mono_3 s s (grind arith) (grind arith) (text_le-refl s) in let i = mono_3 s t (grind arith) (grind arith) in (grind (arith, nat_tests, r, i), grind (arith, nat_tests, r))

-- a value has a number, and lies between those of the span
abbrev val : Kind → ℤ → Cell → ℤ
val k low (Num n) = n
val k low (Str s) = pos (first_bytes s)
val Numbers low NullCell = low
val Texts low NullCell = pos 0

span-low : (k : Kind) (low high : ℤ) (nu : Bool) (s : Span) (v : Cell) → fits_kind k low high nu s ≡ true → in_kind k low high nu v ≡ true → in_span s v ≡ true → int_le (low_of k low s) (val k low v) ≡ true
span-low Numbers low high nu Full (Num n) f p h = grind arith
span-low Numbers low high nu Full (Str n) f p h = absurd (grind arith)
span-low Texts low high nu Full (Num n) f p h = absurd (grind arith)
span-low Texts low high nu Full (Str s) f p h = grind (arith, ints)
span-low Numbers low high nu (Nums lo hi) (Num n) f p h = grind arith
span-low k low high nu (Nums lo hi) (Str s) f p h = absurd (grind arith)
span-low Texts low high nu (Nums lo hi) (Num n) f p h = absurd (grind arith)
span-low Numbers low high nu (Strs lo hi) v f p h = absurd (grind arith)
span-low Texts low high nu (Strs lo hi) (Num n) f p h = absurd (grind arith)
span-low Texts low high nu (Strs lo hi) (Str s) f p h = let m = mono lo s (grind arith) (grind arith) (grind arith) in let x = m.0 in grind (arith, ints, x)
span-low Numbers low high nu Full NullCell f p h = grind (arith, ints)
span-low Texts low high nu Full NullCell f p h = grind (arith, ints)
span-low k low high nu (Nums lo hi) NullCell f p h = absurd (cc)
span-low Texts low high nu (Strs lo hi) NullCell f p h = absurd (cc)
span-low k low high nu Null (Num n) f p h = absurd (cc)
span-low k low high nu Null (Str s) f p h = absurd (cc)
span-low Numbers low high nu Null NullCell f p h = grind (arith, ints)
span-low Texts low high nu Null NullCell f p h = grind (arith, ints)

-- the greatest of lo and of the ends that stand below h
abbrev best : List ℕ → Option (List ℕ) → List (List ℕ) → List ℕ
best lo h [] = lo
best lo h (x ∷ xs) = if is_below x h && text_le (best lo h xs) x then x else best lo h xs

best-is : (lo : List ℕ) (h : Option (List ℕ)) (xs : List (List ℕ)) → is_below lo h ≡ true
    → (text_le lo (best lo h xs) ≡ true) × (is_below (best lo h xs) h ≡ true) × (list_all (λ x. not (is_below x h) || text_le x (best lo h xs)) xs ≡ true)
best-is lo h [] b = (text_le-refl lo, b, refl)
best-is lo h (x ∷ xs) b = let ih = best-is lo h xs b in go (is_below x h) (text_le (best lo h xs) x) refl refl ih.0 ih.1 ih.2
  where
    more : (ys : List (List ℕ)) → text_le (best lo h xs) x ≡ true → list_all (λ y. not (is_below y h) || text_le y (best lo h xs)) ys ≡ true → list_all (λ y. not (is_below y h) || text_le y x) ys ≡ true
    more [] t a = refl
    more (y ∷ ys) t a = let ih = more ys t (grind arith) in let tr = text_le-trans y (best lo h xs) x in grind (arith, ih, tr)

    go : (c d : Bool) → is_below x h ≡ c → text_le (best lo h xs) x ≡ d → text_le lo (best lo h xs) ≡ true → is_below (best lo h xs) h ≡ true → list_all (λ y. not (is_below y h) || text_le y (best lo h xs)) xs ≡ true
        → (text_le lo (if c && d then x else best lo h xs) ≡ true) × (is_below (if c && d then x else best lo h xs) h ≡ true)
        × ((not (is_below x h) || text_le x (if c && d then x else best lo h xs)) && list_all (λ y. not (is_below y h) || text_le y (if c && d then x else best lo h xs)) xs) ≡ true
    go true true ec ed a i l = (text_le-trans lo (best lo h xs) x a ed, ec, (let m = more xs ed l in let r = text_le-refl x in grind (arith, m, r)))
    go true false ec ed a i l = (a, i, (let t = text_le-total (best lo h xs) x ed in grind (arith, t, l)))
    go false d ec ed a i l = (a, i, grind (arith, ec, l))

best-bytes : (lo : List ℕ) (h : Option (List ℕ)) (xs : List (List ℕ)) → are_bytes lo ≡ true → list_all are_bytes xs ≡ true → are_bytes (best lo h xs) ≡ true
best-bytes lo h [] a b = a
best-bytes lo h (x ∷ xs) a b = go (is_below x h && text_le (best lo h xs) x) (best-bytes lo h xs a (grind arith))
  where
    go : (c : Bool) → are_bytes (best lo h xs) ≡ true → are_bytes (if c then x else best lo h xs) ≡ true
    go true ih = grind arith
    go false ih = ih

-- the ends of spans
abbrev end_of : Span → List (List ℕ)
end_of Full = []
end_of (Nums lo hi) = []
end_of (Strs lo None) = []
end_of (Strs lo (Some hi)) = hi ∷ []
end_of Null = []

-- a value of the span that lies above every end, of a list, that stands below its own
abbrev top : Kind → ℤ → List (List ℕ) → Span → Cell
top Numbers high ends Full = Num high
top Numbers high ends (Nums lo hi) = Num hi
top Numbers high ends (Strs lo hi) = Num high
top Texts high ends Full = Str (best [] None ends)
top Texts high ends (Nums lo hi) = Str []
top Texts high ends (Strs lo hi) = Str (best lo hi ends)
top k high ends Null = NullCell

top-in : (k : Kind) (low high : ℤ) (nu : Bool) (ends : List (List ℕ)) (s : Span) → fits_kind k low high nu s ≡ true → (k ≡ Numbers → int_le low high ≡ true) → list_all are_bytes ends ≡ true
    → (in_span s (top k high ends s) ≡ true) × (in_kind k low high nu (top k high ends s) ≡ true)
top-in Numbers low high nu ends Full f d e = let x = d refl in (refl, grind (arith, ints, x))
top-in Numbers low high nu ends (Nums lo hi) f d e = (grind (arith, ints), grind (arith, ints))
top-in Numbers low high nu ends (Strs lo hi) f d e = absurd (grind arith)
top-in Texts low high nu ends Full f d e = (refl, best-bytes [] None ends refl e)
top-in Texts low high nu ends (Nums lo hi) f d e = absurd (grind arith)
top-in Texts low high nu ends (Strs lo hi) f d e = let b = best-is lo hi ends (grind arith) in let x = b.0 in let y = b.1 in (grind (arith, x, y), best-bytes lo hi ends (grind arith) e)
top-in Numbers low high nu ends Null f d e = (refl, f)
top-in Texts low high nu ends Null f d e = (refl, f)

-- a span that has it ends no lower
text-high : (h : Option (List ℕ)) (x m : List ℕ) → (not (is_below x h) || text_le x m) ≡ true → is_below m (Some x) ≡ true → end_bytes h ≡ true → are_bytes x ≡ true → int_le (high_text h) (pos (first_bytes x)) ≡ true
text-high None x m a b e f = absurd (grind arith)
text-high (Some h) x m a b e f = let t : text_le h x ≡ true = grind arith in let y = (mono h x e f t).0 in grind (arith, ints, y)

high-none : (h : Option (List ℕ)) → end_bytes h ≡ true → int_le (high_text h) (pos 4294967296) ≡ true
high-none None e = grind (arith, ints)
high-none (Some h) e = let y = (mono h h e e (text_le-refl h)).1 in grind (arith, ints, y)

span-high : (k : Kind) (low high : ℤ) (nu : Bool) (ends : List (List ℕ)) (s q : Span) → (k ≡ Numbers → int_le low high ≡ true) → fits_kind k low high nu s ≡ true → fits_kind k low high nu q ≡ true
    → ((x : List ℕ) (t : List ℕ → Bool) → end_of q ≡ x ∷ [] → list_all t ends ≡ true → t x ≡ true)
    → in_span q (top k high ends s) ≡ true → int_le (high_of k low high s) (high_of k low high q) ≡ true
span-high Numbers low high nu ends Full Full d f g m i = grind (arith, ints)
span-high Numbers low high nu ends Full (Nums lo hi) d f g m i = grind (arith, ints)
span-high Numbers low high nu ends s (Strs lo hi) d f g m i = absurd (grind arith)
span-high Numbers low high nu ends (Nums lo hi) Full d f g m i = grind (arith, ints)
span-high Numbers low high nu ends (Nums lo hi) (Nums lo2 hi2) d f g m i = grind (arith, ints)
span-high Numbers low high nu ends (Strs lo hi) q d f g m i = absurd (grind arith)
span-high Texts low high nu ends (Nums lo hi) q d f g m i = absurd (grind arith)
span-high Texts low high nu ends s (Nums lo hi) d f g m i = absurd (grind arith)
span-high Texts low high nu ends Full Full d f g m i = grind (arith, ints)
span-high Texts low high nu ends Full (Strs lo None) d f g m i = grind (arith, ints)
span-high Texts low high nu ends Full (Strs lo (Some x)) d f g m i =
    let b = best-is [] None ends refl in let z = m x (λ y. not (is_below y None) || text_le y (best [] None ends)) refl b.2 in absurd (grind (arith, z))
span-high Texts low high nu ends (Strs lo h) Full d f g m i = high-none h (grind arith)
span-high Texts low high nu ends (Strs lo h) (Strs lo2 None) d f g m i = high-none h (grind arith)
span-high Texts low high nu ends (Strs lo h) (Strs lo2 (Some x)) d f g m i =
    let b = best-is lo h ends (grind arith) in let z = m x (λ y. not (is_below y h) || text_le y (best lo h ends)) refl b.2 in
    text-high h x (best lo h ends) z (grind arith) (grind arith) (grind arith)
span-high Numbers low high nu ends Null Full d f g m i = let x = d refl in grind (arith, ints, x)
span-high Texts low high nu ends Null Full d f g m i = grind (arith, ints)
span-high Numbers low high nu ends Null (Nums lo hi) d f g m i = absurd (cc)
span-high Texts low high nu ends Null (Strs lo hi) d f g m i = absurd (cc)
span-high Numbers low high nu ends Null Null d f g m i = grind (arith, ints)
span-high Texts low high nu ends Null Null d f g m i = grind (arith, ints)
span-high Numbers low high nu ends Full Null d f g m i = absurd (cc)
span-high Numbers low high nu ends (Nums lo hi) Null d f g m i = absurd (cc)
span-high Texts low high nu ends Full Null d f g m i = absurd (cc)
span-high Texts low high nu ends (Strs lo hi) Null d f g m i = absurd (cc)

greatest-all : (t : ℤ → Bool) (x : ℤ) (xs : List ℤ) → list_all t (x ∷ xs) ≡ true → t (greatest x xs) ≡ true
greatest-all t x [] h = grind arith
greatest-all t x (y ∷ ys) h = greatest-all t (if int_le x y then y else x) ys (go (int_le x y))
  where
    go : (b : Bool) → (t (if b then y else x) && list_all t ys) ≡ true
    go true = grind arith
    go false = grind arith

greatest-any : (x z : ℤ) (xs : List ℤ) → list_any (λ y. int_le z y) (x ∷ xs) ≡ true → int_le z (greatest x xs) ≡ true
greatest-any x z [] h = grind arith
greatest-any x z (y ∷ ys) h = greatest-any (if int_le x y then y else x) z ys (go (int_le x y) refl)
  where
    go : (b : Bool) → int_le x y ≡ b → (int_le z (if b then y else x) || list_any (λ y. int_le z y) ys) ≡ true
    go true e = some (list_any (λ y. int_le z y) ys) h
      where
        some : (o : Bool) → (int_le z x || (int_le z y || o)) ≡ true → (int_le z y || o) ≡ true
        some true k = grind arith
        some false k = grind (arith, ints)
    go false e = some (list_any (λ y. int_le z y) ys) h
      where
        some : (o : Bool) → (int_le z x || (int_le z y || o)) ≡ true → (int_le z x || o) ≡ true
        some true k = grind arith
        some false k = grind (arith, ints)

greatest-le : (x y : ℤ) (xs ys : List ℤ) → list_all (λ u. list_any (λ v. int_le u v) (y ∷ ys)) (x ∷ xs) ≡ true → int_le (greatest x xs) (greatest y ys) ≡ true
greatest-le x y xs ys h = greatest-all (λ u. int_le u (greatest y ys)) x xs (walk (x ∷ xs) h)
  where
    walk : (us : List ℤ) → list_all (λ u. list_any (λ v. int_le u v) (y ∷ ys)) us ≡ true → list_all (λ u. int_le u (greatest y ys)) us ≡ true
    walk [] h = refl
    walk (u ∷ us) h = let a = greatest-any y u ys (first_so (list_any (λ v. int_le u v) (y ∷ ys)) _ h) in let b = walk us (second_so (list_any (λ v. int_le u v) (y ∷ ys)) _ h) in grind (arith, a, b)

-- the number of a point's value in the k-th column
abbrev val_at : List Column → ℕ → List Cell → ℤ
val_at [] k p = pos 0
val_at (c ∷ cs) k [] = pos 0
val_at (c ∷ cs) zero (v ∷ p) = val c.kind c.lo v
val_at (c ∷ cs) (suc k) (v ∷ p) = val_at cs k p

rect-low : (cs : List Column) (k : ℕ) (q : List Span) (p : List Cell) → rect_fits cs q ≡ true → is_point cs p ≡ true → in_rect q p ≡ true → int_le (low_at cs k q) (val_at cs k p) ≡ true
rect-low [] k q p f i h = grind (arith, ints)
rect-low (c ∷ cs) k [] p f i h = absurd (grind arith)
rect-low (c ∷ cs) k (s ∷ q) [] f i h = absurd (grind arith)
rect-low (c ∷ cs) zero (s ∷ q) (v ∷ p) f i h = span-low c.kind c.lo c.hi c.nullable s v (grind arith) (grind arith) (grind arith)
rect-low (c ∷ cs) (suc k) (s ∷ q) (v ∷ p) f i h = rect-low cs k q p (grind arith) (grind arith) (grind arith)

cell_low-val : (k : Kind) (low high : ℤ) (nu : Bool) (s : Span) → fits_kind k low high nu s ≡ true → val k low (cell_low k low s) ≡ low_of k low s
unfolding cell_low
cell_low-val Numbers low high nu Full f = refl
cell_low-val Texts low high nu Full f = refl
cell_low-val Numbers low high nu (Nums lo hi) f = refl
cell_low-val Texts low high nu (Nums lo hi) f = absurd (grind arith)
cell_low-val Numbers low high nu (Strs lo hi) f = absurd (grind arith)
cell_low-val Texts low high nu (Strs lo hi) f = refl
cell_low-val Numbers low high nu Null f = refl
cell_low-val Texts low high nu Null f = refl

low_point-val : (cs : List Column) (k : ℕ) (r : List Span) → rect_fits cs r ≡ true → val_at cs k (low_point cs r) ≡ low_at cs k r
unfolding low_point
low_point-val [] k r f = refl
low_point-val (c ∷ cs) k [] f = absurd (grind arith)
low_point-val (c ∷ cs) zero (s ∷ r) f = cell_low-val c.kind c.lo c.hi c.nullable s (grind arith)
low_point-val (c ∷ cs) (suc k) (s ∷ r) f = low_point-val cs k r (grind arith)

any-low : (cs : List Column) (k : ℕ) (b : List (List Span)) (p : List Cell) → list_all (rect_fits cs) b ≡ true → is_point cs p ≡ true → in_any b p ≡ true → list_any (λ v. int_le v (val_at cs k p)) (map (low_at cs k) b) ≡ true
any-low cs k [] p f i h = absurd (grind arith)
any-low cs k (q ∷ b) p f i h = go (in_rect q p) refl h (any-low cs k b p (grind arith) i)
  where
    go : (x : Bool) → in_rect q p ≡ x → (x || in_any b p) ≡ true → (in_any b p ≡ true → list_any (λ v. int_le v (val_at cs k p)) (map (low_at cs k) b) ≡ true)
        → (int_le (low_at cs k q) (val_at cs k p) || list_any (λ v. int_le v (val_at cs k p)) (map (low_at cs k) b)) ≡ true
    go true e o ih = let y = rect-low cs k q p (grind arith) i e in grind (arith, y)
    go false e o ih = let y = ih o in grind (arith, y)

lows : (cs : List Column) (k : ℕ) (a b : List (List Span)) → have_first cs ≡ true → list_all (rect_fits cs) a ≡ true → list_all (rect_fits cs) b ≡ true
    → ((p : List Cell) → is_point cs p ≡ true → in_any a p ≡ true → in_any b p ≡ true) → list_all (λ u. list_any (λ v. int_le v u) (map (low_at cs k) b)) (map (low_at cs k) a) ≡ true
lows cs k [] b d f g h = refl
lows cs k (r ∷ a) b d f g h =
    let ih = lows cs k a b d (grind arith) g (λ p i o. h p i (grind (arith, o))) in let lp = low-point cs r (grind arith) d in
    let one = any-low cs k b (low_point cs r) g lp.1 (h (low_point cs r) lp.1 (let x = lp.0 in grind (arith, x))) in
    let two = ap (λ u. list_any (λ v. int_le v u) (map (low_at cs k) b)) (sym (low_point-val cs k r (grind arith))) ∙ one in grind (arith, ih, two)

-- the ends in the k-th column
abbrev ends_at : ℕ → List (List Span) → List (List ℕ)
ends_at k [] = []
ends_at k (q ∷ b) = end_of (span_at k q) ++ ends_at k b

abbrev top_point : List Column → ℕ → List (List ℕ) → List Span → List Cell
top_point [] k ends r = []
top_point (c ∷ cs) k ends [] = []
top_point (c ∷ cs) zero ends (s ∷ r) = top c.kind c.hi ends s ∷ low_point cs r
top_point (c ∷ cs) (suc k) ends (s ∷ r) = cell_low c.kind c.lo s ∷ top_point cs k ends r

first-le : (k : Kind) (low high : ℤ) (nu : Bool) (s : Span) → fits_kind k low high nu s ≡ true → in_kind k low high nu (first_value k low) ≡ true → (k ≡ Numbers → int_le low high ≡ true)
first-le Numbers low high nu s f h e = grind arith
first-le Texts low high nu s f h e = absurd (cc)

top_point-in : (cs : List Column) (k : ℕ) (ends : List (List ℕ)) (r : List Span) → rect_fits cs r ≡ true → have_first cs ≡ true → list_all are_bytes ends ≡ true → (in_rect r (top_point cs k ends r) ≡ true) × (is_point cs (top_point cs k ends r) ≡ true)
top_point-in [] k ends [] f h e = (refl, refl)
top_point-in [] k ends (s ∷ r) f h e = absurd (grind arith)
top_point-in (c ∷ cs) k ends [] f h e = absurd (grind arith)
top_point-in (c ∷ cs) zero ends (s ∷ r) f h e =
    let t = top-in c.kind c.lo c.hi c.nullable ends s (grind arith) (first-le c.kind c.lo c.hi c.nullable s (grind arith) (grind arith)) e in let m = low-point cs r (grind arith) (grind arith) in
    let a = t.0 in let b = t.1 in let x = m.0 in let y = m.1 in (grind (arith, a, x), grind (arith, b, y))
top_point-in (c ∷ cs) (suc k) ends (s ∷ r) f h e =
    let t = low-in c.kind c.lo c.hi c.nullable s (grind arith) (grind arith) in let m = top_point-in cs k ends r (grind arith) (grind arith) e in
    let a = t.0 in let b = t.1 in let x = m.0 in let y = m.1 in (grind (arith, a, x), grind (arith, b, y))

rect-high : (cs : List Column) (k : ℕ) (ends : List (List ℕ)) (r q : List Span) → rect_fits cs r ≡ true → rect_fits cs q ≡ true
    → have_first cs ≡ true → ((x : List ℕ) (t : List ℕ → Bool) → end_of (span_at k q) ≡ x ∷ [] → list_all t ends ≡ true → t x ≡ true)
    → in_rect q (top_point cs k ends r) ≡ true → int_le (high_at cs k r) (high_at cs k q) ≡ true
rect-high [] k ends r q f g d m i = grind (arith, ints)
rect-high (c ∷ cs) k ends [] q f g d m i = absurd (grind arith)
rect-high (c ∷ cs) k ends (s ∷ r) [] f g d m i = absurd (grind arith)
rect-high (c ∷ cs) zero ends (s ∷ r) (u ∷ q) f g d m i = span-high c.kind c.lo c.hi c.nullable ends s u (first-le c.kind c.lo c.hi c.nullable s (grind arith) (grind arith)) (grind arith) (grind arith) m (grind arith)
rect-high (c ∷ cs) (suc k) ends (s ∷ r) (u ∷ q) f g d m i = rect-high cs k ends r q (grind arith) (grind arith) (grind arith) m (grind arith)

any-high : (cs : List Column) (k : ℕ) (ends : List (List ℕ)) (r : List Span) (b : List (List Span)) → rect_fits cs r ≡ true → list_all (rect_fits cs) b ≡ true → have_first cs ≡ true
    → ((t : List ℕ → Bool) → list_all t ends ≡ true → list_all t (ends_at k b) ≡ true) → in_any b (top_point cs k ends r) ≡ true → list_any (λ v. int_le (high_at cs k r) v) (map (high_at cs k) b) ≡ true
any-high cs k ends r [] f g d m h = absurd (grind arith)
any-high cs k ends r (q ∷ b) f g d m h = go (in_rect q (top_point cs k ends r)) refl h (any-high cs k ends r b f (grind arith) d (λ t a. back t (end_of (span_at k q)) (ends_at k b) (m t a)))
  where
    back : (t : List ℕ → Bool) (xs ys : List (List ℕ)) → list_all t (xs ++ ys) ≡ true → list_all t ys ≡ true
    back t [] ys h = h
    back t (x ∷ xs) ys h = back t xs ys (grind arith)

    front : (t : List ℕ → Bool) (x : List ℕ) (xs ys : List (List ℕ)) → xs ≡ x ∷ [] → list_all t (xs ++ ys) ≡ true → t x ≡ true
    front t x [] ys e h = absurd (cc)
    front t x (z ∷ xs) ys e h = let w : z ≡ x = cc in let u : t z ≡ true = grind arith in sym (ap t w) ∙ u

    go : (o : Bool) → in_rect q (top_point cs k ends r) ≡ o → (o || in_any b (top_point cs k ends r)) ≡ true
        → (in_any b (top_point cs k ends r) ≡ true → list_any (λ v. int_le (high_at cs k r) v) (map (high_at cs k) b) ≡ true)
        → (int_le (high_at cs k r) (high_at cs k q) || list_any (λ v. int_le (high_at cs k r) v) (map (high_at cs k) b)) ≡ true
    go true e o ih = let y = rect-high cs k ends r q f (grind arith) d (λ x t w a. front t x (end_of (span_at k q)) (ends_at k b) w (m t a)) e in grind (arith, y)
    go false e o ih = let y = ih o in grind (arith, y)

end-bytes : (k : Kind) (low high : ℤ) (nu : Bool) (s : Span) → fits_kind k low high nu s ≡ true → list_all are_bytes (end_of s) ≡ true
end-bytes k low high nu Full f = refl
end-bytes k low high nu (Nums lo hi) f = refl
end-bytes k low high nu (Strs lo None) f = refl
end-bytes Numbers low high nu (Strs lo (Some hi)) f = absurd (grind arith)
end-bytes Texts low high nu (Strs lo (Some hi)) f = grind arith
end-bytes k low high nu Null f = refl

span-bytes : (cs : List Column) (k : ℕ) (q : List Span) → rect_fits cs q ≡ true → list_all are_bytes (end_of (span_at k q)) ≡ true
span-bytes cs k [] f = refl
span-bytes [] k (s ∷ q) f = absurd (grind arith)
span-bytes (c ∷ cs) zero (s ∷ q) f = end-bytes c.kind c.lo c.hi c.nullable s (grind arith)
span-bytes (c ∷ cs) (suc k) (s ∷ q) f = span-bytes cs k q (grind arith)

ends-bytes : (cs : List Column) (k : ℕ) (b : List (List Span)) → list_all (rect_fits cs) b ≡ true → list_all are_bytes (ends_at k b) ≡ true
ends-bytes cs k [] f = refl
ends-bytes cs k (q ∷ b) f = let ih = ends-bytes cs k b (grind arith) in let x = span-bytes cs k q (grind arith) in list_all-append are_bytes (end_of (span_at k q)) (ends_at k b) ∙ grind (arith, ih, x)

highs : (cs : List Column) (k : ℕ) (a b : List (List Span)) → have_first cs ≡ true → list_all (rect_fits cs) a ≡ true → list_all (rect_fits cs) b ≡ true
    → ((p : List Cell) → is_point cs p ≡ true → in_any a p ≡ true → in_any b p ≡ true) → list_all (λ u. list_any (λ v. int_le u v) (map (high_at cs k) b)) (map (high_at cs k) a) ≡ true
highs cs k [] b d f g h = refl
highs cs k (r ∷ a) b d f g h =
    let ih = highs cs k a b d (grind arith) g (λ p i o. h p i (grind (arith, o))) in let tp = top_point-in cs k (ends_at k b) r (grind arith) d (ends-bytes cs k b g) in
    let one = any-high cs k (ends_at k b) r b (grind arith) g d (λ t e. e) (h (top_point cs k (ends_at k b) r) tp.1 (let x = tp.0 in grind (arith, x))) in grind (arith, ih, one)

same-int : (x y : ℤ) → int_le x y ≡ true → int_le y x ≡ true → x ≡ y
same-int x y a b = grind (arith, ints)

-- two lists of rects with the same points have one middle in each column
same-at : (cs : List Column) (k : ℕ) (r q : List Span) (a b : List (List Span)) → have_first cs ≡ true → list_all (rect_fits cs) (r ∷ a) ≡ true → list_all (rect_fits cs) (q ∷ b) ≡ true
    → ((p : List Cell) → is_point cs p ≡ true → in_any (r ∷ a) p ≡ in_any (q ∷ b) p) → centre_at cs k r a ≡ centre_at cs k q b
same-at cs k r q a b d f g h =
    let l1 = least-le (low_at cs k r) (low_at cs k q) (map (low_at cs k) a) (map (low_at cs k) b) (lows cs k (r ∷ a) (q ∷ b) d f g (λ p i o. sym (h p i) ∙ o)) in
    let l2 = least-le (low_at cs k q) (low_at cs k r) (map (low_at cs k) b) (map (low_at cs k) a) (lows cs k (q ∷ b) (r ∷ a) d g f (λ p i o. h p i ∙ o)) in
    let h1 = greatest-le (high_at cs k r) (high_at cs k q) (map (high_at cs k) a) (map (high_at cs k) b) (highs cs k (r ∷ a) (q ∷ b) d f g (λ p i o. sym (h p i) ∙ o)) in
    let h2 = greatest-le (high_at cs k q) (high_at cs k r) (map (high_at cs k) b) (map (high_at cs k) a) (highs cs k (q ∷ b) (r ∷ a) d g f (λ p i o. h p i ∙ o)) in
    ap (λ x. x +ℤ greatest (high_at cs k r) (map (high_at cs k) a)) (same-int _ _ l2 l1) ∙ ap (λ x. least (low_at cs k q) (map (low_at cs k) b) +ℤ x) (same-int _ _ h1 h2)

-- the middles of the columns make the centre
map-map : (f : Rect → ℤ) (g : Rect → Rect) (rects : List Rect) → map (λ r. f (g r)) rects ≡ map f (map g rects)
map-map f g [] = refl
map-map f g (r ∷ rects) = ap (λ xs. f (g r) ∷ xs) (map-map f g rects)

behind-at : (c : Column) (cs : List Column) (k : ℕ) (r : Rect) (rects : List Rect) → centre_at (c ∷ cs) (suc k) r rects ≡ centre_at cs k (other_spans r) (map other_spans rects)
behind-at c cs k r rects =
    ap (λ xs. least (low_at cs k (other_spans r)) xs +ℤ greatest (high_at (c ∷ cs) (suc k) r) (map (high_at (c ∷ cs) (suc k)) rects)) (map-map (low_at cs k) other_spans rects)
    ∙ ap (λ xs. least (low_at cs k (other_spans r)) (map (low_at cs k) (map other_spans rects)) +ℤ greatest (high_at cs k (other_spans r)) xs) (map-map (high_at cs k) other_spans rects)

centres-same : (cs : List Column) (r q : Rect) (a b : List Rect) → ((k : ℕ) → centre_at cs k r a ≡ centre_at cs k q b) → centre_from cs r a ≡ centre_from cs q b
centres-same [] r q a b h = refl
centres-same (c ∷ cs) r q a b h =
    ap (λ x. x ∷ centre_from cs (other_spans r) (map other_spans a)) (h 0)
    ∙ ap (λ xs. middle c q b ∷ xs) (centres-same cs (other_spans r) (other_spans q) (map other_spans a) (map other_spans b)
    (λ k. sym (behind-at c cs k r a) ∙ (h (suc k) ∙ behind-at c cs k q b)))

-- a list without points has no rects
none-same : (cs : List Column) (r : Rect) (a : List Rect) → have_first cs ≡ true → list_all (rect_fits cs) (r ∷ a) ≡ true → ((p : List Cell) → is_point cs p ≡ true → in_any (r ∷ a) p ≡ false) → ⊥
none-same cs r a d f h = let p = has_point cs (r ∷ a) (λ e. absurd (cc)) f d in let x = h p.0 p.1 in let y = p.2 in grind (arith, x, y)

pub same_centre : SameCentre
same_centre cs [] [] d f g h = refl
same_centre cs [] (q ∷ b) d f g h = absurd (none-same cs q b d g (λ p e. sym (h p e)))
same_centre cs (r ∷ a) [] d f g h = absurd (none-same cs r a d f h)
same_centre cs (r ∷ a) (q ∷ b) d f g h = ap Some (centres-same cs r q a b (λ k. same-at cs k r q a b d f g h))

-- the ends of spans of an inner column lie far inside an i64
abbrev is_wide : ℤ → Bool
is_wide z = int_lt (pos 0 -ℤ pos (2 ^ 62)) z && int_lt z (pos (2 ^ 62))

text-wide : (s : List ℕ) → are_bytes s ≡ true → is_wide (pos (first_bytes s)) ≡ true
text-wide s b = let m = (mono s s b b (text_le-refl s)).1 in grind (arith, ints, m)

low-wide : (k : Kind) (low high : ℤ) (nu : Bool) (s : Span) → fits_kind k low high nu s ≡ true → is_inner_kind k low high ≡ true → in_kind k low high nu (first_value k low) ≡ true → is_wide (low_of k low s) ≡ true
low-wide Numbers low high nu Full f i d = grind (arith, ints)
low-wide Numbers low high nu (Nums lo hi) f i d = grind (arith, ints)
low-wide Numbers low high nu (Strs lo hi) f i d = absurd (grind arith)
low-wide Texts low high nu Full f i d = refl
low-wide Texts low high nu (Nums lo hi) f i d = absurd (grind arith)
low-wide Texts low high nu (Strs lo hi) f i d = text-wide lo (grind arith)
low-wide Numbers low high nu Null f i d = grind (arith, ints)
low-wide Texts low high nu Null f i d = refl

high-wide : (k : Kind) (low high : ℤ) (nu : Bool) (s : Span) → fits_kind k low high nu s ≡ true → is_inner_kind k low high ≡ true → in_kind k low high nu (first_value k low) ≡ true → is_wide (high_of k low high s) ≡ true
high-wide Numbers low high nu Full f i d = grind (arith, ints)
high-wide Numbers low high nu (Nums lo hi) f i d = grind (arith, ints)
high-wide Numbers low high nu (Strs lo hi) f i d = absurd (grind arith)
high-wide Texts low high nu Full f i d = refl
high-wide Texts low high nu (Nums lo hi) f i d = absurd (grind arith)
high-wide Texts low high nu (Strs lo None) f i d = refl
high-wide Texts low high nu (Strs lo (Some hi)) f i d = text-wide hi (grind arith)
high-wide Numbers low high nu Null f i d = grind (arith, ints)
high-wide Texts low high nu Null f i d = refl

all-wide : (f : Rect → ℤ) (t : Rect → Bool) (rects : List Rect) → ((r : Rect) → t r ≡ true → is_wide (f r) ≡ true) → list_all t rects ≡ true → list_all is_wide (map f rects) ≡ true
all-wide f t [] h a = refl
all-wide f t (r ∷ rects) h a = let ih = all-wide f t rects h (grind arith) in let one = h r (grind arith) in grind (arith, ih, one)

middle-wide : (c : Column) (k : ℕ) (r : Rect) (rects : List Rect) → list_all (λ q. span_fits c (span_at k q)) (r ∷ rects) ≡ true → is_inner c ≡ true → in_column c (first_value c.kind c.lo) ≡ true
    → (is_wide (least_low c k r rects) ≡ true) × (is_wide (greatest_high c k r rects) ≡ true)
middle-wide c k r rects f i d = (
  least-all is_wide (low_of c.kind c.lo (span_at k r)) (map (λ q. low_of c.kind c.lo (span_at k q)) rects)
      (all-wide (λ q. low_of c.kind c.lo (span_at k q)) (λ q. span_fits c (span_at k q)) (r ∷ rects) (λ q e. low-wide c.kind c.lo c.hi c.nullable (span_at k q) e i d) f),
  greatest-all is_wide (high_of c.kind c.lo c.hi (span_at k r)) (map (λ q. high_of c.kind c.lo c.hi (span_at k q)) rects)
      (all-wide (λ q. high_of c.kind c.lo c.hi (span_at k q)) (λ q. span_fits c (span_at k q)) (r ∷ rects) (λ q e. high-wide c.kind c.lo c.hi c.nullable (span_at k q) e i d) f),
)

fits-sum : (x y : ℤ) → (pos 0 -ℤ pos (2 ^ 62)) <ℤ x → x <ℤ pos (2 ^ 62) → (pos 0 -ℤ pos (2 ^ 62)) <ℤ y → y <ℤ pos (2 ^ 62) → FitsSigned w64 (x +ℤ y)
fits-sum x y a b c d = search rules

sum-fits : (x y : ℤ) → is_wide x ≡ true → is_wide y ≡ true → FitsSigned w64 (x +ℤ y)
sum-fits x y h k = fits-sum x y (grind (arith, ints)) (grind (arith, ints)) (grind (arith, ints)) (grind (arith, ints))

pub middle-fits : (c : Column) (k : ℕ) (r : Rect) (rects : List Rect) → list_all (λ q. span_fits c (span_at k q)) (r ∷ rects) ≡ true → is_inner c ≡ true → in_column c (first_value c.kind c.lo) ≡ true
    → FitsSigned w64 (middle_at c k r rects)
middle-fits c k r rects f i d = let wide = middle-wide c k r rects f i d in sum-fits (least_low c k r rects) (greatest_high c k r rects) wide.0 wide.1

-- the k-th column, and those behind
first-behind : (k : ℕ) (r : Rect) → first_span (drop k r) ≡ span_at k r
first-behind zero [] = refl
first-behind (suc k) [] = refl
first-behind zero (s ∷ r) = refl
first-behind (suc k) (s ∷ r) = first-behind k r

others-behind : (k : ℕ) (r : Rect) → other_spans (drop k r) ≡ drop (suc k) r
others-behind zero [] = refl
others-behind (suc k) [] = refl
others-behind zero (s ∷ r) = refl
others-behind (suc k) (s ∷ r) = others-behind k r

all-behind : (k : ℕ) (rects : List Rect) → map other_spans (map (drop k) rects) ≡ map (drop (suc k)) rects
all-behind k [] = refl
all-behind k (r ∷ rects) = rw (others-behind k r, all-behind k rects) refl

ends-behind : (f : Span → ℤ) (k : ℕ) (rects : List Rect) → map (λ q. f (first_span q)) (map (drop k) rects) ≡ map (λ q. f (span_at k q)) rects
ends-behind f k [] = refl
ends-behind f k (r ∷ rects) = rw (first-behind k r, ends-behind f k rects) refl

middle-behind : (c : Column) (k : ℕ) (r : Rect) (rects : List Rect) → middle c (drop k r) (map (drop k) rects) ≡ middle_at c k r rects
middle-behind c k r rects = rw (ends-behind (low_of c.kind c.lo) k rects, ends-behind (high_of c.kind c.lo c.hi) k rects, first-behind k r) refl

map-none : (rects : List Rect) → map (drop 0) rects ≡ rects
map-none [] = refl
map-none (r ∷ rects) = ap (λ xs. r ∷ xs) (map-none rects)

pub centre_start : (cs : List Column) (r : Rect) (rects : List Rect) (sums : List ℤ) → sums ≡ [] → sums ++ centre_from (drop 0 cs) (drop 0 r) (map (drop 0) rects) ≡ centre_from cs r rects
centre_start cs r rects sums e = rw (e, map-none rects) refl

pub centre_more : (cs : List Column) (r : Rect) (rects : List Rect) (sums next : List ℤ) (k : ℕ) (c : Column) (sum : ℤ) (whole : List ℤ) → k < length cs → c ≡ slice_index_or cs k c
    → sums ++ centre_from (drop k cs) (drop k r) (map (drop k) rects) ≡ whole → sum ≡ middle_at c k r rects → next ≡ sums ++ sum ∷ []
    → next ++ centre_from (drop (k + 1) cs) (drop (k + 1) r) (map (drop (k + 1)) rects) ≡ whole
centre_more cs r rects sums next k c sum whole l is h m n =
    let e : suc k ≡ k + 1 = omega arith in subst (λ i. next ++ centre_from (drop i cs) (drop i r) (map (drop i) rects) ≡ whole) e (ap (λ xs. xs ++ centre_from (drop (suc k) cs) (drop (suc k) r) (map (drop (suc k)) rects)) n
    ∙ (append_assoc sums (sum ∷ []) (centre_from (drop (suc k) cs) (drop (suc k) r) (map (drop (suc k)) rects))
    ∙ (ap (λ xs. sums ++ xs) (step (drop k cs) (drop-cons cs k c l)) ∙ h)))
  where
    step : (behind : List Column) → behind ≡ slice_index_or cs k c ∷ drop (suc k) cs → sum ∷ centre_from (drop (suc k) cs) (drop (suc k) r) (map (drop (suc k)) rects) ≡ centre_from behind (drop k r) (map (drop k) rects)
    step behind e = rw (e, sym is, middle-behind c k r rects, others-behind k r, all-behind k rects) (ap (λ x. x ∷ centre_from (drop (suc k) cs) (drop (suc k) r) (map (drop (suc k)) rects)) m)

-- what the rects ask of the k-th column
span_fits-at : (cs : List Column) (r : Rect) (k : ℕ) (d : Column) → rect_fits cs r ≡ true → k < length cs → span_fits (slice_index_or cs k d) (span_at k r) ≡ true
span_fits-at [] r k d f l = absurd (omega (arith, l))
span_fits-at (c ∷ cs) [] k d f l = absurd (grind arith)
span_fits-at (c ∷ cs) (s ∷ r) zero d f l = grind arith
span_fits-at (c ∷ cs) (s ∷ r) (suc k) d f l = span_fits-at cs r k d (grind arith) (omega (arith, l))

pub all_fit-at : (cs : List Column) (rects : List Rect) (k : ℕ) (c : Column) → list_all (rect_fits cs) rects ≡ true → k < length cs → c ≡ slice_index_or cs k c → list_all (λ q. span_fits c (span_at k q)) rects ≡ true
all_fit-at cs [] k c f l is = refl
all_fit-at cs (r ∷ rects) k c f l is =
    let ih = all_fit-at cs rects k c (grind arith) l is in let one = subst (λ x. span_fits x (span_at k r) ≡ true) (sym is) (span_fits-at cs r k c (grind arith) l) in grind (arith, ih, one)

pub inner-at : (cs : List Column) (k : ℕ) (d : Column) → all_inner cs ≡ true → k < length cs → is_inner (slice_index_or cs k d) ≡ true
inner-at [] k d f l = absurd (omega (arith, l))
inner-at (c ∷ cs) zero d f l = grind arith
inner-at (c ∷ cs) (suc k) d f l = inner-at cs k d (grind arith) (omega (arith, l))

pub first-at : (cs : List Column) (k : ℕ) (d : Column) → have_first cs ≡ true → k < length cs → let c : Column = slice_index_or cs k d in in_column c (first_value c.kind c.lo) ≡ true
first-at [] k d f l = absurd (omega (arith, l))
first-at (c ∷ cs) zero d f l = grind arith
first-at (c ∷ cs) (suc k) d f l = first-at cs k d (grind arith) (omega (arith, l))

-- a rect that has no span in the column
pub none_at : (r : Rect) (k : ℕ) → slice_get r k ≡ None → span_at k r ≡ Full
none_at [] k e = refl
none_at (s ∷ r) zero e = absurd (cc)
none_at (s ∷ r) (suc k) e = none_at r k e

-- numbers as the machine holds them
pub held : (z : ℤ) → FitsSigned w64 z → to_z w64 (of_z w64 z) ≡ z
held z f = to_z-of_z w64 z f

pub held-sum : (l g x y : ℤ) → FitsSigned w64 l → FitsSigned w64 g → l ≡ x → g ≡ y → to_z w64 (of_z w64 l) +ℤ to_z w64 (of_z w64 g) ≡ x +ℤ y
held-sum l g x y f h a b = ap (λ z. z +ℤ to_z w64 (of_z w64 g)) (held l f ∙ a) ∙ ap (λ z. x +ℤ z) (held g h ∙ b)
