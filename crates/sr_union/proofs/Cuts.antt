-- The cuts of parts of spans.
use Rattle.std.proofs.Common.{◌≡◌, ℕ, true, false, true≢false, List, [], ◌∷◌, ◌++◌, refl, sym, ap, arith, ◌∙◌, cond}
use Rattle.std.specs.Prelude.{Bool, ◌&&◌, ◌||◌, Option, Some, None, ℤ, int_le, int_lt, pos, ◌+ℤ◌, ◌-ℤ◌}
use Rattle.std.specs.Int.{int_max, int_min}
use Rattle.std.proofs.lemmas.Int.{ints}
use Rattle.sr_cell.specs.declared.cell.Cell.{Cell}
use Rattle.sr_cell.specs.declared.cell.Cell.TheVariants.{Num, Str, Null as NullCell}
use Rattle.sr_cell.specs.declared.table.Kind.{Kind}
use Rattle.sr_cell.specs.declared.table.Kind.TheVariants.{Num as Numbers, Str as Texts}
use Rattle.sr_box.specs.declared.span.Span.{Span}
use Rattle.sr_box.specs.declared.span.Span.TheVariants.{Full, Nums, Strs, Null}
use Rattle.sr_cell.specs.Cells.{text_le, cell_eq}
use Rattle.sr_box.specs.Spans.{is_below, fits_kind}
use Rattle.sr_box.specs.Corners.{text_cut, end_cut, null_cut, num_cut}
use Rattle.sr_box.specs.Cut.{nums, strs, text_max, end_min, meet, under, over, beyond, values}
use Rattle.sr_union.specs.Grid.{is_among, has_cut}

pub is_among-append : (a b : List Cell) (v : Cell) → is_among (a ++ b) v ≡ (is_among a v || is_among b v)
is_among-append [] b v = refl
is_among-append (u ∷ a) b v = let ih = is_among-append a b v in grind (arith, ih)

num_cut-is : (b : Bool) (n : ℤ) (v : Cell) → is_among (num_cut b n) v ≡ (b && cell_eq (Num n) v)
num_cut-is true n v = grind arith
num_cut-is false n v = refl

-- a cut of a span of numbers, as a test
pub nums-cut : (low high lo hi : ℤ) (v : Cell) → has_cut Numbers low high false (Nums lo hi) v ≡ ((int_lt low lo && cell_eq (Num lo) v) || (int_lt hi high && cell_eq (Num (hi +ℤ pos 1)) v))
nums-cut low high lo hi v = is_among-append (num_cut (int_lt low lo) lo) (num_cut (int_lt hi high) (hi +ℤ pos 1)) v
    ∙ rw (num_cut-is (int_lt low lo) lo v, num_cut-is (int_lt hi high) (hi +ℤ pos 1) v) refl

abbrev pub maybe_cut : Kind → ℤ → ℤ → Bool → Option Span → Cell → Bool
maybe_cut k low high n None v = false
maybe_cut k low high n (Some s) v = has_cut k low high n s v

nums-maybe_cut : (low high lo hi : ℤ) (v : Cell) → maybe_cut Numbers low high false (nums lo hi) v ≡ true
    → ((int_le lo hi && int_lt low lo && cell_eq (Num lo) v) || (int_le lo hi && int_lt hi high && cell_eq (Num (hi +ℤ pos 1)) v)) ≡ true
nums-maybe_cut low high lo hi v h = go (int_le lo hi) h
  where
    go : (b : Bool) → maybe_cut Numbers low high false (cond b (Some (Nums lo hi)) None) v ≡ true → ((b && int_lt low lo && cell_eq (Num lo) v) || (b && int_lt hi high && cell_eq (Num (hi +ℤ pos 1)) v)) ≡ true
    go true k = let e = nums-cut low high lo hi v in grind (arith, e)
    go false k = absurd (true≢false (sym k))

strs-maybe_cut : (low high : ℤ) (lo : List ℕ) (hi : Option (List ℕ)) (v : Cell) → maybe_cut Texts low high false (strs lo hi) v ≡ true
    → (is_below lo hi && (is_among (text_cut lo) v || is_among (end_cut hi) v)) ≡ true
strs-maybe_cut low high lo hi v h = go (is_below lo hi) h
  where
    go : (b : Bool) → maybe_cut Texts low high false (cond b (Some (Strs lo hi)) None) v ≡ true → (b && (is_among (text_cut lo) v || is_among (end_cut hi) v)) ≡ true
    go true k = let e = is_among-append (text_cut lo) (end_cut hi) v in grind (arith, e)
    go false k = absurd (true≢false (sym k))

pub strs-cut : (low high : ℤ) (lo : List ℕ) (hi : Option (List ℕ)) (v : Cell) → has_cut Texts low high false (Strs lo hi) v ≡ (is_among (text_cut lo) v || is_among (end_cut hi) v)
strs-cut low high lo hi v = is_among-append (text_cut lo) (end_cut hi) v

text_max-cut : (a c : List ℕ) (v : Cell) → is_among (text_cut (text_max a c)) v ≡ true → (is_among (text_cut a) v || is_among (text_cut c) v) ≡ true
text_max-cut a c v h = go (text_le a c) h
  where
    go : (b : Bool) → is_among (text_cut (cond b c a)) v ≡ true → (is_among (text_cut a) v || is_among (text_cut c) v) ≡ true
    go true k = grind arith
    go false k = grind arith

end_min-cut : (b d : Option (List ℕ)) (v : Cell) → is_among (end_cut (end_min b d)) v ≡ true → (is_among (end_cut b) v || is_among (end_cut d) v) ≡ true
end_min-cut None d v h = h
end_min-cut (Some b) None v h = ap (λ x. x || false) h
end_min-cut (Some b) (Some d) v h = go (text_le b d) h
  where
    go : (x : Bool) → is_among (end_cut (cond x (Some b) (Some d))) v ≡ true → (is_among (end_cut (Some b)) v || is_among (end_cut (Some d)) v) ≡ true
    go true k = grind arith
    go false k = grind arith

-- a text above another is not empty, so its end is also a beginning
end_begins : (a c : List ℕ) (b : Option (List ℕ)) (v : Cell) → is_below a (end_min b (Some c)) ≡ true → is_among (end_cut (end_min b (Some c))) v ≡ true
    → (is_among (end_cut b) v || is_among (text_cut c) v) ≡ true
end_begins a [] None v l h = absurd (grind arith)
end_begins a (x ∷ c) None v l h = h
end_begins a [] (Some b) v l h = go b l h
  where
    go : (b : List ℕ) → is_below a (end_min (Some b) (Some [])) ≡ true → is_among (end_cut (end_min (Some b) (Some []))) v ≡ true → (is_among (end_cut (Some b)) v || false) ≡ true
    go [] l h = absurd (grind arith)
    go (y ∷ b) l h = absurd (grind arith)
end_begins a (x ∷ c) (Some b) v l h = end_min-cut (Some b) (Some (x ∷ c)) v h

-- one of four tests holds where one of two of them does
odd_two : (a b c d : Bool) → (a || c) ≡ true → ((a || b) || (c || d)) ≡ true
odd_two true b c d h = refl
odd_two false true c d h = refl
odd_two false false true d h = refl
odd_two false false false d h = absurd (true≢false (sym h))

even_two : (a b c d : Bool) → (b || d) ≡ true → ((a || b) || (c || d)) ≡ true
even_two true b c d h = refl
even_two false true c d h = refl
even_two false false true d h = refl
even_two false false false d h = h

joined : (i l e h g a b c d : Bool) → ((i && l && e) || (i && h && g)) ≡ true → (i ≡ true → (l && e) ≡ true → ((a || b) || (c || d)) ≡ true) → (i ≡ true → (h && g) ≡ true → ((a || b) || (c || d)) ≡ true) → ((a || b) || (c || d)) ≡ true
joined false l e h g a b c d x m n = absurd (true≢false (sym x))
joined true l e h g a b c d x m n = go (l && e) (h && g) x (m refl) (n refl)
  where
    go : (p q : Bool) → (p || q) ≡ true → (p ≡ true → ((a || b) || (c || d)) ≡ true) → (q ≡ true → ((a || b) || (c || d)) ≡ true) → ((a || b) || (c || d)) ≡ true
    go true q x m n = m refl
    go false q x m n = n x

joined_texts : (i x y a b c d : Bool) → (i && (x || y)) ≡ true → (x ≡ true → (a || c) ≡ true) → (y ≡ true → (b || d) ≡ true) → ((a || b) || (c || d)) ≡ true
joined_texts false x y a b c d e m n = absurd (true≢false (sym e))
joined_texts true true y a b c d e m n = odd_two a b c d (m refl)
joined_texts true false y a b c d e m n = even_two a b c d (n e)

max-cut : (low a c : ℤ) (v : Cell) → (int_lt low (int_max a c) && cell_eq (Num (int_max a c)) v) ≡ true → ((int_lt low a && cell_eq (Num a) v) || (int_lt low c && cell_eq (Num c) v)) ≡ true
max-cut low a c v h = go (int_lt c a) h
  where
    go : (b : Bool) → (int_lt low (cond b a c) && cell_eq (Num (cond b a c)) v) ≡ true → ((int_lt low a && cell_eq (Num a) v) || (int_lt low c && cell_eq (Num c) v)) ≡ true
    go true k = grind arith
    go false k = grind arith

min-cut : (high a c : ℤ) (v : Cell) → (int_lt (int_min a c) high && cell_eq (Num (int_min a c +ℤ pos 1)) v) ≡ true
    → ((int_lt a high && cell_eq (Num (a +ℤ pos 1)) v) || (int_lt c high && cell_eq (Num (c +ℤ pos 1)) v)) ≡ true
min-cut high a c v h = go (int_lt c a) h
  where
    go : (b : Bool) → (int_lt (cond b c a) high && cell_eq (Num (cond b c a +ℤ pos 1)) v) ≡ true
        → ((int_lt a high && cell_eq (Num (a +ℤ pos 1)) v) || (int_lt c high && cell_eq (Num (c +ℤ pos 1)) v)) ≡ true
    go true k = grind arith
    go false k = grind arith

values-meet : (k : Kind) (low high : ℤ) (s t : Span) (v : Cell) → maybe_cut k low high false (meet s t) v ≡ true → (has_cut k low high false s v || has_cut k low high false t v) ≡ true
values-meet Numbers low high Full t v h = h
values-meet Texts low high Full t v h = h
values-meet k low high (Nums a b) Full v h = ap (λ x. x || has_cut k low high false Full v) h
values-meet Numbers low high (Nums a b) (Nums c d) v h =
    let e = nums-maybe_cut low high (int_max a c) (int_min b d) v h in let x = nums-cut low high a b v in let y = nums-cut low high c d v in
    rw (x, y) (joined (int_le (int_max a c) (int_min b d)) (int_lt low (int_max a c)) (cell_eq (Num (int_max a c)) v) (int_lt (int_min b d) high) (cell_eq (Num (int_min b d +ℤ pos 1)) v)
    (int_lt low a && cell_eq (Num a) v) (int_lt b high && cell_eq (Num (b +ℤ pos 1)) v) (int_lt low c && cell_eq (Num c) v) (int_lt d high && cell_eq (Num (d +ℤ pos 1)) v)
    e (λ i k. let m = max-cut low a c v k in grind arith) (λ i k. let m = min-cut high b d v k in grind arith))
values-meet Texts low high (Nums a b) (Nums c d) v h = absurd (none (int_le (int_max a c) (int_min b d)) h)
  where
    none : (x : Bool) → maybe_cut Texts low high false (cond x (Some (Nums (int_max a c) (int_min b d))) None) v ≡ true → ⊥
    none true k = true≢false (sym k)
    none false k = true≢false (sym k)
values-meet k low high (Nums a b) (Strs c d) v h = absurd (true≢false (sym h))
values-meet k low high (Nums a b) Null v h = absurd (true≢false (sym h))
values-meet k low high (Strs a b) Null v h = absurd (true≢false (sym h))
values-meet Numbers low high Null Full v h = absurd (true≢false (sym h))
values-meet Texts low high Null Full v h = absurd (true≢false (sym h))
values-meet k low high Null (Nums c d) v h = absurd (true≢false (sym h))
values-meet k low high Null (Strs c d) v h = absurd (true≢false (sym h))
values-meet Numbers low high Null Null v h = absurd (true≢false (sym h))
values-meet Texts low high Null Null v h = absurd (true≢false (sym h))
values-meet k low high (Strs a b) Full v h = ap (λ x. x || has_cut k low high false Full v) h
values-meet k low high (Strs a b) (Nums c d) v h = absurd (true≢false (sym h))
values-meet Numbers low high (Strs a b) (Strs c d) v h = absurd (none (is_below (text_max a c) (end_min b d)) h)
  where
    none : (x : Bool) → maybe_cut Numbers low high false (cond x (Some (Strs (text_max a c) (end_min b d))) None) v ≡ true → ⊥
    none true k = true≢false (sym k)
    none false k = true≢false (sym k)
values-meet Texts low high (Strs a b) (Strs c d) v h =
    rw (strs-cut low high a b v, strs-cut low high c d v)
    (joined_texts (is_below (text_max a c) (end_min b d)) (is_among (text_cut (text_max a c)) v) (is_among (end_cut (end_min b d)) v)
    (is_among (text_cut a) v) (is_among (end_cut b) v) (is_among (text_cut c) v) (is_among (end_cut d) v)
    (strs-maybe_cut low high (text_max a c) (end_min b d) v h) (text_max-cut a c v) (end_min-cut b d v))

no_nums : (low high lo hi : ℤ) (v : Cell) → maybe_cut Texts low high false (nums lo hi) v ≡ true → ⊥
no_nums low high lo hi v h = go (int_le lo hi) h
  where
    go : (x : Bool) → maybe_cut Texts low high false (cond x (Some (Nums lo hi)) None) v ≡ true → ⊥
    go true k = true≢false (sym k)
    go false k = true≢false (sym k)

no_strs : (low high : ℤ) (lo : List ℕ) (hi : Option (List ℕ)) (v : Cell) → maybe_cut Numbers low high false (strs lo hi) v ≡ true → ⊥
no_strs low high lo hi v h = go (is_below lo hi) h
  where
    go : (x : Bool) → maybe_cut Numbers low high false (cond x (Some (Strs lo hi)) None) v ≡ true → ⊥
    go true k = true≢false (sym k)
    go false k = true≢false (sym k)

same_end : (c : ℤ) (v : Cell) → cell_eq (Num ((c -ℤ pos 1) +ℤ pos 1)) v ≡ cell_eq (Num c) v
same_end c (Num n) = grind (arith, ints)
same_end c (Str s) = refl
same_end c NullCell = refl

under_end : (a b p e c l d : Bool) → (b || (p && e)) ≡ true → e ≡ c → l ≡ true → ((a || b) || ((l && c) || d)) ≡ true
under_end true b p e c l d m z w = refl
under_end false true p e c l d m z w = refl
under_end false false true e c l d m z w = rw (w, sym z, m) refl
under_end false false false e c l d m z w = absurd (true≢false (sym m))

over_end : (a b p e c l : Bool) → (a || (p && e)) ≡ true → l ≡ true → ((a || b) || (c || (l && e))) ≡ true
over_end true b p e c l m w = refl
over_end false true p e c l m w = refl
over_end false false p e true l m w = refl
over_end false false true e false l m w = rw (w, m) refl
over_end false false false e false l m w = absurd (true≢false (sym m))

values-under : (k : Kind) (low high : ℤ) (n : Bool) (s t : Span) (v : Cell) → fits_kind k low high n s ≡ true → maybe_cut k low high false (under low s t) v ≡ true → (has_cut k low high false s v || has_cut k low high false t v) ≡ true
values-under k low high n Full Full v f h = absurd (true≢false (sym h))
values-under Numbers low high n Full (Nums c d) v f h =
    let e = nums-maybe_cut low high low (c -ℤ pos 1) v h in let y = nums-cut low high c d v in let z = same_end c v in
    let w : int_le low (c -ℤ pos 1) ≡ true → int_lt low c ≡ true = λ l. grind (arith, ints) in let w2 : int_lt low low ≡ false = grind (arith, ints) in
    rw y (grind (arith, e, z, w, w2))
values-under Texts low high n Full (Nums c d) v f h = absurd (no_nums low high low (c -ℤ pos 1) v h)
values-under Numbers low high n Full (Strs c d) v f h = absurd (no_strs low high [] (Some c) v h)
values-under Texts low high n Full (Strs c d) v f h =
    let e = strs-maybe_cut low high [] (Some c) v h in let m = end_begins [] c None v in
    rw (strs-cut low high c d v) (grind (arith, e, m))
values-under k low high n (Nums a b) Full v f h = absurd (true≢false (sym h))
values-under Numbers low high n (Nums a b) (Nums c d) v f h =
    let e = nums-maybe_cut low high a (int_min b (c -ℤ pos 1)) v h in let x = nums-cut low high a b v in let y = nums-cut low high c d v in let z = same_end c v in
    let m = min-cut high b (c -ℤ pos 1) v in
    let w : int_le a (int_min b (c -ℤ pos 1)) ≡ true → int_lt low c ≡ true = λ l. grind (arith, ints) in
    rw (x, y) (joined (int_le a (int_min b (c -ℤ pos 1))) (int_lt low a) (cell_eq (Num a) v) (int_lt (int_min b (c -ℤ pos 1)) high) (cell_eq (Num (int_min b (c -ℤ pos 1) +ℤ pos 1)) v)
    (int_lt low a && cell_eq (Num a) v) (int_lt b high && cell_eq (Num (b +ℤ pos 1)) v) (int_lt low c && cell_eq (Num c) v) (int_lt d high && cell_eq (Num (d +ℤ pos 1)) v)
    e (λ i k. grind arith) (λ i k. under_end (int_lt low a && cell_eq (Num a) v) (int_lt b high && cell_eq (Num (b +ℤ pos 1)) v) (int_lt (c -ℤ pos 1) high) (cell_eq (Num ((c -ℤ pos 1) +ℤ pos 1)) v)
    (cell_eq (Num c) v) (int_lt low c) (int_lt d high && cell_eq (Num (d +ℤ pos 1)) v) (m k) z (w i)))
values-under Texts low high n (Nums a b) (Nums c d) v f h = absurd (no_nums low high a (int_min b (c -ℤ pos 1)) v h)
values-under k low high n (Nums a b) (Strs c d) v f h = absurd (true≢false (sym h))
values-under k low high n Full Null v f h = absurd (true≢false (sym h))
values-under k low high n (Nums a b) Null v f h = absurd (true≢false (sym h))
values-under k low high n (Strs a b) Null v f h = absurd (true≢false (sym h))
values-under k low high n Null t v f h = absurd (true≢false (sym h))
values-under k low high n (Strs a b) Full v f h = absurd (true≢false (sym h))
values-under k low high n (Strs a b) (Nums c d) v f h = absurd (true≢false (sym h))
values-under Numbers low high n (Strs a b) (Strs c d) v f h = absurd (no_strs low high a (end_min b (Some c)) v h)
values-under Texts low high n (Strs a b) (Strs c d) v f h =
    let e = strs-maybe_cut low high a (end_min b (Some c)) v h in let m = end_begins a c b v in
    rw (strs-cut low high a b v, strs-cut low high c d v) (grind (arith, e, m))

end_text : (d : List ℕ) (v : Cell) → is_among (text_cut d) v ≡ true → is_among (end_cut (Some d)) v ≡ true
end_text [] v h = absurd (grind arith)
end_text (x ∷ d) v h = h

joined_over : (i x b a t c d : Bool) → (i && (x || b)) ≡ true → (x ≡ true → (a || t) ≡ true) → (t ≡ true → d ≡ true) → ((a || b) || (c || d)) ≡ true
joined_over false x b a t c d e m n = absurd (true≢false (sym e))
joined_over true false b a t c d e m n = even_two a b c d (ap (λ y. y || d) e)
joined_over true true b true t c d e m n = refl
joined_over true true b false t c d e m n = even_two false b c d (ap (λ y. b || y) (n (m refl)) ∙ or_true b)
  where
    or_true : (b : Bool) → (b || true) ≡ true
    or_true true = refl
    or_true false = refl

values-over : (k : Kind) (low high : ℤ) (n : Bool) (s t : Span) (v : Cell) → fits_kind k low high n s ≡ true → maybe_cut k low high false (over high s t) v ≡ true → (has_cut k low high false s v || has_cut k low high false t v) ≡ true
values-over k low high n Full Full v f h = absurd (true≢false (sym h))
values-over Numbers low high n Full (Nums c d) v f h =
    let e = nums-maybe_cut low high (d +ℤ pos 1) high v h in let y = nums-cut low high c d v in
    let w : int_le (d +ℤ pos 1) high ≡ true → int_lt d high ≡ true = λ l. grind (arith, ints) in let w2 : int_lt high high ≡ false = grind (arith, ints) in
    rw y (grind (arith, e, w, w2))
values-over Texts low high n Full (Nums c d) v f h = absurd (no_nums low high (d +ℤ pos 1) high v h)
values-over k low high n Full (Strs c None) v f h = absurd (true≢false (sym h))
values-over Numbers low high n Full (Strs c (Some d)) v f h = absurd (no_strs low high d None v h)
values-over Texts low high n Full (Strs c (Some d)) v f h =
    let e = strs-maybe_cut low high d None v h in let m = end_text d v in
    rw (strs-cut low high c (Some d) v) (grind (arith, e, m))
values-over k low high n (Nums a b) Full v f h = absurd (true≢false (sym h))
values-over Numbers low high n (Nums a b) (Nums c d) v f h =
    let e = nums-maybe_cut low high (int_max a (d +ℤ pos 1)) b v h in let x = nums-cut low high a b v in let y = nums-cut low high c d v in
    let m = max-cut low a (d +ℤ pos 1) v in
    let w : int_le (int_max a (d +ℤ pos 1)) b ≡ true → int_lt d high ≡ true = λ l. grind (arith, ints) in
    rw (x, y) (joined (int_le (int_max a (d +ℤ pos 1)) b) (int_lt low (int_max a (d +ℤ pos 1))) (cell_eq (Num (int_max a (d +ℤ pos 1))) v) (int_lt b high) (cell_eq (Num (b +ℤ pos 1)) v)
    (int_lt low a && cell_eq (Num a) v) (int_lt b high && cell_eq (Num (b +ℤ pos 1)) v) (int_lt low c && cell_eq (Num c) v) (int_lt d high && cell_eq (Num (d +ℤ pos 1)) v)
    e (λ i k. over_end (int_lt low a && cell_eq (Num a) v) (int_lt b high && cell_eq (Num (b +ℤ pos 1)) v) (int_lt low (d +ℤ pos 1)) (cell_eq (Num (d +ℤ pos 1)) v)
    (int_lt low c && cell_eq (Num c) v) (int_lt d high) (m k) (w i))
    (λ i k. grind arith))
values-over Texts low high n (Nums a b) (Nums c d) v f h = absurd (no_nums low high (int_max a (d +ℤ pos 1)) b v h)
values-over k low high n (Nums a b) (Strs c d) v f h = absurd (true≢false (sym h))
values-over k low high n Full Null v f h = absurd (true≢false (sym h))
values-over k low high n (Nums a b) Null v f h = absurd (true≢false (sym h))
values-over k low high n (Strs a b) Null v f h = absurd (true≢false (sym h))
values-over k low high n Null t v f h = absurd (true≢false (sym h))
values-over k low high n (Strs a b) Full v f h = absurd (true≢false (sym h))
values-over k low high n (Strs a b) (Nums c d) v f h = absurd (true≢false (sym h))
values-over k low high n (Strs a b) (Strs c None) v f h = absurd (true≢false (sym h))
values-over Numbers low high n (Strs a b) (Strs c (Some d)) v f h = absurd (no_strs low high (text_max a d) b v h)
values-over Texts low high n (Strs a b) (Strs c (Some d)) v f h =
    rw (strs-cut low high a b v, strs-cut low high c (Some d) v)
    (joined_over (is_below (text_max a d) b) (is_among (text_cut (text_max a d)) v) (is_among (end_cut b) v)
    (is_among (text_cut a) v) (is_among (text_cut d) v) (is_among (text_cut c) v) (is_among (end_cut (Some d)) v)
    (strs-maybe_cut low high (text_max a d) b v h) (text_max-cut a d v) (end_text d v))

-- ---- the place before Null

-- a span of a column of that kind that does not have all values
abbrev is_part : Kind → Span → Bool
is_part k Full = false
is_part Numbers (Nums lo hi) = true
is_part Numbers (Strs lo hi) = false
is_part Texts (Nums lo hi) = false
is_part Texts (Strs lo hi) = true
is_part k Null = true

abbrev is_part_maybe : Kind → Option Span → Bool
is_part_maybe k None = false
is_part_maybe k (Some s) = is_part k s

or_false : (b : Bool) → (b || false) ≡ b
or_false true = refl
or_false false = refl

-- the cuts are the place before Null, and those among the values
pub cut-is : (k : Kind) (low high : ℤ) (n : Bool) (s : Span) (v : Cell) → has_cut k low high n s v ≡ ((is_part k s && is_among (null_cut n) v) || has_cut k low high false s v)
cut-is Numbers low high n Full v = refl
cut-is Texts low high n Full v = refl
cut-is Numbers low high n (Nums lo hi) v = is_among-append (null_cut n) (num_cut (int_lt low lo) lo ++ num_cut (int_lt hi high) (hi +ℤ pos 1)) v
cut-is Texts low high n (Nums lo hi) v = refl
cut-is Numbers low high n (Strs lo hi) v = refl
cut-is Texts low high n (Strs lo hi) v = is_among-append (null_cut n) (text_cut lo ++ end_cut hi) v
cut-is Numbers low high n Null v = sym (or_false (is_among (null_cut n) v))
cut-is Texts low high n Null v = sym (or_false (is_among (null_cut n) v))

maybe-is : (k : Kind) (low high : ℤ) (n : Bool) (m : Option Span) (v : Cell) → maybe_cut k low high n m v ≡ ((is_part_maybe k m && is_among (null_cut n) v) || maybe_cut k low high false m v)
maybe-is k low high n None v = refl
maybe-is k low high n (Some s) v = cut-is k low high n s v

-- what is cut from two spans is a part where one of them is
nums-part : (k : Kind) (a b : ℤ) → is_part_maybe k (nums a b) ≡ true → k ≡ Numbers
nums-part Numbers a b h = refl
nums-part Texts a b h = absurd (go (int_le a b) h)
  where
    go : (x : Bool) → is_part_maybe Texts (cond x (Some (Nums a b)) None) ≡ true → ⊥
    go true k = true≢false (sym k)
    go false k = true≢false (sym k)

strs-part : (k : Kind) (lo : List ℕ) (hi : Option (List ℕ)) → is_part_maybe k (strs lo hi) ≡ true → k ≡ Texts
strs-part Texts lo hi h = refl
strs-part Numbers lo hi h = absurd (go (is_below lo hi) h)
  where
    go : (x : Bool) → is_part_maybe Numbers (cond x (Some (Strs lo hi)) None) ≡ true → ⊥
    go true k = true≢false (sym k)
    go false k = true≢false (sym k)

meet-part : (k : Kind) (s t : Span) → is_part_maybe k (meet s t) ≡ true → (is_part k s || is_part k t) ≡ true
meet-part k Full t h = h
meet-part k (Nums a b) Full h = ap (λ x. x || false) h
meet-part k (Nums a b) (Nums c d) h = let e = nums-part k (int_max a c) (int_min b d) h in rw e refl
meet-part k (Nums a b) (Strs c d) h = absurd (true≢false (sym h))
meet-part k (Nums a b) Null h = absurd (true≢false (sym h))
meet-part k (Strs a b) Full h = ap (λ x. x || false) h
meet-part k (Strs a b) (Nums c d) h = absurd (true≢false (sym h))
meet-part k (Strs a b) (Strs c d) h = let e = strs-part k (text_max a c) (end_min b d) h in rw e refl
meet-part k (Strs a b) Null h = absurd (true≢false (sym h))
meet-part k Null Full h = refl
meet-part k Null (Nums c d) h = absurd (true≢false (sym h))
meet-part k Null (Strs c d) h = absurd (true≢false (sym h))
meet-part k Null Null h = refl

under-part : (k : Kind) (low : ℤ) (s t : Span) → is_part_maybe k (under low s t) ≡ true → (is_part k s || is_part k t) ≡ true
under-part k low Full Full h = absurd (true≢false (sym h))
under-part k low Full (Nums c d) h = let e = nums-part k low (c -ℤ pos 1) h in rw e refl
under-part k low Full (Strs c d) h = let e = strs-part k [] (Some c) h in rw e refl
under-part k low Full Null h = absurd (true≢false (sym h))
under-part k low (Nums a b) Full h = absurd (true≢false (sym h))
under-part k low (Nums a b) (Nums c d) h = let e = nums-part k a (int_min b (c -ℤ pos 1)) h in rw e refl
under-part k low (Nums a b) (Strs c d) h = absurd (true≢false (sym h))
under-part k low (Nums a b) Null h = absurd (true≢false (sym h))
under-part k low (Strs a b) Full h = absurd (true≢false (sym h))
under-part k low (Strs a b) (Nums c d) h = absurd (true≢false (sym h))
under-part k low (Strs a b) (Strs c d) h = let e = strs-part k a (end_min b (Some c)) h in rw e refl
under-part k low (Strs a b) Null h = absurd (true≢false (sym h))
under-part k low Null t h = absurd (true≢false (sym h))

over-part : (k : Kind) (high : ℤ) (s t : Span) → is_part_maybe k (over high s t) ≡ true → (is_part k s || is_part k t) ≡ true
over-part k high Full Full h = absurd (true≢false (sym h))
over-part k high Full (Nums c d) h = let e = nums-part k (d +ℤ pos 1) high h in rw e refl
over-part k high Full (Strs c None) h = absurd (true≢false (sym h))
over-part k high Full (Strs c (Some d)) h = let e = strs-part k d None h in rw e refl
over-part k high Full Null h = absurd (true≢false (sym h))
over-part k high (Nums a b) Full h = absurd (true≢false (sym h))
over-part k high (Nums a b) (Nums c d) h = let e = nums-part k (int_max a (d +ℤ pos 1)) b h in rw e refl
over-part k high (Nums a b) (Strs c d) h = absurd (true≢false (sym h))
over-part k high (Nums a b) Null h = absurd (true≢false (sym h))
over-part k high (Strs a b) Full h = absurd (true≢false (sym h))
over-part k high (Strs a b) (Nums c d) h = absurd (true≢false (sym h))
over-part k high (Strs a b) (Strs c None) h = absurd (true≢false (sym h))
over-part k high (Strs a b) (Strs c (Some d)) h = let e = strs-part k (text_max a d) b h in rw e refl
over-part k high (Strs a b) Null h = absurd (true≢false (sym h))
over-part k high Null t h = absurd (true≢false (sym h))

-- so its cuts are cuts of one of them
lifted : (p a c n x y z w u q : Bool) → z ≡ ((p && n) || x) → w ≡ ((a && n) || y) → u ≡ ((c && n) || q) → (p ≡ true → (a || c) ≡ true) → (x ≡ true → (y || q) ≡ true) → z ≡ true → (w || u) ≡ true
lifted true true c true x y z w u q hz hw hu part old h = grind (arith, hw)
lifted true false true true x y z w u q hz hw hu part old h = grind (arith, hu)
lifted true false false true x y z w u q hz hw hu part old h = absurd (true≢false (sym (part refl)))
lifted true a c false x y z w u q hz hw hu part old h = let e : x ≡ true = sym hz ∙ h in let o = old e in grind (arith, hw, hu, o)
lifted false a c n x y z w u q hz hw hu part old h = let e : x ≡ true = sym hz ∙ h in let o = old e in grind (arith, hw, hu, o)

pub meet-cut : (k : Kind) (low high : ℤ) (n : Bool) (s t : Span) (v : Cell) → maybe_cut k low high n (meet s t) v ≡ true → (has_cut k low high n s v || has_cut k low high n t v) ≡ true
meet-cut k low high n s t v h =
    lifted (is_part_maybe k (meet s t)) (is_part k s) (is_part k t) (is_among (null_cut n) v) (maybe_cut k low high false (meet s t) v) (has_cut k low high false s v) (maybe_cut k low high n (meet s t) v)
    (has_cut k low high n s v) (has_cut k low high n t v) (has_cut k low high false t v)
    (maybe-is k low high n (meet s t) v) (cut-is k low high n s v) (cut-is k low high n t v) (meet-part k s t) (values-meet k low high s t v) h

pub under-cut : (k : Kind) (low high : ℤ) (n : Bool) (s t : Span) (v : Cell) → fits_kind k low high n s ≡ true → maybe_cut k low high n (under low s t) v ≡ true → (has_cut k low high n s v || has_cut k low high n t v) ≡ true
under-cut k low high n s t v f h =
    lifted (is_part_maybe k (under low s t)) (is_part k s) (is_part k t) (is_among (null_cut n) v) (maybe_cut k low high false (under low s t) v) (has_cut k low high false s v) (maybe_cut k low high n (under low s t) v)
    (has_cut k low high n s v) (has_cut k low high n t v) (has_cut k low high false t v)
    (maybe-is k low high n (under low s t) v) (cut-is k low high n s v) (cut-is k low high n t v) (under-part k low s t) (values-under k low high n s t v f) h

pub over-cut : (k : Kind) (low high : ℤ) (n : Bool) (s t : Span) (v : Cell) → fits_kind k low high n s ≡ true → maybe_cut k low high n (over high s t) v ≡ true → (has_cut k low high n s v || has_cut k low high n t v) ≡ true
over-cut k low high n s t v f h =
    lifted (is_part_maybe k (over high s t)) (is_part k s) (is_part k t) (is_among (null_cut n) v) (maybe_cut k low high false (over high s t) v) (has_cut k low high false s v) (maybe_cut k low high n (over high s t) v)
    (has_cut k low high n s v) (has_cut k low high n t v) (has_cut k low high false t v)
    (maybe-is k low high n (over high s t) v) (cut-is k low high n s v) (cut-is k low high n t v) (over-part k high s t) (values-over k low high n s t v f) h

second : (a b : Bool) → b ≡ true → (a || b) ≡ true
second true b e = refl
second false b e = e

-- what lies on the other side of Null begins or ends there alone, or is one of the spans
no_own : (low : ℤ) (v : Cell) → is_among (num_cut (int_lt low low) low) v ≡ false
no_own low v = let w : int_lt low low ≡ false = grind (arith, ints) in rw (num_cut-is (int_lt low low) low v, w) refl

no_end : (high : ℤ) (v : Cell) → is_among (num_cut (int_lt high high) (high +ℤ pos 1)) v ≡ false
no_end high v = let w : int_lt high high ≡ false = grind (arith, ints) in rw (num_cut-is (int_lt high high) (high +ℤ pos 1) v, w) refl

whole-cut : (k : Kind) (low high : ℤ) (n : Bool) (v : Cell) → has_cut k low high n (values k low high) v ≡ true → has_cut k low high n Null v ≡ true
whole-cut Numbers low high n v h =
    let x = is_among-append (null_cut n) (num_cut (int_lt low low) low ++ num_cut (int_lt high high) (high +ℤ pos 1)) v in
    let y = is_among-append (num_cut (int_lt low low) low) (num_cut (int_lt high high) (high +ℤ pos 1)) v in
    let a = no_own low v in let b = no_end high v in grind (arith, x, y, a, b, h)
whole-cut Texts low high n v h = let x = is_among-append (null_cut n) (text_cut [] ++ end_cut None) v in grind (arith, x, h)

null-part : (k : Kind) (low high : ℤ) (n : Bool) (s : Span) (v : Cell) → is_part k s ≡ true → has_cut k low high n Null v ≡ true → has_cut k low high n s v ≡ true
null-part k low high n s v p h =
    let x = cut-is k low high n s v in let y = cut-is k low high n Null v in let z = none k in grind (arith, x, y, z, p, h)
  where
    none : (k : Kind) → has_cut k low high false Null v ≡ false
    none Numbers = refl
    none Texts = refl

pub beyond-cut : (k : Kind) (low high : ℤ) (n : Bool) (s t : Span) (v : Cell) → fits_kind k low high n t ≡ true → maybe_cut k low high n (beyond k low high n s t) v ≡ true → (has_cut k low high n s v || has_cut k low high n t v) ≡ true
beyond-cut k low high n Full Full v g h = absurd (true≢false (sym h))
beyond-cut k low high true Full (Nums c d) v g h = second (has_cut k low high true Full v) (has_cut k low high true (Nums c d) v) (null-part k low high true (Nums c d) v (fits-part k c d g) h)
  where
    fits-part : (k : Kind) (c d : ℤ) → fits_kind k low high true (Nums c d) ≡ true → is_part k (Nums c d) ≡ true
    fits-part Numbers c d g = refl
    fits-part Texts c d g = absurd (true≢false (sym g))
beyond-cut k low high false Full (Nums c d) v g h = absurd (true≢false (sym h))
beyond-cut k low high true Full (Strs c d) v g h = second (has_cut k low high true Full v) (has_cut k low high true (Strs c d) v) (null-part k low high true (Strs c d) v (fits-part k g) h)
  where
    fits-part : (k : Kind) → fits_kind k low high true (Strs c d) ≡ true → is_part k (Strs c d) ≡ true
    fits-part Texts g = refl
    fits-part Numbers g = absurd (true≢false (sym g))
beyond-cut k low high false Full (Strs c d) v g h = absurd (true≢false (sym h))
beyond-cut k low high n Full Null v g h = let x = whole-cut k low high n v h in grind (arith, x)
beyond-cut k low high n (Nums a b) Full v g h = absurd (true≢false (sym h))
beyond-cut k low high n (Nums a b) (Nums c d) v g h = absurd (true≢false (sym h))
beyond-cut k low high n (Nums a b) (Strs c d) v g h = absurd (true≢false (sym h))
beyond-cut k low high n (Nums a b) Null v g h = grind (arith, h)
beyond-cut k low high n (Strs a b) Full v g h = absurd (true≢false (sym h))
beyond-cut k low high n (Strs a b) (Nums c d) v g h = absurd (true≢false (sym h))
beyond-cut k low high n (Strs a b) (Strs c d) v g h = absurd (true≢false (sym h))
beyond-cut k low high n (Strs a b) Null v g h = grind (arith, h)
beyond-cut k low high n Null Full v g h = absurd (true≢false (sym h))
beyond-cut k low high n Null (Nums c d) v g h = grind (arith, h)
beyond-cut k low high n Null (Strs c d) v g h = grind (arith, h)
beyond-cut k low high n Null Null v g h = absurd (true≢false (sym h))
