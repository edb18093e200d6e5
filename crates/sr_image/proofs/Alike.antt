-- Texts and beginnings that are alike.
use Rattle.std.proofs.Common.{◌≡◌, ◌∙◌, ℕ, zero, suc, ◌-◌, ◌^◌, ◌<◌, ◌≤◌, true, false, get_or, sym, List, [], ◌∷◌, length, refl, ap, arith}
use Rattle.std.specs.Prelude.{nat_lt}
use Rattle.std.proofs.Math.Pow.{pow_mono}
use Rattle.std.proofs.lemmas.Bool.{lt-ltb}
use Rattle.sr_cell.specs.Cells.{Row}
use Rattle.sr_model.specs.SortedRows.{key_lt}
use Rattle.sr_image.specs.declared.image.Head.{Head}
use Rattle.sr_store.specs.declared.start.Kept.{Kept}
use Rattle.sr_image.specs.Reading.{same_texts, are_alike, is_above, is_before, is_behind, head_of}

-- lists of texts that are not of one length are not the same
pub same_texts-length : (xs ys : List (List ℕ)) → (length xs ≡ length ys → ⊥) → same_texts xs ys ≡ false
same_texts-length [] [] ne = absurd (ne refl)
same_texts-length [] (y ∷ ys) ne = refl
same_texts-length (x ∷ xs) [] ne = refl
same_texts-length (x ∷ xs) (y ∷ ys) ne = let ih = same_texts-length xs ys (λ same. ne (ap suc same)) in grind (arith, ih)

-- the last row decides
above-at : (key : ℕ) (rows : List Row) (row d : Row) (n : ℕ) → length rows ≡ suc n → is_above key rows row ≡ key_lt key (get_or rows n d) row
above-at key [] row d n e = absurd (omega (arith, e))
above-at key (r ∷ []) row d zero e = refl
above-at key (r ∷ []) row d (suc n) e = absurd (omega (arith, e))
above-at key (r ∷ s ∷ more) row d zero e = absurd (omega (arith, e))
above-at key (r ∷ s ∷ more) row d (suc n) e = above-at key (s ∷ more) row d n (omega (arith, e))

pub above-last : (key : ℕ) (rows : List Row) (row last : Row) → 1 ≤ length rows → last ≡ get_or rows (length rows - 1) last → is_above key rows row ≡ key_lt key last row
above-last key rows row last some is = above-at key rows row last (length rows - 1) (omega (arith, some)) ∙ ap (λ (r : Row). key_lt key r row) (sym is)

-- the last part decides
behind-at : (before : List Kept) (h : Head) (d : Kept) (n : ℕ) → length before ≡ suc n → is_behind before h ≡ is_before (head_of (get_or before n d)) h
behind-at [] h d n e = absurd (omega (arith, e))
behind-at (k ∷ []) h d zero e = refl
behind-at (k ∷ []) h d (suc n) e = absurd (omega (arith, e))
behind-at (k ∷ l ∷ more) h d zero e = absurd (omega (arith, e))
behind-at (k ∷ l ∷ more) h d (suc n) e = behind-at (l ∷ more) h d n (omega (arith, e))

pub behind-last : (before : List Kept) (h : Head) (last : Kept) → 1 ≤ length before → last ≡ get_or before (length before - 1) last → is_behind before h ≡ is_before (head_of last) h
behind-last before h last some is = behind-at before h last (length before - 1) (omega (arith, some)) ∙ ap (λ (k : Kept). is_before (head_of k) h) (sym is)

-- a set of columns below 16 is below each greater power
pub below-power : (attrs n : ℕ) → attrs < 2 ^ 16 → 16 ≤ n → nat_lt attrs (2 ^ n) ≡ true
below-power attrs n low le = let more : 2 ^ 16 ≤ 2 ^ n = pow_mono le in lt-ltb _ _ (omega (arith, low, more))

-- nothing is like any beginning
pub alike-end : (front bytes : List ℕ) → length bytes < 1 → are_alike front bytes ≡ true
alike-end [] bytes none = refl
alike-end (a ∷ front) [] none = refl
alike-end (a ∷ front) (b ∷ bytes) none = absurd (omega (arith, none))
