-- How many rects the regions of a table can have.
use Rattle.std.proofs.Common.{◌≡◌, ℕ, ◌+◌, ◌*◌, ◌≤◌, true, false, List, [], ◌∷◌, ◌++◌, length, refl, subst, arith, length-append}
use Rattle.std.specs.Prelude.{Bool, not, ◌&&◌, ◌||◌, ◌==◌, if◌then◌else◌}
use Rattle.std.specs.List.{list_all, list_any, All}
use Rattle.std.proofs.lemmas.Bool.Decides.{nat_tests}
use Rattle.std.proofs.lemmas.List.Elements.{All-head, All-tail}
use Rattle.sr_cell.specs.declared.table.Table.{Table}
use Rattle.sr_cell.specs.Cells.{Row}
use Rattle.sr_cell.specs.Columns.{table_at}
use Rattle.sr_box.specs.Points.{Rect, times, rect_fits}
use Rattle.sr_box.specs.Corners.{have_first}
use Rattle.sr_union.specs.Grid.{grid, AreCutFrom}
use Rattle.sr_union.proofs.Times.{times-append}
use Rattle.sr_union.proofs.Among.{AreCutFrom-append}
use Rattle.sr_union.proofs.Count.{length-grid}
use Rattle.sr_region.specs.declared.region.Region.{Region}
use Rattle.sr_store.specs.Classes.{is_of, occurs}
use Rattle.sr_store.specs.Renewing.{IsCutFrom}
use Rattle.sr_store.proofs.Adding.{AreOnce}

-- the rects of the regions of a table with these columns
abbrev pub rects_of : List Region → ℕ → ℕ → List Rect
rects_of [] t a = []
rects_of (g ∷ gs) t a = if is_of g t a then g.rects ++ rects_of gs t a else rects_of gs t a

-- how many rects the regions of a table have
abbrev pub pieces : List Region → ℕ → ℕ
pieces [] t = 0
pieces (g ∷ gs) t = (if g.table == t then length g.rects else 0) + pieces gs t

abbrev pub total : List Region → ℕ → List ℕ → ℕ
total gs t [] = 0
total gs t (a ∷ sets) = length (rects_of gs t a) + total gs t sets

-- each region of the table has one of these sets of columns
abbrev pub has_sets : List ℕ → ℕ → List Region → Bool
has_sets sets t [] = true
has_sets sets t (g ∷ gs) = (not (g.table == t) || list_any (λ a. g.attrs == a) sets) && has_sets sets t gs

rects_of-times : (gs : List Region) (t a : ℕ) (p : Row) → times (rects_of gs t a) p ≡ occurs gs t a p
rects_of-times [] t a p = refl
rects_of-times (g ∷ gs) t a p = go (is_of g t a) (rects_of-times gs t a p) (times-append g.rects (rects_of gs t a) p)
  where
    go : (b : Bool) → times (rects_of gs t a) p ≡ occurs gs t a p → times (g.rects ++ rects_of gs t a) p ≡ times g.rects p + times (rects_of gs t a) p
        → times (if b then g.rects ++ rects_of gs t a else rects_of gs t a) p ≡ (if b then times g.rects p else 0) + occurs gs t a p
    go true ih e = omega (arith, ih, e)
    go false ih e = omega (arith, ih)

rects_of-are : (schema : List Table) (given : ℕ → List Rect) (gs : List Region) (t a : ℕ) → All (IsCutFrom schema given) gs → AreCutFrom (table_at schema t).columns (given t) (rects_of gs t a)
rects_of-are schema given [] t a h = tt
rects_of-are schema given (g ∷ gs) t a h =
    go (is_of g t a) refl (rects_of-are schema given gs t a (All-tail (IsCutFrom schema given) g gs h)) (All-head (IsCutFrom schema given) g gs h)
  where
    go : (b : Bool) → is_of g t a ≡ b → AreCutFrom (table_at schema t).columns (given t) (rects_of gs t a) → IsCutFrom schema given g
        → AreCutFrom (table_at schema t).columns (given t) (if b then g.rects ++ rects_of gs t a else rects_of gs t a)
    go true e ih one =
        let same : g.table ≡ t = grind (arith, nat_tests) in
        AreCutFrom-append (table_at schema t).columns (given t) g.rects (rects_of gs t a) (subst (λ u. AreCutFrom (table_at schema u).columns (given u) g.rects) same one) ih
    go false e ih one = ih

rects_of-few : (schema : List Table) (given : ℕ → List Rect) (gs : List Region) (t a : ℕ) → have_first (table_at schema t).columns ≡ true → list_all (rect_fits (table_at schema t).columns) (given t) ≡ true
    → All (IsCutFrom schema given) gs → AreOnce schema gs → length (rects_of gs t a) ≤ 1 * grid (table_at schema t).columns (given t)
rects_of-few schema given gs t a first fit h once =
    length-grid (table_at schema t).columns (given t) (rects_of gs t a) 1 first fit (rects_of-are schema given gs t a h)
    (λ p point. let x = rects_of-times gs t a p in let y = once t a p point in omega (arith, x, y))

total-more : (g : Region) (gs : List Region) (t : ℕ) (sets : List ℕ) → total gs t sets ≤ total (g ∷ gs) t sets
total-more g gs t [] = omega arith
total-more g gs t (a ∷ sets) = go (is_of g t a) (total-more g gs t sets) (length-append g.rects (rects_of gs t a))
  where
    go : (b : Bool) → total gs t sets ≤ total (g ∷ gs) t sets → length (g.rects ++ rects_of gs t a) ≡ length g.rects + length (rects_of gs t a)
        → length (rects_of gs t a) + total gs t sets ≤ length (if b then g.rects ++ rects_of gs t a else rects_of gs t a) + total (g ∷ gs) t sets
    go true ih e = omega (arith, ih, e)
    go false ih e = omega (arith, ih)

total-one : (g : Region) (gs : List Region) (t : ℕ) (sets : List ℕ) → (g.table == t) ≡ true → list_any (λ a. g.attrs == a) sets ≡ true → length g.rects + total gs t sets ≤ total (g ∷ gs) t sets
total-one g gs t [] e h = absurd (grind arith)
total-one g gs t (a ∷ sets) e h = go (is_of g t a) (same (g.table == t) e) h (total-more g gs t sets) (total-one g gs t sets e) (length-append g.rects (rects_of gs t a))
  where
    same : (x : Bool) → x ≡ true → (x && g.attrs == a) ≡ (g.attrs == a)
    same true u = refl
    same false u = absurd (grind (arith, u))

    go : (b : Bool) → b ≡ (g.attrs == a) → ((g.attrs == a) || list_any (λ a. g.attrs == a) sets) ≡ true → total gs t sets ≤ total (g ∷ gs) t sets
        → (list_any (λ a. g.attrs == a) sets ≡ true → length g.rects + total gs t sets ≤ total (g ∷ gs) t sets)
        → length (g.rects ++ rects_of gs t a) ≡ length g.rects + length (rects_of gs t a)
        → length g.rects + (length (rects_of gs t a) + total gs t sets) ≤ length (if b then g.rects ++ rects_of gs t a else rects_of gs t a) + total (g ∷ gs) t sets
    go true w k m ih l = omega (arith, m, l)
    go false w k m ih l = let x = ih (grind (arith, w, k)) in omega (arith, x)

pieces-total : (gs : List Region) (t : ℕ) (sets : List ℕ) → has_sets sets t gs ≡ true → pieces gs t ≤ total gs t sets
pieces-total [] t sets h = omega arith
pieces-total (g ∷ gs) t sets h = let ih = pieces-total gs t sets (grind arith) in go (g.table == t) refl ih
  where
    go : (b : Bool) → (g.table == t) ≡ b → pieces gs t ≤ total gs t sets → (if b then length g.rects else 0) + pieces gs t ≤ total (g ∷ gs) t sets
    go true e ih = let y = total-one g gs t sets e (grind (arith, h, e)) in omega (arith, ih, y)
    go false e ih = let y = total-more g gs t sets in omega (arith, ih, y)

total-few : (gs : List Region) (t m : ℕ) (sets : List ℕ) → ((a : ℕ) → length (rects_of gs t a) ≤ m) → total gs t sets ≤ length sets * m
total-few gs t m [] h = omega arith
total-few gs t m (a ∷ sets) h = let ih = total-few gs t m sets h in let x = h a in grind (arith, ih, x)

-- at most one grid for each set of columns
pub pieces_few : (schema : List Table) (given : ℕ → List Rect) (gs : List Region) (t : ℕ) (sets : List ℕ) → have_first (table_at schema t).columns ≡ true
    → list_all (rect_fits (table_at schema t).columns) (given t) ≡ true → All (IsCutFrom schema given) gs → AreOnce schema gs → has_sets sets t gs ≡ true
    → pieces gs t ≤ length sets * grid (table_at schema t).columns (given t)
pieces_few schema given gs t sets first fit h once has =
    let one : 1 * grid (table_at schema t).columns (given t) ≡ grid (table_at schema t).columns (given t) = omega arith in
    let x = pieces-total gs t sets has in
    let y = total-few gs t (grid (table_at schema t).columns (given t)) sets
    (λ a. subst (λ n. length (rects_of gs t a) ≤ n) one (rects_of-few schema given gs t a first fit h once)) in
    le-trans (pieces gs t) (total gs t sets) (length sets * grid (table_at schema t).columns (given t)) x y
  where
    le-trans : (n m k : ℕ) → n ≤ m → m ≤ k → n ≤ k
    le-trans n m k a b = omega (arith, a, b)
