-- Two lists of lent rows by key as one.
use Rattle.std.proofs.Common.{◌≡◌, ℕ, Bool, true, false, cond, ◌||◌, List, [], ◌∷◌, ◌++◌, drop, length, refl, sym, ap, subst, ◌∙◌, arith}
use Rattle.std.specs.Prelude.{filter, Option, Some, None, option_to_list}
use Rattle.std.specs.List.{AllZip}
use Rattle.sr_cell.specs.Attrs.{has_column}
use Rattle.sr_cell.specs.Cells.{Row, cell_at, cell_le}
use Rattle.sr_cell.proofs.Order.{cell_le-refl}
use Rattle.sr_model.specs.SortedRows.{ascend}
use Rattle.sr_rows.proofs.Order.{key_lt-le, key_lt-not, is_first, ascend-tail, ascend-first}
use Rattle.sr_rows.proofs.Parts.{first-filter}
use Rattle.sr_join.specs.Joins.{past, united, is_own_next}
use Rattle.sr_join.specs.Shown.{Shown, Shows, AreShown, cell_of}
use Rattle.sr_join.proofs.Shows.{shown-cell}

pub united-none : (key : ℕ) (rows : List Shown) → united key rows [] ≡ rows
united-none key [] = refl
united-none key (r ∷ rows) = refl

-- the next row of both
pub next-own : (key : ℕ) (own rest more : List Shown) (o : Option Shown) → is_own_next key own more ≡ true → own ≡ option_to_list o ++ rest → rest ≡ drop 1 own
    → united key own more ≡ option_to_list o ++ united key rest (past key own more)
next-own key [] rest more o is e same = absurd (grind (arith, is))
next-own key (r ∷ own) rest more None is e same = absurd (longer (e ∙ same))
  where
    longer : r ∷ own ≡ own → ⊥
    longer e = let n : length (r ∷ own) ≡ length own = ap length e in absurd (omega (arith, n))
next-own key (r ∷ own) rest more (Some x) is e same =
    let first : r ≡ x = cc in
    rw same (here more is ∙ ap (λ first. first ∷ united key own (past key (r ∷ own) more)) first)
  where
    here : (more : List Shown) → is_own_next key (r ∷ own) more ≡ true → united key (r ∷ own) more ≡ r ∷ united key own (past key (r ∷ own) more)
    here [] h = ap (λ xs. r ∷ xs) (sym (united-none key own))
    here (m ∷ more) h = let le : cell_le (cell_of key r) (cell_of key m) ≡ true = h in rw le refl

-- ---- rows of one table

abbrev Zip : ℕ → List Row → List Shown → Type 0
Zip need rows shown = AllZip (Shows need) rows shown

-- the first row is in the first list alone
zip-own : (need key : ℕ) (r : Row) (s : Shown) (own more : List Shown) (others both : List Row) → has_column need key ≡ true → Shows need r s → Zip need others more → is_first key r others ≡ true
    → Zip need both (united key own more) → Zip need (r ∷ both) (united key (s ∷ own) more)
zip-own need key r s own [] [] both has shows zip first ih = (shows, subst (Zip need both) (united-none key own) ih)
zip-own need key r s own [] (q ∷ others) both has shows zip first ih = absurd zip
zip-own need key r s own (m ∷ more) [] both has shows zip first ih = absurd zip
zip-own need key r s own (m ∷ more) (q ∷ others) both has shows zip first ih =
    let one = shown-cell need key r s has shows in
    let two = shown-cell need key q m has zip.0 in
    let le : cell_le (cell_at r key) (cell_at q key) ≡ true = key_lt-le key r q (grind arith) in
    let above : cell_le (cell_at q key) (cell_at r key) ≡ false = key_lt-not key r q (grind arith) in
    rw (one, two, le, above) (shows, ih)

-- the first row is in the second list alone
zip-other : (need key : ℕ) (r : Row) (s : Shown) (own more : List Shown) (others both : List Row) → has_column need key ≡ true → Shows need r s → Zip need others own → is_first key r others ≡ true
    → Zip need both (united key own more) → Zip need (r ∷ both) (united key own (s ∷ more))
zip-other need key r s [] more [] both has shows zip first ih = (shows, ih)
zip-other need key r s [] more (q ∷ others) both has shows zip first ih = absurd zip
zip-other need key r s (m ∷ own) more [] both has shows zip first ih = absurd zip
zip-other need key r s (m ∷ own) more (q ∷ others) both has shows zip first ih =
    let one = shown-cell need key r s has shows in
    let two = shown-cell need key q m has zip.0 in
    let above : cell_le (cell_at q key) (cell_at r key) ≡ false = key_lt-not key r q (grind arith) in
    rw (two, one, above) (shows, ih)

-- the first row is in both
zip-both : (need key : ℕ) (r : Row) (s t : Shown) (own more : List Shown) (both : List Row) → has_column need key ≡ true → Shows need r s → Shows need r t
    → Zip need both (united key own more) → Zip need (r ∷ both) (united key (s ∷ own) (t ∷ more))
zip-both need key r s t own more both has shows other ih =
    let one = shown-cell need key r s has shows in
    let two = shown-cell need key r t has other in
    let le = cell_le-refl (cell_at r key) in
    rw (one, two, le) (shows, ih)

-- so are those that pass one test or the other, of these rows
abbrev Unites : ℕ → ℕ → (Row → Bool) → (Row → Bool) → List Row → Type 0
Unites need key f g rows = (own more : List Shown) → AreShown need rows f own → AreShown need rows g more → AreShown need rows (λ p. f p || g p) (united key own more)

-- what passes one test or the other is shown, each row once
pub united-shown : (need key : ℕ) (f g : Row → Bool) (all : List Row) (own more : List Shown) → has_column need key ≡ true → ascend key all ≡ true
    → AreShown need all f own → AreShown need all g more → AreShown need all (λ p. f p || g p) (united key own more)
united-shown need key f g [] [] [] has h a b = tt
united-shown need key f g [] (s ∷ own) more has h a b = absurd a
united-shown need key f g [] [] (t ∷ more) has h a b = absurd b
united-shown need key f g (r ∷ rows) own more has h a b =
    go (f r) (g r) own more a b (λ own more a b. united-shown need key f g rows own more has (ascend-tail key r rows h) a b)
  where
    here : is_first key r rows ≡ true
    here = ascend-first key r rows h

    go : (x y : Bool) (own more : List Shown) → Zip need (cond x (r ∷ filter f rows) (filter f rows)) own → Zip need (cond y (r ∷ filter g rows) (filter g rows)) more → Unites need key f g rows
        → Zip need (cond (x || y) (r ∷ filter (λ p. f p || g p) rows) (filter (λ p. f p || g p) rows)) (united key own more)
    go true true [] more a b ih = absurd a
    go true true (s ∷ own) [] a b ih = absurd b
    go true true (s ∷ own) (t ∷ more) a b ih = zip-both need key r s t own more (filter (λ p. f p || g p) rows) has a.0 b.0 (ih own more a.1 b.1)
    go true false [] more a b ih = absurd a
    go true false (s ∷ own) more a b ih = zip-own need key r s own more (filter g rows) (filter (λ p. f p || g p) rows) has a.0 b (first-filter key r g rows here) (ih own more a.1 b)
    go false true own [] a b ih = absurd b
    go false true own (t ∷ more) a b ih = zip-other need key r t own more (filter f rows) (filter (λ p. f p || g p) rows) has b.0 a (first-filter key r f rows here) (ih own more a b.1)
    go false false own more a b ih = ih own more a b
