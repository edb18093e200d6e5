-- Rows of a table that are shown.
use Rattle.std.proofs.Common.{◌≡◌, ℕ, true, Bool, List, [], ◌∷◌, refl, ap, ◌∙◌, subst, arith}
use Rattle.std.specs.Prelude.{filter}
use Rattle.std.specs.List.{All, AllZip}
use Rattle.std.proofs.lemmas.List.Elements.{All-head, All-tail}
use Rattle.sr_cell.specs.Attrs.{has_column}
use Rattle.sr_cell.specs.Cells.{Row, cell_at}
use Rattle.sr_cell.proofs.ColumnSets.{has_column-more}
use Rattle.sr_model.specs.SortedRows.{ascend, key_lt}
use Rattle.sr_rows.proofs.Order.{ascend-tail}
use Rattle.sr_rows.proofs.Parts.{ascend-filter}
use Rattle.sr_region.specs.Regions.{rank}
use Rattle.sr_region.proofs.Ranks.{stand}
use Rattle.sr_join.specs.Shown.{Shown, Shows, AreShown, cell_of, are_by}

-- a needed cell of a row that is shown
pub shown-cell : (need column : ℕ) (p : Row) (s : Shown) → has_column need column ≡ true → Shows need p s → cell_of column s ≡ cell_at p column
shown-cell need column p s has shows =
    ap (λ cells. cell_at cells (rank s.attrs column)) shows.cells ∙ stand s.attrs column p (has_column-more s.attrs need column shows.columns has)

-- the rows that two tests choose which tell the same of each
pub filter-same : (f g : Row → Bool) (all : List Row) → All (λ p. f p ≡ g p) all → filter f all ≡ filter g all
filter-same f g [] same = refl
filter-same f g (p ∷ all) same =
    let one : f p ≡ g p = All-head (λ p. f p ≡ g p) p all same in
    let ih = filter-same f g all (All-tail (λ p. f p ≡ g p) p all same) in
    rw (one, ih) refl

pub shown-same : (need : ℕ) (all : List Row) (f g : Row → Bool) (shown : List Shown) → All (λ p. f p ≡ g p) all → AreShown need all f shown → AreShown need all g shown
shown-same need all f g shown same are = subst (λ rows. AllZip (Shows need) rows shown) (filter-same f g all same) are

-- what shows rows by key stands by key
by-rows : (need key : ℕ) (rows : List Row) (shown : List Shown) → has_column need key ≡ true → ascend key rows ≡ true → AllZip (Shows need) rows shown → are_by key shown ≡ true
by-rows need key [] [] has h zip = refl
by-rows need key [] (s ∷ shown) has h zip = absurd zip
by-rows need key (r ∷ rows) [] has h zip = absurd zip
by-rows need key (r ∷ []) (s ∷ []) has h zip = refl
by-rows need key (r ∷ []) (s ∷ t ∷ shown) has h zip = absurd zip.1
by-rows need key (r ∷ q ∷ rows) (s ∷ []) has h zip = absurd zip.1
by-rows need key (r ∷ q ∷ rows) (s ∷ t ∷ shown) has h zip =
    let one = shown-cell need key r s has zip.0 in
    let two = shown-cell need key q t has zip.1.0 in
    let ih = by-rows need key (q ∷ rows) (t ∷ shown) has (ascend-tail key r (q ∷ rows) h) zip.1 in
    let less : key_lt key r q ≡ true = grind arith in
    rw (one, two) (grind (arith, less, ih))

pub shown-by : (need key : ℕ) (all : List Row) (test : Row → Bool) (shown : List Shown) → has_column need key ≡ true → ascend key all ≡ true → AreShown need all test shown → are_by key shown ≡ true
shown-by need key all test shown has h are = by-rows need key (filter test all) shown has (ascend-filter key test all h) are
