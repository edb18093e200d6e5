-- The place of a column among those of a set.
use Rattle.std.proofs.Common.{◌≡◌, ℕ, zero, suc, ◌+◌, [], ◌∷◌, refl, sym, ap, ◌∙◌, arith, List, map}
use Rattle.std.specs.Prelude.{Bool, true, false, if◌then◌else◌, ◌&&◌}
use Rattle.sr_cell.specs.Attrs.{has_column, project, project_from}
use Rattle.sr_cell.specs.Cells.{Row, cell_at}
use Rattle.sr_model.specs.SortedRows.{ascend, key_lt}
use Rattle.sr_region.specs.Regions.{rank}
use Rattle.sr_region.specs.Laws.{CellsStand}

pub rank_more : (attrs c : ℕ) → rank attrs (c + 1) ≡ (if has_column attrs c then 1 else 0) + rank attrs c
rank_more attrs c = let e : c + 1 ≡ suc c = omega arith in rw e refl

-- how many of so many columns from that one on are in the set
abbrev rank_from : ℕ → ℕ → ℕ → ℕ
rank_from attrs c zero = 0
rank_from attrs c (suc k) = (if has_column attrs c then 1 else 0) + rank_from attrs (c + 1) k

rank-split : (attrs c k : ℕ) → rank attrs (c + k) ≡ rank attrs c + rank_from attrs c k
rank-split attrs c zero = let e : c + 0 ≡ c = omega arith in rw e (omega arith)
rank-split attrs c (suc k) =
    let e : c + suc k ≡ c + 1 + k = omega arith in
    let ih = rank-split attrs (c + 1) k in
    let one = rank_more attrs c in
    ap (rank attrs) e ∙ ih ∙ omega (arith, one)

stand-from : (c attrs : ℕ) (row : Row) (k : ℕ) → has_column attrs (c + k) ≡ true → cell_at (project_from c attrs row) (rank_from attrs c k) ≡ cell_at row k
stand-from c attrs [] k has = refl
stand-from c attrs (v ∷ row) zero has = let e : c + 0 ≡ c = omega arith in let here : has_column attrs c ≡ true = ap (has_column attrs) (sym e) ∙ has in rw here refl
stand-from c attrs (v ∷ row) (suc k) has =
    let e : c + 1 + k ≡ c + suc k = omega arith in
    go (has_column attrs c) (stand-from (c + 1) attrs row k (ap (has_column attrs) e ∙ has))
  where
    go : (b : Bool) → cell_at (project_from (c + 1) attrs row) (rank_from attrs (c + 1) k) ≡ cell_at row k
        → cell_at (if b then v ∷ project_from (c + 1) attrs row else project_from (c + 1) attrs row) ((if b then 1 else 0) + rank_from attrs (c + 1) k) ≡ cell_at row k
    go true ih = let one : 1 + rank_from attrs (c + 1) k ≡ suc (rank_from attrs (c + 1) k) = omega arith in rw one ih
    go false ih = let none : 0 + rank_from attrs (c + 1) k ≡ rank_from attrs (c + 1) k = omega arith in rw none ih

pub stand : CellsStand
stand attrs column row has =
    let zeros : 0 + column ≡ column = omega arith in
    let none : 0 + rank_from attrs 0 column ≡ rank_from attrs 0 column = omega arith in
    let same : rank attrs column ≡ rank_from attrs 0 column = ap (rank attrs) (sym zeros) ∙ rank-split attrs 0 column ∙ none in
    ap (cell_at (project attrs row)) same ∙ stand-from 0 attrs row column (ap (has_column attrs) zeros ∙ has)

pub ascend-project : (a key : ℕ) (rows : List Row) → has_column a key ≡ true → ascend (rank a key) (map (project a) rows) ≡ ascend key rows
ascend-project a key [] has = refl
ascend-project a key (r ∷ []) has = refl
ascend-project a key (r ∷ s ∷ rows) has = rw (stand a key r has, stand a key s has) (ap (λ b. key_lt key r s && b) (ascend-project a key (s ∷ rows) has))
