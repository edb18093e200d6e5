-- A region stays one when a change is applied.
use Rattle.std.proofs.Common.{◌≡◌, ℕ, zero, suc, Bool, true, false, cond, not, ◌||◌, List, [], ◌∷◌, refl, sym, ap, subst, ◌∙◌, arith}
use Rattle.std.specs.Prelude.{Option, Some, None, if◌then◌else◌}
use Rattle.std.specs.List.{All}
use Rattle.std.proofs.lemmas.List.Elements.{All-filter, All-head, All-tail, All-weaker}
use Rattle.sr_cell.specs.declared.cell.Cell.{Cell}
use Rattle.sr_cell.specs.declared.table.Column.{Column}
use Rattle.sr_cell.specs.declared.table.Table.{Table}
use Rattle.sr_cell.specs.Attrs.{has_column, project}
use Rattle.sr_cell.specs.Cells.{Row, cell_at, cell_le, cell_eq}
use Rattle.sr_cell.specs.Columns.{in_column, is_point}
use Rattle.sr_cell.proofs.Order.{apart-cells, cell_le-total}
use Rattle.sr_model.specs.SortedRows.{ascend, with_row}
use Rattle.sr_box.specs.Points.{Rect, in_any}
use Rattle.sr_rows.specs.Places.{is_apart}
use Rattle.sr_rows.proofs.Places.{with_row-ascend}
use Rattle.sr_rows.proofs.Parts.{ascend-filter}
use Rattle.sr_region.specs.declared.region.Region.{Region}
use Rattle.sr_region.specs.Regions.{rank, IsPart, IsRowIn, IsArea, IsRegion}
use Rattle.sr_region.specs.Applied.{with_new, applied, IsNew}
use Rattle.sr_rows.specs.Keys.{without_key}
use Rattle.sr_region.specs.Entering.{part_in, with_part}
use Rattle.sr_region.proofs.Ranks.{stand}
use Rattle.sr_region.proofs.Parts.{is_in-point}
use Rattle.sr_region.proofs.Ordered.{All-with_row}

-- ---- cells of one column are in order

column-order : (c : Column) (v w : Cell) → in_column c v ≡ true → in_column c w ≡ true → (cell_le v w || cell_le w v) ≡ true
column-order c v w h g = go (cell_le v w) refl
  where
    go : (b : Bool) → cell_le v w ≡ b → (b || cell_le w v) ≡ true
    go true e = refl
    go false e = cell_le-total c.kind c.lo c.hi c.nullable v w h g e

pub cells-order : (cs : List Column) (p q : Row) (n : ℕ) → is_point cs p ≡ true → is_point cs q ≡ true → (cell_le (cell_at p n) (cell_at q n) || cell_le (cell_at q n) (cell_at p n)) ≡ true
cells-order [] [] [] n h g = refl
cells-order [] [] (w ∷ q) n h g = absurd (cc)
cells-order [] (v ∷ p) q n h g = absurd (cc)
cells-order (c ∷ cs) [] q n h g = absurd (cc)
cells-order (c ∷ cs) (v ∷ p) [] n h g = absurd (cc)
cells-order (c ∷ cs) (v ∷ p) (w ∷ q) zero h g = column-order c v w (grind arith) (grind arith)
cells-order (c ∷ cs) (v ∷ p) (w ∷ q) (suc n) h g = cells-order cs p q n (grind arith) (grind arith)

-- ---- the new row among the others

module _ (t : Table) (attrs key : ℕ) (has : has_column attrs key ≡ true) where
  -- a row of other key
  row-apart : (q p : Row) → is_point t.columns q ≡ true → is_point t.columns p ≡ true → cell_eq (cell_at (project attrs q) (rank attrs key)) (cell_at p key) ≡ false
      → is_apart (rank attrs key) (project attrs q ∷ []) (project attrs p) ≡ true
  row-apart q p is_q is_p other =
      let order = cells-order t.columns q p key is_q is_p in
      rw (stand attrs key q has, stand attrs key p has)
      (let differ : cell_eq (cell_at q key) (cell_at p key) ≡ false = sym (ap (λ v. cell_eq v (cell_at p key)) (stand attrs key q has)) ∙ other in
      let one = apart-cells (cell_at q key) (cell_at p key) order differ in
      grind (arith, one))

  pub rows-apart : (rows : List Row) (p : Row) → All (IsPart t.columns attrs) rows → is_point t.columns p ≡ true
      → is_apart (rank attrs key) (without_key (rank attrs key) (cell_at p key) rows) (project attrs p) ≡ true
  rows-apart [] p all is = refl
  rows-apart (r ∷ rows) p all is =
      go (cell_eq (cell_at r (rank attrs key)) (cell_at p key)) refl (rows-apart rows p (All-tail (IsPart t.columns attrs) r rows all) is) (All-head (IsPart t.columns attrs) r rows all)
    where
      others : List Row
      others = without_key (rank attrs key) (cell_at p key) rows

      go : (b : Bool) → cell_eq (cell_at r (rank attrs key)) (cell_at p key) ≡ b → is_apart (rank attrs key) others (project attrs p) ≡ true
          → IsPart t.columns attrs r → is_apart (rank attrs key) (cond (not b) (r ∷ others) others) (project attrs p) ≡ true
      go true e ih part = ih
      go false e ih part =
          let one = subst (λ x. cell_eq (cell_at x (rank attrs key)) (cell_at p key) ≡ false → is_apart (rank attrs key) (x ∷ []) (project attrs p) ≡ true)
          part.2 (row-apart part.0 p part.1 is) e in
          grind (arith, ih, one)

-- ---- the region

pub with_new-part : (key attrs : ℕ) (rects : List Rect) (after : Option Row) (rows : List Row) → with_new key attrs rects after rows ≡ with_part key (part_in attrs rects after) rows
with_new-part key attrs rects None rows = refl
with_new-part key attrs rects (Some row) rows = go (in_any rects row)
  where
    go : (b : Bool) → (if b then with_row key rows (project attrs row) else rows) ≡ with_part key (if b then Some (project attrs row) else None) rows
    go true = refl
    go false = refl

rows-part : (t : Table) (key attrs : ℕ) (rects : List Rect) (rows : List Row) (v : Cell) → IsArea t key attrs rects → All (IsRowIn t.columns attrs rects) rows → ascend (rank attrs key) rows ≡ true
    → (after : Option Row) → IsNew t v after
    → All (IsRowIn t.columns attrs rects) (with_new (rank attrs key) attrs rects after (without_key (rank attrs key) v rows))
    × (ascend (rank attrs key) (with_new (rank attrs key) attrs rects after (without_key (rank attrs key) v rows)) ≡ true)
rows-part t key attrs rects rows v area all h None new =
    (All-filter (λ row. not (cell_eq (cell_at row (rank attrs key)) v)) (IsRowIn t.columns attrs rects) rows all, ascend-filter (rank attrs key) (λ row. not (cell_eq (cell_at row (rank attrs key)) v)) rows h)
rows-part t key attrs rects rows v area all h (Some row) new = go (in_any rects row) refl
  where
    P : Row → Type 0
    P = IsRowIn t.columns attrs rects

    others : List Row
    others = without_key (rank attrs key) v rows

    in_others : All P others
    in_others = All-filter (λ row. not (cell_eq (cell_at row (rank attrs key)) v)) P rows all

    ascending : ascend (rank attrs key) others ≡ true
    ascending = ascend-filter (rank attrs key) (λ row. not (cell_eq (cell_at row (rank attrs key)) v)) rows h

    own : cell_at row key ≡ v
    own = ap (cell_at row) area.key ∙ new.1

    apart : is_apart (rank attrs key) others (project attrs row) ≡ true
    apart = subst (λ w. is_apart (rank attrs key) (without_key (rank attrs key) w rows) (project attrs row) ≡ true) own (rows-apart t attrs key area.has_key rows row (All-weaker P (IsPart t.columns attrs) (λ r is. is.0) rows all) new.0)

    go : (b : Bool) → in_any rects row ≡ b
        → All P (if b then with_row (rank attrs key) others (project attrs row) else others)
        × (ascend (rank attrs key) (if b then with_row (rank attrs key) others (project attrs row) else others) ≡ true)
    go true e = (
      All-with_row P (rank attrs key) others (project attrs row) in_others ((row, new.0, refl), is_in-point t.columns attrs rects row area.fit area.only new.0 ∙ e),
      with_row-ascend (rank attrs key) others (project attrs row) ascending apart,
    )
    go false e = (in_others, ascending)

pub applied-region : (t : Table) (v : Cell) (after : Option Row) (g : Region) → IsRegion t g → IsNew t v after → IsRegion t (applied v after g)
applied-region t v after g h new =
    let both = rows-part t g.key g.attrs g.rects g.rows v h.area h.rows h.ascending after new in
    record { area = h.area; rows = both.0; ascending = both.1 }

-- rows that the region has once the change is applied
pub changed-region : (t : Table) (v : Cell) (after part : Option Row) (place : ℕ) (g : Region) (rows : List Row) → place ≡ rank g.attrs g.key → part ≡ part_in g.attrs g.rects after
    → rows ≡ with_part place part (without_key place v g.rows) → IsRegion t g → IsNew t v after → IsRegion t (record g { rows = rows })
changed-region t v after part place g rows at is changed h new =
    let same : with_new (rank g.attrs g.key) g.attrs g.rects after (without_key (rank g.attrs g.key) v g.rows) ≡ rows =
    with_new-part (rank g.attrs g.key) g.attrs g.rects after (without_key (rank g.attrs g.key) v g.rows)
    ∙ ap (λ n. with_part n (part_in g.attrs g.rects after) (without_key n v g.rows)) (sym at)
    ∙ ap (λ p. with_part place p (without_key place v g.rows)) (sym is) ∙ sym changed in
    subst (λ xs. IsRegion t (record g { rows = xs })) same (applied-region t v after g h new)
