-- What a list of regions holds, under any meaning of "held" and any stamps.
use Rattle.std.specs.Prelude.{ℕ, Bool, true, ◌&&◌, ◌||◌, ◌==◌, ◌+◌, nat_lt, List, [], ◌∷◌, ◌≡◌, IsTrue, if◌then◌else◌}
use Rattle.std.specs.List.{list_any, All}
use Rattle.sr_cell.specs.declared.cell.Cell.{Cell}
use Rattle.sr_cell.specs.declared.table.Table.{Table}
use Rattle.sr_cell.specs.Columns.{table_at, is_point}
use Rattle.sr_cell.specs.Attrs.{includes}
use Rattle.sr_cell.specs.Cells.{Row}
use Rattle.sr_model.specs.SortedRows.{has_key}
use Rattle.sr_box.specs.Points.{times, in_any}
use Rattle.sr_query.specs.declared.query.Part.{Part}
use Rattle.sr_region.specs.declared.region.Region.{Region}
use Rattle.sr_region.specs.Regions.{rank}

-- a set of points for each table and set of columns, and a stamp for each of their points
abbrev pub Held : Type 0
Held = ℕ → ℕ → Row → Bool

abbrev pub Stamps : Type 0
Stamps = ℕ → ℕ → Row → ℕ

abbrev pub is_of : Region → ℕ → ℕ → Bool
is_of g t a = g.table == t && g.attrs == a

-- in how many rects of the regions of a table with exactly these columns a point lies
abbrev pub occurs : List Region → ℕ → ℕ → Row → ℕ
occurs [] t a p = 0
occurs (g ∷ gs) t a p = (if is_of g t a then times g.rects p else 0) + occurs gs t a p

-- in how many regions of a table with exactly these columns a row has the key
abbrev pub key_occurs : List Region → ℕ → ℕ → Cell → ℕ
key_occurs [] t a k = 0
key_occurs (g ∷ gs) t a k = (if is_of g t a && has_key (rank g.attrs g.key) k g.rows then 1 else 0) + key_occurs gs t a k

-- each point of the region has its stamp
abbrev pub IsStamped : List Table → Stamps → Region → Type 0
IsStamped schema stamps g = (p : Row) → IsTrue (is_point (table_at schema g.table).columns p) → in_any g.rects p ≡ true → stamps g.table g.attrs p ≡ g.stamp

-- class order: by table, then by the columns as a number, then by stamp
abbrev pub is_before : Region → Region → Bool
is_before g h = nat_lt g.table h.table || (g.table == h.table && (nat_lt g.attrs h.attrs || (g.attrs == h.attrs && nat_lt g.stamp h.stamp)))

abbrev pub is_same : Region → Region → Bool
is_same g h = g.table == h.table && (g.attrs == h.attrs && g.stamp == h.stamp)

-- in class order, no two of one class
abbrev pub ascends : List Region → Bool
ascends [] = true
ascends (g ∷ []) = true
ascends (g ∷ h ∷ gs) = is_before g h && ascends (h ∷ gs)

-- The regions hold just these points, each once, and each region's points have its stamp. In class order, the regions are
-- the classes.
pub record Keeps (schema : List Table) (held : Held) (stamps : Stamps) (regions : List Region) : Type 0 where
  pub points : (t a : ℕ) (p : Row) → IsTrue (is_point (table_at schema t).columns p) → occurs regions t a p ≡ (if held t a p then 1 else 0)
  pub stamped : All (IsStamped schema stamps) regions

-- a part of that table has the point, and needs none but these columns
abbrev pub touches : List Part → ℕ → ℕ → Row → Bool
touches parts t a p = list_any (λ part. part.table == t && includes a part.need && in_any part.rects p) parts

-- the stamps after an answer of a query of this number
abbrev pub restamped : ℕ → List Part → Stamps → Stamps
restamped number parts stamps t a p = if touches parts t a p then number else stamps t a p
