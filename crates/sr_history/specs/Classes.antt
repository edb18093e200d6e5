-- Stamps and classes: which of the held points a client keeps together.
use Rattle.std.specs.Prelude.{ℕ, Bool, true, ◌&&◌, ◌||◌, ◌==◌, nat_lt, ◌+◌, max, List, [], ◌∷◌, ◌↔◌, IsTrue, if◌then◌else◌}
use Rattle.std.specs.List.{list_any}
use Rattle.sr_cell.specs.declared.table.Table.{Table}
use Rattle.sr_cell.specs.Columns.{table_at}
use Rattle.sr_cell.specs.Attrs.{includes}
use Rattle.sr_cell.specs.Cells.{Row}
use Rattle.sr_box.specs.Points.{Points, HasPoint}
use Rattle.sr_model.specs.Queries.{Part, Query, points_of}
use Rattle.sr_history.specs.declared.mark.Mark.{Mark}
use Rattle.sr_history.specs.Marks.{is_held}

-- a query with a number, and whether it was answered
pub record Numbered : Type 0 where
  pub query : Query
  pub answered : Bool

-- a part of that table has the point, and needs none but these columns
abbrev pub touches : List Part → ℕ → ℕ → Points
touches parts table attrs p = list_any (λ part. part.table == table && includes attrs part.need && points_of part p) parts

abbrev pub stamp_from : ℕ → List Numbered → ℕ → ℕ → Row → ℕ
stamp_from n [] table attrs p = 0
stamp_from n (q ∷ queries) table attrs p = max (if q.answered && touches q.query.parts table attrs p then n else 0) (stamp_from (n + 1) queries table attrs p)

-- The stamp of a point that is held under some columns: the greatest number of an answered query that touches it, or 0. The
-- queries are numbered from 1.
abbrev pub stamp : List Numbered → ℕ → ℕ → Row → ℕ
stamp queries table attrs p = stamp_from 1 queries table attrs p

-- A class: the points of a table that are held under exactly these columns, with this stamp.
pub record Class : Type 0 where
  pub table : ℕ
  pub attrs : ℕ
  pub stamp : ℕ

abbrev pub in_class : List Mark → List Numbered → Class → Points
in_class marks queries k p = is_held marks k.table k.attrs p && stamp queries k.table k.attrs p == k.stamp

abbrev pub same_class : Class → Class → Bool
same_class a b = a.table == b.table && a.attrs == b.attrs && a.stamp == b.stamp

-- class order: by table, then by the columns as a number, then by stamp
abbrev pub in_class_order : Class → Class → Bool
in_class_order a b =
    nat_lt a.table b.table || (a.table == b.table && (nat_lt a.attrs b.attrs || (a.attrs == b.attrs && nat_lt a.stamp b.stamp)))

abbrev pub ascending : List Class → Bool
ascending [] = true
ascending (a ∷ []) = true
ascending (a ∷ b ∷ classes) = in_class_order a b && ascending (b ∷ classes)

-- the classes that have a point, in class order
pub record AreClasses (schema : List Table) (marks : List Mark) (queries : List Numbered) (classes : List Class) : Type 0 where
  pub order : IsTrue (ascending classes)
  pub each : (k : Class) → IsTrue (list_any (same_class k) classes) ↔ HasPoint (table_at schema k.table).columns (in_class marks queries k)
