-- What a query asks: the points of its parts that are not covered.
use Rattle.std.specs.Prelude.{ℕ, not, ◌&&◌, List, [], ◌∷◌, IsTrue, ◌≡◌, ◌⊎◌, ◌↔◌}
use Rattle.std.specs.List.{list_all}
use Rattle.sr_cell.specs.declared.table.Table.{Table}
use Rattle.sr_cell.specs.Columns.{table_at}
use Rattle.sr_cell.specs.Attrs.{has_column}
use Rattle.sr_box.specs.Points.{Points, in_any, rect_fits, constrains_only, AreSame, HasPoint, HasNoPoint, IsEssential}
use Rattle.sr_message.specs.declared.message.AskPart.{AskPart}
use Rattle.sr_model.specs.Queries.{Part, points_of}
use Rattle.sr_history.specs.declared.mark.Mark.{Mark}
use Rattle.sr_history.specs.Marks.{is_covered}

-- the points of a part that are not covered
abbrev pub rest_of : List Mark → Part → Points
rest_of marks part p = points_of part p && not (is_covered marks part.table part.need p)

-- The asked points are just those of the rest, of which there is one; the asked columns are the needed and the essential
-- ones; and the rects constrain no other column.
pub record IsRest (schema : List Table) (marks : List Mark) (part : Part) (ask : AskPart) : Type 0 where
  pub table : ask.table ≡ part.table
  pub fits : IsTrue (list_all (rect_fits (table_at schema part.table).columns) ask.rects)
  pub bound : IsTrue (list_all (constrains_only ask.attrs 0) ask.rects)
  pub some : HasPoint (table_at schema part.table).columns (rest_of marks part)
  pub same : AreSame (table_at schema part.table).columns (in_any ask.rects) (rest_of marks part)
  pub columns : (c : ℕ) → IsTrue (has_column ask.attrs c)
      ↔ (IsTrue (has_column part.need c) ⊎ IsEssential (table_at schema part.table).columns (rest_of marks part) c)

-- what is asked: an entry for each part whose rest has a point, in the order of the parts
pub data Asks (schema : List Table) (marks : List Mark) : List Part → List AskPart → Type 0 where
  nothing : Asks schema marks [] []
  covered : (part : Part) (parts : List Part) (asks : List AskPart) →
      HasNoPoint (table_at schema part.table).columns (rest_of marks part) → Asks schema marks parts asks → Asks schema marks (part ∷ parts) asks
  asked : (part : Part) (parts : List Part) (ask : AskPart) (asks : List AskPart) →
      IsRest schema marks part ask → Asks schema marks parts asks → Asks schema marks (part ∷ parts) (ask ∷ asks)
