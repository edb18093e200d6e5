-- Which class is dropped first.
use Rattle.std.specs.Prelude.{ℤ, false, List, [], ◌∷◌, ◌≡◌, ◌⊎◌, Some, fold, if◌then◌else◌, IsTrue}
use Rattle.std.specs.List.{list_all}
use Rattle.sr_cell.specs.declared.table.Column.{Column}
use Rattle.sr_cell.specs.declared.table.Table.{Table}
use Rattle.sr_cell.specs.Columns.{table_at}
use Rattle.sr_box.specs.Points.{Rect, Points, in_any, rect_fits, AreSame, HasPoint, HasNoPoint}
use Rattle.sr_union.specs.Centre.{centre_of}
use Rattle.sr_model.specs.Queries.{Part, points_of}
use Rattle.sr_policy.specs.declared.policy.Policy.{Policy}
use Rattle.sr_policy.specs.declared.policy.ClassView.{ClassView}
use Rattle.sr_policy.specs.declared.policy.Last.{Last}
use Rattle.sr_policy.specs.Order.{goes_before}
use Rattle.sr_history.specs.declared.mark.Mark.{Mark}
use Rattle.sr_history.specs.Classes.{Numbered, Class, in_class}

-- The centre of a set of points is that of each list of rects with just these points: they all have one.
abbrev pub HasCentre : List Column → Points → List ℤ → Type 0
HasCentre columns points centre =
    (rects : List Rect) × IsTrue (list_all (rect_fits columns) rects) × AreSame columns (in_any rects) points × (centre_of columns rects ≡ Some centre)

-- what the parts of the last answered query asked, by centres; a part without a point asks nothing
abbrev pub AreLast : List Table → List Part → List Last → Type 0
AreLast schema [] last = last ≡ []
AreLast schema (part ∷ parts) last =
    (HasNoPoint (table_at schema part.table).columns (points_of part) × AreLast schema parts last)
    ⊎ ((centre : List ℤ) × (others : List Last) × HasCentre (table_at schema part.table).columns (points_of part) centre
    × (last ≡ record { table = part.table; centre = centre } ∷ others) × AreLast schema parts others)

-- the parts of the last query that was answered; none where none was
abbrev pub last_parts : List Numbered → List Part
last_parts queries = fold (λ parts q. if q.answered then q.query.parts else parts) [] queries

-- the class, with the centre of its points
pub record IsSeen (schema : List Table) (marks : List Mark) (queries : List Numbered) (k : Class) (view : ClassView) : Type 0 where
  pub table : view.table ≡ k.table
  pub attrs : view.attrs ≡ k.attrs
  pub stamp : view.stamp ≡ k.stamp
  pub centre : HasCentre (table_at schema k.table).columns (in_class marks queries k) view.centre

-- the class has a point, and no other that has one goes before it
pub record IsVictim (policy : Policy) (schema : List Table) (marks : List Mark) (queries : List Numbered) (k : Class) : Type 0 where
  pub last : List Last
  pub are_last : AreLast schema (last_parts queries) last
  pub view : ClassView
  pub seen : IsSeen schema marks queries k view
  pub some : HasPoint (table_at schema k.table).columns (in_class marks queries k)
  pub first : (other : Class) → HasPoint (table_at schema other.table).columns (in_class marks queries other)
      → (view_of_other : ClassView) × IsSeen schema marks queries other view_of_other × (goes_before policy last view_of_other view ≡ false)
