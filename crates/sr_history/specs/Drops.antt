-- When classes are dropped.
use Rattle.std.specs.Prelude.{ℕ, not, ◌&&◌, ◌==◌, List, [], ◌∷◌, ◌≡◌, ◌⊎◌, IsTrue}
use Rattle.std.specs.List.{list_any, list_all}
use Rattle.sr_cell.specs.declared.cause.Cause.{Cause}
use Rattle.sr_cell.specs.declared.cause.Cause.TheVariants.{Absorbed}
use Rattle.sr_cell.specs.declared.table.Table.{Table}
use Rattle.sr_cell.specs.Columns.{table_at}
use Rattle.sr_cell.specs.Attrs.{includes}
use Rattle.sr_cell.specs.Cells.{Row}
use Rattle.sr_box.specs.Points.{Points, in_any, rect_fits, AreSame}
use Rattle.sr_cell.specs.Columns.{is_point}
use Rattle.sr_history.specs.declared.mark.Mark.{Mark}
use Rattle.sr_history.specs.declared.mark.Mark.TheVariants.{Held, Dropped}
use Rattle.sr_history.specs.Marks.{attrs_of, is_held}
use Rattle.sr_history.specs.Classes.{Numbered, Class, AreClasses, in_class}

-- the mark drops this class, whole
abbrev pub IsDropOf : List Table → List Mark → List Numbered → Cause → Class → Mark → Type 0
IsDropOf schema marks queries cause k (Held table attrs rects) = ⊥
IsDropOf schema marks queries cause k (Dropped why table attrs stamp rects) =
    (why ≡ cause) × (table ≡ k.table) × (attrs ≡ k.attrs) × (stamp ≡ k.stamp)
    × IsTrue (list_all (rect_fits (table_at schema table).columns) rects)
    × AreSame (table_at schema table).columns (in_any rects) (in_class marks queries k)

-- each of these classes is dropped, in their order
abbrev pub DropsEach : List Table → List Mark → List Numbered → Cause → List Class → List Mark → Type 0
DropsEach schema marks queries cause [] drops = drops ≡ []
DropsEach schema marks queries cause (k ∷ classes) [] = ⊥
DropsEach schema marks queries cause (k ∷ classes) (d ∷ drops) =
    IsDropOf schema marks queries cause k d × DropsEach schema marks queries cause classes drops

-- all classes are dropped, in class order
abbrev pub DropsAll : List Table → List Mark → List Numbered → Cause → List Mark → Type 0
DropsAll schema marks queries cause drops =
    (classes : List Class) × AreClasses schema marks queries classes × DropsEach schema marks queries cause classes drops

-- held under strictly more columns
abbrev pub is_held_wider : List Mark → ℕ → ℕ → Points
is_held_wider marks table attrs p =
    list_any (λ mark. includes (attrs_of mark) attrs && not (attrs_of mark == attrs) && is_held marks table (attrs_of mark) p) marks

-- each point of the class is held under strictly more columns
abbrev pub IsAbsorbed : List Table → List Mark → List Numbered → Class → Type 0
IsAbsorbed schema marks queries k =
    (p : Row) → IsTrue (is_point (table_at schema k.table).columns p) → IsTrue (in_class marks queries k p) → IsTrue (is_held_wider marks k.table k.attrs p)

-- the drops of those of these classes that are absorbed
abbrev pub AbsorbsFrom : List Table → List Mark → List Numbered → List Class → List Mark → Type 0
AbsorbsFrom schema marks queries [] drops = drops ≡ []
AbsorbsFrom schema marks queries (k ∷ classes) drops =
    ((IsAbsorbed schema marks queries k → ⊥) × AbsorbsFrom schema marks queries classes drops)
    ⊎ (IsAbsorbed schema marks queries k × (d : Mark) × (more : List Mark) × (drops ≡ d ∷ more)
    × IsDropOf schema marks queries Absorbed k d × AbsorbsFrom schema marks queries classes more)

-- just the absorbed classes are dropped, in class order
abbrev pub Absorbs : List Table → List Mark → List Numbered → List Mark → Type 0
Absorbs schema marks queries drops = (classes : List Class) × AreClasses schema marks queries classes × AbsorbsFrom schema marks queries classes drops
