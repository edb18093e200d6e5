-- Three regions of persons by age, and a person who grows younger.
use Rattle.std.specs.Prelude.{ℕ, pos, Some, List, [], ◌∷◌}
use Rattle.sr_cell.specs.declared.cell.Cell.TheVariants.{Num}
use Rattle.sr_box.specs.declared.span.Span.TheVariants.{Full, Nums}
use Rattle.sr_message.specs.declared.message.Tell.{Tell}
use Rattle.sr_region.specs.declared.region.Region.{Region}
use Rattle.sr_regions.specs.declared.holders.Class.{Class}

-- the ages from low to high under the columns id and age, last touched by that query; no row is held
abbrev pub aged : ℕ → ℕ → ℕ → Region
aged stamp low high = record { table = 0; key = 0; attrs = 3; stamp = stamp; rects = (Full ∷ Nums (pos low) (pos high) ∷ []) ∷ []; rows = [] }

abbrev pub three : List Region
three = aged 1 30 34 ∷ aged 2 35 40 ∷ aged 3 60 70 ∷ []

-- person 2 is 36 from now on
abbrev pub younger : Tell
younger = record { table = 0; key = Num (pos 2); after = Some (Num (pos 2) ∷ Num (pos 36) ∷ []) }

abbrev pub second : Class
second = record { table = 0; attrs = 3; stamp = 2 }
