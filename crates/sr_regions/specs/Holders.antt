-- The classes that hold a row of a key.
use Rattle.std.specs.Prelude.{ℕ, List, filter, map}
use Rattle.sr_cell.specs.declared.cell.Cell.{Cell}
use Rattle.sr_region.specs.declared.region.Region.{Region}
use Rattle.sr_regions.specs.declared.holders.Class.{Class}
use Rattle.sr_regions.specs.Touched.{holds_key}

abbrev pub class_of : Region → Class
class_of g = record { table = g.table; attrs = g.attrs; stamp = g.stamp }

-- the classes whose regions have a row of the key, in the order of the regions
abbrev pub holders_of : List Region → ℕ → Cell → List Class
holders_of regions t k = map class_of (filter (holds_key t k) regions)
