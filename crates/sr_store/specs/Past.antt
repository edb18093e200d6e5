-- The classes of regions.
use Rattle.sr_history.specs.Classes.{Class}
use Rattle.sr_region.specs.declared.region.Region.{Region}

abbrev pub class_of : Region → Class
class_of g = record { table = g.table; attrs = g.attrs; stamp = g.stamp }
