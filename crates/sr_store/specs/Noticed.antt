-- What notices do to regions.
use Rattle.std.specs.Prelude.{◌==◌, List, [], ◌∷◌, if◌then◌else◌}
use Rattle.sr_message.specs.declared.message.Tell.{Tell}
use Rattle.sr_region.specs.declared.region.Region.{Region}
use Rattle.sr_region.specs.Applied.{applied}
pub use Rattle.sr_regions.specs.Touched.{IsTellOf}

-- the region once these are told
abbrev pub told_to : List Tell → Region → Region
told_to [] g = g
told_to (tell ∷ told) g = told_to told (if tell.table == g.table then applied tell.key tell.after g else g)
