-- The groups as a map keeps them.
use Rattle.std.specs.Prelude.{List, Option, map}
use Rattle.std.specs.Global.{Vec}
use Rattle.sr_cell.specs.declared.cell.Cell.{Cell}
use Rattle.sr_agg.specs.declared.tally.Tally.{Tally}
use Rattle.sr_agg.specs.Groups.{Key}

abbrev pub entry_seen : Vec (Option Cell) × Vec Tally → Key × List Tally
entry_seen e = (e.0.items, e.1.items)

abbrev pub entries_seen : List (Vec (Option Cell) × Vec Tally) → List (Key × List Tally)
entries_seen es = map entry_seen es
