use Rattle.std.proofs.Common.{List, drop}
use Rattle.sr_cell.specs.declared.table.Column.{Column}
use Rattle.sr_store.specs.Making.{HaveNoCommon, wider_arriving}
use Rattle.sr_store.proofs.absorb.may_be_met.Given as goal

abbrev pub invariant-loop-arrival : goal.invariant-loop-arrival
invariant-loop-arrival l =
    (columns : List Column) → HaveNoCommon columns l.region.rects (wider_arriving (drop l.arrival-index l.arrivals) l.region.table l.region.attrs)
    → HaveNoCommon columns l.region.rects (wider_arriving l.arrivals l.region.table l.region.attrs)
