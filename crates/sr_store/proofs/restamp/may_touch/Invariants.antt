use Rattle.std.proofs.Common.{List, drop}
use Rattle.sr_cell.specs.declared.table.Column.{Column}
use Rattle.sr_store.specs.Renewing.{touching}
use Rattle.sr_store.specs.Making.{HaveNoCommon}
use Rattle.sr_store.proofs.restamp.may_touch.Given as goal

abbrev pub invariant-loop-part : goal.invariant-loop-part
invariant-loop-part l =
    (columns : List Column) → HaveNoCommon columns l.region.rects (touching (drop l.part-index l.parts) l.region.table l.region.attrs)
    → HaveNoCommon columns l.region.rects (touching l.parts l.region.table l.region.attrs)
