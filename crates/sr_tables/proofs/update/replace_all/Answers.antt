use Rattle.std.proofs.Common.{arith}
use Rattle.std.specs.Vec.Iter.{into_iter_items}
use Rattle.std.proofs.lemmas.Grind.{common_steps}
use Rattle.sr_tables.proofs.Outcomes.{known-replaced}
use Rattle.sr_tables.proofs.update.replace_all.Goals as goal

pub loop-row-preserved : goal.loop-row-preserved
loop-row-preserved c =
    let more = known-replaced c.loop-row.rows c.in-Some.row (into_iter_items c.next.new.self) in
    grind (arith, common_steps, more)
