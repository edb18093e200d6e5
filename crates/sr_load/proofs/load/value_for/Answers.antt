use Rattle.std.proofs.Common.{◌∙◌, arith}
use Rattle.std.proofs.lemmas.Bool.{ne_eqb}
use Rattle.sr_load.proofs.Rows.{other_column}
use Rattle.sr_load.proofs.load.value_for.Goals as goal

pub loop-i-preserved : goal.loop-i-preserved
loop-i-preserved c =
    let other = ne_eqb _ _ c.if-columns-i.false in
    c.loop-i.invariant ∙ other_column c.args.column c.loop-i.i c.args.columns.now c.args.cells.now (omega arith) (omega arith) other
