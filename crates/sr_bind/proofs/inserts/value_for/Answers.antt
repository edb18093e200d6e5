use Rattle.std.proofs.Common.{◌∙◌, arith}
use Rattle.std.proofs.lemmas.Bool.{ne_eqb}
use Rattle.sr_bind.proofs.Writing.{other_column}
use Rattle.sr_bind.proofs.inserts.value_for.Goals as goal

pub loop-i-preserved : goal.loop-i-preserved
loop-i-preserved c =
    let other = ne_eqb _ _ c.if-columns-i.false in
    c.loop-i.invariant ∙ other_column c.args.column c.loop-i.i 0 c.args.columns.now c.args.literals.now (omega arith) (omega arith) other
