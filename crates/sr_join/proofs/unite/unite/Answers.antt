use Rattle.std.proofs.Common.{◌≡◌, [], sym, arith}
use Rattle.std.proofs.lemmas.Grind.{common_steps}
use Rattle.sr_join.proofs.Both.{united-none}
use Rattle.sr_join.proofs.unite.unite.Goals as goal

pub returns-then-is_empty : goal.returns-then-is_empty
returns-then-is_empty c =
    let none : c.args.more ≡ [] = grind (arith, common_steps) in
    rw none (sym (united-none c.args.key c.args.rows))
