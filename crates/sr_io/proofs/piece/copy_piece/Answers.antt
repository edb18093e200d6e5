use Rattle.std.proofs.Common.{arith, ◌≡◌, ◌≤◌, ◌+◌, take, drop, length}
use Rattle.std.proofs.lemmas.Grind.{common_steps}
use Rattle.sr_io.proofs.SoFar.{copied_first}
use Rattle.sr_io.proofs.piece.copy_piece.Goals as goal

pub returns-clause-first : goal.returns-clause-first
returns-clause-first c =
    let fits : c.args.at + c.min-count.result ≤ length c.args.bytes.now = omega arith in
    let copied : c.copy_from_slice.new.self ≡ take c.min-count.result (drop c.args.at c.args.bytes.now) = grind (arith, common_steps) in
    copied_first _ _ _ _ _ fits copied
