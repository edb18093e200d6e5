use Rattle.std.proofs.Common.{◌≡◌, ◌≤◌, ◌∙◌, drop, [], arith}
use Rattle.std.proofs.lemmas.Grind.{common_steps}
use Rattle.sr_outbox.proofs.Pieces.{take-all, drop-all}
use Rattle.sr_outbox.proofs.asked.take_piece.Goals as goal

pub returns-in-None-clause-piece : goal.returns-in-None-clause-piece
returns-in-None-clause-piece c =
    let none : drop c.keys.counter c.args.left.now.items ≡ [] = grind (arith, common_steps) in
    let few : c.keys.counter ≤ 256 = omega arith in
    c.keys.invariant.0 ∙ take-all c.keys.counter c.args.left.now.items few none

pub returns-in-None-clause-left : goal.returns-in-None-clause-left
returns-in-None-clause-left c =
    let none : drop c.keys.counter c.args.left.now.items ≡ [] = grind (arith, common_steps) in
    let few : c.keys.counter ≤ 256 = omega arith in
    let empty : c.pop_front.new.self.items ≡ [] = grind (arith, common_steps) in
    empty ∙ drop-all c.keys.counter c.args.left.now.items few none
