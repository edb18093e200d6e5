use Rattle.std.proofs.Common.{sym, ◌∙◌}
use Rattle.sr_join.proofs.Both.{next-own}
use Rattle.sr_join.proofs.unite.next_row.Goals as goal

pub returns-then-is_own_next-clause-next : goal.returns-then-is_own_next-clause-next
returns-then-is_own_next-clause-next c =
    rw c.pass_over.ensures.rows
    (next-own c.args.key c.args.own.now.items c.pop_front.new.self.items c.args.more.now.items c.pop_front.result
    (sym c.is_own_next.ensures ∙ c.if-is_own_next.true) c.pop_front.ensures.items c.pop_front.ensures.rest)
