use Rattle.std.proofs.Common.{◌≡◌, ◌-◌, ◌++◌, take, arith, ap, ◌∙◌}
use Rattle.sr_box.proofs.Prefixes.{next_at}
use Rattle.sr_box.proofs.prefix.next_prefix.Goals as goal

pub returns-then-prefix-end-lt255 : goal.returns-then-prefix-end-lt255
returns-then-prefix-end-lt255 c =
    let is = next_at c.args.prefix.now (c.loop-end.end - 1) c.loop-end.end (omega arith) (c.loop-end.invariant.0) (omega arith) (c.loop-end.invariant.1) in
    let p = c.in_ok-push.ensures.pushed in let e = c.in_ok-extend.ensures.extended in let n = c.new-next.ensures in
    let took : c.extend.new.self ≡ take (c.loop-end.end - 1) c.args.prefix.now = e ∙ ap (λ s. s ++ take (c.loop-end.end - 1) c.args.prefix.now) n in cc
