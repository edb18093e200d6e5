use Rattle.std.proofs.Common.{sym, arith}
use Rattle.sr_box.proofs.Meets.{rect_meet-length}
use Rattle.sr_box.proofs.rect.meet_spans.Goals as goal

pub returns-then-spans-others : goal.returns-then-spans-others
returns-then-spans-others c = sym (rect_meet-length c.args.spans.now c.args.others.now (λ same. omega (arith, same, c.if-spans-others.true)))
