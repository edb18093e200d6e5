use Rattle.std.proofs.Common.{sym, ap, length, arith}
use Rattle.sr_image.proofs.Covering.{covers-length}
use Rattle.sr_image.proofs.index.covers.Goals as goal

pub returns-then-wide-spans : goal.returns-then-wide-spans
returns-then-wide-spans c = sym (covers-length c.args.hull.now c.args.rect.now (λ same. omega (arith, same, c.if-wide-spans.true, ap length c.as_slice-wide.ensures, ap length c.as_slice-spans.ensures)))
