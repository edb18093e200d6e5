use Rattle.std.proofs.Common.{◌≡◌, false, arith}
use Rattle.sr_union.specs.Free.{span_at}
use Rattle.sr_union.proofs.Hulls.{meet_at}
use Rattle.sr_union.proofs.hull.Hull.may_meet.Goals as goal

pub returns-then-not-meets : goal.returns-then-not-meets
returns-then-not-meets c = λ q apart y.
    let r = c.args.rect.now in
    let off : c.meets.result ≡ false = grind (arith, c.if-not-meets.true) in
    meet_at 0 r q (c.meets.ensures (span_at 0 r) (span_at 0 q) off c.grown.ensures.has (grind (arith, y)))

pub returns-then-not-meets-2 : goal.returns-then-not-meets-2
returns-then-not-meets-2 c = λ q apart y.
    let r = c.args.rect.now in
    let off : c.meets-2.result ≡ false = grind (arith, c.if-not-meets-2.true) in
    meet_at 1 r q (c.meets-2.ensures (span_at 1 r) (span_at 1 q) off c.grown-2.ensures.has (grind (arith, y)))

pub returns : goal.returns
returns c = λ q apart y.
    let r = c.args.rect.now in
    meet_at 2 r q (c.meets-3.ensures (span_at 2 r) (span_at 2 q) apart c.grown-3.ensures.has (grind (arith, y)))
