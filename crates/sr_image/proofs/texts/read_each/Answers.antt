use Rattle.std.proofs.Common.{ℕ, List}
use Rattle.sr_image.specs.Reading.{a_long_text}
use Rattle.sr_image.proofs.Each.{one-more}
use Rattle.sr_image.proofs.texts.read_each.Goals as goal

pub loop-preserved : goal.loop-preserved
loop-preserved c =
    one-more (λ (before : List (List ℕ)). a_long_text) c.args.count c.loop.counter c.loop.texts c.loop.bytes c.in-Ok.text c.read_text.new.bytes _ c.loop-test.true c.in-Ok.ensures c.loop.invariant _
    c.in_ok-push-in-Ok.ensures.pushed
