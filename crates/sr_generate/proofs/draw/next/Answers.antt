use Rattle.std.proofs.Common.{◌*◌, ◌^◌}
use Rattle.std.proofs.Math.Nat.{mod-add-mod}
use Rattle.sr_generate.specs.Script.{after}
use Rattle.sr_generate.proofs.draw.next.Goals as goal

pub returns : goal.returns
unfolding after
returns c = mod-add-mod (c.args.state * 6364136223846793005) (2 ^ 64) 1442695040888963407
