use Rattle.std.proofs.Common.{◌++◌, ◌∷◌, []}
use Rattle.sr_client.proofs.Results.{if_ok}
use Rattle.sr_lines.specs.Events.{DoSettle}
use Rattle.sr_script.specs.declared.line.TraceLine.TheVariants as line
use Rattle.sr_runs.specs.Runs.{Does}
use Rattle.sr_world.specs.Worlds.{Goes}
use Rattle.sr_world.proofs.StepLemmas.{settled-goes}
use Rattle.sr_world.proofs.world.World.settle.Goals as goal

pub returns-clause-does : goal.returns-clause-does
returns-clause-does c =
    let done = c.in_ok-done.done in
    if_ok (Goes (λ s. Does s (DoSettle c.args.client)) c.args.self.now c.deliver.new.self) c.with_line.result (done.lines ++ line.Settled c.args.client done.frames ∷ []) c.with_line.ensures
    (settled-goes c.args.self.now c.deliver.new.self c.args.client done.frames done.lines c.in_ok-done.ensures.settles)
