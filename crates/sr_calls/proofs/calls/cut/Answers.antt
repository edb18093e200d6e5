use Rattle.std.proofs.Common.{ap}
use Rattle.sr_calls.proofs.HoldLemmas.{same_ready}
use Rattle.sr_calls.proofs.StepLemmas.{cut_makes}
use Rattle.sr_calls.proofs.calls.cut.Goals as goal

pub returns-clause-made : goal.returns-clause-made
returns-clause-made c =
    cut_makes c.args.client.now c.cut-step.new.self c.cut-step.result c.lines_of_cut.result c.cut-step.ensures.cuts c.cut-step.ensures.stays (ap (λ s. s.regions) c.cut-step.ensures.held) c.lines_of_cut.ensures

pub returns-clause-ready : goal.returns-clause-ready
returns-clause-ready c = same_ready c.args.client.now c.cut-step.new.self c.requires.ready c.cut-step.ensures.held c.cut-step.ensures.cuts.stands c.cut-step.ensures.stays
