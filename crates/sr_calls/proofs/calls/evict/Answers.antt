use Rattle.sr_calls.proofs.StepLemmas.{evict_makes, only_store}
use Rattle.sr_calls.proofs.HoldLemmas.{evict_ready}
use Rattle.sr_calls.proofs.calls.evict.Goals as goal

pub returns-clause-made : goal.returns-clause-made
returns-clause-made c = λ keeps past stands.
    evict_makes c.args.client.now c.evict-step.new.self c.args.place c.evict-step.result c.in_ok-lines.lines c.quiet.result c.evict-step.ensures.evicts (only_store c.args.client.now c.evict-step.new.self c.evict-step.ensures.rest) c.in_ok-lines.ensures c.quiet.ensures keeps past stands

pub returns-clause-ready : goal.returns-clause-ready
returns-clause-ready c = evict_ready c.args.client.now c.evict-step.new.self c.args.place c.evict-step.result c.requires.ready c.evict-step.ensures.evicts c.evict-step.ensures.rest

pub returns-in_err-lines-clause-ready : goal.returns-in_err-lines-clause-ready
returns-in_err-lines-clause-ready c = evict_ready c.args.client.now c.evict-step.new.self c.args.place c.evict-step.result c.requires.ready c.evict-step.ensures.evicts c.evict-step.ensures.rest
