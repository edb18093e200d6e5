use Rattle.std.proofs.Common.{rules, ◌+◌, true, List, sym, subst}
use Rattle.sr_message.specs.declared.message.Message.{Message}
use Rattle.sr_client.specs.declared.client.Client.{Client}
use Rattle.sr_client.specs.declared.steps.CutStep.TheVariants.{Cut}
use Rattle.sr_client.specs.Steps.{Cuts}
use Rattle.sr_client.proofs.CutLemmas.{cut-already, cut-now, cut_off}
use Rattle.sr_client.proofs.client.Client.cut.Goals as goal

pub returns-then-self-clause-cuts : goal.returns-then-self-clause-cuts
returns-then-self-clause-cuts c = cut-already c.args.self.now c.requires.stands (search rules)

pub returns-clause-cuts : goal.returns-clause-cuts
returns-clause-cuts c =
    let old = c.args.self.now in
    subst (λ (x : Client). Cuts old (record x { laid = c.new.result; cut = true; cuts = x.cuts + 1 }) (Cut (x.cuts + 1) c.ended_of-ended.result)) (sym c.set_out.ensures)
    (subst (λ (ms : List Message). Cuts old (record (cut_off old) { laid = ms }) (Cut (old.cuts + 1) c.ended_of-ended.result)) (sym c.new.ensures)
    (cut-now old c.ended_of-ended.result c.requires.stands (search rules) c.ended_of-ended.ensures))
