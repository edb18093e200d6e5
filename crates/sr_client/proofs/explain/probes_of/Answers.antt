use Rattle.std.proofs.Common.{rules, [], sym, subst}
use Rattle.sr_client.specs.Explaining.{AreProbes, nothing}
use Rattle.sr_client.proofs.ExplainLemmas.{probes-more}
use Rattle.sr_client.proofs.explain.probes_of.Goals as goal

pub loop-region-init : goal.loop-region-init
loop-region-init c = subst (AreProbes c.args.part.now []) (sym c.new-probes.ensures) nothing

pub loop-region-preserved : goal.loop-region-preserved
loop-region-preserved c =
    probes-more c.args.part.now c.args.regions.now c.loop-region.region-index c.region-item.result c.loop-region.probes c.in_ok-probe_of.field-0 c.append.new.self (search rules) c.region-item.is
    c.loop-region.invariant c.in_ok-probe_of.ensures c.in_ok-append.ensures.appended
