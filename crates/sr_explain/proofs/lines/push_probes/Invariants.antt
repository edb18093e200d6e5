use Rattle.std.proofs.Common.{◌≡◌, ◌++◌, drop, map}
use Rattle.sr_explain.specs.Telling.{probe_line}
use Rattle.sr_explain.proofs.lines.push_probes.Given as goal

abbrev pub invariant-loop-probe : goal.invariant-loop-probe
invariant-loop-probe l = l.lines ++ map (probe_line l.table) (drop l.probe-index l.probes) ≡ l.fn.lines ++ map (probe_line l.table) l.probes
