use Rattle.std.proofs.Common.{◌≡◌, ◌-◌, ◌+◌}
use Rattle.sr_generate.specs.Script.{script, lines_from}
use Rattle.sr_generate.proofs.SoFar.{SoFar}
use Rattle.sr_generate.proofs.script.write_script.Given as goal

abbrev pub invariant-loop-number : goal.invariant-loop-number
invariant-loop-number g l = record {
  written : SoFar (g.K.Outside.writing l.fn.sink).written (g.K.Outside.writing l.sink).written (script l.seed l.events) (lines_from (200 + l.events - l.number) l.number l.draws.state);
  same_faults : (g.K.Outside.writing l.sink).faults ≡ (g.K.Outside.writing l.fn.sink).faults;
  stays_steady : g.K.Outside.IsSteady l.fn.sink → g.K.Outside.IsSteady l.sink;
  held_stays : g.K.Outside.held l.sink ≡ g.K.Outside.held l.fn.sink;
  reading_stays : g.K.Outside.reading l.sink ≡ g.K.Outside.reading l.fn.sink;
  linking_stays : g.K.Outside.linking l.sink ≡ g.K.Outside.linking l.fn.sink;
  complaints_stay : g.K.Outside.complaints l.sink ≡ g.K.Outside.complaints l.fn.sink;
}
