use Rattle.std.proofs.Common.{◌≡◌, drop}
use Rattle.sr_cli.specs.Leaves.{OnlyReads}
use Rattle.sr_cli.proofs.ReadSoFar.{ReadSoFar}
use Rattle.sr_cli.proofs.loads.read_loads.Given as goal

abbrev pub invariant-loop-word : goal.invariant-loop-word
invariant-loop-word g l = record {
  read : ReadSoFar (g.H.Outside.held l.fn.host) l.words l.loads (drop l.word-index l.words);
  same_faults : (g.H.Outside.reading l.host).faults ≡ (g.H.Outside.reading l.fn.host).faults;
  stays : OnlyReads _ g.H.Outside.writing g.H.Outside.linking g.H.Outside.held g.H.Outside.complaints g.H.Outside.IsSteady l.fn.host l.host;
}
