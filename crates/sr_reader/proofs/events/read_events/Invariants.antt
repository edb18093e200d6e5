use Rattle.std.proofs.Common.{ℕ, ◌+◌, List, drop}
use Rattle.sr_lines.specs.Lines.{lines_of}
use Rattle.sr_reader.specs.Lined.{AreOf}
use Rattle.sr_reader.proofs.Walks.{Walked}
use Rattle.sr_reader.proofs.events.read_events.Given as goal

abbrev pub invariant-loop-i : goal.invariant-loop-i
invariant-loop-i l = (clients : ℕ) (bytes : List ℕ) → AreOf clients bytes l.schema l.lines → Walked clients bytes l.schema (l.i + 1) (drop l.i (lines_of bytes)) l.events
