use Rattle.std.proofs.Common.{◌≡◌, ℕ, ◌+◌, true, List, drop}
use Rattle.std.specs.List.{list_all}
use Rattle.sr_lines.specs.Lines.{lines_of}
use Rattle.sr_query.specs.Bound.{is_table}
use Rattle.sr_reader.specs.Lined.{AreLines}
use Rattle.sr_reader.proofs.Fronts.{Fronted}
use Rattle.sr_reader.proofs.head.created.Given as goal

abbrev pub invariant-loop-i : goal.invariant-loop-i
invariant-loop-i l =
    (list_all is_table l.schema ≡ true)
    × ((clients : ℕ) (bytes : List ℕ) → AreLines clients bytes l.lines → Fronted clients (lines_of bytes) (l.i + 1) (drop l.i (lines_of bytes)) l.schema)
