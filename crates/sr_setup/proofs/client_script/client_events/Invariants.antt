use Rattle.std.proofs.Common.{◌≡◌, ℕ, ◌+◌, List, drop}
use Rattle.std.specs.Prelude.{None}
use Rattle.sr_cell.specs.Clients.{most_clients}
use Rattle.sr_lines.specs.Lines.{lines_of}
use Rattle.sr_reader.specs.Lined.{AreLines}
use Rattle.sr_setup.specs.Files.{first_fault}
use Rattle.sr_setup.specs.ClientFiles.{client_fault}
use Rattle.sr_setup.proofs.ClientWalks.{Walked}
use Rattle.sr_setup.proofs.client_script.client_events.Given as goal

abbrev pub invariant-loop-i : goal.invariant-loop-i
invariant-loop-i l =
    (script : List ℕ) → AreLines most_clients script l.lines → first_fault (client_fault l.fn.id) 1 (lines_of script) ≡ None → Walked l.fn.id script l.schema (l.i + 1) (drop l.i (lines_of script)) l.events
