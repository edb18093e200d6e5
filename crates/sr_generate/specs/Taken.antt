-- The grammar of scripts takes the script that is made.
use Rattle.std.specs.Prelude.{◌≡◌, ℕ, [], None}
use Rattle.sr_cell.specs.declared.fault.Fault.{Fault}
use Rattle.sr_lines.specs.Lines.{lines_of}
use Rattle.sr_lines.specs.Script.{Creating, FirstRefused, first_outside}
use Rattle.sr_generate.specs.Script.{script}

-- no line of the script is outside the grammar, of one client
abbrev pub ScriptsAreInside : Type 0
ScriptsAreInside = (seed events : ℕ) → first_outside 1 1 Creating (lines_of (script seed events)) ≡ None

-- no CREATE line of the script is refused
abbrev pub ScriptsAreAccepted : Type 0
ScriptsAreAccepted = (seed events line : ℕ) (fault : Fault) → ¬ FirstRefused 1 1 [] (lines_of (script seed events)) line fault
