-- Why a script is not run.
use Rattle.std.specs.Prelude.{ℕ, List, []}
use Rattle.sr_lines.specs.Lines.{lines_of}
use Rattle.sr_lines.specs.Script.{FirstRefused}
use Rattle.sr_load.specs.declared.fill.Load.{Load}
use Rattle.sr_world.specs.declared.replay.RunFault.{RunFault}
use Rattle.sr_world.specs.declared.replay.RunFault.TheVariants as fault
use Rattle.sr_world.specs.Replay.{RefusesLoad}

-- a CREATE line that is refused, or else a file
abbrev pub IsSetupFault : ℕ → List ℕ → List Load → RunFault → Type 0
IsSetupFault clients script loads (fault.Setup line why) = FirstRefused clients 1 [] (lines_of script) line why
IsSetupFault clients script loads (fault.Load table why) = RefusesLoad clients script loads table why
IsSetupFault clients script loads fault.WriteFault = ⊥
IsSetupFault clients script loads (fault.Line line place) = ⊥
