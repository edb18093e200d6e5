-- What the code keeps of files.
use Rattle.std.specs.Prelude.{◌≡◌, List, [], ◌∷◌, ◌++◌, ℕ, Option}
use Rattle.sr_load.specs.declared.fill.Load.{Load}
use Rattle.sr_words.specs.declared.command.LoadWord.{LoadWord}
use Rattle.sr_cli.specs.Files.{IsLoad}

-- the file of the load was read behind the loads
abbrev pub AddsLoad : (List ℕ → Option (List ℕ)) → LoadWord → List Load → List Load → Type 0
AddsLoad held word old new = (load : Load) × IsLoad held word load × (new ≡ old ++ load ∷ [])
