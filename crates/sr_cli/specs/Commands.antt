-- How a run of a command may end.
use Rattle.std.specs.Prelude.{◌≡◌, ℕ, ◌⊎◌, List, None, Some}
use Rattle.sr_io.specs.Causes.{Rose}
use Rattle.sr_io.specs.Told.{Reading, Writing, Linking}
use Rattle.sr_words.specs.Words.{command_of}
use Rattle.sr_words.specs.declared.command.ClientWords.{ClientWords}
use Rattle.sr_words.specs.declared.command.WarmWords.{WarmWords}
use Rattle.sr_words.specs.declared.command.Command.TheVariants.{Client, Save, Warm}

abbrev pub IsStatus : ℕ → Type 0
IsStatus status =
    (status ≡ 0) ⊎ (status ≡ 2) ⊎ (status ≡ 3) ⊎ (status ≡ 4) ⊎ (status ≡ 5) ⊎ (status ≡ 6) ⊎ (status ≡ 7) ⊎ (status ≡ 8) ⊎ (status ≡ 9)
    ⊎ (status ≡ 10) ⊎ (status ≡ 11) ⊎ (status ≡ 13)

-- the words ask for a client, of any kind
abbrev pub AsksClient : List (List ℕ) → Type 0
AsksClient words =
    ((w : ClientWords) × (command_of words ≡ Some (Client w))) ⊎ ((w : ClientWords) × (command_of words ≡ Some (Save w)))
    ⊎ ((w : WarmWords) × (command_of words ≡ Some (Warm w)))

-- What the words decide. 2 comes just where they are in no form, but for want of memory, and then nothing is done. Where the link did not fail,
-- 5 comes of a client alone: a connection ended while a request was out.
pub record FitsWords (H : Type 0) (reading : H → Reading) (writing : H → Writing) (linking : H → Linking) (old new : H) (said : List (List ℕ))
    (status : ℕ) : Type 0 where
  pub words : status ≡ 2 → command_of said ≡ None
  pub other_words : command_of said ≡ None → (status ≡ 2) ⊎ (status ≡ 9)
  pub words_alone : command_of said ≡ None → (reading new ≡ reading old) × (writing new ≡ writing old) × (linking new ≡ linking old)
  pub link_fault_is_counted : status ≡ 5 → Rose (linking old).faults (linking new).faults ⊎ AsksClient said
