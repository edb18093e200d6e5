-- What the words decide of a run.
use Rattle.std.proofs.Common.{◌≡◌, ℕ, ◌⊎◌, List, Option, Some, None, inr, arith, sym, ◌∙◌}
use Rattle.sr_io.specs.Causes.{Rose}
use Rattle.sr_io.specs.Told.{Reading, Writing, Linking}
use Rattle.sr_words.specs.Words.{command_of}
use Rattle.sr_words.specs.declared.command.Command.{Command}
use Rattle.sr_cli.specs.Commands.{AsksClient, FitsWords}
use Rattle.sr_cli.specs.Leaves.{OnlyComplains}

module _ (H : Type 0) (reading : H → Reading) (writing : H → Writing) (linking : H → Linking) (old new : H) (said : List (List ℕ)) (status : ℕ) where
  -- they ask for a command
  pub fits-asked : (command : Command) → command_of said ≡ Some command → ¬ (status ≡ 2) → (status ≡ 5 → Rose (linking old).faults (linking new).faults ⊎ AsksClient said) → FitsWords H reading writing linking old new said status
  fits-asked command is other link = record {
    words = λ two. absurd (other two);
    other_words = λ none. absurd (some none);
    words_alone = λ none. absurd (some none);
    link_fault_is_counted = link;
  }
    where
      some : command_of said ≡ None → ⊥
      some none = let e : Some command ≡ None = sym is ∙ none in cc

  -- they are not taken
  pub fits-untaken : (held : H → List ℕ → Option (List ℕ)) (IsSteady : H → Type 0) → (status ≡ 2) ⊎ (status ≡ 9) → (status ≡ 2 → command_of said ≡ None) → OnlyComplains H reading writing linking held IsSteady old new
      → FitsWords H reading writing linking old new said status
  fits-untaken held IsSteady which words stays = record {
    words = words;
    other_words = λ none. which;
    words_alone = λ none. (stays.reading_stays, stays.writing_stays, stays.linking_stays);
    link_fault_is_counted = λ is. absurd (omega (arith, which, is));
  }
