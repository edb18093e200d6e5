-- What the status of a run of `explain` says of the script that is held.
use Rattle.std.proofs.Common.{◌≡◌, ℕ, ◌⊎◌, List, [], Option, Some, None, inl, inr, arith, subst}
use Rattle.sr_cell.specs.declared.fault.Fault.{Fault}
use Rattle.sr_lines.specs.Lines.{lines_of}
use Rattle.sr_lines.specs.Script.{LinePlace, FirstRefused}
use Rattle.sr_reader.proofs.OneDoing.{accepts}
use Rattle.sr_explained.specs.After.{WroteBehind}
use Rattle.sr_world.specs.declared.world.Options.{Options}
use Rattle.sr_world.specs.Replay.{RefusesLoad, outside}
use Rattle.sr_words.specs.declared.command.ExplainWords.{ExplainWords}
use Rattle.sr_cli.specs.Files.{IsLong, IsTooLong, IsWhatIsHeld}
use Rattle.sr_cli.specs.Explain.{Explained, FitsScript}
use Rattle.sr_cli.specs.Replay.{options_of}
use Rattle.sr_cli.proofs.FitsLemmas.{Fails, long_status}
use Rattle.sr_cli.proofs.SameFiles.{same_bytes, too_long_held}

-- where no file is loaded, none is refused
pub no_load : (clients : ℕ) (script table : List ℕ) (fault : Fault) → RefusesLoad clients script [] table fault → ⊥
no_load clients script table fault refuses = let e = refuses.2 in cc

-- ---- the script that is held

-- the script that was read, and what holds of it
pub record Named (held : List ℕ → Option (List ℕ)) (words : ExplainWords) (P : List ℕ → Type 0) : Type 0 where
  pub script : List ℕ
  pub read : IsWhatIsHeld (held words.script) script
  pub holds : P script

-- what holds of it holds of what is held
named_held : (P : List ℕ → Type 0) (held : List ℕ → Option (List ℕ)) (words : ExplainWords) (script : List ℕ) → held words.script ≡ Some script → Named held words P → P script
named_held P held words script is n = subst P (same_bytes (held words.script) script n.script is n.read) n.holds

not_long : (script : List ℕ) (held : Option (List ℕ)) → IsWhatIsHeld held script → ¬ IsLong script
not_long script held read long = let w = read.within_limit in omega (arith, long, w)

-- which is not too long
named_short : (P : List ℕ → Type 0) (held : List ℕ → Option (List ℕ)) (words : ExplainWords) (script : List ℕ) → held words.script ≡ Some script → Named held words P → ¬ IsLong script
named_short P held words script is n =
    named_held (λ s. ¬ IsLong s) held words script is (record { script = n.script; read = n.read; holds = not_long n.script (held words.script) n.read })

-- ---- why

abbrev pub Lies : ℕ → List ℕ → Type 0
Lies clients script = (at : LinePlace) × (outside clients script ≡ Some at)

-- a CREATE line is refused
pub record Refuses (clients : ℕ) (script : List ℕ) : Type 0 where
  pub inside : outside clients script ≡ None
  pub refused : (line : ℕ) × (fault : Fault) × FirstRefused clients 1 [] (lines_of script) line fault

-- ---- the status

-- a status that is not 0, with its causes
pub fits_held : (held : List ℕ → Option (List ℕ)) (left : Option (List ℕ)) (words : ExplainWords) (script : List ℕ) (status : ℕ) → held words.script ≡ Some script → Fails status
    → ¬ (status ≡ 3) → ¬ (status ≡ 4) → (status ≡ 10 → IsTooLong (held words.script) left) → (status ≡ 6 → Named held words (Lies words.setup.clients))
    → (status ≡ 7 → Named held words (Refuses words.setup.clients))
    → FitsScript (options_of words.setup) script words.sql status
fits_held held left words script status is fails read write too_long lies refused = record {
  no_read_fault = read;
  no_write_fault = write;
  long = λ over. long_status status fails read write (λ e. named_short _ held words script is (lies e) over) (λ e. named_short _ held words script is (refused e) over);
  too_long = λ e. too_long_held (held words.script) left script is (too_long e);
  line = λ e. named_held (Lies words.setup.clients) held words script is (lies e);
  inside = inside_by;
  refused = λ e. (cause e).refused;
  accepts = λ e. absurd (omega (arith, fails, e));
}
  where
    cause : status ≡ 7 → Refuses words.setup.clients script
    cause e = named_held (Refuses words.setup.clients) held words script is (refused e)

    inside_by : (status ≡ 0) ⊎ (status ≡ 7) → outside words.setup.clients script ≡ None
    inside_by (inl e) = absurd (omega (arith, fails, e))
    inside_by (inr e) = (cause e).inside

-- a query was explained behind the script
wrote_fits : (old new : Option (List ℕ)) (options : Options) (script sql : List ℕ) → WroteBehind old new options script [] sql → ¬ IsLong script → FitsScript options script sql 0
wrote_fits old new options script sql wrote short =
    let t = wrote.behind.traced in
    record {
      no_read_fault = λ e. omega (arith, e);
      no_write_fault = λ e. omega (arith, e);
      long = λ over. absurd (short over);
      too_long = λ e. absurd (omega (arith, e));
      line = λ e. absurd (omega (arith, e));
      inside = λ _. t.inside;
      refused = λ e. absurd (omega (arith, e));
      accepts = λ _ line fault first. accepts options.clients 1 (lines_of script) t.all t.end line fault t.reads first;
    }

-- status 0, with its cause
pub fits_done : (held : List ℕ → Option (List ℕ)) (words : ExplainWords) (script : List ℕ) (old new : Option (List ℕ)) → held words.script ≡ Some script → Explained held words old new
    → FitsScript (options_of words.setup) script words.sql 0
fits_done held words script old new is explained =
    named_held (λ s. FitsScript (options_of words.setup) s words.sql 0) held words script is (record {
      script = explained.script;
      read = explained.read;
      holds = wrote_fits old new (options_of words.setup) explained.script words.sql explained.wrote (not_long explained.script (held words.script) explained.read);
    })
