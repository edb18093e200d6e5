-- What a status says of the files that are held.
use Rattle.std.proofs.Common.{◌≡◌, ℕ, ◌⊎◌, List, [], ◌∷◌, Option, Some, None, inl, inr, arith, subst}
use Rattle.sr_cell.specs.declared.fault.Fault.{Fault}
use Rattle.sr_lines.specs.Lines.{lines_of}
use Rattle.sr_lines.specs.Script.{LinePlace, FirstRefused}
use Rattle.sr_load.specs.declared.fill.Load.{Load}
use Rattle.sr_reader.proofs.OneDoing.{accepts}
use Rattle.sr_reader.proofs.Created.{created-tables}
use Rattle.sr_world.specs.declared.world.Options.{Options}
use Rattle.sr_world.specs.declared.world.World.{World}
use Rattle.sr_world.specs.Replay.{RefusesLoad, Wrote, outside}
use Rattle.sr_words.specs.declared.command.ReplayWords.{ReplayWords}
use Rattle.sr_cli.specs.Files.{SomeTooLong, names_of}
use Rattle.sr_cli.specs.Replay.{AreFiles, IsOutside, IsRefusedSetup, IsRefusedLoad, Replayed, AreHeld, AreLong, FitsFiles, files_of, options_of}
use Rattle.sr_cli.proofs.OneFilling.{filled_once}
use Rattle.sr_cli.proofs.SameFiles.{same_bytes, same_loads, some_short, too_long_held, some_long_held}

-- ---- files that are held

-- what holds of the files that were read holds of those that are held
of_files : (P : List ℕ → List Load → Type 0) (held : List ℕ → Option (List ℕ)) (words : ReplayWords) (script read : List ℕ) (loads others : List Load)
    → AreFiles held words read others → AreHeld held words script loads → P read others → P script loads
of_files P held words script read loads others files are p =
    let first : read ≡ script = same_bytes (held words.script) script read are.script_held files.script_read in
    let rest : others ≡ loads = same_loads held words.loads others loads files.loads_read are.loads_held in
    subst (P script) rest (subst (λ s. P s others) first p)

-- what was read is not too long
not_long : (held : List ℕ → Option (List ℕ)) (words : ReplayWords) (script : List ℕ) (loads : List Load) → AreFiles held words script loads → ¬ AreLong script loads
not_long held words script loads files (inl long) = let w = files.script_read.within_limit in omega (arith, long, w)
not_long held words script loads files (inr long) = some_short held words.loads loads files.loads_read long

-- one of the files that are held is too long, if one that was read is
long_held : (held : List ℕ → Option (List ℕ)) (left : Option (List ℕ)) (words : ReplayWords) (script : List ℕ) (loads : List Load) → AreHeld held words script loads
    → SomeTooLong held left (words.script ∷ names_of words.loads) → AreLong script loads
long_held held left words script loads are (inl long) = inl (too_long_held (held words.script) left script are.script_held long)
long_held held left words script loads are (inr (read, what, long)) = inr (some_long_held held left words.loads loads are.loads_held long)

-- ---- refusals

-- a CREATE line or a file is refused
abbrev pub Refused : ℕ → List ℕ → List Load → Type 0
Refused clients script loads =
    ((line : ℕ) × (fault : Fault) × FirstRefused clients 1 [] (lines_of script) line fault)
    ⊎ ((table : List ℕ) × (fault : Fault) × RefusesLoad clients script loads table fault)

-- the same, of files that were read
abbrev pub IsRefused : (List ℕ → Option (List ℕ)) → ReplayWords → Type 0
IsRefused held words = ((line : ℕ) × (fault : Fault) × IsRefusedSetup held words line fault) ⊎ ((table : List ℕ) × (fault : Fault) × IsRefusedLoad held words table fault)

abbrev pub SomeOutside : (List ℕ → Option (List ℕ)) → ReplayWords → Type 0
SomeOutside held words = (line : ℕ) × (place : ℕ) × IsOutside held words line place

-- the files that were read, whatever is refused of them
record Named (held : List ℕ → Option (List ℕ)) (words : ReplayWords) (P : List ℕ → List Load → Type 0) : Type 0 where
  script : List ℕ
  loads : List Load
  files : AreFiles held words script loads
  holds : P script loads

-- what holds of them holds of those that are held
named_held : (P : List ℕ → List Load → Type 0) (held : List ℕ → Option (List ℕ)) (words : ReplayWords) (script : List ℕ) (loads : List Load)
    → AreHeld held words script loads → Named held words P → P script loads
named_held P held words script loads are n = of_files P held words script n.script loads n.loads n.files are n.holds

-- which are not too long
named_short : (P : List ℕ → List Load → Type 0) (held : List ℕ → Option (List ℕ)) (words : ReplayWords) (script : List ℕ) (loads : List Load)
    → AreHeld held words script loads → Named held words P → ¬ AreLong script loads
named_short P held words script loads are n =
    of_files (λ s ls. ¬ AreLong s ls) held words script n.script loads n.loads n.files are (not_long held words n.script n.loads n.files)

outside_named : (held : List ℕ → Option (List ℕ)) (words : ReplayWords) → SomeOutside held words
    → Named held words (λ s ls. (at : LinePlace) × (outside words.setup.clients s ≡ Some at))
outside_named held words (line, place, o) = record { script = o.script; loads = o.loads; files = o.files; holds = (record { line = line; place = place }, o.first) }

refused_named : (held : List ℕ → Option (List ℕ)) (words : ReplayWords) → IsRefused held words
    → Named held words (λ s ls. (outside words.setup.clients s ≡ None) × Refused words.setup.clients s ls)
refused_named held words (inl (line, fault, r)) = record { script = r.script; loads = r.loads; files = r.files; holds = (r.inside, inl (line, fault, r.first)) }
refused_named held words (inr (table, fault, r)) = record { script = r.script; loads = r.loads; files = r.files; holds = (r.inside, inr (table, fault, r.refuses)) }

-- the statuses that are not 0 and not 2
abbrev pub Fails : ℕ → Type 0
Fails status = (status ≡ 3) ⊎ (status ≡ 4) ⊎ (status ≡ 6) ⊎ (status ≡ 7) ⊎ (status ≡ 9) ⊎ (status ≡ 10)

-- the link does nothing
pub known_status : (status : ℕ) → (status ≡ 3) ⊎ (status ≡ 4) ⊎ (status ≡ 5) ⊎ (status ≡ 6) ⊎ (status ≡ 7) ⊎ (status ≡ 9) ⊎ (status ≡ 10) → ¬ (status ≡ 5) → Fails status
known_status status (inl is) no_5 = inl is
known_status status (inr (inl is)) no_5 = inr (inl is)
known_status status (inr (inr (inl is))) no_5 = absurd (no_5 is)
known_status status (inr (inr (inr (inl is)))) no_5 = inr (inr (inl is))
known_status status (inr (inr (inr (inr (inl is))))) no_5 = inr (inr (inr (inl is)))
known_status status (inr (inr (inr (inr (inr (inl is)))))) no_5 = inr (inr (inr (inr (inl is))))
known_status status (inr (inr (inr (inr (inr (inr is)))))) no_5 = inr (inr (inr (inr (inr is))))

pub long_status : (status : ℕ) → Fails status → ¬ (status ≡ 3) → ¬ (status ≡ 4) → ¬ (status ≡ 6) → ¬ (status ≡ 7) → (status ≡ 9) ⊎ (status ≡ 10)
long_status status (inl is) no_3 no_4 no_6 no_7 = absurd (no_3 is)
long_status status (inr (inl is)) no_3 no_4 no_6 no_7 = absurd (no_4 is)
long_status status (inr (inr (inl is))) no_3 no_4 no_6 no_7 = absurd (no_6 is)
long_status status (inr (inr (inr (inl is)))) no_3 no_4 no_6 no_7 = absurd (no_7 is)
long_status status (inr (inr (inr (inr rest)))) no_3 no_4 no_6 no_7 = rest

-- a status that is not 0, with its causes
pub fits_held : (held : List ℕ → Option (List ℕ)) (left : Option (List ℕ)) (words : ReplayWords) (script : List ℕ) (loads : List Load) (status : ℕ)
    → AreHeld held words script loads → Fails status
    → ¬ (status ≡ 3) → ¬ (status ≡ 4) → (status ≡ 10 → SomeTooLong held left (files_of words)) → (status ≡ 6 → SomeOutside held words)
    → (status ≡ 7 → IsRefused held words)
    → FitsFiles words.setup.clients script loads status
fits_held held left words script loads status are fails read write too_long lies refused =
    let line : status ≡ 6 → (at : LinePlace) × (outside words.setup.clients script ≡ Some at) = λ is. named_held _ held words script loads are (outside_named held words (lies is)) in
    let cause : status ≡ 7 → (outside words.setup.clients script ≡ None) × Refused words.setup.clients script loads = λ is. named_held _ held words script loads are (refused_named held words (refused is)) in
    record {
      no_read_fault = read;
      no_write_fault = write;
      long = λ over. long_status status fails read write
          (λ is. named_short _ held words script loads are (outside_named held words (lies is)) over)
          (λ is. named_short _ held words script loads are (refused_named held words (refused is)) over);
      too_long = λ is. long_held held left words script loads are (too_long is);
      line = line;
      inside = inside_by;
      refused = λ is. (cause is).1;
      accepts = λ is. absurd (omega (arith, fails, is));
      loads_accepted = λ is. absurd (omega (arith, fails, is));
    }
  where
    inside_by : (status ≡ 0) ⊎ (status ≡ 7) → outside words.setup.clients script ≡ None
    inside_by (inl is) = absurd (omega (arith, fails, is))
    inside_by (inr is) = (named_held _ held words script loads are (refused_named held words (refused is))).0

-- neither the CREATE lines nor the files of a script that was replayed are refused
wrote_fits : (old new : Option (List ℕ)) (options : Options) (script : List ℕ) (loads : List Load) (world : World) → Wrote old new options script loads world
    → ¬ AreLong script loads → FitsFiles options.clients script loads 0
wrote_fits old new options script loads world wrote short =
    let t = wrote.traced in
    record {
      no_read_fault = λ k. omega (arith, k);
      no_write_fault = λ k. omega (arith, k);
      long = λ over. absurd (short over);
      too_long = λ k. absurd (omega (arith, k));
      line = λ k. absurd (omega (arith, k));
      inside = λ _. t.inside;
      refused = λ k. absurd (omega (arith, k));
      accepts = λ k line fault first. accepts options.clients 1 (lines_of script) t.all t.end line fault t.reads first;
      loads_accepted = λ k table fault refuses.
          filled_once refuses.0 t.end.tables loads t.tables (record { table = table; fault = fault })
          (created-tables options.clients (lines_of script) t.all t.end refuses.0 t.reads refuses.1) t.loaded refuses.2;
    }

-- status 0, with its cause
pub fits_done : (held : List ℕ → Option (List ℕ)) (words : ReplayWords) (script : List ℕ) (loads : List Load) (old new : Option (List ℕ))
    → AreHeld held words script loads → Replayed held words old new → FitsFiles words.setup.clients script loads 0
fits_done held words script loads old new are replayed =
    of_files (λ s ls. FitsFiles words.setup.clients s ls 0) held words script replayed.script loads replayed.loads replayed.files are
    (wrote_fits old new (options_of words.setup) replayed.script replayed.loads replayed.world replayed.wrote (not_long held words replayed.script replayed.loads replayed.files))
