-- What is read for a server, and what a status says of the files that are held.
use Rattle.std.proofs.Common.{◌≡◌, ℕ, ◌⊎◌, List, [], ◌∷◌, ◌++◌, length, Option, Some, None, inl, inr, arith, sym, ap, subst, ◌∙◌}
use Rattle.sr_cell.specs.declared.fault.Fault.{Fault}
use Rattle.sr_cell.specs.Clients.{most_clients}
use Rattle.sr_lines.specs.Lines.{lines_of}
use Rattle.sr_lines.specs.Script.{LinePlace}
use Rattle.sr_io.specs.Told.{Linking, Writing}
use Rattle.sr_load.specs.declared.fill.Load.{Load}
use Rattle.sr_reader.proofs.Created.{creates-once}
use Rattle.sr_setup.specs.Files.{outside, RefusesCreate, RefusesLoad, SetsUp}
use Rattle.sr_tables.specs.Stored.{Stored}
use Rattle.sr_talk.specs.declared.rounds.Ending.{Ending}
use Rattle.sr_words.specs.declared.command.ServeWords.{ServeWords}
use Rattle.sr_cli.specs.Files.{SomeTooLong, IsLong, names_of}
use Rattle.sr_cli.specs.Serve.{AreFiles, AreHeld, AreLong, DidRun, FitsFiles, IsExec, IsHeldExec, IsOutside, IsRefusedCreate, IsRefusedLoad, Served, exec_files, files_of}
use Rattle.sr_cli.proofs.SameFiles.{same_bytes, same_loads, some_short, too_long_held, some_long_held}
use Rattle.sr_cli.proofs.OneFilling.{filled_once}

-- ---- what was read of files that are held is what is held

same_exec : (held : List ℕ → Option (List ℕ)) (name : Option (List ℕ)) (read exec : List ℕ) → IsExec held name read → IsHeldExec held name exec → read ≡ exec
same_exec held None read exec none is = none ∙ sym is
same_exec held (Some name) read exec what is = same_bytes (held name) exec read is what

of_files : (P : List ℕ → List ℕ → List Load → Type 0) (held : List ℕ → Option (List ℕ)) (words : ServeWords) (schema exec : List ℕ) (loads : List Load) (read run : List ℕ) (others : List Load)
    → AreFiles held words read run others → AreHeld held words schema exec loads → P read run others → P schema exec loads
of_files P held words schema exec loads read run others files are p =
    let first : read ≡ schema = same_bytes (held words.schema) schema read are.schema_held files.schema_read in
    let second : run ≡ exec = same_exec held words.exec run exec files.exec_read are.exec_held in
    let rest : others ≡ loads = same_loads held words.loads others loads files.loads_read are.loads_held in
    subst (P schema exec) rest (subst (λ (e : List ℕ). P schema e others) second (subst (λ (s : List ℕ). P s run others) first p))

-- ---- files that are too long

exec_short : (held : List ℕ → Option (List ℕ)) (name : Option (List ℕ)) (read : List ℕ) → IsExec held name read → ¬ IsLong read
exec_short held None read none long = let e : length read ≡ 0 = ap length none in omega (arith, long, e)
exec_short held (Some name) read what long = let w = what.within_limit in omega (arith, long, w)

not_long : (held : List ℕ → Option (List ℕ)) (words : ServeWords) (schema exec : List ℕ) (loads : List Load) → AreFiles held words schema exec loads → ¬ AreLong schema exec loads
not_long held words schema exec loads files (inl long) = let w = files.schema_read.within_limit in omega (arith, long, w)
not_long held words schema exec loads files (inr (inl long)) = exec_short held words.exec exec files.exec_read long
not_long held words schema exec loads files (inr (inr long)) = some_short held words.loads loads files.loads_read long

exec_long : (held : List ℕ → Option (List ℕ)) (left : Option (List ℕ)) (name : Option (List ℕ)) (exec : List ℕ) → IsHeldExec held name exec → SomeTooLong held left (exec_files name) → IsLong exec
exec_long held left None exec is long = absurd long
exec_long held left (Some name) exec is (inl long) = too_long_held (held name) left exec is long
exec_long held left (Some name) exec is (inr (read, what, long)) = absurd long

either_long : (held : List ℕ → Option (List ℕ)) (left : Option (List ℕ)) (front back : List (List ℕ)) → SomeTooLong held left (front ++ back) → SomeTooLong held left front ⊎ SomeTooLong held left back
either_long held left [] back long = inr long
either_long held left (name ∷ front) back (inl long) = inl (inl long)
either_long held left (name ∷ front) back (inr (read, what, long)) =
    elim (either_long held left front back long) [ inl l ↦ inl (inr (read, what, l)) | inr l ↦ inr l ]

long_held : (held : List ℕ → Option (List ℕ)) (left : Option (List ℕ)) (words : ServeWords) (schema exec : List ℕ) (loads : List Load) → AreHeld held words schema exec loads
    → SomeTooLong held left (files_of words) → AreLong schema exec loads
long_held held left words schema exec loads are (inl long) = inl (too_long_held (held words.schema) left schema are.schema_held long)
long_held held left words schema exec loads are (inr (read, what, long)) =
    elim (either_long held left (exec_files words.exec) (names_of words.loads) long) [
      | inl l ↦ inr (inl (exec_long held left words.exec exec are.exec_held l))
      | inr l ↦ inr (inr (some_long_held held left words.loads loads are.loads_held l))
    ]

-- ---- what a status says

-- the files that were read, whatever is said of them
record Named (held : List ℕ → Option (List ℕ)) (words : ServeWords) (P : List ℕ → List ℕ → List Load → Type 0) : Type 0 where
  schema : List ℕ
  exec : List ℕ
  loads : List Load
  files : AreFiles held words schema exec loads
  holds : P schema exec loads

named_held : (P : List ℕ → List ℕ → List Load → Type 0) (held : List ℕ → Option (List ℕ)) (words : ServeWords) (schema exec : List ℕ) (loads : List Load)
    → AreHeld held words schema exec loads → Named held words P → P schema exec loads
named_held P held words schema exec loads are n = of_files P held words schema exec loads n.schema n.exec n.loads n.files are n.holds

named_short : (P : List ℕ → List ℕ → List Load → Type 0) (held : List ℕ → Option (List ℕ)) (words : ServeWords) (schema exec : List ℕ) (loads : List Load)
    → AreHeld held words schema exec loads → Named held words P → ¬ AreLong schema exec loads
named_short P held words schema exec loads are n =
    of_files (λ s e ls. ¬ AreLong s e ls) held words schema exec loads n.schema n.exec n.loads n.files are (not_long held words n.schema n.exec n.loads n.files)

-- a line that is outside the grammar
abbrev pub SomeOutside : (List ℕ → Option (List ℕ)) → ServeWords → Type 0
SomeOutside held words = (line : ℕ) × (place : ℕ) × IsOutside held words line place

abbrev Lies : List ℕ → List ℕ → List Load → Type 0
Lies schema exec loads = (at : LinePlace) × (outside schema exec ≡ Some at)

outside_named : (held : List ℕ → Option (List ℕ)) (words : ServeWords) → SomeOutside held words → Named held words Lies
outside_named held words (line, place, o) = record { schema = o.schema; exec = o.exec; loads = o.loads; files = o.files; holds = (record { line = line; place = place }, o.first) }

-- a CREATE line or a file is refused
abbrev pub IsRefused : (List ℕ → Option (List ℕ)) → ServeWords → Type 0
IsRefused held words = ((line : ℕ) × (fault : Fault) × IsRefusedCreate held words line fault) ⊎ ((table : List ℕ) × (fault : Fault) × IsRefusedLoad held words table fault)

abbrev Refused : List ℕ → List ℕ → List Load → Type 0
Refused schema exec loads = ((line : ℕ) × (fault : Fault) × RefusesCreate schema exec line fault) ⊎ ((table : List ℕ) × (fault : Fault) × RefusesLoad schema exec loads table fault)

refused_named : (held : List ℕ → Option (List ℕ)) (words : ServeWords) → IsRefused held words → Named held words Refused
refused_named held words (inl (line, fault, r)) = record { schema = r.schema; exec = r.exec; loads = r.loads; files = r.files; holds = inl (line, fault, r.refuses) }
refused_named held words (inr (table, fault, r)) = record { schema = r.schema; exec = r.exec; loads = r.loads; files = r.files; holds = inr (table, fault, r.refuses) }

-- nothing is refused
record Accepted (schema exec : List ℕ) (loads : List Load) : Type 0 where
  inside : outside schema exec ≡ None
  accepts : (line : ℕ) (fault : Fault) → ¬ RefusesCreate schema exec line fault
  accepts_loads : (table : List ℕ) (fault : Fault) → ¬ RefusesLoad schema exec loads table fault

accepted : (schema exec : List ℕ) (loads : List Load) (tables : Stored) (statements : List (List ℕ)) → SetsUp schema exec loads tables statements → Accepted schema exec loads
accepted schema exec loads tables statements up = record {
  inside = up.inside;
  accepts = λ line fault r. up.accepts line fault r.first;
  accepts_loads = λ table fault r.
      filled_once r.tables tables.schema loads tables.rows (record { table = table; fault = fault })
      (creates-once most_clients (lines_of schema) r.tables tables.schema r.created up.created) up.loaded r.first;
}

-- a server ran, whatever came of it
abbrev pub SomeServed : (List ℕ → Option (List ℕ)) → ServeWords → Linking → Linking → Writing → Writing → Type 0
SomeServed held words old new before after = (ending : Ending) × Served held words ending old new before after

served_named : (held : List ℕ → Option (List ℕ)) (words : ServeWords) (old new : Linking) (before after : Writing) → SomeServed held words old new before after → Named held words Accepted
served_named held words old new before after (ending, s) = record {
  schema = s.schema;
  exec = s.exec;
  loads = s.loads;
  files = s.files;
  holds = accepted s.schema s.exec s.loads s.ends.tables s.ends.statements s.ends.sets_up;
}

-- the statuses of a run of `serve`
abbrev pub Statuses : ℕ → Type 0
Statuses status = (status ≡ 0) ⊎ (status ≡ 3) ⊎ (status ≡ 4) ⊎ (status ≡ 5) ⊎ (status ≡ 6) ⊎ (status ≡ 7) ⊎ (status ≡ 9) ⊎ (status ≡ 10)

long_status : (status : ℕ) → Statuses status → ¬ (status ≡ 3) → ¬ (status ≡ 6) → ¬ (status ≡ 7) → ¬ DidRun status → (status ≡ 9) ⊎ (status ≡ 10)
long_status status (inl is) no_3 no_6 no_7 never = absurd (never (inl is))
long_status status (inr (inl is)) no_3 no_6 no_7 never = absurd (no_3 is)
long_status status (inr (inr (inl is))) no_3 no_6 no_7 never = absurd (never (inr (inl is)))
long_status status (inr (inr (inr (inl is)))) no_3 no_6 no_7 never = absurd (never (inr (inr is)))
long_status status (inr (inr (inr (inr (inl is))))) no_3 no_6 no_7 never = absurd (no_6 is)
long_status status (inr (inr (inr (inr (inr (inl is)))))) no_3 no_6 no_7 never = absurd (no_7 is)
long_status status (inr (inr (inr (inr (inr (inr is)))))) no_3 no_6 no_7 never = is

-- a status, with its causes
pub fits_held : (held : List ℕ → Option (List ℕ)) (left : Option (List ℕ)) (words : ServeWords) (schema exec : List ℕ) (loads : List Load) (old new : Linking) (before after : Writing) (status : ℕ)
    → AreHeld held words schema exec loads → Statuses status → ¬ (status ≡ 3) → (status ≡ 10 → SomeTooLong held left (files_of words))
    → (status ≡ 6 → SomeOutside held words) → (status ≡ 7 → IsRefused held words) → (DidRun status → SomeServed held words old new before after)
    → FitsFiles schema exec loads status
fits_held held left words schema exec loads old new before after status are ends read too_long lies refused ran =
    let accepts : DidRun status → Accepted schema exec loads = λ did. named_held Accepted held words schema exec loads are (served_named held words old new before after (ran did)) in
    record {
      no_read_fault = read;
      long = λ over. long_status status ends read
          (λ is. named_short Lies held words schema exec loads are (outside_named held words (lies is)) over)
          (λ is. named_short Refused held words schema exec loads are (refused_named held words (refused is)) over)
          (λ did. named_short Accepted held words schema exec loads are (served_named held words old new before after (ran did)) over);
      too_long = λ is. long_held held left words schema exec loads are (too_long is);
      line = λ is. named_held Lies held words schema exec loads are (outside_named held words (lies is));
      refused = λ is. named_held Refused held words schema exec loads are (refused_named held words (refused is));
      inside = λ did. (accepts did).inside;
      accepts = λ did. (accepts did).accepts;
      accepts_loads = λ did. (accepts did).accepts_loads;
    }
