-- How runs of `serve` end.
use Rattle.std.proofs.Common.{◌≡◌, ℕ, ◌⊎◌, List, ◌++◌, Option, Some, None, Ok, Err, inl, inr, refl, sym, ap, subst, arith, ◌∙◌}
use Rattle.std.specs.Prelude.{Result, IfErr, IfOk, IsErrOf, OnErr, OnOk}
use Rattle.sr_cell.specs.declared.fault.Fault.{Fault}
use Rattle.sr_cell.specs.declared.list.No.{No}
use Rattle.sr_cell.specs.declared.list.No.TheVariants.{Refused as NoBut, NoMemory as Wanting}
use Rattle.sr_cell.specs.declared.list.NoMemory.{NoMemory}
use Rattle.sr_io.specs.Causes.{Rose}
use Rattle.sr_io.specs.Told.{Reading, Writing, Linking, complained}
use Rattle.sr_load.specs.declared.fill.Load.{Load}
use Rattle.sr_serve.specs.Runs.{Ran, RanInPart}
use Rattle.sr_server.specs.Servers.{first_database}
use Rattle.sr_setup.specs.Files.{SetsUp, RefusesCreate, RefusesLoad, outside}
use Rattle.sr_setup.specs.declared.setup.SetupFault.{SetupFault}
use Rattle.sr_setup.specs.declared.setup.SetupFault.TheVariants as setup
use Rattle.sr_tables.specs.Stored.{Stored}
use Rattle.sr_talk.specs.declared.rounds.Ending.{Ending}
use Rattle.sr_talk.specs.declared.rounds.Ending.TheVariants.{Whole, Faulty, Unwritten}
use Rattle.sr_words.specs.declared.command.ServeWords.{ServeWords}
use Rattle.sr_cli.specs.Client.{Untouched}
use Rattle.sr_cli.specs.Errors.{line_text, setup_text, load_text}
use Rattle.sr_cli.specs.Files.{SomeTooLong}
use Rattle.sr_cli.specs.Leaves.{Counts, NotRead, Reported}
use Rattle.sr_cli.specs.Serve.{AreFiles, DidRun, Ended, Ends, IsExec, NamedLine, NamedCreate, NamedLoad, Refuses, RefusesOver, Served, ServedInPart, exec_files, files_of, refusal_of}
use Rattle.sr_cli.specs.declared.file.ReadFault.{ReadFault}
use Rattle.sr_cli.specs.declared.file.ReadFault.TheVariants as read
use Rattle.sr_cli.specs.declared.report.Refusal.{Refusal}
use Rattle.sr_cli.specs.declared.report.Refusal.TheVariants.{Read, Write, Link, Memory, TooLong, Line, Setup, Load as LoadRefused}
use Rattle.sr_cli.proofs.LeavesLemmas.{HasName, InWant, NamesLine, NamesRefused, Report, behind-not-read, reported-is}
use Rattle.sr_cli.proofs.ServeLemmas.{IsRefused, SomeOutside, SomeServed}

-- ---- a server that ran

module _ (schema exec : List ℕ) (loads : List Load) (words : ServeWords) (tables : Stored) (statements : List (List ℕ)) (up : SetsUp schema exec loads tables statements) (old new : Linking) (before after : Writing) where
  abbrev pub Runs : Ending → Type 0
  Runs ending = Ran (first_database tables.schema words.log tables.rows) statements words.address words.count ending old new before after

  ends : (ending : Ending) → Runs ending → Ends schema exec loads words ending old new before after
  ends ending ran = record { tables = tables; statements = statements; sets_up = up; ran = ran }

  pub ran-whole : (done : Result Ending NoMemory) (result : Result (Unit {0}) Refusal) → Ended done result → IfOk done Runs → OnOk result (Ends schema exec loads words Whole old new before after)
  ran-whole (Ok Whole) (Ok x) is ran = ends Whole ran
  ran-whole done (Err why) is ran = tt
  ran-whole (Ok Faulty) (Ok x) is ran = absurd (cc)
  ran-whole (Ok Unwritten) (Ok x) is ran = absurd (cc)
  ran-whole (Err wants) (Ok x) is ran = absurd (cc)

  pub ran-refused : (done : Result Ending NoMemory) (result : Result (Unit {0}) Refusal) → Ended done result → IfOk done Runs
      → OnErr done (RanInPart (first_database tables.schema words.log tables.rows) statements words.address words.count old new before after)
      → IfErr result (Refuses schema exec loads words old new before after)
  ran-refused (Ok Whole) (Ok x) is ran part = tt
  ran-refused (Ok Whole) (Err why) is ran part = absurd (cc)
  ran-refused (Ok Faulty) result is ran part = subst (λ r. IfErr r (Refuses schema exec loads words old new before after)) (sym is) (ends Faulty ran)
  ran-refused (Ok Unwritten) result is ran part = subst (λ r. IfErr r (Refuses schema exec loads words old new before after)) (sym is) (ends Unwritten ran)
  ran-refused (Err wants) result is ran part =
      subst (λ r. IfErr r (Refuses schema exec loads words old new before after)) (sym is) (inr (record { tables = tables; statements = statements; sets_up = up; ran = part }))

  pub ran-counts : (H : Type 0) (reading : H → Reading) (writing : H → Writing) (linking : H → Linking) (first last : H) (done : Result Ending NoMemory) (result : Result (Unit {0}) Refusal) → Ended done result
      → (linking first ≡ old) → (linking last ≡ new) → (writing first ≡ before) → (writing last ≡ after) → reading last ≡ reading first → IfOk done Runs → Counts H reading writing linking first last result
  ran-counts H reading writing linking first last (Ok Whole) (Ok x) is a b c d same ran = ap (λ (r : Reading). r.faults) same
  ran-counts H reading writing linking first last (Ok Whole) (Err why) is a b c d same ran = absurd (cc)
  ran-counts H reading writing linking first last (Ok Faulty) result is a b c d same ran =
      subst (Counts H reading writing linking first last) (sym is) (ap (λ (r : Reading). r.faults) same)
  ran-counts H reading writing linking first last (Ok Unwritten) result is a b c d same ran =
      subst (Counts H reading writing linking first last) (sym is)
      (rw (sym c, sym d) at ran.write_fault_is_counted refl, ap (λ (r : Reading). r.faults) same)
  ran-counts H reading writing linking first last (Err wants) result is a b c d same ran =
      subst (Counts H reading writing linking first last) (sym is) (ap (λ (r : Reading). r.faults) same)

  pub ran-links : (done : Result Ending NoMemory) (result : Result (Unit {0}) Refusal) → Ended done result → IfOk done Runs → IsErrOf result Link → Rose old.faults new.faults
  ran-links (Ok Whole) (Ok x) is ran failed = absurd (cc)
  ran-links (Ok Whole) (Err why) is ran failed = absurd (cc)
  ran-links (Ok Faulty) result is ran failed = ran.link_fault_is_counted refl
  ran-links (Ok Unwritten) result is ran failed = absurd (cc)
  ran-links (Err wants) result is ran failed = absurd (cc)

-- the ending is the one that was met
pub never-by : (done : Result Ending NoMemory) (result : Result (Unit {0}) Refusal) (refusal : Refusal) (ending : Ending) → Ended done result → IsErrOf result refusal
    → (refusal ≡ Write) × (ending ≡ Unwritten) ⊎ (refusal ≡ Link) × (ending ≡ Faulty) → IfOk done (λ e. e ≡ ending → ⊥) → ⊥
never-by (Ok Whole) (Ok x) refusal ending is wrong which never = cc
never-by (Ok Whole) (Err why) refusal ending is wrong which never = cc
never-by (Ok Faulty) result refusal ending is wrong (inl (one, two)) never = cc
never-by (Ok Faulty) result refusal ending is wrong (inr (one, two)) never = never (sym two)
never-by (Ok Unwritten) result refusal ending is wrong (inl (one, two)) never = never (sym two)
never-by (Ok Unwritten) result refusal ending is wrong (inr (one, two)) never = cc
never-by (Err wants) result refusal ending is wrong (inl (one, two)) never = cc
never-by (Err wants) result refusal ending is wrong (inr (one, two)) never = cc

-- ---- over the files that the words name

pub over-files : (held : List ℕ → Option (List ℕ)) (words : ServeWords) (left : Option (List ℕ)) (schema exec : List ℕ) (loads : List Load) (old new : Linking) (before after : Writing) (refusal : Refusal)
    → AreFiles held words schema exec loads → Refuses schema exec loads words old new before after refusal → RefusesOver held words left old new before after refusal
over-files held words left schema exec loads old new before after Read files why = absurd why
over-files held words left schema exec loads old new before after TooLong files why = absurd why
over-files held words left schema exec loads old new before after Write files why = record { schema = schema; exec = exec; loads = loads; files = files; ends = why }
over-files held words left schema exec loads old new before after Link files why = record { schema = schema; exec = exec; loads = loads; files = files; ends = why }
over-files held words left schema exec loads old new before after Memory files (inl none) = inl none
over-files held words left schema exec loads old new before after Memory files (inr part) = inr (record { schema = schema; exec = exec; loads = loads; files = files; ends = part })
over-files held words left schema exec loads old new before after (Line line place) files why = record { schema = schema; exec = exec; loads = loads; files = files; first = why }
over-files held words left schema exec loads old new before after (Setup line fault) files why = record { schema = schema; exec = exec; loads = loads; files = files; refuses = why }
over-files held words left schema exec loads old new before after (LoadRefused table fault) files why = record { schema = schema; exec = exec; loads = loads; files = files; refuses = why }

-- ---- what the status says

module _ (held : List ℕ → Option (List ℕ)) (words : ServeWords) (left : Option (List ℕ)) (old new : Linking) (before after : Writing) (refusal : Refusal) (status : ℕ) (first told last : Option (List ℕ))
    (silent : told ≡ first) (reported : Reported refusal status told last) (why : RefusesOver held words left old new before after refusal) where
  rep : Report refusal status told last
  rep = reported-is refusal status told last reported

  being : (r : Refusal) → refusal ≡ r → RefusesOver held words left old new before after r
  being r is = subst (RefusesOver held words left old new before after) is why

  pub unwritten-by : status ≡ 4 → Served held words Unwritten old new before after
  unwritten-by is = being Write (rep.write is)

  pub faulty-by : status ≡ 5 → Served held words Faulty old new before after
  faulty-by is = being Link (rep.link is)

  pub too-long-by : status ≡ 10 → SomeTooLong held left (files_of words)
  too-long-by is = being TooLong (rep.too_long is)

  pub outside-by : status ≡ 6 → SomeOutside held words
  outside-by is = by (rep.line is)
    where
      by : NamesLine refusal told last → SomeOutside held words
      by (line, place, named, said) = (line, place, being (Line line place) named)

  pub line-by : status ≡ 6 → NamedLine held words first last
  line-by is = by (rep.line is)
    where
      by : NamesLine refusal told last → NamedLine held words first last
      by (line, place, named, said) = record { line = line; place = place; refused = being (Line line place) named; said = said ∙ ap (complained (line_text line place)) silent }

  pub refused-by : status ≡ 7 → IsRefused held words
  refused-by is = by (rep.refused is)
    where
      by : NamesRefused refusal told last → IsRefused held words
      by (inl (line, fault, named, said)) = inl (line, fault, being (Setup line fault) named)
      by (inr (table, fault, named, said)) = inr (table, fault, being (LoadRefused table fault) named)

  pub named-by : status ≡ 7 → NamedCreate held words first last ⊎ NamedLoad held words first last
  named-by is = by (rep.refused is)
    where
      by : NamesRefused refusal told last → NamedCreate held words first last ⊎ NamedLoad held words first last
      by (inl (line, fault, named, said)) = inl (record { line = line; fault = fault; refused = being (Setup line fault) named; said = said ∙ ap (complained (setup_text line fault)) silent })
      by (inr (table, fault, named, said)) = inr (record { table = table; fault = fault; refused = being (LoadRefused table fault) named; said = said ∙ ap (complained (load_text table fault)) silent })

  pub served-by : DidRun status → SomeServed held words old new before after
  served-by (inl is) = (let o = rep.only in absurd (omega (arith, o, is)))
  served-by (inr (inl is)) = (Unwritten, unwritten-by is)
  served-by (inr (inr is)) = (Faulty, faulty-by is)

  pub want-by : (HasName refusal → Untouched old new before after)
      → status ≡ 9 → Untouched old new before after ⊎ ServedInPart held words old new before after
  want-by nothing is = by (rep.memory is)
    where
      by : InWant refusal → Untouched old new before after ⊎ ServedInPart held words old new before after
      by (inl named) = being Memory named
      by (inr named) = inl (nothing named)

-- ---- files that are not set up

module _ (schema exec : List ℕ) (loads : List Load) (words : ServeWords) (no : No SetupFault) (line : (line place : ℕ) → no ≡ NoBut (setup.Line line place) → outside schema exec ≡ Some (record { line = line; place = place }))
    (create : (line : ℕ) (fault : Fault) → no ≡ NoBut (setup.Create line fault) → RefusesCreate schema exec line fault) (load : (table : List ℕ) (fault : Fault) → no ≡ NoBut (setup.Load table fault) → RefusesLoad schema exec loads table fault) where
  pub setup-refused : (l : Linking) (w : Writing) → Refuses schema exec loads words l l w w (refusal_of no)
  setup-refused l w = by no refl
    where
      by : (n : No SetupFault) → no ≡ n → Refuses schema exec loads words l l w w (refusal_of n)
      by Wanting is = inl (record { linking = refl; writing = refl })
      by (NoBut (setup.Line at place)) is = line at place is
      by (NoBut (setup.Create at fault)) is = create at fault is
      by (NoBut (setup.Load table fault)) is = load table fault is

pub setup-counts : (H : Type 0) (reading : H → Reading) (writing : H → Writing) (linking : H → Linking) (host : H) (no : No SetupFault) → Counts H reading writing linking host host (Err (refusal_of no))
setup-counts H reading writing linking host Wanting = refl
setup-counts H reading writing linking host (NoBut (setup.Line at place)) = (record { writing_stays = refl; linking_stays = refl }, refl)
setup-counts H reading writing linking host (NoBut (setup.Create at fault)) = (record { writing_stays = refl; linking_stays = refl }, refl)
setup-counts H reading writing linking host (NoBut (setup.Load table fault)) = (record { writing_stays = refl; linking_stays = refl }, refl)

pub setup-never : (no : No SetupFault) (refusal : Refusal) → refusal_of no ≡ refusal → (refusal ≡ Write) ⊎ (refusal ≡ Link) → ⊥
setup-never Wanting refusal is (inl write) = cc
setup-never Wanting refusal is (inr link) = cc
setup-never (NoBut (setup.Line at place)) refusal is (inl write) = cc
setup-never (NoBut (setup.Line at place)) refusal is (inr link) = cc
setup-never (NoBut (setup.Create at fault)) refusal is (inl write) = cc
setup-never (NoBut (setup.Create at fault)) refusal is (inr link) = cc
setup-never (NoBut (setup.Load table fault)) refusal is (inl write) = cc
setup-never (NoBut (setup.Load table fault)) refusal is (inr link) = cc

-- ---- files that are not read

-- one behind the exec file
pub behind-exec : (held : List ℕ → Option (List ℕ)) (name : Option (List ℕ)) (exec : List ℕ) (names : List (List ℕ)) (first mid last : Reading) (fault : ReadFault) → IsExec held name exec → mid.faults ≡ first.faults
    → NotRead held names mid last fault → NotRead held (exec_files name ++ names) first last fault
behind-exec held (Some name) exec names first mid last fault is same why = behind-not-read held name exec names first mid last fault is same why
behind-exec held None exec names first mid last read.Fault is same why = subst (λ n. Rose n last.faults) same why
behind-exec held None exec names first mid last read.NoMemory is same why = why ∙ same
behind-exec held None exec names first mid last read.TooLong is same why = (why.0, why.1 ∙ same)
