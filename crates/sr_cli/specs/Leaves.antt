-- What a run of a command leaves of its host, and why it is refused.
use Rattle.std.specs.Prelude.{◌≡◌, ℕ, ◌⊎◌, List, Option, Result, Ok, Err, IfSome, IsOk}
use Rattle.sr_cell.specs.declared.list.No.{No}
use Rattle.sr_cell.specs.declared.list.No.TheVariants.{Refused, NoMemory as Wanting}
use Rattle.sr_io.specs.Causes.{Rose}
use Rattle.sr_io.specs.Told.{Reading, Writing, Linking, complained}
use Rattle.sr_world.specs.declared.replay.RunFault.{RunFault}
use Rattle.sr_world.specs.declared.replay.RunFault.TheVariants as fault
use Rattle.sr_cli.specs.Errors.{error_text, line_text, load_text, setup_text}
use Rattle.sr_cli.specs.Files.{SomeTooLong}
use Rattle.sr_cli.specs.declared.file.ReadFault.{ReadFault}
use Rattle.sr_cli.specs.declared.file.ReadFault.TheVariants.{Fault, NoMemory, TooLong as IsTooMuch}
use Rattle.sr_cli.specs.declared.report.Refusal.{Refusal}
use Rattle.sr_cli.specs.declared.report.Refusal.TheVariants.{Read, Write, Link, Memory, TooLong, Line, Setup, Load}

-- ---- what stays

-- A call has only read.
pub record OnlyReads (H : Type 0) (writing : H → Writing) (linking : H → Linking) (held : H → List ℕ → Option (List ℕ))
    (complaints : H → Option (List ℕ)) (IsSteady : H → Type 0) (old new : H) : Type 0 where
  pub stays_steady : IsSteady old → IsSteady new
  pub writing_stays : writing new ≡ writing old
  pub linking_stays : linking new ≡ linking old
  pub held_stays : held new ≡ held old
  pub complaints_stay : complaints new ≡ complaints old

-- It has only written.
pub record OnlyWrites (H : Type 0) (reading : H → Reading) (linking : H → Linking) (held : H → List ℕ → Option (List ℕ))
    (complaints : H → Option (List ℕ)) (IsSteady : H → Type 0) (old new : H) : Type 0 where
  pub stays_steady : IsSteady old → IsSteady new
  pub reading_stays : reading new ≡ reading old
  pub linking_stays : linking new ≡ linking old
  pub held_stays : held new ≡ held old
  pub complaints_stay : complaints new ≡ complaints old

-- It has only complained.
pub record OnlyComplains (H : Type 0) (reading : H → Reading) (writing : H → Writing) (linking : H → Linking) (held : H → List ℕ → Option (List ℕ))
    (IsSteady : H → Type 0) (old new : H) : Type 0 where
  pub stays_steady : IsSteady old → IsSteady new
  pub reading_stays : reading new ≡ reading old
  pub writing_stays : writing new ≡ writing old
  pub linking_stays : linking new ≡ linking old
  pub held_stays : held new ≡ held old

-- It has read, written and linked, and complained of nothing.
pub record OnlyRuns (H : Type 0) (held : H → List ℕ → Option (List ℕ)) (complaints : H → Option (List ℕ)) (IsSteady : H → Type 0) (old new : H) : Type 0 where
  pub stays_steady : IsSteady old → IsSteady new
  pub held_stays : held new ≡ held old
  pub complaints_stay : complaints new ≡ complaints old

-- Nothing was written, and no link was touched.
pub record DidNothing (H : Type 0) (writing : H → Writing) (linking : H → Linking) (old new : H) : Type 0 where
  pub writing_stays : writing new ≡ writing old
  pub linking_stays : linking new ≡ linking old

-- ---- the error output

-- the status is this one, and its line is on the error output
abbrev pub Says : ℕ → ℕ → Option (List ℕ) → Option (List ℕ) → Type 0
Says code status old new = (status ≡ code) × IfSome (error_text code) (λ text. new ≡ complained text old)

-- the same, with a line that names what is refused; or there was no memory for that
abbrev pub Names : ℕ → List ℕ → ℕ → Option (List ℕ) → Option (List ℕ) → Type 0
Names code text status old new = (status ≡ code) × (new ≡ complained text old) ⊎ Says 9 status old new

-- what is said of a refusal, with the status
abbrev pub Reported : Refusal → ℕ → Option (List ℕ) → Option (List ℕ) → Type 0
Reported Read status old new = Says 3 status old new
Reported Write status old new = Says 4 status old new
Reported Link status old new = Says 5 status old new
Reported Memory status old new = Says 9 status old new
Reported TooLong status old new = Says 10 status old new
Reported (Line line place) status old new = Names 6 (line_text line place) status old new
Reported (Setup line fault) status old new = Names 7 (setup_text line fault) status old new
Reported (Load table fault) status old new = Names 7 (load_text table fault) status old new

-- ---- refusals

-- why a run is refused whose file is not read
abbrev pub unread_of : ReadFault → Refusal
unread_of Fault = Read
unread_of NoMemory = Memory
unread_of IsTooMuch = TooLong

-- Why files of these names are not read: reading failed, which is counted; or one has too many bytes.
abbrev pub NotRead : (List ℕ → Option (List ℕ)) → List (List ℕ) → Reading → Reading → ReadFault → Type 0
NotRead held names old new Fault = Rose old.faults new.faults
NotRead held names old new NoMemory = new.faults ≡ old.faults
NotRead held names old new IsTooMuch = SomeTooLong held new.left names × (new.faults ≡ old.faults)

-- Which faults of reading and writing are counted, by how a run ended; and that one which is refused, or does not read its files, does
-- nothing.
abbrev pub Counts : (H : Type 0) → (H → Reading) → (H → Writing) → (H → Linking) → H → H → Result (Unit {0}) Refusal → Type 0
Counts H reading writing linking old new (Ok done) = (reading new).faults ≡ (reading old).faults
Counts H reading writing linking old new (Err Read) = Rose (reading old).faults (reading new).faults × DidNothing H writing linking old new
Counts H reading writing linking old new (Err Write) = Rose (writing old).faults (writing new).faults × ((reading new).faults ≡ (reading old).faults)
Counts H reading writing linking old new (Err Link) = (reading new).faults ≡ (reading old).faults
Counts H reading writing linking old new (Err Memory) = (reading new).faults ≡ (reading old).faults
Counts H reading writing linking old new (Err other) = DidNothing H writing linking old new × ((reading new).faults ≡ (reading old).faults)

-- what a replay that is refused so comes to
abbrev pub refusal_of : No RunFault → Refusal
refusal_of Wanting = Memory
refusal_of (Refused fault.WriteFault) = Write
refusal_of (Refused (fault.Line line place)) = Line line place
refusal_of (Refused (fault.Setup line why)) = Setup line why
refusal_of (Refused (fault.Load table why)) = Load table why

-- what one that ended so comes to
abbrev pub EndsAs : {T : Type 0} → Result T (No RunFault) → Result (Unit {0}) Refusal → Type 0
EndsAs {T} (Ok done) result = IsOk result
EndsAs {T} (Err wants) result = result ≡ Err (refusal_of wants)

-- ---- a run

-- the statuses of words and files that are not taken
abbrev pub IsUndone : ℕ → Type 0
IsUndone status = (status ≡ 2) ⊎ (status ≡ 3) ⊎ (status ≡ 6) ⊎ (status ≡ 7) ⊎ (status ≡ 10)

-- What a run of any command leaves, by the status that it ends with.
pub record Leaves (H : Type 0) (held : H → List ℕ → Option (List ℕ)) (reading : H → Reading) (writing : H → Writing) (linking : H → Linking)
    (complaints : H → Option (List ℕ)) (IsSteady : H → Type 0) (old new : H) (status : ℕ) : Type 0 where
  pub read_fault_is_counted : status ≡ 3 → Rose (reading old).faults (reading new).faults
  pub write_fault_is_counted : status ≡ 4 → Rose (writing old).faults (writing new).faults
  pub reading_keeps_faults : (status ≡ 3) ⊎ ((reading new).faults ≡ (reading old).faults)
  pub writes_nothing : IsUndone status → writing new ≡ writing old
  pub links_nothing : IsUndone status → linking new ≡ linking old
  pub silent : status ≡ 0 → complaints new ≡ complaints old
  pub complaint : IfSome (error_text status) (λ text. complaints new ≡ complained text (complaints old))
  pub stays_steady : IsSteady old → IsSteady new
  pub held_stays : held new ≡ held old
