-- What a run of `serve` did, how it ended, and why.
use Rattle.std.specs.Prelude.{◌≡◌, ◌≢◌, ℕ, List, []}
use Rattle.std.specs.Io.KnownBytes.{Appends}
use Rattle.sr_io.specs.Causes.{Rose}
use Rattle.sr_io.specs.Told.{Linking, Writing, docked_at}
use Rattle.sr_session.specs.Sessions.{Database}
use Rattle.sr_server.specs.Servers.{Gives, IsSound}
use Rattle.sr_talk.specs.Serving.{Served, ServedInPart, listening}
use Rattle.sr_talk.specs.declared.rounds.Ending.{Ending}
use Rattle.sr_talk.specs.declared.rounds.Ending.TheVariants.{Whole, Faulty, Unwritten}

-- the status that a run ends with
abbrev pub status_of : Ending → ℕ
status_of Whole = 0
status_of Faulty = 5
status_of Unwritten = 4

-- What was written meanwhile, and what was done over the link, from the loaded tables on: each connection came at this address, and
-- where any came the versions are sound in the end. It ends as faulty only where a fault of the link is counted, and as unwritten just
-- where one of the sink is.
pub record Ran (db : Database) (texts : List (List ℕ)) (address : List ℕ) (count : ℕ) (ending : Ending) (old new : Linking)
    (before after : Writing) : Type 0 where
  pub written : List ℕ
  pub appended : Appends before.written after.written written
  pub served : Served Gives db texts address count (status_of ending) old new written
  pub sound : served.conversations ≢ [] → IsSound served.last
  pub link_fault_is_counted : ending ≡ Faulty → Rose old.faults new.faults
  pub write_fault_is_counted : ending ≡ Unwritten → Rose before.faults after.faults
  pub writing_keeps_faults : ending ≢ Unwritten → after.faults ≡ before.faults

-- What was written and done until memory was refused.
pub record RanInPart (db : Database) (texts : List (List ℕ)) (address : List ℕ) (count : ℕ) (old new : Linking) (before after : Writing) : Type 0 where
  pub written : List ℕ
  pub appended : Appends before.written after.written written
  pub served : ServedInPart Gives db texts address count old new written
  pub writing_keeps_faults : after.faults ≡ before.faults

-- whatever the host was like before it docked at an address and `listening` was written, with no fault of the sink
abbrev pub BehindListening : Linking → Writing → (List ℕ → Linking → Writing → Type 0) → Type 0
BehindListening docked written Says = (address : List ℕ) (old : Linking) (before : Writing) → docked ≡ docked_at address old
    → Appends before.written written.written listening → written.faults ≡ before.faults → Says address old before
