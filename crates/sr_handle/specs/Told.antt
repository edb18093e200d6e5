-- What a call tells a caller in C, as numbers.
use Rattle.std.specs.Prelude.{ℕ, Bool, true, false, Result, Ok, Err}
use Rattle.sr_cell.specs.declared.fault.Fault.{Fault}
use Rattle.sr_wire.specs.Kinds.{why_byte}
use Rattle.sr_wire.specs.declared.bad_frame.BadFrame.{BadFrame}
use Rattle.sr_wire.specs.declared.bad_frame.BadFrame.TheVariants as bad
use Rattle.sr_wire.specs.declared.wire_fault.WireFault.{WireFault}
use Rattle.sr_wire.specs.declared.wire_fault.WireFault.TheVariants as wire
use Rattle.sr_handle.specs.declared.said.Said.{Said}
use Rattle.sr_handle.specs.declared.said.Said.TheVariants as said
use Rattle.sr_handle.specs.declared.said.Stop.{Stop}
use Rattle.sr_handle.specs.declared.said.Stop.TheVariants as stop
use Rattle.sr_handle.specs.declared.told.Told.{Told}

abbrev pub numbered : ℕ → ℕ → ℕ → Told
numbered outcome number version = record { outcome = outcome; why = 0; at = 0; number = number; version = version }

abbrev pub bare : ℕ → Told
bare outcome = numbered outcome 0 0

abbrev pub blamed : ℕ → ℕ → ℕ → ℕ → Told
blamed outcome why at number = record { outcome = outcome; why = why; at = at; number = number; version = 0 }

-- the reason as in a frame
abbrev pub of_fault : ℕ → Fault → ℕ → Told
of_fault outcome fault number = blamed outcome (why_byte fault.why) fault.at number

abbrev pub bad_number : BadFrame → ℕ
bad_number bad.Direction = 1
bad_number bad.State = 2
bad_number bad.Number = 3
bad_number bad.Version = 4
bad_number bad.Shape = 5

abbrev pub of_wire : WireFault → Told
of_wire wire.Short = blamed 20 1 0 0
of_wire (wire.Long size) = blamed 20 2 size 0
of_wire (wire.Kind byte) = blamed 20 3 byte 0
of_wire (wire.Field place) = blamed 20 4 place 0

abbrev pub flag : Bool → ℕ
flag true = 1
flag false = 0

abbrev pub told_of : Said → Told
told_of (said.Answered query version) = numbered 1 query version
told_of (said.Sent request) = numbered 2 request 0
told_of (said.Busy request) = numbered 3 request 0
told_of (said.Down cut) = numbered 4 cut 0
told_of (said.Sql fault) = of_fault 5 fault 0
told_of said.Up = bare 6
told_of (said.Cut number) = numbered 7 number 0
told_of (said.AlreadyCut number) = numbered 8 number 0
told_of said.Dropped = bare 9
told_of (said.NoSuch count) = numbered 10 count 0
told_of (said.Explained version) = numbered 11 0 version
told_of said.Wanting = bare 12
told_of said.Laid = bare 13
told_of (said.Applied version) = numbered 14 0 version
told_of (said.Forgot version) = numbered 15 0 version
told_of (said.Written request version) = numbered 16 request version
told_of (said.Refused request fault) = of_fault 17 fault request
told_of (said.Welcomed version kept) = numbered 18 (flag kept) version
told_of (said.Bad why) = blamed 19 (bad_number why) 0 0
told_of (said.Spoiled fault) = of_wire fault

abbrev pub stopped : Stop → Told
stopped stop.NoMemory = bare 21
stopped stop.Worn = bare 22
stopped (stop.BadText place) = blamed 23 0 place 0

abbrev pub outcome_of : Result Said Stop → Told
outcome_of (Ok what) = told_of what
outcome_of (Err why) = stopped why
