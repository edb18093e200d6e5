-- What is answered is what is met.
use Rattle.std.proofs.Common.{◌≡◌, refl}
use Rattle.std.specs.Prelude.{Err, IsErrOf}
use Rattle.sr_cli.specs.declared.stop.Stop.TheVariants.{Refused}
use Rattle.sr_cli.specs.Leaves.{unread_of}
use Rattle.sr_cli.specs.declared.file.ReadFault.{ReadFault}
use Rattle.sr_cli.specs.declared.file.ReadFault.TheVariants as read
use Rattle.sr_cli.specs.declared.report.Refusal.{Refusal}
use Rattle.sr_cli.specs.declared.report.Refusal.TheVariants.{Read, Write}

-- the refusal is the one that is answered
pub one_refusal : {T : Type 0} (a b : Refusal) → IsErrOf {T = T} (Err a) b → a ≡ b
one_refusal a b is = cc

-- where a file was not read, reading failed if that is said
pub stop-failed : {T : Type 0} (cause : ReadFault) → IsErrOf {T = T} (Err (Refused (unread_of cause))) (Refused Read) → cause ≡ read.Fault
stop-failed {T} read.Fault is = refl
stop-failed {T} read.NoMemory is = absurd cc
stop-failed {T} read.TooLong is = absurd cc

-- and no line was to be written
pub stop-unwritten : {T : Type 0} (cause : ReadFault) → IsErrOf {T = T} (Err (Refused (unread_of cause))) (Refused Write) → ⊥
stop-unwritten {T} read.Fault is = cc
stop-unwritten {T} read.NoMemory is = cc
stop-unwritten {T} read.TooLong is = cc
