-- What the steps of a client leave to be told and to be sent.
use Rattle.std.specs.Prelude.{ℕ, List, [], Some, None, Result, Ok, Err}
use Rattle.sr_cell.specs.declared.fault.Fault.{Fault}
use Rattle.sr_cell.specs.Cells.{Row}
use Rattle.sr_message.specs.declared.message.Message.{Message}
use Rattle.sr_client.specs.declared.steps.CutStep.{CutStep}
use Rattle.sr_client.specs.declared.steps.CutStep.TheVariants as cut
use Rattle.sr_client.specs.declared.steps.EvictStep.{EvictStep}
use Rattle.sr_client.specs.declared.steps.EvictStep.TheVariants as evict
use Rattle.sr_client.specs.declared.steps.QueryStep.{QueryStep}
use Rattle.sr_client.specs.declared.steps.QueryStep.TheVariants as query
use Rattle.sr_client.specs.declared.steps.ResumeStep.{ResumeStep}
use Rattle.sr_client.specs.declared.steps.ResumeStep.TheVariants as resume
use Rattle.sr_client.specs.declared.steps.Took.{Took}
use Rattle.sr_client.specs.declared.steps.Took.TheVariants as took
use Rattle.sr_client.specs.declared.steps.WriteStep.{WriteStep}
use Rattle.sr_client.specs.declared.steps.WriteStep.TheVariants as write
use Rattle.sr_handle.specs.declared.left.Left.{Left}
use Rattle.sr_handle.specs.declared.said.Said.{Said}
use Rattle.sr_handle.specs.declared.said.Said.TheVariants as said

-- nothing is to be sent, and there is no answer
abbrev pub quiet : Said → Left
quiet what = record { said = what; sent = None; rows = [] }

-- this request is to be sent
abbrev pub sending : ℕ → Message → Left
sending request message = record { said = said.Sent request; sent = Some message; rows = [] }

abbrev pub answering : ℕ → ℕ → List Row → Left
answering number version rows = record { said = said.Answered number version; sent = None; rows = rows }

abbrev pub left_of_query : QueryStep → Left
left_of_query (query.Answered number version rows marks) = answering number version rows
left_of_query (query.Asked number request message marks) = sending request message
left_of_query (query.Busy request) = quiet (said.Busy request)
left_of_query (query.Down number) = quiet (said.Down number)

-- of a text that may be refused
abbrev pub left_of_asked : Result QueryStep Fault → Left
left_of_asked (Err fault) = quiet (said.Sql fault)
left_of_asked (Ok step) = left_of_query step

abbrev pub left_of_took : Took → Left
left_of_took took.Laid = quiet said.Laid
left_of_took (took.Applied version marks) = quiet (said.Applied version)
left_of_took (took.Forgot version marks) = quiet (said.Forgot version)
left_of_took (took.Answered number version rows marks) = answering number version rows
left_of_took (took.Asked request message marks) = sending request message
left_of_took (took.Written request version marks) = quiet (said.Written request version)
left_of_took (took.Refused request fault marks) = quiet (said.Refused request fault)
left_of_took (took.Welcomed version kept marks) = quiet (said.Welcomed version kept)
left_of_took (took.Bad why) = quiet (said.Bad why)

abbrev pub left_of_write : WriteStep → Left
left_of_write (write.Sent request message) = sending request message
left_of_write (write.Sql fault) = quiet (said.Sql fault)
left_of_write (write.Busy request) = quiet (said.Busy request)
left_of_write (write.Down number) = quiet (said.Down number)

abbrev pub left_of_resume : ResumeStep → Left
left_of_resume (resume.Sent request message) = sending request message
left_of_resume resume.Up = quiet said.Up

abbrev pub left_of_evict : EvictStep → Left
left_of_evict (evict.Dropped region) = quiet said.Dropped
left_of_evict (evict.Busy request) = quiet (said.Busy request)
left_of_evict (evict.NoSuch count) = quiet (said.NoSuch count)

abbrev pub said_of_cut : CutStep → Said
said_of_cut (cut.Cut number ended) = said.Cut number
said_of_cut (cut.Already number) = said.AlreadyCut number
