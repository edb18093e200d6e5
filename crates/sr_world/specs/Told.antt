-- What is told of asks and cuts.
use Rattle.std.specs.Prelude.{ℕ, Bool, true, false, ◌≡◌, List, [], ◌∷◌, length, nat_le}
use Rattle.sr_message.specs.declared.message.Message.{Message}
use Rattle.sr_message.specs.declared.message.Message.TheVariants.{Ask, Hello, Resume}
use Rattle.sr_script.specs.declared.line.FailKind.TheVariants as fail
use Rattle.sr_script.specs.declared.line.TraceLine.{TraceLine}
use Rattle.sr_script.specs.declared.line.TraceLine.TheVariants as line
use Rattle.sr_client.specs.declared.steps.Ended.{Ended}
use Rattle.sr_client.specs.declared.steps.Ended.TheVariants as ended
use Rattle.sr_client.specs.declared.steps.QueryStep.{QueryStep}
use Rattle.sr_client.specs.declared.steps.QueryStep.TheVariants as query
use Rattle.sr_client.specs.declared.steps.ResumeStep.{ResumeStep}
use Rattle.sr_client.specs.declared.steps.ResumeStep.TheVariants as resume
use Rattle.sr_client.specs.declared.steps.Took.{Took}
use Rattle.sr_client.specs.declared.steps.Took.TheVariants as took
use Rattle.sr_runs.specs.Lines.{ask_lines}

-- ---- what a step sends

-- an ask of at most four parts
abbrev pub is_few_ask : Message → Bool
is_few_ask (Ask request fresh parts) = nat_le (length parts) 4
is_few_ask other = false

-- what is sent, if anything is, is one
abbrev pub QueryAsksFew : QueryStep → Type 0
QueryAsksFew (query.Asked number request message marks) = is_few_ask message ≡ true
QueryAsksFew other = Unit {0}

abbrev pub TookAsksFew : Took → Type 0
TookAsksFew (took.Asked request message marks) = is_few_ask message ≡ true
TookAsksFew other = Unit {0}

-- a message that opens a session
abbrev pub opens : Message → Bool
opens (Hello wire client request) = true
opens (Resume wire client request version holdings) = true
opens other = false

-- what is sent, if anything is, is one
abbrev pub ResumeOpens : ResumeStep → Type 0
ResumeOpens (resume.Sent request message) = opens message ≡ true
ResumeOpens other = Unit {0}

-- ---- asks

-- the lines of the ask that a message is
abbrev pub asked_lines : ℕ → Message → List TraceLine
asked_lines client (Ask request fresh parts) = ask_lines client request fresh parts
asked_lines client other = []

-- ---- cuts

-- the line of what ended with a cut
abbrev pub ended_lines : ℕ → Ended → List TraceLine
ended_lines client ended.Nothing = []
ended_lines client (ended.Query number) = line.Fail client fail.Query number ∷ []
ended_lines client (ended.Write number) = line.Fail client fail.Write number ∷ []
ended_lines client (ended.Resume number) = line.Fail client fail.Resume number ∷ []
