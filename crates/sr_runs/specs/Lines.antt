-- The lines of an event, as a function of what came of it: first its details, and last its outcome.
use Rattle.std.specs.Prelude.{ℕ, Bool, List, [], ◌∷◌, ◌++◌, length, map, Option, Some, None}
use Rattle.sr_cell.specs.Cells.{Row}
use Rattle.sr_message.specs.declared.message.AskPart.{AskPart}
use Rattle.sr_message.specs.declared.message.Message.{Message}
use Rattle.sr_message.specs.declared.message.Message.TheVariants.{Hello, Resume, Ask, Write}
use Rattle.sr_history.specs.declared.mark.Mark.{Mark}
use Rattle.sr_history.specs.declared.mark.Mark.TheVariants.{Held, Dropped}
use Rattle.sr_script.specs.declared.line.FailKind.TheVariants as fail
use Rattle.sr_script.specs.declared.line.RequestKind.TheVariants as kind
use Rattle.sr_script.specs.declared.line.TraceLine.{TraceLine}
use Rattle.sr_script.specs.declared.line.TraceLine.TheVariants as line
use Rattle.sr_session.specs.Walks.{Request, AskOut, WriteOut, ResumeOut}
use Rattle.sr_session.specs.Rules.{Outcome, AlreadyCut, AlreadyUp, Answered, Applied, AskSent, Busy, CutDone, Down, Evicted, Forgot, Laid, NoSuchClass, QueryRefused, ResumeSent, Welcomed, WriteDone, WriteRefused, WriteSent}
use Rattle.sr_session.specs.Scenes.{ClientIdle, CutOf, Did, Event, EvictOf, Executed, NotExecuted, PushClosed, Pushed, QueryOf, Report, ResumeOf, ServerIdle, ServerTook, ToClient, WriteOf, client_of}

-- ---- details, of client n

abbrev pub mark_line : ℕ → Mark → TraceLine
mark_line n (Held t attrs rects) = line.Held n t attrs rects
mark_line n (Dropped cause t attrs stamp rects) = line.Drop n cause t attrs stamp rects

abbrev pub part_line : AskPart → TraceLine
part_line ask = line.Part ask.table ask.attrs ask.rects

-- the answer of a query, and then its rows
abbrev pub answer_lines : ℕ → ℕ → ℕ → List Row → List TraceLine
answer_lines n query version rows = line.Answer n query version (length rows) ∷ map line.Row rows

-- marks, in the order in which they were made
abbrev pub mark_lines : ℕ → List Mark → List TraceLine
mark_lines n marks = map (mark_line n) marks

-- an ask, and then its parts
abbrev pub ask_lines : ℕ → ℕ → Bool → List AskPart → List TraceLine
ask_lines n request fresh parts = line.Ask n request fresh (length parts) ∷ map part_line parts

-- what a cut ended: a query by its number, a write or a resume by that of its request
abbrev pub fail_lines : ℕ → Option Request → List TraceLine
fail_lines n None = []
fail_lines n (Some (AskOut number query meaning fresh parts)) = line.Fail n fail.Query query ∷ []
fail_lines n (Some (WriteOut number)) = line.Fail n fail.Write number ∷ []
fail_lines n (Some (ResumeOut number)) = line.Fail n fail.Resume number ∷ []

-- The details of an outcome: the answer with its rows, the marks, the ask with its parts, and what a cut ended.
abbrev pub details : ℕ → Outcome → List TraceLine
details n (Answered query version rows marks) = answer_lines n query version rows ++ mark_lines n marks
details n (AskSent drops request fresh parts) = mark_lines n drops ++ ask_lines n request fresh parts
details n (Evicted drop) = mark_lines n (drop ∷ [])
details n (Applied version drops) = mark_lines n drops
details n (Forgot version drops) = mark_lines n drops
details n (WriteDone request version drops) = mark_lines n drops
details n (WriteRefused request fault drops) = mark_lines n drops
details n (Welcomed version kept drops) = mark_lines n drops
details n (CutDone cut ended) = fail_lines n ended
details n other = []

-- ---- last lines, by the kind of the event; nothing else comes of that kind

abbrev pub query_line : ℕ → Outcome → List TraceLine
query_line n (QueryRefused fault) = line.QuerySql n fault ∷ []
query_line n (Busy request) = line.QueryBusy n request ∷ []
query_line n (Down cut) = line.QueryDown n cut ∷ []
query_line n (Answered query version rows marks) = line.QueryAnswered n query ∷ []
query_line n (AskSent drops request fresh parts) = line.QueryAsked n request ∷ []
query_line n other = []

abbrev pub write_line : ℕ → Outcome → List TraceLine
write_line n (Busy request) = line.WriteBusy n request ∷ []
write_line n (Down cut) = line.WriteDown n cut ∷ []
write_line n (WriteSent request sql) = line.WriteSent n request ∷ []
write_line n other = []

abbrev pub evict_line : ℕ → Outcome → List TraceLine
evict_line n (Busy request) = line.EvictBusy n request ∷ []
evict_line n (NoSuchClass count) = line.EvictNone n count ∷ []
evict_line n (Evicted drop) = line.EvictDropped n ∷ []
evict_line n other = []

-- of a message from the server
abbrev pub taken_line : ℕ → Outcome → List TraceLine
taken_line n Laid = line.ClientLaid n ∷ []
taken_line n (Applied version drops) = line.ClientApplied n version ∷ []
taken_line n (Forgot version drops) = line.ClientForgot n version ∷ []
taken_line n (Answered query version rows marks) = line.ClientAnswered n ∷ []
taken_line n (AskSent drops request fresh parts) = line.ClientAsked n request ∷ []
taken_line n (WriteDone request version drops) = line.ClientWritten n request version ∷ []
taken_line n (WriteRefused request fault drops) = line.ClientRefused n request fault ∷ []
taken_line n (Welcomed version kept drops) = line.ClientWelcome n version kept ∷ []
taken_line n other = []

abbrev pub cut_line : ℕ → Outcome → List TraceLine
cut_line n (CutDone cut ended) = line.CutDone n cut ∷ []
cut_line n (AlreadyCut cut) = line.CutAlready n cut ∷ []
cut_line n other = []

-- by the first message of the new session
abbrev pub resume_line : ℕ → Outcome → List TraceLine
resume_line n (ResumeSent (Hello wire client request)) = line.ResumeSent n request ∷ []
resume_line n (ResumeSent (Resume wire client request version holdings)) = line.ResumeSent n request ∷ []
resume_line n AlreadyUp = line.ResumeUp n ∷ []
resume_line n other = []

abbrev pub last_line : Event → Outcome → List TraceLine
last_line (QueryOf n text) o = query_line n o
last_line (WriteOf n sql) o = write_line n o
last_line (EvictOf n place) o = evict_line n o
last_line (ToClient n) o = taken_line n o
last_line (CutOf n) o = cut_line n o
last_line (ResumeOf n) o = resume_line n o
last_line other o = []

-- ---- the lines of an event

-- of a request that the server took, with the number of messages that it sent; other messages do not go to the server
abbrev pub served_line : ℕ → ℕ → Message → List TraceLine
served_line n sent (Hello wire client request) = line.ServerTook n kind.Hello sent ∷ []
served_line n sent (Resume wire client request version holdings) = line.ServerTook n kind.Resume sent ∷ []
served_line n sent (Ask request fresh parts) = line.ServerTook n kind.Ask sent ∷ []
served_line n sent (Write request sql) = line.ServerTook n kind.Write sent ∷ []
served_line n sent other = []

-- The lines of an event by what came of it: the details, and then one last line.
abbrev pub lines_of : Event → Report → List TraceLine
lines_of event (Executed version) = line.ExecVersion version ∷ []
lines_of event (NotExecuted fault) = line.ExecRefused fault ∷ []
lines_of event (Pushed sent) = line.PushSent (client_of event) (length sent) ∷ []
lines_of event PushClosed = line.PushClosed (client_of event) ∷ []
lines_of event ServerIdle = line.ServerEmpty (client_of event) ∷ []
lines_of event (ServerTook message sent) = served_line (client_of event) (length sent) message
lines_of event ClientIdle = line.ClientEmpty (client_of event) ∷ []
lines_of event (Did outcome) = details (client_of event) outcome ++ last_line event outcome
