-- Each event has its outcome line.
use Rattle.std.proofs.Common.{◌≡◌, ℕ, ◌+◌, true, List, [], ◌∷◌, ◌++◌, length, refl, sym, ◌∙◌, subst, Ok, Err}
use Rattle.std.specs.Prelude.{Option, Result}
use Rattle.sr_cell.specs.declared.fault.Fault.{Fault}
use Rattle.sr_cell.specs.declared.table.Table.{Table}
use Rattle.sr_message.specs.declared.message.Message.{Message}
use Rattle.sr_message.specs.declared.message.Message.TheVariants.{Hello, Resume, Ask, Write}
use Rattle.sr_model.specs.Queries.{Query}
use Rattle.sr_model.specs.Statements.{Tables}
use Rattle.sr_script.specs.declared.line.RequestKind.TheVariants as kind
use Rattle.sr_script.specs.declared.line.TraceLine.{TraceLine}
use Rattle.sr_script.specs.declared.line.TraceLine.TheVariants as line
use Rattle.sr_session.specs.Clients.{Client, Pair, Stands, is_open, is_down, is_resuming, Flows, is_idle, is_sent, is_served, IsMessageOf, IsResumeMessage}
use Rattle.sr_session.specs.Rules.{Basis, Outcome, QueryStep, query_refused, query_busy, query_answered, query_down, query_asks, TakeStep, lays, applies, forgets, answers, asks_once_more, written, refused_write, is_welcomed, EvictStep, evict_busy, evicts_none, evicts, WriteStep, write_busy, write_down, write_sends, CutStep, already_cut, cuts, ResumeStep, already_up, resumes, Answered, AskSent, Evicted, ResumeSent, next_query, number_of}
use Rattle.sr_session.specs.Scenes as scene
use Rattle.sr_session.specs.Scenes.{Event, CutOf, EvictOf, Exec, PushTo, QueryOf, ResumeOf, ToClient, ToServer, WriteOf, taken}
use Rattle.sr_session.specs.Sessions.{Database, newest, serve_push}
use Rattle.sr_session.specs.Walks.{Request, AskOut, WriteOut, ResumeOut}
use Rattle.sr_session.proofs.EventLemmas.{at}
use Rattle.sr_runs.specs.Lines.{details, fail_lines, mark_lines, query_line, write_line, evict_line, taken_line, cut_line, resume_line, served_line}
use Rattle.sr_runs.specs.Outcomes.{IsOutcomeOf, EndsWithOutcome, EventsEndWithTheirOutcome}

-- a line behind others
abbrev behind : (event : Event) (front : List TraceLine) (last : TraceLine) → IsOutcomeOf event last → EndsWithOutcome event (front ++ last ∷ [])
behind event front last is = record { front = front; last = last; all = refl; outcome = is }

alone : (event : Event) (last : TraceLine) → IsOutcomeOf event last → EndsWithOutcome event (last ∷ [])
alone event last is = record { front = []; last = last; all = refl; outcome = is }

-- ---- what a client does

query-ends : (b : Basis) (n : ℕ) (c : Client) (text : Result Query Fault) (o : Outcome) (new : Client) → QueryStep b c text o new → EndsWithOutcome (QueryOf n text) (details n o ++ query_line n o)
query-ends b n c text o new (query_refused fault) = alone (QueryOf n text) (line.QuerySql n fault) refl
query-ends b n c text o new (query_busy q request out) = alone (QueryOf n text) (line.QueryBusy n (number_of request)) refl
query-ends b n c text o new (query_answered q rows marks after out asks are step) =
    behind (QueryOf n text) (details n (Answered (next_query c) c.version rows marks)) (line.QueryAnswered n (next_query c)) refl
query-ends b n c text o new (query_down q out down left) = alone (QueryOf n text) (line.QueryDown n c.cuts) refl
query-ends b n c text o new (query_asks q drops old ask others fresh out before up asks few mode) =
    behind (QueryOf n text) (details n (AskSent drops old.next_request fresh (ask ∷ others))) (line.QueryAsked n old.next_request) refl

write-ends : (n : ℕ) (sql : List ℕ) (c : Client) (o : Outcome) (new : Client) → WriteStep sql c o new → EndsWithOutcome (WriteOf n sql) (details n o ++ write_line n o)
write-ends n sql c o new (write_busy request out) = alone (WriteOf n sql) (line.WriteBusy n (number_of request)) refl
write-ends n sql c o new (write_down out down) = alone (WriteOf n sql) (line.WriteDown n c.cuts) refl
write-ends n sql c o new (write_sends out up) = alone (WriteOf n sql) (line.WriteSent n c.next_request) refl

evict-ends : (b : Basis) (n place : ℕ) (c : Client) (o : Outcome) (new : Client) → EvictStep b place c o new → EndsWithOutcome (EvictOf n place) (details n o ++ evict_line n o)
evict-ends b n place c o new (evict_busy request out) = alone (EvictOf n place) (line.EvictBusy n (number_of request)) refl
evict-ends b n place c o new (evicts_none classes out are few) = alone (EvictOf n place) (line.EvictNone n (length classes)) refl
evict-ends b n place c o new (evicts classes chosen d out are there drop) = behind (EvictOf n place) (details n (Evicted d)) (line.EvictDropped n) refl

take-ends : (b : Basis) (n : ℕ) (c : Client) (m : Message) (o : Outcome) (new : Client) → TakeStep b c m o new → EndsWithOutcome (ToClient n) (details n o ++ taken_line n o)
take-ends b n c m o new (lays request x out laid for) = alone (ToClient n) (line.ClientLaid n) refl
take-ends b n c m o new (applies version told drops out later meets) = behind (ToClient n) (mark_lines n drops) (line.ClientApplied n version) refl
take-ends b n c m o new (forgets version drops out later all) = behind (ToClient n) (mark_lines n drops) (line.ClientForgot n version) refl
take-ends b n c m o new (answers number query q fresh parts version rows marks after out whole later are step) =
    behind (ToClient n) (details n (Answered query version rows marks)) (line.ClientAnswered n) refl
take-ends b n c m o new (asks_once_more number query q fresh parts version drops whole out again later all asks few) =
    behind (ToClient n) (details n (AskSent drops c.next_request true whole)) (line.ClientAsked n c.next_request) refl
take-ends b n c m o new (written number version drops out later all) = behind (ToClient n) (mark_lines n drops) (line.ClientWritten n number version) refl
take-ends b n c m o new (refused_write number fault drops out later all) = behind (ToClient n) (mark_lines n drops) (line.ClientRefused n number fault) refl
take-ends b n c m o new (is_welcomed number version kept drops out later all) = behind (ToClient n) (mark_lines n drops) (line.ClientWelcome n version kept) refl

cut-ends : (n : ℕ) (c : Client) (o : Outcome) (new : Client) → CutStep c o new → EndsWithOutcome (CutOf n) (details n o ++ cut_line n o)
cut-ends n c o new (already_cut is) = alone (CutOf n) (line.CutAlready n c.cuts) refl
cut-ends n c o new (cuts up) = behind (CutOf n) (fail_lines n c.out) (line.CutDone n (c.cuts + 1)) refl

resume-message : (schema : List Table) (n : ℕ) (c : Client) (number : ℕ) (m : Message) → IsResumeMessage schema c number m → EndsWithOutcome (ResumeOf n) (details n (ResumeSent m) ++ resume_line n (ResumeSent m))
resume-message schema n c number (Hello wire client request) is = alone (ResumeOf n) (line.ResumeSent n request) refl
resume-message schema n c number (Resume wire client request version holdings) is = alone (ResumeOf n) (line.ResumeSent n request) refl
resume-message schema n c number other is = absurd is

resume-ends : (schema : List Table) (n : ℕ) (c : Client) (o : Outcome) (new : Client) → ResumeStep schema c o new → EndsWithOutcome (ResumeOf n) (details n o ++ resume_line n o)
resume-ends schema n c o new (already_up up) = alone (ResumeOf n) (line.ResumeUp n) refl
resume-ends schema n c o new (resumes m down is) = resume-message schema n c c.next_request m is

-- ---- what the server takes is a request

abbrev IsRequest : Message → Type 0
IsRequest (Hello wire client number) = Unit {0}
IsRequest (Resume wire client number version holdings) = Unit {0}
IsRequest (Ask number fresh parts) = Unit {0}
IsRequest (Write number sql) = Unit {0}
IsRequest other = ⊥

of-request : (request : Request) (m : Message) → IsMessageOf request m → IsRequest m
of-request (AskOut number query meaning fresh parts) (Ask k mode asked) is = tt
of-request (AskOut number query meaning fresh parts) other is = absurd is
of-request (WriteOut number) (Write k sql) is = tt
of-request (WriteOut number) other is = absurd is
of-request (ResumeOut number) m is = absurd is

of-resume : (schema : List Table) (c : Client) (number : ℕ) (m : Message) → IsResumeMessage schema c number m → IsRequest m
of-resume schema c number (Hello wire client k) is = tt
of-resume schema c number (Resume wire client k version holdings) is = tt
of-resume schema c number other is = absurd is

first-of : (x m : Message) (queue : List Message) → x ∷ [] ≡ m ∷ queue → IsRequest x → IsRequest m
first-of x m queue e is = let same : x ≡ m = cc in subst IsRequest same is

taken-request : (db : Database) (pair : Pair) (m : Message) (queue : List Message) → Stands db pair → pair.connection.to_server ≡ m ∷ queue → IsRequest m
taken-request db pair m queue (is_open session h) first = by pair.client.out h.flows
  where
    by : (out : Option Request) → Flows db pair.client pair.connection session out → IsRequest m
    by out (is_idle none laid walks) = absurd (let wrong : m ∷ queue ≡ [] = sym first ∙ none in cc)
    by out (is_sent request out_is laid sent) = first-of sent.message m queue (sym sent.to_server ∙ first) (of-request request sent.message sent.is)
    by out (is_served request out_is laid served) = absurd (let wrong : m ∷ queue ≡ [] = sym first ∙ served.to_server in cc)
taken-request db pair m queue (is_down h) first = absurd (let wrong : m ∷ queue ≡ [] = sym first ∙ h.to_server in cc)
taken-request db pair m queue (is_resuming h) first = first-of h.message m queue (sym h.to_server ∙ first) (of-resume db.schema pair.client h.number h.message h.is)

served-ends : (n sent : ℕ) (result : Result Tables Fault) (m : Message) → IsRequest m → EndsWithOutcome (ToServer n result) (served_line n sent m)
served-ends n sent result (Hello wire client number) is = alone (ToServer n result) (line.ServerTook n kind.Hello sent) refl
served-ends n sent result (Resume wire client number version holdings) is = alone (ToServer n result) (line.ServerTook n kind.Resume sent) refl
served-ends n sent result (Ask number fresh parts) is = alone (ToServer n result) (line.ServerTook n kind.Ask sent) refl
served-ends n sent result (Write number sql) is = alone (ToServer n result) (line.ServerTook n kind.Write sent) refl
served-ends n sent result other is = absurd is

-- ---- each event

pub events-end-with-their-outcome : EventsEndWithTheirOutcome
events-end-with-their-outcome s new event report stands (scene.executed tables) = alone (Exec (Ok tables)) (line.ExecVersion (newest s.database + 1)) tt
events-end-with-their-outcome s new event report stands (scene.not_executed fault) = alone (Exec (Err fault)) (line.ExecRefused fault) tt
events-end-with-their-outcome s new event report stands (scene.queried n text old o after is step) = query-ends (scene.basis_of s) n old.client text o after step
events-end-with-their-outcome s new event report stands (scene.wrote n sql old o after is step) = write-ends n sql old.client o after step
events-end-with-their-outcome s new event report stands (scene.evicted n place old o after is step) = evict-ends (scene.basis_of s) n place old.client o after step
events-end-with-their-outcome s new event report stands (scene.cut n old o after is step) = cut-ends n old.client o after step
events-end-with-their-outcome s new event report stands (scene.resumed n old o after is step) = resume-ends s.database.schema n old.client o after step
events-end-with-their-outcome s new event report stands (scene.pushed n old session is opened) = alone (PushTo n) (line.PushSent n (length (serve_push s.database session).sent)) refl
events-end-with-their-outcome s new event report stands (scene.push_closed n old is closed) = alone (PushTo n) (line.PushClosed n) refl
events-end-with-their-outcome s new event report stands (scene.server_idle n result old is none) = alone (ToServer n result) (line.ServerEmpty n) refl
events-end-with-their-outcome s new event report stands (scene.server_took n result old m queue is first) =
    served-ends n (length (taken s.database old.connection.session m result).served.sent) result m (taken-request s.database old m queue (at s n old stands is) first)
events-end-with-their-outcome s new event report stands (scene.client_idle n old is none) = alone (ToClient n) (line.ClientEmpty n) refl
events-end-with-their-outcome s new event report stands (scene.client_took n old m queue o after is first step) = take-ends (scene.basis_of s) n old.client m o after step
