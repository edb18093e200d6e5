-- The versions that the lines of an event name are those that its client comes to.
use Rattle.std.proofs.Common.{◌≡◌, ℕ, ◌+◌, true, List, [], ◌∷◌, ◌++◌, length, map, refl, sym, ◌∙◌, ap, subst, Some, None}
use Rattle.std.specs.Prelude.{Bool, Option, Result}
use Rattle.sr_cell.specs.declared.fault.Fault.{Fault}
use Rattle.sr_cell.specs.declared.table.Table.{Table}
use Rattle.sr_cell.specs.Cells.{Row}
use Rattle.sr_message.specs.declared.message.AskPart.{AskPart}
use Rattle.sr_message.specs.declared.message.Message.{Message}
use Rattle.sr_message.specs.declared.message.Message.TheVariants.{Hello, Resume, Ask, Write}
use Rattle.sr_model.specs.Queries.{Query}
use Rattle.sr_history.specs.declared.mark.Mark.{Mark}
use Rattle.sr_history.specs.declared.mark.Mark.TheVariants.{Held, Dropped}
use Rattle.sr_script.specs.declared.line.FailKind.TheVariants as fail
use Rattle.sr_script.specs.declared.line.RequestKind.TheVariants as kind
use Rattle.sr_script.specs.declared.line.TraceLine.{TraceLine}
use Rattle.sr_script.specs.declared.line.TraceLine.TheVariants as line
use Rattle.sr_session.specs.Clients.{Client, Pair}
use Rattle.sr_session.specs.Rules.{Answering, AnswerStep, answering_now, answering_then, next_query, number_of, Answered, renewed, given_up, Basis, Outcome, ResumeSent, QueryStep, query_refused, query_busy, query_answered, query_down, query_asks, TakeStep, lays, applies, forgets, answers, asks_once_more, written, refused_write, is_welcomed, EvictStep, evict_busy, evicts_none, evicts, WriteStep, write_busy, write_down, write_sends, CutStep, already_cut, cuts, ResumeStep, already_up, resumes}
use Rattle.sr_session.specs.Scenes as scene
use Rattle.sr_session.specs.Scenes.{Event, Happens, Report, Scene, acted, client_of, cut_off, pair_at, taken, with_pair}
use Rattle.sr_session.specs.Sessions.{newest, serve_push}
use Rattle.sr_session.specs.Walks.{Request, AskOut, WriteOut, ResumeOut, version_after}
use Rattle.sr_session.proofs.ReachLemmas.{at-set}
use Rattle.sr_runs.specs.Lines.{answer_lines, ask_lines, cut_line, details, evict_line, fail_lines, lines_of, mark_line, mark_lines, part_line, query_line, resume_line, served_line, taken_line, write_line}
use Rattle.sr_runs.specs.Versions.{Comes, version_named}

abbrev pub at : ℕ → ℕ → Comes
at n version = record { client = n; version = version }

-- if the line names a version, it is this one of this client
abbrev pub IsOf : ℕ → ℕ → TraceLine → Type 0
IsOf n version l = (v : Comes) → version_named l ≡ Some v → v ≡ at n version

abbrev pub AreOf : ℕ → ℕ → List TraceLine → Type 0
AreOf n version [] = Unit {0}
AreOf n version (l ∷ lines) = IsOf n version l × AreOf n version lines

none : (n version : ℕ) (l : TraceLine) → version_named l ≡ None → IsOf n version l
none n version l is v named = let wrong : None ≡ Some v = sym is ∙ named in absurd (cc)

own : (n version : ℕ) (l : TraceLine) → version_named l ≡ Some (at n version) → IsOf n version l
own n version l is v named = let same : Some v ≡ Some (at n version) = sym named ∙ is in cc

both : (n version : ℕ) (xs ys : List TraceLine) → AreOf n version xs → AreOf n version ys → AreOf n version (xs ++ ys)
both n version [] ys one two = two
both n version (x ∷ xs) ys one two = (one.0, both n version xs ys one.1 two)

pub one-of : (n version : ℕ) (lines front : List TraceLine) (l : TraceLine) (behind : List TraceLine) → AreOf n version lines → lines ≡ front ++ l ∷ behind → IsOf n version l
one-of n version lines [] l behind all is = (subst (AreOf n version) is all).0
one-of n version lines (x ∷ front) l behind all is = one-of n version (front ++ l ∷ behind) front l behind (subst (AreOf n version) is all).1 refl

-- ---- details

module _ (n version : ℕ) where
  rows-of : (rows : List Row) → AreOf n version (map line.Row rows)
  rows-of [] = tt
  rows-of (row ∷ rows) = (none n version (line.Row row) refl, rows-of rows)

  mark-of : (k : ℕ) (mark : Mark) → IsOf n version (mark_line k mark)
  mark-of k (Held t attrs rects) = none n version (line.Held k t attrs rects) refl
  mark-of k (Dropped cause t attrs stamp rects) = none n version (line.Drop k cause t attrs stamp rects) refl

  marks-of : (k : ℕ) (marks : List Mark) → AreOf n version (mark_lines k marks)
  marks-of k [] = tt
  marks-of k (mark ∷ marks) = (mark-of k mark, marks-of k marks)

  parts-of : (parts : List AskPart) → AreOf n version (map part_line parts)
  parts-of [] = tt
  parts-of (part ∷ parts) = (none n version (part_line part) refl, parts-of parts)

  ask-of : (k request : ℕ) (fresh : Bool) (parts : List AskPart) → AreOf n version (ask_lines k request fresh parts)
  ask-of k request fresh parts = (none n version (line.Ask k request fresh (length parts)) refl, parts-of parts)

  fail-of : (k : ℕ) (ended : Option Request) → AreOf n version (fail_lines k ended)
  fail-of k None = tt
  fail-of k (Some (AskOut number query meaning fresh parts)) = (none n version (line.Fail k fail.Query query) refl, tt)
  fail-of k (Some (WriteOut number)) = (none n version (line.Fail k fail.Write number) refl, tt)
  fail-of k (Some (ResumeOut number)) = (none n version (line.Fail k fail.Resume number) refl, tt)

  last-of : (lines : List TraceLine) (l : TraceLine) → AreOf n version lines → IsOf n version l → AreOf n version (lines ++ l ∷ [])
  last-of lines l all one = both n version lines (l ∷ []) all (one, tt)

-- ---- steps of a client

answered-version : (b : Basis) (a : Answering) (c : Client) (marks : List Mark) (new : Client) → AnswerStep b a c marks new → a.version ≡ new.version
answered-version b a c marks new (renewed ms renews) = refl
answered-version b a c marks new (given_up ms gives) = refl

answer-of : (n query version : ℕ) (rows : List Row) (marks : List Mark) → AreOf n version (answer_lines n query version rows ++ mark_lines n marks)
answer-of n query version rows marks =
    both n version (answer_lines n query version rows) (mark_lines n marks) (own n version (line.Answer n query version (length rows)) refl, rows-of n version rows) (marks-of n version n marks)

query-of : (b : Basis) (n : ℕ) (c : Client) (text : Result Query Fault) (o : Outcome) (new : Client) → QueryStep b c text o new → AreOf n new.version (details n o ++ query_line n o)
query-of b n c text o new (query_refused fault) = (none n c.version (line.QuerySql n fault) refl, tt)
query-of b n c text o new (query_busy q request out) = (none n c.version (line.QueryBusy n (number_of request)) refl, tt)
query-of b n c text o new (query_answered q rows marks after out asks are step) =
    last-of n after.version (details n (Answered (next_query c) c.version rows marks)) (line.QueryAnswered n (next_query c))
    (subst (λ v. AreOf n v (details n (Answered (next_query c) c.version rows marks))) (answered-version b (answering_now c q) c marks after step) (answer-of n (next_query c) c.version rows marks))
    (none n after.version (line.QueryAnswered n (next_query c)) refl)
query-of b n c text o new (query_down q out down left) = (none n c.version (line.QueryDown n c.cuts) refl, tt)
query-of b n c text o new (query_asks q drops old ask others fresh out before up asks few mode) =
    last-of n old.version (mark_lines n drops ++ ask_lines n old.next_request fresh (ask ∷ others)) (line.QueryAsked n old.next_request)
    (both n old.version (mark_lines n drops) (ask_lines n old.next_request fresh (ask ∷ others)) (marks-of n old.version n drops) (ask-of n old.version n old.next_request fresh (ask ∷ others)))
    (none n old.version (line.QueryAsked n old.next_request) refl)

write-of : (n : ℕ) (sql : List ℕ) (c : Client) (o : Outcome) (new : Client) → WriteStep sql c o new → AreOf n new.version (details n o ++ write_line n o)
write-of n sql c o new (write_busy request out) = (none n c.version (line.WriteBusy n (number_of request)) refl, tt)
write-of n sql c o new (write_down out down) = (none n c.version (line.WriteDown n c.cuts) refl, tt)
write-of n sql c o new (write_sends out up) = (none n c.version (line.WriteSent n c.next_request) refl, tt)

evict-of : (b : Basis) (n place : ℕ) (c : Client) (o : Outcome) (new : Client) → EvictStep b place c o new → AreOf n new.version (details n o ++ evict_line n o)
evict-of b n place c o new (evict_busy request out) = (none n c.version (line.EvictBusy n (number_of request)) refl, tt)
evict-of b n place c o new (evicts_none classes out are few) = (none n c.version (line.EvictNone n (length classes)) refl, tt)
evict-of b n place c o new (evicts classes chosen d out are there drop) =
    last-of n c.version (mark_lines n (d ∷ [])) (line.EvictDropped n) (marks-of n c.version n (d ∷ [])) (none n c.version (line.EvictDropped n) refl)

-- the drops of an outcome, and then a line that names its version
comes-of : (n version : ℕ) (drops : List Mark) (l : TraceLine) → version_named l ≡ Some (at n version) → AreOf n version (mark_lines n drops ++ l ∷ [])
comes-of n version drops l is = last-of n version (mark_lines n drops) l (marks-of n version n drops) (own n version l is)

take-of : (b : Basis) (n : ℕ) (c : Client) (m : Message) (o : Outcome) (new : Client) → TakeStep b c m o new → AreOf n new.version (details n o ++ taken_line n o)
take-of b n c m o new (lays request x out laid for) = (none n c.version (line.ClientLaid n) refl, tt)
take-of b n c m o new (applies version told drops out later meets) = comes-of n version drops (line.ClientApplied n version) refl
take-of b n c m o new (forgets version drops out later all) = comes-of n version drops (line.ClientForgot n version) refl
take-of b n c m o new (answers number query q fresh parts version rows marks after out whole later are step) =
    last-of n after.version (details n (Answered query version rows marks)) (line.ClientAnswered n)
    (subst (λ v. AreOf n v (details n (Answered query version rows marks))) (answered-version b (answering_then c query q parts version) c marks after step) (answer-of n query version rows marks))
    (none n after.version (line.ClientAnswered n) refl)
take-of b n c m o new (asks_once_more number query q fresh parts version drops whole out again later all asks few) =
    last-of n version (mark_lines n drops ++ ask_lines n c.next_request true whole) (line.ClientAsked n c.next_request)
    (both n version (mark_lines n drops) (ask_lines n c.next_request true whole) (marks-of n version n drops) (ask-of n version n c.next_request true whole)) (none n version (line.ClientAsked n c.next_request) refl)
take-of b n c m o new (written number version drops out later all) = comes-of n version drops (line.ClientWritten n number version) refl
take-of b n c m o new (refused_write number fault drops out later all) =
    let version = version_after c.version c.laid in
    last-of n version (mark_lines n drops) (line.ClientRefused n number fault) (marks-of n version n drops) (none n version (line.ClientRefused n number fault) refl)
take-of b n c m o new (is_welcomed number version kept drops out later all) = comes-of n version drops (line.ClientWelcome n version kept) refl

cut-of : (n : ℕ) (c : Client) (o : Outcome) (new : Client) → CutStep c o new → AreOf n new.version (details n o ++ cut_line n o)
cut-of n c o new (already_cut is) = (none n c.version (line.CutAlready n c.cuts) refl, tt)
cut-of n c o new (cuts up) = last-of n c.version (fail_lines n c.out) (line.CutDone n (c.cuts + 1)) (fail-of n c.version n c.out) (none n c.version (line.CutDone n (c.cuts + 1)) refl)

resume-line-of : (n version : ℕ) (m : Message) → AreOf n version (resume_line n (ResumeSent m))
resume-line-of n version (Hello wire client request) = (none n version (line.ResumeSent n request) refl, tt)
resume-line-of n version (Resume wire client request v holdings) = (none n version (line.ResumeSent n request) refl, tt)
resume-line-of n version other = tt

resume-of : (schema : List Table) (n : ℕ) (c : Client) (o : Outcome) (new : Client) → ResumeStep schema c o new → AreOf n new.version (details n o ++ resume_line n o)
resume-of schema n c o new (already_up up) = (none n c.version (line.ResumeUp n) refl, tt)
resume-of schema n c o new (resumes m down is) = resume-line-of n c.version m

served-of : (n version k sent : ℕ) (m : Message) → AreOf n version (served_line k sent m)
served-of n version k sent (Hello wire client number) = (none n version (line.ServerTook k kind.Hello sent) refl, tt)
served-of n version k sent (Resume wire client number v holdings) = (none n version (line.ServerTook k kind.Resume sent) refl, tt)
served-of n version k sent (Ask number fresh parts) = (none n version (line.ServerTook k kind.Ask sent) refl, tt)
served-of n version k sent (Write number sql) = (none n version (line.ServerTook k kind.Write sent) refl, tt)
served-of n version k sent other = tt

-- ---- an event

abbrev pub version_in : Option Pair → ℕ
version_in None = 0
version_in (Some pair) = pair.client.version

-- the client's version in a scene
abbrev pub version_of : Scene → ℕ → ℕ
version_of s n = version_in (pair_at s n)

-- in the scene in which its client has changed
now : (s : Scene) (n : ℕ) (old new : Pair) (lines : List TraceLine) → pair_at s n ≡ Some old → AreOf n new.client.version lines → AreOf n (version_of (with_pair s n new) n) lines
now s n old new lines is all = subst (λ v. AreOf n v lines) (sym (ap version_in (at-set s n old new is))) all

-- one line that names no version
quiet : (s : Scene) (n : ℕ) (l : TraceLine) → version_named l ≡ None → AreOf n (version_of s n) (l ∷ [])
quiet s n l is = (none n (version_of s n) l is, tt)

pub event-of : (s new : Scene) (event : Event) (report : Report) → Happens s event report new → AreOf (client_of event) (version_of new (client_of event)) (lines_of event report)
event-of s new event report (scene.executed tables) = quiet new 0 (line.ExecVersion (newest s.database + 1)) refl
event-of s new event report (scene.not_executed fault) = quiet new 0 (line.ExecRefused fault) refl
event-of s new event report (scene.queried n text old o after is step) =
    now s n old (acted after old.connection o) (details n o ++ query_line n o) is (query-of (scene.basis_of s) n old.client text o after step)
event-of s new event report (scene.wrote n sql old o after is step) = now s n old (acted after old.connection o) (details n o ++ write_line n o) is (write-of n sql old.client o after step)
event-of s new event report (scene.evicted n place old o after is step) =
    now s n old (acted after old.connection o) (details n o ++ evict_line n o) is (evict-of (scene.basis_of s) n place old.client o after step)
event-of s new event report (scene.cut n old o after is step) = now s n old (cut_off after) (details n o ++ cut_line n o) is (cut-of n old.client o after step)
event-of s new event report (scene.resumed n old o after is step) =
    now s n old (acted after old.connection o) (details n o ++ resume_line n o) is (resume-of s.database.schema n old.client o after step)
event-of s new event report (scene.pushed n old session is opened) = quiet new n (line.PushSent n (length (serve_push s.database session).sent)) refl
event-of s new event report (scene.push_closed n old is closed) = quiet new n (line.PushClosed n) refl
event-of s new event report (scene.server_idle n result old is empty) = quiet new n (line.ServerEmpty n) refl
event-of s new event report (scene.server_took n result old m queue is first) = served-of n (version_of new n) n (length (taken s.database old.connection.session m result).served.sent) m
event-of s new event report (scene.client_idle n old is empty) = quiet new n (line.ClientEmpty n) refl
event-of s new event report (scene.client_took n old m queue o after is first step) =
    now s n old (acted after (record old.connection { to_client = queue }) o) (details n o ++ taken_line n o) is (take-of (scene.basis_of s) n old.client m o after step)
