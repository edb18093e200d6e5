-- Each event has its outcome line, the last of its lines.
use Rattle.std.specs.Prelude.{List, [], ◌∷◌, ◌++◌, ◌≡◌}
use Rattle.sr_script.specs.declared.line.TraceLine.{TraceLine}
use Rattle.sr_script.specs.declared.line.TraceLine.TheVariants as line
use Rattle.sr_session.specs.Scenes.{CutOf, Event, EvictOf, Exec, Happens, PushTo, QueryOf, Report, ResumeOf, Scene, SceneStands, ToClient, ToServer, WriteOf}
use Rattle.sr_runs.specs.Lines.{lines_of}

-- which lines say what came of an event, of the client of that number
abbrev pub IsOutcomeOf : Event → TraceLine → Type 0
IsOutcomeOf (Exec result) (line.ExecVersion version) = Unit {0}
IsOutcomeOf (Exec result) (line.ExecRefused fault) = Unit {0}
IsOutcomeOf (QueryOf n text) (line.QuerySql client fault) = client ≡ n
IsOutcomeOf (QueryOf n text) (line.QueryBusy client request) = client ≡ n
IsOutcomeOf (QueryOf n text) (line.QueryDown client cut) = client ≡ n
IsOutcomeOf (QueryOf n text) (line.QueryAnswered client query) = client ≡ n
IsOutcomeOf (QueryOf n text) (line.QueryAsked client request) = client ≡ n
IsOutcomeOf (WriteOf n sql) (line.WriteBusy client request) = client ≡ n
IsOutcomeOf (WriteOf n sql) (line.WriteDown client cut) = client ≡ n
IsOutcomeOf (WriteOf n sql) (line.WriteSent client request) = client ≡ n
IsOutcomeOf (EvictOf n place) (line.EvictBusy client request) = client ≡ n
IsOutcomeOf (EvictOf n place) (line.EvictNone client count) = client ≡ n
IsOutcomeOf (EvictOf n place) (line.EvictDropped client) = client ≡ n
IsOutcomeOf (CutOf n) (line.CutDone client cut) = client ≡ n
IsOutcomeOf (CutOf n) (line.CutAlready client cut) = client ≡ n
IsOutcomeOf (ResumeOf n) (line.ResumeSent client request) = client ≡ n
IsOutcomeOf (ResumeOf n) (line.ResumeUp client) = client ≡ n
IsOutcomeOf (PushTo n) (line.PushSent client sent) = client ≡ n
IsOutcomeOf (PushTo n) (line.PushClosed client) = client ≡ n
IsOutcomeOf (ToServer n result) (line.ServerEmpty client) = client ≡ n
IsOutcomeOf (ToServer n result) (line.ServerTook client kind sent) = client ≡ n
IsOutcomeOf (ToClient n) (line.ClientEmpty client) = client ≡ n
IsOutcomeOf (ToClient n) (line.ClientLaid client) = client ≡ n
IsOutcomeOf (ToClient n) (line.ClientApplied client version) = client ≡ n
IsOutcomeOf (ToClient n) (line.ClientForgot client version) = client ≡ n
IsOutcomeOf (ToClient n) (line.ClientAnswered client) = client ≡ n
IsOutcomeOf (ToClient n) (line.ClientAsked client request) = client ≡ n
IsOutcomeOf (ToClient n) (line.ClientWritten client request version) = client ≡ n
IsOutcomeOf (ToClient n) (line.ClientRefused client request fault) = client ≡ n
IsOutcomeOf (ToClient n) (line.ClientWelcome client version kept) = client ≡ n
IsOutcomeOf event other = ⊥

-- the last of these lines says what came of the event
pub record EndsWithOutcome (event : Event) (lines : List TraceLine) : Type 0 where
  pub front : List TraceLine
  pub last : TraceLine
  pub all : lines ≡ front ++ last ∷ []
  pub outcome : IsOutcomeOf event last

-- So it is of each event that happens where each client stands, as it does in each scene of a run.
abbrev pub EventsEndWithTheirOutcome : Type 0
EventsEndWithTheirOutcome =
    (s new : Scene) (event : Event) (report : Report) → SceneStands s → Happens s event report new → EndsWithOutcome event (lines_of event report)
