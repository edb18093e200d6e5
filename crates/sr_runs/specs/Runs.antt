-- Steps of a script with their deliveries, whole runs, and their lines.
use Rattle.std.specs.Prelude.{ℕ, zero, suc, Bool, true, false, ◌+◌, ◌<◌, List, [], ◌∷◌, ◌++◌, length, map, ◌≡◌, Option, Some, None, Result}
use Rattle.sr_cell.specs.declared.fault.Fault.{Fault}
use Rattle.sr_message.specs.declared.message.Message.{Message}
use Rattle.sr_model.specs.Queries.{Query}
use Rattle.sr_script.specs.declared.line.TraceLine.{TraceLine}
use Rattle.sr_script.specs.declared.line.TraceLine.TheVariants as line
use Rattle.sr_session.specs.Clients.{Connection, Pair}
use Rattle.sr_session.specs.Scenes.{Event, Happens, Report, Scene, pair_at}
use Rattle.sr_session.specs.Texts.{most_text, long_text}
use Rattle.sr_runs.specs.Lines.{lines_of}
use Rattle.sr_explain.specs.Telling.{ExplainsTo}
use Rattle.sr_lines.specs.Events.{DoExplain, DoSettle, DoToClient, DoToServer, DoWrite, ScriptEvent}
use Rattle.sr_runs.specs.Scripts.{Is}

-- ---- deliveries

-- the next delivery of client n: the queue to the server goes first
abbrev pub next_of : ℕ → List Message → List Message → Option ScriptEvent
next_of n [] [] = None
next_of n [] (m ∷ to_client) = Some (DoToClient n)
next_of n (m ∷ to_server) to_client = Some (DoToServer n)

abbrev pub next_delivery : ℕ → Connection → Option ScriptEvent
next_delivery n l = next_of n l.to_server l.to_client

-- An event that is one of the scene happens there, and gives the lines of what comes of it. The text of a write that is too long is
-- refused by the client, and nothing happens. Nothing happens either where a client explains how it would answer a query.
pub data Acts (s : Scene) : ScriptEvent → List TraceLine → Scene → Type 0 where
  acts : (what : ScriptEvent) (event : Event) (report : Report) (new : Scene) → Is s what event → Happens s event report new
      → Acts s what (lines_of event report) new
  too_long : (n : ℕ) (sql : List ℕ) (pair : Pair) → pair_at s n ≡ Some pair → most_text < length sql
      → Acts s (DoWrite n sql) (line.WriteSql n long_text ∷ []) s
  explains : (n : ℕ) (text : Result Query Fault) (lines : List TraceLine) → ExplainsTo s n text lines → Acts s (DoExplain n text) lines s

-- So many deliveries of client n, one after another, until none is left.
pub data Settles (n : ℕ) : Scene → ℕ → List TraceLine → Scene → Type 0 where
  is_quiet : (s : Scene) (pair : Pair) → pair_at s n ≡ Some pair → next_delivery n pair.connection ≡ None → Settles n s zero [] s
  delivers : (s : Scene) (pair : Pair) (what : ScriptEvent) (front : List TraceLine) (mid : Scene) (frames : ℕ)
      (rest : List TraceLine) (last : Scene) → pair_at s n ≡ Some pair → next_delivery n pair.connection ≡ Some what → Acts s what front mid
      → Settles n mid frames rest last
      → Settles n s (suc frames) (front ++ rest) last

-- So many clients, from number n on, settle one after another.
pub data AllSettle : ℕ → ℕ → Scene → List TraceLine → Scene → Type 0 where
  no_client : (n : ℕ) (s : Scene) → AllSettle n zero s [] s
  one_more : (n clients : ℕ) (s : Scene) (frames : ℕ) (front : List TraceLine) (mid : Scene) (rest : List TraceLine) (last : Scene)
      → Settles n s frames front mid → AllSettle (n + 1) clients mid rest last → AllSettle n (suc clients) s (front ++ rest) last

-- ---- steps and runs

-- An event by itself: a settle ends with the number of its deliveries.
pub data Does (s : Scene) : ScriptEvent → List TraceLine → Scene → Type 0 where
  does : (what : ScriptEvent) (lines : List TraceLine) (new : Scene) → Acts s what lines new → Does s what lines new
  does_settle : (n frames : ℕ) (lines : List TraceLine) (new : Scene) → Settles n s frames lines new
      → Does s (DoSettle n) (lines ++ line.Settled n frames ∷ []) new

-- An event, and where delivery is eager all deliveries that are left behind it, client by client.
pub data Steps : Bool → Scene → ScriptEvent → List TraceLine → Scene → Type 0 where
  alone : (s : Scene) (what : ScriptEvent) (lines : List TraceLine) (new : Scene) → Does s what lines new → Steps false s what lines new
  eagerly : (s : Scene) (what : ScriptEvent) (front : List TraceLine) (mid : Scene) (rest : List TraceLine) (new : Scene)
      → Does s what front mid → AllSettle 1 (length mid.pairs) mid rest new → Steps true s what (front ++ rest) new

-- the lines, each with this number
abbrev pub numbered : ℕ → List TraceLine → List (ℕ × TraceLine)
numbered number lines = map (λ line. (number, line)) lines

-- One event after another. An event stands with the number of its script line, and a line with the number of its event.
pub data Runs (eager : Bool) : Scene → List (ℕ × ScriptEvent) → List (ℕ × TraceLine) → Scene → Type 0 where
  ends : (s : Scene) → Runs eager s [] [] s
  goes_on : (s : Scene) (number : ℕ) (what : ScriptEvent) (front : List TraceLine) (mid : Scene) (events : List (ℕ × ScriptEvent))
      (rest : List (ℕ × TraceLine)) (last : Scene) → Steps eager s what front mid → Runs eager mid events rest last
      → Runs eager s ((number, what) ∷ events) (numbered number front ++ rest) last
