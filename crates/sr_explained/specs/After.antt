-- What is written where a query is explained behind a script.
use Rattle.std.specs.Prelude.{ℕ, ◌≡◌, List, [], Option, Some, Result}
use Rattle.std.specs.Io.KnownBytes.{Appends}
use Rattle.sr_cell.specs.declared.fault.Fault.{Fault}
use Rattle.sr_model.specs.Queries.{Query}
use Rattle.sr_lines.specs.Lines.{lines_of}
use Rattle.sr_lines.specs.Script.{AsksOf, FirstRefused}
use Rattle.sr_load.specs.declared.fill.Load.{Load}
use Rattle.sr_script.specs.declared.line.TraceLine.{TraceLine}
use Rattle.sr_script.specs.TraceText.{trace_text}
use Rattle.sr_session.specs.Scenes.{Scene}
use Rattle.sr_session.specs.Sessions.{Database, tables_of}
use Rattle.sr_session.specs.Clients as session
use Rattle.sr_session.specs.Bases.{basis_of}
use Rattle.sr_explain.specs.declared.explanation.Explanation.{Explanation}
use Rattle.sr_explain.specs.Explained.{ExplainStep, count_in}
use Rattle.sr_explain.specs.Telling.{ExplainsTo, explain_lines}
use Rattle.sr_client.specs.declared.client.Client.{Client}
use Rattle.sr_client.specs.Stands.{StandsOver}
use Rattle.sr_runs.specs.Runs.{numbered}
use Rattle.sr_io.specs.Pieces.{WritesPrefix}
use Rattle.sr_world.specs.declared.world.Options.{Options}
use Rattle.sr_world.specs.declared.replay.RunFault.{RunFault}
use Rattle.sr_world.specs.declared.replay.RunFault.TheVariants as fault
use Rattle.sr_world.specs.Replay.{Trace, RefusesLoad, outside}

-- the lines that explain the query, or its fault, to client 1 of the scene, each with number 0, as text
abbrev pub IsTextFor : Scene → Result Query Fault → List ℕ → Type 0
IsTextFor s query text = (lines : List TraceLine) × ExplainsTo s 1 query lines × (text ≡ trace_text s.database.schema (numbered 0 lines))

-- The text explains what the SQL asks of the scene's tables, or why it is refused.
pub record TextOf (s : Scene) (sql : List ℕ) (text : List ℕ) : Type 0 where
  pub query : Result Query Fault
  pub asks : AsksOf s.database.schema sql query
  pub tells : IsTextFor s query text

-- The events of the whole script ran, and this explains the text behind them.
pub record Behind (options : Options) (script : List ℕ) (loads : List Load) (sql : List ℕ) (text : List ℕ) : Type 0 where
  pub trace : List ℕ
  pub last : Scene
  pub traced : Trace options script loads [] trace last
  pub text_is : TextOf last sql text

-- that was written
pub record WroteBehind (before after : Option (List ℕ)) (options : Options) (script : List ℕ) (loads : List Load) (sql : List ℕ) : Type 0 where
  pub text : List ℕ
  pub behind : Behind options script loads sql text
  pub written : Appends before after text

-- a prefix of that was written
pub record WrotePart (before after : Option (List ℕ)) (options : Options) (script : List ℕ) (loads : List Load) (sql : List ℕ) : Type 0 where
  pub text : List ℕ
  pub behind : Behind options script loads sql text
  pub written : WritesPrefix before after text

-- these lines explain the query, or its fault, as client 1 of each past that the client stands for
abbrev pub AreLinesFor : Client → Result Query Fault → List TraceLine → Type 0
AreLinesFor c query lines =
    (db : Database) (past : session.Client) → StandsOver db past c
    → (result : Result Explanation Fault)
    × ExplainStep (basis_of db c.store.limits) (count_in (tables_of db past.version) past.marks past.queries) past query result
    × (lines ≡ explain_lines 1 result)

-- ---- refusals

-- why nothing is explained: as a replay is refused, or by a fault of writing
abbrev pub IsRefusedFor : Options → List ℕ → List Load → List ℕ → RunFault → Type 0
IsRefusedFor options script loads sql fault.WriteFault = Unit {0}
IsRefusedFor options script loads sql (fault.Line line place) = outside options.clients script ≡ Some (record { line = line; place = place })
IsRefusedFor options script loads sql (fault.Setup line why) = FirstRefused options.clients 1 [] (lines_of script) line why
IsRefusedFor options script loads sql (fault.Load table why) = RefusesLoad options.clients script loads table why
