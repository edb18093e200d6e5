-- The events of a script: what may happen, one after another.
use Rattle.std.specs.Prelude.{ℕ, List, Result}
use Rattle.sr_cell.specs.declared.fault.Fault.{Fault}
use Rattle.sr_model.specs.Queries.{Query}
use Rattle.sr_model.specs.Statements.{Write}

-- The text of a statement or a query stands for what it says to the schema, or why it is refused. A write stands as its text, which the
-- server reads.
pub data ScriptEvent : Type 0 where
  DoExec : (statement : Result Write Fault) → ScriptEvent
  DoQuery : (client : ℕ) → (query : Result Query Fault) → ScriptEvent
  DoWrite : (client : ℕ) → (sql : List ℕ) → ScriptEvent
  DoExplain : (client : ℕ) → (query : Result Query Fault) → ScriptEvent
  DoPush : (client : ℕ) → ScriptEvent
  DoToServer : (client : ℕ) → ScriptEvent
  DoToClient : (client : ℕ) → ScriptEvent
  DoSettle : (client : ℕ) → ScriptEvent
  DoEvict : (client : ℕ) → (place : ℕ) → ScriptEvent
  DoCut : (client : ℕ) → ScriptEvent
  DoResume : (client : ℕ) → ScriptEvent
