-- What the parts of an event keep to.
use Rattle.std.specs.Prelude.{◌≡◌, ℕ, ◌&&◌, Bool, true, nat_le, List, ◌++◌, Ok, Err, IsTrue}
use Rattle.sr_lines.specs.Script.{Words, ExecSql, QuerySql, WriteSql, ExplainSql, PushTo, ToServer, ToClient, Settle, Evict, Cut, Resume, event_of}

-- there is such a client
abbrev pub is_client : ℕ → ℕ → Bool
is_client clients n = nat_le 1 n && nat_le n clients

-- there is the client that the event names, if it names one
abbrev pub names_client : ℕ → Words → Bool
names_client clients (ExecSql sql) = true
names_client clients (QuerySql n sql) = is_client clients n
names_client clients (WriteSql n sql) = is_client clients n
names_client clients (ExplainSql n sql) = is_client clients n
names_client clients (PushTo n) = is_client clients n
names_client clients (ToServer n) = is_client clients n
names_client clients (ToClient n) = is_client clients n
names_client clients (Settle n) = is_client clients n
names_client clients (Evict n place) = is_client clients n
names_client clients (Cut n) = is_client clients n
names_client clients (Resume n) = is_client clients n

-- the event of a line names a client that there is
abbrev pub EventsNameClients : Type 0
EventsNameClients = (clients : ℕ) (line : List ℕ) (words : Words) → event_of clients line ≡ Ok words → IsTrue (names_client clients words)

-- the line ends so
abbrev pub IsEnd : List ℕ → List ℕ → Type 0
IsEnd rest line = (front : List ℕ) × (line ≡ front ++ rest)

-- what a fault leaves is an end of the line
abbrev pub FaultsLeaveEnds : Type 0
FaultsLeaveEnds = (clients : ℕ) (line rest : List ℕ) → event_of clients line ≡ Err rest → IsEnd rest line
