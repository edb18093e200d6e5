-- Calls of a client to a server that serves.
use Rattle.std.specs.Prelude.{Bool, true, List, [], ◌∷◌, ◌≡◌, Some, Result}
use Rattle.std.specs.List.{list_all}
use Rattle.sr_cell.specs.declared.fault.Fault.{Fault}
use Rattle.sr_io.specs.Told.{Connection}
use Rattle.sr_message.specs.declared.message.Message.{Message}
use Rattle.sr_model.specs.Statements.{Tables}
use Rattle.sr_wire.specs.Spelling.{has_spelling}
use Rattle.sr_session.specs.Sessions.{Database}
use Rattle.sr_links.specs.Honest.{Server, Input, IsPrefix, AreClosedBehind, server_at_last}
use Rattle.sr_links.specs.Steps.{requests_of}
use Rattle.sr_dial.specs.Calls.{Call, done_in, steps_in}
use Rattle.sr_talk.specs.Rounds.{at_rest}
use Rattle.sr_talk.specs.Serving.{Conversation, IsServed}
use Rattle.sr_dial_laws.specs.Honest.{AreExplained, came_over}
use Rattle.sr_dial.specs.Runs.{IsCarried}

-- the ends of one connection: each took a beginning of what the other sent
pub record AreEnds (client server : Connection) : Type 0 where
  pub asked : IsPrefix server.taken client.sent
  pub answered : IsPrefix client.taken server.sent

-- The parameter: what the text of a message gives on the newest tables, if it is a write.
module _ (C : Type 0) (Gives : Database → Message → Result Tables Fault → Type 0) where
  -- A call and a conversation of a server are the ends of one connection, and all that was sent has a spelling.
  pub record IsServedCall (db : Database) (call : Call C) (talk : Conversation) (after : Server) : Type 0 where
    pub served : IsServed Gives db talk after
    pub short : Bool
    pub carried : IsCarried short call
    pub client : Connection
    pub server : Connection
    pub client_is : call.told ≡ Some client
    pub server_is : talk.told ≡ Some server
    pub ends : AreEnds client server
    pub requests : list_all has_spelling (requests_of (steps_in (done_in call))) ≡ true
    pub answers : list_all has_spelling served.sent ≡ true

  -- Calls, and conversations of a server one after another up to that with the last of them. A call over which nothing came may have
  -- found nobody, and between them the server may talk with others.
  pub data AreServedCalls : Database → List (Call C) → List Conversation → Database → Type 0 where
    all_served : (db : Database) → AreServedCalls db [] [] db
    goes : (db last : Database) (call : Call C) (calls : List (Call C)) (talk : Conversation) (talks : List Conversation) (after : Server)
        → IsServedCall db call talk after → AreServedCalls after.database calls talks last → AreServedCalls db (call ∷ calls) (talk ∷ talks) last
    unheard : (db last : Database) (call : Call C) (calls : List (Call C)) (talks : List Conversation) → came_over call ≡ []
        → AreServedCalls db calls talks last → AreServedCalls db (call ∷ calls) talks last
    with_another : (db last : Database) (call : Call C) (calls : List (Call C)) (talk : Conversation) (talks : List Conversation) (after : Server)
        → IsServed Gives db talk after → AreServedCalls after.database (call ∷ calls) talks last → AreServedCalls db (call ∷ calls) (talk ∷ talks) last

  -- Inputs explain the calls, from a server at rest to one at rest; the session is closed behind each.
  pub record HaveInputs (db : Database) (calls : List (Call C)) (last : Database) : Type 0 where
    pub pieces : List (List Input)
    pub behind : AreClosedBehind pieces
    pub explained : AreExplained (at_rest db) pieces calls
    pub after : server_at_last (at_rest db) pieces ≡ at_rest last

  -- So the links of calls to a server that serves are honest.
  abbrev pub ServedCallsAreExplained : Type 0
  ServedCallsAreExplained =
      (db last : Database) (calls : List (Call C)) (talks : List Conversation) → AreServedCalls db calls talks last → HaveInputs db calls last
