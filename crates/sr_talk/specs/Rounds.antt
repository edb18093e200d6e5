-- Connections that are served one after another, with the lines that are written.
use Rattle.std.specs.Prelude.{◌≡◌, ◌≢◌, ℕ, false, ◌≤◌, List, [], ◌∷◌, ◌++◌, length, flat_map, Option, Some, None, Result, option_to_list, IfSome}
use Rattle.std.specs.Io.KnownBytes.{Appends}
use Rattle.std.specs.List.{All}
use Rattle.sr_cell.specs.declared.fault.Fault.{Fault as TheFault}
use Rattle.sr_io.specs.Causes.{Rose}
use Rattle.sr_io.specs.Pieces.{WritesPrefix}
use Rattle.sr_io.specs.Told.{Reading, Writing, Linking, connections, OnlyFaults}
use Rattle.sr_message.specs.declared.message.Message.{Message}
use Rattle.sr_model.specs.Statements.{Tables}
use Rattle.sr_session.specs.Sessions.{Database}
use Rattle.sr_links.specs.Honest.{Server}
use Rattle.sr_talk.specs.Serving.{Conversation, IsServed, IsCutShort, AreServed, AreTold, RoseBy, all_told, count_faults, connection_lines, frames_read, is_fault, QuietAs}
use Rattle.sr_talk.specs.declared.serve.How.TheVariants.{Fault as ByFault}
use Rattle.sr_talk.specs.declared.serve.Served.{Served}
use Rattle.sr_talk.specs.declared.rounds.Ending.{Ending}
use Rattle.sr_talk.specs.declared.rounds.Ending.TheVariants.{Whole, Faulty, Unwritten}

-- What a call leaves of what is read, held and complained; what is written and linked is said apart.
pub record OnlyOutput (H : Type 0) (reading : H → Reading) (held : H → List ℕ → Option (List ℕ)) (complaints : H → Option (List ℕ)) (IsSteady : H → Type 0) (old new : H) : Type 0 where
  pub stays_steady : IsSteady old → IsSteady new
  pub reading_stays : reading new ≡ reading old
  pub held_stays : held new ≡ held old
  pub complaints_stay : complaints new ≡ complaints old

-- the versions, and no session
abbrev pub at_rest : Database → Server
at_rest db = record { database = db; session = None }

abbrev pub text_of : List (List ℕ) → List ℕ
text_of lines = flat_map (λ line. line) lines

-- so many peers at least are to come, where the link tells them
abbrev pub HasPeers : ℕ → Linking → Type 0
HasPeers count l = IfSome l.peers (λ peers. count ≤ length peers)

-- a link that tells its peers goes on to tell them
abbrev pub KeepsPeers : Linking → Linking → Type 0
KeepsPeers old new = IfSome old.peers (λ peers. new.peers ≢ None)

-- A peer was there, its connection did not end by a fault, and so many are still to come.
abbrev pub ServesPeer : Option Served → ℕ → Linking → Type 0
ServesPeer None more new = ⊥
ServesPeer (Some served) more new = (served.how ≢ ByFault) × HasPeers more new

module _ (Gives : Database → Message → Result Tables TheFault → Type 0) where
  -- One connection was made at the docked address, served and given up.
  pub record Rounds (db : Database) (old new : Linking) (served : Served) (IsNew : Server → Type 0) : Type 0 where
    pub conversation : Conversation
    pub after : Server
    pub how_is : conversation.how ≡ served.how
    pub count_is : served.frames ≡ frames_read served.how (length conversation.frames)
    pub is : IsServed Gives db conversation after
    pub made : connections new ≡ connections old ++ option_to_list conversation.told
    pub came_at : IfSome conversation.told (λ t. old.docked ≡ Some t.address)
    pub is_told : AreTold old (conversation ∷ [])
    pub hung_up : new.is_up ≡ false
    pub docked : new.docked ≡ old.docked
    pub peers_stay : KeepsPeers old new
    pub faults : RoseBy old.faults (is_fault served.how) new.faults
    pub quiet : QuietAs served.how old.faults new.faults
    pub stands : IsNew (at_rest after.database)

  -- Or none could be made.
  abbrev pub RoundsIf : Option Served → Database → Linking → Linking → (Server → Type 0) → Type 0
  RoundsIf None db old new IsNew = Rose old.faults new.faults × OnlyFaults old new × IsNew (at_rest db)
  RoundsIf (Some served) db old new IsNew = Rounds db old new served IsNew

  -- Out of memory: none was made, or one was cut short.
  pub record RoundsInPart (db : Database) (old new : Linking) : Type 0 where
    pub cut_short : Option Conversation
    pub is : IfSome cut_short (IsCutShort Gives db)
    pub made : connections new ≡ connections old ++ all_told (option_to_list cut_short)
    pub came_at : IfSome cut_short (λ c. IfSome c.told (λ t. old.docked ≡ Some t.address))
    pub is_told : AreTold old (option_to_list cut_short)
    pub faults_stay : new.faults ≡ old.faults

  -- So many connections were served, all made at the docked address, and the link has just these more. The last one was given up too.
  pub record SoMany (db : Database) (old new : Linking) (count : ℕ) (IsNew : Server → Type 0) : Type 0 where
    pub conversations : List Conversation
    pub last : Database
    pub served : AreServed Gives db conversations last
    pub made : connections new ≡ connections old ++ all_told conversations
    pub came_at : All (λ t. old.docked ≡ Some t.address) (all_told conversations)
    pub each_told : AreTold old conversations
    pub hung_up : conversations ≢ [] → new.is_up ≡ false
    pub docked : new.docked ≡ old.docked
    pub peers_stay : KeepsPeers old new
    pub number : length conversations ≡ count
    pub faults : RoseBy old.faults (count_faults conversations) new.faults
    pub quiet : count_faults conversations ≡ 0 → new.faults ≡ old.faults
    pub stands : IsNew (at_rest last)

  -- how serving ended: all connections were served, none or some of them by a fault; one more could not be made; or a line not written
  pub record EndsWhole (db : Database) (count : ℕ) (old new : Linking) (before after : Writing) (IsNew : Server → Type 0) : Type 0 where
    pub all : SoMany db old new count IsNew
    pub none : count_faults all.conversations ≡ 0
    pub written : Appends before.written after.written (text_of (connection_lines 1 all.conversations))
    pub write_faults : after.faults ≡ before.faults

  pub record EndsFaulty (db : Database) (count : ℕ) (old new : Linking) (before after : Writing) (IsNew : Server → Type 0) : Type 0 where
    pub done : ℕ
    pub linking : Linking
    pub some : SoMany db old linking done IsNew
    pub few : done ≤ count
    pub only : OnlyFaults linking new
    pub fewer : done ≢ count → Rose linking.faults new.faults
    pub cause : done ≡ count → (new ≡ linking) × (count_faults some.conversations ≢ 0)
    pub written : Appends before.written after.written (text_of (connection_lines 1 some.conversations))
    pub write_faults : after.faults ≡ before.faults

  pub record EndsUnwritten (db : Database) (count : ℕ) (old new : Linking) (before after : Writing) (IsNew : Server → Type 0) : Type 0 where
    pub done : ℕ
    pub some : SoMany db old new done IsNew
    pub few : done ≤ count
    pub written : WritesPrefix before.written after.written (text_of (connection_lines 1 some.conversations))
    pub cause : Rose before.faults after.faults

  -- Out of memory: some connections were over, and one more was cut short, or none; then all lines before it were written.
  pub record EndsInPart (db : Database) (count : ℕ) (old new : Linking) (before after : Writing) : Type 0 where
    pub conversations : List Conversation
    pub last : Database
    pub cut_short : Option Conversation
    pub served : AreServed Gives db conversations last
    pub is_cut_short : IfSome cut_short (IsCutShort Gives last)
    pub made : connections new ≡ connections old ++ all_told (conversations ++ option_to_list cut_short)
    pub came_at : All (λ t. old.docked ≡ Some t.address) (all_told (conversations ++ option_to_list cut_short))
    pub each_told : AreTold old (conversations ++ option_to_list cut_short)
    pub few : length (conversations ++ option_to_list cut_short) ≤ count
    pub faults : RoseBy old.faults (count_faults conversations) new.faults
    pub quiet : count_faults conversations ≡ 0 → new.faults ≡ old.faults
    pub written : WritesPrefix before.written after.written (text_of (connection_lines 1 conversations))
    pub all_before : cut_short ≢ None → Appends before.written after.written (text_of (connection_lines 1 conversations))
    pub write_faults : after.faults ≡ before.faults

  abbrev pub EndsBy : Ending → Database → ℕ → Linking → Linking → Writing → Writing → (Server → Type 0) → Type 0
  EndsBy Whole db count old new before after IsNew = EndsWhole db count old new before after IsNew
  EndsBy Faulty db count old new before after IsNew = EndsFaulty db count old new before after IsNew
  EndsBy Unwritten db count old new before after IsNew = EndsUnwritten db count old new before after IsNew
