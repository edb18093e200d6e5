-- What an object of the outside tells of itself.
use Rattle.std.specs.Prelude.{◌≡◌, ℕ, List, [], ◌∷◌, ◌++◌, length, take, drop, Bool, true, false, Option, Some, None, ⊤, option_map, option_to_list}
use Rattle.std.specs.List.{All}

-- what is read: the bytes left, where they are told, and the faults counted
pub record Reading : Type 0 where
  pub left : Option (List ℕ)
  pub faults : ℕ

-- what is written: the bytes so far, where they are told, and the faults counted
pub record Writing : Type 0 where
  pub written : Option (List ℕ)
  pub faults : ℕ

-- one connection: the address at which it was made, the bytes sent, the bytes taken and the bytes to come
pub record Connection : Type 0 where
  pub address : List ℕ
  pub sent : List ℕ
  pub taken : List ℕ
  pub coming : List ℕ

-- what is linked: the connections that are over in the order in which they were made, the one at present,
-- what each further one will bring, and the address at which peers may connect, [] until there is one;
-- an object that tells nothing of them has [], None, None and None
pub record Linking : Type 0 where
  pub past : List Connection
  pub present : Option Connection
  pub peers : Option (List (List ℕ))
  pub docked : Option (List ℕ)
  pub is_up : Bool
  pub faults : ℕ

-- all connections in the order in which they were made
abbrev pub connections : Linking → List Connection
connections l = l.past ++ option_to_list l.present

-- a connection that has just been made at this address and brings these bytes
abbrev pub fresh : List ℕ → List ℕ → Connection
fresh address bytes = record { address = address; sent = []; taken = []; coming = bytes }

-- the connection after these bytes were sent
abbrev pub sends : List ℕ → Connection → Connection
sends bytes c = record { address = c.address; sent = c.sent ++ bytes; taken = c.taken; coming = c.coming }

-- the connection after these bytes, which were the first to come, were taken
abbrev pub takes : List ℕ → Connection → Connection
takes bytes c = record { address = c.address; sent = c.sent; taken = c.taken ++ bytes; coming = drop (length bytes) c.coming }

-- after these bytes were sent on the present connection
abbrev pub sent_on : List ℕ → Linking → Linking
sent_on bytes l = record { past = l.past; present = option_map (sends bytes) l.present; peers = l.peers; docked = l.docked; is_up = l.is_up; faults = l.faults }

-- after these bytes were taken from the present connection
abbrev pub taken_from : List ℕ → Linking → Linking
taken_from bytes l = record { past = l.past; present = option_map (takes bytes) l.present; peers = l.peers; docked = l.docked; is_up = l.is_up; faults = l.faults }

-- the connection that is made with the next peer at this address, where both are told
abbrev pub next_peer : Option (List ℕ) → Option (List (List ℕ)) → Option Connection
next_peer None peers = None
next_peer (Some address) None = None
next_peer (Some address) (Some []) = None
next_peer (Some address) (Some (bytes ∷ more)) = Some (fresh address bytes)

-- the peers after the next
abbrev pub other_peers : Option (List (List ℕ)) → Option (List (List ℕ))
other_peers None = None
other_peers (Some []) = Some []
other_peers (Some (bytes ∷ more)) = Some more

-- after one more connection was made at this address
abbrev pub connected_at : Option (List ℕ) → Linking → Linking
connected_at address l = record { past = connections l; present = next_peer address l.peers; peers = other_peers l.peers; docked = l.docked; is_up = true; faults = l.faults }

-- after peers may connect to this address, where that is told
abbrev pub docked_at : List ℕ → Linking → Linking
docked_at address l = record { past = l.past; present = l.present; peers = l.peers; docked = option_map (λ before. address) l.docked; is_up = l.is_up; faults = l.faults }

-- after the present connection was given up
abbrev pub hung_up : Linking → Linking
hung_up l = record { past = connections l; present = None; peers = l.peers; docked = l.docked; is_up = false; faults = l.faults }

-- these connections were made at this address
abbrev pub AreAt : List ℕ → List Connection → Type 0
AreAt address made = All (λ c. c.address ≡ address) made

-- but for the count of faults, all is as it was
pub record OnlyFaults (before now : Linking) : Type 0 where
  pub past : now.past ≡ before.past
  pub present : now.present ≡ before.present
  pub peers : now.peers ≡ before.peers
  pub docked : now.docked ≡ before.docked
  pub is_up : now.is_up ≡ before.is_up

-- the bytes are the first to come on the connection, where it tells
abbrev pub Brings : Option Connection → List ℕ → Type 0
Brings None bytes = ⊤
Brings (Some c) bytes = take (length bytes) c.coming ≡ bytes

-- nothing more comes on the connection, where it tells
abbrev pub IsOver : Option Connection → Type 0
IsOver None = ⊤
IsOver (Some c) = c.coming ≡ []

-- of an object that is never read
abbrev pub no_reading : Reading
no_reading = record { left = None; faults = 0 }

-- of an object that is never written
abbrev pub no_writing : Writing
no_writing = record { written = None; faults = 0 }

-- of an object that is never linked
abbrev pub no_linking : Linking
no_linking = record { past = []; present = None; peers = None; docked = None; is_up = false; faults = 0 }

-- the error output after these bytes too, where it is told: it keeps its first 4,096 bytes
abbrev pub complained : List ℕ → Option (List ℕ) → Option (List ℕ)
complained bytes told = option_map (λ before. take 4096 (before ++ bytes)) told
