-- One client and its server: what each event leaves standing.
use Rattle.std.proofs.Common.{◌≡◌, ◌+◌, ◌<◌, true, false, List, [], ◌∷◌, ◌++◌, length, refl, sym, ◌∙◌, ap, subst, Option, Some, None, append-nil, Ok}
use Rattle.std.specs.Prelude.{Result}
use Rattle.std.proofs.lemmas.List.Elements.{All-nil, All-cons, All-head}
use Rattle.sr_cell.specs.declared.fault.Fault.{Fault}
use Rattle.sr_message.specs.declared.message.Message.{Message}
use Rattle.sr_message.specs.declared.message.Message.TheVariants.{Hello, Resume, Ask, Write, Welcome, Notice, Rows, Reply, Written, Refused, Lapse}
use Rattle.sr_model.specs.Statements.{Tables}
use Rattle.sr_policy.specs.declared.policy.Limits.{Limits}
use Rattle.sr_session.specs.Clients.{Client, Connection, Flows, IsDown, IsOpen, Pair, Stands, is_down, is_idle, is_open, is_resuming, is_sent, is_served, mirror_of}
use Rattle.sr_session.specs.Rules.{Outcome, sends, TakeStep, CutStep}
use Rattle.sr_session.specs.Scenes.{Scene, Exec, QueryOf, WriteOf, EvictOf, CutOf, ResumeOf, ToServer, ToClient, Executed, ServerTook, Did, executed, queried, wrote, evicted, cut, resumed, server_took, client_took, taken, Event, SceneStands, Report, Happens}
use Rattle.sr_session.specs.Sessions.{Database, Session, newest, with_version}
use Rattle.sr_session.specs.Walks.{Request, Mirror, noticed, forgot, brought, Walks, AreLaid}
use Rattle.sr_session.proofs.QueryLemmas.{silent}
use Rattle.sr_session.specs.Bases.{basis_of}
use Rattle.sr_session.proofs.EventLemmas.{events-keep}
use Rattle.sr_links.specs.Honest.{Server}
use Rattle.sr_links.specs.Steps.{Deed, Queried, Wrote, Evicted, Took, WasCut, Resumed, too_long, writes, Does}

abbrev pub pair : Client → Connection → Pair
pair c l = record { client = c; connection = l }

abbrev pub at : Database → Connection → Server
at db l = record { database = db; session = l.session }

abbrev pub nothing : Connection
nothing = record { to_server = []; to_client = []; session = None }

-- neither a message nor a cut
abbrev pub IsQuiet : Deed → Type 0
IsQuiet (Took m) = ⊥
IsQuiet WasCut = ⊥
IsQuiet other = Unit {0}

module _ (limits : Limits) where
  -- the scene of this pair alone
  abbrev scene : Database → Client → Connection → Scene
  scene db c l = record { database = db; limits = limits; pairs = pair c l ∷ [] }

  event-keeps : (db after : Database) (c new : Client) (l next : Connection) (event : Event) (report : Report) → 0 < length db.versions → Stands db (pair c l)
      → Happens (scene db c l) event report (scene after new next) → Stands after (pair new next)
  event-keeps db after c new l next event report some stands happens =
      let alone : SceneStands (scene db c l) = record { some = some; pairs = All-cons (Stands db) (pair c l) [] stands (All-nil (Stands db)) } in
      let kept : SceneStands (scene after new next) = events-keep (scene db c l) (scene after new next) event report alone happens in
      All-head (Stands after) (pair new next) [] kept.pairs

  module _ (db : Database) (c : Client) (l : Connection) (some : 0 < length db.versions) (stands : Stands db (pair c l)) where
    pub version-keeps : (tables : Tables) → Stands (with_version db tables) (pair c l)
    version-keeps tables = event-keeps db (with_version db tables) c c l l (Exec (Ok tables)) (Executed (newest db + 1)) some stands (executed tables)

    pub quiet-keeps : (deed : Deed) (o : Outcome) (new : Client) → IsQuiet deed → Does (basis_of db limits) deed c o new → Stands db (pair new (sends l o))
    quiet-keeps (Queried query) o new quiet does = event-keeps db db c new l (sends l o) (QueryOf 1 query) (Did o) some stands (queried 1 query (pair c l) o new refl does)
    quiet-keeps (Wrote sql) o new quiet (too_long is) = silent (λ line. Stands db (pair c line)) l o refl stands
    quiet-keeps (Wrote sql) o new quiet (writes did after short does) = event-keeps db db c new l (sends l o) (WriteOf 1 sql) (Did o) some stands (wrote 1 sql (pair c l) o new refl does)
    quiet-keeps (Evicted place) o new quiet does = event-keeps db db c new l (sends l o) (EvictOf 1 place) (Did o) some stands (evicted 1 place (pair c l) o new refl does)
    quiet-keeps (Took m) o new quiet does = absurd quiet
    quiet-keeps WasCut o new quiet does = absurd quiet
    quiet-keeps Resumed o new quiet does = event-keeps db db c new l (sends l o) (ResumeOf 1) (Did o) some stands (resumed 1 (pair c l) o new refl does)

    pub take-keeps : (m : Message) (queue : List Message) (o : Outcome) (new : Client) → l.to_client ≡ m ∷ queue → TakeStep (basis_of db limits) c m o new
        → Stands db (pair new (sends (record l { to_client = queue }) o))
    take-keeps m queue o new first does = event-keeps db db c new l (sends (record l { to_client = queue }) o) (ToClient 1) (Did o) some stands (client_took 1 (pair c l) m queue o new refl first does)

    pub cut-keeps : (o : Outcome) (new : Client) → CutStep c o new → Stands db (pair new nothing)
    cut-keeps o new does = event-keeps db db c new l nothing (CutOf 1) (Did o) some stands (cut 1 (pair c l) o new refl does)

    -- the server takes the first request
    pub server-keeps : (m : Message) (queue : List Message) (result : Result Tables Fault) → l.to_server ≡ m ∷ queue
        → Stands (taken db l.session m result).database
        (pair c (record { to_server = queue; to_client = l.to_client ++ (taken db l.session m result).served.sent; session = (taken db l.session m result).served.session }))
    server-keeps m queue result first =
        event-keeps db (taken db l.session m result).database c c l
        (record { to_server = queue; to_client = l.to_client ++ (taken db l.session m result).served.sent; session = (taken db l.session m result).served.session })
        (ToServer 1 result) (ServerTook m (taken db l.session m result).served.sent) some stands (server_took 1 result (pair c l) m queue refl first)

-- ---- what stands

-- laid messages do not end a request
never-ends : (db : Database) (request : Request) (m : Mirror) (ms : List Message) (session : Session) → AreLaid ms → Walks db (Some request) m ms session → ⊥
never-ends db request m [] session all h = h
never-ends db request m (Notice w told ∷ ms) session all h = never-ends db request (noticed m w) ms session all.1 h.1
never-ends db request m (Lapse w ∷ ms) session all h = never-ends db request (forgot m w) ms session all.1 h.1
never-ends db request m (Rows k part rows ∷ ms) session all h = never-ends db request (brought m (Rows k part rows)) ms session all.1 h.1
never-ends db request m (Reply k w ∷ ms) session all h = all.0
never-ends db request m (Written k w ∷ ms) session all h = all.0
never-ends db request m (Refused k fault ∷ ms) session all h = all.0
never-ends db request m (Welcome k w kept ∷ ms) session all h = all.0
never-ends db request m (Hello wire client k ∷ ms) session all h = all.0
never-ends db request m (Resume wire client k version holdings ∷ ms) session all h = all.0
never-ends db request m (Ask k fresh parts ∷ ms) session all h = all.0
never-ends db request m (Write k sql ∷ ms) session all h = all.0

-- while a request is out, something is on its way
pub never-idle : (db : Database) (c : Client) (l : Connection) → Stands db (pair c l) → (c.out ≡ None → ⊥) → l.to_server ≡ [] → l.to_client ≡ [] → ⊥
never-idle db c l (is_down h) out no_request no_message = out h.out
never-idle db c l (is_resuming h) out no_request no_message = let wrong : h.message ∷ [] ≡ [] = sym h.to_server ∙ no_request in cc
never-idle db c l (is_open session h) out no_request no_message = by c.out refl h.flows
  where
    by : (request : Option Request) → c.out ≡ request → Flows db c l session request → ⊥
    by request is (is_idle empty none walks) = out is
    by request is (is_sent asked o all f) = let wrong : f.message ∷ [] ≡ [] = sym f.to_server ∙ no_request in cc
    by request is (is_served asked o all f) =
        never-ends db asked (mirror_of c) c.laid session all
        (subst (λ ms. Walks db (Some asked) (mirror_of c) ms session) (ap (λ q. c.laid ++ q) no_message ∙ append-nil c.laid) f.walks)

-- where a message comes, the session is open
pub record Open (db : Database) (c : Client) (l : Connection) : Type 0 where
  pub session : Session
  pub stands : IsOpen db c l session

pub opens : (db : Database) (c : Client) (l : Connection) (m : Message) (queue : List Message) → Stands db (pair c l) → l.to_client ≡ m ∷ queue → Open db c l
opens db c l m queue (is_open session h) first = record { session = session; stands = h }
opens db c l m queue (is_down h) first = absurd (let wrong : m ∷ queue ≡ [] = sym first ∙ h.to_client in cc)
opens db c l m queue (is_resuming h) first = absurd (let wrong : m ∷ queue ≡ [] = sym first ∙ h.to_client in cc)

-- where the link is cut, nothing is under way
pub is-down : (db : Database) (c : Client) (l : Connection) → c.cut ≡ true → Stands db (pair c l) → IsDown db c l
is-down db c l down (is_open session h) = absurd (let wrong : true ≡ false = sym down ∙ h.up in cc)
is-down db c l down (is_down h) = h
is-down db c l down (is_resuming h) = absurd (let wrong : true ≡ false = sym down ∙ h.up in cc)
