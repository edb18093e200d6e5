-- What a client does is an event of the scene.
use Rattle.std.proofs.Common.{◌≡◌, ℕ, ◌+◌, ◌≤◌, ◌<◌, Bool, true, false, List, [], ◌∷◌, ◌++◌, length, refl, sym, ◌∙◌, ap, subst, arith, append-nil, None, Result, Ok, Err}
use Rattle.std.specs.Prelude.{IfOk, IfSome, OnOk, nat_le, Option, Some, option_to_list}
use Rattle.std.proofs.lemmas.Bool.Decides.{nat_tests}
use Rattle.sr_cell.specs.declared.fault.Fault.{Fault}
use Rattle.std.specs.List.{list_all}
use Rattle.std.proofs.lemmas.List.{length-append}
use Rattle.sr_cell.specs.declared.table.Table.{Table}
use Rattle.sr_message.specs.declared.message.Message.{Message}
use Rattle.sr_message.specs.declared.message.Message.TheVariants as kinds
use Rattle.sr_script.specs.declared.line.TraceLine.{TraceLine}
use Rattle.sr_script.specs.declared.line.TraceLine.TheVariants as line
use Rattle.sr_lines.specs.Events.{DoCut, DoEvict, DoQuery, DoResume, DoToClient, DoWrite, ScriptEvent}
use Rattle.sr_model.specs.Queries.{Query}
use Rattle.sr_policy.specs.declared.policy.Limits.{Limits}
use Rattle.sr_session.specs.Sessions.{Database}
use Rattle.sr_session.specs.Clients as session
use Rattle.sr_session.specs.Clients.{Connection}
use Rattle.sr_session.specs.Refusals.{is_request_of}
use Rattle.sr_session.specs.Rules as rules
use Rattle.sr_session.specs.Rules.{Basis, Outcome, sent_of}
use Rattle.sr_session.specs.Scenes.{ClientIdle, CutOf, Did, Event, EvictOf, Happens, QueryOf, ResumeOf, Scene, ToClient, WriteOf, acted, client_idle, client_took, cut, cut_off, evicted, queried, resumed, with_pair, wrote}
use Rattle.sr_client.specs.declared.client.Client.{Client}
use Rattle.sr_client.specs.declared.steps.CutStep.{CutStep}
use Rattle.sr_client.specs.declared.steps.EvictStep.{EvictStep}
use Rattle.sr_client.specs.declared.steps.EvictStep.TheVariants as evicts
use Rattle.sr_client.specs.declared.steps.QueryStep.{QueryStep}
use Rattle.sr_client.specs.declared.steps.QueryStep.TheVariants as query
use Rattle.sr_client.specs.declared.steps.ResumeStep.{ResumeStep}
use Rattle.sr_client.specs.declared.steps.ResumeStep.TheVariants as resumes
use Rattle.sr_client.specs.declared.steps.WriteStep.{WriteStep}
use Rattle.sr_client.specs.declared.steps.WriteStep.TheVariants as writes
use Rattle.sr_client.specs.declared.steps.Took.{Took}
use Rattle.sr_client.specs.declared.steps.Took.TheVariants as took
use Rattle.sr_client.specs.Stands.{StandsOver, Stays, drawn, out_of}
use Rattle.sr_client.specs.Steps.{Cuts, Evicts, Goes, Queries, Resumes, SaysCut, SaysEvict, SaysQuery, SaysResume, SaysTook, SaysWrite, Takes, Writes, is_bad}
use Rattle.sr_wire.specs.Limits.{IsSendable}
use Rattle.sr_client.specs.Sends.{IsOfFormat, QuerySendsWell, ResumeSendsWell, TookSendsWell, WriteSendsWell}
use Rattle.sr_server.specs.declared.server.Server.{Server}
use Rattle.sr_server.specs.Servers.{IsServer, with_session}
use Rattle.sr_runs.specs.Lines.{cut_line, details, evict_line, lines_of, query_line, resume_line, taken_line, write_line}
use Rattle.sr_session.specs.Texts.{long_text, most_text}
use Rattle.sr_session.specs.Bases.{basis_of}
use Rattle.sr_runs.specs.Runs.{Acts, acts, too_long}
use Rattle.sr_runs.specs.Scripts.{Is, is_cut, is_evict, is_query, is_resume, is_to_client, is_write_of}
use Rattle.sr_world.specs.declared.lines.Told.{Told}
use Rattle.sr_world.specs.declared.seat.Seat.{Seat}
use Rattle.sr_world.specs.Seats.{IsSomeSeat, SeatGoes, SeatLeads, SeatStands}
use Rattle.sr_world.specs.Told.{QueryAsksFew, TookAsksFew}
use Rattle.sr_world.specs.Worlds.{drawn_by, rank, weight}
use Rattle.sr_world.proofs.Numbers.{cut-draws, drawn-is, past_drawn, query-draws, rank-is, resume-draws, take-draws, write-draws}
use Rattle.sr_world.proofs.Over.{grows-none}
use Rattle.sr_world.proofs.Sent.{query-asks-few, taken-well, took-asks-few}
use Rattle.sr_world.proofs.SeatLemmas.{client-leads, pair-stands, promises-are-true, seat-leads, seat-stays}

-- An outcome is told by its details and the last line of its kind, and what it sends goes out.
pub record IsToldOf (client : ℕ) (last : ℕ → Outcome → List TraceLine) (o : Outcome) (told : Told) : Type 0 where
  pub lines : told.lines ≡ details client o ++ last client o
  pub sent : option_to_list told.sent ≡ sent_of o

-- the seat keeps the limits of the scene
pub by-limits : (Rule : Basis → Type 0) (s : Scene) (n : ℕ) (seat : Seat) (server : Server) → SeatStands s n seat server → Rule (basis_of s.database seat.client.store.limits) → Rule (basis_of s.database s.limits)
by-limits Rule s n seat server h rule = subst (λ (l : Limits). Rule (basis_of s.database l)) h.seat.limits rule

-- one message more at most
sends-one : (schema : List Table) (n : ℕ) (m : Message) → is_request_of schema n m ≡ true → list_all (is_request_of schema n) (m ∷ []) ≡ true
sends-one schema n m is = rw is refl

-- ---- what is sent

-- what a step tells to be sent is what its outcome sends, which may be sent
told-sendable : (sent : Option Message) (o : Outcome) → option_to_list sent ≡ sent_of o → ((m : Message) → sent_of o ≡ m ∷ [] → IsSendable m) → IfSome sent IsSendable
told-sendable None o told each = tt
told-sendable (Some m) o told each = each m (sym told)

only : (a b : Message) → a ∷ [] ≡ b ∷ [] → a ≡ b
only a b is = cc

none-sent : (m : Message) → [] ≡ m ∷ [] → IsSendable m
none-sent m is = absurd (cc)

-- ---- queries

query-sends : (schema : List Table) (n : ℕ) (past : session.Client) (step : QueryStep) (o : Outcome) → QuerySendsWell schema n step → SaysQuery past step o → list_all (is_request_of schema n) (sent_of o) ≡ true
query-sends schema n past (query.Answered q version rows marks) o sends says = rw says refl
query-sends schema n past (query.Asked q request message marks) o sends says =
    let one : is_request_of schema n (kinds.Ask request says.1 says.2) ≡ true = subst (λ m. is_request_of schema n m ≡ true) says.3 sends.request in
    rw says.4 (sends-one schema n (kinds.Ask request says.1 says.2) one)
query-sends schema n past (query.Busy request) o sends says = rw says refl
query-sends schema n past (query.Down number) o sends says = rw says refl

-- ---- what a client does, and what it sends

-- A client comes to a next past, is told of, and what it sends goes out.
pub sent-leads : (s : Scene) (n : ℕ) (old mid new : Seat) (server : Server) (what : ScriptEvent) (event : Event) (l : Connection) (told : Told) (last : ℕ → Outcome → List TraceLine)
    (o : Outcome) (next : session.Client) (h : SeatStands s n old server) → l.session ≡ h.pair.connection.session → l.to_server ≡ h.pair.connection.to_server
    → Stays old.client mid.client → StandsOver s.database next mid.client → mid ≡ record old { client = mid.client; to_client = mid.to_client } → mid.to_client ≡ l.to_client
    → new ≡ record mid { to_server = mid.to_server ++ option_to_list told.sent } → IsToldOf mid.client.id last o told
    → list_all (is_request_of s.database.schema n) (sent_of o) ≡ true → Is s what event → Happens s event (Did o) (with_pair s n (acted next l o))
    → details n o ++ last n o ≡ lines_of event (Did o) → SeatLeads (λ s. Acts s what) s n server new server told.lines
sent-leads s n old mid new server what event l told last o next h session queue stays stands rest queued made tells requests is happens lines =
    let same : new ≡ record { client = mid.client; to_server = old.to_server ++ option_to_list told.sent; to_client = mid.to_client } =
    made ∙ ap (λ (x : Seat). record { client = mid.client; to_server = x.to_server ++ option_to_list told.sent; to_client = mid.to_client }) rest in
    client-leads s n old new server what event l o next told.lines h session queue
    (subst (λ (x : Seat). Stays old.client x.client) (sym same) stays)
    (subst (λ (x : Seat). StandsOver s.database next x.client) (sym same) stands)
    (ap (λ (x : Seat). x.to_server) same ∙ ap (λ ms. old.to_server ++ ms) tells.sent)
    (ap (λ (x : Seat). x.to_client) same ∙ queued) requests is happens
    (tells.lines ∙ (ap (λ k. details k o ++ last k o) (stays.id ∙ h.seat.number) ∙ lines))

-- what is answered are the lines that were told
pub goes-ok : {E : Type 0} (Leads : ℕ → Scene → List TraceLine → Scene → Type 0) (old new : Seat) (server after : Server) (lines : List TraceLine) (r : Result (List TraceLine) E) (P : Type 0)
    → OnOk r P → IfOk r (λ ls. ls ≡ lines) → (P → SeatGoes Leads old server new after lines) → IfOk r (SeatGoes Leads old server new after)
goes-ok {E} Leads old new server after lines (Ok ls) P made is goes = subst (SeatGoes Leads old server new after) (sym is) (goes made)
goes-ok {E} Leads old new server after lines (Err e) P made is goes = tt

-- the numbers that a step of the past draws
pub few-numbers : (db : Database) (past next : session.Client) (old new : Client) → StandsOver db past old → StandsOver db next new → past_drawn next ≤ past_drawn past + 2
    → drawn new + new.cuts ≤ (drawn old + old.cuts) + 2
few-numbers db past next old new before after few = omega (arith, drawn-is db past old before, drawn-is db next new after, few)

-- ---- a query

pub query-goes : {E : Type 0} (old mid new : Seat) (server : Server) (meaning : Query) (step : QueryStep) (told : Told) (r : Result (List TraceLine) E)
    → Queries old.client meaning mid.client step → Stays old.client mid.client → mid ≡ record old { client = mid.client }
    → ((past : session.Client) (o : Outcome) → SaysQuery past step o → IsToldOf mid.client.id query_line o told) → QuerySendsWell old.client.schema old.client.id step
    → OnOk r (new ≡ record mid { to_server = mid.to_server ++ option_to_list told.sent }) → IfOk r (λ lines. lines ≡ told.lines)
    → IfOk r (SeatGoes (λ n s. Acts s (DoQuery n (Ok meaning))) old server new server)
query-goes {E} old mid new server meaning step told r does stays rest tells sends made is =
    goes-ok (λ n s. Acts s (DoQuery n (Ok meaning))) old new server server told.lines r (new ≡ record mid { to_server = mid.to_server ++ option_to_list told.sent }) made is goes
  where
    goes : new ≡ record mid { to_server = mid.to_server ++ option_to_list told.sent } → SeatGoes (λ n s. Acts s (DoQuery n (Ok meaning))) old server new server told.lines
    goes made s n h =
        let past = h.pair.client in
        let g = does.by_rules s.database past h.seat.client in
        let well : QuerySendsWell s.database.schema n step =
        subst (λ k. QuerySendsWell s.database.schema k step) h.seat.number (subst (λ schema. QuerySendsWell schema old.client.id step) (sym h.seat.client.schema) sends) in
        sent-leads s n old mid new server (DoQuery n (Ok meaning)) (QueryOf n (Ok meaning)) h.pair.connection told query_line g.outcome g.next h refl refl stays g.stands
        (rest ∙ ap (λ ms. record old { client = mid.client; to_client = ms }) (sym (ap (λ (x : Seat). x.to_client) rest)))
        (ap (λ (x : Seat). x.to_client) rest ∙ h.seat.to_client) made (tells past g.outcome g.is)
        (query-sends s.database.schema n past step g.outcome well g.is) (is_query n (Ok meaning))
        (queried n (Ok meaning) h.pair g.outcome g.next h.there (by-limits (λ b. rules.QueryStep b past (Ok meaning) g.outcome g.next) s n old server h g.allowed)) refl

pub query-numbers : (old : Seat) (new : Client) (meaning : Query) (step : QueryStep) → (server : Server) × IsSomeSeat old server → Queries old.client meaning new step
    → drawn new + new.cuts ≤ drawn_by old + 2
query-numbers old new meaning step some does =
    let h = some.1.2 in
    let db = some.1.0.database in
    let past = h.pair.client in
    let g = does.by_rules db past h.seat.client in
    few-numbers db past g.next old.client new h.seat.client g.stands (query-draws (basis_of db old.client.store.limits) past (Ok meaning) g.outcome g.next g.allowed)

-- ---- an eviction

pub evict-nothing : (step : EvictStep) (o : Outcome) → SaysEvict step o → sent_of o ≡ []
evict-nothing (evicts.Dropped region) o says = rw says refl
evict-nothing (evicts.Busy request) o says = rw says refl
evict-nothing (evicts.NoSuch count) o says = rw says refl

pub evict-goes : {E : Type 0} (old new : Seat) (server : Server) (place : ℕ) (step : EvictStep) (r : Result (List TraceLine) E)
    → Evicts old.client place new.client step → new.client ≡ record old.client { store = record old.client.store { regions = new.client.store.regions } } → new ≡ record old { client = new.client }
    → ((o : Outcome) → SaysEvict step o → IfOk r (λ lines. lines ≡ details new.client.id o ++ evict_line new.client.id o))
    → IfOk r (SeatGoes (λ n s. Acts s (DoEvict n place)) old server new server)
evict-goes {E} old new server place step (Err e) does kept rest tells = tt
evict-goes {E} old new server place step (Ok lines) does kept rest tells = goes
  where
    goes : SeatGoes (λ n s. Acts s (DoEvict n place)) old server new server lines
    goes s n h =
        let past = h.pair.client in
        let g = does.by_rules s.database past h.seat.client in
        let stays : Stays old.client new.client = record { id = ap (λ (c : Client). c.id) kept; schema = ap (λ (c : Client). c.schema) kept; limits = ap (λ (c : Client). c.store.limits) kept } in
        let none : sent_of g.outcome ≡ [] = evict-nothing step g.outcome g.is in
        client-leads s n old new server (DoEvict n place) (EvictOf n place) h.pair.connection g.outcome g.next lines h refl refl stays g.stands
        (ap (λ (x : Seat). x.to_server) rest ∙ (sym (append-nil old.to_server) ∙ ap (λ ms. old.to_server ++ ms) (sym none)))
        (ap (λ (x : Seat). x.to_client) rest ∙ h.seat.to_client) (rw none refl) (is_evict n place)
        (evicted n place h.pair g.outcome g.next h.there (by-limits (λ b. rules.EvictStep b place past g.outcome g.next) s n old server h g.allowed))
        (tells g.outcome g.is ∙ ap (λ k. details k g.outcome ++ evict_line k g.outcome) (stays.id ∙ h.seat.number))

-- ---- a cut

pub cut-goes : {E : Type 0} (old new : Seat) (server after : Server) (step : CutStep) (r : Result (List TraceLine) E)
    → Cuts old.client new.client step → Stays old.client new.client → new ≡ record { client = new.client; to_server = []; to_client = [] }
    → after ≡ record server { sessions = with_session server.sessions new.client.id None } → ((db : Database) → IsServer server db → IsServer after db)
    → ((past : session.Client) (c : Client) (o : Outcome) (meaning : Query) → past.out ≡ out_of meaning c.out → SaysCut past c step o
    → IfOk r (λ lines. lines ≡ details new.client.id o ++ cut_line new.client.id o))
    → IfOk r (SeatGoes (λ n s. Acts s (DoCut n)) old server new after)
cut-goes {E} old new server after step (Err e) does stays rest closed serves tells = tt
cut-goes {E} old new server after step (Ok lines) does stays rest closed serves tells = goes
  where
    goes : SeatGoes (λ n s. Acts s (DoCut n)) old server new after lines
    goes s n h =
        let past = h.pair.client in
        let g = does.by_rules s.database past h.seat.client in
        let id : new.client.id ≡ n = stays.id ∙ h.seat.number in
        seat-leads s n server after new (DoCut n) (CutOf n) (Did g.outcome) s.database h.pair (cut_off g.next) lines h.number h.there h.stands h.server (is_cut n)
        (cut n h.pair g.outcome g.next h.there g.allowed)
        (tells past old.client g.outcome h.seat.client.client.hidden.meaning (ap (λ (p : session.Client). p.out) h.seat.client.client.same) g.is ∙ ap (λ k. details k g.outcome ++ cut_line k g.outcome) id)
        (grows-none s.database) (serves s.database h.server)
        (ap (λ (x : Server). x.sessions) closed ∙ ap (λ k. with_session server.sessions k None) id)
        (record {
          number = id;
          limits = stays.limits ∙ h.seat.limits;
          regions = h.seat.regions;
          client = g.stands;
          to_server = ap (λ (x : Seat). x.to_server) rest;
          to_client = ap (λ (x : Seat). x.to_client) rest;
          requests = ap (list_all (is_request_of s.database.schema n)) (ap (λ (x : Seat). x.to_server) rest);
        })

pub cut-numbers : (old : Seat) (new : Client) (step : CutStep) (server : Server) → IsSomeSeat old server → Cuts old.client new step → drawn new + new.cuts ≤ drawn_by old + 2
cut-numbers old new step server some does =
    let h = some.2 in
    let db = some.0.database in
    let past = h.pair.client in
    let g = does.by_rules db past h.seat.client in
    few-numbers db past g.next old.client new h.seat.client g.stands (cut-draws past g.outcome g.next g.allowed)

-- ---- a message

took-sends : (schema : List Table) (n : ℕ) (step : Took) (o : Outcome) → TookSendsWell schema n step → SaysTook step o → list_all (is_request_of schema n) (sent_of o) ≡ true
took-sends schema n took.Laid o sends says = rw says refl
took-sends schema n (took.Applied version marks) o sends says = rw says refl
took-sends schema n (took.Forgot version marks) o sends says = rw says refl
took-sends schema n (took.Answered q version rows marks) o sends says = rw says refl
took-sends schema n (took.Asked request message marks) o sends says =
    let one : is_request_of schema n (kinds.Ask request says.0 says.1) ≡ true = subst (λ m. is_request_of schema n m ≡ true) says.2 sends.request in
    rw says.3 (sends-one schema n (kinds.Ask request says.0 says.1) one)
took-sends schema n (took.Written request version marks) o sends says = rw says refl
took-sends schema n (took.Refused request fault marks) o sends says = rw says refl
took-sends schema n (took.Welcomed version kept marks) o sends says = rw says refl
took-sends schema n (took.Bad why) o sends says = absurd says

pub receive-idles : (old : Seat) (server : Server) → old.to_client ≡ [] → SeatGoes (λ n s. Acts s (DoToClient n)) old server old server (line.ClientEmpty old.client.id ∷ [])
receive-idles old server none = λ s n h.
    seat-stays s n server server old (DoToClient n) _ h refl
    (subst (λ k. Acts s (DoToClient n) (line.ClientEmpty k ∷ []) s) (sym h.seat.number)
    (acts (DoToClient n) (ToClient n) ClientIdle s (is_to_client n) (client_idle n h.pair h.there (sym h.seat.to_client ∙ none))))

-- what a message that comes first does is a step of the rules
pub taken-by-rules : (s : Scene) (n : ℕ) (old : Seat) (server : Server) (m : Message) (queue : List Message) (new : Client) (step : Took) (h : SeatStands s n old server)
    → old.to_client ≡ m ∷ queue → Takes old.client m new step
    → Goes s.database (SaysTook step) (rules.TakeStep (basis_of s.database old.client.store.limits) h.pair.client m) new
taken-by-rules s n old server m queue new step h first takes =
    takes.by_rules s.database h.pair.client h.seat.client (promises-are-true s.database h.pair m queue (pair-stands s n old server h) (sym h.seat.to_client ∙ first))

pub receive-goes : {E : Type 0} (old mid new : Seat) (server : Server) (m : Message) (queue : List Message) (step : Took) (told : Told) (r : Result (List TraceLine) E)
    → old.to_client ≡ m ∷ queue → Takes old.client m mid.client step → Stays old.client mid.client → mid ≡ record old { client = mid.client; to_client = queue }
    → ((o : Outcome) → SaysTook step o → IsToldOf mid.client.id taken_line o told) → TookSendsWell old.client.schema old.client.id step
    → OnOk r (new ≡ record mid { to_server = mid.to_server ++ option_to_list told.sent }) → IfOk r (λ lines. lines ≡ told.lines)
    → IfOk r (SeatGoes (λ n s. Acts s (DoToClient n)) old server new server)
receive-goes {E} old mid new server m queue step told r first takes stays rest tells sends made is =
    goes-ok (λ n s. Acts s (DoToClient n)) old new server server told.lines r (new ≡ record mid { to_server = mid.to_server ++ option_to_list told.sent }) made is goes
  where
    goes : new ≡ record mid { to_server = mid.to_server ++ option_to_list told.sent } → SeatGoes (λ n s. Acts s (DoToClient n)) old server new server told.lines
    goes made s n h =
        let past = h.pair.client in
        let g = taken-by-rules s n old server m queue mid.client step h first takes in
        let well : TookSendsWell s.database.schema n step =
        subst (λ k. TookSendsWell s.database.schema k step) h.seat.number (subst (λ schema. TookSendsWell schema old.client.id step) (sym h.seat.client.schema) sends) in
        sent-leads s n old mid new server (DoToClient n) (ToClient n) (record h.pair.connection { to_client = queue }) told taken_line g.outcome g.next h refl refl stays g.stands
        (rest ∙ ap (λ ms. record old { client = mid.client; to_client = ms }) (sym (ap (λ (x : Seat). x.to_client) rest)))
        (ap (λ (x : Seat). x.to_client) rest) made (tells g.outcome g.is)
        (took-sends s.database.schema n step g.outcome well g.is) (is_to_client n)
        (client_took n h.pair m queue g.outcome g.next h.there (sym h.seat.to_client ∙ first)
        (by-limits (λ b. rules.TakeStep b past m g.outcome g.next) s n old server h g.allowed)) refl

-- what a delivery to a client may still draw
pub record Lighter (old new : Seat) : Type 0 where
  pub all : weight new ≤ weight old
  pub rank : rank new.client.out + length new.to_server ≤ rank old.client.out + length old.to_server

pub receive-lightens : (old mid new : Seat) (m : Message) (queue : List Message) (step : Took) (told : Told) → (server : Server) × IsSomeSeat old server
    → old.to_client ≡ m ∷ queue → Takes old.client m mid.client step → mid ≡ record old { client = mid.client; to_client = queue }
    → ((o : Outcome) → SaysTook step o → IsToldOf mid.client.id taken_line o told)
    → new ≡ record mid { to_server = mid.to_server ++ option_to_list told.sent } → Lighter old new
receive-lightens old mid new m queue step told some first takes rest tells made =
    let server = some.0 in
    let s = some.1.0 in
    let n = some.1.1 in
    let h = some.1.2 in
    let g = taken-by-rules s n old server m queue mid.client step h first takes in
    let few = take-draws (basis_of s.database old.client.store.limits) h.pair.client m g.outcome g.next g.allowed in
    let before = drawn-is s.database h.pair.client old.client h.seat.client in
    let after = drawn-is s.database g.next mid.client g.stands in
    let rank_before = rank-is s.database h.pair.client old.client h.seat.client in
    let rank_after = rank-is s.database g.next mid.client g.stands in
    let t = tells g.outcome g.is in
    let client : new.client ≡ mid.client = ap (λ (x : Seat). x.client) made in
    let drawn_new : drawn_by new ≡ drawn mid.client + mid.client.cuts = ap (λ (c : Client). drawn c + c.cuts) client in
    let rank_new : rank new.client.out ≡ rank mid.client.out = ap (λ (c : Client). rank c.out) client in
    let sent : length new.to_server ≡ length old.to_server + length (sent_of g.outcome) =
    ap (λ (x : Seat). length x.to_server) made
    ∙ (ap (λ (x : Seat). length (x.to_server ++ option_to_list told.sent)) rest
    ∙ (ap (λ ms. length (old.to_server ++ ms)) t.sent ∙ length-append old.to_server (sent_of g.outcome))) in
    let all = few.all in
    let low = few.rank in
    record {
      all = omega (arith, all, before, after, rank_before, rank_after, drawn_new, rank_new, sent);
      rank = omega (arith, low, rank_before, rank_after, rank_new, sent);
    }

-- ---- a write

write-sends : (schema : List Table) (n : ℕ) (sql : List ℕ) (step : WriteStep) (o : Outcome) → WriteSendsWell schema n step → SaysWrite sql step o → list_all (is_request_of schema n) (sent_of o) ≡ true
write-sends schema n sql (writes.Sent request message) o sends says =
    let one : is_request_of schema n (kinds.Write request sql) ≡ true = subst (λ m. is_request_of schema n m ≡ true) says.0 sends.request in
    rw says.1 (sends-one schema n (kinds.Write request sql) one)
write-sends schema n sql (writes.Sql fault) o sends says = absurd says
write-sends schema n sql (writes.Busy request) o sends says = rw says refl
write-sends schema n sql (writes.Down number) o sends says = rw says refl

short-write-goes : {E : Type 0} (old mid new : Seat) (server : Server) (sql : List ℕ) (step : WriteStep) (told : Told) (r : Result (List TraceLine) E) → length sql ≤ most_text
    → Writes old.client sql mid.client step → Stays old.client mid.client → mid ≡ record old { client = mid.client }
    → ((o : Outcome) → SaysWrite sql step o → IsToldOf mid.client.id write_line o told) → WriteSendsWell old.client.schema old.client.id step
    → OnOk r (new ≡ record mid { to_server = mid.to_server ++ option_to_list told.sent }) → IfOk r (λ lines. lines ≡ told.lines)
    → IfOk r (SeatGoes (λ n s. Acts s (DoWrite n sql)) old server new server)
short-write-goes {E} old mid new server sql step told r short does stays rest tells sends made is =
    goes-ok (λ n s. Acts s (DoWrite n sql)) old new server server told.lines r (new ≡ record mid { to_server = mid.to_server ++ option_to_list told.sent }) made is goes
  where
    goes : new ≡ record mid { to_server = mid.to_server ++ option_to_list told.sent } → SeatGoes (λ n s. Acts s (DoWrite n sql)) old server new server told.lines
    goes made s n h =
        let past = h.pair.client in
        let g = does.by_rules s.database past h.seat.client in
        let well : WriteSendsWell s.database.schema n step =
        subst (λ k. WriteSendsWell s.database.schema k step) h.seat.number (subst (λ schema. WriteSendsWell schema old.client.id step) (sym h.seat.client.schema) sends) in
        sent-leads s n old mid new server (DoWrite n sql) (WriteOf n sql) h.pair.connection told write_line g.outcome g.next h refl refl stays g.stands
        (rest ∙ ap (λ ms. record old { client = mid.client; to_client = ms }) (sym (ap (λ (x : Seat). x.to_client) rest)))
        (ap (λ (x : Seat). x.to_client) rest ∙ h.seat.to_client) made (tells g.outcome g.is)
        (write-sends s.database.schema n sql step g.outcome well g.is) (is_write_of n sql short)
        (wrote n sql h.pair g.outcome g.next h.there g.allowed) refl

-- a text that is too long is told, and nothing happens
long-write-goes : {E : Type 0} (old mid new : Seat) (server : Server) (sql : List ℕ) (told : Told) (r : Result (List TraceLine) E) → most_text < length sql
    → mid ≡ old → told ≡ record { lines = line.WriteSql old.client.id long_text ∷ []; sent = None }
    → OnOk r (new ≡ record mid { to_server = mid.to_server ++ option_to_list told.sent }) → IfOk r (λ lines. lines ≡ told.lines)
    → IfOk r (SeatGoes (λ n s. Acts s (DoWrite n sql)) old server new server)
long-write-goes {E} old mid new server sql told (Err e) long same tells made is = tt
long-write-goes {E} old mid new server sql told (Ok lines) long same tells made is = goes
  where
    still : new ≡ old
    still = made ∙ (ap (λ (t : Told). record mid { to_server = mid.to_server ++ option_to_list t.sent }) tells
        ∙ (ap (λ (x : Seat). record x { to_server = x.to_server ++ [] }) same ∙ ap (λ ms. record old { to_server = ms }) (append-nil old.to_server)))

    goes : SeatGoes (λ n s. Acts s (DoWrite n sql)) old server new server lines
    goes s n h =
        subst (λ (x : Seat). SeatLeads (λ s. Acts s (DoWrite n sql)) s n server x server lines) (sym still)
        (seat-stays s n server server old (DoWrite n sql) lines h refl
        (subst (λ ls. Acts s (DoWrite n sql) ls s) (sym (is ∙ (ap (λ (t : Told). t.lines) tells ∙ ap (λ k. line.WriteSql k long_text ∷ []) h.seat.number)))
        (too_long n sql h.pair h.there long)))

-- either way
pub write-goes : {E : Type 0} (old mid new : Seat) (server : Server) (sql : List ℕ) (step : WriteStep) (told : Told) (r : Result (List TraceLine) E)
    → (most_text < length sql → (step ≡ writes.Sql long_text) × (mid.client ≡ old.client)) → (length sql ≤ most_text → Writes old.client sql mid.client step)
    → Stays old.client mid.client → mid ≡ record old { client = mid.client }
    → ((o : Outcome) → SaysWrite sql step o → IsToldOf mid.client.id write_line o told)
    → ((fault : Fault) → step ≡ writes.Sql fault → told ≡ record { lines = line.WriteSql mid.client.id fault ∷ []; sent = None })
    → WriteSendsWell old.client.schema old.client.id step
    → OnOk r (new ≡ record mid { to_server = mid.to_server ++ option_to_list told.sent }) → IfOk r (λ lines. lines ≡ told.lines)
    → IfOk r (SeatGoes (λ n s. Acts s (DoWrite n sql)) old server new server)
write-goes {E} old mid new server sql step told r long does stays rest tells refused sends made is = by (nat_le (length sql) most_text) refl
  where
    by : (b : Bool) → nat_le (length sql) most_text ≡ b → IfOk r (SeatGoes (λ n s. Acts s (DoWrite n sql)) old server new server)
    by true e = let short : length sql ≤ most_text = grind (arith, nat_tests, e) in short-write-goes old mid new server sql step told r short (does short) stays rest tells sends made is
    by false e =
        let over : most_text < length sql = grind (arith, nat_tests, e) in
        long-write-goes old mid new server sql told r over (rest ∙ ap (λ (c : Client). record old { client = c }) (long over).1)
        (refused long_text (long over).0 ∙ ap (λ k. record { lines = line.WriteSql k long_text ∷ []; sent = None }) stays.id) made is

pub write-numbers : (old : Seat) (new : Client) (sql : List ℕ) (step : WriteStep) → (server : Server) × IsSomeSeat old server
    → (most_text < length sql → (step ≡ writes.Sql long_text) × (new ≡ old.client)) → (length sql ≤ most_text → Writes old.client sql new step) → drawn new + new.cuts ≤ drawn_by old + 2
write-numbers old new sql step some long does = by (nat_le (length sql) most_text) refl
  where
    by : (b : Bool) → nat_le (length sql) most_text ≡ b → drawn new + new.cuts ≤ drawn_by old + 2
    by true e =
        let h = some.1.2 in
        let g = (does (grind (arith, nat_tests, e))).by_rules some.1.0.database h.pair.client h.seat.client in
        few-numbers some.1.0.database h.pair.client g.next old.client new h.seat.client g.stands (write-draws sql h.pair.client g.outcome g.next g.allowed)
    by false e = let same : drawn new + new.cuts ≡ drawn_by old = ap (λ (c : Client). drawn c + c.cuts) (long (grind (arith, nat_tests, e))).1 in omega (arith, same)

-- ---- a resume

-- the format has a number for the client and room for its regions
of-format : (s : Scene) (n : ℕ) (old : Seat) (server : Server) → SeatStands s n old server → IsOfFormat old.client
of-format s n old server h = record {
  first = (let id = h.seat.number in let number = h.number.0 in omega (arith, id, number));
  last = (let id = h.seat.number in let number = h.number.1 in omega (arith, id, number));
  regions = subst (λ (l : Limits). l.regions ≤ 1024) (sym h.seat.limits) h.seat.regions;
}

resume-sends : (schema : List Table) (n : ℕ) (past : session.Client) (step : ResumeStep) (o : Outcome) → ResumeSendsWell schema n step → SaysResume past step o → list_all (is_request_of schema n) (sent_of o) ≡ true
resume-sends schema n past (resumes.Sent request message) o sends says = rw says.1 (sends-one schema n message sends.request)
resume-sends schema n past resumes.Up o sends says = rw says refl

pub resume-goes : {E : Type 0} (old mid new : Seat) (server : Server) (step : ResumeStep) (told : Told) (r : Result (List TraceLine) E)
    → Resumes old.client mid.client step → Stays old.client mid.client → mid ≡ record old { client = mid.client }
    → ((past : session.Client) (o : Outcome) → SaysResume past step o → IsToldOf mid.client.id resume_line o told) → (IsOfFormat old.client → ResumeSendsWell old.client.schema old.client.id step)
    → OnOk r (new ≡ record mid { to_server = mid.to_server ++ option_to_list told.sent }) → IfOk r (λ lines. lines ≡ told.lines)
    → IfOk r (SeatGoes (λ n s. Acts s (DoResume n)) old server new server)
resume-goes {E} old mid new server step told r does stays rest tells sends made is =
    goes-ok (λ n s. Acts s (DoResume n)) old new server server told.lines r (new ≡ record mid { to_server = mid.to_server ++ option_to_list told.sent }) made is goes
  where
    goes : new ≡ record mid { to_server = mid.to_server ++ option_to_list told.sent } → SeatGoes (λ n s. Acts s (DoResume n)) old server new server told.lines
    goes made s n h =
        let past = h.pair.client in
        let g = does.by_rules s.database past h.seat.client in
        let well : ResumeSendsWell s.database.schema n step =
        subst (λ k. ResumeSendsWell s.database.schema k step) h.seat.number (subst (λ schema. ResumeSendsWell schema old.client.id step) (sym h.seat.client.schema) (sends (of-format s n old server h))) in
        sent-leads s n old mid new server (DoResume n) (ResumeOf n) h.pair.connection told resume_line g.outcome g.next h refl refl stays g.stands
        (rest ∙ ap (λ ms. record old { client = mid.client; to_client = ms }) (sym (ap (λ (x : Seat). x.to_client) rest)))
        (ap (λ (x : Seat). x.to_client) rest ∙ h.seat.to_client) made (tells past g.outcome g.is)
        (resume-sends s.database.schema n past step g.outcome well g.is) (is_resume n)
        (resumed n h.pair g.outcome g.next h.there g.allowed) refl

pub resume-numbers : (old : Seat) (new : Client) (step : ResumeStep) → (server : Server) × IsSomeSeat old server → Resumes old.client new step → drawn new + new.cuts ≤ drawn_by old + 2
resume-numbers old new step some does =
    let h = some.1.2 in
    let db = some.1.0.database in
    let g = does.by_rules db h.pair.client h.seat.client in
    few-numbers db h.pair.client g.next old.client new h.seat.client g.stands (resume-draws (basis_of db old.client.store.limits) h.pair.client g.outcome g.next g.allowed)

pub same-step : {E : Type 0} (a b : WriteStep) → (let here : Result WriteStep E = Ok a in here) ≡ Ok b → a ≡ b
same-step {E} a b is = cc

-- ---- all that goes out may be sent

pub query-each : (schema : List Table) (n : ℕ) (past : session.Client) (step : QueryStep) (o : Outcome) → QuerySendsWell schema n step → SaysQuery past step o → (m : Message) → sent_of o ≡ m ∷ [] → IsSendable m
query-each schema n past (query.Answered q version rows marks) o sends says = rw says none-sent
query-each schema n past (query.Asked q request message marks) o sends says = λ m is.
    let here : kinds.Ask request says.1 says.2 ∷ [] ≡ m ∷ [] = ap sent_of (sym says.4) ∙ is in
    subst IsSendable (says.3 ∙ only (kinds.Ask request says.1 says.2) m here) sends.sendable
query-each schema n past (query.Busy request) o sends says = rw says none-sent
query-each schema n past (query.Down number) o sends says = rw says none-sent

pub query-sendable : (old : Seat) (mid : Client) (meaning : Query) (step : QueryStep) (sent : Option Message) → (server : Server) × IsSomeSeat old server → Queries old.client meaning mid step
    → ((past : session.Client) (o : Outcome) → SaysQuery past step o → option_to_list sent ≡ sent_of o) → QuerySendsWell old.client.schema old.client.id step → IfSome sent IsSendable
query-sendable old mid meaning step sent some does tells sends =
    let h = some.1.2 in
    let past = h.pair.client in
    let g = does.by_rules some.1.0.database past h.seat.client in
    told-sendable sent g.outcome (tells past g.outcome g.is) (query-each old.client.schema old.client.id past step g.outcome sends g.is)

-- and it is an ask of few parts
pub query-few : (old : Seat) (mid : Client) (meaning : Query) (step : QueryStep) → (server : Server) × IsSomeSeat old server → Queries old.client meaning mid step → QuerySendsWell old.client.schema old.client.id step → QueryAsksFew step
query-few old mid meaning step some does sends =
    let h = some.1.2 in
    let past = h.pair.client in
    let g = does.by_rules some.1.0.database past h.seat.client in
    query-asks-few old.client.schema old.client.id past step g.outcome sends g.is

pub took-each : (schema : List Table) (n : ℕ) (step : Took) (o : Outcome) → TookSendsWell schema n step → SaysTook step o → (m : Message) → sent_of o ≡ m ∷ [] → IsSendable m
took-each schema n took.Laid o sends says = rw says none-sent
took-each schema n (took.Applied version marks) o sends says = rw says none-sent
took-each schema n (took.Forgot version marks) o sends says = rw says none-sent
took-each schema n (took.Answered q version rows marks) o sends says = rw says none-sent
took-each schema n (took.Asked request message marks) o sends says = λ m is.
    let here : kinds.Ask request says.0 says.1 ∷ [] ≡ m ∷ [] = ap sent_of (sym says.3) ∙ is in
    subst IsSendable (says.2 ∙ only (kinds.Ask request says.0 says.1) m here) sends.sendable
took-each schema n (took.Written request version marks) o sends says = rw says none-sent
took-each schema n (took.Refused request fault marks) o sends says = rw says none-sent
took-each schema n (took.Welcomed version kept marks) o sends says = rw says none-sent
took-each schema n (took.Bad why) o sends says = absurd says

pub took-sendable : (old : Seat) (m : Message) (queue : List Message) (new : Client) (step : Took) (sent : Option Message) → (server : Server) × IsSomeSeat old server → old.to_client ≡ m ∷ queue → Takes old.client m new step
    → ((o : Outcome) → SaysTook step o → option_to_list sent ≡ sent_of o) → TookSendsWell old.client.schema old.client.id step → IfSome sent IsSendable
took-sendable old m queue new step sent some first does tells sends =
    let h = some.1.2 in
    let g = taken-by-rules some.1.0 some.1.1 old some.0 m queue new step h first does in
    told-sendable sent g.outcome (tells g.outcome g.is) (took-each old.client.schema old.client.id step g.outcome sends g.is)

-- the message was not refused, and what is sent is an ask of few parts
pub took-few : (old : Seat) (m : Message) (queue : List Message) (new : Client) (step : Took) → (server : Server) × IsSomeSeat old server → old.to_client ≡ m ∷ queue → Takes old.client m new step
    → TookSendsWell old.client.schema old.client.id step → (is_bad step ≡ false) × TookAsksFew step
took-few old m queue new step some first does sends =
    let h = some.1.2 in
    let g = taken-by-rules some.1.0 some.1.1 old some.0 m queue new step h first does in
    (taken-well step g.outcome g.is, took-asks-few old.client.schema old.client.id step g.outcome sends g.is)

-- what a write sends; of a text that is too long nothing is
pub write-each : (schema : List Table) (n : ℕ) (sql : List ℕ) (step : WriteStep) (o : Outcome) → WriteSendsWell schema n step → SaysWrite sql step o → (m : Message) → sent_of o ≡ m ∷ [] → IsSendable m
write-each schema n sql (writes.Sent request message) o sends says = λ m is.
    let here : kinds.Write request sql ∷ [] ≡ m ∷ [] = ap sent_of (sym says.1) ∙ is in
    subst IsSendable (says.0 ∙ only (kinds.Write request sql) m here) sends.sendable
write-each schema n sql (writes.Sql fault) o sends says = absurd says
write-each schema n sql (writes.Busy request) o sends says = rw says none-sent
write-each schema n sql (writes.Down number) o sends says = rw says none-sent

pub write-sendable : (old : Seat) (mid : Client) (sql : List ℕ) (step : WriteStep) (sent : Option Message) → (server : Server) × IsSomeSeat old server
    → (most_text < length sql → (step ≡ writes.Sql long_text) × (mid ≡ old.client)) → (length sql ≤ most_text → Writes old.client sql mid step)
    → ((o : Outcome) → SaysWrite sql step o → option_to_list sent ≡ sent_of o) → ((fault : Fault) → step ≡ writes.Sql fault → sent ≡ None)
    → WriteSendsWell old.client.schema old.client.id step → IfSome sent IsSendable
write-sendable old mid sql step sent some long does tells refused sends = by (nat_le (length sql) most_text) refl
  where
    by : (b : Bool) → nat_le (length sql) most_text ≡ b → IfSome sent IsSendable
    by true e =
        let h = some.1.2 in
        let g = (does (grind (arith, nat_tests, e))).by_rules some.1.0.database h.pair.client h.seat.client in
        told-sendable sent g.outcome (tells g.outcome g.is) (write-each old.client.schema old.client.id sql step g.outcome sends g.is)
    by false e =
        let over : most_text < length sql = grind (arith, nat_tests, e) in
        subst (λ (s : Option Message). IfSome s IsSendable) (sym (refused long_text (long over).0)) tt

pub resume-each : (schema : List Table) (n : ℕ) (past : session.Client) (step : ResumeStep) (o : Outcome) → ResumeSendsWell schema n step → SaysResume past step o → (m : Message) → sent_of o ≡ m ∷ [] → IsSendable m
resume-each schema n past (resumes.Sent request message) o sends says = λ m is.
    let here : message ∷ [] ≡ m ∷ [] = ap sent_of (sym says.1) ∙ is in
    subst IsSendable (only message m here) sends.sendable
resume-each schema n past resumes.Up o sends says = rw says none-sent

pub resume-sendable : (old : Seat) (mid : Client) (step : ResumeStep) (sent : Option Message) → (server : Server) × IsSomeSeat old server → Resumes old.client mid step
    → ((past : session.Client) (o : Outcome) → SaysResume past step o → option_to_list sent ≡ sent_of o) → (IsOfFormat old.client → ResumeSendsWell old.client.schema old.client.id step) → IfSome sent IsSendable
resume-sendable old mid step sent some does tells sends =
    let h = some.1.2 in
    let past = h.pair.client in
    let g = does.by_rules some.1.0.database past h.seat.client in
    told-sendable sent g.outcome (tells past g.outcome g.is) (resume-each old.client.schema old.client.id past step g.outcome (sends (of-format some.1.0 some.1.1 old some.0 h)) g.is)
