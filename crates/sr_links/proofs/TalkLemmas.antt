-- What a client does over a connection is true, where the session is closed before it and never cut off in it.
use Rattle.std.proofs.Common.{◌≡◌, ◌<◌, ◌≤◌, true, false, List, [], ◌∷◌, ◌++◌, length, refl, sym, ◌∙◌, ap, subst, arith, Option, Some, None, append-nil, append_assoc}
use Rattle.std.specs.Prelude.{Result}
use Rattle.std.specs.List.{list_all}
use Rattle.sr_cell.specs.declared.fault.Fault.{Fault}
use Rattle.sr_message.specs.declared.message.Message.{Message}
use Rattle.sr_model.specs.Statements.{Tables}
use Rattle.sr_policy.specs.declared.policy.Limits.{Limits}
use Rattle.sr_query.specs.Bound.{is_table}
use Rattle.sr_session.specs.Clients.{Client, Connection, IsDown, Stands, is_down}
use Rattle.sr_session.specs.Laws.{IsSound}
use Rattle.sr_session.specs.Rules.{Outcome, sends, sent_of, CutStep}
use Rattle.sr_session.specs.Sessions.{Database, newest, tables_of, with_version}
use Rattle.sr_session.specs.Walks.{Request}
use Rattle.sr_session.proofs.NeverLemmas.{never-refused}
use Rattle.sr_session.proofs.ServeLemmas.{stands-version}
use Rattle.sr_session.specs.Bases.{basis_of}
use Rattle.sr_links.specs.Answers.{AsksKeys, FitsIf}
use Rattle.sr_links.specs.Counts.{LaysFew, LayFew}
use Rattle.sr_links.specs.Honest.{Server, Input, Version, Frame, CutOff, Answer, answer, server_after, sent_for, frames_of, has_cut, IsPrefix, Explains, Rests, Talk, IsTalk, steps_in}
use Rattle.sr_links.specs.Steps.{Deed, Queried, Wrote, Evicted, Took, WasCut, Resumed, Does, Standing, Step, ComesIf, ComesTruly, AreFair, AreAwaited, OnOne, taken_by, given_of, requests_of, past_after, code_after}
use Rattle.sr_links.proofs.CountLemmas.{AreShortAnswers}
use Rattle.sr_links.proofs.FewLemmas.{IsFew, first-few, one-of-few, quiet-few, server-few, take-few}
use Rattle.sr_links.proofs.DatabaseLemmas.{Grows, More, grows-still, grows-on, answer-more, after-more, sound-before}
use Rattle.sr_links.proofs.PairLemmas.{pair, at, nothing, IsQuiet, version-keeps, quiet-keeps, take-keeps, cut-keeps, server-keeps, never-idle, opens, is-down}
use Rattle.sr_links.proofs.RuleLemmas.{StaysMute, mute-step}

-- The step went by the rules on the versions up to some moment, and a message that was taken is none that must be refused.
pub record IsLawful {C : Type 0} (limits : Limits) (all : Database) (c : Client) (step : Step C) : Type 0 where
  pub db : Database
  pub sound : IsSound db
  pub grows : Grows db all
  pub before : c.version ≤ newest db
  pub comes : ComesIf db c step.deed
  pub does : Does (basis_of db limits) step.deed c step.outcome step.past
  pub fits : FitsIf db c step.deed
  pub within : step.past.version ≤ newest db

abbrev pub AreLawful : {C : Type 0} → Limits → Database → Client → List (Step C) → Type 0
AreLawful {C} limits all c [] = Unit {0}
AreLawful {C} limits all c (step ∷ steps) = IsLawful limits all c step × AreLawful limits all step.past steps

cons-head : {X : Type 0} (x y : X) (xs ys : List X) → x ∷ xs ≡ y ∷ ys → x ≡ y
cons-head {X} x y xs ys e = cc

cons-tail : {X : Type 0} (x y : X) (xs ys : List X) → x ∷ xs ≡ y ∷ ys → xs ≡ ys
cons-tail {X} x y xs ys e = cc

-- ---- the server goes on until a message comes

module _ (Small : Type 0) (limits : Limits) (c : Client) (out : c.out ≡ None → ⊥) (requests : List Message) (m : Message) (given : List Message) where
  -- The server has gone on, and this message comes first. What is missing of the requests and what is not given is as before.
  pub record Ready (fr gr : List Message) (db : Database) (l : Connection) (inputs : List Input) : Type 0 where
    pub database : Database
    pub line : Connection
    pub left : List Input
    pub queue : List Message
    pub more : More db database
    pub stands : Stands database (pair c line)
    pub few : Small → IsFew c line
    pub short : Small → AreShortAnswers (at database line) left
    pub first : line.to_client ≡ m ∷ queue
    pub uncut : has_cut left ≡ false
    pub frames : IsPrefix (frames_of left) (line.to_server ++ requests)
    pub rest : IsPrefix (m ∷ given) (line.to_client ++ sent_for (at database line) left)
    pub last : server_after (at database line) left ≡ server_after (at db l) inputs
    pub frames_rest : frames.rest ≡ fr
    pub given_rest : rest.rest ≡ gr

  abbrev Advances : List Input → Type 0
  Advances inputs = (db : Database) (l : Connection) (to_client : List Message) → l.to_client ≡ to_client → 0 < length db.versions → Stands db (pair c l) → (Small → IsFew c l) → (Small → AreShortAnswers (at db l) inputs) → has_cut inputs ≡ false
      → (frames : IsPrefix (frames_of inputs) (l.to_server ++ requests)) → (rest : IsPrefix (m ∷ given) (l.to_client ++ sent_for (at db l) inputs)) → Ready frames.rest rest.rest db l inputs

  -- one is there already
  there : (inputs : List Input) (db : Database) (l : Connection) (x : Message) (queue : List Message) → l.to_client ≡ x ∷ queue → 0 < length db.versions → Stands db (pair c l) → (Small → IsFew c l) → (Small → AreShortAnswers (at db l) inputs) → has_cut inputs ≡ false
      → (frames : IsPrefix (frames_of inputs) (l.to_server ++ requests)) → (rest : IsPrefix (m ∷ given) (l.to_client ++ sent_for (at db l) inputs)) → Ready frames.rest rest.rest db l inputs
  there inputs db l x queue is some stands few short uncut frames rest =
      let e : x ∷ (queue ++ sent_for (at db l) inputs) ≡ m ∷ (given ++ rest.rest) = ap (λ q. q ++ sent_for (at db l) inputs) (sym is) ∙ rest.all in
      record {
        database = db;
        line = l;
        left = inputs;
        queue = queue;
        more = record { grows = grows-still db; some = some };
        stands = stands;
        few = few;
        short = short;
        first = is ∙ ap (λ y. y ∷ queue) (cons-head x m (queue ++ sent_for (at db l) inputs) (given ++ rest.rest) e);
        uncut = uncut;
        frames = frames;
        rest = rest;
        last = refl;
        frames_rest = refl;
        given_rest = refl;
      }

  -- after one more input
  after : (fr gr : List Message) (db : Database) (l : Connection) (input : Input) (inputs : List Input) (next : Connection) → 0 < length db.versions
      → at (answer (at db l) input).server.database next ≡ (answer (at db l) input).server
      → Ready fr gr (answer (at db l) input).server.database next inputs → Ready fr gr db l (input ∷ inputs)
  after fr gr db l input inputs next some same r = record {
    database = r.database;
    line = r.line;
    left = r.left;
    queue = r.queue;
    more = record { grows = grows-on db (answer (at db l) input).server.database r.database (answer-more (at db l) input some).grows r.more.grows; some = r.more.some };
    stands = r.stands;
    few = r.few;
    short = r.short;
    first = r.first;
    uncut = r.uncut;
    frames = r.frames;
    rest = r.rest;
    last = r.last ∙ ap (λ s. server_after s inputs) same;
    frames_rest = r.frames_rest;
    given_rest = r.given_rest;
  }

  -- the server takes a frame
  frame : (x : Message) (result : Result Tables Fault) (inputs : List Input) → Advances inputs → (db : Database) (l : Connection) (to_server : List Message) → l.to_server ≡ to_server → l.to_client ≡ []
      → 0 < length db.versions → Stands db (pair c l) → (Small → IsFew c l) → (Small → AreShortAnswers (at db l) (Frame x result ∷ inputs)) → has_cut inputs ≡ false
      → (frames : IsPrefix (x ∷ frames_of inputs) (l.to_server ++ requests)) → (rest : IsPrefix (m ∷ given) (l.to_client ++ sent_for (at db l) (Frame x result ∷ inputs)))
      → Ready frames.rest rest.rest db l (Frame x result ∷ inputs)
  frame x result inputs go db l [] none empty some stands few short uncut frames rest = absurd (never-idle db c l stands out none empty)
  frame x result inputs go db l (y ∷ queue) first empty some stands few short uncut frames rest =
      let a : Answer = answer (at db l) (Frame x result) in
      let e : y ∷ (queue ++ requests) ≡ x ∷ (frames_of inputs ++ frames.rest) = ap (λ q. q ++ requests) (sym first) ∙ frames.all in
      let same : y ≡ x = cons-head y x (queue ++ requests) (frames_of inputs ++ frames.rest) e in
      let next : Connection = record { to_server = queue; to_client = l.to_client ++ a.sent; session = a.server.session } in
      after frames.rest rest.rest db l (Frame x result) inputs next some refl
      (go a.server.database next next.to_client refl (answer-more (at db l) (Frame x result) some).some
      (server-keeps limits db c l some stands x queue result (first ∙ ap (λ z. z ∷ queue) same))
      (λ small. server-few db c l stands (few small) x queue result (first ∙ ap (λ z. z ∷ queue) same) (short small).0) (λ small. (short small).1) uncut
      (record { rest = frames.rest; all = cons-tail y x (queue ++ requests) (frames_of inputs ++ frames.rest) e })
      (record { rest = rest.rest; all = append_assoc l.to_client a.sent (sent_for a.server inputs) ∙ rest.all }))

  pub advance : (inputs : List Input) → Advances inputs
  advance [] db l (x ∷ queue) is some stands few short uncut frames rest = there [] db l x queue is some stands few short uncut frames rest
  advance [] db l [] is some stands few short uncut frames rest = let e : [] ≡ m ∷ (given ++ rest.rest) = ap (λ q. q ++ []) (sym is) ∙ rest.all in absurd (cc)
  advance (input ∷ inputs) db l (x ∷ queue) is some stands few short uncut frames rest = there (input ∷ inputs) db l x queue is some stands few short uncut frames rest
  advance (Version tables ∷ inputs) db l [] is some stands few short uncut frames rest =
      after frames.rest rest.rest db l (Version tables) inputs l some refl
      (advance inputs (with_version db tables) l l.to_client refl (answer-more (at db l) (Version tables) some).some (version-keeps limits db c l some stands tables) few (λ small. (short small).1) uncut frames rest)
  advance (Frame x result ∷ inputs) db l [] is some stands few short uncut frames rest = frame x result inputs (advance inputs) db l l.to_server refl is some stands few short uncut frames rest
  advance (CutOff ∷ inputs) db l [] is some stands few short uncut frames rest = absurd (cc)

-- ---- step by step

module _ {C : Type 0} (Small : Type 0) (IsOf : Standing C) (keys : AsksKeys IsOf) (limits : Limits) (all : Database) (sound : IsSound all) (tables : list_all is_table all.schema ≡ true) where
  -- what is true of the steps, and what is then, where these requests were not taken, and these messages not given
  pub record Ended (fr gr : List Message) (code : C) (c : Client) (steps : List (Step C)) : Type 0 where
    pub lawful : AreLawful limits all c steps
    pub ends : (past_after c steps).cut ≡ true → Rests IsOf all (code_after code steps) (past_after c steps)
    pub free : fr ≡ [] → gr ≡ [] → (past_after c steps).out ≡ None
    pub few : Small → LayFew c steps

  sound-at : (db : Database) → 0 < length db.versions → Grows db all → IsSound db
  sound-at db some grows = sound-before db all some grows sound

  -- the same rows, where versions came
  still-is : (few many : Database) (c : Client) (code : C) → Grows few many → c.version ≤ newest few → IsOf few.schema code c (tables_of few c.version) → IsOf many.schema code c (tables_of many c.version)
  still-is few many c code grows within is =
      subst (λ schema. IsOf schema code c (tables_of many c.version)) (sym grows.schema) (subst (IsOf few.schema code c) (sym (grows.same c.version within)) is)

  rests : (db : Database) (c : Client) (l : Connection) (code : C) → Grows db all → IsDown db c l → IsOf db.schema code c (tables_of db c.version) → Rests IsOf all code c
  rests db c l code grows down is =
      let more = grows.more in
      let within = down.version in
      record { cut = down.down; out = down.out; laid = down.laid; version = omega (arith, more, within); is = still-is db all c code grows down.version is }

  -- what is not taken fits, and comes truly
  quiet-fits : (deed : Deed) → IsQuiet deed → (db : Database) (c : Client) → FitsIf db c deed
  quiet-fits (Queried query) quiet db c = tt
  quiet-fits (Wrote sql) quiet db c = tt
  quiet-fits (Evicted place) quiet db c = tt
  quiet-fits (Took m) quiet db c = absurd quiet
  quiet-fits WasCut quiet db c = absurd quiet
  quiet-fits Resumed quiet db c = tt

  quiet-comes : (deed : Deed) → IsQuiet deed → (db : Database) (c : Client) → ComesIf db c deed
  quiet-comes (Queried query) quiet db c = tt
  quiet-comes (Wrote sql) quiet db c = tt
  quiet-comes (Evicted place) quiet db c = tt
  quiet-comes (Took m) quiet db c = absurd quiet
  quiet-comes WasCut quiet db c = absurd quiet
  quiet-comes Resumed quiet db c = tt

  quiet-lays : (deed : Deed) → IsQuiet deed → (c : Client) → LaysFew deed c
  quiet-lays (Queried query) quiet c = tt
  quiet-lays (Wrote sql) quiet c = tt
  quiet-lays (Evicted place) quiet c = tt
  quiet-lays (Took m) quiet c = absurd quiet
  quiet-lays WasCut quiet c = absurd quiet
  quiet-lays Resumed quiet c = tt

  quiet-takes : (deed : Deed) → IsQuiet deed → taken_by deed ≡ []
  quiet-takes (Queried query) quiet = refl
  quiet-takes (Wrote sql) quiet = refl
  quiet-takes (Evicted place) quiet = refl
  quiet-takes (Took m) quiet = absurd quiet
  quiet-takes WasCut quiet = absurd quiet
  quiet-takes Resumed quiet = refl

  -- ---- nothing comes any more

  abbrev Downs : List (Step C) → Type 0
  Downs steps = (fr gr : List Message) (db : Database) (c : Client) (l : Connection) (code : C) → 0 < length db.versions → Grows db all → IsDown db c l → IsOf db.schema code c (tables_of db c.version)
      → AreFair IsOf limits code c steps → AreAwaited c steps → OnOne c steps → Ended fr gr code c steps

  -- one step, whose new client is down again
  down-by : (deed : Deed) (o : Outcome) (new : Client) (new_code : C) (steps : List (Step C)) → Downs steps
      → ((db : Database) (c : Client) → ComesIf db c deed) → ((db : Database) (c : Client) → FitsIf db c deed) → ((c : Client) → LaysFew deed c)
      → ((db : Database) (c : Client) (l : Connection) → 0 < length db.versions → Stands db (pair c l) → IsDown db c l → Does (basis_of db limits) deed c o new → Stands db (pair new (sends l o)))
      → Downs (record { deed = deed; outcome = o; past = new; code = new_code } ∷ steps)
  down-by deed o new new_code steps go comes fits lays keeps fr gr db c l code some grows down is fair awaited one =
      let sound' : IsSound db = sound-at db some grows in
      let (does, new_is) = fair.0 db sound' down.version is (comes db c) in
      let mute : StaysMute o new = mute-step (basis_of db limits) deed c o new (record { cut = down.down; out = down.out }) awaited.0 one.0 does in
      let after : IsDown db new (sends l o) = is-down db new (sends l o) mute.mute.cut (keeps db c l some (is_down down) down does) in
      let others = go fr gr db new (sends l o) new_code some grows after new_is fair.1 awaited.1 one.1 in
      record { lawful = (record { db = db; sound = sound'; grows = grows; before = down.version; comes = comes db c; does = does; fits = fits db c; within = after.version }, others.lawful); ends = others.ends; free = others.free; few = λ small. (lays c, others.few small) }

  -- a cut of a link that is cut leaves all as it was
  cut-again : (db : Database) (c : Client) (l : Connection) → 0 < length db.versions → Stands db (pair c l) → IsDown db c l → (o : Outcome) (new : Client) → CutStep c o new → Stands db (pair new (sends l o))
  cut-again db c l some stands down o new does = subst (λ line. Stands db (pair new line)) same (cut-keeps limits db c l some stands o new does)
    where
      silent : sent_of o ≡ []
      silent = (mute-step (basis_of db limits) WasCut c o new (record { cut = down.down; out = down.out }) tt tt does).silent

      same : nothing ≡ sends l o
      same =
          ap (λ q. record { to_server = q; to_client = []; session = None }) (sym (ap (λ q. q ++ sent_of o) down.to_server ∙ silent))
          ∙ (ap (λ q. record { to_server = l.to_server ++ sent_of o; to_client = q; session = None }) (sym down.to_client)
          ∙ ap (λ s. record { to_server = l.to_server ++ sent_of o; to_client = l.to_client; session = s }) (sym down.session_is))

  down-quiet : (deed : Deed) (o : Outcome) (new : Client) (new_code : C) (steps : List (Step C)) → IsQuiet deed → Downs steps → Downs (record { deed = deed; outcome = o; past = new; code = new_code } ∷ steps)
  down-quiet deed o new new_code steps quiet go =
      down-by deed o new new_code steps go (quiet-comes deed quiet) (quiet-fits deed quiet) (quiet-lays deed quiet) (λ db c l some stands down does. quiet-keeps limits db c l some stands deed o new quiet does)

  down-step : (deed : Deed) (o : Outcome) (new : Client) (new_code : C) (steps : List (Step C)) → Downs steps → Downs (record { deed = deed; outcome = o; past = new; code = new_code } ∷ steps)
  down-step (Queried query) o new new_code steps go = down-quiet (Queried query) o new new_code steps tt go
  down-step (Wrote sql) o new new_code steps go = down-quiet (Wrote sql) o new new_code steps tt go
  down-step (Evicted place) o new new_code steps go = down-quiet (Evicted place) o new new_code steps tt go
  down-step (Took m) o new new_code steps go = λ fr gr db c l code some grows down is fair awaited one. absurd (awaited.0 down.out)
  down-step WasCut o new new_code steps go = down-by WasCut o new new_code steps go (λ db c. tt) (λ db c. tt) (λ c. tt) (λ db c l some stands down does. cut-again db c l some stands down o new does)
  down-step Resumed o new new_code steps go = down-quiet Resumed o new new_code steps tt go

  down : (steps : List (Step C)) → Downs steps
  down [] fr gr db c l code some grows d is fair awaited one = record { lawful = tt; ends = λ is_cut. rests db c l code grows d is; free = λ no_frame no_message. d.out; few = λ small. tt }
  down (step ∷ steps) fr gr db c l code some grows d is fair awaited one =
      down-step step.deed step.outcome step.past step.code steps (down steps) fr gr db c l code some grows d is fair awaited one

  -- where all is taken and given, nothing is out
  drains : (inputs : List Input) (db : Database) (c : Client) (l : Connection) → 0 < length db.versions → Stands db (pair c l) → has_cut inputs ≡ false → frames_of inputs ≡ l.to_server
      → l.to_client ++ sent_for (at db l) inputs ≡ [] → c.out ≡ None
  drains [] db c l some stands uncut frames given = by c.out refl
    where
      by : (out : Option Request) → c.out ≡ out → c.out ≡ None
      by None is = is
      by (Some request) is = absurd (never-idle db c l stands (λ none. let e : Some request ≡ None = sym is ∙ none in cc) (sym frames) (sym (append-nil l.to_client) ∙ given))
  drains (Version tables ∷ inputs) db c l some stands uncut frames given =
      drains inputs (with_version db tables) c l (answer-more (at db l) (Version tables) some).some (version-keeps limits db c l some stands tables) uncut frames given
  drains (CutOff ∷ inputs) db c l some stands uncut frames given = absurd (cc)
  drains (Frame x result ∷ inputs) db c l some stands uncut frames given =
      let a : Answer = answer (at db l) (Frame x result) in
      drains inputs a.server.database c (record { to_server = frames_of inputs; to_client = l.to_client ++ a.sent; session = a.server.session }) (answer-more (at db l) (Frame x result) some).some
      (server-keeps limits db c l some stands x (frames_of inputs) result (sym frames)) uncut refl (append_assoc l.to_client a.sent (sent_for a.server inputs) ∙ given)

  -- ---- the link is up

  abbrev Goes : List (Step C) → Type 0
  Goes steps = (fr gr : List Message) (db : Database) (c : Client) (l : Connection) (code : C) (inputs : List Input) → 0 < length db.versions → Stands db (pair c l) → (Small → IsFew c l) → (Small → AreShortAnswers (at db l) inputs)
      → IsOf db.schema code c (tables_of db c.version) → has_cut inputs ≡ false
      → AreFair IsOf limits code c steps → AreAwaited c steps → OnOne c steps
      → (frames : IsPrefix (frames_of inputs) (l.to_server ++ requests_of steps)) → (given : IsPrefix (given_of steps) (l.to_client ++ sent_for (at db l) inputs))
      → (server_after (at db l) inputs).database ≡ all → frames.rest ≡ fr → given.rest ≡ gr → Ended fr gr code c steps

  grows-to : (db : Database) (l : Connection) (inputs : List Input) → 0 < length db.versions → (server_after (at db l) inputs).database ≡ all → Grows db all
  grows-to db l inputs some last = subst (Grows db) last (after-more (at db l) inputs some).grows

  -- one step in which no message comes
  act : (deed : Deed) (o : Outcome) (new : Client) (new_code : C) (steps : List (Step C)) → Goes steps → IsQuiet deed
      → (fr gr : List Message) (db : Database) (c : Client) (l : Connection) (code : C) (inputs : List Input) → 0 < length db.versions → Stands db (pair c l) → (Small → IsFew c l) → (Small → AreShortAnswers (at db l) inputs)
      → IsOf db.schema code c (tables_of db c.version) → has_cut inputs ≡ false
      → AreFair IsOf limits code c (record { deed = deed; outcome = o; past = new; code = new_code } ∷ steps) → AreAwaited c (record { deed = deed; outcome = o; past = new; code = new_code } ∷ steps) → OnOne new steps
      → (frames : IsPrefix (frames_of inputs) (l.to_server ++ (sent_of o ++ requests_of steps))) → (given : IsPrefix (taken_by deed ++ given_of steps) (l.to_client ++ sent_for (at db l) inputs))
      → (server_after (at db l) inputs).database ≡ all → frames.rest ≡ fr → given.rest ≡ gr → Ended fr gr code c (record { deed = deed; outcome = o; past = new; code = new_code } ∷ steps)
  act deed o new new_code steps go quiet fr gr db c l code inputs some stands few short is uncut fair awaited one frames given last frames_is given_is =
      let grows : Grows db all = grows-to db l inputs some last in
      let sound' : IsSound db = sound-at db some grows in
      let before = stands-version db (pair c l) stands in
      let (does, new_is) = fair.0 db sound' before is (quiet-comes deed quiet db c) in
      let after : Stands db (pair new (sends l o)) = quiet-keeps limits db c l some stands deed o new quiet does in
      let others = go fr gr db new (sends l o) new_code inputs some after (λ small. quiet-few db c l stands (few small) (basis_of db limits) deed o new quiet does) short new_is uncut fair.1 awaited.1 one
      (record { rest = frames.rest; all = append_assoc l.to_server (sent_of o) (requests_of steps) ∙ frames.all })
      (record { rest = given.rest; all = given.all ∙ ap (λ t. (t ++ given_of steps) ++ given.rest) (quiet-takes deed quiet) }) last frames_is given_is in
      record {
        lawful = (
          record { db = db; sound = sound'; grows = grows; before = before; comes = quiet-comes deed quiet db c; does = does; fits = quiet-fits deed quiet db c; within = stands-version db (pair new (sends l o)) after },
          others.lawful,
        );
        ends = others.ends;
        free = others.free;
        few = λ small. (quiet-lays deed quiet c, others.few small);
      }

  -- a message comes
  take : (m : Message) (o : Outcome) (new : Client) (new_code : C) (steps : List (Step C)) → Goes steps → Goes (record { deed = Took m; outcome = o; past = new; code = new_code } ∷ steps)
  take m o new new_code steps go fr gr db c l code inputs some stands few short is uncut fair awaited one frames given last frames_is given_is =
      let r : Ready Small limits c awaited.0 (sent_of o ++ requests_of steps) m (given_of steps) frames.rest given.rest db l inputs =
      advance Small limits c awaited.0 (sent_of o ++ requests_of steps) m (given_of steps) inputs db l l.to_client refl some stands few short uncut frames given in
      let last' : (server_after (at r.database r.line) r.left).database ≡ all = ap (λ s. s.database) r.last ∙ last in
      let grows : Grows r.database all = grows-to r.database r.line r.left r.more.some last' in
      let sound' : IsSound r.database = sound-at r.database r.more.some grows in
      let open-now = opens r.database c r.line m r.queue r.stands r.first in
      let is' : IsOf r.database.schema code c (tables_of r.database c.version) = still-is db r.database c code r.more.grows (stands-version db (pair c l) stands) is in
      let before = stands-version r.database (pair c r.line) r.stands in
      let come : ComesTruly r.database c m = record { connection = r.line; session = open-now.session; queue = r.queue; is_open = open-now.stands; first = r.first } in
      let (does, new_is) = fair.0 r.database sound' before is' come in
      let next : Connection = sends (record r.line { to_client = r.queue }) o in
      let after : Stands r.database (pair new next) = take-keeps limits r.database c r.line r.more.some r.stands m r.queue o new r.first does in
      let e : m ∷ (r.queue ++ sent_for (at r.database r.line) r.left) ≡ m ∷ (given_of steps ++ r.rest.rest) = ap (λ q. q ++ sent_for (at r.database r.line) r.left) (sym r.first) ∙ r.rest.all in
      let others = go fr gr r.database new next new_code r.left r.more.some after
      (λ small. take-few r.database c r.line r.stands (r.few small) m r.queue r.first awaited.0 (basis_of r.database limits) o new does) r.short new_is r.uncut fair.1 awaited.1 one.1
      (record { rest = r.frames.rest; all = append_assoc r.line.to_server (sent_of o) (requests_of steps) ∙ r.frames.all })
      (record { rest = r.rest.rest; all = cons-tail m m (r.queue ++ sent_for (at r.database r.line) r.left) (given_of steps ++ r.rest.rest) e }) last' (r.frames_rest ∙ frames_is) (r.given_rest ∙ given_is) in
      let are : list_all is_table r.database.schema ≡ true = subst (λ schema. list_all is_table schema ≡ true) grows.schema tables in
      record {
        lawful = (
          record {
            db = r.database;
            sound = sound';
            grows = grows;
            before = before;
            comes = come;
            does = does;
            fits = never-refused r.database c r.line open-now.session m r.queue sound' are (keys r.database.schema code c (tables_of r.database c.version) is') open-now.stands r.first;
            within = stands-version r.database (pair new next) after;
          },
          others.lawful,
        );
        ends = others.ends;
        free = others.free;
        few = λ small. (one-of-few r.database c r.line r.stands (r.few small) m r.queue r.first awaited.0, others.few small);
      }

  -- the client is cut
  cuts-off : (o : Outcome) (new : Client) (new_code : C) (steps : List (Step C)) → Goes (record { deed = WasCut; outcome = o; past = new; code = new_code } ∷ steps)
  cuts-off o new new_code steps fr gr db c l code inputs some stands few short is uncut fair awaited one frames given last frames_is given_is =
      let grows : Grows db all = grows-to db l inputs some last in
      let sound' : IsSound db = sound-at db some grows in
      let before = stands-version db (pair c l) stands in
      let (does, new_is) = fair.0 db sound' before is tt in
      let after : Stands db (pair new nothing) = cut-keeps limits db c l some stands o new does in
      let d : IsDown db new nothing = is-down db new nothing (is-cut c o new does) after in
      let others = down steps fr gr db new nothing new_code some grows d new_is fair.1 awaited.1 one.1 in
      record { lawful = (record { db = db; sound = sound'; grows = grows; before = before; comes = tt; does = does; fits = tt; within = d.version }, others.lawful); ends = others.ends; free = others.free; few = λ small. (tt, others.few small) }
    where
      is-cut : (c : Client) (o : Outcome) (new : Client) → CutStep c o new → new.cut ≡ true
      is-cut c o new (Rattle.sr_session.specs.Rules.already_cut cut) = cut
      is-cut c o new (Rattle.sr_session.specs.Rules.cuts up) = refl

  go-step : (deed : Deed) (o : Outcome) (new : Client) (new_code : C) (steps : List (Step C)) → Goes steps → Goes (record { deed = deed; outcome = o; past = new; code = new_code } ∷ steps)
  go-step (Queried query) o new new_code steps go = λ fr gr db c l code inputs some stands few short is uncut fair awaited one.
      act (Queried query) o new new_code steps go tt fr gr db c l code inputs some stands few short is uncut fair awaited one.1
  go-step (Wrote sql) o new new_code steps go = λ fr gr db c l code inputs some stands few short is uncut fair awaited one.
      act (Wrote sql) o new new_code steps go tt fr gr db c l code inputs some stands few short is uncut fair awaited one.1
  go-step (Evicted place) o new new_code steps go = λ fr gr db c l code inputs some stands few short is uncut fair awaited one.
      act (Evicted place) o new new_code steps go tt fr gr db c l code inputs some stands few short is uncut fair awaited one.1
  go-step (Took m) o new new_code steps go = take m o new new_code steps go
  go-step WasCut o new new_code steps go = cuts-off o new new_code steps
  go-step Resumed o new new_code steps go = λ fr gr db c l code inputs some stands few short is uncut fair awaited one.
      act Resumed o new new_code steps go tt fr gr db c l code inputs some stands few short is uncut fair awaited one.1

  go : (steps : List (Step C)) → Goes steps
  go [] fr gr db c l code inputs some stands few short is uncut fair awaited one frames given last frames_is given_is = record {
    lawful = tt;
    ends = λ cut. rests db c l code (grows-to db l inputs some last) (is-down db c l cut stands) is;
    free = λ no_frame no_message. drains inputs db c l some stands uncut
        (sym (append-nil (frames_of inputs)) ∙ sym (ap (λ r. frames_of inputs ++ r) (frames_is ∙ no_frame)) ∙ sym frames.all ∙ append-nil l.to_server)
        (given.all ∙ given_is ∙ no_message);
    few = λ small. tt;
  }
  go (step ∷ steps) fr gr db c l code inputs some stands few short is uncut fair awaited one frames given last frames_is given_is =
      go-step step.deed step.outcome step.past step.code steps (go steps) fr gr db c l code inputs some stands few short is uncut fair awaited one frames given last frames_is given_is

  -- the first step: the client resumes
  begin : (deed : Deed) (o : Outcome) (new : Client) (new_code : C) (steps : List (Step C)) → deed ≡ Resumed → (s : Server) (code : C) (c : Client) (inputs : List Input) → s.session ≡ None
      → has_cut inputs ≡ false → 0 < length s.database.versions → (Small → AreShortAnswers s inputs)
      → Rests IsOf s.database code c → OnOne new steps → AreFair IsOf limits code c (record { deed = deed; outcome = o; past = new; code = new_code } ∷ steps)
      → AreAwaited c (record { deed = deed; outcome = o; past = new; code = new_code } ∷ steps)
      → (explains : Explains s inputs (record { deed = deed; outcome = o; past = new; code = new_code } ∷ steps)) → (server_after s inputs).database ≡ all
      → Ended explains.frames.rest explains.given.rest code c (record { deed = deed; outcome = o; past = new; code = new_code } ∷ steps)
  begin (Queried query) o new new_code steps is s code c inputs closed uncut some short rest one fair awaited explains last = absurd (cc)
  begin (Wrote sql) o new new_code steps is s code c inputs closed uncut some short rest one fair awaited explains last = absurd (cc)
  begin (Evicted place) o new new_code steps is s code c inputs closed uncut some short rest one fair awaited explains last = absurd (cc)
  begin (Took m) o new new_code steps is s code c inputs closed uncut some short rest one fair awaited explains last = absurd (cc)
  begin WasCut o new new_code steps is s code c inputs closed uncut some short rest one fair awaited explains last = absurd (cc)
  begin Resumed o new new_code steps is s code c inputs closed uncut some short rest one fair awaited explains last =
      let l : Connection = record { to_server = []; to_client = []; session = s.session } in
      let stands : Stands s.database (pair c l) =
      is_down (record { down = rest.cut; out = rest.out; laid = rest.laid; to_server = refl; to_client = refl; session_is = closed; version = rest.version }) in
      act Resumed o new new_code steps (go steps) tt explains.frames.rest explains.given.rest s.database c l code inputs some stands (λ small. first-few c l rest.laid refl refl) short rest.is uncut fair awaited one explains.frames explains.given last refl refl

-- over one connection, and what is then
pub one-connection : {C : Type 0} (Small : Type 0) (IsOf : Standing C) (keys : AsksKeys IsOf) (limits : Limits) (s : Server) (code : C) (c : Client) (talk : Talk C) (inputs : List Input)
    (sound : IsSound (server_after s inputs).database) (tables : list_all is_table (server_after s inputs).database.schema ≡ true)
    → s.session ≡ None → has_cut inputs ≡ false → 0 < length s.database.versions → (Small → AreShortAnswers s inputs) → Rests IsOf s.database code c → IsTalk IsOf limits code c talk → (explains : Explains s inputs (steps_in talk))
    → Ended Small IsOf keys limits (server_after s inputs).database sound tables explains.frames.rest explains.given.rest code c (steps_in talk)
one-connection {C} Small IsOf keys limits s code c talk inputs sound tables closed uncut some short rest is explains =
    begin Small IsOf keys limits (server_after s inputs).database sound tables talk.first.deed talk.first.outcome talk.first.past talk.first.code talk.others is.begins s code c inputs closed uncut some short rest
    is.on_one is.fair is.awaited explains refl
