-- Wherever the session is closed in a list, what it sends is what a list sends that begins without a session and is never cut off.
use Rattle.std.proofs.Common.{◌≡◌, ℕ, zero, suc, ◌+◌, ◌-◌, ◌<◌, ◌≤◌, Bool, true, false, List, [], ◌∷◌, ◌++◌, length, map, refl, sym, ◌∙◌, ap, subst, inl, inr, Option, Some, None, append_assoc}
use Rattle.std.specs.Prelude.{◌⊎◌, Result, Ok, Err}
use Rattle.std.specs.List.{list_all}
use Rattle.sr_cell.specs.declared.fault.Fault.{Fault}
use Rattle.sr_cell.specs.Cells.{Row}
use Rattle.sr_message.specs.declared.message.AskPart.{AskPart}
use Rattle.sr_message.specs.declared.message.Holding.{Holding}
use Rattle.sr_message.specs.declared.message.Message.{Message}
use Rattle.sr_message.specs.declared.message.Message.TheVariants.{Hello, Resume, Ask, Write, Welcome, Notice, Rows, Reply, Written, Refused, Lapse}
use Rattle.sr_message.specs.declared.message.Tell.{Tell}
use Rattle.sr_model.specs.Statements.{Tables}
use Rattle.sr_policy.specs.declared.policy.Limits.{Limits}
use Rattle.sr_query.specs.Bound.{is_table}
use Rattle.sr_session.specs.Clients.{Client, IsResumeMessage}
use Rattle.sr_session.specs.Laws.{IsSound}
use Rattle.sr_session.specs.Rules.{Basis, Outcome, sent_of, ResumeStep, already_up, resumes}
use Rattle.sr_session.specs.Scenes.{taken}
use Rattle.sr_session.specs.Sessions.{Database, Session, newest, tables_of, with_version, notice, notices, told_at, due, due_if, is_lost, row_messages, pieces, asked_rows, reply_messages}
use Rattle.sr_links.specs.Answers.{AsksKeys}
use Rattle.sr_links.specs.Counts.{AreShortAsks, AskFew, HasFewRows, LayFew}
use Rattle.sr_links.specs.Honest.{Server, Input, Version, Frame, CutOff, Answer, answer, silent, cut_off, server_after, server_at_last, sent_for, frame_of, frames_of, has_cut, IsPrefix, Explains, Rests, Talk, IsTalk, AreTalks, IsHonest, IsClosedBehind, AreClosedBehind, steps_in, steps_of}
use Rattle.sr_links.specs.Steps.{Deed, Queried, Wrote, Evicted, Took, WasCut, Resumed, Does, Standing, Step, AreRuled, AreAwaited, OnOne, taken_by, given_of, requests_of, past_after, code_after}
use Rattle.sr_links.proofs.CountLemmas.{AreShortAnswers, after-log, asks-front, few-back, few-front, lay-append, requests-short, short-answers}
use Rattle.sr_links.proofs.DatabaseLemmas.{More, Grows, grows-on, after-more, last-more, sound-before}
use Rattle.sr_links.proofs.RuleLemmas.{IsGreeting, IsOther, AreOthers, AreNoWelcome, plain, IsMute, StaysMute, mute-step, IsResumed, StaysUnheard, HeardIf, unheard-step}
use Rattle.sr_links.proofs.TalkLemmas.{AreLawful, Ended, one-connection}

-- ---- kinds of messages

others-front : (xs ys : List Message) → AreOthers (xs ++ ys) → AreOthers xs
others-front [] ys h = tt
others-front (x ∷ xs) ys (one, more) = (one, others-front xs ys more)

others-append : (xs ys : List Message) → AreOthers xs → AreOthers ys → AreOthers (xs ++ ys)
others-append [] ys a b = b
others-append (x ∷ xs) ys (one, more) b = (one, others-append xs ys more b)

welcome-front : (xs ys : List Message) → AreNoWelcome (xs ++ ys) → AreNoWelcome xs
welcome-front [] ys h = tt
welcome-front (x ∷ xs) ys (one, more) = (one, welcome-front xs ys more)

welcome-back : (xs ys : List Message) → AreNoWelcome (xs ++ ys) → AreNoWelcome ys
welcome-back [] ys h = h
welcome-back (x ∷ xs) ys (one, more) = welcome-back xs ys more

welcome-append : (xs ys : List Message) → AreNoWelcome xs → AreNoWelcome ys → AreNoWelcome (xs ++ ys)
welcome-append [] ys a b = b
welcome-append (x ∷ xs) ys (one, more) b = (one, welcome-append xs ys more b)

-- ---- steps by the rules, but for a last one

-- the last step, of which only this is known: it takes a message, and sends nothing
pub record IsLastTaking {C : Type 0} (step : Step C) (behind : List (Step C)) : Type 0 where
  pub message : Message
  pub took : step.deed ≡ Took message
  pub silent : sent_of step.outcome ≡ []
  pub last : behind ≡ []

-- Each step goes by the client's rules, but for the last one, which may be of that kind.
abbrev pub AreNearlyRuled : {C : Type 0} → Client → List (Step C) → Type 0
AreNearlyRuled {C} c [] = Unit {0}
AreNearlyRuled {C} c (step ∷ steps) = (((b : Basis) × Does b step.deed c step.outcome step.past) ⊎ IsLastTaking step steps) × AreNearlyRuled step.past steps

pub nearly-ruled : {C : Type 0} (c : Client) (steps : List (Step C)) → AreRuled c steps → AreNearlyRuled c steps
nearly-ruled {C} c [] ruled = tt
nearly-ruled {C} c (step ∷ steps) (one, others) = (inl one, nearly-ruled step.past steps others)

pub nearly-taking : {C : Type 0} (c : Client) (steps : List (Step C)) (last : Step C) (m : Message) → AreRuled c steps → last.deed ≡ Took m → sent_of last.outcome ≡ [] → AreNearlyRuled c (steps ++ last ∷ [])
nearly-taking {C} c [] last m ruled took silent = (inr (record { message = m; took = took; silent = silent; last = refl }), tt)
nearly-taking {C} c (step ∷ steps) last m (one, others) took silent = (inl one, nearly-taking step.past steps last m others took silent)

nothing-before : {X : Type 0} (xs ys : List X) → xs ++ ys ≡ [] → xs ≡ []
nothing-before {X} [] ys e = refl
nothing-before {X} (x ∷ xs) ys e = absurd (cc)

ruled-front : {C : Type 0} (c : Client) (steps more : List (Step C)) → AreNearlyRuled c (steps ++ more) → AreNearlyRuled c steps
ruled-front {C} c [] more ruled = tt
ruled-front {C} c (step ∷ steps) more (inl one, others) = (inl one, ruled-front step.past steps more others)
ruled-front {C} c (step ∷ steps) more (inr one, others) =
    (inr (record { message = one.message; took = one.took; silent = one.silent; last = nothing-before steps more one.last }), ruled-front step.past steps more others)

ruled-back : {C : Type 0} (c : Client) (steps more : List (Step C)) → AreNearlyRuled c (steps ++ more) → AreNearlyRuled (past_after c steps) more
ruled-back {C} c [] more ruled = ruled
ruled-back {C} c (step ∷ steps) more (one, others) = ruled-back step.past steps more others

-- ---- what is sent on a connection

requests-others : {C : Type 0} (c : Client) (steps : List (Step C)) → AreNearlyRuled c steps → OnOne c steps → AreOthers (requests_of steps)
requests-others {C} c [] ruled one = tt
requests-others {C} c (step ∷ steps) (inl (b, does), ruled) one =
    others-append (sent_of step.outcome) (requests_of steps) (plain b step.deed c step.outcome step.past one.0 does) (requests-others step.past steps ruled one.1)
requests-others {C} c (step ∷ steps) (inr last, ruled) one =
    others-append (sent_of step.outcome) (requests_of steps) (subst AreOthers (sym last.silent) tt) (requests-others step.past steps ruled one.1)

heard-if : (deed : Deed) → AreNoWelcome (taken_by deed) → HeardIf deed
heard-if (Queried query) h = tt
heard-if (Wrote sql) h = tt
heard-if (Evicted place) h = tt
heard-if (Took m) h = h.0
heard-if WasCut h = tt
heard-if Resumed h = tt

-- a client that is not welcomed asks nothing
unheard-asks : {C : Type 0} (steps : List (Step C)) (c : Client) → IsResumed c ⊎ IsMute c → AreNoWelcome (given_of steps) → AreNearlyRuled c steps → AreAwaited c steps → OnOne c steps → requests_of steps ≡ []
unheard-asks {C} [] c is given ruled awaited one = refl
unheard-asks {C} (step ∷ steps) c (inl is) given (inl (b, does), ruled) awaited one =
    let s : StaysUnheard step.outcome step.past = unheard-step b step.deed c step.outcome step.past is (heard-if step.deed (welcome-front (taken_by step.deed) (given_of steps) given)) one.0 does in
    ap (λ x. x ++ requests_of steps) s.silent ∙ unheard-asks steps step.past s.then_is (welcome-back (taken_by step.deed) (given_of steps) given) ruled awaited.1 one.1
unheard-asks {C} (step ∷ steps) c (inr is) given (inl (b, does), ruled) awaited one =
    let s : StaysMute step.outcome step.past = mute-step b step.deed c step.outcome step.past is awaited.0 one.0 does in
    ap (λ x. x ++ requests_of steps) s.silent ∙ unheard-asks steps step.past (inr s.mute) (welcome-back (taken_by step.deed) (given_of steps) given) ruled awaited.1 one.1
unheard-asks {C} (step ∷ steps) c is given (inr last, ruled) awaited one = ap (λ x. x ++ requests_of steps) last.silent ∙ ap requests_of last.last

-- ---- what answers requests that are no greetings is no welcome

notice-no-welcome : (v : ℕ) (told : List Tell) → AreNoWelcome (notice v told)
notice-no-welcome v [] = tt
notice-no-welcome v (tell ∷ told) = (tt, tt)

notices-no-welcome : (db : Database) (subs : List Holding) (v n : ℕ) → AreNoWelcome (notices db subs v n)
notices-no-welcome db subs v zero = tt
notices-no-welcome db subs v (suc n) =
    welcome-append (notice (v + 1) (told_at db subs (v + 1))) (notices db subs (v + 1) n) (notice-no-welcome (v + 1) (told_at db subs (v + 1))) (notices-no-welcome db subs (v + 1) n)

due-no-welcome : (lost : Bool) (db : Database) (session : Session) → AreNoWelcome (due_if lost db session).sent
due-no-welcome true db session = (tt, tt)
due-no-welcome false db session = notices-no-welcome db session.subscription session.upto (newest db - session.upto)

pieces-no-welcome : (number i : ℕ) (ps : List (List Row)) → AreNoWelcome (map (Rows number i) ps)
pieces-no-welcome number i [] = tt
pieces-no-welcome number i (p ∷ ps) = (tt, pieces-no-welcome number i ps)

rows-no-welcome : (tables : Tables) (number i : ℕ) (parts : List AskPart) → AreNoWelcome (row_messages tables number i parts)
rows-no-welcome tables number i [] = tt
rows-no-welcome tables number i (ask ∷ asks) =
    welcome-append (map (Rows number i) (pieces (length (asked_rows tables ask)) (asked_rows tables ask))) (row_messages tables number (i + 1) asks)
    (pieces-no-welcome number i (pieces (length (asked_rows tables ask)) (asked_rows tables ask))) (rows-no-welcome tables number (i + 1) asks)

reply-no-welcome : (db : Database) (number : ℕ) (parts : List AskPart) → AreNoWelcome (reply_messages db number parts)
reply-no-welcome db number parts =
    welcome-append (row_messages (tables_of db (newest db)) number 0 parts) (Reply number (newest db) ∷ []) (rows-no-welcome (tables_of db (newest db)) number 0 parts) (tt, tt)

ask-no-welcome : (db : Database) (session : Session) (number : ℕ) (fresh : Bool) (parts : List AskPart) (result : Result Tables Fault) → AreNoWelcome (taken db (Some session) (Ask number fresh parts) result).served.sent
ask-no-welcome db session number true parts result = reply-no-welcome db number parts
ask-no-welcome db session number false parts result = welcome-append (due db session).sent (reply_messages db number parts) (due-no-welcome (is_lost db session) db session) (reply-no-welcome db number parts)

frame-no-welcome : (db : Database) (session : Option Session) (m : Message) (result : Result Tables Fault) → IsOther m → AreNoWelcome (taken db session m result).served.sent
frame-no-welcome db session (Hello wire client number) result other = absurd other
frame-no-welcome db session (Resume wire client number version holdings) result other = absurd other
frame-no-welcome db None (Ask number fresh parts) result other = tt
frame-no-welcome db (Some session) (Ask number fresh parts) result other = ask-no-welcome db session number fresh parts result
frame-no-welcome db None (Write number sql) result other = tt
frame-no-welcome db (Some session) (Write number sql) (Ok tables) other =
    let now : Database = with_version db tables in welcome-append (due now session).sent (Written number (newest now) ∷ []) (due-no-welcome (is_lost now session) now session) (tt, tt)
frame-no-welcome db (Some session) (Write number sql) (Err fault) other = (tt, tt)
frame-no-welcome db None (Welcome k w kept) result other = tt
frame-no-welcome db (Some session) (Welcome k w kept) result other = tt
frame-no-welcome db None (Notice w told) result other = tt
frame-no-welcome db (Some session) (Notice w told) result other = tt
frame-no-welcome db None (Rows k part rows) result other = tt
frame-no-welcome db (Some session) (Rows k part rows) result other = tt
frame-no-welcome db None (Reply k w) result other = tt
frame-no-welcome db (Some session) (Reply k w) result other = tt
frame-no-welcome db None (Written k w) result other = tt
frame-no-welcome db (Some session) (Written k w) result other = tt
frame-no-welcome db None (Refused k fault) result other = tt
frame-no-welcome db (Some session) (Refused k fault) result other = tt
frame-no-welcome db None (Lapse w) result other = tt
frame-no-welcome db (Some session) (Lapse w) result other = tt

sent-no-welcome : (s : Server) (inputs : List Input) → AreOthers (frames_of inputs) → AreNoWelcome (sent_for s inputs)
sent-no-welcome s [] others = tt
sent-no-welcome s (Version tables ∷ inputs) others = sent-no-welcome (answer s (Version tables)).server inputs others
sent-no-welcome s (Frame m result ∷ inputs) (one, others) =
    welcome-append (answer s (Frame m result)).sent (sent_for (answer s (Frame m result)).server inputs) (frame-no-welcome s.database s.session m result one)
    (sent-no-welcome (answer s (Frame m result)).server inputs others)
sent-no-welcome s (CutOff ∷ inputs) others = sent-no-welcome (cut_off s) inputs others

-- ---- mending

abbrev on : Database → Option Session → Server
on db session = record { database = db; session = session }

-- a frame that finds no session, and is no greeting, is not answered
frame-mute : (db : Database) (m : Message) (result : Result Tables Fault) → IsOther m → answer (on db None) (Frame m result) ≡ silent (on db None)
frame-mute db (Ask number fresh parts) result other = refl
frame-mute db (Write number sql) result other = refl
frame-mute db (Welcome k w kept) result other = refl
frame-mute db (Notice w told) result other = refl
frame-mute db (Rows k part rows) result other = refl
frame-mute db (Reply k w) result other = refl
frame-mute db (Written k w) result other = refl
frame-mute db (Refused k fault) result other = refl
frame-mute db (Lapse w) result other = refl
frame-mute db (Hello wire client number) result other = absurd other
frame-mute db (Resume wire client number version holdings) result other = absurd other

-- a greeting that finds a session is not answered
greeting-refused : (db : Database) (old : Session) (m : Message) (result : Result Tables Fault) → IsGreeting m → answer (on db (Some old)) (Frame m result) ≡ silent (on db (Some old))
greeting-refused db old (Hello wire client number) result is = refl
greeting-refused db old (Resume wire client number version holdings) result is = refl
greeting-refused db old (Ask number fresh parts) result is = absurd is
greeting-refused db old (Write number sql) result is = absurd is
greeting-refused db old (Welcome k w kept) result is = absurd is
greeting-refused db old (Notice w told) result is = absurd is
greeting-refused db old (Rows k part rows) result is = absurd is
greeting-refused db old (Reply k w) result is = absurd is
greeting-refused db old (Written k w) result is = absurd is
greeting-refused db old (Refused k fault) result is = absurd is
greeting-refused db old (Lapse w) result is = absurd is

-- versions alone
abbrev mend-mute : List Input → List Input
mend-mute [] = []
mend-mute (Version tables ∷ inputs) = Version tables ∷ mend-mute inputs
mend-mute (Frame m result ∷ inputs) = mend-mute inputs
mend-mute (CutOff ∷ inputs) = mend-mute inputs

-- all up to a cut
abbrev mend-on : List Input → List Input
mend-on [] = []
mend-on (Version tables ∷ inputs) = Version tables ∷ mend-on inputs
mend-on (Frame m result ∷ inputs) = Frame m result ∷ mend-on inputs
mend-on (CutOff ∷ inputs) = mend-mute inputs

abbrev mend : Option Session → List Input → List Input
mend session [] = []
mend session (CutOff ∷ inputs) = mend None inputs
mend session (Version tables ∷ inputs) = Version tables ∷ mend session inputs
mend None (Frame m result ∷ inputs) = Frame m result ∷ mend-on inputs
mend (Some old) (Frame m result ∷ inputs) = mend-mute inputs

uncut-mute : (inputs : List Input) → has_cut (mend-mute inputs) ≡ false
uncut-mute [] = refl
uncut-mute (Version tables ∷ inputs) = uncut-mute inputs
uncut-mute (Frame m result ∷ inputs) = uncut-mute inputs
uncut-mute (CutOff ∷ inputs) = uncut-mute inputs

uncut-on : (inputs : List Input) → has_cut (mend-on inputs) ≡ false
uncut-on [] = refl
uncut-on (Version tables ∷ inputs) = uncut-on inputs
uncut-on (Frame m result ∷ inputs) = uncut-on inputs
uncut-on (CutOff ∷ inputs) = uncut-mute inputs

uncut-mend : (session : Option Session) (inputs : List Input) → has_cut (mend session inputs) ≡ false
uncut-mend session [] = refl
uncut-mend session (CutOff ∷ inputs) = uncut-mend None inputs
uncut-mend session (Version tables ∷ inputs) = uncut-mend session inputs
uncut-mend None (Frame m result ∷ inputs) = uncut-on inputs
uncut-mend (Some old) (Frame m result ∷ inputs) = uncut-mute inputs

-- ---- what the mended list gives

prefix-nothing : {X : Type 0} (xs : List X) → IsPrefix [] xs
prefix-nothing {X} xs = record { rest = xs; all = refl }

pub prefix-on : {X : Type 0} (a b c : List X) → IsPrefix a b → IsPrefix b c → IsPrefix a c
prefix-on {X} a b c one two = record { rest = one.rest ++ two.rest; all = two.all ∙ ap (λ x. x ++ two.rest) one.all ∙ append_assoc a one.rest two.rest }

prefix-behind : {X : Type 0} (x a b : List X) → IsPrefix a b → IsPrefix (x ++ a) (x ++ b)
prefix-behind {X} x a b one = record { rest = one.rest; all = ap (λ y. x ++ y) one.all ∙ sym (append_assoc x a one.rest) }

prefix-others : (xs ys : List Message) → IsPrefix xs ys → AreOthers ys → AreOthers xs
prefix-others xs ys p others = others-front xs p.rest (subst AreOthers p.all others)

mute-frames : (inputs : List Input) → frames_of (mend-mute inputs) ≡ []
mute-frames [] = refl
mute-frames (Version tables ∷ inputs) = mute-frames inputs
mute-frames (Frame m result ∷ inputs) = mute-frames inputs
mute-frames (CutOff ∷ inputs) = mute-frames inputs

mute-sent : (s : Server) (inputs : List Input) → sent_for s (mend-mute inputs) ≡ []
mute-sent s [] = refl
mute-sent s (Version tables ∷ inputs) = mute-sent (answer s (Version tables)).server inputs
mute-sent s (Frame m result ∷ inputs) = mute-sent s inputs
mute-sent s (CutOff ∷ inputs) = mute-sent s inputs

-- nothing is sent any more
record Quiet (db : Database) (session x : Option Session) (inputs : List Input) : Type 0 where
  pub sent : sent_for (on db session) inputs ≡ []
  pub database : (server_after (on db session) inputs).database ≡ (server_after (on db x) (mend-mute inputs)).database

quiet : (inputs : List Input) (db : Database) (session x : Option Session) → (session ≡ None) ⊎ (frames_of inputs ≡ []) → AreOthers (frames_of inputs) → Quiet db session x inputs
quiet [] db session x why others = record { sent = refl; database = refl }
quiet (Version tables ∷ inputs) db session x why others = let q = quiet inputs (with_version db tables) session x why others in record { sent = q.sent; database = q.database }
quiet (Frame m result ∷ inputs) db None x why (one, others) =
    let q = quiet inputs db None x (inl refl) others in
    let e = frame-mute db m result one in
    record { sent = ap (λ (a : Answer). a.sent ++ sent_for a.server inputs) e ∙ q.sent; database = ap (λ (a : Answer). (server_after a.server inputs).database) e ∙ q.database }
quiet (Frame m result ∷ inputs) db (Some old) x (inl wrong) others = absurd (cc)
quiet (Frame m result ∷ inputs) db (Some old) x (inr wrong) others = absurd (cc)
quiet (CutOff ∷ inputs) db session x why others = let q = quiet inputs db None x (inl refl) others in record { sent = q.sent; database = q.database }

record Mends (s t : Server) (inputs mended : List Input) : Type 0 where
  pub sent : sent_for s inputs ≡ sent_for t mended
  pub database : (server_after s inputs).database ≡ (server_after t mended).database
  pub frames : IsPrefix (frames_of mended) (frames_of inputs)

mends-on : (inputs : List Input) (s : Server) → AreOthers (frames_of inputs) → Mends s s inputs (mend-on inputs)
mends-on [] s others = record { sent = refl; database = refl; frames = prefix-nothing [] }
mends-on (Version tables ∷ inputs) s others = let m = mends-on inputs (answer s (Version tables)).server others in record { sent = m.sent; database = m.database; frames = m.frames }
mends-on (Frame x result ∷ inputs) s (one, others) =
    let m = mends-on inputs (answer s (Frame x result)).server others in
    record { sent = ap (λ y. (answer s (Frame x result)).sent ++ y) m.sent; database = m.database; frames = prefix-behind (x ∷ []) (frames_of (mend-on inputs)) (frames_of inputs) m.frames }
mends-on (CutOff ∷ inputs) s others =
    let q = quiet inputs s.database None s.session (inl refl) others in
    record { sent = q.sent ∙ sym (mute-sent s inputs); database = q.database; frames = subst (λ xs. IsPrefix xs (frames_of inputs)) (sym (mute-frames inputs)) (prefix-nothing (frames_of inputs)) }

module _ (first : Message) (greets : IsGreeting first) (others : List Message) (are : AreOthers others) (given : List Message)
    (claim : (s : Server) (inputs : List Input) → IsPrefix (frames_of inputs) others → IsPrefix given (sent_for s inputs) → frames_of inputs ≡ []) where
  mends : (inputs : List Input) (db : Database) (session : Option Session) → IsPrefix (frames_of inputs) (first ∷ others) → IsPrefix given (sent_for (on db session) inputs)
      → Mends (on db session) (on db None) inputs (mend session inputs)
  mends [] db session frames came = record { sent = refl; database = refl; frames = prefix-nothing [] }
  mends (Version tables ∷ inputs) db session frames came = let m = mends inputs (with_version db tables) session frames came in record { sent = m.sent; database = m.database; frames = m.frames }
  mends (CutOff ∷ inputs) db session frames came = let m = mends inputs db None frames came in record { sent = m.sent; database = m.database; frames = m.frames }
  mends (Frame x result ∷ inputs) db None frames came =
      let e : first ∷ others ≡ x ∷ (frames_of inputs ++ frames.rest) = frames.all in
      let behind : IsPrefix (frames_of inputs) others = record { rest = frames.rest; all = cc } in
      let m = mends-on inputs (answer (on db None) (Frame x result)).server (prefix-others (frames_of inputs) others behind are) in
      record { sent = ap (λ y. (answer (on db None) (Frame x result)).sent ++ y) m.sent; database = m.database; frames = prefix-behind (x ∷ []) (frames_of (mend-on inputs)) (frames_of inputs) m.frames }
  mends (Frame x result ∷ inputs) db (Some old) frames came =
      let e : first ∷ others ≡ x ∷ (frames_of inputs ++ frames.rest) = frames.all in
      let same : first ≡ x = cc in
      let behind : IsPrefix (frames_of inputs) others = record { rest = frames.rest; all = cc } in
      let none = greeting-refused db old x result (subst IsGreeting same greets) in
      let goes : sent_for (on db (Some old)) (Frame x result ∷ inputs) ≡ sent_for (on db (Some old)) inputs = ap (λ (a : Answer). a.sent ++ sent_for a.server inputs) none in
      let empty : frames_of inputs ≡ [] = claim (on db (Some old)) inputs behind (subst (IsPrefix given) goes came) in
      let q = quiet inputs db (Some old) None (inr empty) (prefix-others (frames_of inputs) others behind are) in
      record {
        sent = goes ∙ q.sent ∙ sym (mute-sent (on db None) inputs);
        database = ap (λ (a : Answer). (server_after a.server inputs).database) none ∙ q.database;
        frames = subst (λ xs. IsPrefix xs (x ∷ frames_of inputs)) (sym (mute-frames inputs)) (prefix-nothing (x ∷ frames_of inputs));
      }

-- ---- a connection

greeting-is : (b : Basis) (c : Client) (number : ℕ) (m : Message) → IsResumeMessage b.schema c number m → IsGreeting m
greeting-is b c number (Hello wire client k) ok = tt
greeting-is b c number (Resume wire client k version holdings) ok = tt
greeting-is b c number (Ask k fresh parts) ok = absurd ok
greeting-is b c number (Write k sql) ok = absurd ok
greeting-is b c number (Welcome k w kept) ok = absurd ok
greeting-is b c number (Notice version told) ok = absurd ok
greeting-is b c number (Rows k part rows) ok = absurd ok
greeting-is b c number (Reply k w) ok = absurd ok
greeting-is b c number (Written k w) ok = absurd ok
greeting-is b c number (Refused k fault) ok = absurd ok
greeting-is b c number (Lapse w) ok = absurd ok

-- what a resume of a client whose link is cut did
record Begun (c : Client) (o : Outcome) (new : Client) : Type 0 where
  pub message : Message
  pub greets : IsGreeting message
  pub asks : sent_of o ≡ message ∷ []
  pub out : IsResumed new

begun-by : (b : Basis) (c : Client) (o : Outcome) (new : Client) → c.cut ≡ true → ResumeStep b.schema c o new → Begun c o new
begun-by b c o new cut (already_up up) = absurd (let wrong : true ≡ false = sym cut ∙ up in cc)
begun-by b c o new cut (resumes m down is) = record { message = m; greets = greeting-is b c c.next_request m is; asks = refl; out = record { number = c.next_request; out = refl } }

-- the first step of a talk resumes, and is no other
first-begun : {C : Type 0} (c : Client) (first : Step C) (others : List (Step C)) → c.cut ≡ true → first.deed ≡ Resumed → AreNearlyRuled c (first ∷ others) → Begun c first.outcome first.past
first-begun {C} c first others cut begins (inl (b, does), ruled) = begun-by b c first.outcome first.past cut (subst (λ d. Does b d c first.outcome first.past) begins does)
first-begun {C} c first others cut begins (inr last, ruled) = absurd (let wrong : Took last.message ≡ Resumed = sym last.took ∙ begins in cc)

module _ {C : Type 0} (IsOf : Standing C) (keys : AsksKeys IsOf) (limits : Limits) where
  -- the mended list explains the connection
  record Explained (s : Server) (inputs : List Input) (steps : List (Step C)) : Type 0 where
    pub explains : Explains (cut_off s) (mend s.session inputs) steps
    pub database : (server_after s inputs).database ≡ (server_after (cut_off s) (mend s.session inputs)).database

  explained : (s : Server) (code : C) (c : Client) (talk : Talk C) (inputs : List Input) → Rests IsOf s.database code c → IsTalk IsOf limits code c talk → AreNearlyRuled c (steps_in talk)
      → Explains s inputs (steps_in talk) → Explained s inputs (steps_in talk)
  explained s code c talk inputs rest is ruled explains =
      let start : Begun c talk.first.outcome talk.first.past = first-begun c talk.first talk.others rest.cut is.begins ruled in
      let are : AreOthers (requests_of talk.others) = requests-others talk.first.past talk.others ruled.1 is.on_one in
      let asks : requests_of (steps_in talk) ≡ start.message ∷ requests_of talk.others = ap (λ x. x ++ requests_of talk.others) start.asks in
      let takes : given_of (steps_in talk) ≡ given_of talk.others = ap (λ d. taken_by d ++ given_of talk.others) is.begins in
      let claim : (t : Server) (left : List Input) → IsPrefix (frames_of left) (requests_of talk.others) → IsPrefix (given_of talk.others) (sent_for t left) → frames_of left ≡ [] = λ t left frames came.
      let none : AreNoWelcome (given_of talk.others) =
      welcome-front (given_of talk.others) came.rest (subst AreNoWelcome came.all (sent-no-welcome t left (prefix-others (frames_of left) (requests_of talk.others) frames are))) in
      let mute : requests_of talk.others ≡ [] = unheard-asks talk.others talk.first.past (inl start.out) none ruled.1 is.awaited.1 is.on_one in
      nothing-before (frames_of left) frames.rest (sym frames.all ∙ mute) in
      let m : Mends s (cut_off s) inputs (mend s.session inputs) = mends start.message start.greets (requests_of talk.others) are (given_of talk.others) claim inputs s.database s.session
      (subst (IsPrefix (frames_of inputs)) asks explains.frames) (subst (λ xs. IsPrefix xs (sent_for s inputs)) takes explains.given) in
      record {
        explains = record {
          frames = prefix-on (frames_of (mend s.session inputs)) (frames_of inputs) (requests_of (steps_in talk)) m.frames explains.frames;
          given = subst (IsPrefix (given_of (steps_in talk))) m.sent explains.given;
        };
        database = m.database;
      }

  lawful-on : (few many : Database) → Grows few many → (c : Client) (steps : List (Step C)) → AreLawful limits few c steps → AreLawful limits many c steps
  lawful-on few many grows c [] lawful = tt
  lawful-on few many grows c (step ∷ steps) (one, others) =
      (record { db = one.db; sound = one.sound; grows = grows-on one.db few many one.grows grows; before = one.before; comes = one.comes; does = one.does; fits = one.fits; within = one.within }, lawful-on few many grows step.past steps others)

  lawful-append : (all : Database) (c : Client) (steps more : List (Step C)) → AreLawful limits all c steps → AreLawful limits all (past_after c steps) more → AreLawful limits all c (steps ++ more)
  lawful-append all c [] more lawful then_more = then_more
  lawful-append all c (step ∷ steps) more (one, others) then_more = (one, lawful-append all step.past steps more others then_more)

  -- a server whose log keeps few changes, and that has few rows in its last tables, is asked few parts
  abbrev IsSmall : ℕ → Database → List (Step C) → Type 0
  IsSmall limit all steps = (limit ≤ 500000) × HasFewRows all × AskFew steps

  -- what is so of the steps of many connections
  pub record RunsOn (limit : ℕ) (all : Database) (c : Client) (steps : List (Step C)) : Type 0 where
    pub lawful : AreLawful limits all c steps
    pub few : IsSmall limit all steps → LayFew c steps

  record AreLawfulThen (small : Type 0) (db : Database) (code : C) (c : Client) (steps : List (Step C)) : Type 0 where
    pub lawful : AreLawful limits db c steps
    pub few : small → LayFew c steps
    pub ends : (past_after c steps).cut ≡ true → Rests IsOf db (code_after code steps) (past_after c steps)

  pub runs : (talks : List (Talk C)) (pieces : List (List Input)) (s : Server) (code : C) (c : Client) → 0 < length s.database.versions → IsSound (server_at_last s pieces).database
      → list_all is_table (server_at_last s pieces).database.schema ≡ true
      → Rests IsOf s.database code c → AreTalks IsOf limits code c talks → AreNearlyRuled c (steps_of talks) → IsHonest s pieces talks → RunsOn s.database.log_limit (server_at_last s pieces).database c (steps_of talks)
  runs [] [] s code c some sound tables rest are ruled honest = record { lawful = tt; few = λ small. tt }
  runs [] (piece ∷ pieces) s code c some sound tables rest are ruled honest = absurd honest
  runs (talk ∷ talks) [] s code c some sound tables rest are ruled honest = absurd honest
  runs (talk ∷ talks) (piece ∷ pieces) s code c some sound tables rest (is, ends, others) ruled (explains, honest) =
      let more = later (λ is_rest. runs talks pieces here (code_after code (steps_in talk)) (past_after c (steps_in talk)) come.some sound tables is_rest others (ruled-back c (steps_in talk) (steps_of talks) ruled) honest) ends in
      record {
        lawful = lawful-append all c (steps_in talk) (steps_of talks) (lawful-on here.database all rests_of.grows c (steps_in talk) one.lawful) more.lawful;
        few = λ is_small. lay-append c (steps_in talk) (steps_of talks) (one.few (is_small.0, is_small.1, few-front (steps_in talk) (steps_of talks) is_small.2))
            (more.few (subst (λ n. n ≤ 500000) (sym (after-log s piece)) is_small.0, is_small.1, few-back (steps_in talk) (steps_of talks) is_small.2));
      }
    where
      here : Server
      here = server_after s piece

      all : Database
      all = (server_at_last s (piece ∷ pieces)).database

      come : More s.database here.database
      come = after-more s piece some

      rests_of : More here.database all
      rests_of = last-more here pieces come.some

      e : Explained s piece (steps_in talk)
      e = explained s code c talk piece rest is (ruled-front c (steps_in talk) (steps_of talks) ruled) explains

      mended : Database
      mended = (server_after (cut_off s) (mend s.session piece)).database

      mended_sound : IsSound mended
      mended_sound = subst IsSound e.database (sound-before here.database all come.some rests_of.grows sound)

      mended_tables : list_all is_table mended.schema ≡ true
      mended_tables = subst (λ db. list_all is_table db.schema ≡ true) e.database (subst (λ schema. list_all is_table schema ≡ true) rests_of.grows.schema tables)

      small : Type 0
      small = IsSmall s.database.log_limit all (steps_in talk)

      short : small → AreShortAnswers (cut_off s) (mend s.session piece)
      short (limit, rows, asks) =
          short-answers (mend s.session piece) (cut_off s) all some (subst (λ db. Grows db all) e.database rests_of.grows) limit rows
          (asks-front (frames_of (mend s.session piece)) e.explains.frames.rest (subst AreShortAsks e.explains.frames.all (requests-short (steps_in talk) asks)))

      own : Ended small IsOf keys limits mended mended_sound mended_tables e.explains.frames.rest e.explains.given.rest code c (steps_in talk)
      own = one-connection small IsOf keys limits (cut_off s) code c talk (mend s.session piece) mended_sound mended_tables refl (uncut-mend s.session piece) some short rest is e.explains

      one : AreLawfulThen small here.database code c (steps_in talk)
      one = record {
        lawful = subst (λ db. AreLawful limits db c (steps_in talk)) (sym e.database) own.lawful;
        few = own.few;
        ends = λ cut. subst (λ db. Rests IsOf db (code_after code (steps_in talk)) (past_after c (steps_in talk))) (sym e.database) (own.ends cut);
      }

      later : (Rests IsOf here.database (code_after code (steps_in talk)) (past_after c (steps_in talk)) → RunsOn here.database.log_limit all (past_after c (steps_in talk)) (steps_of talks))
          → (past_after c (steps_in talk)).cut ≡ true ⊎ (talks ≡ []) → RunsOn here.database.log_limit all (past_after c (steps_in talk)) (steps_of talks)
      later go_on (inl is_cut) = go_on (one.ends is_cut)
      later go_on (inr none) = subst (λ ts. RunsOn here.database.log_limit all (past_after c (steps_in talk)) (steps_of ts)) (sym none) (record { lawful = tt; few = λ small. tt })

  -- ---- where the session is closed behind each connection

  cut-frames : (inputs : List Input) → frames_of (inputs ++ CutOff ∷ []) ≡ frames_of inputs
  cut-frames [] = refl
  cut-frames (input ∷ inputs) = ap (λ x. frame_of input ++ x) (cut-frames inputs)

  cut-sent : (s : Server) (inputs : List Input) → sent_for s (inputs ++ CutOff ∷ []) ≡ sent_for s inputs
  cut-sent s [] = refl
  cut-sent s (input ∷ inputs) = ap (λ x. (answer s input).sent ++ x) (cut-sent (answer s input).server inputs)

  cut-after : (s : Server) (inputs : List Input) → server_after s (inputs ++ CutOff ∷ []) ≡ cut_off (server_after s inputs)
  cut-after s [] = refl
  cut-after s (input ∷ inputs) = cut-after (answer s input).server inputs

  -- the list without its cut explains the connection
  record Behind (s : Server) (piece : List Input) (steps : List (Step C)) : Type 0 where
    pub inputs : List Input
    pub uncut : has_cut inputs ≡ false
    pub explains : Explains s inputs steps
    pub after : server_after s piece ≡ cut_off (server_after s inputs)

  behind : (s : Server) (piece : List Input) (steps : List (Step C)) → IsClosedBehind piece → Explains s piece steps → Behind s piece steps
  behind s piece steps (inputs, is, uncut) explains =
      let e : Explains s (inputs ++ CutOff ∷ []) steps = subst (λ p. Explains s p steps) is explains in
      record {
        inputs = inputs;
        uncut = uncut;
        explains = record {
          frames = subst (λ xs. IsPrefix xs (requests_of steps)) (cut-frames inputs) e.frames;
          given = subst (IsPrefix (given_of steps)) (cut-sent s inputs) e.given;
        };
        after = ap (server_after s) is ∙ cut-after s inputs;
      }

  pub closed-runs : (talks : List (Talk C)) (pieces : List (List Input)) (s : Server) (code : C) (c : Client) → s.session ≡ None → AreClosedBehind pieces → 0 < length s.database.versions
      → IsSound (server_at_last s pieces).database → list_all is_table (server_at_last s pieces).database.schema ≡ true
      → Rests IsOf s.database code c → AreTalks IsOf limits code c talks → IsHonest s pieces talks → AreLawful limits (server_at_last s pieces).database c (steps_of talks)
  closed-runs [] [] s code c closed behind_each some sound tables rest are honest = tt
  closed-runs [] (piece ∷ pieces) s code c closed behind_each some sound tables rest are honest = absurd honest
  closed-runs (talk ∷ talks) [] s code c closed behind_each some sound tables rest are honest = absurd honest
  closed-runs (talk ∷ talks) (piece ∷ pieces) s code c closed (closes, closes_each) some sound tables rest (is, ends, others) (explains, honest) =
      lawful-append all c (steps_in talk) (steps_of talks) (lawful-on here.database all rests_of.grows c (steps_in talk) one.lawful)
      (later (λ is_rest. closed-runs talks pieces here (code_after code (steps_in talk)) (past_after c (steps_in talk)) (ap (λ (s : Server). s.session) b.after) closes_each come.some sound tables is_rest others honest) ends)
    where
      here : Server
      here = server_after s piece

      all : Database
      all = (server_at_last s (piece ∷ pieces)).database

      come : More s.database here.database
      come = after-more s piece some

      rests_of : More here.database all
      rests_of = last-more here pieces come.some

      b : Behind s piece (steps_in talk)
      b = behind s piece (steps_in talk) closes explains

      last : Database
      last = (server_after s b.inputs).database

      same : here.database ≡ last
      same = ap (λ (s : Server). s.database) b.after

      last_sound : IsSound last
      last_sound = subst IsSound same (sound-before here.database all come.some rests_of.grows sound)

      last_tables : list_all is_table last.schema ≡ true
      last_tables = subst (λ db. list_all is_table db.schema ≡ true) same (subst (λ schema. list_all is_table schema ≡ true) rests_of.grows.schema tables)

      own : Ended ⊥ IsOf keys limits last last_sound last_tables b.explains.frames.rest b.explains.given.rest code c (steps_in talk)
      own = one-connection ⊥ IsOf keys limits s code c talk b.inputs last_sound last_tables closed b.uncut some (λ no. absurd no) rest is b.explains

      one : AreLawfulThen ⊥ here.database code c (steps_in talk)
      one = record {
        lawful = subst (λ db. AreLawful limits db c (steps_in talk)) (sym same) own.lawful;
        few = own.few;
        ends = λ cut. subst (λ db. Rests IsOf db (code_after code (steps_in talk)) (past_after c (steps_in talk))) (sym same) (own.ends cut);
      }

      later : (Rests IsOf here.database (code_after code (steps_in talk)) (past_after c (steps_in talk)) → AreLawful limits all (past_after c (steps_in talk)) (steps_of talks))
          → (past_after c (steps_in talk)).cut ≡ true ⊎ (talks ≡ []) → AreLawful limits all (past_after c (steps_in talk)) (steps_of talks)
      later go_on (inl is_cut) = go_on (one.ends is_cut)
      later go_on (inr none) = subst (λ ts. AreLawful limits all (past_after c (steps_in talk)) (steps_of ts)) (sym none) tt
