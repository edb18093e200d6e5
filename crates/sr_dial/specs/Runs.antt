-- What a run of `client` did, over any link, and how it ended.
use Rattle.std.specs.Prelude.{ℕ, Bool, true, false, List, [], ◌∷◌, ◌++◌, ◌||◌, ◌+◌, ◌≤◌, flat_map, length, ◌≡◌, ◌≢◌, Option, Some, None, IfSome, IsTrue, option_to_list}
use Rattle.std.specs.Io.KnownBytes.{Appends}
use Rattle.std.specs.List.{list_any, All}
use Rattle.sr_cell.specs.declared.table.Table.{Table}
use Rattle.sr_io.specs.Causes.{Rose}
use Rattle.sr_io.specs.Pieces.{WritesPrefix}
use Rattle.sr_io.specs.Told.{Linking, Writing, AreAt, connections}
use Rattle.sr_message.specs.declared.message.Message.{Message}
use Rattle.sr_wire.specs.declared.bad_frame.BadFrame.{BadFrame}
use Rattle.sr_wire.specs.declared.wire_fault.WireFault.{WireFault}
use Rattle.sr_wire.specs.declared.wire_fault.WireFault.TheVariants.{Short}
use Rattle.sr_wire.specs.Reading.{Faulty, decoded}
use Rattle.sr_wire.specs.Spelling.{has_spelling, spelling}
use Rattle.sr_session.specs.Clients.{Client}
use Rattle.sr_session.specs.Misfits.{misfit}
use Rattle.sr_session.specs.Rules.{sent_of}
use Rattle.sr_links.specs.Brought.{AreLawful, Holding}
use Rattle.sr_links.specs.Honest.{IsPrefix}
use Rattle.sr_links.specs.Steps.{AreFair, Standing, code_after, Deed, Took, WasCut, given_of, requests_of, past_after}
use Rattle.sr_dial.specs.Calls.{Call, Cause, Scripted, Delivered, Failed, Done, Made, Explained, Said, Task, AreCalls, all_done, calls_told, count_faults, done_in, fails, steps_in}
use Rattle.sr_plan.specs.Plans.{Plan, Over, GoBy, begun, left}
use Rattle.sr_talk.specs.Rounds.{HasPeers}
use Rattle.sr_talk.specs.Serving.{RoseBy, spelled}
use Rattle.sr_dial.specs.Following.{dids_of, stage_by}
use Rattle.sr_dial.specs.Known.{AreFairlyExplained, IsFrom, Setting, said_by}
use Rattle.sr_dial.specs.declared.ending.Ending.{Ending}
use Rattle.sr_dial.specs.declared.ending.Ending.TheVariants as ending
use Rattle.sr_dial.specs.declared.parts.Answer.{Answer}
use Rattle.sr_dial.specs.declared.waiting.Count.{Count}

-- ---- steps

-- A line of the script runs while nothing is out. Messages, which came as frames and need not be refused, are taken while a request is out,
-- and the link fails then, which cuts it; both have the number of the line that ran. That nobody could be dialled is such a failure: the
-- first message of the session is out. A line that explains, or writes a text, leaves the client as it is.
abbrev pub IsInPlace : List Table → Cause → ℕ → ℕ → Deed → Client → Type 0
IsInPlace schema Scripted line number deed c = c.out ≡ None
IsInPlace schema Delivered line number (Took m) c = (number ≡ line) × (c.out ≢ None) × IsTrue (has_spelling m) × (misfit schema c.out c.laid c.version m ≡ None)
IsInPlace schema Failed line number WasCut c = (number ≡ line) × (c.out ≢ None)
IsInPlace schema cause line number deed c = ⊥

abbrev pub AreInPlace : {C : Type 0} → List Table → ℕ → Client → List (Done C) → Type 0
AreInPlace {C} schema line c [] = Unit {0}
AreInPlace {C} schema line c (Made number cause step ∷ ds) = IsInPlace schema cause line number step.deed c × AreInPlace schema number step.past ds
AreInPlace {C} schema line c (Explained number text result ∷ ds) = (c.out ≡ None) × AreInPlace schema number c ds
AreInPlace {C} schema line c (Said number text ∷ ds) = (c.out ≡ None) × AreInPlace schema number c ds

-- ---- connections

-- All requests but the last, and a beginning of that.
pub record SendsMost (requests : List Message) (sent : List ℕ) : Type 0 where
  pub earlier : List Message
  pub last : Message
  pub part : List ℕ
  pub are : requests ≡ earlier ++ last ∷ []
  pub beginning : IsPrefix part (spelling last)
  pub is : sent ≡ spelled earlier ++ part

-- Where sending failed the last request may be cut short.
abbrev pub SentAs : Bool → List Message → List ℕ → Type 0
SentAs true requests sent = SendsMost requests sent
SentAs false requests sent = sent ≡ spelled requests

-- What went over the connection of a call, where it is told: the messages that were taken, with what is left behind them, and the
-- requests; where sending failed, which is a failure that cuts the client, or where that is said, the last one may be cut short.
pub record IsCarried {C : Type 0} (short : Bool) (call : Call C) : Type 0 where
  pub taken : IfSome call.told (λ t. t.taken ≡ spelled (given_of (steps_in (done_in call))) ++ call.left)
  pub sent : IfSome call.told (λ t. SentAs (short || call.torn) (requests_of (steps_in (done_in call))) t.sent)
  pub counted : short ≡ false → call.torn ≡ true → fails call ≡ true

-- Where no connection was made nothing came; and a link that told its peers tells each that was.
pub record IsToldIf {C : Type 0} (peers : Option (List (List ℕ))) (call : Call C) : Type 0 where
  pub nothing : call.connected ≡ false → (given_of (steps_in (done_in call)) ≡ []) × (call.left ≡ []) × (call.told ≡ None)
  pub told : IfSome peers (λ more. call.connected ≡ true → call.told ≢ None)

-- ---- a run

-- the client as the steps of these calls leave it
abbrev pub left_by : {C : Type 0} → Client → List (Call C) → Client
left_by {C} c calls = past_after c (steps_in (all_done calls))

-- no message was taken since a line began
abbrev pub none_taken : Count
none_taken = record { taken = 0; again = false }

-- One message more was taken.
abbrev pub one_more : Count → Count
one_more n = record { taken = n.taken + 1; again = n.again }

-- One more was taken, and a request was sent for it: if it is the second one of its line, the count begins anew. By the rules there is no
-- third.
abbrev pub anew_if : Bool → ℕ → Count
anew_if false taken = record { taken = 0; again = true }
anew_if true taken = record { taken = taken + 1; again = true }

abbrev pub anew : Count → Count
anew n = anew_if n.again n.taken

abbrev pub more_if : List Message → Count → Count
more_if [] n = one_more n
more_if (m ∷ sent) n = anew n

-- how many messages were taken for the request that is out, where this was sent with the last step
abbrev pub more_taken : Cause → List Message → Count → Count
more_taken Delivered sent n = more_if sent n
more_taken cause sent n = none_taken

abbrev pub taken_after : {C : Type 0} → Count → List (Done C) → Count
taken_after {C} n [] = n
taken_after {C} n (Made number cause step ∷ ds) = taken_after (more_taken cause (sent_of step.outcome) n) ds
taken_after {C} n (Explained number text result ∷ ds) = taken_after none_taken ds
taken_after {C} n (Said number text ∷ ds) = taken_after none_taken ds

-- Behind each thing that was done, at most a million messages were taken for the request that is out.
abbrev pub AreFew : {C : Type 0} → Count → List (Done C) → Type 0
AreFew {C} n [] = Unit {0}
AreFew {C} n (d ∷ ds) = ((taken_after n (d ∷ [])).taken ≤ 1000000) × AreFew (taken_after n (d ∷ [])) ds

-- A million messages were taken for one request, and one more came.
pub record IsFull {C : Type 0} (done : List (Done C)) (left : List ℕ) : Type 0 where
  pub message : Message
  pub rest : List ℕ
  pub many : (taken_after none_taken done).taken ≡ 1000000
  pub next : left ≡ spelling message ++ rest
  pub spells : IsTrue (has_spelling message)

-- A request is out, and the message that came next is refused for this reason.
pub record IsRefused (schema : List Table) (c : Client) (left : List ℕ) (why : BadFrame) : Type 0 where
  pub message : Message
  pub rest : List ℕ
  pub next : left ≡ spelling message ++ rest
  pub spells : IsTrue (has_spelling message)
  pub waits : c.out ≢ None
  pub why_is : misfit schema c.out c.laid c.version message ≡ Some why

-- A request is out, and what came next is no frame, for this reason.
pub record IsSpoiled (c : Client) (left : List ℕ) (fault : WireFault) : Type 0 where
  pub fault_is : decoded left ≡ Faulty fault
  pub whole : fault ≢ Short
  pub waits : c.out ≢ None

-- Nothing of the plan is left, nothing is out, and the link failed or never did.
pub record EndsFree {C : Type 0} (c : Client) (calls : List (Call C)) (rest : Plan Task Answer) (failed : Bool) : Type 0 where
  pub all : rest ≡ Over
  pub free : c.out ≡ None
  pub failed_is : list_any fails calls ≡ failed

-- Why a run ended, with the client that its steps leave, the bytes that are left behind what was taken last, and what is left of the plan.
abbrev pub EndsBy : {C : Type 0} → Ending → List Table → List (Call C) → Client → List ℕ → Plan Task Answer → Type 0
EndsBy {C} ending.Whole schema calls c left rest = EndsFree c calls rest false
EndsBy {C} ending.Faulty schema calls c left rest = EndsFree c calls rest true
EndsBy {C} ending.Unwritten schema calls c left rest = Unit {0}
EndsBy {C} (ending.Spoiled fault) schema calls c left rest = IsSpoiled c left fault
EndsBy {C} (ending.Bad why) schema calls c left rest = IsRefused schema c left why
EndsBy {C} ending.Limit schema calls c left rest = IsFull (all_done calls) left

-- Each line is written once its step is done: all of them, or a beginning where one is not written, which is counted as a fault. Where a
-- run writes no lines, this never comes.
abbrev pub WritesAs : Bool → Ending → List ℕ → Writing → Writing → Type 0
WritesAs says ending.Unwritten texts before after = (says ≡ true) × WritesPrefix before.written after.written texts × Rose before.faults after.faults
WritesAs says other texts before after = Appends before.written after.written texts × (after.faults ≡ before.faults)

abbrev pub is_bad : Ending → Bool
is_bad (ending.Bad why) = true
is_bad other = false

abbrev pub is_unwritten : Ending → Bool
is_unwritten ending.Unwritten = true
is_unwritten other = false

-- A run over a plan by a client of this setting, which was `c` before. Call by call it resumed, and then did what the plan asks, in order.
-- The link tells just these connections more, each made at this address; where it told its peers, it tells each that was made. It is given
-- up. Each request is from that client. A request takes at most a million frames, and a run that ends whole has met no fault of the link.
pub record Ran (C : Type 0) (k : Setting) (c : Client) (address : List ℕ) (plan : Plan Task Answer) (ended : Ending) (old new : Linking)
    (before after : Writing) : Type 0 where
  pub earlier : List (Call C)
  pub last : Call C
  pub are : AreCalls c (earlier ++ last ∷ [])
  pub in_place : AreInPlace k.schema 0 c (all_done (earlier ++ last ∷ []))
  pub few : AreFew none_taken (all_done (earlier ++ last ∷ []))
  pub from : All (IsFrom k.number) (requests_of (steps_in (all_done (earlier ++ last ∷ []))))
  pub goes : GoBy (begun plan) (dids_of k.keeps (all_done (earlier ++ last ∷ [])))
  pub carried : All (IsCarried false) earlier
  pub last_carried : IsCarried (is_unwritten ended) last
  pub made : connections new ≡ connections old ++ calls_told (earlier ++ last ∷ [])
  pub dialled : AreAt address (calls_told (earlier ++ last ∷ []))
  pub each_told : All (IsToldIf old.peers) (earlier ++ last ∷ [])
  pub hung_up : new.is_up ≡ false
  pub faults : RoseBy old.faults (count_faults (earlier ++ last ∷ [])) new.faults
  pub calm : ended ≡ ending.Whole → new.faults ≡ old.faults
  pub ends : EndsBy ended k.schema (earlier ++ last ∷ []) (left_by c (earlier ++ last ∷ [])) last.left
      (left (stage_by k.keeps plan (all_done (earlier ++ last ∷ []))))
  pub writes : WritesAs k.says ended (flat_map (said_by k) (all_done (earlier ++ last ∷ []))) before after

-- And each of its steps is fair, from this code on, and so is what was explained. And each is lawful: whatever the peer is, it goes by the
-- client's rules, on the rows that the frames brought.
pub record RanFairly (C : Type 0) (IsOf : Standing C) (Has : Holding C) (k : Setting) (code : C) (c : Client) (address : List ℕ)
    (plan : Plan Task Answer) (ended : Ending) (old new : Linking) (before after : Writing) : Type 0 where
  pub ran : Ran C k c address plan ended old new before after
  pub fair : AreFair IsOf k.limits code c (steps_in (all_done (ran.earlier ++ ran.last ∷ [])))
  pub lawful : AreLawful Has k.limits k.schema code c (steps_in (all_done (ran.earlier ++ ran.last ∷ [])))
  pub explained : AreFairlyExplained IsOf k.limits code c (all_done (ran.earlier ++ ran.last ∷ []))

-- And this is the client that it leaves: the code that its steps leave, which stands for the past that they leave. A message that must be
-- refused leaves a client of which nothing is known.
pub record RanTo (C : Type 0) (Stands : C → Client → Type 0) (IsOf : Standing C) (Has : Holding C) (k : Setting) (code : C) (c : Client)
    (address : List ℕ) (plan : Plan Task Answer) (ended : Ending) (old new : Linking) (before after : Writing) (left : C) : Type 0 where
  pub run : RanFairly C IsOf Has k code c address plan ended old new before after
  pub code_is : is_bad ended ≡ false → code_after code (steps_in (all_done (run.ran.earlier ++ run.ran.last ∷ []))) ≡ left
  pub stands : is_bad ended ≡ false → Stands left (left_by c (run.ran.earlier ++ run.ran.last ∷ []))

-- Over a steady host that has a peer for each of these calls no fault is counted, neither of a call nor by the link: each failure is that a
-- connection ended by itself while a request was out.
abbrev pub LinksSteadily : {C : Type 0} → Type 0 → List (Call C) → Linking → Linking → Type 0
LinksSteadily {C} Steady calls old new = Steady → HasPeers (length calls) old → (count_faults calls ≡ 0) × (new.faults ≡ old.faults)

-- And so it is of such a run.
pub record RanSteadily (C : Type 0) (Steady : Type 0) (Stands : C → Client → Type 0) (IsOf : Standing C) (Has : Holding C) (k : Setting) (code : C)
    (c : Client) (address : List ℕ) (plan : Plan Task Answer) (ended : Ending) (old new : Linking) (before after : Writing) (left : C) : Type 0 where
  pub to : RanTo C Stands IsOf Has k code c address plan ended old new before after left
  pub steady_links : LinksSteadily Steady (to.run.ran.earlier ++ to.run.ran.last ∷ []) old new

-- Out of memory: calls that were over, and one that was cut short, or none. What was done went by the plan and is fair, as above, and what
-- was sent and written is a beginning of what it gives: all requests but the last, of which some bytes may be missing, and of the lines as
-- many as came to be written.
pub record RanInPart (C : Type 0) (IsOf : Standing C) (Has : Holding C) (k : Setting) (code : C) (c : Client) (address : List ℕ)
    (plan : Plan Task Answer) (old new : Linking) (before after : Writing) : Type 0 where
  pub calls : List (Call C)
  pub earlier : List (Call C)
  pub cut_short : Option (Call C)
  pub calls_are : calls ≡ earlier ++ option_to_list cut_short
  pub are : AreCalls c calls
  pub in_place : AreInPlace k.schema 0 c (all_done calls)
  pub few : AreFew none_taken (all_done calls)
  pub from : All (IsFrom k.number) (requests_of (steps_in (all_done calls)))
  pub goes : GoBy (begun plan) (dids_of k.keeps (all_done calls))
  pub fair : AreFair IsOf k.limits code c (steps_in (all_done calls))
  pub lawful : AreLawful Has k.limits k.schema code c (steps_in (all_done calls))
  pub explained : AreFairlyExplained IsOf k.limits code c (all_done calls)
  pub carried : All (IsCarried false) earlier
  pub last_carried : IfSome cut_short (IsCarried true)
  pub made : connections new ≡ connections old ++ calls_told calls
  pub dialled : AreAt address (calls_told calls)
  pub each_told : All (IsToldIf old.peers) calls
  pub faults : RoseBy old.faults (count_faults calls) new.faults
  pub written : WritesPrefix before.written after.written (flat_map (said_by k) (all_done calls))
  pub write_faults : after.faults ≡ before.faults
