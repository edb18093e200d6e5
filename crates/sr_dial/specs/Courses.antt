-- How far a run has come.
use Rattle.std.specs.Prelude.{ℕ, Bool, true, false, ◌+◌, List, [], ◌∷◌, ◌++◌, flat_map, length, ◌≡◌, ◌≢◌, ◌⊎◌, Option, None, IfSome}
use Rattle.std.specs.Io.KnownBytes.{Appends}
use Rattle.std.specs.List.{list_any, All}
use Rattle.sr_io.specs.Causes.{Rose}
use Rattle.sr_io.specs.Pieces.{WritesPrefix}
use Rattle.sr_io.specs.Told.{Linking, Writing, AreAt, connections}
use Rattle.sr_message.specs.declared.message.Message.{Message}
use Rattle.sr_session.specs.Clients.{Client}
use Rattle.sr_links.specs.Brought.{AreLawful, Holding}
use Rattle.sr_links.specs.Steps.{Standing, Resumed, AreFair, OnOne, code_after, given_of, past_after, requests_of}
use Rattle.sr_dial.specs.Calls.{Call, Done, Task, AreCalls, all_done, calls_told, count_faults, done_in, fails, is_fault, number_of, one_if, steps_in}
use Rattle.sr_plan.specs.Plans.{Plan, GoBy, begun}
use Rattle.sr_plan.specs.Plans.{Over as Nothing}
use Rattle.sr_talk.specs.Rounds.{HasPeers}
use Rattle.sr_talk.specs.Serving.{RoseBy, spelled}
use Rattle.sr_talk.specs.declared.frames.Next.{Next}
use Rattle.sr_talk.specs.declared.frames.Next.TheVariants.{Frame, End, Torn, Fault, Bad}
use Rattle.sr_dial.specs.Following.{Ahead, dids_of, stage_by}
use Rattle.sr_dial.specs.Known.{AreFairlyExplained, IsFrom, Setting, said_by}
use Rattle.sr_dial.specs.Runs.{AreFew, AreInPlace, EndsBy, IsCarried, IsToldIf, RanInPart, SentAs, WritesAs, anew, is_bad, is_unwritten, left_by, none_taken, one_more, taken_after}
use Rattle.sr_dial.specs.declared.ending.Ending.{Ending}
use Rattle.sr_dial.specs.declared.parts.Answer.{Answer}
use Rattle.sr_dial.specs.declared.ending.Ending.TheVariants as ending
use Rattle.sr_dial.specs.declared.run.LineEnd.{LineEnd}
use Rattle.sr_dial.specs.declared.run.LineEnd.TheVariants as line_end
use Rattle.sr_dial.specs.declared.steps.Handed.{Handed}
use Rattle.sr_dial.specs.declared.steps.Handed.TheVariants as handed
use Rattle.sr_dial.specs.declared.waiting.Handled.{Handled}
use Rattle.sr_dial.specs.declared.waiting.Handled.TheVariants as handled
use Rattle.sr_dial.specs.declared.waiting.Count.{Count}
use Rattle.sr_dial.specs.declared.waiting.Awaited.{Awaited}
use Rattle.sr_dial.specs.declared.waiting.Awaited.TheVariants as awaited

-- ---- where it began, the address that it dials, and the plan that it goes by

-- The second type says that the host was steady then.
pub record Start (C Steady : Type 0) : Type 0 where
  pub linking : Linking
  pub writing : Writing
  pub code : C
  pub past : Client
  pub address : List ℕ
  pub plan : Plan Task Answer

-- the number of the last line
abbrev pub line_after : {C : Type 0} → ℕ → List (Done C) → ℕ
line_after {C} line [] = line
line_after {C} line (d ∷ ds) = line_after (number_of d) ds

-- It begins with a resume over a cut link, and what follows is over one connection.
pub record IsCall {C : Type 0} (c : Client) (call : Call C) : Type 0 where
  pub first : call.first.deed ≡ Resumed
  pub was_cut : c.cut ≡ true
  pub on_one : OnOne call.first.past (steps_in call.others)

-- What the link tells where the client's is up: the connection of the present call, behind those before. Else it tells all of them.
abbrev pub IsThere : {C : Type 0} → Bool → List (Call C) → Call C → Linking → Linking → Type 0
IsThere {C} true earlier call old l = connections l ≡ connections old ++ calls_told (earlier ++ call ∷ [])
IsThere {C} false earlier call old l =
    (l.present ≡ call.told) × (l.past ≡ connections old ++ calls_told earlier) × (fails call ≡ false) × (call.connected ≡ true)

-- a link that told its peers still does
abbrev pub TellsStill : Linking → Linking → Type 0
TellsStill old l = IfSome old.peers (λ peers. l.peers ≢ None)

-- how a message is handled whose step came out so, and sent a request or not
abbrev pub handled_by : Handed → Bool → Handled
handled_by handed.Whole false = handled.Whole
handled_by handed.Whole true = handled.Again
handled_by handed.Broken again = handled.Broken
handled_by handed.Unwritten again = handled.Unwritten

-- how waiting ends where this comes next, and as many messages as may be were taken
abbrev pub last_of : Next → Awaited
last_of (Frame m) = awaited.Limit
last_of End = awaited.Failed
last_of Torn = awaited.Failed
last_of Fault = awaited.Failed
last_of (Bad fault) = awaited.Spoiled fault

-- it ends a run before its plan is done
abbrev pub IsEarly : Ending → Type 0
IsEarly ending.Whole = ⊥
IsEarly ending.Faulty = ⊥
IsEarly other = Unit {0}

-- All texts are written so far; or, where a run writes its lines, a beginning of them, and a fault is counted.
abbrev pub IsWritten : {C Steady : Type 0} → Start C Steady → Writing → List ℕ → Type 0
IsWritten {C} {Steady} s w texts = Appends s.writing.written w.written texts × (w.faults ≡ s.writing.faults)

abbrev pub IsPartWritten : {C Steady : Type 0} → Bool → Start C Steady → Writing → List ℕ → Type 0
IsPartWritten {C} {Steady} says s w texts = (says ≡ true) × WritesPrefix s.writing.written w.written texts × Rose s.writing.faults w.faults

-- Out of memory: a beginning of all texts is written, and no fault is counted.
abbrev pub IsSomeWritten : {C Steady : Type 0} → Start C Steady → Writing → List ℕ → Type 0
IsSomeWritten {C} {Steady} s w texts = WritesPrefix s.writing.written w.written texts × (w.faults ≡ s.writing.faults)

-- Over a steady host that has a peer for each of so many calls, no fault is counted, neither of these calls nor by the link; and of the peers
-- all but so many are still to come.
abbrev pub Steadily : Type 0 → ℕ → ℕ → Linking → Linking → Type 0
Steadily Steady faults calls old l = Steady → (more : ℕ) → HasPeers (calls + more) old → (faults ≡ 0) × (l.faults ≡ old.faults) × HasPeers more l

module _ {Steady : Type 0} (C : Type 0) (Stands : C → Client → Type 0) (lent : C → Option Answer) (IsOf : Standing C) (Has : Holding C) (k : Setting) where
  -- What was done, each thing in its place, fair and lawful, with this of the lines. It went by the plan: this is ahead, and the client lends the
  -- last answer. And the client stands for the last past.
  pub record Stepped (s : Start C Steady) (ahead : Ahead) (line : ℕ) (came : Count) (ds : List (Done C)) (P : List ℕ → Type 0) (code : C) : Type 0 where
    pub in_place : AreInPlace k.schema 0 s.past ds
    pub line_is : line_after 0 ds ≡ line
    pub came_is : taken_after none_taken ds ≡ came
    pub few : AreFew none_taken ds
    pub goes : GoBy (begun s.plan) (dids_of k.keeps ds)
    pub ahead_is : (stage_by k.keeps s.plan ds).ahead ≡ ahead
    pub answer_is : (stage_by k.keeps s.plan ds).answer ≡ lent code
    pub from : All (IsFrom k.number) (requests_of (steps_in ds))
    pub fair : AreFair IsOf k.limits s.code s.past (steps_in ds)
    pub lawful : AreLawful Has k.limits k.schema s.code s.past (steps_in ds)
    pub explained : AreFairlyExplained IsOf k.limits s.code s.past ds
    pub code_is : code_after s.code (steps_in ds) ≡ code
    pub stands : Stands code (past_after s.past (steps_in ds))
    pub rests : (past_after s.past (steps_in ds)).cut ≡ true → (past_after s.past (steps_in ds)).out ≡ None
    pub writes : P (flat_map (said_by k) ds)

  -- Calls that are over, and the present one, behind whose messages the feed has these bytes.
  pub record Course (s : Start C Steady) (ahead : Ahead) (line : ℕ) (came : Count) (P : List ℕ → Type 0) (feed : List ℕ) (code : C) : Type 0 where
    pub earlier : List (Call C)
    pub call : Call C
    pub are : AreCalls s.past earlier
    pub is : IsCall (left_by s.past earlier) call
    pub carried : All (IsCarried false) earlier
    pub before_dialled : AreAt s.address (calls_told earlier)
    pub dialled : IfSome call.told (λ t. t.address ≡ s.address)
    pub before_told : All (IsToldIf s.linking.peers) earlier
    pub is_told : IsToldIf s.linking.peers call
    pub left : call.left ≡ feed
    pub some : requests_of (steps_in (done_in call)) ≢ []
    pub taken : IfSome call.told (λ t. t.taken ≡ spelled (given_of (steps_in (done_in call))) ++ call.left)
    pub steps : Stepped s ahead line came (all_done (earlier ++ call ∷ [])) P code

  -- All that had to be sent was.
  pub record At (s : Start C Steady) (ahead : Ahead) (line : ℕ) (came : Count) (failed : Bool) (l : Linking) (P : List ℕ → Type 0) (feed : List ℕ)
      (code : C) : Type 0 where
    pub course : Course s ahead line came P feed code
    pub sent : IfSome course.call.told (λ t. SentAs course.call.torn (requests_of (steps_in (done_in course.call))) t.sent)
    pub counted : course.call.torn ≡ true → fails course.call ≡ true
    pub faults : RoseBy s.linking.faults (count_faults (course.earlier ++ course.call ∷ [])) l.faults
    pub there : IsThere (left_by s.past (course.earlier ++ course.call ∷ [])).cut course.earlier course.call s.linking l
    pub failed_is : list_any fails (course.earlier ++ course.call ∷ []) ≡ failed
    pub calm : failed ≡ false → l.faults ≡ s.linking.faults
    pub peers_stay : TellsStill s.linking l
    pub up : (left_by s.past (course.earlier ++ course.call ∷ [])).cut ≡ false → l.is_up ≡ true
    pub steadily : Steadily Steady (count_faults (course.earlier ++ course.call ∷ [])) (length course.earlier + 1) s.linking l

  -- The link failed while a request is out.
  pub record Broken (s : Start C Steady) (ahead : Ahead) (line : ℕ) (l : Linking) (P : List ℕ → Type 0) (feed : List ℕ) (code : C) : Type 0 where
    pub came : Count
    pub course : Course s ahead line came P feed code
    pub sent : IfSome course.call.told (λ t. SentAs course.call.torn (requests_of (steps_in (done_in course.call))) t.sent)
    pub faults : RoseBy s.linking.faults (count_faults course.earlier + one_if (is_fault course.call)) l.faults
    pub made : connections l ≡ connections s.linking ++ calls_told (course.earlier ++ course.call ∷ [])
    pub out : (left_by s.past (course.earlier ++ course.call ∷ [])).out ≢ None
    pub not_yet : fails course.call ≡ false
    pub peers_stay : TellsStill s.linking l
    pub steadily : Steadily Steady (count_faults course.earlier + one_if (is_fault course.call)) (length course.earlier + 1) s.linking l

  -- The client's link is cut.
  pub record Rests (s : Start C Steady) (ahead : Ahead) (line : ℕ) (failed : Bool) (l : Linking) (P : List ℕ → Type 0) (code : C) : Type 0 where
    pub calls : List (Call C)
    pub are : AreCalls s.past calls
    pub carried : All (IsCarried false) calls
    pub dialled : AreAt s.address (calls_told calls)
    pub each_told : All (IsToldIf s.linking.peers) calls
    pub peers_stay : TellsStill s.linking l
    pub made : connections l ≡ connections s.linking ++ calls_told calls
    pub faults : RoseBy s.linking.faults (count_faults calls) l.faults
    pub failed_is : list_any fails calls ≡ failed
    pub calm : failed ≡ false → l.faults ≡ s.linking.faults
    pub came : Count
    pub steps : Stepped s ahead line came (all_done calls) P code
    pub cut : (left_by s.past calls).cut ≡ true
    pub steadily : Steadily Steady (count_faults calls) (length calls) s.linking l

  -- The run ends before its plan is done, and leaves this client.
  pub record Over (s : Start C Steady) (ended : Ending) (l : Linking) (w : Writing) (code : C) : Type 0 where
    pub earlier : List (Call C)
    pub last : Call C
    pub are : AreCalls s.past (earlier ++ last ∷ [])
    pub in_place : AreInPlace k.schema 0 s.past (all_done (earlier ++ last ∷ []))
    pub few : AreFew none_taken (all_done (earlier ++ last ∷ []))
    pub goes : GoBy (begun s.plan) (dids_of k.keeps (all_done (earlier ++ last ∷ [])))
    pub from : All (IsFrom k.number) (requests_of (steps_in (all_done (earlier ++ last ∷ []))))
    pub fair : AreFair IsOf k.limits s.code s.past (steps_in (all_done (earlier ++ last ∷ [])))
    pub lawful : AreLawful Has k.limits k.schema s.code s.past (steps_in (all_done (earlier ++ last ∷ [])))
    pub explained : AreFairlyExplained IsOf k.limits s.code s.past (all_done (earlier ++ last ∷ []))
    pub code_is : is_bad ended ≡ false → code_after s.code (steps_in (all_done (earlier ++ last ∷ []))) ≡ code
    pub stands : is_bad ended ≡ false → Stands code (left_by s.past (earlier ++ last ∷ []))
    pub carried : All (IsCarried false) earlier
    pub last_carried : IsCarried (is_unwritten ended) last
    pub dialled : AreAt s.address (calls_told (earlier ++ last ∷ []))
    pub each_told : All (IsToldIf s.linking.peers) (earlier ++ last ∷ [])
    pub made : connections l ≡ connections s.linking ++ calls_told (earlier ++ last ∷ [])
    pub faults : RoseBy s.linking.faults (count_faults (earlier ++ last ∷ [])) l.faults
    pub steadily : Steadily Steady (count_faults (earlier ++ last ∷ [])) (length earlier + 1) s.linking l
    pub ends : (rest : Plan Task Answer) → EndsBy ended k.schema (earlier ++ last ∷ []) (left_by s.past (earlier ++ last ∷ [])) last.left rest
    pub writes : WritesAs k.says ended (flat_map (said_by k) (all_done (earlier ++ last ∷ []))) s.writing w

  -- The run is broken off for want of memory.
  abbrev pub BreaksOff : Start C Steady → Linking → Writing → Type 0
  BreaksOff s l w = RanInPart C IsOf Has k s.code s.past s.address s.plan s.linking l s.writing w

  -- nothing is out
  pub record Free (s : Start C Steady) (ahead : Ahead) (line : ℕ) (failed : Bool) (l : Linking) (P : List ℕ → Type 0) (feed : List ℕ) (code : C) : Type 0 where
    pub came : Count
    pub at : At s ahead line came failed l P feed code
    pub free : (left_by s.past (at.course.earlier ++ at.course.call ∷ [])).out ≡ None

  -- before anything was done
  pub record Unbegun (s : Start C Steady) (ahead : Ahead) (line : ℕ) (failed : Bool) (l : Linking) (P : List ℕ → Type 0) (code : C) : Type 0 where
    pub none : ahead ≡ (λ answer. s.plan)
    pub lends : lent code ≡ None
    pub first : line ≡ 0
    pub not_failed : failed ≡ false
    pub links : l ≡ s.linking
    pub written : P []
    pub code_is : code ≡ s.code
    pub stands : Stands s.code s.past
    pub cut : s.past.cut ≡ true
    pub out : s.past.out ≡ None

  -- a line may resume
  abbrev pub IsReady : Start C Steady → Ahead → ℕ → Bool → Linking → (List ℕ → Type 0) → List ℕ → C → Type 0
  IsReady s ahead line failed l P feed code = Free s ahead line failed l P feed code ⊎ Unbegun s ahead line failed l P code

  -- nothing is left to do
  pub record IsDone (s : Start C Steady) (failed : Bool) (l : Linking) (w : Writing) (feed : List ℕ) (code : C) : Type 0 where
    pub ahead : Ahead
    pub line : ℕ
    pub free : Free s ahead line failed l (IsWritten s w) feed code
    pub none : ahead (lent code) ≡ Nothing

  -- ---- what comes of a step, of waiting, and of a line

  abbrev pub Hands : Handed → Start C Steady → Ahead → ℕ → Count → Bool → Linking → Writing → List ℕ → C → Type 0
  Hands handed.Whole s ahead line came failed l w feed code = At s ahead line came failed l (IsWritten s w) feed code
  Hands handed.Broken s ahead line came failed l w feed code = Broken s ahead line l (IsWritten s w) feed code
  Hands handed.Unwritten s ahead line came failed l w feed code = Over s ending.Unwritten l w code

  abbrev pub EndsLine : LineEnd → Start C Steady → Ahead → ℕ → Bool → Linking → Writing → List ℕ → C → Type 0
  EndsLine line_end.Done s ahead line failed l w feed code = Free s ahead line failed l (IsWritten s w) feed code
  EndsLine line_end.Failed s ahead line failed l w feed code = Free s ahead line true l (IsWritten s w) feed code
  EndsLine (line_end.Ends ended) s ahead line failed l w feed code = Over s ended l w code × (IsEarly ended)

  abbrev pub Waits : Awaited → Start C Steady → Ahead → ℕ → Bool → Linking → Writing → List ℕ → C → Type 0
  Waits awaited.Free s ahead line failed l w feed code = Free s ahead line failed l (IsWritten s w) feed code
  Waits awaited.Failed s ahead line failed l w feed code = Broken s ahead line l (IsWritten s w) feed code
  Waits awaited.Unwritten s ahead line failed l w feed code = Over s ending.Unwritten l w code
  Waits (awaited.Spoiled fault) s ahead line failed l w feed code = Over s (ending.Spoiled fault) l w code
  Waits (awaited.Bad why) s ahead line failed l w feed code = Over s (ending.Bad why) l w code
  Waits awaited.Limit s ahead line failed l w feed code = Over s ending.Limit l w code

  -- the link failed, with the lines of that
  abbrev pub FailsAs : Bool → Start C Steady → Ahead → ℕ → Linking → Writing → List ℕ → C → Type 0
  FailsAs true s ahead line l w feed code = Free s ahead line true l (IsWritten s w) feed code
  FailsAs false s ahead line l w feed code = Over s ending.Unwritten l w code

  -- a message was taken, behind which these bytes are left, or is refused
  abbrev pub Handles : Handled → Start C Steady → Ahead → ℕ → Count → Bool → Message → Linking → Writing → List ℕ → C → Type 0
  Handles handled.Whole s ahead line came failed m l w after code = At s ahead line (one_more came) failed l (IsWritten s w) after code
  Handles handled.Again s ahead line came failed m l w after code = At s ahead line (anew came) failed l (IsWritten s w) after code
  Handles handled.Broken s ahead line came failed m l w after code = Broken s ahead line l (IsWritten s w) after code
  Handles handled.Unwritten s ahead line came failed m l w after code = Over s ending.Unwritten l w code
  Handles (handled.Refused why) s ahead line came failed m l w after code = Over s (ending.Bad why) l w code

  -- how a plan ends
  abbrev pub Finishes : Ending → Start C Steady → Linking → Writing → List ℕ → C → Type 0
  Finishes ending.Whole s l w feed code = IsDone s false l w feed code
  Finishes ending.Faulty s l w feed code = IsDone s true l w feed code
  Finishes ended s l w feed code = Over s ended l w code
