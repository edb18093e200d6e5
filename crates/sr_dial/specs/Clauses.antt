-- What the calls of a run's loops come to, wherever the run may stand before them. The clauses of their contracts are these.
use Rattle.std.specs.Prelude.{ℕ, Bool, true, false, List, [], ◌∷◌, ◌++◌, ◌+◌, ◌≤◌, ◌≡◌, Option, None, Result, IfOk, OnErr, IsTrue, flat_map}
use Rattle.std.specs.Option.{is_some}
use Rattle.sr_cell.specs.declared.fault.Fault.{Fault}
use Rattle.sr_cell.specs.declared.table.Table.{Table}
use Rattle.sr_io.specs.Told.{Linking, Writing}
use Rattle.sr_message.specs.declared.message.Message.{Message}
use Rattle.sr_model.specs.Queries as model
use Rattle.sr_query.specs.declared.query.Query.{Query}
use Rattle.sr_reader.specs.declared.script.Event as code
use Rattle.sr_reader.specs.declared.script.EventLine.{EventLine}
use Rattle.sr_reader.specs.Read.{Means}
use Rattle.sr_script.specs.TraceText.{line_text}
use Rattle.sr_wire.specs.Spelling.{has_spelling, spelling}
use Rattle.sr_session.specs.Clients.{Client}
use Rattle.sr_links.specs.Brought.{Holding}
use Rattle.sr_links.specs.Steps.{Standing, Deed, Resumed, WasCut}
use Rattle.sr_plan.specs.Plans.{Next}
use Rattle.sr_dial.specs.Calls.{Task, Do, Explain, Say}
use Rattle.sr_talk.specs.Serving.{spelled}
use Rattle.sr_dial.specs.Carrying.{Carries, CarriesInPart}
use Rattle.sr_dial.specs.Courses.{At, BreaksOff, Broken, EndsLine, FailsAs, Finishes, Free, Handles, Hands, IsReady, IsWritten, Start, Unbegun, Waits}
use Rattle.sr_dial.specs.Following.{Ahead, ahead_of}
use Rattle.sr_dial.specs.Jobs.{IsJob, number_of}
use Rattle.sr_dial.specs.Known.{IsDeed, IsPlain, IsTask, Setting}
use Rattle.sr_dial.specs.Runs.{RanInPart, RanSteadily, left_by, none_taken}
use Rattle.sr_dial.specs.declared.ending.Ending.{Ending}
use Rattle.sr_dial.specs.declared.parts.Answer.{Answer}
use Rattle.sr_dial.specs.declared.parts.Told.{Told}
use Rattle.sr_dial.specs.declared.plans.Job.{Job}
use Rattle.sr_dial.specs.declared.run.LineEnd.{LineEnd}
use Rattle.sr_dial.specs.declared.steps.Handed.{Handed}
use Rattle.sr_dial.specs.declared.waiting.Awaited.{Awaited}
use Rattle.sr_dial.specs.declared.waiting.Count.{Count}
use Rattle.sr_dial.specs.declared.waiting.Handled.{Handled}

-- a client by its contract: what the traits `Peer`, `Hearer` and `Asks` tell of it
abbrev pub Contract : Type 0 → Type 1
Contract C = record { has_told : Holding C; is_of : Standing C; stands : C → Client → Type 0; setting : C → Setting; lent : C → Option Answer; room : C → ℕ }

-- A step is carried out: what it sends is sent, and its lines are written; or, out of memory, a part of that.
abbrev pub CarriesStep : {H E : Type 0} → (H → Linking) → (H → Writing) → Result Handed E → Bool → List Table → ℕ → Told → H → H → Type 0
CarriesStep {H} {E} linking writing result says schema number told host new_host =
    IfOk result (λ handed. Carries says handed (linking host) (linking new_host) (writing host) (writing new_host) (spelled told.sent)
    (flat_map (line_text schema number) told.lines))

abbrev pub CarriesOff : {H E : Type 0} → (H → Linking) → (H → Writing) → Result Handed E → Bool → List Table → ℕ → Told → H → H → Type 0
CarriesOff {H} {E} linking writing result says schema number told host new_host =
    OnErr result (CarriesInPart says (linking host) (linking new_host) (writing host) (writing new_host) (spelled told.sent)
    (flat_map (line_text schema number) told.lines))

-- The parameters: the client's contract, and what a host links and writes.
module _ {C H : Type 0} (A : Contract C) (linking : H → Linking) (writing : H → Writing) (IsSteady : H → Type 0) where
  -- The client does what leaves the link as it is.
  abbrev pub AsksPlain : {E : Type 0} → Result Handed E → List Table → ℕ → code.Event → H → H → C → C → Type 0
  AsksPlain {E} result schema number event host new_host client new =
      (k : Setting) (first : H) (s : Start C (IsSteady first)) (steady : IsSteady first → IsSteady host) (ahead further : Ahead) (line : ℕ)
      (failed : Bool) (feed : List ℕ) (deed : Deed) → A.setting client ≡ k → schema ≡ k.schema
      → Free C A.stands A.lent A.is_of A.has_told k s ahead line failed (linking host) (IsWritten s (writing host)) feed client
      → IsDeed k.schema event deed → IsPlain deed → ahead (A.lent client) ≡ Next number (Do deed) further
      → IfOk result (λ handed. Hands C A.stands A.lent A.is_of A.has_told k handed s further number none_taken failed (linking new_host)
      (writing new_host) feed new)

  -- Out of memory: the same, broken off.
  abbrev pub PlainOff : {T E : Type 0} → Result T E → List Table → ℕ → code.Event → H → H → C → Type 0
  PlainOff {T} {E} result schema number event host new_host client =
      (k : Setting) (first : H) (s : Start C (IsSteady first)) (steady : IsSteady first → IsSteady host) (ahead further : Ahead) (line : ℕ)
      (failed : Bool) (feed : List ℕ) (deed : Deed) → A.setting client ≡ k → schema ≡ k.schema
      → Free C A.stands A.lent A.is_of A.has_told k s ahead line failed (linking host) (IsWritten s (writing host)) feed client
      → IsDeed k.schema event deed → IsPlain deed → ahead (A.lent client) ≡ Next number (Do deed) further
      → OnErr result (BreaksOff C A.stands A.lent A.is_of A.has_told k s (linking new_host) (writing new_host))

  -- The client explains a text.
  abbrev pub TellsText : {E : Type 0} → Result Handed E → List Table → ℕ → Result Query Fault → H → H → C → Type 0
  TellsText {E} result schema number query host new_host client =
      (k : Setting) (first : H) (s : Start C (IsSteady first)) (steady : IsSteady first → IsSteady host) (ahead further : Ahead) (line : ℕ)
      (failed : Bool) (feed : List ℕ) (text : Result model.Query Fault) → A.setting client ≡ k → schema ≡ k.schema
      → Free C A.stands A.lent A.is_of A.has_told k s ahead line failed (linking host) (IsWritten s (writing host)) feed client
      → Means k.schema query text → ahead (A.lent client) ≡ Next number (Explain text) further
      → IfOk result (λ handed. Hands C A.stands A.lent A.is_of A.has_told k handed s (λ answer. further None) number none_taken failed
      (linking new_host) (writing new_host) feed client)

  -- Out of memory: the same, broken off.
  abbrev pub TellsOff : {T E : Type 0} → Result T E → List Table → ℕ → Result Query Fault → H → H → C → Type 0
  TellsOff {T} {E} result schema number query host new_host client =
      (k : Setting) (first : H) (s : Start C (IsSteady first)) (steady : IsSteady first → IsSteady host) (ahead further : Ahead) (line : ℕ)
      (failed : Bool) (feed : List ℕ) (text : Result model.Query Fault) → A.setting client ≡ k → schema ≡ k.schema
      → Free C A.stands A.lent A.is_of A.has_told k s ahead line failed (linking host) (IsWritten s (writing host)) feed client
      → Means k.schema query text → ahead (A.lent client) ≡ Next number (Explain text) further
      → OnErr result (BreaksOff C A.stands A.lent A.is_of A.has_told k s (linking new_host) (writing new_host))

  -- A text is written.
  abbrev pub WritesText : {E : Type 0} → Result Handed E → ℕ → List ℕ → H → H → C → Type 0
  WritesText {E} result number bytes host new_host client =
      (k : Setting) (first : H) (s : Start C (IsSteady first)) (steady : IsSteady first → IsSteady host) (ahead further : Ahead) (line : ℕ)
      (failed : Bool) (feed : List ℕ) → A.setting client ≡ k → Free C A.stands A.lent A.is_of A.has_told k s ahead line failed (linking host)
      (IsWritten s (writing host)) feed client → ahead (A.lent client) ≡ Next number (Say bytes) further
      → IfOk result (λ handed. Hands C A.stands A.lent A.is_of A.has_told k handed s (λ answer. further None) number none_taken failed
      (linking new_host) (writing new_host) feed client)

  -- Out of memory: the same, broken off.
  abbrev pub WritesOff : {T E : Type 0} → Result T E → ℕ → List ℕ → H → H → C → Type 0
  WritesOff {T} {E} result number bytes host new_host client =
      (k : Setting) (first : H) (s : Start C (IsSteady first)) (steady : IsSteady first → IsSteady host) (ahead further : Ahead) (line : ℕ)
      (failed : Bool) (feed : List ℕ) → A.setting client ≡ k → Free C A.stands A.lent A.is_of A.has_told k s ahead line failed (linking host)
      (IsWritten s (writing host)) feed client → ahead (A.lent client) ≡ Next number (Say bytes) further
      → OnErr result (BreaksOff C A.stands A.lent A.is_of A.has_told k s (linking new_host) (writing new_host))

  -- The client cuts its link.
  abbrev pub CutsLink : {E : Type 0} → Result Handed E → List Table → ℕ → code.Event → H → H → C → C → Type 0
  CutsLink {E} result schema number event host new_host client new =
      (k : Setting) (first : H) (s : Start C (IsSteady first)) (steady : IsSteady first → IsSteady host) (ahead further : Ahead) (line : ℕ)
      (failed : Bool) (feed : List ℕ) → A.setting client ≡ k → schema ≡ k.schema
      → Free C A.stands A.lent A.is_of A.has_told k s ahead line failed (linking host) (IsWritten s (writing host)) feed client
      → IsDeed k.schema event WasCut → ahead (A.lent client) ≡ Next number (Do WasCut) further
      → IfOk result (λ handed. Hands C A.stands A.lent A.is_of A.has_told k handed s further number none_taken failed (linking new_host)
      (writing new_host) feed new)

  -- Out of memory: the same, broken off.
  abbrev pub CutsOff : {T E : Type 0} → Result T E → List Table → ℕ → code.Event → H → H → C → Type 0
  CutsOff {T} {E} result schema number event host new_host client =
      (k : Setting) (first : H) (s : Start C (IsSteady first)) (steady : IsSteady first → IsSteady host) (ahead further : Ahead) (line : ℕ)
      (failed : Bool) (feed : List ℕ) → A.setting client ≡ k → schema ≡ k.schema
      → Free C A.stands A.lent A.is_of A.has_told k s ahead line failed (linking host) (IsWritten s (writing host)) feed client
      → IsDeed k.schema event WasCut → ahead (A.lent client) ≡ Next number (Do WasCut) further
      → OnErr result (BreaksOff C A.stands A.lent A.is_of A.has_told k s (linking new_host) (writing new_host))

  -- The client resumes.
  abbrev pub BeginsLink : {E : Type 0} → Result Handed E → List Table → List ℕ → ℕ → code.Event → H → H → List ℕ → List ℕ → C → C → Type 0
  BeginsLink {E} result schema address number event host new_host feed new_feed client new =
      (k : Setting) (first : H) (s : Start C (IsSteady first)) (steady : IsSteady first → IsSteady host) (ahead further : Ahead) (line : ℕ)
      (failed : Bool) → s.address ≡ address → A.setting client ≡ k → schema ≡ k.schema
      → IsReady C A.stands A.lent A.is_of A.has_told k s ahead line failed (linking host) (IsWritten s (writing host)) feed client
      → IsDeed k.schema event Resumed → ahead (A.lent client) ≡ Next number (Do Resumed) further
      → IfOk result (λ handed. Hands C A.stands A.lent A.is_of A.has_told k handed s further number none_taken failed (linking new_host)
      (writing new_host) new_feed new)

  -- Out of memory: the same, broken off.
  abbrev pub BeginsOff : {T E : Type 0} → Result T E → List Table → List ℕ → ℕ → code.Event → H → H → List ℕ → C → Type 0
  BeginsOff {T} {E} result schema address number event host new_host feed client =
      (k : Setting) (first : H) (s : Start C (IsSteady first)) (steady : IsSteady first → IsSteady host) (ahead further : Ahead) (line : ℕ)
      (failed : Bool) → s.address ≡ address → A.setting client ≡ k → schema ≡ k.schema
      → IsReady C A.stands A.lent A.is_of A.has_told k s ahead line failed (linking host) (IsWritten s (writing host)) feed client
      → IsDeed k.schema event Resumed → ahead (A.lent client) ≡ Next number (Do Resumed) further
      → OnErr result (BreaksOff C A.stands A.lent A.is_of A.has_told k s (linking new_host) (writing new_host))

  -- The link failed, and the client is cut.
  abbrev pub FailsLink : {E : Type 0} → Result Bool E → List Table → ℕ → H → H → C → C → Type 0
  FailsLink {E} result schema number host new_host client new =
      (k : Setting) (first : H) (s : Start C (IsSteady first)) (steady : IsSteady first → IsSteady host) (ahead : Ahead) (feed : List ℕ)
      → A.setting client ≡ k → schema ≡ k.schema → Broken C A.stands A.lent A.is_of A.has_told k s ahead number (linking host)
      (IsWritten s (writing host)) feed client
      → IfOk result (λ all. FailsAs C A.stands A.lent A.is_of A.has_told k all s ahead number (linking new_host) (writing new_host) feed new)

  -- Out of memory: the same, broken off.
  abbrev pub FailsOff : {T E : Type 0} → Result T E → List Table → ℕ → H → H → C → Type 0
  FailsOff {T} {E} result schema number host new_host client =
      (k : Setting) (first : H) (s : Start C (IsSteady first)) (steady : IsSteady first → IsSteady host) (ahead : Ahead) (feed : List ℕ)
      → A.setting client ≡ k → schema ≡ k.schema → Broken C A.stands A.lent A.is_of A.has_told k s ahead number (linking host)
      (IsWritten s (writing host)) feed client
      → OnErr result (BreaksOff C A.stands A.lent A.is_of A.has_told k s (linking new_host) (writing new_host))

  -- One message is taken, or refused.
  abbrev pub HandlesOne : {E : Type 0} → Result Handled E → List Table → ℕ → Message → H → H → C → C → Type 0
  HandlesOne {E} result schema number message host new_host client new =
      (k : Setting) (first : H) (s : Start C (IsSteady first)) (steady : IsSteady first → IsSteady host) (ahead : Ahead) (count : Count)
      (failed : Bool) (after : List ℕ) → count.taken + 1 ≤ 1000000 → A.setting client ≡ k → schema ≡ k.schema
      → (h : At C A.stands A.lent A.is_of A.has_told k s ahead number count failed (linking host) (IsWritten s (writing host))
      (spelling message ++ after) client) → is_some (left_by s.past (h.course.earlier ++ h.course.call ∷ [])).out ≡ true → IsTrue (has_spelling message)
      → IfOk result (λ handled. Handles C A.stands A.lent A.is_of A.has_told k handled s ahead number count failed message (linking new_host)
      (writing new_host) after new)

  -- Out of memory: the same, broken off.
  abbrev pub HandlesOff : {T E : Type 0} → Result T E → List Table → ℕ → Message → H → H → C → Type 0
  HandlesOff {T} {E} result schema number message host new_host client =
      (k : Setting) (first : H) (s : Start C (IsSteady first)) (steady : IsSteady first → IsSteady host) (ahead : Ahead) (count : Count)
      (failed : Bool) (after : List ℕ) → count.taken + 1 ≤ 1000000 → A.setting client ≡ k → schema ≡ k.schema
      → (h : At C A.stands A.lent A.is_of A.has_told k s ahead number count failed (linking host) (IsWritten s (writing host))
      (spelling message ++ after) client) → is_some (left_by s.past (h.course.earlier ++ h.course.call ∷ [])).out ≡ true → IsTrue (has_spelling message)
      → OnErr result (BreaksOff C A.stands A.lent A.is_of A.has_told k s (linking new_host) (writing new_host))

  -- Messages are taken until nothing is out.
  abbrev pub Awaits : {E : Type 0} → Result Awaited E → List Table → ℕ → H → H → List ℕ → List ℕ → C → C → Type 0
  Awaits {E} result schema number host new_host feed new_feed client new =
      (k : Setting) (first : H) (s : Start C (IsSteady first)) (steady : IsSteady first → IsSteady host) (ahead : Ahead) (failed : Bool)
      → A.setting client ≡ k → schema ≡ k.schema → At C A.stands A.lent A.is_of A.has_told k s ahead number none_taken failed (linking host)
      (IsWritten s (writing host)) feed client
      → IfOk result (λ how. Waits C A.stands A.lent A.is_of A.has_told k how s ahead number failed (linking new_host) (writing new_host) new_feed new)

  -- Out of memory: the same, broken off.
  abbrev pub AwaitsOff : {T E : Type 0} → Result T E → List Table → ℕ → H → H → List ℕ → C → Type 0
  AwaitsOff {T} {E} result schema number host new_host feed client =
      (k : Setting) (first : H) (s : Start C (IsSteady first)) (steady : IsSteady first → IsSteady host) (ahead : Ahead) (failed : Bool)
      → A.setting client ≡ k → schema ≡ k.schema → At C A.stands A.lent A.is_of A.has_told k s ahead number none_taken failed (linking host)
      (IsWritten s (writing host)) feed client
      → OnErr result (BreaksOff C A.stands A.lent A.is_of A.has_told k s (linking new_host) (writing new_host))

  -- As many messages as may be were taken.
  abbrev pub EndsMany : {E : Type 0} → Result Awaited E → ℕ → H → H → List ℕ → List ℕ → C → Type 0
  EndsMany {E} result number host new_host feed new_feed client =
      (k : Setting) (first : H) (s : Start C (IsSteady first)) (steady : IsSteady first → IsSteady host) (ahead : Ahead) (count : Count)
      (failed : Bool) → count.taken ≡ 1000000 → At C A.stands A.lent A.is_of A.has_told k s ahead number count failed (linking host)
      (IsWritten s (writing host)) feed client
      → IfOk result (λ how. Waits C A.stands A.lent A.is_of A.has_told k how s ahead number failed (linking new_host) (writing new_host) new_feed client)

  -- Out of memory: the same, broken off.
  abbrev pub ManyOff : {T E : Type 0} → Result T E → ℕ → H → H → List ℕ → C → Type 0
  ManyOff {T} {E} result number host new_host feed client =
      (k : Setting) (first : H) (s : Start C (IsSteady first)) (steady : IsSteady first → IsSteady host) (ahead : Ahead) (count : Count)
      (failed : Bool) → count.taken ≡ 1000000 → At C A.stands A.lent A.is_of A.has_told k s ahead number count failed (linking host)
      (IsWritten s (writing host)) feed client
      → OnErr result (BreaksOff C A.stands A.lent A.is_of A.has_told k s (linking new_host) (writing new_host))

  -- A job is begun where nothing is out.
  abbrev pub StartsJob : {E : Type 0} → Result Handed E → List Table → List ℕ → Job → H → H → List ℕ → List ℕ → C → C → Type 0
  StartsJob {E} result schema address job host new_host feed new_feed client new =
      (k : Setting) (first : H) (s : Start C (IsSteady first)) (steady : IsSteady first → IsSteady host) (ahead further : Ahead) (number : ℕ)
      (failed : Bool) (task : Task) → s.address ≡ address → A.setting client ≡ k → schema ≡ k.schema
      → Free C A.stands A.lent A.is_of A.has_told k s ahead number failed (linking host) (IsWritten s (writing host)) feed client
      → IsJob k.schema job task → ahead (A.lent client) ≡ Next (number_of job) task further
      → IfOk result (λ handed. Hands C A.stands A.lent A.is_of A.has_told k handed s (ahead_of task further) (number_of job) none_taken failed
      (linking new_host) (writing new_host) new_feed new)

  -- Out of memory: the same, broken off.
  abbrev pub JobOff : {T E : Type 0} → Result T E → List Table → List ℕ → Job → H → H → List ℕ → C → Type 0
  JobOff {T} {E} result schema address job host new_host feed client =
      (k : Setting) (first : H) (s : Start C (IsSteady first)) (steady : IsSteady first → IsSteady host) (ahead further : Ahead) (number : ℕ)
      (failed : Bool) (task : Task) → s.address ≡ address → A.setting client ≡ k → schema ≡ k.schema
      → Free C A.stands A.lent A.is_of A.has_told k s ahead number failed (linking host) (IsWritten s (writing host)) feed client
      → IsJob k.schema job task → ahead (A.lent client) ≡ Next (number_of job) task further
      → OnErr result (BreaksOff C A.stands A.lent A.is_of A.has_told k s (linking new_host) (writing new_host))

  -- What a line asks is begun where nothing is out.
  abbrev pub StartsLine : {E : Type 0} → Result Handed E → List Table → List ℕ → EventLine → H → H → List ℕ → List ℕ → C → C → Type 0
  StartsLine {E} result schema address line host new_host feed new_feed client new =
      (k : Setting) (first : H) (s : Start C (IsSteady first)) (steady : IsSteady first → IsSteady host) (ahead further : Ahead) (number : ℕ)
      (failed : Bool) (task : Task) → s.address ≡ address → A.setting client ≡ k → schema ≡ k.schema
      → Free C A.stands A.lent A.is_of A.has_told k s ahead number failed (linking host) (IsWritten s (writing host)) feed client
      → IsTask k.schema line.event task → ahead (A.lent client) ≡ Next line.number task further
      → IfOk result (λ handed. Hands C A.stands A.lent A.is_of A.has_told k handed s (ahead_of task further) line.number none_taken failed
      (linking new_host) (writing new_host) new_feed new)

  -- Out of memory: the same, broken off.
  abbrev pub LineOff : {T E : Type 0} → Result T E → List Table → List ℕ → EventLine → H → H → List ℕ → C → Type 0
  LineOff {T} {E} result schema address line host new_host feed client =
      (k : Setting) (first : H) (s : Start C (IsSteady first)) (steady : IsSteady first → IsSteady host) (ahead further : Ahead) (number : ℕ)
      (failed : Bool) (task : Task) → s.address ≡ address → A.setting client ≡ k → schema ≡ k.schema
      → Free C A.stands A.lent A.is_of A.has_told k s ahead number failed (linking host) (IsWritten s (writing host)) feed client
      → IsTask k.schema line.event task → ahead (A.lent client) ≡ Next line.number task further
      → OnErr result (BreaksOff C A.stands A.lent A.is_of A.has_told k s (linking new_host) (writing new_host))

  -- A job is done, until nothing is out.
  abbrev pub EndsJob : {E : Type 0} → Result LineEnd E → List Table → List ℕ → Job → H → H → List ℕ → List ℕ → C → C → Type 0
  EndsJob {E} result schema address job host new_host feed new_feed client new =
      (k : Setting) (first : H) (s : Start C (IsSteady first)) (steady : IsSteady first → IsSteady host) (ahead further : Ahead) (number : ℕ)
      (failed : Bool) (task : Task) → s.address ≡ address → A.setting client ≡ k → schema ≡ k.schema
      → Free C A.stands A.lent A.is_of A.has_told k s ahead number failed (linking host) (IsWritten s (writing host)) feed client
      → IsJob k.schema job task → ahead (A.lent client) ≡ Next (number_of job) task further
      → IfOk result (λ end. EndsLine C A.stands A.lent A.is_of A.has_told k end s (ahead_of task further) (number_of job) failed (linking new_host)
      (writing new_host) new_feed new)

  -- A line that came so far is done.
  abbrev pub EndsHanded : {E : Type 0} → Result LineEnd E → List Table → ℕ → Handed → H → H → List ℕ → List ℕ → C → C → Type 0
  EndsHanded {E} result schema number handed host new_host feed new_feed client new =
      (k : Setting) (first : H) (s : Start C (IsSteady first)) (steady : IsSteady first → IsSteady host) (ahead : Ahead) (failed : Bool)
      → A.setting client ≡ k → schema ≡ k.schema → Hands C A.stands A.lent A.is_of A.has_told k handed s ahead number none_taken failed
      (linking host) (writing host) feed client
      → IfOk result (λ end. EndsLine C A.stands A.lent A.is_of A.has_told k end s ahead number failed (linking new_host) (writing new_host) new_feed new)

  -- Out of memory: the same, broken off.
  abbrev pub HandedOff : {T E : Type 0} → Result T E → List Table → ℕ → Handed → H → H → List ℕ → C → Type 0
  HandedOff {T} {E} result schema number handed host new_host feed client =
      (k : Setting) (first : H) (s : Start C (IsSteady first)) (steady : IsSteady first → IsSteady host) (ahead : Ahead) (failed : Bool)
      → A.setting client ≡ k → schema ≡ k.schema → Hands C A.stands A.lent A.is_of A.has_told k handed s ahead number none_taken failed
      (linking host) (writing host) feed client
      → OnErr result (BreaksOff C A.stands A.lent A.is_of A.has_told k s (linking new_host) (writing new_host))

  -- What comes is taken until nothing is out.
  abbrev pub Settles : {E : Type 0} → Result LineEnd E → List Table → ℕ → H → H → List ℕ → List ℕ → C → C → Type 0
  Settles {E} result schema number host new_host feed new_feed client new =
      (k : Setting) (first : H) (s : Start C (IsSteady first)) (steady : IsSteady first → IsSteady host) (ahead : Ahead) (failed : Bool)
      → A.setting client ≡ k → schema ≡ k.schema → At C A.stands A.lent A.is_of A.has_told k s ahead number none_taken failed (linking host)
      (IsWritten s (writing host)) feed client
      → IfOk result (λ end. EndsLine C A.stands A.lent A.is_of A.has_told k end s ahead number failed (linking new_host) (writing new_host) new_feed new)

  -- The link failed, and the line ends so.
  abbrev pub EndsFailed : {E : Type 0} → Result LineEnd E → List Table → ℕ → H → H → C → C → Type 0
  EndsFailed {E} result schema number host new_host client new =
      (k : Setting) (first : H) (s : Start C (IsSteady first)) (steady : IsSteady first → IsSteady host) (ahead : Ahead) (failed : Bool)
      (feed : List ℕ) → A.setting client ≡ k → schema ≡ k.schema → Broken C A.stands A.lent A.is_of A.has_told k s ahead number (linking host)
      (IsWritten s (writing host)) feed client
      → IfOk result (λ end. EndsLine C A.stands A.lent A.is_of A.has_told k end s ahead number failed (linking new_host) (writing new_host) feed new)

  -- Out of memory: the same, broken off.
  abbrev pub FailedOff : {T E : Type 0} → Result T E → List Table → ℕ → H → H → C → Type 0
  FailedOff {T} {E} result schema number host new_host client =
      (k : Setting) (first : H) (s : Start C (IsSteady first)) (steady : IsSteady first → IsSteady host) (ahead : Ahead) (failed : Bool)
      (feed : List ℕ) → A.setting client ≡ k → schema ≡ k.schema → Broken C A.stands A.lent A.is_of A.has_told k s ahead number (linking host)
      (IsWritten s (writing host)) feed client
      → OnErr result (BreaksOff C A.stands A.lent A.is_of A.has_told k s (linking new_host) (writing new_host))

  -- The jobs of a plan are done where nothing is out.
  abbrev pub RunsAll : {S E : Type 0} → (List Table → S → Ahead → Type 0) → Result Ending E → List Table → List ℕ → Bool → S → H → H → List ℕ → List ℕ
      → C → C → Type 0
  RunsAll {S} {E} follows result schema address failed plans host new_host feed new_feed client new =
      (k : Setting) (first : H) (s : Start C (IsSteady first)) (steady : IsSteady first → IsSteady host) (ahead : Ahead) (number : ℕ)
      → s.address ≡ address → A.setting client ≡ k → schema ≡ k.schema
      → Free C A.stands A.lent A.is_of A.has_told k s ahead number failed (linking host) (IsWritten s (writing host)) feed client
      → follows k.schema plans ahead
      → IfOk result (λ ending. Finishes C A.stands A.lent A.is_of A.has_told k ending s (linking new_host) (writing new_host) new_feed new)

  -- Out of memory: the same, broken off.
  abbrev pub PlanOff : {S T E : Type 0} → (List Table → S → Ahead → Type 0) → Result T E → List Table → List ℕ → Bool → S → H → H → List ℕ → C → Type 0
  PlanOff {S} {T} {E} follows result schema address failed plans host new_host feed client =
      (k : Setting) (first : H) (s : Start C (IsSteady first)) (steady : IsSteady first → IsSteady host) (ahead : Ahead) (number : ℕ)
      → s.address ≡ address → A.setting client ≡ k → schema ≡ k.schema
      → Free C A.stands A.lent A.is_of A.has_told k s ahead number failed (linking host) (IsWritten s (writing host)) feed client
      → follows k.schema plans ahead
      → OnErr result (BreaksOff C A.stands A.lent A.is_of A.has_told k s (linking new_host) (writing new_host))

  -- The first resume is done.
  abbrev pub EndsFirst : {E : Type 0} → Result LineEnd E → List Table → List ℕ → H → H → List ℕ → C → C → Type 0
  EndsFirst {E} result schema address host new_host new_feed client new =
      (k : Setting) (first : H) (s : Start C (IsSteady first)) (steady : IsSteady first → IsSteady host) (ahead : Ahead) → s.address ≡ address
      → A.setting client ≡ k → schema ≡ k.schema → s.plan ≡ Next 0 (Do Resumed) ahead
      → Unbegun C A.stands A.lent A.is_of A.has_told k s (λ answer. s.plan) 0 false (linking host) (IsWritten s (writing host)) client
      → IfOk result (λ end. EndsLine C A.stands A.lent A.is_of A.has_told k end s ahead 0 false (linking new_host) (writing new_host) new_feed new)

  -- Out of memory: the same, broken off.
  abbrev pub FirstOff : {T E : Type 0} → Result T E → List Table → List ℕ → H → H → C → Type 0
  FirstOff {T} {E} result schema address host new_host client =
      (k : Setting) (first : H) (s : Start C (IsSteady first)) (steady : IsSteady first → IsSteady host) (ahead : Ahead) → s.address ≡ address
      → A.setting client ≡ k → schema ≡ k.schema → s.plan ≡ Next 0 (Do Resumed) ahead
      → Unbegun C A.stands A.lent A.is_of A.has_told k s (λ answer. s.plan) 0 false (linking host) (IsWritten s (writing host)) client
      → OnErr result (BreaksOff C A.stands A.lent A.is_of A.has_told k s (linking new_host) (writing new_host))

  -- The jobs of a plan are done behind the first resume.
  abbrev pub GoesOnWith : {S E : Type 0} → (List Table → S → Ahead → Type 0) → Result Ending E → List Table → List ℕ → LineEnd → S → H → H → List ℕ
      → List ℕ → C → C → Type 0
  GoesOnWith {S} {E} follows result schema address end plans host new_host feed new_feed client new =
      (k : Setting) (first : H) (s : Start C (IsSteady first)) (steady : IsSteady first → IsSteady host) (ahead : Ahead) → s.address ≡ address
      → A.setting client ≡ k → schema ≡ k.schema → EndsLine C A.stands A.lent A.is_of A.has_told k end s ahead 0 false (linking host)
      (writing host) feed client → follows k.schema plans ahead
      → IfOk result (λ ending. Finishes C A.stands A.lent A.is_of A.has_told k ending s (linking new_host) (writing new_host) new_feed new)

  -- Out of memory: the same, broken off.
  abbrev pub GoesOnOff : {S T E : Type 0} → (List Table → S → Ahead → Type 0) → Result T E → List Table → List ℕ → LineEnd → S → H → H → List ℕ → C → Type 0
  GoesOnOff {S} {T} {E} follows result schema address end plans host new_host feed client =
      (k : Setting) (first : H) (s : Start C (IsSteady first)) (steady : IsSteady first → IsSteady host) (ahead : Ahead) → s.address ≡ address
      → A.setting client ≡ k → schema ≡ k.schema → EndsLine C A.stands A.lent A.is_of A.has_told k end s ahead 0 false (linking host)
      (writing host) feed client → follows k.schema plans ahead
      → OnErr result (BreaksOff C A.stands A.lent A.is_of A.has_told k s (linking new_host) (writing new_host))

  -- A run is made, from each past for which the client stands and whose link is cut.
  abbrev pub RunsFrom : {S E : Type 0} → (List Table → S → Ahead → Type 0) → Result Ending E → List Table → List ℕ → S → H → H → C → C → Type 0
  RunsFrom {S} {E} follows result schema address plans host new_host client new =
      (c : Client) (ahead : Ahead) → A.stands client c → c.cut ≡ true → c.out ≡ None → follows schema plans ahead
      → IfOk result (λ ending. RanSteadily C (IsSteady host) A.stands A.is_of A.has_told (A.setting client) client c address
      (Next 0 (Do Resumed) ahead) ending (linking host) (linking new_host) (writing host) (writing new_host) new)

  -- Out of memory: the same, broken off.
  abbrev pub RunsOff : {S T E : Type 0} → (List Table → S → Ahead → Type 0) → Result T E → List Table → List ℕ → S → H → H → C → Type 0
  RunsOff {S} {T} {E} follows result schema address plans host new_host client =
      (c : Client) (ahead : Ahead) → A.stands client c → c.cut ≡ true → c.out ≡ None → follows schema plans ahead
      → OnErr result (RanInPart C A.is_of A.has_told (A.setting client) client c address (Next 0 (Do Resumed) ahead) (linking host) (linking new_host)
      (writing host) (writing new_host))
