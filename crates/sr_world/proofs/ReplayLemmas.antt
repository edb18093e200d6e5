-- From runs of some events to the trace of a script.
use Rattle.std.proofs.Common.{◌≡◌, ℕ, Bool, true, List, [], ◌∷◌, ◌++◌, length, Option, Some, None, Ok, Err, refl, subst, sym, ◌∙◌, ap, append_assoc, append-nil, arith, inl, inr, suc, ◌+◌, ◌*◌, ◌<◌, ◌≤◌, ◌^◌}
use Rattle.std.specs.Prelude.{◌⊎◌, IsTrue, IfOk, OnOk, IsErrOf, Result, flat_map}
use Rattle.std.specs.List.{list_all, All, AllByRecursion, AllZip}
use Rattle.std.proofs.lemmas.Bool.{and_parts}
use Rattle.std.proofs.lemmas.Result.{IfOk-weaker}
use Rattle.std.proofs.lemmas.List.{length-replicate}
use Rattle.std.proofs.lemmas.List.Elements.{recursion_from_All}
use Rattle.std.proofs.Math.Seq.{take-length}
use Rattle.std.specs.Io.KnownBytes.{Appends}
use Rattle.sr_cell.specs.declared.table.Table.{Table}
use Rattle.sr_lines.specs.Events.{ScriptEvent}
use Rattle.sr_model.specs.Statements.{Tables}
use Rattle.sr_lines.specs.Lines.{lines_of}
use Rattle.sr_lines.specs.Creates.{Creates}
use Rattle.sr_tables.specs.Stored.{no_rows}
use Rattle.sr_load.specs.Filling.{filled}
use Rattle.sr_load.specs.declared.fill.Load.{Load}
use Rattle.sr_reader.specs.Lined.{AreLines, AreOf}
use Rattle.sr_reader.specs.declared.line.Line.{Line}
use Rattle.sr_reader.specs.declared.script.Event as code
use Rattle.sr_reader.specs.declared.script.EventLine.{EventLine}
use Rattle.sr_reader.specs.declared.script.Script.{Script}
use Rattle.sr_reader.specs.Read.{Fits, IsRead, AreEvents, IsEvent, IsEventLine, event_fits}
use Rattle.sr_script.specs.declared.line.TraceLine.{TraceLine}
use Rattle.sr_script.specs.Printable.{HasNumbers, IsNumber}
use Rattle.sr_script.specs.TraceText.{line_text, trace_text}
use Rattle.sr_session.specs.Scenes.{Scene, new_pair}
use Rattle.sr_server.specs.Servers.{IsClientNumber}
use Rattle.sr_runs.specs.Runs.{Steps, ends, numbered}
use Rattle.sr_runs.proofs.LineLemmas.{numbered-text}
use Rattle.sr_io.specs.Pieces.{WritesPrefix}
use Rattle.sr_world.specs.declared.world.World.{World}
use Rattle.sr_world.specs.declared.world.Options.{Options}
use Rattle.sr_world.specs.Worlds.{Goes, Represents, most_drawn}
use Rattle.sr_world.specs.Replay.{start, outside, Trace, Wrote, WrotePart}
use Rattle.sr_world.specs.Ran.{NumbersFit, Ran, RanWhole, RanPart, Traced, TracedWhole, TracedPart}
use Rattle.sr_query.specs.Bound.{is_table}
use Rattle.sr_world.proofs.PlacedEvents.{events-placed, first-events, printable}
use Rattle.sr_world.proofs.RunLemmas.{Ran-none, Ran-one, RanWhole-append, RanPart-behind}

Appends-none : (known : Option (List ℕ)) → Appends known known []
Appends-none None = tt
Appends-none (Some bytes) = sym (append-nil bytes)

WritesPrefix-whole : (first last : Option (List ℕ)) (bytes : List ℕ) → Appends first last bytes → WritesPrefix first last bytes
WritesPrefix-whole first last bytes p = record { count = length bytes; within = omega arith; appended = rw (take-length bytes) p }

RanWhole-none : (eager : Bool) (schema : List Table) (w : World) (known : Option (List ℕ)) → RanWhole eager schema [] w w known known
RanWhole-none eager schema w known = record { trace = []; ran = Ran-none eager schema w; written = Appends-none known }

-- all events so far, of those that there are
RanPart-whole : (eager : Bool) (schema : List Table) (a b all : List (ℕ × ScriptEvent)) (old mid : World) (first last : Option (List ℕ))
    → RanWhole eager schema a old mid first last → all ≡ a ++ b → RanPart eager schema all old first last
RanPart-whole eager schema a b all old mid first last p same = record {
  done = a;
  left = b;
  split = same;
  mid = mid;
  trace = p.trace;
  ran = p.ran;
  written = WritesPrefix-whole first last p.trace p.written;
}

-- all events so far, and one more, whose text was written in part
RanPart-more : (eager : Bool) (schema : List Table) (a : List (ℕ × ScriptEvent)) (event : ℕ × ScriptEvent) (b all : List (ℕ × ScriptEvent)) (old mid new : World) (first at last : Option (List ℕ)) (text : List ℕ)
    → RanWhole eager schema a old mid first at → Ran eager schema (event ∷ []) mid new text → WritesPrefix at last text → all ≡ a ++ event ∷ b → RanPart eager schema all old first last
RanPart-more eager schema a event b all old mid new first at last text p q written same =
    let one : RanPart eager schema (event ∷ b) mid at last = record { done = event ∷ []; left = b; split = refl; mid = new; trace = text; ran = q; written = written } in
    RanPart-behind p one same

-- ---- one line

-- each line has the number of the event
numbers-fit : (schema : List Table) (number : ℕ) → IsNumber number → (lines : List TraceLine) → AllByRecursion (HasNumbers schema) lines
    → AllByRecursion (NumbersFit schema) (numbered number lines)
numbers-fit schema number small [] all = tt
numbers-fit schema number small (l ∷ lines) all = ((small, all.0), numbers-fit schema number small lines all.1)

ran-text : {T E : Type 0} (eager : Bool) (bytes : T → List ℕ) (r : Result T E) (schema : List Table) (event : ℕ × ScriptEvent) (old new : World) (lines : List TraceLine)
    → Goes (λ s. Steps eager s event.1) old new lines → IsNumber event.0 → OnOk r (All (HasNumbers schema) lines) → IfOk r (λ text. bytes text ≡ trace_text schema (numbered event.0 lines))
    → IfOk r (λ text. Ran eager schema (event ∷ []) old new (bytes text))
ran-text {T} {E} eager bytes (Ok text) schema event old new lines does small fit is =
    Ran-one eager schema event old new lines (bytes text) does (numbers-fit schema event.0 small lines (recursion_from_All (HasNumbers schema) lines fit)) is
ran-text {T} {E} eager bytes (Err e) schema event old new lines does small fit is = tt

-- the text of a line's event
pub ran-event : {T E : Type 0} (eager : Bool) (bytes : T → List ℕ) (r : Result T E) (schema tables : List Table) (line : EventLine) (event : ℕ × ScriptEvent) (old new : World) (lines : List TraceLine)
    → IsEventLine tables line event → ((meaning : ScriptEvent) → IsEvent tables line.event meaning → Goes (λ s. Steps eager s meaning) old new lines)
    → IsNumber line.number → OnOk r (All (HasNumbers schema) lines) → IfOk r (λ text. bytes text ≡ flat_map (line_text schema line.number) lines)
    → IfOk r (λ text. Ran eager schema (event ∷ []) old new (bytes text))
ran-event {T} {E} eager bytes r schema tables line event old new lines is does small fit told =
    subst (λ event. IfOk r (λ text. Ran eager schema (event ∷ []) old new (bytes text))) (sym is.2)
    (ran-text eager bytes r schema (line.number, is.0) old new lines (does is.0 is.1) small fit
    (IfOk-weaker r (λ text. bytes text ≡ flat_map (line_text schema line.number) lines) (λ text. bytes text ≡ trace_text schema (numbered line.number lines))
    (λ text same. same ∙ numbered-text schema line.number lines) told))

-- what a line that stands for an event says
pub line-event : (tables : List Table) (line : EventLine) → (event : ℕ × ScriptEvent) × IsEventLine tables line event → (meaning : ScriptEvent) × IsEvent tables line.event meaning
line-event tables line is = (is.1.0, is.1.1)

-- ---- lines, each with the event that it stands for

-- the first events ran, and the lines that are left stand for the others
pub record RanSome (eager : Bool) (schema : List Table) (left : List EventLine) (events : List (ℕ × ScriptEvent)) (old new : World) (before after : Option (List ℕ)) : Type 0 where
  pub done : List (ℕ × ScriptEvent)
  pub rest : List (ℕ × ScriptEvent)
  pub split : events ≡ done ++ rest
  pub zip : AllZip (IsEventLine schema) left rest
  pub ran : RanWhole eager schema done old new before after

pub RanSome-none : (eager : Bool) (schema : List Table) (lines left : List EventLine) (events : List (ℕ × ScriptEvent)) (w : World) (known : Option (List ℕ))
    → left ≡ lines → AllZip (IsEventLine schema) lines events → RanSome eager schema left events w w known known
RanSome-none eager schema lines left events w known all zip = record {
  done = [];
  rest = events;
  split = refl;
  zip = subst (λ ls. AllZip (IsEventLine schema) ls events) (sym all) zip;
  ran = RanWhole-none eager schema w known;
}

pub RanSome-all : (eager : Bool) (schema : List Table) (left : List EventLine) (events : List (ℕ × ScriptEvent)) (old new : World) (before after : Option (List ℕ))
    → left ≡ [] → RanSome eager schema left events old new before after → RanWhole eager schema events old new before after
RanSome-all eager schema left events old new before after none some =
    by some.rest some.split (subst (λ ls. AllZip (IsEventLine schema) ls some.rest) none some.zip)
  where
    by : (rest : List (ℕ × ScriptEvent)) → events ≡ some.done ++ rest → AllZip (IsEventLine schema) [] rest → RanWhole eager schema events old new before after
    by [] split zip = subst (λ all. RanWhole eager schema all old new before after) (sym (split ∙ append-nil some.done)) some.ran
    by (event ∷ rest) split zip = absurd zip

pub RanSome-part : (eager : Bool) (schema : List Table) (left : List EventLine) (events : List (ℕ × ScriptEvent)) (old new : World) (before after : Option (List ℕ))
    → RanSome eager schema left events old new before after → RanPart eager schema events old before after
RanSome-part eager schema left events old new before after some = RanPart-whole eager schema some.done some.rest events old new before after some.ran some.split

-- the event of the next line, and those of the lines behind it
record Next (schema : List Table) (line : EventLine) (later : List EventLine) (rest : List (ℕ × ScriptEvent)) : Type 0 where
  event : ℕ × ScriptEvent
  others : List (ℕ × ScriptEvent)
  is : rest ≡ event ∷ others
  said : IsEventLine schema line event
  zip : AllZip (IsEventLine schema) later others

next-event : (schema : List Table) (left : List EventLine) (line : EventLine) (later : List EventLine) (rest : List (ℕ × ScriptEvent))
    → left ≡ line ∷ later → AllZip (IsEventLine schema) left rest → Next schema line later rest
next-event schema left line later rest turn zip = by rest (subst (λ ls. AllZip (IsEventLine schema) ls rest) turn zip)
  where
    by : (rest : List (ℕ × ScriptEvent)) → AllZip (IsEventLine schema) (line ∷ later) rest → Next schema line later rest
    by [] zip = absurd zip
    by (event ∷ others) zip = record { event = event; others = others; is = refl; said = zip.0; zip = zip.1 }

-- its text was written in part
pub RanSome-more : (eager : Bool) (schema : List Table) (left : List EventLine) (line : EventLine) (later : List EventLine) (events : List (ℕ × ScriptEvent)) (old mid new : World) (first at last : Option (List ℕ)) (text : List ℕ)
    → left ≡ line ∷ later → RanSome eager schema left events old mid first at → ((event : ℕ × ScriptEvent) → IsEventLine schema line event → Ran eager schema (event ∷ []) mid new text)
    → WritesPrefix at last text → RanPart eager schema events old first last
RanSome-more eager schema left line later events old mid new first at last text turn some ran written =
    let next = next-event schema left line later some.rest turn some.zip in
    RanPart-more eager schema some.done next.event next.others events old mid new first at last text some.ran (ran next.event next.said) written (some.split ∙ ap (λ rest. some.done ++ rest) next.is)

-- its text was written
pub RanSome-next : (eager : Bool) (schema : List Table) (left : List EventLine) (line : EventLine) (later : List EventLine) (events : List (ℕ × ScriptEvent)) (old mid new : World) (first at last : Option (List ℕ)) (text : List ℕ)
    → left ≡ line ∷ later → RanSome eager schema left events old mid first at → ((event : ℕ × ScriptEvent) → IsEventLine schema line event → Ran eager schema (event ∷ []) mid new text)
    → Appends at last text → RanSome eager schema later events old new first last
RanSome-next eager schema left line later events old mid new first at last text turn some ran written =
    let next = next-event schema left line later some.rest turn some.zip in
    let one : RanWhole eager schema (next.event ∷ []) mid new at last = record { trace = text; ran = ran next.event next.said; written = written } in
    record {
      done = some.done ++ next.event ∷ [];
      rest = next.others;
      split = some.split ∙ (ap (λ rest. some.done ++ rest) next.is ∙ sym (append_assoc some.done (next.event ∷ []) next.others));
      zip = next.zip;
      ran = RanWhole-append some.ran one;
    }

-- the next line stands for some event
pub next-said : (eager : Bool) (schema tables : List Table) (lines left : List EventLine) (line : EventLine) (later : List EventLine) (old mid : World) (first at : Option (List ℕ))
    → tables ≡ schema → left ≡ line ∷ later → (events : List (ℕ × ScriptEvent)) × AllZip (IsEventLine schema) lines events
    → ((events : List (ℕ × ScriptEvent)) → AllZip (IsEventLine schema) lines events → RanSome eager schema left events old mid first at) → (event : ℕ × ScriptEvent) × IsEventLine tables line event
next-said eager schema tables lines left line later old mid first at same turn some ran =
    let run = ran some.0 some.1 in
    let next = next-event schema left line later run.rest turn run.zip in
    (next.event, subst (λ ts. IsEventLine ts line next.event) (sym same) next.said)

-- what holds of the lines that are left holds of the next one and of those behind it
pub next-fits : {X : Type 0} (p : X → Bool) (x : X) (rest now : List X) → IsTrue (list_all p now) → now ≡ x ∷ rest → IsTrue (p x)
next-fits {X} p x rest now all is =
    let whole : list_all p (x ∷ rest) ≡ true = subst (λ xs. list_all p xs ≡ true) is all in
    (and_parts (p x) (list_all p rest) whole).0

pub rest-fits : {X : Type 0} (p : X → Bool) (x : X) (rest now : List X) → IsTrue (list_all p now) → now ≡ x ∷ rest → IsTrue (list_all p rest)
rest-fits {X} p x rest now all is =
    let whole : list_all p (x ∷ rest) ≡ true = subst (λ xs. list_all p xs ≡ true) is all in
    (and_parts (p x) (list_all p rest) whole).1

-- ---- from one line to the next

-- the event fits the world as it was set up
pub fits-there : (count first : ℕ) (tables schema : List Table) (event : code.Event) → count ≡ first → tables ≡ schema
    → IsTrue (event_fits first schema event) → IsTrue (event_fits count tables event)
fits-there count first tables schema event same over fits =
    subst (λ n. IsTrue (event_fits n tables event)) (sym same) (subst (λ ts. IsTrue (event_fits first ts event)) (sym over) fits)

-- what the event of a line does is told of the world as it was set up
pub ran-there : (now first : Bool) (tables known : List Table) (line : EventLine) (old new : World) (text : List ℕ)
    → now ≡ first → tables ≡ known
    → ((event : ℕ × ScriptEvent) → IsEventLine tables line event → Ran now tables (event ∷ []) old new text)
    → (event : ℕ × ScriptEvent) → IsEventLine known line event → Ran first known (event ∷ []) old new text
ran-there now first tables known line old new text same over ran =
    subst (λ ts. (event : ℕ × ScriptEvent) → IsEventLine ts line event → Ran first ts (event ∷ []) old new text) over
    (subst (λ e. (event : ℕ × ScriptEvent) → IsEventLine tables line event → Ran e tables (event ∷ []) old new text) same ran)

-- there is room for what the next line draws
pub room-now : (drawn first left later lines : ℕ) → left ≡ suc later → drawn + left * most_drawn ≤ first + lines * most_drawn
    → first + lines * most_drawn < 2 ^ 63 → drawn + most_drawn < 2 ^ 63
room-now drawn first left later lines one room small = omega (arith, one, room, small)

-- and then for what those behind it draw
pub room-then : (old new first left later lines : ℕ) → left ≡ suc later → old + left * most_drawn ≤ first + lines * most_drawn
    → new ≤ old + most_drawn → new + later * most_drawn ≤ first + lines * most_drawn
room-then old new first left later lines one room more = omega (arith, one, room, more)

-- ---- the first world

-- its tables are those of the script
tables-there : (options : Options) (schema : List Table) (tables : Tables) (w : World) → Represents w (start options schema tables) → w.server.tables.schema ≡ schema
tables-there options schema tables w rep = rep.server.knows.schema

-- there are as many seats as the options say
seats-there : (options : Options) (schema : List Table) (tables : Tables) (w : World) → Represents w (start options schema tables) → length w.seats.items ≡ options.clients
seats-there options schema tables w rep = rep.count ∙ length-replicate options.clients new_pair

-- so each line of the script fits it
pub fits-first : (options : Options) (schema : List Table) (lines : List EventLine) (tables : Tables) (w : World) → Represents w (start options schema tables)
    → Fits options.clients (record { schema = schema; lines = lines })
    → IsTrue (list_all (λ line. event_fits (length w.seats.items) w.server.tables.schema line.event) lines)
fits-first options schema lines tables w rep fits =
    subst (λ n. IsTrue (list_all (λ line. event_fits n w.server.tables.schema line.event) lines)) (sym (seats-there options schema tables w rep))
    (subst (λ ts. IsTrue (list_all (λ line. event_fits options.clients ts line.event) lines)) (sym (tables-there options schema tables w rep)) fits.events)

-- and the events of the lines are the same over its tables
pub events-there : (options : Options) (schema : List Table) (lines : List EventLine) (events : List (ℕ × ScriptEvent)) (tables : Tables) (w : World)
    → Represents w (start options schema tables) → AllZip (IsEventLine schema) lines events → AllZip (IsEventLine w.server.tables.schema) lines events
events-there options schema lines events tables w rep are =
    subst (λ ts. AllZip (IsEventLine ts) lines events) (sym (tables-there options schema tables w rep)) are

-- there is room for what the lines draw, of which there are fewer than 2^32
pub room-first : (drawn clients lines : ℕ) → drawn ≡ clients → IsClientNumber clients → lines < 2 ^ 32 → drawn + lines * most_drawn < 2 ^ 63
room-first drawn clients lines are client few = omega (arith, are, client.1, few)

-- ---- the trace of a script

-- the events ran in part
pub traced-part : (options : Options) (schema : List Table) (tables : Tables) (lines : List EventLine) (events : List (ℕ × ScriptEvent)) (world : World) (first last : Option (List ℕ))
    → list_all is_table schema ≡ true → AllZip (IsEventLine schema) lines events → Represents world (start options schema tables) → world.eager ≡ options.eager → RanPart world.eager world.server.tables.schema events world first last
    → TracedPart options schema tables events first last
traced-part options schema tables lines events world first last sound are rep same ran =
    let p : RanPart options.eager schema events world first last =
    subst (λ ts. RanPart options.eager ts events world first last) (tables-there options schema tables world rep)
    (subst (λ e. RanPart e world.server.tables.schema events world first last) same ran) in
    let d = p.ran.run (start options schema tables) rep in
    record {
      done = p.done;
      left = p.left;
      split = p.split;
      trace = p.trace;
      last = d.0;
      traced = record {
        lines = p.ran.lines;
        run = d.1;
        printable = printable options schema tables p.done p.ran.lines p.mid d.0 sound (first-events schema lines events p.done p.left p.split are) d.2 d.1 p.ran.numbers;
        text = p.ran.text;
      };
      written = p.written;
    }

-- all of them ran
pub traced-whole : (options : Options) (schema : List Table) (tables : Tables) (lines : List EventLine) (events : List (ℕ × ScriptEvent)) (world new : World) (first last : Option (List ℕ))
    → list_all is_table schema ≡ true → AllZip (IsEventLine schema) lines events → Represents world (start options schema tables) → world.eager ≡ options.eager → RanWhole world.eager world.server.tables.schema events world new first last
    → TracedWhole options schema tables events new first last
traced-whole options schema tables lines events world new first last sound are rep same ran =
    let p : RanWhole options.eager schema events world new first last =
    subst (λ ts. RanWhole options.eager ts events world new first last) (tables-there options schema tables world rep)
    (subst (λ e. RanWhole e world.server.tables.schema events world new first last) same ran) in
    let d = p.ran.run (start options schema tables) rep in
    record {
      trace = p.trace;
      last = d.0;
      traced = record {
        lines = p.ran.lines;
        run = d.1;
        printable = printable options schema tables events p.ran.lines new d.0 sound (events-placed schema lines events are) d.2 d.1 p.ran.numbers;
        text = p.ran.text;
      };
      stands = d.2;
      written = p.written;
    }

-- nothing happened, and nothing was written
pub traced-none : (options : Options) (schema : List Table) (tables : Tables) (events : List (ℕ × ScriptEvent)) (known : Option (List ℕ)) → TracedPart options schema tables events known known
traced-none options schema tables events known = record {
  done = [];
  left = events;
  split = refl;
  trace = [];
  last = start options schema tables;
  traced = record { lines = []; run = ends (start options schema tables); printable = tt; text = refl };
  written = WritesPrefix-whole known known [] (Appends-none known);
}

-- what was read over the tables that were seen was read over these
pub read-there : (clients : ℕ) (bytes : List ℕ) (seen schema : List Table) (lines : List Line) (events : List EventLine) → seen ≡ schema
    → ((clients : ℕ) (bytes : List ℕ) → AreOf clients bytes seen lines → IsRead clients bytes (record { schema = seen; lines = events }))
    → AreLines clients bytes lines → outside clients bytes ≡ None → Creates clients [] (lines_of bytes) schema
    → IsRead clients bytes (record { schema = schema; lines = events })
read-there clients bytes seen schema lines events same read are inside created =
    subst (λ ts. AreOf clients bytes ts lines → IsRead clients bytes (record { schema = ts; lines = events })) same (read clients bytes)
    (record { lines = are; inside = inside; created = created })

-- the trace of a script that was read, over tables with the rows of the files
Trace-of : (options : Options) (bytes : List ℕ) (loads : List Load) (s : Script) (tables : Tables) (read : IsRead options.clients bytes s) (done left : List (ℕ × ScriptEvent)) (trace : List ℕ) (last : Scene) → outside options.clients bytes ≡ None → read.events ≡ done ++ left
    → filled s.schema loads (no_rows s.schema) ≡ Ok tables → Traced options s.schema tables done trace last → Trace options bytes loads left trace last
Trace-of options bytes loads s tables read done left trace last inside split loaded traced =
    let same : Traced options read.end.tables tables done trace last = subst (λ schema. Traced options schema tables done trace last) (sym read.tables) traced in
    record {
      inside = inside;
      all = read.events;
      end = read.end;
      reads = read.reads;
      tables = tables;
      loaded = subst (λ schema. filled schema loads (no_rows schema) ≡ Ok tables) (sym read.tables) loaded;
      done = done;
      split = split;
      lines = same.lines;
      runs = same.run;
      printable = same.printable;
      text = same.text;
    }

pub WrotePart-of : (options : Options) (bytes : List ℕ) (loads : List Load) (s : Script) (tables : Tables) (first last : Option (List ℕ)) → outside options.clients bytes ≡ None → IsRead options.clients bytes s → filled s.schema loads (no_rows s.schema) ≡ Ok tables
    → ((events : List (ℕ × ScriptEvent)) → AreEvents s events → TracedPart options s.schema tables events first last) → WrotePart first last options bytes loads
WrotePart-of options bytes loads s tables first last inside read loaded traced =
    let p = traced read.events read.are in
    record {
      left = p.left;
      trace = p.trace;
      last = p.last;
      traced = Trace-of options bytes loads s tables read p.done p.left p.trace p.last inside p.split loaded p.traced;
      written = p.written;
    }

pub Wrote-of : (options : Options) (bytes : List ℕ) (loads : List Load) (s : Script) (tables : Tables) (kept : World) (first last : Option (List ℕ)) → outside options.clients bytes ≡ None → IsRead options.clients bytes s → filled s.schema loads (no_rows s.schema) ≡ Ok tables
    → ((events : List (ℕ × ScriptEvent)) → AreEvents s events → TracedWhole options s.schema tables events kept first last) → Wrote first last options bytes loads kept
Wrote-of options bytes loads s tables kept first last inside read loaded traced =
    let p = traced read.events read.are in
    record {
      trace = p.trace;
      last = p.last;
      traced = Trace-of options bytes loads s tables read read.events [] p.trace p.last inside (sym (append-nil read.events)) loaded p.traced;
      stands = p.stands;
      written = p.written;
    }

-- a fault that is handed on is that of the call before
pub same-fault : {A B E : Type 0} (was is : E) → IsErrOf {T = A} (Err was) is → IsErrOf {T = B} (Err was) is
same-fault {A} {B} {E} was is err = let same : was ≡ is = cc in ap (λ x. Err x) same

pub same-faults : {A B E : Type 0} (was a b : E) → IsErrOf {T = A} (Err was) a ⊎ IsErrOf {T = A} (Err was) b → IsErrOf {T = B} (Err was) a ⊎ IsErrOf {T = B} (Err was) b
same-faults was a b (inl err) = inl (same-fault was a err)
same-faults was a b (inr err) = inr (same-fault was b err)
