-- How a run of `client` comes to its end.
use Rattle.std.proofs.Common.{◌≡◌, ◌≢◌, ℕ, ◌⊎◌, true, List, [], ◌∷◌, inl, inr, refl, sym, ◌∙◌, ap, subst}
use Rattle.std.specs.Prelude.{Err, IfErr, Ok, Option, Result, Some}
use Rattle.std.specs.Cmp.{first_so, second_so}
use Rattle.std.specs.List.{list_all, AllZip}
use Rattle.sr_calls.specs.Runs.{RanNewInPart, RanNewSteadily}
use Rattle.sr_cell.specs.declared.list.No.{No}
use Rattle.sr_cell.specs.declared.list.No.TheVariants.{Refused as NoBut, NoMemory as Wanting}
use Rattle.sr_cell.specs.declared.table.Table.{Table}
use Rattle.sr_dial.specs.Following.{Ahead}
use Rattle.sr_dial.specs.Jobs.{AreAhead}
use Rattle.sr_dial.specs.Known.{AreTasks}
use Rattle.sr_dial.specs.declared.ending.Ending.{Ending}
use Rattle.sr_dial.specs.declared.ending.Ending.TheVariants.{Faulty, Unwritten, Spoiled, Bad as BadMessage, Limit as TooMany}
use Rattle.sr_io.specs.Causes.{Rose}
use Rattle.sr_io.specs.Told.{Reading, Linking, Writing}
use Rattle.sr_lines.specs.Events.{ScriptEvent}
use Rattle.sr_links.specs.Steps.{Resumed}
use Rattle.sr_plan.specs.Plans.{Next, plan_of}
use Rattle.sr_reader.specs.declared.script.EventLine.{EventLine}
use Rattle.sr_report.specs.Plans.{task_of}
use Rattle.sr_report.proofs.Entries.{task_for}
use Rattle.sr_reader.specs.Read.{IsEventLine}
use Rattle.sr_setup.specs.ClientFiles.{IsAsked, is_own, script_outside, Refuses as RefusesCreate}
use Rattle.sr_setup.specs.declared.client_setup.ClientFault.{ClientFault}
use Rattle.sr_setup.specs.declared.client_setup.ClientFault.TheVariants as fault
use Rattle.sr_cell.specs.declared.fault.Fault.{Fault}
use Rattle.sr_dial.specs.Calls.{Task, Do}
use Rattle.sr_words.specs.declared.command.ClientKind.{ClientKind}
use Rattle.sr_words.specs.declared.command.ClientWords.{ClientWords}
use Rattle.sr_cli.specs.Client.{AreFiles, CountsStop, Ends, EndsInPart, Stops, StopsOver, Untouched, ending_of, stop_of}
use Rattle.sr_cli.specs.Leaves.{DidNothing}
use Rattle.sr_cli.specs.Kinds.{AsksFor, AsksLines, IsTaskOf, fault_by, keeps_of}
use Rattle.sr_cli.specs.declared.stop.Stop.{Stop}
use Rattle.sr_cli.specs.declared.stop.Stop.TheVariants as stop
use Rattle.sr_cli.specs.declared.report.Refusal.{Refusal}
use Rattle.sr_cli.specs.declared.report.Refusal.TheVariants as refusal

-- ---- what the lines ask

-- each event of the client's own asks something of it
pub tasks_of : (id : ℕ) (tables : List Table) (lines : List EventLine) (events : List (ℕ × ScriptEvent)) → AllZip (IsEventLine tables) lines events → list_all (λ line. is_own id line.event) lines ≡ true
    → (tasks : List (ℕ × Task)) × AreTasks tables lines tasks × AllZip IsTaskOf events tasks
tasks_of id tables [] [] are own = ([], tt, tt)
tasks_of id tables [] (e ∷ events) are own = absurd are
tasks_of id tables (l ∷ lines) [] are own = absurd are
tasks_of id tables (l ∷ lines) (e ∷ events) are own =
    let rest = list_all (λ line. is_own id line.event) lines in
    let first = task_for id tables l.event are.0.0 are.0.1 (first_so (is_own id l.event) rest own) in
    let more = tasks_of id tables lines events are.1 (second_so (is_own id l.event) rest own) in
    let same : e ≡ (l.number, are.0.0) = are.0.2 in
    let asked : task_of e.1 ≡ Some first.0 = ap (λ (p : ℕ × ScriptEvent). task_of p.1) same ∙ first.2 in
    let at : ◌≡◌ {A = ℕ × Task} (l.number, first.0) (e.0, first.0) = ap (λ (number : ℕ). (number, first.0)) (sym (ap (λ (p : ℕ × ScriptEvent). p.0) same)) in
    ((l.number, first.0) ∷ more.0, ((first.0, first.1, refl), more.1), ((first.0, asked, at), more.2))

-- ---- why it stops

-- the lines of a script ask for their tasks
pub some_ahead : (id : ℕ) (schema script : List ℕ) (tables : List Table) (lines : List EventLine) → IsAsked id schema script tables lines
    → (ahead : Ahead) × AsksLines id schema script tables ahead × AreAhead tables lines ahead
some_ahead id schema script tables lines asked =
    let tasks = tasks_of id tables lines asked.asked.events asked.asked.are asked.asked.own in (
      λ answer. plan_of tasks.0,
      record { lines = lines; tasks = tasks.0; asked = asked; are = tasks.1; follow = tasks.2; ahead_is = refl },
      record { tasks = tasks.0; are = tasks.1; ahead_is = λ answer. refl },
    )

-- a client of this kind, for which the files ask so, ran, and ended so
pub ends_for : {Z : Type 0} (schema script : List ℕ) (words : ClientWords) (k : ClientKind) (tables : List Table) (ahead : Ahead) (ending : Ending) (old new : Linking) (before after : Writing) → words.kind ≡ k → AsksFor k words.id schema script tables ahead
    → RanNewSteadily Z words.id words.address tables words.limits (keeps_of k) true (Next 0 (Do Resumed) ahead) ending old new before after → Ends Z schema script words ending old new before after
ends_for {Z} schema script words k tables ahead ending old new before after is asks ran = record {
  tables = tables;
  ahead = ahead;
  asks = subst (λ kind. AsksFor kind words.id schema script tables ahead) (sym is) asks;
  ran = subst (λ kind. RanNewSteadily Z words.id words.address tables words.limits (keeps_of kind) true (Next 0 (Do Resumed) ahead) ending old new before after) (sym is) ran;
}

-- or was broken off, out of memory
pub breaks_for : (schema script : List ℕ) (words : ClientWords) (k : ClientKind) (tables : List Table) (ahead : Ahead) (old new : Linking) (before after : Writing) → words.kind ≡ k → AsksFor k words.id schema script tables ahead
    → Untouched old new before after ⊎ RanNewInPart words.id words.address tables words.limits (keeps_of k) true (Next 0 (Do Resumed) ahead) old new before after
    → Untouched old new before after ⊎ EndsInPart schema script words old new before after
breaks_for schema script words k tables ahead old new before after is asks (inl none) = inl none
breaks_for schema script words k tables ahead old new before after is asks (inr part) = inr (record {
  tables = tables;
  ahead = ahead;
  asks = subst (λ kind. AsksFor kind words.id schema script tables ahead) (sym is) asks;
  ran = subst (λ kind. RanNewInPart words.id words.address tables words.limits (keeps_of kind) true (Next 0 (Do Resumed) ahead) old new before after) (sym is) part;
})

-- no line was to be written where files are not set up
pub unset_written : (no : No ClientFault) → stop_of no ≢ stop.Refused refusal.Write
unset_written Wanting is = cc
unset_written (NoBut (fault.Line at place)) is = cc
unset_written (NoBut (fault.Create at why)) is = cc

-- files that are not set up
pub stops_unset : (Z : Type 0) (schema script : List ℕ) (words : ClientWords) (no : No ClientFault) (l : Linking) (w : Writing)
    → ((line place : ℕ) → no ≡ NoBut (fault.Line line place) → script_outside (fault_by words) schema script ≡ Some (record { line = line; place = place }))
    → ((line : ℕ) (why : Fault) → no ≡ NoBut (fault.Create line why) → RefusesCreate (fault_by words) schema script line why) → Stops Z schema script words l l w w (stop_of no)
stops_unset Z schema script words Wanting l w line create = inl (record { linking = refl; writing = refl })
stops_unset Z schema script words (NoBut (fault.Line at place)) l w line create = (line at place refl, record { linking = refl; writing = refl })
stops_unset Z schema script words (NoBut (fault.Create at why)) l w line create = (create at why refl, record { linking = refl; writing = refl })

ends_as : (Z : Type 0) (schema script : List ℕ) (words : ClientWords) (old new : Linking) (before after : Writing) (ending other : Ending) → (let some : Option Ending = Some other in some) ≡ Some ending → Ends Z schema script words ending old new before after
    → Ends Z schema script words other old new before after
ends_as Z schema script words old new before after ending other is ends =
    let same : ending ≡ other = cc in
    subst (λ e. Ends Z schema script words e old new before after) same ends

pub stops_by : (Z : Type 0) (schema script : List ℕ) (words : ClientWords) (old new : Linking) (before after : Writing) (ending : Ending) (why : Stop) → ending_of why ≡ Some ending → Ends Z schema script words ending old new before after
    → Stops Z schema script words old new before after why
stops_by Z schema script words old new before after ending (stop.Refused refusal.Write) is ends = ends_as Z schema script words old new before after ending Unwritten is ends
stops_by Z schema script words old new before after ending (stop.Refused refusal.Link) is ends = ends_as Z schema script words old new before after ending Faulty is ends
stops_by Z schema script words old new before after ending (stop.Refused refusal.Read) is ends = absurd cc
stops_by Z schema script words old new before after ending (stop.Refused refusal.Memory) is ends = absurd cc
stops_by Z schema script words old new before after ending (stop.Refused refusal.TooLong) is ends = absurd cc
stops_by Z schema script words old new before after ending (stop.Refused (refusal.Line line place)) is ends = absurd cc
stops_by Z schema script words old new before after ending (stop.Refused (refusal.Setup line why)) is ends = absurd cc
stops_by Z schema script words old new before after ending (stop.Refused (refusal.Load table why)) is ends = absurd cc
stops_by Z schema script words old new before after ending (stop.Spoiled fault) is ends = ends_as Z schema script words old new before after ending (Spoiled fault) is ends
stops_by Z schema script words old new before after ending (stop.Bad why) is ends = ends_as Z schema script words old new before after ending (BadMessage why) is ends
stops_by Z schema script words old new before after ending stop.Limit is ends = ends_as Z schema script words old new before after ending TooMany is ends

-- a run that ended without a line that is not written does not stop for that
pub stops_written : (ending : Ending) (why : Stop) → ending ≢ Unwritten → ending_of why ≡ Some ending → why ≢ stop.Refused refusal.Write
stops_written ending why written is wrong =
    let same : Some Unwritten ≡ Some ending = sym (ap ending_of wrong) ∙ is in
    written cc

-- ---- over the files that the words name

-- what is so over a host that was steady is so over one that was steady before
pub ends_later : (Z Y : Type 0) (schema script : List ℕ) (words : ClientWords) (ending : Ending) (old new : Linking) (before after : Writing) → (Z → Y) → Ends Y schema script words ending old new before after → Ends Z schema script words ending old new before after
ends_later Z Y schema script words ending old new before after later e =
    record { tables = e.tables; ahead = e.ahead; asks = e.asks; ran = record { run = e.ran.run; steady_links = λ z. e.ran.steady_links (later z) } }

pub over-files : (Z Y : Type 0) (later : Z → Y) (held : List ℕ → Option (List ℕ)) (words : ClientWords) (left : Option (List ℕ)) (schema script : List ℕ) (old new : Linking) (before after : Writing) (why : Stop)
    → AreFiles held words schema script → Stops Y schema script words old new before after why → StopsOver Z held words left old new before after why
over-files Z Y later held words left schema script old new before after (stop.Refused refusal.Read) files stops = absurd stops
over-files Z Y later held words left schema script old new before after (stop.Refused refusal.TooLong) files stops = absurd stops
over-files Z Y later held words left schema script old new before after (stop.Refused refusal.Write) files stops =
    record { schema = schema; script = script; files = files; ends = ends_later Z Y schema script words Unwritten old new before after later stops }
over-files Z Y later held words left schema script old new before after (stop.Refused refusal.Link) files stops =
    record { schema = schema; script = script; files = files; ends = ends_later Z Y schema script words Faulty old new before after later stops }
over-files Z Y later held words left schema script old new before after (stop.Refused refusal.Memory) files (inl none) = inl none
over-files Z Y later held words left schema script old new before after (stop.Refused refusal.Memory) files (inr part) = inr (record { schema = schema; script = script; files = files; ends = part })
over-files Z Y later held words left schema script old new before after (stop.Refused (refusal.Line line place)) files stops = record { schema = schema; script = script; files = files; first = stops.0 }
over-files Z Y later held words left schema script old new before after (stop.Refused (refusal.Setup line fault)) files stops = record { schema = schema; script = script; files = files; refuses = stops.0 }
over-files Z Y later held words left schema script old new before after (stop.Refused (refusal.Load table fault)) files stops = absurd stops
over-files Z Y later held words left schema script old new before after (stop.Spoiled fault) files stops =
    record { schema = schema; script = script; files = files; ends = ends_later Z Y schema script words (Spoiled fault) old new before after later stops }
over-files Z Y later held words left schema script old new before after (stop.Bad why) files stops =
    record { schema = schema; script = script; files = files; ends = ends_later Z Y schema script words (BadMessage why) old new before after later stops }
over-files Z Y later held words left schema script old new before after stop.Limit files stops =
    record { schema = schema; script = script; files = files; ends = ends_later Z Y schema script words TooMany old new before after later stops }

-- ---- what is counted

module _ (Z : Type 0) (H : Type 0) (reading : H → Reading) (writing : H → Writing) (linking : H → Linking) (schema script : List ℕ) (words : ClientWords) (old mid new : H)
    (kept : (reading mid).faults ≡ (reading old).faults) (read : reading new ≡ reading mid) (write : writing mid ≡ writing old) (link : linking mid ≡ linking old) where
  same : (reading new).faults ≡ (reading old).faults
  same = ap (λ (r : Reading). r.faults) read ∙ kept

  nothing : Untouched (linking mid) (linking new) (writing mid) (writing new) → DidNothing H writing linking old new
  nothing none = record { writing_stays = none.writing ∙ write; linking_stays = none.linking ∙ link }

  rose : Ends Z schema script words Unwritten (linking mid) (linking new) (writing mid) (writing new) → Rose (writing old).faults (writing new).faults
  rose ends = subst (λ (w : Writing). Rose w.faults (writing new).faults) write ends.ran.run.ran.run.ran.writes.2

  -- behind the reading of files
  pub counts-stopped : (result : Result (Unit {0}) Stop) → IfErr result (Stops Z schema script words (linking mid) (linking new) (writing mid) (writing new)) → CountsStop H reading writing linking old new result
  counts-stopped (Ok done) stops = same
  counts-stopped (Err (stop.Refused refusal.Read)) stops = absurd stops
  counts-stopped (Err (stop.Refused refusal.TooLong)) stops = absurd stops
  counts-stopped (Err (stop.Refused refusal.Write)) stops = (rose stops, same)
  counts-stopped (Err (stop.Refused refusal.Link)) stops = same
  counts-stopped (Err (stop.Refused refusal.Memory)) stops = same
  counts-stopped (Err (stop.Refused (refusal.Line line place))) stops = (nothing stops.1, same)
  counts-stopped (Err (stop.Refused (refusal.Setup line fault))) stops = (nothing stops.1, same)
  counts-stopped (Err (stop.Refused (refusal.Load table fault))) stops = absurd stops
  counts-stopped (Err (stop.Spoiled fault)) stops = same
  counts-stopped (Err (stop.Bad why)) stops = same
  counts-stopped (Err stop.Limit) stops = same
