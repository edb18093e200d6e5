-- How runs of `replay` and `explain` end.
use Rattle.std.proofs.Common.{◌≡◌, ℕ, ◌⊎◌, List, [], Option, Some, None, Ok, Err, inl, inr, refl, sym, ap, subst, ◌∙◌}
use Rattle.std.specs.Prelude.{Result, IfErr, IfOk, IsErrOf, OnOk}
use Rattle.sr_cell.specs.declared.fault.Fault.{Fault}
use Rattle.sr_cell.specs.declared.list.No.{No}
use Rattle.sr_cell.specs.declared.list.No.TheVariants.{Refused as NoBut, NoMemory as Wanting}
use Rattle.sr_explained.specs.After.{IsRefusedFor, WrotePart as ExplainedPart}
use Rattle.sr_io.specs.Causes.{Rose}
use Rattle.sr_io.specs.Told.{Reading, Writing, Linking, complained}
use Rattle.sr_lines.specs.Lines.{lines_of}
use Rattle.sr_lines.specs.Script.{FirstRefused, LinePlace}
use Rattle.sr_load.specs.declared.fill.Load.{Load}
use Rattle.sr_world.specs.declared.replay.RunFault.{RunFault}
use Rattle.sr_world.specs.declared.replay.RunFault.TheVariants as fault
use Rattle.sr_world.specs.declared.world.Options.{Options}
use Rattle.sr_world.specs.Replay.{RefusesLoad, WrotePart, outside}
use Rattle.sr_words.specs.declared.command.ExplainWords.{ExplainWords}
use Rattle.sr_words.specs.declared.command.ReplayWords.{ReplayWords}
use Rattle.sr_cli.specs.Errors.{line_text, setup_text, load_text}
use Rattle.sr_cli.specs.Explain as explain
use Rattle.sr_cli.specs.Files.{IsTooLong, IsWhatIsHeld, SomeTooLong}
use Rattle.sr_cli.specs.Leaves.{Counts, EndsAs, Reported, refusal_of}
use Rattle.sr_cli.specs.Replay as replay
use Rattle.sr_cli.specs.declared.report.Refusal.{Refusal}
use Rattle.sr_cli.specs.declared.report.Refusal.TheVariants.{Read, Write, Link, Memory, TooLong, Line, Setup, Load as LoadRefused}
use Rattle.sr_cli.proofs.ExplainFits.{Lies, Named, Refuses as Refused, no_load}
use Rattle.sr_cli.proofs.FitsLemmas.{IsRefused, SomeOutside}
use Rattle.sr_cli.proofs.LeavesLemmas.{HasName, InWant, NamesLine, NamesRefused, Report, reported-is}

-- ---- how a replay ended

-- no line is outside where another thing is refused
none-outside : {T : Type 0} (clients : ℕ) (script : List ℕ) (done : Result T (No RunFault)) → ((at : LinePlace) → outside clients script ≡ Some at → IsErrOf done (NoBut (fault.Line at.line at.place)) ⊎ IsErrOf done Wanting)
    → ((at : LinePlace) → IsErrOf done (NoBut (fault.Line at.line at.place)) ⊎ IsErrOf done Wanting → ⊥) → outside clients script ≡ None
none-outside {T} clients script done first never = by (outside clients script) refl
  where
    by : (o : Option LinePlace) → outside clients script ≡ o → outside clients script ≡ None
    by None is = is
    by (Some at) is = absurd (never at (first at is))

setup-other : {T : Type 0} (line : ℕ) (why : Fault) (at : LinePlace) → IsErrOf {T = T} (Err (NoBut (fault.Setup line why))) (NoBut (fault.Line at.line at.place)) ⊎ IsErrOf {T = T} (Err (NoBut (fault.Setup line why))) Wanting → ⊥
setup-other {T} line why at (inl is) = cc
setup-other {T} line why at (inr is) = cc

load-other : {T : Type 0} (table : List ℕ) (why : Fault) (at : LinePlace) → IsErrOf {T = T} (Err (NoBut (fault.Load table why))) (NoBut (fault.Line at.line at.place)) ⊎ IsErrOf {T = T} (Err (NoBut (fault.Load table why))) Wanting → ⊥
load-other {T} table why at (inl is) = cc
load-other {T} table why at (inr is) = cc

-- by what was refused
pub ended-refused : {T : Type 0} (P : Refusal → Type 0) (done : Result T (No RunFault)) (result : Result (Unit {0}) Refusal) → EndsAs done result → (IsErrOf done Wanting → P Memory) → (IsErrOf done (NoBut fault.WriteFault) → P Write)
    → ((line place : ℕ) → IsErrOf done (NoBut (fault.Line line place)) → P (Line line place)) → ((line : ℕ) (why : Fault) → IsErrOf done (NoBut (fault.Setup line why)) → P (Setup line why))
    → ((table : List ℕ) (why : Fault) → IsErrOf done (NoBut (fault.Load table why)) → P (LoadRefused table why)) → IfErr result P
ended-refused {T} P (Ok x) (Ok y) is memory write line setup load = tt
ended-refused {T} P (Ok x) (Err why) is memory write line setup load = absurd (cc)
ended-refused {T} P (Err Wanting) result is memory write line setup load = subst (λ r. IfErr r P) (sym is) (memory refl)
ended-refused {T} P (Err (NoBut fault.WriteFault)) result is memory write line setup load = subst (λ r. IfErr r P) (sym is) (write refl)
ended-refused {T} P (Err (NoBut (fault.Line at place))) result is memory write line setup load = subst (λ r. IfErr r P) (sym is) (line at place refl)
ended-refused {T} P (Err (NoBut (fault.Setup at why))) result is memory write line setup load = subst (λ r. IfErr r P) (sym is) (setup at why refl)
ended-refused {T} P (Err (NoBut (fault.Load table why))) result is memory write line setup load = subst (λ r. IfErr r P) (sym is) (load table why refl)

pub ended-ok : {T : Type 0} (done : Result T (No RunFault)) (result : Result (Unit {0}) Refusal) (P : T → Type 0) → EndsAs done result → IfOk done P → OnOk result ((x : T) × P x)
ended-ok {T} (Ok x) (Ok y) P is holds = (x, holds)
ended-ok {T} (Ok x) (Err why) P is holds = tt
ended-ok {T} (Err wants) (Ok y) P is holds = absurd (cc)
ended-ok {T} (Err wants) (Err why) P is holds = tt

pub ended-on : {T : Type 0} (done : Result T (No RunFault)) (result : Result (Unit {0}) Refusal) (P : Type 0) → EndsAs done result → OnOk done P → OnOk result P
ended-on {T} (Ok x) (Ok y) P is holds = holds
ended-on {T} (Ok x) (Err why) P is holds = tt
ended-on {T} (Err wants) (Ok y) P is holds = absurd (cc)
ended-on {T} (Err wants) (Err why) P is holds = tt

-- what is counted, written and linked
pub ended-counts : {T : Type 0} (H : Type 0) (reading : H → Reading) (writing : H → Writing) (linking : H → Linking) (old new : H) (done : Result T (No RunFault)) (result : Result (Unit {0}) Refusal) → EndsAs done result
    → reading new ≡ reading old → linking new ≡ linking old → (IsErrOf done (NoBut fault.WriteFault) → Rose (writing old).faults (writing new).faults)
    → ((f : RunFault) → IsErrOf done (NoBut f) → (f ≡ fault.WriteFault) ⊎ (writing new ≡ writing old)) → Counts H reading writing linking old new result
ended-counts {T} H reading writing linking old new (Ok x) (Ok y) is same link rose none = ap (λ (r : Reading). r.faults) same
ended-counts {T} H reading writing linking old new (Ok x) (Err why) is same link rose none = absurd (cc)
ended-counts {T} H reading writing linking old new (Err Wanting) result is same link rose none = subst (Counts H reading writing linking old new) (sym is) (ap (λ (r : Reading). r.faults) same)
ended-counts {T} H reading writing linking old new (Err (NoBut fault.WriteFault)) result is same link rose none = subst (Counts H reading writing linking old new) (sym is) (rose refl, ap (λ (r : Reading). r.faults) same)
ended-counts {T} H reading writing linking old new (Err (NoBut (fault.Line at place))) result is same link rose none =
    subst (Counts H reading writing linking old new) (sym is) (record { writing_stays = other (fault.Line at place) (λ e. cc) (none (fault.Line at place) refl); linking_stays = link }, ap (λ (r : Reading). r.faults) same)
  where
    other : (f : RunFault) → (f ≡ fault.WriteFault → ⊥) → (f ≡ fault.WriteFault) ⊎ (writing new ≡ writing old) → writing new ≡ writing old
    other f not (inl is) = absurd (not is)
    other f not (inr stays) = stays
ended-counts {T} H reading writing linking old new (Err (NoBut (fault.Setup at why))) result is same link rose none =
    subst (Counts H reading writing linking old new) (sym is) (record { writing_stays = other (fault.Setup at why) (λ e. cc) (none (fault.Setup at why) refl); linking_stays = link }, ap (λ (r : Reading). r.faults) same)
  where
    other : (f : RunFault) → (f ≡ fault.WriteFault → ⊥) → (f ≡ fault.WriteFault) ⊎ (writing new ≡ writing old) → writing new ≡ writing old
    other f not (inl is) = absurd (not is)
    other f not (inr stays) = stays
ended-counts {T} H reading writing linking old new (Err (NoBut (fault.Load table why))) result is same link rose none =
    subst (Counts H reading writing linking old new) (sym is) (record { writing_stays = other (fault.Load table why) (λ e. cc) (none (fault.Load table why) refl); linking_stays = link }, ap (λ (r : Reading). r.faults) same)
  where
    other : (f : RunFault) → (f ≡ fault.WriteFault → ⊥) → (f ≡ fault.WriteFault) ⊎ (writing new ≡ writing old) → writing new ≡ writing old
    other f not (inl is) = absurd (not is)
    other f not (inr stays) = stays

-- a fault of writing, or none more
pub ended-quiet : {T : Type 0} (done : Result T (No RunFault)) (result : Result (Unit {0}) Refusal) (before after : Writing) → EndsAs done result → OnOk done (after.faults ≡ before.faults) → (IsErrOf done Wanting → after.faults ≡ before.faults)
    → ((f : RunFault) → IsErrOf done (NoBut f) → (f ≡ fault.WriteFault) ⊎ (after ≡ before)) → IsErrOf result Write ⊎ (after.faults ≡ before.faults)
ended-quiet {T} (Ok x) result before after is ok want none = inr ok
ended-quiet {T} (Err Wanting) result before after is ok want none = inr (want refl)
ended-quiet {T} (Err (NoBut f)) result before after is ok want none = by (none f refl)
  where
    by : (f ≡ fault.WriteFault) ⊎ (after ≡ before) → IsErrOf result Write ⊎ (after.faults ≡ before.faults)
    by (inl e) = inl (is ∙ ap (λ f. Err (refusal_of (NoBut f))) e)
    by (inr same) = inr (ap (λ (w : Writing). w.faults) same)

pub ended-never : {T : Type 0} (done : Result T (No RunFault)) (result : Result (Unit {0}) Refusal) → EndsAs done result → (IsErrOf done (NoBut fault.WriteFault) → ⊥) → IsErrOf result Write → ⊥
ended-never {T} (Ok x) (Ok y) is never write = cc
ended-never {T} (Ok x) (Err why) is never write = cc
ended-never {T} (Err Wanting) result is never write = cc
ended-never {T} (Err (NoBut fault.WriteFault)) result is never write = never refl
ended-never {T} (Err (NoBut (fault.Line at place))) result is never write = cc
ended-never {T} (Err (NoBut (fault.Setup at why))) result is never write = cc
ended-never {T} (Err (NoBut (fault.Load table why))) result is never write = cc

-- ---- a script that was read

pub replay-refused : {T : Type 0} (options : Options) (script : List ℕ) (loads : List Load) (before after : Writing) (done : Result T (No RunFault)) (result : Result (Unit {0}) Refusal) → EndsAs done result
    → (IsErrOf done (NoBut fault.WriteFault) → WrotePart before.written after.written options script loads) → (IsErrOf done Wanting → (after ≡ before) ⊎ WrotePart before.written after.written options script loads)
    → ((line place : ℕ) → IsErrOf done (NoBut (fault.Line line place)) → outside options.clients script ≡ Some (record { line = line; place = place }))
    → ((at : LinePlace) → outside options.clients script ≡ Some at → IsErrOf done (NoBut (fault.Line at.line at.place)) ⊎ IsErrOf done Wanting)
    → ((line : ℕ) (why : Fault) → IsErrOf done (NoBut (fault.Setup line why)) → FirstRefused options.clients 1 [] (lines_of script) line why)
    → ((table : List ℕ) (why : Fault) → IsErrOf done (NoBut (fault.Load table why)) → RefusesLoad options.clients script loads table why)
    → IfErr result (replay.Refuses options script loads before after)
replay-refused {T} options script loads before after done result is write want line first setup load =
    ended-refused (replay.Refuses options script loads before after) done result is want write line
    (λ at why e. (none-outside options.clients script done first (λ place. subst (λ (d : Result T (No RunFault)). IsErrOf d (NoBut (fault.Line place.line place.place)) ⊎ IsErrOf d Wanting → ⊥) (sym (met done (NoBut (fault.Setup at why)) e)) (setup-other at why place)), setup at why e))
    (λ table why e. (none-outside options.clients script done first (λ place. subst (λ (d : Result T (No RunFault)). IsErrOf d (NoBut (fault.Line place.line place.place)) ⊎ IsErrOf d Wanting → ⊥) (sym (met done (NoBut (fault.Load table why)) e)) (load-other table why place)), load table why e))
  where
    met : (d : Result T (No RunFault)) (why : No RunFault) → IsErrOf d why → d ≡ Err why
    met (Ok x) why e = absurd (cc)
    met (Err other) why e = e

pub explain-refused : {T : Type 0} (words : ExplainWords) (script : List ℕ) (before after : Writing) (done : Result T (No RunFault)) (result : Result (Unit {0}) Refusal) → EndsAs done result
    → (IsErrOf done (NoBut fault.WriteFault) → ExplainedPart before.written after.written (replay.options_of words.setup) script [] words.sql)
    → (IsErrOf done Wanting → (after ≡ before) ⊎ ExplainedPart before.written after.written (replay.options_of words.setup) script [] words.sql)
    → ((f : RunFault) → IsErrOf done (NoBut f) → IsRefusedFor (replay.options_of words.setup) script [] words.sql f)
    → ((at : LinePlace) → outside words.setup.clients script ≡ Some at → IsErrOf done (NoBut (fault.Line at.line at.place)) ⊎ IsErrOf done Wanting)
    → IfErr result (explain.Refuses words script before after)
explain-refused {T} words script before after done result is write want refused first =
    ended-refused (explain.Refuses words script before after) done result is want write (λ line place e. refused (fault.Line line place) e)
    (λ at why e. (none-outside words.setup.clients script done first (λ place. subst (λ (d : Result T (No RunFault)). IsErrOf d (NoBut (fault.Line place.line place.place)) ⊎ IsErrOf d Wanting → ⊥) (sym (met done (NoBut (fault.Setup at why)) e)) (setup-other at why place)), refused (fault.Setup at why) e))
    (λ table why e. no_load words.setup.clients script table why (refused (fault.Load table why) e))
  where
    met : (d : Result T (No RunFault)) (why : No RunFault) → IsErrOf d why → d ≡ Err why
    met (Ok x) why e = absurd (cc)
    met (Err other) why e = e

-- ---- over the files that the words name

pub over-files : (held : List ℕ → Option (List ℕ)) (words : ReplayWords) (left : Option (List ℕ)) (script : List ℕ) (loads : List Load) (before after : Writing) (refusal : Refusal)
    → replay.AreFiles held words script loads → replay.Refuses (replay.options_of words.setup) script loads before after refusal → replay.RefusesOver held words left before after refusal
over-files held words left script loads before after Read files why = absurd why
over-files held words left script loads before after Link files why = absurd why
over-files held words left script loads before after TooLong files why = absurd why
over-files held words left script loads before after Write files why = record { script = script; loads = loads; files = files; wrote = why }
over-files held words left script loads before after Memory files (inl none) = inl none
over-files held words left script loads before after Memory files (inr part) = inr (record { script = script; loads = loads; files = files; wrote = part })
over-files held words left script loads before after (Line line place) files why = record { script = script; loads = loads; files = files; first = why }
over-files held words left script loads before after (Setup line why) files (inside, first) = record { script = script; loads = loads; files = files; inside = inside; first = first }
over-files held words left script loads before after (LoadRefused table why) files (inside, refuses) = record { script = script; loads = loads; files = files; inside = inside; refuses = refuses }

pub over-script : (held : List ℕ → Option (List ℕ)) (words : ExplainWords) (left : Option (List ℕ)) (script : List ℕ) (before after : Writing) (refusal : Refusal) → IsWhatIsHeld (held words.script) script
    → explain.Refuses words script before after refusal → explain.RefusesOver held words left before after refusal
over-script held words left script before after Read read why = absurd why
over-script held words left script before after Link read why = absurd why
over-script held words left script before after TooLong read why = absurd why
over-script held words left script before after Write read why = record { script = script; read = read; wrote = why }
over-script held words left script before after Memory read (inl none) = inl none
over-script held words left script before after Memory read (inr part) = inr (record { script = script; read = read; wrote = part })
over-script held words left script before after (Line line place) read why = record { script = script; read = read; first = why }
over-script held words left script before after (Setup line why) read (inside, first) = record { script = script; read = read; inside = inside; first = first }
over-script held words left script before after (LoadRefused table why) read wrong = absurd wrong

-- ---- what the status of a replay says

module _ (held : List ℕ → Option (List ℕ)) (words : ReplayWords) (left : Option (List ℕ)) (before after : Writing) (refusal : Refusal) (status : ℕ) (first told last : Option (List ℕ))
    (silent : told ≡ first) (reported : Reported refusal status told last) (why : replay.RefusesOver held words left before after refusal) where
  rep : Report refusal status told last
  rep = reported-is refusal status told last reported

  being : (r : Refusal) → refusal ≡ r → replay.RefusesOver held words left before after r
  being r is = subst (replay.RefusesOver held words left before after) is why

  pub never-links : status ≡ 5 → ⊥
  never-links is = being Link (rep.link is)

  pub part-by : status ≡ 4 → replay.ReplayedInPart held words before.written after.written
  part-by is = being Write (rep.write is)

  pub too-long-by : status ≡ 10 → SomeTooLong held left (replay.files_of words)
  too-long-by is = being TooLong (rep.too_long is)

  pub outside-by : status ≡ 6 → SomeOutside held words
  outside-by is = by (rep.line is)
    where
      by : NamesLine refusal told last → SomeOutside held words
      by (line, place, named, said) = (line, place, being (Line line place) named)

  pub line-by : status ≡ 6 → replay.NamedLine held words first last
  line-by is = by (rep.line is)
    where
      by : NamesLine refusal told last → replay.NamedLine held words first last
      by (line, place, named, said) = record { line = line; place = place; refused = being (Line line place) named; said = said ∙ ap (complained (line_text line place)) silent }

  pub refused-by : status ≡ 7 → IsRefused held words
  refused-by is = by (rep.refused is)
    where
      by : NamesRefused refusal told last → IsRefused held words
      by (inl (line, fault, named, said)) = inl (line, fault, being (Setup line fault) named)
      by (inr (table, fault, named, said)) = inr (table, fault, being (LoadRefused table fault) named)

  pub named-by : status ≡ 7 → replay.NamedSetup held words first last ⊎ replay.NamedLoad held words first last
  named-by is = by (rep.refused is)
    where
      by : NamesRefused refusal told last → replay.NamedSetup held words first last ⊎ replay.NamedLoad held words first last
      by (inl (line, fault, named, said)) = inl (record { line = line; fault = fault; refused = being (Setup line fault) named; said = said ∙ ap (complained (setup_text line fault)) silent })
      by (inr (table, fault, named, said)) = inr (record { table = table; fault = fault; refused = being (LoadRefused table fault) named; said = said ∙ ap (complained (load_text table fault)) silent })

  pub want-by : (HasName refusal → after ≡ before)
      → status ≡ 9 → (after ≡ before) ⊎ replay.ReplayedInPart held words before.written after.written
  want-by nothing is = by (rep.memory is)
    where
      by : InWant refusal → (after ≡ before) ⊎ replay.ReplayedInPart held words before.written after.written
      by (inl named) = being Memory named
      by (inr named) = inl (nothing named)

-- ---- what the status of an explanation says

module _ (held : List ℕ → Option (List ℕ)) (words : ExplainWords) (left : Option (List ℕ)) (before after : Writing) (refusal : Refusal) (status : ℕ) (first told last : Option (List ℕ))
    (silent : told ≡ first) (reported : Reported refusal status told last) (why : explain.RefusesOver held words left before after refusal) where
  heard : Report refusal status told last
  heard = reported-is refusal status told last reported

  of : (r : Refusal) → refusal ≡ r → explain.RefusesOver held words left before after r
  of r is = subst (explain.RefusesOver held words left before after) is why

  pub explain-never-links : status ≡ 5 → ⊥
  explain-never-links is = of Link (heard.link is)

  pub explain-part-by : status ≡ 4 → explain.ExplainedInPart held words before.written after.written
  explain-part-by is = of Write (heard.write is)

  pub explain-long-by : status ≡ 10 → IsTooLong (held words.script) left
  explain-long-by is = of TooLong (heard.too_long is)

  pub explain-outside-by : status ≡ 6 → Named held words (Lies words.setup.clients)
  explain-outside-by is = by (heard.line is)
    where
      by : NamesLine refusal told last → Named held words (Lies words.setup.clients)
      by (line, place, named, said) = (let o = of (Line line place) named in record { script = o.script; read = o.read; holds = (record { line = line; place = place }, o.first) })

  pub explain-line-by : status ≡ 6 → explain.NamedLine held words first last
  explain-line-by is = by (heard.line is)
    where
      by : NamesLine refusal told last → explain.NamedLine held words first last
      by (line, place, named, said) = record { line = line; place = place; refused = of (Line line place) named; said = said ∙ ap (complained (line_text line place)) silent }

  pub explain-refused-by : status ≡ 7 → Named held words (Refused words.setup.clients)
  explain-refused-by is = by (heard.refused is)
    where
      by : NamesRefused refusal told last → Named held words (Refused words.setup.clients)
      by (inl (line, fault, named, said)) = (let r = of (Setup line fault) named in record { script = r.script; read = r.read; holds = record { inside = r.inside; refused = (line, fault, r.first) } })
      by (inr (table, fault, named, said)) = absurd (of (LoadRefused table fault) named)

  pub explain-named-by : status ≡ 7 → explain.NamedSetup held words first last
  explain-named-by is = by (heard.refused is)
    where
      by : NamesRefused refusal told last → explain.NamedSetup held words first last
      by (inl (line, fault, named, said)) = record { line = line; fault = fault; refused = of (Setup line fault) named; said = said ∙ ap (complained (setup_text line fault)) silent }
      by (inr (table, fault, named, said)) = absurd (of (LoadRefused table fault) named)

  pub explain-want-by : (HasName refusal → after ≡ before)
      → status ≡ 9 → (after ≡ before) ⊎ explain.ExplainedInPart held words before.written after.written
  explain-want-by nothing is = by (heard.memory is)
    where
      by : InWant refusal → (after ≡ before) ⊎ explain.ExplainedInPart held words before.written after.written
      by (inl named) = of Memory named
      by (inr named) = inl (nothing named)
