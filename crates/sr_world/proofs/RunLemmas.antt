-- Runs one after another, and the text of their lines.
use Rattle.std.proofs.Common.{◌≡◌, ℕ, ◌+◌, Bool, List, [], ◌∷◌, ◌++◌, length, take, Option, refl, subst, sym, ◌∙◌, ap, append_assoc, append-nil, arith, length-append}
use Rattle.std.proofs.Math.Seq.{take-append-add}
use Rattle.std.specs.Io.KnownBytes.{Appends}
use Rattle.std.specs.List.{AllByRecursion}
use Rattle.sr_cell.specs.declared.table.Table.{Table}
use Rattle.sr_lines.specs.Events.{ScriptEvent}
use Rattle.sr_script.specs.declared.line.TraceLine.{TraceLine}
use Rattle.sr_script.specs.TraceText.{trace_text, line_text}
use Rattle.sr_session.specs.Scenes.{Scene}
use Rattle.sr_runs.specs.Runs.{Runs, Steps, ends, goes_on, numbered}
use Rattle.sr_io.specs.Pieces.{WritesPrefix}
use Rattle.sr_io.proofs.SoFar.{Appends-append}
use Rattle.sr_world.specs.declared.world.World.{World}
use Rattle.sr_world.specs.Worlds.{Goes}
use Rattle.sr_world.specs.Ran.{NumbersFit, Ran, RanWhole, RanPart}
use Rattle.sr_world.proofs.Placed.{all-append}

pub trace_text-append : (schema : List Table) (a b : List (ℕ × TraceLine)) → trace_text schema (a ++ b) ≡ trace_text schema a ++ trace_text schema b
trace_text-append schema [] b = refl
trace_text-append schema (line ∷ a) b =
    ap (λ t. line_text schema line.0 line.1 ++ t) (trace_text-append schema a b) ∙ sym (append_assoc (line_text schema line.0 line.1) (trace_text schema a) (trace_text schema b))

pub Runs-append : (eager : Bool) (s : Scene) (a : List (ℕ × ScriptEvent)) (front : List (ℕ × TraceLine)) (mid : Scene) (b : List (ℕ × ScriptEvent)) (rest : List (ℕ × TraceLine)) (new : Scene)
    → Runs eager s a front mid → Runs eager mid b rest new → Runs eager s (a ++ b) (front ++ rest) new
Runs-append eager s a front mid b rest new (ends x) more = more
Runs-append eager s a front mid b rest new (goes_on x number what lines next later behind last step run) more =
    subst (λ ls. Runs eager s ((number, what) ∷ (later ++ b)) ls new) (sym (append_assoc (numbered number lines) behind rest))
    (goes_on s number what lines next (later ++ b) (behind ++ rest) new step (Runs-append eager next later behind mid b rest new run more))

-- one event
pub Runs-one : (eager : Bool) (s : Scene) (event : ℕ × ScriptEvent) (lines : List TraceLine) (new : Scene) → Steps eager s event.1 lines new
    → Runs eager s (event ∷ []) (numbered event.0 lines) new
Runs-one eager s event lines new step =
    subst (λ ls. Runs eager s (event ∷ []) ls new) (append-nil (numbered event.0 lines)) (goes_on s event.0 event.1 lines new [] [] new step (ends new))

pub Ran-none : (eager : Bool) (schema : List Table) (w : World) → Ran eager schema [] w w []
Ran-none eager schema w = record { lines = []; run = λ s r. (s, ends s, r); numbers = tt; text = refl }

pub Ran-one : (eager : Bool) (schema : List Table) (event : ℕ × ScriptEvent) (old new : World) (lines : List TraceLine) (trace : List ℕ)
    → Goes (λ s. Steps eager s event.1) old new lines → AllByRecursion (NumbersFit schema) (numbered event.0 lines) → trace ≡ trace_text schema (numbered event.0 lines)
    → Ran eager schema (event ∷ []) old new trace
Ran-one eager schema event old new lines trace does fit text = record {
  lines = numbered event.0 lines;
  run = λ s r. let d = does s r in (d.0, Runs-one eager s event lines d.0 d.1, d.2);
  numbers = fit;
  text = text;
}

pub Ran-append : {eager : Bool} {schema : List Table} {a b : List (ℕ × ScriptEvent)} {old mid new : World} {one two : List ℕ}
    → Ran eager schema a old mid one → Ran eager schema b mid new two → Ran eager schema (a ++ b) old new (one ++ two)
Ran-append {eager} {schema} {a} {b} {old} {mid} {new} {one} {two} p q = record {
  lines = p.lines ++ q.lines;
  run = λ s r.
      let d = p.run s r in
      let e = q.run d.0 d.2 in
      (e.0, Runs-append eager s a p.lines d.0 b q.lines e.0 d.1 e.1, e.2);
  numbers = all-append (NumbersFit schema) p.lines q.lines p.numbers q.numbers;
  text = rw (p.text, q.text) (sym (trace_text-append schema p.lines q.lines));
}

-- a prefix behind what was written
pub WritesPrefix-behind : (first mid last : Option (List ℕ)) (one two : List ℕ) → Appends first mid one → WritesPrefix mid last two → WritesPrefix first last (one ++ two)
WritesPrefix-behind first mid last one two p q = record {
  count = length one + q.count;
  within = omega (arith, length-append one two, q.within);
  appended = rw (take-append-add one two q.count) (Appends-append first mid last one (take q.count two) p q.appended);
}

pub RanPart-behind : {eager : Bool} {schema : List Table} {a b all : List (ℕ × ScriptEvent)} {old mid : World} {first at last : Option (List ℕ)}
    → RanWhole eager schema a old mid first at → RanPart eager schema b mid at last → all ≡ a ++ b → RanPart eager schema all old first last
RanPart-behind {eager} {schema} {a} {b} {all} {old} {mid} {first} {at} {last} p q same = record {
  done = a ++ q.done;
  left = q.left;
  split = same ∙ ap (λ e. a ++ e) q.split ∙ sym (append_assoc a q.done q.left);
  mid = q.mid;
  trace = p.trace ++ q.trace;
  ran = Ran-append p.ran q.ran;
  written = WritesPrefix-behind first at last p.trace q.trace p.written q.written;
}

pub RanWhole-append : {eager : Bool} {schema : List Table} {a b : List (ℕ × ScriptEvent)} {old mid new : World} {first at last : Option (List ℕ)}
    → RanWhole eager schema a old mid first at → RanWhole eager schema b mid new at last → RanWhole eager schema (a ++ b) old new first last
RanWhole-append {eager} {schema} {a} {b} {old} {mid} {new} {first} {at} {last} p q = record {
  trace = p.trace ++ q.trace;
  ran = Ran-append p.ran q.ran;
  written = Appends-append first at last p.trace q.trace p.written q.written;
}
