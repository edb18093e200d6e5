-- The beginning of a run.
use Rattle.std.proofs.Common.{◌≡◌, ℕ, Bool, true, false, cond, List, refl, None, Option}
use Rattle.sr_session.specs.Clients.{Client}
use Rattle.sr_io.specs.Told.{Linking, Writing}
use Rattle.sr_links.specs.Brought.{Holding}
use Rattle.sr_links.specs.Steps.{Standing}
use Rattle.sr_talk.proofs.SomeLemmas.{appends-nothing}
use Rattle.sr_dial.specs.Known.{Setting}
use Rattle.sr_dial.specs.Courses.{EndsLine, FailsAs, IsWritten, Start, Unbegun}
use Rattle.sr_dial.specs.declared.ending.Ending.TheVariants.{Unwritten}
use Rattle.sr_dial.specs.declared.run.LineEnd.TheVariants.{Failed, Ends}
use Rattle.sr_dial.specs.declared.parts.Answer.{Answer}
use Rattle.sr_dial.specs.Following.{Ahead}

pub unbegun : {Z : Type 0} (C : Type 0) (Stands : C → Client → Type 0) (lent : C → Option Answer) (IsOf : Standing C) (Has : Holding C) (k : Setting) (s : Start C Z) → Stands s.code s.past → s.past.cut ≡ true → s.past.out ≡ None → lent s.code ≡ None
    → Unbegun C Stands lent IsOf Has k s (λ answer. s.plan) 0 false s.linking (IsWritten s s.writing) s.code
unbegun {Z} C Stands lent IsOf Has k s stands cut out lends = record {
  none = refl;
  lends = lends;
  first = refl;
  not_failed = refl;
  links = refl;
  written = (appends-nothing s.writing.written, refl);
  code_is = refl;
  stands = stands;
  cut = cut;
  out = out;
}

-- a line ends so whose link failed
pub ends-failed : {Z : Type 0} (C : Type 0) (Stands : C → Client → Type 0) (lent : C → Option Answer) (IsOf : Standing C) (Has : Holding C) (k : Setting) (s : Start C Z) (ahead : Ahead) (line : ℕ) (failed : Bool) (l : Linking) (w : Writing) (feed : List ℕ) (code : C) (said : Bool)
    → FailsAs C Stands lent IsOf Has k said s ahead line l w feed code → EndsLine C Stands lent IsOf Has k (cond said Failed (Ends Unwritten)) s ahead line failed l w feed code
ends-failed {Z} C Stands lent IsOf Has k s ahead line failed l w feed code true is = is
ends-failed {Z} C Stands lent IsOf Has k s ahead line failed l w feed code false is = (is, tt)
