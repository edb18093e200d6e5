-- Handing out what is told of an answer.
use Rattle.std.proofs.Common.{◌≡◌, ℕ, List, refl, sym, ◌∙◌, ap, subst}
use Rattle.std.specs.Prelude.{Option, Some, None, string_bytes}
use Rattle.std.specs.List.{AllZip}
use Rattle.std.specs.Vec.Iter.{into_iter_items}
use Rattle.sr_cell.specs.declared.table.Table.{Table}
use Rattle.sr_plan.specs.Plans.{Next}
use Rattle.sr_dial.specs.Calls.{Say}
use Rattle.sr_dial.specs.Following.{Ahead}
use Rattle.sr_dial.specs.Jobs.{GivesNext}
use Rattle.sr_dial.specs.declared.parts.Answer.{Answer}
use Rattle.sr_dial.specs.declared.plans.Job.{Job}
use Rattle.sr_dial.specs.declared.plans.Job.TheVariants as job
use Rattle.sr_report.specs.Plans.{Entry, report_plan}
use Rattle.sr_report.specs.Steps.{Follows, IsSaying, IsStep, ahead_behind, told_by}
use Rattle.sr_report.specs.declared.report.Asked.{Asked}
use Rattle.sr_report.specs.declared.report.Report.{Report}

-- No answer is awaited, and this is left.
follows-rest : (tables : List Table) (id : ℕ) (new : Report) (entries : List (ℕ × Entry)) (ahead : Ahead) → new.id ≡ id → new.asked ≡ None → AllZip (IsStep tables id) (into_iter_items new.steps) entries
    → ((answer : Option Answer) → ahead answer ≡ report_plan id entries) → Follows tables new ahead
follows-rest tables id new entries ahead same none are is = record {
  entries = entries;
  are = subst (λ (n : ℕ). AllZip (IsStep tables n) (into_iter_items new.steps) entries) (sym same) are;
  ahead_is = λ answer.
      is answer
      ∙ (ap (λ (n : ℕ). report_plan n entries) (sym same)
      ∙ ap (λ (a : Option Asked). ahead_behind new.id a (report_plan new.id entries) answer) (sym none));
}

-- The groups of an answer are told.
pub gives-told : (tables : List Table) (report new : Report) (asked : Asked) (ahead : Ahead) (answer : Answer) (given : Job) → Follows tables report ahead → new.id ≡ report.id → new.steps ≡ report.steps → new.asked ≡ None
    → report.asked ≡ Some asked → IsSaying given asked.number (told_by report.id asked answer) → GivesNext Follows tables given (ahead (Some answer)) new
gives-told tables report new asked ahead answer (job.Line l) follows same steps none some says = absurd says
gives-told tables report new asked ahead answer (job.Say n text) follows same steps none some says =
    let rest = report_plan report.id follows.entries in
    let plan_is : ahead (Some answer) ≡ Next asked.number (Say (told_by report.id asked answer)) (λ _. rest) =
    follows.ahead_is (Some answer) ∙ ap (λ (a : Option Asked). ahead_behind report.id a rest (Some answer)) some in
    record {
      task = Say (string_bytes text);
      further = λ answer. rest;
      is = refl;
      plan_is = plan_is
          ∙ (ap (λ (z : List ℕ). Next asked.number (Say z) (λ answer. rest)) (sym says.1)
          ∙ ap (λ (z : ℕ). Next z (Say (string_bytes text)) (λ answer. rest)) (sym says.0));
      follows = follows-rest tables report.id new follows.entries (λ answer. rest) same none (subst (λ (z : _). AllZip (IsStep tables report.id) (into_iter_items z) follows.entries) (sym steps) follows.are) (λ answer. refl);
    }
