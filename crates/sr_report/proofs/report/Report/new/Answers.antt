use Rattle.std.proofs.Common.{[], ◌∷◌, ap, length, subst, sym, arith}
use Rattle.std.proofs.lemmas.List.{length-append}
use Rattle.sr_report.proofs.Entries.{AreMade, made_more}
use Rattle.sr_report.proofs.report.Report.new.Goals as goal

pub loop-line-preserved : goal.loop-line-preserved
loop-line-preserved c =
    let id = c.args.id in
    let tables = c.args.schema.now in
    let steps = c.loop-line.steps in
    let made = c.in_ok-step_of.field-0 in
    let so_far = c.loop-line.invariant in
    let pushed = c.in_ok-push.ensures.pushed in
    record {
      made = λ sayings are. subst (AreMade tables id sayings) (sym pushed) (made_more id tables c.loop-line.yielded c.in-Some.line steps made so_far.made c.in_ok-step_of.ensures sayings are);
      few = let p = ap length pushed in
          let a = length-append steps (made ∷ []) in
          let b = length-append c.loop-line.yielded (c.in-Some.line ∷ []) in
          let h = so_far.few in
          omega (arith, p, a, b, h);
    }
