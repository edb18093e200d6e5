use Rattle.std.proofs.Common.{ℕ, ◌∙◌, ◌+◌, ◌≤◌, length, drop, sym, subst, refl, List, arith}
use Rattle.sr_lines.specs.Lines.{lines_of}
use Rattle.sr_setup.specs.declared.report_script.ReportLine.{ReportLine}
use Rattle.sr_setup.proofs.ReportWalks.{Walked, own_text, walked_start, walked_none, walked_some, walked_all, text_here, none_left}
use Rattle.sr_setup.proofs.report_script.report_lines.Goals as goal
use Rattle.sr_setup.proofs.report_script.report_lines.Goals.{in-Some+in_ok-push, in_default}

pub loop-i-preserved : goal.loop-i-preserved
loop-i-preserved c script are inside =
    let i = c.loop-i.i in
    let id = c.args.id in
    let tables = c.args.schema.now in
    let texts = c.args.texts.now in
    let rest = drop i (lines_of script) in
    let after = drop (i + 1) (lines_of script) in
    let so_far = c.loop-i.invariant script are inside in
    let here = text_here script texts texts i _ _ refl are c.loop-i-test.true refl in
    let read = c.in_ok-line.ensures id (own_text id script tables (i + 1) rest after here.0 c.loop-i.lines so_far here.1 _ here.2) in
    elim c.match-branch-2.branch [
      | in-Some+in_ok-push w ↦ subst (λ (z : List ReportLine). Walked id script tables (i + 1 + 1) after z) (sym (w.lines-is ∙ w.in_ok-push.ensures.pushed))
          (walked_some id script tables (i + 1) rest after here.0 c.loop-i.lines so_far here.1 _ c.in_ok-line.field-0 here.2 read w.in-Some.line w.in-Some.is)
      | in_default w ↦ subst (λ (z : List ReportLine). Walked id script tables (i + 1 + 1) after z) (sym w.lines-is)
          (walked_none id script tables (i + 1) rest after here.0 c.loop-i.lines so_far here.1 _ c.in_ok-line.field-0 here.2 read w.in_default.is)
    ]

pub returns : goal.returns
returns c = record {
  are = λ script are inside.
      let i = c.loop-i.i in
      let past : length c.args.texts.now ≤ i = (let h = c.loop-i-test.false in omega (arith, h)) in
      walked_all c.args.id script c.args.schema.now (i + 1) c.loop-i.lines
      (subst (λ (z : List (List ℕ)). Walked c.args.id script c.args.schema.now (i + 1) z c.loop-i.lines) (none_left script c.args.texts.now i are past) (c.loop-i.invariant script are inside));
}
