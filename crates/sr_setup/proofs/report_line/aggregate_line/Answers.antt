use Rattle.std.proofs.Common.{◌≡◌, true, List, ℕ, sym, ◌∙◌, subst, rules}
use Rattle.std.specs.Prelude.{codes}
use Rattle.std.specs.Str.{bytes_eq}
use Rattle.sr_lines.specs.Script.{part_of}
use Rattle.sr_reader.proofs.LineWords.{is_text}
use Rattle.sr_reader.proofs.LineWords as words
use Rattle.sr_setup.specs.ReportFiles.{is_aggregate}
use Rattle.sr_setup.proofs.ReportLines.{is_agg, no_text}
use Rattle.sr_setup.proofs.report_line.aggregate_line.Goals as goal

pub returns-in_default-clause-none : goal.returns-in_default-clause-none
returns-in_default-clause-none c = no_text c.args.bytes.now (words.no_text c.args.bytes.now c.in_default.ensures.cases.0)

pub returns-then-eq-clause-found : goal.returns-then-eq-clause-found
returns-then-eq-clause-found c =
    let line = c.in-Ok.line.now in
    let same = c.in-Ok.ensures.cases.0 in
    let text = is_text c.args.bytes.now line same c.in-Ok.ensures.cases.1 in
    let here : bytes_eq c.split.result.0.now (codes "agg") ≡ true = search rules in
    let word : bytes_eq (part_of line) (codes "agg") ≡ true = subst (λ (z : List ℕ). bytes_eq z (codes "agg") ≡ true) c.split.ensures.part here in
    (same, subst (λ (z : List ℕ). is_aggregate z ≡ true) same (is_agg line text word))
