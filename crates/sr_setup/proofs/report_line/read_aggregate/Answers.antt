use Rattle.std.proofs.Common.{◌≡◌, ◌∙◌, sym, subst, ap, List, ℕ}
use Rattle.std.specs.Prelude.{Some, None, Option}
use Rattle.sr_cell.specs.Clients.{most_clients}
use Rattle.sr_lines.specs.Script.{client_number, part_of, behind}
use Rattle.sr_setup.specs.ClientFiles.{second_place}
use Rattle.sr_setup.proofs.ReportLines.{no_number}
use Rattle.sr_setup.proofs.report_line.read_aggregate.Goals as goal

pub returns-in_default-clause-outside : goal.returns-in_default-clause-outside
returns-in_default-clause-outside c =
    let rest = c.split.ensures.behind in
    let part = c.split-2.ensures.part in
    let none : client_number most_clients (part_of (behind c.args.line.now)) ≡ None =
    subst (λ (z : List ℕ). client_number most_clients (part_of z) ≡ None) rest (subst (λ (z : List ℕ). client_number most_clients z ≡ None) part (sym c.client_number.ensures ∙ c.in_default.is)) in
    no_number c.args.line.now c.requires.word c.args.id none ∙ ap (λ (n : ℕ). Some n) (sym (c.second_place.ensures ∙ ap second_place c.as_bytes.ensures.value))
