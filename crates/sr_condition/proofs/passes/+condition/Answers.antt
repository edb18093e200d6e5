use Rattle.std.proofs.Common.{◌∙◌, sym}
use Rattle.sr_cell.specs.Cells.{cell_at}
use Rattle.sr_model.specs.Conditions.{truth}
use Rattle.sr_model.proofs.Sides.{not-side}
use Rattle.sr_query.specs.Binding.{cond_of}
use Rattle.sr_query.specs.Meant.{meant, members}
use Rattle.sr_condition.proofs.Saying.{and-all, and-some, or-all, or-some}
use Rattle.sr_condition.proofs.passes.+condition.Goals as goal

pub conjunction-returns-then-plain : goal.conjunction-returns-then-plain
conjunction-returns-then-plain t c = c.all_say.ensures ∙ and-all c.args.plain (cell_at c.args.row.now) (members c.args.all.now) c.if-plain.true

pub conjunction-returns-else-plain : goal.conjunction-returns-else-plain
conjunction-returns-else-plain t c = c.some_say.ensures ∙ and-some c.args.plain (cell_at c.args.row.now) (members c.args.all.now) c.if-plain.false

pub disjunction-returns-then-plain : goal.disjunction-returns-then-plain
disjunction-returns-then-plain t c = c.some_say.ensures ∙ or-some c.args.plain (cell_at c.args.row.now) (members c.args.all.now) c.if-plain.true

pub disjunction-returns-else-plain : goal.disjunction-returns-else-plain
disjunction-returns-else-plain t c = c.all_say.ensures ∙ or-all c.args.plain (cell_at c.args.row.now) (members c.args.all.now) c.if-plain.false

pub negation-returns : goal.negation-returns
negation-returns t c = c.says.ensures ∙ sym (not-side c.args.plain (truth (cell_at c.args.row.now) (cond_of (meant c.args.one.now))))
