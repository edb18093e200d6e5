use Rattle.std.proofs.Common.{inl, inr}
use Rattle.sr_condition.proofs.Bounds.{equal-text, at_most-text, above-text}
use Rattle.sr_condition.proofs.ranges.text_range.Goals as goal

pub returns-in_ok-next_text-in-Eq : goal.returns-in_ok-next_text-in-Eq
returns-in_ok-next_text-in-Eq c =
    let equal = equal-text c.args.column.now c.args.text.now c.requires c.know_bytes.ensures in
    elim c.in-Eq.is [
      | inl is ↦ rw (c.texts.ensures, c.in_ok-same_text-in-Eq.ensures, c.in_ok-next_text-in-Eq.ensures, is) equal
      | inr is ↦ rw (c.texts.ensures, c.in_ok-same_text-in-Eq.ensures, c.in_ok-next_text-in-Eq.ensures, is) equal
    ]

pub returns-in_ok-next_text-in-Le : goal.returns-in_ok-next_text-in-Le
returns-in_ok-next_text-in-Le c =
    rw (c.texts-in-Le.ensures, c.new-in-Le.ensures, c.in_ok-next_text-in-Le.ensures, c.in-Le.is) (at_most-text c.args.column.now c.args.text.now c.requires c.know_bytes.ensures)

pub returns-in_ok-next_text-in-Gt : goal.returns-in_ok-next_text-in-Gt
returns-in_ok-next_text-in-Gt c =
    rw (c.texts-in-Gt.ensures, c.in_ok-next_text-in-Gt.ensures, c.in-Gt.is) (above-text c.args.column.now c.args.text.now c.requires c.know_bytes.ensures)
