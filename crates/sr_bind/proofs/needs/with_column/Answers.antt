use Rattle.std.proofs.Common.{◌≡◌, false, sym, ◌∙◌, arith}
use Rattle.sr_cell.specs.Attrs.{has_column}
use Rattle.sr_bind.proofs.Bits.{bit_room}
use Rattle.sr_bind.proofs.needs.with_column.Goals as goal

pub overflow_add-result : goal.overflow_add-result
overflow_add-result c =
    let free : has_column c.args.bits c.args.column ≡ false = sym c.has.ensures ∙ c.if-has.false in
    let fits = bit_room c.args.column c.args.bits c.requires (omega arith) free in omega arith
