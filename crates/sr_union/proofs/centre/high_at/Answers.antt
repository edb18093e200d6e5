use Rattle.std.proofs.Common.{ap, sym, ◌∙◌}
use Rattle.std.specs.Option.{option_copied}
use Rattle.sr_union.specs.Centre.{high_of}
use Rattle.sr_union.proofs.Middles.{none_at, held}
use Rattle.sr_union.proofs.centre.high_at.Goals as goal

pub returns-in-None : goal.returns-in-None
returns-in-None c =
    let none = none_at c.args.rect.now c.args.k (sym c.get.ensures ∙ ap option_copied c.in-None.is) in
    held c.high_of-in-None.result (record { sfits = c.high_of-in-None.type_inv }) ∙ (c.high_of-in-None.ensures ∙ ap (high_of c.args.column.now.kind c.args.column.now.lo c.args.column.now.hi) (sym none))
