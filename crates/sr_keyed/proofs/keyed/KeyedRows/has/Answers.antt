use Rattle.std.proofs.Common.{◌∙◌}
use Rattle.sr_keyed.proofs.Entries.{has-row}
use Rattle.sr_keyed.proofs.keyed.KeyedRows.has.Goals as goal

pub returns : goal.returns
returns c = rw (← c.self.view_is) (c.contains_key.ensures ∙ has-row c.self.inside.key c.self.inside.kind c.args.key.now c.self.inside.rows.entries c.self.invariant.0)
