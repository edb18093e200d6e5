use Rattle.sr_keyed.proofs.keyed.KeyedRows.know_values.Goals as goal

pub returns : goal.returns
returns c = rw (← c.self.view_is) c.self.invariant.2
