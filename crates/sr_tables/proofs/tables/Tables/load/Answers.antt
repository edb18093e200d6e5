use Rattle.sr_tables.proofs.Few.{few_after_load}
use Rattle.sr_tables.proofs.tables.Tables.load.Goals as goal

pub invariant_of-self : goal.invariant_of-self
invariant_of-self c = (
  c.self.invariant.0,
  c.load_into.ensures.keyed,
  few_after_load c.load_into.result c.self.inside.schema c.args.table c.args.row c.self.inside.rows.items c.load_into.new.all.items c.load_into.ensures.loaded c.load_into.ensures.unchanged c.self.invariant.2,
)
