use Rattle.sr_query.specs.Written.{write_of}
use Rattle.sr_tables.proofs.Few.{few_written}
use Rattle.sr_tables.proofs.tables.Tables.write.Goals as goal

pub invariant_of-self : goal.invariant_of-self
invariant_of-self c = (
  c.self.invariant.0,
  c.carry_out.ensures.keyed,
  few_written c.carry_out.result c.self.inside.schema (write_of c.args.write) c.self.inside.rows.items c.carry_out.new.all.items c.carry_out.ensures.done c.carry_out.ensures.unchanged c.self.invariant.2,
)
