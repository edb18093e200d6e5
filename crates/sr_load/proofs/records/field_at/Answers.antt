use Rattle.std.proofs.Common.{sym}
use Rattle.csv.specs.Records.{fields_of}
use Rattle.csv.proofs.RecordFacts.{field-get, field-there}
use Rattle.sr_load.proofs.records.field_at.Goals as goal

pub unreachable-requires : goal.unreachable-requires
unreachable-requires c = field-there (fields_of c.args.raw.now) c.args.place c.requires (sym (rw c.in-None.is at c.get.ensures.value))

pub returns : goal.returns
returns c = sym (field-get (fields_of c.args.raw.now) c.args.place c.in-Some.field.now (sym (rw c.in-Some.is at c.get.ensures.value)))
