-- What a reference stands for: its place, and its column.
use Rattle.std.specs.Prelude.{ℕ}
use Rattle.sr_model.specs.Queries.{Output}
use Rattle.sr_query.specs.Bound.{output_of}
use Rattle.sr_bind.specs.declared.references.Reference.{Reference}

abbrev pub reference_of : Reference → ℕ × Output
reference_of r = (r.place, output_of r.output)
