-- The tests of two ends, and of a prefix.
use Rattle.std.specs.Prelude.{Result, Ok}
use Rattle.sr_cell.specs.declared.table.Kind.{Kind}
use Rattle.sr_cell.specs.declared.fault.Fault.{Fault}
use Rattle.sr_grammar.specs.declared.statement.Literal.{Literal}
use Rattle.sr_model.specs.Conditions.{Test, Between, Prefix}
use Rattle.sr_query.specs.Binding.{◌>>=◌, value_of, text_of}

abbrev pub between_of : Kind → Literal → Literal → Result Test Fault
between_of kind low high = value_of kind low >>= λ a. value_of kind high >>= λ b. Ok (Between a b)

abbrev pub prefix_of : Kind → Literal → Result Test Fault
prefix_of kind text = value_of kind text >>= λ v. Ok (Prefix (text_of v))
