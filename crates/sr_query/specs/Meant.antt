-- What bound conditions stand for.
use Rattle.std.specs.Prelude.{Bool, true, false, List, [], ◌∷◌, map}
use Rattle.sr_grammar.specs.declared.statement.Atom.{Atom}
use Rattle.sr_grammar.specs.declared.statement.Atom.TheVariants as atoms
use Rattle.sr_query.specs.Binding.{compared}
use Rattle.sr_query.specs.Binding as binding
use Rattle.sr_model.specs.Conditions as model
use Rattle.sr_query.specs.declared.condition.Test.{Test}
use Rattle.sr_query.specs.declared.condition.Test.TheVariants as tests
use Rattle.sr_query.specs.declared.condition.Condition.{Condition}
use Rattle.sr_query.specs.declared.condition.Condition.TheOpen as layers
use Rattle.sr_query.specs.declared.condition.Condition.TheOpen.{Condition-F}
use Rattle.sr_query.specs.declared.condition.Condition.TheFolds.{fold-Condition}
use Rattle.sr_query.specs.Bound.{output_of}

abbrev pub test_meant : Test → model.Test
test_meant (tests.Compared op v) = compared op v
test_meant (tests.Between a b) = model.Between a b
test_meant (tests.OneOf vs) = model.OneOf vs
test_meant (tests.Prefix p) = model.Prefix p
test_meant tests.IsNull = model.IsNull

-- whether the atom says its test, and not the contrary
abbrev pub holds : Atom → Bool
holds (atoms.Cmp op l) = true
holds (atoms.Between low high) = true
holds (atoms.OneOf all) = true
holds (atoms.Prefix text) = true
holds (atoms.NotBetween low high) = false
holds (atoms.NotOneOf all) = false
holds (atoms.NotPrefix text) = false
holds atoms.IsNull = true
holds atoms.NotNull = false

abbrev pub bounds_of : List binding.Bound → binding.Bounds
bounds_of [] = binding.no_more
bounds_of (b ∷ bs) = binding.one_more b (bounds_of bs)

-- one layer of a condition, with what its members stand for in their place
abbrev pub layer : Condition-F binding.Bound → binding.Bound
layer (layers.Test place o t) = binding.Testing place (output_of o) (test_meant t)
layer (layers.And all) = binding.Conjunction (bounds_of all.items)
layer (layers.Or all) = binding.Disjunction (bounds_of all.items)
layer (layers.Not one) = binding.Negation one.value

abbrev pub meant : Condition → binding.Bound
meant = fold-Condition binding.Bound layer

-- the conditions of the members of a list
abbrev pub members : List Condition → model.Conds
members all = binding.conds_of (bounds_of (map meant all))
