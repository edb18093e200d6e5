-- What readers leave is no longer than what they were given.
use Rattle.std.proofs.Common.{ℕ, suc}
use Rattle.sr_grammar.specs.Conditions.{IsValue, IsUnit, ConjOf}
use Rattle.sr_grammar.specs.Statements.{IsColumnName, IsJoin}
use Rattle.sr_grammar_laws.specs.Readers.{value, unit, conj_of, column_name, join, begins_join}
use Rattle.sr_grammar_laws.proofs.Words.{no_more}
use Rattle.sr_grammar_laws.proofs.LawsOfConditions.{both_value, both_unit, both_conj, and_more}
use Rattle.sr_grammar_laws.proofs.LawsOfStatements.{both_column_name, both_join, join_begins, dot_more}
use Rattle.sr_grammar_laws.proofs.Loops.{Shrinks, shrinks, Takes, takes}

pub unit_less : (n : ℕ) → Shrinks (unit n)
unit_less n = shrinks (unit n) (IsUnit n) no_more (both_unit n).good

pub conj_less : (n : ℕ) → Shrinks (conj_of (unit n))
conj_less n = shrinks (conj_of (unit n)) (ConjOf (IsUnit n)) and_more (both_conj (unit n) (unit (suc n)) (IsUnit n) (IsUnit (suc n)) (both_unit n)).good

pub value_less : Shrinks value
value_less = shrinks value IsValue no_more both_value.good

pub column_name_less : Shrinks column_name
column_name_less = shrinks column_name IsColumnName no_more both_column_name.good

pub join_takes : Takes join
join_takes = takes begins_join join IsJoin dot_more both_join.good join_begins
