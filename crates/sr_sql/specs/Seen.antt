-- What parts of statements stand for.
use Rattle.std.specs.Prelude.{List, [], Option, Some, None}
use Rattle.sr_grammar.specs.declared.statement.Definition.{Definition}
use Rattle.sr_grammar.specs.Seen.{cond_seen, statement_seen}
use Rattle.sr_grammar.specs.Trees as grammar_trees
use Rattle.sr_grammar.specs.Statements as grammar
use Rattle.sr_sql.specs.declared.statements.Where.{Where}
use Rattle.sr_sql.specs.declared.statements.Shown.{Shown}
use Rattle.sr_sql.specs.declared.read.Parsed.{Parsed}
use Rattle.sr_sql.specs.declared.read.Parsed.TheVariants as trees

abbrev pub where_seen : Option Where → Option grammar.Where
where_seen None = None
where_seen (Some found) = Some (record { place = found.place; cond = cond_seen found.cond })

abbrev pub shown_seen : Shown → grammar.Listed
shown_seen shown = record { all = shown.all; list = shown.list }

abbrev pub tree_seen : Parsed → grammar_trees.Tree
tree_seen (trees.Written written) = grammar_trees.Defines written.name written.columns
tree_seen (trees.Statement statement) = grammar_trees.Says (statement_seen statement)

abbrev pub columns_in : grammar_trees.Tree → List Definition
columns_in (grammar_trees.Defines name columns) = columns
columns_in (grammar_trees.Says statement) = []
