-- Laws of aggregates.
use Rattle.std.specs.Prelude.{◌≡◌, ℕ, List, IsPermutation, Option, Ok}
use Rattle.sr_cell.specs.declared.cell.Cell.{Cell}
use Rattle.sr_cell.specs.declared.table.Table.{Table}
use Rattle.sr_cell.specs.Cells.{Row}
use Rattle.sr_grammar.specs.Says.{Says}
use Rattle.sr_grammar.specs.Trees.{Statement}
use Rattle.sr_model.specs.Queries.{Query, rows_of}
use Rattle.sr_query.specs.Binding.{bound_query}
use Rattle.sr_agg.specs.declared.statement.Aggregate.{Aggregate}
use Rattle.sr_agg.specs.declared.item.Item.{Item}
use Rattle.sr_agg.specs.Statement.{outer}
use Rattle.sr_agg.specs.Inner.{group_count, inner_text}
use Rattle.sr_agg.specs.Groups.{aggregates}
use Rattle.sr_agg.specs.Starting.{Plan, item_of, scope_of, Starts}
use Rattle.std.specs.Prelude.{map}

-- What is told of rows does not hang on their order.
abbrev pub OrderIsNothing : Type 0
OrderIsNothing = (g : ℕ) (items : List Item) (rows others : List Row) → IsPermutation rows others → aggregates g items rows ≡ aggregates g items others

-- An aggregate whose query means q, of tables: its groups are those of the query's rows there, and of each group its items are told.
abbrev pub agg_of : Aggregate → Query → List (List Row) → List (List (Option Cell))
agg_of a q tables = aggregates (group_count a) (map (item_of (scope_of a q)) a.items) (rows_of q tables)

-- what a text tells of tables as an aggregate
abbrev pub Tells : List Table → List ℕ → List (List Row) → List (List (Option Cell)) → Type 0
Tells schema text tables told =
    (a : Aggregate) × (s : Statement) × (q : Query) × (outer text ≡ Ok a) × Says (inner_text schema text a) (Ok s) × (bound_query schema s ≡ Ok q)
    × (told ≡ agg_of a q tables)

-- Over the rows of its inner text, what is told by the plan that a text begins is what the text tells of the tables.
abbrev pub PlansTell : Type 0
PlansTell = (schema : List Table) (text : List ℕ) (plan : Plan) (s : Statement) (q : Query) (tables : List (List Row))
    → Starts schema text (Ok plan) → Says plan.inner (Ok s) → bound_query schema s ≡ Ok q
    → Tells schema text tables (aggregates plan.groups plan.items (rows_of q tables))
