-- What an aggregate begins with, over a schema; or why it does not.
use Rattle.std.specs.Prelude.{◌≡◌, ℕ, ◌+◌, ◌==◌, ◌&&◌, Bool, true, false, List, [], ◌∷◌, take, map, slice_get, bytes_eq, Option, Some, None, Result, Ok, Err, if◌then◌else◌}
use Rattle.sr_cell.specs.declared.fault.Fault.{Fault}
use Rattle.sr_cell.specs.declared.table.Kind.{Kind}
use Rattle.sr_cell.specs.declared.table.Kind.TheVariants as kinds
use Rattle.sr_cell.specs.declared.table.Column.{Column}
use Rattle.sr_cell.specs.declared.table.Table.{Table}
use Rattle.sr_grammar.specs.Says.{Says}
use Rattle.sr_grammar.specs.Trees.{Statement}
use Rattle.sr_grammar.specs.declared.statement.Name.{Name}
use Rattle.sr_model.specs.Queries.{Part, Output, Query}
use Rattle.sr_query.specs.Binding.{bound_query}
use Rattle.sr_agg.specs.declared.item.Function.TheVariants.{Sum}
use Rattle.sr_agg.specs.declared.statement.Listed.{Listed}
use Rattle.sr_agg.specs.declared.statement.Listed.TheVariants.{Plain, Rows, Of}
use Rattle.sr_agg.specs.declared.statement.Aggregate.{Aggregate}
use Rattle.sr_agg.specs.declared.item.Item.{Item}
use Rattle.sr_agg.specs.declared.item.Item.TheVariants as items
use Rattle.sr_agg.specs.declared.agg.AggFault.{AggFault}
use Rattle.sr_agg.specs.declared.agg.AggFault.TheVariants.{Sql, NotGrouped, SumOfText}
use Rattle.sr_agg.specs.Statement.{outer}
use Rattle.sr_agg.specs.Inner.{spelling, listed, group_count, inner_text}

-- The query to ask, how many of its columns group its rows, and what is told of each group.
pub record Plan : Type 0 where
  pub inner : List ℕ
  pub groups : ℕ
  pub items : List Item

-- ---- what the names mean

-- What the names of an aggregate go by: the query's list, how many of its columns group, what column each is, and the tables of the
-- query's parts.
pub record Scope : Type 0 where
  pub texts : List (List ℕ)
  pub groups : ℕ
  pub outputs : List Output
  pub tables : List ℕ

abbrev pub scope_of : Aggregate → Query → Scope
scope_of a q = record { texts = listed a; groups = group_count a; outputs = q.outputs; tables = map (λ (p : Part). p.table) q.parts }

-- the place of a text in a list whose first place is that number; 0 where it is not there
abbrev pub place_among : ℕ → List ℕ → List (List ℕ) → ℕ
place_among place text [] = 0
place_among place text (t ∷ texts) = if bytes_eq text t then place else place_among (place + 1) text texts

-- the place of a name in the query's list
abbrev pub place_of : Scope → Name → ℕ
place_of scope n = place_among 0 (spelling n) scope.texts

-- the place of the first that is the same column, in a list whose first place is that number
abbrev pub same_among : ℕ → Output → List Output → Option ℕ
same_among place o [] = None
same_among place o (p ∷ outputs) = if o.part == p.part && o.column == p.column then Some place else same_among (place + 1) o outputs

abbrev pub same_as : List Output → Option Output → Option ℕ
same_as outputs None = None
same_as outputs (Some o) = same_among 0 o outputs

-- The place, among the columns that group, of the first that is the column of that place in the list.
abbrev pub group_at : Scope → ℕ → Option ℕ
group_at scope place = same_as (take scope.groups scope.outputs) (slice_get scope.outputs place)

-- the same of a name, in whatever way both are spelled
abbrev pub group_of : Scope → Name → Option ℕ
group_of scope n = group_at scope (place_of scope n)

abbrev pub is_text_kind : Kind → Bool
is_text_kind kinds.Str = true
is_text_kind kinds.Num = false

abbrev pub is_text_column : Option Column → Bool
is_text_column None = false
is_text_column (Some column) = is_text_kind column.kind

abbrev pub is_text_in : Option Table → ℕ → Bool
is_text_in None column = false
is_text_in (Some t) column = is_text_column (slice_get t.columns column)

abbrev pub is_text_of : List Table → Option ℕ → ℕ → Bool
is_text_of schema None column = false
is_text_of schema (Some number) column = is_text_in (slice_get schema number) column

abbrev pub is_text_output : List Table → List ℕ → Option Output → Bool
is_text_output schema tables None = false
is_text_output schema tables (Some o) = is_text_of schema (slice_get tables o.part) o.column

-- whether that column of the list has texts
abbrev pub is_text_at : List Table → Scope → ℕ → Bool
is_text_at schema scope place = is_text_output schema scope.tables (slice_get scope.outputs place)

-- ---- what may not be told

abbrev pub first_of_two : Option ℕ → Option ℕ → Option ℕ
first_of_two (Some place) other = Some place
first_of_two None other = other

abbrev pub if_none : Option ℕ → ℕ → Option ℕ
if_none None place = Some place
if_none (Some group) place = None

-- the place of a plain item that groups nothing
abbrev pub ungrouped_at : Scope → Listed → Option ℕ
ungrouped_at scope (Plain n) = if_none (group_of scope n) n.place
ungrouped_at scope Rows = None
ungrouped_at scope (Of function place n) = None

abbrev pub not_grouped : Scope → List Listed → Option ℕ
not_grouped scope [] = None
not_grouped scope (x ∷ items) = first_of_two (ungrouped_at scope x) (not_grouped scope items)

abbrev pub if_text : Bool → ℕ → Option ℕ
if_text true place = Some place
if_text false place = None

-- the place of a SUM of texts
abbrev pub text_sum_at : List Table → Scope → Listed → Option ℕ
text_sum_at schema scope (Of Sum place n) = if_text (is_text_at schema scope (place_of scope n)) place
text_sum_at schema scope (Of _ place n) = None
text_sum_at schema scope (Plain n) = None
text_sum_at schema scope Rows = None

abbrev pub sum_of_text : List Table → Scope → List Listed → Option ℕ
sum_of_text schema scope [] = None
sum_of_text schema scope (x ∷ items) = first_of_two (text_sum_at schema scope x) (sum_of_text schema scope items)

-- ---- beginning

abbrev pub place_or_0 : Option ℕ → ℕ
place_or_0 None = 0
place_or_0 (Some place) = place

-- A plain item is a value of its group, by its place among the columns that group; another is told of a column of the query.
abbrev pub item_of : Scope → Listed → Item
item_of scope (Plain n) = items.Grouping (place_or_0 (group_of scope n))
item_of scope Rows = items.Rows
item_of scope (Of function place n) = items.Of function (place_of scope n)

abbrev pub judged : Option ℕ → Option ℕ → Plan → Result Plan AggFault
judged (Some place) sum plan = Err (NotGrouped place)
judged None (Some place) plan = Err (SumOfText place)
judged None None plan = Ok plan

-- First each plain item has to group, then no text may be summed.
abbrev pub planned : List Table → Scope → List Listed → List ℕ → Result Plan AggFault
planned schema scope listed inner =
    judged (not_grouped scope listed) (sum_of_text schema scope listed) (record { inner = inner; groups = scope.groups; items = map (item_of scope) listed })

abbrev pub behind_query : List Table → List ℕ → Aggregate → Result Query Fault → Result Plan AggFault
behind_query schema text a (Err fault) = Err (Sql fault)
behind_query schema text a (Ok q) = planned schema (scope_of a q) a.items (inner_text schema text a)

-- what is asked by what a text says, if it says a statement
abbrev pub asked_by : List Table → Result Statement Fault → Result Query Fault
asked_by schema (Err fault) = Err fault
asked_by schema (Ok s) = bound_query schema s

-- What a text begins: it is an aggregate, its query says and asks something, each plain item groups, and no text is summed.
abbrev pub Starts : List Table → List ℕ → Result Plan AggFault → Type 0
Starts schema text start = of_text (outer text)
  where
    of_text : Result Aggregate Fault → Type 0
    of_text (Err fault) = start ≡ Err (Sql fault)
    of_text (Ok a) = (inner : Result Statement Fault) × Says (inner_text schema text a) inner × (start ≡ behind_query schema text a (asked_by schema inner))
