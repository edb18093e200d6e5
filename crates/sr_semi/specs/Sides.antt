-- The two sides of a join, and the texts that ask them.
use Rattle.std.specs.Prelude.{ℕ, true, List, [], ◌∷◌, ◌++◌, map, Option, None, slice_index_or}
use Rattle.sr_cell.specs.declared.cell.Cell.{Cell}
use Rattle.sr_cell.specs.declared.table.Table.{Table}
use Rattle.sr_cell.specs.Columns.{table_at}
use Rattle.sr_grammar.specs.Trees.{Cond, Statement, Create, Selects, Inserts, Updates, Deletes}
use Rattle.sr_model.specs.Conditions as model
use Rattle.sr_model.specs.Queries.{Part, Join, Output, Query}
use Rattle.sr_model.specs.Width.{width}
use Rattle.sr_region.specs.Regions.{rank}
use Rattle.sr_semi.specs.Texts.{conjuncts_on, text_of}
use Rattle.sr_semi.specs.Keys.{key_in}

-- the left side: the text that asks it, the columns of its rows, and of these the one that is joined
pub record Left : Type 0 where
  pub text : List ℕ
  pub need : ℕ
  pub column : ℕ

-- the right side, of whose table the key is joined: the columns of its rows, its conjuncts, and the width of its condition
pub record Right : Type 0 where
  pub table : Table
  pub need : ℕ
  pub conjuncts : List Cond
  pub width : ℕ

pub record Sides : Type 0 where
  pub left : Left
  pub right : Right
  pub outputs : List Output

-- where the joined column stands in the rows of the left side
abbrev pub left_place : Sides → ℕ
left_place s = rank s.left.need s.left.column

-- where the key stands in those of the right one
abbrev pub right_place : Sides → ℕ
right_place s = rank s.right.need s.right.table.key

-- the text that asks of the right side the rows with these keys
abbrev pub right_text : Right → List Cell → List ℕ
right_text r keys = text_of r.table r.need (r.conjuncts ++ key_in r.table keys ∷ [])

-- ---- the sides of a query

-- the WHERE of a query
abbrev pub where_of : Statement → Option Cond
where_of (Selects s) = s.filter
where_of (Create t) = None
where_of (Inserts s) = None
where_of (Updates s) = None
where_of (Deletes s) = None

abbrev pub part_at : Query → ℕ → Part
part_at q i = slice_index_or q.parts i (record { table = 0; need = 0; condition = model.And model.none })

abbrev pub first_join : Query → Join
first_join q = slice_index_or q.joins 0 (record { left = 0; column = 0; right = 0; key = 0 })

-- the tables of its parts
abbrev pub tables_of : Query → List ℕ
tables_of q = map (λ part. part.table) q.parts

abbrev pub table_of : List Table → Query → ℕ → Table
table_of schema q i = table_at schema (part_at q i).table

-- the left part asks its conjuncts of the WHERE, and is joined by the query's only join
abbrev pub left_of : List Table → Statement → Query → Left
left_of schema s q = record {
  text = text_of (table_of schema q 0) (part_at q 0).need (conjuncts_on schema (tables_of q) 0 (where_of s));
  need = (part_at q 0).need;
  column = (first_join q).column;
}

abbrev pub right_of : List Table → Statement → Query → Right
right_of schema s q = record {
  table = table_of schema q 1;
  need = (part_at q 1).need;
  conjuncts = conjuncts_on schema (tables_of q) 1 (where_of s);
  width = width true (part_at q 1).condition;
}

-- the sides of a query of two parts that this statement asks
abbrev pub sides_of : List Table → Statement → Query → Sides
sides_of schema s q = record { left = left_of schema s q; right = right_of schema s q; outputs = q.outputs }
