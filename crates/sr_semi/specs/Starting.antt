-- What a start comes to.
use Rattle.std.specs.Prelude.{◌≡◌, ◌⊎◌, ℕ, true, List, length, Ok, Err}
use Rattle.sr_cell.specs.declared.fault.Fault.{Fault}
use Rattle.sr_cell.specs.declared.list.No.{No}
use Rattle.sr_cell.specs.declared.list.No.TheVariants.{Refused, NoMemory}
use Rattle.sr_cell.specs.declared.table.Table.{Table}
use Rattle.sr_grammar.specs.Says.{Says}
use Rattle.sr_grammar.specs.Trees.{Statement}
use Rattle.sr_model.specs.Queries.{Query}
use Rattle.sr_query.specs.Binding.{bound_query}
use Rattle.sr_semi.specs.declared.fault.SemiFault.{SemiFault}
use Rattle.sr_semi.specs.declared.fault.SemiFault.TheVariants.{Sql}
use Rattle.sr_semi.specs.declared.semi.Semi.{Semi}
use Rattle.sr_semi.specs.declared.stage.Stage.TheVariants.{Left}
use Rattle.sr_semi.specs.Going.{is_read}
use Rattle.sr_semi.specs.Seen.{sides_seen}
use Rattle.sr_semi.specs.Sides.{Sides, sides_of}

-- a refusal of a text, as one of a join
abbrev pub as_sql : No Fault → No SemiFault
as_sql (Refused fault) = Refused (Sql fault)
as_sql NoMemory = NoMemory

-- the text says this, which asks this query
pub record Asks (schema : List Table) (sql : List ℕ) (s : Statement) (q : Query) : Type 0 where
  pub says : Says sql (Ok s)
  pub bound : bound_query schema s ≡ Ok q

-- these are the sides of the query of two tables that the text asks
pub record AreOf (schema : List Table) (sql : List ℕ) (s : Statement) (q : Query) (sides : Sides) : Type 0 where
  pub asks : Asks schema sql s q
  pub two : length q.parts ≡ 2
  pub sides_are : sides ≡ sides_of schema s q

abbrev pub AreSides : List Table → List ℕ → Sides → Type 0
AreSides schema sql sides = (s : Statement) × (q : Query) × AreOf schema sql s q sides

-- A join that begins has the sides of its text, of which the left text can be read.
pub record IsBegun (schema : List Table) (sql : List ℕ) (semi : Semi) : Type 0 where
  pub sides : AreSides schema sql (sides_seen semi.sides)
  pub read : is_read semi.sides.left.text ≡ true
  pub stage : semi.stage ≡ Left

-- the text says nothing, or what it says asks nothing
abbrev pub IsRefused : List Table → List ℕ → Fault → Type 0
IsRefused schema sql fault = Says sql (Err fault) ⊎ ((s : Statement) × Says sql (Ok s) × (bound_query schema s ≡ Err fault))

-- it asks a query of that many tables, which are not two
abbrev pub IsNotTwo : List Table → List ℕ → ℕ → Type 0
IsNotTwo schema sql tables = (s : Statement) × (q : Query) × Asks schema sql s q × (tables ≡ length q.parts) × (tables ≡ 2 → ⊥)

-- it asks a query of two tables, whose left text has this fault
abbrev pub IsUnread : List Table → List ℕ → Fault → Type 0
IsUnread schema sql fault = (sides : Sides) × AreSides schema sql sides × Says sides.left.text (Err fault)
