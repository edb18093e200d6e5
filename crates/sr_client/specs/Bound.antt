-- What bound queries stand for.
use Rattle.std.specs.Prelude.{◌≤◌, List, length, IsTrue}
use Rattle.sr_cell.specs.declared.table.Table.{Table}
use Rattle.sr_model.specs.Queries as model
use Rattle.sr_query.specs.Bound.{IsQuery}
use Rattle.sr_query.specs.Joined.{is_joined}
use Rattle.sr_query.specs.declared.query.Query.{Query}
use Rattle.sr_lines.specs.Own.{needs_own}
use Rattle.sr_lines.specs.Sound.{is_sound}

-- the query stands for this one, whose tables, four at most, are joined by their keys, and which needs the columns that it names, all of
-- them their tables'
pub record IsMeaning (tables : List Table) (q : Query) (meaning : model.Query) : Type 0 where
  pub query : IsQuery tables q meaning
  pub joined : IsTrue (is_joined tables meaning)
  pub few : length meaning.parts ≤ 4
  pub sound : IsTrue (is_sound tables meaning)
  pub own : IsTrue (needs_own tables meaning)
