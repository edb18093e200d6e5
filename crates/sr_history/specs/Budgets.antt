-- How budgets are met.
use Rattle.std.specs.Prelude.{ℕ, ◌<◌, ◌≤◌, List, [], ◌∷◌, ◌++◌, length, ◌≡◌}
use Rattle.sr_cell.specs.declared.cause.Cause.TheVariants.{Rows, Regions}
use Rattle.sr_cell.specs.declared.table.Table.{Table}
use Rattle.sr_policy.specs.declared.policy.Limits.{Limits}
use Rattle.sr_history.specs.declared.mark.Mark.{Mark}
use Rattle.sr_history.specs.Marks.{with_marks}
use Rattle.sr_history.specs.Classes.{Numbered, Class, AreClasses}
use Rattle.sr_history.specs.Drops.{IsDropOf}
use Rattle.sr_history.specs.Victims.{IsVictim}

-- One after another the victim is dropped while more rows are kept than the budget allows, and none else. The count tells how
-- many rows are kept under some marks.
abbrev pub DropsForRows : List Table → Limits → (List Mark → ℕ) → List Numbered → List Mark → List Mark → Type 0
DropsForRows schema limits count queries marks [] = count marks ≤ limits.rows
DropsForRows schema limits count queries marks (d ∷ drops) =
    (limits.rows < count marks)
    × (k : Class) × IsVictim limits.policy schema marks queries k × IsDropOf schema marks queries Rows k d
    × DropsForRows schema limits count queries (d ∷ marks) drops

-- the same while there are more classes than the limit
abbrev pub DropsForRegions : List Table → Limits → List Numbered → List Mark → List Mark → Type 0
DropsForRegions schema limits queries marks [] =
    (classes : List Class) × AreClasses schema marks queries classes × (length classes ≤ limits.regions)
DropsForRegions schema limits queries marks (d ∷ drops) =
    (classes : List Class) × AreClasses schema marks queries classes × (limits.regions < length classes)
    × (k : Class) × IsVictim limits.policy schema marks queries k × IsDropOf schema marks queries Regions k d
    × DropsForRegions schema limits queries (d ∷ marks) drops

-- first the budget of rows is met, and then the limit of classes
pub record MeetsBudgets (schema : List Table) (limits : Limits) (count : List Mark → ℕ) (queries : List Numbered) (marks drops : List Mark) : Type 0 where
  pub rows : List Mark
  pub regions : List Mark
  pub for_rows : DropsForRows schema limits count queries marks rows
  pub for_regions : DropsForRegions schema limits queries (with_marks marks rows) regions
  pub all : drops ≡ rows ++ regions
