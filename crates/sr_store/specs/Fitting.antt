-- Steps on the way to regions within the limits.
use Rattle.std.specs.Prelude.{ℕ, List, [], ◌∷◌, ◌++◌, ◌≡◌}
use Rattle.std.specs.List.{AllZip}
use Rattle.sr_cell.specs.declared.cause.Cause.{Cause}
use Rattle.sr_cell.specs.declared.table.Table.{Table}
use Rattle.sr_policy.specs.declared.policy.Policy.{Policy}
use Rattle.sr_policy.specs.declared.policy.Last.{Last}
use Rattle.sr_history.specs.declared.mark.Mark.{Mark}
use Rattle.sr_region.specs.declared.region.Region.{Region}
use Rattle.sr_store.specs.declared.fit.Fitting.{Fitting}
use Rattle.sr_store.specs.Stores.{drop_of}
use Rattle.sr_store.specs.Fitted.{IsViewOf, IsFirstOut, without, DropsWhile}

-- the region that the policy names is dropped, and its mark stands behind the others
pub record DropsFirst (schema : List Table) (policy : Policy) (last : List Last) (cause : Cause) (old new : Fitting) : Type 0 where
  pub number : ℕ
  pub region : Region
  pub first : IsFirstOut schema policy last old.regions number region
  pub left : new.regions ≡ without number old.regions
  pub marks : new.marks ≡ old.marks ++ drop_of cause region ∷ []
  pub seen : AllZip (IsViewOf schema) new.regions new.views

-- regions are dropped while they are too much, and their marks stand behind the others
pub record DropsTill (schema : List Table) (policy : Policy) (last : List Last) (cause : Cause) (size : List Region → ℕ) (limit : ℕ) (old new : Fitting) : Type 0 where
  pub drops : List Mark
  pub dropped : DropsWhile schema policy last cause size limit old.regions new.regions drops
  pub marks : new.marks ≡ old.marks ++ drops
  pub seen : AllZip (IsViewOf schema) new.regions new.views
