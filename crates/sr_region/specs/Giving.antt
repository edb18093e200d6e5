-- One row of those that are still to come.
use Rattle.std.specs.Prelude.{◌≡◌, [], ◌++◌, Option, option_to_list, IfSome, IfNone}
use Rattle.std.specs.Option.{option_map}
use Rattle.sr_region.specs.declared.inside.RowRef.{RowRef}
use Rattle.sr_region.specs.Coming.{Coming}

-- the first row and its columns, with the others left; or no row, where none is left
pub record GivesRow (old : Coming) (given : Option RowRef) (new : Coming) : Type 0 where
  pub first : old.rows ≡ option_to_list (option_map (λ r. r.row.now) given) ++ new.rows
  pub end : IfNone given (old.rows ≡ [])
  pub attrs : IfSome given (λ r. r.attrs ≡ old.attrs)
  pub same : new.attrs ≡ old.attrs
