-- An image of a store's regions.
use Rattle.std.proofs.Common.{◌≡◌, true, List, [], ◌∷◌, refl}
use Rattle.std.specs.List.{list_all, All}
use Rattle.std.proofs.lemmas.Bool.{and_from}
use Rattle.std.proofs.lemmas.List.Elements.{All-head, All-tail}
use Rattle.sr_cell.specs.declared.table.Table.{Table}
use Rattle.sr_region.specs.declared.region.Region.{Region}
use Rattle.sr_store.specs.Stores.{IsOfSchema, IsStore}
use Rattle.sr_image.specs.Joining.{ascends}

all-ascend : (schema : List Table) (regions : List Region) → All (IsOfSchema schema) regions → list_all ascends regions ≡ true
all-ascend schema [] each = refl
all-ascend schema (r ∷ regions) each =
    and_from (ascends r) (list_all ascends regions) (All-head (IsOfSchema schema) r regions each).1.ascending (all-ascend schema regions (All-tail (IsOfSchema schema) r regions each))

pub may-be-made : (schema : List Table) (regions : List Region) → IsStore schema regions → list_all ascends regions ≡ true
may-be-made schema regions store = all-ascend schema regions store.each
