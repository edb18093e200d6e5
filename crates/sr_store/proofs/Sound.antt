-- Regions put together are regions, with the right rows.
use Rattle.std.proofs.Common.{◌≡◌, ℕ, ◌+◌, ◌≤◌, true, List, sym, ap, subst, ◌∙◌, arith}
use Rattle.std.specs.List.{All}
use Rattle.std.proofs.lemmas.Bool.Decides.{nat_tests}
use Rattle.sr_cell.specs.declared.table.Table.{Table}
use Rattle.sr_cell.specs.Cells.{Row}
use Rattle.sr_cell.specs.Columns.{table_at, is_point}
use Rattle.sr_region.specs.declared.region.Region.{Region}
use Rattle.sr_region.specs.Regions.{IsRegion, AreOfClass, joined}
use Rattle.sr_region.proofs.Areas.{joined-region}
use Rattle.sr_store.specs.Classes.{occurs, is_same}
use Rattle.sr_store.specs.Told.{Told, IsTold, IsTrueOf, AreTrueOf}
use Rattle.sr_store.specs.Stores.{IsOfSchema}
use Rattle.sr_store.specs.Renewing.{with_regions}
use Rattle.sr_store.proofs.Truths.{ArePair, pair_apart, pair_true}
use Rattle.sr_store.proofs.Adding.{HaveNone, with_regions-all}

same-table : (h g : Region) → is_same h g ≡ true → g.table ≡ h.table
same-table h g e = grind (arith, nat_tests)

same-attrs : (h g : Region) → is_same h g ≡ true → g.attrs ≡ h.attrs
same-attrs h g e = grind (arith, nat_tests)

same-stamp : (h g : Region) → is_same h g ≡ true → g.stamp ≡ h.stamp
same-stamp h g e = grind (arith, nat_tests)

same-key : (schema : List Table) (h g : Region) → is_same h g ≡ true → IsOfSchema schema h → IsOfSchema schema g → g.key ≡ h.key
same-key schema h g e one other = other.1.area.key ∙ ap (λ t. (table_at schema t).key) (same-table h g e) ∙ sym one.1.area.key

-- a region of a table of the schema, with the right rows
abbrev pub IsSound : List Table → Told → Region → Type 0
IsSound schema told g = IsOfSchema schema g × IsTrueOf told g

to-pair : (schema : List Table) (told : Told) (h g : Region) → IsTold schema told → is_same h g ≡ true → HaveNone schema h g → IsSound schema told h → IsSound schema told g → ArePair schema told h g
to-pair schema told h g is_told e none one other = record {
  one = one.0;
  other = other.0;
  table = same-table h g e;
  attrs = same-attrs h g e;
  is_told = is_told;
  one_true = one.1;
  other_true = other.1;
  apart = none;
}

class-of : (schema : List Table) (h g : Region) → is_same h g ≡ true → IsOfSchema schema h → IsOfSchema schema g → AreOfClass h g
class-of schema h g e one other = record {
  table = sym (same-table h g e);
  key = sym (same-key schema h g e one other);
  attrs = sym (same-attrs h g e);
  stamp = sym (same-stamp h g e);
}

pub joined_sound : (schema : List Table) (told : Told) → IsTold schema told → (h g : Region) → is_same h g ≡ true → HaveNone schema h g → IsSound schema told h → IsSound schema told g → IsSound schema told (joined h g)
joined_sound schema told is_told h g e none one other =
    let pair = to-pair schema told h g is_told e none one other in
    let there = subst (λ t. IsRegion (table_at schema t) g) (same-table h g e) other.0.1 in
    ((one.0.0, joined-region (table_at schema h.table) h g one.0.1 there (class-of schema h g e one.0 other.0) none (pair_apart schema told h g pair)), pair_true schema told h g pair)

to-sound : (schema : List Table) (told : Told) (gs : List Region) → All (IsOfSchema schema) gs → AreTrueOf told gs → All (IsSound schema told) gs
to-sound schema told gs each are k d lt = (each k d lt, are k d lt)

-- regions put together, one after another
pub with_regions-sound : (schema : List Table) (told : Told) (hs gs : List Region) → IsTold schema told
    → ((t a : ℕ) (p : Row) → is_point (table_at schema t).columns p ≡ true → occurs hs t a p + occurs gs t a p ≤ 1)
    → All (IsOfSchema schema) hs → AreTrueOf told hs → All (IsOfSchema schema) gs → AreTrueOf told gs → All (IsSound schema told) (with_regions hs gs)
with_regions-sound schema told hs gs is_told once hs_each hs_true gs_each gs_true =
    with_regions-all schema (IsSound schema told) (joined_sound schema told is_told) hs gs once (to-sound schema told hs hs_each hs_true) (to-sound schema told gs gs_each gs_true)
