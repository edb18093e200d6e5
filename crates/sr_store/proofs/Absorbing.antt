-- The drops of regions are those of their classes.
use Rattle.std.proofs.Common.{◌≡◌, ℕ, zero, suc, true, false, List, [], ◌∷◌, map, refl, sym, subst, ◌∙◌, ◌↔◌, inl, inr}
use Rattle.std.specs.Prelude.{Bool, Some, slice_get}
use Rattle.std.specs.List.{All}
use Rattle.std.proofs.lemmas.List.Elements.{All-head, All-tail}
use Rattle.sr_cell.specs.declared.table.Table.{Table}
use Rattle.sr_cell.specs.declared.cause.Cause.{Cause}
use Rattle.sr_cell.specs.declared.cause.Cause.TheVariants.{Absorbed}
use Rattle.sr_cell.specs.Columns.{table_at}
use Rattle.sr_box.specs.Corners.{have_first}
use Rattle.sr_history.specs.declared.mark.Mark.{Mark}
use Rattle.sr_history.specs.Marks.{is_held}
use Rattle.sr_history.specs.Classes.{Numbered, stamp}
use Rattle.sr_history.specs.Drops.{IsDropOf, DropsEach, DropsAll, IsAbsorbed, AbsorbsFrom, Absorbs}
use Rattle.sr_region.specs.declared.region.Region.{Region}
use Rattle.sr_store.specs.Classes.{ascends, Keeps}
use Rattle.sr_store.specs.Stores.{IsOfSchema, drop_of, IsAbsorbedIn}
use Rattle.sr_store.specs.Answered.{AreFlags, flagged}
use Rattle.sr_store.specs.Past.{class_of}
use Rattle.sr_store.proofs.Covering.{wider_is}
use Rattle.sr_store.proofs.Classing.{HasClass, have_classes, are_classes}

-- the drop of a region is one of its class
pub drop_is : (schema : List Table) (marks : List Mark) (queries : List Numbered) (cause : Cause) (g : Region) → IsOfSchema schema g → HasClass schema marks queries g
    → IsDropOf schema marks queries cause (class_of g) (drop_of cause g)
drop_is schema marks queries cause g h points = (refl, refl, refl, refl, h.1.area.fit, points)

pub drop_at : (schema : List Table) (marks : List Mark) (queries : List Numbered) (cause : Cause) (gs : List Region) (n : ℕ) (g : Region) → slice_get gs n ≡ Some g
    → All (IsOfSchema schema) gs → All (HasClass schema marks queries) gs → IsDropOf schema marks queries cause (class_of g) (drop_of cause g)
drop_at schema marks queries cause gs n g is each points = drop_is schema marks queries cause g (all-at (IsOfSchema schema) gs n is each) (all-at (HasClass schema marks queries) gs n is points)
  where
    all-at : (P : Region → Type 0) (gs : List Region) (n : ℕ) → slice_get gs n ≡ Some g → All P gs → P g
    all-at P [] n is all = cc
    all-at P (h ∷ gs) zero is all = let e : h ≡ g = cc in subst P e (All-head P h gs all)
    all-at P (h ∷ gs) (suc n) is all = all-at P gs n is (All-tail P h gs all)

drops-each : (schema : List Table) (marks : List Mark) (queries : List Numbered) (cause : Cause) (gs : List Region) → All (IsOfSchema schema) gs → All (HasClass schema marks queries) gs
    → DropsEach schema marks queries cause (map class_of gs) (map (drop_of cause) gs)
drops-each schema marks queries cause [] each points = refl
drops-each schema marks queries cause (g ∷ gs) each points = (
  drop_is schema marks queries cause g (All-head (IsOfSchema schema) g gs each) (All-head (HasClass schema marks queries) g gs points),
  drops-each schema marks queries cause gs (All-tail (IsOfSchema schema) g gs each) (All-tail (HasClass schema marks queries) g gs points),
)

-- all are dropped
pub drops_all : (schema : List Table) (marks : List Mark) (queries : List Numbered) (cause : Cause) (gs : List Region) → ((t : ℕ) → have_first (table_at schema t).columns ≡ true)
    → All (IsOfSchema schema) gs → ascends gs ≡ true → Keeps schema (is_held marks) (stamp queries) gs → DropsAll schema marks queries cause (map (drop_of cause) gs)
drops_all schema marks queries cause gs first each order keeps =
    (map class_of gs, are_classes schema marks queries gs first each order keeps, drops-each schema marks queries cause gs each (have_classes schema marks queries gs order keeps))

-- a region is absorbed where its class is
pub absorbed_is : (schema : List Table) (marks : List Mark) (queries : List Numbered) (gs : List Region) (g : Region) → Keeps schema (is_held marks) (stamp queries) gs → HasClass schema marks queries g
    → IsAbsorbedIn schema gs g ↔ IsAbsorbed schema marks queries (class_of g)
absorbed_is schema marks queries gs g keeps points = (
  (λ w p point inside. sym (wider_is schema marks (stamp queries) gs g.table g.attrs p keeps point) ∙ w p point (points p point ∙ inside)),
  (λ w p point inside. wider_is schema marks (stamp queries) gs g.table g.attrs p keeps point ∙ w p point (sym (points p point) ∙ inside)),
)

absorbs-walk : (schema : List Table) (marks : List Mark) (queries : List Numbered) (all : List Region) (fs : List Bool) (gs : List Region) → Keeps schema (is_held marks) (stamp queries) all
    → All (IsOfSchema schema) gs → All (HasClass schema marks queries) gs → AreFlags (IsAbsorbedIn schema all) fs gs
    → AbsorbsFrom schema marks queries (map class_of gs) (map (drop_of Absorbed) (flagged true fs gs))
absorbs-walk schema marks queries all [] [] keeps each points f = refl
absorbs-walk schema marks queries all [] (g ∷ gs) keeps each points f = absurd f
absorbs-walk schema marks queries all (b ∷ fs) [] keeps each points f = absurd f
absorbs-walk schema marks queries all (true ∷ fs) (g ∷ gs) keeps each points f =
    let own = All-head (HasClass schema marks queries) g gs points in
    inr (
      (absorbed_is schema marks queries all g keeps own).0 (f.0.0 refl),
      drop_of Absorbed g,
      map (drop_of Absorbed) (flagged true fs gs),
      refl,
      drop_is schema marks queries Absorbed g (All-head (IsOfSchema schema) g gs each) own,
      absorbs-walk schema marks queries all fs gs keeps (All-tail (IsOfSchema schema) g gs each) (All-tail (HasClass schema marks queries) g gs points) f.1,
    )
absorbs-walk schema marks queries all (false ∷ fs) (g ∷ gs) keeps each points f =
    let own = All-head (HasClass schema marks queries) g gs points in
    inl (
      (λ h. let no : false ≡ true = f.0.1 ((absorbed_is schema marks queries all g keeps own).1 h) in absurd (cc)),
      absorbs-walk schema marks queries all fs gs keeps (All-tail (IsOfSchema schema) g gs each) (All-tail (HasClass schema marks queries) g gs points) f.1,
    )

-- the drops of the flagged regions are those of the absorbed classes
pub absorbs_is : (schema : List Table) (marks : List Mark) (queries : List Numbered) (fs : List Bool) (gs : List Region) → ((t : ℕ) → have_first (table_at schema t).columns ≡ true)
    → All (IsOfSchema schema) gs → ascends gs ≡ true → Keeps schema (is_held marks) (stamp queries) gs → AreFlags (IsAbsorbedIn schema gs) fs gs
    → Absorbs schema marks queries (map (drop_of Absorbed) (flagged true fs gs))
absorbs_is schema marks queries fs gs first each order keeps f =
    (map class_of gs, are_classes schema marks queries gs first each order keeps, absorbs-walk schema marks queries gs fs gs keeps each (have_classes schema marks queries gs order keeps) f)
