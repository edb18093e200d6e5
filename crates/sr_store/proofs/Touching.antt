-- The rects of the parts that touch a region.
use Rattle.std.proofs.Common.{◌≡◌, ℕ, true, false, cond, List, [], ◌∷◌, refl, subst, ◌∙◌, arith}
use Rattle.std.specs.Prelude.{Bool, ◌&&◌, ◌||◌, ◌==◌, filter, flat_map}
use Rattle.std.specs.List.{list_all, All}
use Rattle.std.proofs.lemmas.Bool.Decides.{nat_tests}
use Rattle.std.proofs.lemmas.List.Folds.{list_all-append}
use Rattle.std.proofs.lemmas.List.Elements.{All-head, All-tail}
use Rattle.std.specs.Cmp.{first_so, second_so}
use Rattle.sr_cell.specs.declared.table.Table.{Table}
use Rattle.sr_cell.specs.Attrs.{includes}
use Rattle.sr_cell.specs.Cells.{Row}
use Rattle.sr_cell.specs.Columns.{table_at}
use Rattle.sr_box.specs.Points.{Rect, in_any, rect_fits, constrains_only}
use Rattle.sr_box.proofs.Constrained.{all-constrains_only-more}
use Rattle.sr_union.specs.Grid.{AreCutFrom}
use Rattle.sr_union.proofs.Once.{in_any-append}
use Rattle.sr_union.proofs.Among.{AreCutFrom-append}
use Rattle.sr_query.specs.declared.query.Part.{Part}
use Rattle.sr_store.specs.Classes.{touches}
use Rattle.sr_store.specs.Renewing.{touching, IsPartCutFrom}

pub touching-is : (parts : List Part) (t a : ℕ) (p : Row) → in_any (touching parts t a) p ≡ touches parts t a p
touching-is [] t a p = refl
touching-is (part ∷ parts) t a p = go (part.table == t && includes a part.need) (touching-is parts t a p)
  where
    go : (b : Bool) → in_any (touching parts t a) p ≡ touches parts t a p
        → in_any (flat_map (λ part. part.rects) (cond b (part ∷ filter (λ part. part.table == t && includes a part.need) parts) (filter (λ part. part.table == t && includes a part.need) parts))) p
        ≡ (b && in_any part.rects p || touches parts t a p)
    go true ih = in_any-append part.rects (touching parts t a) p ∙ rw ih refl
    go false ih = ih

abbrev FitsPart : List Table → Part → Type 0
FitsPart schema part = list_all (rect_fits (table_at schema part.table).columns) part.rects ≡ true

abbrev Only : Part → Type 0
Only part = list_all (constrains_only part.need 0) part.rects ≡ true

-- the rects that touch fit their table
pub touching_fits : (schema : List Table) (parts : List Part) (t a : ℕ) → All (λ (part : Part). list_all (rect_fits (table_at schema part.table).columns) part.rects ≡ true) parts
    → list_all (rect_fits (table_at schema t).columns) (touching parts t a) ≡ true
touching_fits schema [] t a fit = refl
touching_fits schema (part ∷ parts) t a fit =
    go (part.table == t && includes a part.need) refl (touching_fits schema parts t a (All-tail (FitsPart schema) part parts fit)) (All-head (FitsPart schema) part parts fit)
  where
    go : (b : Bool) → (part.table == t && includes a part.need) ≡ b → list_all (rect_fits (table_at schema t).columns) (touching parts t a) ≡ true
        → list_all (rect_fits (table_at schema part.table).columns) part.rects ≡ true
        → list_all (rect_fits (table_at schema t).columns) (flat_map (λ part. part.rects) (cond b (part ∷ filter (λ part. part.table == t && includes a part.need) parts) (filter (λ part. part.table == t && includes a part.need) parts))) ≡ true
    go true is ih one =
        let same : part.table ≡ t = let x = first_so (part.table == t) (includes a part.need) is in grind (arith, nat_tests, x) in
        let here = subst (λ u. list_all (rect_fits (table_at schema u).columns) part.rects ≡ true) same one in
        list_all-append (rect_fits (table_at schema t).columns) part.rects (touching parts t a) ∙ rw (here, ih) refl
    go false is ih one = ih

-- and they constrain only columns of the region
pub touching_only : (parts : List Part) (t a : ℕ) → All (λ (part : Part). list_all (constrains_only part.need 0) part.rects ≡ true) parts → list_all (constrains_only a 0) (touching parts t a) ≡ true
touching_only [] t a only = refl
touching_only (part ∷ parts) t a only =
    go (part.table == t && includes a part.need) refl (touching_only parts t a (All-tail Only part parts only)) (All-head Only part parts only)
  where
    go : (b : Bool) → (part.table == t && includes a part.need) ≡ b → list_all (constrains_only a 0) (touching parts t a) ≡ true → list_all (constrains_only part.need 0) part.rects ≡ true
        → list_all (constrains_only a 0) (flat_map (λ part. part.rects) (cond b (part ∷ filter (λ part. part.table == t && includes a part.need) parts) (filter (λ part. part.table == t && includes a part.need) parts))) ≡ true
    go true is ih one =
        let here = all-constrains_only-more a part.need part.rects (second_so (part.table == t) (includes a part.need) is) one in
        list_all-append (constrains_only a 0) part.rects (touching parts t a) ∙ rw (here, ih) refl
    go false is ih one = ih

-- and their cuts are among those of the parts
pub touching_cut : (schema : List Table) (given : ℕ → List Rect) (parts : List Part) (t a : ℕ) → All (IsPartCutFrom schema given) parts → AreCutFrom (table_at schema t).columns (given t) (touching parts t a)
touching_cut schema given [] t a cut = tt
touching_cut schema given (part ∷ parts) t a cut =
    go (part.table == t && includes a part.need) refl (touching_cut schema given parts t a (All-tail (IsPartCutFrom schema given) part parts cut)) (All-head (IsPartCutFrom schema given) part parts cut)
  where
    go : (b : Bool) → (part.table == t && includes a part.need) ≡ b → AreCutFrom (table_at schema t).columns (given t) (touching parts t a) → IsPartCutFrom schema given part
        → AreCutFrom (table_at schema t).columns (given t) (flat_map (λ part. part.rects) (cond b (part ∷ filter (λ part. part.table == t && includes a part.need) parts) (filter (λ part. part.table == t && includes a part.need) parts)))
    go true is ih one =
        let same : part.table ≡ t = let x = first_so (part.table == t) (includes a part.need) is in grind (arith, nat_tests, x) in
        let here = subst (λ u. AreCutFrom (table_at schema u).columns (given u) part.rects) same one in
        AreCutFrom-append (table_at schema t).columns (given t) part.rects (touching parts t a) here ih
    go false is ih one = ih
