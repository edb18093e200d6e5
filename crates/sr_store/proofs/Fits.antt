-- The rects of regions fit their table.
use Rattle.std.proofs.Common.{◌≡◌, ℕ, ◌∙◌, Bool, true, false, cond, List, [], ◌∷◌, refl, subst, arith}
use Rattle.std.specs.Prelude.{not, ◌&&◌, ◌==◌, flat_map, filter}
use Rattle.std.specs.List.{list_all, All}
use Rattle.std.proofs.lemmas.List.Elements.{All-head, All-tail}
use Rattle.std.proofs.lemmas.List.Folds.{list_all-append}
use Rattle.std.proofs.lemmas.Bool.Decides.{nat_tests}
use Rattle.sr_cell.specs.declared.table.Table.{Table}
use Rattle.sr_cell.specs.Attrs.{includes}
use Rattle.sr_cell.specs.Columns.{table_at}
use Rattle.sr_box.specs.Points.{rect_fits}
use Rattle.sr_region.specs.declared.region.Region.{Region}
use Rattle.sr_store.specs.Stores.{IsOfSchema, wider}
use Rattle.sr_store.specs.Making.{wider_both}

-- the rects of those regions of a table that pass a test
picked-fit : (schema : List Table) (test : Region → Bool) (t : ℕ) → ((g : Region) → test g ≡ true → g.table ≡ t) → (gs : List Region) → All (IsOfSchema schema) gs
    → list_all (rect_fits (table_at schema t).columns) (flat_map (λ g. g.rects) (filter test gs)) ≡ true
picked-fit schema test t of [] all = refl
picked-fit schema test t of (g ∷ gs) all = go (test g) refl (picked-fit schema test t of gs (All-tail (IsOfSchema schema) g gs all))
  where
    own : g.table ≡ t → list_all (rect_fits (table_at schema t).columns) g.rects ≡ true
    own e = subst (λ u. list_all (rect_fits (table_at schema u).columns) g.rects ≡ true) e (All-head (IsOfSchema schema) g gs all).1.area.fit

    go : (b : Bool) → test g ≡ b → list_all (rect_fits (table_at schema t).columns) (flat_map (λ g. g.rects) (filter test gs)) ≡ true
        → list_all (rect_fits (table_at schema t).columns) (flat_map (λ g. g.rects) (cond b (g ∷ filter test gs) (filter test gs))) ≡ true
    go true e ih = let one = own (of g e) in list_all-append (rect_fits (table_at schema t).columns) g.rects (flat_map (λ g. g.rects) (filter test gs)) ∙ grind (arith, one, ih)
    go false e ih = ih

is-of : (g : Region) (t a : ℕ) → (g.table == t && (includes g.attrs a && not (g.attrs == a))) ≡ true → g.table ≡ t
is-of g t a e = grind (arith, nat_tests)

pub wider_fits : (schema : List Table) (gs : List Region) (t a : ℕ) → All (IsOfSchema schema) gs → list_all (rect_fits (table_at schema t).columns) (wider gs t a) ≡ true
wider_fits schema gs t a all = picked-fit schema (λ g. g.table == t && (includes g.attrs a && not (g.attrs == a))) t (λ g e. is-of g t a e) gs all

-- the rects of regions of two lists that have more columns
pub both_fit : (schema : List Table) (still news : List Region) (g : Region) → All (IsOfSchema schema) still → All (IsOfSchema schema) news
    → list_all (rect_fits (table_at schema g.table).columns) (wider_both still news g) ≡ true
both_fit schema still news g still_each news_each =
    let one = wider_fits schema still g.table g.attrs still_each in
    let two = wider_fits schema news g.table g.attrs news_each in
    list_all-append (rect_fits (table_at schema g.table).columns) (wider still g.table g.attrs) (wider news g.table g.attrs) ∙ rw (one, two) refl
