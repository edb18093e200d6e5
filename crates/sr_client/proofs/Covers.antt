-- The rects of the regions that serve a part.
use Rattle.std.proofs.Common.{◌≡◌, ℕ, true, false, cond, List, [], ◌∷◌, ◌++◌, refl, ap, subst, ◌∙◌, arith}
use Rattle.std.specs.Prelude.{Bool, ◌&&◌, ◌||◌, ◌==◌, filter, flat_map}
use Rattle.std.specs.List.{list_all, All}
use Rattle.std.proofs.lemmas.Bool.Decides.{nat_tests}
use Rattle.std.proofs.lemmas.List.Folds.{list_all-append}
use Rattle.std.proofs.lemmas.List.Elements.{All-head, All-tail}
use Rattle.std.specs.Cmp.{first_so, second_so}
use Rattle.std.proofs.lemmas.Bool.{eqb-true}
use Rattle.sr_cell.specs.declared.table.Table.{Table}
use Rattle.sr_cell.specs.Attrs.{includes}
use Rattle.sr_cell.specs.Cells.{Row}
use Rattle.sr_cell.specs.Columns.{table_at}
use Rattle.sr_box.specs.Points.{in_any, rect_fits}
use Rattle.sr_union.proofs.Times.{in_any-times}
use Rattle.sr_union.proofs.Once.{in_any-append}
use Rattle.sr_query.specs.declared.query.Part.{Part}
use Rattle.sr_region.specs.declared.region.Region.{Region}
use Rattle.sr_store.specs.Classes.{is_of, occurs}
use Rattle.sr_store.specs.Stores.{serves, cover_of, IsOfSchema}

-- they fit its table
pub cover-fits : (schema : List Table) (part : Part) (regions : List Region) → All (IsOfSchema schema) regions → list_all (rect_fits (table_at schema part.table).columns) (cover_of part regions) ≡ true
cover-fits schema part [] each = refl
cover-fits schema part (g ∷ gs) each = go (serves part g) refl (cover-fits schema part gs (All-tail (IsOfSchema schema) g gs each)) (All-head (IsOfSchema schema) g gs each).1.area.fit
  where
    go : (b : Bool) → serves part g ≡ b → list_all (rect_fits (table_at schema part.table).columns) (cover_of part gs) ≡ true → list_all (rect_fits (table_at schema g.table).columns) g.rects ≡ true
        → list_all (rect_fits (table_at schema part.table).columns) (flat_map (λ g. g.rects) (cond b (g ∷ filter (serves part) gs) (filter (serves part) gs))) ≡ true
    go true is ih fit =
        let table : g.table ≡ part.table = eqb-true g.table part.table (first_so (g.table == part.table) (includes g.attrs part.need) is) in
        let here = subst (λ t. list_all (rect_fits (table_at schema t).columns) g.rects ≡ true) table fit in
        list_all-append (rect_fits (table_at schema part.table).columns) g.rects (cover_of part gs) ∙ rw (here, ih) refl
    go false is ih fit = ih

-- one region at a time
cover-first : (part : Part) (g : Region) (gs : List Region) (p : Row) → in_any (cover_of part (g ∷ gs)) p ≡ ((serves part g && in_any g.rects p) || in_any (cover_of part gs) p)
cover-first part g gs p = go (serves part g)
  where
    go : (b : Bool) → in_any (flat_map (λ g. g.rects) (cond b (g ∷ filter (serves part) gs) (filter (serves part) gs))) p ≡ ((b && in_any g.rects p) || in_any (cover_of part gs) p)
    go true = in_any-append g.rects (cover_of part gs) p
    go false = refl

-- one region more
pub cover-more : (part : Part) (gs : List Region) (g : Region) (p : Row) → in_any (cover_of part (gs ++ g ∷ [])) p ≡ (in_any (cover_of part gs) p || (serves part g && in_any g.rects p))
cover-more part [] g p = cover-first part g [] p ∙ by (serves part g && in_any g.rects p)
  where
    by : (b : Bool) → (b || false) ≡ b
    by true = refl
    by false = refl
cover-more part (h ∷ gs) g p =
    cover-first part h (gs ++ g ∷ []) p ∙ rw (cover-more part gs g p, cover-first part h gs p) (by (serves part h && in_any h.rects p) (in_any (cover_of part gs) p) (serves part g && in_any g.rects p))
  where
    by : (a b c : Bool) → (a || (b || c)) ≡ ((a || b) || c)
    by true b c = refl
    by false b c = refl

-- a point that occurs under columns that include the needed ones is among them
pub occurs-covers : (part : Part) (gs : List Region) (u : ℕ) (p : Row) → includes u part.need ≡ true → (occurs gs part.table u p ≡ 0 → ⊥) → in_any (cover_of part gs) p ≡ true
occurs-covers part [] u p need some = absurd (some refl)
occurs-covers part (g ∷ gs) u p need some = cover-first part g gs p ∙ go (is_of g part.table u) refl (in_any g.rects p) refl (occurs-covers part gs u p need)
  where
    go : (x : Bool) → is_of g part.table u ≡ x → (i : Bool) → in_any g.rects p ≡ i → ((occurs gs part.table u p ≡ 0 → ⊥) → in_any (cover_of part gs) p ≡ true)
        → ((serves part g && i) || in_any (cover_of part gs) p) ≡ true
    go true e true f ih =
        let attrs : g.attrs ≡ u = eqb-true g.attrs u (second_so (g.table == part.table) (g.attrs == u) e) in
        let table = first_so (g.table == part.table) (g.attrs == u) e in
        let own : includes g.attrs part.need ≡ true = ap (λ a. includes a part.need) attrs ∙ need in
        rw (table, own) refl
    go true e false f ih = let more = ih (λ none. some (let x = in_any-times g.rects p in grind (arith, nat_tests, x, f, none, e))) in grind (arith, more)
    go false e i f ih = let more = ih (λ none. some (grind (arith, none, e))) in grind (arith, more)
