-- The rects that meet others: of the cover, and of regions with more columns.
use Rattle.std.proofs.Common.{◌≡◌, ◌≤◌, cond, true, false, List, [], ◌∷◌, ◌++◌, refl, ◌∙◌, ◌↔◌, sym, ap, subst}
use Rattle.std.specs.Prelude.{ℕ, Bool, not, ◌&&◌, ◌==◌, filter}
use Rattle.std.specs.List.{flat_map, list_all}
use Rattle.std.proofs.lemmas.List.{append-nil}
use Rattle.sr_cell.specs.declared.table.Column.{Column}
use Rattle.sr_cell.specs.Attrs.{includes}
use Rattle.sr_box.specs.Points.{Rect, rect_fits}
use Rattle.sr_query.specs.declared.query.Part.{Part}
use Rattle.sr_region.specs.declared.region.Region.{Region}
use Rattle.sr_union.specs.Pieces.{near, IsWithin, HasOutside}
use Rattle.sr_union.specs.Grid.{AreCutFrom, grid}
use Rattle.sr_union.proofs.Among.{AreCutFrom-append}
use Rattle.sr_union.proofs.Meets.{near_append, near-in, near-are}
use Rattle.sr_union.proofs.Once.{grid_among}
use Rattle.sr_union.proofs.Parts.{are_part}
use Rattle.sr_store.specs.Stores.{serves, cover_of, wider}

pub near_cover : (part : Part) (g : Region) (gs : List Region) → near part.rects (cover_of part (g ∷ gs)) ≡ near part.rects (cover_of part (g ∷ [])) ++ near part.rects (cover_of part gs)
near_cover part g gs = go (serves part g)
  where
    go : (b : Bool) → near part.rects (flat_map (λ (g : Region). g.rects) (cond b (g ∷ filter (serves part) gs) (filter (serves part) gs)))
        ≡ near part.rects (flat_map (λ (g : Region). g.rects) (cond b (g ∷ []) [])) ++ near part.rects (cover_of part gs)
    go true = near_append part.rects g.rects (cover_of part gs) ∙ ap (λ rects. near part.rects rects ++ near part.rects (cover_of part gs)) (sym (append-nil g.rects))
    go false = refl

pub near_wider : (rects : List Rect) (g : Region) (gs : List Region) (t a : ℕ) → near rects (wider (g ∷ gs) t a) ≡ near rects (wider (g ∷ []) t a) ++ near rects (wider gs t a)
near_wider rects g gs t a = go (g.table == t && (includes g.attrs a && not (g.attrs == a)))
  where
    F : List Region
    F = filter (λ g. g.table == t && (includes g.attrs a && not (g.attrs == a))) gs

    go : (b : Bool) → near rects (flat_map (λ (g : Region). g.rects) (cond b (g ∷ F) F)) ≡ near rects (flat_map (λ (g : Region). g.rects) (cond b (g ∷ []) [])) ++ near rects (wider gs t a)
    go true = near_append rects g.rects (wider gs t a) ∙ ap (λ own. near rects own ++ near rects (wider gs t a)) (sym (append-nil g.rects))
    go false = refl

-- rects lie within others where they lie within those that they meet
pub within_near : (cs : List Column) (rects others : List Rect) → IsWithin cs rects (near rects others) ↔ IsWithin cs rects others
within_near cs rects others = (
  (λ within p point inside. sym (near-in rects others p inside) ∙ within p point inside),
  (λ within p point inside. near-in rects others p inside ∙ within p point inside),
)

-- with those that they meet they make no greater grid than with all
pub grid_near : (cs : List Column) (rects others : List Rect) → list_all (rect_fits cs) rects ≡ true → list_all (rect_fits cs) others ≡ true
    → grid cs (rects ++ near rects others) ≤ grid cs (rects ++ others)
grid_near cs rects others fit other_fit =
    let own = are_part cs [] rects others fit in
    let other = subst (λ rs. AreCutFrom cs (rects ++ rs) others) (append-nil others) (are_part cs rects others [] other_fit) in
    grid_among cs (rects ++ others) (rects ++ near rects others)
    (AreCutFrom-append cs (rects ++ others) rects (near rects others) own (near-are cs (rects ++ others) rects others other))

-- what a rect has outside of those that it meets it has outside of all
pub outside_near : (cs : List Column) (rects others : List Rect) → HasOutside cs rects (near rects others) → HasOutside cs rects others
outside_near cs rects others (p, point, inside, outside) = (p, point, inside, sym (near-in rects others p inside) ∙ outside)

pub fit_one : (cs : List Column) (r : Rect) → rect_fits cs r ≡ true → list_all (rect_fits cs) (r ∷ []) ≡ true
fit_one cs r f = rw f refl
