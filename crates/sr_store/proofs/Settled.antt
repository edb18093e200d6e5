-- Regions that are not absorbed, and stay so.
use Rattle.std.proofs.Common.{◌≡◌, ℕ, zero, suc, ◌+◌, ◌≤◌, Bool, true, false, cond, List, [], ◌∷◌, ◌++◌, refl, sym, ap, ◌∙◌, ◌↔◌, arith}
use Rattle.std.specs.Prelude.{not, ◌&&◌, ◌||◌, ◌==◌, flat_map, filter}
use Rattle.std.specs.List.{All}
use Rattle.std.proofs.lemmas.Bool.Decides.{nat_tests}
use Rattle.std.proofs.lemmas.List.Elements.{All-nil, All-cons, All-weaker}
use Rattle.sr_cell.specs.declared.table.Table.{Table}
use Rattle.sr_cell.specs.Attrs.{includes}
use Rattle.sr_cell.specs.Cells.{Row}
use Rattle.sr_cell.specs.Columns.{table_at, is_point}
use Rattle.sr_box.specs.Points.{in_any}
use Rattle.sr_union.proofs.Once.{in_any-append}
use Rattle.sr_region.specs.declared.region.Region.{Region}
use Rattle.sr_store.specs.declared.store.Arrival.{Arrival}
use Rattle.sr_store.specs.Classes.{occurs}
use Rattle.sr_store.specs.Stores.{wider, IsAbsorbedIn}
use Rattle.sr_store.specs.Answered.{arrivals_at, AreFlags, flagged}
use Rattle.sr_store.specs.Renewing.{with_regions}
use Rattle.sr_store.specs.Making.{wider_arriving, IsUnmet, wider_both, IsAbsorbedBy}
use Rattle.sr_store.proofs.Adding.{with_regions-occurs}
use Rattle.sr_store.proofs.Covering.{chosen-some, chosen-has}

-- strictly more columns
abbrev has_more : ℕ → ℕ → Bool
has_more a b = includes b a && not (b == a)

wider-some : (gs : List Region) (t a : ℕ) (p : Row) → in_any (wider gs t a) p ≡ true → (b : ℕ) × (has_more a b ≡ true) × ((occurs gs t b p ≡ 0) → ⊥)
wider-some gs t a p h = chosen-some (has_more a) gs t p h

wider-has : (gs : List Region) (t a : ℕ) (p : Row) (b : ℕ) → has_more a b ≡ true → ((occurs gs t b p ≡ 0) → ⊥) → in_any (wider gs t a) p ≡ true
wider-has gs t a p b m k = chosen-has (has_more a) gs t p b m k

-- ---- fewer regions

abbrev pub HaveLess : List Table → List Region → List Region → Type 0
HaveLess schema hs gs = (t a : ℕ) (p : Row) → is_point (table_at schema t).columns p ≡ true → occurs hs t a p ≤ occurs gs t a p

-- what absorbs a region absorbs it with more
absorbed-more : (schema : List Table) (hs gs : List Region) (g : Region) → HaveLess schema hs gs → IsAbsorbedIn schema hs g → IsAbsorbedIn schema gs g
absorbed-more schema hs gs g less by p point inside =
    let some = wider-some hs g.table g.attrs p (by p point inside) in
    let le = less g.table some.0 p point in
    wider-has gs g.table g.attrs p some.0 some.1 (λ none. some.2 (omega (arith, le, none)))

pub settled_less : (schema : List Table) (hs gs xs : List Region) → HaveLess schema hs gs → All (λ g. IsAbsorbedIn schema gs g → ⊥) xs → All (λ g. IsAbsorbedIn schema hs g → ⊥) xs
settled_less schema hs gs xs less all =
    All-weaker (λ g. IsAbsorbedIn schema gs g → ⊥) (λ g. IsAbsorbedIn schema hs g → ⊥) (λ g stays by. stays (absorbed-more schema hs gs g less by)) xs all

-- the regions without flag do not have the property
pub flags_none : (P : Region → Type 0) (fs : List Bool) (gs : List Region) → AreFlags P fs gs → All (λ g. P g → ⊥) (flagged false fs gs)
flags_none P [] gs h = All-nil (λ g. P g → ⊥)
flags_none P (f ∷ fs) [] h = All-nil (λ g. P g → ⊥)
flags_none P (true ∷ fs) (g ∷ gs) h = flags_none P fs gs h.1
flags_none P (false ∷ fs) (g ∷ gs) h =
    All-cons (λ g. P g → ⊥) g (flagged false fs gs) (λ is. let no : false ≡ true = h.0.1 is in absurd (cc)) (flags_none P fs gs h.1)

pub flags_same : (P Q : Region → Type 0) → ((g : Region) → P g ↔ Q g) → (fs : List Bool) (gs : List Region) → AreFlags P fs gs → AreFlags Q fs gs
flags_same P Q same [] [] h = tt
flags_same P Q same [] (g ∷ gs) h = absurd h
flags_same P Q same (f ∷ fs) [] h = absurd h
flags_same P Q same (f ∷ fs) (g ∷ gs) h = (((λ e. (same g).0 (h.0.0 e)), (λ q. h.0.1 ((same g).1 q))), flags_same P Q same fs gs h.1)

-- ---- regions of two lists

both-some : (still news : List Region) (g : Region) (p : Row) → in_any (wider_both still news g) p ≡ true
    → (b : ℕ) × (has_more g.attrs b ≡ true) × ((occurs still g.table b p + occurs news g.table b p ≡ 0) → ⊥)
both-some still news g p h =
    go (in_any (wider still g.table g.attrs) p) refl (sym (in_any-append (wider still g.table g.attrs) (wider news g.table g.attrs) p) ∙ h)
  where
    go : (b : Bool) → in_any (wider still g.table g.attrs) p ≡ b → (b || in_any (wider news g.table g.attrs) p) ≡ true
        → (b : ℕ) × (has_more g.attrs b ≡ true) × ((occurs still g.table b p + occurs news g.table b p ≡ 0) → ⊥)
    go true e k = let some = wider-some still g.table g.attrs p e in (some.0, some.1, λ none. some.2 (omega (arith, none)))
    go false e k = let some = wider-some news g.table g.attrs p k in (some.0, some.1, λ none. some.2 (omega (arith, none)))

both-has : (still news : List Region) (g : Region) (p : Row) (b : ℕ) → has_more g.attrs b ≡ true → ((occurs still g.table b p + occurs news g.table b p ≡ 0) → ⊥)
    → in_any (wider_both still news g) p ≡ true
both-has still news g p b m k =
    in_any-append (wider still g.table g.attrs) (wider news g.table g.attrs) p ∙ go (occurs still g.table b p) refl
  where
    right : (c d : Bool) → d ≡ true → (c || d) ≡ true
    right true d e = refl
    right false d e = e

    go : (n : ℕ) → occurs still g.table b p ≡ n → (in_any (wider still g.table g.attrs) p || in_any (wider news g.table g.attrs) p) ≡ true
    go zero e = right (in_any (wider still g.table g.attrs) p) (in_any (wider news g.table g.attrs) p) (wider-has news g.table g.attrs p b m (λ none. k (omega (arith, e, none))))
    go (suc n) e = rw (wider-has still g.table g.attrs p b m (λ none. absurd (omega (arith, e, none)))) refl

-- a region is absorbed among all where the regions of the two lists absorb it
pub absorbed_both : (schema : List Table) (still news : List Region) (g : Region) → IsAbsorbedBy schema still news g ↔ IsAbsorbedIn schema (with_regions still news) g
absorbed_both schema still news g = (
  (λ by p point inside.
      let some = both-some still news g p (by p point inside) in
      let sum = with_regions-occurs still news g.table some.0 p in
      wider-has (with_regions still news) g.table g.attrs p some.0 some.1 (λ none. some.2 (omega (arith, sum, none)))),
  (λ by p point inside.
      let some = wider-some (with_regions still news) g.table g.attrs p (by p point inside) in
      let sum = with_regions-occurs still news g.table some.0 p in
      both-has still news g p some.0 some.1 (λ none. some.2 (omega (arith, sum, none)))),
)

-- ---- what arrives

arriving-has : (arrivals : List Arrival) (t a : ℕ) (p : Row) (b : ℕ) → has_more a b ≡ true → ((arrivals_at arrivals t b p ≡ 0) → ⊥) → in_any (wider_arriving arrivals t a) p ≡ true
arriving-has [] t a p b m k = absurd (k refl)
arriving-has (r ∷ rs) t a p b m k =
    go (r.table == t) (has_more a r.attrs) (r.attrs == b) (in_any r.rects p) refl refl refl refl (in_any-append r.rects (wider_arriving rs t a) p) (arriving-has rs t a p b m)
  where
    go : (x y z i : Bool) → (r.table == t) ≡ x → has_more a r.attrs ≡ y → (r.attrs == b) ≡ z → in_any r.rects p ≡ i
        → in_any (r.rects ++ wider_arriving rs t a) p ≡ (in_any r.rects p || in_any (wider_arriving rs t a) p)
        → (((arrivals_at rs t b p ≡ 0) → ⊥) → in_any (wider_arriving rs t a) p ≡ true)
        → in_any (flat_map (λ r. r.rects) (cond (x && y) (r ∷ filter (λ r. r.table == t && has_more a r.attrs) rs) (filter (λ r. r.table == t && has_more a r.attrs) rs))) p ≡ true
    go true true z true ex ey ez ei all ih = all ∙ rw ei refl
    go true true z false ex ey ez ei all ih = all ∙ rw ei (ih (λ e. k (grind (arith, e, ei))))
    go true false true i ex ey ez ei all ih =
        absurd (let e : r.attrs ≡ b = grind (arith, nat_tests) in let f = sym (ap (has_more a) e) in let u = sym m ∙ f ∙ ey in grind (arith, u))
    go true false false i ex ey ez ei all ih = ih (λ e. k (grind (arith, e, ex, ez)))
    go false y z i ex ey ez ei all ih = ih (λ e. k (grind (arith, e, ex)))

-- Where the regions of the two lists have what the old ones had and what arrives, an old region that was not absorbed, and of
-- which no arrival with more columns has a point, is not absorbed by them.
pub not_absorbed : (schema : List Table) (arrivals : List Arrival) (old still news : List Region) (g : Region)
    → ((t a : ℕ) (p : Row) → is_point (table_at schema t).columns p ≡ true → occurs still t a p + occurs news t a p ≡ occurs old t a p + arrivals_at arrivals t a p)
    → (IsAbsorbedIn schema old g → ⊥) → IsUnmet arrivals g → IsAbsorbedBy schema still news g → ⊥
not_absorbed schema arrivals old still news g sum stays unmet by = stays held
  where
    none : (b c : Bool) → b ≡ true → c ≡ true → (b && c) ≡ false → ⊥
    none b c e f h = let no : true ≡ false = sym (rw (e, f) refl) ∙ h in absurd (cc)

    held : IsAbsorbedIn schema old g
    held p point inside =
        let some = both-some still news g p (by p point inside) in
        go some.0 some.1 (λ e. some.2 (sum g.table some.0 p point ∙ e)) (occurs old g.table some.0 p) refl
      where
        go : (b : ℕ) → has_more g.attrs b ≡ true → ((occurs old g.table b p + arrivals_at arrivals g.table b p ≡ 0) → ⊥) → (n : ℕ) → occurs old g.table b p ≡ n → in_any (wider old g.table g.attrs) p ≡ true
        go b m k zero e =
            let comes = arriving-has arrivals g.table g.attrs p b m (λ f. k (omega (arith, e, f))) in
            absurd (none (in_any g.rects p) (in_any (wider_arriving arrivals g.table g.attrs) p) inside comes (unmet (table_at schema g.table).columns p point))
        go b m k (suc n) e = wider-has old g.table g.attrs p b m (λ f. absurd (omega (arith, e, f)))
