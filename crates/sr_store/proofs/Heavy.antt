-- Too many rects come of too large grids.
use Rattle.std.proofs.Common.{◌≡◌, ℕ, ◌+◌, ◌*◌, ◌≤◌, ◌<◌, zero, suc, true, false, List, [], ◌∷◌, ◌++◌, length, refl, sym, ap, subst, ◌∙◌, arith}
use Rattle.std.specs.Prelude.{Bool, not, ◌&&◌, ◌||◌, ◌==◌, if◌then◌else◌}
use Rattle.std.specs.List.{list_all, list_any, All}
use Rattle.std.proofs.lemmas.Bool.Decides.{nat_tests}
use Rattle.std.proofs.lemmas.List.Elements.{All-head, All-tail}
use Rattle.sr_history.specs.Load.{are_once}
use Rattle.sr_cell.specs.declared.table.Table.{Table}
use Rattle.sr_cell.specs.Columns.{table_at}
use Rattle.sr_cell.proofs.Numbers.{eqb_same}
use Rattle.sr_box.specs.Points.{Rect}
use Rattle.sr_union.specs.Grid.{grid, AreCutFrom}
use Rattle.sr_union.proofs.Among.{AreCutFrom-append}
use Rattle.sr_union.proofs.Once.{grid_among}
use Rattle.sr_query.specs.declared.query.Part.{Part}
use Rattle.sr_query.specs.Bound.{is_table}
use Rattle.sr_region.specs.declared.region.Region.{Region}
use Rattle.sr_store.specs.declared.store.Arrival.{Arrival}
use Rattle.sr_store.specs.Stores.{IsOfSchema, count_rects}
use Rattle.sr_store.specs.Answered.{IsArrival, is_used, rects_on, weight_from, IsHeavy}
use Rattle.sr_store.specs.Renewing.{touching, IsCutFrom, IsRenewal}
use Rattle.sr_store.proofs.Tables.{tables_first}
use Rattle.sr_store.proofs.Dropping.{count_rects-cons}
use Rattle.sr_store.proofs.Keeping.{old_used, arrivals_used}
use Rattle.sr_store.proofs.Counting.{pieces, has_sets, pieces_few}
use Rattle.sr_store.proofs.Given.{FitsPart, regions_cut, parts_cut, arrivals_cut, given_fit}
use Rattle.sr_store.proofs.Touching.{touching_cut}

-- ---- one grid that is too large

-- the weight of a table is part of the sum
weight-at : (sets : ℕ → List ℕ) (rects : ℕ → List Rect) (schema : List Table) (t s i : ℕ) → t ≡ s + i → i < length schema
    → length (sets t) * grid (table_at schema i).columns (rects t) ≤ weight_from sets rects s schema
weight-at sets rects [] t s i e l = absurd (omega (arith, l))
weight-at sets rects (table ∷ schema) t s zero e l =
    let same : t ≡ s = omega (arith, e) in
    subst (λ n. length (sets n) * grid table.columns (rects n) ≤ weight_from sets rects s (table ∷ schema)) (sym same)
    (front (length (sets s) * grid table.columns (rects s)) (weight_from sets rects (s + 1) schema))
  where
    front : (n m : ℕ) → n ≤ n + m
    front n m = omega arith
weight-at sets rects (table ∷ schema) t s (suc i) e l =
    behind (length (sets s) * grid table.columns (rects s)) (weight_from sets rects (s + 1) schema) (length (sets t) * grid (table_at schema i).columns (rects t))
    (weight-at sets rects schema t (s + 1) i (omega (arith, e)) (omega (arith, l)))
  where
    behind : (n m k : ℕ) → k ≤ m → k ≤ n + m
    behind n m k le = omega (arith, le)

-- one set of columns for one table
abbrev one_set : ℕ → ℕ → ℕ → List ℕ
one_set t a u = if u == t then a ∷ [] else []

one-once : (t a u : ℕ) → are_once (one_set t a u) ≡ true
one-once t a u = go (u == t)
  where
    go : (b : Bool) → are_once (if b then a ∷ [] else []) ≡ true
    go true = refl
    go false = refl

one-used : (regions : List Region) (arrivals : List Arrival) (t a u : ℕ) → is_used regions arrivals t a ≡ true → list_all (is_used regions arrivals u) (one_set t a u) ≡ true
one-used regions arrivals t a u is = go (u == t) refl
  where
    go : (b : Bool) → (u == t) ≡ b → list_all (is_used regions arrivals u) (if b then a ∷ [] else []) ≡ true
    go true e =
        let same : u ≡ t = grind (arith, nat_tests) in
        let here : is_used regions arrivals u a ≡ true = ap (λ n. is_used regions arrivals n a) same ∙ is in
        rw here refl
    go false e = refl

-- rects cut from those of a table, which some region or arrival with these columns uses, with too large a grid
pub heavy_one : (schema : List Table) (regions : List Region) (parts : List Part) (arrivals : List Arrival) (t a : ℕ) (rects : List Rect) → t < length schema
    → is_used regions arrivals t a ≡ true → AreCutFrom (table_at schema t).columns (rects_on regions parts arrivals t) rects → 16384 < grid (table_at schema t).columns rects
    → IsHeavy schema regions parts arrivals
heavy_one schema regions parts arrivals t a rects below used cut large = record {
  sets = one_set t a;
  once = one-once t a;
  used = λ u. one-used regions arrivals t a u used;
  heavy =
      let own : length (one_set t a t) ≡ 1 = ap (λ b. length (if b then a ∷ [] else [])) (eqb_same t) in
      let all = weight-at (one_set t a) (rects_on regions parts arrivals) schema t 0 t (omega arith) below in
      let more = grid_among (table_at schema t).columns (rects_on regions parts arrivals t) rects cut in
      sums (grid (table_at schema t).columns rects) (grid (table_at schema t).columns (rects_on regions parts arrivals t)) (length (one_set t a t)) (weight_from (one_set t a) (rects_on regions parts arrivals) 0 schema)
      large more own all;
}
  where
    sums : (g h n w : ℕ) → 16384 < g → g ≤ h → n ≡ 1 → n * h ≤ w → 16384 < w
    sums g h n w large more e all = let f : 1 * h ≤ w = subst (λ n. n * h ≤ w) e all in omega (arith, large, more, f)

-- a region and the parts that touch it
pub heavy_touched : (schema : List Table) (regions : List Region) (parts : List Part) (arrivals : List Arrival) (g : Region) → IsOfSchema schema g → is_used regions arrivals g.table g.attrs ≡ true
    → IsCutFrom schema (rects_on regions parts arrivals) g → All (FitsPart schema) parts → 16384 < grid (table_at schema g.table).columns (g.rects ++ touching parts g.table g.attrs)
    → IsHeavy schema regions parts arrivals
heavy_touched schema regions parts arrivals g h used cut fit large =
    heavy_one schema regions parts arrivals g.table g.attrs (g.rects ++ touching parts g.table g.attrs) h.0 used
    (AreCutFrom-append (table_at schema g.table).columns (rects_on regions parts arrivals g.table) g.rects (touching parts g.table g.attrs) cut
    (touching_cut schema (rects_on regions parts arrivals) parts g.table g.attrs (parts_cut schema regions parts arrivals fit)))
    large

-- ---- too many rects

-- the sets of columns of the regions of a table, each once
abbrev sets_of : List Region → ℕ → List ℕ
sets_of [] t = []
sets_of (g ∷ gs) t = if g.table == t && not (list_any (λ y. g.attrs == y) (sets_of gs t)) then g.attrs ∷ sets_of gs t else sets_of gs t

sets-once : (gs : List Region) (t : ℕ) → are_once (sets_of gs t) ≡ true
sets-once [] t = refl
sets-once (g ∷ gs) t = go (g.table == t) (list_any (λ y. g.attrs == y) (sets_of gs t)) refl (sets-once gs t)
  where
    go : (b m : Bool) → list_any (λ y. g.attrs == y) (sets_of gs t) ≡ m → are_once (sets_of gs t) ≡ true → are_once (if b && not m then g.attrs ∷ sets_of gs t else sets_of gs t) ≡ true
    go true true e ih = ih
    go true false e ih = rw (e, ih) refl
    go false m e ih = ih

sets-used : (used : ℕ → ℕ → Bool) (gs : List Region) (t : ℕ) → list_all (λ g. used g.table g.attrs) gs ≡ true → list_all (used t) (sets_of gs t) ≡ true
sets-used used [] t h = refl
sets-used used (g ∷ gs) t h = go (g.table == t) (list_any (λ y. g.attrs == y) (sets_of gs t)) refl (sets-used used gs t (grind arith))
  where
    go : (b m : Bool) → (g.table == t) ≡ b → list_all (used t) (sets_of gs t) ≡ true → list_all (used t) (if b && not m then g.attrs ∷ sets_of gs t else sets_of gs t) ≡ true
    go true true e ih = ih
    go true false e ih =
        let one : used g.table g.attrs ≡ true = grind (arith, h) in
        let same : t ≡ g.table = grind (arith, nat_tests) in
        let here : used t g.attrs ≡ true = ap (λ n. used n g.attrs) same ∙ one in
        rw (here, ih) refl
    go false m e ih = ih

sets-more : (x : ℕ) (sets : List ℕ) (t : ℕ) (gs : List Region) → has_sets sets t gs ≡ true → has_sets (x ∷ sets) t gs ≡ true
sets-more x sets t [] h = refl
sets-more x sets t (g ∷ gs) h = let ih = sets-more x sets t gs (grind arith) in grind (arith, ih, h)

sets-all : (gs : List Region) (t : ℕ) → has_sets (sets_of gs t) t gs ≡ true
sets-all [] t = refl
sets-all (g ∷ gs) t = go (g.table == t) (list_any (λ y. g.attrs == y) (sets_of gs t)) refl refl (sets-all gs t) (sets-more g.attrs (sets_of gs t) t gs)
  where
    go : (b m : Bool) → (g.table == t) ≡ b → list_any (λ y. g.attrs == y) (sets_of gs t) ≡ m → has_sets (sets_of gs t) t gs ≡ true
        → (has_sets (sets_of gs t) t gs ≡ true → has_sets (g.attrs ∷ sets_of gs t) t gs ≡ true)
        → has_sets (if b && not m then g.attrs ∷ sets_of gs t else sets_of gs t) t (g ∷ gs) ≡ true
    go true true e f ih more = rw (f, ih) (any-true (not (g.table == t)))
      where
        any-true : (b : Bool) → ((b || true) && true) ≡ true
        any-true true = refl
        any-true false = refl
    go true false e f ih more = rw (eqb_same g.attrs, more ih) (any-true (not (g.table == t)))
      where
        any-true : (b : Bool) → ((b || true) && true) ≡ true
        any-true true = refl
        any-true false = refl
    go false m e f ih more = rw (e, ih) refl

-- how many rects the regions of some tables have; t is the number of the first
abbrev pieces_from : List Region → ℕ → List Table → ℕ
pieces_from gs t [] = 0
pieces_from gs t (table ∷ schema) = pieces gs t + pieces_from gs (t + 1) schema

from-more : (g : Region) (gs : List Region) (t : ℕ) (schema : List Table) → pieces_from gs t schema ≤ pieces_from (g ∷ gs) t schema
from-more g gs t [] = omega arith
from-more g gs t (table ∷ schema) = let ih = from-more g gs (t + 1) schema in omega (arith, ih)

from-one : (g : Region) (gs : List Region) (s i : ℕ) (schema : List Table) → g.table ≡ s + i → i < length schema → length g.rects + pieces_from gs s schema ≤ pieces_from (g ∷ gs) s schema
from-one g gs s i [] e l = absurd (omega (arith, l))
from-one g gs s zero (table ∷ schema) e l =
    let same : (g.table == s) ≡ true = grind (arith, nat_tests) in
    let rest = from-more g gs (s + 1) schema in
    let own : (if g.table == s then length g.rects else 0) ≡ length g.rects = ap (λ b. if b then length g.rects else 0) same in
    omega (arith, rest, own)
from-one g gs s (suc i) (table ∷ schema) e l = let ih = from-one g gs (s + 1) i schema (omega (arith, e)) (omega (arith, l)) in omega (arith, ih)

count-from : (schema : List Table) (gs : List Region) → All (IsOfSchema schema) gs → count_rects gs ≤ pieces_from gs 0 schema
count-from schema [] each = omega arith
count-from schema (g ∷ gs) each =
    let ih = count-from schema gs (All-tail (IsOfSchema schema) g gs each) in
    let one = from-one g gs 0 g.table schema (omega arith) (All-head (IsOfSchema schema) g gs each).0 in
    sums (count_rects (g ∷ gs)) (length g.rects) (count_rects gs) (pieces_from gs 0 schema) (pieces_from (g ∷ gs) 0 schema) (count_rects-cons g gs) ih one
  where
    sums : (c n m x y : ℕ) → c ≡ n + m → m ≤ x → n + x ≤ y → c ≤ y
    sums c n m x y e a b = omega (arith, e, a, b)

from-weight : (sets : ℕ → List ℕ) (rects : ℕ → List Rect) (gs : List Region) (schema : List Table) (s : ℕ)
    → ((t i : ℕ) → t ≡ s + i → pieces gs t ≤ length (sets t) * grid (table_at schema i).columns (rects t)) → pieces_from gs s schema ≤ weight_from sets rects s schema
from-weight sets rects gs [] s h = omega arith
from-weight sets rects gs (table ∷ schema) s h =
    let one = h s 0 (omega arith) in
    let ih = from-weight sets rects gs schema (s + 1) (λ t i e. h t (suc i) (omega (arith, e))) in
    both (pieces gs s) (pieces_from gs (s + 1) schema) (length (sets s) * grid table.columns (rects s)) (weight_from sets rects (s + 1) schema) one ih
  where
    both : (n m k l : ℕ) → n ≤ k → m ≤ l → n + m ≤ k + l
    both n m k l a b = omega (arith, a, b)

-- the regions of an answer have more rects than their grids only where the weight is above the limit
pub heavy_many : (schema : List Table) (number : ℕ) (parts : List Part) (arrivals : List Arrival) (old all : List Region) → list_all is_table schema ≡ true
    → All (IsOfSchema schema) old → All (FitsPart schema) parts → All (IsArrival schema parts) arrivals → IsRenewal schema number parts arrivals old all → 16384 < count_rects all
    → IsHeavy schema old parts arrivals
heavy_many schema number parts arrivals old all tables each fit are h many = record {
  sets = λ t. sets_of all t;
  once = λ t. sets-once all t;
  used = λ t. sets-used (is_used old arrivals) all t (h.used (is_used old arrivals) (old_used old arrivals) (arrivals_used old arrivals));
  heavy =
      let few = count-from schema all h.each in
      let weight = from-weight (λ t. sets_of all t) (rects_on old parts arrivals) all schema 0 (λ t i e. at t i (omega (arith, e))) in
      above (count_rects all) (pieces_from all 0 schema) (weight_from (λ t. sets_of all t) (rects_on old parts arrivals) 0 schema) many few weight;
}
  where
    above : (n m k : ℕ) → 16384 < n → n ≤ m → m ≤ k → 16384 < k
    above n m k a b c = omega (arith, a, b, c)

    here : (t : ℕ) → pieces all t ≤ length (sets_of all t) * grid (table_at schema t).columns (rects_on old parts arrivals t)
    here t =
        pieces_few schema (rects_on old parts arrivals) all t (sets_of all t) (tables_first schema t tables) (given_fit schema old parts arrivals t each fit are)
        (h.cuts (rects_on old parts arrivals) (regions_cut schema old parts arrivals each) (parts_cut schema old parts arrivals fit) (arrivals_cut schema old parts arrivals are))
        h.once (sets-all all t)

    at : (t i : ℕ) → t ≡ i → pieces all t ≤ length (sets_of all t) * grid (table_at schema i).columns (rects_on old parts arrivals t)
    at t i e = subst (λ n. pieces all t ≤ length (sets_of all t) * grid (table_at schema n).columns (rects_on old parts arrivals t)) e (here t)
