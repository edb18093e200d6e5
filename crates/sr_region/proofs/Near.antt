-- A region cut by rects that meet only some of its own.
use Rattle.std.proofs.Common.{◌≡◌, ℕ, ◌+◌, ◌≤◌, true, false, cond, List, [], ◌∷◌, ◌++◌, length, refl, sym, ap, subst, ◌∙◌, arith}
use Rattle.std.specs.Prelude.{Bool, not, ◌&&◌, ◌||◌, ◌*◌, nat_eq, if◌then◌else◌, filter, Some, None}
use Rattle.std.specs.List.{list_all, list_any, All}
use Rattle.std.specs.Option.{is_some}
use Rattle.std.proofs.lemmas.Bool.Decides.{nat_tests}
use Rattle.std.proofs.lemmas.List.Elements.{All-head, All-tail, All-weaker}
use Rattle.std.proofs.lemmas.List.{append-nil}
use Rattle.std.proofs.lemmas.List.Folds.{list_all-append}
use Rattle.sr_cell.specs.declared.table.Column.{Column}
use Rattle.sr_cell.specs.declared.table.Table.{Table}
use Rattle.sr_cell.specs.Cells.{Row}
use Rattle.sr_cell.specs.Columns.{is_point}
use Rattle.sr_box.specs.Points.{Rect, in_rect, in_any, times, rect_fits, constrains_only}
use Rattle.sr_box.specs.Cut.{rect_meet}
use Rattle.sr_union.specs.Pieces.{near, IsMinus, IsMeet}
use Rattle.sr_box.specs.Corners.{have_first}
use Rattle.sr_union.specs.Grid.{grid, AreCutFrom}
use Rattle.sr_union.proofs.Times.{in_any-times}
use Rattle.sr_union.proofs.Parts.{are_part}
use Rattle.sr_union.proofs.Among.{AreCutFrom-append}
use Rattle.sr_union.proofs.Once.{grid_among, are_trans}
use Rattle.sr_union.proofs.Meets.{apart_one, near-in, near-are}
use Rattle.sr_region.specs.declared.region.Region.{Region}
use Rattle.sr_region.specs.Regions.{is_in, IsRowIn, IsRegion}
use Rattle.sr_region.specs.Halves.{IsInside, IsOutside, half_of}
use Rattle.sr_region.proofs.Parts.{is_in-point}
use Rattle.sr_region.proofs.Sides.{half-from}

-- no point lies in more of the near rects
pub near-few : (others rects : List Rect) (p : Row) → times (near others rects) p ≤ times rects p
near-few others [] p = omega arith
near-few others (r ∷ rects) p = go (list_any (λ q. is_some (rect_meet r q)) others) (in_rect r p) (near-few others rects p)
  where
    go : (b i : Bool) → times (near others rects) p ≤ times rects p
        → times (cond b (r ∷ near others rects) (near others rects)) p ≤ times (r ∷ rects) p
    go true i ih = omega (arith, ih)
    go false i ih = omega (arith, ih)

-- a point of the others lies in as many of the near rects as of all
pub near-times : (others rects : List Rect) (p : Row) → in_any others p ≡ true → times (near others rects) p ≡ times rects p
near-times others [] p h = refl
near-times others (r ∷ rects) p h = go (list_any (λ q. is_some (rect_meet r q)) others) (apart_one r others p) (near-times others rects p h)
  where
    go : (b : Bool) → (b ≡ false → (in_rect r p && in_any others p) ≡ false) → times (near others rects) p ≡ times rects p
        → times (cond b (r ∷ near others rects) (near others rects)) p ≡ times (r ∷ rects) p
    go true a ih = ap (λ n. (if in_rect r p then 1 else 0) + n) ih
    go false a ih = let x = a refl in let out : in_rect r p ≡ false = grind (arith, x, h) in rw out (omega (arith, ih))

cuts-mid : (cs : List Column) (own cut outside : List Rect) → list_all (rect_fits cs) own ≡ true → AreCutFrom cs (own ++ cut) outside → AreCutFrom cs (own ++ cut) (near cut own ++ outside)
cuts-mid cs own cut outside f h = AreCutFrom-append cs (own ++ cut) (near cut own) outside (near-are cs (own ++ cut) cut own (are_part cs [] own cut f)) h

pub near-grid : (cs : List Column) (own cut outside : List Rect) → list_all (rect_fits cs) own ≡ true → AreCutFrom cs (own ++ cut) outside → grid cs (near cut own ++ outside) ≤ grid cs (own ++ cut)
near-grid cs own cut outside f h = grid_among cs (own ++ cut) (near cut own ++ outside) (cuts-mid cs own cut outside f h)

pub near-cuts : (cs : List Column) (own cut outside inside : List Rect) → list_all (rect_fits cs) own ≡ true → AreCutFrom cs (own ++ cut) outside
    → AreCutFrom cs (near cut own ++ outside) inside → AreCutFrom cs (own ++ cut) inside
near-cuts cs own cut outside inside f h k = are_trans cs (own ++ cut) (near cut own ++ outside) inside (cuts-mid cs own cut outside f h) k

-- what is left of the near rects is left of all
pub near-minus : (cs : List Column) (own cut outside inside : List Rect) → IsMinus cs own cut outside → IsMinus cs (near cut own) outside inside → IsMinus cs own outside inside
near-minus cs own cut outside inside minus more p point =
    go (in_any cut p) (in_any outside p) (times own p) (times (near cut own) p) (times outside p) (times inside p) (near-times cut own p) (near-few cut own p)
    (in_any-times outside p) (minus p point) (more p point)
  where
    go : (c o : Bool) (n m k i : ℕ) → (c ≡ true → m ≡ n) → m ≤ n → o ≡ not (nat_eq k 0) → k ≡ (if c then 0 else n) → i ≡ (if o then 0 else m) → i ≡ (if o then 0 else n)
    go true o n m k i same le some is left = left ∙ ap (λ x. if o then 0 else x) (same refl)
    go false true n m k i same le some is left = left
    go false false n m k i same le some is left = grind (arith, nat_tests, le, some, is, left)

-- a point lies in a single rect once, or not at all
single-times : (cut : List Rect) (p : Row) → length cut ≡ 1 → times cut p ≡ (if in_any cut p then 1 else 0)
single-times [] p h = absurd (omega (arith, h))
single-times (q ∷ []) p h = go (in_rect q p)
  where
    go : (b : Bool) → (if b then 1 else 0) + 0 ≡ (if b || false then 1 else 0)
    go true = omega arith
    go false = omega arith
single-times (q ∷ r ∷ cut) p h = absurd (omega (arith, h))

-- what the near rects have in common with a single cut is what is left of all without the outside
pub meet-minus : (cs : List Column) (own cut outside inside : List Rect) → length cut ≡ 1 → IsMinus cs own cut outside → IsMeet cs (near cut own) cut inside → IsMinus cs own outside inside
meet-minus cs own cut outside inside one minus both p point =
    go (in_any cut p) (in_any outside p) (times own p) (times (near cut own) p) (times outside p) (times inside p) (times cut p) (near-times cut own p)
    (in_any-times outside p) (minus p point) (single-times cut p one) (both p point)
  where
    go : (c o : Bool) (n m k i t : ℕ) → (c ≡ true → m ≡ n) → o ≡ not (nat_eq k 0) → k ≡ (if c then 0 else n) → t ≡ (if c then 1 else 0) → i ≡ m * t → i ≡ (if o then 0 else n)
    go true o n m k i t same some is once both = let e = same refl in grind (arith, nat_tests, e, some, is, once, both)
    go false true n m k i t same some is once both = grind (arith, nat_tests, once, both)
    go false false n m k i t same some is once both = grind (arith, nat_tests, some, is, once, both)

pub meet-cuts : (cs : List Column) (own cut inside : List Rect) → list_all (rect_fits cs) own ≡ true → list_all (rect_fits cs) cut ≡ true
    → AreCutFrom cs (near cut own ++ cut) inside → AreCutFrom cs (own ++ cut) inside
meet-cuts cs own cut inside f g k =
    near-cuts cs own cut cut inside f (subst (λ all. AreCutFrom cs (own ++ all) cut) (append-nil cut) (are_part cs own cut [] g)) k

far : (own cut : List Rect) (p : Row) → near cut own ≡ [] → (in_any own p && in_any cut p) ≡ false
far own cut p none = go (in_any cut p) (λ h. sym (near-in cut own p h) ∙ ap (λ rects. in_any rects p) none)
  where
    go : (b : Bool) → (b ≡ true → in_any own p ≡ false) → (in_any own p && b) ≡ false
    go true h = let out = h refl in grind (arith, out)
    go false h = grind arith

kept-all : (test : Row → Bool) (rows : List Row) → All (λ row. test row ≡ true) rows → filter test rows ≡ rows
kept-all test [] all = refl
kept-all test (row ∷ rows) all =
    let one = All-head (λ row. test row ≡ true) row rows all in
    let ih = kept-all test rows (All-tail (λ row. test row ≡ true) row rows all) in
    rw (one, ih) refl

half-same : (whole : Region) (rects : List Rect) (rows : List Row) → rects ≡ whole.rects → rows ≡ whole.rows → (rects ≡ [] → ⊥) → half_of whole rects rows ≡ Some whole
half-same whole [] rows e f some = absurd (some refl)
half-same whole (r ∷ rects) rows e f some =
    ap (λ rs. Some (record whole { rects = rs; rows = rows })) e ∙ ap (λ xs. Some (record whole { rects = whole.rects; rows = xs })) f

-- a region that no rect of the cut meets lies outside as a whole
module _ (t : Table) (whole : Region) (cut : List Rect) (h : IsRegion t whole) (first : have_first t.columns ≡ true) (fit : list_all (rect_fits t.columns) cut ≡ true)
    (only : list_all (constrains_only whole.attrs 0) cut ≡ true) (none : near cut whole.rects ≡ []) where
  onlys : list_all (constrains_only whole.attrs 0) (whole.rects ++ cut) ≡ true
  onlys = let own = h.area.only in list_all-append (constrains_only whole.attrs 0) whole.rects cut ∙ grind (arith, own, only)

  pub stays-inside : IsInside t whole cut None
  stays-inside =
      half-from t whole cut [] (λ p. in_any whole.rects p && in_any cut p) (is_in whole.attrs cut) h first onlys
      (λ p point. rw (far whole.rects cut p none) refl) tt
      (λ p point is. is_in-point t.columns whole.attrs cut p fit only point ∙ grind (arith, is))

  are-own : (p : Row) → is_point t.columns p ≡ true → times whole.rects p ≡ (if in_any whole.rects p && not (in_any cut p) then 1 else 0)
  are-own p point = go (in_any whole.rects p) (in_any cut p) (times whole.rects p) (h.area.once p point) (in_any-times whole.rects p) (far whole.rects cut p none)
    where
      go : (a b : Bool) (n : ℕ) → n ≤ 1 → a ≡ not (nat_eq n 0) → (a && b) ≡ false → n ≡ (if a && not b then 1 else 0)
      go true true n le is apart = absurd (grind arith)
      go true false n le is apart = grind (arith, nat_tests, le, is)
      go false b n le is apart = grind (arith, nat_tests, le, is)

  abbrev outside : Row → Bool
  outside row = not (is_in whole.attrs cut row)

  row-outside : (row : Row) → IsRowIn t.columns whole.attrs whole.rects row → outside row ≡ true
  row-outside row is =
      let p = is.0.0 in let point = is.0.1 in let part = is.0.2 in
      let inside : in_any whole.rects p ≡ true = sym (is_in-point t.columns whole.attrs whole.rects p h.area.fit h.area.only point) ∙ ap (is_in whole.attrs whole.rects) part ∙ is.1 in
      let apart = far whole.rects cut p none in
      let out : is_in whole.attrs cut row ≡ in_any cut p = sym (ap (is_in whole.attrs cut) part) ∙ is_in-point t.columns whole.attrs cut p fit only point in
      ap not out ∙ grind (arith, inside, apart)

  pub stays-outside : IsOutside t whole cut (Some whole)
  stays-outside =
      subst (IsOutside t whole cut)
      (half-same whole whole.rects (filter outside whole.rows) refl
      (kept-all outside whole.rows (All-weaker (IsRowIn t.columns whole.attrs whole.rects) (λ row. outside row ≡ true) row-outside whole.rows h.rows)) h.area.some)
      (half-from t whole cut whole.rects (λ p. in_any whole.rects p && not (in_any cut p)) outside h first onlys are-own (are_part t.columns [] whole.rects cut h.area.fit)
      (λ p point is. ap not (is_in-point t.columns whole.attrs cut p fit only point) ∙ grind (arith, is)))
