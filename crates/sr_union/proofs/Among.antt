-- The cuts of what is left of rects are among those of the rects, and it fits the columns.
use Rattle.std.proofs.Common.{◌≡◌, true, false, List, [], ◌∷◌, ◌++◌, refl, arith, subst}
use Rattle.std.specs.Prelude.{Bool, ◌||◌, Option, Some, None, if◌then◌else◌, int_le}
use Rattle.std.specs.List.{list_all}
use Rattle.sr_cell.specs.declared.cell.Cell.{Cell}
use Rattle.sr_cell.specs.declared.table.Column.{Column}
use Rattle.sr_cell.specs.declared.table.Kind.TheVariants.{Num as Numbers}
use Rattle.sr_cell.specs.Columns.{in_column, in_kind}
use Rattle.sr_box.specs.declared.span.Span.{Span}
use Rattle.sr_box.specs.Corners.{first_value, have_first}
use Rattle.sr_box.specs.Spans.{span_fits}
use Rattle.sr_box.specs.Points.{rect_fits, Rect}
use Rattle.sr_box.specs.Cut.{meet, under, over}
use Rattle.sr_box.proofs.Fits.{maybe_fits, meet-fits, under-fits, over-fits, beyond-fits}
use Rattle.sr_union.specs.Pieces.{beyond_in, above, with_front, with_fronts, rect_minus, meets, minus_one, minus_each, minus_all}
use Rattle.sr_union.specs.Grid.{is_among, has_cut, first_cuts, others, CutsAmong, AreCutFrom}
use Rattle.sr_union.proofs.Cuts.{maybe_cut, meet-cut, under-cut, over-cut, beyond-cut}

pub AreCutFrom-fits : (cs : List Column) (given rects : List Rect) → AreCutFrom cs given rects → list_all (rect_fits cs) rects ≡ true
AreCutFrom-fits cs given [] h = refl
AreCutFrom-fits cs given (r ∷ rects) h = rw (h.0, AreCutFrom-fits cs given rects h.2) refl

pub AreCutFrom-append : (cs : List Column) (given a b : List (List Span)) → AreCutFrom cs given a → AreCutFrom cs given b → AreCutFrom cs given (a ++ b)
AreCutFrom-append cs given [] b h k = k
AreCutFrom-append cs given (r ∷ a) b h k = (h.0, h.1, AreCutFrom-append cs given a b h.2 k)

-- what follows from each of two tests holds where one of them does
either : (a b d : Bool) → (a || b) ≡ true → (a ≡ true → d ≡ true) → (b ≡ true → d ≡ true) → d ≡ true
either true b d h x y = x refl
either false b d h x y = y h

-- a cut of one of two first spans is a cut of the given rects, where both have their cuts from there
pub among_either : (c : Column) (given : List Rect) (s t : Span) (v : Cell) → (has_cut c.kind c.lo c.hi c.nullable s v || has_cut c.kind c.lo c.hi c.nullable t v) ≡ true
    → (has_cut c.kind c.lo c.hi c.nullable s v ≡ true → is_among (first_cuts c given) v ≡ true) → (has_cut c.kind c.lo c.hi c.nullable t v ≡ true → is_among (first_cuts c given) v ≡ true)
    → is_among (first_cuts c given) v ≡ true
among_either c given s t v = either (has_cut c.kind c.lo c.hi c.nullable s v) (has_cut c.kind c.lo c.hi c.nullable t v) (is_among (first_cuts c given) v)

-- the cuts of a first span are among those of the given rects
abbrev MaybeAmong : Column → List (List Span) → Option Span → Type 0
MaybeAmong c given m = (v : Cell) → maybe_cut c.kind c.lo c.hi c.nullable m v ≡ true → is_among (first_cuts c given) v ≡ true

front-are : (c : Column) (cs : List Column) (given : List (List Span)) (m : Option Span) (r : List Span)
    → maybe_fits c.kind c.lo c.hi c.nullable m ≡ true → MaybeAmong c given m → rect_fits cs r ≡ true → CutsAmong cs r (others given) → AreCutFrom (c ∷ cs) given (with_front m r)
front-are c cs given None r f h g k = tt
front-are c cs given (Some s) r f h g k = (grind arith, (h, k), tt)

fronts-are : (c : Column) (cs : List Column) (given : List (List Span)) (m : Option Span) (rs : List (List Span))
    → maybe_fits c.kind c.lo c.hi c.nullable m ≡ true → MaybeAmong c given m → AreCutFrom cs (others given) rs → AreCutFrom (c ∷ cs) given (with_fronts m rs)
fronts-are c cs given None rs f h k = tt
fronts-are c cs given (Some s) [] f h k = tt
fronts-are c cs given (Some s) (r ∷ rs) f h k = let g = k.0 in (grind arith, (h, k.1), fronts-are c cs given (Some s) rs f h k.2)

-- a column of numbers that is not empty
in_order : (c : Column) → in_column c (first_value c.kind c.lo) ≡ true → c.kind ≡ Numbers → int_le c.lo c.hi ≡ true
in_order c h is = let e = subst (λ k. in_kind k c.lo c.hi c.nullable (first_value k c.lo) ≡ true) is h in grind (arith, e)

pub rect_minus-are : (cs : List Column) (given : List (List Span)) (r q : List Span) → have_first cs ≡ true → rect_fits cs r ≡ true → rect_fits cs q ≡ true → CutsAmong cs r given → CutsAmong cs q given
    → AreCutFrom cs given (rect_minus cs r q)
rect_minus-are [] given r q d f g h k = tt
rect_minus-are (c ∷ cs) given [] q d f g h k = tt
rect_minus-are (c ∷ cs) given (s ∷ r) [] d f g h k = tt
rect_minus-are (c ∷ cs) given (s ∷ r) (t ∷ q) d f g h k =
    let fs : span_fits c s ≡ true = grind arith in let fr : rect_fits cs r ≡ true = grind arith in
    let gt : span_fits c t ≡ true = grind arith in let gq : rect_fits cs q ≡ true = grind arith in
    AreCutFrom-append (c ∷ cs) given (with_front (under c.lo s t) r) (above c s t r ++ with_fronts (meet s t) (rect_minus cs r q))
    (front-are c cs given (under c.lo s t) r (under-fits c.kind c.lo c.hi c.nullable s t fs gt) (λ v e. among_either c given s t v (under-cut c.kind c.lo c.hi c.nullable s t v fs e) (h.0 v) (k.0 v)) fr h.1)
    (AreCutFrom-append (c ∷ cs) given (above c s t r) (with_fronts (meet s t) (rect_minus cs r q))
    (AreCutFrom-append (c ∷ cs) given (with_front (over c.hi s t) r) (with_front (beyond_in c s t) r)
    (front-are c cs given (over c.hi s t) r (over-fits c.kind c.lo c.hi c.nullable s t fs gt) (λ v e. among_either c given s t v (over-cut c.kind c.lo c.hi c.nullable s t v fs e) (h.0 v) (k.0 v)) fr h.1)
    (front-are c cs given (beyond_in c s t) r (beyond-fits c.kind c.lo c.hi c.nullable s t (in_order c (grind arith)) fs gt)
    (λ v e. among_either c given s t v (beyond-cut c.kind c.lo c.hi c.nullable s t v gt e) (h.0 v) (k.0 v)) fr h.1))
    (fronts-are c cs given (meet s t) (rect_minus cs r q) (meet-fits c.kind c.lo c.hi c.nullable s t fs gt) (λ v e. among_either c given s t v (meet-cut c.kind c.lo c.hi c.nullable s t v e) (h.0 v) (k.0 v))
    (rect_minus-are cs (others given) r q (grind arith) fr gq h.1 k.1)))

pub minus_one-are : (cs : List Column) (given : List (List Span)) (r q : List Span) → have_first cs ≡ true → rect_fits cs r ≡ true → rect_fits cs q ≡ true → CutsAmong cs r given → CutsAmong cs q given
    → AreCutFrom cs given (minus_one cs r q)
minus_one-are cs given r q d f g h k = go (meets r q)
  where
    go : (b : Bool) → AreCutFrom cs given (if b then rect_minus cs r q else r ∷ [])
    go true = rect_minus-are cs given r q d f g h k
    go false = (f, h, tt)

pub minus_each-are : (cs : List Column) (given rs : List (List Span)) (q : List Span) → have_first cs ≡ true → AreCutFrom cs given rs → rect_fits cs q ≡ true → CutsAmong cs q given → AreCutFrom cs given (minus_each cs rs q)
minus_each-are cs given [] q d h g k = tt
minus_each-are cs given (r ∷ rs) q d h g k = AreCutFrom-append cs given (minus_one cs r q) (minus_each cs rs q) (minus_one-are cs given r q d h.0 g h.1 k) (minus_each-are cs given rs q d h.2 g k)

pub minus_all-are : (cs : List Column) (given rs qs : List (List Span)) → have_first cs ≡ true → AreCutFrom cs given rs → AreCutFrom cs given qs → AreCutFrom cs given (minus_all cs rs qs)
minus_all-are cs given rs [] d h k = h
minus_all-are cs given rs (q ∷ qs) d h k = minus_all-are cs given (minus_each cs rs q) qs d (minus_each-are cs given rs q d h k.0 k.1) k.2
