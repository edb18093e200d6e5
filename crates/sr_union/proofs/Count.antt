-- How many rects there can be: each has its low corner, a point of the grid.
use Rattle.std.proofs.Common.{◌≡◌, ℕ, true, false, List, [], ◌∷◌, ◌++◌, ◌+◌, ◌*◌, ◌≤◌, length, refl, arith, ◌∙◌, ap}
use Rattle.std.specs.Prelude.{Bool, ◌&&◌, ◌||◌, Some, None, if◌then◌else◌, Option, ℤ, pos, ◌+ℤ◌, int_le, int_lt}
use Rattle.std.specs.List.{list_any, list_all}
use Rattle.std.proofs.lemmas.List.{length-append}
use Rattle.std.proofs.lemmas.List.Folds.{list_all-append}
use Rattle.std.proofs.lemmas.Int.{ints}
use Rattle.sr_cell.specs.declared.cell.Cell.{Cell}
use Rattle.sr_cell.specs.declared.cell.Cell.TheVariants.{Num, Str, Null as NullCell}
use Rattle.sr_cell.specs.declared.table.Column.{Column}
use Rattle.sr_cell.specs.declared.table.Kind.{Kind}
use Rattle.sr_cell.specs.declared.table.Kind.TheVariants.{Num as Numbers, Str as Texts}
use Rattle.sr_box.specs.declared.span.Span.{Span}
use Rattle.sr_box.specs.declared.span.Span.TheVariants.{Full, Nums, Strs, Null}
use Rattle.sr_cell.specs.Cells.{cell_eq}
use Rattle.sr_cell.specs.Columns.{are_bytes, in_column, in_kind, is_point}
use Rattle.sr_cell.proofs.Order.{text_le-refl, cell_eq-sound, cell_eq-refl}
use Rattle.sr_box.specs.Spans.{in_span, end_bytes, fits_kind}
use Rattle.sr_box.specs.Points.{in_rect, rect_fits, times}
use Rattle.sr_box.specs.Corners.{cuts_of, end_cut, first_value, have_first, null_cut, num_cut, text_cut}
use Rattle.sr_union.proofs.Cuts.{cut-is, nums-cut}
use Rattle.sr_union.specs.Grid.{is_among, has_cut, first_cuts, others, distinct, grid, CutsAmong, AreCutFrom}

abbrev behind : Cell → List (List Cell) → List (List Cell)
behind v [] = []
behind v (p ∷ ps) = (v ∷ p) ∷ behind v ps

abbrev crossed : List Cell → List (List Cell) → List (List Cell)
crossed [] ps = []
crossed (v ∷ vs) ps = behind v ps ++ crossed vs ps

-- the first value of a column and its cuts
abbrev starts : Column → List (List Span) → List Cell
starts c given = first_value c.kind c.lo ∷ distinct (first_cuts c given)

abbrev pub corners : List Column → List (List Span) → List (List Cell)
corners [] given = [] ∷ []
corners (c ∷ cs) given = crossed (starts c given) (corners cs (others given))

length-behind : (v : Cell) (ps : List (List Cell)) → length (behind v ps) ≡ length ps
length-behind v [] = refl
length-behind v (p ∷ ps) = let ih = length-behind v ps in omega arith

length-crossed : (vs : List Cell) (ps : List (List Cell)) → length (crossed vs ps) ≡ length vs * length ps
length-crossed [] ps = grind arith
length-crossed (v ∷ vs) ps = let ih = length-crossed vs ps in let l = length-behind v ps in length-append (behind v ps) (crossed vs ps) ∙ grind (arith, ih, l)

pub length-corners : (cs : List Column) (given : List (List Span)) → length (corners cs given) ≡ grid cs given
length-corners [] given = refl
length-corners (c ∷ cs) given = length-crossed (starts c given) (corners cs (others given)) ∙ rw (length-corners cs (others given)) (grind arith)

-- how many of the points a rect has
abbrev held : List Span → List (List Cell) → ℕ
held r [] = 0
held r (p ∷ ps) = (if in_rect r p then 1 else 0) + held r ps

-- the same of all rects
abbrev total : List (List Span) → List (List Cell) → ℕ
total rs [] = 0
total rs (p ∷ ps) = times rs p + total rs ps

held-append : (r : List Span) (a b : List (List Cell)) → held r (a ++ b) ≡ held r a + held r b
held-append r [] b = omega arith
held-append r (p ∷ a) b = let ih = held-append r a b in omega (arith, ih)

held-behind : (s : Span) (r : List Span) (v : Cell) (ps : List (List Cell)) → in_span s v ≡ true → held (s ∷ r) (behind v ps) ≡ held r ps
held-behind s r v [] h = refl
held-behind s r v (p ∷ ps) h = let ih = held-behind s r v ps h in grind (arith, ih)

held-crossed : (s : Span) (r : List Span) (vs : List Cell) (ps : List (List Cell)) → list_any (in_span s) vs ≡ true → held r ps ≤ held (s ∷ r) (crossed vs ps)
held-crossed s r [] ps h = absurd (grind arith)
held-crossed s r (v ∷ vs) ps h = go (in_span s v) refl h (held-crossed s r vs ps)
  where
    go : (b : Bool) → in_span s v ≡ b → (b || list_any (in_span s) vs) ≡ true → (list_any (in_span s) vs ≡ true → held r ps ≤ held (s ∷ r) (crossed vs ps)) → held r ps ≤ held (s ∷ r) (behind v ps ++ crossed vs ps)
    go true e k ih = let x = held-append (s ∷ r) (behind v ps) (crossed vs ps) in let y = held-behind s r v ps e in omega (arith, x, y)
    go false e k ih = let x = held-append (s ∷ r) (behind v ps) (crossed vs ps) in let y = ih k in omega (arith, x, y)

among-cons : (u : Cell) (vs : List Cell) (w : Cell) → cell_eq u w ≡ true → is_among vs u ≡ is_among vs w
among-cons u vs w h = ap (is_among vs) (cell_eq-sound u w h)

pub distinct-among : (vs : List Cell) (w : Cell) → is_among (distinct vs) w ≡ is_among vs w
distinct-among [] w = refl
distinct-among (v ∷ vs) w = go (is_among vs v) refl (distinct-among vs w) (among-cons v vs w)
  where
    go : (b : Bool) → is_among vs v ≡ b → is_among (distinct vs) w ≡ is_among vs w → (cell_eq v w ≡ true → is_among vs v ≡ is_among vs w) → is_among (if b then distinct vs else v ∷ distinct vs) w ≡ (cell_eq v w || is_among vs w)
    go true e ih k = grind (arith, k)
    go false e ih k = grind arith

-- a span that has one of the values
among-has : (s : Span) (vs : List Cell) (w : Cell) → is_among vs w ≡ true → in_span s w ≡ true → list_any (in_span s) vs ≡ true
among-has s [] w h k = absurd (grind arith)
among-has s (v ∷ vs) w h k = go (cell_eq v w) refl h (among-has s vs w)
  where
    go : (b : Bool) → cell_eq v w ≡ b → (b || is_among vs w) ≡ true → (is_among vs w ≡ true → in_span s w ≡ true → list_any (in_span s) vs ≡ true) → (in_span s v || list_any (in_span s) vs) ≡ true
    go true e x ih = let z = ap (in_span s) (cell_eq-sound v w e) in grind arith
    go false e x ih = let z = ih x k in grind arith

-- each span has one of the starts
start-in : (k : Kind) (low high : ℤ) (n : Bool) (s : Span) (vs : List Cell) → fits_kind k low high n s ≡ true → ((v : Cell) → has_cut k low high n s v ≡ true → is_among vs v ≡ true)
    → list_any (in_span s) (first_value k low ∷ distinct vs) ≡ true
start-in k low high n Full vs f h = refl
start-in Numbers low high n (Nums lo hi) vs f h = go (int_lt low lo) refl (λ e. h (Num lo) (let x = nums-cut low high lo hi (Num lo) in let y = cut-is Numbers low high n (Nums lo hi) (Num lo) in grind (arith, x, y, e, cell_eq-refl (Num lo))))
  where
    go : (b : Bool) → int_lt low lo ≡ b → (int_lt low lo ≡ true → is_among vs (Num lo) ≡ true) → ((int_le lo low && int_le low hi) || list_any (in_span (Nums lo hi)) (distinct vs)) ≡ true
    go true e k = let x = k e in let y = among-has (Nums lo hi) (distinct vs) (Num lo) (distinct-among vs (Num lo) ∙ x) (grind (arith, ints)) in grind arith
    go false e k = grind (arith, ints)
start-in Texts low high n (Nums lo hi) vs f h = absurd (grind arith)
start-in Numbers low high n (Strs lo hi) vs f h = absurd (grind arith)
start-in Texts low high n (Strs [] hi) vs f h = grind arith
start-in Texts low high n (Strs (b ∷ lo) hi) vs f h =
    let y = cut-is Texts low high n (Strs (b ∷ lo) hi) (Str (b ∷ lo)) in
    let x = h (Str (b ∷ lo)) (grind (arith, y, cell_eq-refl (Str (b ∷ lo)))) in
    let z = among-has (Strs (b ∷ lo) hi) (distinct vs) (Str (b ∷ lo)) (distinct-among vs (Str (b ∷ lo)) ∙ x) (grind (arith, text_le-refl (b ∷ lo))) in grind arith
start-in k low high true Null vs f h =
    let x = h NullCell (null_cuts k) in let z = among-has Null (distinct vs) NullCell (distinct-among vs NullCell ∙ x) refl in grind (arith, z)
  where
    null_cuts : (k : Kind) → has_cut k low high true Null NullCell ≡ true
    null_cuts Numbers = refl
    null_cuts Texts = refl
start-in Numbers low high false Null vs f h = absurd (grind arith)
start-in Texts low high false Null vs f h = absurd (grind arith)

held-corners : (cs : List Column) (given : List (List Span)) (r : List Span) → rect_fits cs r ≡ true → CutsAmong cs r given → 1 ≤ held r (corners cs given)
held-corners [] given [] f h = omega arith
held-corners [] given (s ∷ r) f h = absurd (grind arith)
held-corners (c ∷ cs) given [] f h = absurd (grind arith)
held-corners (c ∷ cs) given (s ∷ r) f h =
    let ih = held-corners cs (others given) r (grind arith) h.1 in
    let x = held-crossed s r (starts c given) (corners cs (others given)) (start-in c.kind c.lo c.hi c.nullable s (first_cuts c given) (grind arith) h.0) in omega (arith, ih, x)

total-more : (r : List Span) (rs : List (List Span)) (ps : List (List Cell)) → total (r ∷ rs) ps ≡ held r ps + total rs ps
total-more r rs [] = refl
total-more r rs (p ∷ ps) = let ih = total-more r rs ps in omega (arith, ih)

length-total : (cs : List Column) (given rs : List (List Span)) → AreCutFrom cs given rs → length rs ≤ total rs (corners cs given)
length-total cs given [] h = omega arith
length-total cs given (r ∷ rs) h = let ih = length-total cs given rs h.2 in let x = held-corners cs given r h.0 h.1 in let y = total-more r rs (corners cs given) in omega (arith, ih, x, y)

total-le : (cs : List Column) (rs : List (List Span)) (m : ℕ) (ps : List (List Cell)) → list_all (is_point cs) ps ≡ true → ((p : List Cell) → is_point cs p ≡ true → times rs p ≤ m) → total rs ps ≤ m * length ps
total-le cs rs m [] a h = omega arith
total-le cs rs m (p ∷ ps) a h = let ih = total-le cs rs m ps (grind arith) h in let x = h p (grind arith) in grind (arith, ih, x)

-- the corners are points
behind-points : (c : Column) (cs : List Column) (v : Cell) (ps : List (List Cell)) → in_column c v ≡ true → list_all (is_point cs) ps ≡ true → list_all (is_point (c ∷ cs)) (behind v ps) ≡ true
behind-points c cs v [] h k = refl
behind-points c cs v (p ∷ ps) h k = let ih = behind-points c cs v ps h (grind arith) in grind (arith, ih)

crossed-points : (c : Column) (cs : List Column) (vs : List Cell) (ps : List (List Cell)) → list_all (in_column c) vs ≡ true → list_all (is_point cs) ps ≡ true → list_all (is_point (c ∷ cs)) (crossed vs ps) ≡ true
crossed-points c cs [] ps h k = refl
crossed-points c cs (v ∷ vs) ps h k =
    let ih = crossed-points c cs vs ps (grind arith) k in let x = behind-points c cs v ps (grind arith) k in
    list_all-append (is_point (c ∷ cs)) (behind v ps) (crossed vs ps) ∙ grind (arith, ih, x)

null_cuts-in : (k : Kind) (low high : ℤ) (n : Bool) → list_all (in_kind k low high n) (null_cut n) ≡ true
null_cuts-in k low high false = refl
null_cuts-in Numbers low high true = refl
null_cuts-in Texts low high true = refl

cuts-in : (k : Kind) (low high : ℤ) (n : Bool) (s : Span) → fits_kind k low high n s ≡ true → list_all (in_kind k low high n) (cuts_of k low high n s) ≡ true
cuts-in Numbers low high n Full f = refl
cuts-in Texts low high n Full f = refl
cuts-in Numbers low high n (Nums lo hi) f =
    let x = list_all-append (in_kind Numbers low high n) (null_cut n) (num_cut (int_lt low lo) lo ++ num_cut (int_lt hi high) (hi +ℤ pos 1)) in let y = null_cuts-in Numbers low high n in
    x ∙ rw y (numbers (int_lt low lo) refl (int_lt hi high) refl)
  where
    numbers : (a : Bool) → int_lt low lo ≡ a → (b : Bool) → int_lt hi high ≡ b → list_all (in_kind Numbers low high n) (num_cut a lo ++ num_cut b (hi +ℤ pos 1)) ≡ true
    numbers true d true e = grind (arith, ints)
    numbers true d false e = grind (arith, ints)
    numbers false d true e = grind (arith, ints)
    numbers false d false e = refl
cuts-in Texts low high n (Nums lo hi) f = refl
cuts-in Numbers low high n (Strs lo hi) f = refl
cuts-in Texts low high n (Strs lo hi) f =
    let x = list_all-append (in_kind Texts low high n) (null_cut n) (text_cut lo ++ end_cut hi) in let y = null_cuts-in Texts low high n in
    x ∙ rw y (texts lo hi (grind (arith, f)))
  where
    texts : (lo : List ℕ) (hi : Option (List ℕ)) → (are_bytes lo && end_bytes hi) ≡ true → list_all (in_kind Texts low high n) (text_cut lo ++ end_cut hi) ≡ true
    texts [] None e = refl
    texts [] (Some hi) e = grind arith
    texts (b ∷ lo) None e = grind arith
    texts (b ∷ lo) (Some hi) e = grind arith
cuts-in Numbers low high n Null f = null_cuts-in Numbers low high n
cuts-in Texts low high n Null f = null_cuts-in Texts low high n

first_cuts-in : (c : Column) (cs : List Column) (given : List (List Span)) → list_all (rect_fits (c ∷ cs)) given ≡ true → list_all (in_column c) (first_cuts c given) ≡ true
first_cuts-in c cs [] f = refl
first_cuts-in c cs ([] ∷ given) f = absurd (grind arith)
first_cuts-in c cs ((s ∷ r) ∷ given) f = let ih = first_cuts-in c cs given (grind arith) in let x = cuts-in c.kind c.lo c.hi c.nullable s (grind arith) in
    list_all-append (in_column c) (cuts_of c.kind c.lo c.hi c.nullable s) (first_cuts c given) ∙ grind (arith, ih, x)

others-fit : (c : Column) (cs : List Column) (given : List (List Span)) → list_all (rect_fits (c ∷ cs)) given ≡ true → list_all (rect_fits cs) (others given) ≡ true
others-fit c cs [] f = refl
others-fit c cs ([] ∷ given) f = absurd (grind arith)
others-fit c cs ((s ∷ r) ∷ given) f = let ih = others-fit c cs given (grind arith) in grind (arith, ih)

distinct-all : (t : Cell → Bool) (vs : List Cell) → list_all t vs ≡ true → list_all t (distinct vs) ≡ true
distinct-all t [] h = refl
distinct-all t (v ∷ vs) h = go (is_among vs v) (distinct-all t vs (grind arith))
  where
    go : (b : Bool) → list_all t (distinct vs) ≡ true → list_all t (if b then distinct vs else v ∷ distinct vs) ≡ true
    go true ih = ih
    go false ih = grind arith

corners-points : (cs : List Column) (given : List (List Span)) → have_first cs ≡ true → list_all (rect_fits cs) given ≡ true → list_all (is_point cs) (corners cs given) ≡ true
corners-points [] given d f = refl
corners-points (c ∷ cs) given d f =
    let x = distinct-all (in_column c) (first_cuts c given) (first_cuts-in c cs given f) in
    crossed-points c cs (starts c given) (corners cs (others given)) (grind (arith, x)) (corners-points cs (others given) (grind arith) (others-fit c cs given f))

-- rects whose cuts are given, of which at most m have one point, are at most m times the grid
pub length-grid : (cs : List Column) (given rs : List (List Span)) (m : ℕ) → have_first cs ≡ true → list_all (rect_fits cs) given ≡ true → AreCutFrom cs given rs
    → ((p : List Cell) → is_point cs p ≡ true → times rs p ≤ m) → length rs ≤ m * grid cs given
length-grid cs given rs m d f a h =
    let x = length-total cs given rs a in let y = total-le cs rs m (corners cs given) (corners-points cs given d f) h in let z = length-corners cs given in grind (arith, x, y, z)
