-- The order of cells, and of the lists of cells that group rows.
use Rattle.std.proofs.Common.{◌≡◌, [], ◌∷◌, Some, None, refl, ap, ◌∙◌}
use Rattle.std.specs.Prelude.{Option}
use Rattle.std.specs.declared.cmp.Ordering.{Ordering}
use Rattle.std.specs.declared.cmp.Ordering.TheVariants.{Less, Equal, Greater}
use Rattle.std.specs.Ordering.{ordering_then, ordering_reverse}
use Rattle.std.specs.Cmp.{IsTotalOrder}
use Rattle.std.specs.Option.{option_cmp}
use Rattle.std.specs.Cmp.Lexicographic.{slice_cmp, lists_total, options_total}
use Rattle.std.proofs.lemmas.Cmp.{nat_list_cmp_total, int_cmp_total}
use Rattle.std.proofs.lemmas.Map.Lookups.{CmpEqualImpliesEq, exact_bytes, exact_signed}
use Rattle.sr_cell.specs.declared.cell.Cell.{Cell}
use Rattle.sr_cell.specs.declared.cell.Cell.TheVariants.{Num, Str, Null}
use Rattle.sr_cell.specs.contracts.cell.CellOrd.TheImpl as cell_ord
use Rattle.sr_agg.specs.Groups.{Key, cell_order, key_order}

-- the order that cells have in maps
abbrev pub own_order : Cell → Cell → Ordering
own_order = (cell_ord.ghosts).cmp

pub own-same : (a b : Cell) → own_order a b ≡ cell_order a b
own-same (Num a) (Num b) = refl
own-same (Num a) (Str t) = refl
own-same (Str s) (Num b) = refl
own-same (Str s) (Str t) = refl
own-same (Num a) Null = refl
own-same (Str s) Null = refl
own-same Null (Num b) = refl
own-same Null (Str t) = refl
own-same Null Null = refl

-- and those of a key
abbrev pub order : Option Cell → Option Cell → Ordering
order = option_cmp own_order

pub order-same : (a b : Option Cell) → order a b ≡ option_cmp cell_order a b
order-same None None = refl
order-same None (Some b) = refl
order-same (Some a) None = refl
order-same (Some a) (Some b) = own-same a b

pub keys-same : (k l : Key) → slice_cmp order k l ≡ key_order k l
keys-same [] [] = refl
keys-same [] (w ∷ l) = refl
keys-same (v ∷ k) [] = refl
keys-same (v ∷ k) (w ∷ l) =
    ap (λ o. ordering_then o (slice_cmp order k l)) (order-same v w) ∙ ap (ordering_then (option_cmp cell_order v w)) (keys-same k l)

-- ---- laws

antisymm : (a b : Cell) → cell_order a b ≡ ordering_reverse (cell_order b a)
antisymm (Num a) (Num b) = int_cmp_total.antisymm a b
antisymm (Num a) (Str t) = refl
antisymm (Str s) (Num b) = refl
antisymm (Str s) (Str t) = nat_list_cmp_total.antisymm s t
antisymm (Num a) Null = refl
antisymm (Str s) Null = refl
antisymm Null (Num b) = refl
antisymm Null (Str t) = refl
antisymm Null Null = refl

-- nothing is above NULL
no-above : (c : Cell) → cell_order Null c ≡ Less → ⊥
no-above (Num n) h = cc
no-above (Str s) h = cc
no-above Null h = cc

trans : (a b c : Cell) → cell_order a b ≡ Less → cell_order b c ≡ Less → cell_order a c ≡ Less
trans (Num a) (Num b) (Num c) h k = int_cmp_total.trans a b c h k
trans (Num a) b (Str c) h k = refl
trans (Num a) (Str b) (Num c) h k = absurd cc
trans (Str a) (Num b) c h k = absurd cc
trans (Str a) (Str b) (Num c) h k = absurd cc
trans (Str a) (Str b) (Str c) h k = nat_list_cmp_total.trans a b c h k
trans (Num a) b Null h k = refl
trans (Str a) b Null h k = refl
trans (Num a) Null c h k = absurd (no-above c k)
trans (Str a) Null c h k = absurd (no-above c k)
trans Null b c h k = absurd (no-above b h)

congr : (a b c : Cell) → cell_order a b ≡ Equal → cell_order a c ≡ cell_order b c
congr (Num a) (Num b) (Num c) h = int_cmp_total.congr a b c h
congr (Num a) (Num b) (Str c) h = refl
congr (Num a) (Str b) c h = absurd cc
congr (Str a) (Num b) c h = absurd cc
congr (Str a) (Str b) (Num c) h = refl
congr (Str a) (Str b) (Str c) h = nat_list_cmp_total.congr a b c h
congr (Num a) (Num b) Null h = refl
congr (Str a) (Str b) Null h = refl
congr (Num a) Null c h = absurd cc
congr (Str a) Null c h = absurd cc
congr Null (Num b) c h = absurd cc
congr Null (Str b) c h = absurd cc
congr Null Null c h = refl

pub cell-total : IsTotalOrder cell_order
cell-total = record { antisymm = antisymm; trans = trans; congr = congr }

pub row-total : IsTotalOrder (slice_cmp cell_order)
row-total = lists_total cell-total

pub key-total : IsTotalOrder key_order
key-total = lists_total (options_total cell-total)

pub cell-exact : CmpEqualImpliesEq cell_order
cell-exact (Num a) (Num b) h = ap Num (exact_signed a b h)
cell-exact (Num a) (Str b) h = absurd cc
cell-exact (Str a) (Num b) h = absurd cc
cell-exact (Str a) (Str b) h = ap Str (exact_bytes a b h)
cell-exact (Num a) Null h = absurd cc
cell-exact (Str a) Null h = absurd cc
cell-exact Null (Num b) h = absurd cc
cell-exact Null (Str b) h = absurd cc
cell-exact Null Null h = refl

option-exact : CmpEqualImpliesEq (option_cmp cell_order)
option-exact None None h = refl
option-exact None (Some b) h = absurd cc
option-exact (Some a) None h = absurd cc
option-exact (Some a) (Some b) h = ap Some (cell-exact a b h)

lists-exact : {K : Type 0} (R : K → K → Ordering) → CmpEqualImpliesEq R → CmpEqualImpliesEq (slice_cmp R)
lists-exact R exact [] [] h = refl
lists-exact R exact [] (w ∷ l) h = absurd cc
lists-exact R exact (v ∷ k) [] h = absurd cc
lists-exact R exact (v ∷ k) (w ∷ l) h = by (R v w) refl h (lists-exact R exact k l)
  where
    by : (o : Ordering) → R v w ≡ o → ordering_then o (slice_cmp R k l) ≡ Equal → (slice_cmp R k l ≡ Equal → k ≡ l) → (v ∷ k) ≡ (w ∷ l)
    by Less e h ih = absurd cc
    by Equal e h ih = let a = exact v w e in let b = ih h in rw (a, b) refl
    by Greater e h ih = absurd cc

pub row-exact : CmpEqualImpliesEq (slice_cmp cell_order)
row-exact = lists-exact cell_order cell-exact

pub key-exact : CmpEqualImpliesEq key_order
key-exact = lists-exact (option_cmp cell_order) option-exact

-- ---- any total order

module _ {K : Type 0} {R : K → K → Ordering} (o : IsTotalOrder R) where
  pub level : (x : K) → R x x ≡ Equal
  level x = by (R x x) refl (o.antisymm x x)
    where
      by : (p : Ordering) → R x x ≡ p → R x x ≡ ordering_reverse (R x x) → R x x ≡ Equal
      by Less e h = let k : Less ≡ Greater = rw e at h in absurd cc
      by Equal e h = e
      by Greater e h = let k : Greater ≡ Less = rw e at h in absurd cc

  pub above : (x y : K) → R x y ≡ Less → R y x ≡ Greater
  above x y h = o.antisymm y x ∙ ap ordering_reverse h

  pub below : (x y : K) → R x y ≡ Greater → R y x ≡ Less
  below x y h = o.antisymm y x ∙ ap ordering_reverse h

  pub alike : (x y : K) → R x y ≡ Equal → R y x ≡ Equal
  alike x y h = o.antisymm y x ∙ ap ordering_reverse h

  pub gt-trans : (x y z : K) → R x y ≡ Greater → R y z ≡ Greater → R x z ≡ Greater
  gt-trans x y z h k = above z x (o.trans z y x (below y z k) (below x y h))
