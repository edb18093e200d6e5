-- The rows at the keys are those that pass.
use Rattle.std.proofs.Common.{◌≡◌, ℕ, Bool, true, false, ◌||◌, ◌++◌, List, [], ◌∷◌, refl, sym, ap, subst, ◌∙◌}
use Rattle.std.specs.Prelude.{Option, Some, None, Result, Ok, Err, IfOk, IfSome, filter, cond, ⊤}
use Rattle.std.specs.Result.{result_ok}
use Rattle.std.specs.declared.cmp.Ordering.{Ordering}
use Rattle.std.specs.declared.cmp.Ordering.TheVariants.{Less, Equal, Greater}
use Rattle.std.specs.Ordering.{is_eq, ordering_reverse}
use Rattle.std.specs.List.{list_all, list_any, AllByRecursion}
use Rattle.std.specs.List.Sorted.{IsStrictlySortedBy}
use Rattle.std.specs.Cmp.{IsTotalOrder, first_so, second_so}
use Rattle.std.specs.Map.{lookup, keys_of, values_of}
use Rattle.std.specs.BTreeMap.{is_at}
use Rattle.std.proofs.lemmas.Map.Keys.{sorted_head, sorted_tail}
use Rattle.sr_cell.specs.declared.cell.Cell.{Cell}
use Rattle.sr_cell.specs.declared.table.Kind.{Kind}
use Rattle.sr_cell.specs.contracts.cell.CellOrd.TheImpl.Laws as cell_laws
use Rattle.sr_cell.specs.Cells.{Row, cell_at}
use Rattle.sr_keyed.specs.Entries.{AreKeyed}
use Rattle.sr_keyed.specs.Places.{if_passes, rows_at}
use Rattle.sr_keyed.proofs.Order.{order}

total : IsTotalOrder order
total = cell_laws.total-law

-- all are above a key
abbrev Above : Cell → List Cell → Type 0
Above k ks = AllByRecursion (λ l. order k l ≡ Less) ks

-- each entry that passes has its key among the keys
abbrev pub AreMet : (Row → Bool) → List Cell → List (Cell × Row) → Type 0
AreMet p ks [] = ⊤
AreMet p ks (e ∷ es) = (p e.1 ≡ true → list_any (is_at (order e.0)) ks ≡ true) × AreMet p ks es

above-next : (k l : Cell) (ks : List Cell) → order k l ≡ Less → Above l ks → Above k ks
above-next k l [] less above = tt
above-next k l (m ∷ ks) less above = (total.trans k l m less above.0, above-next k l ks less above.1)

above-same : (k l : Cell) (ks : List Cell) → order k l ≡ Equal → Above k ks → Above l ks
above-same k l [] same above = tt
above-same k l (m ∷ ks) same above = (sym (total.congr k l m same) ∙ above.0, above-same k l ks same above.1)

behind : (k l : Cell) → order k l ≡ Less → is_eq (order l k) ≡ false
behind k l less = ap is_eq (total.antisymm l k ∙ ap ordering_reverse less)

lookup-below : (k : Cell) (es : List (Cell × Row)) → Above k (keys_of es) → lookup (is_at (order k)) es ≡ None
lookup-below k [] above = refl
lookup-below k (e ∷ es) above = rw above.0 (lookup-below k es above.1)

among-above : (k : Cell) (ks : List Cell) → Above k ks → list_any (is_at (order k)) ks ≡ false
among-above k [] above = refl
among-above k (l ∷ ks) above = rw above.0 (among-above k ks above.1)

-- the first entry is at none of the keys
rows_at-above : (p : Row → Bool) (e : Cell × Row) (es : List (Cell × Row)) (ks : List Cell) → Above e.0 ks → rows_at order p (e ∷ es) ks ≡ rows_at order p es ks
rows_at-above p e es [] above = refl
rows_at-above p e es (k ∷ ks) above =
    let apart : is_at (order k) e.0 ≡ false = behind e.0 k above.0 in
    rw apart (ap (λ rows. if_passes p (lookup (is_at (order k)) es) ++ rows) (rows_at-above p e es ks above.1))

rows_at-none : (p : Row → Bool) (ks : List Cell) → rows_at order p [] ks ≡ []
rows_at-none p [] = refl
rows_at-none p (k ∷ ks) = rows_at-none p ks

-- a key that is below all entries meets none
without-first : (p : Row → Bool) (k : Cell) (ks : List Cell) (es : List (Cell × Row)) → Above k (keys_of es) → AreMet p (k ∷ ks) es → AreMet p ks es
without-first p k ks [] above met = tt
without-first p k ks (e ∷ es) above met =
    (λ passes. subst (λ b. (b || list_any (is_at (order e.0)) ks) ≡ true) (behind k e.0 above.0) (met.0 passes), without-first p k ks es above.1 met.1)

passed : (p : Row → Bool) (row : Row) (rows : List Row) → if_passes p (Some row) ++ filter p rows ≡ filter p (row ∷ rows)
passed p row rows = go (p row)
  where
    go : (b : Bool) → cond b (row ∷ []) [] ++ filter p rows ≡ cond b (row ∷ filter p rows) (filter p rows)
    go true = refl
    go false = refl

not-passed : (p : Row → Bool) (row : Row) (rows : List Row) → (p row ≡ true → false ≡ true) → filter p rows ≡ filter p (row ∷ rows)
not-passed p row rows fails = go (p row) fails
  where
    go : (b : Bool) → (b ≡ true → false ≡ true) → filter p rows ≡ cond b (row ∷ filter p rows) (filter p rows)
    go true fails = let no = fails refl in absurd (cc)
    go false fails = refl

-- the keys meet those of the entries that pass
abbrev AreFound : (Row → Bool) → List (Cell × Row) → Type 0
AreFound p es = (ks : List Cell) → IsStrictlySortedBy order ks → AreMet p ks es → rows_at order p es ks ≡ filter p (values_of es)

found-next : (p : Row → Bool) (e : Cell × Row) (es : List (Cell × Row)) → Above e.0 (keys_of es) → AreFound p es → AreFound p (e ∷ es)
found-next p e es above rest [] sorted met = rest [] sorted met.1 ∙ not-passed p e.1 (values_of es) met.0
found-next p e es above rest (k ∷ ks) sorted met = by (order k e.0) refl (found-next p e es above rest ks)
  where
    by : (o : Ordering) → order k e.0 ≡ o → (IsStrictlySortedBy order ks → AreMet p ks (e ∷ es) → rows_at order p (e ∷ es) ks ≡ filter p (values_of (e ∷ es)))
        → rows_at order p (e ∷ es) (k ∷ ks) ≡ filter p (values_of (e ∷ es))
    by Less is again =
        let below : Above k (keys_of (e ∷ es)) = (is, above-next k e.0 (keys_of es) is above) in
        ap (λ o. if_passes p o ++ rows_at order p (e ∷ es) ks) (lookup-below k (e ∷ es) below) ∙ again (sorted_tail order k ks sorted) (without-first p k ks (e ∷ es) below met)
    by Equal is again =
        let on : Above k (keys_of es) = above-same e.0 k (keys_of es) (total.antisymm e.0 k ∙ ap ordering_reverse is) above in
        ap (λ b. if_passes p (cond b (Some e.1) (lookup (is_at (order k)) es)) ++ rows_at order p (e ∷ es) ks) (ap is_eq is)
        ∙ ap (λ rows. if_passes p (Some e.1) ++ rows)
        (rows_at-above p e es ks (above-same k e.0 ks is (sorted_head order k ks sorted)) ∙ rest ks (sorted_tail order k ks sorted) (without-first p k ks es on met.1))
        ∙ passed p e.1 (values_of es)
    by Greater is again =
        let less : order e.0 k ≡ Less = total.antisymm e.0 k ∙ ap ordering_reverse is in
        let all : Above e.0 (k ∷ ks) = (less, above-next e.0 k ks less (sorted_head order k ks sorted)) in
        rows_at-above p e es (k ∷ ks) all ∙ rest (k ∷ ks) sorted met.1
        ∙ not-passed p e.1 (values_of es) (λ passes. sym (among-above e.0 (k ∷ ks) all) ∙ met.0 passes)

pub rows-found : (p : Row → Bool) (es : List (Cell × Row)) (ks : List Cell) → IsStrictlySortedBy order (keys_of es) → IsStrictlySortedBy order ks → AreMet p ks es
    → rows_at order p es ks ≡ filter p (values_of es)
rows-found p [] ks up sorted met = rows_at-none p ks
rows-found p (e ∷ es) ks up sorted met =
    found-next p e es (sorted_head order e.0 (keys_of es) up) (λ ls s m. rows-found p es ls (sorted_tail order e.0 (keys_of es) up) s m) ks sorted met

-- rows that hold a fact, and pass, have their keys among the keys
pub all-met : (holds p : Row → Bool) (key : ℕ) (kind : Kind) (ks : List Cell) (es : List (Cell × Row)) → AreKeyed key kind es → list_all holds (values_of es) ≡ true
    → ((row : Row) → holds row ≡ true → p row ≡ true → list_any (is_at (order (cell_at row key))) ks ≡ true) → AreMet p ks es
all-met holds p key kind ks [] keyed all meets = tt
all-met holds p key kind ks (e ∷ es) keyed all meets = (
  λ passes. subst (λ v. list_any (is_at (order v)) ks ≡ true) (sym keyed.0) (meets e.1 (first_so (holds e.1) (list_all holds (values_of es)) all) passes),
  all-met holds p key kind ks es keyed.2 (second_so (holds e.1) (list_all holds (values_of es)) all) meets,
)

-- what a result shows, its value without the error shows
pub IfSome-from_ok : {T E : Type 0} (o : Option T) (r : Result T E) (P Q : T → Type 0) → o ≡ result_ok r → ((x : T) → P x → Q x) → IfOk r P → IfSome o Q
IfSome-from_ok o (Ok x) P Q is more h = subst (λ o. IfSome o Q) (sym is) (more x h)
IfSome-from_ok o (Err e) P Q is more h = subst (λ o. IfSome o Q) (sym is) tt
