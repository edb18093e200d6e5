-- A row less, and a row in the place of another.
use Rattle.std.proofs.Common.{◌≡◌, ℕ, Bool, true, false, cond, not, List, [], ◌∷◌, refl, sym, ap, subst, ◌∙◌, arith}
use Rattle.std.specs.Prelude.{Some, None, if◌then◌else◌}
use Rattle.std.specs.declared.cmp.Ordering.TheVariants.{Less}
use Rattle.std.specs.List.{list_all, AllByRecursion}
use Rattle.std.specs.List.Sorted.{IsStrictlySortedBy}
use Rattle.std.specs.Map.{lookup, set_value, remove_entry, keys_of, values_of}
use Rattle.std.specs.BTreeMap.{is_at}
use Rattle.std.proofs.lemmas.Map.Keys.{sorted_head, sorted_tail}
use Rattle.sr_cell.specs.declared.cell.Cell.{Cell}
use Rattle.sr_cell.specs.declared.table.Kind.{Kind}
use Rattle.sr_cell.specs.Cells.{Row, cell_at, cell_eq}
use Rattle.sr_cell.proofs.Order.{cell_le-trans, cell_eq-sound}
use Rattle.sr_keyed.specs.Keyed.{is_of, with_replaced}
use Rattle.sr_rows.specs.Keys.{without_key}
use Rattle.sr_keyed.specs.Entries.{AreKeyed}
use Rattle.sr_keyed.proofs.Order.{order, order-eq}
use Rattle.sr_keyed.proofs.Entries.{here, before}

-- no row has the key
abbrev pub none_has : ℕ → Cell → List Row → Bool
none_has key v rows = list_all (λ r. not (cell_eq (cell_at r key) v)) rows

above : (kind : Kind) (a b v : Cell) → is_of kind a ≡ true → is_of kind b ≡ true → order a b ≡ Less → cell_eq a v ≡ true → cell_eq b v ≡ false
above kind a b v h k less same =
    let lt = before kind a b h k less in
    let t = cell_le-trans b v a in
    grind (arith, lt, t)

-- the entries behind the one at the key
behind : (key : ℕ) (kind : Kind) (v a : Cell) (es : List (Cell × Row)) → is_of kind a ≡ true → cell_eq a v ≡ true → AreKeyed key kind es
    → AllByRecursion (λ b. order a b ≡ Less) (keys_of es) → none_has key v (values_of es) ≡ true
behind key kind v a [] h same k less = refl
behind key kind v a (e ∷ es) h same k less =
    let one : cell_eq (cell_at e.1 key) v ≡ false = subst (λ b. cell_eq b v ≡ false) k.0 (above kind a e.0 v h k.1 less.0 same) in
    let ih = behind key kind v a es h same k.2 less.1 in
    grind (arith, one, ih)

without-none : (key : ℕ) (v : Cell) (rows : List Row) → none_has key v rows ≡ true → rows ≡ without_key key v rows
without-none key v [] none = refl
without-none key v (r ∷ rows) none =
    let one : not (cell_eq (cell_at r key) v) ≡ true = grind arith in
    rw one (ap (λ rest. r ∷ rest) (without-none key v rows (grind arith)))

replaced-none : (key : ℕ) (row : Row) (rows : List Row) → none_has key (cell_at row key) rows ≡ true → rows ≡ with_replaced key row rows
replaced-none key row [] none = refl
replaced-none key row (r ∷ rows) none =
    let one : cell_eq (cell_at r key) (cell_at row key) ≡ false = grind arith in
    rw one (ap (λ rest. r ∷ rest) (replaced-none key row rows (grind arith)))

pub remove-row : (key : ℕ) (kind : Kind) (v : Cell) (es : List (Cell × Row)) → AreKeyed key kind es → IsStrictlySortedBy order (keys_of es)
    → values_of (remove_entry (is_at (order v)) es) ≡ without_key key v (values_of es)
remove-row key kind v [] h s = refl
remove-row key kind v (e ∷ es) h s =
    ap (λ b. values_of (cond b es (e ∷ remove_entry (is_at (order v)) es))) (here key v e h.0)
    ∙ go (cell_eq (cell_at e.1 key) v) refl (remove-row key kind v es h.2 (sorted_tail order e.0 (keys_of es) s))
  where
    go : (b : Bool) → cell_eq (cell_at e.1 key) v ≡ b → values_of (remove_entry (is_at (order v)) es) ≡ without_key key v (values_of es)
        → values_of (cond b es (e ∷ remove_entry (is_at (order v)) es)) ≡ cond (not b) (e.1 ∷ without_key key v (values_of es)) (without_key key v (values_of es))
    go true is ih = without-none key v (values_of es) (behind key kind v e.0 es h.1 (subst (λ a. cell_eq a v ≡ true) (sym h.0) is) h.2 (sorted_head order e.0 (keys_of es) s))
    go false is ih = ap (λ rows. e.1 ∷ rows) ih

pub remove-keyed : (key : ℕ) (kind : Kind) (v : Cell) (es : List (Cell × Row)) → AreKeyed key kind es → AreKeyed key kind (remove_entry (is_at (order v)) es)
remove-keyed key kind v [] h = tt
remove-keyed key kind v (e ∷ es) h = go (is_at (order v) e.0) (remove-keyed key kind v es h.2)
  where
    go : (b : Bool) → AreKeyed key kind (remove_entry (is_at (order v)) es) → AreKeyed key kind (cond b es (e ∷ remove_entry (is_at (order v)) es))
    go true ih = h.2
    go false ih = (h.0, h.1, ih)

pub replace-row : (key : ℕ) (kind : Kind) (row : Row) (es : List (Cell × Row)) → AreKeyed key kind es → IsStrictlySortedBy order (keys_of es)
    → values_of (set_value (is_at (order (cell_at row key))) es row) ≡ with_replaced key row (values_of es)
replace-row key kind row [] h s = refl
replace-row key kind row (e ∷ es) h s =
    ap (λ b. values_of (cond b ((e.0, row) ∷ es) (e ∷ set_value (is_at (order (cell_at row key))) es row))) (here key (cell_at row key) e h.0)
    ∙ go (cell_eq (cell_at e.1 key) (cell_at row key)) refl (replace-row key kind row es h.2 (sorted_tail order e.0 (keys_of es) s))
  where
    go : (b : Bool) → cell_eq (cell_at e.1 key) (cell_at row key) ≡ b → values_of (set_value (is_at (order (cell_at row key))) es row) ≡ with_replaced key row (values_of es)
        → values_of (cond b ((e.0, row) ∷ es) (e ∷ set_value (is_at (order (cell_at row key))) es row)) ≡ (if b then row else e.1) ∷ with_replaced key row (values_of es)
    go true is ih = ap (λ rows. row ∷ rows) (replaced-none key row (values_of es)
        (behind key kind (cell_at row key) e.0 es h.1 (subst (λ a. cell_eq a (cell_at row key) ≡ true) (sym h.0) is) h.2 (sorted_head order e.0 (keys_of es) s)))
    go false is ih = ap (λ rows. e.1 ∷ rows) ih

pub replace-keyed : (key : ℕ) (kind : Kind) (row : Row) (es : List (Cell × Row)) → AreKeyed key kind es → AreKeyed key kind (set_value (is_at (order (cell_at row key))) es row)
replace-keyed key kind row [] h = tt
replace-keyed key kind row (e ∷ es) h = go (is_at (order (cell_at row key)) e.0) refl (replace-keyed key kind row es h.2)
  where
    go : (b : Bool) → is_at (order (cell_at row key)) e.0 ≡ b → AreKeyed key kind (set_value (is_at (order (cell_at row key))) es row)
        → AreKeyed key kind (cond b ((e.0, row) ∷ es) (e ∷ set_value (is_at (order (cell_at row key))) es row))
    go true is ih = (cell_eq-sound e.0 (cell_at row key) (sym (order-eq (cell_at row key) e.0) ∙ is), h.1, h.2)
    go false is ih = (h.0, h.1, ih)

-- nothing is written where the key is absent
pub set_value-none : (test : Cell → Bool) (es : List (Cell × Row)) (row : Row) → lookup test es ≡ None → es ≡ set_value test es row
set_value-none test [] row none = refl
set_value-none test (e ∷ es) row none = go (test e.0) none (set_value-none test es row)
  where
    go : (b : Bool) → cond b (Some e.1) (lookup test es) ≡ None → (lookup test es ≡ None → es ≡ set_value test es row)
        → e ∷ es ≡ cond b ((e.0, row) ∷ es) (e ∷ set_value test es row)
    go true is ih = absurd (cc)
    go false is ih = ap (λ rest. e ∷ rest) (ih is)
