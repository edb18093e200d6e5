-- Entries by key, as rows by key.
use Rattle.std.proofs.Common.{◌≡◌, ℕ, Bool, true, false, cond, not, ◌&&◌, ◌||◌, List, [], ◌∷◌, refl, sym, ap, subst, ◌∙◌, arith}
use Rattle.std.specs.Prelude.{Some, Result, Ok, Err, OnOk, OnErr, is_some, if◌then◌else◌}
use Rattle.std.specs.declared.cmp.Ordering.{Ordering}
use Rattle.std.specs.declared.cmp.Ordering.TheVariants.{Less, Equal, Greater}
use Rattle.std.specs.Ordering.{match_ordering, is_le, is_lt, is_eq}
use Rattle.std.specs.List.Sorted.{IsStrictlySortedBy}
use Rattle.std.specs.Map.{lookup, keys_of, values_of}
use Rattle.std.specs.BTreeMap.{insert_entry, is_at}
use Rattle.std.proofs.lemmas.Map.Keys.{sorted_head, sorted_tail}
use Rattle.sr_cell.specs.declared.cell.Cell.{Cell}
use Rattle.sr_cell.specs.declared.table.Kind.{Kind}
use Rattle.sr_cell.specs.Cells.{Row, cell_at, cell_le, cell_eq}
use Rattle.sr_model.specs.SortedRows.{ascend, has_key, with_row, key_lt}
use Rattle.sr_model.specs.Changes.{row_with}
use Rattle.sr_keyed.specs.Keyed.{is_of}
use Rattle.sr_keyed.specs.Entries.{AreKeyed}
use Rattle.sr_keyed.proofs.Order.{order, order-eq, order-le, order-lt}

-- what both outcomes show
pub either_way : {A E : Type 0} {P Q G : Type 0} (r : Result A E) → OnOk r P → OnErr r Q → (P → G) → (Q → G) → G
either_way (Ok x) p q f g = f p
either_way (Err x) p q f g = g q

pub here : (key : ℕ) (v : Cell) (e : Cell × Row) → e.0 ≡ cell_at e.1 key → is_at (order v) e.0 ≡ cell_eq (cell_at e.1 key) v
here key v e h = order-eq v e.0 ∙ ap (λ k. cell_eq k v) h

pub lookup-row : (key : ℕ) (kind : Kind) (v : Cell) (es : List (Cell × Row)) → AreKeyed key kind es
    → lookup (is_at (order v)) es ≡ row_with key v (values_of es)
lookup-row key kind v [] h = refl
lookup-row key kind v (e ∷ es) h =
    ap (λ b. cond b (Some e.1) (lookup (is_at (order v)) es)) (here key v e h.0)
    ∙ ap (λ o. cond (cell_eq (cell_at e.1 key) v) (Some e.1) o) (lookup-row key kind v es h.2)

pub has-row : (key : ℕ) (kind : Kind) (v : Cell) (es : List (Cell × Row)) → AreKeyed key kind es
    → is_some (lookup (is_at (order v)) es) ≡ has_key key v (values_of es)
has-row key kind v [] h = refl
has-row key kind v (e ∷ es) h =
    ap (λ b. is_some (cond b (Some e.1) (lookup (is_at (order v)) es))) (here key v e h.0)
    ∙ go (cell_eq (cell_at e.1 key) v) (has-row key kind v es h.2)
  where
    go : (b : Bool) → is_some (lookup (is_at (order v)) es) ≡ has_key key v (values_of es)
        → is_some (cond b (Some e.1) (lookup (is_at (order v)) es)) ≡ (b || has_key key v (values_of es))
    go true ih = refl
    go false ih = ih

-- a row that is found has the key
pub lookup-key : (key : ℕ) (kind : Kind) (v : Cell) (row : Row) (es : List (Cell × Row)) → AreKeyed key kind es → lookup (is_at (order v)) es ≡ Some row → cell_eq (cell_at row key) v ≡ true
lookup-key key kind v row [] h is = absurd (cc)
lookup-key key kind v row (e ∷ es) h is = go (is_at (order v) e.0) (here key v e h.0) is (lookup-key key kind v row es h.2)
  where
    go : (b : Bool) → b ≡ cell_eq (cell_at e.1 key) v → cond b (Some e.1) (lookup (is_at (order v)) es) ≡ Some row
        → (lookup (is_at (order v)) es ≡ Some row → cell_eq (cell_at row key) v ≡ true) → cell_eq (cell_at row key) v ≡ true
    go true at is ih = let same : e.1 ≡ row = cc in subst (λ r. cell_eq (cell_at r key) v ≡ true) same (sym at)
    go false at is ih = ih is

pub before : (kind : Kind) (a b : Cell) → is_of kind a ≡ true → is_of kind b ≡ true → order a b ≡ Less → (cell_le a b && not (cell_le b a)) ≡ true
before kind a b h k less =
    let le : true ≡ cell_le a b = ap is_le (sym less) ∙ order-le kind a b h k in
    let lt : true ≡ not (cell_le b a) = ap is_lt (sym less) ∙ order-lt kind a b h k in
    grind (arith, le, lt)

pub sorted-ascend : (key : ℕ) (kind : Kind) (es : List (Cell × Row)) → AreKeyed key kind es → IsStrictlySortedBy order (keys_of es)
    → ascend key (values_of es) ≡ true
sorted-ascend key kind [] h s = refl
sorted-ascend key kind (e ∷ []) h s = refl
sorted-ascend key kind (e ∷ f ∷ es) h s =
    let less = (sorted_head order e.0 (keys_of (f ∷ es)) s).0 in
    let lt : key_lt key e.1 f.1 ≡ true =
    subst (λ a. (cell_le a (cell_at f.1 key) && not (cell_le (cell_at f.1 key) a)) ≡ true) h.0
    (subst (λ b. (cell_le e.0 b && not (cell_le b e.0)) ≡ true) h.2.0 (before kind e.0 f.0 h.1 h.2.1 less)) in
    let ih = sorted-ascend key kind (f ∷ es) h.2 (sorted_tail order e.0 (keys_of (f ∷ es)) s) in
    grind (arith, lt, ih)

-- a row whose key none has

apart : (key : ℕ) (v : Cell) (e : Cell × Row) (es : List (Cell × Row)) → e.0 ≡ cell_at e.1 key → has_key key v (values_of (e ∷ es)) ≡ false
    → order v e.0 ≡ Equal → true ≡ false
apart key v e es h none same =
    let at : true ≡ cell_eq (cell_at e.1 key) v = ap is_eq (sym same) ∙ here key v e h in
    grind (arith, at, none)

pub insert-row : (key : ℕ) (kind : Kind) (row : Row) (es : List (Cell × Row)) → AreKeyed key kind es
    → is_of kind (cell_at row key) ≡ true → has_key key (cell_at row key) (values_of es) ≡ false
    → values_of (insert_entry order es (cell_at row key) row) ≡ with_row key (values_of es) row
insert-row key kind row [] h k none = refl
insert-row key kind row (e ∷ es) h k none =
    go (order (cell_at row key) e.0) refl (insert-row key kind row es h.2 k (grind arith))
  where
    go : (o : Ordering) → order (cell_at row key) e.0 ≡ o
        → values_of (insert_entry order es (cell_at row key) row) ≡ with_row key (values_of es) row
        → values_of (match_ordering o ((cell_at row key, row) ∷ e ∷ es) ((e.0, row) ∷ es) (e ∷ insert_entry order es (cell_at row key) row))
        ≡ (if cell_le (cell_at e.1 key) (cell_at row key) then e.1 ∷ with_row key (values_of es) row else row ∷ e.1 ∷ values_of es)
    go Less is ih =
        let lt : true ≡ not (cell_le e.0 (cell_at row key)) = ap is_lt (sym is) ∙ order-lt kind (cell_at row key) e.0 k h.1 in
        let le : cell_le (cell_at e.1 key) (cell_at row key) ≡ false = subst (λ a. cell_le a (cell_at row key) ≡ false) h.0 (grind (arith, lt)) in
        rw le refl
    go Equal is ih = absurd (grind (arith, apart key (cell_at row key) e es h.0 none is))
    go Greater is ih =
        let lt : false ≡ not (cell_le e.0 (cell_at row key)) = ap is_lt (sym is) ∙ order-lt kind (cell_at row key) e.0 k h.1 in
        let le : cell_le (cell_at e.1 key) (cell_at row key) ≡ true = subst (λ a. cell_le a (cell_at row key) ≡ true) h.0 (grind (arith, lt)) in
        rw le (ap (λ rows. e.1 ∷ rows) ih)

pub insert-keyed : (key : ℕ) (kind : Kind) (row : Row) (es : List (Cell × Row)) → AreKeyed key kind es
    → is_of kind (cell_at row key) ≡ true → has_key key (cell_at row key) (values_of es) ≡ false
    → AreKeyed key kind (insert_entry order es (cell_at row key) row)
insert-keyed key kind row [] h k none = (refl, k, tt)
insert-keyed key kind row (e ∷ es) h k none =
    go (order (cell_at row key) e.0) refl (insert-keyed key kind row es h.2 k (grind arith))
  where
    go : (o : Ordering) → order (cell_at row key) e.0 ≡ o → AreKeyed key kind (insert_entry order es (cell_at row key) row)
        → AreKeyed key kind (match_ordering o ((cell_at row key, row) ∷ e ∷ es) ((e.0, row) ∷ es) (e ∷ insert_entry order es (cell_at row key) row))
    go Less is ih = (refl, k, h)
    go Equal is ih = absurd (grind (arith, apart key (cell_at row key) e es h.0 none is))
    go Greater is ih = (h.0, h.1, ih)
