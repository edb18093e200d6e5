-- What holds of all rows holds of those after a change; what holds of all that came holds with one more.
use Rattle.std.proofs.Common.{◌≡◌, ℕ, ◌+◌, ◌<◌, Bool, true, false, List, [], ◌∷◌, ◌++◌, length, take, map, get_or, refl, sym, ap, ◌∙◌}
use Rattle.std.specs.Prelude.{cond, not}
use Rattle.std.specs.List.{list_all}
use Rattle.std.proofs.lemmas.Bool.{and_from}
use Rattle.std.proofs.lemmas.List.Folds.{list_all_more, list_all-map}
use Rattle.std.specs.Cmp.{first_so, second_so}
use Rattle.sr_cell.specs.declared.cell.Cell.{Cell}
use Rattle.sr_cell.specs.Cells.{Row, cell_at, cell_eq}
use Rattle.sr_cell.proofs.Lists.{list_all-filter, list_all-push}
use Rattle.sr_keyed.specs.Keyed.{with_replaced}
use Rattle.sr_rows.specs.Keys.{without_key}

pub all-replaced : (holds : Row → Bool) (key : ℕ) (row : Row) (rows : List Row) → list_all holds rows ≡ true → holds row ≡ true → list_all holds (with_replaced key row rows) ≡ true
all-replaced holds key row [] all one = refl
all-replaced holds key row (r ∷ rows) all one =
    and_from (holds (cond (cell_eq (cell_at r key) (cell_at row key)) row r)) (list_all holds (with_replaced key row rows)) (by (cell_eq (cell_at r key) (cell_at row key)))
    (all-replaced holds key row rows (second_so (holds r) (list_all holds rows) all) one)
  where
    by : (b : Bool) → holds (cond b row r) ≡ true
    by true = one
    by false = first_so (holds r) (list_all holds rows) all

pub all-without : (holds : Row → Bool) (key : ℕ) (v : Cell) (rows : List Row) → list_all holds rows ≡ true → list_all holds (without_key key v rows) ≡ true
all-without holds key v rows all = list_all-filter holds _ rows all

pub list_all-weaker : {X : Type 0} (p q : X → Bool) → ((x : X) → p x ≡ true → q x ≡ true) → (xs : List X) → list_all p xs ≡ true → list_all q xs ≡ true
list_all-weaker p q more [] all = refl
list_all-weaker p q more (x ∷ xs) all =
    and_from (q x) (list_all q xs) (more x (first_so (p x) (list_all p xs) all)) (list_all-weaker p q more xs (second_so (p x) (list_all p xs) all))

-- what the rows with other keys have held, they hold

pub others-replaced : (old new : Row → Bool) (key : ℕ) (row : Row) → ((r : Row) → cell_eq (cell_at r key) (cell_at row key) ≡ false → old r ≡ true → new r ≡ true) → new row ≡ true
    → (rows : List Row) → list_all old rows ≡ true → list_all new (with_replaced key row rows) ≡ true
others-replaced old new key row more one [] all = refl
others-replaced old new key row more one (r ∷ rows) all =
    and_from (new (cond (cell_eq (cell_at r key) (cell_at row key)) row r)) (list_all new (with_replaced key row rows)) (by (cell_eq (cell_at r key) (cell_at row key)) refl)
    (others-replaced old new key row more one rows (second_so (old r) (list_all old rows) all))
  where
    by : (b : Bool) → cell_eq (cell_at r key) (cell_at row key) ≡ b → new (cond b row r) ≡ true
    by true is = one
    by false is = more r is (first_so (old r) (list_all old rows) all)

pub others-without : (old new : Row → Bool) (key : ℕ) (v : Cell) → ((r : Row) → cell_eq (cell_at r key) v ≡ false → old r ≡ true → new r ≡ true)
    → (rows : List Row) → list_all old rows ≡ true → list_all new (without_key key v rows) ≡ true
others-without old new key v more [] all = refl
others-without old new key v more (r ∷ rows) all = by (cell_eq (cell_at r key) v) refl (others-without old new key v more rows (second_so (old r) (list_all old rows) all))
  where
    by : (b : Bool) → cell_eq (cell_at r key) v ≡ b → list_all new (without_key key v rows) ≡ true → list_all new (cond (not b) (r ∷ without_key key v rows) (without_key key v rows)) ≡ true
    by true is ih = ih
    by false is ih = and_from (new r) (list_all new (without_key key v rows)) (more r is (first_so (old r) (list_all old rows) all)) ih

-- one item more of a list, and of a run

pub all-more : {X : Type 0} (p : X → Bool) (xs : List X) (i : ℕ) (d : X) → i < length xs → list_all p (take i xs) ≡ true → p (get_or xs i d) ≡ true → list_all p (take (i + 1) xs) ≡ true
all-more p xs i d within all one = list_all_more p xs i d within ∙ and_from (list_all p (take i xs)) (p (get_or xs i d)) all one

pub all-came : {X Y : Type 0} (f : X → Y) (p : Y → Bool) (xs : List X) (x : X) → list_all p (map f xs) ≡ true → p (f x) ≡ true → list_all p (map f (xs ++ x ∷ [])) ≡ true
all-came f p xs x all one = list_all-map p f (xs ++ x ∷ []) ∙ list_all-push (λ y. p (f y)) xs x (sym (list_all-map p f xs) ∙ all) one

seam : {X Y : Type 0} (f : X → Y) (xs : List X) (x : X) (rest : List Y) → map f (xs ++ x ∷ []) ++ rest ≡ map f xs ++ f x ∷ rest
seam f [] x rest = refl
seam f (y ∷ xs) x rest = ap (λ ys. f y ∷ ys) (seam f xs x rest)

pub came-next : {X Y : Type 0} (f : X → Y) (xs : List X) (x : X) (left rest all : List Y) → map f xs ++ left ≡ all → left ≡ f x ∷ rest → map f (xs ++ x ∷ []) ++ rest ≡ all
came-next f xs x left rest all is first = seam f xs x rest ∙ ap (λ ys. map f xs ++ ys) (sym first) ∙ is
