-- Of the right side the rows with the left side's keys decide.
use Rattle.std.proofs.Common.{◌≡◌, ℕ, Bool, true, false, List, [], ◌∷◌, ◌++◌, refl, sym, ap, subst, ◌∙◌}
use Rattle.std.specs.Prelude.{◌||◌, ◌&&◌, not, map, filter, if◌then◌else◌}
use Rattle.std.specs.Cmp.{first_so, second_so}
use Rattle.std.proofs.lemmas.List.Concat.{flat_map-cons}
use Rattle.sr_cell.specs.declared.cell.Cell.{Cell}
use Rattle.sr_cell.specs.declared.cell.Cell.TheVariants.{Num, Str, Null}
use Rattle.sr_cell.specs.Cells.{Row, cell_at, cell_eq, cell_le, is_null}
use Rattle.sr_cell.proofs.Order.{cell_eq-sound, cell_eq-refl}
use Rattle.sr_model.specs.Conditions.{Eq, passes}
use Rattle.sr_semi.specs.Going.{output_in, joined, joined_to}
use Rattle.sr_semi.specs.Keys.{all_have, is_key, is_met, with_known, with_value, values_at, values_behind}
use Rattle.sr_semi.specs.Answers.{with_keys}
use Rattle.sr_semi.specs.Sides.{Sides, left_place, right_place}

-- what passes one test passes the other, so the other leaves out none of it
filter-same : (t k : Row → Bool) (rows : List Row) → ((r : Row) → t r ≡ true → k r ≡ true) → filter t (filter k rows) ≡ filter t rows
filter-same t k [] h = refl
filter-same t k (r ∷ rows) h = by (filter-same t k rows h) (k r) refl (t r) refl
  where
    by : filter t (filter k rows) ≡ filter t rows → (a : Bool) → k r ≡ a → (b : Bool) → t r ≡ b → filter t (filter k (r ∷ rows)) ≡ filter t (r ∷ rows)
    by others true e true f = rw (e, f) (ap (λ (xs : List Row). r ∷ xs) others)
    by others true e false f = rw (e, f) others
    by others false e false f = rw (e, f) others
    by others false e true f = absurd (let wrong : false ≡ true = sym e ∙ h r f in cc)

-- the equation of an ON is true where the cells are equal and the left one is not Null
pub equal_is : (v w : Cell) → passes (Eq w) v ≡ (not (is_null v) && cell_eq v w)
equal_is (Num n) w = refl
equal_is (Str s) w = refl
equal_is Null w = refl

equal-sound : (v w : Cell) → passes (Eq w) v ≡ true → (is_null v ≡ false) × (v ≡ w)
equal-sound (Num n) w h = (refl, cell_eq-sound (Num n) w h)
equal-sound (Str s) w h = (refl, cell_eq-sound (Str s) w h)
equal-sound Null w h = absurd cc

or-second : (a b : Bool) → a ≡ false → (a || b) ≡ true → b ≡ true
or-second true b e h = absurd cc
or-second false b e h = h

same-joined : (s : Sides) (keys : List Cell) (rights : List Row) (l : Row) → is_met keys (cell_at l (left_place s)) ≡ true → joined_to s (with_keys s keys rights) l ≡ joined_to s rights l
same-joined s keys rights l h =
    ap (map (λ r. map (output_in s l r) s.outputs))
    (filter-same (λ r. passes (Eq (cell_at r (right_place s))) (cell_at l (left_place s))) (λ r. is_key keys (cell_at r (right_place s))) rights
    (λ r same.
    let equal = equal-sound (cell_at l (left_place s)) (cell_at r (right_place s)) same in
    let own = or-second (is_null (cell_at l (left_place s))) (is_key keys (cell_at l (left_place s))) equal.0 h in
    subst (λ v. is_key keys v ≡ true) equal.1 own))

pub keys-decide : (s : Sides) (keys : List Cell) (lefts rights : List Row) → all_have (left_place s) keys lefts ≡ true → joined s lefts (with_keys s keys rights) ≡ joined s lefts rights
keys-decide s keys [] rights h = refl
keys-decide s keys (l ∷ lefts) rights h =
    let here = first_so (is_met keys (cell_at l (left_place s))) (all_have (left_place s) keys lefts) h in
    let others = second_so (is_met keys (cell_at l (left_place s))) (all_have (left_place s) keys lefts) h in
    flat_map-cons (joined_to s (with_keys s keys rights)) l lefts
    ∙ (ap (λ (xs : List Row). xs ++ joined s lefts (with_keys s keys rights)) (same-joined s keys rights l here)
    ∙ (ap (λ (xs : List Row). joined_to s rights l ++ xs) (keys-decide s keys lefts rights others)
    ∙ sym (flat_map-cons (joined_to s rights) l lefts)))

-- ---- the values that are found

or-right : (a b : Bool) → b ≡ true → (a || b) ≡ true
or-right true b h = refl
or-right false b h = h

kept : (v : Cell) (vs : List Cell) (w : Cell) → is_key vs v ≡ true → is_key (with_value vs w) v ≡ true
kept v [] w h = absurd (let wrong : false ≡ true = h in cc)
kept v (x ∷ xs) w h = by (kept v xs w) (cell_eq w x) refl (cell_le w x) refl (cell_eq v x) refl
  where
    by : (is_key xs v ≡ true → is_key (with_value xs w) v ≡ true) → (a : Bool) → cell_eq w x ≡ a → (b : Bool) → cell_le w x ≡ b → (c : Bool) → cell_eq v x ≡ c → is_key (with_value (x ∷ xs) w) v ≡ true
    by others true e b f c g = rw e h
    by others false e true f c g = rw (e, f) (or-right (cell_eq v w) (is_key (x ∷ xs) v) h)
    by others false e false f true g = rw (e, f, g) refl
    by others false e false f false g = rw (e, f, g) (others (rw g at h))

found : (vs : List Cell) (w : Cell) → is_key (with_value vs w) w ≡ true
found [] w = rw (cell_eq-refl w) refl
found (x ∷ xs) w = by (found xs w) (cell_eq w x) refl (cell_le w x) refl
  where
    by : is_key (with_value xs w) w ≡ true → (a : Bool) → cell_eq w x ≡ a → (b : Bool) → cell_le w x ≡ b → is_key (with_value (x ∷ xs) w) w ≡ true
    by others true e b f = rw (e, e) refl
    by others false e true f = rw (e, f, cell_eq-refl w) refl
    by others false e false f = rw (e, f, e) others

kept-known : (v : Cell) (vs : List Cell) (w : Cell) → is_key vs v ≡ true → is_key (with_known vs w) v ≡ true
kept-known v vs w h = by (is_null w)
  where
    by : (b : Bool) → is_key (if b then vs else with_value vs w) v ≡ true
    by true = h
    by false = kept v vs w h

met : (vs : List Cell) (w : Cell) → is_met (with_known vs w) w ≡ true
met vs w = by (is_null w)
  where
    by : (b : Bool) → (b || is_key (if b then vs else with_value vs w) w) ≡ true
    by true = refl
    by false = found vs w

stays : (place : ℕ) (v : Cell) (vs : List Cell) (rows : List Row) → is_key vs v ≡ true → is_key (values_behind place vs rows) v ≡ true
stays place v vs [] h = h
stays place v vs (row ∷ rows) h = stays place v (with_known vs (cell_at row place)) rows (kept-known v vs (cell_at row place) h)

stays-met : (place : ℕ) (v : Cell) (vs : List Cell) (rows : List Row) → is_met vs v ≡ true → is_met (values_behind place vs rows) v ≡ true
stays-met place v vs rows h = by (is_null v) h
  where
    by : (b : Bool) → (b || is_key vs v) ≡ true → (b || is_key (values_behind place vs rows) v) ≡ true
    by true h = refl
    by false h = stays place v vs rows h

among : (place : ℕ) (vs : List Cell) (rows : List Row) → all_have place (values_behind place vs rows) rows ≡ true
among place vs [] = refl
among place vs (row ∷ rows) =
    let more = with_known vs (cell_at row place) in
    rw (stays-met place (cell_at row place) more rows (met vs (cell_at row place))) (among place more rows)

pub values-are-among : (place : ℕ) (rows : List Row) → all_have place (values_at place rows) rows ≡ true
values-are-among place rows = among place [] rows
