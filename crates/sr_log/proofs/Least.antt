-- How many versions are left out.
use Rattle.std.proofs.Common.{◌≡◌, ℕ, zero, suc, ◌+◌, ◌<◌, ◌≤◌, List, [], ◌∷◌, length, drop, refl, sym, arith, inl, inr, add-one, ◌∙◌}
use Rattle.std.proofs.lemmas.Bool.{cases_lt, le-leb, lt-leb}
use Rattle.sr_cell.specs.declared.change.Change.{Change}
use Rattle.sr_log.specs.Kept.{total, floor, kept, FloorIsLeast}

pub floor-few : (limit : ℕ) (x : List Change) (later : List (List Change)) → total (x ∷ later) ≤ limit → floor limit (x ∷ later) ≡ 0
floor-few limit x later few = rw (le-leb (total (x ∷ later)) limit few) refl

pub floor-many : (limit : ℕ) (x : List Change) (later : List (List Change)) → limit < total (x ∷ later) → floor limit (x ∷ later) ≡ suc (floor limit later)
floor-many limit x later many = rw (lt-leb (total (x ∷ later)) limit many) (add-one (floor limit later))

pub floor-within : (limit : ℕ) (all : List (List Change)) → floor limit all ≤ length all
floor-within limit [] = omega arith
floor-within limit (x ∷ later) = elim (cases_lt limit (total (x ∷ later))) [
  | inl many ↦ rw (floor-many limit x later many) (omega (arith, floor-within limit later))
  | inr few ↦ rw (floor-few limit x later few) (omega arith)
]

pub kept-fits : (limit : ℕ) (all : List (List Change)) → total (kept limit all) ≤ limit
kept-fits limit [] = omega arith
kept-fits limit (x ∷ later) = elim (cases_lt limit (total (x ∷ later))) [
  | inl many ↦ rw (floor-many limit x later many) (kept-fits limit later)
  | inr few ↦ rw (floor-few limit x later few) few
]

floor-least : (limit : ℕ) (all : List (List Change)) (left_out : ℕ) → total (drop left_out all) ≤ limit → floor limit all ≤ left_out
floor-least limit [] left_out fits = omega arith
floor-least limit (x ∷ later) zero fits = rw (floor-few limit x later fits) (omega arith)
floor-least limit (x ∷ later) (suc n) fits = elim (cases_lt limit (total (x ∷ later))) [
  | inl many ↦ rw (floor-many limit x later many) (omega (arith, floor-least limit later n fits))
  | inr few ↦ rw (floor-few limit x later few) (omega arith)
]

pub floor_is_least : FloorIsLeast
floor_is_least limit all = (kept-fits limit all, floor-least limit all)

-- Where too many changes are left, there is a next version, and it is left out.
pub more_left : (all : List (List Change)) (i : ℕ) → 0 < total (drop i all) → i < length all
more_left [] zero some = omega (arith, some)
more_left [] (suc i) some = omega (arith, some)
more_left (x ∷ later) zero some = omega arith
more_left (x ∷ later) (suc i) some = omega (arith, more_left later i some)

drop-more : (limit : ℕ) (all : List (List Change)) (i : ℕ) → limit < total (drop i all) → floor limit (drop i all) ≡ suc (floor limit (drop (suc i) all))
drop-more limit [] zero many = absurd (omega (arith, many))
drop-more limit [] (suc i) many = absurd (omega (arith, many))
drop-more limit (x ∷ later) zero many = floor-many limit x later many
drop-more limit (x ∷ later) (suc i) many = drop-more limit later i many

pub floor-more : (limit : ℕ) (all : List (List Change)) (i : ℕ) → limit < total (drop i all) → floor limit (drop i all) ≡ floor limit (drop (i + 1) all) + 1
floor-more limit all i many = rw (add-one i) (drop-more limit all i many ∙ sym (add-one (floor limit (drop (suc i) all))))

pub floor-none : (limit : ℕ) (all : List (List Change)) → total all ≤ limit → floor limit all ≡ 0
floor-none limit [] few = refl
floor-none limit (x ∷ later) few = floor-few limit x later few
