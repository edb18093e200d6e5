-- Flags of regions, one by one.
use Rattle.std.proofs.Common.{◌≡◌, ℕ, zero, suc, ◌+◌, ◌-◌, ◌<◌, ◌≤◌, Bool, true, false, List, [], ◌∷◌, length, take, drop, ◌++◌, Some, get_or, append_assoc, refl, ap, sym, subst, ◌∙◌, arith}
use Rattle.std.specs.Prelude.{if◌then◌else◌}
use Rattle.std.specs.List.{slice_get}
use Rattle.std.proofs.lemmas.List.{drop_more}
use Rattle.std.proofs.lemmas.Option.{same_Some}
use Rattle.std.specs.List.{All, AllZip}
use Rattle.std.proofs.lemmas.List.Elements.{All-nil, All-cons}
use Rattle.sr_query.specs.declared.query.Part.{Part}
use Rattle.sr_region.specs.declared.region.Region.{Region}
use Rattle.sr_store.specs.Stores.{count_rects}
use Rattle.sr_store.specs.Answered.{flagged}
use Rattle.sr_store.specs.Making.{IsStill, IsStillOr}
use Rattle.sr_store.proofs.Dropping.{count_rects-cons}

pub zip_at : {A B : Type 0} (R : A → B → Type 0) (xs : List A) (ys : List B) (i : ℕ) (d : A) (e : B) → AllZip R xs ys → i < length xs → R (get_or xs i d) (get_or ys i e)
zip_at R [] ys i d e h below = absurd (omega (arith, below))
zip_at R (x ∷ xs) [] i d e h below = absurd h
zip_at R (x ∷ xs) (y ∷ ys) zero d e h below = h.0
zip_at R (x ∷ xs) (y ∷ ys) (suc i) d e h below = zip_at R xs ys i d e h.1 (omega (arith, below))

-- the regions without flag are left as they are
pub still_plain : (number : ℕ) (parts : List Part) (fs : List Bool) (gs : List Region) → AllZip (IsStillOr number parts) fs gs → All (IsStill number parts) (flagged false fs gs)
still_plain number parts [] gs h = All-nil (IsStill number parts)
still_plain number parts (f ∷ fs) [] h = All-nil (IsStill number parts)
still_plain number parts (true ∷ fs) (g ∷ gs) h = still_plain number parts fs gs h.1
still_plain number parts (false ∷ fs) (g ∷ gs) h = All-cons (IsStill number parts) g (flagged false fs gs) (h.0 refl) (still_plain number parts fs gs h.1)

zero-more : (n : ℕ) → n ≡ 0 + n
zero-more n = omega arith

rects-step : (fs : List Bool) (gs : List Region) (i : ℕ) (d : Bool) (e : Region) → length fs ≡ length gs → i < length gs
    → count_rects (flagged false (drop i fs) (drop i gs)) ≡ (if get_or fs i d then 0 else length (get_or gs i e).rects) + count_rects (flagged false (drop (suc i) fs) (drop (suc i) gs))
rects-step [] gs i d e long below = absurd (omega (arith, long, below))
rects-step (f ∷ fs) [] i d e long below = absurd (omega (arith, below))
rects-step (true ∷ fs) (g ∷ gs) zero d e long below = zero-more (count_rects (flagged false fs gs))
rects-step (false ∷ fs) (g ∷ gs) zero d e long below = count_rects-cons g (flagged false fs gs)
rects-step (f ∷ fs) (g ∷ gs) (suc i) d e long below = rects-step fs gs i d e (omega (arith, long)) (omega (arith, below))

-- the rects of the regions without flag, from one number on
pub room_step : (fs : List Bool) (gs : List Region) (i : ℕ) (d : Bool) (e : Region) → length fs ≡ length gs → i < length gs
    → count_rects (flagged false (drop i fs) (drop i gs)) ≡ (if get_or fs i d then 0 else length (get_or gs i e).rects) + count_rects (flagged false (drop (i + 1) fs) (drop (i + 1) gs))
room_step fs gs i d e long below =
    let more : suc i ≡ i + 1 = omega arith in
    rects-step fs gs i d e long below ∙ ap (λ m. (if get_or fs i d then 0 else length (get_or gs i e).rects) + count_rects (flagged false (drop m fs) (drop m gs))) more

-- all of them, the room that is left, the room at first, and those from one number on and behind it
pub room_less : (all left room from behind n : ℕ) → all + left ≡ room + from → from ≡ n + behind → n ≤ left → all + (left - n) ≡ room + behind
room_less all left room from behind n sum step le = omega (arith, sum, step, le)

pub room_none : (all left room from behind n : ℕ) → all + left ≡ room + from → from ≡ n + behind → left < n → room < all
room_none all left room from behind n sum step le = omega (arith, sum, step, le)

-- the regions, those from one number on without the ones with a flag
abbrev pub sifted : List Bool → List Region → ℕ → List Region
sifted fs gs i = take i gs ++ flagged false (drop i fs) (drop i gs)

sifted-out : (fs : List Bool) (gs : List Region) (i : ℕ) (d : Bool) → length fs ≡ length gs → i < length fs → get_or fs i d ≡ true
    → take i (sifted fs gs (suc i)) ++ drop (suc i) (sifted fs gs (suc i)) ≡ sifted fs gs i
sifted-out [] gs i d long below set = absurd (omega (arith, below))
sifted-out (f ∷ fs) [] i d long below set = absurd (omega (arith, long))
sifted-out (true ∷ fs) (g ∷ gs) zero d long below set = refl
sifted-out (false ∷ fs) (g ∷ gs) zero d long below set = let no : false ≡ true = set in absurd (cc)
sifted-out (f ∷ fs) (g ∷ gs) (suc i) d long below set = ap (λ gs. g ∷ gs) (sifted-out fs gs i d (omega (arith, long)) (omega (arith, below)) set)

sifted-kept : (fs : List Bool) (gs : List Region) (i : ℕ) (d : Bool) → length fs ≡ length gs → i < length fs → get_or fs i d ≡ false
    → (sifted fs gs (suc i) ≡ sifted fs gs i) × (flagged true (drop (suc i) fs) (drop (suc i) gs) ≡ flagged true (drop i fs) (drop i gs))
sifted-kept [] gs i d long below set = absurd (omega (arith, below))
sifted-kept (f ∷ fs) [] i d long below set = absurd (omega (arith, long))
sifted-kept (false ∷ fs) (g ∷ gs) zero d long below set = (refl, refl)
sifted-kept (true ∷ fs) (g ∷ gs) zero d long below set = let no : true ≡ false = set in absurd (cc)
sifted-kept (f ∷ fs) (g ∷ gs) (suc i) d long below set =
    let (same, flags) = sifted-kept fs gs i d (omega (arith, long)) (omega (arith, below)) set in
    (ap (λ gs. g ∷ gs) same, flags)

flagged-out : (fs : List Bool) (gs : List Region) (i : ℕ) (d : Bool) (out : Region) → length fs ≡ length gs → i < length fs → get_or fs i d ≡ true
    → slice_get (sifted fs gs (suc i)) i ≡ Some out → out ∷ flagged true (drop (suc i) fs) (drop (suc i) gs) ≡ flagged true (drop i fs) (drop i gs)
flagged-out [] gs i d out long below set is = absurd (omega (arith, below))
flagged-out (f ∷ fs) [] i d out long below set is = absurd (omega (arith, long))
flagged-out (true ∷ fs) (g ∷ gs) zero d out long below set is = ap (λ g. g ∷ flagged true fs gs) (sym (same_Some g out is))
flagged-out (false ∷ fs) (g ∷ gs) zero d out long below set is = let no : false ≡ true = set in absurd (cc)
flagged-out (f ∷ fs) (g ∷ gs) (suc i) d out long below set is = flagged-out fs gs i d out (omega (arith, long)) (omega (arith, below)) set is

-- a region with a flag is taken out
pub take_out_set : (fs : List Bool) (gs : List Region) (i : ℕ) (d : Bool) (out : Region) → length fs ≡ length gs → 0 < i → i ≤ length fs → get_or fs (i - 1) d ≡ true
    → slice_get (sifted fs gs i) (i - 1) ≡ Some out
    → (take (i - 1) (sifted fs gs i) ++ drop (i - 1 + 1) (sifted fs gs i) ≡ sifted fs gs (i - 1)) × (out ∷ flagged true (drop i fs) (drop i gs) ≡ flagged true (drop (i - 1) fs) (drop (i - 1) gs))
take_out_set fs gs zero d out long some in_range set is = absurd (omega (arith, some))
take_out_set fs gs (suc i) d out long some in_range set is =
    let before : i ≡ suc i - 1 = omega arith in
    let more : i + 1 ≡ suc i = omega arith in
    subst (λ n. get_or fs n d ≡ true → slice_get (sifted fs gs (suc i)) n ≡ Some out
    → (take n (sifted fs gs (suc i)) ++ drop (n + 1) (sifted fs gs (suc i)) ≡ sifted fs gs n) × (out ∷ flagged true (drop (suc i) fs) (drop (suc i) gs) ≡ flagged true (drop n fs) (drop n gs)))
    before
    (λ set is. (
      ap (λ n. take i (sifted fs gs (suc i)) ++ drop n (sifted fs gs (suc i))) more ∙ sifted-out fs gs i d long (omega (arith, in_range)) set,
      flagged-out fs gs i d out long (omega (arith, in_range)) set is,
    ))
    set is

-- one without stays
pub take_out_plain : (fs : List Bool) (gs : List Region) (i : ℕ) (d : Bool) → length fs ≡ length gs → 0 < i → i ≤ length fs → get_or fs (i - 1) d ≡ false
    → (sifted fs gs i ≡ sifted fs gs (i - 1)) × (flagged true (drop i fs) (drop i gs) ≡ flagged true (drop (i - 1) fs) (drop (i - 1) gs))
take_out_plain fs gs zero d long some in_range set = absurd (omega (arith, some))
take_out_plain fs gs (suc i) d long some in_range set =
    let before : i ≡ suc i - 1 = omega arith in
    subst (λ n. get_or fs n d ≡ false → (sifted fs gs (suc i) ≡ sifted fs gs n) × (flagged true (drop (suc i) fs) (drop (suc i) gs) ≡ flagged true (drop n fs) (drop n gs)))
    before (λ set. sifted-kept fs gs i d long (omega (arith, in_range)) set) set

-- one region more is parted from those behind it
pub put_plain : (fs : List Bool) (g : Region) (gs : List Region) (i : ℕ) (front next all : List Region) → i < length fs → next ≡ (if get_or fs i false then front else front ++ g ∷ [])
    → front ++ flagged false (drop i fs) (g ∷ gs) ≡ all → next ++ flagged false (drop (i + 1) fs) gs ≡ all
put_plain fs g gs i front next all below is sum = go (get_or fs i false) is (subst (λ fs. front ++ flagged false fs (g ∷ gs) ≡ all) (drop_more fs i false below) sum)
  where
    go : (f : Bool) → next ≡ (if f then front else front ++ g ∷ []) → front ++ flagged false (f ∷ drop (i + 1) fs) (g ∷ gs) ≡ all → next ++ flagged false (drop (i + 1) fs) gs ≡ all
    go true is sum = ap (λ hs. hs ++ flagged false (drop (i + 1) fs) gs) is ∙ sum
    go false is sum = ap (λ hs. hs ++ flagged false (drop (i + 1) fs) gs) is ∙ append_assoc front (g ∷ []) (flagged false (drop (i + 1) fs) gs) ∙ sum

pub put_flagged : (fs : List Bool) (g : Region) (gs : List Region) (i : ℕ) (front next all : List Region) → i < length fs → next ≡ (if get_or fs i false then front ++ g ∷ [] else front)
    → front ++ flagged true (drop i fs) (g ∷ gs) ≡ all → next ++ flagged true (drop (i + 1) fs) gs ≡ all
put_flagged fs g gs i front next all below is sum = go (get_or fs i false) is (subst (λ fs. front ++ flagged true fs (g ∷ gs) ≡ all) (drop_more fs i false below) sum)
  where
    go : (f : Bool) → next ≡ (if f then front ++ g ∷ [] else front) → front ++ flagged true (f ∷ drop (i + 1) fs) (g ∷ gs) ≡ all → next ++ flagged true (drop (i + 1) fs) gs ≡ all
    go true is sum = ap (λ hs. hs ++ flagged true (drop (i + 1) fs) gs) is ∙ append_assoc front (g ∷ []) (flagged true (drop (i + 1) fs) gs) ∙ sum
    go false is sum = ap (λ hs. hs ++ flagged true (drop (i + 1) fs) gs) is ∙ sum
