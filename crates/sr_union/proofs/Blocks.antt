-- Lists of rects that are gone through block by block.
use Rattle.std.proofs.Common.{◌≡◌, ℕ, ◌+◌, ◌<◌, Bool, true, false, List, [], ◌∷◌, ◌++◌, length, take, get_or, refl, sym, ap, subst, ◌∙◌, arith}
use Rattle.std.specs.Prelude.{◌||◌}
use Rattle.std.specs.List.{list_all, list_any}
use Rattle.std.specs.Option.{is_some}
use Rattle.std.proofs.lemmas.Bool.{and_from, or_from}
use Rattle.std.proofs.lemmas.List.Folds.{list_all_more, list_any-append, list_any_more}
use Rattle.sr_box.specs.Points.{Rect}
use Rattle.sr_box.specs.Cut.{rect_meet}
use Rattle.sr_union.specs.declared.hull.Hull.{Hull}
use Rattle.sr_union.specs.Hulls.{in_hull}
use Rattle.sr_union.proofs.Hulls.{all_wider}

-- some of these rects meets one of the others
abbrev pub some_meet : List Rect → List Rect → Bool
some_meet others rects = list_any (λ r. list_any (λ q. is_some (rect_meet r q)) others) rects

swap : (a b c d : Bool) → ((a || b) || (c || d)) ≡ ((a || c) || (b || d))
swap true b c d = refl
swap false true true d = refl
swap false true false d = refl
swap false false c d = refl

pub meet-append : (block behind rects : List Rect) → some_meet (block ++ behind) rects ≡ (some_meet block rects || some_meet behind rects)
meet-append block behind [] = refl
meet-append block behind (r ∷ rects) =
    let one = list_any-append (λ q. is_some (rect_meet r q)) block behind in
    let ih = meet-append block behind rects in
    rw (one, ih) (swap (list_any (λ q. is_some (rect_meet r q)) block) (list_any (λ q. is_some (rect_meet r q)) behind) (some_meet block rects) (some_meet behind rects))

meet-none : (rects : List Rect) → some_meet [] rects ≡ false
meet-none [] = refl
meet-none (r ∷ rects) = meet-none rects

pub none-left : (rest rects : List Rect) → length rest ≡ 0 → some_meet rest rects ≡ false
none-left [] rects none = meet-none rects
none-left (r ∷ rest) rects none = absurd (omega (arith, none))

-- ---- one rect more

pub hull-more : (h k : Hull) (rects : List Rect) (i : ℕ) (r : Rect) → i < length rects → r ≡ get_or rects i r → ((q : Rect) → in_hull h q ≡ true → in_hull k q ≡ true) → in_hull k r ≡ true
    → list_all (in_hull h) (take i rects) ≡ true → list_all (in_hull k) (take (i + 1) rects) ≡ true
hull-more h k rects i r inside is wider own within =
    list_all_more (in_hull k) rects i r inside
    ∙ and_from (list_all (in_hull k) (take i rects)) (in_hull k (get_or rects i r)) (all_wider (in_hull h) (in_hull k) wider (take i rects) within) (subst (λ (q : Rect). in_hull k q ≡ true) is own)

pub none-more : (block rects : List Rect) (i : ℕ) (r : Rect) → i < length rects → r ≡ get_or rects i r → some_meet block (take i rects) ≡ false → list_any (λ q. is_some (rect_meet r q)) block ≡ false
    → some_meet block (take (i + 1) rects) ≡ false
none-more block rects i r inside is none own =
    list_any_more (λ r. list_any (λ q. is_some (rect_meet r q)) block) rects i r inside
    ∙ or_from (some_meet block (take i rects)) (list_any (λ q. is_some (rect_meet (get_or rects i r) q)) block) none (subst (λ (p : Rect). list_any (λ q. is_some (rect_meet p q)) block ≡ false) is own)

-- ---- one block more

pub no-block : (block behind rest rects : List Rect) → rest ≡ block ++ behind → some_meet block rects ≡ false → some_meet behind rects ≡ some_meet rest rects
no-block block behind rest rects is none =
    sym (ap (λ (xs : List Rect). some_meet xs rects) is ∙ (meet-append block behind rects ∙ ap (λ (b : Bool). b || some_meet behind rects) none))

pub some-block : (block behind rest rects : List Rect) → rest ≡ block ++ behind → some_meet block rects ≡ true → some_meet rest rects ≡ true
some-block block behind rest rects is some =
    ap (λ (xs : List Rect). some_meet xs rects) is ∙ (meet-append block behind rects ∙ ap (λ (b : Bool). b || some_meet behind rects) some)
