-- Marks, and what they hold.
use Rattle.std.proofs.Common.{◌≡◌, List, [], ◌∷◌, ◌++◌, refl, ℕ, Bool, true, false, ◌∙◌, ap, arith, map}
use Rattle.std.specs.Prelude.{◌&&◌, ◌||◌, ◌==◌, if◌then◌else◌}
use Rattle.std.specs.List.{list_any}
use Rattle.std.proofs.lemmas.Bool.Decides.{nat_tests}
use Rattle.sr_cell.specs.Cells.{Row}
use Rattle.sr_box.specs.Points.{in_any}
use Rattle.sr_history.specs.declared.mark.Mark.{Mark}
use Rattle.sr_history.specs.Marks.{with_marks, attrs_of, concerns, is_held_mark, is_held}
use Rattle.sr_history.specs.declared.mark.Mark.TheVariants.{Held, Dropped}
use Rattle.sr_history.specs.Classes.{stamp}

pub with_marks-append : (marks one more : List Mark) → with_marks marks (one ++ more) ≡ with_marks (with_marks marks one) more
with_marks-append marks [] more = refl
with_marks-append marks (d ∷ one) more = with_marks-append (d ∷ marks) one more

pub some-attrs : (F : ℕ → Bool) (ms : List Mark) (t a : ℕ) (p : Row) → is_held ms t a p ≡ true → F a ≡ true → list_any (λ mark. F (attrs_of mark)) ms ≡ true
some-attrs F [] t a p is own = absurd (cc)
some-attrs F (mark ∷ ms) t a p is own = go (concerns mark t a p) refl is (some-attrs F ms t a p)
  where
    same : (mark : Mark) → concerns mark t a p ≡ true → attrs_of mark ≡ a
    same (Held u b rects) e = by (u == t) (b == a) (in_any rects p) e refl
      where
        by : (x y z : Bool) → (x && y && z) ≡ true → (b == a) ≡ y → b ≡ a
        by x y z e is = let yes : y ≡ true = grind (arith, e) in let equal : (b == a) ≡ true = is ∙ yes in grind (arith, nat_tests, equal)
    same (Dropped cause u b stamp rects) e = by (u == t) (b == a) (in_any rects p) e refl
      where
        by : (x y z : Bool) → (x && y && z) ≡ true → (b == a) ≡ y → b ≡ a
        by x y z e is = let yes : y ≡ true = grind (arith, e) in let equal : (b == a) ≡ true = is ∙ yes in grind (arith, nat_tests, equal)

    go : (b : Bool) → concerns mark t a p ≡ b → (if b then is_held_mark mark else is_held ms t a p) ≡ true
        → (is_held ms t a p ≡ true → F a ≡ true → list_any (λ mark. F (attrs_of mark)) ms ≡ true) → (F (attrs_of mark) || list_any (λ mark. F (attrs_of mark)) ms) ≡ true
    go true e is ih = let here : F (attrs_of mark) ≡ true = ap F (same mark e) ∙ own in rw here refl
    go false e is ih = let there = ih is own in grind (arith, there)

pub any-attrs : (F : ℕ → Bool) (ms : List Mark) → list_any (λ mark. F (attrs_of mark)) ms ≡ true → (a : ℕ) × (F a ≡ true)
any-attrs F [] is = absurd (cc)
any-attrs F (mark ∷ ms) is = go (F (attrs_of mark)) refl is (any-attrs F ms)
  where
    go : (b : Bool) → F (attrs_of mark) ≡ b → (b || list_any (λ mark. F (attrs_of mark)) ms) ≡ true → (list_any (λ mark. F (attrs_of mark)) ms ≡ true → (a : ℕ) × (F a ≡ true)) → (a : ℕ) × (F a ≡ true)
    go true e is ih = (attrs_of mark, e)
    go false e is ih = ih is

-- under columns that no mark has nothing is held
pub held-set : (marks : List Mark) (t a : ℕ) (p : Row) → is_held marks t a p ≡ true → list_any (λ y. a == y) (map attrs_of marks) ≡ true
held-set [] t a p h = absurd (cc)
held-set (m ∷ marks) t a p h = go (a == attrs_of m) refl (held-set marks t a p)
  where
    rest : (m : Mark) → (a == attrs_of m) ≡ false → is_held (m ∷ marks) t a p ≡ true → is_held marks t a p ≡ true
    rest (Held u b rects) ne i = grind (arith, nat_tests)
    rest (Dropped cause u b s rects) ne i = grind (arith, nat_tests)

    go : (b : Bool) → (a == attrs_of m) ≡ b → (is_held marks t a p ≡ true → list_any (λ y. a == y) (map attrs_of marks) ≡ true) → (b || list_any (λ y. a == y) (map attrs_of marks)) ≡ true
    go true e ih = refl
    go false e ih = ih (rest m e h)
