-- The classes of the worked example: one at a time, which is not absorbed and is within the budgets.
use Rattle.std.proofs.Common.{◌≡◌, ℕ, Bool, true, false, ◌≤◌, List, [], ◌∷◌, refl, sym, subst, ◌∙◌, arith, inl, lit≤, eqb-true}
use Rattle.std.specs.Prelude.{IsTrue, max, if◌then◌else◌, codes}
use Rattle.std.proofs.lemmas.Bool.Decides.{nat_tests}
use Rattle.std.proofs.lemmas.Int.{ints}
use Rattle.std.specs.Cmp.{first_so, second_so}
use Rattle.sr_cell.specs.declared.cause.Cause.TheVariants.{Lapsed}
use Rattle.sr_cell.specs.Cells.{Row}
use Rattle.sr_cell.specs.Columns.{table_at, is_point}
use Rattle.sr_box.specs.Points.{AreSame, HasPoint, in_any}
use Rattle.sr_history.specs.declared.mark.Mark.{Mark}
use Rattle.sr_history.specs.declared.mark.Mark.TheVariants.{Held}
use Rattle.sr_history.specs.Marks.{is_held}
use Rattle.sr_history.specs.Classes.{Numbered, Class, AreClasses, in_class, same_class, stamp}
use Rattle.sr_history.specs.Drops.{IsAbsorbed, Absorbs, DropsAll, is_held_wider}
use Rattle.sr_history.specs.Budgets.{MeetsBudgets}
use Rattle.sr_history.proofs.SameClass.{same_class-sound}
use Rattle.sr_runs.specs.Example.{ages, default_limits, employee, employees, query, schema}
use Rattle.sr_runs.proofs.ExampleRests.{held_1, held_none, lapsed, of-employees, same-points}

abbrev pub class : ℕ → Class
class n = record { table = 0; attrs = 3; stamp = n }

class-is : (k : Class) (n : ℕ) → k.table ≡ 0 → k.attrs ≡ 3 → k.stamp ≡ n → same_class k (class n) ≡ true
class-is k n t a s = grind (arith, nat_tests, t, a, s)

-- two columns of table 0 alone are held, all points have this stamp, and there is one
module _ (marks : List Mark) (queries : List Numbered) (n : ℕ) (only : (t a : ℕ) (p : Row) → is_held marks t a p ≡ true → (t ≡ 0) × (a ≡ 3))
    (stamped : (p : Row) → IsTrue (is_point employees.columns p) → is_held marks 0 3 p ≡ true → stamp queries 0 3 p ≡ n)
    (some : HasPoint employees.columns (in_class marks queries (class n))) (wider : (p : Row) → is_held_wider marks 0 3 p ≡ false) where
  of-stamp : (k : Class) → HasPoint (table_at schema k.table).columns (in_class marks queries k) → (k.table ≡ 0) × (k.attrs ≡ 3) × (k.stamp ≡ n)
  of-stamp k (p, point, inside) =
      let held : is_held marks k.table k.attrs p ≡ true = first_so (is_held marks k.table k.attrs p) _ inside in
      let own : stamp queries k.table k.attrs p ≡ k.stamp = eqb-true _ _ (second_so (is_held marks k.table k.attrs p) _ inside) in
      let is = only k.table k.attrs p held in
      (is.0, is.1, go k.table k.attrs is.0 is.1 point held own)
    where
      go : (t a : ℕ) → t ≡ 0 → a ≡ 3 → IsTrue (is_point (table_at schema t).columns p) → is_held marks t a p ≡ true → stamp queries t a p ≡ k.stamp → k.stamp ≡ n
      go t a et ea = subst (λ t. (a : ℕ) → a ≡ 3 → IsTrue (is_point (table_at schema t).columns p) → is_held marks t a p ≡ true → stamp queries t a p ≡ k.stamp → k.stamp ≡ n) (sym et)
          (λ a ea. subst (λ a. IsTrue (is_point employees.columns p) → is_held marks 0 a p ≡ true → stamp queries 0 a p ≡ k.stamp → k.stamp ≡ n) (sym ea) (λ point held own. sym own ∙ stamped p point held)) a ea

  pub one-class : AreClasses schema marks queries (class n ∷ [])
  one-class = record {
    order = refl;
    each = λ k. (
      λ among. let e = same_class-sound k (class n) (grind (arith, among)) in subst (λ k. HasPoint (table_at schema k.table).columns (in_class marks queries k)) (sym e) some,
      λ has. let is = of-stamp k has in let e = class-is k n is.0 is.1 is.2 in grind (arith, e),
    );
  }

  not-absorbed : IsAbsorbed schema marks queries (class n) → ⊥
  not-absorbed all =
      let so : is_held_wider marks 0 3 some.0 ≡ true = all some.0 some.1 some.2 in
      let wrong : true ≡ false = sym so ∙ wider some.0 in
      absurd (cc)

  pub absorbs-none : Absorbs schema marks queries []
  absorbs-none = (class n ∷ [], one-class, inl (not-absorbed, refl))

  pub meets : (count : List Mark → ℕ) → count marks ≤ 10000 → MeetsBudgets schema default_limits count queries marks []
  meets count few = record { rows = []; regions = []; for_rows = few; for_regions = (class n ∷ [], one-class, lit≤ tt); all = refl }

abbrev pub asked_1 : Numbered
asked_1 = record { query = query 30 40; answered = true }

abbrev pub asked_2 : Numbered
asked_2 = record { query = query 35 50; answered = false }

abbrev pub answered_2 : Numbered
answered_2 = record { query = query 35 50; answered = true }

-- what is held at the end
abbrev pub held_2 : List Mark
held_2 = Held 0 3 (ages 35 50) ∷ held_none

pub only-1 : (t a : ℕ) (p : Row) → is_held held_1 t a p ≡ true → (t ≡ 0) × (a ≡ 3)
only-1 t a p h = (grind (arith, nat_tests), grind (arith, nat_tests))

only-2 : (t a : ℕ) (p : Row) → is_held held_2 t a p ≡ true → (t ≡ 0) × (a ≡ 3)
only-2 t a p h = (grind (arith, nat_tests), grind (arith, nat_tests))

pub stamp-1 : (p : Row) → IsTrue (is_point employees.columns p) → is_held held_1 0 3 p ≡ true → stamp (asked_1 ∷ []) 0 3 p ≡ 1
stamp-1 p point = of-employees (λ p. is_held held_1 0 3 p ≡ true → stamp (asked_1 ∷ []) 0 3 p ≡ 1) (λ m n s d low high h. grind (arith, h)) p point

stamp-still : (p : Row) → IsTrue (is_point employees.columns p) → is_held held_1 0 3 p ≡ true → stamp (asked_1 ∷ asked_2 ∷ []) 0 3 p ≡ 1
stamp-still p point = of-employees (λ p. is_held held_1 0 3 p ≡ true → stamp (asked_1 ∷ asked_2 ∷ []) 0 3 p ≡ 1) (λ m n s d low high h. grind (arith, h)) p point

pub later-stamp : (b c : Bool) → c ≡ true → max (if b then 1 else 0) (max (if c then 2 else 0) 0) ≡ 2
later-stamp true true e = refl
later-stamp false true e = refl
later-stamp b false e = absurd (cc)

stamp-2 : (p : Row) → IsTrue (is_point employees.columns p) → is_held held_2 0 3 p ≡ true → stamp (asked_1 ∷ answered_2 ∷ []) 0 3 p ≡ 2
stamp-2 p point = of-employees (λ p. is_held held_2 0 3 p ≡ true → stamp (asked_1 ∷ answered_2 ∷ []) 0 3 p ≡ 2) (λ m n s d low high h. later-stamp _ _ (grind (arith, ints, h))) p point

-- ---- after the first answer, at the Lapse, and at the end

pub absorbs_1 : Absorbs schema held_1 (asked_1 ∷ []) []
absorbs_1 = absorbs-none held_1 (asked_1 ∷ []) 1 only-1 stamp-1 (employee 1 35 (codes "ann") 3, refl, refl) (λ p. refl)

pub budgets_1 : (count : List Mark → ℕ) → count held_1 ≤ 10000 → MeetsBudgets schema default_limits count (asked_1 ∷ []) held_1 []
budgets_1 = meets held_1 (asked_1 ∷ []) 1 only-1 stamp-1 (employee 1 35 (codes "ann") 3, refl, refl) (λ p. refl)

class-same : AreSame employees.columns (in_any (ages 30 40)) (in_class held_1 (asked_1 ∷ asked_2 ∷ []) (class 1))
class-same = same-points _ _ (λ m n s d low high. grind (arith, ints, nat_tests))

pub drops_all : DropsAll schema held_1 (asked_1 ∷ asked_2 ∷ []) Lapsed (lapsed ∷ [])
drops_all = (
  class 1 ∷ [],
  one-class held_1 (asked_1 ∷ asked_2 ∷ []) 1 only-1 stamp-still (employee 1 35 (codes "ann") 3, refl, refl) (λ p. refl),
  ((refl, refl, refl, refl, refl, class-same), refl),
)

pub absorbs_2 : Absorbs schema held_2 (asked_1 ∷ answered_2 ∷ []) []
absorbs_2 = absorbs-none held_2 (asked_1 ∷ answered_2 ∷ []) 2 only-2 stamp-2 (employee 1 35 (codes "ann") 3, refl, refl) (λ p. refl)

pub budgets_2 : (count : List Mark → ℕ) → count held_2 ≤ 10000 → MeetsBudgets schema default_limits count (asked_1 ∷ answered_2 ∷ []) held_2 []
budgets_2 = meets held_2 (asked_1 ∷ answered_2 ∷ []) 2 only-2 stamp-2 (employee 1 35 (codes "ann") 3, refl, refl) (λ p. refl)
