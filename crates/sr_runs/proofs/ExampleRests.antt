-- What the queries of the worked example ask.
use Rattle.std.proofs.Common.{◌≡◌, ℕ, ℤ, pos, Bool, true, false, List, [], ◌∷◌, refl, sym, ◌∙◌, subst, arith, inl, inr}
use Rattle.std.specs.Prelude.{int_le, IsTrue, slice_set, zero, suc, codes}
use Rattle.std.proofs.lemmas.Bool.{both_ways}
use Rattle.sr_cell.specs.declared.cause.Cause.TheVariants.{Lapsed}
use Rattle.sr_cell.specs.declared.cell.Cell.{Cell}
use Rattle.sr_cell.specs.declared.cell.Cell.TheVariants.{Num, Str, Null}
use Rattle.sr_cell.specs.Cells.{Row}
use Rattle.sr_cell.specs.Columns.{is_point}
use Rattle.sr_cell.specs.Attrs.{has_column}
use Rattle.sr_box.specs.Points.{AreSame, IsEssential, in_any}
use Rattle.sr_message.specs.declared.message.AskPart.{AskPart}
use Rattle.sr_history.specs.declared.mark.Mark.{Mark}
use Rattle.sr_history.specs.declared.mark.Mark.TheVariants.{Dropped, Held}
use Rattle.sr_history.specs.Rests.{IsRest, Asks, nothing, asked, rest_of}
use Rattle.sr_runs.specs.Example.{ages, employee, employees, part, schema}

abbrev pub ask : ℕ → ℕ → AskPart
ask low high = record { table = 0; attrs = 3; rects = ages low high }

-- what is held after the first answer, and after all is dropped
abbrev pub held_1 : List Mark
held_1 = Held 0 3 (ages 30 40) ∷ []

abbrev pub lapsed : Mark
lapsed = Dropped Lapsed 0 3 1 (ages 30 40)

abbrev pub held_none : List Mark
held_none = lapsed ∷ held_1

-- a point of the table is a number, an age, a text and a number
pub record IsEmployee (p : Row) : Type 0 where
  pub id : ℤ
  pub age : ℤ
  pub name : List ℕ
  pub dept : ℤ
  pub is : p ≡ Num id ∷ Num age ∷ Str name ∷ Num dept ∷ []
  pub low : int_le (pos 0) age ≡ true
  pub high : int_le age (pos 150) ≡ true

pub an-employee : (p : Row) → IsTrue (is_point employees.columns p) → IsEmployee p
an-employee [] t = absurd (cc)
an-employee (Num m ∷ []) t = absurd (grind (arith, t))
an-employee (Str s ∷ q) t = absurd (cc)
an-employee (Null ∷ q) t = absurd (cc)
an-employee (Num m ∷ Num n ∷ []) t = absurd (grind (arith, t))
an-employee (Num m ∷ Str s ∷ q) t = absurd (grind (arith, t))
an-employee (Num m ∷ Null ∷ q) t = absurd (grind (arith, t))
an-employee (Num m ∷ Num n ∷ Num k ∷ q) t = absurd (grind (arith, t))
an-employee (Num m ∷ Num n ∷ Null ∷ q) t = absurd (grind (arith, t))
an-employee (Num m ∷ Num n ∷ Str s ∷ []) t = absurd (grind (arith, t))
an-employee (Num m ∷ Num n ∷ Str s ∷ Str e ∷ q) t = absurd (grind (arith, t))
an-employee (Num m ∷ Num n ∷ Str s ∷ Null ∷ q) t = absurd (grind (arith, t))
an-employee (Num m ∷ Num n ∷ Str s ∷ Num d ∷ []) t = record { id = m; age = n; name = s; dept = d; is = refl; low = grind (arith, t); high = grind (arith, t) }
an-employee (Num m ∷ Num n ∷ Str s ∷ Num d ∷ c ∷ q) t = absurd (grind (arith, t))

-- a fact about each point is one about each age
pub of-employees : (P : Row → Type 0) → ((m n : ℤ) (s : List ℕ) (d : ℤ) → int_le (pos 0) n ≡ true → int_le n (pos 150) ≡ true → P (Num m ∷ Num n ∷ Str s ∷ Num d ∷ []))
    → (p : Row) → IsTrue (is_point employees.columns p) → P p
of-employees P h p t = let e = an-employee p t in subst P (sym e.is) (h e.id e.age e.name e.dept e.low e.high)

pub same-points : (a b : Row → Bool) → ((m n : ℤ) (s : List ℕ) (d : ℤ) → int_le (pos 0) n ≡ true → int_le n (pos 150) ≡ true → a (Num m ∷ Num n ∷ Str s ∷ Num d ∷ []) ≡ b (Num m ∷ Num n ∷ Str s ∷ Num d ∷ []))
    → AreSame employees.columns a b
same-points a b h p t = of-employees (λ p. a p ≡ b p) h p t

first-same : AreSame employees.columns (in_any (ages 30 40)) (rest_of [] (part 30 40))
first-same = same-points _ _ (λ m n s d low high. grind arith)

second-same : AreSame employees.columns (in_any (ages 41 50)) (rest_of held_1 (part 35 50))
second-same = same-points _ _ (λ m n s d low high. grind arith)

whole-same : AreSame employees.columns (in_any (ages 35 50)) (rest_of held_none (part 35 50))
whole-same = same-points _ _ (λ m n s d low high. grind arith)

-- the points do not depend on the two last columns
abbrev DependsOnTwo : (Row → Bool) → Type 0
DependsOnTwo a = (x y z w u v : Cell) → a (x ∷ y ∷ z ∷ w ∷ []) ≡ a (x ∷ y ∷ u ∷ v ∷ [])

-- so only the two first ones can be essential
pub only-two : (a : Row → Bool) (c : ℕ) → DependsOnTwo a → IsEssential employees.columns a c → IsTrue (has_column 3 c)
only-two a zero two e = refl
only-two a (suc zero) two e = refl
only-two a (suc (suc c)) two e = absurd (by (an-employee e.inside e.is_inside.0) c e.is_inside.1 e.is_outside.1)
  where
    by : IsEmployee e.inside → (k : ℕ) → a e.inside ≡ true → a (slice_set e.inside (suc (suc k)) e.other) ≡ false → ⊥
    by p zero is out =
        let inside : a (Num p.id ∷ Num p.age ∷ Str p.name ∷ Num p.dept ∷ []) ≡ true = subst (λ q. a q ≡ true) p.is is in
        let outside : a (Num p.id ∷ Num p.age ∷ e.other ∷ Num p.dept ∷ []) ≡ false = subst (λ q. a (slice_set q 2 e.other) ≡ false) p.is out in
        both_ways _ outside (two (Num p.id) (Num p.age) e.other (Num p.dept) (Str p.name) (Num p.dept) ∙ inside)
    by p (suc zero) is out =
        let inside : a (Num p.id ∷ Num p.age ∷ Str p.name ∷ Num p.dept ∷ []) ≡ true = subst (λ q. a q ≡ true) p.is is in
        let outside : a (Num p.id ∷ Num p.age ∷ Str p.name ∷ e.other ∷ []) ≡ false = subst (λ q. a (slice_set q 3 e.other) ≡ false) p.is out in
        both_ways _ outside (two (Num p.id) (Num p.age) (Str p.name) e.other (Str p.name) (Num p.dept) ∙ inside)
    by p (suc (suc k)) is out =
        let inside : a (Num p.id ∷ Num p.age ∷ Str p.name ∷ Num p.dept ∷ []) ≡ true = subst (λ q. a q ≡ true) p.is is in
        let outside : a (Num p.id ∷ Num p.age ∷ Str p.name ∷ Num p.dept ∷ []) ≡ false = subst (λ q. a (slice_set q (suc (suc (suc (suc k)))) e.other) ≡ false) p.is out in
        both_ways _ outside inside

-- where the asked points are these, and one of them is there, this is asked
pub asks-ages : (marks : List Mark) (low high from to : ℕ) → IsRest schema marks (part low high) (ask from to) → Asks schema marks (part low high ∷ []) (ask from to ∷ [])
asks-ages marks low high from to rest = asked (part low high) [] (ask from to) [] rest nothing

pub first-asks : Asks schema [] (part 30 40 ∷ []) (ask 30 40 ∷ [])
first-asks = asks-ages [] 30 40 30 40 (record {
  table = refl;
  fits = refl;
  bound = refl;
  some = (employee 1 35 (codes "ann") 3, refl, refl);
  same = first-same;
  columns = λ c. (λ h. inl h, λ h. elim h [ inl need ↦ need | inr essential ↦ only-two _ c (λ x y z w u v. refl) essential ]);
})

pub second-asks : Asks schema held_1 (part 35 50 ∷ []) (ask 41 50 ∷ [])
second-asks = asks-ages held_1 35 50 41 50 (record {
  table = refl;
  fits = refl;
  bound = refl;
  some = (employee 2 45 (codes "bob") 3, refl, refl);
  same = second-same;
  columns = λ c. (λ h. inl h, λ h. elim h [ inl need ↦ need | inr essential ↦ only-two _ c (λ x y z w u v. refl) essential ]);
})

pub whole-asks : Asks schema held_none (part 35 50 ∷ []) (ask 35 50 ∷ [])
whole-asks = asks-ages held_none 35 50 35 50 (record {
  table = refl;
  fits = refl;
  bound = refl;
  some = (employee 1 35 (codes "ann") 3, refl, refl);
  same = whole-same;
  columns = λ c. (λ h. inl h, λ h. elim h [ inl need ↦ need | inr essential ↦ only-two _ c (λ x y z w u v. refl) essential ]);
})
