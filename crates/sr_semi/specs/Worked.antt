-- A worked example: the employees of some ages, with their departments.
use Rattle.std.specs.Prelude.{ℕ, pos, false, List, [], ◌∷◌, Some, codes, ◌≡◌}
use Rattle.sr_cell.specs.declared.cell.Cell.{Cell}
use Rattle.sr_cell.specs.declared.cell.Cell.TheVariants.{Num, Str}
use Rattle.sr_cell.specs.declared.table.Kind.TheVariants.{Num as Numbers, Str as Texts}
use Rattle.sr_cell.specs.declared.table.Table.{Table}
use Rattle.sr_cell.specs.Cells.{Row}
use Rattle.sr_grammar.specs.declared.statement.Atom.TheVariants.{Between}
use Rattle.sr_grammar.specs.Trees.{Test}
use Rattle.sr_semi.specs.declared.stage.Next.TheVariants.{Run, Joined, Plain}
use Rattle.sr_semi.specs.declared.stage.Stage.TheVariants.{Left, LeftAgain, Right, Over}
use Rattle.sr_semi.specs.Going.{step_of}
use Rattle.sr_semi.specs.Keys.{most_keys}
use Rattle.sr_semi.specs.Sides.{Sides}
use Rattle.sr_semi.specs.Texts.{text_of}

abbrev pub employees : Table
employees = record {
  name = codes "emp";
  columns = record { name = codes "id"; kind = Numbers; lo = pos 0; hi = pos 9999; nullable = false }
      ∷ record { name = codes "age"; kind = Numbers; lo = pos 0; hi = pos 150; nullable = false }
      ∷ record { name = codes "name"; kind = Texts; lo = pos 0; hi = pos 0; nullable = false }
      ∷ record { name = codes "dept"; kind = Numbers; lo = pos 0; hi = pos 99; nullable = false } ∷ [];
  key = 0;
}

abbrev pub departments : Table
departments = record {
  name = codes "dept";
  columns = record { name = codes "no"; kind = Numbers; lo = pos 0; hi = pos 99; nullable = false }
      ∷ record { name = codes "title"; kind = Texts; lo = pos 0; hi = pos 0; nullable = false } ∷ [];
  key = 0;
}

abbrev pub of_ages : List ℕ
of_ages = codes "SELECT id, age, dept FROM emp WHERE emp.age BETWEEN 30 AND 40"

abbrev pub of_keys : List ℕ
of_keys = codes "SELECT no, title FROM dept WHERE no IN (3, 4)"

-- SELECT emp.id, dept.title FROM emp JOIN dept ON emp.dept = dept.no WHERE emp.age BETWEEN 30 AND 40
abbrev pub join : Sides
join = record {
  left = record { text = of_ages; need = 11; column = 3 };
  right = record { table = departments; need = 3; conjuncts = []; width = 1 };
  outputs = record { part = 0; column = 0 } ∷ record { part = 1; column = 1 } ∷ [];
}

-- id, age, dept
abbrev pub employee : ℕ → ℕ → ℕ → Row
employee id age dept = Num (pos id) ∷ Num (pos age) ∷ Num (pos dept) ∷ []

abbrev pub department : ℕ → List ℕ → Row
department n title = Num (pos n) ∷ Str title ∷ []

abbrev pub lefts : List Row
lefts = employee 1 35 3 ∷ employee 3 33 4 ∷ []

abbrev pub rights : List Row
rights = department 3 (codes "ink") ∷ department 4 (codes "lab") ∷ []

abbrev pub keys : List Cell
keys = Num (pos 3) ∷ Num (pos 4) ∷ []

pub record Worked : Type 0 where
  pub first : text_of employees 11
      (Test (record { table = Some (codes "emp"); column = codes "age"; place = 0 })
      (Between (record { cell = Num (pos 30); place = 0 }) (record { cell = Num (pos 40); place = 0 })) ∷ []) ≡ of_ages
  pub second : step_of join Left 3 lefts ≡ record { next = Run of_keys; stage = Right 3 keys lefts }
  pub done : step_of join (Right 3 keys lefts) 3 rights
      ≡ record { next = Joined 3 2 ((Num (pos 1) ∷ Str (codes "ink") ∷ []) ∷ (Num (pos 3) ∷ Str (codes "lab") ∷ []) ∷ []); stage = Over }
  pub again : step_of join (Right 3 keys lefts) 4 rights ≡ record { next = Run of_ages; stage = LeftAgain 4 keys rights }
  pub plain : step_of join (LeftAgain 4 keys rights) 4 (employee 1 35 9 ∷ []) ≡ record { next = Plain; stage = Over }
  pub few : most_keys 3 ≡ 21
