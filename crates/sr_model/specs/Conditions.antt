-- Conditions, and when they are true, false or unknown.
use Rattle.std.specs.Prelude.{ℕ, Bool, true, false, not, ◌&&◌, ◌||◌, List, [], ◌∷◌, ◌==◌}
use Rattle.std.specs.List.{list_any}
use Rattle.sr_cell.specs.declared.cell.Cell.{Cell}
use Rattle.sr_cell.specs.declared.cell.Cell.TheVariants.{Num, Str, Null}
use Rattle.sr_cell.specs.Cells.{cell_le, cell_eq, is_null}

-- a test of one value
pub data Test : Type 0 where
  Eq : Cell → Test
  Ne : Cell → Test
  Lt : Cell → Test
  Le : Cell → Test
  Gt : Cell → Test
  Ge : Cell → Test
  Between : Cell → Cell → Test
  OneOf : List Cell → Test
  Prefix : List ℕ → Test
  IsNull : Test

abbrev pub begins : List ℕ → List ℕ → Bool
begins [] s = true
begins (a ∷ p) [] = false
begins (a ∷ p) (b ∷ s) = a == b && begins p s

abbrev pub begins_cell : List ℕ → Cell → Bool
begins_cell p (Num n) = false
begins_cell p (Str s) = begins p s
begins_cell p Null = false

-- a test or a condition is known to be true, or to be false, or it is unknown
pub data Truth : Type 0 where
  Known : Bool → Truth
  Unknown : Truth

-- it is true, or it is false
abbrev pub is_so : Bool → Truth → Bool
is_so plain Unknown = false
is_so true (Known b) = b
is_so false (Known b) = not b

-- of Null it is unknown
abbrev pub on_value : Cell → Bool → Truth
on_value (Num n) b = Known b
on_value (Str s) b = Known b
on_value Null b = Unknown

-- each test of Null is unknown, but whether it is Null
abbrev pub tested : Test → Cell → Truth
tested (Eq w) v = on_value v (cell_eq v w)
tested (Ne w) v = on_value v (not (cell_eq v w))
tested (Lt w) v = on_value v (not (cell_le w v))
tested (Le w) v = on_value v (cell_le v w)
tested (Gt w) v = on_value v (not (cell_le v w))
tested (Ge w) v = on_value v (cell_le w v)
tested (Between a b) v = on_value v (cell_le a v && cell_le v b)
tested (OneOf ws) v = on_value v (list_any (cell_eq v) ws)
tested (Prefix p) v = on_value v (begins_cell p v)
tested IsNull v = Known (is_null v)

-- the test is true of the value
abbrev pub passes : Test → Cell → Bool
passes t v = is_so true (tested t v)

abbrev pub negated : Truth → Truth
negated (Known b) = Known (not b)
negated Unknown = Unknown

-- false where one is false, else unknown where one is unknown, else true
abbrev pub both : Truth → Truth → Truth
both (Known true) t = t
both (Known false) t = Known false
both Unknown (Known true) = Unknown
both Unknown (Known false) = Known false
both Unknown Unknown = Unknown

-- true where one is true, else unknown where one is unknown, else false
abbrev pub either : Truth → Truth → Truth
either (Known true) t = Known true
either (Known false) t = t
either Unknown (Known true) = Known true
either Unknown (Known false) = Unknown
either Unknown Unknown = Unknown

-- Tests of columns, joined by AND, OR and NOT; an AND of no members is true, an OR of none is false.
mutual
  pub data Cond : Type 0 where
    Tests : (column : ℕ) → Test → Cond
    And : Conds → Cond
    Or : Conds → Cond
    Not : Cond → Cond

  pub data Conds : Type 0 where
    none : Conds
    more : Cond → Conds → Conds

-- what is known of a condition, where value gives the columns' values
abbrev mutual
  pub truth : (ℕ → Cell) → Cond → Truth
  truth value (Tests c t) = tested t (value c)
  truth value (And cs) = truth_of_all value cs
  truth value (Or cs) = truth_of_any value cs
  truth value (Not c) = negated (truth value c)

  pub truth_of_all : (ℕ → Cell) → Conds → Truth
  truth_of_all value none = Known true
  truth_of_all value (more c cs) = both (truth value c) (truth_of_all value cs)

  pub truth_of_any : (ℕ → Cell) → Conds → Truth
  truth_of_any value none = Known false
  truth_of_any value (more c cs) = either (truth value c) (truth_of_any value cs)

-- the condition is true
abbrev pub is_true : (ℕ → Cell) → Cond → Bool
is_true value c = is_so true (truth value c)
