-- The two sides of a condition, when it is true and when it is false: they go by its members, and NOT can be pushed inward to the tests.
use Rattle.std.specs.Prelude.{ℕ, Bool, true, false, not, ◌&&◌, ◌||◌, ◌≡◌}
use Rattle.sr_cell.specs.declared.cell.Cell.{Cell}
use Rattle.sr_model.specs.Conditions.{Cond, Conds, Tests, And, Or, Not, none, more, truth, is_so, negated}
use Rattle.sr_model.specs.Width.{width}

-- each member is true, or each is false
abbrev pub all_say : Bool → (ℕ → Cell) → Conds → Bool
all_say plain value none = true
all_say plain value (more c cs) = is_so plain (truth value c) && all_say plain value cs

-- some member is true, or some member is false
abbrev pub some_say : Bool → (ℕ → Cell) → Conds → Bool
some_say plain value none = false
some_say plain value (more c cs) = is_so plain (truth value c) || some_say plain value cs

abbrev pub all_true : (ℕ → Cell) → Conds → Bool
all_true value cs = all_say true value cs

-- AND is true where each member is, and false where one is; OR the other way round; and NOT changes the sides.
pub record SidesByMembers : Type 0 where
  pub and_true : (value : ℕ → Cell) (cs : Conds) → is_so true (truth value (And cs)) ≡ all_say true value cs
  pub and_false : (value : ℕ → Cell) (cs : Conds) → is_so false (truth value (And cs)) ≡ some_say false value cs
  pub or_true : (value : ℕ → Cell) (cs : Conds) → is_so true (truth value (Or cs)) ≡ some_say true value cs
  pub or_false : (value : ℕ → Cell) (cs : Conds) → is_so false (truth value (Or cs)) ≡ all_say false value cs
  pub other : (plain : Bool) (value : ℕ → Cell) (c : Cond) → is_so plain (truth value (Not c)) ≡ is_so (not plain) (truth value c)

-- the condition, or its contrary, with NOT before tests alone
abbrev mutual
  pub pushed : Bool → Cond → Cond
  pushed true (Tests c t) = Tests c t
  pushed false (Tests c t) = Not (Tests c t)
  pushed true (And cs) = And (all_pushed true cs)
  pushed false (And cs) = Or (all_pushed false cs)
  pushed true (Or cs) = Or (all_pushed true cs)
  pushed false (Or cs) = And (all_pushed false cs)
  pushed plain (Not c) = pushed (not plain) c

  pub all_pushed : Bool → Conds → Conds
  all_pushed plain none = none
  all_pushed plain (more c cs) = more (pushed plain c) (all_pushed plain cs)

-- Pushing NOT inward changes nothing that is known, and the width is that of what it gives.
pub record NotsPushInward : Type 0 where
  pub keeps : (value : ℕ → Cell) (c : Cond) → truth value (pushed true c) ≡ truth value c
  pub contrary : (value : ℕ → Cell) (c : Cond) → truth value (pushed false c) ≡ negated (truth value c)
  pub wide : (plain : Bool) (c : Cond) → width true (pushed plain c) ≡ width plain c
