-- The two sides of a condition go by its members; NOT pushed inward.
use Rattle.std.proofs.Common.{◌≡◌, ℕ, Bool, true, false, refl, sym, ◌∙◌, ap}
use Rattle.std.specs.Prelude.{not, ◌&&◌, ◌||◌, ◌+◌, ◌*◌}
use Rattle.sr_cell.specs.declared.cell.Cell.{Cell}
use Rattle.sr_model.specs.Conditions.{Truth, Known, Unknown, Cond, Conds, Tests, And, Or, Not, none, more, is_so, negated, both, either, truth, truth_of_all, truth_of_any}
use Rattle.sr_model.specs.Width.{capped, width, product, total}
use Rattle.sr_model.specs.Sides.{all_say, some_say, pushed, all_pushed, SidesByMembers, NotsPushInward}

-- ---- the sides

pub both-true : (a b : Truth) → is_so true (both a b) ≡ (is_so true a && is_so true b)
both-true (Known true) b = refl
both-true (Known false) b = refl
both-true Unknown (Known true) = refl
both-true Unknown (Known false) = refl
both-true Unknown Unknown = refl

pub both-false : (a b : Truth) → is_so false (both a b) ≡ (is_so false a || is_so false b)
both-false (Known true) b = refl
both-false (Known false) b = refl
both-false Unknown (Known true) = refl
both-false Unknown (Known false) = refl
both-false Unknown Unknown = refl

pub either-true : (a b : Truth) → is_so true (either a b) ≡ (is_so true a || is_so true b)
either-true (Known true) b = refl
either-true (Known false) b = refl
either-true Unknown (Known true) = refl
either-true Unknown (Known false) = refl
either-true Unknown Unknown = refl

pub either-false : (a b : Truth) → is_so false (either a b) ≡ (is_so false a && is_so false b)
either-false (Known true) b = refl
either-false (Known false) b = refl
either-false Unknown (Known true) = refl
either-false Unknown (Known false) = refl
either-false Unknown Unknown = refl

pub and-true : (value : ℕ → Cell) (cs : Conds) → is_so true (truth_of_all value cs) ≡ all_say true value cs
and-true value none = refl
and-true value (more c cs) = both-true (truth value c) (truth_of_all value cs) ∙ ap (λ b. is_so true (truth value c) && b) (and-true value cs)

pub and-false : (value : ℕ → Cell) (cs : Conds) → is_so false (truth_of_all value cs) ≡ some_say false value cs
and-false value none = refl
and-false value (more c cs) = both-false (truth value c) (truth_of_all value cs) ∙ ap (λ b. is_so false (truth value c) || b) (and-false value cs)

pub or-true : (value : ℕ → Cell) (cs : Conds) → is_so true (truth_of_any value cs) ≡ some_say true value cs
or-true value none = refl
or-true value (more c cs) = either-true (truth value c) (truth_of_any value cs) ∙ ap (λ b. is_so true (truth value c) || b) (or-true value cs)

pub or-false : (value : ℕ → Cell) (cs : Conds) → is_so false (truth_of_any value cs) ≡ all_say false value cs
or-false value none = refl
or-false value (more c cs) = either-false (truth value c) (truth_of_any value cs) ∙ ap (λ b. is_so false (truth value c) && b) (or-false value cs)

not-not : (b : Bool) → not (not b) ≡ b
not-not true = refl
not-not false = refl

pub not-side : (plain : Bool) (t : Truth) → is_so plain (negated t) ≡ is_so (not plain) t
not-side true (Known b) = refl
not-side true Unknown = refl
not-side false (Known b) = not-not b
not-side false Unknown = refl

pub sides_by_members : SidesByMembers
sides_by_members = record { and_true = and-true; and_false = and-false; or_true = or-true; or_false = or-false; other = λ plain value c. not-side plain (truth value c) }

-- ---- NOT pushed inward

negated-both : (a b : Truth) → negated (both a b) ≡ either (negated a) (negated b)
negated-both (Known true) b = refl
negated-both (Known false) b = refl
negated-both Unknown (Known true) = refl
negated-both Unknown (Known false) = refl
negated-both Unknown Unknown = refl

negated-either : (a b : Truth) → negated (either a b) ≡ both (negated a) (negated b)
negated-either (Known true) b = refl
negated-either (Known false) b = refl
negated-either Unknown (Known true) = refl
negated-either Unknown (Known false) = refl
negated-either Unknown Unknown = refl

negated-twice : (a : Truth) → negated (negated a) ≡ a
negated-twice (Known true) = refl
negated-twice (Known false) = refl
negated-twice Unknown = refl

mutual
  keeps : (value : ℕ → Cell) (c : Cond) → truth value (pushed true c) ≡ truth value c
  keeps value (Tests c t) = refl
  keeps value (And cs) = all-keep value cs
  keeps value (Or cs) = any-keep value cs
  keeps value (Not c) = contrary value c

  contrary : (value : ℕ → Cell) (c : Cond) → truth value (pushed false c) ≡ negated (truth value c)
  contrary value (Tests c t) = refl
  contrary value (And cs) = any-contrary value cs
  contrary value (Or cs) = all-contrary value cs
  contrary value (Not c) = keeps value c ∙ sym (negated-twice (truth value c))

  all-keep : (value : ℕ → Cell) (cs : Conds) → truth_of_all value (all_pushed true cs) ≡ truth_of_all value cs
  all-keep value none = refl
  all-keep value (more c cs) = ap (λ x. both x (truth_of_all value (all_pushed true cs))) (keeps value c) ∙ ap (both (truth value c)) (all-keep value cs)

  any-keep : (value : ℕ → Cell) (cs : Conds) → truth_of_any value (all_pushed true cs) ≡ truth_of_any value cs
  any-keep value none = refl
  any-keep value (more c cs) = ap (λ x. either x (truth_of_any value (all_pushed true cs))) (keeps value c) ∙ ap (either (truth value c)) (any-keep value cs)

  any-contrary : (value : ℕ → Cell) (cs : Conds) → truth_of_any value (all_pushed false cs) ≡ negated (truth_of_all value cs)
  any-contrary value none = refl
  any-contrary value (more c cs) =
      ap (λ x. either x (truth_of_any value (all_pushed false cs))) (contrary value c) ∙ (ap (either (negated (truth value c))) (any-contrary value cs)
      ∙ sym (negated-both (truth value c) (truth_of_all value cs)))

  all-contrary : (value : ℕ → Cell) (cs : Conds) → truth_of_all value (all_pushed false cs) ≡ negated (truth_of_any value cs)
  all-contrary value none = refl
  all-contrary value (more c cs) =
      ap (λ x. both x (truth_of_all value (all_pushed false cs))) (contrary value c) ∙ (ap (both (negated (truth value c))) (all-contrary value cs)
      ∙ sym (negated-either (truth value c) (truth_of_any value cs)))

mutual
  wide : (plain : Bool) (c : Cond) → width true (pushed plain c) ≡ width plain c
  wide true (Tests c t) = refl
  wide false (Tests c t) = refl
  wide true (And cs) = product-wide true cs
  wide false (And cs) = total-wide false cs
  wide true (Or cs) = total-wide true cs
  wide false (Or cs) = product-wide false cs
  wide true (Not c) = wide false c
  wide false (Not c) = wide true c

  product-wide : (plain : Bool) (cs : Conds) → product true (all_pushed plain cs) ≡ product plain cs
  product-wide plain none = refl
  product-wide plain (more c cs) = ap (λ n. capped (n * product true (all_pushed plain cs))) (wide plain c) ∙ ap (λ n. capped (width plain c * n)) (product-wide plain cs)

  total-wide : (plain : Bool) (cs : Conds) → total true (all_pushed plain cs) ≡ total plain cs
  total-wide plain none = refl
  total-wide plain (more c cs) = ap (λ n. capped (n + total true (all_pushed plain cs))) (wide plain c) ∙ ap (λ n. capped (width plain c + n)) (total-wide plain cs)

pub nots_push_inward : NotsPushInward
nots_push_inward = record { keeps = keeps; contrary = contrary; wide = wide }
