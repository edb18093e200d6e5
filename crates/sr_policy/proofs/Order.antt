-- The order in which classes are dropped is transitive, and no class goes before itself.
use Rattle.std.proofs.Common.{◌≡◌, ℕ, true, false, List, refl, arith}
use Rattle.std.specs.Prelude.{Bool, ◌&&◌, ◌||◌, ◌==◌, nat_lt, Option, Some, None}
use Rattle.std.proofs.lemmas.Bool.Decides.{nat_tests}
use Rattle.sr_policy.specs.declared.policy.Policy.{Policy}
use Rattle.sr_policy.specs.declared.policy.Policy.TheVariants.{Recency, Distance}
use Rattle.sr_policy.specs.declared.policy.ClassView.{ClassView}
use Rattle.sr_policy.specs.declared.policy.Last.{Last}
use Rattle.sr_policy.specs.Order.{is_older, far_from, is_farther, goes_before}

-- by a first number, and where that is equal by what is behind it
by_first-trans : (a b c : ℕ) (one two both : Bool) → (one ≡ true → two ≡ true → both ≡ true)
    → (nat_lt a b || (a == b && one)) ≡ true → (nat_lt b c || (b == c && two)) ≡ true → (nat_lt a c || (a == c && both)) ≡ true
by_first-trans a b c one two both more h k = grind (arith, nat_tests)

by_first-same : (a : ℕ) (more : Bool) → more ≡ false → (nat_lt a a || (a == a && more)) ≡ false
by_first-same a more h = grind (arith, nat_tests)

less-trans : (a b c : ℕ) → nat_lt a b ≡ true → nat_lt b c ≡ true → nat_lt a c ≡ true
less-trans a b c h k = grind (arith, nat_tests)

less-same : (a : ℕ) → nat_lt a a ≡ false
less-same a = grind (arith, nat_tests)

is_older-trans : (a b c : ClassView) → is_older a b ≡ true → is_older b c ≡ true → is_older a c ≡ true
is_older-trans a b c = by_first-trans a.stamp b.stamp c.stamp _ _ _ (by_first-trans a.table b.table c.table _ _ _ (less-trans a.attrs b.attrs c.attrs))

is_older-same : (a : ClassView) → is_older a a ≡ false
is_older-same a = by_first-same a.stamp _ (by_first-same a.table _ (less-same a.attrs))

is_farther-trans : (x y z : Option ℕ) (one two both : Bool) → (one ≡ true → two ≡ true → both ≡ true)
    → is_farther x y one ≡ true → is_farther y z two ≡ true → is_farther x z both ≡ true
is_farther-trans None None None one two both more h k = more h k
is_farther-trans None None (Some z) one two both more h k = refl
is_farther-trans None (Some y) None one two both more h k = absurd (cc)
is_farther-trans None (Some y) (Some z) one two both more h k = refl
is_farther-trans (Some x) None z one two both more h k = absurd (cc)
is_farther-trans (Some x) (Some y) None one two both more h k = absurd (cc)
is_farther-trans (Some x) (Some y) (Some z) one two both more h k = grind (arith, nat_tests)

is_farther-same : (x : Option ℕ) (more : Bool) → more ≡ false → is_farther x x more ≡ false
is_farther-same None more h = h
is_farther-same (Some x) more h = by_first-same x more h

goes_before-trans : (policy : Policy) (last : List Last) (a b c : ClassView) → goes_before policy last a b ≡ true → goes_before policy last b c ≡ true → goes_before policy last a c ≡ true
goes_before-trans Recency last a b c = is_older-trans a b c
goes_before-trans Distance last a b c = is_farther-trans (far_from last a) (far_from last b) (far_from last c) _ _ _ (is_older-trans a b c)

pub goes_before-same : (policy : Policy) (last : List Last) (a : ClassView) → goes_before policy last a a ≡ false
goes_before-same Recency last a = is_older-same a
goes_before-same Distance last a = is_farther-same (far_from last a) _ (is_older-same a)

-- what does not go before a class does not go before one that does
pub goes_before-none : (policy : Policy) (last : List Last) (a best next : ClassView) → goes_before policy last next best ≡ true → goes_before policy last a best ≡ false → goes_before policy last a next ≡ false
goes_before-none policy last a best next h k = let t = goes_before-trans policy last a next best in grind (arith, t)
