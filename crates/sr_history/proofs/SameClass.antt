-- Classes with the same table, columns and stamp.
use Rattle.std.proofs.Common.{ℕ, ◌≡◌, true, arith}
use Rattle.std.proofs.lemmas.Bool.Decides.{nat_tests}
use Rattle.sr_history.specs.Classes.{Class, stamp, same_class}

abbrev pub made : ℕ → ℕ → ℕ → Class
made t a n = record { table = t; attrs = a; stamp = n }

pub same-fields : (t a n u b m : ℕ) → t ≡ u → a ≡ b → n ≡ m → made t a n ≡ made u b m
same-fields t a n u b m table attrs stamp = cc

pub same_class-sound : (a b : Class) → same_class a b ≡ true → a ≡ b
same_class-sound a b e = same-fields a.table a.attrs a.stamp b.table b.attrs b.stamp (grind (arith, nat_tests)) (grind (arith, nat_tests)) (grind (arith, nat_tests))
