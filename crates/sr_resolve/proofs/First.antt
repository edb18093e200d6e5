-- The first of the tables of a query.
use Rattle.std.proofs.Common.{◌≡◌, ℕ, zero, suc, Bool, true, nat_lt, List, [], ◌∷◌, take, length, refl, arith, IsTrue}
use Rattle.std.specs.List.{list_all}
use Rattle.std.proofs.lemmas.List.{length-take, get_or-take}
use Rattle.sr_cell.specs.declared.table.Table.{Table}
use Rattle.sr_model.specs.Queries.{Output}
use Rattle.sr_resolve.specs.Known.{are_known, is_within}

all_first : (p : ℕ → Bool) (xs : List ℕ) (n : ℕ) → list_all p xs ≡ true → list_all p (take n xs) ≡ true
all_first p [] zero h = refl
all_first p [] (suc n) h = refl
all_first p (x ∷ xs) zero h = refl
all_first p (x ∷ xs) (suc n) h = let rest = all_first p xs n in grind (arith, rest)

pub known_first : (schema : List Table) (tables : List ℕ) (n : ℕ) → IsTrue (are_known schema tables) → IsTrue (are_known schema (take n tables))
known_first schema tables n h =
    let all = all_first (λ t. nat_lt t (length schema)) tables n in let few = length-take n tables in grind (arith, all, few, h)

pub within_first : (schema : List Table) (tables : List ℕ) (n : ℕ) (o : Output) → IsTrue (is_within schema (take n tables) o) → IsTrue (is_within schema tables o)
within_first schema tables n o h =
    let few = length-take n tables in let same = get_or-take n tables o.part 0 in grind (arith, few, same, h)
