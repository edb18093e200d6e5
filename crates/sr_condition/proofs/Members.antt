-- The members of a list of conditions.
use Rattle.std.proofs.Common.{◌≡◌, ℕ, zero, suc, ◌+◌, ◌<◌, true, List, [], ◌∷◌, length, drop, slice_index_or, arith, ◌∙◌, ap, sym}
use Rattle.std.proofs.Math.Seq.{drop-cons, drop-length}
use Rattle.sr_cell.specs.declared.table.Table.{Table}
use Rattle.sr_model.specs.Conditions.{more, none}
use Rattle.sr_query.specs.Binding.{cond_of}
use Rattle.sr_query.specs.Meant.{meant, members}
use Rattle.sr_query.specs.declared.condition.Condition.{Condition}
use Rattle.sr_condition.specs.Suits.{suits, all_suit}

suit-in : (table : Table) (xs : List Condition) (i : ℕ) (d : Condition) → all_suit table (members xs) ≡ true → i < length xs → suits table (cond_of (meant (slice_index_or xs i d))) ≡ true
suit-in table [] i d h l = absurd (omega arith)
suit-in table (x ∷ xs) zero d h l = grind arith
suit-in table (x ∷ xs) (suc i) d h l = suit-in table xs i d (grind arith) (omega arith)

pub suits_at : (table : Table) (xs : List Condition) (i : ℕ) (x : Condition) → all_suit table (members xs) ≡ true → i < length xs → x ≡ slice_index_or xs i x → suits table (cond_of (meant x)) ≡ true
suits_at table xs i x h l e = ap (λ (y : Condition). suits table (cond_of (meant y))) e ∙ suit-in table xs i x h l

pub members_at : (xs : List Condition) (i : ℕ) (x : Condition) → i < length xs → x ≡ slice_index_or xs i x → members (drop i xs) ≡ more (cond_of (meant x)) (members (drop (i + 1) xs))
members_at xs i x l e =
    let next : suc i ≡ i + 1 = omega arith in
    ap members (drop-cons xs i x l) ∙ (ap (λ (y : Condition). members (y ∷ drop (suc i) xs)) (sym e) ∙ ap (λ (k : ℕ). members (x ∷ drop k xs)) next)

pub no_members : (xs : List Condition) → members (drop (length xs) xs) ≡ none
no_members xs = ap members (drop-length xs)
