-- The conjuncts on a part suit its table.
use Rattle.std.proofs.Common.{◌≡◌, ℕ, Bool, true, false, List, [], ◌∷◌, refl, sym, subst, ◌∙◌}
use Rattle.std.specs.Prelude.{◌==◌, ◌&&◌, Result, Ok, Err, filter, if◌then◌else◌, length, nat_lt}
use Rattle.std.specs.List.{list_all}
use Rattle.std.proofs.lemmas.Bool.{eqb-true, and_parts}
use Rattle.std.specs.Cmp.Derive.{both_true}
use Rattle.std.proofs.lemmas.List.Folds.{list_all-append}
use Rattle.sr_cell.specs.declared.fault.Fault.{Fault}
use Rattle.sr_cell.specs.declared.fault.Why.TheVariants.{Mixed}
use Rattle.sr_cell.specs.declared.table.Table.{Table}
use Rattle.sr_model.specs.Conditions.{Test, Tests}
use Rattle.sr_model.specs.Queries.{Output}
use Rattle.sr_query.specs.Binding.{fault, ◌>>=◌, each, Bound, Bounds, Testing, Conjunction, Disjunction, Negation, no_more, one_more, table_of_part, column_of, cond_of, conds_of, list_conds, references, all_references, stranger, names_one, is_of_part}
use Rattle.sr_resolve.specs.Known.{is_within}
use Rattle.sr_condition.specs.Suits.{test_suits, suits, all_suit}
use Rattle.sr_bind.specs.AreBound.{are_bound, all_are_bound}
use Rattle.sr_bind.specs.OneTable.{one_table, is_on}

-- the references are to that part
abbrev all_on : ℕ → List (ℕ × Output) → Bool
all_on part references = list_all (λ r. r.1.part == part) references

stranger_on : (part : ℕ) (references : List (ℕ × Output)) → stranger part references ≡ Ok tt → all_on part references ≡ true
stranger_on part [] e = refl
stranger_on part ((place, o) ∷ others) e = go (o.part == part) refl (stranger_on part others) e
  where
    go : (x : Bool) → (o.part == part) ≡ x → (stranger part others ≡ Ok tt → all_on part others ≡ true)
        → (if x then stranger part others else fault Mixed place) ≡ Ok tt → all_on part ((place, o) ∷ others) ≡ true
    go true is rest e = rw is (rest e)
    go false is rest e = absurd cc

names_on : (part : ℕ) (references : List (ℕ × Output)) → names_one references ≡ Ok tt → is_of_part part references ≡ true → all_on part references ≡ true
names_on part [] e is = refl
names_on part ((place, o) ∷ others) e is =
    let same : o.part ≡ part = eqb-true o.part part is in
    rw is (stranger_on part others (subst (λ p. stranger p others ≡ Ok tt) same e))

tested : (schema : List Table) (tables : List ℕ) (part : ℕ) (o : Output) (t : Test) → (o.part == part) ≡ true
    → (is_within schema tables o && test_suits (column_of schema tables o).kind t) ≡ true → suits (table_of_part schema tables part) (Tests o.column t) ≡ true
tested schema tables part o t is bound =
    let a = and_parts (is_within schema tables o) _ bound in
    let b = and_parts (nat_lt o.part (length tables)) _ a.0 in
    let suit : suits (table_of_part schema tables o.part) (Tests o.column t) ≡ true = both_true b.1 a.1 in
    subst (λ n. suits (table_of_part schema tables n) (Tests o.column t) ≡ true) (eqb-true o.part part is) suit

mutual
  one_suits : (schema : List Table) (tables : List ℕ) (part : ℕ) (b : Bound) → are_bound schema tables b ≡ true → all_on part (references b) ≡ true
      → suits (table_of_part schema tables part) (cond_of b) ≡ true
  one_suits schema tables part (Testing place o t) bound on = tested schema tables part o t (and_parts (o.part == part) true on).0 bound
  one_suits schema tables part (Conjunction bs) bound on = all_suits schema tables part bs bound on
  one_suits schema tables part (Disjunction bs) bound on = all_suits schema tables part bs bound on
  one_suits schema tables part (Negation b) bound on = one_suits schema tables part b bound on

  all_suits : (schema : List Table) (tables : List ℕ) (part : ℕ) (bs : Bounds) → all_are_bound schema tables bs ≡ true → all_on part (all_references bs) ≡ true
      → all_suit (table_of_part schema tables part) (conds_of bs) ≡ true
  all_suits schema tables part no_more bound on = refl
  all_suits schema tables part (one_more b bs) bound on =
      let x = and_parts (are_bound schema tables b) _ bound in
      let y = and_parts (all_on part (references b)) _ (sym (list_all-append (λ r. r.1.part == part) (references b) (all_references bs)) ∙ on) in
      both_true (one_suits schema tables part b x.0 y.0) (all_suits schema tables part bs x.1 y.1)

first_and_rest : (x : Result (Unit {0}) Fault) (y : Result (List (Unit {0})) Fault) (us : List (Unit {0})) → (x >>= λ u. y >>= λ vs. Ok (u ∷ vs)) ≡ Ok us
    → (x ≡ Ok tt) × ((vs : List (Unit {0})) × (y ≡ Ok vs))
first_and_rest (Ok u) (Ok vs) us e = (refl, (vs, refl))
first_and_rest (Ok u) (Err f) us e = absurd cc
first_and_rest (Err f) y us e = absurd cc

-- the conjuncts on a part suit its table
pub own_suit : (schema : List Table) (tables : List ℕ) (part : ℕ) (bs : List Bound) (us : List (Unit {0})) → list_all (are_bound schema tables) bs ≡ true → each one_table bs ≡ Ok us
    → all_suit (table_of_part schema tables part) (list_conds (filter (is_on part) bs)) ≡ true
own_suit schema tables part [] us bound apart = refl
own_suit schema tables part (b ∷ bs) us bound apart =
    let x = and_parts (are_bound schema tables b) _ bound in
    let y = first_and_rest (one_table b) (each one_table bs) us apart in
    go (is_on part b) refl x.0 y.0 (own_suit schema tables part bs y.1.0 x.1 y.1.1)
  where
    go : (z : Bool) → is_on part b ≡ z → are_bound schema tables b ≡ true → one_table b ≡ Ok tt
        → all_suit (table_of_part schema tables part) (list_conds (filter (is_on part) bs)) ≡ true
        → all_suit (table_of_part schema tables part) (list_conds (if z then b ∷ filter (is_on part) bs else filter (is_on part) bs)) ≡ true
    go true is bound one rest = both_true (one_suits schema tables part b bound (names_on part (references b) one is)) rest
    go false is bound one rest = rest
