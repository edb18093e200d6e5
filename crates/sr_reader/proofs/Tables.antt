-- A table without a fault is one that a schema takes.
use Rattle.std.proofs.Common.{◌≡◌, ℕ, ◌+◌, Bool, true, false, List, [], ◌∷◌, ◌++◌, length, refl, arith}
use Rattle.std.specs.Prelude.{Option, Some, None, ◌&&◌, not, nat_lt, nat_le, slice_get, if◌then◌else◌}
use Rattle.std.specs.List.{list_all}
use Rattle.std.proofs.lemmas.Bool.Decides.{nat_tests}
use Rattle.std.proofs.lemmas.Bool.{and_parts}
use Rattle.sr_cell.specs.declared.table.Column.{Column}
use Rattle.sr_cell.specs.declared.table.Table.{Table}
use Rattle.sr_cell.specs.declared.fault.Fault.{Fault}
use Rattle.sr_cell.specs.declared.fault.Why.{Why}
use Rattle.sr_cell.specs.Names.{is_bad_domain, bad_domain_from, has_table_named, repeat_at}
use Rattle.sr_cell.specs.Faults.{fault_or, may_be_null, null_fault, column_fault, fault_with}
use Rattle.sr_query.specs.Bound.{is_table}

no_bad : (n : ℕ) (columns : List Column) → bad_domain_from n columns ≡ None → list_all (λ c. not (is_bad_domain c)) columns ≡ true
no_bad n [] none = refl
no_bad n (column ∷ columns) none = by (is_bad_domain column) refl (no_bad (n + 1) columns) none
  where
    by : (b : Bool) → is_bad_domain column ≡ b → (bad_domain_from (n + 1) columns ≡ None → list_all (λ c. not (is_bad_domain c)) columns ≡ true) → (if b then Some n else bad_domain_from (n + 1) columns) ≡ None
        → (not (is_bad_domain column) && list_all (λ c. not (is_bad_domain c)) columns) ≡ true
    by true bad others none = absurd cc
    by false good others none = rw (good, others none) refl

first_none : (why : Why) (o : Option ℕ) (next : Option Fault) → fault_or why o next ≡ None → (o ≡ None) × (next ≡ None)
first_none why None next none = (refl, none)
first_none why (Some at) next none = absurd cc

then_none : (b : Bool) (fault : Fault) (next : Option Fault) → (if b then Some fault else next) ≡ None → (b ≡ false) × (next ≡ None)
then_none true fault next none = absurd cc
then_none false fault next none = (refl, none)

at_most : (n most : ℕ) → nat_lt most n ≡ false → nat_le n most ≡ true
at_most n most few = grind (arith, nat_tests)

less : (k n : ℕ) → nat_le n k ≡ false → nat_lt k n ≡ true
less k n inside = grind (arith, nat_tests)

never : (b : Bool) (fault : Fault) → (if b then Some fault else None) ≡ None → not b ≡ true
never true fault none = absurd cc
never false fault none = refl

of_columns : (t : Table) → column_fault true t ≡ None → is_table t ≡ true
of_columns t none =
    let few = then_none (nat_lt 12 (length t.columns)) _ _ none in
    let inside = then_none (nat_le (length t.columns) t.key) _ _ few.1 in
    let good = first_none _ (bad_domain_from 0 t.columns) (null_fault true t) inside.1 in
    let key = never (may_be_null (slice_get t.columns t.key)) _ good.1 in
    rw (at_most (length t.columns) 12 few.0, less t.key (length t.columns) inside.0, no_bad 0 t.columns good.0, key) refl

-- a table behind others of a schema
pub faultless_fits : (tables : List Table) (t : Table) → fault_with true tables t ≡ None → is_table t ≡ true
faultless_fits tables t none =
    let named = then_none (has_table_named tables t.name) _ _ none in
    let apart = first_none _ (repeat_at [] t.columns) _ named.1 in
    let few = then_none (nat_le 16 (length tables)) _ _ apart.1 in
    of_columns t few.1

pub tables_grow : (tables : List Table) (t : Table) → list_all is_table tables ≡ true → is_table t ≡ true → list_all is_table (tables ++ t ∷ []) ≡ true
tables_grow [] t all is = rw is refl
tables_grow (u ∷ tables) t all is =
    let p = and_parts (is_table u) (list_all is_table tables) all in
    rw (p.0, tables_grow tables t p.1 is) refl
