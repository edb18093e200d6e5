-- The columns of a table are not empty, and lie far inside.
use Rattle.std.proofs.Common.{◌≡◌, ℕ, ℤ, ◌≤◌, Bool, true, List, [], ◌∷◌, length, arith, refl}
use Rattle.std.specs.Prelude.{not, int_le, pos, negsuc, ◌&&◌}
use Rattle.std.specs.List.{list_all}
use Rattle.std.proofs.lemmas.Int.{ints}
use Rattle.std.proofs.lemmas.Bool.Decides.{nat_tests}
use Rattle.sr_cell.specs.declared.table.Kind.{Kind}
use Rattle.sr_cell.specs.declared.table.Kind.TheVariants.{Num as Numbers, Str as Texts}
use Rattle.sr_cell.specs.declared.table.Column.{Column}
use Rattle.sr_cell.specs.declared.table.Table.{Table}
use Rattle.sr_cell.specs.Columns.{in_kind}
use Rattle.sr_cell.specs.Names.{is_bad_domain}
use Rattle.sr_box.specs.Corners.{first_value, have_first}
use Rattle.sr_query.specs.Bound.{is_table}
use Rattle.sr_union.specs.Grid.{all_inner, is_inner_kind}

abbrev is_good : Kind → ℤ → ℤ → Bool
is_good Numbers low high = int_le low high && (int_le (negsuc 1099511627775) low && int_le high (pos 1099511627775))
is_good Texts low high = true

inner_one : (k : Kind) (low high : ℤ) → is_good k low high ≡ true → is_inner_kind k low high ≡ true
inner_one Numbers low high h = grind (arith, ints)
inner_one Texts low high h = refl

first_one : (k : Kind) (low high : ℤ) (nullable : Bool) → is_good k low high ≡ true → in_kind k low high nullable (first_value k low) ≡ true
first_one Numbers low high nullable h = grind (arith, ints)
first_one Texts low high nullable h = refl

good_from : (k : Kind) (name : List ℕ) (low high : ℤ) (nullable : Bool) → not (is_bad_domain (record { name = name; kind = k; lo = low; hi = high; nullable = nullable })) ≡ true → is_good k low high ≡ true
good_from Numbers name low high nullable h = grind arith
good_from Texts name low high nullable h = refl

pub inner_all : (cs : List Column) → list_all (λ c. not (is_bad_domain c)) cs ≡ true → all_inner cs ≡ true
inner_all [] h = refl
inner_all (c ∷ cs) h = let good = good_from c.kind c.name c.lo c.hi c.nullable (grind arith) in let one = inner_one c.kind c.lo c.hi good in let ih = inner_all cs (grind arith) in grind (arith, one, ih)

pub first_all : (cs : List Column) → list_all (λ c. not (is_bad_domain c)) cs ≡ true → have_first cs ≡ true
first_all [] h = refl
first_all (c ∷ cs) h = let good = good_from c.kind c.name c.lo c.hi c.nullable (grind arith) in let one = first_one c.kind c.lo c.hi c.nullable good in let ih = first_all cs (grind arith) in grind (arith, one, ih)

pub table_inner : (t : Table) → is_table t ≡ true → all_inner t.columns ≡ true
table_inner t h = inner_all t.columns (grind arith)

pub table_first : (t : Table) → is_table t ≡ true → have_first t.columns ≡ true
table_first t h = first_all t.columns (grind arith)

pub table_few : (t : Table) → is_table t ≡ true → length t.columns ≤ 12
table_few t h = grind (arith, nat_tests)
