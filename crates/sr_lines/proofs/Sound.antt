-- Each query that a statement asks is sound.
use Rattle.std.proofs.Common.{◌≡◌, ℕ, zero, suc, ◌+◌, ◌^◌, ◌<◌, Bool, true, false, List, [], ◌∷◌, ◌++◌, length, refl, sym, ap, subst, ◌∙◌, arith, ltb-true}
use Rattle.std.specs.Prelude.{◌==◌, nat_le, nat_lt, slice_get, map, flat_map, Ok, if◌then◌else◌}
use Rattle.std.specs.List.{list_all}
use Rattle.std.specs.Cmp.Derive.{both_true}
use Rattle.std.proofs.lemmas.Bool.{and_parts}
use Rattle.std.proofs.lemmas.Bool.Decides.{nat_tests}
use Rattle.std.proofs.lemmas.List.Folds.{list_all-append, list_all-map}
use Rattle.sr_cell.specs.declared.fault.Why.TheVariants.{TooWide}
use Rattle.sr_cell.specs.declared.table.Table.{Table}
use Rattle.sr_cell.specs.Columns.{table_at}
use Rattle.sr_cell.specs.Attrs.{has_column}
use Rattle.sr_cell.proofs.Results.{same_Ok}
use Rattle.sr_grammar.specs.Trees as tree
use Rattle.sr_model.specs.Queries.{Part, Join, Output, Query}
use Rattle.sr_model.specs.Width.{width}
use Rattle.sr_query.specs.Binding.{fault, ◌>>=◌, each, sources, tables_from, joins_from, outputs_of, filter_bound, names_one, cond_of, references, narrow, needed, named_columns, join_columns, part_condition, part_of, parts_from, Bound, bound_select}
use Rattle.sr_query.proofs.Steps.{split_ok}
use Rattle.sr_query.specs.Joined.{needs_column, is_needed}
use Rattle.sr_lines.specs.Short.{has_short_texts}
use Rattle.sr_lines.specs.Sound.{is_sound_part, is_sound, BoundAreSound}
use Rattle.sr_lines.proofs.Sets.{needed_keeps, one_column, is_covered, covers}
use Rattle.sr_lines.proofs.Compared.{conjuncts_in}
use Rattle.sr_lines.proofs.Short.{filter_short, part_short}
use Rattle.sr_query.proofs.Steps.{split_ok}
use Rattle.sr_lines.proofs.Selected.{tables_known, is_of, outputs_of_parts}

-- what is not too wide is as it was
narrow_same : (p q : Part) → narrow p ≡ Ok q → p ≡ q
narrow_same p q e = go (nat_lt 64 (width true p.condition)) e
  where
    go : (b : Bool) → (if b then fault TooWide (width true p.condition) else Ok p) ≡ Ok q → p ≡ q
    go true e = absurd cc
    go false e = same_Ok p q e

pub all_narrow : (ps qs : List Part) → each narrow ps ≡ Ok qs → ps ≡ qs
all_narrow [] qs e = same_Ok [] qs e
all_narrow (p ∷ ps) qs e =
    let first = split_ok (narrow p) (λ b. each narrow ps >>= λ bs. Ok (b ∷ bs)) qs e in
    let others = split_ok (each narrow ps) (λ bs. Ok (first.0 ∷ bs)) qs first.2 in
    ap (λ z. z ∷ ps) (narrow_same p first.0 first.1) ∙ (ap (λ z. first.0 ∷ z) (all_narrow ps others.0 others.1) ∙ same_Ok (first.0 ∷ others.0) qs others.2)

narrow_is : (p q : Part) → narrow p ≡ Ok q → nat_le (width true p.condition) 64 ≡ true
narrow_is p q e = go (nat_lt 64 (width true p.condition)) refl e
  where
    go : (b : Bool) → nat_lt 64 (width true p.condition) ≡ b → (if b then fault TooWide (width true p.condition) else Ok p) ≡ Ok q → nat_le (width true p.condition) 64 ≡ true
    go true wide e = absurd cc
    go false fits e = grind (arith, nat_tests, fits)

are_narrow : (ps qs : List Part) → each narrow ps ≡ Ok qs → list_all (λ p. nat_le (width true p.condition) 64) ps ≡ true
are_narrow [] qs e = refl
are_narrow (p ∷ ps) qs e =
    let first = split_ok (narrow p) (λ b. each narrow ps >>= λ bs. Ok (b ∷ bs)) qs e in
    let others = split_ok (each narrow ps) (λ bs. Ok (first.0 ∷ bs)) qs first.2 in
    both_true (narrow_is p first.0 first.1) (are_narrow ps others.0 others.1)

-- ---- the columns that a query names

named_parts : (p : Output → Bool) (outputs : List Output) (joins : List Join) (bs : List Bound) → list_all p (named_columns outputs joins bs) ≡ true
    → (list_all p outputs ≡ true) × (list_all (λ r. p r.1) (flat_map references bs) ≡ true)
named_parts p outputs joins bs all =
    let compared = map (λ (r : ℕ × Output). r.1) (flat_map references bs) in
    let a = and_parts (list_all p outputs) (list_all p (flat_map join_columns joins ++ compared)) (sym (list_all-append p outputs (flat_map join_columns joins ++ compared)) ∙ all) in
    let b = and_parts (list_all p (flat_map join_columns joins)) (list_all p compared) (sym (list_all-append p (flat_map join_columns joins) compared) ∙ a.1) in
    (a.0, sym (list_all-map p (λ (r : ℕ × Output). r.1) (flat_map references bs)) ∙ b.1)

pub joined_parts : (p : Output → Bool) (outputs : List Output) (joins : List Join) (bs : List Bound) → list_all p (named_columns outputs joins bs) ≡ true → list_all p (flat_map join_columns joins) ≡ true
joined_parts p outputs joins bs all =
    let compared = map (λ (r : ℕ × Output). r.1) (flat_map references bs) in
    let a = and_parts (list_all p outputs) (list_all p (flat_map join_columns joins ++ compared)) (sym (list_all-append p outputs (flat_map join_columns joins ++ compared)) ∙ all) in
    (and_parts (list_all p (flat_map join_columns joins)) (list_all p compared) (sym (list_all-append p (flat_map join_columns joins) compared) ∙ a.1)).0

-- ---- the parts

part_sound : (schema : List Table) (part t : ℕ) (outputs : List Output) (joins : List Join) (bs : List Bound) (us : List (Unit {0})) → each (λ b. names_one (references b)) bs ≡ Ok us → nat_lt t (length schema) ≡ true
    → nat_le (width true (part_condition part bs)) 64 ≡ true → list_all (λ b. has_short_texts (cond_of b)) bs ≡ true → is_sound_part schema (part_of schema part t (named_columns outputs joins bs) bs) ≡ true
part_sound schema part t outputs joins bs us named known few short =
    let columns = named_columns outputs joins bs in
    let key = (table_at schema t).key in
    let covered = named_parts (is_covered part (needed part columns (2 ^ key))) outputs joins bs (covers part columns (2 ^ key)) in
    both_true (both_true (both_true known (needed_keeps part columns (2 ^ key) key (one_column key))) (conjuncts_in part (needed part columns (2 ^ key)) bs us named covered.1)) (both_true few (part_short part bs short))

parts_sound : (schema : List Table) (part : ℕ) (tables : List ℕ) (outputs : List Output) (joins : List Join) (bs : List Bound) (us : List (Unit {0})) → each (λ b. names_one (references b)) bs ≡ Ok us
    → list_all (λ t. nat_lt t (length schema)) tables ≡ true → list_all (λ (p : Part). nat_le (width true p.condition) 64) (parts_from schema part tables (named_columns outputs joins bs) bs) ≡ true
    → list_all (λ b. has_short_texts (cond_of b)) bs ≡ true → list_all (is_sound_part schema) (parts_from schema part tables (named_columns outputs joins bs) bs) ≡ true
parts_sound schema part [] outputs joins bs us named known few short = refl
parts_sound schema part (t ∷ tables) outputs joins bs us named known few short =
    let p = and_parts (nat_lt t (length schema)) _ known in
    let w = and_parts (nat_le (width true (part_condition part bs)) 64) _ few in
    both_true (part_sound schema part t outputs joins bs us named p.0 w.0 short) (parts_sound schema (part + 1) tables outputs joins bs us named p.1 w.1 short)

-- ---- the outputs

-- the part of that number needs the column
at_part : (schema : List Table) (part : ℕ) (tables : List ℕ) (columns : List Output) (bs : List Bound) (k n c : ℕ) → n ≡ part + k → k < length tables → ((start : ℕ) → has_column (needed n columns start) c ≡ true)
    → needs_column c (slice_get (parts_from schema part tables columns bs) k) ≡ true
at_part schema part [] columns bs k n c is within has = absurd (omega arith)
at_part schema part (t ∷ tables) columns bs zero n c is within has =
    let same : n ≡ part = omega arith in subst (λ z. has_column (needed z columns (2 ^ (table_at schema t).key)) c ≡ true) same (has (2 ^ (table_at schema t).key))
at_part schema part (t ∷ tables) columns bs (suc k) n c is within has = at_part schema (part + 1) tables columns bs k n c (omega arith) (omega arith) has

own : (o : Output) (attrs : ℕ) → is_covered o.part attrs o ≡ true → has_column attrs o.column ≡ true
own o attrs covered = let same : (o.part == o.part) ≡ true = grind (arith, nat_tests) in (let has = rw same at covered in has)

-- an output of a list, all of which are covered
pub outputs_sound : (schema : List Table) (tables : List ℕ) (columns : List Output) (bs : List Bound) (outputs : List Output) → ((part start : ℕ) → list_all (is_covered part (needed part columns start)) outputs ≡ true)
    → list_all (is_of (length tables)) outputs ≡ true → list_all (is_needed (parts_from schema 0 tables columns bs)) outputs ≡ true
outputs_sound schema tables columns bs [] covered near = refl
outputs_sound schema tables columns bs (o ∷ outputs) covered near =
    let p = and_parts (is_of (length tables) o) _ near in
    both_true
    (at_part schema 0 tables columns bs o.part o.part o.column (omega arith) (ltb-true o.part (length tables) p.0) (λ start. own o (needed o.part columns start) (and_parts (is_covered o.part (needed o.part columns start) o) _ (covered o.part start)).0))
    (outputs_sound schema tables columns bs outputs (λ part start. (and_parts (is_covered part (needed part columns start) o) _ (covered part start)).1) p.1)

-- ---- a query

abbrev pub made : List Part → List Join → List Output → Query
made parts joins outputs = record { parts = parts; joins = joins; outputs = outputs }

select_sound : (schema : List Table) (s : tree.Select) (q : Query) → bound_select schema s ≡ Ok q → is_sound schema q ≡ true
select_sound schema s q e =
    let tables = split_ok (tables_from schema [] (sources s)) _ q e in
    let joins = split_ok (joins_from schema tables.0 1 s.joins) _ q tables.2 in
    let outputs = split_ok (outputs_of schema tables.0 s) _ q joins.2 in
    let bs = split_ok (filter_bound schema tables.0 s.filter) _ q outputs.2 in
    let named = split_ok (each (λ b. names_one (references b)) bs.0) _ q bs.2 in
    let columns = named_columns outputs.0 joins.0 bs.0 in
    let parts = split_ok (each narrow (parts_from schema 0 tables.0 columns bs.0)) _ q named.2 in
    let same : made (parts_from schema 0 tables.0 columns bs.0) joins.0 outputs.0 ≡ q =
    ap (λ ps. made ps joins.0 outputs.0) (all_narrow (parts_from schema 0 tables.0 columns bs.0) parts.0 parts.1) ∙ same_Ok (made parts.0 joins.0 outputs.0) q parts.2 in
    subst (λ z. is_sound schema z ≡ true) same
    (both_true (parts_sound schema 0 tables.0 outputs.0 joins.0 bs.0 named.0 named.1 (tables_known schema [] (sources s) tables.0 refl tables.1)
    (are_narrow (parts_from schema 0 tables.0 columns bs.0) parts.0 parts.1) (filter_short schema tables.0 s.filter bs.0 bs.1))
    (outputs_sound schema tables.0 columns bs.0 outputs.0
    (λ part start. (named_parts (is_covered part (needed part columns start)) outputs.0 joins.0 bs.0 (covers part columns start)).0)
    (outputs_of_parts schema tables.0 s outputs.0 outputs.1)))

pub bound_are_sound : BoundAreSound
bound_are_sound schema (tree.Selects s) q e = select_sound schema s q e
bound_are_sound schema (tree.Create t) q e = absurd cc
bound_are_sound schema (tree.Inserts s) q e = absurd cc
bound_are_sound schema (tree.Updates s) q e = absurd cc
bound_are_sound schema (tree.Deletes s) q e = absurd cc
