-- A query of two parts, and its sides.
use Rattle.std.proofs.Common.{◌≡◌, ℕ, zero, suc, true, false, List, [], ◌∷◌, length, refl, sym, ap, subst, ◌∙◌, inl, inr, arith}
use Rattle.std.specs.Prelude.{nat_lt, slice_get, Ok}
use Rattle.std.specs.List.{All, list_all}
use Rattle.std.proofs.lemmas.Bool.{and_parts, eqb-true, ltb-true}
use Rattle.std.proofs.lemmas.List.Elements.{All-cons, All-nil}
use Rattle.std.proofs.lemmas.Bool.Decides.{nat_tests}
use Rattle.sr_cell.specs.declared.table.Table.{Table}
use Rattle.sr_cell.specs.Attrs.{has_column}
use Rattle.sr_cell.specs.Columns.{table_at}
use Rattle.sr_grammar.specs.Trees.{Statement}
use Rattle.sr_lines.specs.Sound.{is_sound_part}
use Rattle.sr_lines.proofs.Joined.{bound_are_joined}
use Rattle.sr_lines.proofs.Sound.{bound_are_sound}
use Rattle.sr_model.specs.Queries.{Part, Join, Output, Query, rows_of}
use Rattle.sr_query.specs.Binding.{bound_query, join_columns}
use Rattle.sr_query.specs.Joined.{is_needed, needs_column, joins_part, join_each}
use Rattle.sr_semi.specs.Sides.{first_join, left_place, part_at, sides_of}
use Rattle.sr_semi.specs.Answers.{rows_in, with_keys}
use Rattle.sr_semi.specs.Going.{joined}
use Rattle.sr_semi.specs.Keys.{all_have}
use Rattle.sr_semi.specs.Laws.{PartsJoin}
use Rattle.sr_semi.proofs.JoinedRows.{IsOf, IsOutput, joined-is-answer}

pub two-parts : (ps : List Part) → length ps ≡ 2 → (left : Part) × (right : Part) × (ps ≡ left ∷ right ∷ [])
two-parts [] e = absurd cc
two-parts (l ∷ []) e = absurd cc
two-parts (l ∷ r ∷ []) e = (l, r, refl)
two-parts (l ∷ r ∷ p ∷ ps) e = absurd cc

record IsKeyJoin (schema : List Table) (left right : Part) (j : Join) : Type 0 where
  from : j.left ≡ 0
  to : j.right ≡ 1
  key : j.key ≡ (table_at schema right.table).key
  needs_left : has_column left.need j.column ≡ true
  needs_right : has_column right.need j.key ≡ true

below-one : (n : ℕ) → nat_lt n 1 ≡ true → n ≡ 0
below-one n e = let less = ltb-true n 1 e in omega (arith, less)

key-join : (schema : List Table) (left right : Part) (j : Join) → joins_part schema (left ∷ right ∷ []) 1 j ≡ true → IsKeyJoin schema left right j
key-join schema left right j e =
    let to : j.right ≡ 1 = eqb-true j.right 1 (grind (arith, nat_tests, e)) in
    let from : j.left ≡ 0 = below-one j.left (grind (arith, nat_tests, e)) in
    let key : j.key ≡ (table_at schema right.table).key = eqb-true j.key (table_at schema right.table).key (grind (arith, nat_tests, e)) in
    let both : list_all (is_needed (left ∷ right ∷ [])) (join_columns j) ≡ true = grind (arith, nat_tests, e) in
    let p = and_parts (is_needed (left ∷ right ∷ []) (record { part = j.left; column = j.column })) _ both in
    let r = and_parts (is_needed (left ∷ right ∷ []) (record { part = j.right; column = j.key })) true p.1 in
    record {
      from = from;
      to = to;
      key = key;
      needs_left = subst (λ n. needs_column j.column (slice_get (left ∷ right ∷ []) n) ≡ true) from p.0;
      needs_right = subst (λ n. needs_column j.key (slice_get (left ∷ right ∷ []) n) ≡ true) to r.0;
    }

one-join : (schema : List Table) (left right : Part) (js : List Join) → join_each schema (left ∷ right ∷ []) 1 js ≡ true → (j : Join) × (js ≡ j ∷ []) × IsKeyJoin schema left right j
one-join schema left right [] e = absurd cc
one-join schema left right (j ∷ []) e = (j, refl, key-join schema left right j (and_parts (joins_part schema (left ∷ right ∷ []) 1 j) _ e).0)
one-join schema left right (j ∷ k ∷ js) e = absurd (no-third k (and_parts (joins_part schema (left ∷ right ∷ []) 2 k) _ (and_parts (joins_part schema (left ∷ right ∷ []) 1 j) _ e).1).0)
  where
    no-third : (k : Join) → joins_part schema (left ∷ right ∷ []) 2 k ≡ true → ⊥
    no-third k e =
        let to : k.right ≡ 2 = eqb-true k.right 2 (grind (arith, nat_tests, e)) in
        let both : list_all (is_needed (left ∷ right ∷ [])) (join_columns k) ≡ true = grind (arith, nat_tests, e) in
        let p = and_parts (is_needed (left ∷ right ∷ []) (record { part = k.left; column = k.column })) _ both in
        let r = and_parts (is_needed (left ∷ right ∷ []) (record { part = k.right; column = k.key })) true p.1 in
        let none : false ≡ true = subst (λ n. needs_column k.key (slice_get (left ∷ right ∷ []) n) ≡ true) to r.0 in
        cc none

output-is : (left right : Part) (o : Output) → is_needed (left ∷ right ∷ []) o ≡ true → IsOutput left right o
output-is left right o e = go o.part refl e
  where
    go : (n : ℕ) → o.part ≡ n → needs_column o.column (slice_get (left ∷ right ∷ []) n) ≡ true → IsOutput left right o
    go zero is has = inl (is, has)
    go (suc zero) is has = inr (is, has)
    go (suc (suc n)) is has = absurd cc

outputs-are : (left right : Part) (os : List Output) → list_all (is_needed (left ∷ right ∷ [])) os ≡ true → All (IsOutput left right) os
outputs-are left right [] e = All-nil (IsOutput left right)
outputs-are left right (o ∷ os) e =
    let p = and_parts (is_needed (left ∷ right ∷ []) o) _ e in All-cons (IsOutput left right) o os (output-is left right o p.0) (outputs-are left right os p.1)

-- a query of two parts, its only join, and its sides
pub record Two (schema : List Table) (s : Statement) (q : Query) : Type 0 where
  pub left : Part
  pub right : Part
  pub join : Join
  pub is : IsOf (sides_of schema s q) q left right join
  pub left_is : part_at q 0 ≡ left
  pub right_is : part_at q 1 ≡ right

pub two : (schema : List Table) (s : Statement) (q : Query) → bound_query schema s ≡ Ok q → length q.parts ≡ 2 → Two schema s q
two schema s q e count = with-parts (two-parts q.parts count)
  where
    with-parts : (left : Part) × (right : Part) × (q.parts ≡ left ∷ right ∷ []) → Two schema s q
    with-parts (left, right, parts) =
        let all : join_each schema (left ∷ right ∷ []) 1 q.joins ≡ true = subst (λ ps. join_each schema ps 1 q.joins ≡ true) parts (let joined = bound_are_joined schema s q e in grind (arith, nat_tests, joined)) in
        let needs : list_all (is_needed (left ∷ right ∷ [])) q.outputs ≡ true = subst (λ ps. list_all (is_needed ps) q.outputs ≡ true) parts (and_parts (list_all (is_sound_part schema) q.parts) _ (bound_are_sound schema s q e)).1 in
        let j = one-join schema left right q.joins all in
        let first : part_at q 0 ≡ left = ap (λ (ps : List Part). part_at (record q { parts = ps }) 0) parts in
        let second : part_at q 1 ≡ right = ap (λ (ps : List Part). part_at (record q { parts = ps }) 1) parts in
        let only : first_join q ≡ j.0 = ap (λ (js : List Join). first_join (record q { joins = js })) j.1 in
        record {
          left = left;
          right = right;
          join = j.0;
          is = record {
            parts = parts;
            joins = j.1;
            joins_left = j.2.from;
            joins_right = j.2.to;
            needs_left = j.2.needs_left;
            needs_right = j.2.needs_right;
            needs = outputs-are left right q.outputs needs;
            left_need = ap (λ (p : Part). p.need) first;
            right_need = ap (λ (p : Part). p.need) second;
            left_column = ap (λ (k : Join). k.column) only;
            right_column = ap (λ (p : Part). (table_at schema p.table).key) second ∙ sym j.2.key;
            outputs = refl;
          };
          left_is = first;
          right_is = second;
        }

pub parts-join : PartsJoin
parts-join schema tables sql s q keys asks count =
    let t = two schema s q asks.bound count in
    subst (λ l. Joins l (part_at q 1)) (sym t.left_is) (subst (λ r. Joins t.left r) (sym t.right_is) (joined-is-answer tables (sides_of schema s q) t.left t.right t.join q t.is keys))
  where
    Joins : Part → Part → Type 0
    Joins l r = all_have (left_place (sides_of schema s q)) keys (rows_in tables l) ≡ true
        → joined (sides_of schema s q) (rows_in tables l) (with_keys (sides_of schema s q) keys (rows_in tables r)) ≡ rows_of q tables
