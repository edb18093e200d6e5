-- The conjuncts on a part test columns of the part alone.
use Rattle.std.proofs.Common.{◌≡◌, ℕ, Bool, true, false, List, [], ◌∷◌, refl, sym, subst, ◌∙◌, eqb-true}
use Rattle.std.specs.Prelude.{◌==◌, filter, flat_map, Ok, if◌then◌else◌}
use Rattle.std.specs.List.{list_all}
use Rattle.std.specs.Cmp.Derive.{both_true}
use Rattle.std.proofs.lemmas.Bool.{and_parts}
use Rattle.std.proofs.lemmas.List.Folds.{list_all-append}
use Rattle.sr_cell.specs.declared.fault.Why.TheVariants.{Mixed}
use Rattle.sr_cell.specs.Attrs.{has_column}
use Rattle.sr_model.specs.Queries.{Output}
use Rattle.sr_query.specs.Binding.{fault, ◌>>=◌, each, Bound, Bounds, Testing, Conjunction, Disjunction, Negation, no_more, one_more, cond_of, conds_of, references, all_references, stranger, names_one, is_of_part, list_conds}
use Rattle.sr_query.proofs.Steps.{split_ok}
use Rattle.sr_lines.specs.Sound.{columns_in, all_columns_in}
use Rattle.sr_lines.proofs.Sets.{is_covered}

-- ---- one condition

abbrev is_tested : ℕ → ℕ × Output → Bool
is_tested attrs r = has_column attrs r.1.column

mutual
  one_in : (attrs : ℕ) (b : Bound) → list_all (is_tested attrs) (references b) ≡ true → columns_in attrs (cond_of b) ≡ true
  one_in attrs (Testing place o t) all = (and_parts (has_column attrs o.column) true all).0
  one_in attrs (Conjunction bs) all = members_in attrs bs all
  one_in attrs (Disjunction bs) all = members_in attrs bs all
  one_in attrs (Negation b) all = one_in attrs b all

  members_in : (attrs : ℕ) (bs : Bounds) → list_all (is_tested attrs) (all_references bs) ≡ true → all_columns_in attrs (conds_of bs) ≡ true
  members_in attrs no_more all = refl
  members_in attrs (one_more b bs) all =
      let p = and_parts (list_all (is_tested attrs) (references b)) (list_all (is_tested attrs) (all_references bs)) (sym (list_all-append (is_tested attrs) (references b) (all_references bs)) ∙ all) in
      both_true (one_in attrs b p.0) (members_in attrs bs p.1)

-- ---- a conjunct names one part

tested : (part attrs : ℕ) (o : Output) → (o.part == part) ≡ true → is_covered part attrs o ≡ true → has_column attrs o.column ≡ true
tested part attrs o own covered = (let same = rw own at covered in same)

none_strange : (part attrs : ℕ) (u : Unit {0}) (rs : List (ℕ × Output)) → stranger part rs ≡ Ok u → list_all (λ r. is_covered part attrs r.1) rs ≡ true → list_all (is_tested attrs) rs ≡ true
none_strange part attrs u [] named all = refl
none_strange part attrs u ((place, o) ∷ others) named all =
    let p = and_parts (is_covered part attrs o) _ all in
    go (o.part == part) refl named p.0 (λ rest. none_strange part attrs u others rest p.1)
  where
    go : (b : Bool) → (o.part == part) ≡ b → (if b then stranger part others else fault Mixed place) ≡ Ok u → is_covered part attrs o ≡ true → (stranger part others ≡ Ok u → list_all (is_tested attrs) others ≡ true)
        → list_all (is_tested attrs) ((place, o) ∷ others) ≡ true
    go true own named covered rest = both_true (tested part attrs o own covered) (rest named)
    go false other named covered rest = absurd cc

names_tested : (part attrs : ℕ) (u : Unit {0}) (rs : List (ℕ × Output)) → names_one rs ≡ Ok u → is_of_part part rs ≡ true → list_all (λ r. is_covered part attrs r.1) rs ≡ true → list_all (is_tested attrs) rs ≡ true
names_tested part attrs u [] named own all = refl
names_tested part attrs u ((place, o) ∷ others) named own all =
    let is : o.part ≡ part = eqb-true o.part part own in
    let p = and_parts (is_covered part attrs o) _ all in
    both_true (tested part attrs o own p.0) (none_strange part attrs u others (subst (λ z. stranger z others ≡ Ok u) is named) p.1)

-- ---- the condition of a part

pub conjuncts_in : (part attrs : ℕ) (bs : List Bound) (us : List (Unit {0})) → each (λ b. names_one (references b)) bs ≡ Ok us → list_all (λ r. is_covered part attrs r.1) (flat_map references bs) ≡ true
    → all_columns_in attrs (list_conds (filter (λ b. is_of_part part (references b)) bs)) ≡ true
conjuncts_in part attrs [] us named all = refl
conjuncts_in part attrs (b ∷ bs) us named all =
    let first = split_ok (names_one (references b)) (λ u. each (λ b. names_one (references b)) bs >>= λ others. Ok (u ∷ others)) us named in
    let others = split_ok (each (λ b. names_one (references b)) bs) (λ others. Ok (first.0 ∷ others)) us first.2 in
    let p = and_parts (list_all (λ r. is_covered part attrs r.1) (references b)) (list_all (λ r. is_covered part attrs r.1) (flat_map references bs))
    (sym (list_all-append (λ (r : ℕ × Output). is_covered part attrs r.1) (references b) (flat_map references bs)) ∙ all) in
    go (is_of_part part (references b)) refl first.0 first.1 p.0 (conjuncts_in part attrs bs others.0 others.1 p.1)
  where
    go : (x : Bool) → is_of_part part (references b) ≡ x → (u : Unit {0}) → names_one (references b) ≡ Ok u → list_all (λ r. is_covered part attrs r.1) (references b) ≡ true
        → all_columns_in attrs (list_conds (filter (λ b. is_of_part part (references b)) bs)) ≡ true
        → all_columns_in attrs (list_conds (if x then b ∷ filter (λ b. is_of_part part (references b)) bs else filter (λ b. is_of_part part (references b)) bs)) ≡ true
    go true own u named here rest = both_true (one_in attrs b (names_tested part attrs u (references b) named own here)) rest
    go false own u named here rest = rest
