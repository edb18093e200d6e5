-- Conditions on one table of a query, asked of that table alone.
use Rattle.std.proofs.Common.{◌≡◌, ℕ, suc, ◌+◌, Bool, true, false, List, [], ◌∷◌, ◌++◌, map, Some, None, refl, sym, ap, subst, ◌∙◌, arith, if◌then◌else◌}
use Rattle.std.specs.Prelude.{◌==◌, ◌&&◌, not, Ok, Result, Option, slice_index_or, bytes_eq}
use Rattle.std.specs.List.{list_all, AllZip, AllByRecursion}
use Rattle.std.proofs.lemmas.Bool.{and_parts, eqb-true, ltb-true}
use Rattle.sr_cell.specs.declared.cell.Cell.{Cell}
use Rattle.sr_cell.specs.declared.fault.Fault.{Fault}
use Rattle.sr_cell.specs.declared.fault.Why.TheVariants.{WrongType, OutOfDomain, Mixed}
use Rattle.sr_cell.specs.declared.table.Kind.{Kind}
use Rattle.sr_cell.specs.declared.table.Table.{Table}
use Rattle.sr_cell.specs.Columns.{table_at}
use Rattle.sr_cell.proofs.Results.{same_Ok}
use Rattle.sr_grammar.specs.declared.statement.Name.{Name}
use Rattle.sr_grammar.specs.declared.statement.Literal.{Literal}
use Rattle.sr_grammar.specs.declared.statement.Atom.{Atom}
use Rattle.sr_grammar.specs.declared.statement.Atom.TheVariants as atoms
use Rattle.sr_grammar.specs.Places.{bare_atom, bare_cond, bare_conds, bare_literal, bare_name}
use Rattle.sr_grammar.specs.Trees as tree
use Rattle.sr_join.proofs.Lists.{map-append}
use Rattle.sr_model.specs.Conditions.{Test, And, Or, Not}
use Rattle.sr_model.specs.Queries.{Output}
use Rattle.sr_query.specs.Binding.{Bound, Bounds, Testing, Conjunction, Disjunction, Negation, no_more, one_more, bound, bound_all, column_at, column_of, column_of_part, column_named, cond_of, conds_of, conjuncts, all_conjuncts, each, fault, is_inside, is_of, is_of_part, names_one, outputs_named, part_named, references, all_references, resolved, said, stranger, test_of, the_one, value_of, ◌>>=◌}
use Rattle.sr_query.proofs.Steps.{split_ok}
use Rattle.sr_lines.proofs.Selected.{resolved_near, is_of as is_near}
use Rattle.sr_semi.specs.Texts as texts
use Rattle.sr_semi.specs.Texts.{names_in, all_names, names_part}
use Rattle.sr_semi.proofs.Spelled.{each-append}

-- ---- one table in the place of all, and no places

abbrev pub alone : Output → Output
alone o = record { part = 0; column = o.column }

abbrev mutual
  pub moved : Bound → Bound
  moved (Testing place o t) = Testing 0 (alone o) t
  moved (Conjunction bs) = Conjunction (all_moved bs)
  moved (Disjunction bs) = Disjunction (all_moved bs)
  moved (Negation b) = Negation (moved b)

  pub all_moved : Bounds → Bounds
  all_moved no_more = no_more
  all_moved (one_more b bs) = one_more (moved b) (all_moved bs)

abbrev pub part_is : ℕ → ℕ × Output → Bool
part_is part r = r.1.part == part

-- all columns are of this part
abbrev pub is_on : ℕ → Bound → Bool
is_on part b = list_all (part_is part) (references b)

abbrev pub are_on : ℕ → Bounds → Bool
are_on part bs = list_all (part_is part) (all_references bs)

-- ---- values

value-bare : (kind : Kind) (l : Literal) (v : Cell) → value_of kind l ≡ Ok v → value_of kind (bare_literal l) ≡ Ok v
value-bare kind l v e = go (not (is_of kind l.cell)) (is_inside l.cell) e
  where
    go : (wrong inside : Bool) → (if wrong then fault WrongType l.place else (if inside then Ok l.cell else fault OutOfDomain l.place)) ≡ Ok v
        → (if wrong then fault WrongType 0 else (if inside then Ok l.cell else fault OutOfDomain 0)) ≡ Ok v
    go true inside e = absurd cc
    go false true e = e
    go false false e = absurd cc

values-bare : (kind : Kind) (all : List Literal) (vs : List Cell) → each (value_of kind) all ≡ Ok vs → each (value_of kind) (map bare_literal all) ≡ Ok vs
values-bare kind [] vs e = e
values-bare kind (l ∷ all) vs e =
    let x = split_ok (value_of kind l) (λ b. each (value_of kind) all >>= λ bs. Ok (b ∷ bs)) vs e in
    let y = split_ok (each (value_of kind) all) (λ bs. Ok (x.0 ∷ bs)) vs x.2 in
    rw (value-bare kind l x.0 x.1, values-bare kind all y.0 y.1) y.2

test-bare : (kind : Kind) (a : Atom) (t : Bool × Test) → test_of kind a ≡ Ok t → test_of kind (bare_atom a) ≡ Ok t
test-bare kind (atoms.Cmp op l) t e = let x = split_ok (value_of kind l) _ t e in rw (value-bare kind l x.0 x.1) x.2
test-bare kind (atoms.Between low high) t e =
    let x = split_ok (value_of kind low) _ t e in
    let y = split_ok (value_of kind high) _ t x.2 in
    rw (value-bare kind low x.0 x.1, value-bare kind high y.0 y.1) y.2
test-bare kind (atoms.OneOf all) t e = let x = split_ok (each (value_of kind) all) _ t e in rw (values-bare kind all x.0 x.1) x.2
test-bare kind (atoms.Prefix text) t e = let x = split_ok (value_of kind text) _ t e in rw (value-bare kind text x.0 x.1) x.2
test-bare kind (atoms.NotBetween low high) t e =
    let x = split_ok (value_of kind low) _ t e in
    let y = split_ok (value_of kind high) _ t x.2 in
    rw (value-bare kind low x.0 x.1, value-bare kind high y.0 y.1) y.2
test-bare kind (atoms.NotOneOf all) t e = let x = split_ok (each (value_of kind) all) _ t e in rw (values-bare kind all x.0 x.1) x.2
test-bare kind (atoms.NotPrefix text) t e = let x = split_ok (value_of kind text) _ t e in rw (value-bare kind text x.0 x.1) x.2
test-bare kind atoms.IsNull t e = e
test-bare kind atoms.NotNull t e = e

-- ---- references

-- where one output alone has the name, its table has it
record IsHere (schema : List Table) (start : ℕ) (tables : List ℕ) (name : List ℕ) (o : Output) : Type 0 where
  k : ℕ
  part : o.part ≡ start + k
  column : column_named 0 (table_at schema (slice_index_or tables k 0)).columns name ≡ Some o.column

only-here : (schema : List Table) (start : ℕ) (tables name : List ℕ) (o : Output) → outputs_named schema start tables name ≡ o ∷ [] → IsHere schema start tables name o
only-here schema start [] name o e = absurd cc
only-here schema start (t ∷ tables) name o e = go (column_named 0 (table_at schema t).columns name) refl (only-here schema (start + 1) tables name o)
  where
    go : (c : Option ℕ) → column_named 0 (table_at schema t).columns name ≡ c → (outputs_named schema (start + 1) tables name ≡ o ∷ [] → IsHere schema (start + 1) tables name o)
        → IsHere schema start (t ∷ tables) name o
    go None is later =
        let rest : outputs_named schema (start + 1) tables name ≡ o ∷ [] = rw is at e in
        let h = later rest in
        record { k = suc h.k; part = omega (arith, h.part); column = h.column }
    go (Some c) is later =
        let found : record { part = start; column = c } ∷ outputs_named schema (start + 1) tables name ≡ o ∷ [] = rw is at e in
        let same : record { part = start; column = c } ≡ o = cc found in
        let part : start ≡ start + 0 = omega arith in
        record { k = 0; part = sym (ap (λ (x : Output). x.part) same) ∙ part; column = is ∙ ap (λ (x : Output). Some x.column) same }

the-one : (place : ℕ) (os : List Output) (o : Output) → the_one place os ≡ Ok o → os ≡ o ∷ []
the-one place [] o e = absurd cc
the-one place (p ∷ []) o e = ap (λ (x : Output). x ∷ []) (same_Ok p o e)
the-one place (p ∷ q ∷ os) o e = absurd cc

record IsNamed (schema : List Table) (start : ℕ) (tables : List ℕ) (name : List ℕ) (p : ℕ) : Type 0 where
  k : ℕ
  part : p ≡ start + k
  has : bytes_eq (table_at schema (slice_index_or tables k 0)).name name ≡ true

named-here : (schema : List Table) (start : ℕ) (tables name : List ℕ) (p : ℕ) → part_named schema start tables name ≡ Some p → IsNamed schema start tables name p
named-here schema start [] name p e = absurd cc
named-here schema start (t ∷ tables) name p e = go (bytes_eq (table_at schema t).name name) refl (named-here schema (start + 1) tables name p)
  where
    go : (b : Bool) → bytes_eq (table_at schema t).name name ≡ b → (part_named schema (start + 1) tables name ≡ Some p → IsNamed schema (start + 1) tables name p) → IsNamed schema start (t ∷ tables) name p
    go true is later =
        let found : Some start ≡ Some p = rw is at e in
        let same : start ≡ p = cc found in
        let part : start ≡ start + 0 = omega arith in
        record { k = 0; part = sym same ∙ part; has = is }
    go false is later =
        let rest : part_named schema (start + 1) tables name ≡ Some p = rw is at e in
        let h = later rest in
        record { k = suc h.k; part = omega (arith, h.part); has = h.has }

column-moved : (schema : List Table) (tables : List ℕ) (place t p : ℕ) (column : List ℕ) (o : Output) → column_of_part schema tables place column (Some p) ≡ Ok o → t ≡ slice_index_or tables p 0
    → (o.part ≡ p) × (column_of_part schema (t ∷ []) 0 column (Some 0) ≡ Ok (alone o))
column-moved schema tables place t p column o e is = go (column_named 0 (table_at schema (slice_index_or tables p 0)).columns column) refl
  where
    go : (c : Option ℕ) → column_named 0 (table_at schema (slice_index_or tables p 0)).columns column ≡ c → (o.part ≡ p) × (column_of_part schema (t ∷ []) 0 column (Some 0) ≡ Ok (alone o))
    go None has = let bad = rw has at e in absurd cc
    go (Some c) has =
        let good : Ok (record { part = p; column = c }) ≡ Ok o = rw has at e in
        let same : record { part = p; column = c } ≡ o = same_Ok (record { part = p; column = c }) o good in
        let here : column_named 0 (table_at schema t).columns column ≡ Some c = ap (λ n. column_named 0 (table_at schema n).columns column) is ∙ has in
        (sym (ap (λ (x : Output). x.part) same), rw here (ap (λ (x : Output). Ok (alone x)) same))

resolved-moved : (schema : List Table) (tables : List ℕ) (t : ℕ) (n : Name) (o : Output) → resolved schema tables n ≡ Ok o → t ≡ slice_index_or tables o.part 0
    → resolved schema (t ∷ []) (bare_name n) ≡ Ok (alone o)
resolved-moved schema tables t n o e is = go n.table refl
  where
    go : (table : Option (List ℕ)) → n.table ≡ table → resolved schema (t ∷ []) (bare_name n) ≡ Ok (alone o)
    go None has =
        let one = rw has at e in
        let h = only-here schema 0 tables n.column o (the-one n.place (outputs_named schema 0 tables n.column) o one) in
        let k : h.k ≡ o.part = omega (arith, h.part) in
        let same : slice_index_or tables h.k 0 ≡ t = ap (λ k. slice_index_or tables k 0) k ∙ sym is in
        let here : column_named 0 (table_at schema t).columns n.column ≡ Some o.column = sym (ap (λ m. column_named 0 (table_at schema m).columns n.column) same) ∙ h.column in
        rw (has, here) refl
    go (Some table) has =
        let named = rw has at e in
        by-part table has (part_named schema 0 tables table) refl named
      where
        by-part : (table : List ℕ) → n.table ≡ Some table → (part : Option ℕ) → part_named schema 0 tables table ≡ part → column_of_part schema tables n.place n.column part ≡ Ok o
            → resolved schema (t ∷ []) (bare_name n) ≡ Ok (alone o)
        by-part table has None at e = absurd cc
        by-part table has (Some p) at e =
            let h = named-here schema 0 tables table p at in
            let m = column-moved schema tables n.place (slice_index_or tables p 0) p n.column o e refl in
            let to : t ≡ slice_index_or tables p 0 = is ∙ ap (λ k. slice_index_or tables k 0) m.0 in
            let at-k : p ≡ h.k = omega (arith, h.part) in
            let k : slice_index_or tables p 0 ≡ slice_index_or tables h.k 0 = ap (λ k. slice_index_or tables k 0) at-k in
            let name : bytes_eq (table_at schema t).name table ≡ true = ap (λ m. bytes_eq (table_at schema m).name table) (to ∙ k) ∙ h.has in
            rw (has, name) (subst (λ m. column_of_part schema (m ∷ []) 0 n.column (Some 0) ≡ Ok (alone o)) (sym to) m.1)

-- ---- conditions

said-on : (place : ℕ) (o : Output) (t : Bool × Test) → (references (said place o t) ≡ (place, o) ∷ []) × (moved (said place o t) ≡ said 0 (alone o) t)
said-on place o (true, t) = (refl, refl)
said-on place o (false, t) = (refl, refl)

pub list_all-parts : {A : Type 0} (p : A → Bool) (xs ys : List A) → list_all p (xs ++ ys) ≡ true → (list_all p xs ≡ true) × (list_all p ys ≡ true)
list_all-parts p [] ys e = (refl, e)
list_all-parts p (x ∷ xs) ys e =
    let a = and_parts (p x) (list_all p (xs ++ ys)) e in
    let b = list_all-parts p xs ys a.1 in
    (rw a.0 b.0, b.1)

module _ (schema : List Table) (tables : List ℕ) (part t : ℕ) (is : t ≡ slice_index_or tables part 0) where
  test-moved : (n : Name) (a : Atom) (b : Bound) → bound schema tables (tree.Test n a) ≡ Ok b → is_on part b ≡ true → bound schema (t ∷ []) (tree.Test (bare_name n) (bare_atom a)) ≡ Ok (moved b)
  test-moved n a b e on =
      let x = split_ok (resolved schema tables n) _ b e in
      let o = x.0 in
      let y = split_ok (test_of (column_of schema tables o).kind a) _ b x.2 in
      let same : said n.place o y.0 ≡ b = same_Ok (said n.place o y.0) b y.2 in
      let s = said-on n.place o y.0 in
      let here : list_all (part_is part) ((n.place, o) ∷ []) ≡ true = ap (list_all (part_is part)) (sym s.0 ∙ ap references same) ∙ on in
      let at : o.part ≡ part = eqb-true o.part part (and_parts (o.part == part) true here).0 in
      let to : t ≡ slice_index_or tables o.part 0 = is ∙ ap (λ k. slice_index_or tables k 0) (sym at) in
      let column : column_of schema (t ∷ []) (alone o) ≡ column_of schema tables o = ap (λ m. column_at (table_at schema m) o.column) to in
      let test : test_of (column_of schema (t ∷ []) (alone o)).kind (bare_atom a) ≡ Ok y.0 = test-bare (column_of schema (t ∷ []) (alone o)).kind a y.0 (ap (λ c. test_of c.kind a) column ∙ y.1) in
      rw (resolved-moved schema tables t n o x.1 to, test) (ap Ok (sym s.1 ∙ ap moved same))

  mutual
    pub move : (c : tree.Cond) (b : Bound) → bound schema tables c ≡ Ok b → is_on part b ≡ true → bound schema (t ∷ []) (bare_cond c) ≡ Ok (moved b)
    move (tree.Test n a) b e on = test-moved n a b e on
    move (tree.And cs) b e on =
        let x = split_ok (bound_all schema tables cs) _ b e in
        let same : Conjunction x.0 ≡ b = same_Ok (Conjunction x.0) b x.2 in
        rw (move-all cs x.0 x.1 (ap (is_on part) same ∙ on)) (ap (λ z. Ok (moved z)) same)
    move (tree.Or cs) b e on =
        let x = split_ok (bound_all schema tables cs) _ b e in
        let same : Disjunction x.0 ≡ b = same_Ok (Disjunction x.0) b x.2 in
        rw (move-all cs x.0 x.1 (ap (is_on part) same ∙ on)) (ap (λ z. Ok (moved z)) same)
    move (tree.Not c) b e on =
        let x = split_ok (bound schema tables c) _ b e in
        let same : Negation x.0 ≡ b = same_Ok (Negation x.0) b x.2 in
        rw (move c x.0 x.1 (ap (is_on part) same ∙ on)) (ap (λ z. Ok (moved z)) same)

    pub move-all : (cs : tree.Conds) (bs : Bounds) → bound_all schema tables cs ≡ Ok bs → are_on part bs ≡ true → bound_all schema (t ∷ []) (bare_conds cs) ≡ Ok (all_moved bs)
    move-all tree.none bs e on = ap (λ z. Ok (all_moved z)) (same_Ok no_more bs e)
    move-all (tree.more c cs) bs e on =
        let x = split_ok (bound schema tables c) _ bs e in
        let y = split_ok (bound_all schema tables cs) _ bs x.2 in
        let same : one_more x.0 y.0 ≡ bs = same_Ok (one_more x.0 y.0) bs y.2 in
        let p = list_all-parts (part_is part) (references x.0) (all_references y.0) (ap (are_on part) same ∙ on) in
        rw (move c x.0 x.1 p.0, move-all cs y.0 y.1 p.1) (ap (λ z. Ok (all_moved z)) same)

-- ---- of one table each reference is to it

only-part : (schema : List Table) (t : ℕ) (n : Name) (o : Output) → resolved schema (t ∷ []) n ≡ Ok o → o.part ≡ 0
only-part schema t n o e = below (resolved_near schema (t ∷ []) n o e)
  where
    below : is_near 1 o ≡ true → o.part ≡ 0
    below near = let less = ltb-true o.part 1 near in omega (arith, less)

list_all-both : {A : Type 0} (p : A → Bool) (xs ys : List A) → list_all p xs ≡ true → list_all p ys ≡ true → list_all p (xs ++ ys) ≡ true
list_all-both p [] ys e f = f
list_all-both p (x ∷ xs) ys e f = let a = and_parts (p x) (list_all p xs) e in rw a.0 (list_all-both p xs ys a.1 f)

mutual
  pub all-on : (schema : List Table) (t : ℕ) (c : tree.Cond) (b : Bound) → bound schema (t ∷ []) c ≡ Ok b → is_on 0 b ≡ true
  all-on schema t (tree.Test n a) b e =
      let x = split_ok (resolved schema (t ∷ []) n) _ b e in
      let y = split_ok (test_of (column_of schema (t ∷ []) x.0).kind a) _ b x.2 in
      let same : said n.place x.0 y.0 ≡ b = same_Ok (said n.place x.0 y.0) b y.2 in
      let none = only-part schema t n x.0 x.1 in
      ap (is_on 0) (sym same) ∙ (ap (list_all (part_is 0)) (said-on n.place x.0 y.0).0 ∙ rw none refl)
  all-on schema t (tree.And cs) b e =
      let x = split_ok (bound_all schema (t ∷ []) cs) _ b e in ap (is_on 0) (sym (same_Ok (Conjunction x.0) b x.2)) ∙ all-are-on schema t cs x.0 x.1
  all-on schema t (tree.Or cs) b e =
      let x = split_ok (bound_all schema (t ∷ []) cs) _ b e in ap (is_on 0) (sym (same_Ok (Disjunction x.0) b x.2)) ∙ all-are-on schema t cs x.0 x.1
  all-on schema t (tree.Not c) b e =
      let x = split_ok (bound schema (t ∷ []) c) _ b e in ap (is_on 0) (sym (same_Ok (Negation x.0) b x.2)) ∙ all-on schema t c x.0 x.1

  pub all-are-on : (schema : List Table) (t : ℕ) (cs : tree.Conds) (bs : Bounds) → bound_all schema (t ∷ []) cs ≡ Ok bs → are_on 0 bs ≡ true
  all-are-on schema t tree.none bs e = ap (are_on 0) (sym (same_Ok no_more bs e))
  all-are-on schema t (tree.more c cs) bs e =
      let x = split_ok (bound schema (t ∷ []) c) _ bs e in
      let y = split_ok (bound_all schema (t ∷ []) cs) _ bs x.2 in
      ap (are_on 0) (sym (same_Ok (one_more x.0 y.0) bs y.2))
      ∙ list_all-both (part_is 0) (references x.0) (all_references y.0) (all-on schema t c x.0 x.1) (all-are-on schema t cs y.0 y.1)

-- ---- what is moved says the same

mutual
  pub moved-cond : (b : Bound) → cond_of (moved b) ≡ cond_of b
  moved-cond (Testing place o t) = refl
  moved-cond (Conjunction bs) = ap And (all-moved-conds bs)
  moved-cond (Disjunction bs) = ap Or (all-moved-conds bs)
  moved-cond (Negation b) = ap Not (moved-cond b)

  pub all-moved-conds : (bs : Bounds) → conds_of (all_moved bs) ≡ conds_of bs
  all-moved-conds no_more = refl
  all-moved-conds (one_more b bs) = rw (moved-cond b, all-moved-conds bs) refl

abbrev pub moved_reference : ℕ × Output → ℕ × Output
moved_reference r = (0, alone r.1)

mutual
  pub moved-references : (b : Bound) → references (moved b) ≡ map moved_reference (references b)
  moved-references (Testing place o t) = refl
  moved-references (Conjunction bs) = all-moved-references bs
  moved-references (Disjunction bs) = all-moved-references bs
  moved-references (Negation b) = moved-references b

  pub all-moved-references : (bs : Bounds) → all_references (all_moved bs) ≡ map moved_reference (all_references bs)
  all-moved-references no_more = refl
  all-moved-references (one_more b bs) = rw (moved-references b, all-moved-references bs) (sym (map-append moved_reference (references b) (all_references bs)))

mutual
  pub moved-conjuncts : (b : Bound) → conjuncts (moved b) ≡ map moved (conjuncts b)
  moved-conjuncts (Testing place o t) = refl
  moved-conjuncts (Conjunction bs) = all-moved-conjuncts bs
  moved-conjuncts (Disjunction bs) = refl
  moved-conjuncts (Negation b) = refl

  pub all-moved-conjuncts : (bs : Bounds) → all_conjuncts (all_moved bs) ≡ map moved (all_conjuncts bs)
  all-moved-conjuncts no_more = refl
  all-moved-conjuncts (one_more b bs) = rw (moved-conjuncts b, all-moved-conjuncts bs) (sym (map-append moved (conjuncts b) (all_conjuncts bs)))

-- a conjunct has no conjuncts but itself
abbrev pub IsSingle : Bound → Type 0
IsSingle b = conjuncts b ≡ b ∷ []

mutual
  pub singles : (b : Bound) → AllByRecursion IsSingle (conjuncts b)
  singles (Testing place o t) = (refl, tt)
  singles (Conjunction bs) = all-singles bs
  singles (Disjunction bs) = (refl, tt)
  singles (Negation b) = (refl, tt)

  pub all-singles : (bs : Bounds) → AllByRecursion IsSingle (all_conjuncts bs)
  all-singles no_more = tt
  all-singles (one_more b bs) = each-append IsSingle (conjuncts b) (all_conjuncts bs) (singles b) (all-singles bs)

-- ---- conjuncts, and what they mean

abbrev pub Means : List Table → List ℕ → tree.Cond → Bound → Type 0
Means schema tables c b = bound schema tables c ≡ Ok b

pub zip-both : {A B : Type 0} (R : A → B → Type 0) (xs xs' : List A) (ys ys' : List B) → AllZip R xs ys → AllZip R xs' ys' → AllZip R (xs ++ xs') (ys ++ ys')
zip-both R [] xs' [] ys' h k = k
zip-both R [] xs' (y ∷ ys) ys' h k = absurd h
zip-both R (x ∷ xs) xs' [] ys' h k = absurd h
zip-both R (x ∷ xs) xs' (y ∷ ys) ys' h k = (h.0, zip-both R xs xs' ys ys' h.1 k)

mutual
  pub zip-conjuncts : (schema : List Table) (tables : List ℕ) (c : tree.Cond) (b : Bound) → bound schema tables c ≡ Ok b → AllZip (Means schema tables) (texts.conjuncts c) (conjuncts b)
  zip-conjuncts schema tables (tree.Test n a) b e =
      let x = split_ok (resolved schema tables n) _ b e in
      let y = split_ok (test_of (column_of schema tables x.0).kind a) _ b x.2 in
      by-test x.0 y.0 (same_Ok (said n.place x.0 y.0) b y.2)
    where
      by-test : (o : Output) (t : Bool × Test) → said n.place o t ≡ b → AllZip (Means schema tables) (tree.Test n a ∷ []) (conjuncts b)
      by-test o (true, t) same = subst (λ z. AllZip (Means schema tables) (tree.Test n a ∷ []) (conjuncts z)) same (e ∙ ap Ok (sym same), tt)
      by-test o (false, t) same = subst (λ z. AllZip (Means schema tables) (tree.Test n a ∷ []) (conjuncts z)) same (e ∙ ap Ok (sym same), tt)
  zip-conjuncts schema tables (tree.And cs) b e =
      let x = split_ok (bound_all schema tables cs) _ b e in
      subst (λ z. AllZip (Means schema tables) (texts.all_conjuncts cs) (conjuncts z)) (same_Ok (Conjunction x.0) b x.2) (zip-all schema tables cs x.0 x.1)
  zip-conjuncts schema tables (tree.Or cs) b e =
      let x = split_ok (bound_all schema tables cs) _ b e in
      let same = same_Ok (Disjunction x.0) b x.2 in
      subst (λ z. AllZip (Means schema tables) (tree.Or cs ∷ []) (conjuncts z)) same (e ∙ ap Ok (sym same), tt)
  zip-conjuncts schema tables (tree.Not c) b e =
      let x = split_ok (bound schema tables c) _ b e in
      let same = same_Ok (Negation x.0) b x.2 in
      subst (λ z. AllZip (Means schema tables) (tree.Not c ∷ []) (conjuncts z)) same (e ∙ ap Ok (sym same), tt)

  pub zip-all : (schema : List Table) (tables : List ℕ) (cs : tree.Conds) (bs : Bounds) → bound_all schema tables cs ≡ Ok bs → AllZip (Means schema tables) (texts.all_conjuncts cs) (all_conjuncts bs)
  zip-all schema tables tree.none bs e = subst (λ z. AllZip (Means schema tables) [] (all_conjuncts z)) (same_Ok no_more bs e) tt
  zip-all schema tables (tree.more c cs) bs e =
      let x = split_ok (bound schema tables c) _ bs e in
      let y = split_ok (bound_all schema tables cs) _ bs x.2 in
      subst (λ z. AllZip (Means schema tables) (texts.conjuncts c ++ texts.all_conjuncts cs) (all_conjuncts z)) (same_Ok (one_more x.0 y.0) bs y.2)
      (zip-both (Means schema tables) (texts.conjuncts c) (texts.all_conjuncts cs) (conjuncts x.0) (all_conjuncts y.0) (zip-conjuncts schema tables c x.0 x.1) (zip-all schema tables cs y.0 y.1))

-- the columns that a condition names are those of its tests
abbrev found : ℕ × Output → Result Output Fault
found r = Ok r.1

mutual
  names-mean : (schema : List Table) (tables : List ℕ) (c : tree.Cond) (b : Bound) → bound schema tables c ≡ Ok b → map (resolved schema tables) (names_in c) ≡ map found (references b)
  names-mean schema tables (tree.Test n a) b e =
      let x = split_ok (resolved schema tables n) _ b e in
      let y = split_ok (test_of (column_of schema tables x.0).kind a) _ b x.2 in
      let same : said n.place x.0 y.0 ≡ b = same_Ok (said n.place x.0 y.0) b y.2 in
      ap (λ z. z ∷ []) x.1 ∙ (sym (ap (map found) (said-on n.place x.0 y.0).0) ∙ ap (λ z. map found (references z)) same)
  names-mean schema tables (tree.And cs) b e =
      let x = split_ok (bound_all schema tables cs) _ b e in all-names-mean schema tables cs x.0 x.1 ∙ ap (λ z. map found (references z)) (same_Ok (Conjunction x.0) b x.2)
  names-mean schema tables (tree.Or cs) b e =
      let x = split_ok (bound_all schema tables cs) _ b e in all-names-mean schema tables cs x.0 x.1 ∙ ap (λ z. map found (references z)) (same_Ok (Disjunction x.0) b x.2)
  names-mean schema tables (tree.Not c) b e =
      let x = split_ok (bound schema tables c) _ b e in names-mean schema tables c x.0 x.1 ∙ ap (λ z. map found (references z)) (same_Ok (Negation x.0) b x.2)

  all-names-mean : (schema : List Table) (tables : List ℕ) (cs : tree.Conds) (bs : Bounds) → bound_all schema tables cs ≡ Ok bs → map (resolved schema tables) (all_names cs) ≡ map found (all_references bs)
  all-names-mean schema tables tree.none bs e = ap (λ z. map found (all_references z)) (same_Ok no_more bs e)
  all-names-mean schema tables (tree.more c cs) bs e =
      let x = split_ok (bound schema tables c) _ bs e in
      let y = split_ok (bound_all schema tables cs) _ bs x.2 in
      map-append (resolved schema tables) (names_in c) (all_names cs)
      ∙ (rw (names-mean schema tables c x.0 x.1, all-names-mean schema tables cs y.0 y.1) (sym (map-append found (references x.0) (all_references y.0)))
      ∙ ap (λ z. map found (all_references z)) (same_Ok (one_more x.0 y.0) bs y.2))

pub about-is : (schema : List Table) (tables : List ℕ) (part : ℕ) (c : tree.Cond) (b : Bound) → bound schema tables c ≡ Ok b → is_of_part part (references b) ≡ texts.is_about schema tables part c
about-is schema tables part c b e = go (names_in c) (references b) (names-mean schema tables c b e)
  where
    go : (ns : List Name) (rs : List (ℕ × Output)) → map (resolved schema tables) ns ≡ map found rs → is_of_part part rs ≡ names_part schema tables part ns
    go [] [] e = refl
    go [] (r ∷ rs) e = absurd cc
    go (n ∷ ns) [] e = absurd cc
    go (n ∷ ns) ((place, o) ∷ rs) e = let first : resolved schema tables n ≡ Ok o = cc e in sym (ap (texts.is_of_part part) first)

-- ---- each conjunct names one table

pub one-part : (part : ℕ) (b : Bound) → names_one (references b) ≡ Ok tt → is_of_part part (references b) ≡ true → is_on part b ≡ true
one-part part b e of = go (references b) e of
  where
    strangers : (p : ℕ) (rs : List (ℕ × Output)) → stranger p rs ≡ Ok tt → list_all (part_is p) rs ≡ true
    strangers p [] e = refl
    strangers p ((place, o) ∷ rs) e = at (o.part == p) e (strangers p rs)
      where
        at : (b : Bool) → (if b then stranger p rs else fault Mixed place) ≡ Ok tt → (stranger p rs ≡ Ok tt → list_all (part_is p) rs ≡ true) → (b && list_all (part_is p) rs) ≡ true
        at true e rest = rest e
        at false e rest = absurd cc

    go : (rs : List (ℕ × Output)) → names_one rs ≡ Ok tt → is_of_part part rs ≡ true → list_all (part_is part) rs ≡ true
    go [] e of = refl
    go ((place, o) ∷ rs) e of = let same : o.part ≡ part = eqb-true o.part part of in rw of (subst (λ p. list_all (part_is p) rs ≡ true) same (strangers o.part rs e))
