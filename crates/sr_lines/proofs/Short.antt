-- The texts of bound conditions are short, and so are the ends of their tests.
use Rattle.std.proofs.Common.{◌≡◌, ℕ, ◌+◌, ◌≤◌, Bool, true, false, List, [], ◌∷◌, ◌++◌, length, Option, Some, None, refl, subst, ◌∙◌, arith}
use Rattle.std.specs.Prelude.{◌==◌, nat_le, not, map, filter, Result, Ok, if◌then◌else◌}
use Rattle.std.specs.List.{list_all, list_any}
use Rattle.std.specs.Cmp.Derive.{both_true}
use Rattle.std.proofs.lemmas.Bool.{and_parts}
use Rattle.std.proofs.lemmas.Bool.Decides.{nat_tests}
use Rattle.std.proofs.lemmas.List.{length-append}
use Rattle.std.proofs.lemmas.List.Folds.{list_all-append}
use Rattle.sr_cell.specs.declared.fault.Fault.{Fault}
use Rattle.sr_cell.specs.declared.fault.Why.TheVariants.{WrongType, OutOfDomain}
use Rattle.sr_cell.specs.declared.cell.Cell.{Cell}
use Rattle.sr_cell.specs.declared.cell.Cell.TheVariants.{Num, Str, Null}
use Rattle.sr_cell.specs.declared.table.Kind.{Kind}
use Rattle.sr_cell.specs.declared.table.Table.{Table}
use Rattle.sr_cell.specs.Cells.{cell_le, cell_eq}
use Rattle.sr_grammar.specs.declared.statement.Literal.{Literal}
use Rattle.sr_grammar.specs.declared.statement.Op.{Op}
use Rattle.sr_grammar.specs.declared.statement.Op.TheVariants as ops
use Rattle.sr_grammar.specs.declared.statement.Atom.{Atom}
use Rattle.sr_grammar.specs.declared.statement.Atom.TheVariants as atoms
use Rattle.sr_grammar.specs.Trees as tree
use Rattle.sr_box.specs.Prefixes.{behind_byte, next_prefix}
use Rattle.sr_model.specs.Conditions.{Cond, Conds, Test, Tests, And, Or, Not, none, more, Eq, Ne, Lt, Le, Gt, Ge, Between, OneOf, Prefix, IsNull}
use Rattle.sr_model.specs.Queries.{Output}
use Rattle.sr_model.specs.Ends.{next_value, next_text, values_without, test_ends, places_of, ends, all_ends}
use Rattle.sr_query.specs.Binding.{fault, ◌>>=◌, each, resolved, column_of, is_of, is_inside, value_of, compared, text_of, test_of, said, bound, bound_all, cond_of, conds_of, references, conjuncts, all_conjuncts, is_of_part, list_conds, part_condition, filter_bound, Bound, Bounds, Testing, Conjunction, Disjunction, Negation, no_more, one_more}
use Rattle.sr_query.proofs.Steps.{split_ok}
use Rattle.sr_lines.specs.Short.{is_short, compares_short, has_short_texts, have_short_texts, EndsAreShort}

-- ---- ends

at_most : (s : List ℕ) (n : ℕ) → nat_le (length s) n ≡ true → length s ≤ n
at_most s n h = grind (arith, nat_tests)

is_most : (s : List ℕ) (n : ℕ) → length s ≤ n → nat_le (length s) n ≡ true
is_most s n h = grind (arith, nat_tests)

one_longer : (v : Cell) → is_short 120 v ≡ true → is_short 121 v ≡ true
one_longer (Num n) h = refl
one_longer (Str s) h = let few = at_most s 120 h in is_most s 121 (omega (arith, few))
one_longer Null h = refl

next_short : (v : Cell) → is_short 120 v ≡ true → is_short 121 (next_value v) ≡ true
next_short (Num n) h = refl
next_short (Str s) h = let few = at_most s 120 h in is_most (s ++ 0 ∷ []) 121 (omega (arith, few, length-append s (0 ∷ [])))
next_short Null h = refl

all_longer : (vs : List Cell) → list_all (is_short 120) vs ≡ true → list_all (is_short 121) vs ≡ true
all_longer [] h = refl
all_longer (v ∷ vs) h = let p = and_parts (is_short 120 v) (list_all (is_short 120) vs) h in both_true (one_longer v p.0) (all_longer vs p.1)

all_next : (vs : List Cell) → list_all (is_short 120) vs ≡ true → list_all (is_short 121) (map next_value vs) ≡ true
all_next [] h = refl
all_next (v ∷ vs) h = let p = and_parts (is_short 120 v) (list_all (is_short 120) vs) h in both_true (next_short v p.0) (all_next vs p.1)

filtered : (p q : Cell → Bool) (vs : List Cell) → list_all p vs ≡ true → list_all p (filter q vs) ≡ true
filtered p q [] h = refl
filtered p q (v ∷ vs) h = let both = and_parts (p v) (list_all p vs) h in go (q v) both.0 (filtered p q vs both.1)
  where
    go : (b : Bool) → p v ≡ true → list_all p (filter q vs) ≡ true → list_all p (if b then v ∷ filter q vs else filter q vs) ≡ true
    go true here rest = both_true here rest
    go false here rest = rest

both_lists : (p : Cell → Bool) (xs ys : List Cell) → list_all p xs ≡ true → list_all p ys ≡ true → list_all p (xs ++ ys) ≡ true
both_lists p xs ys hx hy = list_all-append p xs ys ∙ both_true hx hy

-- the next prefix is no longer
text_within : Option (List ℕ) → ℕ → Type 0
text_within None n = Unit {0}
text_within (Some s) n = length s ≤ n

behind_within : (b : ℕ) (next : Option (List ℕ)) (n : ℕ) → text_within next n → text_within (behind_byte b next) (n + 1)
unfolding text_within
behind_within b (Some next) n h = omega (arith, h)
behind_within b None n h = go (b == 255)
  where
    go : (last : Bool) → text_within (if last then None else Some ((b + 1) ∷ [])) (n + 1)
    go true = tt
    go false = omega arith

prefix_within : (p : List ℕ) → text_within (next_prefix p) (length p)
unfolding text_within
prefix_within [] = tt
prefix_within (b ∷ p) = subst (text_within (behind_byte b (next_prefix p))) (let e : length p + 1 ≡ length (b ∷ p) = omega arith in e) (behind_within b (next_prefix p) (length p) (prefix_within p))

next_within : (next : Option (List ℕ)) (n : ℕ) → text_within next n → n ≤ 120 → list_all (is_short 121) (next_text next) ≡ true
unfolding text_within
next_within None n h few = refl
next_within (Some s) n h few = both_true (is_most s 121 (omega (arith, h, few))) refl

test_short : (t : Test) → compares_short t ≡ true → list_all (is_short 121) (test_ends t) ≡ true
test_short (Eq v) h = both_true (one_longer v h) (both_true (next_short v h) refl)
test_short (Ne v) h = both_true (one_longer v h) (both_true (next_short v h) refl)
test_short (Lt v) h = both_true (one_longer v h) refl
test_short (Le v) h = both_true (next_short v h) refl
test_short (Gt v) h = both_true (next_short v h) refl
test_short (Ge v) h = both_true (one_longer v h) refl
test_short (Between a b) h = let p = and_parts (is_short 120 a) (is_short 120 b) h in go (cell_le a b) (one_longer a p.0) (next_short b p.1)
  where
    go : (x : Bool) → is_short 121 a ≡ true → is_short 121 (next_value b) ≡ true → list_all (is_short 121) (if x then a ∷ next_value b ∷ [] else []) ≡ true
    go true low high = both_true low (both_true high refl)
    go false low high = refl
test_short (OneOf vs) h =
    let own = all_longer vs h in
    let next = all_next vs h in
    both_lists (is_short 121) (values_without vs (map next_value vs)) (values_without (map next_value vs) vs)
    (filtered (is_short 121) (λ v. not (list_any (cell_eq v) (map next_value vs))) vs own)
    (filtered (is_short 121) (λ v. not (list_any (cell_eq v) vs)) (map next_value vs) next)
test_short (Prefix p) h =
    let few = at_most p 120 h in
    both_true (is_most p 121 (omega (arith, few))) (next_within (next_prefix p) (length p) (prefix_within p) few)
test_short IsNull h = refl

mutual
  one_ends : (c : ℕ) (d : Cond) → has_short_texts d ≡ true → list_all (is_short 121) (ends c d) ≡ true
  one_ends c (Tests column t) h = go (column == c) (test_short t h)
    where
      go : (b : Bool) → list_all (is_short 121) (test_ends t) ≡ true → list_all (is_short 121) (if b then places_of t else []) ≡ true
      go true short = both_true refl short
      go false short = refl
  one_ends c (And cs) h = members_end c cs h
  one_ends c (Or cs) h = members_end c cs h
  one_ends c (Not d) h = one_ends c d h

  members_end : (c : ℕ) (ds : Conds) → have_short_texts ds ≡ true → list_all (is_short 121) (all_ends c ds) ≡ true
  members_end c none h = refl
  members_end c (more d ds) h =
      let p = and_parts (has_short_texts d) (have_short_texts ds) h in
      both_lists (is_short 121) (ends c d) (all_ends c ds) (one_ends c d p.0) (members_end c ds p.1)

pub ends_are_short : EndsAreShort
ends_are_short c condition h = one_ends c condition h

-- ---- bound tests

value : {A : Type 0} (a b : A) → (let here : Result A Fault = Ok a in here) ≡ Ok b → a ≡ b
value a b e = cc

inside_short : (v : Cell) → is_inside v ≡ true → is_short 120 v ≡ true
inside_short (Num n) h = refl
inside_short (Str s) h = h
inside_short Null h = refl

value_short : (kind : Kind) (l : Literal) (v : Cell) → value_of kind l ≡ Ok v → is_short 120 v ≡ true
value_short kind l v e = go (not (is_of kind l.cell)) (is_inside l.cell) refl e
  where
    go : (a b : Bool) → is_inside l.cell ≡ b → (if a then fault WrongType l.place else (if b then Ok l.cell else fault OutOfDomain l.place)) ≡ Ok v → is_short 120 v ≡ true
    go true b is e = absurd cc
    go false true is e = subst (λ z. is_short 120 z ≡ true) (value l.cell v e) (inside_short l.cell is)
    go false false is e = absurd cc

values_short : (kind : Kind) (ls : List Literal) (vs : List Cell) → each (value_of kind) ls ≡ Ok vs → list_all (is_short 120) vs ≡ true
values_short kind [] vs e = subst (λ z. list_all (is_short 120) z ≡ true) (value [] vs e) refl
values_short kind (l ∷ ls) vs e =
    let first = split_ok (value_of kind l) (λ b. each (value_of kind) ls >>= λ bs. Ok (b ∷ bs)) vs e in
    let others = split_ok (each (value_of kind) ls) (λ bs. Ok (first.0 ∷ bs)) vs first.2 in
    subst (λ z. list_all (is_short 120) z ≡ true) (value (first.0 ∷ others.0) vs others.2)
    (both_true (value_short kind l first.0 first.1) (values_short kind ls others.0 others.1))

text_short : (v : Cell) → is_short 120 v ≡ true → nat_le (length (text_of v)) 120 ≡ true
text_short (Num n) h = refl
text_short (Str s) h = h
text_short Null h = refl

said_short : (place : ℕ) (o : Output) (holds : Bool) (t : Test) → compares_short t ≡ true → has_short_texts (cond_of (said place o (holds, t))) ≡ true
said_short place o true t h = h
said_short place o false t h = h

compared_short : (op : Op) (v : Cell) → is_short 120 v ≡ true → compares_short (compared op v) ≡ true
compared_short ops.Eq v h = h
compared_short ops.Ne v h = h
compared_short ops.Lt v h = h
compared_short ops.Le v h = h
compared_short ops.Gt v h = h
compared_short ops.Ge v h = h

abbrev IsShortTest : Bool × Test → Type 0
IsShortTest t = compares_short t.1 ≡ true

is_test : (made t : Bool × Test) → (let here : Result (Bool × Test) Fault = Ok made in here) ≡ Ok t → IsShortTest made → IsShortTest t
is_test made t e h = subst IsShortTest (value made t e) h

one_value : (kind : Kind) (l : Literal) (make : Cell → Bool × Test) (t : Bool × Test) → ((v : Cell) → is_short 120 v ≡ true → IsShortTest (make v)) → (value_of kind l >>= λ v. Ok (make v)) ≡ Ok t → IsShortTest t
one_value kind l make t each_short e =
    let s = split_ok (value_of kind l) (λ v. Ok (make v)) t e in
    is_test (make s.0) t s.2 (each_short s.0 (value_short kind l s.0 s.1))

two_values : (kind : Kind) (low high : Literal) (holds : Bool) (t : Bool × Test) → (value_of kind low >>= λ a. value_of kind high >>= λ b. Ok (holds, Between a b)) ≡ Ok t → IsShortTest t
two_values kind low high holds t e =
    let a = split_ok (value_of kind low) (λ a. value_of kind high >>= λ b. Ok (holds, Between a b)) t e in
    let b = split_ok (value_of kind high) (λ b. Ok (holds, Between a.0 b)) t a.2 in
    is_test (holds, Between a.0 b.0) t b.2 (both_true (value_short kind low a.0 a.1) (value_short kind high b.0 b.1))

all_values : (kind : Kind) (ls : List Literal) (holds : Bool) (t : Bool × Test) → (each (value_of kind) ls >>= λ vs. Ok (holds, OneOf vs)) ≡ Ok t → IsShortTest t
all_values kind ls holds t e =
    let s = split_ok (each (value_of kind) ls) (λ vs. Ok (holds, OneOf vs)) t e in
    is_test (holds, OneOf s.0) t s.2 (values_short kind ls s.0 s.1)

test_is_short : (kind : Kind) (a : Atom) (t : Bool × Test) → test_of kind a ≡ Ok t → IsShortTest t
test_is_short kind (atoms.Cmp op l) t e = one_value kind l (λ v. (true, compared op v)) t (λ v h. compared_short op v h) e
test_is_short kind (atoms.Between low high) t e = two_values kind low high true t e
test_is_short kind (atoms.OneOf all) t e = all_values kind all true t e
test_is_short kind (atoms.Prefix l) t e = one_value kind l (λ v. (true, Prefix (text_of v))) t text_short e
test_is_short kind (atoms.NotBetween low high) t e = two_values kind low high false t e
test_is_short kind (atoms.NotOneOf all) t e = all_values kind all false t e
test_is_short kind (atoms.NotPrefix l) t e = one_value kind l (λ v. (false, Prefix (text_of v))) t text_short e
test_is_short kind atoms.IsNull t e = is_test (true, IsNull) t e refl
test_is_short kind atoms.NotNull t e = is_test (false, IsNull) t e refl

-- ---- bound conditions

abbrev is_short_bound : Bound → Bool
is_short_bound b = has_short_texts (cond_of b)

abbrev are_short_bounds : Bounds → Bool
are_short_bounds bs = have_short_texts (conds_of bs)

mutual
  bound_short : (schema : List Table) (tables : List ℕ) (c : tree.Cond) (b : Bound) → bound schema tables c ≡ Ok b → is_short_bound b ≡ true
  bound_short schema tables (tree.Test n a) b e =
      let o = split_ok (resolved schema tables n) (λ o. test_of (column_of schema tables o).kind a >>= λ t. Ok (said n.place o t)) b e in
      let t = split_ok (test_of (column_of schema tables o.0).kind a) (λ t. Ok (said n.place o.0 t)) b o.2 in
      subst (λ z. is_short_bound z ≡ true) (value (said n.place o.0 t.0) b t.2)
      (said_short n.place o.0 t.0.0 t.0.1 (test_is_short (column_of schema tables o.0).kind a t.0 t.1))
  bound_short schema tables (tree.And cs) b e =
      let bs = split_ok (bound_all schema tables cs) (λ bs. Ok (Conjunction bs)) b e in
      subst (λ z. is_short_bound z ≡ true) (value (Conjunction bs.0) b bs.2) (all_short schema tables cs bs.0 bs.1)
  bound_short schema tables (tree.Or cs) b e =
      let bs = split_ok (bound_all schema tables cs) (λ bs. Ok (Disjunction bs)) b e in
      subst (λ z. is_short_bound z ≡ true) (value (Disjunction bs.0) b bs.2) (all_short schema tables cs bs.0 bs.1)
  bound_short schema tables (tree.Not c) b e =
      let d = split_ok (bound schema tables c) (λ d. Ok (Negation d)) b e in
      subst (λ z. is_short_bound z ≡ true) (value (Negation d.0) b d.2) (bound_short schema tables c d.0 d.1)

  all_short : (schema : List Table) (tables : List ℕ) (cs : tree.Conds) (bs : Bounds) → bound_all schema tables cs ≡ Ok bs → are_short_bounds bs ≡ true
  all_short schema tables tree.none bs e = subst (λ z. are_short_bounds z ≡ true) (value no_more bs e) refl
  all_short schema tables (tree.more c cs) bs e =
      let b = split_ok (bound schema tables c) (λ b. bound_all schema tables cs >>= λ bs. Ok (one_more b bs)) bs e in
      let others = split_ok (bound_all schema tables cs) (λ bs. Ok (one_more b.0 bs)) bs b.2 in
      subst (λ z. are_short_bounds z ≡ true) (value (one_more b.0 others.0) bs others.2)
      (both_true (bound_short schema tables c b.0 b.1) (all_short schema tables cs others.0 others.1))

mutual
  conjuncts_short : (b : Bound) → is_short_bound b ≡ true → list_all is_short_bound (conjuncts b) ≡ true
  conjuncts_short (Testing place o t) h = both_true h refl
  conjuncts_short (Conjunction bs) h = all_conjuncts_short bs h
  conjuncts_short (Disjunction bs) h = both_true h refl
  conjuncts_short (Negation b) h = both_true h refl

  all_conjuncts_short : (bs : Bounds) → are_short_bounds bs ≡ true → list_all is_short_bound (all_conjuncts bs) ≡ true
  all_conjuncts_short no_more h = refl
  all_conjuncts_short (one_more b bs) h =
      let p = and_parts (is_short_bound b) (are_short_bounds bs) h in
      list_all-append is_short_bound (conjuncts b) (all_conjuncts bs) ∙ both_true (conjuncts_short b p.0) (all_conjuncts_short bs p.1)

pub filter_short : (schema : List Table) (tables : List ℕ) (filter : Option tree.Cond) (bs : List Bound) → filter_bound schema tables filter ≡ Ok bs → list_all (λ b. has_short_texts (cond_of b)) bs ≡ true
filter_short schema tables None bs e = subst (λ z. list_all is_short_bound z ≡ true) (value [] bs e) refl
filter_short schema tables (Some c) bs e =
    let b = split_ok (bound schema tables c) (λ b. Ok (conjuncts b)) bs e in
    subst (λ z. list_all is_short_bound z ≡ true) (value (conjuncts b.0) bs b.2) (conjuncts_short b.0 (bound_short schema tables c b.0 b.1))

-- the condition of a part
pub part_short : (part : ℕ) (bs : List Bound) → list_all (λ b. has_short_texts (cond_of b)) bs ≡ true → has_short_texts (part_condition part bs) ≡ true
part_short part [] h = refl
part_short part (b ∷ bs) h =
    let p = and_parts (is_short_bound b) (list_all is_short_bound bs) h in
    go (is_of_part part (references b)) p.0 (part_short part bs p.1)
  where
    go : (x : Bool) → is_short_bound b ≡ true → have_short_texts (list_conds (filter (λ b. is_of_part part (references b)) bs)) ≡ true
        → have_short_texts (list_conds (if x then b ∷ filter (λ b. is_of_part part (references b)) bs else filter (λ b. is_of_part part (references b)) bs)) ≡ true
    go true here rest = both_true here rest
    go false here rest = rest
