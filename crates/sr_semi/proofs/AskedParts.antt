-- Of a query of two tables, each named text asks its part.
use Rattle.std.proofs.Common.{◌≡◌, ℕ, ◌+◌, ◌<◌, Bool, true, false, List, [], ◌∷◌, ◌++◌, map, length, Some, None, refl, sym, ap, subst, ◌∙◌, arith, if◌then◌else◌}
use Rattle.std.specs.Prelude.{◌&&◌, Ok, Option, filter, slice_index_or, not}
use Rattle.std.specs.List.{AllZip, AllByRecursion, list_all}
use Rattle.sr_cell.specs.declared.cell.Cell.{Cell}
use Rattle.sr_cell.specs.declared.cell.Cell.TheVariants.{Num, Str, Null}
use Rattle.std.proofs.lemmas.Bool.{and_parts}
use Rattle.sr_cell.specs.declared.fault.Why.TheVariants.{WrongType, OutOfDomain}
use Rattle.sr_cell.specs.declared.table.Kind.{Kind}
use Rattle.sr_cell.specs.declared.table.Table.{Table}
use Rattle.sr_cell.specs.Attrs.{has_column, project}
use Rattle.sr_cell.specs.Cells.{Row, cell_at}
use Rattle.sr_cell.specs.Columns.{table_at}
use Rattle.sr_cell.specs.Names.{repeat_at}
use Rattle.sr_cell.proofs.Results.{same_Ok}
use Rattle.sr_grammar.specs.declared.statement.Literal.{Literal}
use Rattle.sr_grammar.specs.declared.statement.Atom.TheVariants.{OneOf}
use Rattle.sr_grammar.specs.Places.{bare_cond, bare_conds, bare_filter, bare_literal}
use Rattle.sr_grammar.specs.Trees as tree
use Rattle.sr_join.proofs.Lists.{zip-filter}
use Rattle.sr_model.specs.Conditions.{Cond, And, is_true, passes}
use Rattle.sr_model.specs.Sides.{all_true}
use Rattle.sr_model.proofs.Sides.{and-true}
use Rattle.sr_model.specs.Conditions as model
use Rattle.sr_model.specs.Queries.{Output, Part, Query}
use Rattle.sr_query.specs.Binding.{Bound, Bounds, Testing, bound, bound_all, bound_select, column_at, column_of, cond_of, conjuncts, each, fault, filter_bound, is_inside, is_of, is_of_part, joins_from, list_conds, named_columns, names_one, narrow, outputs_of, part_of, parts_from, references, resolved, said, sources, tables_from, test_of, value_of, ◌>>=◌}
use Rattle.sr_query.proofs.Steps.{split_ok}
use Rattle.sr_region.specs.Regions.{rank}
use Rattle.sr_region.proofs.Ranks.{stand}
use Rattle.sr_lines.proofs.Sound.{all_narrow, made}
use Rattle.sr_semi.specs.Keys.{is_key, key_in, literal_of}
use Rattle.sr_semi.specs.Texts as texts
use Rattle.sr_semi.specs.Texts.{all_of, bare_reference, conjuncts_on, is_about}
use Rattle.sr_semi.proofs.Asked.{Matches, Says, is-bound}
use Rattle.sr_semi.proofs.Moved.{IsSingle, Means, about-is, move, moved, moved-references, moved_reference, one-part, singles, zip-both, zip-conjuncts}
use Rattle.sr_semi.proofs.OneTable.{column-first, resolves}

-- ---- the phases of binding

pub record Phases (schema : List Table) (s : tree.Select) (q : Query) : Type 0 where
  pub tables : List ℕ
  pub bs : List Bound
  pub columns : List Output
  pub us : List (Unit {0})
  pub named : tables_from schema [] (sources s) ≡ Ok tables
  pub filtered : filter_bound schema tables s.filter ≡ Ok bs
  pub apart : each (λ b. names_one (references b)) bs ≡ Ok us
  pub parts : q.parts ≡ parts_from schema 0 tables columns bs

pub phases : (schema : List Table) (s : tree.Select) (q : Query) → bound_select schema s ≡ Ok q → Phases schema s q
phases schema s q e =
    let tables = split_ok (tables_from schema [] (sources s)) _ q e in
    let joins = split_ok (joins_from schema tables.0 1 s.joins) _ q tables.2 in
    let outputs = split_ok (outputs_of schema tables.0 s) _ q joins.2 in
    let bs = split_ok (filter_bound schema tables.0 s.filter) _ q outputs.2 in
    let apart = split_ok (each (λ b. names_one (references b)) bs.0) _ q bs.2 in
    let parts = split_ok (each narrow (parts_from schema 0 tables.0 (named_columns outputs.0 joins.0 bs.0) bs.0)) _ q apart.2 in
    let same : made parts.0 joins.0 outputs.0 ≡ q = same_Ok (made parts.0 joins.0 outputs.0) q parts.2 in
    record {
      tables = tables.0;
      bs = bs.0;
      columns = named_columns outputs.0 joins.0 bs.0;
      us = apart.0;
      named = tables.1;
      filtered = bs.1;
      apart = apart.1;
      parts = ap (λ (z : Query). z.parts) (sym same) ∙ sym (all_narrow (parts_from schema 0 tables.0 (named_columns outputs.0 joins.0 bs.0) bs.0) parts.0 parts.1);
    }

pub record TwoTables (schema : List Table) (tables : List ℕ) (columns : List Output) (bs : List Bound) (left right : Part) : Type 0 where
  pub one : ℕ
  pub other : ℕ
  pub tables_are : tables ≡ one ∷ other ∷ []
  pub left_is : left ≡ part_of schema 0 one columns bs
  pub right_is : right ≡ part_of schema 1 other columns bs

pub two-tables : (schema : List Table) (tables : List ℕ) (columns : List Output) (bs : List Bound) (left right : Part) → left ∷ right ∷ [] ≡ parts_from schema 0 tables columns bs
    → TwoTables schema tables columns bs left right
two-tables schema [] columns bs left right e = absurd cc
two-tables schema (a ∷ []) columns bs left right e = absurd cc
two-tables schema (a ∷ b ∷ []) columns bs left right e = record { one = a; other = b; tables_are = refl; left_is = cc e; right_is = cc e }
two-tables schema (a ∷ b ∷ c ∷ ts) columns bs left right e = absurd cc

-- ---- the conjuncts of a part

zip-with : {A B : Type 0} (R : A → B → Type 0) (P : B → Type 0) (xs : List A) (ys : List B) → AllZip R xs ys → AllByRecursion P ys → AllZip (λ x y. R x y × P y) xs ys
zip-with R P [] [] zip all = tt
zip-with R P [] (y ∷ ys) zip all = absurd zip
zip-with R P (x ∷ xs) [] zip all = absurd zip
zip-with R P (x ∷ xs) (y ∷ ys) zip all = ((zip.0, all.0), zip-with R P xs ys zip.1 all.1)

zip-map : {A B : Type 0} (R S : A → B → Type 0) (xs : List A) (ys : List B) → ((x : A) (y : B) → R x y → S x y) → AllZip R xs ys → AllZip S xs ys
zip-map R S [] [] f zip = tt
zip-map R S [] (y ∷ ys) f zip = absurd zip
zip-map R S (x ∷ xs) [] f zip = absurd zip
zip-map R S (x ∷ xs) (y ∷ ys) f zip = (f x y zip.0, zip-map R S xs ys f zip.1)

all-pass : {A : Type 0} (p : A → Bool) (xs : List A) → AllByRecursion (λ x. p x ≡ true) (filter p xs)
all-pass p [] = tt
all-pass {A} p (x ∷ xs) = go (p x) refl (all-pass p xs)
  where
    go : (b : Bool) → p x ≡ b → AllByRecursion (λ x. p x ≡ true) (filter p xs) → AllByRecursion (λ x. p x ≡ true) (if b then x ∷ filter p xs else filter p xs)
    go true is more = (is, more)
    go false is more = more

pub each-kept : {A : Type 0} (P : A → Type 0) (p : A → Bool) (xs : List A) → AllByRecursion P xs → AllByRecursion P (filter p xs)
each-kept P p [] all = tt
each-kept {A} P p (x ∷ xs) all = go (p x) (each-kept P p xs all.1)
  where
    go : (b : Bool) → AllByRecursion P (filter p xs) → AllByRecursion P (if b then x ∷ filter p xs else filter p xs)
    go true more = (all.0, more)
    go false more = more

both-facts : {A : Type 0} (P Q : A → Type 0) (xs : List A) → AllByRecursion P xs → AllByRecursion Q xs → AllByRecursion (λ x. P x × Q x) xs
both-facts P Q [] h k = tt
both-facts P Q (x ∷ xs) h k = ((h.0, k.0), both-facts P Q xs h.1 k.1)

each-apart : (bs : List Bound) (us : List (Unit {0})) → each (λ b. names_one (references b)) bs ≡ Ok us → AllByRecursion (λ b. names_one (references b) ≡ Ok tt) bs
each-apart [] us e = tt
each-apart (b ∷ bs) us e =
    let x = split_ok (names_one (references b)) (λ u. each (λ b. names_one (references b)) bs >>= λ more. Ok (u ∷ more)) us e in
    let y = split_ok (each (λ b. names_one (references b)) bs) (λ more. Ok (x.0 ∷ more)) us x.2 in
    (x.1, each-apart bs y.0 y.1)

first-moved : (part : ℕ) (b : Bound) → is_of_part part (references b) ≡ true → is_of_part 0 (references (moved b)) ≡ true
first-moved part b of = ap (is_of_part 0) (moved-references b) ∙ go (references b) of
  where
    go : (rs : List (ℕ × Output)) → is_of_part part rs ≡ true → is_of_part 0 (map moved_reference rs) ≡ true
    go [] e = absurd cc
    go ((place, o) ∷ rs) e = refl

abbrev pub on_part : ℕ → Bound → Bool
on_part part b = is_of_part part (references b)

abbrev Fact : Bound → Type 0
Fact b = IsSingle b × (names_one (references b) ≡ Ok tt)

pub says-part : (schema : List Table) (tables : List ℕ) (part t : ℕ) → t ≡ slice_index_or tables part 0 → (f : Option tree.Cond) (bs : List Bound) (us : List (Unit {0}))
    → filter_bound schema tables f ≡ Ok bs → each (λ b. names_one (references b)) bs ≡ Ok us → AllZip (Says schema t) (conjuncts_on schema tables part f) (filter (on_part part) bs)
says-part schema tables part t is None bs us e apart = subst (λ bs. AllZip (Says schema t) [] (filter (on_part part) bs)) (same_Ok [] bs e) tt
says-part schema tables part t is (Some c) bs us e apart =
    let x = split_ok (bound schema tables c) (λ b. Ok (conjuncts b)) bs e in
    let same : conjuncts x.0 ≡ bs = same_Ok (conjuncts x.0) bs x.2 in
    let facts = both-facts IsSingle (λ b. names_one (references b) ≡ Ok tt) (conjuncts x.0) (singles x.0) (each-apart (conjuncts x.0) us (ap (each (λ b. names_one (references b))) same ∙ apart)) in
    let zip = zip-with (Means schema tables) Fact (texts.conjuncts c) (conjuncts x.0) (zip-conjuncts schema tables c x.0 x.1) facts in
    let some = zip-filter (λ c b. Means schema tables c b × Fact b) (is_about schema tables part) (on_part part) (texts.conjuncts c) (conjuncts x.0) zip (λ d b r. about-is schema tables part d b r.0) in
    let more = zip-with (λ c b. Means schema tables c b × Fact b) (λ b. on_part part b ≡ true) (filter (is_about schema tables part) (texts.conjuncts c)) (filter (on_part part) (conjuncts x.0)) some
    (all-pass (on_part part) (conjuncts x.0)) in
    subst (λ bs. AllZip (Says schema t) (filter (is_about schema tables part) (texts.conjuncts c)) (filter (on_part part) bs)) same
    (zip-map (λ c b. (Means schema tables c b × Fact b) × (on_part part b ≡ true)) (Says schema t) (filter (is_about schema tables part) (texts.conjuncts c)) (filter (on_part part) (conjuncts x.0))
    (λ d b r. (move schema tables part t is d b r.0.0 (one-part part b r.0.1.1 r.1), r.0.1.0, first-moved part b r.1)) more)

-- ---- a conjunct more: the keys

and-more : (c : tree.Cond) (ds : List tree.Cond) (k : tree.Cond) → tree.and_of c (ds ++ k ∷ []) ≡ tree.And (tree.conds_of (c ∷ (ds ++ k ∷ [])))
and-more c [] k = refl
and-more c (d ∷ ds) k = refl

record Last (schema : List Table) (t : ℕ) (k : tree.Cond) : Type 0 where
  bound_so : Bound
  is : bound schema (t ∷ []) (bare_cond k) ≡ Ok bound_so

all-last : (schema : List Table) (t : ℕ) (cs : List tree.Cond) (k : tree.Cond) (bs : Bounds) → bound_all schema (t ∷ []) (bare_conds (tree.conds_of (cs ++ k ∷ []))) ≡ Ok bs → Last schema t k
all-last schema t [] k bs e = let x = split_ok (bound schema (t ∷ []) (bare_cond k)) _ bs e in record { bound_so = x.0; is = x.1 }
all-last schema t (c ∷ cs) k bs e =
    let x = split_ok (bound schema (t ∷ []) (bare_cond c)) _ bs e in
    let y = split_ok (bound_all schema (t ∷ []) (bare_conds (tree.conds_of (cs ++ k ∷ [])))) _ bs x.2 in
    all-last schema t cs k y.0 y.1

last-of : (schema : List Table) (t : ℕ) (c : tree.Cond) (ds : List tree.Cond) (k : tree.Cond) (b : Bound) → bound schema (t ∷ []) (bare_cond (tree.and_of c (ds ++ k ∷ []))) ≡ Ok b → Last schema t k
last-of schema t c ds k b e =
    let x = split_ok (bound_all schema (t ∷ []) (bare_conds (tree.conds_of (c ∷ (ds ++ k ∷ []))))) _ b (ap (λ d. bound schema (t ∷ []) (bare_cond d)) (sym (and-more c ds k)) ∙ e) in
    all-last schema t (c ∷ ds) k x.0 x.1

value-is : (kind : Kind) (l : Literal) (v : Cell) → value_of kind l ≡ Ok v → v ≡ l.cell
value-is kind l v e = go (not (is_of kind l.cell)) (is_inside l.cell) e
  where
    go : (wrong inside : Bool) → (if wrong then fault WrongType l.place else (if inside then Ok l.cell else fault OutOfDomain l.place)) ≡ Ok v → v ≡ l.cell
    go true inside e = absurd cc
    go false true e = sym (same_Ok l.cell v e)
    go false false e = absurd cc

values-are : (kind : Kind) (keys vs : List Cell) → each (value_of kind) (map bare_literal (map literal_of keys)) ≡ Ok vs → vs ≡ keys
values-are kind [] vs e = sym (same_Ok [] vs e)
values-are kind (k ∷ keys) vs e =
    let x = split_ok (value_of kind (bare_literal (literal_of k))) (λ b. each (value_of kind) (map bare_literal (map literal_of keys)) >>= λ bs. Ok (b ∷ bs)) vs e in
    let y = split_ok (each (value_of kind) (map bare_literal (map literal_of keys))) (λ bs. Ok (x.0 ∷ bs)) vs x.2 in
    sym (same_Ok (x.0 ∷ y.0) vs y.2) ∙ (ap (λ v. v ∷ y.0) (value-is kind (bare_literal (literal_of k)) x.0 x.1) ∙ ap (λ more. k ∷ more) (values-are kind keys y.0 y.1))

abbrev pub keyed : List Table → ℕ → List Cell → Bound
keyed schema t keys = Testing 0 (record { part = 0; column = (table_at schema t).key }) (model.OneOf keys)

key-bound : (schema : List Table) (t : ℕ) (keys : List Cell) (b : Bound) → repeat_at [] (table_at schema t).columns ≡ None → (table_at schema t).key < length (table_at schema t).columns
    → bound schema (t ∷ []) (bare_cond (key_in (table_at schema t) keys)) ≡ Ok b → b ≡ keyed schema t keys
key-bound schema t keys b differ less e =
    let table = table_at schema t in
    let n = bare_reference (column_at table table.key).name in
    let x = split_ok (resolved schema (t ∷ []) n) _ b e in
    let y = split_ok (test_of (column_of schema (t ∷ []) x.0).kind (OneOf (map bare_literal (map literal_of keys)))) _ b x.2 in
    let z = split_ok (each (value_of (column_of schema (t ∷ []) x.0).kind) (map bare_literal (map literal_of keys))) _ y.0 y.1 in
    let zero-more : 0 + table.key ≡ table.key = omega arith in
    let o : x.0 ≡ record { part = 0; column = table.key } = resolves schema t n (column_at table table.key).name table.key x.0 refl (column-first [] table.columns table.key _ differ less ∙ ap Some zero-more) x.1 in
    let test : y.0 ≡ (true, model.OneOf keys) = sym (same_Ok (true, model.OneOf z.0) y.0 z.2) ∙ ap (λ vs. (true, model.OneOf vs)) (values-are (column_of schema (t ∷ []) x.0).kind keys z.0 z.1) in
    sym (same_Ok (said 0 x.0 y.0) b y.2) ∙ (ap (λ t. said 0 x.0 t) test ∙ ap (λ o. Testing 0 o (model.OneOf keys)) o)

-- with the keys beside its own conjuncts
pub matches-keys : (schema : List Table) (t : ℕ) (cs : List tree.Cond) (bs : List Bound) (keys : List Cell) → repeat_at [] (table_at schema t).columns ≡ None
    → (table_at schema t).key < length (table_at schema t).columns → AllZip (Says schema t) cs bs → Matches schema t (cs ++ key_in (table_at schema t) keys ∷ []) (bs ++ keyed schema t keys ∷ [])
matches-keys schema t cs bs keys differ less zip f bs2 same e =
    let k = key_in (table_at schema t) keys in
    let last = the-last cs same in
    let is : bound schema (t ∷ []) (bare_cond k) ≡ Ok (keyed schema t keys) = last.is ∙ ap Ok (key-bound schema t keys last.bound_so differ less last.is) in
    zip-both (Says schema t) cs (k ∷ []) bs (keyed schema t keys ∷ []) zip ((is, refl, refl), tt)
  where
    the-last : (cs : List tree.Cond) → bare_filter f ≡ bare_filter (all_of (cs ++ key_in (table_at schema t) keys ∷ [])) → Last schema t (key_in (table_at schema t) keys)
    the-last [] same = let x = is-bound schema t f (key_in (table_at schema t) keys) bs2 same e in record { bound_so = moved x.whole; is = x.bare }
    the-last (c ∷ cs) same =
        let x = is-bound schema t f (tree.and_of c (cs ++ key_in (table_at schema t) keys ∷ [])) bs2 same e in
        last-of schema t c cs (key_in (table_at schema t) keys) (moved x.whole) x.bare

all-true-more : (value : ℕ → Cell) (bs : List Bound) (b : Bound) → all_true value (list_conds (bs ++ b ∷ [])) ≡ (all_true value (list_conds bs) && is_true value (cond_of b))
all-true-more value [] b = and-one (is_true value (cond_of b))
  where
    and-one : (a : Bool) → (a && true) ≡ a
    and-one true = refl
    and-one false = refl
all-true-more value (c ∷ bs) b = go (is_true value (cond_of c)) (all-true-more value bs b)
  where
    go : (a : Bool) → all_true value (list_conds (bs ++ b ∷ [])) ≡ (all_true value (list_conds bs) && is_true value (cond_of b))
        → (a && all_true value (list_conds (bs ++ b ∷ []))) ≡ ((a && all_true value (list_conds bs)) && is_true value (cond_of b))
    go true e = e
    go false e = refl

-- the test for keys that are not Null is true of each of them, and of nothing else
no-null : (keys : List Cell) → list_all is_inside keys ≡ true → false ≡ is_key keys Null
no-null [] asked = refl
no-null (Num n ∷ keys) asked = no-null keys (and_parts (is_inside (Num n)) (list_all is_inside keys) asked).1
no-null (Str s ∷ keys) asked = no-null keys (and_parts (is_inside (Str s)) (list_all is_inside keys) asked).1
no-null (Null ∷ keys) asked = absurd cc

one-of : (keys : List Cell) (v : Cell) → list_all is_inside keys ≡ true → passes (model.OneOf keys) v ≡ is_key keys v
one-of keys (Num n) asked = refl
one-of keys (Str s) asked = refl
one-of keys Null asked = no-null keys asked

-- rows that pass with the keys beside are those that pass, and have one of the keys
pub with-keys : (keys : List Cell) (need key : ℕ) (bs : List Bound) (b : Bound) (rows : List Row) → list_all is_inside keys ≡ true → has_column need key ≡ true → cond_of b ≡ model.Tests key (model.OneOf keys)
    → map (project need) (filter (λ p. is_true (cell_at p) (And (list_conds (bs ++ b ∷ [])))) rows)
    ≡ filter (λ r. is_key keys (cell_at r (rank need key))) (map (project need) (filter (λ p. is_true (cell_at p) (And (list_conds bs))) rows))
with-keys keys need key bs b [] asked has is = refl
with-keys keys need key bs b (row ∷ rows) asked has is =
    rw (and-true (cell_at row) (list_conds (bs ++ b ∷ [])), and-true (cell_at row) (list_conds bs), all-true-more (cell_at row) bs b, is, one-of keys (cell_at row key) asked)
    (go (all_true (cell_at row) (list_conds bs)) (is_key keys (cell_at row key)) refl (with-keys keys need key bs b rows asked has is))
  where
    go : (a k : Bool) → is_key keys (cell_at row key) ≡ k
        → map (project need) (filter (λ p. is_true (cell_at p) (And (list_conds (bs ++ b ∷ [])))) rows)
        ≡ filter (λ r. is_key keys (cell_at r (rank need key))) (map (project need) (filter (λ p. is_true (cell_at p) (And (list_conds bs))) rows))
        → map (project need) (if a && k then row ∷ filter (λ p. is_true (cell_at p) (And (list_conds (bs ++ b ∷ [])))) rows else filter (λ p. is_true (cell_at p) (And (list_conds (bs ++ b ∷ [])))) rows)
        ≡ filter (λ r. is_key keys (cell_at r (rank need key))) (map (project need) (if a then row ∷ filter (λ p. is_true (cell_at p) (And (list_conds bs))) rows else filter (λ p. is_true (cell_at p) (And (list_conds bs))) rows))
    go true true at more = rw (stand need key row has, at) (ap (λ rest. project need row ∷ rest) more)
    go true false at more = rw (stand need key row has, at) more
    go false k at more = more
