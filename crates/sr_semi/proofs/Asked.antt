-- The named texts ask the parts.
use Rattle.std.proofs.Common.{◌≡◌, ℕ, zero, suc, ◌+◌, ◌<◌, Bool, true, false, List, [], ◌∷◌, map, length, Some, None, refl, sym, ap, subst, ◌∙◌, arith, if◌then◌else◌}
use Rattle.std.specs.Prelude.{◌==◌, Ok, Option, filter}
use Rattle.std.specs.List.{list_all, AllZip, AllByRecursion}
use Rattle.std.proofs.lemmas.Bool.{and_parts}
use Rattle.sr_cell.specs.declared.table.Column.{Column}
use Rattle.sr_cell.specs.declared.table.Table.{Table}
use Rattle.sr_cell.specs.Attrs.{has_column, project}
use Rattle.sr_cell.specs.Cells.{Row, cell_at}
use Rattle.sr_cell.specs.Columns.{fits_columns, table_at}
use Rattle.sr_cell.specs.Names.{repeat_at, table_named}
use Rattle.sr_cell.proofs.Results.{same_Ok}
use Rattle.sr_grammar.specs.declared.statement.JoinOn.{JoinOn}
use Rattle.sr_grammar.specs.declared.statement.Name.{Name}
use Rattle.sr_grammar.specs.Places.{bare_cond, bare_conds, bare_filter, bare_join, bare_name, bare_select, AreSame}
use Rattle.sr_grammar.specs.Trees as tree
use Rattle.sr_model.specs.Conditions.{And, is_true}
use Rattle.sr_model.specs.Queries.{Output, Query, output_of, rows_at, rows_of}
use Rattle.sr_model.specs.Statements.{Tables}
use Rattle.sr_print.specs.Writable.{is_name}
use Rattle.sr_query.specs.Binding.{Bound, Bounds, Testing, Conjunction, Disjunction, Negation, no_more, one_more, bound, bound_all, bound_query, bound_select, conjuncts, all_conjuncts, filter_bound, is_of_part, list_conds, named_columns, part_of, references, all_references}
use Rattle.sr_query.proofs.Steps.{split_ok}
use Rattle.sr_semi.specs.Answers.{IsAnswer, has_names}
use Rattle.sr_semi.specs.Texts.{all_of, bare_reference, names_of, select_of, text_of}
use Rattle.sr_semi.proofs.Moved.{IsSingle, all-on, list_all-parts, is_on, move, moved, moved-cond, moved-conjuncts, moved-references, moved_reference, part_is}
use Rattle.sr_semi.proofs.OneTable.{IsFirst, asks-one, names-resolve, one-rows, picked, picks-need, same-images}
use Rattle.sr_semi.proofs.ReadBack.{read-back}
use Rattle.sr_semi.proofs.Spelled.{AreSayable, IsBare, IsSpelled, each-append, query-spelled, selected}

-- ---- names of needed columns

pub bare-names : (c need : ℕ) (columns : List Column) → list_all (λ (d : Column). is_name d.name) columns ≡ true → AllByRecursion IsBare (names_of c need columns)
bare-names c need [] all = tt
bare-names c need (column ∷ columns) all =
    let a = and_parts (is_name column.name) (list_all (λ (d : Column). is_name d.name) columns) all in
    go (has_column need c) a.0 (bare-names (c + 1) need columns a.1)
  where
    go : (b : Bool) → is_name column.name ≡ true → AllByRecursion IsBare (names_of (c + 1) need columns)
        → AllByRecursion IsBare (if b then bare_reference column.name ∷ names_of (c + 1) need columns else names_of (c + 1) need columns)
    go true is more = ((column.name, refl, is), more)
    go false is more = more

pub names-bare : (c need : ℕ) (columns : List Column) → map bare_name (names_of c need columns) ≡ names_of c need columns
names-bare c need [] = refl
names-bare c need (column ∷ columns) = go (has_column need c) (names-bare (c + 1) need columns)
  where
    go : (b : Bool) → map bare_name (names_of (c + 1) need columns) ≡ names_of (c + 1) need columns
        → map bare_name (if b then bare_reference column.name ∷ names_of (c + 1) need columns else names_of (c + 1) need columns)
        ≡ (if b then bare_reference column.name ∷ names_of (c + 1) need columns else names_of (c + 1) need columns)
    go true e = ap (λ (more : List Name). bare_reference column.name ∷ more) e
    go false e = e

-- one column that is needed has a name
record IsSome (ns : List Name) : Type 0 where
  first : Name
  rest : List Name
  is : ns ≡ first ∷ rest

names-some : (c need : ℕ) (columns : List Column) (k : ℕ) → k < length columns → has_column need (c + k) ≡ true → IsSome (names_of c need columns)
names-some c need [] k less has = absurd (omega (arith, less))
names-some c need (column ∷ columns) k less has =
    go (has_column need c) refl (λ j e. let here : c + 1 + j ≡ c + k = omega (arith, e) in names-some (c + 1) need columns j (omega (arith, less, e)) (ap (has_column need) here ∙ has))
  where
    go : (b : Bool) → has_column need c ≡ b → ((j : ℕ) → k ≡ suc j → IsSome (names_of (c + 1) need columns))
        → IsSome (if b then bare_reference column.name ∷ names_of (c + 1) need columns else names_of (c + 1) need columns)
    go true is later = record { first = bare_reference column.name; rest = names_of (c + 1) need columns; is = refl }
    go false is later = by k refl
      where
        by : (j : ℕ) → k ≡ j → IsSome (names_of (c + 1) need columns)
        by zero e = let here : c + k ≡ c = omega (arith, e) in let wrong : true ≡ false = sym has ∙ (ap (has_column need) here ∙ is) in absurd cc
        by (suc j) e = later j e

-- ---- conditions

-- the conjuncts say these conditions, of that table alone
abbrev pub Says : List Table → ℕ → tree.Cond → Bound → Type 0
Says schema t c b = (bound schema (t ∷ []) (bare_cond c) ≡ Ok (moved b)) × IsSingle b × (is_of_part 0 (references (moved b)) ≡ true)

abbrev bounds : List Bound → Bounds
bounds [] = no_more
bounds (b ∷ bs) = one_more b (bounds bs)

abbrev and_bound : Bound → List Bound → Bound
and_bound b [] = b
and_bound b (d ∷ ds) = Conjunction (one_more b (one_more d (bounds ds)))

all-say : (schema : List Table) (t : ℕ) (cs : List tree.Cond) (bs : List Bound) → AllZip (Says schema t) cs bs → bound_all schema (t ∷ []) (bare_conds (tree.conds_of cs)) ≡ Ok (bounds (map moved bs))
all-say schema t [] [] zip = refl
all-say schema t [] (b ∷ bs) zip = absurd zip
all-say schema t (c ∷ cs) [] zip = absurd zip
all-say schema t (c ∷ cs) (b ∷ bs) zip = rw (zip.0.0, all-say schema t cs bs zip.1) refl

and-says : (schema : List Table) (t : ℕ) (c : tree.Cond) (cs : List tree.Cond) (b : Bound) (bs : List Bound) → Says schema t c b → AllZip (Says schema t) cs bs
    → bound schema (t ∷ []) (bare_cond (tree.and_of c cs)) ≡ Ok (and_bound (moved b) (map moved bs))
and-says schema t c [] b [] says zip = says.0
and-says schema t c [] b (e ∷ es) says zip = absurd zip
and-says schema t c (d ∷ ds) b [] says zip = absurd zip
and-says schema t c (d ∷ ds) b (e ∷ es) says zip = rw (says.0, zip.0.0, all-say schema t ds es zip.1) refl

single-moved : (b : Bound) → IsSingle b → conjuncts (moved b) ≡ moved b ∷ []
single-moved b single = moved-conjuncts b ∙ ap (map moved) single

all-single : (schema : List Table) (t : ℕ) (cs : List tree.Cond) (bs : List Bound) → AllZip (Says schema t) cs bs → all_conjuncts (bounds (map moved bs)) ≡ map moved bs
all-single schema t [] [] zip = refl
all-single schema t [] (b ∷ bs) zip = absurd zip
all-single schema t (c ∷ cs) [] zip = absurd zip
all-single schema t (c ∷ cs) (b ∷ bs) zip = rw (single-moved b zip.0.1, all-single schema t cs bs zip.1) refl

and-conjuncts : (schema : List Table) (t : ℕ) (c : tree.Cond) (cs : List tree.Cond) (b : Bound) (bs : List Bound) → Says schema t c b → AllZip (Says schema t) cs bs
    → conjuncts (and_bound (moved b) (map moved bs)) ≡ map moved (b ∷ bs)
and-conjuncts schema t c [] b [] says zip = single-moved b says.1
and-conjuncts schema t c [] b (e ∷ es) says zip = absurd zip
and-conjuncts schema t c (d ∷ ds) b [] says zip = absurd zip
and-conjuncts schema t c (d ∷ ds) b (e ∷ es) says zip = rw (single-moved b says.1, single-moved e zip.0.1, all-single schema t ds es zip.1) refl

abbrev is_first : Bound → Bool
is_first b = is_of_part 0 (references b)

first-same : (b : Bound) → is_on 0 b ≡ true → is_first b ≡ is_first (moved b)
first-same b on = go (references b) on ∙ ap (is_of_part 0) (sym (moved-references b))
  where
    go : (rs : List (ℕ × Output)) → list_all (part_is 0) rs ≡ true → is_of_part 0 rs ≡ is_of_part 0 (map moved_reference rs)
    go [] on = refl
    go ((place, o) ∷ rs) on = (and_parts (o.part == 0) (list_all (part_is 0) rs) on).0

of-moved : (bs : List Bound) → AllByRecursion (λ b. is_on 0 b ≡ true) bs → list_conds (filter is_first bs) ≡ list_conds (filter is_first (map moved bs))
of-moved [] all = refl
of-moved (b ∷ bs) all = go (is_first b) refl (of-moved bs all.1)
  where
    go : (k : Bool) → is_first b ≡ k → list_conds (filter is_first bs) ≡ list_conds (filter is_first (map moved bs))
        → list_conds (filter is_first (b ∷ bs)) ≡ list_conds (filter is_first (moved b ∷ map moved bs))
    go true is more = let there : is_first (moved b) ≡ true = sym (first-same b all.0) ∙ is in rw (is, there, moved-cond b, more) refl
    go false is more = let there : is_first (moved b) ≡ false = sym (first-same b all.0) ∙ is in rw (is, there) more

mutual
  conjuncts-on : (b : Bound) → is_on 0 b ≡ true → AllByRecursion (λ d. is_on 0 d ≡ true) (conjuncts b)
  conjuncts-on (Testing place o t) on = (on, tt)
  conjuncts-on (Conjunction bs) on = all-conjuncts-on bs on
  conjuncts-on (Disjunction bs) on = (on, tt)
  conjuncts-on (Negation b) on = (on, tt)

  all-conjuncts-on : (bs : Bounds) → list_all (part_is 0) (all_references bs) ≡ true → AllByRecursion (λ d. is_on 0 d ≡ true) (all_conjuncts bs)
  all-conjuncts-on no_more on = tt
  all-conjuncts-on (one_more b bs) on =
      let p = list_all-parts (part_is 0) (references b) (all_references bs) on in
      each-append (λ d. is_on 0 d ≡ true) (conjuncts b) (all_conjuncts bs) (conjuncts-on b p.0) (all-conjuncts-on bs p.1)

kept : (schema : List Table) (t : ℕ) (cs : List tree.Cond) (bs : List Bound) → AllZip (Says schema t) cs bs → list_conds (filter is_first (map moved bs)) ≡ list_conds bs
kept schema t [] [] zip = refl
kept schema t [] (b ∷ bs) zip = absurd zip
kept schema t (c ∷ cs) [] zip = absurd zip
kept schema t (c ∷ cs) (b ∷ bs) zip = rw (zip.0.2, moved-cond b, kept schema t cs bs zip.1) refl

-- what a WHERE that is all of the conjuncts but for places asks
pub record IsBound (schema : List Table) (t : ℕ) (c : tree.Cond) (bs : List Bound) : Type 0 where
  pub whole : Bound
  pub conjuncts_are : conjuncts whole ≡ bs
  pub on : is_on 0 whole ≡ true
  pub bare : bound schema (t ∷ []) (bare_cond c) ≡ Ok (moved whole)

pub is-bound : (schema : List Table) (t : ℕ) (f : Option tree.Cond) (c : tree.Cond) (bs : List Bound) → bare_filter f ≡ Some (bare_cond c) → filter_bound schema (t ∷ []) f ≡ Ok bs → IsBound schema t c bs
is-bound schema t None c bs same e = absurd cc
is-bound schema t (Some g) c bs same e =
    let x = split_ok (bound schema (t ∷ []) g) (λ b. Ok (conjuncts b)) bs e in
    let on = all-on schema t g x.0 x.1 in
    let g-is : bare_cond g ≡ bare_cond c = cc same in
    record {
      whole = x.0;
      conjuncts_are = same_Ok (conjuncts x.0) bs x.2;
      on = on;
      bare = sym (ap (bound schema (t ∷ [])) g-is) ∙ move schema (t ∷ []) 0 t refl g x.0 x.1 on;
    }

conds-same : (schema : List Table) (t : ℕ) (cs : List tree.Cond) (bs : List Bound) → AllZip (Says schema t) cs bs → (f : Option tree.Cond) (bs2 : List Bound)
    → bare_filter f ≡ bare_filter (all_of cs) → filter_bound schema (t ∷ []) f ≡ Ok bs2 → list_conds (filter is_first bs2) ≡ list_conds bs
conds-same schema t [] [] zip None bs2 same e = ap (λ l. list_conds (filter is_first l)) (sym (same_Ok [] bs2 e))
conds-same schema t [] [] zip (Some g) bs2 same e = absurd cc
conds-same schema t [] (b ∷ bs) zip f bs2 same e = absurd zip
conds-same schema t (c ∷ cs) [] zip f bs2 same e = absurd zip
conds-same schema t (c ∷ cs) (b ∷ bs) zip f bs2 same e =
    let x = is-bound schema t f (tree.and_of c cs) bs2 same e in
    let one : moved x.whole ≡ and_bound (moved b) (map moved bs) = same_Ok (moved x.whole) (and_bound (moved b) (map moved bs)) (sym x.bare ∙ and-says schema t c cs b bs zip.0 zip.1) in
    let lists : map moved (conjuncts x.whole) ≡ map moved (b ∷ bs) = sym (moved-conjuncts x.whole) ∙ (ap conjuncts one ∙ and-conjuncts schema t c cs b bs zip.0 zip.1) in
    ap (λ l. list_conds (filter is_first l)) (sym x.conjuncts_are)
    ∙ (of-moved (conjuncts x.whole) (conjuncts-on x.whole x.on)
    ∙ (ap (λ l. list_conds (filter is_first l)) lists ∙ kept schema t (c ∷ cs) (b ∷ bs) zip))

-- ---- the rows of a named text

no-joins : (js : List JoinOn) → map bare_join js ≡ [] → js ≡ []
no-joins [] e = refl
no-joins (j ∷ js) e = absurd cc

-- a table that may be asked by its name, and those of its columns
pub record MayBeAsked (schema : List Table) (tables : Tables) (t need : ℕ) : Type 0 where
  pub first : IsFirst schema t
  pub names : has_names (table_at schema t) ≡ true
  pub differ : repeat_at [] (table_at schema t).columns ≡ None
  pub fits : list_all (fits_columns (table_at schema t).columns) (rows_at tables t) ≡ true
  pub key : (table_at schema t).key < length (table_at schema t).columns
  pub needs : has_column need (table_at schema t).key ≡ true

abbrev pub Matches : List Table → ℕ → List tree.Cond → List Bound → Type 0
Matches schema t cs bs = (f : Option tree.Cond) (bs2 : List Bound) → bare_filter f ≡ bare_filter (all_of cs) → filter_bound schema (t ∷ []) f ≡ Ok bs2 → AllZip (Says schema t) cs bs

module _ (schema : List Table) (tables : Tables) (t need : ℕ) (may : MayBeAsked schema tables t need) (cs : List tree.Cond) (bs : List Bound) (sayable : AreSayable cs) (matches : Matches schema t cs bs) where
  spelled : IsSpelled (select_of (table_at schema t) need cs)
  spelled =
      let zero-more : 0 + (table_at schema t).key ≡ (table_at schema t).key = omega arith in
      let some = names-some 0 need (table_at schema t).columns (table_at schema t).key may.key (ap (has_column need) zero-more ∙ may.needs) in
      let n = and_parts (is_name (table_at schema t).name) (list_all (λ (c : Column). is_name c.name) (table_at schema t).columns) may.names in
      let bare = bare-names 0 need (table_at schema t).columns n.1 in
      subst (λ ns. IsSpelled (selected ns (table_at schema t).name cs)) (sym some.is)
      (query-spelled some.first some.rest (table_at schema t).name cs (subst (AllByRecursion IsBare) some.is bare) n.0 sayable)

  abbrev wanted : List Row
  wanted = map (project need) (filter (λ p. is_true (cell_at p) (And (list_conds bs))) (rows_at tables t))

  by-query : (u : tree.Select) (q : Query) → bare_select u ≡ bare_select (select_of (table_at schema t) need cs) → bound_select schema u ≡ Ok q → rows_of q tables ≡ wanted
  by-query u q e asked =
      let name : u.first ≡ (table_at schema t).name = ap (λ (x : tree.Select). x.first) e in
      let joins : u.joins ≡ [] = no-joins u.joins (ap (λ (x : tree.Select). x.joins) e) in
      let listed : u.all ≡ false = ap (λ (x : tree.Select). x.all) e in
      let names : map bare_name u.list ≡ names_of 0 need (table_at schema t).columns = ap (λ (x : tree.Select). x.list) e ∙ names-bare 0 need (table_at schema t).columns in
      let where_same : bare_filter u.filter ≡ bare_filter (all_of cs) = ap (λ (x : tree.Select). x.filter) e in
      let one = asks-one schema t u q (ap (table_named schema) name ∙ may.first) joins listed asked in
      let part = part_of schema 0 t (named_columns one.outputs [] one.bs) one.bs in
      let outputs : one.outputs ≡ picked 0 need (table_at schema t).columns = names-resolve schema t [] (table_at schema t).columns need u.list one.outputs refl may.differ names one.listed in
      let conds = conds-same schema t cs bs (matches u.filter one.bs where_same one.filtered) u.filter one.bs where_same one.filtered in
      ap (λ z. rows_of z tables) (sym one.same)
      ∙ (one-rows tables part one.outputs
      ∙ (ap (λ all. map (λ row. output_of one.outputs (row ∷ [])) (filter (λ p. is_true (cell_at p) (And all)) (rows_at tables t))) conds
      ∙ (ap (λ os. map (λ row. output_of os (row ∷ [])) (filter (λ p. is_true (cell_at p) (And (list_conds bs))) (rows_at tables t))) outputs
      ∙ same-images (λ row. output_of (picked 0 need (table_at schema t).columns) (row ∷ [])) (project need) (λ p. is_true (cell_at p) (And (list_conds bs)))
      (fits_columns (table_at schema t).columns) (rows_at tables t) may.fits (λ row fits. picks-need row need (table_at schema t).columns fits))))

  by-statement : (s : tree.Statement) (q : Query) → AreSame s (tree.Selects (select_of (table_at schema t) need cs)) → bound_query schema s ≡ Ok q → rows_of q tables ≡ wanted
  by-statement (tree.Selects u) q same asked = let e : bare_select u ≡ bare_select (select_of (table_at schema t) need cs) = cc same in by-query u q e asked
  by-statement (tree.Create d) q same asked = absurd cc
  by-statement (tree.Inserts i) q same asked = absurd cc
  by-statement (tree.Updates u) q same asked = absurd cc
  by-statement (tree.Deletes d) q same asked = absurd cc

  pub text-rows : (rows : List Row) → IsAnswer schema tables (text_of (table_at schema t) need cs) rows → rows ≡ wanted
  text-rows rows (s, q, asks, are) = are ∙ by-statement s q (read-back (select_of (table_at schema t) need cs) spelled s asks.says) asks.bound
