-- What is joined is the answer, where each list of rows is that of the text that was named last.
use Rattle.std.proofs.Common.{◌≡◌, ℕ, zero, suc, ◌<◌, Bool, true, false, List, [], ◌∷◌, ◌++◌, map, length, Some, None, refl, sym, ap, subst, ◌∙◌, arith, ℤ, pos, negsuc, if◌then◌else◌}
use Rattle.std.specs.Prelude.{◌&&◌, ◌||◌, int_le, nat_lt, not, Ok, Option, filter}
use Rattle.std.specs.List.{list_all, AllByRecursion}
use Rattle.std.proofs.lemmas.Bool.{and_parts, ltb-true, leb-true}
use Rattle.std.proofs.lemmas.Bool.Decides.{nat_tests}
use Rattle.sr_cell.specs.declared.cell.Cell.{Cell}
use Rattle.sr_cell.specs.declared.cell.Cell.TheVariants.{Num, Str, Null}
use Rattle.sr_cell.specs.declared.table.Column.{Column}
use Rattle.sr_cell.specs.declared.table.Kind.{Kind}
use Rattle.sr_cell.specs.declared.table.Kind.TheVariants as kinds
use Rattle.sr_cell.specs.declared.table.Table.{Table}
use Rattle.sr_cell.specs.Attrs.{has_column, project}
use Rattle.sr_cell.specs.Cells.{Row, cell_at, cell_eq, cell_le, is_null}
use Rattle.sr_cell.specs.Columns.{fits_columns, table_at, takes_cell, takes_kind}
use Rattle.sr_cell.specs.Names.{is_bad_by, is_bad_domain}
use Rattle.sr_cell.proofs.Order.{cell_le-trans}
use Rattle.sr_grammar.specs.Trees as tree
use Rattle.sr_grammar.specs.Trees.{high_default, low_default}
use Rattle.sr_lines.specs.Sound.{is_sound_part}
use Rattle.sr_lines.proofs.Sound.{bound_are_sound}
use Rattle.sr_model.specs.Queries.{Part, Query, points_of, rows_at}
use Rattle.sr_model.specs.Statements.{Tables}
use Rattle.sr_print.proofs.AgainWords.{IsSmall}
use Rattle.sr_query.specs.Binding.{column_at, filter_bound, is_default, is_inside, part_of, sources}
use Rattle.sr_print.specs.Writable.{is_name}
use Rattle.sr_query.specs.Bound.{is_table}
use Rattle.sr_region.specs.Regions.{rank}
use Rattle.sr_region.proofs.Ranks.{stand}
use Rattle.sr_semi.specs.declared.stage.Stage.TheVariants.{Left}
use Rattle.sr_semi.specs.Answers.{IsAnswer, IsSchema, TheyFit, has_names, rows_in, with_keys}
use Rattle.sr_semi.specs.Keys.{is_key, key_in, values_at, values_behind, with_known, with_value}
use Rattle.sr_semi.specs.Laws.{JoinedIsAnswer, TextsAsk, TextsAskParts}
use Rattle.sr_semi.specs.Sides.{left_place, part_at, right_text, sides_of, tables_of}
use Rattle.sr_semi.specs.Starting.{Asks}
use Rattle.sr_semi.specs.Texts as texts
use Rattle.sr_semi.specs.Texts.{conjuncts_on, is_about, text_of}
use Rattle.sr_semi.proofs.Asked.{MayBeAsked, text-rows}
use Rattle.sr_semi.proofs.AskedParts.{Phases, TwoTables, each-kept, keyed, matches-keys, on_part, phases, says-part, two-tables, with-keys}
use Rattle.sr_semi.proofs.Looking.{at-place}
use Rattle.sr_semi.proofs.OneTable.{IsFirst, each-first}
use Rattle.sr_semi.proofs.Parts.{Two, two}
use Rattle.sr_semi.proofs.ReadBack.{said-conjuncts}
use Rattle.sr_semi.proofs.Spelled.{AreSayable, IsSayable, IsWritten, each-append, in-sayable}
use Rattle.sr_semi.proofs.Telling.{all-right}

-- ---- cells that may be compared, or are Null

small : (z : ℤ) → is_default z ≡ true → IsSmall z
small (pos n) e = let less = leb-true n 1099511627775 (and_parts (int_le low_default (pos n)) (int_le (pos n) high_default) e).1 in omega (arith, less)
small (negsuc n) e = let less = leb-true n 1099511627775 (and_parts (int_le low_default (negsuc n)) (int_le (negsuc n) high_default) e).0 in omega (arith, less)

written : (v : Cell) → is_inside v ≡ true → IsWritten v
written (Num z) e = small z e
written (Str s) e = tt
written Null e = absurd cc

all-written : (vs : List Cell) → list_all is_inside vs ≡ true → AllByRecursion IsWritten vs
all-written [] e = tt
all-written (v ∷ vs) e = let p = and_parts (is_inside v) (list_all is_inside vs) e in (written v p.0, all-written vs p.1)

le-trans : (a b c : ℤ) → int_le a b ≡ true → int_le b c ≡ true → int_le a c ≡ true
le-trans a b c e f = cell_le-trans (Num a) (Num b) (Num c) e f

-- Null, or a value that may be compared
abbrev is_held : Cell → Bool
is_held v = is_null v || is_inside v

inside-kind : (d : Column) (kind : Kind) (v : Cell) → not (is_bad_by kind d) ≡ true → takes_kind kind d.lo d.hi d.nullable v ≡ true → is_held v ≡ true
inside-kind d kinds.Num (Num n) good takes =
    let t = and_parts (int_le d.lo n) (int_le n d.hi) takes in
    let g = domain (int_le d.lo d.hi && (int_le low_default d.lo && int_le d.hi high_default)) good in
    let h = and_parts (int_le d.lo d.hi) (int_le low_default d.lo && int_le d.hi high_default) g in
    let k = and_parts (int_le low_default d.lo) (int_le d.hi high_default) h.1 in
    rw (le-trans low_default d.lo n k.0 t.0, le-trans n d.hi high_default t.1 k.1) refl
  where
    domain : (b : Bool) → not (not b) ≡ true → b ≡ true
    domain true e = refl
    domain false e = absurd cc
inside-kind d kinds.Num (Str s) good takes = absurd cc
inside-kind d kinds.Str (Num n) good takes = absurd cc
inside-kind d kinds.Str (Str s) good takes = takes
inside-kind d kind Null good takes = refl

inside-cell : (columns : List Column) (row : Row) (c : ℕ) → list_all (λ d. not (is_bad_domain d)) columns ≡ true → fits_columns columns row ≡ true → is_held (cell_at row c) ≡ true
inside-cell [] [] zero good fits = refl
inside-cell [] [] (suc c) good fits = refl
inside-cell [] (v ∷ row) c good fits = absurd cc
inside-cell (d ∷ columns) [] c good fits = absurd cc
inside-cell (d ∷ columns) (v ∷ row) zero good fits =
    inside-kind d d.kind v (and_parts (not (is_bad_domain d)) (list_all (λ d. not (is_bad_domain d)) columns) good).0 (and_parts (takes_cell d v) (fits_columns columns row) fits).0
inside-cell (d ∷ columns) (v ∷ row) (suc c) good fits =
    inside-cell columns row c (and_parts (not (is_bad_domain d)) (list_all (λ d. not (is_bad_domain d)) columns) good).1 (and_parts (takes_cell d v) (fits_columns columns row) fits).1

with-all : (p : Cell → Bool) (vs : List Cell) (v : Cell) → list_all p vs ≡ true → p v ≡ true → list_all p (with_value vs v) ≡ true
with-all p [] v all is = rw is refl
with-all p (w ∷ ws) v all is =
    let both = and_parts (p w) (list_all p ws) all in
    go (cell_eq v w) (cell_le v w) both.0 both.1 (with-all p ws v both.1 is)
  where
    go : (a b : Bool) → p w ≡ true → list_all p ws ≡ true → list_all p (with_value ws v) ≡ true → list_all p (if a then w ∷ ws else (if b then v ∷ w ∷ ws else w ∷ with_value ws v)) ≡ true
    go true b first others more = rw first others
    go false true first others more = rw (is, first) others
    go false false first others more = rw first more

known-asked : (vs : List Cell) (v : Cell) → list_all is_inside vs ≡ true → is_held v ≡ true → list_all is_inside (with_known vs v) ≡ true
known-asked vs v all is = go (is_null v) refl
  where
    go : (b : Bool) → is_null v ≡ b → list_all is_inside (if b then vs else with_value vs v) ≡ true
    go true e = all
    go false e = with-all is_inside vs v all (rw e at is)

values-asked : (place : ℕ) (vs : List Cell) (rows : List Row) → list_all is_inside vs ≡ true → list_all (λ r. is_held (cell_at r place)) rows ≡ true → list_all is_inside (values_behind place vs rows) ≡ true
values-asked place vs [] all rows = all
values-asked place vs (row ∷ rows) all each =
    let p = and_parts (is_held (cell_at row place)) (list_all (λ r. is_held (cell_at r place)) rows) each in
    values-asked place (with_known vs (cell_at row place)) rows (known-asked vs (cell_at row place) all p.0) p.1

rows-inside : (need column : ℕ) (columns : List Column) (p : Row → Bool) (rows : List Row) → has_column need column ≡ true → list_all (λ d. not (is_bad_domain d)) columns ≡ true
    → list_all (fits_columns columns) rows ≡ true → list_all (λ r. is_held (cell_at r (rank need column))) (map (project need) (filter p rows)) ≡ true
rows-inside need column columns p [] has good fits = refl
rows-inside need column columns p (row ∷ rows) has good fits =
    let f = and_parts (fits_columns columns row) (list_all (fits_columns columns) rows) fits in
    go (p row) f.0 (rows-inside need column columns p rows has good f.1)
  where
    go : (b : Bool) → fits_columns columns row ≡ true → list_all (λ r. is_held (cell_at r (rank need column))) (map (project need) (filter p rows)) ≡ true
        → list_all (λ r. is_held (cell_at r (rank need column))) (map (project need) (if b then row ∷ filter p rows else filter p rows)) ≡ true
    go true one more = rw (ap is_held (stand need column row has) ∙ inside-cell columns row column good one) more
    go false one more = more

-- ---- what is known of a part's table

record KnowsTable (schema : List Table) (part : Part) : Type 0 where
  names : has_names (table_at schema part.table) ≡ true
  key : (table_at schema part.table).key < length (table_at schema part.table).columns
  good : list_all (λ d. not (is_bad_domain d)) (table_at schema part.table).columns ≡ true
  needs : has_column part.need (table_at schema part.table).key ≡ true

knows-table : (schema : List Table) (part : Part) → IsSchema schema → is_sound_part schema part ≡ true → KnowsTable schema part
knows-table schema part sch sound =
    let within : nat_lt part.table (length schema) ≡ true = grind (arith, nat_tests, sound) in
    let less = ltb-true part.table (length schema) within in
    let table = at-place is_table schema part.table (record { name = []; columns = []; key = 0 }) sch.tables less in
    let key : nat_lt (table_at schema part.table).key (length (table_at schema part.table).columns) ≡ true = grind (arith, nat_tests, table) in
    record {
      names = at-place has_names schema part.table (record { name = []; columns = []; key = 0 }) sch.names less;
      key = ltb-true (table_at schema part.table).key (length (table_at schema part.table).columns) key;
      good = grind (arith, nat_tests, table);
      needs = grind (arith, nat_tests, sound);
    }

may-be-asked : (schema : List Table) (tables : Tables) (part : Part) → IsSchema schema → TheyFit schema tables → KnowsTable schema part → IsFirst schema part.table → MayBeAsked schema tables part.table part.need
may-be-asked schema tables part sch fit knows first =
    record { first = first; names = knows.names; differ = sch.differ part.table; fits = fit part.table; key = knows.key; needs = knows.needs }

-- ---- the texts

module _ (schema : List Table) (sql : List ℕ) (u : tree.Select) (q : Query) (tables : Tables) (sch : IsSchema schema) (fit : TheyFit schema tables) (asks : Asks schema sql (tree.Selects u) q)
    (t : Two schema (tree.Selects u) q) (ph : Phases schema u q) (two_are : TwoTables schema ph.tables ph.columns ph.bs t.left t.right) where
  abbrev both : List ℕ
  both = two_are.one ∷ two_are.other ∷ []

  abbrev left_part : Part
  left_part = part_of schema 0 two_are.one ph.columns ph.bs

  abbrev right_part : Part
  right_part = part_of schema 1 two_are.other ph.columns ph.bs

  left-is : part_at q 0 ≡ left_part
  left-is = t.left_is ∙ two_are.left_is

  right-is : part_at q 1 ≡ right_part
  right-is = t.right_is ∙ two_are.right_is

  tables-are : tables_of q ≡ both
  tables-are = ap (map (λ (p : Part). p.table)) t.is.parts ∙ (ap (λ (l : Part). l.table ∷ t.right.table ∷ []) two_are.left_is ∙ ap (λ (r : Part). two_are.one ∷ r.table ∷ []) two_are.right_is)

  sound : list_all (is_sound_part schema) (left_part ∷ right_part ∷ []) ≡ true
  sound =
      ap (λ l. list_all (is_sound_part schema) (l ∷ right_part ∷ [])) (sym two_are.left_is)
      ∙ (ap (λ r. list_all (is_sound_part schema) (t.left ∷ r ∷ [])) (sym two_are.right_is)
      ∙ (ap (list_all (is_sound_part schema)) (sym t.is.parts)
      ∙ (and_parts (list_all (is_sound_part schema) q.parts) _ (bound_are_sound schema (tree.Selects u) q asks.bound)).0))

  firsts : AllByRecursion (IsFirst schema) both
  firsts = subst (AllByRecursion (IsFirst schema)) two_are.tables_are (each-first schema [] (sources u) ph.tables tt ph.named)

  filtered : filter_bound schema both u.filter ≡ Ok ph.bs
  filtered = subst (λ ts. filter_bound schema ts u.filter ≡ Ok ph.bs) two_are.tables_are ph.filtered

  left-may : MayBeAsked schema tables two_are.one left_part.need
  left-may = may-be-asked schema tables left_part sch fit (knows-table schema left_part sch (and_parts (is_sound_part schema left_part) _ sound).0) firsts.0

  right-knows : KnowsTable schema right_part
  right-knows = knows-table schema right_part sch (and_parts (is_sound_part schema right_part) true (and_parts (is_sound_part schema left_part) _ sound).1).0

  right-may : MayBeAsked schema tables two_are.other right_part.need
  right-may = may-be-asked schema tables right_part sch fit right-knows firsts.1.0

  sayable : (part : ℕ) → AreSayable (conjuncts_on schema both part u.filter)
  sayable part = go u.filter refl
    where
      go : (f : Option tree.Cond) → u.filter ≡ f → AreSayable (conjuncts_on schema both part f)
      go None is = tt
      go (Some c) is = each-kept IsSayable (is_about schema both part) (texts.conjuncts c) (said-conjuncts sql (tree.Selects u) c asks.says is)

  pub left-rows : (rows : List Row) → IsAnswer schema tables (sides_of schema (tree.Selects u) q).left.text rows → rows ≡ rows_in tables (part_at q 0)
  left-rows rows answer =
      let says = says-part schema both 0 two_are.one refl u.filter ph.bs ph.us filtered ph.apart in
      let text : (sides_of schema (tree.Selects u) q).left.text ≡ text_of (table_at schema two_are.one) left_part.need (conjuncts_on schema both 0 u.filter) =
      ap (λ (p : Part). text_of (table_at schema p.table) p.need (conjuncts_on schema (tables_of q) 0 u.filter)) left-is
      ∙ ap (λ ts. text_of (table_at schema two_are.one) left_part.need (conjuncts_on schema ts 0 u.filter)) tables-are in
      text-rows schema tables two_are.one left_part.need left-may (conjuncts_on schema both 0 u.filter) (filter (on_part 0) ph.bs) (sayable 0) (λ f bs2 same e. says) rows
      (subst (λ x. IsAnswer schema tables x rows) text answer)
      ∙ ap (rows_in tables) (sym left-is)

  pub right-rows : (key : Cell) (more : List Cell) (rows : List Row) → list_all is_inside (key ∷ more) ≡ true
      → IsAnswer schema tables (right_text (sides_of schema (tree.Selects u) q).right (key ∷ more)) rows → rows ≡ with_keys (sides_of schema (tree.Selects u) q) (key ∷ more) (rows_in tables (part_at q 1))
  right-rows key more rows inside answer =
      let keys = key ∷ more in
      let table = table_at schema two_are.other in
      let cs = conjuncts_on schema both 1 u.filter in
      let bs = filter (on_part 1) ph.bs in
      let says = says-part schema both 1 two_are.other refl u.filter ph.bs ph.us filtered ph.apart in
      let matches = matches-keys schema two_are.other cs bs keys (sch.differ two_are.other) right-knows.key says in
      let name = at-place (λ (c : Column). is_name c.name) table.columns table.key (record { name = []; kind = kinds.Str; lo = pos 0; hi = pos 0; nullable = false }) (and_parts (is_name table.name) (list_all (λ (c : Column). is_name c.name) table.columns) right-knows.names).1 right-knows.key in
      let all = each-append IsSayable cs (key_in table keys ∷ []) (sayable 1) (in-sayable (column_at table table.key).name key more name (all-written keys inside), tt) in
      let text : right_text (sides_of schema (tree.Selects u) q).right keys ≡ text_of table right_part.need (cs ++ key_in table keys ∷ []) =
      ap (λ (p : Part). text_of (table_at schema p.table) p.need (conjuncts_on schema (tables_of q) 1 u.filter ++ key_in (table_at schema p.table) keys ∷ [])) right-is
      ∙ ap (λ ts. text_of table right_part.need (conjuncts_on schema ts 1 u.filter ++ key_in table keys ∷ [])) tables-are in
      text-rows schema tables two_are.other right_part.need right-may (cs ++ key_in table keys ∷ []) (bs ++ keyed schema two_are.other keys ∷ []) all matches rows
      (subst (λ x. IsAnswer schema tables x rows) text answer)
      ∙ (with-keys keys right_part.need table.key bs (keyed schema two_are.other keys) (rows_at tables two_are.other) inside right-knows.needs refl
      ∙ ap (λ (p : Part). filter (λ r. is_key keys (cell_at r (rank p.need (table_at schema p.table).key))) (rows_in tables p)) (sym right-is))

  -- the keys are values that columns may have, and none is Null
  pub left-inside : list_all is_inside (values_at (left_place (sides_of schema (tree.Selects u) q)) (rows_in tables t.left)) ≡ true
  left-inside =
      let knows = knows-table schema left_part sch (and_parts (is_sound_part schema left_part) _ sound).0 in
      let has : has_column left_part.need t.join.column ≡ true = ap (λ (p : Part). has_column p.need t.join.column) (sym two_are.left_is) ∙ t.is.needs_left in
      let all = values-asked (rank left_part.need t.join.column) [] (rows_in tables left_part) refl
      (rows-inside left_part.need t.join.column (table_at schema two_are.one).columns (points_of left_part) (rows_at tables two_are.one) has knows.good (fit two_are.one)) in
      let place : left_place (sides_of schema (tree.Selects u) q) ≡ rank left_part.need t.join.column =
      ap (λ n. rank n (sides_of schema (tree.Selects u) q).left.column) (t.is.left_need ∙ ap (λ (p : Part). p.need) two_are.left_is) ∙ ap (rank left_part.need) t.is.left_column in
      ap (λ n. list_all is_inside (values_at n (rows_in tables t.left))) place ∙ (ap (λ p. list_all is_inside (values_at (rank left_part.need t.join.column) (rows_in tables p))) two_are.left_is ∙ all)

-- ---- the laws

-- of each version of the tables
pub record Known (schema : List Table) (s : tree.Statement) (q : Query) (tables : Tables) (t : Two schema s q) : Type 0 where
  pub texts_ask : TextsAskParts schema s q tables
  pub inside : list_all is_inside (values_at (left_place (sides_of schema s q)) (rows_in tables t.left)) ≡ true

known : (schema : List Table) (sql : List ℕ) (u : tree.Select) (q : Query) (tables : Tables) → IsSchema schema → TheyFit schema tables → Asks schema sql (tree.Selects u) q → (t : Two schema (tree.Selects u) q)
    → Known schema (tree.Selects u) q tables t
known schema sql u q tables sch fit asks t =
    let ph = phases schema u q asks.bound in
    let both = two-tables schema ph.tables ph.columns ph.bs t.left t.right (sym t.is.parts ∙ ph.parts) in
    record {
      texts_ask = record { left = left-rows schema sql u q tables sch fit asks t ph both; right = right-rows schema sql u q tables sch fit asks t ph both };
      inside = left-inside schema sql u q tables sch fit asks t ph both;
    }

pub texts-ask : TextsAsk
texts-ask schema sql (tree.Selects u) q tables sch fit asks count = (known schema sql u q tables sch fit asks (two schema (tree.Selects u) q asks.bound count)).texts_ask
texts-ask schema sql (tree.Create d) q tables sch fit asks count = absurd (let e = asks.bound in cc e)
texts-ask schema sql (tree.Inserts i) q tables sch fit asks count = absurd (let e = asks.bound in cc e)
texts-ask schema sql (tree.Updates u) q tables sch fit asks count = absurd (let e = asks.bound in cc e)
texts-ask schema sql (tree.Deletes d) q tables sch fit asks count = absurd (let e = asks.bound in cc e)

pub joined-is-answer : JoinedIsAnswer
joined-is-answer schema at sql (tree.Selects u) q answers sch fit asks count all =
    let t = two schema (tree.Selects u) q asks.bound count in
    all-right schema at (tree.Selects u) q t (λ version. (known schema sql u q (at version) sch (fit version) asks t).texts_ask) (λ version. (known schema sql u q (at version) sch (fit version) asks t).inside)
    Left answers tt all
joined-is-answer schema at sql (tree.Create d) q answers sch fit asks count all = absurd (let e = asks.bound in cc e)
joined-is-answer schema at sql (tree.Inserts i) q answers sch fit asks count all = absurd (let e = asks.bound in cc e)
joined-is-answer schema at sql (tree.Updates u) q answers sch fit asks count all = absurd (let e = asks.bound in cc e)
joined-is-answer schema at sql (tree.Deletes d) q answers sch fit asks count all = absurd (let e = asks.bound in cc e)
