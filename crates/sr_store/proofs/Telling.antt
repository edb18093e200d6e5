-- Regions once it is told which rows keys have.
use Rattle.std.proofs.Common.{◌≡◌, ℕ, ◌+◌, Bool, true, false, cond, not, List, [], ◌∷◌, length, map, refl, sym, ap, subst, ◌∙◌, arith, eqb-true}
use Rattle.std.specs.Prelude.{◌==◌, filter, fold, Option, Some, None, if◌then◌else◌}
use Rattle.std.specs.List.{All}
use Rattle.std.proofs.lemmas.List.Elements.{All-nil, All-cons, All-head, All-tail, All-filter}
use Rattle.sr_cell.specs.declared.cell.Cell.{Cell}
use Rattle.sr_cell.specs.declared.table.Table.{Table}
use Rattle.sr_cell.specs.Attrs.{has_column, project}
use Rattle.sr_cell.specs.Cells.{Row, cell_at, cell_le, cell_eq}
use Rattle.sr_cell.specs.Columns.{table_at}
use Rattle.sr_model.specs.SortedRows.{ascend, with_row}
use Rattle.sr_message.specs.declared.message.Tell.{Tell}
use Rattle.sr_box.specs.Points.{times, in_any}
use Rattle.sr_rows.specs.Places.{is_apart}
use Rattle.sr_rows.proofs.Order.{ascend-tail, ascend-first}
use Rattle.sr_rows.proofs.Places.{with_row-ascend}
use Rattle.sr_rows.proofs.Parts.{ascend-filter, first-filter}
use Rattle.sr_region.specs.declared.region.Region.{Region}
use Rattle.sr_region.specs.Regions.{rank, is_in, IsPart, IsRegion}
use Rattle.sr_region.specs.Applied.{applied, IsNew}
use Rattle.sr_rows.specs.Keys.{without_key}
use Rattle.sr_region.proofs.Parts.{is_in-point}
use Rattle.sr_region.proofs.Ordered.{All-with_row}
use Rattle.sr_region.proofs.Places.{row-front}
use Rattle.sr_region.proofs.Applied.{rows-apart}
use Rattle.sr_regions.specs.Touched.{told_one, told_all}
use Rattle.sr_regions.proofs.Telling.{told-of-schema}
use Rattle.sr_store.specs.Classes.{is_of, occurs, is_before, ascends}
use Rattle.sr_store.specs.Told.{Told, IsTold, IsTrueOf, AreTrueOf}
use Rattle.sr_store.specs.Stores.{IsOfSchema, count_rects}
use Rattle.sr_store.specs.Brought.{with_cells, after_all, tells, tells_all}
use Rattle.sr_store.specs.Noticed.{told_to, IsTellOf}

-- ---- only the rows change

pub only-rows : (told : List Tell) (g : Region) → told_to told g ≡ record g { rows = (told_to told g).rows }
only-rows [] g = refl
only-rows (tell ∷ told) g = go (tell.table == g.table) (only-rows told (applied tell.key tell.after g)) (only-rows told g)
  where
    go : (b : Bool) → told_to told (applied tell.key tell.after g) ≡ record g { rows = (told_to told (applied tell.key tell.after g)).rows } → told_to told g ≡ record g { rows = (told_to told g).rows }
        → told_to told (if b then applied tell.key tell.after g else g) ≡ record g { rows = (told_to told (if b then applied tell.key tell.after g else g)).rows }
    go true one two = one
    go false one two = two

module _ (told : List Tell) where
  pub occurs-told : (regions : List Region) (t a : ℕ) (p : Row) → occurs (map (told_to told) regions) t a p ≡ occurs regions t a p
  occurs-told [] t a p = refl
  occurs-told (g ∷ regions) t a p =
      ap (λ n. n + occurs (map (told_to told) regions) t a p) (ap (λ (x : Region). if is_of x t a then times x.rects p else 0) (only-rows told g))
      ∙ ap (λ n. (if is_of g t a then times g.rects p else 0) + n) (occurs-told regions t a p)

  rects-from : (n : ℕ) (regions : List Region) → fold (λ m x. m + length x.rects) n (map (told_to told) regions) ≡ fold (λ m x. m + length x.rects) n regions
  rects-from n [] = refl
  rects-from n (g ∷ regions) =
      ap (λ k. fold (λ m x. m + length x.rects) k (map (told_to told) regions)) (ap (λ (x : Region). n + length x.rects) (only-rows told g)) ∙ rects-from (n + length g.rects) regions

  pub rects-told : (regions : List Region) → count_rects (map (told_to told) regions) ≡ count_rects regions
  rects-told regions = rects-from 0 regions

  pub ascends-told : (regions : List Region) → ascends regions ≡ true → ascends (map (told_to told) regions) ≡ true
  ascends-told [] h = refl
  ascends-told (g ∷ []) h = refl
  ascends-told (g ∷ k ∷ regions) h =
      let ih = ascends-told (k ∷ regions) (grind arith) in
      let one : is_before (told_to told g) (told_to told k) ≡ is_before g k = ap (λ x. is_before x (told_to told k)) (only-rows told g) ∙ ap (is_before g) (only-rows told k) in
      grind (arith, ih, one, h)

-- ---- what is told of each table and set of columns

without-parts : (P : Row → Type 0) (key : ℕ) (v : Cell) (rows : List Row) → All P rows → All P (without_key key v rows)
without-parts P key v rows all = All-filter (λ row. not (cell_eq (cell_at row key) v)) P rows all

without-ascend : (key : ℕ) (v : Cell) (rows : List Row) → ascend key rows ≡ true → ascend key (without_key key v rows) ≡ true
without-ascend key v rows h = ascend-filter key (λ row. not (cell_eq (cell_at row key) v)) rows h

cells-parts : (t : Table) (a key : ℕ) (v : Cell) (rows : List Row) (after : Option Row) → IsNew t v after → All (IsPart t.columns a) rows → All (IsPart t.columns a) (with_cells key a after rows)
cells-parts t a key v rows None new all = all
cells-parts t a key v rows (Some row) new all = All-with_row (IsPart t.columns a) key rows (project a row) all (row, new.0, refl)

cells-ascend : (t : Table) (a : ℕ) (v : Cell) (rows : List Row) (after : Option Row) → has_column a t.key ≡ true → IsNew t v after → All (IsPart t.columns a) rows → ascend (rank a t.key) rows ≡ true
    → ascend (rank a t.key) (with_cells (rank a t.key) a after (without_key (rank a t.key) v rows)) ≡ true
cells-ascend t a v rows None has new all h = without-ascend (rank a t.key) v rows h
cells-ascend t a v rows (Some row) has new all h =
    with_row-ascend (rank a t.key) (without_key (rank a t.key) v rows) (project a row) (without-ascend (rank a t.key) v rows h)
    (subst (λ w. is_apart (rank a t.key) (without_key (rank a t.key) w rows) (project a row) ≡ true) new.1 (rows-apart t a t.key has rows row all new.0))

module _ (schema : List Table) (tell : Tell) (is : IsTellOf schema tell) where
  new-in : (t : ℕ) → (tell.table == t) ≡ true → IsNew (table_at schema t) tell.key tell.after
  new-in t e = subst (λ n. IsNew (table_at schema n) tell.key tell.after) (eqb-true tell.table t e) is.1

  told-after : (told : Told) → IsTold schema told → IsTold schema (tells schema tell told)
  told-after told h = record { rows = λ t a. rows t a (tell.table == t) refl; ascending = λ t a has. ascending t a has (tell.table == t) refl }
    where
      rows : (t a : ℕ) (b : Bool) → (tell.table == t) ≡ b → All (IsPart (table_at schema t).columns a) (if b then after_all (table_at schema t).key a tell (told t a) else told t a)
      rows t a true e =
          let key = rank a (table_at schema t).key in
          cells-parts (table_at schema t) a key tell.key (without_key key tell.key (told t a)) tell.after (new-in t e) (without-parts (IsPart (table_at schema t).columns a) key tell.key (told t a) (h.rows t a))
      rows t a false e = h.rows t a

      ascending : (t a : ℕ) → has_column a (table_at schema t).key ≡ true → (b : Bool) → (tell.table == t) ≡ b
          → ascend (rank a (table_at schema t).key) (if b then after_all (table_at schema t).key a tell (told t a) else told t a) ≡ true
      ascending t a has true e = cells-ascend (table_at schema t) a tell.key (told t a) tell.after has (new-in t e) (h.rows t a) (h.ascending t a has)
      ascending t a has false e = h.ascending t a has

-- ---- a change commutes with taking a part

filters-swap : (f g : Row → Bool) (rows : List Row) → filter f (filter g rows) ≡ filter g (filter f rows)
filters-swap f g [] = refl
filters-swap f g (r ∷ rows) = go (f r) refl (g r) refl (filters-swap f g rows)
  where
    go : (a : Bool) → f r ≡ a → (b : Bool) → g r ≡ b → filter f (filter g rows) ≡ filter g (filter f rows)
        → filter f (cond b (r ∷ filter g rows) (filter g rows)) ≡ filter g (cond a (r ∷ filter f rows) (filter f rows))
    go true d true e ih = rw (d, e) (ap (λ xs. r ∷ xs) ih)
    go true d false e ih = rw e ih
    go false d true e ih = rw d ih
    go false d false e ih = ih

pub filter-with_row : (key : ℕ) (f : Row → Bool) (rows : List Row) (row : Row) → ascend key rows ≡ true → filter f (with_row key rows row) ≡ (if f row then with_row key (filter f rows) row else filter f rows)
filter-with_row key f [] row h = go (f row)
  where
    go : (b : Bool) → cond b (row ∷ []) [] ≡ (if b then row ∷ [] else [])
    go true = refl
    go false = refl
filter-with_row key f (r ∷ rows) row h =
    split (cell_le (cell_at r key) (cell_at row key)) refl (filter-with_row key f rows row (ascend-tail key r rows h))
    (row-front key r row (filter f rows) (first-filter key r f rows (ascend-first key r rows h)))
  where
    F : List Row
    F = filter f rows

    later : (a b : Bool) (W : List Row) → cell_le (cell_at r key) (cell_at row key) ≡ true → W ≡ (if b then with_row key F row else F)
        → cond a (r ∷ W) W ≡ (if b then with_row key (cond a (r ∷ F) F) row else cond a (r ∷ F) F)
    later true true W e ih = rw e (ap (λ xs. r ∷ xs) ih)
    later true false W e ih = ap (λ xs. r ∷ xs) ih
    later false b W e ih = ih

    here : (a b : Bool) → cell_le (cell_at r key) (cell_at row key) ≡ false → with_row key F row ≡ row ∷ F
        → cond b (row ∷ cond a (r ∷ F) F) (cond a (r ∷ F) F) ≡ (if b then with_row key (cond a (r ∷ F) F) row else cond a (r ∷ F) F)
    here a false e front = refl
    here true true e front = rw e refl
    here false true e front = sym front

    split : (b : Bool) → cell_le (cell_at r key) (cell_at row key) ≡ b → filter f (with_row key rows row) ≡ (if f row then with_row key F row else F)
        → (cell_le (cell_at r key) (cell_at row key) ≡ false → with_row key F row ≡ row ∷ F)
        → filter f (if b then r ∷ with_row key rows row else row ∷ r ∷ rows) ≡ (if f row then with_row key (cond (f r) (r ∷ F) F) row else cond (f r) (r ∷ F) F)
    split true e ih front = later (f r) (f row) (filter f (with_row key rows row)) e ih
    split false e ih front = here (f r) (f row) e (front e)

-- ---- the region has the rows of the telling still

module _ (t : Table) (g : Region) (h : IsRegion t g) (v : Cell) (rows : List Row) (ascending : ascend (rank g.attrs g.key) rows ≡ true) where
  test : Row → Bool
  test = is_in g.attrs g.rects

  without-in : without_key (rank g.attrs g.key) v (filter (is_in g.attrs g.rects) rows) ≡ filter (is_in g.attrs g.rects) (without_key (rank g.attrs g.key) v rows)
  without-in = filters-swap (λ row. not (cell_eq (cell_at row (rank g.attrs g.key)) v)) (is_in g.attrs g.rects) rows

  new-rows : (after : Option Row) → IsNew t v after → g.rows ≡ filter (is_in g.attrs g.rects) rows
      → (applied v after g).rows ≡ filter (is_in g.attrs g.rects) (with_cells (rank g.attrs g.key) g.attrs after (without_key (rank g.attrs g.key) v rows))
  new-rows None new own = ap (without_key (rank g.attrs g.key) v) own ∙ without-in
  new-rows (Some row) new own =
      ap (λ xs. if in_any g.rects row then with_row (rank g.attrs g.key) xs (project g.attrs row) else xs) (ap (without_key (rank g.attrs g.key) v) own ∙ without-in)
      ∙ ap (λ b. if b then with_row (rank g.attrs g.key) (filter (is_in g.attrs g.rects) left) (project g.attrs row) else filter (is_in g.attrs g.rects) left)
      (sym (is_in-point t.columns g.attrs g.rects row h.area.fit h.area.only new.0))
      ∙ sym (filter-with_row (rank g.attrs g.key) (is_in g.attrs g.rects) left (project g.attrs row) (without-ascend (rank g.attrs g.key) v rows ascending))
    where
      left : List Row
      left = without_key (rank g.attrs g.key) v rows

module _ (schema : List Table) (tell : Tell) (is : IsTellOf schema tell) where
  true-after : (told : Told) (g : Region) → IsTold schema told → IsOfSchema schema g → IsTrueOf told g → IsTrueOf (tells schema tell told) (told_one tell g)
  true-after told g k h own = go (tell.table == g.table) refl
    where
      key : g.key ≡ (table_at schema g.table).key
      key = h.1.area.key

      ascending : ascend (rank g.attrs g.key) (told g.table g.attrs) ≡ true
      ascending = ap (λ n. ascend (rank g.attrs n) (told g.table g.attrs)) key ∙ k.ascending g.table g.attrs (subst (λ n. has_column g.attrs n ≡ true) key h.1.area.has_key)

      go : (b : Bool) → (tell.table == g.table) ≡ b → IsTrueOf (tells schema tell told) (if b then applied tell.key tell.after g else g)
      go true e =
          new-rows (table_at schema g.table) g h.1 tell.key (told g.table g.attrs) ascending tell.after (new-in schema tell is g.table e) own
          ∙ ap (filter (is_in g.attrs g.rects))
          (ap (λ n. after_all n g.attrs tell (told g.table g.attrs)) key ∙ sym (ap (λ b. if b then after_all (table_at schema g.table).key g.attrs tell (told g.table g.attrs) else told g.table g.attrs) e))
      go false e = own ∙ ap (filter (is_in g.attrs g.rects)) (sym (ap (λ b. if b then after_all (table_at schema g.table).key g.attrs tell (told g.table g.attrs) else told g.table g.attrs) e))

-- ---- regions stay regions, with the rows of a telling

module _ (schema : List Table) where
  pub of-schema-all : (told : List Tell) (g : Region) → All (IsTellOf schema) told → IsOfSchema schema g → IsOfSchema schema (told_to told g)
  of-schema-all [] g all h = h
  of-schema-all (tell ∷ told) g all h =
      of-schema-all told (told_one tell g) (All-tail (IsTellOf schema) tell told all) (told-of-schema schema tell g (All-head (IsTellOf schema) tell told all) h)

  pub told-all : (told : List Tell) (telling : Told) → All (IsTellOf schema) told → IsTold schema telling → IsTold schema (tells_all schema told telling)
  told-all [] telling all h = h
  told-all (tell ∷ told) telling all h =
      told-all told (tells schema tell telling) (All-tail (IsTellOf schema) tell told all) (told-after schema tell (All-head (IsTellOf schema) tell told all) telling h)

  true-all : (told : List Tell) (telling : Told) (g : Region) → All (IsTellOf schema) told → IsTold schema telling → IsOfSchema schema g → IsTrueOf telling g
      → IsTrueOf (tells_all schema told telling) (told_to told g)
  true-all [] telling g all k h own = own
  true-all (tell ∷ told) telling g all k h own =
      let one = All-head (IsTellOf schema) tell told all in
      true-all told (tells schema tell telling) (told_one tell g) (All-tail (IsTellOf schema) tell told all) (told-after schema tell one telling k) (told-of-schema schema tell g one h)
      (true-after schema tell one telling g k h own)

  pub each-told : (told : List Tell) (regions : List Region) → All (IsTellOf schema) told → All (IsOfSchema schema) regions → All (IsOfSchema schema) (map (told_to told) regions)
  each-told told [] all each = All-nil (IsOfSchema schema)
  each-told told (g ∷ regions) all each =
      All-cons (IsOfSchema schema) (told_to told g) (map (told_to told) regions) (of-schema-all told g all (All-head (IsOfSchema schema) g regions each))
      (each-told told regions all (All-tail (IsOfSchema schema) g regions each))

  pub true-each : (told : List Tell) (telling : Told) (regions : List Region) → All (IsTellOf schema) told → IsTold schema telling → All (IsOfSchema schema) regions → AreTrueOf telling regions
      → AreTrueOf (tells_all schema told telling) (map (told_to told) regions)
  true-each told telling [] all k each own = All-nil (IsTrueOf (tells_all schema told telling))
  true-each told telling (g ∷ regions) all k each own =
      All-cons (IsTrueOf (tells_all schema told telling)) (told_to told g) (map (told_to told) regions)
      (true-all told telling g all k (All-head (IsOfSchema schema) g regions each) (All-head (IsTrueOf telling) g regions own))
      (true-each told telling regions all k (All-tail (IsOfSchema schema) g regions each) (All-tail (IsTrueOf telling) g regions own))

-- ---- tell by tell, and region by region

map-told : (tell : Tell) (told : List Tell) (regions : List Region) → map (told_to told) (map (told_one tell) regions) ≡ map (told_to (tell ∷ told)) regions
map-told tell told [] = refl
map-told tell told (g ∷ regions) = ap (λ gs. told_to told (told_one tell g) ∷ gs) (map-told tell told regions)

map-none : (regions : List Region) → regions ≡ map (told_to []) regions
map-none [] = refl
map-none (g ∷ regions) = ap (λ gs. g ∷ gs) (map-none regions)

pub told-each : (told : List Tell) (regions : List Region) → told_all told regions ≡ map (told_to told) regions
told-each [] regions = map-none regions
told-each (tell ∷ told) regions = told-each told (map (told_one tell) regions) ∙ map-told tell told regions
