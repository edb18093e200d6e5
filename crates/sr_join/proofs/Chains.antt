-- Choices of shown rows are choices of the tables' rows.
use Rattle.std.proofs.Common.{◌≡◌, ℕ, zero, suc, ◌+◌, ◌<◌, Bool, true, false, ◌&&◌, List, [], ◌∷◌, ◌++◌, map, length, refl, sym, ap, subst, ◌∙◌, arith, append_assoc, length-append}
use Rattle.std.specs.Prelude.{filter, flat_map, slice_get, Some, None}
use Rattle.std.specs.List.{list_all}
use Rattle.std.proofs.lemmas.Bool.Decides.{nat_tests}
use Rattle.std.proofs.lemmas.List.{append-nil}
use Rattle.sr_cell.specs.declared.cell.Cell.{Cell}
use Rattle.sr_cell.specs.declared.table.Table.{Table}
use Rattle.sr_cell.specs.Cells.{Row, cell_at}
use Rattle.sr_model.specs.Conditions.{Eq, passes as equals}
use Rattle.sr_model.specs.Queries.{Part, Join, points_of, combinations, row_at, rows_at, all_meet, joins_hold}
use Rattle.sr_model.specs.Queries as model
use Rattle.sr_model.specs.Statements.{Tables}
use Rattle.sr_query.specs.Bound as bound
use Rattle.sr_query.specs.Joined.{needs_column, is_needed, join_each}
use Rattle.sr_query.specs.declared.condition.Output.{Output}
use Rattle.sr_join.specs.Joins.{chosen_cell, found_at, rows_with, choices, outputs_of}
use Rattle.sr_join.specs.Shown.{Shown, Shows, AreShown, cell_of}
use Rattle.sr_join.proofs.Lists.{chosen-lists, map-lists, chosen-images, none-chosen, some-lists, filter-both, zip-filter, zip-lists}
use Rattle.sr_join.proofs.Shows.{shown-cell}

-- ---- lists

get-front : {A : Type 0} (xs ys : List A) (i : ℕ) → i < length xs → slice_get (xs ++ ys) i ≡ slice_get xs i
get-front [] ys i below = absurd (omega (arith, below))
get-front (x ∷ xs) ys zero below = refl
get-front (x ∷ xs) ys (suc i) below = get-front xs ys i (omega (arith, below))

get-seam : {A : Type 0} (xs : List A) (y : A) (ys : List A) → slice_get (xs ++ y ∷ ys) (length xs) ≡ Some y
get-seam [] y ys = refl
get-seam (x ∷ xs) y ys = get-seam xs y ys

get-end : {A : Type 0} (xs : List A) → slice_get (xs ++ []) (length xs) ≡ None
get-end [] = refl
get-end (x ∷ xs) = get-end xs

row-front : (xs ys : List Row) (i : ℕ) → i < length xs → row_at (xs ++ ys) i ≡ row_at xs i
row-front [] ys i below = absurd (omega (arith, below))
row-front (x ∷ xs) ys zero below = refl
row-front (x ∷ xs) ys (suc i) below = row-front xs ys i (omega (arith, below))

row-seam : (xs : List Row) (y : Row) (ys : List Row) → row_at (xs ++ y ∷ ys) (length xs) ≡ y
row-seam [] y ys = refl
row-seam (x ∷ xs) y ys = row-seam xs y ys

-- ---- rows that are chosen, and what is shown of them

abbrev pub ShowAll : List Part → List Row → List Shown → Type 0
ShowAll [] [] [] = Unit {0}
ShowAll [] [] (s ∷ chosen) = ⊥
ShowAll [] (p ∷ rows) chosen = ⊥
ShowAll (part ∷ parts) [] chosen = ⊥
ShowAll (part ∷ parts) (p ∷ rows) [] = ⊥
ShowAll (part ∷ parts) (p ∷ rows) (s ∷ chosen) = Shows part.need p s × ShowAll parts rows chosen

show-more : (parts : List Part) (rows : List Row) (chosen : List Shown) (part : Part) (p : Row) (s : Shown) → ShowAll parts rows chosen → Shows part.need p s
    → ShowAll (parts ++ part ∷ []) (rows ++ p ∷ []) (chosen ++ s ∷ [])
show-more [] [] [] part p s all one = (one, tt)
show-more [] [] (t ∷ chosen) part p s all one = absurd all
show-more [] (q ∷ rows) chosen part p s all one = absurd all
show-more (first ∷ parts) [] chosen part p s all one = absurd all
show-more (first ∷ parts) (q ∷ rows) [] part p s all one = absurd all
show-more (first ∷ parts) (q ∷ rows) (t ∷ chosen) part p s all one = (all.0, show-more parts rows chosen part p s all.1 one)

show-length : (parts : List Part) (rows : List Row) (chosen : List Shown) → ShowAll parts rows chosen → length rows ≡ length parts
show-length [] [] chosen all = refl
show-length [] (q ∷ rows) chosen all = absurd all
show-length (first ∷ parts) [] chosen all = absurd all
show-length (first ∷ parts) (q ∷ rows) [] all = absurd all
show-length (first ∷ parts) (q ∷ rows) (t ∷ chosen) all = ap (λ n. suc n) (show-length parts rows chosen all.1)

show-cell : (parts : List Part) (rows : List Row) (chosen : List Shown) (i column : ℕ) → ShowAll parts rows chosen → needs_column column (slice_get parts i) ≡ true
    → chosen_cell chosen i column ≡ cell_at (row_at rows i) column
show-cell [] rows chosen i column all needs = absurd (cc)
show-cell (part ∷ parts) [] chosen i column all needs = absurd all
show-cell (part ∷ parts) (p ∷ rows) [] i column all needs = absurd all
show-cell (part ∷ parts) (p ∷ rows) (s ∷ chosen) zero column all needs = shown-cell part.need column p s needs all.0
show-cell (part ∷ parts) (p ∷ rows) (s ∷ chosen) (suc i) column all needs = show-cell parts rows chosen i column all.1 needs

-- the outputs of what is chosen of all parts
show-outputs : (parts : List Part) (rows : List Row) (chosen : List Shown) (outputs : List Output) → ShowAll parts rows chosen → list_all (is_needed parts) (map bound.output_of outputs) ≡ true
    → outputs_of outputs chosen ≡ model.output_of (map bound.output_of outputs) rows
show-outputs parts rows chosen [] all needed = refl
show-outputs parts rows chosen (o ∷ outputs) all needed =
    let one : needs_column o.column (slice_get parts o.part) ≡ true = left (needs_column o.column (slice_get parts o.part)) (list_all (is_needed parts) (map bound.output_of outputs)) needed in
    let more = right (needs_column o.column (slice_get parts o.part)) (list_all (is_needed parts) (map bound.output_of outputs)) needed in
    rw (show-cell parts rows chosen o.part o.column all one, show-outputs parts rows chosen outputs all more) refl
  where
    left : (a b : Bool) → (a && b) ≡ true → a ≡ true
    left a b h = grind arith

    right : (a b : Bool) → (a && b) ≡ true → b ≡ true
    right a b h = grind arith

-- ---- the rows behind some that are chosen

-- each table's rows
abbrev lists_of : Tables → List Part → List (List Row)
lists_of tables parts = map (λ part. rows_at tables part.table) parts

-- the outputs of all choices for these parts that go on from some rows
abbrev pub behind : Tables → List model.Output → List Row → List Part → List Join → List Row
behind tables outputs rows parts joins =
    map (λ others. model.output_of outputs (rows ++ others)) (filter (λ others. joins_hold joins (rows ++ others) && all_meet parts others) (combinations (lists_of tables parts)))

-- what was found of the parts of a query shows those of their tables' rows that meet their conditions
abbrev pub ShowParts : Tables → List Part → List (List Shown) → Type 0
ShowParts tables parts found = (i : ℕ) (part : Part) → slice_get parts i ≡ Some part → AreShown part.need (rows_at tables part.table) (points_of part) (found_at found i)

-- one row more, where it passes a test
one-more : (tables : Tables) (outputs : List model.Output) (rows : List Row) (part : Part) (parts : List Part) (joins more : List Join) (test : Row → Bool)
    → ((p : Row) (others : List Row) → joins_hold joins (rows ++ p ∷ others) ≡ (test p && joins_hold more (rows ++ p ∷ others)))
    → behind tables outputs rows (part ∷ parts) joins
    ≡ flat_map (λ p. behind tables outputs (rows ++ p ∷ []) parts more) (filter test (filter (points_of part) (rows_at tables part.table)))
one-more tables outputs rows part parts joins more test same =
    chosen-lists (λ others. model.output_of outputs (rows ++ others)) (λ others. joins_hold joins (rows ++ others) && all_meet (part ∷ parts) others)
    (λ p. map (λ others. p ∷ others) (combinations (lists_of tables parts))) (rows_at tables part.table)
    ∙ (some-lists (λ p. test p && points_of part p) (λ p. map (λ others. model.output_of outputs (rows ++ others))
    (filter (λ others. joins_hold joins (rows ++ others) && all_meet (part ∷ parts) others) (map (λ others. p ∷ others) (combinations (lists_of tables parts)))))
    (λ p. behind tables outputs (rows ++ p ∷ []) parts more) (rows_at tables part.table) goes ends
    ∙ ap (flat_map (λ p. behind tables outputs (rows ++ p ∷ []) parts more)) (filter-both test (points_of part) (rows_at tables part.table)))
  where
    joined : (p : Row) (others : List Row) → rows ++ p ∷ others ≡ (rows ++ p ∷ []) ++ others
    joined p others = sym (append_assoc rows (p ∷ []) others)

    passes : (t m j : Bool) (a : Bool) → (t && m) ≡ true → ((t && j) && (m && a)) ≡ (j && a)
    passes t m j a h = grind arith

    fails : (t m j : Bool) (a : Bool) → (t && m) ≡ false → ((t && j) && (m && a)) ≡ false
    fails t m j a h = grind arith

    goes : (p : Row) → (test p && points_of part p) ≡ true
        → map (λ others. model.output_of outputs (rows ++ others)) (filter (λ others. joins_hold joins (rows ++ others) && all_meet (part ∷ parts) others) (map (λ others. p ∷ others) (combinations (lists_of tables parts))))
        ≡ behind tables outputs (rows ++ p ∷ []) parts more
    goes p met = chosen-images (λ others. model.output_of outputs (rows ++ others)) (λ others. joins_hold joins (rows ++ others) && all_meet (part ∷ parts) others)
        (λ others. p ∷ others) (λ others. model.output_of outputs ((rows ++ p ∷ []) ++ others)) (λ others. joins_hold more ((rows ++ p ∷ []) ++ others) && all_meet parts others)
        (combinations (lists_of tables parts))
        (λ others. ap (λ b. b && (points_of part p && all_meet parts others)) (same p others)
        ∙ (passes (test p) (points_of part p) (joins_hold more (rows ++ p ∷ others)) (all_meet parts others) met ∙ ap (λ all. joins_hold more all && all_meet parts others) (joined p others)))
        (λ others. ap (model.output_of outputs) (joined p others))

    ends : (p : Row) → (test p && points_of part p) ≡ false
        → map (λ others. model.output_of outputs (rows ++ others)) (filter (λ others. joins_hold joins (rows ++ others) && all_meet (part ∷ parts) others) (map (λ others. p ∷ others) (combinations (lists_of tables parts))))
        ≡ []
    ends p unmet = none-chosen (λ others. model.output_of outputs (rows ++ others)) (λ others. joins_hold joins (rows ++ others) && all_meet (part ∷ parts) others)
        (λ others. p ∷ others) (combinations (lists_of tables parts))
        (λ others. ap (λ b. b && (points_of part p && all_meet parts others)) (same p others)
        ∙ fails (test p) (points_of part p) (joins_hold more (rows ++ p ∷ others)) (all_meet parts others) unmet)

-- ---- all joins

module _ (schema : List Table) (tables : Tables) (whole : List Part) (found : List (List Shown)) (outputs : List Output) (shown : ShowParts tables whole found)
    (needed : list_all (is_needed whole) (map bound.output_of outputs) ≡ true) where
  pub joined-rows : (joins : List Join) (parts done : List Part) (rows : List Row) (chosen : List Shown) → whole ≡ done ++ parts → join_each schema whole (length done) joins ≡ true → ShowAll done rows chosen
      → map (outputs_of outputs) (choices found joins chosen) ≡ behind tables (map bound.output_of outputs) rows parts joins
  joined-rows [] [] done rows chosen are each all =
      let same : whole ≡ done = are ∙ append-nil done in
      let one : outputs_of outputs chosen ≡ model.output_of (map bound.output_of outputs) rows =
      show-outputs done rows chosen outputs all (subst (λ parts. list_all (is_needed parts) (map bound.output_of outputs) ≡ true) same needed) in
      ap (λ cells. cells ∷ []) (one ∙ ap (model.output_of (map bound.output_of outputs)) (sym (append-nil rows)))
  joined-rows [] (part ∷ parts) done rows chosen are each all =
      let n : length whole ≡ length (done ++ part ∷ parts) = ap length are in
      let m = length-append done (part ∷ parts) in
      absurd (grind (arith, nat_tests, each, n, m))
  joined-rows (j ∷ joins) [] done rows chosen are each all =
      let right : j.right ≡ length done = grind (arith, nat_tests, each) in
      let none : slice_get whole (length done) ≡ None = ap (λ parts. slice_get parts (length done)) are ∙ get-end done in
      let key : needs_column j.key (slice_get whole j.right) ≡ true = grind (arith, each) in
      let no : needs_column j.key None ≡ true = subst (λ o. needs_column j.key o ≡ true) (ap (slice_get whole) right ∙ none) key in
      absurd (cc)
  joined-rows (j ∷ joins) (part ∷ parts) done rows chosen are each all =
      let right : j.right ≡ length done = grind (arith, nat_tests, each) in
      let left : j.left < length done = grind (arith, nat_tests, each) in
      let later : join_each schema whole (length done + 1) joins ≡ true = grind (arith, each) in
      let column : needs_column j.column (slice_get whole j.left) ≡ true = grind (arith, each) in
      let key : needs_column j.key (slice_get whole j.right) ≡ true = grind (arith, each) in
      let at : slice_get whole (length done) ≡ Some part = ap (λ parts. slice_get parts (length done)) are ∙ get-seam done part parts in
      let has : needs_column j.key (Some part) ≡ true = subst (λ o. needs_column j.key o ≡ true) (ap (slice_get whole) right ∙ at) key in
      let front : slice_get whole j.left ≡ slice_get done j.left = ap (λ parts. slice_get parts j.left) are ∙ get-front done (part ∷ parts) j.left left in
      let cell : chosen_cell chosen j.left j.column ≡ cell_at (row_at rows j.left) j.column = show-cell done rows chosen j.left j.column all (subst (λ o. needs_column j.column o ≡ true) front column) in
      let count : length (done ++ part ∷ []) ≡ length done + 1 = length-append done (part ∷ []) in
      let long : length rows ≡ length done = show-length done rows chosen all in
      step j joins part parts done rows chosen right left at has cell long
      (λ p s shows. joined-rows joins parts (done ++ part ∷ []) (rows ++ p ∷ []) (chosen ++ s ∷ []) (are ∙ sym (append_assoc done (part ∷ []) parts))
      (subst (λ n. join_each schema whole n joins ≡ true) (sym count) later) (show-more done rows chosen part p s all shows))
    where
      step : (j : Join) (joins : List Join) (part : Part) (parts done : List Part) (rows : List Row) (chosen : List Shown) → j.right ≡ length done → j.left < length done → slice_get whole (length done) ≡ Some part
          → needs_column j.key (Some part) ≡ true → chosen_cell chosen j.left j.column ≡ cell_at (row_at rows j.left) j.column → length rows ≡ length done
          → ((p : Row) (s : Shown) → Shows part.need p s → map (outputs_of outputs) (choices found joins (chosen ++ s ∷ [])) ≡ behind tables (map bound.output_of outputs) (rows ++ p ∷ []) parts joins)
          → map (outputs_of outputs) (choices found (j ∷ joins) chosen) ≡ behind tables (map bound.output_of outputs) rows (part ∷ parts) (j ∷ joins)
      step j joins part parts done rows chosen right left at has cell long later =
          let v : Cell = chosen_cell chosen j.left j.column in
          let test : Row → Bool = λ p. equals (Eq (cell_at p j.key)) v in
          let of_part : AreShown part.need (rows_at tables part.table) (points_of part) (found_at found j.right) =
          subst (λ i. AreShown part.need (rows_at tables part.table) (points_of part) (found_at found i)) (sym right) (shown (length done) part at) in
          map-lists (outputs_of outputs) (λ s. choices found joins (chosen ++ s ∷ [])) (rows_with found j.right j.key v)
          ∙ (sym (zip-lists (Shows part.need) (λ p. behind tables (map bound.output_of outputs) (rows ++ p ∷ []) parts joins) (λ s. map (outputs_of outputs) (choices found joins (chosen ++ s ∷ [])))
          (filter test (filter (points_of part) (rows_at tables part.table))) (rows_with found j.right j.key v)
          (zip-filter (Shows part.need) test (λ s. equals (Eq (cell_of j.key s)) v) (filter (points_of part) (rows_at tables part.table)) (found_at found j.right) of_part
          (λ p s shows. ap (λ c. equals (Eq c) v) (shown-cell part.need j.key p s has shows)))
          (λ p s shows. sym (later p s shows)))
          ∙ sym (one-more tables (map bound.output_of outputs) rows part parts (j ∷ joins) joins test holds))
        where
          holds : (p : Row) (others : List Row) → joins_hold (j ∷ joins) (rows ++ p ∷ others) ≡ (equals (Eq (cell_at p j.key)) (chosen_cell chosen j.left j.column) && joins_hold joins (rows ++ p ∷ others))
          holds p others =
              let one : row_at (rows ++ p ∷ others) j.left ≡ row_at rows j.left = row-front rows (p ∷ others) j.left (subst (λ n. j.left < n) (sym long) left) in
              let at_right : j.right ≡ length rows = right ∙ sym long in
              let two : row_at (rows ++ p ∷ others) j.right ≡ p = ap (row_at (rows ++ p ∷ others)) at_right ∙ row-seam rows p others in
              let same : equals (Eq (cell_at (row_at (rows ++ p ∷ others) j.right) j.key)) (cell_at (row_at (rows ++ p ∷ others) j.left) j.column) ≡ equals (Eq (cell_at p j.key)) (chosen_cell chosen j.left j.column) =
              ap (λ row. equals (Eq (cell_at (row_at (rows ++ p ∷ others) j.right) j.key)) (cell_at row j.column)) one
              ∙ (ap (λ row. equals (Eq (cell_at row j.key)) (cell_at (row_at rows j.left) j.column)) two ∙ ap (equals (Eq (cell_at p j.key))) (sym cell)) in
              ap (λ b. b && joins_hold joins (rows ++ p ∷ others)) same

  -- the outputs of all choices that begin with rows of the first part
  pub answered : (part : Part) (parts : List Part) (joins : List Join) → whole ≡ part ∷ parts → join_each schema whole 1 joins ≡ true
      → flat_map (λ first. map (outputs_of outputs) (choices found joins (first ∷ []))) (found_at found 0) ≡ behind tables (map bound.output_of outputs) [] (part ∷ parts) joins
  answered part parts joins are each =
      let first : AreShown part.need (rows_at tables part.table) (points_of part) (found_at found 0) = shown 0 part (ap (λ parts. slice_get parts 0) are) in
      sym (zip-lists (Shows part.need) (λ p. behind tables (map bound.output_of outputs) (p ∷ []) parts joins) (λ s. map (outputs_of outputs) (choices found joins (s ∷ [])))
      (filter (points_of part) (rows_at tables part.table)) (found_at found 0) first
      (λ p s shows. sym (joined-rows joins parts (part ∷ []) (p ∷ []) (s ∷ []) are each (shows, tt))))
      ∙ sym (one-more tables (map bound.output_of outputs) [] part parts joins joins (λ p. true) (λ p others. refl) ∙ ap (flat_map (λ p. behind tables (map bound.output_of outputs) (p ∷ []) parts joins)) (all-pass (filter (points_of part) (rows_at tables part.table))))
    where
      all-pass : (rows : List Row) → filter (λ p. true) rows ≡ rows
      all-pass [] = refl
      all-pass (p ∷ rows) = ap (λ all. p ∷ all) (all-pass rows)
