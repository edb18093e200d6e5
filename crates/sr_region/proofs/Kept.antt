-- A region with its rows has its rows once the changes are applied.
use Rattle.std.proofs.Common.{◌≡◌, ℕ, zero, suc, ◌+◌, ◌<◌, Bool, true, false, cond, not, ◌&&◌, ◌||◌, ◌==◌, List, [], ◌∷◌, ◌++◌, length, map, refl, sym, ap, subst, ◌∙◌, arith}
use Rattle.std.specs.Prelude.{filter, Option, Some, None, if◌then◌else◌}
use Rattle.std.specs.List.{list_all, list_any, AllByRecursion}
use Rattle.std.proofs.lemmas.Bool.Decides.{nat_tests}
use Rattle.std.proofs.lemmas.List.Elements.{filter-append}
use Rattle.sr_cell.specs.declared.cell.Cell.{Cell}
use Rattle.sr_cell.specs.declared.change.Change.{Change}
use Rattle.sr_cell.specs.declared.table.Table.{Table}
use Rattle.std.specs.Cmp.{first_so, second_so}
use Rattle.sr_cell.specs.Attrs.{has_column, project, project_from}
use Rattle.sr_cell.specs.Cells.{Row, cell_at, cell_eq}
use Rattle.sr_cell.specs.Columns.{is_point, table_at}
use Rattle.sr_cell.proofs.Order.{cell_eq-sound}
use Rattle.sr_model.specs.Changes.{row_with, table_changes, changes_from, changes}
use Rattle.sr_model.specs.Queries.{rows_at}
use Rattle.sr_model.specs.SortedRows.{ascend}
use Rattle.sr_model.specs.Statements.{Tables}
use Rattle.sr_box.specs.Points.{Rect, in_any}
use Rattle.sr_region.specs.declared.region.Region.{Region}
use Rattle.sr_region.specs.Regions.{rank, is_in, IsRegion}
use Rattle.sr_region.specs.Applied.{applied, applied_all, IsNew, is_point_if_there, has_points, concerns, HasItsRows, ApplyKeepsRows}
use Rattle.sr_box.specs.Rows.{has_row}
use Rattle.sr_message.specs.Agree.{same_from, agree}
use Rattle.sr_rows.specs.Keys.{without_key}
use Rattle.sr_region.specs.Entering.{part_in}
use Rattle.sr_region.proofs.Ranks.{stand}
use Rattle.sr_region.proofs.Parts.{is_in-point}
use Rattle.sr_region.proofs.Applied.{applied-region, with_new-part}
use Rattle.sr_region.proofs.Found.{same-rows, HasKey, found-part, parts_of, parts-ascend, found-parts}
use Rattle.sr_region.proofs.Changed.{IsChange, are-changes, are-points, is-new, has_change, stays}

-- the region after a change, if the change is of its table
abbrev after_one : Change → Region → Region
after_one c g = if c.table == g.table then applied c.key c.after g else g

after-other : (c : Change) (g : Region) → (c.table == g.table) ≡ false → after_one c g ≡ g
after-other c g other = ap (λ b. if b then applied c.key c.after g else g) other

after-own : (c : Change) (g : Region) → (c.table == g.table) ≡ true → after_one c g ≡ applied c.key c.after g
after-own c g own = ap (λ b. if b then applied c.key c.after g else g) own

-- ---- changes of other tables

abbrev of_others : ℕ → List Change → Type 0
of_others n cs = AllByRecursion (λ (c : Change). (c.table == n) ≡ false) cs

applied-append : (one two : List Change) (g : Region) → applied_all (one ++ two) g ≡ applied_all two (applied_all one g)
applied-append [] two g = refl
applied-append (c ∷ one) two g = applied-append one two (after_one c g)

module _ (test : Change → Bool) where
  others-none : (cs : List Change) (g : Region) → of_others g.table cs → applied_all (filter test cs) g ≡ g
  others-none [] g all = refl
  others-none (c ∷ cs) g all = go (test c) (others-none cs g all.1)
    where
      go : (b : Bool) → applied_all (filter test cs) g ≡ g → applied_all (cond b (c ∷ filter test cs) (filter test cs)) g ≡ g
      go true ih = ap (applied_all (filter test cs)) (after-other c g all.0) ∙ ih
      go false ih = ih

  numbered-others : (table : Table) (t n : ℕ) (old new : List Row) (cs : List Change) → (t == n) ≡ false → AllByRecursion (IsChange table t old new) cs → of_others n cs
  numbered-others table t n old new [] other all = tt
  numbered-others table t n old new (c ∷ cs) other all = ((ap (λ k. k == n) all.0.number ∙ other), numbered-others table t n old new cs other all.1)

  later-none : (n : ℕ) (schema : List Table) (old new : Tables) (g : Region) → g.table < n → applied_all (filter test (changes_from n schema old new)) g ≡ g
  later-none n [] old new g before = refl
  later-none n (table ∷ schema) [] new g before = refl
  later-none n (table ∷ schema) (o ∷ old) [] g before = refl
  later-none n (table ∷ schema) (o ∷ old) (r ∷ new) g before =
      let other : (n == g.table) ≡ false = grind (arith, nat_tests) in
      let one = others-none (table_changes table n o r) g (numbered-others table n g.table o r (table_changes table n o r) other (are-changes table n o r)) in
      let rest = later-none (n + 1) schema old new g (omega arith) in
      ap (λ cs. applied_all cs g) (filter-append test (table_changes table n o r) (changes_from (n + 1) schema old new))
      ∙ applied-append (filter test (table_changes table n o r)) (filter test (changes_from (n + 1) schema old new)) g
      ∙ ap (applied_all (filter test (changes_from (n + 1) schema old new))) one ∙ rest

  -- only the rows change
  same-table : (cs : List Change) (g : Region) → applied_all cs g ≡ record g { rows = (applied_all cs g).rows }
  same-table [] g = refl
  same-table (c ∷ cs) g = go (c.table == g.table) (same-table cs (applied c.key c.after g)) (same-table cs g)
    where
      go : (b : Bool) → applied_all cs (applied c.key c.after g) ≡ record g { rows = (applied_all cs (applied c.key c.after g)).rows } → applied_all cs g ≡ record g { rows = (applied_all cs g).rows }
          → applied_all cs (if b then applied c.key c.after g else g) ≡ record g { rows = (applied_all cs (if b then applied c.key c.after g else g)).rows }
      go true one two = one
      go false one two = two

  own-alone : (n t : ℕ) (schema : List Table) (old new : Tables) (g : Region) → length old ≡ length schema → length new ≡ length schema → t < length schema → g.table ≡ n + t
      → applied_all (filter test (changes_from n schema old new)) g ≡ applied_all (filter test (table_changes (table_at schema t) (n + t) (rows_at old t) (rows_at new t))) g
  own-alone n t [] old new g few_old few_new below at = absurd (omega arith)
  own-alone n t (table ∷ schema) [] new g few_old few_new below at = absurd (omega arith)
  own-alone n t (table ∷ schema) (o ∷ old) [] g few_old few_new below at = absurd (omega arith)
  own-alone n zero (table ∷ schema) (o ∷ old) (r ∷ new) g few_old few_new below at =
      let number : n + 0 ≡ n = omega arith in
      let own = applied_all (filter test (table_changes table n o r)) g in
      let same : own.table ≡ g.table = ap (λ (x : Region). x.table) (same-table (filter test (table_changes table n o r)) g) in
      let rest = later-none (n + 1) schema old new own (omega (arith, same)) in
      ap (λ cs. applied_all cs g) (filter-append test (table_changes table n o r) (changes_from (n + 1) schema old new))
      ∙ applied-append (filter test (table_changes table n o r)) (filter test (changes_from (n + 1) schema old new)) g
      ∙ rest ∙ ap (λ k. applied_all (filter test (table_changes table k o r)) g) (sym number)
  own-alone n (suc t) (table ∷ schema) (o ∷ old) (r ∷ new) g few_old few_new below at =
      let number : n + 1 + t ≡ n + suc t = omega arith in
      let other : (n == g.table) ≡ false = grind (arith, nat_tests) in
      let one = others-none (table_changes table n o r) g (numbered-others table n g.table o r (table_changes table n o r) other (are-changes table n o r)) in
      let rest = own-alone (n + 1) t schema old new g (omega arith) (omega arith) (omega arith) (omega arith) in
      ap (λ cs. applied_all cs g) (filter-append test (table_changes table n o r) (changes_from (n + 1) schema old new))
      ∙ applied-append (filter test (table_changes table n o r)) (filter test (changes_from (n + 1) schema old new)) g
      ∙ ap (applied_all (filter test (changes_from (n + 1) schema old new))) one ∙ rest
      ∙ ap (λ k. applied_all (filter test (table_changes (table_at schema t) k (rows_at old t) (rows_at new t))) g) number

-- ---- what the region's keys have

part-key : (attrs key place : ℕ) (rects : List Rect) (stands : (row : Row) → cell_at (project attrs row) place ≡ cell_at row key) (t : Table) (w : Cell) (after : Option Row)
    → key ≡ t.key → IsNew t w after → HasKey place w (part_in attrs rects after)
part-key attrs key place rects stands t w None is new = tt
part-key attrs key place rects stands t w (Some row) is new = go (in_any rects row)
  where
    own : cell_at (project attrs row) place ≡ w
    own = stands row ∙ ap (cell_at row) is ∙ new.1

    go : (b : Bool) → HasKey place w (if b then Some (project attrs row) else None)
    go true = own
    go false = tt

-- a change of that key that passes
abbrev is_hit : (Change → Bool) → Cell → List Change → Bool
is_hit test v cs = list_any (λ (c : Change). test c && cell_eq c.key v) cs

-- of the row, what lies in the rects
outside : (attrs : ℕ) (rects : List Rect) (row : Option Row) → has_row rects row ≡ false → part_in attrs rects row ≡ None
outside attrs rects None out = refl
outside attrs rects (Some row) out = ap (λ b. if b then Some (project attrs row) else None) out

-- rows that are equal in some columns have the same cells there
same-project : (c attrs : ℕ) (p q : Row) → same_from c attrs p q ≡ true → project_from c attrs p ≡ project_from c attrs q
same-project c attrs [] [] same = refl
same-project c attrs [] (w ∷ q) same = absurd (cc)
same-project c attrs (v ∷ p) [] same = absurd (cc)
same-project c attrs (v ∷ p) (w ∷ q) same = go (has_column attrs c) same (same-project (c + 1) attrs p q)
  where
    go : (b : Bool) → ((not b || cell_eq v w) && same_from (c + 1) attrs p q) ≡ true
        → (same_from (c + 1) attrs p q ≡ true → project_from (c + 1) attrs p ≡ project_from (c + 1) attrs q)
        → (if b then v ∷ project_from (c + 1) attrs p else project_from (c + 1) attrs p) ≡ (if b then w ∷ project_from (c + 1) attrs q else project_from (c + 1) attrs q)
    go true own ih =
        let one = cell_eq-sound v w (first_so (cell_eq v w) (same_from (c + 1) attrs p q) own) in
        let rest = ih (second_so (cell_eq v w) (same_from (c + 1) attrs p q) own) in
        rw (one, rest) refl
    go false own ih = ih own

module _ (test : Change → Bool) (table : Table) (old new : List Row) (were : list_all (is_point table.columns) old ≡ true) (points : list_all (is_point table.columns) new ≡ true) where
  -- the region's place of the key, and its parts
  abbrev place_of : Region → ℕ
  place_of g = rank g.attrs g.key

  region-all : (cs : List Change) (g : Region) → AllByRecursion (IsChange table g.table old new) cs → IsRegion table g → IsRegion table (applied_all (filter test cs) g)
  region-all [] g all h = h
  region-all (c ∷ cs) g all h =
      go (test c) (region-all cs (applied c.key c.after g) all.1 (applied-region table c.key c.after g h (is-new table g.table old new c all.0 points))) (region-all cs g all.1 h)
    where
      own : (c.table == g.table) ≡ true
      own = let is = all.0.number in grind (arith, nat_tests, is)

      go : (b : Bool) → IsRegion table (applied_all (filter test cs) (applied c.key c.after g)) → IsRegion table (applied_all (filter test cs) g)
          → IsRegion table (applied_all (cond b (c ∷ filter test cs) (filter test cs)) g)
      go true one two = subst (λ x. IsRegion table (applied_all (filter test cs) x)) (sym (after-own c g own)) one
      go false one two = two

  stands-in : (g : Region) → IsRegion table g → (row : Row) → cell_at (project g.attrs row) (place_of g) ≡ cell_at row table.key
  stands-in g h row = stand g.attrs g.key row h.area.has_key ∙ ap (cell_at row) h.area.key

  found-one : (v : Cell) (c : Change) (g : Region) → IsRegion table g → IsChange table g.table old new c
      → row_with (place_of g) v (applied c.key c.after g).rows ≡ (if cell_eq c.key v then part_in g.attrs g.rects (row_with table.key v new) else row_with (place_of g) v g.rows)
  found-one v c g h is =
      ap (row_with (place_of g) v) (with_new-part (place_of g) g.attrs g.rects c.after (without_key (place_of g) c.key g.rows))
      ∙ found-part (place_of g) v c.key g.rows (part_in g.attrs g.rects c.after) (part-key g.attrs table.key (place_of g) g.rects (stands-in g h) table c.key c.after refl (is-new table g.table old new c is points))
      ∙ go (cell_eq c.key v) refl
    where
      go : (b : Bool) → cell_eq c.key v ≡ b
          → (if b then part_in g.attrs g.rects c.after else row_with (place_of g) v g.rows) ≡ (if b then part_in g.attrs g.rects (row_with table.key v new) else row_with (place_of g) v g.rows)
      go true e = ap (part_in g.attrs g.rects) (is.after ∙ ap (λ u. row_with table.key u new) (cell_eq-sound c.key v e))
      go false e = refl

  found-all : (v : Cell) (cs : List Change) (g : Region) → IsRegion table g → AllByRecursion (IsChange table g.table old new) cs
      → row_with (place_of g) v (applied_all (filter test cs) g).rows
      ≡ (if is_hit test v cs then part_in g.attrs g.rects (row_with table.key v new) else row_with (place_of g) v g.rows)
  found-all v [] g h all = refl
  found-all v (c ∷ cs) g h all =
      go (test c) (found-one v c g h all.0) (found-all v cs (applied c.key c.after g) (applied-region table c.key c.after g h (is-new table g.table old new c all.0 points)) all.1) (found-all v cs g h all.1)
    where
      own : (c.table == g.table) ≡ true
      own = let is = all.0.number in grind (arith, nat_tests, is)

      then_new : Option Row
      then_new = part_in g.attrs g.rects (row_with table.key v new)

      before : Option Row
      before = row_with (place_of g) v g.rows

      both : (a b : Bool) → (if b then then_new else (if a then then_new else before)) ≡ (if a || b then then_new else before)
      both true true = refl
      both true false = refl
      both false true = refl
      both false false = refl

      go : (b : Bool) → row_with (place_of g) v (applied c.key c.after g).rows ≡ (if cell_eq c.key v then then_new else before)
          → row_with (place_of g) v (applied_all (filter test cs) (applied c.key c.after g)).rows ≡ (if is_hit test v cs then then_new else row_with (place_of g) v (applied c.key c.after g).rows)
          → row_with (place_of g) v (applied_all (filter test cs) g).rows ≡ (if is_hit test v cs then then_new else before)
          → row_with (place_of g) v (applied_all (cond b (c ∷ filter test cs) (filter test cs)) g).rows ≡ (if (b && cell_eq c.key v) || is_hit test v cs then then_new else before)
      go true one two rest =
          ap (λ (x : Region). row_with (place_of g) v (applied_all (filter test cs) x).rows) (after-own c g own) ∙ two
          ∙ ap (λ o. if is_hit test v cs then then_new else o) one ∙ both (cell_eq c.key v) (is_hit test v cs)
      go false one two rest = rest

  -- rows that are equal in the region's columns have the same part in it
  same-in : (g : Region) → IsRegion table g → (one other : Option Row) → is_point_if_there table.columns one ≡ true → is_point_if_there table.columns other ≡ true
      → agree g.attrs one other ≡ true → part_in g.attrs g.rects one ≡ part_in g.attrs g.rects other
  same-in g h None other first second same = absurd (cc)
  same-in g h (Some p) None first second same = absurd (cc)
  same-in g h (Some p) (Some q) first second same =
      let cells : project g.attrs p ≡ project g.attrs q = same-project 0 g.attrs p q same in
      let inside : in_any g.rects p ≡ in_any g.rects q =
      sym (is_in-point table.columns g.attrs g.rects p h.area.fit h.area.only first) ∙ ap (is_in g.attrs g.rects) cells
      ∙ is_in-point table.columns g.attrs g.rects q h.area.fit h.area.only second in
      rw (inside, cells) refl

  -- a key whose changes do not pass has the same part before and after
  same-part : (v : Cell) (cs : List Change) (g : Region) → IsRegion table g → ((c : Change) → has_points table.columns c ≡ true → concerns g c ≡ true → test c ≡ true) → AllByRecursion (IsChange table g.table old new) cs
      → has_change v cs ≡ true → is_hit test v cs ≡ false → part_in g.attrs g.rects (row_with table.key v old) ≡ part_in g.attrs g.rects (row_with table.key v new)
  same-part v [] g h passes all has none = absurd (cc)
  same-part v (c ∷ cs) g h passes all has none = go (cell_eq c.key v) refl (test c) refl has none (same-part v cs g h passes all.1)
    where
      own : (c.table == g.table) ≡ true
      own = let is = all.0.number in grind (arith, nat_tests, is)

      points_are : has_points table.columns c ≡ true
      points_are = are-points table g.table old new c all.0 were points

      same-ends : test c ≡ false → (b : Bool) → agree g.attrs c.before c.after ≡ b → part_in g.attrs g.rects c.before ≡ part_in g.attrs g.rects c.after
      same-ends fails true equal =
          same-in g h c.before c.after (first_so (is_point_if_there table.columns c.before) (is_point_if_there table.columns c.after) points_are)
          (second_so (is_point_if_there table.columns c.before) (is_point_if_there table.columns c.after) points_are) equal
      same-ends fails false differ =
          let p = passes c points_are in
          outside g.attrs g.rects c.before (grind (arith, own, p, fails, differ)) ∙ sym (outside g.attrs g.rects c.after (grind (arith, own, p, fails, differ)))

      go : (a : Bool) → cell_eq c.key v ≡ a → (b : Bool) → test c ≡ b → (a || has_change v cs) ≡ true → ((b && a) || is_hit test v cs) ≡ false
          → (has_change v cs ≡ true → is_hit test v cs ≡ false → part_in g.attrs g.rects (row_with table.key v old) ≡ part_in g.attrs g.rects (row_with table.key v new))
          → part_in g.attrs g.rects (row_with table.key v old) ≡ part_in g.attrs g.rects (row_with table.key v new)
      go true e true f some hit ih = absurd (cc)
      go true e false f some hit ih =
          let at = cell_eq-sound c.key v e in
          let was : c.before ≡ row_with table.key v old = all.0.before ∙ ap (λ u. row_with table.key u old) at in
          let is : c.after ≡ row_with table.key v new = all.0.after ∙ ap (λ u. row_with table.key u new) at in
          ap (part_in g.attrs g.rects) (sym was) ∙ same-ends f (agree g.attrs c.before c.after) refl ∙ ap (part_in g.attrs g.rects) is
      go false e b f some hit ih = ih some (grind (arith, hit))

  -- ---- the region's rows

  kept-rows : (g : Region) → ((c : Change) → has_points table.columns c ≡ true → concerns g c ≡ true → test c ≡ true) → IsRegion table g → ascend table.key old ≡ true → ascend table.key new ≡ true
      → g.rows ≡ map (project g.attrs) (filter (in_any g.rects) old)
      → (applied_all (filter test (table_changes table g.table old new)) g).rows ≡ map (project g.attrs) (filter (in_any g.rects) new)
  kept-rows g passes h was is own =
      same-rows (place_of g) (applied_all (filter test cs) g).rows (parts_of g.attrs table.key (place_of g) g.rects (stands-in g h) new) ascending
      (parts-ascend g.attrs table.key (place_of g) g.rects (stands-in g h) new is)
      (λ v. found-all v cs g h (are-changes table g.table old new) ∙ go v (is_hit test v cs) refl (has_change v cs) refl
      ∙ sym (found-parts g.attrs table.key (place_of g) g.rects (stands-in g h) v new is))
    where
      cs : List Change
      cs = table_changes table g.table old new

      last : IsRegion table (record g { rows = (applied_all (filter test cs) g).rows })
      last = subst (IsRegion table) (same-table test (filter test cs) g) (region-all cs g (are-changes table g.table old new) h)

      ascending : ascend (place_of g) (applied_all (filter test cs) g).rows ≡ true
      ascending = last.ascending

      before : (v : Cell) → row_with (place_of g) v g.rows ≡ part_in g.attrs g.rects (row_with table.key v old)
      before v = ap (row_with (place_of g) v) own ∙ found-parts g.attrs table.key (place_of g) g.rects (stands-in g h) v old was

      go : (v : Cell) (b : Bool) → is_hit test v cs ≡ b → (d : Bool) → has_change v cs ≡ d
          → (if b then part_in g.attrs g.rects (row_with table.key v new) else row_with (place_of g) v g.rows) ≡ part_in g.attrs g.rects (row_with table.key v new)
      go v true e d f = refl
      go v false e true f = before v ∙ same-part v cs g h passes (are-changes table g.table old new) f e
      go v false e false f = before v ∙ ap (part_in g.attrs g.rects) (stays table g.table old new v f)

pub keeps : ApplyKeepsRows
unfolding changes
keeps schema old new test g was is below h passes own =
    let n = g.table in
    let number : 0 + n ≡ n = omega arith in
    let few_old = was.few in
    let few_new = is.few in
    let one : applied_all (filter test (changes_from 0 schema old new)) g ≡ applied_all (filter test (table_changes (table_at schema n) n (rows_at old n) (rows_at new n))) g =
    own-alone test 0 n schema old new g few_old few_new below (sym number)
    ∙ ap (λ k. applied_all (filter test (table_changes (table_at schema n) k (rows_at old n) (rows_at new n))) g) number in
    let rows = kept-rows test (table_at schema n) (rows_at old n) (rows_at new n) (was.points n) (is.points n) g passes h (was.ascending n) (is.ascending n) own in
    let same = same-table test (filter test (table_changes (table_at schema n) n (rows_at old n) (rows_at new n))) g in
    subst (HasItsRows new) (sym (one ∙ same)) rows
