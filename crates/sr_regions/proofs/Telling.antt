-- What a tell does to regions, and to what an index names.
use Rattle.std.proofs.Common.{◌≡◌, ℕ, zero, suc, ◌+◌, ◌<◌, ◌≤◌, Bool, true, false, cond, not, List, [], ◌∷◌, ◌++◌, length, take, map, refl, sym, ap, subst, ◌∙◌, ⊎_elim, arith, eqb-true}
use Rattle.std.specs.Prelude.{Option, Some, None, ◌==◌, filter, slice_get, slice_set, if◌then◌else◌}
use Rattle.std.specs.List.{list_all, All}
use Rattle.std.specs.Cmp.{first_so, second_so}
use Rattle.std.proofs.lemmas.Bool.Decides.{nat_tests}
use Rattle.std.proofs.Math.ListN.{get_or}
use Rattle.std.proofs.lemmas.List.{take_more}
use Rattle.std.proofs.lemmas.List.Elements.{All-head, All-nil, All-cons, All-tail}
use Rattle.sr_cell.specs.declared.cell.Cell.{Cell}
use Rattle.sr_cell.specs.declared.table.Table.{Table}
use Rattle.sr_cell.specs.Attrs.{project}
use Rattle.sr_cell.specs.Cells.{Row, cell_at, cell_eq}
use Rattle.sr_cell.specs.Columns.{table_at}
use Rattle.sr_cell.proofs.Order.{cell_eq-sound}
use Rattle.sr_cell.proofs.Lists.{list_all-filter, list_all-push}
use Rattle.sr_message.specs.declared.message.Tell.{Tell}
use Rattle.sr_model.specs.SortedRows.{has_key, with_row}
use Rattle.sr_box.specs.Points.{Rect, in_any}
use Rattle.sr_box.specs.Rows.{has_row}
use Rattle.sr_keyed.proofs.Order.{order}
use Rattle.sr_rows.specs.Keys.{without_key}
use Rattle.sr_rows.proofs.Elements.{list_all-with_row}
use Rattle.sr_rows.proofs.Places.{without-none}
use Rattle.sr_region.specs.declared.region.Region.{Region}
use Rattle.sr_region.specs.Regions.{rank}
use Rattle.sr_region.specs.Applied.{applied, with_new, IsNew}
use Rattle.sr_region.proofs.Applied.{applied-region}
use Rattle.sr_region.proofs.Ranks.{stand}
use Rattle.sr_regions.specs.declared.index.Index.{Index}
use Rattle.sr_regions.specs.Touched.{holds_key, is_touched, told_one, count_touched, IsOfSchema, IsTellOf}
use Rattle.sr_regions.specs.Named.{is_named, has_names, AgreesWith, NamesMore}
use Rattle.sr_regions.proofs.Places.{set-cases, read-same}

-- ---- a tell leaves a region as it is that it does not touch

new-none : (key attrs : ℕ) (rects : List Rect) (after : Option Row) (rows : List Row) → has_row rects after ≡ false → with_new key attrs rects after rows ≡ rows
new-none key attrs rects None rows h = refl
new-none key attrs rects (Some row) rows h = grind (arith, h)

applied-none : (tell : Tell) (g : Region) → has_key (rank g.attrs g.key) tell.key g.rows ≡ false → has_row g.rects tell.after ≡ false → applied tell.key tell.after g ≡ g
applied-none tell g h k =
    let rows = new-none (rank g.attrs g.key) g.attrs g.rects tell.after (without_key (rank g.attrs g.key) tell.key g.rows) k ∙ without-none (rank g.attrs g.key) tell.key g.rows h in
    ap (λ rows. record g { rows = rows }) rows

pub untouched : (tell : Tell) (g : Region) → is_touched tell g ≡ false → told_one tell g ≡ g
untouched tell g h = go (tell.table == g.table) refl
  where
    go : (b : Bool) → (tell.table == g.table) ≡ b → (if b then applied tell.key tell.after g else g) ≡ g
    go false e = refl
    go true e =
        let key : has_key (rank g.attrs g.key) tell.key g.rows ≡ false = grind (arith, nat_tests, e, h) in
        let row : has_row g.rects tell.after ≡ false = grind (arith, nat_tests, e, h) in
        applied-none tell g key row

-- a region that is touched is of the tell's table
pub touched : (tell : Tell) (g : Region) → is_touched tell g ≡ true → told_one tell g ≡ applied tell.key tell.after g
touched tell g h = go (tell.table == g.table) refl
  where
    go : (b : Bool) → (tell.table == g.table) ≡ b → (if b then applied tell.key tell.after g else g) ≡ applied tell.key tell.after g
    go true e = refl
    go false e = absurd (grind (arith, nat_tests, e, h))

-- ---- what is told is of the schema again

new-in : (schema : List Table) (tell : Tell) (t : ℕ) → IsTellOf schema tell → (tell.table == t) ≡ true → IsNew (table_at schema t) tell.key tell.after
new-in schema tell t is e = subst (λ n. IsNew (table_at schema n) tell.key tell.after) (eqb-true tell.table t e) is.1

pub told-of-schema : (schema : List Table) (tell : Tell) (g : Region) → IsTellOf schema tell → IsOfSchema schema g → IsOfSchema schema (told_one tell g)
told-of-schema schema tell g is h = go (tell.table == g.table) refl
  where
    go : (b : Bool) → (tell.table == g.table) ≡ b → IsOfSchema schema (if b then applied tell.key tell.after g else g)
    go true e = (h.0, applied-region (table_at schema g.table) tell.key tell.after g h.1 (new-in schema tell g.table is e))
    go false e = h

pub all-of-schema : (schema : List Table) (tell : Tell) (regions : List Region) → IsTellOf schema tell → All (IsOfSchema schema) regions → All (IsOfSchema schema) (map (told_one tell) regions)
all-of-schema schema tell [] is h = All-nil (IsOfSchema schema)
all-of-schema schema tell (g ∷ regions) is h =
    All-cons (IsOfSchema schema) (told_one tell g) (map (told_one tell) regions) (told-of-schema schema tell g is (All-head (IsOfSchema schema) g regions h))
    (all-of-schema schema tell regions is (All-tail (IsOfSchema schema) g regions h))

-- ---- names

-- without an index each region is named under each key
pub named-all : (n : ℕ) (g : Region) → has_names order None n g ≡ true
named-all n g = go g.rows
  where
    go : (rows : List Row) → list_all (λ row. true) rows ≡ true
    go [] = refl
    go (row ∷ rows) = go rows

-- what holds of all keys of some rows holds of each key that one of them has
among : (p : Cell → Bool) (place : ℕ) (k : Cell) (rows : List Row) → list_all (λ row. p (cell_at row place)) rows ≡ true → has_key place k rows ≡ true → p k ≡ true
among p place k [] all any = absurd (cc)
among p place k (row ∷ rows) all any =
    go (cell_eq (cell_at row place) k) refl (among p place k rows (second_so (p (cell_at row place)) (list_all (λ row. p (cell_at row place)) rows) all))
  where
    go : (b : Bool) → cell_eq (cell_at row place) k ≡ b → (has_key place k rows ≡ true → p k ≡ true) → p k ≡ true
    go true e rest = subst (λ c. p c ≡ true) (cell_eq-sound (cell_at row place) k e) (first_so (p (cell_at row place)) (list_all (λ row. p (cell_at row place)) rows) all)
    go false e rest = rest (grind (arith, e, any))

-- a region with a row of a key is named under it
pub named-has : (index : Option Index) (n : ℕ) (g : Region) (t : ℕ) (k : Cell) → has_names order index n g ≡ true → holds_key t k g ≡ true → is_named order index k n ≡ true
named-has index n g t k names holds =
    among (λ c. is_named order index c n) (rank g.attrs g.key) k g.rows names (second_so (g.table == t) (has_key (rank g.attrs g.key) k g.rows) holds)

more-rows : (less more : Option Index) (n place : ℕ) (rows : List Row) → NamesMore order less more → list_all (λ row. is_named order less (cell_at row place) n) rows ≡ true
    → list_all (λ row. is_named order more (cell_at row place) n) rows ≡ true
more-rows less more n place [] names all = refl
more-rows less more n place (row ∷ rows) names all =
    let one = names (cell_at row place) n (first_so (is_named order less (cell_at row place) n) (list_all (λ row. is_named order less (cell_at row place) n) rows) all) in
    let rest = more-rows less more n place rows names (second_so (is_named order less (cell_at row place) n) (list_all (λ row. is_named order less (cell_at row place) n) rows) all) in
    grind (arith, one, rest)

pub more-names : (less more : Option Index) (n : ℕ) (g : Region) → NamesMore order less more → has_names order less n g ≡ true → has_names order more n g ≡ true
more-names less more n g names all = more-rows less more n (rank g.attrs g.key) g.rows names all

-- a region once it is told has names under its old keys and under the one that is told
pub told-names : (schema : List Table) (index : Option Index) (tell : Tell) (n : ℕ) (g : Region) → IsOfSchema schema g → IsTellOf schema tell → is_named order index tell.key n ≡ true
    → has_names order index n g ≡ true → has_names order index n (told_one tell g) ≡ true
told-names schema index tell n g region is key names = go (tell.table == g.table) refl
  where
    place : ℕ
    place = rank g.attrs g.key

    name : Row → Bool
    name row = is_named order index (cell_at row place) n

    left : list_all name (without_key place tell.key g.rows) ≡ true
    left = list_all-filter name (λ row. not (cell_eq (cell_at row place) tell.key)) g.rows names

    entered : (after : Option Row) → IsNew (table_at schema g.table) tell.key after → list_all name (with_new place g.attrs g.rects after (without_key place tell.key g.rows)) ≡ true
    entered None new = left
    entered (Some row) new = inside (in_any g.rects row)
      where
        its : cell_at (project g.attrs row) place ≡ tell.key
        its = stand g.attrs g.key row region.1.area.has_key ∙ ap (cell_at row) region.1.area.key ∙ new.1

        inside : (b : Bool) → list_all name (if b then with_row place (without_key place tell.key g.rows) (project g.attrs row) else without_key place tell.key g.rows) ≡ true
        inside false = left
        inside true = list_all-with_row name place (without_key place tell.key g.rows) (project g.attrs row) left (subst (λ c. is_named order index c n ≡ true) (sym its) key)

    go : (b : Bool) → (tell.table == g.table) ≡ b → has_names order index n (if b then applied tell.key tell.after g else g) ≡ true
    go false e = names
    go true e = entered tell.after (new-in schema tell g.table is e)

-- an index that names the region that is told agrees with the regions again
pub agrees-told : (schema : List Table) (less more : Option Index) (tell : Tell) (regions : List Region) (number : ℕ) (g : Region) → slice_get regions number ≡ Some g
    → IsOfSchema schema g → IsTellOf schema tell → NamesMore order less more → is_named order more tell.key number ≡ true → AgreesWith order less regions
    → AgreesWith order more (slice_set regions number (told_one tell g))
agrees-told schema less more tell regions number g there region is names key agrees n h at =
    ⊎_elim
    (λ same.
    let own = told-names schema more tell number g region is key (more-names less more number g names (agrees number g there)) in
    subst (λ m. has_names order more m h ≡ true) (sym same.0) (subst (λ x. has_names order more number x ≡ true) (sym same.1) own))
    (λ was. more-names less more n h names (agrees n h was)) (set-cases regions number (told_one tell g) n h at)

-- ---- an index of all rows

pub names-next : (less more : Index) (n place i : ℕ) (rows : List Row) (row : Row) → NamesMore order (Some less) (Some more) → i < length rows → row ≡ get_or rows i row
    → list_all (λ r. is_named order (Some less) (cell_at r place) n) (take i rows) ≡ true → is_named order (Some more) (cell_at row place) n ≡ true
    → list_all (λ r. is_named order (Some more) (cell_at r place) n) (take (i + 1) rows) ≡ true
names-next less more n place i rows row stays below is names named =
    let next : take (i + 1) rows ≡ take i rows ++ row ∷ [] = take_more rows i row below ∙ ap (λ r. take i rows ++ r ∷ []) (sym is) in
    subst (λ rs. list_all (λ r. is_named order (Some more) (cell_at r place) n) rs ≡ true) (sym next)
    (list_all-push (λ r. is_named order (Some more) (cell_at r place) n) (take i rows) row (more-rows (Some less) (Some more) n place (take i rows) stays names) named)

pub regions-next : (less more : Index) (regions : List Region) (number : ℕ) (region : Region) → region ≡ get_or regions number region → NamesMore order (Some less) (Some more)
    → ((n : ℕ) (g : Region) → n < number → slice_get regions n ≡ Some g → has_names order (Some less) n g ≡ true) → has_names order (Some more) number region ≡ true
    → (n : ℕ) (g : Region) → n < number + 1 → slice_get regions n ≡ Some g → has_names order (Some more) n g ≡ true
regions-next less more regions number region is stays names named n g below there = go (n == number) refl
  where
    go : (b : Bool) → (n == number) ≡ b → has_names order (Some more) n g ≡ true
    go true e =
        let same : n ≡ number = eqb-true n number e in
        let own : region ≡ g = read-same regions regions n region g refl (subst (λ m. region ≡ get_or regions m region) (sym same) is) there in
        subst (λ m. has_names order (Some more) m g ≡ true) (sym same) (subst (λ x. has_names order (Some more) number x ≡ true) own named)
    go false e = more-names (Some less) (Some more) n g stays (names n g (grind (arith, nat_tests, e, below)) there)

-- ---- counts

count-one : (tell : Tell) (regions : List Region) (i : ℕ) (g : Region) → slice_get regions i ≡ Some g
    → count_touched tell (take (suc i) regions) ≡ count_touched tell (take i regions) + (if is_touched tell g then 1 else 0)
count-one tell [] i g there = absurd (cc)
count-one tell (x ∷ regions) zero g there = let same : x ≡ g = cc in subst (λ y. count_touched tell (x ∷ []) ≡ 0 + (if is_touched tell y then 1 else 0)) same (go (is_touched tell x))
  where
    go : (b : Bool) → length (cond b (x ∷ []) []) ≡ 0 + (if b then 1 else 0)
    go true = refl
    go false = refl
count-one tell (x ∷ regions) (suc i) g there = go (is_touched tell x) (count-one tell regions i g there)
  where
    go : (b : Bool) → count_touched tell (take (suc i) regions) ≡ count_touched tell (take i regions) + (if is_touched tell g then 1 else 0)
        → length (cond b (x ∷ filter (is_touched tell) (take (suc i) regions)) (filter (is_touched tell) (take (suc i) regions)))
        ≡ length (cond b (x ∷ filter (is_touched tell) (take i regions)) (filter (is_touched tell) (take i regions))) + (if is_touched tell g then 1 else 0)
    go true ih = omega (arith, ih)
    go false ih = ih

pub count-more : (tell : Tell) (regions : List Region) (i : ℕ) (g : Region) → slice_get regions i ≡ Some g
    → count_touched tell (take (i + 1) regions) ≡ count_touched tell (take i regions) + (if is_touched tell g then 1 else 0)
count-more tell regions i g there = let next : i + 1 ≡ suc i = omega arith in rw next (count-one tell regions i g there)

-- a tell touches no more of the first regions than of all
pub count-part : (tell : Tell) (n : ℕ) (regions : List Region) → count_touched tell (take n regions) ≤ count_touched tell regions
count-part tell zero regions = omega arith
count-part tell (suc n) [] = omega arith
count-part tell (suc n) (x ∷ regions) = go (is_touched tell x) (count-part tell n regions)
  where
    go : (b : Bool) → count_touched tell (take n regions) ≤ count_touched tell regions
        → length (cond b (x ∷ filter (is_touched tell) (take n regions)) (filter (is_touched tell) (take n regions))) ≤ length (cond b (x ∷ filter (is_touched tell) regions) (filter (is_touched tell) regions))
    go true ih = omega (arith, ih)
    go false ih = ih
