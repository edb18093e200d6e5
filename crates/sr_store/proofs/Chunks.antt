-- Rows in rects of tables, of regions or of what arrives: such rows are those of some telling just where no key stands twice.
use Rattle.std.proofs.Common.{◌≡◌, ℕ, ◌+◌, ◌≤◌, Bool, true, false, cond, not, ◌&&◌, ◌||◌, List, [], ◌∷◌, refl, sym, ap, subst, ◌∙◌, arith}
use Rattle.std.specs.Prelude.{filter, nat_eq, if◌then◌else◌}
use Rattle.std.specs.List.{list_all, All}
use Rattle.std.proofs.lemmas.Bool.Decides.{nat_tests}
use Rattle.std.proofs.lemmas.List.Elements.{All-nil, All-cons, All-head, All-tail, All-weaker}
use Rattle.std.proofs.lemmas.Bool.{or_right}
use Rattle.sr_cell.specs.declared.cell.Cell.{Cell}
use Rattle.sr_cell.specs.declared.table.Table.{Table}
use Rattle.sr_cell.specs.Attrs.{has_column, project}
use Rattle.sr_cell.specs.Cells.{Row, cell_at, cell_eq}
use Rattle.sr_cell.specs.Columns.{table_at, is_point}
use Rattle.sr_cell.proofs.Order.{cell_eq-sound, cell_eq-refl}
use Rattle.sr_model.specs.SortedRows.{ascend, has_key, with_row, with_rows}
use Rattle.sr_box.specs.Points.{in_any, times, rect_fits, constrains_only}
use Rattle.sr_rows.specs.Places.{is_apart}
use Rattle.sr_rows.proofs.Order.{ascend-tail, ascend-first}
use Rattle.sr_rows.proofs.Places.{with_row-ascend, first-lacks, without-none}
use Rattle.sr_rows.proofs.Parts.{ascend-filter, first-filter, with_rows-none}
use Rattle.sr_union.proofs.Times.{in_any-times}
use Rattle.sr_rows.proofs.Elements.{list_any-with_rows, apart-next}
use Rattle.sr_region.specs.declared.region.Region.{Region}
use Rattle.sr_region.specs.Regions.{rank, is_in, IsPart, IsRowIn}
use Rattle.sr_region.proofs.Ranks.{stand}
use Rattle.sr_region.proofs.Ordered.{All-with_rows, with_rows-ascend}
use Rattle.sr_region.proofs.Applied.{rows-apart}
use Rattle.sr_store.specs.Classes.{is_of, occurs, key_occurs}
use Rattle.sr_store.specs.Told.{Told, IsTold, IsTrueOf, AreTrueOf}
use Rattle.sr_store.specs.Stores.{IsOfSchema}
use Rattle.sr_store.proofs.Truths.{in-part}
use Rattle.sr_store.proofs.Telling.{filter-with_row}

-- rows in rects of a table of the schema, by key
pub record IsChunk (schema : List Table) (g : Region) : Type 0 where
  pub key : g.key ≡ (table_at schema g.table).key
  pub has_key : has_column g.attrs g.key ≡ true
  pub fit : list_all (rect_fits (table_at schema g.table).columns) g.rects ≡ true
  pub only : list_all (constrains_only g.attrs 0) g.rects ≡ true
  pub rows : All (IsRowIn (table_at schema g.table).columns g.attrs g.rects) g.rows
  pub ascending : ascend (rank g.attrs g.key) g.rows ≡ true

pub region-chunk : (schema : List Table) (g : Region) → IsOfSchema schema g → IsChunk schema g
region-chunk schema g h = record { key = h.1.area.key; has_key = h.1.area.has_key; fit = h.1.area.fit; only = h.1.area.only; rows = h.1.rows; ascending = h.1.ascending }

-- in how many of a table with exactly these columns the point lies
abbrev pub lies : List Region → ℕ → ℕ → Row → ℕ
lies [] t a p = 0
lies (g ∷ gs) t a p = (if is_of g t a && in_any g.rects p then 1 else 0) + lies gs t a p

pub lies-occurs : (gs : List Region) (t a : ℕ) (p : Row) → lies gs t a p ≤ occurs gs t a p
lies-occurs [] t a p = omega arith
lies-occurs (g ∷ gs) t a p = go (is_of g t a) (in_any g.rects p) (in_any-times g.rects p) (lies-occurs gs t a p)
  where
    go : (b c : Bool) → c ≡ not (nat_eq (times g.rects p) 0) → lies gs t a p ≤ occurs gs t a p
        → (if b && c then 1 else 0) + lies gs t a p ≤ (if b then times g.rects p else 0) + occurs gs t a p
    go true true e ih = let one : 1 ≤ times g.rects p = grind (arith, nat_tests, e) in omega (arith, one, ih)
    go true false e ih = omega (arith, ih)
    go false c e ih = omega (arith, ih)

-- no key stands twice
abbrev pub HaveOwnKeys : List Region → Type 0
HaveOwnKeys gs = (t a : ℕ) (k : Cell) → key_occurs gs t a k ≤ 1

-- no point lies in two
abbrev pub HaveOwnPoints : List Table → List Region → Type 0
HaveOwnPoints schema gs = (t a : ℕ) (p : Row) → is_point (table_at schema t).columns p ≡ true → lies gs t a p ≤ 1

pub of-parts : (g : Region) (t a : ℕ) → is_of g t a ≡ true → (g.table ≡ t) × (g.attrs ≡ a)
of-parts g t a e = (grind (arith, nat_tests), grind (arith, nat_tests))

pub of-self : (g : Region) → is_of g g.table g.attrs ≡ true
of-self g = grind (arith, nat_tests)

-- ---- rows put together

pub filter-with_rows : (key : ℕ) (f : Row → Bool) (rows more : List Row) → ascend key rows ≡ true → ascend key more ≡ true → list_all (is_apart key rows) more ≡ true
    → filter f (with_rows key rows more) ≡ with_rows key (filter f rows) (filter f more)
filter-with_rows key f rows [] h k apart = refl
filter-with_rows key f rows (m ∷ more) h k apart =
    filter-with_rows key f (with_row key rows m) more (with_row-ascend key rows m h (grind arith)) (ascend-tail key m more k) (apart-next key rows more m (ascend-first key m more k) (grind arith))
    ∙ ap (λ xs. with_rows key xs (filter f more)) (filter-with_row key f rows m h) ∙ go (f m)
  where
    go : (b : Bool) → with_rows key (if b then with_row key (filter f rows) m else filter f rows) (filter f more) ≡ with_rows key (filter f rows) (cond b (m ∷ filter f more) (filter f more))
    go true = refl
    go false = refl

pub none-pass : (P : Row → Type 0) (f : Row → Bool) → ((row : Row) → P row → f row ≡ false) → (rows : List Row) → All P rows → filter f rows ≡ []
none-pass P f fails [] all = refl
none-pass P f fails (r ∷ rows) all = rw (fails r (All-head P r rows all)) (none-pass P f fails rows (All-tail P r rows all))

pub all-pass : (P : Row → Type 0) (f : Row → Bool) → ((row : Row) → P row → f row ≡ true) → (rows : List Row) → All P rows → filter f rows ≡ rows
all-pass P f holds [] all = refl
all-pass P f holds (r ∷ rows) all = rw (holds r (All-head P r rows all)) (ap (λ xs. r ∷ xs) (all-pass P f holds rows (All-tail P r rows all)))

-- rows of a table that have no key in common stand apart
pub apart-lists : (t : Table) (a key : ℕ) → has_column a key ≡ true → (rows others : List Row) → All (IsPart t.columns a) rows → All (IsPart t.columns a) others
    → ((k : Cell) → has_key (rank a key) k others ≡ true → has_key (rank a key) k rows ≡ false) → list_all (is_apart (rank a key) rows) others ≡ true
apart-lists t a key has rows [] all each none = refl
apart-lists t a key has rows (m ∷ others) all each none =
    let ih = apart-lists t a key has rows others all (All-tail (IsPart t.columns a) m others each)
    (λ k holds. none k (or_right (cell_eq (cell_at m (rank a key)) k) (has_key (rank a key) k others) holds)) in
    let part = All-head (IsPart t.columns a) m others each in
    let v = cell_at part.0 key in
    let same : cell_at m (rank a key) ≡ v = ap (λ x. cell_at x (rank a key)) (sym part.2) ∙ stand a key part.0 has in
    let first : has_key (rank a key) v (m ∷ others) ≡ true = rw (same, cell_eq-refl v) refl in
    let one : is_apart (rank a key) rows m ≡ true =
    subst (λ x. is_apart (rank a key) rows x ≡ true) part.2
    (subst (λ xs. is_apart (rank a key) xs (project a part.0) ≡ true) (without-none (rank a key) v rows (none v first)) (rows-apart t a key has rows part.0 all part.1)) in
    grind (arith, ih, one)

-- ---- rows with a key, of which some are kept

pub lacks-filter : (key : ℕ) (k : Cell) (f : Row → Bool) (rows : List Row) → has_key key k rows ≡ false → has_key key k (filter f rows) ≡ false
lacks-filter key k f [] n = refl
lacks-filter key k f (r ∷ rows) n = go (f r) (lacks-filter key k f rows (grind arith))
  where
    go : (b : Bool) → has_key key k (filter f rows) ≡ false → has_key key k (cond b (r ∷ filter f rows) (filter f rows)) ≡ false
    go true ih = grind (arith, n, ih)
    go false ih = ih

-- the row with the key: each test passes it that keeps the key
abbrev IsHit : (Row → Type 0) → ℕ → Cell → List Row → Type 0
IsHit P key k rows = (r : Row) × P r × ((f : Row → Bool) → ascend key rows ≡ true → has_key key k (filter f rows) ≡ true → f r ≡ true)

hit : (P : Row → Type 0) (key : ℕ) (k : Cell) (rows : List Row) → All P rows → has_key key k rows ≡ true → IsHit P key k rows
hit P key k [] all holds = absurd (cc)
hit P key k (r ∷ rows) all holds = go (cell_eq (cell_at r key) k) refl (hit P key k rows (All-tail P r rows all)) holds
  where
    here : (f : Row → Bool) → ascend key (r ∷ rows) ≡ true → cell_at r key ≡ k → (b : Bool) → f r ≡ b → has_key key k (cond b (r ∷ filter f rows) (filter f rows)) ≡ true → f r ≡ true
    here f h e true d has = d
    here f h e false d has = let fails = first-lacks key k r (filter f rows) e (first-filter key r f rows (ascend-first key r rows h)) in absurd (grind (arith, fails, has))

    past : (f : Row → Bool) → cell_eq (cell_at r key) k ≡ false → (b : Bool) → has_key key k (cond b (r ∷ filter f rows) (filter f rows)) ≡ true → has_key key k (filter f rows) ≡ true
    past f e true has = subst (λ b. (b || has_key key k (filter f rows)) ≡ true) e has
    past f e false has = has

    go : (b : Bool) → cell_eq (cell_at r key) k ≡ b → (has_key key k rows ≡ true → IsHit P key k rows) → (b || has_key key k rows) ≡ true → IsHit P key k (r ∷ rows)
    go true e later y = (r, All-head P r rows all, λ f h has. here f h (cell_eq-sound (cell_at r key) k e) (f r) refl has)
    go false e later y = let ih = later y in (ih.0, ih.1, λ f h has. ih.2 f (ascend-tail key r rows h) (past f e (f r) has))

module _ (schema : List Table) where
  -- such rows of that table with exactly these columns
  pub record IsChunkAt (t a : ℕ) (g : Region) : Type 0 where
    pub place : rank g.attrs g.key ≡ rank a (table_at schema t).key
    pub has_key : has_column a (table_at schema t).key ≡ true
    pub fit : list_all (rect_fits (table_at schema t).columns) g.rects ≡ true
    pub only : list_all (constrains_only a 0) g.rects ≡ true
    pub rows : All (IsRowIn (table_at schema t).columns a g.rects) g.rows
    pub ascending : ascend (rank a (table_at schema t).key) g.rows ≡ true

  pub own-at : (g : Region) → IsChunk schema g → IsChunkAt g.table g.attrs g
  own-at g h = record {
    place = ap (rank g.attrs) h.key;
    has_key = subst (λ n. has_column g.attrs n ≡ true) h.key h.has_key;
    fit = h.fit;
    only = h.only;
    rows = h.rows;
    ascending = subst (λ n. ascend (rank g.attrs n) g.rows ≡ true) h.key h.ascending;
  }

  pub at-of : (t a : ℕ) (g : Region) → is_of g t a ≡ true → IsChunk schema g → IsChunkAt t a g
  at-of t a g e h = let s = of-parts g t a e in subst (λ n. IsChunkAt n a g) s.0 (subst (λ n. IsChunkAt g.table n g) s.1 (own-at g h))

  -- ---- a telling of which they are true

  -- all rows of a table with exactly these columns
  abbrev rows_of : List Region → Told
  rows_of [] t a = []
  rows_of (g ∷ gs) t a = if is_of g t a then with_rows (rank a (table_at schema t).key) g.rows (rows_of gs t a) else rows_of gs t a

  -- of a point with the row's cells, which lies in one
  abbrev IsLocated : List Region → ℕ → ℕ → Row → Type 0
  IsLocated gs t a row = (part : IsPart (table_at schema t).columns a row) × (1 ≤ lies gs t a part.0)

  counts : (x y : Bool) (n : ℕ) → x ≡ true → y ≡ true → 1 ≤ (if x && y then 1 else 0) + n
  counts true true n d e = omega arith
  counts true false n d e = absurd (cc)
  counts false y n d e = absurd (cc)

  over : (x y : Bool) (n : ℕ) → x ≡ true → y ≡ true → 1 ≤ n → (if x && y then 1 else 0) + n ≤ 1 → ⊥
  over true true n d e one le = omega (arith, one, le)
  over true false n d e one le = absurd (cc)
  over false y n d e one le = absurd (cc)

  inside : (t a : ℕ) (g : Region) → IsChunkAt t a g → (row : Row) → (is : IsRowIn (table_at schema t).columns a g.rects row) → in_any g.rects is.0.0 ≡ true
  inside t a g at row is = sym (in-part (table_at schema t).columns a g.rects row at.fit at.only is.0) ∙ is.1

  located : (gs : List Region) → All (IsChunk schema) gs → (t a : ℕ) → All (IsLocated gs t a) (rows_of gs t a)
  located [] each t a = All-nil (IsLocated [] t a)
  located (g ∷ gs) each t a = go (is_of g t a) refl (located gs (All-tail (IsChunk schema) g gs each) t a)
    where
      more : (row : Row) → IsLocated gs t a row → IsLocated (g ∷ gs) t a row
      more row is = (is.0, let le = is.1 in omega (arith, le))

      go : (b : Bool) → is_of g t a ≡ b → All (IsLocated gs t a) (rows_of gs t a) → All (IsLocated (g ∷ gs) t a) (if b then with_rows (rank a (table_at schema t).key) g.rows (rows_of gs t a) else rows_of gs t a)
      go true e ih =
          let at = at-of t a g e (All-head (IsChunk schema) g gs each) in
          All-with_rows (IsLocated (g ∷ gs) t a) (rank a (table_at schema t).key) g.rows (rows_of gs t a)
          (All-weaker (IsRowIn (table_at schema t).columns a g.rects) (IsLocated (g ∷ gs) t a)
          (λ row is. (is.0, counts (is_of g t a) (in_any g.rects is.0.0) (lies gs t a is.0.0) e (inside t a g at row is))) g.rows at.rows)
          (All-weaker (IsLocated gs t a) (IsLocated (g ∷ gs) t a) more (rows_of gs t a) ih)
      go false e ih = All-weaker (IsLocated gs t a) (IsLocated (g ∷ gs) t a) more (rows_of gs t a) ih

  -- a key of these rows stands in one
  keyed : (gs : List Region) → All (IsChunk schema) gs → (t a : ℕ) (k : Cell) → has_key (rank a (table_at schema t).key) k (rows_of gs t a) ≡ true → 1 ≤ key_occurs gs t a k
  keyed [] each t a k holds = absurd (cc)
  keyed (g ∷ gs) each t a k holds = go (is_of g t a) refl holds (keyed gs (All-tail (IsChunk schema) g gs each) t a k)
    where
      either : (x y : Bool) → (x || y) ≡ true → (x ≡ true → 1 ≤ (if is_of g t a && has_key (rank g.attrs g.key) k g.rows then 1 else 0) + key_occurs gs t a k) → (y ≡ true → 1 ≤ key_occurs gs t a k)
          → 1 ≤ (if is_of g t a && has_key (rank g.attrs g.key) k g.rows then 1 else 0) + key_occurs gs t a k
      either true y e one two = one refl
      either false y e one two = let le = two e in omega (arith, le)

      go : (b : Bool) → is_of g t a ≡ b → has_key (rank a (table_at schema t).key) k (if b then with_rows (rank a (table_at schema t).key) g.rows (rows_of gs t a) else rows_of gs t a) ≡ true
          → (has_key (rank a (table_at schema t).key) k (rows_of gs t a) ≡ true → 1 ≤ key_occurs gs t a k)
          → 1 ≤ (if is_of g t a && has_key (rank g.attrs g.key) k g.rows then 1 else 0) + key_occurs gs t a k
      go true e y ih =
          let at = at-of t a g e (All-head (IsChunk schema) g gs each) in
          either (has_key (rank a (table_at schema t).key) k g.rows) (has_key (rank a (table_at schema t).key) k (rows_of gs t a))
          (sym (list_any-with_rows (λ row. cell_eq (cell_at row (rank a (table_at schema t).key)) k) (rank a (table_at schema t).key) g.rows (rows_of gs t a)) ∙ y)
          (λ own. counts (is_of g t a) (has_key (rank g.attrs g.key) k g.rows) (key_occurs gs t a k) e (ap (λ n. has_key n k g.rows) at.place ∙ own)) ih
      go false e y ih = let le = ih y in omega (arith, le)

  keys-tail : (g : Region) (gs : List Region) → HaveOwnKeys (g ∷ gs) → HaveOwnKeys gs
  keys-tail g gs keys t a k = let le = keys t a k in omega (arith, le)

  points-tail : (g : Region) (gs : List Region) → HaveOwnPoints schema (g ∷ gs) → HaveOwnPoints schema gs
  points-tail g gs once t a p point = let le = once t a p point in omega (arith, le)

  parts-of : (gs : List Region) → All (IsChunk schema) gs → (t a : ℕ) → All (IsPart (table_at schema t).columns a) (rows_of gs t a)
  parts-of gs each t a = All-weaker (IsLocated gs t a) (IsPart (table_at schema t).columns a) (λ row is. is.0) (rows_of gs t a) (located gs each t a)

  chunk-parts : (t a : ℕ) (g : Region) → IsChunkAt t a g → All (IsPart (table_at schema t).columns a) g.rows
  chunk-parts t a g at = All-weaker (IsRowIn (table_at schema t).columns a g.rects) (IsPart (table_at schema t).columns a) (λ row is. is.0) g.rows at.rows

  -- the first one's rows stand apart from those of the others
  first-apart : (g : Region) (gs : List Region) → All (IsChunk schema) (g ∷ gs) → HaveOwnKeys (g ∷ gs) → (t a : ℕ) → is_of g t a ≡ true
      → list_all (is_apart (rank a (table_at schema t).key) g.rows) (rows_of gs t a) ≡ true
  first-apart g gs each keys t a e =
      apart-lists (table_at schema t) a (table_at schema t).key at.has_key g.rows (rows_of gs t a) (chunk-parts t a g at) (parts-of gs (All-tail (IsChunk schema) g gs each) t a)
      (λ k holds. lacks k holds (has_key (rank a (table_at schema t).key) k g.rows) refl)
    where
      at : IsChunkAt t a g
      at = at-of t a g e (All-head (IsChunk schema) g gs each)

      lacks : (k : Cell) → has_key (rank a (table_at schema t).key) k (rows_of gs t a) ≡ true → (b : Bool) → has_key (rank a (table_at schema t).key) k g.rows ≡ b → b ≡ false
      lacks k holds true own =
          absurd (over (is_of g t a) (has_key (rank g.attrs g.key) k g.rows) (key_occurs gs t a k) e (ap (λ n. has_key n k g.rows) at.place ∙ own)
          (keyed gs (All-tail (IsChunk schema) g gs each) t a k holds) (keys t a k))
      lacks k holds false own = refl

  rising : (gs : List Region) → All (IsChunk schema) gs → HaveOwnKeys gs → (t a : ℕ) → ascend (rank a (table_at schema t).key) (rows_of gs t a) ≡ true
  rising [] each keys t a = refl
  rising (g ∷ gs) each keys t a = go (is_of g t a) refl (rising gs (All-tail (IsChunk schema) g gs each) (keys-tail g gs keys) t a)
    where
      go : (b : Bool) → is_of g t a ≡ b → ascend (rank a (table_at schema t).key) (rows_of gs t a) ≡ true
          → ascend (rank a (table_at schema t).key) (if b then with_rows (rank a (table_at schema t).key) g.rows (rows_of gs t a) else rows_of gs t a) ≡ true
      go true e ih =
          let at = at-of t a g e (All-head (IsChunk schema) g gs each) in
          with_rows-ascend (rank a (table_at schema t).key) g.rows (rows_of gs t a) at.ascending ih (first-apart g gs each keys t a e)
      go false e ih = ih

  -- the points of each lie in it
  own-lies : (gs : List Region) → All (λ h. (p : Row) → in_any h.rects p ≡ true → 1 ≤ lies gs h.table h.attrs p) gs
  own-lies [] = All-nil (λ h. (p : Row) → in_any h.rects p ≡ true → 1 ≤ lies [] h.table h.attrs p)
  own-lies (g ∷ gs) =
      All-cons (λ h. (p : Row) → in_any h.rects p ≡ true → 1 ≤ lies (g ∷ gs) h.table h.attrs p) g gs
      (λ p holds. counts (is_of g g.table g.attrs) (in_any g.rects p) (lies gs g.table g.attrs p) (of-self g) holds)
      (All-weaker (λ h. (p : Row) → in_any h.rects p ≡ true → 1 ≤ lies gs h.table h.attrs p) (λ h. (p : Row) → in_any h.rects p ≡ true → 1 ≤ lies (g ∷ gs) h.table h.attrs p)
      (λ h is p holds. let le = is p holds in omega (arith, le)) gs (own-lies gs))

  -- the first one has the rows in its rects
  first-fits : (g : Region) (gs : List Region) → All (IsChunk schema) (g ∷ gs) → HaveOwnPoints schema (g ∷ gs) → HaveOwnKeys (g ∷ gs) → IsTrueOf (rows_of (g ∷ gs)) g
  first-fits g gs each once keys =
      sym (ap (λ b. filter (is_in g.attrs g.rects) (if b then with_rows place g.rows rest else rest)) (of-self g)
      ∙ filter-with_rows place (is_in g.attrs g.rects) g.rows rest at.ascending (rising gs others (keys-tail g gs keys) g.table g.attrs) (first-apart g gs each keys g.table g.attrs (of-self g))
      ∙ ap (λ xs. with_rows place (filter (is_in g.attrs g.rects) g.rows) xs) (none-pass (IsLocated gs g.table g.attrs) (is_in g.attrs g.rects) outside rest (located gs others g.table g.attrs))
      ∙ all-pass (IsRowIn (table_at schema g.table).columns g.attrs g.rects) (is_in g.attrs g.rects) (λ row is. is.1) g.rows at.rows)
    where
      others : All (IsChunk schema) gs
      others = All-tail (IsChunk schema) g gs each

      at : IsChunkAt g.table g.attrs g
      at = own-at g (All-head (IsChunk schema) g gs each)

      place : ℕ
      place = rank g.attrs (table_at schema g.table).key

      rest : List Row
      rest = rows_of gs g.table g.attrs

      outside : (row : Row) → IsLocated gs g.table g.attrs row → is_in g.attrs g.rects row ≡ false
      outside row is = in-part (table_at schema g.table).columns g.attrs g.rects row at.fit at.only is.0 ∙ go (in_any g.rects is.0.0) refl
        where
          go : (b : Bool) → in_any g.rects is.0.0 ≡ b → b ≡ false
          go true e = absurd (over (is_of g g.table g.attrs) (in_any g.rects is.0.0) (lies gs g.table g.attrs is.0.0) (of-self g) e is.1 (once g.table g.attrs is.0.0 is.0.1))
          go false e = refl

  -- another one has them still when the first one's rows are put to the others
  other-fits : (g : Region) (gs : List Region) → All (IsChunk schema) (g ∷ gs) → HaveOwnPoints schema (g ∷ gs) → HaveOwnKeys (g ∷ gs)
      → (h : Region) → IsChunk schema h → ((p : Row) → in_any h.rects p ≡ true → 1 ≤ lies gs h.table h.attrs p) → IsTrueOf (rows_of gs) h → IsTrueOf (rows_of (g ∷ gs)) h
  other-fits g gs each once keys h is lie own = go (is_of g h.table h.attrs) refl
    where
      others : All (IsChunk schema) gs
      others = All-tail (IsChunk schema) g gs each

      own_at : IsChunkAt h.table h.attrs h
      own_at = own-at h is

      place : ℕ
      place = rank h.attrs (table_at schema h.table).key

      rest : List Row
      rest = rows_of gs h.table h.attrs

      rises : ascend place rest ≡ true
      rises = rising gs others (keys-tail g gs keys) h.table h.attrs

      outside : is_of g h.table h.attrs ≡ true → (row : Row) → IsRowIn (table_at schema h.table).columns h.attrs g.rects row → is_in h.attrs h.rects row ≡ false
      outside e row k = in-part (table_at schema h.table).columns h.attrs h.rects row own_at.fit own_at.only k.0 ∙ fails (in_any h.rects k.0.0) refl
        where
          fails : (b : Bool) → in_any h.rects k.0.0 ≡ b → b ≡ false
          fails true d =
              absurd (over (is_of g h.table h.attrs) (in_any g.rects k.0.0) (lies gs h.table h.attrs k.0.0) e
              (inside h.table h.attrs g (at-of h.table h.attrs g e (All-head (IsChunk schema) g gs each)) row k) (lie k.0.0 d) (once h.table h.attrs k.0.0 k.0.1))
          fails false d = refl

      go : (b : Bool) → is_of g h.table h.attrs ≡ b → IsTrueOf (rows_of (g ∷ gs)) h
      go true e =
          let at = at-of h.table h.attrs g e (All-head (IsChunk schema) g gs each) in
          own ∙ sym (ap (λ b. filter (is_in h.attrs h.rects) (if b then with_rows place g.rows rest else rest)) e
          ∙ filter-with_rows place (is_in h.attrs h.rects) g.rows rest at.ascending rises (first-apart g gs each keys h.table h.attrs e)
          ∙ ap (λ xs. with_rows place xs (filter (is_in h.attrs h.rects) rest))
          (none-pass (IsRowIn (table_at schema h.table).columns h.attrs g.rects) (is_in h.attrs h.rects) (outside e) g.rows at.rows)
          ∙ with_rows-none place (filter (is_in h.attrs h.rects) rest) (ascend-filter place (is_in h.attrs h.rects) rest rises))
      go false e = own ∙ sym (ap (λ b. filter (is_in h.attrs h.rects) (if b then with_rows place g.rows rest else rest)) e)

  all-fit : (gs : List Region) → All (IsChunk schema) gs → HaveOwnPoints schema gs → HaveOwnKeys gs → AreTrueOf (rows_of gs) gs
  all-fit [] each once keys = All-nil (IsTrueOf (rows_of []))
  all-fit (g ∷ gs) each once keys =
      let others = All-tail (IsChunk schema) g gs each in
      let ih = all-fit gs others (points-tail g gs once) (keys-tail g gs keys) in
      let lie = own-lies gs in
      All-cons (IsTrueOf (rows_of (g ∷ gs))) g gs (first-fits g gs each once keys)
      (λ n d lt. other-fits g gs each once keys _ (others n d lt) (lie n d lt) (ih n d lt))

  -- where no key stands twice, there is a telling
  pub some-telling : (gs : List Region) → All (IsChunk schema) gs → HaveOwnPoints schema gs → HaveOwnKeys gs → (told : Told) × IsTold schema told × AreTrueOf told gs
  some-telling gs each once keys = (rows_of gs, record { rows = parts-of gs each; ascending = λ t a has. rising gs each keys t a }, all-fit gs each once keys)

  -- ---- of one telling, no key stands twice

  true-at : (told : Told) (t a : ℕ) (g : Region) → is_of g t a ≡ true → IsTrueOf told g → g.rows ≡ filter (is_in a g.rects) (told t a)
  true-at told t a g e is =
      let s = of-parts g t a e in
      subst (λ n. g.rows ≡ filter (is_in a g.rects) (told n a)) s.0 (subst (λ n. g.rows ≡ filter (is_in n g.rects) (told g.table n)) s.1 is)

  module _ (told : Told) (is_told : IsTold schema told) (t a : ℕ) (k : Cell) where
    -- a key of one is that of a row of the telling in its rects
    told-key : (g : Region) → is_of g t a ≡ true → IsChunk schema g → IsTrueOf told g → has_key (rank g.attrs g.key) k g.rows ≡ true
        → has_key (rank a (table_at schema t).key) k (filter (is_in a g.rects) (told t a)) ≡ true
    told-key g e h is holds =
        let at = at-of t a g e h in
        sym (ap (has_key (rank a (table_at schema t).key) k) (true-at told t a g e is)) ∙ ap (λ n. has_key n k g.rows) (sym at.place) ∙ holds

    keys-none : has_key (rank a (table_at schema t).key) k (told t a) ≡ false → (gs : List Region) → All (IsChunk schema) gs → AreTrueOf told gs → key_occurs gs t a k ≤ 1
    keys-none fails gs each are = let e = zero gs each are in omega (arith, e)
      where
        zero : (gs : List Region) → All (IsChunk schema) gs → AreTrueOf told gs → key_occurs gs t a k ≡ 0
        zero [] each are = refl
        zero (g ∷ gs) each are =
            go (is_of g t a) refl (has_key (rank g.attrs g.key) k g.rows) refl (zero gs (All-tail (IsChunk schema) g gs each) (All-tail (IsTrueOf told) g gs are))
          where
            go : (b : Bool) → is_of g t a ≡ b → (c : Bool) → has_key (rank g.attrs g.key) k g.rows ≡ c → key_occurs gs t a k ≡ 0 → (if b && c then 1 else 0) + key_occurs gs t a k ≡ 0
            go true e true d ih =
                let holds = told-key g e (All-head (IsChunk schema) g gs each) (All-head (IsTrueOf told) g gs are) d in
                let none = lacks-filter (rank a (table_at schema t).key) k (is_in a g.rects) (told t a) fails in
                absurd (grind (arith, holds, none))
            go true e false d ih = omega (arith, ih)
            go false e c d ih = omega (arith, ih)

    keys-lie : (at : IsHit (IsPart (table_at schema t).columns a) (rank a (table_at schema t).key) k (told t a)) → (gs : List Region) → All (IsChunk schema) gs → AreTrueOf told gs
        → key_occurs gs t a k ≤ lies gs t a at.1.0
    keys-lie at [] each are = omega arith
    keys-lie at (g ∷ gs) each are =
        go (is_of g t a) refl (has_key (rank g.attrs g.key) k g.rows) refl (in_any g.rects at.1.0) refl (keys-lie at gs (All-tail (IsChunk schema) g gs each) (All-tail (IsTrueOf told) g gs are))
      where
        there : is_of g t a ≡ true → has_key (rank g.attrs g.key) k g.rows ≡ true → in_any g.rects at.1.0 ≡ true
        there e d =
            let own = at-of t a g e (All-head (IsChunk schema) g gs each) in
            sym (in-part (table_at schema t).columns a g.rects at.0 own.fit own.only at.1)
            ∙ at.2 (is_in a g.rects) (is_told.ascending t a own.has_key) (told-key g e (All-head (IsChunk schema) g gs each) (All-head (IsTrueOf told) g gs are) d)

        go : (b : Bool) → is_of g t a ≡ b → (c : Bool) → has_key (rank g.attrs g.key) k g.rows ≡ c → (d : Bool) → in_any g.rects at.1.0 ≡ d → key_occurs gs t a k ≤ lies gs t a at.1.0
            → (if b && c then 1 else 0) + key_occurs gs t a k ≤ (if b && d then 1 else 0) + lies gs t a at.1.0
        go true e true f true i ih = omega (arith, ih)
        go true e true f false i ih = absurd (let x = there e f in grind (arith, x, i))
        go true e false f d i ih = omega (arith, ih)
        go false e c f d i ih = omega (arith, ih)

  pub keys-once : (told : Told) → IsTold schema told → (gs : List Region) → All (IsChunk schema) gs → AreTrueOf told gs → HaveOwnPoints schema gs → HaveOwnKeys gs
  keys-once told is_told gs each are once t a k = go (has_key (rank a (table_at schema t).key) k (told t a)) refl
    where
      go : (b : Bool) → has_key (rank a (table_at schema t).key) k (told t a) ≡ b → key_occurs gs t a k ≤ 1
      go true e =
          let at = hit (IsPart (table_at schema t).columns a) (rank a (table_at schema t).key) k (told t a) (is_told.rows t a) e in
          let le = keys-lie told is_told t a k at gs each are in
          let one = once t a at.1.0 at.1.1 in
          omega (arith, le, one)
      go false e = keys-none told is_told t a k e gs each are

  -- regions of which one telling is true
  pub regions-keys : (told : Told) → IsTold schema told → (gs : List Region) → All (IsOfSchema schema) gs → AreTrueOf told gs
      → ((t a : ℕ) (p : Row) → is_point (table_at schema t).columns p ≡ true → occurs gs t a p ≤ 1) → HaveOwnKeys gs
  regions-keys told is_told gs each are once =
      keys-once told is_told gs (All-weaker (IsOfSchema schema) (IsChunk schema) (region-chunk schema) gs each) are
      (λ t a p point. let x = lies-occurs gs t a p in let y = once t a p point in omega (arith, x, y))
