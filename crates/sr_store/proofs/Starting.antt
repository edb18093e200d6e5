-- The regions of a start, and what its marks hold.
use Rattle.std.proofs.Common.{◌≡◌, ℕ, ◌+◌, ◌≤◌, Bool, true, false, List, [], ◌∷◌, ◌++◌, length, map, refl, sym, ap, subst, ◌∙◌, arith}
use Rattle.std.specs.Prelude.{not, ◌&&◌, ◌||◌, ◌==◌, nat_lt, nat_eq, filter, if◌then◌else◌}
use Rattle.std.specs.List.{list_all, All}
use Rattle.std.proofs.lemmas.Bool.Decides.{nat_tests}
use Rattle.std.proofs.lemmas.List.Elements.{All-nil, All-cons, All-head, All-tail, All-weaker, All-map}
use Rattle.sr_cell.specs.declared.cause.Cause.{Cause}
use Rattle.sr_cell.specs.declared.cause.Cause.TheVariants.{Rows, Regions}
use Rattle.sr_cell.specs.declared.cell.Cell.{Cell}
use Rattle.sr_cell.specs.declared.table.Table.{Table}
use Rattle.sr_cell.specs.Attrs.{has_column}
use Rattle.sr_cell.specs.Cells.{Row}
use Rattle.sr_cell.specs.Columns.{table_at, is_point}
use Rattle.sr_model.specs.SortedRows.{ascend, has_key}
use Rattle.sr_box.specs.Points.{in_any, times}
use Rattle.sr_union.proofs.Times.{in_any-times}
use Rattle.sr_policy.specs.declared.policy.Limits.{Limits}
use Rattle.sr_policy.specs.declared.policy.Last.{Last}
use Rattle.sr_policy.specs.declared.policy.Policy.{Policy}
use Rattle.sr_history.specs.declared.mark.Mark.{Mark}
use Rattle.sr_history.specs.Marks.{is_held, with_marks}
use Rattle.sr_history.specs.Classes.{stamp}
use Rattle.sr_history.proofs.Marking.{with_marks-append}
use Rattle.sr_region.specs.declared.region.Region.{Region}
use Rattle.sr_region.specs.Regions.{rank, is_in, IsPart, IsRowIn}
use Rattle.sr_store.specs.declared.start.Kept.{Kept}
use Rattle.sr_store.specs.declared.start.StoreStart.{StoreStart}
use Rattle.sr_store.specs.Classes.{Stamps, is_of, occurs, key_occurs, IsStamped, is_before, ascends, Keeps}
use Rattle.sr_store.specs.Told.{Told, IsTold, IsTrueOf, AreTrueOf}
use Rattle.sr_store.specs.Stores.{IsOfSchema, IsStore, drop_of}
use Rattle.sr_store.specs.Brought.{IsToldOf}
use Rattle.sr_store.specs.Fitted.{count_rows, without, DropsWhile, IsFitted}
use Rattle.sr_store.specs.Starting.{region_of, regions_of, mark_of, stands_before, ascending, AreLawful, IsStart, StartsAreClasses, AreTrueParts, StartsAreTrue, kept_rows, PartsTell}
use Rattle.sr_store.proofs.Chunks.{all-pass}
use Rattle.sr_store.proofs.Dropping.{ascends_all, before_all, evicted_all}
use Rattle.sr_store.proofs.Fewer.{fitted_keeps}
use Rattle.sr_store.proofs.Stepping.{evicted_marks}

-- ---- the order of parts is that of their regions

before-nums : (t u a b : ℕ) → (nat_lt t u || (t == u && (nat_lt a b || (a == b && nat_lt 0 0)))) ≡ (nat_lt t u || (t == u && nat_lt a b))
before-nums t u a b = go (nat_lt t u) (t == u) (nat_lt a b) (a == b)
  where
    go : (w x y z : Bool) → (w || (x && (y || (z && nat_lt 0 0)))) ≡ (w || (x && y))
    go true x y z = refl
    go false false y z = refl
    go false true true z = refl
    go false true false true = refl
    go false true false false = refl

differ-nums : (t u a b : ℕ) → (nat_lt t u || (t == u && (nat_lt a b || (a == b && nat_lt 0 0)))) ≡ true → (u == t && b == a) ≡ false
differ-nums t u a b is = let e = sym (before-nums t u a b) ∙ is in grind (arith, nat_tests, e)

module _ (schema : List Table) where
  pub ascends-is : (kept : List Kept) → ascends (regions_of schema kept) ≡ ascending kept
  ascends-is [] = refl
  ascends-is (k ∷ []) = refl
  ascends-is (k ∷ h ∷ kept) =
      let first = before-nums k.table h.table k.attrs h.attrs in
      let rest = ascends-is (h ∷ kept) in
      ap (λ b. b && ascends (regions_of schema (h ∷ kept))) first ∙ ap (λ b. stands_before k h && b) rest

  -- ---- no two are of one table with the same columns

  abbrev has_none : List Kept → ℕ → ℕ → Bool
  has_none kept t a = list_all (λ h. not (h.table == t && h.attrs == a)) kept

  none-later : (k : Kept) (kept : List Kept) → before_all (region_of schema k) (regions_of schema kept) ≡ true → has_none kept k.table k.attrs ≡ true
  none-later k [] before = refl
  none-later k (h ∷ kept) before =
      let both : (is_before (region_of schema k) (region_of schema h) ≡ true) × (before_all (region_of schema k) (regions_of schema kept) ≡ true) = split (is_before (region_of schema k) (region_of schema h)) before in
      let one = differ-nums k.table h.table k.attrs h.attrs both.0 in
      let ih = none-later k kept both.1 in
      rw (one, ih) refl
    where
      split : (b : Bool) {c : Bool} → (b && c) ≡ true → (b ≡ true) × (c ≡ true)
      split true h = (refl, h)
      split false h = absurd (cc)

  none-occur : (kept : List Kept) (t a : ℕ) (p : Row) → has_none kept t a ≡ true → occurs (regions_of schema kept) t a p ≡ 0
  none-occur [] t a p none = refl
  none-occur (k ∷ kept) t a p none = go (k.table == t && k.attrs == a) none (none-occur kept t a p)
    where
      go : (b : Bool) → (not b && has_none kept t a) ≡ true → (has_none kept t a ≡ true → occurs (regions_of schema kept) t a p ≡ 0)
          → (if b then times k.rects p else 0) + occurs (regions_of schema kept) t a p ≡ 0
      go true n later = absurd (cc)
      go false n later = let ih = later n in omega (arith, ih)

  none-keys : (kept : List Kept) (t a : ℕ) (v : Cell) → has_none kept t a ≡ true → key_occurs (regions_of schema kept) t a v ≡ 0
  none-keys [] t a v none = refl
  none-keys (k ∷ kept) t a v none = go (k.table == t && k.attrs == a) none (none-keys kept t a v)
    where
      go : (b : Bool) → (not b && has_none kept t a) ≡ true → (has_none kept t a ≡ true → key_occurs (regions_of schema kept) t a v ≡ 0)
          → (if b && has_key (rank k.attrs (table_at schema k.table).key) v k.rows then 1 else 0) + key_occurs (regions_of schema kept) t a v ≡ 0
      go true n later = absurd (cc)
      go false n later = let ih = later n in omega (arith, ih)

  same-nums : (t u a b : ℕ) → (t == u && a == b) ≡ true → (t ≡ u) × (a ≡ b)
  same-nums t u a b e = (grind (arith, nat_tests), grind (arith, nat_tests))

  once-each : (kept : List Kept) → All (λ k. IsOfSchema schema (region_of schema k)) kept → ascends (regions_of schema kept) ≡ true
      → (t a : ℕ) (p : Row) → is_point (table_at schema t).columns p ≡ true → occurs (regions_of schema kept) t a p ≤ 1
  once-each [] each order t a p point = omega arith
  once-each (k ∷ kept) each order t a p point = go (k.table == t && k.attrs == a) refl (once-each kept (All-tail (λ k. IsOfSchema schema (region_of schema k)) k kept each) two.1 t a p point)
    where
      two : (before_all (region_of schema k) (regions_of schema kept) ≡ true) × (ascends (regions_of schema kept) ≡ true)
      two = ascends_all (region_of schema k) (regions_of schema kept) order

      go : (b : Bool) → (k.table == t && k.attrs == a) ≡ b → occurs (regions_of schema kept) t a p ≤ 1
          → (if b then times k.rects p else 0) + occurs (regions_of schema kept) t a p ≤ 1
      go true e ih =
          let same = same-nums k.table t k.attrs a e in
          let none : occurs (regions_of schema kept) t a p ≡ 0 =
          none-occur kept t a p (subst (λ u. has_none kept u a ≡ true) same.0 (subst (λ b. has_none kept k.table b ≡ true) same.1 (none-later k kept two.0))) in
          let own = (All-head (λ k. IsOfSchema schema (region_of schema k)) k kept each).1.area.once p (subst (λ u. is_point (table_at schema u).columns p ≡ true) (sym same.0) point) in
          omega (arith, none, own)
      go false e ih = omega (arith, ih)

  keys-each : (kept : List Kept) → ascends (regions_of schema kept) ≡ true → (t a : ℕ) (v : Cell) → key_occurs (regions_of schema kept) t a v ≤ 1
  keys-each [] order t a v = omega arith
  keys-each (k ∷ kept) order t a v =
      go (k.table == t && k.attrs == a) refl (has_key (rank k.attrs (table_at schema k.table).key) v k.rows) (keys-each kept two.1 t a v)
    where
      two : (before_all (region_of schema k) (regions_of schema kept) ≡ true) × (ascends (regions_of schema kept) ≡ true)
      two = ascends_all (region_of schema k) (regions_of schema kept) order

      go : (b : Bool) → (k.table == t && k.attrs == a) ≡ b → (c : Bool) → key_occurs (regions_of schema kept) t a v ≤ 1
          → (if b && c then 1 else 0) + key_occurs (regions_of schema kept) t a v ≤ 1
      go true e c ih =
          let same = same-nums k.table t k.attrs a e in
          let none : key_occurs (regions_of schema kept) t a v ≡ 0 =
          none-keys kept t a v (subst (λ u. has_none kept u a ≡ true) same.0 (subst (λ b. has_none kept k.table b ≡ true) same.1 (none-later k kept two.0))) in
          at-most c none
        where
          at-most : (c : Bool) → key_occurs (regions_of schema kept) t a v ≡ 0 → (if true && c then 1 else 0) + key_occurs (regions_of schema kept) t a v ≤ 1
          at-most true none = omega (arith, none)
          at-most false none = omega (arith, none)
      go false e c ih = omega (arith, ih)

  -- the regions of lawful parts are a store
  pub regions-store : (kept : List Kept) → AreLawful schema kept → IsStore schema (regions_of schema kept)
  regions-store kept l =
      let order = ascends-is kept ∙ l.order in
      record {
        each = All-map (IsOfSchema schema) (region_of schema) kept l.each;
        order = order;
        once = once-each kept l.each order;
        keys = keys-each kept order;
        few = l.few;
      }

  -- ---- what the marks hold

  held-start : (marks : List Mark) (kept : List Kept) (t a : ℕ) (p : Row)
      → is_held (with_marks marks (map mark_of kept)) t a p ≡ (is_held marks t a p || not (occurs (regions_of schema kept) t a p == 0))
  held-start marks [] t a p = grind (arith, nat_tests)
  held-start marks (k ∷ kept) t a p =
      held-start (mark_of k ∷ marks) kept t a p ∙ go (k.table == t) (k.attrs == a) (in_any k.rects p) (times k.rects p) (is_held marks t a p) (in_any-times k.rects p)
    where
      go : (x y i : Bool) (n : ℕ) (h : Bool) → i ≡ not (nat_eq n 0)
          → ((if x && y && i then true else h) || not (occurs (regions_of schema kept) t a p == 0)) ≡ (h || not (((if x && y then n else 0) + occurs (regions_of schema kept) t a p) == 0))
      go true true true n h f = grind (arith, nat_tests, f)
      go true true false n h f = grind (arith, nat_tests, f)
      go true false i n h f = grind (arith, nat_tests)
      go false y i n h f = grind (arith, nat_tests)

  pub regions-keep : (kept : List Kept) → AreLawful schema kept → Keeps schema (is_held (with_marks [] (map mark_of kept))) (stamp []) (regions_of schema kept)
  regions-keep kept l = record {
    points = λ t a p point.
        let is = held-start [] kept t a p in
        let le = once-each kept l.each (ascends-is kept ∙ l.order) t a p point in
        count (occurs (regions_of schema kept) t a p) le ∙ ap (λ b. if b then 1 else 0) (sym is);
    stamped = All-map (IsStamped schema (stamp [])) (region_of schema) kept (λ i d l p point inside. refl);
  }
    where
      count : (n : ℕ) → n ≤ 1 → n ≡ (if false || not (n == 0) then 1 else 0)
      count n le = grind (arith, nat_tests)

  -- ---- drops

  drops-keep : (policy : Policy) (last : List Last) (cause : Cause) (size : List Region → ℕ) (limit : ℕ) (stamps : Stamps) (marks : List Mark) (old new : List Region) (drops : List Mark)
      → DropsWhile schema policy last cause size limit old new drops → Keeps schema (is_held marks) stamps old → Keeps schema (is_held (with_marks marks drops)) stamps new
  drops-keep policy last cause size limit stamps marks old new [] h k = subst (Keeps schema (is_held marks) stamps) (sym h.1) k
  drops-keep policy last cause size limit stamps marks old new (d ∷ drops) (more, n, g, f, is, h) k =
      drops-keep policy last cause size limit stamps (d ∷ marks) (without n old) new drops h
      (subst (λ m. Keeps schema (is_held (m ∷ marks)) stamps (without n old)) (sym is) (evicted_marks schema cause marks stamps n old g f.there k))

  pub fitted-keep : (limits : Limits) (last : List Last) (stamps : Stamps) (marks : List Mark) (old new : List Region) (drops : List Mark)
      → IsFitted schema limits last old new drops → Keeps schema (is_held marks) stamps old → Keeps schema (is_held (with_marks marks drops)) stamps new
  fitted-keep limits last stamps marks old new drops h k =
      let one = drops-keep limits.policy last Rows count_rows limits.rows stamps marks old h.mid h.rows h.for_rows k in
      let two = drops-keep limits.policy last Regions length limits.regions stamps (with_marks marks h.rows) h.mid new h.regions h.for_regions one in
      subst (λ ms. Keeps schema (is_held ms) stamps new) (sym (with_marks-append marks h.rows h.regions) ∙ ap (with_marks marks) (sym h.all)) two

pub starts_are_classes : StartsAreClasses
starts_are_classes schema limits kept start tables l s =
    let k = fitted-keep schema limits [] (stamp []) (with_marks [] (map mark_of kept)) (regions_of schema kept) start.store.regions s.drops s.fitted (regions-keep schema kept l) in
    subst (λ ms. Keeps schema (is_held ms) (stamp []) start.store.regions) (sym (with_marks-append [] (map mark_of kept) s.drops) ∙ ap (with_marks []) (sym s.marks)) k

-- ---- rows

regions-true : (schema : List Table) (told : Told) (kept : List Kept) → AreTrueParts told kept → AreTrueOf told (regions_of schema kept)
regions-true schema told kept are = All-map (IsTrueOf told) (region_of schema) kept are

pub starts_are_true : StartsAreTrue
starts_are_true schema limits kept start told s are =
    fitted_keeps schema limits [] (regions_of schema kept) start.store.regions s.drops (AreTrueOf told) (λ n gs p. evicted_all (IsTrueOf told) n gs p) s.fitted (regions-true schema told kept are)

module _ (schema : List Table) where
  told-parts : (kept : List Kept) → All (λ k. IsOfSchema schema (region_of schema k)) kept → (t a : ℕ) → All (IsPart (table_at schema t).columns a) (kept_rows kept t a)
  told-parts [] each t a = All-nil (IsPart (table_at schema t).columns a)
  told-parts (k ∷ kept) each t a = go (k.table == t && k.attrs == a) refl (told-parts kept (All-tail (λ k. IsOfSchema schema (region_of schema k)) k kept each) t a)
    where
      own : All (IsPart (table_at schema k.table).columns k.attrs) k.rows
      own = All-weaker (IsRowIn (table_at schema k.table).columns k.attrs k.rects) (IsPart (table_at schema k.table).columns k.attrs) (λ row is. is.0) k.rows
          (All-head (λ k. IsOfSchema schema (region_of schema k)) k kept each).1.rows

      go : (b : Bool) → (k.table == t && k.attrs == a) ≡ b → All (IsPart (table_at schema t).columns a) (kept_rows kept t a)
          → All (IsPart (table_at schema t).columns a) (if b then k.rows else kept_rows kept t a)
      go true e ih =
          let same = same-nums schema k.table t k.attrs a e in
          subst (λ u. All (IsPart (table_at schema u).columns a) k.rows) same.0 (subst (λ b. All (IsPart (table_at schema k.table).columns b) k.rows) same.1 own)
      go false e ih = ih

  told-ascend : (kept : List Kept) → All (λ k. IsOfSchema schema (region_of schema k)) kept → (t a : ℕ) → ascend (rank a (table_at schema t).key) (kept_rows kept t a) ≡ true
  told-ascend [] each t a = refl
  told-ascend (k ∷ kept) each t a = go (k.table == t && k.attrs == a) refl (told-ascend kept (All-tail (λ k. IsOfSchema schema (region_of schema k)) k kept each) t a)
    where
      own : ascend (rank k.attrs (table_at schema k.table).key) k.rows ≡ true
      own = (All-head (λ k. IsOfSchema schema (region_of schema k)) k kept each).1.ascending

      go : (b : Bool) → (k.table == t && k.attrs == a) ≡ b → ascend (rank a (table_at schema t).key) (kept_rows kept t a) ≡ true
          → ascend (rank a (table_at schema t).key) (if b then k.rows else kept_rows kept t a) ≡ true
      go true e ih =
          let same = same-nums schema k.table t k.attrs a e in
          subst (λ u. ascend (rank a (table_at schema u).key) k.rows ≡ true) same.0 (subst (λ b. ascend (rank b (table_at schema k.table).key) k.rows ≡ true) same.1 own)
      go false e ih = ih

  -- ---- each part's own rows are told

  abbrev tells_own : List Kept → Kept → Type 0
  tells_own kept k = kept_rows kept k.table k.attrs ≡ k.rows

  own-later : (k : Kept) (kept rest : List Kept) → has_none schema rest k.table k.attrs ≡ true → All (tells_own kept) rest → All (tells_own (k ∷ kept)) rest
  own-later k kept [] none all = All-nil (tells_own (k ∷ kept))
  own-later k kept (h ∷ rest) none all =
      All-cons (tells_own (k ∷ kept)) h rest (other (k.table == h.table && k.attrs == h.attrs) refl)
      (own-later k kept rest (grind (arith, none)) (All-tail (tells_own kept) h rest all))
    where
      swap : (t u a b : ℕ) → (t == u && a == b) ≡ true → (u == t && b == a) ≡ true
      swap t u a b e = grind (arith, nat_tests, e)

      other : (b : Bool) → (k.table == h.table && k.attrs == h.attrs) ≡ b → (if b then k.rows else kept_rows kept h.table h.attrs) ≡ h.rows
      other true e = absurd (let s = swap k.table h.table k.attrs h.attrs e in grind (arith, none, s))
      other false e = All-head (tells_own kept) h rest all

  own-rows : (kept : List Kept) → ascends (regions_of schema kept) ≡ true → All (tells_own kept) kept
  own-rows [] order = All-nil (tells_own [])
  own-rows (k ∷ kept) order =
      let two = ascends_all (region_of schema k) (regions_of schema kept) order in
      All-cons (tells_own (k ∷ kept)) k kept (first k.table k.attrs) (own-later k kept kept (none-later schema k kept two.0) (own-rows kept two.1))
    where
      first : (t a : ℕ) → (if t == t && a == a then k.rows else kept_rows kept t a) ≡ k.rows
      first t a = let e : (t == t && a == a) ≡ true = grind (arith, nat_tests) in rw e refl

  both-rows : (all kept : List Kept) → All (λ k. IsOfSchema schema (region_of schema k)) kept → All (tells_own all) kept → AreTrueParts (kept_rows all) kept
  both-rows all [] each own = All-nil (λ (k : Kept). k.rows ≡ filter (is_in k.attrs k.rects) (kept_rows all k.table k.attrs))
  both-rows all (k ∷ kept) each own =
      All-cons (λ (k : Kept). k.rows ≡ filter (is_in k.attrs k.rects) (kept_rows all k.table k.attrs)) k kept
      (sym (ap (filter (is_in k.attrs k.rects)) (All-head (tells_own all) k kept own)
      ∙ all-pass (IsRowIn (table_at schema k.table).columns k.attrs k.rects) (is_in k.attrs k.rects) (λ row is. is.1) k.rows (All-head (λ k. IsOfSchema schema (region_of schema k)) k kept each).1.rows))
      (both-rows all kept (All-tail (λ k. IsOfSchema schema (region_of schema k)) k kept each) (All-tail (tells_own all) k kept own))

pub parts_tell : PartsTell
parts_tell schema kept tables l = (
  record { rows = told-parts schema kept l.each; ascending = λ t a has. told-ascend schema kept l.each t a },
  regions-true schema (kept_rows kept) kept (both-rows schema kept kept l.each (own-rows schema kept (ascends-is schema kept ∙ l.order))),
)
