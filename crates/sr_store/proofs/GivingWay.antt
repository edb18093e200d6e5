-- Rows that give way to those that arrive.
use Rattle.std.proofs.Common.{◌≡◌, ℕ, zero, suc, ◌+◌, ◌<◌, ◌≤◌, Bool, true, false, cond, not, ◌&&◌, ◌||◌, List, [], ◌∷◌, ◌++◌, map, inl, refl, sym, ap, subst, ◌∙◌, arith}
use Rattle.std.specs.Prelude.{◌==◌, filter, flat_map, nat_eq, if◌then◌else◌, Result, Ok, Err, IfOk, ◌⊎◌}
use Rattle.std.specs.List.{list_all, list_any, All}
use Rattle.std.proofs.lemmas.Bool.Decides.{nat_tests}
use Rattle.std.proofs.lemmas.List.Elements.{All-nil, All-cons, All-head, All-tail, All-weaker, All-append, All-filter, All-map}
use Rattle.sr_cell.specs.declared.cause.Cause.TheVariants.{Pieces}
use Rattle.sr_cell.specs.declared.cell.Cell.{Cell}
use Rattle.sr_cell.specs.declared.table.Table.{Table}
use Rattle.sr_cell.specs.Cells.{Row, cell_at, cell_eq}
use Rattle.sr_cell.specs.Columns.{table_at}
use Rattle.sr_model.specs.SortedRows.{ascend, has_key}
use Rattle.sr_box.specs.Points.{in_any, times}
use Rattle.sr_cell.proofs.Order.{cell_eq-sound, cell_eq-refl}
use Rattle.sr_rows.proofs.Parts.{ascend-filter}
use Rattle.sr_history.specs.declared.mark.Mark.{Mark}
use Rattle.sr_query.specs.declared.query.Part.{Part}
use Rattle.sr_policy.specs.declared.policy.Limits.{Limits}
use Rattle.sr_policy.specs.declared.policy.Last.{Last}
use Rattle.sr_region.specs.declared.region.Region.{Region}
use Rattle.sr_region.specs.Regions.{rank, is_in, IsRowIn}
use Rattle.sr_store.specs.declared.store.Arrival.{Arrival}
use Rattle.sr_store.specs.Classes.{Held, Stamps, is_of, occurs, key_occurs, IsStamped, is_before, ascends, Keeps}
use Rattle.sr_store.specs.Told.{Told, IsTold, IsTrueOf, AreTrueOf}
use Rattle.sr_store.specs.Stores.{IsOfSchema, IsStore, IsSettled, drop_of, IsAbsorbedIn}
use Rattle.sr_store.specs.Answered.{arrivals_at, keys_at, brings, gives_way, giving_way, IsArrival, AreApart, HaveArrived, rects_on, is_used, weight_from, IsRenewed, IsHeavy, IsGivenUp}
use Rattle.sr_store.specs.Fitted.{lasts_of, IsFitted, IsAnswered}
use Rattle.sr_store.specs.Renewing.{IsCutFrom}
use Rattle.sr_store.specs.Making.{LiesBy}
use Rattle.sr_store.specs.Laws.{SomeTellingFits, NothingGivesWay}
use Rattle.sr_store.proofs.Chunks.{IsChunk, region-chunk, lies, lies-occurs, HaveOwnPoints, lacks-filter, some-telling, keys-once, of-parts, of-self}
use Rattle.sr_store.proofs.Restamping.{All-left, All-right}
use Rattle.sr_store.proofs.Settled.{settled_less}

-- ---- what arrives, as a region

abbrev as_region : Arrival → Region
as_region r = record { table = r.table; key = r.key; attrs = r.attrs; stamp = 0; rects = r.rects; rows = r.rows }

arrival-chunk : (schema : List Table) (parts : List Part) (r : Arrival) → IsArrival schema parts r → IsChunk schema (as_region r)
arrival-chunk schema parts r h = record { key = h.key; has_key = h.has_key; fit = h.fit; only = h.only; rows = h.rows; ascending = h.ascending }

same-place : (schema : List Table) (g : Region) → IsChunk schema g → (r : Arrival) → (r.table == g.table && r.attrs == g.attrs) ≡ true → IsChunk schema (as_region r)
    → rank r.attrs r.key ≡ rank g.attrs g.key
same-place schema g h r e is =
    let s = of-parts (as_region r) g.table g.attrs e in
    ap (λ a. rank a r.key) s.1 ∙ ap (rank g.attrs) (is.key ∙ ap (λ t. (table_at schema t).key) s.0 ∙ sym h.key)

pub all-lie : (schema : List Table) (parts : List Part) (regions : List Region) (arrivals : List Arrival) → All (IsOfSchema schema) regions → All (IsArrival schema parts) arrivals
    → All (λ g. All (LiesBy g) arrivals) regions
all-lie schema parts regions arrivals each are =
    All-weaker (IsOfSchema schema) (λ g. All (LiesBy g) arrivals) (λ g h. All-weaker (IsArrival schema parts) (LiesBy g) (lies g h) arrivals are) regions each
  where
    lies : (g : Region) → IsOfSchema schema g → (r : Arrival) → IsArrival schema parts r → LiesBy g r
    lies g h r is e =
        ap (λ n. ascend n r.rows) (sym (same-place schema g (region-chunk schema g h) r e (arrival-chunk schema parts r is))) ∙ is.ascending

arrivals-lie : (rs : List Arrival) (t a : ℕ) (p : Row) → lies (map as_region rs) t a p ≡ arrivals_at rs t a p
arrivals-lie [] t a p = refl
arrivals-lie (r ∷ rs) t a p = ap (λ n. (if (r.table == t && r.attrs == a) && in_any r.rects p then 1 else 0) + n) (arrivals-lie rs t a p)

arrivals-keys : (rs : List Arrival) (t a : ℕ) (k : Cell) → key_occurs (map as_region rs) t a k ≡ keys_at rs t a k
arrivals-keys [] t a k = refl
arrivals-keys (r ∷ rs) t a k = ap (λ n. (if (r.table == t && r.attrs == a) && has_key (rank r.attrs r.key) k r.rows then 1 else 0) + n) (arrivals-keys rs t a k)

lies-append : (gs hs : List Region) (t a : ℕ) (p : Row) → lies (gs ++ hs) t a p ≡ lies gs t a p + lies hs t a p
lies-append [] hs t a p = omega arith
lies-append (g ∷ gs) hs t a p = let ih = lies-append gs hs t a p in omega (arith, ih)

keys-append : (gs hs : List Region) (t a : ℕ) (k : Cell) → key_occurs (gs ++ hs) t a k ≡ key_occurs gs t a k + key_occurs hs t a k
keys-append [] hs t a k = omega arith
keys-append (g ∷ gs) hs t a k = let ih = keys-append gs hs t a k in omega (arith, ih)

have-arrived : (told : Told) (rs : List Arrival) → AreTrueOf told (map as_region rs) → HaveArrived told rs
have-arrived told [] h = All-nil (λ (r : Arrival). r.rows ≡ filter (is_in r.attrs r.rects) (told r.table r.attrs))
have-arrived told (r ∷ rs) h =
    All-cons (λ (r : Arrival). r.rows ≡ filter (is_in r.attrs r.rects) (told r.table r.attrs)) r rs (All-head (IsTrueOf told) (as_region r) (map as_region rs) h)
    (have-arrived told rs (All-tail (IsTrueOf told) (as_region r) (map as_region rs) h))

-- ---- only rows change

module _ (arrivals : List Arrival) where
  pub way-occurs : (gs : List Region) (t a : ℕ) (p : Row) → occurs (giving_way arrivals gs) t a p ≡ occurs gs t a p
  way-occurs [] t a p = refl
  way-occurs (g ∷ gs) t a p = ap (λ n. (if is_of g t a then times g.rects p else 0) + n) (way-occurs gs t a p)

  pub way-order : (gs : List Region) → ascends (giving_way arrivals gs) ≡ ascends gs
  way-order [] = refl
  way-order (g ∷ []) = refl
  way-order (g ∷ h ∷ gs) = ap (λ b. is_before g h && b) (way-order (h ∷ gs))

  pub way-settled : (schema : List Table) (gs : List Region) → IsSettled schema gs → IsSettled schema (giving_way arrivals gs)
  way-settled schema gs all =
      All-map (λ g. IsAbsorbedIn schema (giving_way arrivals gs) g → ⊥) (gives_way arrivals) gs
      (settled_less schema (giving_way arrivals gs) gs gs (λ t a p point. let e = way-occurs gs t a p in omega (arith, e)) all)

  pub way-drops : (f : Region → Mark) → ((g : Region) → f (gives_way arrivals g) ≡ f g) → (gs : List Region) → map f (giving_way arrivals gs) ≡ map f gs
  way-drops f same [] = refl
  way-drops f same (g ∷ gs) = rw (same g, way-drops f same gs) refl

  way-on : (gs : List Region) (t : ℕ) → flat_map (λ g. g.rects) (filter (λ g. g.table == t) (giving_way arrivals gs)) ≡ flat_map (λ g. g.rects) (filter (λ g. g.table == t) gs)
  way-on [] t = refl
  way-on (g ∷ gs) t = go (g.table == t) (way-on gs t)
    where
      F : List Region
      F = filter (λ g. g.table == t) (giving_way arrivals gs)

      go : (b : Bool) → flat_map (λ g. g.rects) F ≡ flat_map (λ g. g.rects) (filter (λ g. g.table == t) gs)
          → flat_map (λ g. g.rects) (cond b (gives_way arrivals g ∷ F) F) ≡ flat_map (λ g. g.rects) (cond b (g ∷ filter (λ g. g.table == t) gs) (filter (λ g. g.table == t) gs))
      go true ih = ap (λ rs. g.rects ++ rs) ih
      go false ih = ih

  pub way-rects : (parts : List Part) (gs : List Region) (t : ℕ) → rects_on (giving_way arrivals gs) parts arrivals t ≡ rects_on gs parts arrivals t
  way-rects parts gs t =
      ap (λ rs. rs ++ (flat_map (λ part. part.rects) (filter (λ part. part.table == t) parts) ++ flat_map (λ r. r.rects) (filter (λ r. r.table == t) arrivals))) (way-on gs t)

  pub way-cuts : (schema : List Table) (parts : List Part) (old gs : List Region) → All (IsCutFrom schema (rects_on (giving_way arrivals old) parts arrivals)) gs
      → All (IsCutFrom schema (rects_on old parts arrivals)) gs
  way-cuts schema parts old gs h =
      All-weaker (IsCutFrom schema (rects_on (giving_way arrivals old) parts arrivals)) (IsCutFrom schema (rects_on old parts arrivals))
      (λ g is. subst (λ rs. IsCutFrom schema (λ t. rs) g) (way-rects parts old g.table) is) gs h

  way-any : (gs : List Region) (t a : ℕ) → list_any (λ g. g.table == t && g.attrs == a) (giving_way arrivals gs) ≡ list_any (λ g. g.table == t && g.attrs == a) gs
  way-any [] t a = refl
  way-any (g ∷ gs) t a = ap (λ b. (g.table == t && g.attrs == a) || b) (way-any gs t a)

  way-weight : (sets : ℕ → List ℕ) (parts : List Part) (gs : List Region) (t : ℕ) (schema : List Table)
      → weight_from sets (rects_on (giving_way arrivals gs) parts arrivals) t schema ≡ weight_from sets (rects_on gs parts arrivals) t schema
  way-weight sets parts gs t [] = refl
  way-weight sets parts gs t (table ∷ schema) = rw (way-rects parts gs t, way-weight sets parts gs (t + 1) schema) refl

  way-used : (gs : List Region) (t : ℕ) (sets : List ℕ) → list_all (is_used (giving_way arrivals gs) arrivals t) sets ≡ list_all (is_used gs arrivals t) sets
  way-used gs t [] = refl
  way-used gs t (a ∷ sets) = rw (way-any gs t a, way-used gs t sets) refl

  -- where it is heavy, so it was before
  pub way-heavy : (schema : List Table) (parts : List Part) (old : List Region) → IsHeavy schema (giving_way arrivals old) parts arrivals → IsHeavy schema old parts arrivals
  way-heavy schema parts old h = record {
    sets = h.sets;
    once = h.once;
    used = λ t. sym (way-used old t (h.sets t)) ∙ h.used t;
    heavy = subst (λ n. 16384 < n) (way-weight h.sets parts old 0 schema) h.heavy;
  }

  way-keeps : (schema : List Table) (held : Held) (stamps : Stamps) (gs : List Region) → Keeps schema held stamps gs → Keeps schema held stamps (giving_way arrivals gs)
  way-keeps schema held stamps gs h = record {
    points = λ t a p point. way-occurs gs t a p ∙ h.points t a p point;
    stamped = All-map (IsStamped schema stamps) (gives_way arrivals) gs h.stamped;
  }

  -- the regions of an answer are those for the regions before they gave way
  pub way-renewed : (schema : List Table) (number : ℕ) (parts : List Part) (old new : List Region) (marks : List Mark)
      → IsRenewed schema number parts arrivals (giving_way arrivals old) new marks → IsRenewed schema number parts arrivals old new marks
  way-renewed schema number parts old new marks h = record {
    all = h.all;
    each = h.each;
    order = h.order;
    keeps = λ held stamps k. h.keeps held stamps (way-keeps schema held stamps old k);
    flags = h.flags;
    absorbed = h.absorbed;
    left = h.left;
    marks_are = h.marks_are;
  }

  way-region : (schema : List Table) (g : Region) → IsOfSchema schema g → IsOfSchema schema (gives_way arrivals g)
  way-region schema g h =
      let test : Row → Bool = λ row. not (brings arrivals g (cell_at row (rank g.attrs g.key))) in (
        h.0,
        record {
          area = h.1.area;
          rows = All-filter test (IsRowIn (table_at schema g.table).columns g.attrs g.rects) g.rows h.1.rows;
          ascending = ascend-filter (rank g.attrs g.key) test g.rows h.1.ascending;
        },
      )

  pub way-each : (schema : List Table) (gs : List Region) → All (IsOfSchema schema) gs → All (IsOfSchema schema) (giving_way arrivals gs)
  way-each schema gs h = All-map (IsOfSchema schema) (gives_way arrivals) gs (All-weaker (IsOfSchema schema) (λ g. IsOfSchema schema (gives_way arrivals g)) (way-region schema) gs h)

  pub way-apart : (schema : List Table) (gs : List Region) → AreApart schema gs arrivals → AreApart schema (giving_way arrivals gs) arrivals
  way-apart schema gs h t a p point = let e = way-occurs gs t a p in let le = h t a p point in omega (arith, e, le)

  -- ---- keys

  dropped : (test : Cell → Bool) (key : ℕ) (k : Cell) (rows : List Row) → test k ≡ true → has_key key k (filter (λ row. not (test (cell_at row key))) rows) ≡ false
  dropped test key k [] holds = refl
  dropped test key k (r ∷ rows) holds = go (test (cell_at r key)) refl (dropped test key k rows holds)
    where
      F : List Row
      F = filter (λ row. not (test (cell_at row key))) rows

      other : (c : Bool) → cell_eq (cell_at r key) k ≡ c → test (cell_at r key) ≡ false → has_key key k F ≡ false → (c || has_key key k F) ≡ false
      other true d e ih = let x : true ≡ false = sym holds ∙ ap test (sym (cell_eq-sound (cell_at r key) k d)) ∙ e in absurd (cc)
      other false d e ih = ih

      go : (b : Bool) → test (cell_at r key) ≡ b → has_key key k F ≡ false → has_key key k (cond (not b) (r ∷ F) F) ≡ false
      go true e ih = ih
      go false e ih = other (cell_eq (cell_at r key) k) refl e ih

  module _ (schema : List Table) (g : Region) (h : IsChunk schema g) (k : Cell) where
    brings-is : (rs : List Arrival) → All (λ r. IsChunk schema (as_region r)) rs → brings rs g k ≡ not (nat_eq (keys_at rs g.table g.attrs k) 0)
    brings-is [] each = refl
    brings-is (r ∷ rs) each =
        go (r.table == g.table && r.attrs == g.attrs) refl (brings-is rs (All-tail (λ r. IsChunk schema (as_region r)) r rs each))
      where
        both : (x y : Bool) → x ≡ y → brings rs g k ≡ not (nat_eq (keys_at rs g.table g.attrs k) 0)
            → (x || brings rs g k) ≡ not (nat_eq ((if y then 1 else 0) + keys_at rs g.table g.attrs k) 0)
        both true true e ih = grind (arith, nat_tests)
        both true false e ih = absurd (cc)
        both false true e ih = absurd (cc)
        both false false e ih = grind (arith, nat_tests, ih)

        go : (b : Bool) → (r.table == g.table && r.attrs == g.attrs) ≡ b → brings rs g k ≡ not (nat_eq (keys_at rs g.table g.attrs k) 0)
            → ((b && has_key (rank g.attrs g.key) k r.rows) || brings rs g k) ≡ not (nat_eq ((if b && has_key (rank r.attrs r.key) k r.rows then 1 else 0) + keys_at rs g.table g.attrs k) 0)
        go true e ih =
            both (has_key (rank g.attrs g.key) k r.rows) (has_key (rank r.attrs r.key) k r.rows)
            (ap (λ n. has_key n k r.rows) (sym (same-place schema g h r e (All-head (λ r. IsChunk schema (as_region r)) r rs each)))) ih
        go false e ih = both false false refl ih

  module _ (schema : List Table) (came : All (λ r. IsChunk schema (as_region r)) arrivals) (t a : ℕ) (k : Cell) where
    -- none of the keys that arrive is left
    none-left : 1 ≤ keys_at arrivals t a k → (gs : List Region) → All (IsChunk schema) gs → key_occurs (giving_way arrivals gs) t a k ≡ 0
    none-left some [] each = refl
    none-left some (g ∷ gs) each = go (is_of g t a) refl (none-left some gs (All-tail (IsChunk schema) g gs each))
      where
        left : List Row
        left = filter (λ row. not (brings arrivals g (cell_at row (rank g.attrs g.key)))) g.rows

        gone : is_of g t a ≡ true → has_key (rank g.attrs g.key) k left ≡ false
        gone e =
            let s = of-parts g t a e in
            let some_own : 1 ≤ keys_at arrivals g.table g.attrs k = subst (λ n. 1 ≤ keys_at arrivals n g.attrs k) (sym s.0) (subst (λ n. 1 ≤ keys_at arrivals t n k) (sym s.1) some) in
            let is = brings-is schema g (All-head (IsChunk schema) g gs each) k arrivals came in
            dropped (brings arrivals g) (rank g.attrs g.key) k g.rows (grind (arith, nat_tests, is, some_own))

        zero-more : (b : Bool) → b ≡ false → key_occurs (giving_way arrivals gs) t a k ≡ 0 → (if b then 1 else 0) + key_occurs (giving_way arrivals gs) t a k ≡ 0
        zero-more true e ih = absurd (cc)
        zero-more false e ih = omega (arith, ih)

        go : (b : Bool) → is_of g t a ≡ b → key_occurs (giving_way arrivals gs) t a k ≡ 0 → (if b && has_key (rank g.attrs g.key) k left then 1 else 0) + key_occurs (giving_way arrivals gs) t a k ≡ 0
        go true e ih = zero-more (has_key (rank g.attrs g.key) k left) (gone e) ih
        go false e ih = omega (arith, ih)

    fewer-left : (gs : List Region) → key_occurs (giving_way arrivals gs) t a k ≤ key_occurs gs t a k
    fewer-left [] = omega arith
    fewer-left (g ∷ gs) = go (is_of g t a) (has_key (rank g.attrs g.key) k g.rows) refl (has_key (rank g.attrs g.key) k left) refl (fewer-left gs)
      where
        test : Row → Bool
        test row = not (brings arrivals g (cell_at row (rank g.attrs g.key)))

        left : List Row
        left = filter (λ row. not (brings arrivals g (cell_at row (rank g.attrs g.key)))) g.rows

        go : (b c : Bool) → has_key (rank g.attrs g.key) k g.rows ≡ c → (d : Bool) → has_key (rank g.attrs g.key) k left ≡ d → key_occurs (giving_way arrivals gs) t a k ≤ key_occurs gs t a k
            → (if b && d then 1 else 0) + key_occurs (giving_way arrivals gs) t a k ≤ (if b && c then 1 else 0) + key_occurs gs t a k
        go true true e d f ih = last d
          where
            last : (d : Bool) → (if d then 1 else 0) + key_occurs (giving_way arrivals gs) t a k ≤ 1 + key_occurs gs t a k
            last true = omega (arith, ih)
            last false = omega (arith, ih)
        go true false e true f ih =
            let fails = lacks-filter (rank g.attrs g.key) k (λ row. not (brings arrivals g (cell_at row (rank g.attrs g.key)))) g.rows e in absurd (grind (arith, fails, f))
        go true false e false f ih = omega (arith, ih)
        go false c e d f ih = omega (arith, ih)

    pub keys-left : (gs : List Region) → All (IsChunk schema) gs → key_occurs gs t a k ≤ 1 → keys_at arrivals t a k ≤ 1 → key_occurs (giving_way arrivals gs) t a k + keys_at arrivals t a k ≤ 1
    keys-left gs each own once = go (keys_at arrivals t a k) refl
      where
        go : (n : ℕ) → keys_at arrivals t a k ≡ n → key_occurs (giving_way arrivals gs) t a k + keys_at arrivals t a k ≤ 1
        go zero e = let le = fewer-left gs in omega (arith, e, le, own)
        go (suc n) e = let some : 1 ≤ keys_at arrivals t a k = omega (arith, e) in let none = none-left some gs each in omega (arith, none, once)

-- ---- there is a telling

came-chunks : (schema : List Table) (parts : List Part) (arrivals : List Arrival) → All (IsArrival schema parts) arrivals → All (λ r. IsChunk schema (as_region r)) arrivals
came-chunks schema parts arrivals are = All-weaker (IsArrival schema parts) (λ r. IsChunk schema (as_region r)) (arrival-chunk schema parts) arrivals are

all-points : (schema : List Table) (regions : List Region) (arrivals : List Arrival) → AreApart schema regions arrivals → HaveOwnPoints schema (regions ++ map as_region arrivals)
all-points schema regions arrivals apart t a p point =
    let sum = lies-append regions (map as_region arrivals) t a p in
    let two = arrivals-lie arrivals t a p in
    let three = lies-occurs regions t a p in
    let le = apart t a p point in
    omega (arith, sum, two, three, le)

pub some-fits : SomeTellingFits
some-fits schema parts regions arrivals h are apart own =
    let came = came-chunks schema parts arrivals are in
    let chunks = All-weaker (IsOfSchema schema) (IsChunk schema) (region-chunk schema) regions h.each in
    let left = All-weaker (IsOfSchema schema) (IsChunk schema) (region-chunk schema) (giving_way arrivals regions) (way-each arrivals schema regions h.each) in
    let all = giving_way arrivals regions ++ map as_region arrivals in
    let found = some-telling schema all (All-append (IsChunk schema) (giving_way arrivals regions) (map as_region arrivals) left (All-map (IsChunk schema) as_region arrivals came))
    (all-points schema (giving_way arrivals regions) arrivals (way-apart arrivals schema regions apart))
    (λ t a k.
    let sum = keys-append (giving_way arrivals regions) (map as_region arrivals) t a k in
    let two = arrivals-keys arrivals t a k in
    let le = keys-left arrivals schema came t a k regions chunks (h.keys t a k) (own t a k) in
    omega (arith, sum, two, le)) in (
      found.0,
      found.1,
      All-left (IsTrueOf found.0) (giving_way arrivals regions) (map as_region arrivals) found.2,
      have-arrived found.0 arrivals (All-right (IsTrueOf found.0) (giving_way arrivals regions) (map as_region arrivals) found.2),
    )

-- ---- where all is true, nothing gives way

module _ (schema : List Table) (arrivals : List Arrival) (came : All (λ r. IsChunk schema (as_region r)) arrivals) where
  rows-stay : (g : Region) (rows : List Row) → ((k : Cell) → has_key (rank g.attrs g.key) k rows ≡ true → brings arrivals g k ≡ false)
      → filter (λ row. not (brings arrivals g (cell_at row (rank g.attrs g.key)))) rows ≡ rows
  rows-stay g [] none = refl
  rows-stay g (r ∷ rows) none =
      let first : has_key (rank g.attrs g.key) (cell_at r (rank g.attrs g.key)) (r ∷ rows) ≡ true = rw (cell_eq-refl (cell_at r (rank g.attrs g.key))) refl in
      rw (none (cell_at r (rank g.attrs g.key)) first)
      (ap (λ xs. r ∷ xs) (rows-stay g rows (λ k holds. none k (later (cell_eq (cell_at r (rank g.attrs g.key)) k) (has_key (rank g.attrs g.key) k rows) holds))))
    where
      later : (b c : Bool) → c ≡ true → (b || c) ≡ true
      later true c e = refl
      later false c e = e

  all-stay : (gs : List Region) → All (IsChunk schema) gs → ((t a : ℕ) (k : Cell) → key_occurs gs t a k + keys_at arrivals t a k ≤ 1) → giving_way arrivals gs ≡ gs
  all-stay [] each own = refl
  all-stay (g ∷ gs) each own =
      let one : gives_way arrivals g ≡ g = ap (λ rows. record g { rows = rows }) (rows-stay g g.rows (λ k holds. none k holds)) in
      let ih = all-stay gs (All-tail (IsChunk schema) g gs each) (λ t a k. let le = own t a k in omega (arith, le)) in
      rw (one, ih) refl
    where
      count : (x y : Bool) (n m : ℕ) → x ≡ true → y ≡ true → (if x && y then 1 else 0) + n + m ≤ 1 → m ≡ 0
      count true true n m d e le = omega (arith, le)
      count true false n m d e le = absurd (cc)
      count false y n m d e le = absurd (cc)

      none : (k : Cell) → has_key (rank g.attrs g.key) k g.rows ≡ true → brings arrivals g k ≡ false
      none k holds =
          let is = brings-is arrivals schema g (All-head (IsChunk schema) g gs each) k arrivals came in
          let zero = count (is_of g g.table g.attrs) (has_key (rank g.attrs g.key) k g.rows) (key_occurs gs g.table g.attrs k) (keys_at arrivals g.table g.attrs k) (of-self g) holds (own g.table g.attrs k) in
          is ∙ rw zero refl

arrived-true : (told : Told) (rs : List Arrival) → HaveArrived told rs → AreTrueOf told (map as_region rs)
arrived-true told rs h = All-map (IsTrueOf told) as_region rs h

pub nothing-gives : NothingGivesWay
nothing-gives schema parts regions arrivals told each are apart is_told regions_true rows =
    let came = came-chunks schema parts arrivals are in
    let chunks = All-weaker (IsOfSchema schema) (IsChunk schema) (region-chunk schema) regions each in
    let all = regions ++ map as_region arrivals in
    let once = keys-once schema told is_told all (All-append (IsChunk schema) regions (map as_region arrivals) chunks (All-map (IsChunk schema) as_region arrivals came))
    (All-append (IsTrueOf told) regions (map as_region arrivals) regions_true (arrived-true told arrivals rows)) (all-points schema regions arrivals apart) in
    all-stay schema arrivals came regions chunks
    (λ t a k.
    let sum = keys-append regions (map as_region arrivals) t a k in
    let two = arrivals-keys arrivals t a k in
    let le = once t a k in
    omega (arith, sum, two, le))

-- ---- an answer

pub old-is : (old held regions : List Region) (listed arrivals : List Arrival) → old ≡ giving_way listed held → listed ≡ arrivals → held ≡ regions → old ≡ giving_way arrivals regions
old-is old held regions listed arrivals is same own = is ∙ (ap (λ rs. giving_way rs held) same ∙ ap (giving_way arrivals) own)

-- what a store keeps of the regions of an answer
pub keeps-answer : {E : Type 0} (schema : List Table) (limits : Limits) (number : ℕ) (parts : List Part) (arrivals : List Arrival) (old mid new : List Region) (front : List Mark) (last : List Last) (r : Result (List Mark) E)
    → last ≡ lasts_of schema parts → IsRenewed schema number parts arrivals (giving_way arrivals old) mid front → IsStore schema mid → IsSettled schema mid
    → ((told : Told) → IsTold schema told → AreTrueOf told (giving_way arrivals old) → HaveArrived told arrivals → AreTrueOf told mid)
    → IfOk r (λ marks. (drops : List Mark) × IsFitted schema limits last mid new drops × (marks ≡ front ++ drops))
    → IfOk r (λ marks. IsAnswered schema limits number parts arrivals old new marks ⊎ IsGivenUp schema parts arrivals old new marks)
keeps-answer schema limits number parts arrivals old mid new front last (Ok marks) is renewed store settled still kept = inl (record {
  mid = mid;
  front = front;
  drops = kept.0;
  renewed = way-renewed arrivals schema number parts old mid front renewed;
  store = store;
  settled = settled;
  true_still = still;
  fitted = subst (λ l. IsFitted schema limits l mid new kept.0) is kept.1;
  all = kept.2;
})
keeps-answer schema limits number parts arrivals old mid new front last (Err e) is renewed store settled still kept = kept

-- the drops of all regions, made after they gave way
pub given-up : (schema : List Table) (parts : List Part) (arrivals : List Arrival) (regions old new : List Region) (marks : List Mark) → old ≡ giving_way arrivals regions → IsHeavy schema old parts arrivals
    → marks ≡ map (drop_of Pieces) old → new ≡ [] → IsGivenUp schema parts arrivals regions new marks
given-up schema parts arrivals regions old new marks is heavy drops none = record {
  heavy = way-heavy arrivals schema parts regions (subst (λ gs. IsHeavy schema gs parts arrivals) is heavy);
  left = none;
  marks_are = drops ∙ (ap (map (drop_of Pieces)) is ∙ way-drops arrivals (drop_of Pieces) (λ g. refl) regions);
}
