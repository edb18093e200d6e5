-- Regions and what arrives have the rows of the telling that the arrivals make.
use Rattle.std.proofs.Common.{◌≡◌, ℕ, ◌+◌, ◌≤◌, Bool, true, false, cond, not, List, [], ◌∷◌, refl, sym, ap, subst, ◌∙◌, arith, eqb-true}
use Rattle.std.specs.Prelude.{◌&&◌, ◌||◌, ◌==◌, filter, if◌then◌else◌}
use Rattle.std.specs.List.{list_all, All}
use Rattle.std.proofs.lemmas.Bool.Decides.{nat_tests}
use Rattle.std.proofs.lemmas.List.Elements.{All-nil, All-cons, All-head, All-tail, All-weaker, All-filter}
use Rattle.sr_cell.specs.declared.cell.Cell.{Cell}
use Rattle.sr_cell.specs.declared.table.Table.{Table}
use Rattle.sr_cell.specs.Attrs.{has_column}
use Rattle.sr_cell.specs.Cells.{Row, cell_at, cell_eq}
use Rattle.sr_cell.specs.Columns.{table_at, is_point}
use Rattle.sr_cell.proofs.Lists.{filter-filter}
use Rattle.sr_cell.proofs.Order.{cell_eq-sound}
use Rattle.sr_model.specs.SortedRows.{ascend, has_key, with_rows}
use Rattle.sr_box.specs.Points.{in_any, times, rect_fits, constrains_only}
use Rattle.sr_union.proofs.Times.{in_any-times}
use Rattle.sr_query.specs.declared.query.Part.{Part}
use Rattle.sr_rows.specs.Places.{is_apart}
use Rattle.sr_rows.proofs.Parts.{ascend-filter, with_rows-none}
use Rattle.sr_region.specs.declared.region.Region.{Region}
use Rattle.sr_region.specs.Regions.{rank, is_in, IsPart, IsRowIn}
use Rattle.sr_region.proofs.Ordered.{All-with_rows, with_rows-ascend}
use Rattle.sr_store.specs.declared.store.Arrival.{Arrival}
use Rattle.sr_store.specs.Answered.{arrivals_at, brings, gives_way, giving_way, IsArrival, AreApart, HaveArrived}
use Rattle.sr_store.specs.Brought.{stays_beside, arrives_in, arrive_in, AreOfOwnTables, NoticesAreTold, ArrivalsAreTold}
use Rattle.sr_store.specs.Classes.{is_of, occurs}
use Rattle.sr_store.specs.Told.{Told, IsTold, IsTrueOf, AreTrueOf}
use Rattle.sr_store.specs.Stores.{IsOfSchema}
use Rattle.sr_store.proofs.Chunks.{filter-with_rows, none-pass, all-pass, apart-lists, of-self}
use Rattle.sr_store.proofs.Telling.{told-all, true-each}
use Rattle.sr_store.proofs.Truths.{filter-on, in-part}

pub notices-are-told : NoticesAreTold
notices-are-told schema told telling regions all each (is, own) = (told-all schema told telling all is, true-each schema told telling regions all is each own)

-- ---- one arrival

-- none of the rows that stay has a key that arrives
no-key : (key : ℕ) (out : Row → Bool) (more : List Row) (k : Cell) (rows : List Row) → has_key key k more ≡ true
    → has_key key k (filter (λ row. out row && not (has_key key (cell_at row key) more)) rows) ≡ false
no-key key out more k [] holds = refl
no-key key out more k (r ∷ rows) holds = go (out r) (has_key key (cell_at r key) more) refl (no-key key out more k rows holds)
  where
    F : List Row
    F = filter (λ row. out row && not (has_key key (cell_at row key) more)) rows

    here : (c : Bool) → cell_eq (cell_at r key) k ≡ c → has_key key (cell_at r key) more ≡ false → has_key key k F ≡ false → (c || has_key key k F) ≡ false
    here true e none ih = let wrong : true ≡ false = sym holds ∙ ap (λ v. has_key key v more) (sym (cell_eq-sound (cell_at r key) k e)) ∙ none in absurd (cc)
    here false e none ih = ih

    go : (a b : Bool) → has_key key (cell_at r key) more ≡ b → has_key key k F ≡ false → has_key key k (cond (a && not b) (r ∷ F) F) ≡ false
    go false b e ih = ih
    go true true e ih = ih
    go true false e ih = here (cell_eq (cell_at r key) k) refl e ih

module _ (schema : List Table) (parts : List Part) (r : Arrival) (is : IsArrival schema parts r) (told : Told) (is_told : IsTold schema told) where
  abbrev t : ℕ
  t = r.table

  abbrev a : ℕ
  a = r.attrs

  abbrev key : ℕ
  key = rank r.attrs r.key

  abbrev left : List Row
  left = filter (stays_beside r) (told r.table r.attrs)

  abbrev after : List Row
  after = with_rows (rank r.attrs r.key) left r.rows

  left-parts : All (IsPart (table_at schema r.table).columns r.attrs) left
  left-parts = All-filter (stays_beside r) (IsPart (table_at schema r.table).columns r.attrs) (told r.table r.attrs) (is_told.rows r.table r.attrs)

  new-parts : All (IsPart (table_at schema r.table).columns r.attrs) r.rows
  new-parts = All-weaker (IsRowIn (table_at schema r.table).columns r.attrs r.rects) (IsPart (table_at schema r.table).columns r.attrs) (λ row h. h.0) r.rows is.rows

  has-key : has_column r.attrs (table_at schema r.table).key ≡ true
  has-key = subst (λ k. has_column r.attrs k ≡ true) is.key is.has_key

  left-ascend : ascend (rank r.attrs r.key) left ≡ true
  left-ascend =
      ascend-filter (rank r.attrs r.key) (stays_beside r) (told r.table r.attrs)
      (ap (λ k. ascend (rank r.attrs k) (told r.table r.attrs)) is.key ∙ is_told.ascending r.table r.attrs has-key)

  apart : list_all (is_apart (rank r.attrs r.key) left) r.rows ≡ true
  apart =
      apart-lists (table_at schema r.table) r.attrs r.key is.has_key left r.rows left-parts new-parts
      (λ k holds. no-key (rank r.attrs r.key) (λ row. not (is_in r.attrs r.rects row)) r.rows k (told r.table r.attrs) holds)

  after-ascend : ascend (rank r.attrs r.key) after ≡ true
  after-ascend = with_rows-ascend (rank r.attrs r.key) left r.rows left-ascend is.ascending apart

  after-parts : All (IsPart (table_at schema r.table).columns r.attrs) after
  after-parts = All-with_rows (IsPart (table_at schema r.table).columns r.attrs) (rank r.attrs r.key) left r.rows left-parts new-parts

  -- the telling is one of rows by key still
  pub told-more : IsTold schema (arrives_in r told)
  told-more = record { rows = λ u b. rows u b (r.table == u && r.attrs == b) refl; ascending = λ u b has. ascends u b has (r.table == u && r.attrs == b) refl }
    where
      first : (u b : ℕ) → (r.table == u && r.attrs == b) ≡ true → r.table ≡ u
      first u b e = eqb-true r.table u (grind (arith, e))

      second : (u b : ℕ) → (r.table == u && r.attrs == b) ≡ true → r.attrs ≡ b
      second u b e = eqb-true r.attrs b (grind (arith, e))

      -- so the rows are those of the arrival's own table and columns
      same : (u b : ℕ) → (r.table == u && r.attrs == b) ≡ true → with_rows (rank r.attrs r.key) (filter (stays_beside r) (told u b)) r.rows ≡ after
      same u b e = ap (λ x. with_rows (rank r.attrs r.key) (filter (stays_beside r) (told x b)) r.rows) (sym (first u b e)) ∙ ap (λ x. with_rows (rank r.attrs r.key) (filter (stays_beside r) (told r.table x)) r.rows) (sym (second u b e))

      rows : (u b : ℕ) (c : Bool) → (r.table == u && r.attrs == b) ≡ c
          → All (IsPart (table_at schema u).columns b) (if c then with_rows (rank r.attrs r.key) (filter (stays_beside r) (told u b)) r.rows else told u b)
      rows u b true e =
          subst (All (IsPart (table_at schema u).columns b)) (sym (same u b e))
          (subst (λ x. All (IsPart (table_at schema x).columns b) after) (first u b e) (subst (λ x. All (IsPart (table_at schema r.table).columns x) after) (second u b e) after-parts))
      rows u b false e = is_told.rows u b

      ascends : (u b : ℕ) → has_column b (table_at schema u).key ≡ true → (c : Bool) → (r.table == u && r.attrs == b) ≡ c
          → ascend (rank b (table_at schema u).key) (if c then with_rows (rank r.attrs r.key) (filter (stays_beside r) (told u b)) r.rows else told u b) ≡ true
      ascends u b has true e =
          ap (ascend (rank b (table_at schema u).key)) (same u b e)
          ∙ ap (λ x. ascend (rank x (table_at schema u).key) after) (sym (second u b e))
          ∙ ap (λ x. ascend (rank r.attrs (table_at schema x).key) after) (sym (first u b e))
          ∙ ap (λ k. ascend (rank r.attrs k) after) (sym is.key) ∙ after-ascend
      ascends u b has false e = is_told.ascending u b has

  self : (r.table == r.table && r.attrs == r.attrs) ≡ true
  self = grind (arith, nat_tests)

  own-rows : arrives_in r told r.table r.attrs ≡ after
  own-rows = ap (λ c. if c then with_rows (rank r.attrs r.key) (filter (stays_beside r) (told r.table r.attrs)) r.rows else told r.table r.attrs) self

  -- what arrives has its rows
  pub rows-arrived : r.rows ≡ filter (is_in r.attrs r.rects) (arrives_in r told r.table r.attrs)
  rows-arrived = sym (
      ap (filter (is_in r.attrs r.rects)) own-rows
      ∙ filter-with_rows (rank r.attrs r.key) (is_in r.attrs r.rects) left r.rows left-ascend is.ascending apart
      ∙ ap (λ xs. with_rows (rank r.attrs r.key) xs (filter (is_in r.attrs r.rects) r.rows)) none
      ∙ ap (with_rows (rank r.attrs r.key) []) all
      ∙ with_rows-none (rank r.attrs r.key) r.rows is.ascending)
    where
      all : filter (is_in r.attrs r.rects) r.rows ≡ r.rows
      all = all-pass (IsRowIn (table_at schema r.table).columns r.attrs r.rects) (is_in r.attrs r.rects) (λ row h. h.1) r.rows is.rows

      never : (row : Row) → (stays_beside r row && is_in r.attrs r.rects row) ≡ false
      never row = go (is_in r.attrs r.rects row) (has_key (rank r.attrs r.key) (cell_at row (rank r.attrs r.key)) r.rows)
        where
          go : (b c : Bool) → ((not b && not c) && b) ≡ false
          go true c = refl
          go false true = refl
          go false false = refl

      none : filter (is_in r.attrs r.rects) left ≡ []
      none =
          filter-filter (stays_beside r) (is_in r.attrs r.rects) (told r.table r.attrs)
          ∙ none-pass (λ row. Unit {0}) (λ row. stays_beside r row && is_in r.attrs r.rects row) (λ row u. never row) (told r.table r.attrs) (λ n row lt. tt)

  -- a region of the same table and columns, with no point that arrives, has the rows that stay
  module _ (g : Region) (of : IsOfSchema schema g) (table : g.table ≡ r.table) (attrs : g.attrs ≡ r.attrs)
      (free : (p : Row) → is_point (table_at schema r.table).columns p ≡ true → (in_any g.rects p && in_any r.rects p) ≡ false) where
    fits : list_all (rect_fits (table_at schema r.table).columns) g.rects ≡ true
    fits = subst (λ n. list_all (rect_fits (table_at schema n).columns) g.rects ≡ true) table of.1.area.fit

    only : list_all (constrains_only r.attrs 0) g.rects ≡ true
    only = subst (λ n. list_all (constrains_only n 0) g.rects ≡ true) attrs of.1.area.only

    -- no row lies in both
    both-not : (row : Row) → IsPart (table_at schema r.table).columns r.attrs row → (is_in r.attrs g.rects row && is_in r.attrs r.rects row) ≡ false
    both-not row part =
        let x = in-part (table_at schema r.table).columns r.attrs g.rects row fits only part in
        let y = in-part (table_at schema r.table).columns r.attrs r.rects row is.fit is.only part in
        ap (λ b. b && is_in r.attrs r.rects row) x ∙ ap (λ b. in_any g.rects part.0 && b) y ∙ free part.0 part.1

    none-new : filter (is_in r.attrs g.rects) r.rows ≡ []
    none-new =
        none-pass (IsRowIn (table_at schema r.table).columns r.attrs r.rects) (is_in r.attrs g.rects)
        (λ row h. let e = both-not row h.0 in let f = h.1 in out (is_in r.attrs g.rects row) (is_in r.attrs r.rects row) e f) r.rows is.rows
      where
        out : (b c : Bool) → (b && c) ≡ false → c ≡ true → b ≡ false
        out true true e f = absurd (cc)
        out true false e f = absurd (cc)
        out false c e f = refl

    abbrev stays : Row → Bool
    stays row = not (has_key (rank r.attrs r.key) (cell_at row (rank r.attrs r.key)) r.rows)

    same-tests : (row : Row) → IsPart (table_at schema r.table).columns r.attrs row → (stays_beside r row && is_in r.attrs g.rects row) ≡ (is_in r.attrs g.rects row && stays row)
    same-tests row part = go (is_in r.attrs g.rects row) (is_in r.attrs r.rects row) (has_key (rank r.attrs r.key) (cell_at row (rank r.attrs r.key)) r.rows) (both-not row part)
      where
        go : (b c d : Bool) → (b && c) ≡ false → ((not c && not d) && b) ≡ (b && not d)
        go true true d e = absurd (cc)
        go true false true e = refl
        go true false false e = refl
        go false true d e = refl
        go false false true e = refl
        go false false false e = refl

    pub region-left : filter (is_in r.attrs g.rects) after ≡ filter stays (filter (is_in r.attrs g.rects) (told r.table r.attrs))
    region-left =
        filter-with_rows (rank r.attrs r.key) (is_in r.attrs g.rects) left r.rows left-ascend is.ascending apart
        ∙ ap (with_rows (rank r.attrs r.key) (filter (is_in r.attrs g.rects) left)) none-new
        ∙ filter-filter (stays_beside r) (is_in r.attrs g.rects) (told r.table r.attrs)
        ∙ filter-on (IsPart (table_at schema r.table).columns r.attrs) (λ row. stays_beside r row && is_in r.attrs g.rects row) (λ row. is_in r.attrs g.rects row && stays row) same-tests (told r.table r.attrs) (is_told.rows r.table r.attrs)
        ∙ sym (filter-filter (is_in r.attrs g.rects) stays (told r.table r.attrs))

-- ---- arrivals of other tables change nothing

other-told : (arrivals : List Arrival) (t a : ℕ) (told : Told) → All (λ (s : Arrival). (s.table == t) ≡ false) arrivals → arrive_in arrivals told t a ≡ told t a
other-told [] t a told others = refl
other-told (s ∷ arrivals) t a told others =
    other-told arrivals t a (arrives_in s told) (All-tail (λ (s : Arrival). (s.table == t) ≡ false) s arrivals others)
    ∙ ap (λ b. if b && s.attrs == a then with_rows (rank s.attrs s.key) (filter (stays_beside s) (told t a)) s.rows else told t a) (All-head (λ (s : Arrival). (s.table == t) ≡ false) s arrivals others)

none-brings : (arrivals : List Arrival) (g : Region) (k : Cell) → All (λ (s : Arrival). (s.table == g.table) ≡ false) arrivals → brings arrivals g k ≡ false
none-brings [] g k others = refl
none-brings (s ∷ arrivals) g k others =
    ap (λ b. ((b && s.attrs == g.attrs) && has_key (rank g.attrs g.key) k s.rows) || brings arrivals g k) (All-head (λ (s : Arrival). (s.table == g.table) ≡ false) s arrivals others)
    ∙ none-brings arrivals g k (All-tail (λ (s : Arrival). (s.table == g.table) ≡ false) s arrivals others)

of-table : (arrivals : List Arrival) (t u : ℕ) → t ≡ u → All (λ (s : Arrival). (s.table == t) ≡ false) arrivals → All (λ (s : Arrival). (s.table == u) ≡ false) arrivals
of-table arrivals t u e h = subst (λ n. All (λ (s : Arrival). (s.table == n) ≡ false) arrivals) e h

-- ---- all arrivals

-- the regions and these arrivals have no point in common
abbrev IsFree : List Table → List Arrival → Region → Type 0
IsFree schema arrivals g = All (λ (r : Arrival). (r.table == g.table && r.attrs == g.attrs) ≡ true → (p : Row) → is_point (table_at schema g.table).columns p ≡ true → (in_any g.rects p && in_any r.rects p) ≡ false) arrivals

module _ (schema : List Table) (parts : List Part) where
  all-told : (arrivals : List Arrival) (told : Told) → All (IsArrival schema parts) arrivals → IsTold schema told → IsTold schema (arrive_in arrivals told)
  all-told [] told are is = is
  all-told (r ∷ arrivals) told are is =
      all-told arrivals (arrives_in r told) (All-tail (IsArrival schema parts) r arrivals are) (told-more schema parts r (All-head (IsArrival schema parts) r arrivals are) told is)

  all-arrived : (arrivals : List Arrival) (told : Told) → All (IsArrival schema parts) arrivals → AreOfOwnTables arrivals → IsTold schema told → HaveArrived (arrive_in arrivals told) arrivals
  all-arrived [] told are own is = All-nil (λ (r : Arrival). r.rows ≡ filter (is_in r.attrs r.rects) (arrive_in [] told r.table r.attrs))
  all-arrived (r ∷ arrivals) told are (others, own) is =
      let one = All-head (IsArrival schema parts) r arrivals are in
      All-cons (λ (x : Arrival). x.rows ≡ filter (is_in x.attrs x.rects) (arrive_in (r ∷ arrivals) told x.table x.attrs)) r arrivals
      (rows-arrived schema parts r one told is ∙ ap (filter (is_in r.attrs r.rects)) (sym (other-told arrivals r.table r.attrs (arrives_in r told) others)))
      (all-arrived arrivals (arrives_in r told) (All-tail (IsArrival schema parts) r arrivals are) own (told-more schema parts r one told is))

  module _ (g : Region) (of : IsOfSchema schema g) where
    one-true : (arrivals : List Arrival) (told : Told) → All (IsArrival schema parts) arrivals → AreOfOwnTables arrivals → IsFree schema arrivals g → IsTold schema told → IsTrueOf told g
        → IsTrueOf (arrive_in arrivals told) (gives_way arrivals g)
    one-true [] told are own free is h = all-pass (λ row. Unit {0}) (λ row. true) (λ row u. refl) g.rows (λ n row lt. tt) ∙ h
    one-true (r ∷ arrivals) told are (others, own) free is h =
        go (r.table == g.table && r.attrs == g.attrs) refl
        (one-true arrivals (arrives_in r told) (All-tail (IsArrival schema parts) r arrivals are) own
        (All-tail (λ (r : Arrival). (r.table == g.table && r.attrs == g.attrs) ≡ true → (p : Row) → is_point (table_at schema g.table).columns p ≡ true → (in_any g.rects p && in_any r.rects p) ≡ false) r arrivals free)
        (told-more schema parts r (All-head (IsArrival schema parts) r arrivals are) told is))
      where
        one : IsArrival schema parts r
        one = All-head (IsArrival schema parts) r arrivals are

        key : ℕ
        key = rank g.attrs g.key

        go : (b : Bool) → (r.table == g.table && r.attrs == g.attrs) ≡ b → (IsTrueOf (arrives_in r told) g → IsTrueOf (arrive_in arrivals (arrives_in r told)) (gives_way arrivals g))
            → IsTrueOf (arrive_in (r ∷ arrivals) told) (gives_way (r ∷ arrivals) g)
        go false e ih =
            ap (λ b. filter (λ row. not ((b && has_key (rank g.attrs g.key) (cell_at row (rank g.attrs g.key)) r.rows) || brings arrivals g (cell_at row (rank g.attrs g.key)))) g.rows) e
            ∙ ih (h ∙ ap (filter (is_in g.attrs g.rects)) (sym (ap (λ b. if b then with_rows (rank r.attrs r.key) (filter (stays_beside r) (told g.table g.attrs)) r.rows else told g.table g.attrs) e)))
        go true e ih = left-rows ∙ sym right-rows
          where
            table : g.table ≡ r.table
            table = sym (eqb-true r.table g.table (grind (arith, e)))

            attrs : g.attrs ≡ r.attrs
            attrs = sym (eqb-true r.attrs g.attrs (grind (arith, e)))

            same_key : rank g.attrs g.key ≡ rank r.attrs r.key
            same_key = ap (λ x. rank x g.key) attrs ∙ ap (rank r.attrs) (of.1.area.key ∙ ap (λ t. (table_at schema t).key) table ∙ sym one.key)

            here : (p : Row) → is_point (table_at schema r.table).columns p ≡ true → (in_any g.rects p && in_any r.rects p) ≡ false
            here p point =
                All-head (λ (r : Arrival). (r.table == g.table && r.attrs == g.attrs) ≡ true → (p : Row) → is_point (table_at schema g.table).columns p ≡ true → (in_any g.rects p && in_any r.rects p) ≡ false) r arrivals free e p
                (subst (λ t. is_point (table_at schema t).columns p ≡ true) (sym table) point)

            test : Row → Bool
            test row = not (has_key (rank r.attrs r.key) (cell_at row (rank r.attrs r.key)) r.rows)

            -- what the region keeps
            tests : (row : Row) → not (((r.table == g.table && r.attrs == g.attrs) && has_key (rank g.attrs g.key) (cell_at row (rank g.attrs g.key)) r.rows) || brings arrivals g (cell_at row (rank g.attrs g.key))) ≡ test row
            tests row =
                ap (λ b. not ((b && has_key (rank g.attrs g.key) (cell_at row (rank g.attrs g.key)) r.rows) || brings arrivals g (cell_at row (rank g.attrs g.key)))) e
                ∙ ap (λ b. not (has_key (rank g.attrs g.key) (cell_at row (rank g.attrs g.key)) r.rows || b)) (none-brings arrivals g (cell_at row (rank g.attrs g.key)) (of-table arrivals r.table g.table (sym table) others))
                ∙ ap (λ n. not (has_key n (cell_at row n) r.rows || false)) same_key ∙ ap not (or-false (has_key (rank r.attrs r.key) (cell_at row (rank r.attrs r.key)) r.rows))
              where
                or-false : (b : Bool) → (b || false) ≡ b
                or-false true = refl
                or-false false = refl

            left-rows : (gives_way (r ∷ arrivals) g).rows ≡ filter test (filter (is_in r.attrs g.rects) (told r.table r.attrs))
            left-rows =
                filter-on (λ row. Unit {0})
                (λ row. not (((r.table == g.table && r.attrs == g.attrs) && has_key (rank g.attrs g.key) (cell_at row (rank g.attrs g.key)) r.rows) || brings arrivals g (cell_at row (rank g.attrs g.key)))) test
                (λ row u. tests row) g.rows (λ n row lt. tt)
                ∙ ap (filter test) (h ∙ ap (λ x. filter (is_in x g.rects) (told g.table x)) attrs ∙ ap (λ x. filter (is_in r.attrs g.rects) (told x r.attrs)) table)

            right-rows : filter (is_in g.attrs g.rects) (arrive_in arrivals (arrives_in r told) g.table g.attrs) ≡ filter test (filter (is_in r.attrs g.rects) (told r.table r.attrs))
            right-rows =
                ap (λ x. filter (is_in x g.rects) (arrive_in arrivals (arrives_in r told) g.table x)) attrs
                ∙ ap (λ x. filter (is_in r.attrs g.rects) (arrive_in arrivals (arrives_in r told) x r.attrs)) table
                ∙ ap (filter (is_in r.attrs g.rects)) (other-told arrivals r.table r.attrs (arrives_in r told) others ∙ own-rows schema parts r one told is)
                ∙ region-left schema parts r one told is g of table attrs here

  all-true : (regions : List Region) (arrivals : List Arrival) (told : Told) → All (IsOfSchema schema) regions → All (IsArrival schema parts) arrivals → AreOfOwnTables arrivals
      → All (IsFree schema arrivals) regions → IsTold schema told → AreTrueOf told regions → AreTrueOf (arrive_in arrivals told) (giving_way arrivals regions)
  all-true [] arrivals told each are own free is h = All-nil (IsTrueOf (arrive_in arrivals told))
  all-true (g ∷ regions) arrivals told each are own free is h =
      All-cons (IsTrueOf (arrive_in arrivals told)) (gives_way arrivals g) (giving_way arrivals regions)
      (one-true g (All-head (IsOfSchema schema) g regions each) arrivals told are own (All-head (IsFree schema arrivals) g regions free) is (All-head (IsTrueOf told) g regions h))
      (all-true regions arrivals told (All-tail (IsOfSchema schema) g regions each) are own (All-tail (IsFree schema arrivals) g regions free) is (All-tail (IsTrueOf told) g regions h))

-- ---- no point of a region arrives

abbrev as_one : Bool → ℕ
as_one b = if b then 1 else 0

module _ (schema : List Table) where
  free-one : (g : Region) (gs : List Region) (arrivals : List Arrival) (more : ℕ → ℕ → Row → ℕ)
      → ((t a : ℕ) (p : Row) → is_point (table_at schema t).columns p ≡ true → (more t a p + arrivals_at arrivals t a p) + occurs (g ∷ gs) t a p ≤ 1) → IsFree schema arrivals g
  free-one g gs [] more apart = All-nil _
  free-one g gs (r ∷ arrivals) more apart =
      All-cons (λ (r : Arrival). (r.table == g.table && r.attrs == g.attrs) ≡ true → (p : Row) → is_point (table_at schema g.table).columns p ≡ true → (in_any g.rects p && in_any r.rects p) ≡ false) r arrivals
      (λ e p point. one e p (in_any g.rects p) refl (in_any r.rects p) refl (apart g.table g.attrs p point))
      (free-one g gs arrivals (λ t a p. more t a p + (if (r.table == t && r.attrs == a) && in_any r.rects p then 1 else 0)) (λ t a p point. let le = apart t a p point in omega (arith, le)))
    where
      one : (r.table == g.table && r.attrs == g.attrs) ≡ true → (p : Row) → (b : Bool) → in_any g.rects p ≡ b → (c : Bool) → in_any r.rects p ≡ c
          → (more g.table g.attrs p + ((if (r.table == g.table && r.attrs == g.attrs) && in_any r.rects p then 1 else 0) + arrivals_at arrivals g.table g.attrs p)) + ((if is_of g g.table g.attrs then times g.rects p else 0) + occurs gs g.table g.attrs p) ≤ 1
          → (b && c) ≡ false
      one e p false be c ce le = refl
      one e p true be false ce le = refl
      one e p true be true ce le =
          let came : as_one ((r.table == g.table && r.attrs == g.attrs) && in_any r.rects p) ≡ 1 = ap (λ x. as_one (x && in_any r.rects p)) e ∙ ap as_one ce in
          let own : (if is_of g g.table g.attrs then times g.rects p else 0) ≡ times g.rects p = ap (λ x. if x then times g.rects p else 0) (of-self g) in
          let some : 1 ≤ times g.rects p = let x = in_any-times g.rects p in grind (arith, nat_tests, x, be) in
          absurd (omega (arith, le, came, own, some))

  free-all : (gs : List Region) (arrivals : List Arrival) → AreApart schema gs arrivals → All (IsFree schema arrivals) gs
  free-all [] arrivals apart = All-nil (IsFree schema arrivals)
  free-all (g ∷ gs) arrivals apart =
      All-cons (IsFree schema arrivals) g gs (free-one g gs arrivals (λ t a p. 0) (λ t a p point. let le = apart t a p point in omega (arith, le)))
      (free-all gs arrivals (λ t a p point. let le = apart t a p point in omega (arith, le)))

pub arrivals-are-told : ArrivalsAreTold
arrivals-are-told schema parts regions arrivals told each are apart own (is, h) = (
  (all-told schema parts arrivals told are is, all-true schema parts regions arrivals told each are own (free-all schema regions arrivals apart) is h),
  all-arrived schema parts arrivals told are own is,
)
