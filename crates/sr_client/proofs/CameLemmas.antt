-- What came with a reply: all rows of what was asked.
use Rattle.std.proofs.Common.{◌≡◌, ℕ, ◌+◌, ◌<◌, ◌≤◌, Bool, true, false, List, [], ◌∷◌, map, length, refl, sym, ◌∙◌, ap, subst, arith, inl}
use Rattle.std.specs.Prelude.{not, ◌&&◌, ◌||◌, ◌==◌, filter, if◌then◌else◌}
use Rattle.std.specs.List.{list_all, list_any, All, AllZip}
use Rattle.std.proofs.lemmas.Bool.Decides.{nat_tests}
use Rattle.std.proofs.lemmas.Bool.{and_parts, or_parts}
use Rattle.std.proofs.lemmas.List.Elements.{All-nil, All-cons, All-head, All-tail, All-weaker}
use Rattle.sr_cell.specs.declared.table.Table.{Table}
use Rattle.sr_cell.specs.declared.cell.Cell.{Cell}
use Rattle.sr_cell.specs.Attrs.{has_column, includes}
use Rattle.sr_cell.specs.Cells.{Row}
use Rattle.sr_cell.specs.Columns.{table_at, is_point}
use Rattle.sr_cell.proofs.ColumnSets.{has_column-more}
use Rattle.sr_box.specs.Points.{in_any, rect_fits, constrains_only}
use Rattle.sr_message.specs.declared.message.AskPart.{AskPart}
use Rattle.sr_message.specs.declared.message.Message.{Message}
use Rattle.sr_model.specs.SortedRows.{has_key}
use Rattle.sr_model.specs.Statements.{Tables}
use Rattle.sr_model.specs.Queries as model
use Rattle.sr_model.specs.Queries.{rows_at, points_of}
use Rattle.sr_query.specs.Bound.{IsPart}
use Rattle.sr_query.specs.Joined.{are_different}
use Rattle.sr_query.specs.declared.query.Part.{Part}
use Rattle.sr_history.specs.declared.mark.Mark.{Mark}
use Rattle.sr_history.specs.Marks.{is_held, is_covered}
use Rattle.sr_history.specs.Rests.{IsRest, Asks, nothing, covered, asked}
use Rattle.sr_lines.specs.Own.{part_needs_own}
use Rattle.sr_lines.specs.Sound.{is_sound_part}
use Rattle.sr_region.specs.declared.region.Region.{Region}
use Rattle.sr_region.specs.Regions.{rank, is_in}
use Rattle.sr_store.specs.declared.store.Arrival.{Arrival}
use Rattle.sr_store.specs.Classes.{Stamps, occurs, touches, Keeps as KeepsPoints}
use Rattle.sr_store.specs.Told.{told_of}
use Rattle.sr_store.specs.Stores.{cover_of, IsStore}
use Rattle.sr_store.specs.Answered.{IsArrival, AreApart, BringOwnKeys, HaveArrived, arrivals_at, keys_at}
use Rattle.sr_store.specs.Brought.{AreOfOwnTables}
use Rattle.sr_session.specs.Arrivals.{arrived_at}
use Rattle.sr_session.specs.Sessions.{asked_rows}
use Rattle.sr_store.proofs.Noticing.{told-in}
use Rattle.sr_client.specs.Answering.{is_kept, is_new, Suits, IsThere}
use Rattle.sr_client.specs.Arriving.{arrival_of, arrivals_from}
use Rattle.sr_client.proofs.MeantLemmas.{part-table, part-key, part-points, part-over}
use Rattle.sr_client.proofs.PartsLemmas.{EachFrom, apart-numbers, first-differs, is_named, numbers-apart, rest-differs}
use Rattle.sr_client.proofs.ToldLemmas.{includes-each}
use Rattle.sr_client.proofs.Covers.{occurs-covers}
use Rattle.sr_client.proofs.CoverLemmas.{covered-of, kept-all}
use Rattle.sr_client.proofs.SendsLemmas.{rest-own}
use Rattle.sr_client.proofs.SuitLemmas.{AreRows}
use Rattle.sr_region.specs.Applied.{AreTables}

-- what was asked of a part that is meant
pub record IsRestAsked (schema : List Table) (marks : List Mark) (part : Part) (m : model.Part) (ask : AskPart) : Type 0 where
  pub is : IsPart schema part m
  pub sound : is_sound_part schema m ≡ true
  pub rest : IsRest schema marks m ask

-- the columns that were asked include the needed ones
asked-need : (schema : List Table) (marks : List Mark) (part : Part) (m : model.Part) (ask : AskPart) → IsRestAsked schema marks part m ask → includes ask.attrs part.need ≡ true
asked-need schema marks part m ask a =
    includes-each ask.attrs part.need (λ c has. (a.rest.columns c).1 (inl (ap (λ n. has_column n c) (sym a.is.need) ∙ has)))

asked-table : (schema : List Table) (marks : List Mark) (part : Part) (m : model.Part) (ask : AskPart) → IsRestAsked schema marks part m ask → ask.table ≡ part.table
asked-table schema marks part m ask a = a.rest.table ∙ sym a.is.table

asked-fits : (schema : List Table) (marks : List Mark) (part : Part) (m : model.Part) (ask : AskPart) → IsRestAsked schema marks part m ask
    → list_all (rect_fits (table_at schema ask.table).columns) ask.rects ≡ true
asked-fits schema marks part m ask a = subst (λ t. list_all (rect_fits (table_at schema t).columns) ask.rects ≡ true) (sym a.rest.table) a.rest.fits

-- a point was asked exactly where it is left
asked-point : (schema : List Table) (marks : List Mark) (part : Part) (m : model.Part) (ask : AskPart) → IsRestAsked schema marks part m ask
    → (p : Row) → is_point (table_at schema part.table).columns p ≡ true → in_any ask.rects p ≡ (in_any part.rects p && not (is_covered marks m.table m.need p))
asked-point schema marks part m ask a p point =
    a.rest.same p (subst (λ t. is_point (table_at schema t).columns p ≡ true) a.is.table point)
    ∙ ap (λ b. b && not (is_covered marks m.table m.need p)) (sym (part-points schema part m a.is p point))

-- ---- arrivals of other tables

-- the arrival is of another table
abbrev IsOther : ℕ → Arrival → Type 0
IsOther t r = (r.table == t) ≡ false

abbrev HasArrived : Tables → Arrival → Type 0
HasArrived tables r = r.rows ≡ filter (is_in r.attrs r.rects) (told_of tables r.table r.attrs)

none-at : (t u : ℕ) (p : Row) (rs : List Arrival) → All (IsOther t) rs → arrivals_at rs t u p ≡ 0
none-at t u p [] other = refl
none-at t u p (r ∷ rs) other =
    let far : (r.table == t) ≡ false = All-head (IsOther t) r rs other in
    rw (far, none-at t u p rs (All-tail (IsOther t) r rs other)) refl

none-keys : (t u : ℕ) (k : Cell) (rs : List Arrival) → All (IsOther t) rs → keys_at rs t u k ≡ 0
none-keys t u k [] other = refl
none-keys t u k (r ∷ rs) other =
    let far : (r.table == t) ≡ false = All-head (IsOther t) r rs other in
    rw (far, none-keys t u k rs (All-tail (IsOther t) r rs other)) refl

none-new : (t : ℕ) (p : Row) (rs : List Arrival) → All (IsOther t) rs → list_any (λ (r : Arrival). r.table == t && in_any r.rects p) rs ≡ false
none-new t p [] other = refl
none-new t p (r ∷ rs) other =
    let far : (r.table == t) ≡ false = All-head (IsOther t) r rs other in
    rw (far, none-new t p rs (All-tail (IsOther t) r rs other)) refl

-- they suit the part
suit-others : (schema : List Table) (part : Part) (parts : List Part) (rs : List Arrival) → All (IsArrival schema parts) rs → All (IsOther part.table) rs → All (Suits schema part) rs
suit-others schema part parts [] are other = All-nil (Suits schema part)
suit-others schema part parts (r ∷ rs) are other =
    let own = All-head (IsArrival schema parts) r rs are in
    let far = All-head (IsOther part.table) r rs other in
    All-cons (Suits schema part) r rs
    (record { fit = own.fit; only = own.only; need = λ same. absurd (apart-numbers r.table part.table far same) })
    (suit-others schema part parts rs (All-tail (IsArrival schema parts) r rs are) (All-tail (IsOther part.table) r rs other))

-- one more leaves the parts of other tables as they are
there-later : (schema : List Table) (tables : Tables) (regions : List Region) (r : Arrival) (rs : List Arrival) → list_all (rect_fits (table_at schema r.table).columns) r.rects ≡ true
    → list_all (constrains_only r.attrs 0) r.rects ≡ true → HasArrived tables r → (parts : List Part) (meant : List model.Part) → AllZip (IsPart schema) parts meant → is_named r.table meant ≡ false
    → AllZip (IsThere schema tables regions rs) parts meant → AllZip (IsThere schema tables regions (r ∷ rs)) parts meant
there-later schema tables regions r rs fit only arrived [] [] zip far there = tt
there-later schema tables regions r rs fit only arrived [] (m ∷ meant) zip far there = absurd zip
there-later schema tables regions r rs fit only arrived (part ∷ parts) [] zip far there = absurd zip
there-later schema tables regions r rs fit only arrived (part ∷ parts) (m ∷ meant) zip far there = (
  record {
    over = there.0.over;
    brings = record {
      suit = All-cons (Suits schema part) r rs (record { fit = fit; only = only; need = λ same. absurd (apart-numbers m.table r.table own (sym (same ∙ zip.0.table))) }) there.0.brings.suit;
      arrived = All-cons (HasArrived tables) r rs arrived there.0.brings.arrived;
    };
    points = λ p point.
        ap (λ b. is_kept part regions p || (in_any part.rects p && ((b && in_any r.rects p) || list_any (λ (r : Arrival). r.table == part.table && in_any r.rects p) rs))) other
        ∙ there.0.points p point;
  },
  there-later schema tables regions r rs fit only arrived parts meant zip.1 (or_parts (m.table == r.table) (is_named r.table meant) far).1 there.1,
)
  where
    own : (m.table == r.table) ≡ false
    own = (or_parts (m.table == r.table) (is_named r.table meant) far).0

    other : (r.table == part.table) ≡ false
    other = numbers-apart r.table part.table (λ same. apart-numbers m.table r.table own (sym (same ∙ zip.0.table)))

-- ---- the arrival

arrival-is : (schema : List Table) (marks : List Mark) (part : Part) (m : model.Part) (ask : AskPart) (rows : List Row) → IsRestAsked schema marks part m ask
    → part_needs_own schema m ≡ true → AreRows schema ask rows → IsArrival schema (part ∷ []) (arrival_of schema ask rows)
arrival-is schema marks part m ask rows a own are =
    let table = asked-table schema marks part m ask a in
    let need = asked-need schema marks part m ask a in
    let fits = asked-fits schema marks part m ask a in
    let key : has_column ask.attrs (table_at schema ask.table).key ≡ true =
    has_column-more ask.attrs part.need (table_at schema ask.table).key need (ap (λ t. has_column part.need (table_at schema t).key) table ∙ part-key schema part m a.is a.sound) in
    record {
      table = subst (λ t. t < length schema) (sym table) (part-table schema part m a.is a.sound);
      key = refl;
      has_key = key;
      own = rest-own schema marks m ask a.rest own;
      some = λ none. some none;
      fit = fits;
      only = a.rest.bound;
      touched = λ p point inside. touched p point inside table need;
      rows = are.each;
      ascending = are.ascending;
    }
  where
    some : ask.rects ≡ [] → ⊥
    some none =
        let there = a.rest.some in
        let inside : in_any ask.rects there.0 ≡ true = a.rest.same there.0 there.1 ∙ there.2 in
        let nothing : in_any ask.rects there.0 ≡ false = rw none refl in
        absurd (let wrong : true ≡ false = sym inside ∙ nothing in cc)

    touched : (p : Row) → is_point (table_at schema ask.table).columns p ≡ true → in_any ask.rects p ≡ true → ask.table ≡ part.table → includes ask.attrs part.need ≡ true
        → touches (part ∷ []) ask.table ask.attrs p ≡ true
    touched p point inside table need =
        let here = subst (λ t. is_point (table_at schema t).columns p ≡ true) table point in
        let left : (in_any part.rects p && not (is_covered marks m.table m.need p)) ≡ true = sym (asked-point schema marks part m ask a p here) ∙ inside in
        let own : in_any part.rects p ≡ true = grind (arith, left) in
        let same : (part.table == ask.table) ≡ true = grind (arith, nat_tests, table) in
        rw (same, need, own) refl

-- what was asked is not held under just these columns
arrival-apart : (schema : List Table) (marks : List Mark) (stamps : Stamps) (part : Part) (m : model.Part) (ask : AskPart) (rows : List Row) (regions : List Region)
    → IsRestAsked schema marks part m ask → KeepsPoints schema (is_held marks) stamps regions → IsStore schema regions → AreApart schema regions (arrival_of schema ask rows ∷ [])
arrival-apart schema marks stamps part m ask rows regions a keeps store t u p point = go ((ask.table == t && ask.attrs == u) && in_any ask.rects p) refl
  where
    free : ask.table ≡ t → ask.attrs ≡ u → in_any ask.rects p ≡ true → occurs regions t u p ≡ 0
    free same attrs inside = by (is_held marks t u p) (keeps.points t u p point)
      where
        table : part.table ≡ t
        table = sym (asked-table schema marks part m ask a) ∙ same

        here : is_point (table_at schema part.table).columns p ≡ true
        here = subst (λ t. is_point (table_at schema t).columns p ≡ true) (sym table) point

        uncovered : in_any (cover_of part regions) p ≡ false
        uncovered =
            let left : (in_any part.rects p && not (is_covered marks m.table m.need p)) ≡ true = sym (asked-point schema marks part m ask a p here) ∙ inside in
            let none : is_covered marks m.table m.need p ≡ false = grind (arith, left) in
            covered-of schema marks stamps regions part m p keeps a.is here ∙ none

        need : includes u part.need ≡ true
        need = subst (λ u. includes u part.need ≡ true) attrs (asked-need schema marks part m ask a)

        by : (h : Bool) → occurs regions t u p ≡ (if h then 1 else 0) → occurs regions t u p ≡ 0
        by true one =
            let there : occurs regions part.table u p ≡ 1 = ap (λ t. occurs regions t u p) table ∙ one in
            let covers : in_any (cover_of part regions) p ≡ true = occurs-covers part regions u p need (λ none. absurd (omega (arith, there, none))) in
            absurd (let wrong : true ≡ false = sym covers ∙ uncovered in cc)
        by false none = none

    go : (b : Bool) → ((ask.table == t && ask.attrs == u) && in_any ask.rects p) ≡ b → ((if b then 1 else 0) + 0) + occurs regions t u p ≤ 1
    go true is =
        let same : ask.table ≡ t = grind (arith, nat_tests, is) in
        let attrs : ask.attrs ≡ u = grind (arith, nat_tests, is) in
        let inside : in_any ask.rects p ≡ true = grind (arith, is) in
        omega (arith, free same attrs inside)
    go false is = omega (arith, store.once t u p point)

-- the rows are those of the tables
arrival-rows : (schema : List Table) (marks : List Mark) (tables : Tables) (part : Part) (m : model.Part) (ask : AskPart) (rows : List Row) → IsRestAsked schema marks part m ask → AreTables schema tables
    → rows ≡ asked_rows tables ask → rows ≡ filter (is_in ask.attrs ask.rects) (told_of tables ask.table ask.attrs)
arrival-rows schema marks tables part m ask rows a are rows_are =
    rows_are ∙ sym (told-in (table_at schema ask.table).columns ask.attrs ask.rects (rows_at tables ask.table) (asked-fits schema marks part m ask a) a.rest.bound (are.points ask.table))

-- with what arrives, all points of the part are there; no other arrival is of its table
all-there : (schema : List Table) (marks : List Mark) (stamps : Stamps) (part : Part) (m : model.Part) (ask : AskPart) (rows : List Row) (others : List Arrival) (regions : List Region)
    → IsRestAsked schema marks part m ask → KeepsPoints schema (is_held marks) stamps regions → All (IsOther part.table) others → (p : Row) → is_point (table_at schema part.table).columns p ≡ true
    → (is_kept part regions p || is_new part (arrival_of schema ask rows ∷ others) p) ≡ points_of m p
all-there schema marks stamps part m ask rows others regions a keeps differ p point =
    let inside = part-points schema part m a.is p point in
    let covered = covered-of schema marks stamps regions part m p keeps a.is point in
    let new = asked-point schema marks part m ask a p point in
    let table = asked-table schema marks part m ask a in
    let own : (ask.table == part.table) ≡ true = grind (arith, nat_tests, table) in
    let none = none-new part.table p others differ in
    rw (own, none, covered, new, inside) (by (points_of m p) (is_covered marks m.table m.need p))
  where
    by : (i c : Bool) → ((i && c) || (i && ((i && not c) || false))) ≡ i
    by i c = grind arith

-- ---- all arrivals

-- a part more
arrival-later : (schema : List Table) (part : Part) (parts : List Part) (r : Arrival) → IsArrival schema parts r → IsArrival schema (part ∷ parts) r
arrival-later schema part parts r is = record {
  table = is.table;
  key = is.key;
  has_key = is.has_key;
  own = is.own;
  some = is.some;
  fit = is.fit;
  only = is.only;
  touched = λ p point inside. let own = is.touched p point inside in later (touches parts r.table r.attrs p) (part.table == r.table && includes r.attrs part.need && in_any part.rects p) own;
  rows = is.rows;
  ascending = is.ascending;
}
  where
    later : (c b : Bool) → c ≡ true → (b || c) ≡ true
    later c true h = refl
    later c false h = h

arrival-first : (schema : List Table) (part : Part) (parts : List Part) (r : Arrival) → IsArrival schema (part ∷ []) r → IsArrival schema (part ∷ parts) r
arrival-first schema part parts r is = record {
  table = is.table;
  key = is.key;
  has_key = is.has_key;
  own = is.own;
  some = is.some;
  fit = is.fit;
  only = is.only;
  touched = λ p point inside. let own = is.touched p point inside in first (part.table == r.table && includes r.attrs part.need && in_any part.rects p) (touches parts r.table r.attrs p) own;
  rows = is.rows;
  ascending = is.ascending;
}
  where
    first : (b c : Bool) → (b || false) ≡ true → (b || c) ≡ true
    first true c h = refl
    first false c h = absurd (cc)

-- the rows that came of part i are of what was asked
abbrev pub CameRight : List Table → List Message → ℕ → AskPart → Type 0
CameRight schema ms i ask = AreRows schema ask (arrived_at i ms)

-- they are all rows of these tables that were asked
abbrev pub CameOf : Tables → List Message → ℕ → AskPart → Type 0
CameOf tables ms i ask = arrived_at i ms ≡ asked_rows tables ask

module _ (schema : List Table) (marks : List Mark) (ms : List Message) where
  pub all-arrive : (i : ℕ) (parts : List Part) (meant : List model.Part) (asks : List AskPart) → Asks schema marks meant asks → AllZip (IsPart schema) parts meant → list_all (is_sound_part schema) meant ≡ true
      → list_all (part_needs_own schema) meant ≡ true → EachFrom (CameRight schema ms) i asks → All (IsArrival schema parts) (arrivals_from i schema asks ms)
  all-arrive i parts meant asks nothing zip sound own came = All-nil (IsArrival schema parts)
  all-arrive i [] meant asks (covered m others more free rest) zip sound own came = absurd zip
  all-arrive i (p ∷ parts) meant asks (covered m others more free rest) zip sound own came =
      let s = and_parts (is_sound_part schema m) (list_all (is_sound_part schema) others) sound in
      let o = and_parts (part_needs_own schema m) (list_all (part_needs_own schema) others) own in
      All-weaker (IsArrival schema parts) (IsArrival schema (p ∷ parts)) (arrival-later schema p parts) (arrivals_from i schema more ms) (all-arrive i parts others more rest zip.1 s.1 o.1 came)
  all-arrive i [] meant asks (asked m others ask more is rest) zip sound own came = absurd zip
  all-arrive i (p ∷ parts) meant asks (asked m others ask more is rest) zip sound own came =
      let s = and_parts (is_sound_part schema m) (list_all (is_sound_part schema) others) sound in
      let o = and_parts (part_needs_own schema m) (list_all (part_needs_own schema) others) own in
      All-cons (IsArrival schema (p ∷ parts)) (arrival_of schema ask (arrived_at i ms)) (arrivals_from (i + 1) schema more ms)
      (arrival-first schema p parts (arrival_of schema ask (arrived_at i ms)) (arrival-is schema marks p m ask (arrived_at i ms) (record { is = zip.0; sound = s.0; rest = is }) o.0 came.0))
      (All-weaker (IsArrival schema parts) (IsArrival schema (p ∷ parts)) (arrival-later schema p parts) (arrivals_from (i + 1) schema more ms) (all-arrive (i + 1) parts others more rest zip.1 s.1 o.1 came.1))

  -- of a table that no part names nothing was asked
  others-differ : (i t : ℕ) (meant : List model.Part) (asks : List AskPart) → Asks schema marks meant asks → is_named t meant ≡ false → All (IsOther t) (arrivals_from i schema asks ms)
  others-differ i t meant asks nothing none = All-nil (IsOther t)
  others-differ i t meant asks (covered m others more free rest) none = others-differ i t others more rest (or_parts (m.table == t) (is_named t others) none).1
  others-differ i t meant asks (asked m others ask more is rest) none =
      All-cons (IsOther t) (arrival_of schema ask (arrived_at i ms)) (arrivals_from (i + 1) schema more ms)
      (ap (λ n. n == t) is.table ∙ (or_parts (m.table == t) (is_named t others) none).0) (others-differ (i + 1) t others more rest (or_parts (m.table == t) (is_named t others) none).1)

  -- no point arrives twice, or is held already
  pub all-apart : (i : ℕ) (stamps : Stamps) (regions : List Region) (parts : List Part) (meant : List model.Part) (asks : List AskPart) → Asks schema marks meant asks → AllZip (IsPart schema) parts meant
      → list_all (is_sound_part schema) meant ≡ true → are_different (map (λ (m : model.Part). m.table) meant) ≡ true → KeepsPoints schema (is_held marks) stamps regions → IsStore schema regions
      → AreApart schema regions (arrivals_from i schema asks ms)
  all-apart i stamps regions parts meant asks nothing zip sound differ keeps store t u p point = let le = store.once t u p point in omega (arith, le)
  all-apart i stamps regions [] meant asks (covered m others more free rest) zip sound differ keeps store t u p point = absurd zip
  all-apart i stamps regions (part ∷ parts) meant asks (covered m others more free rest) zip sound differ keeps store t u p point =
      let s = and_parts (is_sound_part schema m) (list_all (is_sound_part schema) others) sound in
      all-apart i stamps regions parts others more rest zip.1 s.1 (rest-differs m others differ) keeps store t u p point
  all-apart i stamps regions [] meant asks (asked m others ask more is rest) zip sound differ keeps store t u p point = absurd zip
  all-apart i stamps regions (part ∷ parts) meant asks (asked m others ask more is rest) zip sound differ keeps store t u p point =
      go (ask.table == t) refl (all-apart (i + 1) stamps regions parts others more rest zip.1 sounds.1 (rest-differs m others differ) keeps store t u p point)
    where
      sounds : (is_sound_part schema m ≡ true) × (list_all (is_sound_part schema) others ≡ true)
      sounds = and_parts (is_sound_part schema m) (list_all (is_sound_part schema) others) sound

      own : arrivals_at (arrival_of schema ask (arrived_at i ms) ∷ []) t u p + occurs regions t u p ≤ 1
      own = arrival-apart schema marks stamps part m ask (arrived_at i ms) regions (record { is = zip.0; sound = sounds.0; rest = is }) keeps store t u p point

      sums : (x n o : ℕ) → n ≡ 0 → (x + 0) + o ≤ 1 → (x + n) + o ≤ 1
      sums x n o none le = omega (arith, none, le)

      less : (n o : ℕ) → n + o ≤ 1 → (0 + n) + o ≤ 1
      less n o le = omega (arith, le)

      go : (b : Bool) → (ask.table == t) ≡ b → arrivals_at (arrivals_from (i + 1) schema more ms) t u p + occurs regions t u p ≤ 1
          → arrivals_at (arrivals_from i schema (ask ∷ more) ms) t u p + occurs regions t u p ≤ 1
      go true same later =
          let at : ask.table ≡ t = grind (arith, nat_tests, same) in
          let free = subst (λ n. is_named n others ≡ false) (sym is.table ∙ at) (first-differs m others differ) in
          sums (if (ask.table == t && ask.attrs == u) && in_any ask.rects p then 1 else 0) (arrivals_at (arrivals_from (i + 1) schema more ms) t u p) (occurs regions t u p)
          (none-at t u p (arrivals_from (i + 1) schema more ms) (others-differ (i + 1) t others more rest free)) own
      go false same later =
          subst (λ b. ((if (b && ask.attrs == u) && in_any ask.rects p then 1 else 0) + arrivals_at (arrivals_from (i + 1) schema more ms) t u p) + occurs regions t u p ≤ 1) (sym same)
          (less (arrivals_at (arrivals_from (i + 1) schema more ms) t u p) (occurs regions t u p) later)

  -- no key arrives twice
  pub all-own : (i : ℕ) (meant : List model.Part) (asks : List AskPart) → Asks schema marks meant asks → are_different (map (λ (m : model.Part). m.table) meant) ≡ true → BringOwnKeys (arrivals_from i schema asks ms)
  all-own i meant asks nothing differ t u k = omega arith
  all-own i meant asks (covered m others more free rest) differ t u k = all-own i others more rest (rest-differs m others differ) t u k
  all-own i meant asks (asked m others ask more is rest) differ t u k = go (ask.table == t) refl (all-own (i + 1) others more rest (rest-differs m others differ) t u k)
    where
      one : (b : Bool) (n : ℕ) → n ≡ 0 → (if b then 1 else 0) + n ≤ 1
      one true n none = omega (arith, none)
      one false n none = omega (arith, none)

      less : (n : ℕ) → n ≤ 1 → 0 + n ≤ 1
      less n le = omega (arith, le)

      go : (b : Bool) → (ask.table == t) ≡ b → keys_at (arrivals_from (i + 1) schema more ms) t u k ≤ 1 → keys_at (arrivals_from i schema (ask ∷ more) ms) t u k ≤ 1
      go true same later =
          let at : ask.table ≡ t = grind (arith, nat_tests, same) in
          let free = subst (λ n. is_named n others ≡ false) (sym is.table ∙ at) (first-differs m others differ) in
          one ((ask.table == t && ask.attrs == u) && has_key (rank ask.attrs (table_at schema ask.table).key) k (arrived_at i ms)) (keys_at (arrivals_from (i + 1) schema more ms) t u k)
          (none-keys t u k (arrivals_from (i + 1) schema more ms) (others-differ (i + 1) t others more rest free))
      go false same later =
          subst (λ b. (if (b && ask.attrs == u) && has_key (rank ask.attrs (table_at schema ask.table).key) k (arrived_at i ms) then 1 else 0) + keys_at (arrivals_from (i + 1) schema more ms) t u k ≤ 1) (sym same)
          (less (keys_at (arrivals_from (i + 1) schema more ms) t u k) later)

  -- each arrives of another table
  pub all-apiece : (i : ℕ) (meant : List model.Part) (asks : List AskPart) → Asks schema marks meant asks → are_different (map (λ (m : model.Part). m.table) meant) ≡ true → AreOfOwnTables (arrivals_from i schema asks ms)
  all-apiece i meant asks nothing differ = tt
  all-apiece i meant asks (covered m others more free rest) differ = all-apiece i others more rest (rest-differs m others differ)
  all-apiece i meant asks (asked m others ask more is rest) differ = (
    subst (λ t. All (IsOther t) (arrivals_from (i + 1) schema more ms)) (sym is.table) (others-differ (i + 1) m.table others more rest (first-differs m others differ)),
    all-apiece (i + 1) others more rest (rest-differs m others differ),
  )

  -- ---- over tables

  module _ (tables : Tables) (are : AreTables schema tables) where
    pub all-came : (i : ℕ) (parts : List Part) (meant : List model.Part) (asks : List AskPart) → Asks schema marks meant asks → AllZip (IsPart schema) parts meant → list_all (is_sound_part schema) meant ≡ true
        → EachFrom (CameOf tables ms) i asks → HaveArrived (told_of tables) (arrivals_from i schema asks ms)
    all-came i parts meant asks nothing zip sound came = All-nil (HasArrived tables)
    all-came i [] meant asks (covered m others more free rest) zip sound came = absurd zip
    all-came i (p ∷ parts) meant asks (covered m others more free rest) zip sound came =
        all-came i parts others more rest zip.1 (and_parts (is_sound_part schema m) (list_all (is_sound_part schema) others) sound).1 came
    all-came i [] meant asks (asked m others ask more is rest) zip sound came = absurd zip
    all-came i (p ∷ parts) meant asks (asked m others ask more is rest) zip sound came =
        let s = and_parts (is_sound_part schema m) (list_all (is_sound_part schema) others) sound in
        All-cons (HasArrived tables) (arrival_of schema ask (arrived_at i ms)) (arrivals_from (i + 1) schema more ms)
        (arrival-rows schema marks tables p m ask (arrived_at i ms) (record { is = zip.0; sound = s.0; rest = is }) are came.0) (all-came (i + 1) parts others more rest zip.1 s.1 came.1)

    -- of each part, the points are held or arrive
    pub there-all : (i : ℕ) (stamps : Stamps) (regions : List Region) (parts : List Part) (meant : List model.Part) (asks : List AskPart) → Asks schema marks meant asks → AllZip (IsPart schema) parts meant
        → list_all (is_sound_part schema) meant ≡ true → list_all (part_needs_own schema) meant ≡ true → are_different (map (λ (m : model.Part). m.table) meant) ≡ true → KeepsPoints schema (is_held marks) stamps regions
        → EachFrom (CameRight schema ms) i asks → EachFrom (CameOf tables ms) i asks → AllZip (IsThere schema tables regions (arrivals_from i schema asks ms)) parts meant
    there-all i stamps regions [] meant asks nothing zip sound owns differ keeps right came = tt
    there-all i stamps regions (p ∷ parts) meant asks nothing zip sound owns differ keeps right came = absurd zip
    there-all i stamps regions [] meant asks (covered m others more free rest) zip sound owns differ keeps right came = absurd zip
    there-all i stamps regions (p ∷ parts) meant asks (covered m others more free rest) zip sound owns differ keeps right came =
        let s = and_parts (is_sound_part schema m) (list_all (is_sound_part schema) others) sound in
        let o = and_parts (part_needs_own schema m) (list_all (part_needs_own schema) others) owns in
        let far = others-differ i p.table others more rest (subst (λ t. is_named t others ≡ false) (sym zip.0.table) (first-differs m others differ)) in (
          record {
            over = part-over schema tables p m zip.0 s.0 are.points;
            brings = record {
              suit = suit-others schema p parts (arrivals_from i schema more ms) (all-arrive i parts others more rest zip.1 s.1 o.1 right) far;
              arrived = all-came i parts others more rest zip.1 s.1 came;
            };
            points = λ r point.
                ap (λ b. is_kept p regions r || (in_any p.rects r && b)) (none-new p.table r (arrivals_from i schema more ms) far)
                ∙ kept-all schema marks stamps regions p m keeps zip.0 free r point;
          },
          there-all i stamps regions parts others more rest zip.1 s.1 o.1 (rest-differs m others differ) keeps right came,
        )
    there-all i stamps regions [] meant asks (asked m others ask more is rest) zip sound owns differ keeps right came = absurd zip
    there-all i stamps regions (p ∷ parts) meant asks (asked m others ask more is rest) zip sound owns differ keeps right came =
        let s = and_parts (is_sound_part schema m) (list_all (is_sound_part schema) others) sound in
        let o = and_parts (part_needs_own schema m) (list_all (part_needs_own schema) others) owns in
        let a : IsRestAsked schema marks p m ask = record { is = zip.0; sound = s.0; rest = is } in
        let none = first-differs m others differ in
        let far = others-differ (i + 1) p.table others more rest (subst (λ t. is_named t others ≡ false) (sym zip.0.table) none) in
        let own = arrival-rows schema marks tables p m ask (arrived_at i ms) a are came.0 in
        let arrived = all-came (i + 1) parts others more rest zip.1 s.1 came.1 in
        let fits = asked-fits schema marks p m ask a in (
          record {
            over = part-over schema tables p m zip.0 s.0 are.points;
            brings = record {
              suit = All-cons (Suits schema p) (arrival_of schema ask (arrived_at i ms)) (arrivals_from (i + 1) schema more ms)
                  (record { fit = fits; only = is.bound; need = λ same. asked-need schema marks p m ask a })
                  (suit-others schema p parts (arrivals_from (i + 1) schema more ms) (all-arrive (i + 1) parts others more rest zip.1 s.1 o.1 right.1) far);
              arrived = All-cons (HasArrived tables) (arrival_of schema ask (arrived_at i ms)) (arrivals_from (i + 1) schema more ms) own arrived;
            };
            points = all-there schema marks stamps p m ask (arrived_at i ms) (arrivals_from (i + 1) schema more ms) regions a keeps far;
          },
          there-later schema tables regions (arrival_of schema ask (arrived_at i ms)) (arrivals_from (i + 1) schema more ms) fits is.bound own parts others zip.1
              (subst (λ t. is_named t others ≡ false) (sym is.table) none)
              (there-all (i + 1) stamps regions parts others more rest zip.1 s.1 o.1 (rest-differs m others differ) keeps right.1 came.1),
        )
