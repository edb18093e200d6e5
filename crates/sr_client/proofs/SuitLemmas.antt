-- What is known of messages that were not refused.
use Rattle.std.proofs.Common.{◌≡◌, ℕ, ◌+◌, ◌<◌, ◌≤◌, Bool, true, false, List, [], ◌∷◌, ◌++◌, length, refl, sym, ◌∙◌, ap, subst, arith, Option, Some, None, append_assoc, append-nil, inl, inr}
use Rattle.std.specs.Prelude.{not, ◌&&◌, ◌==◌, ◌⊎◌, nat_lt, nat_le, max, slice_get, if◌then◌else◌}
use Rattle.std.specs.List.{list_all, All}
use Rattle.std.proofs.lemmas.Bool.Decides.{nat_tests}
use Rattle.std.proofs.lemmas.List.Elements.{All-nil, All-cons, All-head, All-tail}
use Rattle.std.proofs.lemmas.Option.{get_or_from_slice_get}
use Rattle.std.specs.Cmp.{first_so, second_so}
use Rattle.std.proofs.lemmas.Bool.{and_from, ltb-false}
use Rattle.sr_rows.proofs.Order.{ascend-tail}
use Rattle.sr_cell.specs.declared.cell.Cell.{Cell}
use Rattle.sr_cell.specs.declared.table.Column.{Column}
use Rattle.sr_cell.specs.declared.table.Table.{Table}
use Rattle.sr_cell.specs.Attrs.{has_column, project_from}
use Rattle.sr_cell.specs.Cells.{Row, cell_at, cell_eq}
use Rattle.sr_cell.specs.Columns.{table_at, is_point, in_column, takes_cell, fits_columns, is_value, are_values}
use Rattle.sr_cell.proofs.Order.{cell_eq-sound}
use Rattle.sr_cell.proofs.Columns.{takes-in, fits-point}
use Rattle.sr_box.specs.Corners.{first_value, have_first}
use Rattle.sr_message.specs.declared.message.AskPart.{AskPart}
use Rattle.sr_message.specs.declared.message.Message.{Message}
use Rattle.sr_message.specs.declared.message.Message.TheVariants.{Hello, Resume, Ask, Write, Welcome, Notice, Rows, Reply, Written, Refused, Lapse}
use Rattle.sr_message.specs.declared.message.Tell.{Tell}
use Rattle.sr_model.specs.Queries.{Query}
use Rattle.sr_model.specs.SortedRows.{ascend, key_lt}
use Rattle.sr_region.specs.Applied.{IsNew}
use Rattle.sr_region.specs.Regions.{rank, is_in, IsRowIn}
use Rattle.sr_store.specs.Noticed.{IsTellOf}
use Rattle.sr_wire.specs.declared.bad_frame.BadFrame.{BadFrame}
use Rattle.sr_wire.specs.declared.bad_frame.BadFrame.TheVariants.{State, Number, Version, Shape}
use Rattle.sr_session.specs.Walks.{Request, AskOut}
use Rattle.sr_session.specs.Misfits.{misfit, or_else, known, version_of, is_ask, is_number, cells_fit, last_row, last_came, goes_on, ask_at, fit_ask, suits, rows_suit, tell_suits, told_suits, tells_ascend}
use Rattle.sr_session.specs.Arrivals.{arrived_at}
use Rattle.sr_session.proofs.ShapeLemmas.{came-append, last_of, last-at}
use Rattle.sr_client.specs.Laying.{TellsRows}
use Rattle.sr_client.specs.Stands.{AreFit}
use Rattle.sr_client.specs.Values.{tells_values, has_values}
use Rattle.sr_client.proofs.PartsLemmas.{apart-numbers}

-- ---- Booleans

pub or-none : (b : Bool) (why : BadFrame) (later : Option BadFrame) → or_else b why later ≡ None → b ≡ false
or-none true why later e = absurd (cc)
or-none false why later e = refl

pub or-later : (b : Bool) (why : BadFrame) (later : Option BadFrame) → or_else b why later ≡ None → later ≡ None
or-later true why later e = absurd (cc)
or-later false why later e = e

pub not-false : (b : Bool) → not b ≡ false → b ≡ true
not-false true e = refl
not-false false e = absurd (cc)

-- ---- what is told

after-new : (table : Table) (key : Cell) (after : Option Row)
    → (elim after as (λ after. Bool) [ None ↦ true | Some row ↦ fits_columns table.columns row && cell_eq (cell_at row table.key) key ]) ≡ true
    → (elim after as (λ after. Bool) [ None ↦ true | Some row ↦ are_values row ]) ≡ true → IsNew table key after
after-new table key None suits values = tt
after-new table key (Some row) suits values = (
  fits-point table.columns row (first_so (fits_columns table.columns row) (cell_eq (cell_at row table.key) key) suits) values,
  cell_eq-sound (cell_at row table.key) key (second_so (fits_columns table.columns row) (cell_eq (cell_at row table.key) key) suits),
)

is-tell : (schema : List Table) (tell : Tell) → tell_suits schema tell ≡ true → tells_values tell ≡ true → IsTellOf schema tell
is-tell schema tell suits values =
    let table : Table = table_at schema tell.table in
    let within : nat_lt tell.table (length schema) ≡ true = first_so (nat_lt tell.table (length schema)) _ suits in
    let rest = second_so (nat_lt tell.table (length schema)) _ suits in
    (grind (arith, nat_tests, within), after-new (table_at schema tell.table) tell.key tell.after (second_so _ _ rest) values)

all-tell : (schema : List Table) (told : List Tell) → list_all (tell_suits schema) told ≡ true → list_all tells_values told ≡ true → All (IsTellOf schema) told
all-tell schema [] suits values = All-nil (IsTellOf schema)
all-tell schema (tell ∷ told) suits values =
    All-cons (IsTellOf schema) tell told
    (is-tell schema tell (first_so (tell_suits schema tell) (list_all (tell_suits schema) told) suits) (first_so (tells_values tell) (list_all tells_values told) values))
    (all-tell schema told (second_so (tell_suits schema tell) (list_all (tell_suits schema) told) suits) (second_so (tells_values tell) (list_all tells_values told) values))

pub are-tells : (schema : List Table) (told : List Tell) → told_suits schema told ≡ true → list_all tells_values told ≡ true → All (IsTellOf schema) told
are-tells schema told suits values = all-tell schema told (first_so (list_all (tell_suits schema) told) (tells_ascend told) suits) values

-- of a notice against which nothing stands
pub fit-tells : (schema : List Table) (out : Option Request) (laid : List Message) (version w : ℕ) (told : List Tell) → misfit schema out laid version (Notice w told) ≡ None → list_all tells_values told ≡ true
    → All (IsTellOf schema) told
fit-tells schema out laid version w told fit values =
    are-tells schema told
    (not-false (told_suits schema told) (or-none (not (told_suits schema told)) Shape None (or-later (nat_le w (known version laid)) Version (or_else (not (told_suits schema told)) Shape None) fit))) values

-- ---- versions

max-least : (a b : ℕ) → a ≤ max a b
max-least a b = grind (arith, nat_tests)

version-least : (m : Message) (v : ℕ) → v ≤ version_of m v
version-least (Notice w told) v = max-least v w
version-least (Lapse w) v = max-least v w
version-least (Rows k part rows) v = omega arith
version-least (Reply k w) v = omega arith
version-least (Written k w) v = omega arith
version-least (Refused k fault) v = omega arith
version-least (Welcome k w kept) v = omega arith
version-least (Hello wire client number) v = omega arith
version-least (Resume wire client number version holdings) v = omega arith
version-least (Ask number fresh parts) v = omega arith
version-least (Write number sql) v = omega arith

pub known-least : (v : ℕ) (ms : List Message) → v ≤ known v ms
known-least v [] = omega arith
known-least v (m ∷ ms) = let one = version-least m v in let more = known-least (version_of m v) ms in omega (arith, one, more)

above : (n k : ℕ) → nat_le n k ≡ false → k < n
above n k e = grind (arith, nat_tests)

pub notice-later : (schema : List Table) (out : Option Request) (laid : List Message) (version w : ℕ) (told : List Tell) → misfit schema out laid version (Notice w told) ≡ None → version < w
notice-later schema out laid version w told fit =
    let least = known-least version laid in
    let up = above w (known version laid) (or-none (nat_le w (known version laid)) Version (or_else (not (told_suits schema told)) Shape None) fit) in
    omega (arith, least, up)

pub lapse-later : (schema : List Table) (out : Option Request) (laid : List Message) (version w : ℕ) → misfit schema out laid version (Lapse w) ≡ None → version < w
lapse-later schema out laid version w fit =
    let least = known-least version laid in
    let up = above w (known version laid) (or-none (nat_le w (known version laid)) Version None fit) in
    omega (arith, least, up)

pub reply-later : (schema : List Table) (out : Option Request) (laid : List Message) (version k w : ℕ) → misfit schema out laid version (Reply k w) ≡ None → version ≤ w
reply-later schema out laid version k w fit =
    let least = known-least version laid in
    let past_state = or-later (not (is_ask out)) State (or_else (not (is_number out k)) Number (or_else (nat_lt w (known version laid)) Version None)) fit in
    let past_number = or-later (not (is_number out k)) Number (or_else (nat_lt w (known version laid)) Version None) past_state in
    let up = ltb-false w (known version laid) (or-none (nat_lt w (known version laid)) Version None past_number) in
    omega (arith, least, up)

-- ---- rows of some columns

first-in : (c : Column) (columns : List Column) → have_first (c ∷ columns) ≡ true → in_column c (first_value c.kind c.lo) ≡ true
first-in c columns first = first_so (in_column c (first_value c.kind c.lo)) (have_first columns) first

-- one cell more of the point
skip-one : (attrs c : ℕ) (v : Cell) (p row : Row) → has_column attrs c ≡ false → project_from (c + 1) attrs p ≡ row → project_from c attrs (v ∷ p) ≡ row
skip-one attrs c v p row lacks rest = rw lacks rest

keep-one : (attrs c : ℕ) (v : Cell) (p row : Row) → has_column attrs c ≡ true → project_from (c + 1) attrs p ≡ row → project_from c attrs (v ∷ p) ≡ v ∷ row
keep-one attrs c v p row has rest = rw has (ap (λ r. v ∷ r) rest)

-- a row of the asked columns is that part of some point
part-of : (attrs c : ℕ) (columns : List Column) (row : Row) → have_first columns ≡ true → cells_fit attrs c columns row ≡ true → are_values row ≡ true
    → (p : Row) × (is_point columns p ≡ true) × (project_from c attrs p ≡ row)
part-of attrs c [] [] first fit values = ([], refl, refl)
part-of attrs c [] (v ∷ row) first fit values = absurd (cc)
part-of attrs c (column ∷ columns) [] first fit values =
    let lacks : not (has_column attrs c) ≡ true = first_so (not (has_column attrs c)) (cells_fit attrs (c + 1) columns []) fit in
    let more = part-of attrs (c + 1) columns [] (second_so (in_column column (first_value column.kind column.lo)) (have_first columns) first) (second_so (not (has_column attrs c)) (cells_fit attrs (c + 1) columns []) fit) refl in
    let own = first-in column columns first in
    let none : has_column attrs c ≡ false = grind (arith, lacks) in (
      first_value column.kind column.lo ∷ more.0,
      and_from (in_column column (first_value column.kind column.lo)) (is_point columns more.0) own more.1,
      skip-one attrs c (first_value column.kind column.lo) more.0 [] none more.2,
    )
part-of attrs c (column ∷ columns) (v ∷ row) first fit values =
    let rest = second_so (in_column column (first_value column.kind column.lo)) (have_first columns) first in
    go (has_column attrs c) refl fit (λ own. part-of attrs (c + 1) columns row rest own (second_so (is_value v) (are_values row) values)) (λ own. part-of attrs (c + 1) columns (v ∷ row) rest own values)
  where
    go : (b : Bool) → has_column attrs c ≡ b → (if b then takes_cell column v && cells_fit attrs (c + 1) columns row else cells_fit attrs (c + 1) columns (v ∷ row)) ≡ true
        → (cells_fit attrs (c + 1) columns row ≡ true → (p : Row) × (is_point columns p ≡ true) × (project_from (c + 1) attrs p ≡ row))
        → (cells_fit attrs (c + 1) columns (v ∷ row) ≡ true → (p : Row) × (is_point columns p ≡ true) × (project_from (c + 1) attrs p ≡ v ∷ row))
        → (p : Row) × (is_point (column ∷ columns) p ≡ true) × (project_from c attrs p ≡ v ∷ row)
    go true has fit with_own without =
        let more = with_own (second_so (takes_cell column v) (cells_fit attrs (c + 1) columns row) fit) in
        let own = takes-in column.kind column.lo column.hi column.nullable v (first_so (takes_cell column v) (cells_fit attrs (c + 1) columns row) fit) (first_so (is_value v) (are_values row) values) in
        (v ∷ more.0, and_from (in_column column v) (is_point columns more.0) own more.1, keep-one attrs c v more.0 row has more.2)
    go false lacks fit with_own without =
        let more = without fit in
        let own = first-in column columns first in (
          first_value column.kind column.lo ∷ more.0,
          and_from (in_column column (first_value column.kind column.lo)) (is_point columns more.0) own more.1,
          skip-one attrs c (first_value column.kind column.lo) more.0 (v ∷ row) lacks more.2,
        )

rows-in : (schema : List Table) (ask : AskPart) (rows : List Row) → have_first (table_at schema ask.table).columns ≡ true → fit_ask schema ask rows ≡ true → list_all are_values rows ≡ true
    → All (IsRowIn (table_at schema ask.table).columns ask.attrs ask.rects) rows
rows-in schema ask [] first fit values = All-nil (IsRowIn (table_at schema ask.table).columns ask.attrs ask.rects)
rows-in schema ask (row ∷ rows) first fit values =
    let cs = (table_at schema ask.table).columns in
    let one : (cells_fit ask.attrs 0 (table_at schema ask.table).columns row && is_in ask.attrs ask.rects row) ≡ true =
    first_so (cells_fit ask.attrs 0 (table_at schema ask.table).columns row && is_in ask.attrs ask.rects row) (fit_ask schema ask rows) fit in
    All-cons (IsRowIn (table_at schema ask.table).columns ask.attrs ask.rects) row rows (
      part-of ask.attrs 0 cs row first (first_so (cells_fit ask.attrs 0 cs row) (is_in ask.attrs ask.rects row) one) (first_so (are_values row) (list_all are_values rows) values),
      second_so (cells_fit ask.attrs 0 cs row) (is_in ask.attrs ask.rects row) one,
    )
    (rows-in schema ask rows first (second_so (cells_fit ask.attrs 0 cs row && is_in ask.attrs ask.rects row) (fit_ask schema ask rows) fit) (second_so (are_values row) (list_all are_values rows) values))

-- ---- all rows that are laid by

all-append : (P : Row → Type 0) (xs ys : List Row) → All P xs → All P ys → All P (xs ++ ys)
all-append P [] ys a b = b
all-append P (x ∷ xs) ys a b = All-cons P x (xs ++ ys) (All-head P x xs a) (all-append P xs ys (All-tail P x xs a) b)

last-behind : (r : Row) (rows : List Row) (s : Row) (more : List Row) → last_of r (rows ++ s ∷ more) ≡ last_of s more
last-behind r [] s more = refl
last-behind r (x ∷ rows) s more = last-behind x rows s more

ascend-join : (key : ℕ) (r : Row) (rows more : List Row) → ascend key (r ∷ rows) ≡ true → ascend key (last_of r rows ∷ more) ≡ true → ascend key ((r ∷ rows) ++ more) ≡ true
ascend-join key r [] more a b = b
ascend-join key r (s ∷ rows) more a b =
    let one : key_lt key r s ≡ true = first_so (key_lt key r s) (ascend key (s ∷ rows)) a in
    let rest = ascend-join key s rows more (second_so (key_lt key r s) (ascend key (s ∷ rows)) a) b in
    rw (one, rest) refl

-- the last row that came is the last of these, which are of part i, or of a later part
abbrev Behind : ℕ → List Row → Option (ℕ × Row) → Type 0
Behind i [] last = Unit {0}
Behind i (r ∷ rows) None = ⊥
Behind i (r ∷ rows) (Some last) = ((last.0 ≡ i) × (last.1 ≡ last_of r rows)) ⊎ (i < last.0)

goes-alone : (key i : ℕ) (last : Option (ℕ × Row)) (rows : List Row) → goes_on key i last rows ≡ true → ascend key rows ≡ true
goes-alone key i None rows goes = goes
goes-alone key i (Some last) rows goes = go (last.0 == i) goes
  where
    go : (b : Bool) → (if b then ascend key (last.1 ∷ rows) else (nat_lt last.0 i && ascend key rows)) ≡ true → ascend key rows ≡ true
    go true goes = ascend-tail key last.1 rows goes
    go false goes = second_so (nat_lt last.0 i) (ascend key rows) goes

-- rows of part i behind others of it
goes-join : (key i : ℕ) (acc : List Row) (last : Option (ℕ × Row)) (rows : List Row) → Behind i acc last → ascend key acc ≡ true → goes_on key i last rows ≡ true → ascend key (acc ++ rows) ≡ true
goes-join key i [] last rows behind a goes = goes-alone key i last rows goes
goes-join key i (r ∷ acc) None rows behind a goes = absurd behind
goes-join key i (r ∷ acc) (Some last) rows (inl own) a goes = go (last.0 == i) refl goes
  where
    go : (b : Bool) → (last.0 == i) ≡ b → (if b then ascend key (last.1 ∷ rows) else (nat_lt last.0 i && ascend key rows)) ≡ true → ascend key ((r ∷ acc) ++ rows) ≡ true
    go true is goes = ascend-join key r acc rows a (subst (λ (x : Row). ascend key (x ∷ rows) ≡ true) own.1 goes)
    go false is goes = absurd (apart-numbers last.0 i is own.0)
goes-join key i (r ∷ acc) (Some last) rows (inr later) a goes = go (last.0 == i) refl (nat_lt last.0 i) refl goes
  where
    go : (b : Bool) → (last.0 == i) ≡ b → (c : Bool) → nat_lt last.0 i ≡ c → (if b then ascend key (last.1 ∷ rows) else (c && ascend key rows)) ≡ true → ascend key ((r ∷ acc) ++ rows) ≡ true
    go true is c less goes = absurd (let same : last.0 ≡ i = grind (arith, nat_tests, is) in omega (arith, same, later))
    go false is true less goes = absurd (let before : last.0 < i = grind (arith, nat_tests, less) in omega (arith, before, later))
    go false is false less goes = absurd (let wrong : false ≡ true = goes in cc)

behind-more : (i : ℕ) (acc : List Row) (last : Option (ℕ × Row)) (rows : List Row) → Behind i acc last → Behind i (acc ++ rows) (last_row last i rows)
behind-more i acc last [] behind = subst (λ (xs : List Row). Behind i xs last) (sym (append-nil acc)) behind
behind-more i [] last (s ∷ more) behind = inl (refl, last-at s more)
behind-more i (r ∷ acc) last (s ∷ more) behind = inl (refl, last-at s more ∙ sym (last-behind r acc s more))

-- rows of another part, which is a later one where some of part i have come
behind-other : (key i part : ℕ) (acc : List Row) (last : Option (ℕ × Row)) (rows : List Row) → (part ≡ i → ⊥) → goes_on key part last rows ≡ true → Behind i acc last → Behind i acc (last_row last part rows)
behind-other key i part acc last [] other goes behind = behind
behind-other key i part [] last (s ∷ more) other goes behind = tt
behind-other key i part (r ∷ acc) None (s ∷ more) other goes behind = absurd behind
behind-other key i part (r ∷ acc) (Some last) (s ∷ more) other goes behind = inr (go (last.0 == part) refl goes behind)
  where
    go : (b : Bool) → (last.0 == part) ≡ b → (if b then ascend key (last.1 ∷ s ∷ more) else (nat_lt last.0 part && ascend key (s ∷ more))) ≡ true
        → ((last.0 ≡ i) × (last.1 ≡ last_of r acc)) ⊎ (i < last.0) → i < part
    go true is goes (inl own) = let at : last.0 ≡ part = grind (arith, nat_tests, is) in absurd (other (sym at ∙ own.0))
    go true is goes (inr later) = let at : last.0 ≡ part = grind (arith, nat_tests, is) in omega (arith, at, later)
    go false is goes (inl own) =
        let test = first_so (nat_lt last.0 part) (ascend key (s ∷ more)) goes in
        let before : last.0 < part = grind (arith, nat_tests, test) in
        let at = own.0 in omega (arith, before, at)
    go false is goes (inr later) =
        let test = first_so (nat_lt last.0 part) (ascend key (s ∷ more)) goes in
        let before : last.0 < part = grind (arith, nat_tests, test) in omega (arith, before, later)

-- what is known of the rows that came
pub record AreRows (schema : List Table) (ask : AskPart) (rows : List Row) : Type 0 where
  pub each : All (IsRowIn (table_at schema ask.table).columns ask.attrs ask.rects) rows
  pub ascending : ascend (rank ask.attrs (table_at schema ask.table).key) rows ≡ true

-- part number i of what was asked is this one
module _ (schema : List Table) (asks : List AskPart) (number query version : ℕ) (meaning : Query) (fresh : Bool) (i : ℕ) (ask : AskPart) (at : slice_get asks i ≡ Some ask)
    (first : have_first (table_at schema ask.table).columns ≡ true) where
  abbrev out : Option Request
  out = Some (AskOut number query meaning fresh asks)

  abbrev key : ℕ
  key = rank ask.attrs (table_at schema ask.table).key

  asked-at : ask_at asks i ≡ ask
  asked-at = get_or_from_slice_get asks i ask (record { table = 0; attrs = 0; rects = [] }) at

  -- rows that came suit what was asked
  rows-fit : (pre : List Message) (k part : ℕ) (rows : List Row) (last : Option (ℕ × Row)) → misfit schema out pre version (Rows k part rows) ≡ None → last_came None pre ≡ last
      → (fit_ask schema (ask_at asks part) rows && goes_on (rank (ask_at asks part).attrs (table_at schema (ask_at asks part).table).key) part last rows) ≡ true
  rows-fit pre k part rows last fit came =
      second_so (nat_lt part (length asks)) _ (subst (λ l. suits schema asks l part rows ≡ true) came
      (not-false (rows_suit schema asks pre part rows) (or-none (not (rows_suit schema asks pre part rows)) Shape None
      (or-later (not (k == number)) Number (or_else (not (rows_suit schema asks pre part rows)) Shape None) fit))))

  -- rows of this part
  rows-own : (pre : List Message) (acc : List Row) (last : Option (ℕ × Row)) (k part : ℕ) (rows : List Row) → misfit schema out pre version (Rows k part rows) ≡ None → last_came None pre ≡ last
      → list_all are_values rows ≡ true → part ≡ i → Behind i acc last → AreRows schema ask acc → AreRows schema ask (acc ++ rows)
  rows-own pre acc last k part rows fit came values own behind a = record {
    each = all-append (IsRowIn (table_at schema ask.table).columns ask.attrs ask.rects) acc rows a.each (rows-in schema ask rows first (first_so (fit_ask schema ask rows) (goes_on key i last rows) here) values);
    ascending = goes-join key i acc last rows behind a.ascending (second_so (fit_ask schema ask rows) (goes_on key i last rows) here);
  }
    where
      here : (fit_ask schema ask rows && goes_on key i last rows) ≡ true
      here =
          subst (λ (x : AskPart). (fit_ask schema x rows && goes_on (rank x.attrs (table_at schema x.table).key) i last rows) ≡ true) asked-at
          (subst (λ n. (fit_ask schema (ask_at asks n) rows && goes_on (rank (ask_at asks n).attrs (table_at schema (ask_at asks n).table).key) n last rows) ≡ true) own (rows-fit pre k part rows last fit came))

  -- what comes leads on the last row
  came-on : (pre : List Message) (m : Message) (last : Option (ℕ × Row)) → last_came None pre ≡ last → last_came None (pre ++ m ∷ []) ≡ last_came last (m ∷ [])
  came-on pre m last came = came-append None pre (m ∷ []) ∙ ap (λ l. last_came l (m ∷ [])) came

  rows-on : (pre ms : List Message) (acc : List Row) (last : Option (ℕ × Row)) → AreFit schema out version pre ms → last_came None pre ≡ last → list_all has_values ms ≡ true → Behind i acc last
      → AreRows schema ask acc → AreRows schema ask (acc ++ arrived_at i ms)
  rows-on pre [] acc last fit came values behind a = subst (AreRows schema ask) (sym (append-nil acc)) a
  rows-on pre (Rows k part rows ∷ ms) acc last fit came values behind a =
      go (part == i) refl
      (λ own. rows-on (pre ++ Rows k part rows ∷ []) ms (acc ++ rows) (last_row last part rows) fit.1 (came-on pre (Rows k part rows) last came) others
      (subst (λ n. Behind i (acc ++ rows) (last_row last n rows)) (sym own) (behind-more i acc last rows behind)) (rows-own pre acc last k part rows fit.0 came own-values own behind a))
      (λ is. rows-on (pre ++ Rows k part rows ∷ []) ms acc (last_row last part rows) fit.1 (came-on pre (Rows k part rows) last came) others
      (behind-other (rank (ask_at asks part).attrs (table_at schema (ask_at asks part).table).key) i part acc last rows (apart-numbers part i is)
      (second_so (fit_ask schema (ask_at asks part) rows) _ (rows-fit pre k part rows last fit.0 came)) behind) a)
    where
      own-values : list_all are_values rows ≡ true
      own-values = first_so (list_all are_values rows) (list_all has_values ms) values

      others : list_all has_values ms ≡ true
      others = second_so (list_all are_values rows) (list_all has_values ms) values

      go : (b : Bool) → (part == i) ≡ b → (part ≡ i → AreRows schema ask ((acc ++ rows) ++ arrived_at i ms)) → ((part == i) ≡ false → AreRows schema ask (acc ++ arrived_at i ms))
          → AreRows schema ask (acc ++ ((if b then rows else []) ++ arrived_at i ms))
      go true is own other = subst (AreRows schema ask) (append_assoc acc rows (arrived_at i ms)) (own (grind (arith, nat_tests, is)))
      go false is own other = other is
  rows-on pre (Notice w told ∷ ms) acc last fit came values behind a =
      rows-on (pre ++ Notice w told ∷ []) ms acc last fit.1 (came-on pre (Notice w told) last came) (second_so (list_all tells_values told) (list_all has_values ms) values) behind a
  rows-on pre (Lapse w ∷ ms) acc last fit came values behind a = rows-on (pre ++ Lapse w ∷ []) ms acc last fit.1 (came-on pre (Lapse w) last came) values behind a
  rows-on pre (Reply k w ∷ ms) acc last fit came values behind a = rows-on (pre ++ Reply k w ∷ []) ms acc last fit.1 (came-on pre (Reply k w) last came) values behind a
  rows-on pre (Written k w ∷ ms) acc last fit came values behind a = rows-on (pre ++ Written k w ∷ []) ms acc last fit.1 (came-on pre (Written k w) last came) values behind a
  rows-on pre (Refused k fault ∷ ms) acc last fit came values behind a = rows-on (pre ++ Refused k fault ∷ []) ms acc last fit.1 (came-on pre (Refused k fault) last came) values behind a
  rows-on pre (Welcome k w kept ∷ ms) acc last fit came values behind a = rows-on (pre ++ Welcome k w kept ∷ []) ms acc last fit.1 (came-on pre (Welcome k w kept) last came) values behind a
  rows-on pre (Hello wire client n ∷ ms) acc last fit came values behind a = absurd (let wrong = fit.0 in cc)
  rows-on pre (Resume wire client n v holdings ∷ ms) acc last fit came values behind a = absurd (let wrong = fit.0 in cc)
  rows-on pre (Ask n mode parts ∷ ms) acc last fit came values behind a = absurd (let wrong = fit.0 in cc)
  rows-on pre (Write n sql ∷ ms) acc last fit came values behind a = absurd (let wrong = fit.0 in cc)

  -- all rows of this part that were laid by
  pub laid-rows : (laid : List Message) → AreFit schema out version [] laid → list_all has_values laid ≡ true → AreRows schema ask (arrived_at i laid)
  laid-rows laid fit values = rows-on [] laid [] None fit refl values tt (record { each = All-nil (IsRowIn (table_at schema ask.table).columns ask.attrs ask.rects); ascending = refl })

-- ---- notices that are laid by

pub laid-tells : (schema : List Table) (out : Option Request) (version : ℕ) (pre ms : List Message) → AreFit schema out version pre ms → list_all has_values ms ≡ true → All (TellsRows schema) ms
laid-tells schema out version pre [] fit values = All-nil (TellsRows schema)
laid-tells schema out version pre (Notice w told ∷ ms) fit values =
    All-cons (TellsRows schema) (Notice w told) ms (fit-tells schema out pre version w told fit.0 (first_so (list_all tells_values told) (list_all has_values ms) values))
    (laid-tells schema out version (pre ++ Notice w told ∷ []) ms fit.1 (second_so (list_all tells_values told) (list_all has_values ms) values))
laid-tells schema out version pre (Rows k part rows ∷ ms) fit values =
    All-cons (TellsRows schema) (Rows k part rows) ms tt (laid-tells schema out version (pre ++ Rows k part rows ∷ []) ms fit.1 (second_so (list_all are_values rows) (list_all has_values ms) values))
laid-tells schema out version pre (Lapse w ∷ ms) fit values = All-cons (TellsRows schema) (Lapse w) ms tt (laid-tells schema out version (pre ++ Lapse w ∷ []) ms fit.1 values)
laid-tells schema out version pre (Reply k w ∷ ms) fit values = All-cons (TellsRows schema) (Reply k w) ms tt (laid-tells schema out version (pre ++ Reply k w ∷ []) ms fit.1 values)
laid-tells schema out version pre (Written k w ∷ ms) fit values = All-cons (TellsRows schema) (Written k w) ms tt (laid-tells schema out version (pre ++ Written k w ∷ []) ms fit.1 values)
laid-tells schema out version pre (Refused k fault ∷ ms) fit values = All-cons (TellsRows schema) (Refused k fault) ms tt (laid-tells schema out version (pre ++ Refused k fault ∷ []) ms fit.1 values)
laid-tells schema out version pre (Welcome k w kept ∷ ms) fit values = All-cons (TellsRows schema) (Welcome k w kept) ms tt (laid-tells schema out version (pre ++ Welcome k w kept ∷ []) ms fit.1 values)
laid-tells schema out version pre (Hello wire client n ∷ ms) fit values = absurd (let wrong = fit.0 in cc)
laid-tells schema out version pre (Resume wire client n v holdings ∷ ms) fit values = absurd (let wrong = fit.0 in cc)
laid-tells schema out version pre (Ask n mode parts ∷ ms) fit values = absurd (let wrong = fit.0 in cc)
laid-tells schema out version pre (Write n sql ∷ ms) fit values = absurd (let wrong = fit.0 in cc)

-- one more is laid by
pub fit-more : (schema : List Table) (out : Option Request) (version : ℕ) (pre ms : List Message) (m : Message) → AreFit schema out version pre ms → misfit schema out (pre ++ ms) version m ≡ None → AreFit schema out version pre (ms ++ m ∷ [])
fit-more schema out version pre [] m fit one = (subst (λ laid. misfit schema out laid version m ≡ None) (append-nil pre) one, tt)
fit-more schema out version pre (x ∷ ms) m fit one =
    (fit.0, fit-more schema out version (pre ++ x ∷ []) ms m fit.1 (subst (λ laid. misfit schema out laid version m ≡ None) (sym (append_assoc pre (x ∷ []) ms)) one))
