-- What comes to a client has short texts, and so has what it holds then.
use Rattle.std.proofs.Common.{◌≡◌, ℕ, ◌+◌, Bool, true, false, List, [], ◌∷◌, ◌++◌, length, refl, sym, ◌∙◌, subst, Option, Some, None}
use Rattle.std.specs.Prelude.{not, ◌&&◌, ◌==◌, nat_lt, nat_le, filter, if◌then◌else◌}
use Rattle.std.specs.List.{list_all}
use Rattle.std.specs.Cmp.{first_so, second_so}
use Rattle.std.specs.Cmp.Derive.{both_true}
use Rattle.std.proofs.lemmas.Bool.{and_parts}
use Rattle.std.proofs.lemmas.List.Folds.{list_all-append}
use Rattle.sr_cell.specs.declared.cell.Cell.{Cell}
use Rattle.sr_cell.specs.declared.table.Column.{Column}
use Rattle.sr_cell.specs.declared.table.Table.{Table}
use Rattle.sr_cell.specs.Attrs.{has_column, project}
use Rattle.sr_cell.specs.Cells.{Row, cell_at, cell_eq}
use Rattle.sr_cell.specs.Columns.{takes_cell, fits_columns, table_at}
use Rattle.sr_cell.proofs.Lists.{list_all-filter}
use Rattle.sr_bytes.specs.Writing.{may_write_cell}
use Rattle.sr_message.specs.declared.message.AskPart.{AskPart}
use Rattle.sr_message.specs.declared.message.Message.{Message}
use Rattle.sr_message.specs.declared.message.Message.TheVariants.{Hello, Resume, Ask, Write, Welcome, Notice, Rows, Reply, Written, Refused, Lapse}
use Rattle.sr_message.specs.declared.message.Tell.{Tell}
use Rattle.sr_model.specs.SortedRows.{with_row, with_rows}
use Rattle.sr_rows.specs.Keys.{without_key}
use Rattle.sr_rows.proofs.Elements.{list_all-with_row}
use Rattle.sr_region.specs.Regions.{rank, is_in}
use Rattle.sr_store.specs.declared.store.Arrival.{Arrival}
use Rattle.sr_store.specs.Brought.{nothing_told, with_cells, after_all, tells, tells_all, stays_beside, arrives_in, arrive_in, IsToldOf}
use Rattle.sr_store.specs.Told.{Told}
use Rattle.sr_wire.specs.declared.bad_frame.BadFrame.TheVariants.{State, Number, Version, Shape}
use Rattle.sr_session.specs.Arrivals.{arrived_at, arrivals_from, arrivals_of}
use Rattle.sr_session.specs.Brought.{told_by, told_by_all, told_by_reply, told_where}
use Rattle.sr_session.specs.Misfits.{misfit, or_else, known, is_ask, is_number, parts_of, cells_fit, ask_at, fit_ask, rows_suit, tell_suits, tells_ascend, told_suits}
use Rattle.sr_session.specs.Rules.{is_given_up}
use Rattle.sr_session.specs.Walks.{Request, AskOut, WriteOut, ResumeOut}
use Rattle.sr_server.proofs.Sending.{cell-short, cells-short, projected-cells}
use Rattle.sr_client.specs.declared.client.Client.{Client}
use Rattle.sr_client.specs.Stands.{AreFit}
use Rattle.sr_client.proofs.ByToldLemmas.{nothing-is-told, told-none}
use Rattle.sr_client.proofs.SuitLemmas.{not-false, or-none, or-later}
use Rattle.sr_calls.specs.Short.{is_short, HoldsShort, TellsShort}

-- ---- rows

rows-short : (key : ℕ) (rows more : List Row) → list_all is_short rows ≡ true → list_all is_short more ≡ true → list_all is_short (with_rows key rows more) ≡ true
rows-short key rows [] own other = own
rows-short key rows (row ∷ more) own other =
    let s = and_parts (is_short row) (list_all is_short more) other in rows-short key (with_row key rows row) more (list_all-with_row is_short key rows row own s.0) s.1

abbrev after_short : Option Row → Bool
after_short None = true
after_short (Some row) = is_short row

abbrev tell_short : Tell → Bool
tell_short tell = after_short tell.after

-- ---- a telling

cells-with : (key a : ℕ) (after : Option Row) (rows : List Row) → after_short after ≡ true → list_all is_short rows ≡ true → list_all is_short (with_cells key a after rows) ≡ true
cells-with key a None rows own all = all
cells-with key a (Some row) rows own all = list_all-with_row is_short key rows (project a row) all (projected-cells may_write_cell 0 a row own)

tell-short : (schema : List Table) (tell : Tell) (told : Told) → tell_short tell ≡ true → TellsShort told → TellsShort (tells schema tell told)
tell-short schema tell told own short t a = go (tell.table == t)
  where
    go : (b : Bool) → list_all is_short (if b then after_all (table_at schema t).key a tell (told t a) else told t a) ≡ true
    go true =
        cells-with (rank a (table_at schema t).key) a tell.after (without_key (rank a (table_at schema t).key) tell.key (told t a)) own
        (list_all-filter is_short (λ row. not (cell_eq (cell_at row (rank a (table_at schema t).key)) tell.key)) (told t a) (short t a))
    go false = short t a

tells-short : (schema : List Table) (all : List Tell) (told : Told) → list_all tell_short all ≡ true → TellsShort told → TellsShort (tells_all schema all told)
tells-short schema [] told own short = short
tells-short schema (tell ∷ more) told own short =
    let s = and_parts (tell_short tell) (list_all tell_short more) own in tells-short schema more (tells schema tell told) s.1 (tell-short schema tell told s.0 short)

abbrev arrival_short : Arrival → Bool
arrival_short r = list_all is_short r.rows

arrives-short : (r : Arrival) (told : Told) → arrival_short r ≡ true → TellsShort told → TellsShort (arrives_in r told)
arrives-short r told own short t a = go (r.table == t && r.attrs == a)
  where
    go : (b : Bool) → list_all is_short (if b then with_rows (rank r.attrs r.key) (filter (stays_beside r) (told t a)) r.rows else told t a) ≡ true
    go true = rows-short (rank r.attrs r.key) (filter (stays_beside r) (told t a)) r.rows (list_all-filter is_short (stays_beside r) (told t a) (short t a)) own
    go false = short t a

arrive-short : (arrivals : List Arrival) (told : Told) → list_all arrival_short arrivals ≡ true → TellsShort told → TellsShort (arrive_in arrivals told)
arrive-short [] told own short = short
arrive-short (r ∷ arrivals) told own short =
    let s = and_parts (arrival_short r) (list_all arrival_short arrivals) own in arrive-short arrivals (arrives_in r told) s.1 (arrives-short r told s.0 short)

pub nothing-short : TellsShort nothing_told
nothing-short t a = refl

-- ---- messages

-- the rows that a message brings, or tells, are short
abbrev brings_short : Message → Bool
brings_short (Notice version told) = list_all tell_short told
brings_short (Rows number part rows) = list_all is_short rows
brings_short other = true

by-short : (schema : List Table) (m : Message) (told : Told) → brings_short m ≡ true → TellsShort told → TellsShort (told_by schema m told)
by-short schema (Notice w all) told own short = tells-short schema all told own short
by-short schema (Lapse w) told own short = nothing-short
by-short schema m told own short = short

all-short : (schema : List Table) (ms : List Message) (told : Told) → list_all brings_short ms ≡ true → TellsShort told → TellsShort (told_by_all schema ms told)
all-short schema [] told own short = short
all-short schema (m ∷ ms) told own short =
    let s = and_parts (brings_short m) (list_all brings_short ms) own in all-short schema ms (told_by schema m told) s.1 (by-short schema m told s.0 short)

arrived-short : (i : ℕ) (ms : List Message) → list_all brings_short ms ≡ true → list_all is_short (arrived_at i ms) ≡ true
arrived-short i [] own = refl
arrived-short i (Rows k part rows ∷ ms) own =
    let s = and_parts (list_all is_short rows) (list_all brings_short ms) own in go (part == i) s.0 (arrived-short i ms s.1)
  where
    go : (b : Bool) → list_all is_short rows ≡ true → list_all is_short (arrived_at i ms) ≡ true → list_all is_short ((if b then rows else []) ++ arrived_at i ms) ≡ true
    go true here rest = list_all-append is_short rows (arrived_at i ms) ∙ both_true here rest
    go false here rest = rest
arrived-short i (m ∷ ms) own = arrived-short i ms (and_parts (brings_short m) (list_all brings_short ms) own).1

arrivals-short : (i : ℕ) (schema : List Table) (asks : List AskPart) (ms : List Message) → list_all brings_short ms ≡ true → list_all arrival_short (arrivals_from i schema asks ms) ≡ true
arrivals-short i schema [] ms own = refl
arrivals-short i schema (ask ∷ asks) ms own = both_true (arrived-short i ms own) (arrivals-short (i + 1) schema asks ms own)

reply-short : (given_up : Bool) (schema : List Table) (parts : List AskPart) (laid : List Message) (told : Told) → list_all brings_short laid ≡ true → TellsShort told
    → TellsShort (told_by_reply given_up schema parts laid told)
reply-short true schema parts laid told own short = nothing-short
reply-short false schema parts laid told own short =
    arrive-short (arrivals_of schema parts laid) (told_by_all schema laid told) (arrivals-short 0 schema parts laid own) (all-short schema laid told own short)

welcome-short : (kept : Bool) (schema : List Table) (laid : List Message) (told : Told) → list_all brings_short laid ≡ true → TellsShort told → TellsShort (if kept then told_by_all schema laid told else nothing_told)
welcome-short true schema laid told own short = all-short schema laid told own short
welcome-short false schema laid told own short = nothing-short

pub where-short : (schema : List Table) (out : Option Request) (laid : List Message) (m : Message) (told : Told) → list_all brings_short laid ≡ true → brings_short m ≡ true → TellsShort told
    → TellsShort (told_where schema out laid m told)
where-short schema None laid m told own one short = by-short schema m told one short
where-short schema (Some (AskOut n q meaning fresh parts)) laid (Reply k w) told own one short = reply-short (is_given_up fresh laid) schema parts laid told own short
where-short schema (Some (AskOut n q meaning fresh parts)) laid (Written k w) told own one short = all-short schema laid told own short
where-short schema (Some (AskOut n q meaning fresh parts)) laid (Refused k fault) told own one short = all-short schema laid told own short
where-short schema (Some (AskOut n q meaning fresh parts)) laid (Welcome k w kept) told own one short = welcome-short kept schema laid told own short
where-short schema (Some (AskOut n q meaning fresh parts)) laid m told own one short = short
where-short schema (Some (WriteOut n)) laid (Written k w) told own one short = all-short schema laid told own short
where-short schema (Some (WriteOut n)) laid (Refused k fault) told own one short = all-short schema laid told own short
where-short schema (Some (WriteOut n)) laid (Welcome k w kept) told own one short = welcome-short kept schema laid told own short
where-short schema (Some (WriteOut n)) laid m told own one short = short
where-short schema (Some (ResumeOut n)) laid (Written k w) told own one short = all-short schema laid told own short
where-short schema (Some (ResumeOut n)) laid (Refused k fault) told own one short = all-short schema laid told own short
where-short schema (Some (ResumeOut n)) laid (Welcome k w kept) told own one short = welcome-short kept schema laid told own short
where-short schema (Some (ResumeOut n)) laid m told own one short = short

-- ---- what is not refused brings short rows

cells-fit-short : (attrs c : ℕ) (columns : List Column) (row : Row) → cells_fit attrs c columns row ≡ true → is_short row ≡ true
cells-fit-short attrs c [] [] fits = refl
cells-fit-short attrs c [] (v ∷ row) fits = absurd (cc)
cells-fit-short attrs c (column ∷ columns) [] fits = refl
cells-fit-short attrs c (column ∷ columns) (v ∷ row) fits =
    go (has_column attrs c) fits (cells-fit-short attrs (c + 1) columns row) (cells-fit-short attrs (c + 1) columns (v ∷ row))
  where
    go : (b : Bool) → (if b then takes_cell column v && cells_fit attrs (c + 1) columns row else cells_fit attrs (c + 1) columns (v ∷ row)) ≡ true
        → (cells_fit attrs (c + 1) columns row ≡ true → is_short row ≡ true) → (cells_fit attrs (c + 1) columns (v ∷ row) ≡ true → is_short (v ∷ row) ≡ true) → is_short (v ∷ row) ≡ true
    go true fits rest all = let s = and_parts (takes_cell column v) (cells_fit attrs (c + 1) columns row) fits in both_true (cell-short column.kind column.lo column.hi column.nullable v s.0) (rest s.1)
    go false fits rest all = all fits

asked-short : (schema : List Table) (ask : AskPart) (rows : List Row) → fit_ask schema ask rows ≡ true → list_all is_short rows ≡ true
asked-short schema ask [] fits = refl
asked-short schema ask (row ∷ rows) fits =
    let s = and_parts (cells_fit ask.attrs 0 (table_at schema ask.table).columns row && is_in ask.attrs ask.rects row) (fit_ask schema ask rows) fits in
    both_true (cells-fit-short ask.attrs 0 (table_at schema ask.table).columns row (and_parts (cells_fit ask.attrs 0 (table_at schema ask.table).columns row) (is_in ask.attrs ask.rects row) s.0).0)
    (asked-short schema ask rows s.1)

after-suits : (table : Table) (key : Cell) (after : Option Row)
    → (elim after as (λ after. Bool) [ None ↦ true | Some row ↦ fits_columns table.columns row && cell_eq (cell_at row table.key) key ]) ≡ true → after_short after ≡ true
after-suits table key None suits = refl
after-suits table key (Some row) suits = cells-short table.columns row (first_so (fits_columns table.columns row) (cell_eq (cell_at row table.key) key) suits)

tell-suits : (schema : List Table) (tell : Tell) → tell_suits schema tell ≡ true → tell_short tell ≡ true
tell-suits schema tell suits =
    let rest = second_so (nat_lt tell.table (length schema)) _ suits in after-suits (table_at schema tell.table) tell.key tell.after (second_so _ _ rest)

told-suits : (schema : List Table) (told : List Tell) → list_all (tell_suits schema) told ≡ true → list_all tell_short told ≡ true
told-suits schema [] suits = refl
told-suits schema (tell ∷ told) suits =
    let s = and_parts (tell_suits schema tell) (list_all (tell_suits schema) told) suits in both_true (tell-suits schema tell s.0) (told-suits schema told s.1)

pub fit-short : (schema : List Table) (out : Option Request) (laid : List Message) (version : ℕ) (m : Message) → misfit schema out laid version m ≡ None → brings_short m ≡ true
fit-short schema out laid version (Notice w told) fit =
    let suits = not-false (told_suits schema told) (or-none (not (told_suits schema told)) Shape None (or-later (nat_le w (known version laid)) Version (or_else (not (told_suits schema told)) Shape None) fit)) in
    told-suits schema told (first_so (list_all (tell_suits schema) told) (tells_ascend told) suits)
fit-short schema out laid version (Rows k part rows) fit =
    let two = or-later (not (is_ask out)) State (or_else (not (is_number out k)) Number (or_else (not (rows_suit schema (parts_of out) laid part rows)) Shape None)) fit in
    let three = or-later (not (is_number out k)) Number (or_else (not (rows_suit schema (parts_of out) laid part rows)) Shape None) two in
    let suits = not-false (rows_suit schema (parts_of out) laid part rows) (or-none (not (rows_suit schema (parts_of out) laid part rows)) Shape None three) in
    asked-short schema (ask_at (parts_of out) part) rows (first_so (fit_ask schema (ask_at (parts_of out) part) rows) _ (second_so (nat_lt part (length (parts_of out))) _ suits))
fit-short schema out laid version m fit = refl

-- all that was laid by
pub laid-short : (schema : List Table) (out : Option Request) (version : ℕ) (pre ms : List Message) → AreFit schema out version pre ms → list_all brings_short ms ≡ true
laid-short schema out version pre [] fit = refl
laid-short schema out version pre (m ∷ ms) fit = both_true (fit-short schema out pre version m fit.0) (laid-short schema out version (pre ++ m ∷ []) ms fit.1)

-- ---- what is held

-- nothing
pub none_held : (c : Client) → c.store.regions ≡ [] → HoldsShort c
none_held c none = record {
  told = nothing_told;
  is = subst (IsToldOf c.schema nothing_told) (sym none) (told-none c.schema nothing_told (nothing-is-told c.schema));
  short = nothing-short;
}
