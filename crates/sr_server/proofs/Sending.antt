-- What a server sends is inside the limits of the format.
use Rattle.std.proofs.Common.{◌≡◌, ℕ, ℤ, zero, suc, ◌+◌, ◌-◌, ◌≤◌, ◌<◌, Bool, true, false, List, [], ◌∷◌, ◌++◌, length, map, take, drop, refl, sym, ◌∙◌, ap, subst, arith, Option, Some, None, Result, Ok, Err}
use Rattle.std.specs.Prelude.{◌&&◌, not, nat_le, nat_lt, filter, find, slice_get, if◌then◌else◌}
use Rattle.std.specs.List.{list_all, All}
use Rattle.std.specs.Cmp.Derive.{both_true}
use Rattle.std.proofs.lemmas.Bool.{and_parts, leb-true, ltb-true}
use Rattle.std.proofs.lemmas.List.{length-append, length-map}
use Rattle.std.proofs.lemmas.List.Folds.{list_all-append}
use Rattle.std.proofs.lemmas.List.Elements.{All-nil, All-cons, All-append}
use Rattle.sr_cell.specs.declared.cell.Cell.{Cell}
use Rattle.sr_cell.specs.declared.cell.Cell.TheVariants.{Num, Str, Null}
use Rattle.sr_cell.specs.declared.change.Change.{Change}
use Rattle.sr_cell.specs.declared.fault.Fault.{Fault}
use Rattle.sr_cell.specs.declared.table.Column.{Column}
use Rattle.sr_cell.specs.declared.table.Kind.{Kind}
use Rattle.sr_cell.specs.declared.table.Kind.TheVariants.{Num as Numbers, Str as Texts}
use Rattle.sr_cell.specs.declared.table.Table.{Table}
use Rattle.sr_cell.specs.Attrs.{has_column, project, project_from}
use Rattle.sr_cell.specs.Cells.{Row, cell_at, cell_eq}
use Rattle.sr_cell.specs.Columns.{takes_kind, takes_cell, fits_columns, table_at}
use Rattle.sr_cell.specs.Faults.{may_be_null}
use Rattle.sr_cell.proofs.Lists.{list_all-filter}
use Rattle.sr_box.specs.Points.{in_any, rect_fits, constrains_only}
use Rattle.sr_message.specs.declared.message.AskPart.{AskPart}
use Rattle.sr_message.specs.declared.message.Holding.{Holding}
use Rattle.sr_message.specs.declared.message.Message.{Message}
use Rattle.sr_message.specs.declared.message.Message.TheVariants.{Hello, Resume, Ask, Write, Welcome, Notice, Rows, Reply, Written, Refused, Lapse}
use Rattle.sr_message.specs.declared.message.Tell.{Tell}
use Rattle.sr_message.specs.Tells.{tell_of}
use Rattle.sr_subs.specs.Subscription.{touches}
use Rattle.sr_bytes.specs.Spelling.{is_from_to}
use Rattle.sr_bytes.specs.Writing.{may_write_cell, may_write_key, may_write_row}
use Rattle.sr_bytes.proofs.Numbers.{from-to}
use Rattle.sr_wire.specs.Limits.{may_write_after, may_write_tell, IsSendable}
use Rattle.sr_wire.specs.declared.bad_frame.BadFrame.TheVariants.{Direction, State, Shape}
use Rattle.sr_wire.proofs.Sizes.{few_are_sendable}
use Rattle.sr_model.specs.Changes.{changes, changes_at, changes_from, table_changes, all_keys, row_with, same_row, version_at}
use Rattle.sr_model.specs.Queries.{rows_at}
use Rattle.sr_model.specs.SortedRows.{ascend}
use Rattle.sr_model.specs.Statements.{Tables}
use Rattle.sr_query.specs.Bound.{is_table}
use Rattle.sr_session.specs.Misfits.{or_else}
use Rattle.sr_session.specs.Refusals.{part_suits, suits_table, are_columns, server_misfit, has_few_parts}
use Rattle.sr_session.specs.Scenes.{taken}
use Rattle.sr_session.specs.Sessions.{Database, Session, Served, all_changes, asked_rows, closing, closing_if, due, due_if, floor_of, is_lost, newest, notice, notices, pieces, reply_messages, row_messages, serve_ask, serve_push, serve_resume, tables_of, told_at, with_version}
use Rattle.sr_session.proofs.TellLemmas.{keys-all}
use Rattle.sr_session.proofs.TableLemmas.{HasColumns, one-table}
use Rattle.sr_tables.specs.Stored.{are_rows, are_stored}
use Rattle.sr_tables.proofs.Keeping.{fits_columns-long}
use Rattle.sr_server.specs.Servers.{are_few, IsSessionIf, IsSound}

-- ---- rows of a table

pub cell-short : (k : Kind) (low high : ℤ) (nullable : Bool) (v : Cell) → takes_kind k low high nullable v ≡ true → may_write_cell v ≡ true
cell-short Numbers low high nullable (Num n) h = refl
cell-short Numbers low high nullable (Str s) h = absurd (cc)
cell-short Texts low high nullable (Num n) h = refl
cell-short Texts low high nullable (Str s) h = h
cell-short kind low high nullable Null h = refl

pub cells-short : (columns : List Column) (row : Row) → fits_columns columns row ≡ true → list_all may_write_cell row ≡ true
cells-short [] [] fits = refl
cells-short [] (v ∷ row) fits = absurd (cc)
cells-short (c ∷ columns) [] fits = absurd (cc)
cells-short (c ∷ columns) (v ∷ row) fits =
    let p = and_parts (takes_cell c v) (fits_columns columns row) fits in
    both_true (cell-short c.kind c.lo c.hi c.nullable v p.0) (cells-short columns row p.1)

row-may : (table : Table) (row : Row) → HasColumns table → fits_columns table.columns row ≡ true → may_write_row row ≡ true
row-may table row has fits =
    let size = fits_columns-long table.columns row fits in
    let key = has.key in
    let few = has.few in
    both_true (from-to 1 12 (length row) (omega (arith, size, key)) (omega (arith, size, few))) (cells-short table.columns row fits)

-- the cell of a column that is not nullable
one-may : (kind : Kind) (low high : ℤ) (nullable : Bool) (v : Cell) → not nullable ≡ true → takes_kind kind low high nullable v ≡ true → may_write_key v ≡ true
one-may kind low high nullable (Num n) never takes = refl
one-may Numbers low high nullable (Str s) never takes = absurd (cc)
one-may Texts low high nullable (Str s) never takes = takes
one-may Numbers low high true Null never takes = absurd (cc)
one-may Numbers low high false Null never takes = absurd (cc)
one-may Texts low high true Null never takes = absurd (cc)
one-may Texts low high false Null never takes = absurd (cc)

cell-may : (columns : List Column) (row : Row) (c : ℕ) → c < length columns → not (may_be_null (slice_get columns c)) ≡ true → fits_columns columns row ≡ true → may_write_key (cell_at row c) ≡ true
cell-may [] row c below never fits = absurd (omega (arith, below))
cell-may (column ∷ columns) [] c below never fits = absurd (cc)
cell-may (column ∷ columns) (v ∷ row) zero below never fits =
    one-may column.kind column.lo column.hi column.nullable v never (and_parts (takes_cell column v) (fits_columns columns row) fits).0
cell-may (column ∷ columns) (v ∷ row) (suc c) below never fits = cell-may columns row c (omega (arith, below)) never (and_parts (takes_cell column v) (fits_columns columns row) fits).1

abbrev may_key : Table → Row → Bool
may_key table row = may_write_key (cell_at row table.key)

keys-may : (table : Table) (rows : List Row) → is_table table ≡ true → list_all (fits_columns table.columns) rows ≡ true → list_all (may_key table) rows ≡ true
keys-may table [] is fits = refl
keys-may table (row ∷ rows) is fits =
    let s = and_parts (fits_columns table.columns row) (list_all (fits_columns table.columns) rows) fits in
    let has = one-table table is in
    let never : not (may_be_null (slice_get table.columns table.key)) ≡ true = (and_parts _ (not (may_be_null (slice_get table.columns table.key))) is).1 in
    both_true (cell-may table.columns row table.key has.key never s.0) (keys-may table rows is s.1)

-- ---- changes

abbrev may_tell : Change → Bool
may_tell c = may_write_key c.key && may_write_after c.after

found-may : (test : Row → Bool) (rows : List Row) → list_all may_write_row rows ≡ true → may_write_after (find test rows) ≡ true
found-may test [] all = refl
found-may test (r ∷ rows) all = let s = and_parts (may_write_row r) (list_all may_write_row rows) all in go (test r) s.0 (found-may test rows s.1)
  where
    go : (b : Bool) → may_write_row r ≡ true → may_write_after (find test rows) ≡ true → may_write_after (if b then Some r else find test rows) ≡ true
    go true own rest = own
    go false own rest = rest

abbrev change_of : Table → ℕ → List Row → List Row → Row → Change
change_of table t old new row = record { table = t; key = cell_at row table.key; before = row_with table.key (cell_at row table.key) old; after = row_with table.key (cell_at row table.key) new }

rows-may : (table : Table) (rows : List Row) → HasColumns table → list_all (fits_columns table.columns) rows ≡ true → list_all may_write_row rows ≡ true
rows-may table [] has fits = refl
rows-may table (row ∷ rows) has fits =
    let s = and_parts (fits_columns table.columns row) (list_all (fits_columns table.columns) rows) fits in
    both_true (row-may table row has s.0) (rows-may table rows has s.1)

changed-may : (table : Table) (t : ℕ) (old new keys : List Row) → list_all (may_key table) keys ≡ true → list_all may_write_row new ≡ true → list_all may_tell (map (change_of table t old new) keys) ≡ true
changed-may table t old new [] all is = refl
changed-may table t old new (row ∷ keys) all is =
    let s = and_parts (may_key table row) (list_all (may_key table) keys) all in
    both_true (both_true s.0 (found-may (λ r. cell_eq (cell_at r table.key) (cell_at row table.key)) new is)) (changed-may table t old new keys s.1 is)

rows-fit : (table : Table) (rows : List Row) → are_rows table rows ≡ true → list_all (fits_columns table.columns) rows ≡ true
rows-fit table rows are = (and_parts (ascend table.key rows) (list_all (fits_columns table.columns) rows) (and_parts (ascend table.key rows && list_all (fits_columns table.columns) rows) (nat_le (length rows) 65536) are).0).1

changes-may : (t : ℕ) (schema : List Table) (old new : Tables) → list_all is_table schema ≡ true → are_stored schema old ≡ true → are_stored schema new ≡ true → list_all may_tell (changes_from t schema old new) ≡ true
changes-may t [] old new tables was is = refl
changes-may t (table ∷ schema) [] new tables was is = refl
changes-may t (table ∷ schema) (o ∷ old) [] tables was is = refl
changes-may t (table ∷ schema) (o ∷ old) (n ∷ new) tables was is =
    let ts = and_parts (is_table table) (list_all is_table schema) tables in
    let ws = and_parts (are_rows table o) (are_stored schema old) was in
    let ns = and_parts (are_rows table n) (are_stored schema new) is in
    let has = one-table table ts.0 in
    let new_rows = rows-may table n has (rows-fit table n ns.0) in
    let keys = keys-all (may_key table) table.key o n (keys-may table o ts.0 (rows-fit table o ws.0)) (keys-may table n ts.0 (rows-fit table n ns.0)) in
    list_all-append may_tell (table_changes table t o n) (changes_from (t + 1) schema old new)
    ∙ both_true (list_all-filter may_tell (λ (c : Change). not (same_row c.before c.after)) (map (change_of table t o n) (all_keys table.key o n)) (changed-may table t o n (all_keys table.key o n) keys new_rows))
    (changes-may (t + 1) schema old new ts.1 ws.1 ns.1)

all-changes-may : (schema : List Table) (old new : Tables) → list_all is_table schema ≡ true → are_stored schema old ≡ true → are_stored schema new ≡ true → list_all may_tell (changes schema old new) ≡ true
unfolding changes
all-changes-may schema old new tables was is = changes-may 0 schema old new tables was is

-- ---- versions

stored-at : (schema : List Table) (versions : List Tables) (v : ℕ) → list_all (are_stored schema) versions ≡ true → v < length versions → are_stored schema (version_at versions v) ≡ true
stored-at schema [] v all there = absurd (omega (arith, there))
stored-at schema (tables ∷ versions) zero all there = (and_parts (are_stored schema tables) (list_all (are_stored schema) versions) all).0
stored-at schema (tables ∷ versions) (suc v) all there = stored-at schema versions v (and_parts (are_stored schema tables) (list_all (are_stored schema) versions) all).1 (omega (arith, there))

few-at : (schema : List Table) (versions : List Tables) (v : ℕ) → list_all are_few (all_changes schema versions) ≡ true → suc v < length versions → are_few (changes schema (version_at versions v) (version_at versions (suc v))) ≡ true
few-at schema [] v all there = absurd (omega (arith, there))
few-at schema (old ∷ []) v all there = absurd (omega (arith, there))
few-at schema (old ∷ new ∷ versions) zero all there = (and_parts (are_few (changes schema old new)) (list_all are_few (all_changes schema (new ∷ versions))) all).0
few-at schema (old ∷ new ∷ versions) (suc v) all there =
    few-at schema (new ∷ versions) v (and_parts (are_few (changes schema old new)) (list_all are_few (all_changes schema (new ∷ versions))) all).1 (omega (arith, there))

fewer : {X : Type 0} (q : X → Bool) (xs : List X) → length (filter q xs) ≤ length xs
fewer q [] = omega arith
fewer {X} q (x ∷ xs) = go (q x) (fewer q xs)
  where
    go : (b : Bool) → length (filter q xs) ≤ length xs → length (if b then x ∷ filter q xs else filter q xs) ≤ suc (length xs)
    go true le = omega (arith, le)
    go false le = omega (arith, le)

tells-may : (cs : List Change) → list_all may_tell cs ≡ true → list_all may_write_tell (map tell_of cs) ≡ true
tells-may [] all = refl
tells-may (c ∷ cs) all = let s = and_parts (may_tell c) (list_all may_tell cs) all in both_true s.0 (tells-may cs s.1)

-- a notice of what a version changes
notice-sent : (db : Database) (subscription : List Holding) (v : ℕ) → IsSound db → v < newest db → IsSendable (Notice (v + 1) (told_at db subscription (v + 1)))
notice-sent db subscription v sound below =
    let versions = db.versions in
    let some = sound.some in
    let next : v + 1 ≡ suc v = omega arith in
    let last : v + 1 - 1 ≡ v = omega arith in
    let old = stored-at db.schema db.versions v sound.stored (omega (arith, below, some)) in
    let new = stored-at db.schema db.versions (suc v) sound.stored (omega (arith, below, some)) in
    let all : list_all may_tell (changes_at db.schema db.versions (v + 1)) ≡ true =
    subst (λ w. list_all may_tell (changes db.schema (version_at db.versions w) (version_at db.versions (v + 1))) ≡ true) (sym last)
    (subst (λ w. list_all may_tell (changes db.schema (version_at db.versions v) (version_at db.versions w)) ≡ true) (sym next) (all-changes-may db.schema (version_at db.versions v) (version_at db.versions (suc v)) sound.tables old new)) in
    let count : length (changes_at db.schema db.versions (v + 1)) ≤ 10000 =
    subst (λ w. length (changes db.schema (version_at db.versions w) (version_at db.versions (v + 1))) ≤ 10000) (sym last)
    (subst (λ w. length (changes db.schema (version_at db.versions v) (version_at db.versions w)) ≤ 10000) (sym next)
    (leb-true (length (changes db.schema (version_at db.versions v) (version_at db.versions (suc v)))) 10000 (few-at db.schema db.versions v sound.few (omega (arith, below, some))))) in
    let told = filter (touches subscription) (changes_at db.schema db.versions (v + 1)) in
    let size = length-map (filter (touches subscription) (changes_at db.schema db.versions (v + 1))) tell_of in
    let least = fewer (touches subscription) (changes_at db.schema db.versions (v + 1)) in
    few_are_sendable (Notice (v + 1) (told_at db subscription (v + 1)))
    (both_true (from-to 0 10000 (length (told_at db subscription (v + 1))) (omega arith) (omega (arith, size, least, count)))
    (tells-may (filter (touches subscription) (changes_at db.schema db.versions (v + 1))) (list_all-filter may_tell (touches subscription) (changes_at db.schema db.versions (v + 1)) all))) refl

notice-if : (v : ℕ) (told : List Tell) → IsSendable (Notice v told) → All IsSendable (notice v told)
notice-if v [] one = All-nil IsSendable
notice-if v (tell ∷ told) one = All-cons IsSendable (Notice v (tell ∷ told)) [] one (All-nil IsSendable)

notices-sent : (db : Database) (subscription : List Holding) (v n : ℕ) → IsSound db → v + n ≤ newest db → All IsSendable (notices db subscription v n)
notices-sent db subscription v zero sound within = All-nil IsSendable
notices-sent db subscription v (suc n) sound within =
    All-append IsSendable (notice (v + 1) (told_at db subscription (v + 1))) (notices db subscription (v + 1) n)
    (notice-if (v + 1) (told_at db subscription (v + 1)) (notice-sent db subscription v sound (omega (arith, within))))
    (notices-sent db subscription (v + 1) n sound (omega (arith, within)))

one-sent : (m : Message) → IsSendable m → All IsSendable (m ∷ [])
one-sent m is = All-cons IsSendable m [] is (All-nil IsSendable)

due-sent : (db : Database) (session : Session) → IsSound db → session.upto ≤ newest db → All IsSendable (due db session).sent
due-sent db session sound upto = by (is_lost db session)
  where
    by : (lost : Bool) → All IsSendable (due_if lost db session).sent
    by true = one-sent (Lapse (newest db)) (few_are_sendable (Lapse (newest db)) refl refl)
    by false = notices-sent db session.subscription session.upto (newest db - session.upto) sound (omega (arith, upto))

-- ---- the rows of an ask

pub projected-cells : (p : Cell → Bool) (c attrs : ℕ) (row : Row) → list_all p row ≡ true → list_all p (project_from c attrs row) ≡ true
projected-cells p c attrs [] all = refl
projected-cells p c attrs (v ∷ row) all = let s = and_parts (p v) (list_all p row) all in go (has_column attrs c) s.0 (projected-cells p (c + 1) attrs row s.1)
  where
    go : (b : Bool) → p v ≡ true → list_all p (project_from (c + 1) attrs row) ≡ true → list_all p (if b then v ∷ project_from (c + 1) attrs row else project_from (c + 1) attrs row) ≡ true
    go true own rest = both_true own rest
    go false own rest = rest

pub projected-few : (c attrs : ℕ) (row : Row) → length (project_from c attrs row) ≤ length row
projected-few c attrs [] = omega arith
projected-few c attrs (v ∷ row) = go (has_column attrs c) (projected-few (c + 1) attrs row)
  where
    go : (b : Bool) → length (project_from (c + 1) attrs row) ≤ length row → length (if b then v ∷ project_from (c + 1) attrs row else project_from (c + 1) attrs row) ≤ suc (length row)
    go true le = omega (arith, le)
    go false le = omega (arith, le)

pub projected-some : (c attrs k : ℕ) (row : Row) → k < length row → has_column attrs (c + k) ≡ true → 1 ≤ length (project_from c attrs row)
projected-some c attrs k [] there has = absurd (omega (arith, there))
projected-some c attrs k (v ∷ row) there has = go (has_column attrs c) refl k refl (λ j below rest. projected-some (c + 1) attrs j row below rest)
  where
    go : (b : Bool) → has_column attrs c ≡ b → (j : ℕ) → k ≡ j → ((j : ℕ) → j < length row → has_column attrs (c + 1 + j) ≡ true → 1 ≤ length (project_from (c + 1) attrs row))
        → 1 ≤ length (if b then v ∷ project_from (c + 1) attrs row else project_from (c + 1) attrs row)
    go true own j same more = omega arith
    go false own zero same more = absurd (let here : c + k ≡ c = omega (arith, same) in let wrong : true ≡ false = sym has ∙ (ap (has_column attrs) here ∙ own) in cc)
    go false own (suc j) same more = more j (omega (arith, there, same)) (ap (has_column attrs) (let e : c + 1 + j ≡ c + k = omega (arith, same) in e) ∙ has)

projected-may : (table : Table) (attrs : ℕ) (rows : List Row) → HasColumns table → has_column attrs table.key ≡ true → list_all (fits_columns table.columns) rows ≡ true → list_all may_write_row (map (project attrs) rows) ≡ true
projected-may table attrs [] has key fits = refl
projected-may table attrs (row ∷ rows) has key fits =
    let s = and_parts (fits_columns table.columns row) (list_all (fits_columns table.columns) rows) fits in
    let size = fits_columns-long table.columns row s.0 in
    let below = has.key in
    let most = has.few in
    let few = projected-few 0 attrs row in
    let there : 0 + table.key ≡ table.key = omega arith in
    let some = projected-some 0 attrs table.key row (omega (arith, size, below)) (ap (has_column attrs) there ∙ key) in
    both_true (both_true (from-to 1 12 (length (project attrs row)) some (omega (arith, few, size, most))) (projected-cells may_write_cell 0 attrs row (cells-short table.columns row s.0)))
    (projected-may table attrs rows has key s.1)

table-fits : (schema : List Table) (tables : Tables) (t : ℕ) → are_stored schema tables ≡ true → list_all is_table schema ≡ true → t < length schema
    → HasColumns (table_at schema t) × (list_all (fits_columns (table_at schema t).columns) (rows_at tables t) ≡ true)
table-fits [] tables t stored all there = absurd (omega (arith, there))
table-fits (table ∷ schema) [] t stored all there = absurd (cc)
table-fits (table ∷ schema) (rows ∷ tables) zero stored all there =
    (one-table table (and_parts (is_table table) (list_all is_table schema) all).0, rows-fit table rows (and_parts (are_rows table rows) (are_stored schema tables) stored).0)
table-fits (table ∷ schema) (rows ∷ tables) (suc t) stored all there =
    table-fits schema tables t (and_parts (are_rows table rows) (are_stored schema tables) stored).1 (and_parts (is_table table) (list_all is_table schema) all).1 (omega (arith, there))

asked-may : (schema : List Table) (tables : Tables) (ask : AskPart) → are_stored schema tables ≡ true → list_all is_table schema ≡ true → part_suits schema ask ≡ true → list_all may_write_row (asked_rows tables ask) ≡ true
asked-may schema tables ask stored all suits =
    let two = and_parts (nat_lt ask.table (length schema)) (suits_table (table_at schema ask.table) ask) suits in
    let own = and_parts (are_columns ask.attrs (length (table_at schema ask.table).columns) && has_column ask.attrs (table_at schema ask.table).key) (list_all (rect_fits (table_at schema ask.table).columns) ask.rects)
    (and_parts (are_columns ask.attrs (length (table_at schema ask.table).columns) && has_column ask.attrs (table_at schema ask.table).key && list_all (rect_fits (table_at schema ask.table).columns) ask.rects)
    (list_all (constrains_only ask.attrs 0) ask.rects) two.1).0 in
    let key = (and_parts (are_columns ask.attrs (length (table_at schema ask.table).columns)) (has_column ask.attrs (table_at schema ask.table).key) own.0).1 in
    let fits = table-fits schema tables ask.table stored all (ltb-true ask.table (length schema) two.0) in
    projected-may (table_at schema ask.table) ask.attrs (filter (in_any ask.rects) (rows_at tables ask.table)) fits.0 key (list_all-filter (fits_columns (table_at schema ask.table).columns) (in_any ask.rects) (rows_at tables ask.table) fits.1)

-- in pieces
front-may : (n : ℕ) (rows : List Row) → list_all may_write_row rows ≡ true → list_all may_write_row (take n rows) ≡ true
front-may zero rows all = refl
front-may (suc n) [] all = refl
front-may (suc n) (row ∷ rows) all = let s = and_parts (may_write_row row) (list_all may_write_row rows) all in both_true s.0 (front-may n rows s.1)

back-may : (n : ℕ) (rows : List Row) → list_all may_write_row rows ≡ true → list_all may_write_row (drop n rows) ≡ true
back-may zero rows all = all
back-may (suc n) [] all = refl
back-may (suc n) (row ∷ rows) all = back-may n rows (and_parts (may_write_row row) (list_all may_write_row rows) all).1

front-few : (n : ℕ) (rows : List Row) → length (take n rows) ≤ n
front-few zero rows = omega arith
front-few (suc n) [] = omega arith
front-few (suc n) (row ∷ rows) = let few = front-few n rows in omega (arith, few)

pieces-sent : (number i n : ℕ) (rows : List Row) → i ≤ 3 → list_all may_write_row rows ≡ true → All IsSendable (map (Rows number i) (pieces n rows))
pieces-sent number i n [] few all = All-nil IsSendable
pieces-sent number i zero (row ∷ rows) few all = All-nil IsSendable
pieces-sent number i (suc n) (row ∷ rows) few all =
    let s = and_parts (may_write_row row) (list_all may_write_row rows) all in
    let size = front-few 255 rows in
    All-cons IsSendable (Rows number i (row ∷ take 255 rows)) (map (Rows number i) (pieces n (drop 255 rows)))
    (few_are_sendable (Rows number i (row ∷ take 255 rows))
    (both_true (from-to 0 3 i (omega arith) few) (both_true (from-to 1 256 (length (row ∷ take 255 rows)) (omega arith) (omega (arith, size))) (both_true s.0 (front-may 255 rows s.1)))) refl)
    (pieces-sent number i n (drop 255 rows) few (back-may 255 rows s.1))

rows-sent : (schema : List Table) (tables : Tables) (number i : ℕ) (asks : List AskPart) → are_stored schema tables ≡ true → list_all is_table schema ≡ true → i + length asks ≤ 4 → list_all (part_suits schema) asks ≡ true
    → All IsSendable (row_messages tables number i asks)
rows-sent schema tables number i [] stored all few suit = All-nil IsSendable
rows-sent schema tables number i (ask ∷ asks) stored all few suit =
    let s = and_parts (part_suits schema ask) (list_all (part_suits schema) asks) suit in
    All-append IsSendable (map (Rows number i) (pieces (length (asked_rows tables ask)) (asked_rows tables ask))) (row_messages tables number (i + 1) asks)
    (pieces-sent number i (length (asked_rows tables ask)) (asked_rows tables ask) (omega (arith, few)) (asked-may schema tables ask stored all s.0))
    (rows-sent schema tables number (i + 1) asks stored all (omega (arith, few)) s.1)

newest-stored : (db : Database) → IsSound db → are_stored db.schema (tables_of db (newest db)) ≡ true
newest-stored db sound = let some = sound.some in stored-at db.schema db.versions (newest db) sound.stored (omega (arith, some))

reply-sent : (db : Database) (number : ℕ) (parts : List AskPart) → IsSound db → length parts ≤ 4 → list_all (part_suits db.schema) parts ≡ true → All IsSendable (reply_messages db number parts)
reply-sent db number parts sound few suit =
    All-append IsSendable (row_messages (tables_of db (newest db)) number 0 parts) (Reply number (newest db) ∷ [])
    (rows-sent db.schema (tables_of db (newest db)) number 0 parts (newest-stored db sound) sound.tables (omega (arith, few)) suit)
    (one-sent (Reply number (newest db)) (few_are_sendable (Reply number (newest db)) refl refl))

-- ---- requests

ask-sent : (db : Database) (session : Session) (number : ℕ) (fresh : Bool) (parts : List AskPart) → IsSound db → session.upto ≤ newest db → length parts ≤ 4 → list_all (part_suits db.schema) parts ≡ true
    → All IsSendable (serve_ask db session number fresh parts).sent
ask-sent db session number true parts sound upto few suit = reply-sent db number parts sound few suit
ask-sent db session number false parts sound upto few suit =
    All-append IsSendable (due db session).sent (reply_messages db number parts) (due-sent db session sound upto) (reply-sent db number parts sound few suit)

resume-sent : (db : Database) (wire number version : ℕ) (holdings : List Holding) → IsSound db → All IsSendable (serve_resume db wire number version holdings).sent
resume-sent db wire number version holdings sound = by (nat_le version (newest db)) (nat_le (floor_of db) version) refl
  where
    by : (a b : Bool) → nat_le version (newest db) ≡ a
        → All IsSendable (let here : Served = if a && b then record { session = Some (record { wire = wire; subscription = holdings; upto = newest db }); sent = notices db holdings version (newest db - version) ++ Welcome number (newest db) true ∷ [] }
        else record { session = Some (record { wire = wire; subscription = []; upto = newest db }); sent = Welcome number (newest db) false ∷ [] } in here).sent
    by true true is =
        let within = leb-true version (newest db) is in
        All-append IsSendable (notices db holdings version (newest db - version)) (Welcome number (newest db) true ∷ []) (notices-sent db holdings version (newest db - version) sound (omega (arith, within)))
        (one-sent (Welcome number (newest db) true) (few_are_sendable (Welcome number (newest db) true) refl refl))
    by true false is = one-sent (Welcome number (newest db) false) (few_are_sendable (Welcome number (newest db) false) refl refl)
    by false b is = one-sent (Welcome number (newest db) false) (few_are_sendable (Welcome number (newest db) false) refl refl)

-- nothing stands against the message, so it suits the schema
suits-schema : (a b c : Bool) → or_else (not a) Direction (or_else (not b) State (or_else (not c) Shape None)) ≡ None → c ≡ true
suits-schema true true true none = refl
suits-schema true true false none = absurd (cc)
suits-schema true false c none = absurd (cc)
suits-schema false b c none = absurd (cc)

-- what the server makes of a message that it takes
pub taken-sent : (db : Database) (session : Option Session) (client : ℕ) (m : Message) (result : Result Tables Fault) → IsSound db → IsSessionIf db session → IsSound (taken db session m result).database
    → server_misfit db.schema session client m ≡ None → has_few_parts m ≡ true → All IsSendable (taken db session m result).served.sent
taken-sent db None client (Hello wire named number) result sound own later fits few = one-sent (Welcome number (newest db) false) (few_are_sendable (Welcome number (newest db) false) refl refl)
taken-sent db None client (Resume wire named number version holdings) result sound own later fits few = resume-sent db wire number version holdings sound
taken-sent db None client (Ask number fresh parts) result sound own later fits few = All-nil IsSendable
taken-sent db None client (Write number sql) result sound own later fits few = All-nil IsSendable
taken-sent db None client (Welcome number version kept) result sound own later fits few = All-nil IsSendable
taken-sent db None client (Notice version told) result sound own later fits few = All-nil IsSendable
taken-sent db None client (Rows number part rows) result sound own later fits few = All-nil IsSendable
taken-sent db None client (Reply number version) result sound own later fits few = All-nil IsSendable
taken-sent db None client (Written number version) result sound own later fits few = All-nil IsSendable
taken-sent db None client (Refused number fault) result sound own later fits few = All-nil IsSendable
taken-sent db None client (Lapse version) result sound own later fits few = All-nil IsSendable
taken-sent db (Some session) client (Ask number fresh parts) result sound own later fits few =
    ask-sent db session number fresh parts sound own.upto (leb-true (length parts) 4 few) (suits-schema true true (list_all (part_suits db.schema) parts) fits)
taken-sent db (Some session) client (Write number sql) (Ok tables) sound own later fits few =
    let before = own.upto in
    let some = sound.some in
    let more = length-append db.versions (tables ∷ []) in
    All-append IsSendable (due (with_version db tables) session).sent (Written number (newest (with_version db tables)) ∷ []) (due-sent (with_version db tables) session later (omega (arith, before, more)))
    (one-sent (Written number (newest (with_version db tables))) (few_are_sendable (Written number (newest (with_version db tables))) refl refl))
taken-sent db (Some session) client (Write number sql) (Err fault) sound own later fits few = one-sent (Refused number fault) (few_are_sendable (Refused number fault) refl refl)
taken-sent db (Some session) client (Hello wire named number) result sound own later fits few = All-nil IsSendable
taken-sent db (Some session) client (Resume wire named number version holdings) result sound own later fits few = All-nil IsSendable
taken-sent db (Some session) client (Welcome number version kept) result sound own later fits few = All-nil IsSendable
taken-sent db (Some session) client (Notice version told) result sound own later fits few = All-nil IsSendable
taken-sent db (Some session) client (Rows number part rows) result sound own later fits few = All-nil IsSendable
taken-sent db (Some session) client (Reply number version) result sound own later fits few = All-nil IsSendable
taken-sent db (Some session) client (Written number version) result sound own later fits few = All-nil IsSendable
taken-sent db (Some session) client (Refused number fault) result sound own later fits few = All-nil IsSendable
taken-sent db (Some session) client (Lapse version) result sound own later fits few = All-nil IsSendable

-- a notice that tells nothing
closing-sent : (v : ℕ) (told : List Tell) → All IsSendable (closing v told)
closing-sent v [] = one-sent (Notice v []) (few_are_sendable (Notice v []) refl refl)
closing-sent v (tell ∷ told) = All-nil IsSendable

last-sent : (db : Database) (session : Session) (lost : Bool) → All IsSendable (closing_if lost db session)
last-sent db session true = All-nil IsSendable
last-sent db session false = by (nat_lt session.upto (newest db))
  where
    by : (b : Bool) → All IsSendable (if b then closing (newest db) (told_at db session.subscription (newest db)) else [])
    by true = closing-sent (newest db) (told_at db session.subscription (newest db))
    by false = All-nil IsSendable

-- what a push sends
pub push-sent : (db : Database) (session : Session) → IsSound db → session.upto ≤ newest db → All IsSendable (serve_push db session).sent
push-sent db session sound upto =
    All-append IsSendable (due db session).sent (closing_if (is_lost db session) db session) (due-sent db session sound upto) (last-sent db session (is_lost db session))
