-- The items of an ask make the messages of its rows.
use Rattle.std.proofs.Common.{◌≡◌, ℕ, zero, suc, ◌+◌, Bool, true, false, List, [], ◌∷◌, ◌++◌, map, length, take, drop, Option, Some, None, refl, sym, ◌∙◌, ap, subst, arith}
use Rattle.std.specs.Prelude.{◌&&◌, filter, nat_le, not, if◌then◌else◌, option_to_list}
use Rattle.std.specs.List.{list_all}
use Rattle.std.specs.Cmp.{first_so}
use Rattle.std.proofs.lemmas.List.{map-append, length-map, take-map}
use Rattle.sr_cell.specs.declared.cell.Cell.{Cell}
use Rattle.sr_cell.specs.declared.table.Table.{Table}
use Rattle.sr_cell.specs.Cells.{Row, cell_at, cell_le, cell_eq}
use Rattle.sr_cell.specs.Columns.{table_at}
use Rattle.sr_cell.specs.Attrs.{project}
use Rattle.sr_cell.proofs.Order.{cell_eq-refl}
use Rattle.sr_box.specs.Points.{in_any}
use Rattle.sr_message.specs.declared.message.AskPart.{AskPart}
use Rattle.sr_message.specs.declared.message.Message.{Message}
use Rattle.sr_message.specs.declared.message.Message.TheVariants as message
use Rattle.sr_model.specs.Changes.{row_with}
use Rattle.sr_model.specs.Queries.{rows_at}
use Rattle.sr_model.specs.SortedRows.{key_lt, ascend}
use Rattle.sr_rows.proofs.Order.{is_first, key_lt-not, ascend-first, ascend-tail}
use Rattle.sr_log.specs.Held.{Held}
use Rattle.sr_session.specs.Sessions.{pieces, asked_rows, row_messages}
use Rattle.sr_tables.specs.ByKey.{keys_of, rows_with}
use Rattle.sr_tables.specs.Stored.{Stored, are_stored}
use Rattle.sr_tables.proofs.Ascending.{stored-ascending}
use Rattle.sr_outbox.specs.declared.item.Asked.{Asked}
use Rattle.sr_outbox.specs.declared.item.Item.{Item}
use Rattle.sr_outbox.specs.declared.item.Item.TheVariants.{Rows}
use Rattle.sr_outbox.specs.Left.{message_of, messages}
use Rattle.sr_outbox.specs.Items.{key_pieces, asked_of, keys_asked, part_items, row_items}

-- ---- rows that are found by their keys

-- each of the rows is the one of all with its key
abbrev AreFound : ℕ → List Row → List Row → Type 0
AreFound key all [] = Unit {0}
AreFound key all (row ∷ rows) = (row_with key (cell_at row key) all ≡ Some row) × AreFound key all rows

passed-over : (key : ℕ) (r s : Row) → key_lt key r s ≡ true → cell_eq (cell_at r key) (cell_at s key) ≡ false
passed-over key r s lt = let not_le = key_lt-not key r s lt in grind (arith, not_le)

found-behind : (key : ℕ) (r : Row) (all rows : List Row) → is_first key r rows ≡ true → AreFound key all rows → AreFound key (r ∷ all) rows
found-behind key r all [] first found = tt
found-behind key r all (s ∷ rows) first found =
    let lt : key_lt key r s ≡ true = grind arith in
    let others : is_first key r rows ≡ true = grind arith in
    (rw (passed-over key r s lt) found.0, found-behind key r all rows others found.1)

found-all : (key : ℕ) (rows : List Row) → ascend key rows ≡ true → AreFound key rows rows
found-all key [] up = tt
found-all key (r ∷ rows) up =
    (rw (cell_eq-refl (cell_at r key)) refl, found-behind key r rows rows (ascend-first key r rows up) (found-all key rows (ascend-tail key r rows up)))

found-filter : (key : ℕ) (p : Row → Bool) (all rows : List Row) → AreFound key all rows → AreFound key all (filter p rows)
found-filter key p all [] found = tt
found-filter key p all (r ∷ rows) found = by (p r) refl (found-filter key p all rows found.1)
  where
    by : (b : Bool) → p r ≡ b → AreFound key all (filter p rows) → AreFound key all (filter p (r ∷ rows))
    by true is others = rw is (found.0, others)
    by false is others = rw is others

found-drop : (key n : ℕ) (all rows : List Row) → AreFound key all rows → AreFound key all (drop n rows)
found-drop key zero all rows found = found
found-drop key (suc n) all [] found = tt
found-drop key (suc n) all (r ∷ rows) found = found-drop key n all rows found.1

found-take : (key n : ℕ) (all rows : List Row) → AreFound key all rows → AreFound key all (take n rows)
found-take key zero all rows found = tt
found-take key (suc n) all [] found = tt
found-take key (suc n) all (r ∷ rows) found = (found.0, found-take key n all rows found.1)

with-found : (key : ℕ) (all rows : List Row) → AreFound key all rows → rows_with key (keys_of key rows) all ≡ rows
with-found key all [] found = refl
with-found key all (r ∷ rows) found = ap (λ o. option_to_list o ++ rows_with key (keys_of key rows) all) found.0 ∙ ap (λ rs. r ∷ rs) (with-found key all rows found.1)

-- ---- in pieces

drop-map : {X Y : Type 0} (f : X → Y) (n : ℕ) (xs : List X) → drop n (map f xs) ≡ map f (drop n xs)
drop-map {X} {Y} f zero xs = refl
drop-map {X} {Y} f (suc n) [] = refl
drop-map {X} {Y} f (suc n) (x ∷ xs) = drop-map f n xs

-- the rows with these keys, with these columns
abbrev rows_of : ℕ → ℕ → List Row → List Cell → List Row
rows_of key attrs all keys = map (project attrs) (rows_with key keys all)

piece-found : (key attrs : ℕ) (all : List Row) (r : Row) (rows : List Row) → AreFound key all (r ∷ rows)
    → rows_of key attrs all (cell_at r key ∷ take 255 (keys_of key rows)) ≡ project attrs r ∷ take 255 (map (project attrs) rows)
piece-found key attrs all r rows found =
    ap (λ ks. rows_of key attrs all (cell_at r key ∷ ks)) (take-map (λ row. cell_at row key) 255 rows)
    ∙ (ap (map (project attrs)) (with-found key all (r ∷ take 255 rows) (found.0, found-take key 255 all rows found.1))
    ∙ ap (λ rs. project attrs r ∷ rs) (sym (take-map (project attrs) 255 rows)))

pieces-found : (n key attrs : ℕ) (all rows : List Row) → AreFound key all rows → map (rows_of key attrs all) (key_pieces n (keys_of key rows)) ≡ pieces n (map (project attrs) rows)
pieces-found n key attrs all [] found = refl
pieces-found zero key attrs all (r ∷ rows) found = refl
pieces-found (suc n) key attrs all (r ∷ rows) found =
    ap (λ ps. rows_of key attrs all (cell_at r key ∷ take 255 (keys_of key rows)) ∷ ps)
    (ap (λ ks. map (rows_of key attrs all) (key_pieces n ks)) (drop-map (λ row. cell_at row key) 255 rows)
    ∙ (pieces-found n key attrs all (drop 255 rows) (found-drop key 255 all rows found.1) ∙ ap (pieces n) (sym (drop-map (project attrs) 255 rows))))
    ∙ ap (λ p. p ∷ pieces n (drop 255 (map (project attrs) rows))) (piece-found key attrs all r rows found)

-- ---- messages

pieces-made : (tables : Stored) (log : Held) (asked : Asked) (ps : List (List Cell))
    → messages tables log (map (Rows asked) ps)
    ≡ map (message.Rows asked.number asked.part) (map (rows_of (table_at tables.schema asked.table).key asked.attrs (rows_at tables.rows asked.table)) ps)
pieces-made tables log asked [] = refl
pieces-made tables log asked (p ∷ ps) = ap (λ ms. message_of tables log (Rows asked p) ∷ ms) (pieces-made tables log asked ps)

part-made : (tables : Stored) (log : Held) (number i : ℕ) (ask : AskPart) → are_stored tables.schema tables.rows ≡ true
    → messages tables log (part_items tables (asked_of number i ask) ask) ≡ map (message.Rows number i) (pieces (length (asked_rows tables.rows ask)) (asked_rows tables.rows ask))
part-made tables log number i ask stored =
    let key = (table_at tables.schema ask.table).key in
    let all = rows_at tables.rows ask.table in
    let some = filter (in_any ask.rects) all in
    let found = found-filter key (in_any ask.rects) all all (found-all key all (stored-ascending tables.schema tables.rows stored ask.table)) in
    let size : length (keys_of key some) ≡ length (map (project ask.attrs) some) = length-map some (λ row. cell_at row key) ∙ sym (length-map some (project ask.attrs)) in
    pieces-made tables log (asked_of number i ask) (key_pieces (length (keys_of key some)) (keys_of key some))
    ∙ (ap (λ n. map (message.Rows number i) (map (rows_of key ask.attrs all) (key_pieces n (keys_of key some)))) size
    ∙ ap (map (message.Rows number i)) (pieces-found (length (map (project ask.attrs) some)) key ask.attrs all some found))

pub rows-made : (tables : Stored) (log : Held) (number i : ℕ) (asks : List AskPart) → are_stored tables.schema tables.rows ≡ true
    → messages tables log (row_items tables number i asks) ≡ row_messages tables.rows number i asks
rows-made tables log number i [] stored = refl
rows-made tables log number i (ask ∷ asks) stored =
    map-append (message_of tables log) (part_items tables (asked_of number i ask) ask) (row_items tables number (i + 1) asks)
    ∙ (ap (λ ms. ms ++ messages tables log (row_items tables number (i + 1) asks)) (part-made tables log number i ask stored)
    ∙ ap (λ ms. map (message.Rows number i) (pieces (length (asked_rows tables.rows ask)) (asked_rows tables.rows ask)) ++ ms) (rows-made tables log number (i + 1) asks stored))
