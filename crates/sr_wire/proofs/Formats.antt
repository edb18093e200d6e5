-- The formats of fields and of the items of lists.
use Rattle.std.proofs.Common.{◌≡◌, ℕ, zero, suc, ◌^◌, ◌<◌, ◌≤◌, ◌+◌, Bool, true, false, ltb, List, [], ◌∷◌, ◌++◌, length, Option, Some, None, refl, sym, ap, subst, ◌∙◌, append_assoc, arith}
use Rattle.std.specs.Prelude.{IsTrue, ◌&&◌, ◌==◌, ◌-◌, nat_le, nat_lt, slice_index_or, if◌then◌else◌}
use Rattle.std.specs.Int.{w16, w32}
use Rattle.std.specs.Str.{is_utf8}
use Rattle.std.proofs.lemmas.Bool.{ltb-true, lt-ltb, leb-true, le-ltb, eqb-true, and_from}
use Rattle.std.proofs.lemmas.List.{take_at, drop_at, length-append}
use Rattle.std.specs.Cmp.{first_so, second_so}
use Rattle.sr_cell.specs.declared.fault.Why.{Why}
use Rattle.sr_cell.specs.declared.fault.Why.TheVariants.{LongText, BadToken, Grammar, Deep, UnknownTable, UnknownColumn, Ambiguous, WrongType, OutOfDomain, NotKeyJoin, Repeated, WrongCount, Mixed, TooWide, TooManyTables, NotAWrite, NotAQuery, DuplicateKey, DomainCell, LongCell, KeyChange, TableFull, TooManyChanges, DuplicateName, TooManyColumns, NoKey, BadDomain, BadHeader, BadRecord, BadNumber, BadUtf8, BadNull, NullCell}
use Rattle.sr_cell.specs.declared.fault.Fault.{Fault}
use Rattle.sr_cell.specs.Cells.{Row}
use Rattle.sr_cell.specs.declared.cell.Cell.{Cell}
use Rattle.sr_cell.specs.Columns.{are_bytes}
use Rattle.sr_box.specs.Points.{Rect}
use Rattle.sr_message.specs.declared.message.Holding.{Holding}
use Rattle.sr_message.specs.declared.message.AskPart.{AskPart}
use Rattle.sr_message.specs.declared.message.Tell.{Tell}
use Rattle.sr_bytes.specs.Reading.{Got, give, passing, a_byte, a_number, bytes_that, a_key, a_row, some_rows, some_rects}
use Rattle.sr_bytes.specs.Spelling.{long_bytes, count_bytes, short_count_bytes, cell_bytes, row_bytes, rows_bytes, rects_bytes, is_from_to, has_key_bytes, has_row_bytes, have_rows_bytes, have_rects_bytes}
use Rattle.sr_bytes.specs.Laws.{IsExact}
use Rattle.sr_bytes.proofs.Steps.{step_of, got_value, got_rest, passed, front_bytes, behind}
use Rattle.sr_bytes.proofs.Numbers.{byte_spelled, byte_in_spelled, byte_in_again, short_count_again, short_count_spelled, count_again, count_spelled, long_again, long_spelled, front_spelled}
use Rattle.sr_bytes.proofs.Values.{key_exact, row_exact, rows_exact, rects_exact, counted_exact, listed_exact, counts, counted_bytes, have_counted, listed_bytes}
use Rattle.sr_wire.specs.Kinds.{why_byte, reasons}
use Rattle.sr_wire.specs.Spelling.{flag_bytes, held_attrs_bytes, holding_bytes, part_bytes, after_bytes, tell_bytes, fault_bytes, is_long, is_table, is_client, is_wire, has_held_attrs, has_holding_bytes, has_part_bytes, has_after_bytes, has_tell_bytes}
use Rattle.sr_wire.specs.Reading.{a_long, a_byte_in, a_flag, a_reason, a_fault, a_client, a_wire, a_statement, a_holding, some_holdings, some_attrs, some_held_attrs, a_part, some_parts, after_flag, an_after, a_tell, some_told}
use Rattle.sr_wire.proofs.Fields.{Format, first_of_all, one_spelled, two_spelled, two_again, three_spelled, three_again}

-- ---- numbers

pub long_exact : IsExact a_long long_bytes is_long
long_exact = record {
  again = λ n rest h. long_again n rest (ltb-true n (2 ^ 64) h);
  spelled = λ bytes n rest fits e. let p = long_spelled bytes n rest fits e in (p.0, lt-ltb n (2 ^ 64) p.1);
}

abbrev pub long : Format ℕ
long = record { reader = a_long; bytes_of = long_bytes; has = is_long; exact = long_exact }

abbrev pub byte_bytes : ℕ → List ℕ
byte_bytes n = n ∷ []

pub byte_in_exact : (low high : ℕ) → IsExact (a_byte_in low high) byte_bytes (is_from_to low high)
byte_in_exact low high = record {
  again = λ n rest h. byte_in_again (is_from_to low high) n rest h;
  spelled = λ bytes n rest fits e. byte_in_spelled (is_from_to low high) bytes n rest e;
}

abbrev pub byte_in : ℕ → ℕ → Format ℕ
byte_in low high = record { reader = a_byte_in low high; bytes_of = byte_bytes; has = is_from_to low high; exact = byte_in_exact low high }

pub table_exact : IsExact a_byte byte_bytes is_table
table_exact = record {
  again = λ n rest h. refl;
  spelled = λ bytes n rest fits e.
      let p = byte_spelled bytes n rest e in
      (p, first_so (is_table n) true (front_bytes bytes (n ∷ []) rest p fits));
}

abbrev pub table : Format ℕ
table = record { reader = a_byte; bytes_of = byte_bytes; has = is_table; exact = table_exact }

abbrev fits_count : ℕ → Bool
fits_count n = nat_lt n (2 ^ 32)

pub count_exact : IsExact (a_number w32) count_bytes fits_count
count_exact = record {
  again = λ n rest h. count_again n rest (ltb-true n (2 ^ 32) h);
  spelled = λ bytes n rest fits e. let p = count_spelled bytes n rest fits e in (p.0, lt-ltb n (2 ^ 32) p.1);
}

abbrev count : Format ℕ
count = record { reader = a_number w32; bytes_of = count_bytes; has = fits_count; exact = count_exact }

pub attrs_exact : IsExact some_attrs short_count_bytes (is_from_to 0 4095)
attrs_exact = record {
  again = λ n rest h.
      let few : n ≤ 4095 = leb-true n 4095 (second_so (nat_le 0 n) (nat_le n 4095) h) in
      rw (short_count_again n rest (omega (arith, few)), h) refl;
  spelled = λ bytes n rest fits e.
      let p = passed (is_from_to 0 4095) bytes (a_number w16 bytes) n rest e in
      ((short_count_spelled bytes n rest fits p.0).0, p.1);
}

abbrev attrs : Format ℕ
attrs = record { reader = some_attrs; bytes_of = short_count_bytes; has = is_from_to 0 4095; exact = attrs_exact }

-- the columns of a holding, which over the first wire stands for all
held_exact : (first : Bool)
    → IsExact (if first then give 4095 else some_attrs) (λ a. if first then [] else short_count_bytes a) (λ a. if first then a == 4095 else is_from_to 0 4095 a)
held_exact true = record {
  again = λ n rest h. ap (λ (a : ℕ). Got a rest) (sym (eqb-true n 4095 h));
  spelled = λ bytes n rest fits e. (got_rest 4095 n bytes rest e, subst (λ a. IsTrue (a == 4095)) (got_value 4095 n bytes rest e) refl);
}
held_exact false = attrs_exact

abbrev held_attrs : ℕ → Format ℕ
held_attrs wire = record { reader = some_held_attrs wire; bytes_of = held_attrs_bytes wire; has = has_held_attrs wire; exact = held_exact (wire == 1) }

-- ---- flags, reasons, clients, statements

abbrev any_flag : Bool → Bool
any_flag b = true

flag_at : (n : ℕ) (b : Bool) → IsTrue (is_from_to 0 1 n) → (n == 1) ≡ b → n ∷ [] ≡ flag_bytes b
flag_at zero b h e = ap flag_bytes e
flag_at (suc zero) b h e = ap flag_bytes e
flag_at (suc (suc n)) b h e = absurd (omega (arith, leb-true _ _ (second_so (nat_le 0 (suc (suc n))) (nat_le (suc (suc n)) 1) h)))

pub flag_again : (b : Bool) (rest : List ℕ) → IsTrue (any_flag b) → a_flag (flag_bytes b ++ rest) ≡ Got b rest
flag_again false rest h = refl
flag_again true rest h = refl

pub flag_spelled : (bytes : List ℕ) (b : Bool) (rest : List ℕ) → IsTrue (are_bytes bytes) → a_flag bytes ≡ Got b rest → (bytes ≡ flag_bytes b ++ rest) × IsTrue (any_flag b)
flag_spelled bytes b rest fits e =
    let t = one_spelled (byte_in 0 1) (λ n. n == 1) bytes b rest fits e in
    (t.parts ∙ ap (λ (front : List ℕ). front ++ rest) (flag_at t.first b t.has_first t.is), refl)

abbrev pub flag : Format Bool
flag = record { reader = a_flag; bytes_of = flag_bytes; has = any_flag; exact = record { again = flag_again; spelled = flag_spelled } }

-- reasons that are numbered one by one, from there on
abbrev are_numbered : ℕ → List Why → Bool
are_numbered from [] = true
are_numbered from (w ∷ ws) = (why_byte w == from) && are_numbered (suc from) ws

numbered_at : (from : ℕ) (ws : List Why) (i : ℕ) (d : Why) → IsTrue (are_numbered from ws) → i < length ws → why_byte (slice_index_or ws i d) ≡ from + i
numbered_at from [] i d h lt = absurd (omega arith)
numbered_at from (w ∷ ws) zero d h lt =
    let here : why_byte w ≡ from = eqb-true (why_byte w) from (first_so (why_byte w == from) (are_numbered (suc from) ws) h) in
    omega (arith, here)
numbered_at from (w ∷ ws) (suc i) d h lt =
    let more = numbered_at (suc from) ws i d (second_so (why_byte w == from) (are_numbered (suc from) ws) h) (omega arith) in
    more ∙ omega arith

why_at : (n : ℕ) (w : Why) → IsTrue (is_from_to 1 33 n) → slice_index_or reasons (n - 1) LongText ≡ w → why_byte w ≡ n
why_at n w h e =
    let low : 1 ≤ n = leb-true 1 n (first_so (nat_le 1 n) (nat_le n 33) h) in
    let high : n ≤ 33 = leb-true n 33 (second_so (nat_le 1 n) (nat_le n 33) h) in
    let few : n - 1 < 33 = omega arith in
    let back : 1 + (n - 1) ≡ n = omega arith in
    ap why_byte (sym e) ∙ numbered_at 1 reasons (n - 1) LongText refl few ∙ back

pub why_again : (w : Why) (rest : List ℕ) → a_reason (why_byte w ∷ rest) ≡ Got w rest
why_again LongText rest = refl
why_again BadToken rest = refl
why_again Grammar rest = refl
why_again Deep rest = refl
why_again UnknownTable rest = refl
why_again UnknownColumn rest = refl
why_again Ambiguous rest = refl
why_again WrongType rest = refl
why_again OutOfDomain rest = refl
why_again NotKeyJoin rest = refl
why_again Repeated rest = refl
why_again WrongCount rest = refl
why_again Mixed rest = refl
why_again TooWide rest = refl
why_again TooManyTables rest = refl
why_again NotAWrite rest = refl
why_again NotAQuery rest = refl
why_again DuplicateKey rest = refl
why_again DomainCell rest = refl
why_again LongCell rest = refl
why_again KeyChange rest = refl
why_again TableFull rest = refl
why_again TooManyChanges rest = refl
why_again DuplicateName rest = refl
why_again TooManyColumns rest = refl
why_again NoKey rest = refl
why_again BadDomain rest = refl
why_again BadHeader rest = refl
why_again BadRecord rest = refl
why_again BadNumber rest = refl
why_again BadUtf8 rest = refl
why_again BadNull rest = refl
why_again NullCell rest = refl

abbrev any_why : Why → Bool
any_why w = true

abbrev why_bytes : Why → List ℕ
why_bytes w = why_byte w ∷ []

pub why_spelled : (bytes : List ℕ) (w : Why) (rest : List ℕ) → IsTrue (are_bytes bytes) → a_reason bytes ≡ Got w rest → (bytes ≡ why_bytes w ++ rest) × IsTrue (any_why w)
why_spelled bytes w rest fits e =
    let t = one_spelled (byte_in 1 33) (λ n. slice_index_or reasons (n - 1) LongText) bytes w rest fits e in
    (t.parts ∙ ap (λ (n : ℕ). n ∷ rest) (sym (why_at t.first w t.has_first t.is)), refl)

abbrev why : Format Why
why = record { reader = a_reason; bytes_of = why_bytes; has = any_why; exact = record { again = λ w rest h. why_again w rest; spelled = why_spelled } }

abbrev pub has_fault_bytes : Fault → Bool
has_fault_bytes fault = nat_lt fault.at (2 ^ 32)

abbrev make_fault : Why → ℕ → Fault
make_fault why at = record { why = why; at = at }

pub fault_spelled : (bytes : List ℕ) (f : Fault) (rest : List ℕ) → IsTrue (are_bytes bytes) → a_fault bytes ≡ Got f rest → (bytes ≡ fault_bytes f ++ rest) × IsTrue (has_fault_bytes f)
fault_spelled bytes f rest fits e =
    let t = two_spelled why count make_fault bytes f rest fits e in
    subst (λ v. (bytes ≡ fault_bytes v ++ rest) × IsTrue (has_fault_bytes v)) t.is (t.parts, t.has_second)

abbrev pub fault : Format Fault
fault = record {
  reader = a_fault;
  bytes_of = fault_bytes;
  has = has_fault_bytes;
  exact = record { again = λ f rest h. two_again why count make_fault f.why f.at rest refl h; spelled = fault_spelled };
}

abbrev pub client : Format ℕ
client = byte_in 1 64

abbrev pub wire : Format ℕ
wire = byte_in 1 2

abbrev pub statement_bytes : List ℕ → List ℕ
statement_bytes sql = count_bytes (length sql) ++ sql

abbrev pub has_statement_bytes : List ℕ → Bool
has_statement_bytes sql = is_from_to 0 65536 (length sql) && is_utf8 sql

pub statement_again : (sql rest : List ℕ) → IsTrue (has_statement_bytes sql) → a_statement (statement_bytes sql ++ rest) ≡ Got sql rest
statement_again sql rest h =
    let few = first_so (is_from_to 0 65536 (length sql)) (is_utf8 sql) h in
    let text = second_so (is_from_to 0 65536 (length sql)) (is_utf8 sql) h in
    let high : length sql ≤ 65536 = leb-true (length sql) 65536 (second_so (nat_le 0 (length sql)) (nat_le (length sql) 65536) few) in
    let long : ltb (length (sql ++ rest)) (length sql) ≡ false = le-ltb _ _ (omega (arith, length-append sql rest)) in
    ap a_statement (append_assoc (count_bytes (length sql)) sql rest)
    ∙ rw (count_again (length sql) (sql ++ rest) (omega (arith, high)), few, long, take_at sql rest (length sql) refl, drop_at sql rest (length sql) refl, text) refl

pub statement_spelled : (bytes sql rest : List ℕ) → IsTrue (are_bytes bytes) → a_statement bytes ≡ Got sql rest → (bytes ≡ statement_bytes sql ++ rest) × IsTrue (has_statement_bytes sql)
statement_spelled bytes sql rest fits e =
    let s = step_of (passing (is_from_to 0 65536) (a_number w32) bytes) (bytes_that is_utf8) sql rest e in
    let p = passed (is_from_to 0 65536) bytes (a_number w32 bytes) s.value s.left s.first in
    let n = count_spelled bytes s.value s.left fits p.0 in
    let f = front_spelled is_utf8 s.value s.left sql rest s.second in (
      behind bytes (count_bytes (length sql)) sql s.left rest (n.0 ∙ ap (λ (k : ℕ). count_bytes k ++ s.left) (sym f.count)) f.parts,
      and_from (is_from_to 0 65536 (length sql)) (is_utf8 sql) (rw f.count p.1) f.passes,
    )

abbrev pub statement : Format (List ℕ)
statement = record { reader = a_statement; bytes_of = statement_bytes; has = has_statement_bytes; exact = record { again = statement_again; spelled = statement_spelled } }

-- ---- lists and their items

abbrev key : Format Cell
key = record { reader = a_key; bytes_of = cell_bytes; has = has_key_bytes; exact = key_exact }

abbrev row : Format Row
row = record { reader = a_row; bytes_of = row_bytes; has = has_row_bytes; exact = row_exact }

abbrev pub rows : Format (List Row)
rows = record { reader = some_rows; bytes_of = rows_bytes; has = have_rows_bytes; exact = rows_exact }

abbrev rects : Format (List Rect)
rects = record { reader = some_rects; bytes_of = rects_bytes; has = have_rects_bytes; exact = rects_exact }

abbrev make_holding : ℕ → ℕ → List Rect → Holding
make_holding table attrs rects = record { table = table; attrs = attrs; rects = rects }

holding_again : (w : ℕ) (h : Holding) (rest : List ℕ) → IsTrue (has_holding_bytes w h) → a_holding w (holding_bytes w h ++ rest) ≡ Got h rest
holding_again w h rest has =
    let more = second_so (is_from_to 0 15 h.table) (has_held_attrs w h.attrs && have_rects_bytes h.rects) has in
    three_again (byte_in 0 15) (held_attrs w) rects make_holding h.table h.attrs h.rects rest
    (first_so (is_from_to 0 15 h.table) (has_held_attrs w h.attrs && have_rects_bytes h.rects) has)
    (first_so (has_held_attrs w h.attrs) (have_rects_bytes h.rects) more)
    (second_so (has_held_attrs w h.attrs) (have_rects_bytes h.rects) more)

holding_spelled : (w : ℕ) (bytes : List ℕ) (h : Holding) (rest : List ℕ) → IsTrue (are_bytes bytes) → a_holding w bytes ≡ Got h rest
    → (bytes ≡ holding_bytes w h ++ rest) × IsTrue (has_holding_bytes w h)
holding_spelled w bytes h rest fits e =
    let t = three_spelled (byte_in 0 15) (held_attrs w) rects make_holding bytes h rest fits e in
    subst (λ v. (bytes ≡ holding_bytes w v ++ rest) × IsTrue (has_holding_bytes w v)) t.is (
      t.parts,
      and_from (is_from_to 0 15 t.first) (has_held_attrs w t.second && have_rects_bytes t.third) t.has_first
          (and_from (has_held_attrs w t.second) (have_rects_bytes t.third) t.has_second t.has_third),
    )

pub holding_exact : (w : ℕ) → IsExact (a_holding w) (holding_bytes w) (has_holding_bytes w)
holding_exact w = record { again = holding_again w; spelled = holding_spelled w }

abbrev pub holdings_bytes : ℕ → List Holding → List ℕ
holdings_bytes w = listed_bytes count_bytes (holding_bytes w)

abbrev pub have_holdings_bytes : ℕ → List Holding → Bool
have_holdings_bytes w = have_counted 1 1024 (has_holding_bytes w)

abbrev pub holdings : ℕ → Format (List Holding)
holdings w = record {
  reader = some_holdings w;
  bytes_of = holdings_bytes w;
  has = have_holdings_bytes w;
  exact = listed_exact (2 ^ 32) 1 1024 (a_number w32) count_bytes counts (omega arith) (a_holding w) (holding_bytes w) (has_holding_bytes w) (holding_exact w);
}

abbrev make_part : ℕ → ℕ → List Rect → AskPart
make_part table attrs rects = record { table = table; attrs = attrs; rects = rects }

part_again : (p : AskPart) (rest : List ℕ) → IsTrue (has_part_bytes p) → a_part (part_bytes p ++ rest) ≡ Got p rest
part_again p rest has =
    let more = second_so (is_table p.table) (is_from_to 0 4095 p.attrs && have_rects_bytes p.rects) has in
    three_again table attrs rects make_part p.table p.attrs p.rects rest
    (first_so (is_table p.table) (is_from_to 0 4095 p.attrs && have_rects_bytes p.rects) has)
    (first_so (is_from_to 0 4095 p.attrs) (have_rects_bytes p.rects) more)
    (second_so (is_from_to 0 4095 p.attrs) (have_rects_bytes p.rects) more)

part_spelled : (bytes : List ℕ) (p : AskPart) (rest : List ℕ) → IsTrue (are_bytes bytes) → a_part bytes ≡ Got p rest → (bytes ≡ part_bytes p ++ rest) × IsTrue (has_part_bytes p)
part_spelled bytes p rest fits e =
    let t = three_spelled table attrs rects make_part bytes p rest fits e in
    subst (λ v. (bytes ≡ part_bytes v ++ rest) × IsTrue (has_part_bytes v)) t.is (
      t.parts,
      and_from (is_table t.first) (is_from_to 0 4095 t.second && have_rects_bytes t.third) t.has_first
          (and_from (is_from_to 0 4095 t.second) (have_rects_bytes t.third) t.has_second t.has_third),
    )

pub part_exact : IsExact a_part part_bytes has_part_bytes
part_exact = record { again = part_again; spelled = part_spelled }

abbrev pub parts_bytes : List AskPart → List ℕ
parts_bytes = counted_bytes part_bytes

abbrev pub have_parts_bytes : List AskPart → Bool
have_parts_bytes = have_counted 1 4 has_part_bytes

abbrev pub parts : Format (List AskPart)
parts = record { reader = some_parts; bytes_of = parts_bytes; has = have_parts_bytes; exact = counted_exact 1 4 a_part part_bytes has_part_bytes part_exact }

pub after_again : (a : Option Row) (rest : List ℕ) → IsTrue (has_after_bytes a) → an_after (after_bytes a ++ rest) ≡ Got a rest
after_again None rest h = refl
after_again (Some r) rest h = rw (row_exact.again r rest h) refl

after_behind : (has_row : Bool) (left : List ℕ) (a : Option Row) (rest : List ℕ) → IsTrue (are_bytes left) → after_flag has_row left ≡ Got a rest
    → (flag_bytes has_row ++ left ≡ after_bytes a ++ rest) × IsTrue (has_after_bytes a)
after_behind false left a rest fits e =
    subst (λ v. (0 ∷ left ≡ after_bytes v ++ rest) × IsTrue (has_after_bytes v)) (got_value None a left rest e)
    (ap (λ (t : List ℕ). 0 ∷ t) (got_rest None a left rest e), refl)
after_behind true left a rest fits e =
    let t = one_spelled row Some left a rest fits e in
    subst (λ v. (1 ∷ left ≡ after_bytes v ++ rest) × IsTrue (has_after_bytes v)) t.is (ap (λ (u : List ℕ). 1 ∷ u) t.parts, t.has_first)

pub after_spelled : (bytes : List ℕ) (a : Option Row) (rest : List ℕ) → IsTrue (are_bytes bytes) → an_after bytes ≡ Got a rest → (bytes ≡ after_bytes a ++ rest) × IsTrue (has_after_bytes a)
after_spelled bytes a rest fits e =
    let s = first_of_all flag after_flag bytes a rest fits e in
    let t = after_behind s.value s.left a rest s.fits s.next in
    (s.parts ∙ t.0, t.1)

abbrev after : Format (Option Row)
after = record { reader = an_after; bytes_of = after_bytes; has = has_after_bytes; exact = record { again = after_again; spelled = after_spelled } }

abbrev make_tell : ℕ → Cell → Option Row → Tell
make_tell table key after = record { table = table; key = key; after = after }

tell_again : (t : Tell) (rest : List ℕ) → IsTrue (has_tell_bytes t) → a_tell (tell_bytes t ++ rest) ≡ Got t rest
tell_again t rest has =
    let more = second_so (is_table t.table) (has_key_bytes t.key && has_after_bytes t.after) has in
    three_again table key after make_tell t.table t.key t.after rest
    (first_so (is_table t.table) (has_key_bytes t.key && has_after_bytes t.after) has)
    (first_so (has_key_bytes t.key) (has_after_bytes t.after) more)
    (second_so (has_key_bytes t.key) (has_after_bytes t.after) more)

tell_spelled : (bytes : List ℕ) (t : Tell) (rest : List ℕ) → IsTrue (are_bytes bytes) → a_tell bytes ≡ Got t rest → (bytes ≡ tell_bytes t ++ rest) × IsTrue (has_tell_bytes t)
tell_spelled bytes v rest fits e =
    let t = three_spelled table key after make_tell bytes v rest fits e in
    subst (λ v. (bytes ≡ tell_bytes v ++ rest) × IsTrue (has_tell_bytes v)) t.is (
      t.parts,
      and_from (is_table t.first) (has_key_bytes t.second && has_after_bytes t.third) t.has_first
          (and_from (has_key_bytes t.second) (has_after_bytes t.third) t.has_second t.has_third),
    )

pub tell_exact : IsExact a_tell tell_bytes has_tell_bytes
tell_exact = record { again = tell_again; spelled = tell_spelled }

abbrev pub told_bytes : List Tell → List ℕ
told_bytes = listed_bytes count_bytes tell_bytes

abbrev pub have_told_bytes : List Tell → Bool
have_told_bytes = have_counted 0 10000 has_tell_bytes

abbrev pub told : Format (List Tell)
told = record {
  reader = some_told;
  bytes_of = told_bytes;
  has = have_told_bytes;
  exact = listed_exact (2 ^ 32) 0 10000 (a_number w32) count_bytes counts (omega arith) a_tell tell_bytes has_tell_bytes tell_exact;
}
