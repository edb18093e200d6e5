-- The tables that a script makes have names, no two the same, and so have their columns.
use Rattle.std.proofs.Common.{◌≡◌, ℕ, ◌+◌, Bool, true, false, List, [], ◌∷◌, ◌++◌, map, length, not, Option, Some, None, Result, Ok, Err, refl, sym, ap, subst, ◌∙◌, arith, append_assoc, ℤ, pos, negsuc}
use Rattle.std.specs.Prelude.{◌&&◌, ◌||◌, IsTrue, bytes_eq, if◌then◌else◌, nat_le}
use Rattle.std.specs.List.{list_all, list_any}
use Rattle.std.proofs.lemmas.Bool.{and_from, or_parts}
use Rattle.std.proofs.lemmas.Bool.Decides.{nat_tests}
use Rattle.std.proofs.lemmas.List.{map-append}
use Rattle.std.proofs.lemmas.List.Folds.{list_all-append, list_any-append}
use Rattle.std.proofs.lemmas.Slice.Eq.{bytes_eq-Decides}
use Rattle.sr_cell.specs.declared.fault.Fault.{Fault}
use Rattle.sr_cell.specs.declared.fault.Why.{Why}
use Rattle.sr_cell.specs.declared.table.Column.{Column}
use Rattle.sr_cell.specs.declared.table.Kind.{Kind}
use Rattle.sr_cell.specs.declared.table.Kind.TheVariants.{Num, Str}
use Rattle.sr_cell.specs.declared.table.Table.{Table}
use Rattle.sr_cell.specs.Faults.{fault_or}
use Rattle.sr_cell.specs.Names.{has_column_named, has_table_named, repeat_at}
use Rattle.sr_grammar.specs.Tokens.{is_reserved, upper}
use Rattle.sr_print.specs.Writable as writable
use Rattle.sr_print.proofs.AgainDomains.{IsDomain}
use Rattle.sr_print.proofs.AgainRead.{says_created}
use Rattle.sr_print.proofs.AgainTables.{AreSound}
use Rattle.sr_print.proofs.AgainTokens.{both_true, true_both}
use Rattle.sr_lines.specs.Events.{ScriptEvent}
use Rattle.sr_lines.specs.Script.{AddsTable, CreateLine, EventLine, Line, LineDoes, Phase, Reads, Silent, line_of}
use Rattle.sr_script.specs.Printable.{IsNamed, are_different, are_names, has_named_columns, has_signed_ends, in_name, is_name, is_signed}

abbrev table_name : Table → List ℕ
table_name table = table.name

abbrev column_title : Column → List ℕ
column_title column = column.name

-- ---- names

name-byte : (b : ℕ) → writable.goes_on_name b ≡ true → in_name b ≡ true
name-byte b h = grind (arith, nat_tests)

name-bytes : (bytes : List ℕ) → IsTrue (list_all writable.goes_on_name bytes) → IsTrue (list_all in_name bytes)
name-bytes [] h = refl
name-bytes (b ∷ bytes) h =
    let parts = both_true (writable.goes_on_name b) (list_all writable.goes_on_name bytes) h in
    true_both (in_name b) (list_all in_name bytes) (name-byte b parts.0) (name-bytes bytes parts.1)

-- what is written out as a name is one
name-is : (text : List ℕ) → IsTrue (writable.is_name text) → IsTrue (is_name text)
name-is [] h = absurd (cc)
name-is (b ∷ bytes) h =
    let short = nat_le (length (b ∷ bytes)) 64 && not (is_reserved (upper (b ∷ bytes))) in
    let parts = both_true (writable.begins_as_name (b ∷ bytes)) (list_all writable.goes_on_name (b ∷ bytes) && short) h in
    name-bytes (b ∷ bytes) (both_true (list_all writable.goes_on_name (b ∷ bytes)) short parts.1).0

eq-other : (x y : List ℕ) → bytes_eq x y ≡ false → bytes_eq y x ≡ false
eq-other x y h = by (bytes_eq y x) refl
  where
    by : (b : Bool) → bytes_eq y x ≡ b → bytes_eq y x ≡ false
    by false e = e
    by true e =
        let back : bytes_eq x y ≡ true = (bytes_eq-Decides x y).1 (sym ((bytes_eq-Decides y x).0 e)) in
        absurd (let k : true ≡ false = sym back ∙ h in cc k)

-- ---- no two are the same

different-more : (names : List (List ℕ)) (name : List ℕ) → are_different names ≡ true → list_any (bytes_eq name) names ≡ false → are_different (names ++ name ∷ []) ≡ true
different-more [] name h none = refl
different-more (x ∷ names) name h none =
    let parts = both_true (not (list_any (bytes_eq x) names)) (are_different names) h in
    let others = or_parts (bytes_eq name x) (list_any (bytes_eq name) names) none in
    let here : list_any (bytes_eq x) (names ++ name ∷ []) ≡ false =
    list_any-append (bytes_eq x) names (name ∷ []) ∙ neither (list_any (bytes_eq x) names) (bytes_eq x name) parts.0 (eq-other name x others.0) in
    true_both (not (list_any (bytes_eq x) (names ++ name ∷ []))) (are_different (names ++ name ∷ [])) (ap not here) (different-more names name parts.1 others.1)
  where
    neither : (a b : Bool) → not a ≡ true → b ≡ false → (a || (b || false)) ≡ false
    neither true b h e = absurd (cc)
    neither false true h e = absurd (cc)
    neither false false h e = refl

-- no column of the first list has the name
not-named : (front : List Column) (c : Column) (back : List Column) (name : List ℕ) → has_column_named (front ++ c ∷ back) name ≡ false → bytes_eq c.name name ≡ false
not-named [] c back name h = (or_parts (bytes_eq c.name name) (has_column_named back name) h).0
not-named (d ∷ front) c back name h = not-named front c back name (or_parts (bytes_eq d.name name) (has_column_named (front ++ c ∷ back) name) h).1

repeats-not : (named : Bool) (at : ℕ) (later : Option ℕ) → (if named then Some at else later) ≡ None → (named ≡ false) × (later ≡ None)
repeats-not true at later h = absurd (cc)
repeats-not false at later h = (refl, h)

no-later : (front : List Column) (c : Column) (back columns : List Column) → repeat_at (front ++ c ∷ back) columns ≡ None → list_any (bytes_eq c.name) (map column_title columns) ≡ false
no-later front c back [] h = refl
no-later front c back (d ∷ columns) h =
    let parts = repeats-not (has_column_named (front ++ c ∷ back) d.name) (length (front ++ c ∷ back)) (repeat_at ((front ++ c ∷ back) ++ d ∷ []) columns) h in
    let one = not-named front c back d.name parts.0 in
    let more = no-later front c (back ++ d ∷ []) columns (subst (λ (before : List Column). repeat_at before columns ≡ None) (append_assoc front (c ∷ back) (d ∷ [])) parts.1) in
    ap (λ x. x || list_any (bytes_eq c.name) (map column_title columns)) one ∙ more

columns-different : (before columns : List Column) → repeat_at before columns ≡ None → are_different (map column_title columns) ≡ true
columns-different before [] h = refl
columns-different before (c ∷ columns) h =
    let parts = repeats-not (has_column_named before c.name) (length before) (repeat_at (before ++ c ∷ []) columns) h in
    true_both (not (list_any (bytes_eq c.name) (map column_title columns))) (are_different (map column_title columns))
    (ap not (no-later before c [] columns parts.1)) (columns-different (before ++ c ∷ []) columns parts.1)

-- ---- ends of domains

signed-ends : (kind : Kind) (low high : ℤ) → IsDomain kind low high → (is_signed low && is_signed high) ≡ true
signed-ends Str low high (a, b) = rw (a, b) refl
signed-ends Num low high h = by low high h
  where
    by : (low high : ℤ) → IsDomain Num low high → (is_signed low && is_signed high) ≡ true
    by (pos a) (pos b) h = grind (arith, nat_tests)
    by (pos a) (negsuc b) h = grind (arith, nat_tests)
    by (negsuc a) (pos b) h = grind (arith, nat_tests)
    by (negsuc a) (negsuc b) h = grind (arith, nat_tests)

sound-names : (columns : List Column) → AreSound columns → (list_all is_name (map column_title columns) ≡ true) × (list_all has_signed_ends columns ≡ true)
sound-names [] h = (refl, refl)
sound-names (c ∷ columns) (one, more) =
    let others = sound-names columns more in (
      true_both (is_name c.name) (list_all is_name (map column_title columns)) (name-is c.name one.named) others.0,
      true_both (has_signed_ends c) (list_all has_signed_ends columns) (signed-ends c.kind c.lo c.hi one.domain) others.1,
    )

-- ---- tables of a script

faultless : (named : Bool) (one : Fault) (later : Option Fault) → (if named then Some one else later) ≡ None → (named ≡ false) × (later ≡ None)
faultless true one later h = absurd (cc)
faultless false one later h = (refl, h)

unrepeated : (why : Why) (at : Option ℕ) (later : Option Fault) → fault_or why at later ≡ None → at ≡ None
unrepeated why None later h = refl
unrepeated why (Some at) later h = absurd (cc)

other-names : (tables : List Table) (name : List ℕ) → has_table_named tables name ≡ false → list_any (bytes_eq name) (map table_name tables) ≡ false
other-names [] name h = refl
other-names (t ∷ tables) name h =
    let parts = or_parts (bytes_eq name t.name) (has_table_named tables name) h in
    ap (λ x. x || list_any (bytes_eq name) (map table_name tables)) parts.0 ∙ other-names tables name parts.1

-- one table more
named-more : (tables : List Table) (sql : List ℕ) (t : Table) → IsNamed tables → AddsTable tables sql t → IsNamed (tables ++ t ∷ [])
named-more tables sql t is (says, fits) =
    let created = says_created sql t says in
    let names = both_true (list_all is_name (map table_name tables)) (are_different (map table_name tables)) is.0 in
    let fresh = faultless (has_table_named tables t.name) _ _ fits in
    let columns = unrepeated _ (repeat_at [] t.columns) _ fresh.1 in
    let own = sound-names t.columns created.columns in
    let all_named : list_all is_name (map table_name tables ++ t.name ∷ []) ≡ true =
    list_all-append is_name (map table_name tables) (t.name ∷ []) ∙ and_from (list_all is_name (map table_name tables)) (list_all is_name (t.name ∷ [])) names.0 (and_from (is_name t.name) true (name-is t.name created.named) refl) in
    let all_different = different-more (map table_name tables) t.name names.1 (other-names tables t.name fresh.0) in
    let titles : are_names (map column_title t.columns) ≡ true =
    and_from (list_all is_name (map column_title t.columns)) (are_different (map column_title t.columns)) own.0 (columns-different [] t.columns columns) in
    let one : has_named_columns t ≡ true = and_from (are_names (map column_title t.columns)) (list_all has_signed_ends t.columns) titles own.1 in (
      subst (λ (names : List (List ℕ)). are_names names ≡ true) (sym (map-append table_name tables (t ∷ [])))
          (and_from (list_all is_name (map table_name tables ++ t.name ∷ [])) (are_different (map table_name tables ++ t.name ∷ [])) all_named all_different),
      list_all-append has_named_columns tables (t ∷ []) ∙ and_from (list_all has_named_columns tables) (list_all has_named_columns (t ∷ [])) is.1 (and_from (has_named_columns t) true one refl),
    )

named-line : (phase next : Phase) (n : ℕ) (line : Result Line ℕ) (events : List (ℕ × ScriptEvent)) → LineDoes phase n line events next → IsNamed phase.tables → IsNamed next.tables
named-line phase next n (Ok Silent) events does is = subst (λ (p : Phase). IsNamed p.tables) (sym does.1) is
named-line phase next n (Ok (CreateLine sql)) events does is = subst (λ (p : Phase). IsNamed p.tables) (sym does.4) (named-more phase.tables sql does.0 is does.1)
named-line phase next n (Ok (EventLine words)) events does is = subst (λ (p : Phase). IsNamed p.tables) (sym does.3) is
named-line phase next n (Err place) events does is = absurd does

pub named-lines : (clients i : ℕ) (phase end : Phase) (lines : List (List ℕ)) (events : List (ℕ × ScriptEvent)) → Reads clients i phase lines events end → IsNamed phase.tables → IsNamed end.tables
named-lines clients i phase end [] events reads is = subst (λ (p : Phase). IsNamed p.tables) (sym reads.1) is
named-lines clients i phase end (line ∷ lines) events reads is =
    named-lines clients (i + 1) reads.2 end lines reads.1 reads.4 (named-line phase reads.2 i (line_of clients line) reads.0 reads.3 is)
