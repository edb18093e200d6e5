-- One step more of what a statement writes.
use Rattle.std.proofs.Common.{◌≡◌, ℕ, ◌+◌, ◌<◌, pos, true, false, List, [], ◌∷◌, ◌++◌, length, map, drop, get_or, refl, sym, ap, ◌∙◌, add-one, append_assoc, drop-cons, arith}
use Rattle.std.specs.Prelude.{Result, Ok, Err, ◌==◌, nat_lt, nat_le, IsTrue}
use Rattle.std.specs.Cmp.Derive.{both_true}
use Rattle.std.proofs.lemmas.Bool.{and_parts}
use Rattle.std.proofs.lemmas.Bool.Decides.{nat_tests}
use Rattle.std.proofs.lemmas.List.Folds.{list_all-append}
use Rattle.std.proofs.lemmas.List.{map_push, drop_more}
use Rattle.sr_cell.specs.declared.cell.Cell.{Cell}
use Rattle.sr_cell.specs.declared.cell.Cell.TheVariants.{Num}
use Rattle.sr_cell.specs.declared.fault.Fault.{Fault}
use Rattle.sr_cell.specs.declared.list.No.{No}
use Rattle.sr_cell.specs.declared.list.No.TheVariants.{Refused, NoMemory}
use Rattle.sr_cell.specs.declared.table.Column.{Column}
use Rattle.sr_cell.specs.declared.table.Kind.TheVariants.{Str}
use Rattle.sr_cell.specs.declared.table.Table.{Table}
use Rattle.sr_grammar.specs.declared.statement.Literal.{Literal}
use Rattle.sr_grammar.specs.declared.statement.Set.{Set}
use Rattle.sr_model.specs.Statements as model
use Rattle.sr_query.specs.declared.write.Place.{Place}
use Rattle.sr_query.specs.Binding.{◌>>=◌, column_named, column_at}
use Rattle.sr_query.specs.Decided.{Decides}
use Rattle.sr_query.specs.Writes.{numbers_from, value_for, set_column, typed, places_from}
use Rattle.sr_query.specs.Written.{place_of}
use Rattle.sr_bind.specs.Written.{cells_of, are_columns, columns_of, next_place}

-- the numbers of columns, one more
pub numbers_more : (c : ℕ) (columns : List Column) → c < length columns → numbers_from c (drop c columns) ≡ c ∷ numbers_from (c + 1) (drop (c + 1) columns)
numbers_more c columns h = rw (drop-cons columns c (record { name = []; kind = Str; lo = pos 0; hi = pos 0; nullable = false })) (rw add-one)

pub one_number_more : (c : ℕ) (columns : List Column) (before after : List ℕ) (all : List ℕ) → c < length columns
    → before ++ numbers_from c (drop c columns) ≡ all → after ≡ before ++ c ∷ [] → after ++ numbers_from (c + 1) (drop (c + 1) columns) ≡ all
one_number_more c columns before after all h so pushed =
    let more = numbers_more c columns h in
    rw pushed (rw append_assoc (rw more at so))

pub one_cell_more : (f : ℕ → Cell) (c : ℕ) (columns : List Column) (before after : List Cell) (all : List Cell) → c < length columns
    → before ++ map f (numbers_from c (drop c columns)) ≡ all → after ≡ before ++ f c ∷ [] → after ++ map f (numbers_from (c + 1) (drop (c + 1) columns)) ≡ all
one_cell_more f c columns before after all h so pushed =
    let more = numbers_more c columns h in
    rw pushed (rw append_assoc (rw more at so))

-- columns of a table, one more
pub are_columns_more : (t : Table) (columns after : List ℕ) (c : ℕ) → c < length t.columns → IsTrue (are_columns t columns) → after ≡ columns ++ c ∷ [] → IsTrue (are_columns t after)
are_columns_more t columns after c less are pushed =
    let last : nat_lt c (length t.columns) ≡ true = grind (arith, nat_tests) in
    let x = and_parts (nat_le (length t.columns) 12) _ are in
    let all = list_all-append (λ d. nat_lt d (length t.columns)) columns (c ∷ []) ∙ both_true x.1 (both_true last refl) in
    rw pushed (both_true x.0 all)

no_literal : Literal
no_literal = record { cell = Num (pos 0); place = 0 }

-- the value for another column than the next
pub other_column : (c i e : ℕ) (columns : List ℕ) (literals : List Literal) → i < length columns → i < length literals → (get_or columns i e == c) ≡ false
    → value_for c (drop i columns) (cells_of (drop i literals)) ≡ value_for c (drop (i + 1) columns) (cells_of (drop (i + 1) literals))
other_column c i e columns literals a b other = rw (drop_more columns i e a, drop_more literals i no_literal b, other) refl

-- a place that is set, and those behind it
abbrev put : ℕ → Cell → model.Place
put c v = record { column = c; value = v }

placed : (t : Table) (named : List ℕ) (s : Set) (sets : List Set) (p : model.Place) → next_place t named s ≡ Ok p
    → places_from t named (s ∷ sets) ≡ (places_from t (named ++ p.column ∷ []) sets >>= λ places. Ok (p ∷ places))
placed t named s sets p e = go (set_column t named s.name.place (column_named 0 t.columns s.name.column)) e
  where
    at_column : (c : ℕ) (v : Result Cell Fault) → (v >>= λ v. Ok (put c v)) ≡ Ok p
        → (v >>= λ v. places_from t (named ++ c ∷ []) sets >>= λ places. Ok (put c v ∷ places)) ≡ (places_from t (named ++ p.column ∷ []) sets >>= λ places. Ok (p ∷ places))
    at_column c (Ok v) e = let same : put c v ≡ p = cc in ap (λ (q : model.Place). places_from t (named ++ q.column ∷ []) sets >>= λ places. Ok (q ∷ places)) same
    at_column c (Err fault) e = absurd cc

    go : (c : Result ℕ Fault) → (c >>= λ c. typed (column_at t c).kind s.value >>= λ v. Ok (put c v)) ≡ Ok p
        → (c >>= λ c. typed (column_at t c).kind s.value >>= λ v. places_from t (named ++ c ∷ []) sets >>= λ places. Ok (put c v ∷ places))
        ≡ (places_from t (named ++ p.column ∷ []) sets >>= λ places. Ok (p ∷ places))
    go (Ok c) e = at_column c (typed (column_at t c).kind s.value) e
    go (Err fault) e = absurd cc

not_placed : (t : Table) (named : List ℕ) (s : Set) (sets : List Set) (fault : Fault) → next_place t named s ≡ Err fault → places_from t named (s ∷ sets) ≡ Err fault
not_placed t named s sets fault e = go (set_column t named s.name.place (column_named 0 t.columns s.name.column)) e
  where
    at_column : (c : ℕ) (v : Result Cell Fault) → (v >>= λ v. Ok (put c v)) ≡ Err fault
        → (v >>= λ v. places_from t (named ++ c ∷ []) sets >>= λ places. Ok (put c v ∷ places)) ≡ Err fault
    at_column c (Ok v) e = absurd cc
    at_column c (Err f) e = let same : f ≡ fault = cc in ap (λ x. Err x) same

    go : (c : Result ℕ Fault) → (c >>= λ c. typed (column_at t c).kind s.value >>= λ v. Ok (put c v)) ≡ Err fault
        → (c >>= λ c. typed (column_at t c).kind s.value >>= λ v. places_from t (named ++ c ∷ []) sets >>= λ places. Ok (put c v ∷ places)) ≡ Err fault
    go (Ok c) e = at_column c (typed (column_at t c).kind s.value) e
    go (Err f) e = let same : f ≡ fault = cc in ap (λ x. Err x) same

next_set : (sets : List Set) (i : ℕ) (s : Set) → i < length sets → s ≡ get_or sets i s → drop i sets ≡ s ∷ drop (i + 1) sets
next_set sets i s within is = drop_more sets i s within ∙ ap (λ x. x ∷ drop (i + 1) sets) (sym is)

pub one_place_more : (t : Table) (sets : List Set) (i : ℕ) (s : Set) (places all : List Place) (p : Place) (whole : Result (List model.Place) Fault)
    → i < length sets → s ≡ get_or sets i s → next_place t (columns_of places) s ≡ Ok (place_of p) → all ≡ places ++ p ∷ []
    → whole ≡ (places_from t (columns_of places) (drop i sets) >>= λ more. Ok (map place_of places ++ more))
    → whole ≡ (places_from t (columns_of all) (drop (i + 1) sets) >>= λ more. Ok (map place_of all ++ more))
one_place_more t sets i s places all p whole within is e pushed h =
    let f = next_set sets i s within is in
    let one = placed t (columns_of places) s (drop (i + 1) sets) (place_of p) e in
    let columns : columns_of all ≡ columns_of places ++ p.column ∷ [] = ap columns_of pushed ∙ map_push (λ (q : Place). q.column) places p in
    let meant : map place_of all ≡ map place_of places ++ place_of p ∷ [] = ap (map place_of) pushed ∙ map_push place_of places p in
    h ∙ rw (f, one, columns, meant) (go (map place_of places) (places_from t (columns_of places ++ p.column ∷ []) (drop (i + 1) sets)))
  where
    go : (before : List model.Place) (r : Result (List model.Place) Fault)
        → ((r >>= λ more. Ok (place_of p ∷ more)) >>= λ more. Ok (before ++ more)) ≡ (r >>= λ more. Ok ((before ++ place_of p ∷ []) ++ more))
    go before (Ok more) = ap (λ x. Ok x) (sym (append_assoc before (place_of p ∷ []) more))
    go before (Err fault) = refl

pub no_place_more : (t : Table) (sets : List Set) (i : ℕ) (s : Set) (places : List Place) (no : No Fault) (whole : Result (List model.Place) Fault)
    → i < length sets → s ≡ get_or sets i s → Decides place_of (Err no) (next_place t (columns_of places) s)
    → whole ≡ (places_from t (columns_of places) (drop i sets) >>= λ more. Ok (map place_of places ++ more)) → Decides (map place_of) (Err no) whole
no_place_more t sets i s places (Refused fault) whole within is e h =
    let f = next_set sets i s within is in
    let one = not_placed t (columns_of places) s (drop (i + 1) sets) fault e in
    h ∙ rw (f, one) refl
no_place_more t sets i s places NoMemory whole within is e h = tt
