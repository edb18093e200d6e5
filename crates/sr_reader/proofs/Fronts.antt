-- The tables of the CREATE lines in front of all others.
use Rattle.std.proofs.Common.{◌≡◌, ℕ, ◌+◌, Bool, true, false, List, [], ◌∷◌, ◌++◌, refl, sym, subst, inl, inr}
use Rattle.std.specs.Prelude.{Option, Some, None, Result, Ok, Err, OnOk, ◌||◌, not, nat_eq, codes, if◌then◌else◌}
use Rattle.std.specs.Str.{is_utf8}
use Rattle.std.specs.Str.Lossy.{utf8_valid_len}
use Rattle.std.specs.List.{list_all, starts_with}
use Rattle.sr_cell.specs.declared.table.Table.{Table}
use Rattle.sr_cell.specs.declared.fault.Fault.{Fault}
use Rattle.sr_cell.specs.Faults.{fault_with}
use Rattle.sr_grammar.specs.Tokens.{tokens_of}
use Rattle.sr_grammar.specs.declared.statement.Statement.{Statement}
use Rattle.sr_grammar.specs.declared.statement.Statement.TheVariants as statement
use Rattle.sr_grammar.specs.Trees.{Create}
use Rattle.sr_grammar.specs.Seen.{statement_seen}
use Rattle.sr_grammar.specs.Says.{Says}
use Rattle.sr_lines.specs.Script.{Words, Line, Silent, CreateLine, EventLine, Reading, is_blank, begins_create, event_of, placed, line_of, RefusesTable, AddsTable, RefusedFrom, FirstRefused}
use Rattle.sr_lines.specs.Creates.{CreatesFrom, Creates}
use Rattle.sr_query.specs.Bound.{is_table}
use Rattle.sr_reader.specs.declared.head.RefusedLine.{RefusedLine}
use Rattle.sr_reader.proofs.OneDoing.{one_create, no_fault}
use Rattle.sr_reader.proofs.Creates.{says_create}
use Rattle.sr_reader.proofs.Tables.{faultless_fits, tables_grow}

-- ---- what a line is, by its tests

same_text : (line sql : List ℕ) → (let here : Result Line ℕ = Ok (CreateLine line) in here) ≡ Ok (CreateLine sql) → line ≡ sql
same_text line sql e = cc

placed_create : (line sql : List ℕ) (reading : Reading) → placed line reading ≡ Ok (CreateLine sql) → ⊥
placed_create line sql (Ok words) e = cc
placed_create line sql (Err rest) e = cc

placed_event : (line : List ℕ) (words : Words) (reading : Reading) → placed line reading ≡ Ok (EventLine words) → reading ≡ Ok words
placed_event line words (Ok said) e = cc
placed_event line words (Err rest) e = absurd cc

create_by : (text quiet begins : Bool) (line sql : List ℕ) (reading : Reading)
    → (if not text then Err (utf8_valid_len line) else (if quiet then Ok Silent else (if begins then Ok (CreateLine line) else placed line reading))) ≡ Ok (CreateLine sql) → (begins ≡ true) × (line ≡ sql)
create_by false quiet begins line sql reading e = absurd cc
create_by true true begins line sql reading e = absurd cc
create_by true false true line sql reading e = (refl, same_text line sql e)
create_by true false false line sql reading e = absurd (placed_create line sql reading e)

event_by : (text quiet begins : Bool) (line : List ℕ) (words : Words) (reading : Reading)
    → (if not text then Err (utf8_valid_len line) else (if quiet then Ok Silent else (if begins then Ok (CreateLine line) else placed line reading))) ≡ Ok (EventLine words) → reading ≡ Ok words
event_by false quiet begins line words reading e = absurd cc
event_by true true begins line words reading e = absurd cc
event_by true false true line words reading e = absurd cc
event_by true false false line words reading e = placed_event line words reading e

-- a CREATE line begins with CREATE
pub begins_of : (clients : ℕ) (line sql : List ℕ) → line_of clients line ≡ Ok (CreateLine sql) → begins_create (tokens_of sql) ≡ true
begins_of clients line sql e =
    let by = create_by (is_utf8 line) (is_blank line || starts_with nat_eq line (codes "#")) (begins_create (tokens_of line)) line sql (event_of clients line) e in
    subst (λ z. begins_create (tokens_of z) ≡ true) by.1 by.0

-- an event line says its event
pub event_of_line : (clients : ℕ) (line : List ℕ) (words : Words) → line_of clients line ≡ Ok (EventLine words) → event_of clients line ≡ Ok words
event_of_line clients line words e = event_by (is_utf8 line) (is_blank line || starts_with nat_eq line (codes "#")) (begins_create (tokens_of line)) line words (event_of clients line) e

-- ---- a text that begins with CREATE says no other statement

seen_create : (s : Statement) (t : Table) → ((u : Table) → s ≡ statement.Create u → ⊥) → statement_seen s ≡ Create t → ⊥
seen_create (statement.Create u) t other is = other u refl
seen_create (statement.Select s) t other is = cc
seen_create (statement.Insert s) t other is = cc
seen_create (statement.Update s) t other is = cc
seen_create (statement.Delete s) t other is = cc

pub says_only : (sql : List ℕ) (s : Statement) → begins_create (tokens_of sql) ≡ true → Says sql (Ok (statement_seen s)) → ((t : Table) → s ≡ statement.Create t → ⊥) → ⊥
says_only sql s begins says other = let one = says_create sql (statement_seen s) begins says in seen_create s one.0 other one.1

-- ---- one text

pub added_by : {A E : Type 0} (old new : List Table) (sql : List ℕ) (t : Table) (r : Result A E) → Says sql (Ok (Create t)) → OnOk r (new ≡ old ++ t ∷ []) → OnOk r (fault_with true old t ≡ None)
    → OnOk r ((x : Table) × AddsTable old sql x × (new ≡ old ++ x ∷ []))
added_by old new sql t (Ok a) says added faultless = (t, (says, faultless), added)
added_by old new sql t (Err e) says added faultless = added

-- an error gives what is asked of a value
pub on_err : {A E : Type 0} (P : Type 0) (r : Result A E) (e : E) → r ≡ Err e → OnOk r P
on_err P (Ok a) e is = absurd cc
on_err P (Err d) e is = tt

pub same_err : {A E : Type 0} (r : Result A E) (d e : E) → r ≡ Err d → r ≡ Err e → d ≡ e
same_err r d e one other = cc

none_some : {A : Type 0} (o : Option A) (a : A) → o ≡ None → o ≡ Some a → ⊥
none_some None a none some = cc
none_some (Some b) a none some = cc

-- a text that adds a table is not refused
added_only : (tables : List Table) (sql : List ℕ) (t : Table) (fault : Fault) → AddsTable tables sql t → RefusesTable tables sql fault → ⊥
added_only tables sql t fault adds (inl says) = no_fault sql (Create t) fault adds.0 says
added_only tables sql t fault adds (inr bad) =
    none_some (fault_with true tables bad.0) fault (subst (λ z. fault_with true tables z ≡ None) (one_create sql t bad.0 adds.0 bad.1) adds.1) bad.2

-- ---- one line

-- where a line adds a table, one of the lines behind it is the first that is refused
added_later : (number : ℕ) (tables : List Table) (Later : List Table → Type 0) (sql : List ℕ) (t : Table) (n : ℕ) (fault : Fault)
    → AddsTable tables sql t → RefusedFrom number tables Later (Ok (CreateLine sql)) n fault → Later (tables ++ t ∷ [])
added_later number tables Later sql t n fault adds (inl here) = absurd (added_only tables sql t fault adds here.1)
added_later number tables Later sql t n fault adds (inr later) =
    subst (λ z. Later (tables ++ z ∷ [])) (one_create sql later.0 t later.1.0 adds.0) later.2

-- ---- the walk

-- what the walk keeps: the tables, and the first line that is refused, are the same for the rest behind these tables as for
-- the whole
pub record Fronted (clients : ℕ) (lines : List (List ℕ)) (number : ℕ) (rest : List (List ℕ)) (tables : List Table) : Type 0 where
  pub creates : (all : List Table) → Creates clients tables rest all → Creates clients [] lines all
  pub found : (n : ℕ) (fault : Fault) → FirstRefused clients number tables rest n fault → FirstRefused clients 1 [] lines n fault
  pub only : (n : ℕ) (fault : Fault) → FirstRefused clients 1 [] lines n fault → FirstRefused clients number tables rest n fault

module _ (clients number : ℕ) (lines rest after : List (List ℕ)) (text : List ℕ) (tables : List Table) (front : Fronted clients lines number rest tables) (cut : rest ≡ text ∷ after) where
  abbrev Behind : ℕ → Fault → List Table → Type 0
  Behind n fault known = FirstRefused clients (number + 1) known after n fault

  into : (l : Result Line ℕ) (n : ℕ) (fault : Fault) → line_of clients text ≡ l → RefusedFrom number tables (Behind n fault) l n fault → FirstRefused clients 1 [] lines n fault
  into l n fault is refused =
      let here : FirstRefused clients number tables (text ∷ after) n fault = subst (λ z. RefusedFrom number tables (Behind n fault) z n fault) (sym is) refused in
      front.found n fault (subst (λ z. FirstRefused clients number tables z n fault) (sym cut) here)

  out : (l : Result Line ℕ) (n : ℕ) (fault : Fault) → line_of clients text ≡ l → FirstRefused clients 1 [] lines n fault → RefusedFrom number tables (Behind n fault) l n fault
  out l n fault is first =
      let here : FirstRefused clients number tables (text ∷ after) n fault = subst (λ z. FirstRefused clients number tables z n fault) cut (front.only n fault first) in
      subst (λ z. RefusedFrom number tables (Behind n fault) z n fault) is here

  makes : (l : Result Line ℕ) (all : List Table) → line_of clients text ≡ l → CreatesFrom tables (λ known. Creates clients known after all) all l → Creates clients [] lines all
  makes l all is creates =
      let here : Creates clients tables (text ∷ after) all = subst (λ z. CreatesFrom tables (λ known. Creates clients known after all) all z) (sym is) creates in
      front.creates all (subst (λ z. Creates clients tables z all) (sym cut) here)

  pub fronted_silent : line_of clients text ≡ Ok Silent → Fronted clients lines (number + 1) after tables
  fronted_silent is = record {
    creates = λ all creates. makes (Ok Silent) all is creates;
    found = λ n fault first. into (Ok Silent) n fault is first;
    only = λ n fault first. out (Ok Silent) n fault is first;
  }

  pub fronted_added : (sql : List ℕ) (t : Table) → line_of clients text ≡ Ok (CreateLine sql) → AddsTable tables sql t → Fronted clients lines (number + 1) after (tables ++ t ∷ [])
  fronted_added sql t is adds = record {
    creates = λ all creates. makes (Ok (CreateLine sql)) all is (t, adds, creates);
    found = λ n fault first. into (Ok (CreateLine sql)) n fault is (inr (t, adds, first));
    only = λ n fault first. added_later number tables (Behind n fault) sql t n fault adds (out (Ok (CreateLine sql)) n fault is first);
  }

  -- the whole names this line, where it is refused
  pub refused_here : (sql : List ℕ) (fault : Fault) → line_of clients text ≡ Ok (CreateLine sql) → RefusesTable tables sql fault → FirstRefused clients 1 [] lines number fault
  refused_here sql fault is refuses = into (Ok (CreateLine sql)) number fault is (inl (refl, refuses))

  -- an event ends the CREATE lines
  pub event_creates : (words : Words) → line_of clients text ≡ Ok (EventLine words) → Creates clients [] lines tables
  event_creates words is = makes (Ok (EventLine words)) tables is refl

  pub event_accepts : (words : Words) → line_of clients text ≡ Ok (EventLine words) → (n : ℕ) (fault : Fault) → FirstRefused clients 1 [] lines n fault → ⊥
  event_accepts words is n fault first = out (Ok (EventLine words)) n fault is first

pub named_line : (clients : ℕ) (lines : List (List ℕ)) (here refused : RefusedLine) → here ≡ refused → FirstRefused clients 1 [] lines here.number here.fault → FirstRefused clients 1 [] lines refused.number refused.fault
named_line clients lines here refused same first = subst (λ (r : RefusedLine). FirstRefused clients 1 [] lines r.number r.fault) same first

-- ---- the end of the walk

pub left_creates : (clients number : ℕ) (lines rest : List (List ℕ)) (tables : List Table) → Fronted clients lines number rest tables → rest ≡ [] → Creates clients [] lines tables
left_creates clients number lines rest tables front done = front.creates tables (subst (λ z. Creates clients tables z tables) (sym done) refl)

pub none_left : (clients number : ℕ) (lines rest : List (List ℕ)) (tables : List Table) → Fronted clients lines number rest tables → rest ≡ [] → (n : ℕ) (fault : Fault) → FirstRefused clients 1 [] lines n fault → ⊥
none_left clients number lines rest tables front done n fault first = subst (λ z. FirstRefused clients number tables z n fault) done (front.only n fault first)

-- ---- tables

pub table_grows : (tables : List Table) (sql : List ℕ) (t : Table) → list_all is_table tables ≡ true → AddsTable tables sql t → list_all is_table (tables ++ t ∷ []) ≡ true
table_grows tables sql t sound adds = tables_grow tables t sound (faultless_fits tables t adds.1)
