-- The tables that a schema file creates are such as joins are cut over, and the rows of each version of a server fit them.
use Rattle.std.proofs.Common.{◌≡◌, ℕ, zero, suc, ◌<◌, Bool, true, false, List, [], ◌∷◌, ◌++◌, length, inl, inr, refl, sym, subst, ◌∙◌, arith}
use Rattle.std.specs.Prelude.{◌⊎◌, Option, None, Some, Result, Ok, Err, if◌then◌else◌}
use Rattle.std.specs.List.{list_all}
use Rattle.std.proofs.lemmas.Bool.{and_from}
use Rattle.std.proofs.lemmas.List.Folds.{list_all-append}
use Rattle.sr_cell.specs.declared.fault.Fault.{Fault}
use Rattle.sr_cell.specs.declared.fault.Why.{Why}
use Rattle.sr_cell.specs.declared.table.Column.{Column}
use Rattle.sr_cell.specs.declared.table.Table.{Table}
use Rattle.sr_cell.specs.Columns.{fits_columns, table_at}
use Rattle.sr_cell.specs.Faults.{fault_or}
use Rattle.sr_cell.specs.Names.{has_table_named, repeat_at}
use Rattle.sr_lines.specs.Creates.{Creates, CreatesFrom}
use Rattle.sr_lines.specs.Script.{AddsTable, CreateLine, EventLine, Line, Silent, line_of}
use Rattle.sr_model.specs.Changes.{version_at}
use Rattle.sr_model.specs.Queries.{rows_at}
use Rattle.sr_model.specs.Statements.{Tables}
use Rattle.sr_print.specs.Writable.{is_name}
use Rattle.sr_print.proofs.AgainRead.{says_created}
use Rattle.sr_print.proofs.AgainTables.{AreSound}
use Rattle.sr_reader.proofs.Fronts.{table_grows}
use Rattle.sr_semi.specs.Answers.{IsSchema, TheyFit, has_names}
use Rattle.sr_session.specs.Laws.{IsSound}
use Rattle.sr_session.specs.Sessions.{Database, tables_of}

-- ---- the schema

sound-names : (columns : List Column) → AreSound columns → list_all (λ (c : Column). is_name c.name) columns ≡ true
sound-names [] sound = refl
sound-names (c ∷ columns) (one, others) = and_from (is_name c.name) (list_all (λ (c : Column). is_name c.name) columns) one.named (sound-names columns others)

-- a table without a fault has no name twice
unrepeated : (named : Bool) (one : Fault) (why : Why) (place : Option ℕ) (later : Option Fault) → (if named then Some one else fault_or why place later) ≡ None → place ≡ None
unrepeated true one why place later none = absurd cc
unrepeated false one why None later none = refl
unrepeated false one why (Some at) later none = absurd cc

differ-more : (tables : List Table) (t : Table) → ((u : ℕ) → repeat_at [] (table_at tables u).columns ≡ None) → repeat_at [] t.columns ≡ None → (u : ℕ) → repeat_at [] (table_at (tables ++ t ∷ []) u).columns ≡ None
differ-more [] t each own zero = own
differ-more [] t each own (suc u) = refl
differ-more (s ∷ tables) t each own zero = each zero
differ-more (s ∷ tables) t each own (suc u) = differ-more tables t (λ v. each (suc v)) own u

one-more : (tables : List Table) (sql : List ℕ) (t : Table) → IsSchema tables → AddsTable tables sql t → IsSchema (tables ++ t ∷ [])
one-more tables sql t is adds =
    let created = says_created sql t adds.0 in
    let named : has_names t ≡ true = and_from (is_name t.name) (list_all (λ (c : Column). is_name c.name) t.columns) created.named (sound-names t.columns created.columns) in
    record {
      tables = table_grows tables sql t is.tables adds;
      names = list_all-append has_names tables (t ∷ []) ∙ and_from (list_all has_names tables) (list_all has_names (t ∷ [])) is.names (and_from (has_names t) true named refl);
      differ = differ-more tables t is.differ (unrepeated (has_table_named tables t.name) _ _ (repeat_at [] t.columns) _ adds.1);
    }

by-line : (front all : List Table) (Later : List Table → Type 0) (line : Result Line ℕ) → IsSchema front → ((known : List Table) → IsSchema known → Later known → IsSchema all) → CreatesFrom front Later all line → IsSchema all
by-line front all Later (Ok Silent) is later creates = later front is creates
by-line front all Later (Ok (CreateLine sql)) is later (t, adds, others) = later (front ++ t ∷ []) (one-more front sql t is adds) others
by-line front all Later (Ok (EventLine words)) is later same = subst IsSchema (sym same) is
by-line front all Later (Err place) is later same = subst IsSchema (sym same) is

by-lines : (clients : ℕ) (front : List Table) (lines : List (List ℕ)) (all : List Table) → IsSchema front → Creates clients front lines all → IsSchema all
by-lines clients front [] all is same = subst IsSchema (sym same) is
by-lines clients front (line ∷ lines) all is creates =
    by-line front all (λ (known : List Table). Creates clients known lines all) (line_of clients line) is (λ known sound others. by-lines clients known lines all sound others) creates

pub created-is-schema : (clients : ℕ) (lines : List (List ℕ)) (all : List Table) → Creates clients [] lines all → IsSchema all
created-is-schema clients lines all creates = by-lines clients [] lines all (record { tables = refl; names = refl; differ = λ t. refl }) creates

-- ---- the rows

-- there is this version, or it has no rows
within-or : (versions : List Tables) (v : ℕ) → (v < length versions) ⊎ (version_at versions v ≡ [])
within-or [] v = inr refl
within-or (tables ∷ versions) zero = inl (omega arith)
within-or (tables ∷ versions) (suc v) = elim (within-or versions v) [
  | inl before ↦ inl (omega (arith, before))
  | inr none ↦ inr none
]

pub versions-fit : (db : Database) → IsSound db → (version : ℕ) → TheyFit db.schema (tables_of db version)
versions-fit db sound version t = elim (within-or db.versions version) [
  | inl before ↦ sound.fits version (omega (arith, before)) t
  | inr none ↦ subst (λ (tables : Tables). list_all (fits_columns (table_at db.schema t).columns) (rows_at tables t) ≡ true) (sym none) refl
]
