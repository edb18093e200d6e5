-- The CREATE line of the script is accepted.
use Rattle.std.proofs.Common.{◌≡◌, ℕ, zero, suc, ◌+◌, true, List, [], ◌∷◌, ◌++◌, Option, None, Some, Result, Ok, Err, inl, inr, refl, subst, lit≤}
use Rattle.std.specs.Prelude.{codes, pos}
use Rattle.sr_cell.specs.declared.fault.Fault.{Fault}
use Rattle.sr_cell.specs.declared.table.Table.{Table}
use Rattle.sr_cell.specs.declared.table.Kind.TheVariants.{Num}
use Rattle.sr_cell.specs.Faults.{fault_with}
use Rattle.sr_token.specs.Tokens.{tokens_from}
use Rattle.sr_grammar.specs.Tokens.{tokens_of}
use Rattle.sr_grammar.specs.Trees.{Create, Defines, table_of}
use Rattle.sr_grammar.specs.declared.statement.Definition.{Definition}
use Rattle.sr_grammar.specs.declared.statement.ColumnRule.{ColumnRule}
use Rattle.sr_grammar.specs.declared.statement.ColumnRule.TheVariants.{Check, PrimaryKey}
use Rattle.sr_grammar.specs.Says.{Says}
use Rattle.sr_grammar_laws.specs.Reading.{Got}
use Rattle.sr_grammar_laws.specs.Readers.{check, column, create, kind, number, rules, statement, tree, whole}
use Rattle.sr_grammar_laws.proofs.OneSaying.{each_says_one}
use Rattle.sr_grammar_laws.proofs.Top.{each_is_exact}
use Rattle.sr_lines.specs.Lines.{lines_of}
use Rattle.sr_lines.specs.Script.{FirstRefused, Line, RefusedFrom, RefusesTable}
use Rattle.sr_generate.specs.Script.{line_at, lines_from, script}
use Rattle.sr_generate.proofs.EventLines.{event-at}
use Rattle.sr_generate.proofs.Inside.{create-read, create-split, create_text, line-split}

never-behind : (lines k state i : ℕ) (tables : List Table) (n : ℕ) (fault : Fault) → FirstRefused 1 i tables (lines_of (lines_from lines k state)) n fault → ⊥
unfolding lines_from
never-behind zero k state i tables n fault h = h
never-behind (suc lines) k state i tables n fault h =
    let e = event-at k state in
    let rest = lines_from lines (k + 1) (line_at k state).state in
    let split = subst (λ (ls : List (List ℕ)). FirstRefused 1 i tables ls n fault) (line-split (line_at k state).line rest e) h in
    subst (λ (r : Result Line ℕ). RefusedFrom i tables (λ known. FirstRefused 1 (i + 1) known (lines_of rest) n fault) r n fault) e.read split

-- ---- what the CREATE line says

-- a column of numbers from 0 on
abbrev number_column : List ℕ → List ColumnRule → ℕ → Definition
number_column name front high = record { name = name; kind = Num; rules = front ++ (Check (record { name = name; low = pos 0; high = pos high }) ∷ []) }

abbrev the_columns : List Definition
the_columns = number_column (codes "k") (PrimaryKey ∷ []) 999 ∷ number_column (codes "a") [] 999 ∷ number_column (codes "b") [] 99 ∷ []

abbrev the_table : Table
the_table = table_of (codes "t") the_columns

create-tree : whole 64 (tokens_of create_text) ≡ Got (Defines (codes "t") the_columns) []
unfolding tokens_from whole statement tree create column kind rules check number
create-tree = refl

create-says : Says create_text (Ok (Create the_table))
create-says = inr (lit≤ tt, inl (Defines (codes "t") the_columns, ((each_is_exact 64).found (tokens_of create_text) [] (Defines (codes "t") the_columns) create-tree).1, refl))

-- no table is there before it
create-fits : fault_with true [] the_table ≡ None
create-fits = refl

none-some : {A : Type 0} {B : Type 0} (o : Option A) (a : A) → o ≡ None → o ≡ Some a → B
none-some o a p q = cc

one-table : (t : Table) → Says create_text (Ok (Create t)) → t ≡ the_table
one-table t says = let same = each_says_one create_text (Ok (Create t)) (Ok (Create the_table)) says create-says in cc

never-refuses : (fault : Fault) → RefusesTable [] create_text fault → ⊥
never-refuses fault h = elim h [
  | inl says ↦ (let same = each_says_one create_text (Err fault) (Ok (Create the_table)) says create-says in cc)
  | inr other ↦ none-some (fault_with true [] the_table) fault create-fits (subst (λ (t : Table). fault_with true [] t ≡ Some fault) (one-table other.0 other.1) other.2)
]

pub accepted-script : (seed events line : ℕ) (fault : Fault) → FirstRefused 1 1 [] (lines_of (script seed events)) line fault → ⊥
accepted-script seed events line fault h =
    let rest = lines_from (200 + events) 0 seed in
    let split = subst (λ (ls : List (List ℕ)). FirstRefused 1 1 [] ls line fault) (create-split rest) h in
    let first = subst (λ (r : Result Line ℕ). RefusedFrom 1 [] (λ known. FirstRefused 1 2 known (lines_of rest) line fault) r line fault) create-read split in
    elim first [
      | inl here ↦ never-refuses fault here.1
      | inr later ↦ never-behind (200 + events) 0 seed 2 ([] ++ (later.0 ∷ [])) line fault later.2
    ]
