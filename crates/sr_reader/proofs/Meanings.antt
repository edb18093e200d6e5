-- What was read of a text is what the text means, and all that it means.
use Rattle.std.proofs.Common.{◌≡◌, ℕ, true, List, length, refl, ap, subst, arith, inl, inr, lt-ltb}
use Rattle.std.specs.Prelude.{Some, None, Result, Ok, Err, IsTrue, IfOk}
use Rattle.sr_cell.specs.declared.list.NoMemory.{NoMemory}
use Rattle.sr_cell.specs.declared.table.Table.{Table}
use Rattle.sr_cell.specs.declared.fault.Fault.{Fault}
use Rattle.sr_grammar.specs.declared.statement.Statement as declared
use Rattle.sr_grammar.specs.declared.statement.Statement.TheVariants as code
use Rattle.sr_grammar.specs.Trees.{Statement, Create}
use Rattle.sr_grammar.specs.Seen.{statement_seen}
use Rattle.sr_grammar.specs.Says.{Says}
use Rattle.sr_model.specs.Queries as model
use Rattle.sr_query.specs.Binding.{bound_query}
use Rattle.sr_query.specs.Bound.{IsQuery}
use Rattle.sr_query.specs.Writes.{bound_write}
use Rattle.sr_query.specs.Written.{write_of}
use Rattle.sr_query.specs.declared.query.Query.{Query}
use Rattle.sr_query.specs.declared.write.Write.{Write}
use Rattle.sr_query.specs.declared.write.Write.TheVariants as written
use Rattle.sr_bind.proofs.OnTables.{bound_suits, bound_rows}
use Rattle.sr_lines.specs.Script.{Writes, AsksOf}
use Rattle.std.specs.List.{list_all}
use Rattle.sr_query.specs.Bound.{is_table}
use Rattle.sr_lines.proofs.Joined.{bound_are_joined, bound_have_few_parts}
use Rattle.sr_lines.proofs.Own.{bound_need_own}
use Rattle.sr_lines.proofs.Sound.{bound_are_sound}
use Rattle.sr_reader.specs.Read.{statement_of, few_rows, statement_fits, Means}
use Rattle.sr_reader.specs.Meaning.{said_seen, IsCreated, IsBound, IsAsking}
use Rattle.sr_reader.proofs.OneDoing.{one_statement, no_fault}
use Rattle.sr_grammar_laws.proofs.RowCounts.{fewer_rows}

-- ---- what was said

says_it : (sql : List ℕ) (says : Result declared.Statement Fault) (s : declared.Statement) → Says sql (said_seen says) → says ≡ Ok s → Says sql (Ok (statement_seen s))
says_it sql says s said is = subst (λ z. Says sql z) (ap said_seen is) said

says_fault : (sql : List ℕ) (says : Result declared.Statement Fault) (fault : Fault) → Says sql (said_seen says) → says ≡ Err fault → Says sql (Err fault)
says_fault sql says fault said is = subst (λ z. Says sql z) (ap said_seen is) said

-- ---- the table of a CREATE

pub created : (sql : List ℕ) (says : Result declared.Statement Fault) (s : declared.Statement) (t : Table)
    → Says sql (said_seen says) → says ≡ Ok s → s ≡ code.Create t → IsCreated sql (Some t)
created sql says s t said is made = subst (λ z. Says sql z) (ap (λ z. Ok (statement_seen z)) made) (says_it sql says s said is)

pub fault_creates_none : (sql : List ℕ) (says : Result declared.Statement Fault) (fault : Fault) → Says sql (said_seen says) → says ≡ Err fault → IsCreated sql None
fault_creates_none sql says fault said is u create = no_fault sql (Create u) fault create (says_fault sql says fault said is)

not_create : (t : Table) (s : declared.Statement) → Create t ≡ statement_seen s → ((u : Table) → s ≡ code.Create u → ⊥) → ⊥
not_create t (code.Create u) e other = other u refl
not_create t (code.Select q) e other = cc
not_create t (code.Insert q) e other = cc
not_create t (code.Update q) e other = cc
not_create t (code.Delete q) e other = cc

pub other_creates_none : (sql : List ℕ) (says : Result declared.Statement Fault) (s : declared.Statement)
    → Says sql (said_seen says) → says ≡ Ok s → ((u : Table) → s ≡ code.Create u → ⊥) → IsCreated sql None
other_creates_none sql says s said is other u create = not_create u s (one_statement sql (Create u) (statement_seen s) create (says_it sql says s said is)) other

-- ---- statements that write

rows_few : (tables : List Table) (sql : List ℕ) (s : Statement) (w : Write) → Says sql (Ok s) → bound_write tables s ≡ Ok (write_of w) → few_rows w ≡ true
rows_few tables sql s (written.Insert table rows) says told =
    let i = bound_rows tables s table rows told in
    let few = fewer_rows sql i.0 (subst (λ z. Says sql (Ok z)) i.1 says) in
    lt-ltb (length rows) 65536 (omega (arith, i.2, few))
rows_few tables sql s (written.Update table sets filter) says told = refl
rows_few tables sql s (written.Delete table filter) says told = refl

-- what a statement writes is what its text writes, and fits the tables
of_write : (tables : List Table) (sql : List ℕ) (s : Statement) (w : Result Write Fault) → Says sql (Ok s) → bound_write tables s ≡ statement_of w → Writes tables sql (statement_of w)
of_write tables sql s (Ok w) says told = (s, says, told)
of_write tables sql s (Err fault) says told = inr (s, says, told)

write_fits : (tables : List Table) (sql : List ℕ) (s : Statement) (w : Result Write Fault) → Says sql (Ok s) → bound_write tables s ≡ statement_of w → statement_fits tables w ≡ true
write_fits tables sql s (Ok w) says told = rw (bound_suits tables s (write_of w) told, rows_few tables sql s w says told) refl
write_fits tables sql s (Err fault) says told = refl

pub writes : (tables : List Table) (sql : List ℕ) (says : Result declared.Statement Fault) (s : declared.Statement) (result : Result (Result Write Fault) NoMemory)
    → Says sql (said_seen says) → says ≡ Ok s → IfOk result (λ w. bound_write tables (statement_seen s) ≡ statement_of w) → IfOk result (λ w. Writes tables sql (statement_of w))
writes tables sql says s (Ok w) said is told = of_write tables sql (statement_seen s) w (says_it sql says s said is) told
writes tables sql says s (Err want) said is told = told

pub writes_fit : (tables : List Table) (sql : List ℕ) (says : Result declared.Statement Fault) (s : declared.Statement) (result : Result (Result Write Fault) NoMemory)
    → Says sql (said_seen says) → says ≡ Ok s → IfOk result (λ w. bound_write tables (statement_seen s) ≡ statement_of w) → IfOk result (λ w. IsTrue (statement_fits tables w))
writes_fit tables sql says s (Ok w) said is told = write_fits tables sql (statement_seen s) w (says_it sql says s said is) told
writes_fit tables sql says s (Err want) said is told = told

pub writes_fault : (tables : List Table) (sql : List ℕ) (says : Result declared.Statement Fault) (fault : Fault) → Says sql (said_seen says) → says ≡ Err fault → Writes tables sql (Err fault)
writes_fault tables sql says fault said is = inl (says_fault sql says fault said is)

-- ---- queries

-- a query that is bound is one that stands for its meaning
pub bound_means : (tables : List Table) (s : Statement) (q : Query) (meaning : model.Query) → list_all is_table tables ≡ true → bound_query tables s ≡ Ok meaning → IsQuery tables q meaning → Means tables (Ok q) (Ok meaning)
bound_means tables s q meaning are told is =
    (is, bound_are_joined tables s meaning told, bound_have_few_parts tables s meaning told, bound_are_sound tables s meaning told, bound_need_own tables s meaning are told)

asked : (tables : List Table) (sql : List ℕ) (s : Statement) (query : Result Query Fault) (meaning : Result model.Query Fault) → Says sql (Ok s) → bound_query tables s ≡ meaning → Means tables query meaning → AsksOf tables sql meaning
asked tables sql s query (Err fault) says told means = inr (s, says, told)
asked tables sql s query (Ok meaning) says told means = (s, says, told)

pub asks : (tables : List Table) (sql : List ℕ) (says : Result declared.Statement Fault) (s : declared.Statement) (result : Result (Result Query Fault) NoMemory)
    → Says sql (said_seen says) → says ≡ Ok s → IfOk result (IsBound tables (statement_seen s)) → IfOk result (IsAsking tables sql)
asks tables sql says s (Ok query) said is bound = (bound.0, asked tables sql (statement_seen s) query bound.0 (says_it sql says s said is) bound.1 bound.2, bound.2)
asks tables sql says s (Err want) said is bound = bound

pub asks_fault : (tables : List Table) (sql : List ℕ) (says : Result declared.Statement Fault) (fault : Fault) → Says sql (said_seen says) → says ≡ Err fault → IsAsking tables sql (Err fault)
asks_fault tables sql says fault said is = (Err fault, inl (says_fault sql says fault said is), refl)
