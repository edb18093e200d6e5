-- What a JOIN, an INSERT, a CREATE and a whole statement are, when all their parts were read.
use Rattle.std.proofs.Common.{◌≡◌, ℕ, true, false, List, Option, Some, None, refl}
use Rattle.std.specs.Prelude.{codes, MatchOption}
use Rattle.sr_grammar.specs.declared.statement.Definition.{Definition}
use Rattle.sr_grammar.specs.declared.statement.LiteralRow.{LiteralRow}
use Rattle.sr_grammar.specs.declared.statement.Name.{Name}
use Rattle.sr_grammar.specs.Tokens.{Tok, Key, Mark, is}
use Rattle.sr_grammar.specs.Trees.{Tree, Says, Inserts, Defines}
use Rattle.sr_grammar.specs.Words.{Word, place_of, name_of}
use Rattle.sr_grammar_laws.specs.Reading.{Got, and_then, branch, next_is, one}
use Rattle.sr_grammar_laws.specs.Readers.{key, in_parens, list, reference, join, column_names, row, insert, column, create, tree, statement}

pub join_got : (t0 t1 t2 t3 t4 t5 rest : List Tok) (x y place : ℕ) (w : Word) (left right : Name)
    → branch (is Key (codes "INNER")) (and_then (key (codes "INNER")) (λ _. key (codes "JOIN"))) (key (codes "JOIN")) t0 ≡ Got x t1 → one name_of t1 ≡ Got w t2 → one (place_of Key (codes "ON")) t2 ≡ Got place t3
    → reference t3 ≡ Got left t4 → one (place_of Mark (codes "=")) t4 ≡ Got y t5 → reference t5 ≡ Got right rest
    → join t0 ≡ Got (record { table = w.text; table_place = w.place; left = left; right = right; place = place }) rest
unfolding join
join_got t0 t1 t2 t3 t4 t5 rest x y place w left right a b c d e g = rw (a, b, c, d, e, g) refl

pub insert_got : (t0 t1 t2 t3 t4 t5 rest : List Tok) (x y z : ℕ) (w : Word) (columns : List Name) (rows : List LiteralRow)
    → one (place_of Key (codes "INSERT")) t0 ≡ Got x t1 → one (place_of Key (codes "INTO")) t1 ≡ Got y t2 → one name_of t2 ≡ Got w t3 → column_names t3 ≡ Got columns t4 → one (place_of Key (codes "VALUES")) t4 ≡ Got z t5
    → list Mark (codes ",") row t5 ≡ Got rows rest
    → insert t0 ≡ Got (Says (Inserts (record { table = w.text; place = w.place; columns = columns; rows = rows }))) rest
unfolding insert
insert_got t0 t1 t2 t3 t4 t5 rest x y z w columns rows a b c d e g = rw (a, b, c, d, e, g) refl

pub create_got : (t0 t1 t2 t3 rest : List Tok) (x y : ℕ) (w : Word) (columns : List Definition)
    → one (place_of Key (codes "CREATE")) t0 ≡ Got x t1 → one (place_of Key (codes "TABLE")) t1 ≡ Got y t2 → one name_of t2 ≡ Got w t3 → in_parens (list Mark (codes ",") column) t3 ≡ Got columns rest
    → create t0 ≡ Got (Defines w.text columns) rest
unfolding create
create_got t0 t1 t2 t3 rest x y w columns a b c d = rw (a, b, c, d) refl

pub statement_got : (n : ℕ) (t0 t1 rest : List Tok) (t : Tree) (end : Option ℕ) → tree n t0 ≡ Got t t1
    → MatchOption end ((next_is (is Mark (codes ";")) t1 ≡ false) × (rest ≡ t1)) (λ at. (next_is (is Mark (codes ";")) t1 ≡ true) × (one (place_of Mark (codes ";")) t1 ≡ Got at rest))
    → statement n t0 ≡ Got t rest
unfolding statement
statement_got n t0 t1 rest t None a b = rw (a, b.0, b.1) refl
statement_got n t0 t1 rest t (Some at) a b = rw (a, b.0, b.1) refl
