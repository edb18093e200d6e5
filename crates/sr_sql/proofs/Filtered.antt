-- What the statements that may end with a WHERE are, when all their parts were read.
use Rattle.std.proofs.Common.{◌≡◌, ℕ, List, Option, refl}
use Rattle.std.specs.Prelude.{codes}
use Rattle.sr_grammar.specs.declared.statement.JoinOn.{JoinOn}
use Rattle.sr_grammar.specs.declared.statement.Set.{Set}
use Rattle.sr_grammar.specs.Tokens.{Tok, Key, Mark}
use Rattle.sr_grammar.specs.Trees.{Cond, Says, Selects, Updates, Deletes}
use Rattle.sr_grammar.specs.Words.{Word, place_of, name_of}
use Rattle.sr_grammar.specs.Statements.{Where, Listed, filter_of, place_of_where}
use Rattle.sr_grammar_laws.specs.Reading.{Got, one, many}
use Rattle.sr_grammar_laws.specs.Readers.{list, listed, begins_join, join, set, filter, select, update, delete}

pub select_got : (n : ℕ) (t0 t1 t2 t3 t4 t5 rest : List Tok) (x y : ℕ) (shown : Listed) (w : Word) (joins : List JoinOn) (found : Option Where) (f : Option Cond) (place : ℕ)
    → one (place_of Key (codes "SELECT")) t0 ≡ Got x t1 → listed t1 ≡ Got shown t2 → one (place_of Key (codes "FROM")) t2 ≡ Got y t3 → one name_of t3 ≡ Got w t4 → many begins_join join t4 ≡ Got joins t5
    → filter n t5 ≡ Got found rest → f ≡ filter_of found → place ≡ place_of_where found
    → select n t0 ≡ Got (Says (Selects (record { all = shown.all; list = shown.list; first = w.text; first_place = w.place; joins = joins; filter = f; place = place }))) rest
unfolding select
select_got n t0 t1 t2 t3 t4 t5 rest x y shown w joins found f place a b c d e g h i = rw (a, b, c, d, e, g, h, i) refl

pub update_got : (n : ℕ) (t0 t1 t2 t3 t4 rest : List Tok) (x y : ℕ) (w : Word) (sets : List Set) (found : Option Where) (f : Option Cond)
    → one (place_of Key (codes "UPDATE")) t0 ≡ Got x t1 → one name_of t1 ≡ Got w t2 → one (place_of Key (codes "SET")) t2 ≡ Got y t3 → list Mark (codes ",") set t3 ≡ Got sets t4
    → filter n t4 ≡ Got found rest → f ≡ filter_of found
    → update n t0 ≡ Got (Says (Updates (record { table = w.text; place = w.place; sets = sets; filter = f }))) rest
unfolding update
update_got n t0 t1 t2 t3 t4 rest x y w sets found f a b c d e g = rw (a, b, c, d, e, g) refl

pub delete_got : (n : ℕ) (t0 t1 t2 t3 rest : List Tok) (x y : ℕ) (w : Word) (found : Option Where) (f : Option Cond)
    → one (place_of Key (codes "DELETE")) t0 ≡ Got x t1 → one (place_of Key (codes "FROM")) t1 ≡ Got y t2 → one name_of t2 ≡ Got w t3
    → filter n t3 ≡ Got found rest → f ≡ filter_of found
    → delete n t0 ≡ Got (Says (Deletes (record { table = w.text; place = w.place; filter = f }))) rest
unfolding delete
delete_got n t0 t1 t2 t3 rest x y w found f a b c d e = rw (a, b, c, d, e) refl
