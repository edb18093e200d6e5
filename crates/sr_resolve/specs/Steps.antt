-- One table, and one join, of those that a query names.
use Rattle.std.specs.Prelude.{ℕ, ◌+◌, take, nat_le, List, [], ◌∷◌, ◌++◌, length, Result, Ok, if◌then◌else◌}
use Rattle.sr_cell.specs.declared.table.Table.{Table}
use Rattle.sr_cell.specs.declared.fault.Fault.{Fault}
use Rattle.sr_cell.specs.declared.fault.Why.TheVariants.{TooManyTables}
use Rattle.sr_cell.specs.Names.{table_named}
use Rattle.sr_grammar.specs.Words.{Word}
use Rattle.sr_grammar.specs.declared.statement.JoinOn.{JoinOn}
use Rattle.sr_model.specs.Queries.{Join}
use Rattle.sr_query.specs.Binding.{fault, new_table, resolved, key_join, ◌>>=◌}

-- the table of one word behind those that are named already
abbrev pub next_table : List Table → List ℕ → Word → Result ℕ Fault
next_table schema named w = if nat_le 4 (length named) then fault TooManyTables w.place else new_table named w.place (table_named schema w.text)

-- the tables named so far, and that of the word
abbrev pub with_table : List Table → List ℕ → Word → Result (List ℕ) Fault
with_table schema named w = next_table schema named w >>= λ t. Ok (named ++ t ∷ [])

abbrev pub join_word : JoinOn → Word
join_word j = record { text = j.table; place = j.table_place }

-- the join of this part
abbrev pub one_join : List Table → List ℕ → ℕ → JoinOn → Result Join Fault
one_join schema tables part j =
    resolved schema (take (part + 1) tables) j.left >>= λ left. resolved schema (take (part + 1) tables) j.right >>= λ right.
    key_join schema tables part j.place left right

-- what is known of all, where these of them are known already
abbrev pub behind : {A : Type 0} → List A → Result (List A) Fault → Result (List A) Fault
behind done others = others >>= λ more. Ok (done ++ more)
