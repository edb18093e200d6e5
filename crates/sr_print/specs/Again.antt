-- A statement that writable tokens spell is spelled by its printed tokens too, which are writable.
use Rattle.std.specs.Prelude.{◌≡◌, ℕ, List, Ok, IsTrue}
use Rattle.sr_grammar.specs.Tokens.{Tok}
use Rattle.sr_grammar.specs.Trees.{Statement, Tree, statement_of}
use Rattle.sr_grammar.specs.Statements.{IsStatement}
use Rattle.sr_grammar.specs.Printed.{printed_tokens}
use Rattle.sr_print.specs.Writable.{are_writable}

abbrev pub PrintedAgain : Type 0
PrintedAgain = (n : ℕ) (tree : Tree) (ts : List Tok) (s : Statement) → IsTrue (are_writable ts) → IsStatement n tree ts → statement_of tree ≡ Ok s
    → (again : Tree) × IsStatement n again (printed_tokens s) × (statement_of again ≡ Ok s) × IsTrue (are_writable (printed_tokens s))
