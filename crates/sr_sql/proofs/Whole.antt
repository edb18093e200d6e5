-- What a whole reading tells of a text.
use Rattle.std.proofs.Common.{◌≡◌, ℕ, ◌≤◌, true, false, List, length, Result, Ok, Err, inl, inr, refl, sym, ap, subst, ◌∙◌, arith}
use Rattle.std.specs.Prelude.{IfOk}
use Rattle.sr_cell.specs.declared.fault.Fault.{Fault}
use Rattle.sr_cell.specs.declared.list.No.{No}
use Rattle.sr_cell.specs.declared.list.No.TheVariants.{Refused}
use Rattle.sr_grammar.specs.declared.statement.Statement as code
use Rattle.sr_grammar.specs.Tokens.{Tok, tokens_of}
use Rattle.sr_grammar.specs.Trees.{Statement, Tree, Defines, Says, statement_of}
use Rattle.sr_grammar.specs.Says.{most_levels, IsOutside, SaysShort}
use Rattle.sr_grammar.specs.Seen.{statement_seen}
use Rattle.sr_grammar_laws.specs.Reading.{Got}
use Rattle.sr_grammar_laws.specs.Readers.{whole}
use Rattle.sr_grammar_laws.proofs.Top.{each_is_exact}
use Rattle.sr_grammar_laws.proofs.Bridge.{outside_of}
use Rattle.sr_grammar_laws.proofs.Columns.{columns_fit}
use Rattle.sr_sql.specs.declared.stop.Stop.{Stop}
use Rattle.sr_sql.specs.declared.stop.Stop.TheVariants as stop
use Rattle.sr_sql.specs.Views.{Reads}
use Rattle.sr_sql.specs.Seen.{tree_seen, columns_in}
use Rattle.sr_sql.specs.Refusals.{refusal}

pub few_columns : (text : List ℕ) (tree : Tree) (rest : List Tok) → length text ≤ 65536 → whole most_levels (tokens_of text) ≡ Got tree rest → length (columns_in tree) ≤ 65536
few_columns text (Defines name columns) rest short e = columns_fit most_levels text name columns rest short e
few_columns text (Says s) rest short e = omega arith

-- a tree that was read is judged
says_tree : (text : List ℕ) (tree : Tree) (rest : List Tok) (says : Result Statement Fault) → whole most_levels (tokens_of text) ≡ Got tree rest → statement_of tree ≡ says → SaysShort text says
says_tree text tree rest says e judged = inl (tree, ((each_is_exact most_levels).found (tokens_of text) rest tree e).1, sym judged)

pub says_found : (text : List ℕ) (tree : Tree) (rest : List Tok) (r : Result code.Statement (No Fault)) → whole most_levels (tokens_of text) ≡ Got tree rest → IfOk r (λ s. statement_of tree ≡ Ok (statement_seen s))
    → IfOk r (λ s. SaysShort text (Ok (statement_seen s)))
says_found text tree rest (Ok s) e judged = says_tree text tree rest (Ok (statement_seen s)) e judged
says_found text tree rest (Err _) e judged = tt

pub says_refused : (text : List ℕ) (tree : Tree) (rest : List Tok) (fault : Fault) → whole most_levels (tokens_of text) ≡ Got tree rest → statement_of tree ≡ Err fault → SaysShort text (Err fault)
says_refused text tree rest fault e judged = says_tree text tree rest (Err fault) e judged

outside : (text : List ℕ) (was fault : Fault) → IsOutside text was → was ≡ fault → SaysShort text (Err fault)
outside text was fault out e = inr (fault, subst (λ f. IsOutside text f) e out, refl)

pub says_stopped : (text : List ℕ) (ts bad : List Tok) (s : Stop) (fault : Fault) → ts ≡ tokens_of text → Reads tree_seen (whole most_levels) ts (Err s) bad → refusal s text bad ≡ Refused fault → SaysShort text (Err fault)
says_stopped text ts bad stop.Grammar fault all e is = outside text _ fault (outside_of text false bad (sym (ap (whole most_levels) all) ∙ e)) cc
says_stopped text ts bad stop.Deep fault all e is = outside text _ fault (outside_of text true bad (sym (ap (whole most_levels) all) ∙ e)) cc
says_stopped text ts bad stop.Memory fault all e is = absurd cc
