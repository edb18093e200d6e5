-- A text that begins with CREATE says no other statement.
use Rattle.std.proofs.Common.{◌≡◌, ℕ, true, List, [], ◌∷◌, ◌++◌, inl, inr, refl, ap, subst, ◌∙◌}
use Rattle.std.specs.Prelude.{codes, Ok, filter, length, ◌==◌}
use Rattle.std.specs.List.{list_any}
use Rattle.sr_cell.specs.declared.table.Table.{Table}
use Rattle.sr_grammar.specs.declared.statement.Definition.{Definition}
use Rattle.sr_grammar.specs.Tokens.{Key, Tok, is, tokens_of}
use Rattle.sr_grammar.specs.Trees.{Statement, Create, Tree, Defines, statement_of, table_of, is_key, is_nullable_key, has_bad_domain}
use Rattle.sr_grammar.specs.Rules.{Rule, ◌or◌}
use Rattle.sr_grammar.specs.Columns.{IsCreate}
use Rattle.sr_grammar.specs.Statements.{IsSelect, IsInsert, IsUpdate, IsDelete, IsStatement}
use Rattle.sr_grammar.specs.Says.{most_levels, Says}
use Rattle.sr_grammar_laws.specs.Reading.{next_is}
use Rattle.sr_grammar_laws.proofs.RowCounts.{judged_create}
use Rattle.sr_grammar_laws.proofs.Words.{Begins, Apart, begins_then, begins_token, is-apart}
use Rattle.sr_lines.specs.Script.{begins_create}

begins_select : (n : ℕ) → Begins (IsSelect n) (is Key (codes "SELECT"))
begins_select n = begins_then _ _ _ (begins_token Key (codes "SELECT"))

begins_insert : Begins IsInsert (is Key (codes "INSERT"))
begins_insert = begins_then _ _ _ (begins_token Key (codes "INSERT"))

begins_update : (n : ℕ) → Begins (IsUpdate n) (is Key (codes "UPDATE"))
begins_update n = begins_then _ _ _ (begins_token Key (codes "UPDATE"))

begins_delete : (n : ℕ) → Begins (IsDelete n) (is Key (codes "DELETE"))
begins_delete n = begins_then _ _ _ (begins_token Key (codes "DELETE"))

-- what begins with another word does not begin with CREATE
other_word : {A : Type 0} (word : List ℕ) (P : Rule A) → Begins P (is Key word) → Apart (is Key word) (is Key (codes "CREATE")) → (a : A) (x y : List Tok) → P a x → begins_create (x ++ y) ≡ true → ⊥
other_word word P starts apart a x y p begins = by (x ++ y) (starts a x y p) begins
  where
    by : (ts : List Tok) → next_is (is Key word) ts ≡ true → begins_create ts ≡ true → ⊥
    by [] e b = cc
    by (t ∷ ts) e b = let none = apart t e in cc

of_tree : (n : ℕ) (tree : Tree) (x y : List Tok) → (IsCreate or (IsSelect n or (IsInsert or (IsUpdate n or IsDelete n)))) tree x → begins_create (x ++ y) ≡ true → IsCreate tree x
of_tree n tree x y (inl p) begins = p
of_tree n tree x y (inr (inl p)) begins = absurd (other_word (codes "SELECT") (IsSelect n) (begins_select n) (is-apart Key Key (codes "SELECT") (codes "CREATE") refl) tree x y p begins)
of_tree n tree x y (inr (inr (inl p))) begins = absurd (other_word (codes "INSERT") IsInsert begins_insert (is-apart Key Key (codes "INSERT") (codes "CREATE") refl) tree x y p begins)
of_tree n tree x y (inr (inr (inr (inl p)))) begins = absurd (other_word (codes "UPDATE") (IsUpdate n) (begins_update n) (is-apart Key Key (codes "UPDATE") (codes "CREATE") refl) tree x y p begins)
of_tree n tree x y (inr (inr (inr (inr p)))) begins = absurd (other_word (codes "DELETE") (IsDelete n) (begins_delete n) (is-apart Key Key (codes "DELETE") (codes "CREATE") refl) tree x y p begins)

spells_create : (n : ℕ) (tree : Tree) (ts : List Tok) → IsStatement n tree ts → begins_create ts ≡ true → (name : List ℕ) × (columns : List Definition) × (tree ≡ Defines name columns)
spells_create n tree ts p begins =
    let q = of_tree n p.0 p.1 p.2 p.4 (subst (λ z. begins_create z ≡ true) p.3 begins) in
    (_, _, p.5.5.0 ∙ q.5.5.5.5.0)

defined : (name : List ℕ) (columns : List Definition) (s : Statement) → Ok s ≡ statement_of (Defines name columns) → (t : Table) × (s ≡ Create t)
defined name columns s same = (table_of name columns, judged_create (list_any has_bad_domain columns) (list_any is_nullable_key columns) (length (filter is_key columns) == 1) (table_of name columns) s same)

pub says_create : (sql : List ℕ) (s : Statement) → begins_create (tokens_of sql) ≡ true → Says sql (Ok s) → (t : Table) × (s ≡ Create t)
says_create sql s begins (inl long) = absurd (let e = long.1 in cc)
says_create sql s begins (inr (short, inl (tree, spelled, same))) =
    let c = spells_create most_levels tree (tokens_of sql) spelled begins in
    defined c.0 c.1 s (same ∙ ap statement_of c.2)
says_create sql s begins (inr (short, inr (fault, outside, same))) = absurd cc
