-- The reader of any statement, with its semicolon, keeps its rule.
use Rattle.std.proofs.Common.{◌≡◌, ℕ, suc, Bool, true, false, List, [], ◌∷◌, refl}
use Rattle.std.specs.Prelude.{◌&&◌, codes, bytes_eq}
use Rattle.sr_grammar.specs.Tokens.{Key, Mark, Tok, is, is_kind}
use Rattle.sr_grammar.specs.Trees.{Tree}
use Rattle.sr_grammar.specs.Rules.{Rule, ◌or◌}
use Rattle.sr_grammar.specs.Columns.{IsCreate}
use Rattle.sr_grammar.specs.Statements.{IsSelect, IsInsert, IsUpdate, IsDelete, IsStatement}
use Rattle.sr_grammar_laws.specs.Reading.{next_is}
use Rattle.sr_grammar_laws.specs.Readers.{tree, statement}
use Rattle.sr_grammar_laws.proofs.Good.{or_test}
use Rattle.sr_grammar_laws.proofs.Deep.{Both, both_nothing, both_then, both_branch}
use Rattle.sr_grammar_laws.proofs.Words.{no_more, none_more, Apart, begins_then, begins_token, is-apart, of_kind-is, is-of_kind, both_token, both_more, both_maybe}
use Rattle.sr_grammar_laws.proofs.Firsts.{not_or, not_after, follow, not_maybe, not_made}
use Rattle.sr_grammar_laws.proofs.LawsOfConditions.{ends_cond}
use Rattle.sr_grammar_laws.proofs.LawsOfColumns.{both_create}
use Rattle.sr_grammar_laws.proofs.LawsOfStatements.{tree_more, both_select, both_insert, both_update, both_delete}

abbrev IsTree : ℕ → Rule Tree
IsTree n = IsCreate or (IsSelect n or (IsInsert or (IsUpdate n or IsDelete n)))

apart_words : (v w : List ℕ) → (is_kind Key Key && bytes_eq v w) ≡ false → Apart (is Key v) (is Key w)
apart_words v w d = is-apart Key Key v w d

pub both_tree : (n : ℕ) → Both (tree n) (tree (suc n)) (IsTree n) (IsTree (suc n)) tree_more
unfolding tree
both_tree n =
    both_branch (is Key (codes "CREATE")) _ _ _ _ _ _ _ _ tree_more (both_more _ _ _ _ no_more tree_more (λ ts e. none_more ts) both_create)
    (both_branch (is Key (codes "SELECT")) _ _ _ _ _ _ _ _ tree_more (both_select n)
    (both_branch (is Key (codes "INSERT")) _ _ _ _ _ _ _ _ tree_more both_insert
    (both_branch (is Key (codes "UPDATE")) _ _ _ _ _ _ _ _ tree_more (both_update n) (both_delete n)
    (begins_then _ _ _ (begins_token Key (codes "UPDATE")))
    (not_after Key (codes "DELETE") _ _ _ (apart_words _ _ refl)))
    (begins_then _ _ _ (begins_token Key (codes "INSERT")))
    (not_or _ _ _ _ (not_after Key (codes "UPDATE") _ _ _ (apart_words _ _ refl)) (not_after Key (codes "DELETE") _ _ _ (apart_words _ _ refl))))
    (begins_then _ _ _ (begins_token Key (codes "SELECT")))
    (not_or _ _ _ _ (not_after Key (codes "INSERT") _ _ _ (apart_words _ _ refl))
    (not_or _ _ _ _ (not_after Key (codes "UPDATE") _ _ _ (apart_words _ _ refl)) (not_after Key (codes "DELETE") _ _ _ (apart_words _ _ refl)))))
    (begins_then _ _ _ (begins_token Key (codes "CREATE")))
    (not_or _ _ _ _ (not_after Key (codes "SELECT") _ _ _ (apart_words _ _ refl))
    (not_or _ _ _ _ (not_after Key (codes "INSERT") _ _ _ (apart_words _ _ refl))
    (not_or _ _ _ _ (not_after Key (codes "UPDATE") _ _ _ (apart_words _ _ refl)) (not_after Key (codes "DELETE") _ _ _ (apart_words _ _ refl)))))

abbrev semicolon : Tok → Bool
semicolon = is Mark (codes ";")

-- nothing may follow
abbrev pub any : Tok → Bool
any t = true

any_more : (f : Tok → Bool) (ts : List Tok) → next_is any ts ≡ false → next_is f ts ≡ false
any_more f [] e = refl
any_more f (t ∷ ts) e = absurd cc

pub both_statement : (n : ℕ) → Both (statement n) (statement (suc n)) (IsStatement n) (IsStatement (suc n)) any
unfolding statement
both_statement n =
    both_then _ _ _ _ tree_more _ _ _ _ any (both_tree n)
    (λ t. both_then _ _ _ _ (or_test semicolon no_more) _ _ _ _ any
    (both_maybe semicolon _ _ _ _ no_more (both_token Mark (codes ";") refl) (begins_token Mark (codes ";")))
    (λ _. both_nothing t any)
    (λ a x b y rest u v w. rw v.1 (any_more (or_test semicolon no_more) rest w)))
    (follow _ _ _ _ (λ t. not_made _ _ _ _ (not_maybe _ semicolon tree_more any (begins_token Mark (codes ";")) semicolon_apart (any_more tree_more))))
  where
    is_key-mark : (w : List ℕ) (t : Tok) → is Mark (codes ";") t ≡ true → is Key w t ≡ false
    is_key-mark w t e = of_kind-is Mark Key w refl t (is-of_kind Mark (codes ";") t e)

    semicolon_apart : Apart semicolon tree_more
    semicolon_apart t e =
        rw (is_key-mark (codes "WHERE") t e, is-apart Mark Mark (codes ";") (codes ",") refl t e, is_key-mark (codes "INNER") t e, is_key-mark (codes "JOIN") t e, is-apart Mark Mark (codes ";") (codes ".") refl t e)
        (ends_cond (codes ";") t e)
