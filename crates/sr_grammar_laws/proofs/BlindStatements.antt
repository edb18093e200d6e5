-- Reading statements looks at no place.
use Rattle.std.proofs.Common.{◌≡◌, ℕ, zero, suc, false, List, [], ◌∷◌, map, Option, Some, None, refl, ap}
use Rattle.std.specs.Prelude.{codes}
use Rattle.std.proofs.lemmas.List.{map-id}
use Rattle.sr_grammar.specs.declared.statement.JoinOn.{JoinOn}
use Rattle.sr_grammar.specs.Tokens.{Key, Mark, Tok, is}
use Rattle.sr_grammar.specs.Words.{Word}
use Rattle.sr_grammar.specs.Trees.{Selects, Updates, Deletes, Tree, Says}
use Rattle.sr_grammar.specs.Columns.{Left, all_left}
use Rattle.sr_grammar.specs.Statements.{Where, filter_of, Listed, select_of}
use Rattle.sr_grammar.specs.Places.{bare_token, bare_name, bare_literal, bare_cond, bare_filter, bare_join, bare_row, bare_set, bare_tree}
use Rattle.sr_grammar_laws.specs.Readers.{number, kind, check, may, rules, column, create, filter, listed, begins_join, join, select, column_name, column_names, row, insert, set, update, delete, tree, statement, end, whole, unit}
use Rattle.sr_grammar_laws.specs.Blind.{seen, IsBlind}
use Rattle.sr_grammar_laws.proofs.Places.{Alike, Blind, map_some, just, no_place, alike_nothing, alike_then, blind_branch, blind_token, alike_after, alike_map, blind_maybe, blind_list, blind_parens, blind_many}
use Rattle.sr_grammar_laws.proofs.BlindConditions.{bare_word, blind_name, blind_number, blind_value, blind_reference, blind_cond, blind_unit}

-- ---- CREATE

blind_signed : Blind just number
unfolding number
blind_signed =
    blind_branch just (is Mark (codes "-")) _ _ (λ t. refl)
    (alike_after just Mark (codes "-") _ _ (λ at. alike_map just just _ _ _ _ blind_number (λ n. refl)))
    (alike_map just just _ _ _ _ blind_number (λ n. refl))

blind_kind : Blind just kind
unfolding kind
blind_kind =
    blind_branch just (is Key (codes "INT")) _ _ (λ t. refl)
    (alike_after just Key (codes "INT") _ _ (λ at. alike_nothing just _ _ refl))
    (blind_branch just (is Key (codes "INTEGER")) _ _ (λ t. refl)
    (alike_after just Key (codes "INTEGER") _ _ (λ at. alike_nothing just _ _ refl))
    (alike_after just Key (codes "TEXT") _ _ (λ at. alike_nothing just _ _ refl)))

blind_check : Blind just check
unfolding check
blind_check =
    alike_then bare_word just _ _ _ _ blind_name (λ name. alike_after just Key (codes "BETWEEN") _ _ (λ at.
    alike_then just just _ _ _ _ blind_signed (λ low. alike_after just Key (codes "AND") _ _ (λ at.
    alike_map just just _ _ _ _ blind_signed (λ high. refl)))))

blind_rules : (count : ℕ) (left : Left) → Blind just (rules count left)
unfolding rules
blind_rules zero left = alike_nothing just [] [] refl
blind_rules (suc count) left =
    blind_branch just (may left.primary (codes "PRIMARY")) _ _ (λ t. refl)
    (alike_after just Key (codes "PRIMARY") _ _ (λ at. alike_after just Key (codes "KEY") _ _ (λ at.
    alike_map just just _ _ _ _ (blind_rules count (record left { primary = false })) (λ more. refl))))
    (blind_branch just (may left.null (codes "NOT")) _ _ (λ t. refl)
    (alike_after just Key (codes "NOT") _ _ (λ at. alike_after just Key (codes "NULL") _ _ (λ at.
    alike_map just just _ _ _ _ (blind_rules count (record left { null = false })) (λ more. refl))))
    (blind_branch just (may left.null (codes "NULL")) _ _ (λ t. refl)
    (alike_after just Key (codes "NULL") _ _ (λ at. alike_map just just _ _ _ _ (blind_rules count (record left { null = false })) (λ more. refl)))
    (blind_branch just (may left.check (codes "CHECK")) _ _ (λ t. refl)
    (alike_after just Key (codes "CHECK") _ _ (λ at. alike_then just just _ _ _ _ (blind_parens just check blind_check) (λ range.
    alike_map just just _ _ _ _ (blind_rules count (record left { check = false })) (λ more. refl))))
    (alike_nothing just [] [] refl))))

blind_column : Blind just column
unfolding column
blind_column =
    alike_then bare_word just _ _ _ _ blind_name (λ name. alike_then just just _ _ _ _ blind_kind (λ k.
    alike_map just just _ _ _ _ (blind_rules 3 all_left) (λ all. refl)))

blind_create : Blind bare_tree create
unfolding create
blind_create =
    alike_after bare_tree Key (codes "CREATE") _ _ (λ at. alike_after bare_tree Key (codes "TABLE") _ _ (λ at.
    alike_then bare_word bare_tree _ _ _ _ blind_name (λ name. alike_map just bare_tree _ _ _ _
    (blind_parens just _ (blind_list just just (λ a all. a ∷ all) Mark (codes ",") column blind_column (λ a all. ap (λ z. a ∷ z) (map-id all))))
    (λ columns. refl))))

-- ---- WHERE

abbrev bare_where : Where → Where
bare_where w = record { place = 0; cond = bare_cond w.cond }

blind_filter : (n : ℕ) → Blind (map_some bare_where) (filter n)
unfolding filter
blind_filter n =
    blind_maybe bare_where (is Key (codes "WHERE")) _ (λ t. refl)
    (alike_after bare_where Key (codes "WHERE") _ _ (λ at. alike_map bare_cond bare_where _ _ _ _ (blind_cond (unit n) (blind_unit n)) (λ c. refl)))

filter_bare : (w : Option Where) → filter_of (map_some bare_where w) ≡ bare_filter (filter_of w)
filter_bare None = refl
filter_bare (Some w) = refl

-- ---- SELECT

abbrev bare_listed : Listed → Listed
bare_listed l = record { all = l.all; list = map bare_name l.list }

blind_listed : Blind bare_listed listed
unfolding listed
blind_listed =
    blind_branch bare_listed (is Mark (codes "*")) _ _ (λ t. refl)
    (alike_after bare_listed Mark (codes "*") _ _ (λ at. alike_nothing bare_listed _ _ refl))
    (alike_map (map bare_name) bare_listed _ _ _ _ (blind_list bare_name (map bare_name) (λ a all. a ∷ all) Mark (codes ",") _ blind_reference (λ a all. refl)) (λ names. refl))

blind_join : Blind bare_join join
unfolding join
blind_join =
    alike_then no_place bare_join _ _ _ _
    (blind_branch no_place (is Key (codes "INNER")) _ _ (λ t. refl) (alike_after no_place Key (codes "INNER") _ _ (λ at. blind_token Key (codes "JOIN"))) (blind_token Key (codes "JOIN")))
    (λ at. alike_then bare_word bare_join _ _ _ _ blind_name (λ table. alike_after bare_join Key (codes "ON") _ _ (λ at.
    alike_then bare_name bare_join _ _ _ _ blind_reference (λ left. alike_after bare_join Mark (codes "=") _ _ (λ at.
    alike_map bare_name bare_join _ _ _ _ blind_reference (λ right. refl))))))

select_bare : (l : Listed) (first : Word) (joins : List JoinOn) (w : Option Where)
    → Says (Selects (select_of (bare_listed l) (bare_word first) (map bare_join joins) (map_some bare_where w))) ≡ bare_tree (Says (Selects (select_of l first joins w)))
select_bare l first joins None = refl
select_bare l first joins (Some w) = refl

blind_select : (n : ℕ) → Blind bare_tree (select n)
unfolding select
blind_select n =
    alike_after bare_tree Key (codes "SELECT") _ _ (λ at. alike_then bare_listed bare_tree _ _ _ _ blind_listed (λ names.
    alike_after bare_tree Key (codes "FROM") _ _ (λ at. alike_then bare_word bare_tree _ _ _ _ blind_name (λ first.
    alike_then (map bare_join) bare_tree _ _ _ _ (blind_many bare_join begins_join join (λ t. refl) blind_join) (λ joins.
    alike_map (map_some bare_where) bare_tree _ _ _ _ (blind_filter n) (select_bare names first joins))))))

-- ---- INSERT, UPDATE and DELETE

blind_column_name : Blind bare_name column_name
unfolding column_name
blind_column_name = alike_map bare_word bare_name _ _ _ _ blind_name (λ name. refl)

blind_column_names : Blind (map bare_name) column_names
unfolding column_names
blind_column_names =
    blind_branch (map bare_name) (is Mark (codes "(")) _ _ (λ t. refl)
    (blind_parens (map bare_name) _ (blind_list bare_name (map bare_name) (λ a all. a ∷ all) Mark (codes ",") _ blind_column_name (λ a all. refl)))
    (alike_nothing (map bare_name) [] [] refl)

blind_row : Blind bare_row row
unfolding row
blind_row =
    alike_after bare_row Mark (codes "(") _ _ (λ at.
    alike_then (map bare_literal) bare_row _ _ _ _ (blind_list bare_literal (map bare_literal) (λ a all. a ∷ all) Mark (codes ",") _ blind_value (λ a all. refl)) (λ literals.
    alike_after bare_row Mark (codes ")") _ _ (λ at. alike_nothing bare_row _ _ refl)))

blind_insert : Blind bare_tree insert
unfolding insert
blind_insert =
    alike_after bare_tree Key (codes "INSERT") _ _ (λ at. alike_after bare_tree Key (codes "INTO") _ _ (λ at.
    alike_then bare_word bare_tree _ _ _ _ blind_name (λ table. alike_then (map bare_name) bare_tree _ _ _ _ blind_column_names (λ columns.
    alike_after bare_tree Key (codes "VALUES") _ _ (λ at.
    alike_map (map bare_row) bare_tree _ _ _ _ (blind_list bare_row (map bare_row) (λ a all. a ∷ all) Mark (codes ",") _ blind_row (λ a all. refl)) (λ rows. refl))))))

blind_set : Blind bare_set set
unfolding set
blind_set = alike_then bare_name bare_set _ _ _ _ blind_column_name (λ name. alike_after bare_set Mark (codes "=") _ _ (λ at. alike_map bare_literal bare_set _ _ _ _ blind_value (λ value. refl)))

blind_update : (n : ℕ) → Blind bare_tree (update n)
unfolding update
blind_update n =
    alike_after bare_tree Key (codes "UPDATE") _ _ (λ at. alike_then bare_word bare_tree _ _ _ _ blind_name (λ table. alike_after bare_tree Key (codes "SET") _ _ (λ at.
    alike_then (map bare_set) bare_tree _ _ _ _ (blind_list bare_set (map bare_set) (λ a all. a ∷ all) Mark (codes ",") _ blind_set (λ a all. refl)) (λ sets.
    alike_map (map_some bare_where) bare_tree _ _ _ _ (blind_filter n)
    (λ w. ap (λ f. Says (Updates (record { table = table.text; place = 0; sets = map bare_set sets; filter = f }))) (filter_bare w))))))

blind_delete : (n : ℕ) → Blind bare_tree (delete n)
unfolding delete
blind_delete n =
    alike_after bare_tree Key (codes "DELETE") _ _ (λ at. alike_after bare_tree Key (codes "FROM") _ _ (λ at.
    alike_then bare_word bare_tree _ _ _ _ blind_name (λ table.
    alike_map (map_some bare_where) bare_tree _ _ _ _ (blind_filter n)
    (λ w. ap (λ f. Says (Deletes (record { table = table.text; place = 0; filter = f }))) (filter_bare w)))))

-- ---- whole statements

blind_tree : (n : ℕ) → Blind bare_tree (tree n)
unfolding tree
blind_tree n =
    blind_branch bare_tree (is Key (codes "CREATE")) _ _ (λ t. refl) blind_create
    (blind_branch bare_tree (is Key (codes "SELECT")) _ _ (λ t. refl) (blind_select n)
    (blind_branch bare_tree (is Key (codes "INSERT")) _ _ (λ t. refl) blind_insert
    (blind_branch bare_tree (is Key (codes "UPDATE")) _ _ (λ t. refl) (blind_update n) (blind_delete n))))

blind_statement : (n : ℕ) → Blind bare_tree (statement n)
unfolding statement
blind_statement n =
    alike_then bare_tree bare_tree _ _ _ _ (blind_tree n) (λ t.
    alike_then (map_some no_place) bare_tree _ _ _ _ (blind_maybe no_place (is Mark (codes ";")) _ (λ t. refl) (blind_token Mark (codes ";"))) (λ at. alike_nothing bare_tree t (bare_tree t) refl))

alike_end : (t : Tree) → Alike bare_tree (end t) (end (bare_tree t))
alike_end t = record { same = go }
  where
    go : (ts : List Tok) → end (bare_tree t) (map bare_token ts) ≡ seen bare_tree (end t ts)
    go [] = refl
    go (u ∷ ts) = refl

blind_whole : (n : ℕ) → Blind bare_tree (whole n)
unfolding whole
blind_whole n = alike_then bare_tree bare_tree _ _ _ _ (blind_statement n) alike_end

pub is_blind : IsBlind
is_blind n ts = (blind_whole n).same ts
