-- The readers of statements keep their rules.
use Rattle.std.proofs.Common.{◌≡◌, ℕ, suc, Bool, true, false, List, [], ◌∷◌, ◌++◌, inl, inr, refl}
use Rattle.std.specs.Prelude.{◌||◌, ◌&&◌, codes, bytes_eq}
use Rattle.std.proofs.lemmas.Bool.{or_cases}
use Rattle.sr_grammar.specs.Tokens.{Kind, Key, Named, Mark, Tok, is, is_kind, of_kind}
use Rattle.sr_grammar.specs.Words.{Word, place_of, name_of}
use Rattle.sr_grammar.specs.Rules.{Rule, One, ◌>>=◌ as ◌▸◌, ◌or◌, Many}
use Rattle.sr_grammar.specs.Conditions.{KEY}
use Rattle.sr_grammar.specs.Statements.{IsWhere, IsListed, IsJoin, IsSelect, IsColumnName, IsColumnNames, IsRow, IsInsert, IsSet, IsUpdate, IsDelete}
use Rattle.sr_grammar_laws.specs.Reading.{and_then, next_is, branch, many}
use Rattle.sr_grammar_laws.specs.Readers.{key, filter, listed, begins_join, join, select, column_name, column_names, row, insert, set, update, delete}
use Rattle.sr_grammar_laws.proofs.Good.{or_test, next_or, or_next}
use Rattle.sr_grammar_laws.proofs.Deep.{Both, both_nothing, both_then, both_branch, both_many}
use Rattle.sr_grammar_laws.proofs.Words.{no_more, none_more, Begins, Apart, begins_one, begins_then, begins_or, begins_wide, begins_token, is-apart, of_kind-is, is-of_kind, chosen, both_token, both_after, both_map, both_more, both_maybe, both_list, both_parens}
use Rattle.sr_grammar_laws.proofs.Firsts.{begins_not, not_apart, BeginsNot, not_after, follow, not_maybe, not_made}
use Rattle.sr_grammar_laws.proofs.LawsOfConditions.{name_one, both_value, dot, both_reference, cond_more, both_cond, both_unit}

abbrev comma : Tok → Bool
comma = is Mark (codes ",")

-- what goes on with a reference, or with a list of them
abbrev pub dot_more : Tok → Bool
dot_more = or_test dot no_more

-- ---- WHERE

abbrev pub filter_more : Tok → Bool
filter_more = or_test (is Key (codes "WHERE")) cond_more

pub both_filter : (n : ℕ) → Both (filter n) (filter (suc n)) (IsWhere n) (IsWhere (suc n)) filter_more
unfolding filter
both_filter n =
    both_maybe (is Key (codes "WHERE")) _ _ _ _ cond_more
    (both_after Key (codes "WHERE") _ _ _ _ cond_more refl (λ at. both_map _ _ _ _ cond_more _ (both_cond _ _ _ _ (both_unit n))))
    (begins_then _ _ _ (begins_token Key (codes "WHERE")))

-- what neither a WHERE goes on with, nor what stands behind it
before_filter : (n : ℕ) (more more' : Tok → Bool) → Apart (is Key (codes "WHERE")) more → ((ts : List Tok) → next_is more' ts ≡ false → next_is more ts ≡ false) → BeginsNot (IsWhere n) more more'
before_filter n more more' apart wide = not_maybe _ (is Key (codes "WHERE")) more more' (begins_then _ _ _ (begins_token Key (codes "WHERE"))) apart wide

-- ---- SELECT

pub name_begins : {B : Type 0} (Q : Word → Rule B) → Begins (One name_of ▸ Q) (of_kind Named)
name_begins Q = begins_then _ Q _ (begins_one name_of (of_kind Named) (λ t a e. chosen (of_kind Named t) _ a e))

abbrev pub listed_more : Tok → Bool
listed_more = or_test comma dot_more

pub both_listed : Both listed listed IsListed IsListed listed_more
unfolding listed
both_listed =
    both_branch (is Mark (codes "*")) _ _ _ _ _ _ _ _ listed_more
    (both_after Mark (codes "*") _ _ _ _ listed_more refl (λ _. both_nothing _ listed_more))
    (both_map _ _ _ _ listed_more _ (both_list (λ a all. a ∷ all) Mark (codes ",") _ _ _ _ dot_more refl both_reference comma_dot))
    (begins_then _ _ _ (begins_token Mark (codes "*")))
    (begins_not _ (of_kind Named) _ listed_more (begins_then _ _ _ (begins_then _ _ _ (name_begins _))) (of_kind-is Named Mark _ refl))
  where
    comma_dot : Apart comma dot_more
    comma_dot t e = rw (is-apart Mark Mark (codes ",") (codes ".") refl t e) refl

-- a word or mark that is no point
no_point : (k : Kind) (text : List ℕ) → (is_kind k Mark && bytes_eq text (codes ".")) ≡ false → Apart (is k text) dot_more
no_point k text d t e = rw (is-apart k Mark text (codes ".") d t e) refl

abbrev JoinWord : Rule ℕ
JoinWord = (One (place_of Key (codes "INNER")) ▸ λ _. KEY (codes "JOIN")) or KEY (codes "JOIN")

join_word : Both (branch (is Key (codes "INNER")) (and_then (key (codes "INNER")) (λ _. key (codes "JOIN"))) (key (codes "JOIN")))
    (branch (is Key (codes "INNER")) (and_then (key (codes "INNER")) (λ _. key (codes "JOIN"))) (key (codes "JOIN"))) JoinWord JoinWord no_more
join_word =
    both_branch (is Key (codes "INNER")) _ _ _ _ _ _ _ _ no_more
    (both_after Key (codes "INNER") _ _ _ _ no_more refl (λ _. both_token Key (codes "JOIN") refl))
    (both_token Key (codes "JOIN") refl)
    (begins_then _ _ _ (begins_token Key (codes "INNER")))
    (begins_not _ (is Key (codes "JOIN")) _ no_more (begins_token Key (codes "JOIN")) (is-apart Key Key _ _ refl))

pub both_join : Both join join IsJoin IsJoin dot_more
unfolding join
both_join =
    both_then _ _ _ _ no_more _ _ _ _ dot_more join_word
    (λ _. both_then _ _ _ _ no_more _ _ _ _ dot_more name_one
    (λ table. both_after Key (codes "ON") _ _ _ _ dot_more refl (λ at.
    both_then _ _ _ _ dot_more _ _ _ _ dot_more both_reference
    (λ left. both_after Mark (codes "=") _ _ _ _ dot_more refl (λ _. both_map _ _ _ _ dot_more _ both_reference))
    (follow _ _ _ _ (λ a. not_after Mark (codes "=") _ _ _ (no_point Mark (codes "=") refl)))))
    (λ a x b y rest u v w. none_more (y ++ rest)))
    (λ a x b y rest u v w. none_more (y ++ rest))

pub join_begins : Begins IsJoin begins_join
join_begins = begins_then _ _ _ (begins_or _ _ _
    (begins_wide _ (is Key (codes "INNER")) _ (λ t e. rw e refl) (begins_then _ _ _ (begins_token Key (codes "INNER"))))
    (begins_wide _ (is Key (codes "JOIN")) _ (λ t e. or_right (is Key (codes "INNER") t) (is Key (codes "JOIN") t) e) (begins_token Key (codes "JOIN"))))
  where
    or_right : (a b : Bool) → b ≡ true → (a || b) ≡ true
    or_right true b e = refl
    or_right false b e = e

-- what may go on with a statement
abbrev pub tree_more : Tok → Bool
tree_more = or_test (is Key (codes "WHERE")) (or_test comma (or_test begins_join (or_test dot cond_more)))

-- what neither a filter, nor a list, nor the joins go on with
no_filter : (ts : List Tok) → next_is tree_more ts ≡ false → next_is filter_more ts ≡ false
no_filter ts e =
    let a = next_or (is Key (codes "WHERE")) (or_test comma (or_test begins_join (or_test dot cond_more))) ts e in
    let b = next_or comma (or_test begins_join (or_test dot cond_more)) ts a.1 in
    let c = next_or begins_join (or_test dot cond_more) ts b.1 in
    or_next (is Key (codes "WHERE")) cond_more ts a.0 ((next_or dot cond_more ts c.1).1)

no_comma : (ts : List Tok) → next_is tree_more ts ≡ false → next_is (or_test comma no_more) ts ≡ false
no_comma ts e =
    let a = next_or (is Key (codes "WHERE")) (or_test comma (or_test begins_join (or_test dot cond_more))) ts e in
    let b = next_or comma (or_test begins_join (or_test dot cond_more)) ts a.1 in
    or_next comma no_more ts b.0 (none_more ts)

abbrev pub joins_more : Tok → Bool
joins_more = or_test begins_join dot_more

no_join : (ts : List Tok) → next_is tree_more ts ≡ false → next_is joins_more ts ≡ false
no_join ts e =
    let a = next_or (is Key (codes "WHERE")) (or_test comma (or_test begins_join (or_test dot cond_more))) ts e in
    let b = next_or comma (or_test begins_join (or_test dot cond_more)) ts a.1 in
    let c = next_or begins_join (or_test dot cond_more) ts b.1 in
    or_next begins_join dot_more ts c.0 (or_next dot no_more ts ((next_or dot cond_more ts c.1).0) (none_more ts))

last_filter : (n : ℕ) → Both (filter n) (filter (suc n)) (IsWhere n) (IsWhere (suc n)) tree_more
last_filter n = both_more _ _ _ _ filter_more tree_more no_filter (both_filter n)

both_joins : Both (many begins_join join) (many begins_join join) (Many IsJoin) (Many IsJoin) joins_more
both_joins = both_many begins_join _ _ _ _ dot_more both_join join_begins join_apart
  where
    key_no_point : (w : List ℕ) → Apart (is Key w) dot_more
    key_no_point w t e = rw (of_kind-is Key Mark (codes ".") refl t (is-of_kind Key w t e)) refl

    join_apart : Apart begins_join dot_more
    join_apart t e = elim (or_cases (is Key (codes "INNER") t) (is Key (codes "JOIN") t) e) [ inl h ↦ key_no_point (codes "INNER") t h | inr h ↦ key_no_point (codes "JOIN") t h ]

pub both_select : (n : ℕ) → Both (select n) (select (suc n)) (IsSelect n) (IsSelect (suc n)) tree_more
unfolding select
both_select n =
    both_after Key (codes "SELECT") _ _ _ _ tree_more refl (λ _.
    both_then _ _ _ _ listed_more _ _ _ _ tree_more both_listed
    (λ names. both_after Key (codes "FROM") _ _ _ _ tree_more refl (λ _.
    both_then _ _ _ _ no_more _ _ _ _ tree_more name_one
    (λ first. both_then _ _ _ _ joins_more _ _ _ _ tree_more both_joins
    (λ joins. both_map _ _ _ _ tree_more _ (last_filter n))
    (follow _ _ _ _ (λ joins. not_made _ _ _ _ (before_filter n joins_more tree_more where_join no_join))))
    (λ a x b y rest u v w. none_more (y ++ rest))))
    (follow _ _ _ _ (λ names. not_after Key (codes "FROM") _ _ _ from_listed)))
  where
    where_join : Apart (is Key (codes "WHERE")) joins_more
    where_join t e = rw (is-apart Key Key (codes "WHERE") (codes "INNER") refl t e, is-apart Key Key (codes "WHERE") (codes "JOIN") refl t e, is-apart Key Mark (codes "WHERE") (codes ".") refl t e) refl

    from_listed : Apart (is Key (codes "FROM")) listed_more
    from_listed t e = rw (is-apart Key Mark (codes "FROM") (codes ",") refl t e, is-apart Key Mark (codes "FROM") (codes ".") refl t e) refl

-- ---- INSERT

pub both_column_name : Both column_name column_name IsColumnName IsColumnName no_more
unfolding column_name
both_column_name = both_map _ _ _ _ no_more _ name_one

-- a list in parentheses may end where its items may
close_comma : Apart (is Mark (codes ")")) (or_test comma no_more)
close_comma t e = rw (is-apart Mark Mark (codes ")") (codes ",") refl t e) refl

abbrev pub opening : Tok → Bool
opening = is Mark (codes "(")

pub both_column_names : Both column_names column_names IsColumnNames IsColumnNames opening
unfolding column_names
both_column_names =
    both_branch opening _ _ _ _ _ _ _ _ opening
    (both_more _ _ _ _ no_more opening (λ ts e. none_more ts)
    (both_parens _ _ _ _ (or_test comma no_more) (both_list (λ a all. a ∷ all) Mark (codes ",") _ _ _ _ no_more refl both_column_name (not_apart _)) close_comma))
    (both_nothing [] opening)
    (begins_then _ _ _ (begins_token Mark (codes "(")))
    (λ a x rest q e. rw q.1 e)

pub both_row : Both row row IsRow IsRow no_more
unfolding row
both_row =
    both_after Mark (codes "(") _ _ _ _ no_more refl (λ at.
    both_then _ _ _ _ (or_test comma no_more) _ _ _ _ no_more (both_list (λ a all. a ∷ all) Mark (codes ",") _ _ _ _ no_more refl both_value (not_apart _))
    (λ literals. both_after Mark (codes ")") _ _ _ _ no_more refl (λ _. both_nothing _ no_more))
    (follow _ _ _ _ (λ literals. not_after Mark (codes ")") _ _ _ close_comma)))

pub both_insert : Both insert insert IsInsert IsInsert tree_more
unfolding insert
both_insert =
    both_after Key (codes "INSERT") _ _ _ _ tree_more refl (λ _.
    both_after Key (codes "INTO") _ _ _ _ tree_more refl (λ _.
    both_then _ _ _ _ no_more _ _ _ _ tree_more name_one
    (λ table. both_then _ _ _ _ opening _ _ _ _ tree_more both_column_names
    (λ columns. both_after Key (codes "VALUES") _ _ _ _ tree_more refl (λ _.
    both_map _ _ _ _ tree_more _ (both_more _ _ _ _ (or_test comma no_more) tree_more no_comma (both_list (λ a all. a ∷ all) Mark (codes ",") _ _ _ _ no_more refl both_row (not_apart _)))))
    (follow _ _ _ _ (λ columns. not_after Key (codes "VALUES") _ _ _ (is-apart Key Mark _ _ refl))))
    (λ a x b y rest u v w. none_more (y ++ rest))))

-- ---- UPDATE and DELETE

pub both_set : Both set set IsSet IsSet no_more
unfolding set
both_set =
    both_then _ _ _ _ no_more _ _ _ _ no_more both_column_name
    (λ name. both_after Mark (codes "=") _ _ _ _ no_more refl (λ _. both_map _ _ _ _ no_more _ both_value))
    (λ a x b y rest u v w. none_more (y ++ rest))

pub both_update : (n : ℕ) → Both (update n) (update (suc n)) (IsUpdate n) (IsUpdate (suc n)) tree_more
unfolding update
both_update n =
    both_after Key (codes "UPDATE") _ _ _ _ tree_more refl (λ _.
    both_then _ _ _ _ no_more _ _ _ _ tree_more name_one
    (λ table. both_after Key (codes "SET") _ _ _ _ tree_more refl (λ _.
    both_then _ _ _ _ (or_test comma no_more) _ _ _ _ tree_more (both_list (λ a all. a ∷ all) Mark (codes ",") _ _ _ _ no_more refl both_set (not_apart _))
    (λ sets. both_map _ _ _ _ tree_more _ (last_filter n))
    (follow _ _ _ _ (λ sets. not_made _ _ _ _ (before_filter n (or_test comma no_more) tree_more where_comma no_comma)))))
    (λ a x b y rest u v w. none_more (y ++ rest)))
  where
    where_comma : Apart (is Key (codes "WHERE")) (or_test comma no_more)
    where_comma t e = rw (is-apart Key Mark (codes "WHERE") (codes ",") refl t e) refl

pub both_delete : (n : ℕ) → Both (delete n) (delete (suc n)) (IsDelete n) (IsDelete (suc n)) tree_more
unfolding delete
both_delete n =
    both_after Key (codes "DELETE") _ _ _ _ tree_more refl (λ _.
    both_after Key (codes "FROM") _ _ _ _ tree_more refl (λ _.
    both_then _ _ _ _ no_more _ _ _ _ tree_more name_one
    (λ table. both_map _ _ _ _ tree_more _ (last_filter n))
    (λ a x b y rest u v w. none_more (y ++ rest))))
