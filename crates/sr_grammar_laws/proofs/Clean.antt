-- What spells a statement are tokens of the language.
use Rattle.std.proofs.Common.{◌≡◌, ℕ, zero, suc, Bool, true, false, List, [], ◌∷◌, ◌++◌, inl, inr, Option, Some, None, refl, ap}
use Rattle.std.specs.List.{list_any}
use Rattle.std.proofs.lemmas.Bool.{or_parts, or_cases, and_parts}
use Rattle.sr_grammar.specs.declared.statement.Literal.{Literal}
use Rattle.sr_grammar.specs.declared.statement.Atom.{Atom}
use Rattle.sr_grammar.specs.declared.statement.Atom.TheVariants.{Between, OneOf, Prefix, NotBetween, NotOneOf, NotPrefix}
use Rattle.sr_grammar.specs.Tokens.{Kind, Key, Named, Number, Quoted, Mark, Bad, Tok, is_kind, of_kind}
use Rattle.sr_grammar.specs.Words.{name_of, number_of, plain_of, prefix_of, op_of}
use Rattle.sr_grammar.specs.Trees.{Cond}
use Rattle.sr_grammar.specs.Rules.{Rule, One, Nothing, ◌>>=◌ as ◌▸◌, ◌or◌, Many}
use Rattle.sr_grammar.specs.Conditions.{KEY, MARK, MaybeOf, InParens, IsLiteral, IsValue, IsReference, IsBetween, IsIn, IsLike, IsNullTest, IsAtom, IsTest, ConjOf, CondOf, IsUnit}
use Rattle.sr_grammar.specs.Columns.{Left, all_left, Only, IsNumber, IsKind, IsCheck, IsRules, IsColumn, IsCreate}
use Rattle.sr_grammar.specs.Statements.{IsWhere, IsListed, IsJoin, IsSelect, IsColumnName, IsColumnNames, IsRow, IsInsert, IsSet, IsUpdate, IsDelete, IsStatement}
use Rattle.sr_grammar_laws.proofs.Words.{of_kind-apart, is-of_kind, chosen, place_of-is}
use Rattle.sr_grammar_laws.proofs.LawsOfConditions.{op_of-mark, plain_of-plain}

abbrev pub has_bad : List Tok → Bool
has_bad ts = list_any (of_kind Bad) ts

-- no spelling has a token that is none of the language
abbrev pub Clean : {A : Type 0} → Rule A → Type 0
Clean {A = A} P = (a : A) (x : List Tok) → P a x → has_bad x ≡ false

bad_append : (x y : List Tok) → has_bad x ≡ false → has_bad y ≡ false → has_bad (x ++ y) ≡ false
bad_append [] y e f = f
bad_append (t ∷ x) y e f = let h = or_parts (of_kind Bad t) (has_bad x) e in rw (h.0, bad_append x y h.1 f) refl

clean_one : {A : Type 0} (f : Tok → Option A) → ((t : Tok) (a : A) → f t ≡ Some a → of_kind Bad t ≡ false) → Clean (One f)
clean_one f h a x p = rw (p.2, h p.0 a p.1) refl

clean_nothing : {A : Type 0} (b : A) → Clean (Nothing b)
clean_nothing b a x p = rw p.1 refl

clean_then : {A B : Type 0} (P : Rule A) (Q : A → Rule B) → Clean P → ((a : A) → Clean (Q a)) → Clean (P ▸ Q)
clean_then P Q h k b x p = rw p.3 (bad_append p.1 p.2 (h p.0 p.1 p.4) (k p.0 b p.2 p.5))

clean_or : {A : Type 0} (P Q : Rule A) → Clean P → Clean Q → Clean (P or Q)
clean_or P Q h k a x p = elim p [ inl q ↦ h a x q | inr q ↦ k a x q ]

clean_many : {A : Type 0} (P : Rule A) → Clean P → Clean (Many P)
clean_many P h [] x p = rw p refl
clean_many P h (a ∷ all) x p = rw p.2 (bad_append p.0 p.1 (h a p.0 p.3) (clean_many P h all p.1 p.4))

-- a token of another kind
clean_kind : {A : Type 0} (k : Kind) (f : Tok → Option A) → is_kind k Bad ≡ false → ((t : Tok) (a : A) → f t ≡ Some a → of_kind k t ≡ true) → Clean (One f)
clean_kind k f differ h = clean_one f (λ t a e. of_kind-apart k Bad differ t (h t a e))

clean_key : (text : List ℕ) → Clean (KEY text)
clean_key text = clean_kind Key _ refl (λ t a e. is-of_kind Key text t (place_of-is Key text t a e))

clean_mark : (text : List ℕ) → Clean (MARK text)
clean_mark text = clean_kind Mark _ refl (λ t a e. is-of_kind Mark text t (place_of-is Mark text t a e))

clean_name : Clean (One name_of)
clean_name = clean_kind Named _ refl (λ t a e. chosen (of_kind Named t) _ a e)

clean_number : Clean (One number_of)
clean_number = clean_kind Number _ refl (λ t a e. chosen (of_kind Number t) _ a e)

clean_plain : Clean (One plain_of)
clean_plain = clean_one plain_of (λ t a e. elim (or_cases (of_kind Number t) (of_kind Quoted t) (plain_of-plain t a e)) [
  | inl h ↦ of_kind-apart Number Bad refl t h
  | inr h ↦ of_kind-apart Quoted Bad refl t h
])

clean_prefix : Clean (One prefix_of)
clean_prefix = clean_kind Quoted _ refl (λ t a e. (and_parts _ _ (chosen _ _ a e)).0)

clean_op : Clean (One op_of)
clean_op = clean_kind Mark _ refl op_of-mark

-- ---- words

clean_made : {A B : Type 0} (P : Rule A) (f : A → B) → Clean P → Clean (P ▸ λ a. Nothing (f a))
clean_made P f h = clean_then P _ h (λ a. clean_nothing (f a))

clean_maybe : {A : Type 0} (P : Rule A) → Clean P → Clean (MaybeOf P)
clean_maybe P h = clean_or _ _ (clean_made P _ h) (clean_nothing None)

-- one P, then any number of S and P, and what is made of both
clean_list : {A B : Type 0} (S : Rule ℕ) (P : Rule A) (made : A → List A → B) → Clean S → Clean P → Clean (P ▸ λ a. Many (S ▸ λ _. P) ▸ λ all. Nothing (made a all))
clean_list S P made s h = clean_then P _ h (λ a. clean_made _ (made a) (clean_many _ (clean_then S _ s (λ _. h))))

clean_parens : {A : Type 0} (P : Rule A) → Clean P → Clean (InParens P)
clean_parens P h = clean_then _ _ (clean_mark _) (λ _. clean_then P _ h (λ a. clean_then _ _ (clean_mark _) (λ _. clean_nothing a)))

-- ---- conditions

clean_literal : Clean IsLiteral
clean_literal = clean_or _ _ (clean_then _ _ (clean_mark _) (λ at. clean_made _ _ clean_number)) clean_plain

clean_value : Clean IsValue
clean_value = clean_or _ _ (clean_made _ _ (clean_key _)) clean_literal

clean_reference : Clean IsReference
clean_reference = clean_then _ _ clean_name (λ a. clean_made _ _ (clean_maybe _ (clean_then _ _ (clean_mark _) (λ _. clean_name))))

clean_between : (made : Literal → Literal → Atom) → Clean (IsBetween made)
clean_between made = clean_then _ _ (clean_key _) (λ _. clean_then _ _ clean_literal (λ low. clean_then _ _ (clean_key _) (λ _. clean_made _ (made low) clean_literal)))

clean_in : (made : List Literal → Atom) → Clean (IsIn made)
clean_in made = clean_then _ _ (clean_key _) (λ _. clean_made _ made (clean_parens _ (clean_list _ _ _ (clean_mark _) clean_literal)))

clean_like : (made : Literal → Atom) → Clean (IsLike made)
clean_like made = clean_then _ _ (clean_key _) (λ _. clean_made _ made clean_prefix)

clean_null : Clean IsNullTest
clean_null =
    clean_then _ _ (clean_key _) (λ _. clean_or _ _ (clean_then _ _ (clean_key _) (λ _. clean_then _ _ (clean_key _) (λ _. clean_nothing _)))
    (clean_then _ _ (clean_key _) (λ _. clean_nothing _)))

clean_atom : Clean IsAtom
clean_atom =
    clean_or _ _ (clean_then _ _ (clean_key _) (λ _. clean_or _ _ (clean_between NotBetween) (clean_or _ _ (clean_in NotOneOf) (clean_like NotPrefix))))
    (clean_or _ _ (clean_between Between) (clean_or _ _ (clean_in OneOf) (clean_or _ _ (clean_like Prefix) (clean_or _ _ clean_null (clean_then _ _ clean_op (λ op. clean_made _ _ clean_literal))))))

clean_test : Clean IsTest
clean_test = clean_then _ _ clean_reference (λ r. clean_made _ _ clean_atom)

clean_conj : (U : Rule Cond) → Clean U → Clean (ConjOf U)
clean_conj U h = clean_list _ U _ (clean_key _) h

clean_cond : (U : Rule Cond) → Clean U → Clean (CondOf U)
clean_cond U h = clean_list _ (ConjOf U) _ (clean_key _) (clean_conj U h)

clean_unit : (n : ℕ) → Clean (IsUnit n)
unfolding IsUnit
clean_unit zero = clean_test
clean_unit (suc n) =
    clean_or _ _ (clean_then _ _ (clean_key _) (λ _. clean_made _ _ (clean_unit n))) (clean_or _ _ (clean_parens _ (clean_cond _ (clean_unit n))) clean_test)

-- ---- CREATE

clean_signed : Clean IsNumber
clean_signed = clean_or _ _ (clean_then _ _ (clean_mark _) (λ _. clean_made _ _ clean_number)) (clean_made _ _ clean_number)

clean_column_kind : Clean IsKind
clean_column_kind = clean_or _ _ (clean_then _ _ (clean_key _) (λ _. clean_nothing _)) (clean_or _ _ (clean_then _ _ (clean_key _) (λ _. clean_nothing _)) (clean_then _ _ (clean_key _) (λ _. clean_nothing _)))

clean_check : Clean IsCheck
clean_check = clean_then _ _ clean_name (λ name. clean_then _ _ (clean_key _) (λ _. clean_then _ _ clean_signed (λ low. clean_then _ _ (clean_key _) (λ _. clean_made _ _ clean_signed))))

clean_only : {A : Type 0} (may : Bool) (P : Rule A) → Clean P → Clean (Only may P)
clean_only may P h a x p = h a x p.1

clean_rules : (count : ℕ) (left : Left) → Clean (IsRules count left)
clean_rules zero left = clean_nothing []
clean_rules (suc count) left =
    clean_or _ _ (clean_only _ _ (clean_then _ _ (clean_key _) (λ _. clean_then _ _ (clean_key _) (λ _. clean_made _ _ (clean_rules count (record left { primary = false }))))))
    (clean_or _ _ (clean_only _ _ (clean_then _ _ (clean_key _) (λ _. clean_then _ _ (clean_key _) (λ _. clean_made _ _ (clean_rules count (record left { null = false }))))))
    (clean_or _ _ (clean_only _ _ (clean_then _ _ (clean_key _) (λ _. clean_made _ _ (clean_rules count (record left { null = false })))))
    (clean_or _ _ (clean_only _ _ (clean_then _ _ (clean_key _) (λ _. clean_then _ _ (clean_parens _ clean_check) (λ range. clean_made _ _ (clean_rules count (record left { check = false }))))))
    (clean_nothing []))))

clean_column : Clean IsColumn
clean_column = clean_then _ _ clean_name (λ name. clean_then _ _ clean_column_kind (λ k. clean_made _ _ (clean_rules 3 all_left)))

clean_create : Clean IsCreate
clean_create = clean_then _ _ (clean_key _) (λ _. clean_then _ _ (clean_key _) (λ _. clean_then _ _ clean_name (λ name. clean_made _ _ (clean_parens _ (clean_list _ _ _ (clean_mark _) clean_column)))))

-- ---- the other statements

clean_where : (n : ℕ) → Clean (IsWhere n)
clean_where n = clean_maybe _ (clean_then _ _ (clean_key _) (λ at. clean_made _ _ (clean_cond _ (clean_unit n))))

clean_listed : Clean IsListed
clean_listed = clean_or _ _ (clean_then _ _ (clean_mark _) (λ _. clean_nothing _)) (clean_made _ _ (clean_list _ _ _ (clean_mark _) clean_reference))

clean_join : Clean IsJoin
clean_join =
    clean_then _ _ (clean_or _ _ (clean_then _ _ (clean_key _) (λ _. clean_key _)) (clean_key _)) (λ _. clean_then _ _ clean_name (λ table. clean_then _ _ (clean_key _) (λ at.
    clean_then _ _ clean_reference (λ left. clean_then _ _ (clean_mark _) (λ _. clean_made _ _ clean_reference)))))

clean_select : (n : ℕ) → Clean (IsSelect n)
clean_select n =
    clean_then _ _ (clean_key _) (λ _. clean_then _ _ clean_listed (λ names. clean_then _ _ (clean_key _) (λ _. clean_then _ _ clean_name (λ first.
    clean_then _ _ (clean_many _ clean_join) (λ joins. clean_made _ _ (clean_where n))))))

clean_column_name : Clean IsColumnName
clean_column_name = clean_made _ _ clean_name

clean_column_names : Clean IsColumnNames
clean_column_names = clean_or _ _ (clean_parens _ (clean_list _ _ _ (clean_mark _) clean_column_name)) (clean_nothing [])

clean_row : Clean IsRow
clean_row = clean_then _ _ (clean_mark _) (λ at. clean_then _ _ (clean_list _ _ _ (clean_mark _) clean_value) (λ literals. clean_then _ _ (clean_mark _) (λ _. clean_nothing _)))

clean_insert : Clean IsInsert
clean_insert =
    clean_then _ _ (clean_key _) (λ _. clean_then _ _ (clean_key _) (λ _. clean_then _ _ clean_name (λ table. clean_then _ _ clean_column_names (λ columns.
    clean_then _ _ (clean_key _) (λ _. clean_made _ _ (clean_list _ _ _ (clean_mark _) clean_row))))))

clean_set : Clean IsSet
clean_set = clean_then _ _ clean_column_name (λ name. clean_then _ _ (clean_mark _) (λ _. clean_made _ _ clean_value))

clean_update : (n : ℕ) → Clean (IsUpdate n)
clean_update n =
    clean_then _ _ (clean_key _) (λ _. clean_then _ _ clean_name (λ table. clean_then _ _ (clean_key _) (λ _. clean_then _ _ (clean_list _ _ _ (clean_mark _) clean_set) (λ sets. clean_made _ _ (clean_where n)))))

clean_delete : (n : ℕ) → Clean (IsDelete n)
clean_delete n = clean_then _ _ (clean_key _) (λ _. clean_then _ _ (clean_key _) (λ _. clean_then _ _ clean_name (λ table. clean_made _ _ (clean_where n))))

pub clean_statement : (n : ℕ) → Clean (IsStatement n)
clean_statement n =
    clean_then _ _ (clean_or _ _ clean_create (clean_or _ _ (clean_select n) (clean_or _ _ clean_insert (clean_or _ _ (clean_update n) (clean_delete n)))))
    (λ t. clean_made _ _ (clean_maybe _ (clean_mark _)))

-- the next token of what goes on
pub next_clean : (front : List Tok) (t : Tok) (more : List Tok) → has_bad ((front ++ t ∷ []) ++ more) ≡ false → t.kind ≡ Bad → ⊥
next_clean [] t more e bad = absurd (cc ((or_parts (of_kind Bad t) (has_bad more) e).0, ap (λ k. is_kind k Bad) bad))
next_clean (u ∷ front) t more e bad = next_clean front t more ((or_parts (of_kind Bad u) _ e).1) bad
