-- A CREATE has fewer columns than tokens.
use Rattle.std.proofs.Common.{◌≡◌, ℕ, zero, suc, ◌+◌, ◌<◌, ◌≤◌, Bool, true, false, List, [], ◌∷◌, inl, inr, filter, length, Option, Some, None, refl, ap, subst, arith}
use Rattle.std.specs.Prelude.{if◌then◌else◌, codes, ◌-◌, ◌==◌, drop}
use Rattle.std.proofs.lemmas.List.{length-append, length-map}
use Rattle.sr_grammar.specs.declared.statement.Definition.{Definition}
use Rattle.sr_token.specs.declared.token.TokenKind.{TokenKind}
use Rattle.sr_token.specs.Tokens.{begin, first_token, then_rest, tokens_within, tokens_from}
use Rattle.sr_grammar.specs.Tokens.{Named, Tok, of_kind, tokens_of, lexeme_seen}
use Rattle.sr_grammar.specs.Trees.{Tree, Defines, Says, is_key, key_of}
use Rattle.sr_grammar.specs.Rules.{Rule, One, Nothing, ◌>>=◌ as ◌▸◌, ◌or◌, Many}
use Rattle.sr_grammar.specs.Conditions.{MARK, ListOf, InParens}
use Rattle.sr_grammar.specs.Columns.{IsColumn, IsCreate}
use Rattle.sr_grammar.specs.Statements.{IsSelect, IsInsert, IsUpdate, IsDelete, IsStatement}
use Rattle.sr_grammar_laws.specs.Reading.{Got}
use Rattle.sr_grammar_laws.specs.Readers.{whole}
use Rattle.sr_grammar_laws.proofs.Words.{Begins}
use Rattle.sr_grammar_laws.proofs.LawsOfStatements.{name_begins}
use Rattle.sr_grammar_laws.proofs.Top.{each_is_exact}

-- a spelling of P has so many tokens at least
abbrev Short : {A : Type 0} → (A → ℕ) → Rule A → Type 0
Short {A = A} size P = (a : A) (x : List Tok) → P a x → size a ≤ length x

short_nothing : {A : Type 0} (size : A → ℕ) (b : A) → size b ≡ 0 → Short size (Nothing b)
short_nothing size b e a x h = rw (h.0, h.1, e) (omega arith)

short_then : {A B : Type 0} (size : B → ℕ) (P : Rule A) (Q : A → Rule B) → ((a : A) → Short size (Q a)) → Short size (P ▸ Q)
short_then size P Q h b x p = omega (arith, h p.0 b p.2 p.5, ap length p.3, length-append p.1 p.2)

short_or : {A : Type 0} (size : A → ℕ) (P Q : Rule A) → Short size P → Short size Q → Short size (P or Q)
short_or size P Q h k a x p = elim p [ inl q ↦ h a x q | inr q ↦ k a x q ]

-- a token and then Q
short_after : {A B : Type 0} (size less : B → ℕ) (f : Tok → Option A) (Q : A → Rule B) → ((b : B) → size b ≤ suc (less b)) → ((a : A) → Short less (Q a)) → Short size (One f ▸ Q)
short_after size less f Q e h b x p = omega (arith, e b, h p.0 b p.2 p.5, ap length p.3, length-append p.1 p.2, ap length p.4.2)

short_made : {A B : Type 0} (size : A → ℕ) (less : B → ℕ) (P : Rule A) (f : A → B) → ((a : A) → less (f a) ≤ size a) → Short size P → Short less (P ▸ λ a. Nothing (f a))
short_made size less P f e h b x p =
    let s : less b ≤ size p.0 = rw p.5.0 (e p.0) in
    omega (arith, s, h p.0 p.1 p.4, ap length p.3, length-append p.1 p.2)

nonempty : {A : Type 0} (P : Rule A) (f : Tok → Bool) → Begins P f → (a : A) (x : List Tok) → P a x → 0 < length x
nonempty P f begins a [] h = absurd (let k = begins a [] [] h in cc)
nonempty P f begins a (t ∷ x) h = omega arith

short_many : {A : Type 0} (P : Rule A) → ((a : A) (x : List Tok) → P a x → 0 < length x) → Short length (Many P)
short_many P h [] x p = omega arith
short_many P h (a ∷ all) x p = omega (arith, h a p.0 p.3, short_many P h all p.1 p.4, ap length p.2, length-append p.0 p.1)

-- ---- lists of columns

column_begins : Begins IsColumn (of_kind Named)
column_begins = name_begins _

pub columns_list_short : Short length (ListOf (MARK (codes ",")) IsColumn)
columns_list_short columns x p =
    let first = nonempty IsColumn (of_kind Named) column_begins p.0 p.1 p.4 in
    let q = p.5 in
    let many = short_many (MARK (codes ",") ▸ λ _. IsColumn) (λ a y h. item a y h) q.0 q.1 q.4 in
    omega (arith, first, many, ap length p.3, length-append p.1 p.2, ap length q.3, length-append q.1 q.2, ap length q.5.0)
  where
    item : (a : Definition) (y : List Tok) → (MARK (codes ",") ▸ λ _. IsColumn) a y → 0 < length y
    item a y h = omega (arith, ap length h.3, length-append h.1 h.2, ap length h.4.2)

-- ---- trees

abbrev columns_in : Tree → ℕ
columns_in (Defines table columns) = length columns
columns_in (Says s) = 0

-- the columns, and a token more
abbrev least : Tree → ℕ
least (Defines table columns) = suc (length columns)
least (Says s) = 0

least_one : (t : Tree) → least t ≤ suc (columns_in t)
least_one (Defines table columns) = omega arith
least_one (Says s) = omega arith

short_parens : {A : Type 0} (size : A → ℕ) (P : Rule A) → Short size P → Short size (InParens P)
short_parens size P h = short_then size _ _ (λ at. inside)
  where
    inside : Short size (P ▸ λ a. MARK (codes ")") ▸ λ _. Nothing a)
    inside b x p =
        let s : size b ≤ size p.0 = rw p.5.5.0 (omega arith) in
        omega (arith, s, h p.0 p.1 p.4, ap length p.3, length-append p.1 p.2)

short_create : Short least IsCreate
short_create =
    short_after least columns_in _ _ least_one (λ at. short_then columns_in _ _ (λ at. short_then columns_in _ _ (λ name.
    short_made length columns_in _ _ (λ columns. omega arith) (short_parens length _ columns_list_short))))

short_select : (n : ℕ) → Short least (IsSelect n)
short_select n =
    short_then least _ _ (λ at. short_then least _ _ (λ names. short_then least _ _ (λ at. short_then least _ _ (λ first. short_then least _ _ (λ joins.
    short_then least _ _ (λ w. short_nothing least _ refl))))))

short_insert : Short least IsInsert
short_insert =
    short_then least _ _ (λ at. short_then least _ _ (λ at. short_then least _ _ (λ table. short_then least _ _ (λ columns. short_then least _ _ (λ at.
    short_then least _ _ (λ rows. short_nothing least _ refl))))))

short_update : (n : ℕ) → Short least (IsUpdate n)
short_update n =
    short_then least _ _ (λ at. short_then least _ _ (λ table. short_then least _ _ (λ at. short_then least _ _ (λ sets. short_then least _ _ (λ w. short_nothing least _ refl)))))

short_delete : (n : ℕ) → Short least (IsDelete n)
short_delete n = short_then least _ _ (λ at. short_then least _ _ (λ at. short_then least _ _ (λ table. short_then least _ _ (λ w. short_nothing least _ refl))))

short_statement : (n : ℕ) → Short least (IsStatement n)
short_statement n tree x p =
    let t = short_or least _ _ short_create (short_or least _ _ (short_select n) (short_or least _ _ short_insert (short_or least _ _ (short_update n) (short_delete n)))) p.0 p.1 p.4 in
    let s : least tree ≤ least p.0 = rw p.5.5.0 (omega arith) in
    omega (arith, s, t, ap length p.3, length-append p.1 p.2)

pub fewer_columns : (n : ℕ) (ts : List Tok) (table : List ℕ) (columns : List Definition) (rest : List Tok) → whole n ts ≡ Got (Defines table columns) rest → length columns < length ts
fewer_columns n ts table columns rest e = short_statement n (Defines table columns) ts (((each_is_exact n).found ts rest (Defines table columns) e).1)

-- ---- the number of a key column

-- no more tokens than bytes, but for one that is none
within_short : (count : ℕ) (source : List ℕ) (at : ℕ) → length (tokens_within count source at) ≤ count
within_short zero source at = omega arith
within_short (suc count) source at = go (begin source at == length source) (first_token (drop (begin source at) source)) (within_short count source)
  where
    go : (b : Bool) (t : Option (TokenKind × ℕ)) → ((from : ℕ) → length (tokens_within count source from) ≤ count)
        → length (if b then [] else then_rest source (begin source at) (tokens_within count source) t) ≤ suc count
    go true t h = omega arith
    go false None h = omega arith
    go false (Some t) h = omega (arith, h (begin source at + t.1))

pub tokens_short : (text : List ℕ) → length (tokens_of text) ≤ suc (length text)
unfolding tokens_from
tokens_short text = omega (arith, length-map (tokens_within (suc (length text - 0)) text 0) lexeme_seen, within_short (suc (length text - 0)) text 0)

-- the columns of a CREATE in a short text
pub columns_fit : (n : ℕ) (text table : List ℕ) (columns : List Definition) (rest : List Tok) → length text ≤ 65536 → whole n (tokens_of text) ≡ Got (Defines table columns) rest → length columns ≤ 65536
columns_fit n text table columns rest short e = omega (arith, short, fewer_columns n (tokens_of text) table columns rest e, tokens_short text)

-- where a column is the key, its number is one of theirs
pub key_short : (columns : List Definition) → 0 < length (filter is_key columns) → key_of columns < length columns
key_short [] h = absurd (omega (arith, h))
key_short (d ∷ ds) h = go (is_key d) refl (key_short ds)
  where
    go : (b : Bool) → is_key d ≡ b → (0 < length (filter is_key ds) → key_of ds < length ds) → (if is_key d then 0 else key_of ds + 1) < suc (length ds)
    go true was ih = rw was (omega arith)
    go false was ih =
        let others : filter is_key (d ∷ ds) ≡ filter is_key ds = rw was refl in
        rw was (omega (arith, ih (subst (λ z. 0 < length z) others h)))
