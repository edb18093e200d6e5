-- An INSERT has fewer rows than its text has bytes.
use Rattle.std.proofs.Common.{◌≡◌, ℕ, Bool, true, false, ◌+◌, ◌<◌, ◌≤◌, ◌==◌, List, [], ◌∷◌, inl, inr, length, ap, subst, arith}
use Rattle.std.specs.Prelude.{Option, Result, Ok, Err, codes, filter, if◌then◌else◌}
use Rattle.std.specs.List.{list_any}
use Rattle.std.proofs.lemmas.List.{length-append}
use Rattle.sr_cell.specs.declared.table.Table.{Table}
use Rattle.sr_cell.specs.declared.fault.Fault.{Fault}
use Rattle.sr_cell.specs.declared.fault.Why.TheVariants.{BadDomain, BadNull, NoKey}
use Rattle.sr_grammar.specs.declared.statement.Insert.{Insert}
use Rattle.sr_grammar.specs.Tokens.{Tok, tokens_of}
use Rattle.sr_grammar.specs.declared.statement.Definition.{Definition}
use Rattle.sr_grammar.specs.Trees.{Statement, Create, Inserts, Tree, Defines, Says as Saying, statement_of, table_of, is_key, is_nullable_key, has_bad_domain}
use Rattle.sr_grammar.specs.Rules.{Rule, One, ◌>>=◌ as ◌▸◌, ◌or◌, Many}
use Rattle.sr_grammar.specs.Conditions.{MARK, ListOf}
use Rattle.sr_grammar.specs.Columns.{IsCreate}
use Rattle.sr_grammar.specs.Statements.{IsRow, IsSelect, IsInsert, IsUpdate, IsDelete, IsStatement}
use Rattle.sr_grammar.specs.Says.{most_levels, Says}
use Rattle.sr_grammar_laws.proofs.Columns.{tokens_short}

abbrev pub judged : Bool → Bool → Bool → Table → Result Statement Fault
judged x n y t =
    if x then Err (record { why = BadDomain; at = 0 })
    else if n then Err (record { why = BadNull; at = 0 })
    else (if y then Ok (Create t) else Err (record { why = NoKey; at = 0 }))

-- what is judged well is a CREATE
pub judged_create : (x n y : Bool) (t : Table) (s : Statement) → Ok s ≡ judged x n y t → s ≡ Create t
judged_create true n y t s same = absurd cc
judged_create false true y t s same = absurd cc
judged_create false false true t s same = cc
judged_create false false false t s same = absurd cc

-- a CREATE says no INSERT
no_insert : (name : List ℕ) (columns : List Definition) (s : Insert) → Ok (Inserts s) ≡ statement_of (Defines name columns) → ⊥
no_insert name columns s same =
    let create = judged_create (list_any has_bad_domain columns) (list_any is_nullable_key columns) (length (filter is_key columns) == 1) (table_of name columns) (Inserts s) same in cc

parts : {A B : Type 0} (P : Rule A) (Q : A → Rule B) (b : B) (x : List Tok) (p : (P ▸ Q) b x) → length x ≡ length p.1 + length p.2
parts P Q b x p = omega (arith, ap length p.3, length-append p.1 p.2)

abbrev pub TakesSome : {A : Type 0} → Rule A → Type 0
TakesSome {A = A} P = (a : A) (x : List Tok) → P a x → 0 < length x

-- what begins with a token takes some
after_one : {A B : Type 0} (f : Tok → Option A) (Q : A → Rule B) → TakesSome (One f ▸ Q)
after_one f Q b x p = omega (arith, parts (One f) Q b x p, ap length p.4.2)

many_short : {A : Type 0} (P : Rule A) → TakesSome P → (all : List A) (x : List Tok) → Many P all x → length all ≤ length x
many_short P some [] x p = omega arith
many_short P some (a ∷ all) x p = omega (arith, some a p.0 p.3, many_short P some all p.1 p.4, ap length p.2, length-append p.0 p.1)

-- a list is no longer than its tokens are many
pub list_short : {A : Type 0} (text : List ℕ) (P : Rule A) → TakesSome P → (all : List A) (x : List Tok) → ListOf (MARK text) P all x → length all ≤ length x
list_short text P some all x p =
    let q = p.5 in
    let first = some p.0 p.1 p.4 in
    let more = many_short (MARK text ▸ λ _. P) (after_one _ (λ _. P)) q.0 q.1 q.4 in
    omega (arith, first, more, ap length p.3, length-append p.1 p.2, ap length q.3, length-append q.1 q.2, ap length q.5.0)

row_some : TakesSome IsRow
row_some = after_one _ _

of_insert : (s : Insert) (tree : Tree) (x : List Tok) → Saying (Inserts s) ≡ tree → IsInsert tree x → length s.rows + 2 ≤ length x
of_insert s tree x same p =
    let a = p.5 in
    let b = a.5 in
    let d = b.5 in
    let e = d.5 in
    let f = e.5 in
    let all = list_short (codes ",") IsRow row_some f.0 f.1 f.4 in
    let is : s.rows ≡ f.0 = (let made = f.5.0 in cc) in
    omega (
      arith,
      all,
      ap length is,
      ap length p.3,
      length-append p.1 p.2,
      ap length p.4.2,
      ap length a.3,
      length-append a.1 a.2,
      ap length a.4.2,
      ap length b.3,
      length-append b.1 b.2,
      ap length d.3,
      length-append d.1 d.2,
      ap length e.3,
      length-append e.1 e.2,
      ap length f.3,
      length-append f.1 f.2,
    )

of_tree : (n : ℕ) (s : Insert) (tree : Tree) (x : List Tok) → Saying (Inserts s) ≡ tree → (IsCreate or (IsSelect n or (IsInsert or (IsUpdate n or IsDelete n)))) tree x → length s.rows + 2 ≤ length x
of_tree n s tree x same (inl p) = absurd (let e = p.5.5.5.5.0 in cc)
of_tree n s tree x same (inr (inl p)) = absurd (let e = p.5.5.5.5.5.5.0 in cc)
of_tree n s tree x same (inr (inr (inl p))) = of_insert s tree x same p
of_tree n s tree x same (inr (inr (inr (inl p)))) = absurd (let e = p.5.5.5.5.5.0 in cc)
of_tree n s tree x same (inr (inr (inr (inr p)))) = absurd (let e = p.5.5.5.5.0 in cc)

rows_short : (s : Insert) (ts : List Tok) → IsStatement most_levels (Saying (Inserts s)) ts → length s.rows + 2 ≤ length ts
rows_short s ts p = omega (arith, ap length p.3, length-append p.1 p.2, of_tree most_levels s p.0 p.1 p.5.5.0 p.4)

pub fewer_rows : (sql : List ℕ) (s : Insert) → Says sql (Ok (Inserts s)) → length s.rows < 65536
fewer_rows sql s (inl long) = absurd (let e = long.1 in cc)
fewer_rows sql s (inr (short, inl (tree, spelled, same))) = by tree spelled same
  where
    by : (t : Tree) → IsStatement most_levels t (tokens_of sql) → Ok (Inserts s) ≡ statement_of t → length s.rows < 65536
    by (Saying u) spelled same =
        let one : u ≡ Inserts s = cc in
        let here : IsStatement most_levels (Saying (Inserts s)) (tokens_of sql) = subst (λ v. IsStatement most_levels (Saying v) (tokens_of sql)) one spelled in
        omega (arith, short, rows_short s (tokens_of sql) here, tokens_short sql)
    by (Defines name columns) spelled same = absurd (no_insert name columns s same)
fewer_rows sql s (inr (short, inr (fault, outside, same))) = absurd cc
