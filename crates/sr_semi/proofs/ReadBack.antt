-- A query that is printed is read again; and of a query that a text says, the conjuncts are spelled.
use Rattle.std.proofs.Common.{◌≡◌, ℕ, zero, suc, ◌+◌, Bool, true, false, List, [], ◌∷◌, map, length, inl, inr, Some, None, refl, sym, ap, subst, ◌∙◌, arith, if◌then◌else◌}
use Rattle.std.specs.Prelude.{◌||◌, ◌==◌, Ok, Err, Result, Option, IsTrue, filter}
use Rattle.sr_cell.specs.declared.fault.Fault.{Fault}
use Rattle.std.specs.List.{list_all, list_any}
use Rattle.std.proofs.lemmas.Bool.{or_parts}
use Rattle.std.proofs.lemmas.Option.{same_Some}
use Rattle.sr_cell.specs.declared.fault.Why.TheVariants.{NoKey, BadDomain, BadNull}
use Rattle.sr_grammar.specs.declared.statement.Definition.{Definition}
use Rattle.sr_grammar.specs.Tokens.{Bad, Tok, of_kind, tokens_of}
use Rattle.sr_grammar.specs.Trees.{Cond, Select, Statement, Create, Selects, Tree, Defines, Says as Stated, statement_of, has_bad_domain, is_key, is_nullable_key, table_of}
use Rattle.sr_grammar.specs.Rules.{Rule, ◌or◌}
use Rattle.sr_grammar.specs.Columns.{IsCreate}
use Rattle.sr_grammar.specs.Statements.{Where, IsWhere, filter_of, select_of, IsSelect, IsInsert, IsUpdate, IsDelete, IsStatement}
use Rattle.sr_grammar.specs.Says.{Says, most_levels}
use Rattle.sr_grammar.specs.Printed.{printed_tokens}
use Rattle.sr_grammar.specs.Spaced.{printed}
use Rattle.sr_grammar.specs.Places.{bare, bare_tree, bare_token, AreSame}
use Rattle.sr_grammar_laws.specs.Reading.{Got}
use Rattle.sr_grammar_laws.specs.Readers.{whole}
use Rattle.sr_grammar_laws.specs.Blind.{seen}
use Rattle.sr_grammar_laws.proofs.Top.{each_is_exact}
use Rattle.sr_grammar_laws.proofs.Clean.{has_bad, clean_statement}
use Rattle.sr_grammar_laws.proofs.BlindStatements.{is_blind}
use Rattle.sr_grammar_laws.proofs.LawsOfTrees.{both_statement}
use Rattle.sr_print.specs.Writable.{is_writable, are_writable}
use Rattle.sr_print.specs.LexedAgain.{is_writable_or_bad}
use Rattle.sr_print.proofs.Again.{printed_again}
use Rattle.sr_print.proofs.AgainTokens.{Writable, both_true, true_both, cut}
use Rattle.sr_print.proofs.LexingAgain.{written_again}
use Rattle.sr_print.proofs.LexingWritable.{lexed_writable}
use Rattle.sr_semi.specs.Sides.{where_of}
use Rattle.sr_semi.specs.Texts.{conjuncts}
use Rattle.sr_semi.proofs.Spelled.{AreSayable, IsSpelled, whole-sayable}

-- ---- what a text says

-- a statement that its tokens spell
record IsStated (text : List ℕ) (s : Statement) : Type 0 where
  tree : Tree
  spelled : IsStatement most_levels tree (tokens_of text)
  says : statement_of tree ≡ Ok s

stated : (text : List ℕ) (s : Statement) → Says text (Ok s) → IsStated text s
stated text s h = elim h [
  | inl long ↦ absurd (let e = long.1 in cc e)
  | inr short ↦ elim short.1 [
    | inl k ↦ record { tree = k.0; spelled = k.1; says = sym k.2 }
    | inr k ↦ absurd (let e = k.2 in cc e)
  ]
]

-- lexed tokens are writable, where none is bad
none-bad : (ts : List Tok) → IsTrue (list_all is_writable_or_bad ts) → has_bad ts ≡ false → IsTrue (are_writable ts)
none-bad [] h e = refl
none-bad (t ∷ ts) h e =
    let n = or_parts (of_kind Bad t) (has_bad ts) e in
    let s = both_true (is_writable_or_bad t) (list_all is_writable_or_bad ts) h in
    true_both (is_writable t) (are_writable ts) (go (is_writable t) (of_kind Bad t) s.0 n.0) (none-bad ts s.1 n.1)
  where
    go : (writable bad : Bool) → (writable || bad) ≡ true → bad ≡ false → writable ≡ true
    go true bad e f = refl
    go false bad e f = absurd (let k = sym e ∙ f in cc k)

-- ---- read again

higher : (k n : ℕ) (tree : Tree) (ts : List Tok) → IsStatement n tree ts → IsStatement (k + n) tree ts
higher zero n tree ts h = let e : n ≡ 0 + n = omega arith in subst (λ m. IsStatement m tree ts) e h
higher (suc k) n tree ts h = let e : suc k + n ≡ suc (k + n) = omega arith in subst (λ m. IsStatement m tree ts) (sym e) ((both_statement (k + n)).wider tree ts (higher k n tree ts h))

-- tokens that are the same but for places are read as the same tree but for places
same-tree : (n : ℕ) (us ts : List Tok) (one other : Tree) → map bare_token us ≡ map bare_token ts → whole n us ≡ Got one [] → whole n ts ≡ Got other [] → bare_tree one ≡ bare_tree other
same-tree n us ts one other e got got' =
    let same : Got (bare_tree one) [] ≡ Got (bare_tree other) [] =
    sym (ap (seen bare_tree) got) ∙ (sym (is_blind n us) ∙ (ap (whole n) e ∙ (is_blind n ts ∙ ap (seen bare_tree) got'))) in
    cc same

same-statement : (one other : Tree) (s t : Statement) → bare_tree one ≡ bare_tree other → statement_of one ≡ Ok s → statement_of other ≡ Ok t → AreSame s t
same-statement (Stated u) (Stated v) s t e says said =
    let b : bare u ≡ bare v = cc e in
    let k : u ≡ s = cc says in
    let l : v ≡ t = cc said in
    sym (ap bare k) ∙ (b ∙ ap bare l)
same-statement (Defines n c) (Defines m d) s t e says said =
    let k : statement_of (Defines n c) ≡ statement_of (Defines m d) = ap statement_of e in
    let l : s ≡ t = cc (sym says ∙ (k ∙ said)) in
    ap bare l
same-statement (Stated u) (Defines m d) s t e says said = absurd cc
same-statement (Defines n c) (Stated v) s t e says said = absurd cc

-- whatever the text of a query that tokens spell says, it is that query but for places
pub read-back : (q : Select) → IsSpelled q → (s : Statement) → Says (printed (Selects q)) (Ok s) → AreSame s (Selects q)
read-back q sp s says =
    let text = printed (Selects q) in
    let ts = printed_tokens (Selects q) in
    let st = stated text s says in
    let p = printed_again sp.levels (Stated (Selects q)) sp.tokens (Selects q) sp.writable sp.spelled refl in
    let high = sp.levels + most_levels in
    let e : most_levels + sp.levels ≡ sp.levels + most_levels = omega arith in
    let found = (each_is_exact high).only (tokens_of text) st.tree (higher sp.levels most_levels st.tree (tokens_of text) st.spelled) in
    let wanted = (each_is_exact high).only ts p.0 (subst (λ m. IsStatement m p.0 ts) e (higher most_levels sp.levels p.0 ts p.1)) in
    same-statement st.tree p.0 s (Selects q) (same-tree high (tokens_of text) ts st.tree p.0 (written_again ts p.3) found wanted) st.says p.2

-- ---- the conjuncts of a query

-- another statement than a query has no WHERE of its own
no-where : (tree : Tree) (u s : Statement) (c : Cond) → tree ≡ Stated u → where_of u ≡ None → statement_of tree ≡ Ok s → where_of s ≡ Some c → ⊥
no-where tree u s c is none e has =
    let says : statement_of (Stated u) ≡ Ok s = subst (λ z. statement_of z ≡ Ok s) is e in
    let same : u ≡ s = cc says in
    let wrong : None ≡ Some c = sym none ∙ (ap where_of same ∙ has) in
    cc wrong

abbrev created : Bool → Bool → Bool → List ℕ → List Definition → Result Statement Fault
created bad null one name columns =
    if bad then Err (record { why = BadDomain; at = 0 })
    else if null then Err (record { why = BadNull; at = 0 })
    else (if one then Ok (Create (table_of name columns)) else Err (record { why = NoKey; at = 0 }))

no-create : (name : List ℕ) (columns : List Definition) (s : Statement) (c : Cond) → statement_of (Defines name columns) ≡ Ok s → where_of s ≡ Some c → ⊥
no-create name columns s c e has = go (list_any has_bad_domain columns) (list_any is_nullable_key columns) (length (filter is_key columns) == 1) e
  where
    go : (bad null one : Bool) → created bad null one name columns ≡ Ok s → ⊥
    go true null one e = cc e
    go false true one e = cc e
    go false false true e = no-where (Stated (Create (table_of name columns))) (Create (table_of name columns)) s c refl refl e has
    go false false false e = cc e

where-spelled : (n : ℕ) (w : Option Where) (x : List Tok) (c : Cond) → Writable x → IsWhere n w x → filter_of w ≡ Some c → AreSayable (conjuncts c)
where-spelled n None x c w h e = absurd cc
where-spelled n (Some f) x c w h e = elim h [
  | inl k ↦ (
      let s = cut x k.1 k.2 w k.3 in
      let m = k.4 in
      let t = cut k.1 m.1 m.2 s.0 m.3 in
      let d = m.5 in
      let u = cut m.2 d.1 d.2 t.1 d.3 in
      let same : f.cond ≡ d.0 = ap (λ f. f.cond) (same_Some f k.0 k.5.0 ∙ d.5.0) in
      subst (λ z. AreSayable (conjuncts z)) (sym same ∙ same_Some f.cond c e) (whole-sayable n d.0 d.1 u.0 d.4))
  | inr k ↦ absurd (let wrong = k.0 in cc wrong)
]

abbrev IsOne : ℕ → Rule Tree
IsOne n = IsCreate or (IsSelect n or (IsInsert or (IsUpdate n or IsDelete n)))

one-spelled : (n : ℕ) (tree : Tree) (x : List Tok) (s : Statement) (c : Cond) → Writable x → IsOne n tree x → statement_of tree ≡ Ok s → where_of s ≡ Some c → AreSayable (conjuncts c)
one-spelled n tree x s c w h e has = elim h [
  | inl k ↦ absurd (no-create k.5.5.0.text k.5.5.5.0 s c (subst (λ z. statement_of z ≡ Ok s) k.5.5.5.5.0 e) has)
  | inr k ↦ elim k [
    | inl m ↦ query m
    | inr m ↦ elim m [
      | inl i ↦ absurd (no-where tree _ s c i.5.5.5.5.5.5.0 refl e has)
      | inr i ↦ elim i [
        | inl u ↦ absurd (no-where tree _ s c u.5.5.5.5.5.0 refl e has)
        | inr d ↦ absurd (no-where tree _ s c d.5.5.5.5.0 refl e has)
      ]
    ]
  ]
]
  where
    query : IsSelect n tree x → AreSayable (conjuncts c)
    query h =
        let a = cut x h.1 h.2 w h.3 in
        let list = h.5 in
        let b = cut h.2 list.1 list.2 a.1 list.3 in
        let from = list.5 in
        let c' = cut list.2 from.1 from.2 b.1 from.3 in
        let first = from.5 in
        let d = cut from.2 first.1 first.2 c'.1 first.3 in
        let joins = first.5 in
        let j = cut first.2 joins.1 joins.2 d.1 joins.3 in
        let filter = joins.5 in
        let f = cut joins.2 filter.1 filter.2 j.1 filter.3 in
        let u : Statement = Selects (select_of list.0 first.0 joins.0 filter.0) in
        let says : statement_of (Stated u) ≡ Ok s = subst (λ z. statement_of z ≡ Ok s) filter.5.0 e in
        let same : u ≡ s = cc says in
        let found : filter_of filter.0 ≡ Some c = ap where_of same ∙ has in
        where-spelled n filter.0 filter.1 c f.0 filter.4 found

pub said-conjuncts : (text : List ℕ) (s : Statement) (c : Cond) → Says text (Ok s) → where_of s ≡ Some c → AreSayable (conjuncts c)
said-conjuncts text s c says has =
    let st = stated text s says in
    let writable = none-bad (tokens_of text) (lexed_writable text) (clean_statement most_levels st.tree (tokens_of text) st.spelled) in
    let h = st.spelled in
    let parts = cut (tokens_of text) h.1 h.2 writable h.3 in
    one-spelled most_levels h.0 h.1 s c parts.0 h.4 (subst (λ z. statement_of z ≡ Ok s) h.5.5.0 st.says) has
