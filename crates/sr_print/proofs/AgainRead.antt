-- What a text says is said again by its printed form; and what tables it may create.
use Rattle.std.proofs.Common.{◌≡◌, ℕ, ◌≤◌, Bool, true, false, List, [], ◌∷◌, map, length, inl, inr, Ok, refl, sym, ap, subst, ◌∙◌}
use Rattle.std.specs.Prelude.{◌||◌, IsTrue}
use Rattle.std.specs.List.{list_all}
use Rattle.std.proofs.lemmas.Bool.{or_parts}
use Rattle.sr_grammar.specs.Tokens.{Bad, Tok, of_kind, tokens_of}
use Rattle.sr_cell.specs.declared.table.Table.{Table}
use Rattle.sr_grammar.specs.Columns.{IsCreate}
use Rattle.sr_grammar.specs.Rules.{◌or◌}
use Rattle.sr_grammar.specs.Trees.{Create, Statement, Tree, Defines, Says as Stated, statement_of}
use Rattle.sr_grammar.specs.Statements.{IsDelete, IsInsert, IsSelect, IsStatement, IsUpdate}
use Rattle.sr_grammar.specs.Says.{Says, most_levels}
use Rattle.sr_grammar.specs.Printed.{printed_tokens}
use Rattle.sr_grammar.specs.Spaced.{printed}
use Rattle.sr_grammar.specs.Places.{bare, bare_tree, bare_token, AreSame}
use Rattle.sr_grammar_laws.specs.Reading.{Reading, Got, Fails}
use Rattle.sr_grammar_laws.specs.Readers.{whole}
use Rattle.sr_grammar_laws.specs.Blind.{seen}
use Rattle.sr_grammar_laws.proofs.Top.{each_is_exact}
use Rattle.sr_grammar_laws.proofs.Clean.{has_bad, clean_statement}
use Rattle.sr_grammar_laws.proofs.BlindStatements.{is_blind}
use Rattle.sr_print.specs.Writable.{is_writable, are_writable}
use Rattle.sr_print.specs.LexedAgain.{is_writable_or_bad}
use Rattle.sr_print.specs.ReadAgain.{SaysSame, SaysAgain, ReadAgain}
use Rattle.sr_print.proofs.Again.{printed_again}
use Rattle.sr_print.proofs.AgainTables.{IsCreated, create_created}
use Rattle.sr_print.proofs.AgainTokens.{Writable, both_true, cut, true_both}
use Rattle.sr_print.proofs.LexingAgain.{written_again}
use Rattle.sr_print.proofs.LexingWritable.{lexed_writable}

-- lexed tokens are writable, where none is bad
none_bad : (ts : List Tok) → IsTrue (list_all is_writable_or_bad ts) → has_bad ts ≡ false → IsTrue (are_writable ts)
none_bad [] h e = refl
none_bad (t ∷ ts) h e =
    let n = or_parts (of_kind Bad t) (has_bad ts) e in
    let s = both_true (is_writable_or_bad t) (list_all is_writable_or_bad ts) h in
    true_both (is_writable t) (are_writable ts) (go (is_writable t) (of_kind Bad t) s.0 n.0) (none_bad ts s.1 n.1)
  where
    go : (writable bad : Bool) → (writable || bad) ≡ true → bad ≡ false → writable ≡ true
    go true bad e f = refl
    go false bad e f = absurd (let k = sym e ∙ f in cc k)

-- what a text says is a statement that its tokens spell
stated : (text : List ℕ) (s : Statement) → Says text (Ok s) → (tree : Tree) × IsStatement most_levels tree (tokens_of text) × (statement_of tree ≡ Ok s)
stated text s h = elim h [
  | inl long ↦ absurd (let e = long.1 in cc e)
  | inr short ↦ elim short.1 [
    | inl k ↦ (k.0, k.1, sym k.2)
    | inr k ↦ absurd (let e = k.2 in cc e)
  ]
]

restated : (text : List ℕ) (s : Statement) (tree : Tree) → length text ≤ 65536 → IsStatement most_levels tree (tokens_of text) → statement_of tree ≡ Ok s → Says text (Ok s)
restated text s tree short spelled e = inr (short, inl (tree, spelled, sym e))

-- a reading that is one of a tree but for places
found : (r : Reading Tree) (tree : Tree) → seen bare_tree r ≡ Got (bare_tree tree) [] → (t : Tree) × (rest : List Tok) × (r ≡ Got t rest) × (bare_tree t ≡ bare_tree tree)
found (Got t rest) tree e = (t, rest, refl, (let k : bare_tree t ≡ bare_tree tree = cc e in k))
found (Fails deep rest) tree e = absurd cc

-- tokens that are the same but for places are read as the same tree but for places
read_same : (n : ℕ) (us ts : List Tok) (tree : Tree) → map bare_token us ≡ map bare_token ts → whole n ts ≡ Got tree [] → seen bare_tree (whole n us) ≡ Got (bare_tree tree) []
read_same n us ts tree e got = sym (is_blind n us) ∙ ap (whole n) e ∙ is_blind n ts ∙ ap (seen bare_tree) got

-- trees that are the same but for places make statements that are so
same_statement : (t tree : Tree) (s : Statement) → bare_tree t ≡ bare_tree tree → statement_of tree ≡ Ok s → (u : Statement) × (statement_of t ≡ Ok u) × AreSame u s
same_statement (Stated u) (Stated v) s e says =
    let b : bare u ≡ bare v = cc e in
    let k : v ≡ s = cc says in
    (u, refl, b ∙ ap bare k)
same_statement (Defines n c) (Defines m d) s e says = (s, ap statement_of e ∙ says, refl)
same_statement (Stated u) (Defines m d) s e says = absurd cc
same_statement (Defines n c) (Stated v) s e says = absurd cc

pub read_again : ReadAgain
read_again text s says short =
    let tree = stated text s says in
    let writable = none_bad (tokens_of text) (lexed_writable text) (clean_statement most_levels tree.0 (tokens_of text) tree.1) in
    let p = printed_again most_levels tree.0 (tokens_of text) s writable tree.1 tree.2 in
    let got = (each_is_exact most_levels).only (printed_tokens s) p.0 p.1 in
    let same = read_same most_levels (tokens_of (printed s)) (printed_tokens s) p.0 (written_again (printed_tokens s) p.3) got in
    let f = found (whole most_levels (tokens_of (printed s))) p.0 same in
    let spelled = (each_is_exact most_levels).found (tokens_of (printed s)) f.1 f.0 f.2 in
    let u = same_statement f.0 p.0 s f.3 p.2 in
    (u.0, restated (printed s) u.0 f.0 short spelled.1 u.1, u.2)

pub says_again : (text : List ℕ) (s : Statement) → text ≡ printed s → SaysAgain text s
says_again text s e said short = subst (λ z. SaysSame z s) (sym e) (read_again said.0 s said.1 (subst (λ z. length z ≤ 65536) e short))

-- ---- what a text creates

-- the statement of another tree is the one that it says
stated_create : (tree : Tree) (s : Statement) (t : Table) → tree ≡ Stated s → statement_of tree ≡ Ok (Create t) → s ≡ Create t
stated_create tree s t is e = let k : statement_of (Stated s) ≡ Ok (Create t) = sym (ap statement_of is) ∙ e in cc

tree_created : (n : ℕ) (tree : Tree) (x : List Tok) (t : Table) → Writable x → (IsCreate or (IsSelect n or (IsInsert or (IsUpdate n or IsDelete n)))) tree x → statement_of tree ≡ Ok (Create t) → IsCreated t
tree_created n tree x t w h e = elim h [
  | inl create ↦ create_created tree x t w create e
  | inr k ↦ elim k [
    | inl select ↦ absurd (let s = stated_create tree _ t select.5.5.5.5.5.5.0 e in cc s)
    | inr m ↦ elim m [
      | inl insert ↦ absurd (let s = stated_create tree _ t insert.5.5.5.5.5.5.0 e in cc s)
      | inr i ↦ elim i [
        | inl update ↦ absurd (let s = stated_create tree _ t update.5.5.5.5.5.0 e in cc s)
        | inr delete ↦ absurd (let s = stated_create tree _ t delete.5.5.5.5.0 e in cc s)
      ]
    ]
  ]
]

pub says_created : (text : List ℕ) (t : Table) → Says text (Ok (Create t)) → IsCreated t
says_created text t says =
    let tree = stated text (Create t) says in
    let writable = none_bad (tokens_of text) (lexed_writable text) (clean_statement most_levels tree.0 (tokens_of text) tree.1) in
    let h = tree.1 in
    let parts = cut (tokens_of text) h.1 h.2 writable h.3 in
    tree_created most_levels h.0 h.1 t parts.0 h.4 (subst (λ (z : Tree). statement_of z ≡ Ok (Create t)) h.5.5.0 tree.2)
