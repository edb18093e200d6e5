-- A statement that writable tokens spell is spelled by its printed tokens too, which are writable.
use Rattle.std.proofs.Common.{◌≡◌, ℕ, List, [], inl, inr, Ok, None, refl, sym, subst}
use Rattle.std.proofs.lemmas.List.{append-nil}
use Rattle.sr_grammar.specs.Tokens.{Tok}
use Rattle.sr_grammar.specs.Trees.{Statement, Tree, Says, statement_of}
use Rattle.sr_grammar.specs.Rules.{Rule, ◌or◌}
use Rattle.sr_grammar.specs.Columns.{IsCreate}
use Rattle.sr_grammar.specs.Statements.{IsSelect, IsInsert, IsUpdate, IsDelete, IsStatement}
use Rattle.sr_grammar.specs.Printed.{printed_tokens}
use Rattle.sr_print.specs.Again.{PrintedAgain}
use Rattle.sr_print.proofs.AgainTokens.{Writable, cut}
use Rattle.sr_print.proofs.AgainTables.{Repeated, create_again}
use Rattle.sr_print.proofs.AgainStatements.{Restated, select_again, insert_again, update_again, delete_again}

abbrev IsOne : ℕ → Rule Tree
IsOne n = IsCreate or (IsSelect n or (IsInsert or (IsUpdate n or IsDelete n)))

-- without a semicolon
alone : (n : ℕ) (tree : Tree) (x : List Tok) → IsOne n tree x → IsStatement n tree x
alone n tree x h = (tree, x, [], sym (append-nil x), h, (None, [], [], refl, inr (refl, refl), (refl, refl)))

repeated : (P : Rule Tree) (tree : Tree) (s : Statement) → statement_of tree ≡ Ok s → Restated P tree → Repeated P s
repeated P tree s e r =
    let says = subst (λ z. statement_of z ≡ Ok s) r.1 e in
    subst (Repeated P) (same r.0 s says) (Says r.0, r.2, refl, r.3)
  where
    same : (a b : Statement) → statement_of (Says a) ≡ Ok b → a ≡ b
    same a b e = cc

pub printed_again : PrintedAgain
printed_again n tree ts s w h e =
    let parts = cut ts h.1 h.2 w h.3 in
    let says = subst (λ z. statement_of z ≡ Ok s) h.5.5.0 e in
    let r = one h.0 h.1 parts.0 h.4 says in
    (r.0, alone n r.0 (printed_tokens s) r.1, r.2, r.3)
  where
    under : (P Q : Rule Tree) → ((t : Tree) (x : List Tok) → P t x → Q t x) → Repeated P s → Repeated Q s
    under P Q into r = (r.0, into r.0 (printed_tokens s) r.1, r.2, r.3)

    one : (t : Tree) (x : List Tok) → Writable x → IsOne n t x → statement_of t ≡ Ok s → Repeated (IsOne n) s
    one t x w h e = elim h [
      | inl k ↦ under IsCreate (IsOne n) (λ t x k. inl k) (create_again t x s w k e)
      | inr k ↦ elim k [
        | inl m ↦ under (IsSelect n) (IsOne n) (λ t x k. inr (inl k)) (repeated (IsSelect n) t s e (select_again n t x w m))
        | inr m ↦ elim m [
          | inl i ↦ under IsInsert (IsOne n) (λ t x k. inr (inr (inl k))) (repeated IsInsert t s e (insert_again t x w i))
          | inr i ↦ elim i [
            | inl u ↦ under (IsUpdate n) (IsOne n) (λ t x k. inr (inr (inr (inl k)))) (repeated (IsUpdate n) t s e (update_again n t x w u))
            | inr d ↦ under (IsDelete n) (IsOne n) (λ t x k. inr (inr (inr (inr k)))) (repeated (IsDelete n) t s e (delete_again n t x w d))
          ]
        ]
      ]
    ]
