-- A text says just one thing.
use Rattle.std.proofs.Common.{◌≡◌, ℕ, List, [], ◌∷◌, ◌++◌, ◌⊎◌, inl, inr, length, Result, Err, refl, sym, ap, subst, ◌∙◌, append_assoc, arith}
use Rattle.std.proofs.lemmas.List.{append-nil}
use Rattle.std.proofs.lemmas.Bool.{cases_lt}
use Rattle.sr_cell.specs.declared.fault.Fault.{Fault}
use Rattle.sr_cell.specs.declared.fault.Why.{Why}
use Rattle.sr_cell.specs.declared.fault.Why.TheVariants.{LongText, Grammar}
use Rattle.sr_grammar.specs.Tokens.{Tok, tokens_of}
use Rattle.sr_grammar.specs.Trees.{Statement, Tree, statement_of}
use Rattle.sr_grammar.specs.Statements.{IsStatement}
use Rattle.sr_grammar.specs.Says.{most_levels, Begins, Stops, place_in, IsOutside, SaysShort}
use Rattle.sr_grammar_laws.specs.Reading.{Reading, Got, Fails}
use Rattle.sr_grammar_laws.specs.Readers.{whole}
use Rattle.sr_grammar_laws.specs.OneSaying.{EachSaysOne, EachSaysSomething}
use Rattle.sr_grammar_laws.proofs.Top.{each_is_exact}
use Rattle.sr_grammar_laws.proofs.Bridge.{goes_on_clean, why_of, outside_of}

-- ---- where two fronts of the same tokens end

-- both fronts are the same, or one goes on with the next token behind the other
abbrev GoesOn : List Tok → List Tok → List Tok → Type 0
GoesOn short rest long = (t : Tok) × (tail : List Tok) × (more : List Tok) × (rest ≡ t ∷ tail) × (long ≡ (short ++ t ∷ []) ++ more)

behind : (t : Tok) (short rest long : List Tok) → GoesOn short rest long → GoesOn (t ∷ short) rest (t ∷ long)
behind t short rest long g = (g.0, g.1, g.2, g.3, ap (λ z. t ∷ z) g.4)

compare : (front rest front' rest' : List Tok) → front ++ rest ≡ front' ++ rest' → ((front ≡ front') × (rest ≡ rest')) ⊎ GoesOn front rest front' ⊎ GoesOn front' rest' front
compare [] rest [] rest' e = inl (refl, e)
compare [] rest (u ∷ us) rest' e = inr (inl (u, us ++ rest', us, e, refl))
compare (t ∷ ts) rest [] rest' e = inr (inr (t, ts ++ rest, ts, sym e, refl))
compare (t ∷ ts) rest (u ∷ us) rest' e =
    let same : t ≡ u = cc e in
    let tails : ts ++ rest ≡ us ++ rest' = cc e in
    elim (compare ts rest us rest' tails) [
      | inl h ↦ inl (rw (same, h.0) refl, h.1)
      | inr h ↦ elim h [
        | inl g ↦ inr (inl (subst (λ z. GoesOn (t ∷ ts) rest (z ∷ us)) same (behind t ts rest us g)))
        | inr g ↦ inr (inr (subst (λ z. GoesOn (z ∷ us) rest' (t ∷ ts)) same (behind t us rest' ts g)))
      ]
    ]

-- where a front stops, no statement of so many levels goes on with the next token
ends : (why : Why) (front : List Tok) (t : Tok) (ts : List Tok) → Stops why front (t ∷ ts) → Begins most_levels (front ++ t ∷ []) → ⊥
ends why front t ts s b = elim s [
  | inl h ↦ goes_on_clean most_levels front t b h.1
  | inr k ↦ elim k [ inl h ↦ h.1.1 most_levels b | inr h ↦ h.1.1 b ]
]

-- where a front stops at the end, it is no statement
no_statement : (why : Why) (front : List Tok) (tree : Tree) → Stops why front [] → IsStatement most_levels tree front → ⊥
no_statement why front tree s spelled = elim s [
  | inl h ↦ h.1
  | inr k ↦ elim k [ inl h ↦ h.1 tree spelled | inr h ↦ h.1 ]
]

-- a longer front begins a statement with that token too
never_shorter : (why : Why) (short rest long : List Tok) → Stops why short rest → GoesOn short rest long → Begins most_levels long → ⊥
never_shorter why short rest long s g b =
    ends why short g.0 g.1 (subst (λ z. Stops why short z) g.3 s)
    (b.0, g.2 ++ b.1, subst (λ z. IsStatement most_levels b.0 z) (ap (λ z. z ++ b.1) g.4 ∙ append_assoc (short ++ g.0 ∷ []) g.2 b.1) b.2)

-- ---- the reason is just one

one_why : (why why' : Why) (front rest : List Tok) → Stops why front rest → Stops why' front rest → why ≡ why'
one_why why why' front [] s s' = only_grammar why s ∙ sym (only_grammar why' s')
  where
    only_grammar : (w : Why) → Stops w front [] → w ≡ Grammar
    only_grammar w s = elim s [
      | inl h ↦ absurd h.1
      | inr k ↦ elim k [ inl h ↦ h.0 | inr h ↦ absurd h.1 ]
    ]
one_why why why' front (t ∷ ts) s s' = elim s [
  | inl h ↦ elim s' [
    | inl h' ↦ h.0 ∙ sym h'.0
    | inr k' ↦ elim k' [
      | inl h' ↦ absurd (h'.1.0 h.1)
      | inr h' ↦ absurd (goes_on_clean h'.1.0.0 front t h'.1.0.1 h.1)
    ]
  ]
  | inr k ↦ elim k [
    | inl h ↦ elim s' [
      | inl h' ↦ absurd (h.1.0 h'.1)
      | inr k' ↦ elim k' [
        | inl h' ↦ h.0 ∙ sym h'.0
        | inr h' ↦ absurd (h.1.1 h'.1.0.0 h'.1.0.1)
      ]
    ]
    | inr h ↦ elim s' [
      | inl h' ↦ absurd (goes_on_clean h.1.0.0 front t h.1.0.1 h'.1)
      | inr k' ↦ elim k' [
        | inl h' ↦ absurd (h'.1.1 h.1.0.0 h.1.0.1)
        | inr h' ↦ h.0 ∙ sym h'.0
      ]
    ]
  ]
]

one_fault : (text : List ℕ) (f g : Fault) → IsOutside text f → IsOutside text g → f ≡ g
one_fault text f g a b = elim (compare a.0 a.1 b.0 b.1 (sym a.2 ∙ b.2)) [
  | inl h ↦ same h.0 h.1
  | inr k ↦ elim k [
    | inl h ↦ absurd (never_shorter f.why a.0 a.1 b.0 a.4 h b.3)
    | inr h ↦ absurd (never_shorter g.why b.0 b.1 a.0 b.4 h a.3)
  ]
]
  where
    same : a.0 ≡ b.0 → a.1 ≡ b.1 → f ≡ g
    same front rest =
        let s : Stops f.why b.0 b.1 = subst (λ z. Stops f.why z b.1) front (subst (λ z. Stops f.why a.0 z) rest a.4) in
        let why : f.why ≡ g.why = one_why f.why g.why b.0 b.1 s b.4 in
        let at : f.at ≡ g.at = a.5 ∙ ap (place_in text) rest ∙ sym b.5 in
        ap (λ w. record { why = w; at = f.at }) why ∙ ap (λ p. record { why = g.why; at = p }) at

-- ---- what a text says

one_tree : (ts : List Tok) (a b : Tree) → IsStatement most_levels a ts → IsStatement most_levels b ts → a ≡ b
one_tree ts a b h k =
    let e = (each_is_exact most_levels).only ts a h in
    let f = (each_is_exact most_levels).only ts b k in
    cc (e, f)

-- a text that is a statement is inside the grammar
inside : (text : List ℕ) (tree : Tree) (f : Fault) → IsStatement most_levels tree (tokens_of text) → IsOutside text f → ⊥
inside text tree f h o = go o.1 o.2 o.4
  where
    go : (rest : List Tok) → tokens_of text ≡ o.0 ++ rest → Stops f.why o.0 rest → ⊥
    go [] e s = no_statement f.why o.0 tree s (subst (λ z. IsStatement most_levels tree z) (e ∙ append-nil o.0) h)
    go (t ∷ ts) e s = ends f.why o.0 t ts s (tree, ts, subst (λ z. IsStatement most_levels tree z) (e ∙ sym (append_assoc o.0 (t ∷ []) ts)) h)

one_short : (text : List ℕ) (r s : Result Statement Fault) → SaysShort text r → SaysShort text s → r ≡ s
one_short text r s a b = elim a [
  | inl h ↦ elim b [
    | inl k ↦ h.2 ∙ ap statement_of (one_tree (tokens_of text) h.0 k.0 h.1 k.1) ∙ sym k.2
    | inr k ↦ absurd (inside text h.0 k.0 h.1 k.1)
  ]
  | inr h ↦ elim b [
    | inl k ↦ absurd (inside text k.0 h.0 k.1 h.1)
    | inr k ↦ h.2 ∙ ap (λ f. Err f) (one_fault text h.0 k.0 h.1 k.1) ∙ sym k.2
  ]
]

pub each_says_one : EachSaysOne
each_says_one text r s a b = elim a [
  | inl h ↦ elim b [ inl k ↦ h.1 ∙ sym k.1 | inr k ↦ absurd (omega (arith, h.0, k.0)) ]
  | inr h ↦ elim b [ inl k ↦ absurd (omega (arith, h.0, k.0)) | inr k ↦ one_short text r s h.1 k.1 ]
]

short_says : (text : List ℕ) → (r : Result Statement Fault) × SaysShort text r
short_says text = go (whole most_levels (tokens_of text)) refl
  where
    go : (read : Reading Tree) → whole most_levels (tokens_of text) ≡ read → (r : Result Statement Fault) × SaysShort text r
    go (Got tree rest) e = (statement_of tree, inl (tree, ((each_is_exact most_levels).found (tokens_of text) rest tree e).1, refl))
    go (Fails deep bad) e = (Err (record { why = why_of deep bad; at = place_in text bad }), inr (record { why = why_of deep bad; at = place_in text bad }, outside_of text deep bad e, refl))

pub each_says_something : EachSaysSomething
each_says_something text = elim (cases_lt 65536 (length text)) [
  | inl h ↦ (Err (record { why = LongText; at = 65536 }), inl (h, refl))
  | inr h ↦ (let s = short_says text in (s.0, inr (h, s.1)))
]
