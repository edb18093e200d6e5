-- Tests of columns, printed.
use Rattle.std.proofs.Common.{◌≡◌, List, [], ◌∷◌, ◌++◌, inl, inr, refl, sym, subst}
use Rattle.std.specs.Prelude.{codes}
use Rattle.sr_grammar.specs.declared.statement.Name.{Name}
use Rattle.sr_grammar.specs.declared.statement.Literal.{Literal}
use Rattle.sr_grammar.specs.declared.statement.Atom.{Atom}
use Rattle.sr_grammar.specs.declared.statement.Atom.TheVariants.{Cmp, Between, OneOf, Prefix, NotBetween, NotOneOf, NotPrefix, IsNull, NotNull}
use Rattle.sr_grammar.specs.Tokens.{Tok}
use Rattle.sr_grammar.specs.Words.{prefix_of, op_of}
use Rattle.sr_grammar.specs.Trees.{Cond, Test}
use Rattle.sr_grammar.specs.Rules.{Rule, One, Nothing, ◌>>=◌ as ◌▸◌, ◌or◌}
use Rattle.sr_grammar.specs.Conditions.{MARK, ListOf, InParens, IsLiteral, IsBetween, IsIn, IsLike, IsNullTest, IsAtom, IsTest}
use Rattle.sr_grammar.specs.Printed.{key, mark, commas, parens, literal, prefix, reference, sign, between, one_of, like, atom}
use Rattle.sr_print.proofs.AgainTokens.{Writable, joined, cut, Printed, Again, at_end, in_list, parens_again}
use Rattle.sr_print.proofs.AgainWords.{literal_again, prefix_again, sign_again, reference_again}

between_again : (made : Literal → Literal → Atom) (a : Atom) (x : List Tok) → Writable x → IsBetween made a x
    → (low : Literal) × (high : Literal) × (a ≡ made low high) × IsBetween made (made low high) (between low high) × Writable (between low high)
between_again made a x w h =
    let s = cut x h.1 h.2 w h.3 in
    let l = h.5 in
    let t = cut h.2 l.1 l.2 s.1 l.3 in
    let m = l.5 in
    let u = cut l.2 m.1 m.2 t.1 m.3 in
    let r = m.5 in
    let v = cut m.2 r.1 r.2 u.1 r.3 in
    let low = literal_again l.0 l.1 t.0 l.4 in
    let high = literal_again r.0 r.1 v.0 r.4 in (
      l.0,
      r.0,
      r.5.0,
      (
        0,
        key (codes "BETWEEN") ∷ [],
        literal l.0 ++ key (codes "AND") ∷ literal r.0,
        refl,
        (key (codes "BETWEEN"), refl, refl),
        (
          l.0,
          literal l.0,
          key (codes "AND") ∷ literal r.0,
          refl,
          low.0,
          (0, key (codes "AND") ∷ [], literal r.0, refl, (key (codes "AND"), refl, refl), at_end IsLiteral _ (made l.0) r.0 _ refl high.0),
        ),
      ),
      joined (literal l.0) (key (codes "AND") ∷ literal r.0) low.1 high.1,
    )

in_again : (made : List Literal → Atom) (a : Atom) (x : List Tok) → Writable x → IsIn made a x
    → (all : List Literal) × (a ≡ made all) × IsIn made (made all) (one_of all) × Writable (one_of all)
in_again made a x w h =
    let s = cut x h.1 h.2 w h.3 in
    let l = h.5 in
    let t = cut h.2 l.1 l.2 s.1 l.3 in
    let all = parens_again (ListOf (MARK (codes ",")) IsLiteral) (commas literal) (in_list IsLiteral literal literal_again) l.0 l.1 t.0 l.4 in (
      l.0,
      l.5.0,
      (0, key (codes "IN") ∷ [], parens (commas literal l.0), refl, (key (codes "IN"), refl, refl), at_end (InParens (ListOf (MARK (codes ",")) IsLiteral)) _ made l.0 _ refl all.0),
      all.1,
    )

like_again : (made : Literal → Atom) (a : Atom) (x : List Tok) → Writable x → IsLike made a x
    → (text : Literal) × (a ≡ made text) × IsLike made (made text) (like text) × Writable (like text)
like_again made a x w h =
    let s = cut x h.1 h.2 w h.3 in
    let l = h.5 in
    let t = cut h.2 l.1 l.2 s.1 l.3 in
    let text = prefix_again l.0 l.1 t.0 l.4 in (
      l.0,
      l.5.0,
      (0, key (codes "LIKE") ∷ [], prefix l.0, refl, (key (codes "LIKE"), refl, refl), at_end (One prefix_of) _ made l.0 _ refl text.0),
      text.1,
    )

abbrev IsDenied : Rule Atom
IsDenied = IsBetween NotBetween or IsIn NotOneOf or IsLike NotPrefix

denied : (a : Atom) (x : List Tok) → IsDenied a x → IsAtom a (key (codes "NOT") ∷ x)
denied a x h = inl (0, key (codes "NOT") ∷ [], x, refl, (key (codes "NOT"), refl, refl), h)

denied_again : (a : Atom) (x : List Tok) → Writable x → IsDenied a x → Printed IsAtom atom a
denied_again a x w h = elim h [
  | inl k ↦ (let r = between_again NotBetween a x w k in subst (Printed IsAtom atom) (sym r.2) (denied _ _ (inl r.3), r.4))
  | inr k ↦ elim k [
    | inl m ↦ (let r = in_again NotOneOf a x w m in subst (Printed IsAtom atom) (sym r.1) (denied _ _ (inr (inl r.2)), r.3))
    | inr m ↦ (let r = like_again NotPrefix a x w m in subst (Printed IsAtom atom) (sym r.1) (denied _ _ (inr (inr r.2)), r.3))
  ]
]

-- IS NULL or IS NOT NULL
null_again : Again IsNullTest atom
null_again a x w h = elim h.5 [
  | inl k ↦ (let n = k.5 in subst (Printed IsNullTest atom) (sym n.5.0) (
    (
      0,
      key (codes "IS") ∷ [],
      key (codes "NOT") ∷ key (codes "NULL") ∷ [],
      refl,
      (key (codes "IS"), refl, refl),
      inl (
        0,
        key (codes "NOT") ∷ [],
        key (codes "NULL") ∷ [],
        refl,
        (key (codes "NOT"), refl, refl),
        (0, key (codes "NULL") ∷ [], [], refl, (key (codes "NULL"), refl, refl), (refl, refl)),
      ),
    ),
    refl,
  ))
  | inr k ↦ subst (Printed IsNullTest atom) (sym k.5.0) (
    (
      0,
      key (codes "IS") ∷ [],
      key (codes "NULL") ∷ [],
      refl,
      (key (codes "IS"), refl, refl),
      inr (0, key (codes "NULL") ∷ [], [], refl, (key (codes "NULL"), refl, refl), (refl, refl)),
    ),
    refl,
  )
]

pub atom_again : Again IsAtom atom
atom_again a x w h = elim h [
  | inl k ↦ denied_again a k.2 (cut x k.1 k.2 w k.3).1 k.5
  | inr k ↦ elim k [
    | inl m ↦ (let r = between_again Between a x w m in subst (Printed IsAtom atom) (sym r.2) (inr (inl r.3), r.4))
    | inr m ↦ elim m [
      | inl i ↦ (let r = in_again OneOf a x w i in subst (Printed IsAtom atom) (sym r.1) (inr (inr (inl r.2)), r.3))
      | inr i ↦ elim i [
        | inl l ↦ (let r = like_again Prefix a x w l in subst (Printed IsAtom atom) (sym r.1) (inr (inr (inr (inl r.2))), r.3))
        | inr j ↦ elim j [
          | inl n ↦ (let r = null_again a x w n in (inr (inr (inr (inr (inl r.0)))), r.1))
          | inr c ↦ compared c
        ]
      ]
    ]
  ]
]
  where
    compared : (One op_of ▸ λ op. IsLiteral ▸ λ value. Nothing (Cmp op value)) a x → Printed IsAtom atom a
    compared c =
        let s = cut x c.1 c.2 w c.3 in
        let v = c.5 in
        let t = cut c.2 v.1 v.2 s.1 v.3 in
        let op = sign_again c.0 c.1 s.0 c.4 in
        let value = literal_again v.0 v.1 t.0 v.4 in
        subst (Printed IsAtom atom) (sym v.5.0) (
          inr (inr (inr (inr (inr (c.0, mark (sign c.0) ∷ [], literal v.0, refl, op.0, at_end IsLiteral _ (λ value. Cmp c.0 value) v.0 _ refl value.0))))),
          joined (mark (sign c.0) ∷ []) (literal v.0) op.1 value.1,
        )

-- a test, with what it is of
pub test_again : (c : Cond) (x : List Tok) → Writable x → IsTest c x
    → (n : Name) × (a : Atom) × (c ≡ Test n a) × IsTest (Test n a) (reference n ++ atom a) × Writable (reference n ++ atom a)
test_again c x w h =
    let s = cut x h.1 h.2 w h.3 in
    let m = h.5 in
    let t = cut h.2 m.1 m.2 s.1 m.3 in
    let n = reference_again h.0 h.1 s.0 h.4 in
    let a = atom_again m.0 m.1 t.0 m.4 in (
      h.0,
      m.0,
      m.5.0,
      (h.0, reference h.0, atom m.0, refl, n.0, at_end IsAtom _ (λ a. Test h.0 a) m.0 _ refl a.0),
      joined (reference h.0) (atom m.0) n.1 a.1,
    )
