-- Conditions, printed: what is spelled within n levels is printed within n levels.
use Rattle.std.proofs.Common.{◌≡◌, ℕ, zero, suc, List, [], ◌∷◌, ◌++◌, inl, inr, refl, sym, subst}
use Rattle.std.specs.Prelude.{codes}
use Rattle.std.proofs.lemmas.List.{append-nil}
use Rattle.sr_grammar.specs.Tokens.{Tok}
use Rattle.sr_grammar.specs.Trees.{Cond, Not, Conds, none, more, conds_of, and_of, or_of}
use Rattle.sr_grammar.specs.Rules.{Rule, ◌>>=◌ as ◌▸◌, Many}
use Rattle.sr_grammar.specs.Conditions.{KEY, IsTest, ConjOf, CondOf, IsUnit, IsCond}
use Rattle.sr_grammar.specs.Printed.{key, parens, unit, member, and_others, or_others, condition}
use Rattle.sr_print.proofs.AgainTokens.{Writable, joined, cut, Printed, Again, Spells, behind, at_end, in_parens, writable_parens}
use Rattle.sr_print.proofs.AgainTests.{test_again}

-- ---- a spelling of n levels is one of n + 1

abbrev Wider : Rule Cond → Rule Cond → Type 0
Wider P Q = (c : Cond) (x : List Tok) → P c x → Q c x

wider_many : (SIGN : Rule ℕ) (P Q : Rule Cond) → Wider P Q → (cs : List Cond) (x : List Tok) → Many (SIGN ▸ λ _. P) cs x → Many (SIGN ▸ λ _. Q) cs x
wider_many SIGN P Q wider [] x h = h
wider_many SIGN P Q wider (c ∷ cs) x h = (h.0, h.1, h.2, (h.3.0, h.3.1, h.3.2, h.3.3, h.3.4, wider c h.3.2 h.3.5), wider_many SIGN P Q wider cs h.1 h.4)

wider_conj : (U V : Rule Cond) → Wider U V → Wider (ConjOf U) (ConjOf V)
wider_conj U V wider c x h = (h.0, h.1, h.2, h.3, wider h.0 h.1 h.4, (h.5.0, h.5.1, h.5.2, h.5.3, wider_many (KEY (codes "AND")) U V wider h.5.0 h.5.1 h.5.4, h.5.5))

wider_cond : (U V : Rule Cond) → Wider U V → Wider (CondOf U) (CondOf V)
wider_cond U V wider c x h =
    let conj = wider_conj U V wider in
    (h.0, h.1, h.2, h.3, conj h.0 h.1 h.4, (h.5.0, h.5.1, h.5.2, h.5.3, wider_many (KEY (codes "OR")) (ConjOf U) (ConjOf V) conj h.5.0 h.5.1 h.5.4, h.5.5))

wider_unit : (n : ℕ) → Wider (IsUnit n) (IsUnit (suc n))
unfolding IsUnit
wider_unit zero c x h = inr (inr h)
wider_unit (suc n) c x h = elim h [
  | inl k ↦ inl (k.0, k.1, k.2, k.3, k.4, (k.5.0, k.5.1, k.5.2, k.5.3, wider_unit n k.5.0 k.5.1 k.5.4, k.5.5))
  | inr k ↦ elim k [
    | inl p ↦ inr (inl (p.0, p.1, p.2, p.3, p.4, (p.5.0, p.5.1, p.5.2, p.5.3, wider_cond (IsUnit n) (IsUnit (suc n)) (wider_unit n) p.5.0 p.5.1 p.5.4, p.5.5)))
    | inr t ↦ inr (inr t)
  ]
]

-- ---- conditions of one unit

conj_one : (U : Rule Cond) (c : Cond) (x : List Tok) → U c x → ConjOf U c x
conj_one U c x h = (c, x, [], sym (append-nil x), h, ([], [], [], refl, refl, (refl, refl)))

cond_one : (U : Rule Cond) (c : Cond) (x : List Tok) → ConjOf U c x → CondOf U c x
cond_one U c x h = (c, x, [], sym (append-nil x), h, ([], [], [], refl, refl, (refl, refl)))

-- ---- printed

-- a condition as a member of an AND, as one of an OR, and whole
pub record Forms (n : ℕ) (c : Cond) : Type 0 where
  pub as_unit : Printed (IsUnit n) unit c
  pub as_member : Printed (ConjOf (IsUnit n)) member c
  pub as_whole : Printed (CondOf (IsUnit n)) condition c

abbrev AllForms : ℕ → Type 0
AllForms n = (c : Cond) (x : List Tok) → Writable x → IsUnit n c x → Forms n c

-- the members behind the first
others_again : (P : Rule Cond) (text : List ℕ) (print : Cond → List Tok) (others : Conds → List Tok)
    → Spells (KEY text) (key text) → others none ≡ [] → ((c : Cond) (cs : Conds) → others (more c cs) ≡ (key text ∷ print c) ++ others cs)
    → Again P print → (cs : List Cond) (y : List Tok) → Writable y → Many (KEY text ▸ λ _. P) cs y → Many (KEY text ▸ λ _. P) cs (others (conds_of cs)) × Writable (others (conds_of cs))
others_again P text print others spells nil cons again [] y w h = (nil, subst Writable (sym nil) refl)
others_again P text print others spells nil cons again (c ∷ cs) y w h =
    let s = cut y h.0 h.1 w h.2 in
    let k = behind (KEY text) P (key text) print spells again c h.0 s.0 h.3 in
    let l = others_again P text print others spells nil cons again cs h.1 s.1 h.4 in (
      (key text ∷ print c, others (conds_of cs), cons c (conds_of cs), k.0, l.0),
      subst Writable (sym (cons c (conds_of cs))) (joined (key text ∷ print c) (others (conds_of cs)) k.1 l.1),
    )

ands_again : (n : ℕ) → AllForms n → (cs : List Cond) (y : List Tok) → Writable y → Many (KEY (codes "AND") ▸ λ _. IsUnit n) cs y
    → Many (KEY (codes "AND") ▸ λ _. IsUnit n) cs (and_others (conds_of cs)) × Writable (and_others (conds_of cs))
ands_again n forms = others_again (IsUnit n) (codes "AND") unit and_others (0, (key (codes "AND"), refl, refl), refl) refl (λ c cs. refl) (λ c x w h. (forms c x w h).as_unit)

-- an AND of two members or more
and_again : (n : ℕ) → AllForms n → (c d : Cond) (ds : List Cond) (x y : List Tok) → Writable x → Writable y → IsUnit n c x → Many (KEY (codes "AND") ▸ λ _. IsUnit n) (d ∷ ds) y
    → Printed (ConjOf (IsUnit n)) member (and_of c (d ∷ ds))
and_again n forms c d ds x y wx wy u many =
    let one = (forms c x wx u).as_unit in
    let others = ands_again n forms (d ∷ ds) y wy many in (
      (c, unit c, and_others (conds_of (d ∷ ds)), refl, one.0, at_end (Many (KEY (codes "AND") ▸ λ _. IsUnit n)) _ (λ ds. and_of c ds) (d ∷ ds) _ refl others.0),
      joined (unit c) (and_others (conds_of (d ∷ ds))) one.1 others.1,
    )

conj_again : (n : ℕ) → AllForms n → Again (ConjOf (IsUnit n)) member
conj_again n forms c x w h =
    let s = cut x h.1 h.2 w h.3 in
    let t = cut h.2 h.5.1 h.5.2 s.1 h.5.3 in
    subst (Printed (ConjOf (IsUnit n)) member) (sym h.5.5.0) (go h.0 h.5.0 s.0 t.0 h.4 h.5.4)
  where
    go : (f : Cond) (m : List Cond) → Writable h.1 → Writable h.5.1 → IsUnit n f h.1 → Many (KEY (codes "AND") ▸ λ _. IsUnit n) m h.5.1 → Printed (ConjOf (IsUnit n)) member (and_of f m)
    go f [] wx wy u many = (forms f h.1 wx u).as_member
    go f (d ∷ ds) wx wy u many = and_again n forms f d ds h.1 h.5.1 wx wy u many

-- an OR of two members or more
or_again : (n : ℕ) → AllForms n → (c d : Cond) (ds : List Cond) (x y : List Tok) → Writable x → Writable y → ConjOf (IsUnit n) c x → Many (KEY (codes "OR") ▸ λ _. ConjOf (IsUnit n)) (d ∷ ds) y
    → Printed (CondOf (IsUnit n)) condition (or_of c (d ∷ ds))
or_again n forms c d ds x y wx wy u many =
    let one = conj_again n forms c x wx u in
    let others = others_again (ConjOf (IsUnit n)) (codes "OR") member or_others (0, (key (codes "OR"), refl, refl), refl) refl (λ c cs. refl) (conj_again n forms) (d ∷ ds) y wy many in (
      (c, member c, or_others (conds_of (d ∷ ds)), refl, one.0, at_end (Many (KEY (codes "OR") ▸ λ _. ConjOf (IsUnit n))) _ (λ ds. or_of c ds) (d ∷ ds) _ refl others.0),
      joined (member c) (or_others (conds_of (d ∷ ds))) one.1 others.1,
    )

closed : (n : ℕ) (c : Cond) (x : List Tok) → CondOf (IsUnit n) c x → IsUnit (suc n) c (parens x)
unfolding IsUnit
closed n c x h = inr (inl (in_parens (CondOf (IsUnit n)) c x h))

-- a condition in parentheses, which are left out where they are not needed
paren_again : (n : ℕ) → AllForms n → (c : Cond) (x : List Tok) → Writable x → CondOf (IsUnit n) c x → Forms (suc n) c
paren_again n forms c x w h =
    let s = cut x h.1 h.2 w h.3 in
    let t = cut h.2 h.5.1 h.5.2 s.1 h.5.3 in
    subst (Forms (suc n)) (sym h.5.5.0) (go h.0 h.5.0 s.0 t.0 h.4 h.5.4)
  where
    -- one conjunction: a unit, or an AND
    single : (f : Cond) (m : List Cond) (x y : List Tok) → Writable x → Writable y → IsUnit n f x → Many (KEY (codes "AND") ▸ λ _. IsUnit n) m y → Forms (suc n) (and_of f m)
    single f [] x y wx wy u many =
        let a = forms f x wx u in
        record {
          as_unit = (wider_unit n f (unit f) a.as_unit.0, a.as_unit.1);
          as_member = (wider_conj (IsUnit n) (IsUnit (suc n)) (wider_unit n) f (member f) a.as_member.0, a.as_member.1);
          as_whole = (wider_cond (IsUnit n) (IsUnit (suc n)) (wider_unit n) f (condition f) a.as_whole.0, a.as_whole.1);
        }
    single f (d ∷ ds) x y wx wy u many =
        let whole = and_again n forms f d ds x y wx wy u many in
        let wide = wider_conj (IsUnit n) (IsUnit (suc n)) (wider_unit n) _ _ whole.0 in
        record {
          as_unit = (closed n _ _ (cond_one _ _ _ whole.0), writable_parens (member (and_of f (d ∷ ds))) whole.1);
          as_member = (wide, whole.1);
          as_whole = (cond_one _ _ _ wide, whole.1);
        }

    go : (f : Cond) (m : List Cond) → Writable h.1 → Writable h.5.1 → ConjOf (IsUnit n) f h.1 → Many (KEY (codes "OR") ▸ λ _. ConjOf (IsUnit n)) m h.5.1 → Forms (suc n) (or_of f m)
    go f [] wx wy u many =
        let s = cut h.1 u.1 u.2 wx u.3 in
        let t = cut u.2 u.5.1 u.5.2 s.1 u.5.3 in
        subst (Forms (suc n)) (sym u.5.5.0) (single u.0 u.5.0 u.1 u.5.1 s.0 t.0 u.4 u.5.4)
    go f (d ∷ ds) wx wy u many =
        let whole = or_again n forms f d ds h.1 h.5.1 wx wy u many in
        let shut = closed n _ _ whole.0 in
        let writable = writable_parens (condition (or_of f (d ∷ ds))) whole.1 in
        record {
          as_unit = (shut, writable);
          as_member = (conj_one (IsUnit (suc n)) _ _ shut, writable);
          as_whole = (wider_cond (IsUnit n) (IsUnit (suc n)) (wider_unit n) _ _ whole.0, whole.1);
        }

test_forms : (n : ℕ) → Wider IsTest (IsUnit n) → (c : Cond) (x : List Tok) → Writable x → IsTest c x → Forms n c
test_forms n wider c x w h =
    let t = test_again c x w h in
    let one = wider _ _ t.3 in
    let alone = conj_one (IsUnit n) _ _ one in
    subst (Forms n) (sym t.2) (record { as_unit = (one, t.4); as_member = (alone, t.4); as_whole = (cond_one _ _ _ alone, t.4) })

not_forms : (n : ℕ) (d : Cond) → Forms n d → Forms (suc n) (Not d)
unfolding IsUnit
not_forms n d f =
    let one : IsUnit (suc n) (Not d) (key (codes "NOT") ∷ unit d) =
    inl (0, key (codes "NOT") ∷ [], unit d, refl, (key (codes "NOT"), refl, refl), at_end (IsUnit n) _ Not d _ refl f.as_unit.0) in
    let alone = conj_one (IsUnit (suc n)) (Not d) (key (codes "NOT") ∷ unit d) one in
    record { as_unit = (one, f.as_unit.1); as_member = (alone, f.as_unit.1); as_whole = (cond_one _ _ _ alone, f.as_unit.1) }

pub forms : (n : ℕ) → AllForms n
unfolding IsUnit
forms zero c x w h = test_forms zero (λ c x h. h) c x w h
forms (suc n) c x w h = elim h [
  | inl k ↦ (
      let s = cut x k.1 k.2 w k.3 in
      let q = k.5 in
      let t = cut k.2 q.1 q.2 s.1 q.3 in
      subst (Forms (suc n)) (sym q.5.0) (not_forms n q.0 (forms n q.0 q.1 t.0 q.4)))
  | inr k ↦ elim k [
    | inl p ↦ (
        let s = cut x p.1 p.2 w p.3 in
        let q = p.5 in
        let t = cut p.2 q.1 q.2 s.1 q.3 in
        subst (Forms (suc n)) (sym q.5.5.0) (paren_again n (forms n) q.0 q.1 t.0 q.4))
    | inr t ↦ test_forms (suc n) (λ c x h. inr (inr h)) c x w t
  ]
]

pub cond_again : (n : ℕ) → Again (IsCond n) condition
cond_again n c x w h =
    let s = cut x h.1 h.2 w h.3 in
    let t = cut h.2 h.5.1 h.5.2 s.1 h.5.3 in
    subst (Printed (IsCond n) condition) (sym h.5.5.0) (go h.0 h.5.0 s.0 t.0 h.4 h.5.4)
  where
    single : (f : Cond) (m : List Cond) (x y : List Tok) → Writable x → Writable y → IsUnit n f x → Many (KEY (codes "AND") ▸ λ _. IsUnit n) m y → Printed (IsCond n) condition (and_of f m)
    single f [] x y wx wy u many = (forms n f x wx u).as_whole
    single f (d ∷ ds) x y wx wy u many = let whole = and_again n (forms n) f d ds x y wx wy u many in (cond_one _ _ _ whole.0, whole.1)

    go : (f : Cond) (m : List Cond) → Writable h.1 → Writable h.5.1 → ConjOf (IsUnit n) f h.1 → Many (KEY (codes "OR") ▸ λ _. ConjOf (IsUnit n)) m h.5.1 → Printed (IsCond n) condition (or_of f m)
    go f [] wx wy u many =
        let s = cut h.1 u.1 u.2 wx u.3 in
        let t = cut u.2 u.5.1 u.5.2 s.1 u.5.3 in
        subst (Printed (IsCond n) condition) (sym u.5.5.0) (single u.0 u.5.0 u.1 u.5.1 s.0 t.0 u.4 u.5.4)
    go f (d ∷ ds) wx wy u many = or_again n (forms n) f d ds h.1 h.5.1 wx wy u many
