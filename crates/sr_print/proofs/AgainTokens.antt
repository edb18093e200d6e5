-- Writable lists of tokens, and what keeps them so.
use Rattle.std.proofs.Common.{◌≡◌, ℕ, Bool, true, false, List, [], ◌∷◌, ◌++◌, refl, sym, subst}
use Rattle.std.specs.Prelude.{◌&&◌, codes, IsTrue, flat_map}
use Rattle.std.proofs.lemmas.List.{append-nil}
use Rattle.sr_grammar.specs.Tokens.{Tok}
use Rattle.sr_grammar.specs.Rules.{Rule, Nothing, ◌>>=◌ as ◌▸◌, Many}
use Rattle.sr_grammar.specs.Conditions.{MARK, ListOf, InParens}
use Rattle.sr_grammar.specs.Printed.{mark, commas, parens}
use Rattle.sr_print.specs.Writable.{is_writable, are_writable}

abbrev pub Writable : List Tok → Type 0
Writable ts = IsTrue (are_writable ts)

pub both_true : (a b : Bool) → IsTrue (a && b) → IsTrue a × IsTrue b
both_true true b h = (refl, h)
both_true false b h = absurd cc

pub true_both : (a b : Bool) → IsTrue a → IsTrue b → IsTrue (a && b)
true_both true b h k = k
true_both false b h k = absurd cc

pub joined : (x y : List Tok) → Writable x → Writable y → Writable (x ++ y)
joined [] y h k = k
joined (t ∷ x) y h k = let s = both_true (is_writable t) (are_writable x) h in true_both (is_writable t) (are_writable (x ++ y)) s.0 (joined x y s.1 k)

pub parted : (x y : List Tok) → Writable (x ++ y) → Writable x × Writable y
parted [] y h = (refl, h)
parted (t ∷ x) y h =
    let s = both_true (is_writable t) (are_writable (x ++ y)) h in
    let k = parted x y s.1 in
    (true_both (is_writable t) (are_writable x) s.0 k.0, k.1)

pub cut : (ts x y : List Tok) → Writable ts → ts ≡ x ++ y → Writable x × Writable y
cut ts x y h e = parted x y (subst Writable e h)

-- the one token of a rule
pub only : (ts : List Tok) (t : Tok) → Writable ts → ts ≡ t ∷ [] → IsTrue (is_writable t)
only ts t h e = (both_true (is_writable t) true (subst Writable e h)).0

-- what writable tokens spell by P is spelled by its printed tokens, which are writable
abbrev pub Printed : {A : Type 0} → Rule A → (A → List Tok) → A → Type 0
Printed P print a = P a (print a) × Writable (print a)

abbrev pub Again : {A : Type 0} → Rule A → (A → List Tok) → Type 0
Again {A = A} P print = (a : A) (x : List Tok) → Writable x → P a x → Printed P print a

-- a token in front
abbrev pub Spells : Rule ℕ → Tok → Type 0
Spells SIGN t = (p : ℕ) × SIGN p (t ∷ []) × IsTrue (is_writable t)

pub behind : {A : Type 0} (SIGN : Rule ℕ) (P : Rule A) (t : Tok) (print : A → List Tok) → Spells SIGN t → Again P print → Again (SIGN ▸ λ _. P) (λ a. t ∷ print a)
behind SIGN P t print s again a x w h =
    let k = again a h.2 (cut x h.1 h.2 w h.3).1 h.5 in
    ((s.0, t ∷ [], print a, refl, s.1, k.0), true_both (is_writable t) (are_writable (print a)) s.2 k.1)

pub each : {A : Type 0} (P : Rule A) (print : A → List Tok) → Again P print → Again (Many P) (flat_map print)
each P print again [] x w h = (refl, refl)
each P print again (a ∷ others) x w h =
    let s = cut x h.0 h.1 w h.2 in
    let k = again a h.0 s.0 h.3 in
    let l = each P print again others h.1 s.1 h.4 in
    ((print a, flat_map print others, refl, k.0, l.0), joined (print a) (flat_map print others) k.1 l.1)

-- no more tokens, but another value
pub at_end : {A B : Type 0} (P : Rule A) (b : B) (f : A → B) (a : A) (x : List Tok) → b ≡ f a → P a x → (P ▸ λ a. Nothing (f a)) b x
at_end P b f a x e h = (a, x, [], sym (append-nil x), h, (e, refl))

pub comma : Spells (MARK (codes ",")) (mark (codes ","))
comma = (0, (mark (codes ","), refl, refl), refl)

pub in_list : {A : Type 0} (P : Rule A) (print : A → List Tok) → Again P print → Again (ListOf (MARK (codes ",")) P) (commas print)
in_list {A = A} P print again all x w h =
    let s = cut x h.1 h.2 w h.3 in
    let t = cut h.2 h.5.1 h.5.2 s.1 h.5.3 in
    let k = again h.0 h.1 s.0 h.4 in
    let l = each (MARK (codes ",") ▸ λ _. P) (λ b. mark (codes ",") ∷ print b) (behind (MARK (codes ",")) P (mark (codes ",")) print comma again) h.5.0 h.5.1 t.0 h.5.4 in
    subst (Printed (ListOf (MARK (codes ",")) P) (commas print)) (sym h.5.5.0) (
      (h.0, print h.0, flat_map (λ b. mark (codes ",") ∷ print b) h.5.0, refl, k.0, at_end _ _ (λ more. h.0 ∷ more) h.5.0 _ refl l.0),
      joined (print h.0) (flat_map (λ b. mark (codes ",") ∷ print b) h.5.0) k.1 l.1,
    )

pub in_parens : {A : Type 0} (P : Rule A) (a : A) (x : List Tok) → P a x → InParens P a (parens x)
in_parens P a x h = (0, mark (codes "(") ∷ [], x ++ mark (codes ")") ∷ [], refl, (mark (codes "("), refl, refl), (a, x, mark (codes ")") ∷ [], refl, h, (0, mark (codes ")") ∷ [], [], refl, (mark (codes ")"), refl, refl), (refl, refl))))

pub writable_parens : (x : List Tok) → Writable x → Writable (parens x)
writable_parens x w = joined x (mark (codes ")") ∷ []) w refl

pub parens_again : {A : Type 0} (P : Rule A) (print : A → List Tok) → Again P print → Again (InParens P) (λ a. parens (print a))
parens_again P print again a x w h =
    let s = cut x h.1 h.2 w h.3 in
    let q = h.5 in
    let r = cut h.2 q.1 q.2 s.1 q.3 in
    let k = again q.0 q.1 r.0 q.4 in
    subst (Printed (InParens P) (λ a. parens (print a))) (sym q.5.5.0) (in_parens P q.0 (print q.0) k.0, writable_parens (print q.0) k.1)
