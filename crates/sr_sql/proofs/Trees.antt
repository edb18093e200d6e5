-- What trees stand for.
use Rattle.std.proofs.Common.{◌≡◌, ℕ, zero, suc, true, false, ◌-◌, List, refl, subst, ◌∙◌, arith, Result, Ok, Err}
use Rattle.sr_grammar.specs.declared.statement.Atom.TheVariants as atoms
use Rattle.sr_grammar.specs.Trees as model
use Rattle.sr_grammar.specs.Tokens.{Key, Mark, Tok, is}
use Rattle.sr_grammar.specs.Words.{place_of}
use Rattle.sr_grammar_laws.specs.Reading.{Got, Reader, and_then, nothing, one, next_is}
use Rattle.sr_grammar_laws.specs.Readers.{in_parens, between, atom, cond_of, unit, comparison}
use Rattle.std.specs.Prelude.{codes}
use Rattle.sr_sql.specs.Views.{Reads}
use Rattle.sr_sql.specs.declared.stop.Stop.{Stop}
use Rattle.sr_sql.specs.declared.stop.Stop.TheVariants as stop

-- ---- a unit, at the limit and below it

pub unit_not : (n : ℕ) (ts mid : List Tok) (at : ℕ) → (n ≡ 0 → ⊥) → next_is (is Key (codes "NOT")) ts ≡ true → one (place_of Key (codes "NOT")) ts ≡ Got at mid
    → unit n ts ≡ and_then (unit (n - 1)) (λ c. nothing (model.Not c)) mid
unfolding unit
unit_not zero ts mid at differs a b = absurd (differs refl)
unit_not (suc n) ts mid at differs a b =
    let j : n ≡ suc n - 1 = omega arith in
    subst (λ m. unit (suc n) ts ≡ and_then (unit m) (λ c. nothing (model.Not c)) mid) j (rw (a, b) refl)

pub unit_paren : (n : ℕ) (ts : List Tok) → (n ≡ 0 → ⊥) → next_is (is Key (codes "NOT")) ts ≡ false → next_is (is Mark (codes "(")) ts ≡ true → unit n ts ≡ in_parens (cond_of (unit (n - 1))) ts
unfolding unit
unit_paren zero ts differs a b = absurd (differs refl)
unit_paren (suc n) ts differs a b = let j : n ≡ suc n - 1 = omega arith in subst (λ m. unit (suc n) ts ≡ in_parens (cond_of (unit m)) ts) j (rw (a, b) refl)

pub unit_test : (n : ℕ) (ts : List Tok) → (n ≡ 0 → ⊥) → next_is (is Key (codes "NOT")) ts ≡ false → next_is (is Mark (codes "(")) ts ≡ false → unit n ts ≡ comparison ts
unfolding unit
unit_test zero ts differs a b = absurd (differs refl)
unit_test (suc n) ts differs a b = rw (a, b) refl

-- what is said of a column, where no NOT stands before it
pub atom_between : (ts : List Tok) → next_is (is Key (codes "NOT")) ts ≡ false → next_is (is Key (codes "BETWEEN")) ts ≡ true → atom ts ≡ between atoms.Between ts
unfolding atom
atom_between ts a b = rw (a, b) refl

-- readers that agree, one of them from a later token on
pub reads_same : {X Y : Type 0} (view : X → Y) (p q : Reader Y) (old mid new : List Tok) (r : Result X Stop) → p old ≡ q mid → Reads view q mid r new → Reads view p old r new
reads_same view p q old mid new (Ok x) e h = e ∙ h
reads_same view p q old mid new (Err stop.Grammar) e h = e ∙ h
reads_same view p q old mid new (Err stop.Deep) e h = e ∙ h
reads_same view p q old mid new (Err stop.Memory) e h = tt
