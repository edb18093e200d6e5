-- What readers leave is what stands behind the tokens that they take.
use Rattle.std.proofs.Common.{◌≡◌, ℕ, zero, suc, Bool, true, false, List, [], ◌∷◌, ◌++◌, length, Option, Some, None, refl, sym, ap, ◌∙◌, append_assoc, arith}
use Rattle.std.specs.Prelude.{codes, if◌then◌else◌}
use Rattle.std.proofs.lemmas.List.{length-append}
use Rattle.sr_grammar.specs.Tokens.{Kind, Mark, Tok, is}
use Rattle.sr_grammar.specs.Words.{Word, place_of, name_of, reference_of}
use Rattle.sr_grammar_laws.specs.Reading.{Got, Reader, and_then, nothing, one, taken, branch, next_is, many_for, many}
use Rattle.sr_grammar_laws.specs.Readers.{list, maybe, reference}
use Rattle.sr_grammar_laws.proofs.Good.{bind_ok}
use Rattle.sr_grammar_laws.proofs.LawsOfConditions.{both_reference}
use Rattle.sr_grammar_laws.proofs.Loops.{Shrinks}
use Rattle.sr_agg.specs.declared.item.Function.{Function}
use Rattle.sr_agg.specs.declared.statement.Listed.TheVariants.{Plain, Rows, Of}
use Rattle.sr_agg.specs.Statement.{call, called, function_named, item, may_be_all, plain, reference_behind}

-- it leaves what stands behind some tokens
abbrev pub Leaves : {A : Type 0} → Reader A → Type 0
Leaves {A = A} p = (ts : List Tok) (a : A) (rest : List Tok) → p ts ≡ Got a rest → (x : List Tok) × (ts ≡ x ++ rest)

pub less : {A : Type 0} (p : Reader A) → Leaves p → Shrinks p
less p l ts a rest e = let s = l ts a rest e in omega (arith, ap length s.1, length-append s.0 rest)

pub leaves-nothing : {A : Type 0} (b : A) → Leaves (nothing b)
leaves-nothing b ts a rest e = let same : ts ≡ rest = cc in ([], same)

pub leaves-one : {A : Type 0} (f : Tok → Option A) → Leaves (one f)
leaves-one f [] a rest e = absurd cc
leaves-one {A = A} f (t ∷ ts) a rest e = by (f t) e
  where
    by : (o : Option A) → taken o t ts ≡ Got a rest → (x : List Tok) × (t ∷ ts ≡ x ++ rest)
    by None e = absurd cc
    by (Some b) e = let same : ts ≡ rest = cc in (t ∷ [], ap (λ zs. t ∷ zs) same)

pub leaves-then : {A B : Type 0} (p : Reader A) (q : A → Reader B) → Leaves p → ((a : A) → Leaves (q a)) → Leaves (and_then p q)
leaves-then p q l m ts b rest e =
    let h = bind_ok (p ts) q b rest e in
    let x = l ts h.0 h.1 h.2 in
    let y = m h.0 h.1 b rest h.3 in
    (x.0 ++ y.0, x.1 ∙ (ap (λ zs. x.0 ++ zs) y.1 ∙ sym (append_assoc x.0 y.0 rest)))

pub leaves-branch : {A : Type 0} (f : Tok → Bool) (p q : Reader A) → Leaves p → Leaves q → Leaves (branch f p q)
leaves-branch {A = A} f p q l m ts a rest e = by (next_is f ts) e
  where
    by : (b : Bool) → (if b then p ts else q ts) ≡ Got a rest → (x : List Tok) × (ts ≡ x ++ rest)
    by true e = l ts a rest e
    by false e = m ts a rest e

leaves-many_for : {A : Type 0} (k : ℕ) (f : Tok → Bool) (p : Reader A) → Leaves p → Leaves (many_for k f p)
leaves-many_for zero f p l = leaves-nothing []
leaves-many_for (suc k) f p l =
    leaves-branch f _ _ (leaves-then p (λ x. and_then (many_for k f p) (λ y. nothing (x ∷ y))) l (λ x. leaves-then _ _ (leaves-many_for k f p l) (λ y. leaves-nothing (x ∷ y)))) (leaves-nothing [])

leaves-many : {A : Type 0} (f : Tok → Bool) (p : Reader A) → Leaves p → Leaves (many f p)
leaves-many f p l ts = leaves-many_for (suc (length ts)) f p l ts

pub leaves-list : {A : Type 0} (k : Kind) (text : List ℕ) (p : Reader A) → Leaves p → Leaves (list k text p)
leaves-list k text p l =
    leaves-then p _ l (λ a. leaves-then _ _ (leaves-many (is k text) _ (leaves-then _ _ (leaves-one (place_of k text)) (λ _. l))) (λ more. leaves-nothing (a ∷ more)))

pub leaves-maybe : {A : Type 0} (f : Tok → Bool) (p : Reader A) → Leaves p → Leaves (maybe f p)
leaves-maybe f p l = leaves-branch f _ _ (leaves-then p _ l (λ a. leaves-nothing (Some a))) (leaves-nothing None)

pub leaves-reference : Leaves reference
leaves-reference ts a rest e = let s = both_reference.good.sound ts a rest e in (s.0, s.1)

leaves-behind : (word : Word) → Leaves (reference_behind word)
leaves-behind word =
    leaves-then _ _ (leaves-maybe (is Mark (codes ".")) _ (leaves-then _ _ (leaves-one (place_of Mark (codes "."))) (λ _. leaves-one name_of))) (λ column. leaves-nothing (reference_of word column))

leaves-called : (function : Function) (place : ℕ) → Leaves (called function place)
leaves-called function place =
    leaves-branch (may_be_all function) _ _ (leaves-then _ _ (leaves-one (place_of Mark (codes "*"))) (λ _. leaves-nothing Rows))
    (leaves-then reference _ leaves-reference (λ name. leaves-nothing (Of function place name)))

leaves-call : (word : Word) → Leaves (call word)
leaves-call word = by (function_named word.text) refl
  where
    by : (o : Option Function) → function_named word.text ≡ o → Leaves (call word)
    by None is = rw is (λ ts a rest e. absurd cc)
    by (Some function) is =
        rw is (leaves-then _ _ (leaves-one (place_of Mark (codes "("))) (λ _. leaves-then _ _ (leaves-called function word.place) (λ listed. leaves-then _ _ (leaves-one (place_of Mark (codes ")"))) (λ _. leaves-nothing listed))))

pub leaves-item : Leaves item
unfolding item
leaves-item =
    leaves-then (one name_of) _ (leaves-one name_of)
    (λ word. leaves-branch (is Mark (codes "(")) (call word) (plain word) (leaves-call word) (leaves-then (reference_behind word) _ (leaves-behind word) (λ name. leaves-nothing (Plain name))))

pub item_less : Shrinks item
item_less = less item leaves-item
