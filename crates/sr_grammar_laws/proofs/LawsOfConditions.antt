-- The readers of conditions keep their rules.
use Rattle.std.proofs.lemmas.List.{append-nil}
use Rattle.std.proofs.Common.{◌≡◌, ℕ, zero, suc, Bool, true, false, List, [], ◌∷◌, ◌++◌, inl, inr, Option, Some, None, refl, sym, ap, ◌∙◌, append_assoc}
use Rattle.std.specs.Prelude.{◌||◌, ◌&&◌, if◌then◌else◌, codes}
use Rattle.std.specs.Str.{bytes_eq}
use Rattle.std.proofs.lemmas.Bool.{cond-false, or_cases, and_parts}
use Rattle.sr_cell.specs.declared.cell.Cell.TheVariants.{Str}
use Rattle.sr_grammar.specs.declared.statement.Literal.{Literal}
use Rattle.sr_grammar.specs.declared.statement.Op.{Op}
use Rattle.sr_grammar.specs.declared.statement.Op.TheVariants.{Eq}
use Rattle.sr_grammar.specs.declared.statement.Atom.{Atom}
use Rattle.sr_grammar.specs.declared.statement.Atom.TheVariants.{Cmp, Between, OneOf, Prefix, NotBetween, NotOneOf, NotPrefix, IsNull, NotNull}
use Rattle.sr_grammar.specs.Tokens.{Kind, Key, Named, Number, Quoted, Mark, Tok, is, is_kind, of_kind}
use Rattle.sr_grammar.specs.Trees.{Cond, Test, Not, and_of, or_of}
use Rattle.sr_grammar.specs.Words.{Word, place_of, name_of, number_of, plain_of, prefix_of, op_of, op_in, reference_of}
use Rattle.sr_grammar.specs.Rules.{Rule, One, Nothing, ◌>>=◌ as ◌▸◌, ◌or◌}
use Rattle.sr_grammar_laws.specs.Reading.{Reader, and_then, nothing, one, next_is, branch}
use Rattle.sr_grammar.specs.Conditions.{InParens, IsLiteral, IsValue, IsReference, IsBetween, IsIn, IsLike, IsNullTest, IsAtom, IsTest, ConjOf, CondOf, IsUnit}
use Rattle.sr_grammar_laws.specs.Readers.{in_parens, literal, value, reference, between, in_list, like, null_test, atom, comparison, conj_of, cond_of, opens, unit}
use Rattle.sr_grammar_laws.proofs.Good.{or_test, next_or}
use Rattle.sr_grammar_laws.proofs.Deep.{Both, both_nothing, both_one, both_then, both_branch, both_limit}
use Rattle.sr_grammar_laws.proofs.Words.{no_more, none_more, Begins, Apart, begins_one, begins_then, begins_token, is-apart, of_kind-is, is-of_kind, chosen, both_after, both_map, both_maybe, both_list, both_parens, bytes_eq-true}
use Rattle.sr_grammar_laws.proofs.Firsts.{begins_not, not_apart, BeginsNot, not_or, not_after}

-- ---- literals and references

abbrev pub plain : Tok → Bool
plain t = of_kind Number t || of_kind Quoted t

pub plain_of-plain : (t : Tok) (a : Literal) → plain_of t ≡ Some a → plain t ≡ true
plain_of-plain t a e = go (of_kind Number t) (of_kind Quoted t) _ _ e
  where
    go : (x y : Bool) (l r : Literal) → (if x then Some l else (if y then Some r else None)) ≡ Some a → (x || y) ≡ true
    go true y l r e = refl
    go false true l r e = refl
    go false false l r e = absurd cc

plain-is : (k : Kind) (b : List ℕ) → is_kind Number k ≡ false → is_kind Quoted k ≡ false → Apart plain (is k b)
plain-is k b n q t e = go (of_kind Number t) (of_kind Quoted t) refl refl e
  where
    go : (x y : Bool) → of_kind Number t ≡ x → of_kind Quoted t ≡ y → (x || y) ≡ true → is k b t ≡ false
    go true y m o e = of_kind-is Number k b n t m
    go false true m o e = of_kind-is Quoted k b q t o
    go false false m o e = absurd cc

pub number_one : Both (one number_of) (one number_of) (One number_of) (One number_of) no_more
number_one = both_one number_of 0 (record { kind = Number; text = []; from = 0 }) refl

pub name_one : Both (one name_of) (one name_of) (One name_of) (One name_of) no_more
name_one = both_one name_of (record { text = []; place = 0 }) (record { kind = Named; text = []; from = 0 }) refl

pub both_literal : Both literal literal IsLiteral IsLiteral no_more
unfolding literal
both_literal =
    both_branch (is Mark (codes "-")) _ _ _ _ _ _ _ _ no_more
    (both_after Mark (codes "-") _ _ _ _ no_more refl (λ at. both_map _ _ _ _ no_more _ number_one))
    (both_one plain_of (record { cell = Str []; place = 0 }) (record { kind = Quoted; text = []; from = 0 }) refl)
    (begins_then _ _ _ (begins_token Mark (codes "-")))
    (begins_not (One plain_of) plain (is Mark (codes "-")) no_more (begins_one plain_of plain plain_of-plain) (plain-is Mark (codes "-") refl refl))

literal_no_null : BeginsNot IsLiteral (is Key (codes "NULL")) no_more
literal_no_null =
    not_or _ _ _ _ (not_after Mark (codes "-") _ _ _ (is-apart Mark Key _ _ refl))
    (begins_not (One plain_of) plain (is Key (codes "NULL")) no_more (begins_one plain_of plain plain_of-plain) (plain-is Key (codes "NULL") refl refl))

pub both_value : Both value value IsValue IsValue no_more
unfolding value
both_value =
    both_branch (is Key (codes "NULL")) _ _ _ _ _ _ _ _ no_more
    (both_after Key (codes "NULL") _ _ _ _ no_more refl (λ at. both_nothing _ no_more))
    both_literal
    (begins_then _ _ _ (begins_token Key (codes "NULL")))
    literal_no_null

abbrev pub dot : Tok → Bool
dot = is Mark (codes ".")

pub both_reference : Both reference reference IsReference IsReference (or_test dot no_more)
unfolding reference
both_reference =
    both_then _ _ _ _ no_more _ _ _ _ (or_test dot no_more) name_one
    (λ a. both_map _ _ _ _ (or_test dot no_more) (reference_of a)
    (both_maybe dot _ _ _ _ no_more (both_after Mark (codes ".") _ _ _ _ no_more refl (λ _. name_one)) (begins_then _ _ _ (begins_token Mark (codes ".")))))
    (λ a x b y rest u v w. none_more (y ++ rest))

-- ---- tests

pub both_between : (made : Literal → Literal → Atom) → Both (between made) (between made) (IsBetween made) (IsBetween made) no_more
unfolding between
both_between made =
    both_after Key (codes "BETWEEN") _ _ _ _ no_more refl (λ _.
    both_then _ _ _ _ no_more _ _ _ _ no_more both_literal (λ low.
    both_after Key (codes "AND") _ _ _ _ no_more refl (λ _. both_map _ _ _ _ no_more (made low) both_literal))
    (λ a x b y rest u v w. none_more (y ++ rest)))

pub both_in : (made : List Literal → Atom) → Both (in_list made) (in_list made) (IsIn made) (IsIn made) no_more
unfolding in_list
both_in made =
    both_after Key (codes "IN") _ _ _ _ no_more refl (λ _.
    both_map _ _ _ _ no_more made
    (both_parens _ _ _ _ (or_test (is Mark (codes ",")) no_more)
    (both_list (λ a all. a ∷ all) Mark (codes ",") _ _ _ _ no_more refl both_literal (not_apart _))
    comma_apart))
  where
    comma_apart : Apart (is Mark (codes ")")) (or_test (is Mark (codes ",")) no_more)
    comma_apart t e = rw (is-apart Mark Mark (codes ")") (codes ",") refl t e) refl

pub both_like : (made : Literal → Atom) → Both (like made) (like made) (IsLike made) (IsLike made) no_more
unfolding like
both_like made = both_after Key (codes "LIKE") _ _ _ _ no_more refl (λ _. both_map _ _ _ _ no_more made (both_one prefix_of (record { cell = Str []; place = 0 }) (record { kind = Quoted; text = codes "%"; from = 0 }) refl))

both_null : Both null_test null_test IsNullTest IsNullTest no_more
unfolding null_test
both_null =
    both_after Key (codes "IS") _ _ _ _ no_more refl (λ _.
    both_branch (is Key (codes "NOT")) _ _ _ _ _ _ _ _ no_more
    (both_after Key (codes "NOT") _ _ _ _ no_more refl (λ _. both_after Key (codes "NULL") _ _ _ _ no_more refl (λ _. both_nothing NotNull no_more)))
    (both_after Key (codes "NULL") _ _ _ _ no_more refl (λ _. both_nothing IsNull no_more))
    (begins_then _ _ _ (begins_token Key (codes "NOT")))
    (not_after Key (codes "NULL") _ _ _ (is-apart Key Key _ _ refl)))

chosen_if : {A : Type 0} (b : Bool) (o : Option A) (a : A) → (if b then o else None) ≡ Some a → b ≡ true
chosen_if true o a e = refl
chosen_if false o a e = absurd cc

pub op_of-mark : (t : Tok) (a : Op) → op_of t ≡ Some a → of_kind Mark t ≡ true
op_of-mark t a e = chosen_if (of_kind Mark t) (op_in t.text) a e

-- an operator is no point
op_of-dot : (t : Tok) (a : Op) → op_of t ≡ Some a → dot t ≡ false
op_of-dot t a e = go (dot t) refl
  where
    go : (b : Bool) → dot t ≡ b → dot t ≡ false
    go false was = was
    go true was =
        let h = and_parts (of_kind Mark t) (bytes_eq t.text (codes ".")) was in
        let text : t.text ≡ codes "." = bytes_eq-true t.text (codes ".") h.1 in
        let none : op_in t.text ≡ None = ap op_in text in
        let kind : op_of t ≡ op_in t.text = rw h.0 refl in
        absurd (cc (e, none, kind))

abbrev Compares : Rule Atom
Compares = One op_of ▸ λ op. IsLiteral ▸ λ value. Nothing (Cmp op value)

not_compares : (k : Kind) (text : List ℕ) (more : Tok → Bool) → is_kind Mark k ≡ false → BeginsNot Compares (is k text) more
not_compares k text more differ = begins_not Compares (of_kind Mark) (is k text) more (begins_then _ _ _ (begins_one op_of (of_kind Mark) op_of-mark)) (of_kind-is Mark k text differ)

not_null_compares : (text : List ℕ) → (is_kind Key Key && bytes_eq (codes "IS") text) ≡ false → BeginsNot (IsNullTest or Compares) (is Key text) no_more
not_null_compares text differ = not_or _ _ _ _ (not_after Key (codes "IS") _ _ _ (is-apart Key Key _ _ differ)) (not_compares Key text no_more refl)

both_compares : Both (and_then (one op_of) (λ op. and_then literal (λ value. nothing (Cmp op value)))) (and_then (one op_of) (λ op. and_then literal (λ value. nothing (Cmp op value)))) Compares Compares no_more
both_compares = both_then _ _ _ _ no_more _ _ _ _ no_more (both_one op_of Eq (record { kind = Mark; text = codes "="; from = 0 }) refl) (λ op. both_map _ _ _ _ no_more (Cmp op) both_literal) (λ a x b y rest u v w. none_more (y ++ rest))

pub both_atom : Both atom atom IsAtom IsAtom no_more
unfolding atom
both_atom =
    both_branch (is Key (codes "NOT")) _ _ _ _ _ _ _ _ no_more
    (both_after Key (codes "NOT") _ _ _ _ no_more refl (λ _.
    both_branch (is Key (codes "BETWEEN")) _ _ _ _ _ _ _ _ no_more (both_between NotBetween)
    (both_branch (is Key (codes "IN")) _ _ _ _ _ _ _ _ no_more (both_in NotOneOf) (both_like NotPrefix)
    (begins_then _ _ _ (begins_token Key (codes "IN")))
    (not_after Key (codes "LIKE") _ _ _ (is-apart Key Key _ _ refl)))
    (begins_then _ _ _ (begins_token Key (codes "BETWEEN")))
    (not_or _ _ _ _ (not_after Key (codes "IN") _ _ _ (is-apart Key Key _ _ refl)) (not_after Key (codes "LIKE") _ _ _ (is-apart Key Key _ _ refl)))))
    (both_branch (is Key (codes "BETWEEN")) _ _ _ _ _ _ _ _ no_more (both_between Between)
    (both_branch (is Key (codes "IN")) _ _ _ _ _ _ _ _ no_more (both_in OneOf)
    (both_branch (is Key (codes "LIKE")) _ _ _ _ _ _ _ _ no_more (both_like Prefix)
    (both_branch (is Key (codes "IS")) _ _ _ _ _ _ _ _ no_more both_null both_compares
    (begins_then _ _ _ (begins_token Key (codes "IS")))
    (not_compares Key _ no_more refl))
    (begins_then _ _ _ (begins_token Key (codes "LIKE")))
    (not_null_compares _ refl))
    (begins_then _ _ _ (begins_token Key (codes "IN")))
    (not_or _ _ _ _ (not_after Key (codes "LIKE") _ _ _ (is-apart Key Key _ _ refl)) (not_null_compares _ refl)))
    (begins_then _ _ _ (begins_token Key (codes "BETWEEN")))
    (not_or _ _ _ _ (not_after Key (codes "IN") _ _ _ (is-apart Key Key _ _ refl)) (not_or _ _ _ _ (not_after Key (codes "LIKE") _ _ _ (is-apart Key Key _ _ refl)) (not_null_compares _ refl))))
    (begins_then _ _ _ (begins_token Key (codes "NOT")))
    (not_or _ _ _ _ (not_after Key (codes "BETWEEN") _ _ _ (is-apart Key Key _ _ refl)) (not_or _ _ _ _ (not_after Key (codes "IN") _ _ _ (is-apart Key Key _ _ refl)) (not_or _ _ _ _ (not_after Key (codes "LIKE") _ _ _ (is-apart Key Key _ _ refl)) (not_null_compares _ refl))))

-- an atom does not begin with a point
atom_no_dot : BeginsNot IsAtom dot no_more
atom_no_dot =
    not_or _ _ _ _ (not_after Key (codes "NOT") _ _ _ (is-apart Key Mark _ _ refl))
    (not_or _ _ _ _ (not_after Key (codes "BETWEEN") _ _ _ (is-apart Key Mark _ _ refl)) (not_or _ _ _ _ (not_after Key (codes "IN") _ _ _ (is-apart Key Mark _ _ refl)) (not_or _ _ _ _ (not_after Key (codes "LIKE") _ _ _ (is-apart Key Mark _ _ refl)) (not_or _ _ _ _ (not_after Key (codes "IS") _ _ _ (is-apart Key Mark _ _ refl)) compares))))
  where
    compares : BeginsNot Compares dot no_more
    compares a x rest p stop = let t = p.4 in rw (p.3, append_assoc p.1 p.2 rest, t.2) (op_of-dot t.0 p.0 t.1)

pub both_test : Both comparison comparison IsTest IsTest no_more
unfolding comparison
both_test =
    both_then _ _ _ _ (or_test dot no_more) _ _ _ _ no_more both_reference (λ r. both_map _ _ _ _ no_more (Test r) both_atom)
    (λ a x b y rest u v w. no_dot (y ++ rest) (rw (v.3, append_assoc v.1 v.2 rest) (atom_no_dot v.0 v.1 (v.2 ++ rest) v.4 (none_more (v.2 ++ rest)))))
  where
    no_dot : (ts : List Tok) → next_is dot ts ≡ false → next_is (or_test dot no_more) ts ≡ false
    no_dot [] e = refl
    no_dot (t ∷ ts) e = rw e refl

test_begins : Begins IsTest (of_kind Named)
test_begins = begins_then _ _ _ (begins_then _ _ _ (begins_one name_of (of_kind Named) (λ t a e. name_is t a e)))
  where
    name_is : (t : Tok) (a : Word) → name_of t ≡ Some a → of_kind Named t ≡ true
    name_is t a e = chosen (of_kind Named t) _ a e

-- ---- conditions

abbrev pub and_more : Tok → Bool
and_more = or_test (is Key (codes "AND")) no_more

abbrev pub cond_more : Tok → Bool
cond_more = or_test (is Key (codes "OR")) and_more

pub both_conj : (u u' : Reader Cond) (U U' : Rule Cond) → Both u u' U U' no_more → Both (conj_of u) (conj_of u') (ConjOf U) (ConjOf U') and_more
unfolding conj_of
both_conj u u' U U' h = both_list and_of Key (codes "AND") _ _ _ _ no_more refl h (not_apart _)

pub both_cond : (u u' : Reader Cond) (U U' : Rule Cond) → Both u u' U U' no_more → Both (cond_of u) (cond_of u') (CondOf U) (CondOf U') cond_more
unfolding cond_of
both_cond u u' U U' h = both_list or_of Key (codes "OR") _ _ _ _ and_more refl (both_conj u u' U U' h) or_and
  where
    or_and : Apart (is Key (codes "OR")) and_more
    or_and t e = rw (is-apart Key Key (codes "OR") (codes "AND") refl t e) refl

-- a mark that does not go on with a condition
pub ends_cond : (m : List ℕ) → Apart (is Mark m) cond_more
ends_cond m t e = rw (is_key-mark (codes "OR"), is_key-mark (codes "AND")) refl
  where
    is_key-mark : (w : List ℕ) → is Key w t ≡ false
    is_key-mark w = of_kind-is Mark Key w refl t (is-of_kind Mark m t e)

both_not : (n : ℕ) (u u' : Reader Cond) (U U' : Rule Cond) → Both u u' U U' no_more
    → Both (branch (is Key (codes "NOT")) (and_then (one (place_of Key (codes "NOT"))) (λ _. and_then u (λ c. nothing (Not c)))) (branch (is Mark (codes "(")) (in_parens (cond_of u)) comparison))
    (branch (is Key (codes "NOT")) (and_then (one (place_of Key (codes "NOT"))) (λ _. and_then u' (λ c. nothing (Not c)))) (branch (is Mark (codes "(")) (in_parens (cond_of u')) comparison))
    ((One (place_of Key (codes "NOT")) ▸ λ _. U ▸ λ c. Nothing (Not c)) or (InParens (CondOf U) or IsTest))
    ((One (place_of Key (codes "NOT")) ▸ λ _. U' ▸ λ c. Nothing (Not c)) or (InParens (CondOf U') or IsTest)) no_more
both_not n u u' U U' h =
    both_branch (is Key (codes "NOT")) _ _ _ _ _ _ _ _ no_more
    (both_after Key (codes "NOT") _ _ _ _ no_more refl (λ _. both_map _ _ _ _ no_more (λ c. Not c) h))
    (both_branch (is Mark (codes "(")) _ _ _ _ _ _ _ _ no_more
    (both_parens _ _ _ _ cond_more (both_cond u u' U U' h) (ends_cond (codes ")")))
    both_test
    (begins_then _ _ _ (begins_token Mark (codes "(")))
    (begins_not IsTest (of_kind Named) _ no_more test_begins (of_kind-is Named Mark _ refl)))
    (begins_then _ _ _ (begins_token Key (codes "NOT")))
    (not_or _ _ _ _ (not_after Mark (codes "(") _ _ _ (is-apart Mark Key _ _ refl)) (begins_not IsTest (of_kind Named) _ no_more test_begins (of_kind-is Named Key _ refl)))

abbrev close : Tok
close = record { kind = Mark; text = codes ")"; from = 0 }

pub both_unit : (n : ℕ) → Both (unit n) (unit (suc n)) (IsUnit n) (IsUnit (suc n)) no_more
unfolding unit IsUnit
both_unit zero =
    both_limit opens comparison IsTest _ _ no_more both_test
    (begins_not IsTest (of_kind Named) opens no_more test_begins name_apart)
    (λ ts e. let h = next_or (is Key (codes "NOT")) (is Mark (codes "(")) ts e in cond-false _ _ _ h.0 ∙ cond-false _ _ _ h.1)
    (λ a x h. inr (inr h))
    (λ t e. elim (or_cases (is Key (codes "NOT") t) (is Mark (codes "(") t) e) [
      | inl h ↦ (let s = both_test.good in (Not s.value, s.spelling, inl (t.from, t ∷ [], s.spelling, refl, (t, placed Key (codes "NOT") t h, refl), (s.value, s.spelling, [], sym (append-nil s.spelling), s.some, (refl, refl)))))
      | inr h ↦ (let s = (both_cond comparison comparison IsTest IsTest both_test).good in
          (s.value, s.spelling ++ close ∷ [], inr (inl (t.from, t ∷ [], s.spelling ++ close ∷ [], refl, (t, placed Mark (codes "(") t h, refl), (s.value, s.spelling, close ∷ [], refl, s.some, (0, close ∷ [], [], refl, (close, refl, refl), (refl, refl)))))))
    ])
  where
    placed : (k : Kind) (w : List ℕ) (t : Tok) → is k w t ≡ true → place_of k w t ≡ Some t.from
    placed k w t h = rw h refl

    name_apart : Apart (of_kind Named) opens
    name_apart t e = rw (of_kind-is Named Key (codes "NOT") refl t e, of_kind-is Named Mark (codes "(") refl t e) refl
both_unit (suc n) = both_not n (unit n) (unit (suc n)) (IsUnit n) (IsUnit (suc n)) (both_unit n)
