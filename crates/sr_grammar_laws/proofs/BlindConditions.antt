-- Reading conditions looks at no place.
use Rattle.std.proofs.Common.{◌≡◌, ℕ, zero, suc, Bool, true, false, List, [], ◌∷◌, map, Option, Some, None, refl, sym, ap}
use Rattle.std.specs.Prelude.{if◌then◌else◌, ◌&&◌, codes}
use Rattle.sr_grammar.specs.declared.statement.Literal.{Literal}
use Rattle.sr_grammar.specs.declared.statement.Atom.{Atom}
use Rattle.sr_grammar.specs.declared.statement.Atom.TheVariants.{Between, OneOf, Prefix, NotBetween, NotOneOf, NotPrefix}
use Rattle.sr_grammar.specs.Tokens.{Key, Named, Number, Quoted, Mark, is, of_kind}
use Rattle.sr_grammar.specs.Words.{Word, name_of, number_of, plain_of, prefix_of, is_prefix, op_of, reference_of}
use Rattle.sr_grammar.specs.Trees.{Cond, And, Or, more, conds_of, and_of, or_of}
use Rattle.sr_grammar.specs.Places.{bare_name, bare_literal, bare_atom, bare_cond, bare_conds}
use Rattle.sr_grammar_laws.specs.Reading.{Fails, Reader, one}
use Rattle.sr_grammar_laws.specs.Readers.{literal, value, reference, between, in_list, like, null_test, atom, comparison, conj_of, cond_of, opens, unit}
use Rattle.sr_grammar_laws.proofs.Places.{Blind, map_some, just, blind_one, alike_nothing, alike_then, blind_branch, chosen-bare, alike_after, alike_map, blind_maybe, blind_list, blind_parens}

-- ---- single tokens

abbrev pub bare_word : Word → Word
bare_word w = record w { place = 0 }

just_some : {A : Type 0} (o : Option A) → o ≡ map_some just o
just_some None = refl
just_some (Some a) = refl

pub blind_name : Blind bare_word (one name_of)
blind_name = blind_one bare_word name_of (λ t. chosen-bare bare_word (of_kind Named t) _)

pub blind_number : Blind just (one number_of)
blind_number = blind_one just number_of (λ t. just_some (number_of t))

blind_plain : Blind bare_literal (one plain_of)
blind_plain = blind_one bare_literal plain_of (λ t. go (of_kind Number t) (of_kind Quoted t) _ _)
  where
    go : (a b : Bool) (l r : Literal) → (if a then Some (bare_literal l) else (if b then Some (bare_literal r) else None)) ≡ map_some bare_literal (if a then Some l else (if b then Some r else None))
    go true b l r = refl
    go false true l r = refl
    go false false l r = refl

blind_prefix : Blind bare_literal (one prefix_of)
blind_prefix = blind_one bare_literal prefix_of (λ t. chosen-bare bare_literal (of_kind Quoted t && is_prefix t.text) _)

blind_op : Blind just (one op_of)
blind_op = blind_one just op_of (λ t. just_some (op_of t))

-- ---- literals and references

pub blind_literal : Blind bare_literal literal
unfolding literal
blind_literal =
    blind_branch bare_literal (is Mark (codes "-")) _ _ (λ t. refl)
    (alike_after bare_literal Mark (codes "-") _ _ (λ at. alike_map just bare_literal _ _ _ _ blind_number (λ n. refl)))
    blind_plain

pub blind_value : Blind bare_literal value
unfolding value
blind_value = blind_branch bare_literal (is Key (codes "NULL")) _ _ (λ t. refl) (alike_after bare_literal Key (codes "NULL") _ _ (λ at. alike_nothing bare_literal _ _ refl)) blind_literal

pub blind_reference : Blind bare_name reference
unfolding reference
blind_reference =
    alike_then bare_word bare_name _ _ _ _ blind_name (λ a.
    alike_map (map_some bare_word) bare_name _ _ _ _
    (blind_maybe bare_word (is Mark (codes ".")) _ (λ t. refl) (alike_after bare_word Mark (codes ".") _ _ (λ at. blind_name)))
    (named a))
  where
    named : (a : Word) (b : Option Word) → reference_of (bare_word a) (map_some bare_word b) ≡ bare_name (reference_of a b)
    named a None = refl
    named a (Some b) = refl

-- ---- tests

blind_between : (made : Literal → Literal → Atom) → ((a b : Literal) → made (bare_literal a) (bare_literal b) ≡ bare_atom (made a b)) → Blind bare_atom (between made)
unfolding between
blind_between made e =
    alike_after bare_atom Key (codes "BETWEEN") _ _ (λ at.
    alike_then bare_literal bare_atom _ _ _ _ blind_literal (λ low.
    alike_after bare_atom Key (codes "AND") _ _ (λ at. alike_map bare_literal bare_atom _ _ (made low) (made (bare_literal low)) blind_literal (e low))))

blind_in : (made : List Literal → Atom) → ((all : List Literal) → made (map bare_literal all) ≡ bare_atom (made all)) → Blind bare_atom (in_list made)
unfolding in_list
blind_in made e =
    alike_after bare_atom Key (codes "IN") _ _ (λ at.
    alike_map (map bare_literal) bare_atom _ _ made made
    (blind_parens (map bare_literal) _ (blind_list bare_literal (map bare_literal) (λ a all. a ∷ all) Mark (codes ",") _ blind_literal (λ a all. refl)))
    e)

blind_like : (made : Literal → Atom) → ((text : Literal) → made (bare_literal text) ≡ bare_atom (made text)) → Blind bare_atom (like made)
unfolding like
blind_like made e = alike_after bare_atom Key (codes "LIKE") _ _ (λ at. alike_map bare_literal bare_atom _ _ made made blind_prefix e)

blind_null : Blind bare_atom null_test
unfolding null_test
blind_null =
    alike_after bare_atom Key (codes "IS") _ _ (λ at.
    blind_branch bare_atom (is Key (codes "NOT")) _ _ (λ t. refl)
    (alike_after bare_atom Key (codes "NOT") _ _ (λ at. alike_after bare_atom Key (codes "NULL") _ _ (λ at. alike_nothing bare_atom _ _ refl)))
    (alike_after bare_atom Key (codes "NULL") _ _ (λ at. alike_nothing bare_atom _ _ refl)))

pub blind_atom : Blind bare_atom atom
unfolding atom
blind_atom =
    blind_branch bare_atom (is Key (codes "NOT")) _ _ (λ t. refl)
    (alike_after bare_atom Key (codes "NOT") _ _ (λ at.
    blind_branch bare_atom (is Key (codes "BETWEEN")) _ _ (λ t. refl) (blind_between NotBetween (λ a b. refl))
    (blind_branch bare_atom (is Key (codes "IN")) _ _ (λ t. refl) (blind_in NotOneOf (λ all. refl)) (blind_like NotPrefix (λ text. refl)))))
    (blind_branch bare_atom (is Key (codes "BETWEEN")) _ _ (λ t. refl) (blind_between Between (λ a b. refl))
    (blind_branch bare_atom (is Key (codes "IN")) _ _ (λ t. refl) (blind_in OneOf (λ all. refl))
    (blind_branch bare_atom (is Key (codes "LIKE")) _ _ (λ t. refl) (blind_like Prefix (λ text. refl))
    (blind_branch bare_atom (is Key (codes "IS")) _ _ (λ t. refl) blind_null
    (alike_then just bare_atom _ _ _ _ blind_op (λ op. alike_map bare_literal bare_atom _ _ _ _ blind_literal (λ value. refl)))))))

pub blind_test : Blind bare_cond comparison
unfolding comparison
blind_test = alike_then bare_name bare_cond _ _ _ _ blind_reference (λ r. alike_map bare_atom bare_cond _ _ _ _ blind_atom (λ a. refl))

-- ---- conditions

bare_conds_of : (cs : List Cond) → bare_conds (conds_of cs) ≡ conds_of (map bare_cond cs)
bare_conds_of [] = refl
bare_conds_of (c ∷ cs) = ap (more (bare_cond c)) (bare_conds_of cs)

bare_and : (c : Cond) (cs : List Cond) → and_of (bare_cond c) (map bare_cond cs) ≡ bare_cond (and_of c cs)
bare_and c [] = refl
bare_and c (d ∷ ds) = ap (λ z. And (more (bare_cond c) (more (bare_cond d) z))) (sym (bare_conds_of ds))

bare_or : (c : Cond) (cs : List Cond) → or_of (bare_cond c) (map bare_cond cs) ≡ bare_cond (or_of c cs)
bare_or c [] = refl
bare_or c (d ∷ ds) = ap (λ z. Or (more (bare_cond c) (more (bare_cond d) z))) (sym (bare_conds_of ds))

blind_conj : (u : Reader Cond) → Blind bare_cond u → Blind bare_cond (conj_of u)
unfolding conj_of
blind_conj u h = blind_list bare_cond bare_cond and_of Key (codes "AND") u h bare_and

pub blind_cond : (u : Reader Cond) → Blind bare_cond u → Blind bare_cond (cond_of u)
unfolding cond_of
blind_cond u h = blind_list bare_cond bare_cond or_of Key (codes "OR") (conj_of u) (blind_conj u h) bare_or

blind_limit : Blind bare_cond (λ ts. Fails true ts)
blind_limit = record { same = λ ts. refl }

pub blind_unit : (n : ℕ) → Blind bare_cond (unit n)
unfolding unit
blind_unit zero = blind_branch bare_cond opens _ _ (λ t. refl) blind_limit blind_test
blind_unit (suc n) =
    blind_branch bare_cond (is Key (codes "NOT")) _ _ (λ t. refl)
    (alike_after bare_cond Key (codes "NOT") _ _ (λ at. alike_map bare_cond bare_cond _ _ _ _ (blind_unit n) (λ c. refl)))
    (blind_branch bare_cond (is Mark (codes "(")) _ _ (λ t. refl) (blind_parens bare_cond _ (blind_cond (unit n) (blind_unit n))) blind_test)
