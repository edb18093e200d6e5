-- The grammar of conditions. A rule says which tokens spell which tree.
use Rattle.std.specs.Prelude.{ℕ, zero, suc, List, ◌∷◌, Option, Some, None, codes}
use Rattle.sr_cell.specs.declared.cell.Cell.TheVariants.{Num, Null}
use Rattle.sr_grammar.specs.declared.statement.Name.{Name}
use Rattle.sr_grammar.specs.declared.statement.Literal.{Literal}
use Rattle.sr_grammar.specs.declared.statement.Atom.{Atom}
use Rattle.sr_grammar.specs.declared.statement.Atom.TheVariants.{Cmp, Between, OneOf, Prefix, NotBetween, NotOneOf, NotPrefix, IsNull, NotNull}
use Rattle.sr_grammar.specs.Tokens.{Key, Mark}
use Rattle.sr_grammar.specs.Words.{place_of, name_of, number_of, minus, plain_of, prefix_of, op_of, reference_of}
use Rattle.sr_grammar.specs.Trees.{Cond, Test, Not, and_of, or_of}
use Rattle.sr_grammar.specs.Rules.{Rule, One, Nothing, ◌>>=◌, ◌or◌, Many}

abbrev pub KEY : List ℕ → Rule ℕ
KEY text = One (place_of Key text)

abbrev pub MARK : List ℕ → Rule ℕ
MARK text = One (place_of Mark text)

-- [P]
abbrev pub MaybeOf : {A : Type 0} → Rule A → Rule (Option A)
MaybeOf P = (do
  a ← P
  Nothing (Some a)) or Nothing None

-- P {SEPARATOR P}
abbrev pub ListOf : {A : Type 0} → Rule ℕ → Rule A → Rule (List A)
ListOf SEPARATOR P = do
  a ← P
  more ← Many (do
    _ ← SEPARATOR
    P)
  Nothing (a ∷ more)

-- "(" P ")"
abbrev pub InParens : {A : Type 0} → Rule A → Rule A
InParens P = do
  _ ← MARK (codes "(")
  a ← P
  _ ← MARK (codes ")")
  Nothing a

-- ["-"] Number | Quoted
abbrev pub IsLiteral : Rule Literal
IsLiteral = (do
  at ← MARK (codes "-")
  n ← One number_of
  Nothing (record { cell = Num (minus n); place = at })) or One plain_of

-- literal | NULL
abbrev pub IsValue : Rule Literal
IsValue = (do
  at ← KEY (codes "NULL")
  Nothing (record { cell = Null; place = at })) or IsLiteral

-- name ["." name]
abbrev pub IsReference : Rule Name
IsReference = do
  a ← One name_of
  b ← MaybeOf (do
    _ ← MARK (codes ".")
    One name_of)
  Nothing (reference_of a b)

-- BETWEEN literal AND literal
abbrev pub IsBetween : (Literal → Literal → Atom) → Rule Atom
IsBetween made = do
  _ ← KEY (codes "BETWEEN")
  low ← IsLiteral
  _ ← KEY (codes "AND")
  high ← IsLiteral
  Nothing (made low high)

-- IN "(" literal {"," literal} ")"
abbrev pub IsIn : (List Literal → Atom) → Rule Atom
IsIn made = do
  _ ← KEY (codes "IN")
  all ← InParens (ListOf (MARK (codes ",")) IsLiteral)
  Nothing (made all)

-- LIKE prefix
abbrev pub IsLike : (Literal → Atom) → Rule Atom
IsLike made = do
  _ ← KEY (codes "LIKE")
  text ← One prefix_of
  Nothing (made text)

-- IS [NOT] NULL
abbrev pub IsNullTest : Rule Atom
IsNullTest = do
  _ ← KEY (codes "IS")
  ((do
    _ ← KEY (codes "NOT")
    _ ← KEY (codes "NULL")
    Nothing NotNull) or
      (do
        _ ← KEY (codes "NULL")
        Nothing IsNull))

-- op literal | [NOT] BETWEEN .. | [NOT] IN .. | [NOT] LIKE .. | IS [NOT] NULL
abbrev pub IsAtom : Rule Atom
IsAtom =
    (do
      _ ← KEY (codes "NOT")
      (IsBetween NotBetween or IsIn NotOneOf or IsLike NotPrefix)) or
    (IsBetween Between or IsIn OneOf or IsLike Prefix or IsNullTest or
    (do
      op ← One op_of
      value ← IsLiteral
      Nothing (Cmp op value)))

-- reference test
abbrev pub IsTest : Rule Cond
IsTest = do
  name ← IsReference
  atom ← IsAtom
  Nothing (Test name atom)

-- unit {AND unit}
abbrev pub ConjOf : Rule Cond → Rule Cond
ConjOf UNIT = do
  first ← UNIT
  more ← Many (do
    _ ← KEY (codes "AND")
    UNIT)
  Nothing (and_of first more)

-- conj {OR conj}
abbrev pub CondOf : Rule Cond → Rule Cond
CondOf UNIT = do
  first ← ConjOf UNIT
  more ← Many (do
    _ ← KEY (codes "OR")
    ConjOf UNIT)
  Nothing (or_of first more)

-- NOT unit | "(" cond ")" | reference test, where so many NOT and parentheses may stand one inside the other
unfoldable pub IsUnit : ℕ → Rule Cond
IsUnit zero = IsTest
IsUnit (suc levels) =
    (do
      _ ← KEY (codes "NOT")
      c ← IsUnit levels
      Nothing (Not c)) or
    (InParens (CondOf (IsUnit levels)) or IsTest)

abbrev pub IsCond : ℕ → Rule Cond
IsCond levels = CondOf (IsUnit levels)
