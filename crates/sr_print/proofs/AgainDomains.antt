-- The domain of a column, and the column as its printed rules define it.
use Rattle.std.proofs.Common.{◌≡◌, ℕ, Bool, true, false, not, List, [], ◌∷◌, ◌++◌, refl, sym, ap, subst, ◌∙◌, arith, ℤ, pos, negsuc, leb-true, le-leb, le_trans, le_antisymm}
use Rattle.std.specs.Prelude.{◌&&◌, if◌then◌else◌, IsTrue, int_le, bytes_eq}
use Rattle.std.specs.List.{list_any}
use Rattle.std.proofs.lemmas.Slice.Eq.{bytes_eq-Decides}
use Rattle.std.proofs.lemmas.Bool.{not-false, or_parts}
use Rattle.sr_cell.specs.declared.table.Kind.{Kind}
use Rattle.sr_cell.specs.declared.table.Kind.TheVariants.{Num, Str}
use Rattle.sr_cell.specs.declared.table.Column.{Column}
use Rattle.sr_grammar.specs.declared.statement.ColumnRule.{ColumnRule}
use Rattle.sr_grammar.specs.declared.statement.ColumnRule.TheVariants.{PrimaryKey, NotNull, Null, Check as Checks}
use Rattle.sr_grammar.specs.declared.statement.Definition.{Definition}
use Rattle.sr_grammar.specs.Trees.{is_key_rule, is_key, is_null_rule, is_nullable, low_default, high_default, may_check, is_bad_rule, has_bad_domain, checked, column_of}
use Rattle.sr_print.specs.Writable.{is_name}
use Rattle.sr_print.proofs.AgainTokens.{both_true}
use Rattle.sr_print.proofs.AgainWords.{IsSmall}

-- ---- the order of numbers

pub through : (low z high : ℤ) → IsTrue (int_le low z) → IsTrue (int_le z high) → IsTrue (int_le low high)
through (pos a) (pos b) (pos c) h k = le-leb a c (le_trans (leb-true a b h) (leb-true b c k))
through (pos a) (pos b) (negsuc c) h k = absurd cc
through (pos a) (negsuc b) high h k = absurd cc
through (negsuc a) z (pos c) h k = refl
through (negsuc a) (pos b) (negsuc c) h k = absurd cc
through (negsuc a) (negsuc b) (negsuc c) h k = le-leb c a (le_trans (leb-true c b k) (leb-true b a h))

-- numbers of the default domain have at most 18 digits
pub small_within : (z : ℤ) → IsTrue (int_le low_default z) → IsTrue (int_le z high_default) → IsSmall z
small_within (pos n) h k = omega (arith, leb-true n 1099511627775 k)
small_within (negsuc n) h k = omega (arith, leb-true n 1099511627775 h)

same_number : (a b : ℤ) → IsTrue (int_le a b) → IsTrue (int_le b a) → a ≡ b
same_number (pos a) (pos b) h k = ap pos (le_antisymm (leb-true a b h) (leb-true b a k))
same_number (pos a) (negsuc b) h k = absurd cc
same_number (negsuc a) (pos b) h k = absurd cc
same_number (negsuc a) (negsuc b) h k = ap negsuc (le_antisymm (leb-true a b k) (leb-true b a h))

-- ---- domains

-- the ends in their order and within the default domain; texts have none
abbrev pub IsDomain : Kind → ℤ → ℤ → Type 0
IsDomain Num low high = IsTrue (int_le low_default low && (int_le low high && int_le high high_default))
IsDomain Str low high = (low ≡ pos 0) × (high ≡ pos 0)

pub record IsColumnAs (name : List ℕ) (kind : Kind) (nullable : Bool) (c : Column) : Type 0 where
  pub named : c.name ≡ name
  pub kinded : c.kind ≡ kind
  pub domain : IsDomain c.kind c.lo c.hi
  pub null : c.nullable ≡ nullable

-- the columns that rules define
pub defined : (name : List ℕ) (kind : Kind) (nullable : Bool) (rules : List ColumnRule) → list_any (is_bad_rule name kind) rules ≡ false → IsColumnAs name kind nullable (checked name kind nullable rules)
defined name Num nullable [] e = record { named = refl; kinded = refl; domain = refl; null = refl }
defined name Str nullable [] e = record { named = refl; kinded = refl; domain = (refl, refl); null = refl }
defined name Num nullable (PrimaryKey ∷ rules) e = defined name Num nullable rules e
defined name Str nullable (PrimaryKey ∷ rules) e = defined name Str nullable rules e
defined name Num nullable (NotNull ∷ rules) e = defined name Num nullable rules e
defined name Str nullable (NotNull ∷ rules) e = defined name Str nullable rules e
defined name Num nullable (Null ∷ rules) e = defined name Num nullable rules e
defined name Str nullable (Null ∷ rules) e = defined name Str nullable rules e
defined name Num nullable (Checks check ∷ rules) e =
    let may = not-false (may_check name Num check) (or_parts (not (may_check name Num check)) (list_any (is_bad_rule name Num) rules) e).0 in
    record { named = refl; kinded = refl; domain = (both_true (bytes_eq check.name name) (int_le low_default check.low && (int_le check.low check.high && int_le check.high high_default)) may).1; null = refl }
defined name Str nullable (Checks check ∷ rules) e = absurd cc

-- ---- the rules that are printed

abbrev pub key_rules : Bool → List ColumnRule
key_rules false = []
key_rules true = PrimaryKey ∷ []

abbrev pub null_rules : Bool → List ColumnRule
null_rules false = []
null_rules true = Null ∷ []

abbrev pub domain_rules : Kind → List ℕ → ℤ → ℤ → List ColumnRule
domain_rules Num name low high = if int_le low low_default && int_le high_default high then [] else Checks (record { name = name; low = low; high = high }) ∷ []
domain_rules Str name low high = []

-- a column by the rules that are printed of it
abbrev pub defines : Bool → Column → Definition
defines key c = record { name = c.name; kind = c.kind; rules = key_rules key ++ (null_rules c.nullable ++ domain_rules c.kind c.name c.lo c.hi) }

-- what the rules of a domain make, and that none of them is of another sort
pub record ByDomain (name : List ℕ) (kind : Kind) (low high : ℤ) (rules : List ColumnRule) : Type 0 where
  pub column : (nullable : Bool) → checked name kind nullable rules ≡ record { name = name; kind = kind; lo = low; hi = high; nullable = nullable }
  pub good : list_any (is_bad_rule name kind) rules ≡ false
  pub no_key : list_any is_key_rule rules ≡ false
  pub no_null : list_any is_null_rule rules ≡ false

by_domain : (name : List ℕ) (kind : Kind) (low high : ℤ) → IsDomain kind low high → ByDomain name kind low high (domain_rules kind name low high)
by_domain name Num low high d = go (int_le low low_default && int_le high_default high) refl
  where
    go : (test : Bool) → (int_le low low_default && int_le high_default high) ≡ test → ByDomain name Num low high (if test then [] else Checks (record { name = name; low = low; high = high }) ∷ [])
    go true e =
        let s = both_true (int_le low low_default) (int_le high_default high) e in
        let t = both_true (int_le low_default low) (int_le low high && int_le high high_default) d in
        let u = both_true (int_le low high) (int_le high high_default) t.1 in
        let a : low_default ≡ low = same_number low_default low t.0 s.0 in
        let b : high_default ≡ high = same_number high_default high s.1 u.1 in
        record {
          column = λ nullable. ap (λ z. record { name = name; kind = Num; lo = z; hi = high_default; nullable = nullable }) a ∙ ap (λ z. record { name = name; kind = Num; lo = low; hi = z; nullable = nullable }) b;
          good = refl;
          no_key = refl;
          no_null = refl;
        }
    go false e =
        let same : bytes_eq name name ≡ true = (bytes_eq-Decides name name).1 refl in
        record { column = λ nullable. refl; good = rw (same, d) refl; no_key = refl; no_null = refl }
by_domain name Str low high d = record {
  column = λ nullable. ap (λ z. record { name = name; kind = Str; lo = z; hi = pos 0; nullable = nullable }) (sym d.0) ∙ ap (λ z. record { name = name; kind = Str; lo = low; hi = z; nullable = nullable }) (sym d.1);
  good = refl;
  no_key = refl;
  no_null = refl;
}

-- ---- such columns

pub record IsSound (c : Column) : Type 0 where
  pub named : IsTrue (is_name c.name)
  pub domain : IsDomain c.kind c.lo c.hi

pub sound : (d : Definition) → IsTrue (is_name d.name) → has_bad_domain d ≡ false → IsSound (column_of d)
sound d named e =
    let made = defined d.name d.kind (is_nullable d) d.rules e in
    record { named = subst (λ z. IsTrue (is_name z)) (sym made.named) named; domain = made.domain }

-- a column has what its definition says of NULL
pub column_null : (d : Definition) → has_bad_domain d ≡ false → (column_of d).nullable ≡ is_nullable d
column_null d e = (defined d.name d.kind (is_nullable d) d.rules e).null

-- the rules in front of those of the domain change nothing of it
behind_rules : (name : List ℕ) (kind : Kind) (key null nullable : Bool) (rules : List ColumnRule) → checked name kind nullable (key_rules key ++ (null_rules null ++ rules)) ≡ checked name kind nullable rules
behind_rules name Num false false nullable rules = refl
behind_rules name Num false true nullable rules = refl
behind_rules name Num true false nullable rules = refl
behind_rules name Num true true nullable rules = refl
behind_rules name Str false false nullable rules = refl
behind_rules name Str false true nullable rules = refl
behind_rules name Str true false nullable rules = refl
behind_rules name Str true true nullable rules = refl

null_printed : (key null : Bool) (rules : List ColumnRule) → list_any is_null_rule rules ≡ false → list_any is_null_rule (key_rules key ++ (null_rules null ++ rules)) ≡ null
null_printed false false rules e = e
null_printed false true rules e = refl
null_printed true false rules e = e
null_printed true true rules e = refl

key_printed : (key null : Bool) (rules : List ColumnRule) → list_any is_key_rule rules ≡ false → list_any is_key_rule (key_rules key ++ (null_rules null ++ rules)) ≡ key
key_printed false false rules e = e
key_printed false true rules e = e
key_printed true false rules e = refl
key_printed true true rules e = refl

good_printed : (name : List ℕ) (kind : Kind) (key null : Bool) (rules : List ColumnRule) → list_any (is_bad_rule name kind) rules ≡ false → list_any (is_bad_rule name kind) (key_rules key ++ (null_rules null ++ rules)) ≡ false
good_printed name kind false false rules e = e
good_printed name kind false true rules e = e
good_printed name kind true false rules e = e
good_printed name kind true true rules e = e

pub defines_null : (key : Bool) (c : Column) → IsSound c → is_nullable (defines key c) ≡ c.nullable
defines_null key c s = null_printed key c.nullable (domain_rules c.kind c.name c.lo c.hi) (by_domain c.name c.kind c.lo c.hi s.domain).no_null

pub defines_column : (key : Bool) (c : Column) → IsSound c → column_of (defines key c) ≡ c
defines_column key c s =
    let rules = domain_rules c.kind c.name c.lo c.hi in
    ap (λ b. checked c.name c.kind b (key_rules key ++ (null_rules c.nullable ++ rules))) (defines_null key c s)
    ∙ (behind_rules c.name c.kind key c.nullable c.nullable rules ∙ (by_domain c.name c.kind c.lo c.hi s.domain).column c.nullable)

pub defines_domain : (key : Bool) (c : Column) → IsSound c → has_bad_domain (defines key c) ≡ false
defines_domain key c s = good_printed c.name c.kind key c.nullable (domain_rules c.kind c.name c.lo c.hi) (by_domain c.name c.kind c.lo c.hi s.domain).good

pub defines_key : (key : Bool) (c : Column) → IsSound c → is_key (defines key c) ≡ key
defines_key key c s = key_printed key c.nullable (domain_rules c.kind c.name c.lo c.hi) (by_domain c.name c.kind c.lo c.hi s.domain).no_key
