-- A column of a CREATE, printed.
use Rattle.std.proofs.Common.{ℕ, zero, suc, ◌+◌, Bool, true, false, List, [], ◌∷◌, ◌++◌, inl, inr, refl, sym, subst, ℤ, pos, negsuc, decimal}
use Rattle.std.specs.Prelude.{◌&&◌, if◌then◌else◌, codes, IsTrue, int_le}
use Rattle.std.proofs.lemmas.List.{append-nil}
use Rattle.sr_cell.specs.declared.table.Kind.{Kind}
use Rattle.sr_cell.specs.declared.table.Kind.TheVariants.{Num, Str}
use Rattle.sr_cell.specs.declared.table.Column.{Column}
use Rattle.sr_grammar.specs.declared.statement.Check.{Check}
use Rattle.sr_grammar.specs.declared.statement.ColumnRule.TheVariants.{PrimaryKey, Null, Check as Checks}
use Rattle.sr_grammar.specs.declared.statement.Definition.{Definition}
use Rattle.sr_grammar.specs.Tokens.{Number, Tok}
use Rattle.sr_grammar.specs.Words.{number_of, minus}
use Rattle.sr_grammar.specs.Rules.{One}
use Rattle.sr_grammar.specs.Columns.{IsNumber, IsKind, Left, all_left, IsCheck, IsRules, IsColumn}
use Rattle.sr_grammar.specs.Trees.{low_default, high_default}
use Rattle.sr_grammar.specs.Printed.{token, key, mark, name, number, parens, kind_word, key_rule, null_rule, check, check_rule, column}
use Rattle.sr_print.specs.Writable.{is_name}
use Rattle.sr_print.proofs.AgainTokens.{Writable, both_true, joined, cut, at_end, in_parens, writable_parens}
use Rattle.sr_print.proofs.AgainWords.{IsSmall, name_again, name_one, writable_name, decimal_one, writable_number, minus_more}
use Rattle.sr_print.proofs.AgainDomains.{through, small_within, IsDomain, key_rules, null_rules, domain_rules, defines, IsSound}

number_spelled : (z : ℤ) → IsSmall z → IsNumber z (number z 0)
number_spelled (pos n) h = inr (at_end (One number_of) _ pos n _ refl (decimal_one n 0 h))
number_spelled (negsuc n) h =
    inl (0, mark (codes "-") ∷ [], token Number (decimal (n + 1)) 0 ∷ [], refl, (mark (codes "-"), refl, refl), at_end (One number_of) _ minus (n + 1) _ (minus_more n) (decimal_one (n + 1) 0 h))

abbrev range : List ℕ → ℤ → ℤ → List Tok
range text low high = name text 0 ∷ key (codes "BETWEEN") ∷ (number low 0 ++ key (codes "AND") ∷ number high 0)

range_spelled : (text : List ℕ) (low high : ℤ) → IsSmall low → IsSmall high → IsCheck (record { name = text; low = low; high = high }) (range text low high)
range_spelled text low high h k = (
  record { text = text; place = 0 },
  name text 0 ∷ [],
  key (codes "BETWEEN") ∷ (number low 0 ++ key (codes "AND") ∷ number high 0),
  refl,
  name_one text 0,
  (
    0,
    key (codes "BETWEEN") ∷ [],
    number low 0 ++ key (codes "AND") ∷ number high 0,
    refl,
    (key (codes "BETWEEN"), refl, refl),
    (
      low,
      number low 0,
      key (codes "AND") ∷ number high 0,
      refl,
      number_spelled low h,
      (0, key (codes "AND") ∷ [], number high 0, refl, (key (codes "AND"), refl, refl), at_end IsNumber _ (λ high. record { name = text; low = low; high = high }) high _ refl (number_spelled high k)),
    ),
  ),
)

writable_range : (text : List ℕ) (low high : ℤ) → IsTrue (is_name text) → IsSmall low → IsSmall high → Writable (range text low high)
writable_range text low high n h k =
    writable_name text 0 (key (codes "BETWEEN") ∷ (number low 0 ++ key (codes "AND") ∷ number high 0)) n (joined (number low 0) (key (codes "AND") ∷ number high 0) (writable_number low 0 h) (writable_number high 0 k))

no_rules : (count : ℕ) (left : Left) → IsRules count left [] []
no_rules zero left = (refl, refl)
no_rules (suc count) left = inr (inr (inr (inr (refl, refl))))

-- the CHECK of a column, or nothing
check_spelled : (count : ℕ) (left : Left) → IsTrue left.check → (kind : Kind) (text : List ℕ) (low high : ℤ) → IsTrue (is_name text) → IsDomain kind low high
    → IsRules (suc count) left (domain_rules kind text low high) (check_rule kind text low high) × Writable (check_rule kind text low high)
check_spelled count left may Str text low high n d = (inr (inr (inr (inr (refl, refl)))), refl)
check_spelled count left may Num text low high n d = go (int_le low low_default && int_le high_default high)
  where
    ends : IsSmall low × IsSmall high
    ends =
        let s = both_true (int_le low_default low) (int_le low high && int_le high high_default) d in
        let t = both_true (int_le low high) (int_le high high_default) s.1 in
        (small_within low s.0 (through low high high_default t.0 t.1), small_within high (through low_default low high s.0 t.0) t.1)

    go : (test : Bool) → IsRules (suc count) left (if test then [] else Checks (record { name = text; low = low; high = high }) ∷ []) (if test then [] else check text low high) × Writable (if test then [] else check text low high)
    go true = (inr (inr (inr (inr (refl, refl)))), refl)
    go false =
        let rule : Check = record { name = text; low = low; high = high } in
        let later : Left = record left { check = false } in
        let tokens = parens (range text low high) in
        let more = at_end (IsRules count later) _ (λ more. Checks rule ∷ more) [] _ refl (no_rules count later) in
        let shut = in_parens IsCheck rule (range text low high) (range_spelled text low high ends.0 ends.1) in (
          inr (inr (inr (inl (may, (0, key (codes "CHECK") ∷ [], tokens, refl, (key (codes "CHECK"), refl, refl), (rule, tokens, [], sym (append-nil tokens), shut, more)))))),
          writable_parens (range text low high) (writable_range text low high n ends.0 ends.1),
        )

-- NULL, or not, and the CHECK
null_spelled : (count : ℕ) (left : Left) → IsTrue left.null → IsTrue left.check → (nullable : Bool) (kind : Kind) (text : List ℕ) (low high : ℤ) → IsTrue (is_name text) → IsDomain kind low high
    → IsRules (suc (suc count)) left (null_rules nullable ++ domain_rules kind text low high) (null_rule nullable ++ check_rule kind text low high) × Writable (null_rule nullable ++ check_rule kind text low high)
null_spelled count left may_null may false kind text low high n d = check_spelled (suc count) left may kind text low high n d
null_spelled count left may_null may true kind text low high n d =
    let later : Left = record left { null = false } in
    let c = check_spelled count later may kind text low high n d in (
      inr (inr (inl (may_null, (0, key (codes "NULL") ∷ [], check_rule kind text low high, refl, (key (codes "NULL"), refl, refl), at_end (IsRules (suc count) later) _ (λ more. Null ∷ more) (domain_rules kind text low high) _ refl c.0)))),
      c.1,
    )

rules_spelled : (is_key nullable : Bool) (kind : Kind) (text : List ℕ) (low high : ℤ) → IsTrue (is_name text) → IsDomain kind low high
    → IsRules 3 all_left (key_rules is_key ++ (null_rules nullable ++ domain_rules kind text low high)) (key_rule is_key ++ (null_rule nullable ++ check_rule kind text low high))
    × Writable (key_rule is_key ++ (null_rule nullable ++ check_rule kind text low high))
rules_spelled false nullable kind text low high n d = null_spelled 1 all_left refl refl nullable kind text low high n d
rules_spelled true nullable kind text low high n d =
    let left : Left = record all_left { primary = false } in
    let tokens = null_rule nullable ++ check_rule kind text low high in
    let c = null_spelled 0 left refl refl nullable kind text low high n d in (
      inl (
        refl,
        (
          0,
          key (codes "PRIMARY") ∷ [],
          key (codes "KEY") ∷ tokens,
          refl,
          (key (codes "PRIMARY"), refl, refl),
          (0, key (codes "KEY") ∷ [], tokens, refl, (key (codes "KEY"), refl, refl), at_end (IsRules 2 left) _ (λ more. PrimaryKey ∷ more) (null_rules nullable ++ domain_rules kind text low high) _ refl c.0),
        ),
      ),
      c.1,
    )

kind_spelled : (kind : Kind) → IsKind kind (key (kind_word kind) ∷ []) × Writable (key (kind_word kind) ∷ [])
kind_spelled Num = (inl (0, key (codes "INT") ∷ [], [], refl, (key (codes "INT"), refl, refl), (refl, refl)), refl)
kind_spelled Str = (inr (inr (0, key (codes "TEXT") ∷ [], [], refl, (key (codes "TEXT"), refl, refl), (refl, refl))), refl)

pub column_spelled : (is_key : Bool) (c : Column) → IsSound c → IsColumn (defines is_key c) (column is_key c) × Writable (column is_key c)
column_spelled is_key c s =
    let r = rules_spelled is_key c.nullable c.kind c.name c.lo c.hi s.named s.domain in
    let k = kind_spelled c.kind in
    let rules = key_rules is_key ++ (null_rules c.nullable ++ domain_rules c.kind c.name c.lo c.hi) in
    let tokens = key_rule is_key ++ (null_rule c.nullable ++ check_rule c.kind c.name c.lo c.hi) in (
      (
        record { text = c.name; place = 0 },
        name c.name 0 ∷ [],
        key (kind_word c.kind) ∷ tokens,
        refl,
        name_one c.name 0,
        (c.kind, key (kind_word c.kind) ∷ [], tokens, refl, k.0, at_end (IsRules 3 all_left) _ (λ rules. record { name = c.name; kind = c.kind; rules = rules }) rules _ refl r.0),
      ),
      writable_name c.name 0 (key (kind_word c.kind) ∷ tokens) s.named (joined (key (kind_word c.kind) ∷ []) tokens k.1 r.1),
    )

-- the name that a column is spelled with
pub column_name : (d : Definition) (x : List Tok) → Writable x → IsColumn d x → IsTrue (is_name d.name)
column_name d x w h =
    let s = cut x h.1 h.2 w h.3 in
    subst (λ z. IsTrue (is_name z.name)) (sym h.5.5.5.0) (name_again h.0 h.1 s.0 h.4)
