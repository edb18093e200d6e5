-- A CREATE, printed: its columns by their printed rules make the same table. And what tables may be created.
use Rattle.std.proofs.Common.{◌≡◌, ℕ, ◌+◌, ◌<◌, ◌≤◌, Bool, true, false, cond, List, [], ◌∷◌, inl, inr, map, length, filter, refl, sym, ap, ap₂, subst, ◌∙◌, arith, Result, Ok, Err, eq-eqb, ne_eqb, eqb-true, eq-or-lt_of_le}
use Rattle.std.specs.Prelude.{◌==◌, ◌&&◌, ◌||◌, if◌then◌else◌, codes, IsTrue}
use Rattle.std.specs.List.{list_any}
use Rattle.std.proofs.lemmas.List.{length-map}
use Rattle.std.proofs.lemmas.Bool.{or_parts}
use Rattle.sr_cell.specs.declared.table.Column.{Column}
use Rattle.sr_cell.specs.declared.table.Table.{Table}
use Rattle.sr_cell.specs.declared.fault.Fault.{Fault}
use Rattle.sr_grammar.specs.declared.statement.Definition.{Definition}
use Rattle.sr_grammar.specs.Tokens.{Tok}
use Rattle.sr_grammar.specs.Rules.{Rule, ◌>>=◌ as ◌▸◌, Many}
use Rattle.sr_grammar.specs.Conditions.{MARK, ListOf, InParens}
use Rattle.sr_grammar.specs.Columns.{IsColumn, IsCreate}
use Rattle.sr_grammar.specs.Trees.{Statement, Create, Tree, Defines, is_key, is_nullable, is_nullable_key, has_bad_domain, column_of, key_of, table_of, statement_of}
use Rattle.sr_grammar.specs.Printed.{key, mark, name, parens, column, columns_behind, columns, printed_tokens}
use Rattle.sr_grammar_laws.proofs.Columns.{key_short}
use Rattle.sr_print.specs.Writable.{is_name}
use Rattle.sr_print.proofs.AgainTokens.{Writable, joined, cut, at_end, in_parens, writable_parens}
use Rattle.sr_print.proofs.AgainWords.{name_again, name_one, writable_name}
use Rattle.sr_print.proofs.AgainDomains.{defines, IsSound, sound, column_null, defines_null, defines_column, defines_domain, defines_key}
use Rattle.sr_print.proofs.AgainColumns.{column_spelled, column_name}

-- columns by the rules that are printed of them; k is the number of the key, c that of the first of these
abbrev redefined : ℕ → ℕ → List Column → List Definition
redefined k c [] = []
redefined k c (d ∷ others) = defines (k == c) d ∷ redefined k (c + 1) others

abbrev pub AreSound : List Column → Type 0
AreSound [] = Unit {0}
AreSound (c ∷ others) = IsSound c × AreSound others

-- ---- their tokens

abbrev IsNext : Rule Definition
IsNext = MARK (codes ",") ▸ λ _. IsColumn

behind_spelled : (k c : ℕ) (all : List Column) → AreSound all → Many IsNext (redefined k c all) (columns_behind k c all) × Writable (columns_behind k c all)
behind_spelled k c [] s = (refl, refl)
behind_spelled k c (d ∷ others) s =
    let one = column_spelled (k == c) d s.0 in
    let more = behind_spelled k (c + 1) others s.1 in (
      (mark (codes ",") ∷ column (k == c) d, columns_behind k (c + 1) others, refl, (0, mark (codes ",") ∷ [], column (k == c) d, refl, (mark (codes ","), refl, refl), one.0), more.0),
      joined (column (k == c) d) (columns_behind k (c + 1) others) one.1 more.1,
    )

columns_spelled : (k : ℕ) (d : Column) (others : List Column) → IsSound d → AreSound others
    → ListOf (MARK (codes ",")) IsColumn (redefined k 0 (d ∷ others)) (columns k (d ∷ others)) × Writable (columns k (d ∷ others))
columns_spelled k d others s t =
    let one = column_spelled (k == 0) d s in
    let more = behind_spelled k 1 others t in (
      (defines (k == 0) d, column (k == 0) d, columns_behind k 1 others, refl, one.0, at_end (Many IsNext) _ (λ more. defines (k == 0) d ∷ more) (redefined k 1 others) _ refl more.0),
      joined (column (k == 0) d) (columns_behind k 1 others) one.1 more.1,
    )

-- ---- their table

no_keys : (k c : ℕ) (all : List Column) → AreSound all → k < c → filter is_key (redefined k c all) ≡ []
no_keys k c [] s l = refl
no_keys k c (d ∷ others) s l =
    let rest = redefined k (c + 1) others in
    let is : is_key (defines (k == c) d) ≡ false = defines_key (k == c) d s.0 ∙ ne_eqb k c (λ e. omega arith) in
    ap (λ t. cond t (defines (k == c) d ∷ filter is_key rest) (filter is_key rest)) is ∙ no_keys k (c + 1) others s.1 (omega arith)

one_key : (k c : ℕ) (all : List Column) → AreSound all → c ≤ k → k < c + length all → (length (filter is_key (redefined k c all)) ≡ 1) × (key_of (redefined k c all) + c ≡ k)
one_key k c [] s l m = absurd (omega arith)
one_key k c (d ∷ others) s l m = elim (eq-or-lt_of_le l) [
  | inl e ↦ (
      let is : is_key (defines (k == c) d) ≡ true = defines_key (k == c) d s.0 ∙ eq-eqb k c (sym e) in (
        ap (λ t. length (cond t (defines (k == c) d ∷ keys) keys)) is ∙ ap (λ z. length (defines (k == c) d ∷ z)) (no_keys k (c + 1) others s.1 (omega arith)),
        ap (λ t. (if t then 0 else key_of rest + 1) + c) is ∙ omega arith,
      ))
  | inr less ↦ (
      let is : is_key (defines (k == c) d) ≡ false = defines_key (k == c) d s.0 ∙ ne_eqb k c (λ e. omega arith) in
      let more = one_key k (c + 1) others s.1 (omega arith) (omega arith) in
      (ap (λ t. length (cond t (defines (k == c) d ∷ keys) keys)) is ∙ more.0, ap (λ t. (if t then 0 else key_of rest + 1) + c) is ∙ omega (arith, more.1)))
]
  where
    rest : List Definition
    rest = redefined k (c + 1) others

    keys : List Definition
    keys = filter is_key (redefined k (c + 1) others)

no_bad : (k c : ℕ) (all : List Column) → AreSound all → list_any has_bad_domain (redefined k c all) ≡ false
no_bad k c [] s = refl
no_bad k c (d ∷ others) s = ap (λ t. t || list_any has_bad_domain (redefined k (c + 1) others)) (defines_domain (k == c) d s.0) ∙ no_bad k (c + 1) others s.1

-- the key is not nullable
abbrev NoNullKey : ℕ → ℕ → List Column → Type 0
NoNullKey k c [] = Unit {0}
NoNullKey k c (d ∷ others) = (((k == c) && d.nullable) ≡ false) × NoNullKey k (c + 1) others

and_false : (b : Bool) → (b && false) ≡ false
and_false true = refl
and_false false = refl

right_false : (a b : Bool) → a ≡ true → (a && b) ≡ false → b ≡ false
right_false true b e h = h
right_false false b e h = absurd cc

past_key : (k c : ℕ) (all : List Column) → k < c → NoNullKey k c all
past_key k c [] l = tt
past_key k c (d ∷ others) l = (ap (λ b. b && d.nullable) (ne_eqb k c (λ e. omega arith)), past_key k (c + 1) others (omega arith))

null_key : (k c : ℕ) (ds : List Definition) → list_any has_bad_domain ds ≡ false → list_any is_nullable_key ds ≡ false → k ≡ key_of ds + c → NoNullKey k c (map column_of ds)
null_key k c [] e n here = tt
null_key k c (d ∷ ds) e n here = go (is_key d) refl (null_key k (c + 1) ds parted.1 named.1)
  where
    parted : (has_bad_domain d ≡ false) × (list_any has_bad_domain ds ≡ false)
    parted = or_parts (has_bad_domain d) (list_any has_bad_domain ds) e

    named : (is_nullable_key d ≡ false) × (list_any is_nullable_key ds ≡ false)
    named = or_parts (is_nullable_key d) (list_any is_nullable_key ds) n

    go : (b : Bool) → is_key d ≡ b → (k ≡ key_of ds + (c + 1) → NoNullKey k (c + 1) (map column_of ds)) → NoNullKey k c (map column_of (d ∷ ds))
    go true is later =
        let never : (column_of d).nullable ≡ false = column_null d parted.0 ∙ right_false (is_key d) (is_nullable d) is named.0 in
        let same : k ≡ 0 + c = here ∙ ap (λ t. (if t then 0 else key_of ds + 1) + c) is in
        (ap (λ b. (k == c) && b) never ∙ and_false (k == c), past_key k (c + 1) (map column_of ds) (omega (arith, same)))
    go false is later =
        let behind : k ≡ key_of ds + 1 + c = here ∙ ap (λ t. (if t then 0 else key_of ds + 1) + c) is in
        (ap (λ b. b && (column_of d).nullable) (ne_eqb k c (λ e. omega (arith, behind))), later (omega (arith, behind)))

no_null_key : (k c : ℕ) (all : List Column) → AreSound all → NoNullKey k c all → list_any is_nullable_key (redefined k c all) ≡ false
no_null_key k c [] s n = refl
no_null_key k c (d ∷ others) s n =
    let one : is_nullable_key (defines (k == c) d) ≡ false = ap₂ (λ a b. a && b) (defines_key (k == c) d s.0) (defines_null (k == c) d s.0) ∙ n.0 in
    ap (λ t. t || list_any is_nullable_key (redefined k (c + 1) others)) one ∙ no_null_key k (c + 1) others s.1 n.1

same_columns : (k c : ℕ) (all : List Column) → AreSound all → map column_of (redefined k c all) ≡ all
same_columns k c [] s = refl
same_columns k c (d ∷ others) s = ap₂ (λ a b. a ∷ b) (defines_column (k == c) d s.0) (same_columns k (c + 1) others s.1)

abbrev verdict : Bool → Bool → Bool → Fault → Fault → Fault → Statement → Result Statement Fault
verdict a n b x v z y = if a then Err x else if n then Err v else (if b then Ok y else Err z)

judged : (a n b : Bool) (x v z : Fault) (y : Statement) → a ≡ false → n ≡ false → b ≡ true → verdict a n b x v z y ≡ Ok y
judged a n b x v z y p r q = rw (p, r, q) refl

unjudged : (a n b : Bool) (x v z : Fault) (y s : Statement) → verdict a n b x v z y ≡ Ok s → (a ≡ false) × (n ≡ false) × (b ≡ true) × (y ≡ s)
unjudged true n b x v z y s e = absurd cc
unjudged false true b x v z y s e = absurd cc
unjudged false false true x v z y s e = (refl, refl, refl, (let k : y ≡ s = cc e in k))
unjudged false false false x v z y s e = absurd cc

redefined_table : (title : List ℕ) (k : ℕ) (all : List Column) → AreSound all → NoNullKey k 0 all → k < length all → statement_of (Defines title (redefined k 0 all)) ≡ Ok (Create (record { name = title; columns = all; key = k }))
redefined_table title k all s n l =
    let key = one_key k 0 all s (omega arith) (omega arith) in
    judged (list_any has_bad_domain (redefined k 0 all)) (list_any is_nullable_key (redefined k 0 all)) (length (filter is_key (redefined k 0 all)) == 1) _ _ _ _ (no_bad k 0 all s) (no_null_key k 0 all s n) (eq-eqb _ 1 key.0)
    ∙ ap₂ (λ c n. Ok (Create (record { name = title; columns = c; key = n }))) (same_columns k 0 all s) (omega (arith, key.1))

-- ---- what was spelled

are_sound : (ds : List Definition) (y : List Tok) → Writable y → Many IsNext ds y → list_any has_bad_domain ds ≡ false → AreSound (map column_of ds)
are_sound [] y w h e = tt
are_sound (d ∷ ds) y w h e =
    let s = cut y h.0 h.1 w h.2 in
    let t = cut h.0 h.3.1 h.3.2 s.0 h.3.3 in
    let n = or_parts (has_bad_domain d) (list_any has_bad_domain ds) e in
    (sound d (column_name d h.3.2 t.1 h.3.5) n.0, are_sound ds h.1 s.1 h.4 n.1)

abbrev pub Repeated : Rule Tree → Statement → Type 0
Repeated P s = (again : Tree) × P again (printed_tokens s) × (statement_of again ≡ Ok s) × Writable (printed_tokens s)

-- a table of one column or more, printed
table_again : (title : List ℕ) (d : Definition) (ds : List Definition) (s : Statement) → IsTrue (is_name title) → AreSound (map column_of (d ∷ ds)) → statement_of (Defines title (d ∷ ds)) ≡ Ok s → Repeated IsCreate s
table_again title d ds s n sound e =
    let j = unjudged (list_any has_bad_domain (d ∷ ds)) (list_any is_nullable_key (d ∷ ds)) (length (filter is_key (d ∷ ds)) == 1) _ _ _ (Create (table_of title (d ∷ ds))) s e in
    let one = eqb-true (length (filter is_key (d ∷ ds))) 1 j.2 in
    let k = key_of (d ∷ ds) in
    let within : k < length (map column_of (d ∷ ds)) = omega (arith, key_short (d ∷ ds) (omega (arith, one)), length-map (d ∷ ds) column_of) in
    let never = null_key k 0 (d ∷ ds) j.0 j.1 (omega arith) in
    let c = columns_spelled k (column_of d) (map column_of ds) sound.0 sound.1 in
    let tokens = parens (columns k (map column_of (d ∷ ds))) in
    let shut = in_parens (ListOf (MARK (codes ",")) IsColumn) (redefined k 0 (map column_of (d ∷ ds))) _ c.0 in
    subst (Repeated IsCreate) j.3 (
      Defines title (redefined k 0 (map column_of (d ∷ ds))),
      (
        0,
        key (codes "CREATE") ∷ [],
        key (codes "TABLE") ∷ name title 0 ∷ tokens,
        refl,
        (key (codes "CREATE"), refl, refl),
        (
          0,
          key (codes "TABLE") ∷ [],
          name title 0 ∷ tokens,
          refl,
          (key (codes "TABLE"), refl, refl),
          (record { text = title; place = 0 }, name title 0 ∷ [], tokens, refl, name_one title 0, at_end (InParens (ListOf (MARK (codes ",")) IsColumn)) _ (λ columns. Defines title columns) _ _ refl shut),
        ),
      ),
      redefined_table title k (map column_of (d ∷ ds)) sound never within,
      writable_name title 0 tokens n (writable_parens (columns k (map column_of (d ∷ ds))) c.1),
    )

-- a title, and definitions of columns, that make the statement
record Defined (s : Statement) : Type 0 where
  title : List ℕ
  first : Definition
  others : List Definition
  named : IsTrue (is_name title)
  sound : AreSound (map column_of (first ∷ others))
  says : statement_of (Defines title (first ∷ others)) ≡ Ok s

spelled_defined : (tree : Tree) (x : List Tok) (s : Statement) → Writable x → IsCreate tree x → statement_of tree ≡ Ok s → Defined s
spelled_defined tree x s w h e =
    let a = cut x h.1 h.2 w h.3 in
    let t = h.5 in
    let b = cut h.2 t.1 t.2 a.1 t.3 in
    let title = t.5 in
    let c = cut t.2 title.1 title.2 b.1 title.3 in
    let all = title.5 in
    let d = cut title.2 all.1 all.2 c.1 all.3 in
    let p = all.4 in
    let f = cut all.1 p.1 p.2 d.0 p.3 in
    let q = p.5 in
    let g = cut p.2 q.1 q.2 f.1 q.3 in
    let l = q.4 in
    let i = cut q.1 l.1 l.2 g.0 l.3 in
    let m = l.5 in
    let j = cut l.2 m.1 m.2 i.1 m.3 in
    let ds : all.0 ≡ l.0 ∷ m.0 = q.5.5.0 ∙ m.5.0 in
    let made : tree ≡ Defines title.0.text (l.0 ∷ m.0) = all.5.0 ∙ ap (λ z. Defines title.0.text z) ds in
    let says = subst (λ z. statement_of z ≡ Ok s) made e in
    let ok = unjudged (list_any has_bad_domain (l.0 ∷ m.0)) (list_any is_nullable_key (l.0 ∷ m.0)) (length (filter is_key (l.0 ∷ m.0)) == 1) _ _ _ (Create (table_of title.0.text (l.0 ∷ m.0))) s says in
    let n = or_parts (has_bad_domain l.0) (list_any has_bad_domain m.0) ok.0 in
    record {
      title = title.0.text;
      first = l.0;
      others = m.0;
      named = name_again title.0 title.1 c.0 title.4;
      sound = (sound l.0 (column_name l.0 l.1 i.0 l.4) n.0, are_sound m.0 m.1 j.0 m.4 n.1);
      says = says;
    }

pub create_again : (tree : Tree) (x : List Tok) (s : Statement) → Writable x → IsCreate tree x → statement_of tree ≡ Ok s → Repeated IsCreate s
create_again tree x s w h e = let d = spelled_defined tree x s w h e in table_again d.title d.first d.others s d.named d.sound d.says

-- ---- what may be created

-- a table that has a name, and whose columns are sound
pub record IsCreated (t : Table) : Type 0 where
  pub named : IsTrue (is_name t.name)
  pub columns : AreSound t.columns

pub create_created : (tree : Tree) (x : List Tok) (t : Table) → Writable x → IsCreate tree x → statement_of tree ≡ Ok (Create t) → IsCreated t
create_created tree x t w h e =
    let d = spelled_defined tree x (Create t) w h e in
    let made = (unjudged (list_any has_bad_domain (d.first ∷ d.others)) (list_any is_nullable_key (d.first ∷ d.others)) (length (filter is_key (d.first ∷ d.others)) == 1) _ _ _ (Create (table_of d.title (d.first ∷ d.others))) (Create t) d.says).3 in
    let same : table_of d.title (d.first ∷ d.others) ≡ t = cc in
    subst IsCreated same (record { named = d.named; columns = d.sound })
