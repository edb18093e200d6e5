-- The conjuncts of a condition that tokens spell are spelled by tokens too, and so are the queries that ask them.
use Rattle.std.proofs.Common.{◌≡◌, ℕ, zero, suc, ◌+◌, List, [], ◌∷◌, ◌++◌, map, inl, inr, Some, None, refl, sym, ap, subst, arith, ℤ, pos, negsuc, decimal, false}
use Rattle.std.specs.Prelude.{codes, flat_map, IsTrue, Option}
use Rattle.std.specs.List.{AllByRecursion}
use Rattle.std.proofs.lemmas.List.{append-nil}
use Rattle.std.proofs.lemmas.Fmt.{decimal_is_IsNumeral}
use Rattle.sr_cell.specs.declared.cell.Cell.{Cell}
use Rattle.sr_cell.specs.declared.cell.Cell.TheVariants.{Num, Str, Null}
use Rattle.sr_grammar.specs.declared.statement.Name.{Name}
use Rattle.sr_grammar.specs.declared.statement.Atom.TheVariants.{OneOf}
use Rattle.sr_grammar.specs.Tokens.{Tok, Number, Quoted, Mark}
use Rattle.sr_grammar.specs.Trees.{Cond, Test, conds_of, and_of, or_of, Select, Selects, Says}
use Rattle.sr_grammar.specs.Rules.{One, Nothing, ◌>>=◌ as ◌▸◌, Many}
use Rattle.sr_grammar.specs.Words.{Word, number_of, minus}
use Rattle.sr_grammar.specs.Conditions.{KEY, MARK, IsLiteral, IsReference, IsIn, IsAtom, IsTest, ListOf, ConjOf, CondOf, IsUnit}
use Rattle.sr_grammar.specs.Statements.{Where, IsWhere, Listed, IsListed, IsSelect, IsStatement, select_of as tree_of}
use Rattle.sr_grammar.specs.Printed.{token, key, mark, name, number, commas, parens, literal, reference, one_of}
use Rattle.sr_grammar_laws.proofs.LawsOfConditions.{both_unit}
use Rattle.sr_print.specs.Writable.{is_name}
use Rattle.sr_print.proofs.AgainTokens.{Writable, joined, cut, at_end, in_parens, writable_parens, comma}
use Rattle.sr_print.proofs.AgainWords.{IsSmall, name_one, writable_name, writable_number, decimal_one, minus_more}
use Rattle.sr_semi.specs.Keys.{literal_of}
use Rattle.sr_semi.specs.Texts.{all_of, bare_reference, conjuncts, all_conjuncts}

pub each-append : {A : Type 0} (P : A → Type 0) (xs ys : List A) → AllByRecursion P xs → AllByRecursion P ys → AllByRecursion P (xs ++ ys)
each-append P [] ys h k = k
each-append P (x ∷ xs) ys h k = (h.0, each-append P xs ys h.1 k)

-- tokens spell the condition, as a unit of so many levels
pub record IsSayable (c : Cond) : Type 0 where
  pub levels : ℕ
  pub tokens : List Tok
  pub writable : Writable tokens
  pub spelled : IsUnit levels c tokens

abbrev pub AreSayable : List Cond → Type 0
AreSayable cs = AllByRecursion IsSayable cs

-- ---- conjuncts

-- a condition that is no AND
alone : (c : Cond) → conjuncts c ≡ c ∷ [] → IsSayable c → AreSayable (conjuncts c)
alone c e s = subst AreSayable (sym e) (s, tt)

abbrev pub Units : ℕ → Type 0
Units n = (c : Cond) (x : List Tok) → Writable x → IsUnit n c x → AreSayable (conjuncts c)

more-units : (n : ℕ) → Units n → (cs : List Cond) (y : List Tok) → Writable y → Many (KEY (codes "AND") ▸ λ _. IsUnit n) cs y → AreSayable (all_conjuncts (conds_of cs))
more-units n units [] y w h = tt
more-units n units (c ∷ cs) y w h =
    let s = cut y h.0 h.1 w h.2 in
    let k = h.3 in
    each-append IsSayable (conjuncts c) (all_conjuncts (conds_of cs)) (units c k.2 (cut h.0 k.1 k.2 s.0 k.3).1 k.5) (more-units n units cs h.1 s.1 h.4)

conj-sayable : (n : ℕ) → Units n → (c : Cond) (x : List Tok) → Writable x → ConjOf (IsUnit n) c x → AreSayable (conjuncts c)
conj-sayable n units c x w h =
    let s = cut x h.1 h.2 w h.3 in
    let t = cut h.2 h.5.1 h.5.2 s.1 h.5.3 in
    subst (λ z. AreSayable (conjuncts z)) (sym h.5.5.0) (go h.0 h.5.0 s.0 t.0 h.4 h.5.4)
  where
    go : (f : Cond) (m : List Cond) → Writable h.1 → Writable h.5.1 → IsUnit n f h.1 → Many (KEY (codes "AND") ▸ λ _. IsUnit n) m h.5.1 → AreSayable (conjuncts (and_of f m))
    go f [] wx wy u many = units f h.1 wx u
    go f (d ∷ ds) wx wy u many =
        each-append IsSayable (conjuncts f) (all_conjuncts (conds_of (d ∷ ds))) (units f h.1 wx u) (more-units n units (d ∷ ds) h.5.1 wy many)

-- in parentheses, as a unit of one level more
closed : (n : ℕ) (c : Cond) (x : List Tok) → Writable x → CondOf (IsUnit n) c x → IsSayable c
unfolding IsUnit
closed n c x w h = record { levels = suc n; tokens = parens x; writable = writable_parens x w; spelled = inr (inl (in_parens (CondOf (IsUnit n)) c x h)) }

cond-sayable : (n : ℕ) → Units n → (c : Cond) (x : List Tok) → Writable x → CondOf (IsUnit n) c x → AreSayable (conjuncts c)
cond-sayable n units c x w h =
    let s = cut x h.1 h.2 w h.3 in
    go h.0 h.5.0 s.0 h.5.5.0 h.4
  where
    go : (f : Cond) (m : List Cond) → Writable h.1 → c ≡ or_of f m → ConjOf (IsUnit n) f h.1 → AreSayable (conjuncts c)
    go f [] wx e conj = subst (λ z. AreSayable (conjuncts z)) (sym e) (conj-sayable n units f h.1 wx conj)
    go f (d ∷ ds) wx e conj = alone c (subst (λ z. conjuncts z ≡ z ∷ []) (sym e) refl) (closed n c x w h)

pub units-sayable : (n : ℕ) → Units n
unfolding IsUnit
units-sayable zero c x w h = alone c (subst (λ z. conjuncts z ≡ z ∷ []) (sym h.5.5.0) refl) (record { levels = 0; tokens = x; writable = w; spelled = h })
units-sayable (suc n) c x w h = let own : IsSayable c = record { levels = suc n; tokens = x; writable = w; spelled = h } in elim h [
  | inl k ↦ alone c (subst (λ z. conjuncts z ≡ z ∷ []) (sym k.5.5.0) refl) own
  | inr k ↦ elim k [
    | inl p ↦ (
        let s = cut x p.1 p.2 w p.3 in
        let q = p.5 in
        let t = cut p.2 q.1 q.2 s.1 q.3 in
        subst (λ z. AreSayable (conjuncts z)) (sym q.5.5.0) (cond-sayable n (units-sayable n) q.0 q.1 t.0 q.4))
    | inr t ↦ alone c (subst (λ z. conjuncts z ≡ z ∷ []) (sym t.5.5.0) refl) own
  ]
]

pub whole-sayable : (n : ℕ) (c : Cond) (x : List Tok) → Writable x → CondOf (IsUnit n) c x → AreSayable (conjuncts c)
whole-sayable n = cond-sayable n (units-sayable n)

-- ---- more levels

higher : (k n : ℕ) (c : Cond) (x : List Tok) → IsUnit n c x → IsUnit (k + n) c x
higher zero n c x h = let e : n ≡ 0 + n = omega arith in subst (λ m. IsUnit m c x) e h
higher (suc k) n c x h = let e : suc k + n ≡ suc (k + n) = omega arith in subst (λ m. IsUnit m c x) (sym e) ((both_unit (k + n)).wider c x (higher k n c x h))

higher-many : (k n : ℕ) (cs : List Cond) (x : List Tok) → Many (KEY (codes "AND") ▸ λ _. IsUnit n) cs x → Many (KEY (codes "AND") ▸ λ _. IsUnit (k + n)) cs x
higher-many k n [] x h = h
higher-many k n (c ∷ cs) x h = (h.0, h.1, h.2, (h.3.0, h.3.1, h.3.2, h.3.3, h.3.4, higher k n c h.3.2 h.3.5), higher-many k n cs h.1 h.4)

-- all of them, each behind an AND, at one number of levels
record AreMembers (cs : List Cond) : Type 0 where
  levels : ℕ
  tokens : List Tok
  writable : Writable tokens
  spelled : Many (KEY (codes "AND") ▸ λ _. IsUnit levels) cs tokens

members : (cs : List Cond) → AreSayable cs → AreMembers cs
members [] all = record { levels = 0; tokens = []; writable = refl; spelled = refl }
members (c ∷ cs) all =
    let one = all.0 in
    let others = members cs all.1 in
    let e : one.levels + others.levels ≡ others.levels + one.levels = omega arith in
    record {
      levels = one.levels + others.levels;
      tokens = (key (codes "AND") ∷ one.tokens) ++ others.tokens;
      writable = joined (key (codes "AND") ∷ one.tokens) others.tokens one.writable others.writable;
      spelled = (
        key (codes "AND") ∷ one.tokens,
        others.tokens,
        refl,
        (0, key (codes "AND") ∷ [], one.tokens, refl, (key (codes "AND"), refl, refl), subst (λ m. IsUnit m c one.tokens) (sym e) (higher others.levels one.levels c one.tokens one.spelled)),
        higher-many one.levels others.levels cs others.tokens others.spelled,
      );
    }

-- ---- WHERE

abbrev where_is : List Cond → Option Where
where_is [] = None
where_is (c ∷ cs) = Some (record { place = 0; cond = and_of c cs })

record IsFiltered (cs : List Cond) : Type 0 where
  levels : ℕ
  tokens : List Tok
  writable : Writable tokens
  spelled : IsWhere levels (where_is cs) tokens

filtered : (cs : List Cond) → AreSayable cs → IsFiltered cs
filtered [] all = record { levels = 0; tokens = []; writable = refl; spelled = inr (refl, refl) }
filtered (c ∷ cs) all =
    let one = all.0 in
    let others = members cs all.1 in
    let n = one.levels + others.levels in
    let e : one.levels + others.levels ≡ others.levels + one.levels = omega arith in
    let unit : IsUnit n c one.tokens = subst (λ m. IsUnit m c one.tokens) (sym e) (higher others.levels one.levels c one.tokens one.spelled) in
    let many = higher-many one.levels others.levels cs others.tokens others.spelled in
    let conj : ConjOf (IsUnit n) (and_of c cs) (one.tokens ++ others.tokens) =
    (c, one.tokens, others.tokens, refl, unit, at_end (Many (KEY (codes "AND") ▸ λ _. IsUnit n)) _ (λ ds. and_of c ds) cs _ refl many) in
    let cond : CondOf (IsUnit n) (and_of c cs) (one.tokens ++ others.tokens) =
    (and_of c cs, one.tokens ++ others.tokens, [], sym (append-nil (one.tokens ++ others.tokens)), conj, ([], [], [], refl, refl, (refl, refl))) in
    record {
      levels = n;
      tokens = key (codes "WHERE") ∷ (one.tokens ++ others.tokens);
      writable = joined one.tokens others.tokens one.writable others.writable;
      spelled = inl (at_end (KEY (codes "WHERE") ▸ λ at. CondOf (IsUnit n) ▸ λ c. Nothing (record { place = at; cond = c })) _ Some (record { place = 0; cond = and_of c cs }) _ refl (
        0,
        key (codes "WHERE") ∷ [],
        one.tokens ++ others.tokens,
        refl,
        (key (codes "WHERE"), refl, refl),
        at_end (CondOf (IsUnit n)) _ (λ c. record { place = 0; cond = c }) (and_of c cs) _ refl cond,
      ));
    }

-- ---- names

abbrev pub IsBare : Name → Type 0
IsBare n = (column : List ℕ) × (n ≡ bare_reference column) × IsTrue (is_name column)

bare-spelled : (n : Name) → IsBare n → IsReference n (reference n)
bare-spelled n (column, e, is) = subst (λ z. IsReference z (reference z)) (sym e) (
  record { text = column; place = 0 },
  name column 0 ∷ [],
  [],
  refl,
  name_one column 0,
  (None, [], [], refl, inr (refl, refl), (refl, refl)),
)

bare-writable : (n : Name) → IsBare n → Writable (reference n)
bare-writable n (column, e, is) = subst (λ z. Writable (reference z)) (sym e) (writable_name column 0 [] is refl)

names-spelled : (ns : List Name) → AllByRecursion IsBare ns → Many (MARK (codes ",") ▸ λ _. IsReference) ns (flat_map (λ b. mark (codes ",") ∷ reference b) ns)
names-spelled [] all = refl
names-spelled (n ∷ ns) all =
    (mark (codes ",") ∷ reference n, flat_map (λ b. mark (codes ",") ∷ reference b) ns, refl, (comma.0, mark (codes ",") ∷ [], reference n, refl, comma.1, bare-spelled n all.0), names-spelled ns all.1)

names-writable : (ns : List Name) → AllByRecursion IsBare ns → Writable (flat_map (λ b. mark (codes ",") ∷ reference b) ns)
names-writable [] all = refl
names-writable (n ∷ ns) all = joined (mark (codes ",") ∷ reference n) (flat_map (λ b. mark (codes ",") ∷ reference b) ns) (bare-writable n all.0) (names-writable ns all.1)

-- ---- a query of one table

abbrev pub selected : List Name → List ℕ → List Cond → Select
selected names table cs = record { all = false; list = names; first = table; first_place = 0; joins = []; filter = all_of cs; place = 0 }

-- tokens spell the statement
pub record IsSpelled (s : Select) : Type 0 where
  pub levels : ℕ
  pub tokens : List Tok
  pub writable : Writable tokens
  pub spelled : IsStatement levels (Says (Selects s)) tokens

same-filter : (n : Name) (ns : List Name) (table : List ℕ) (cs : List Cond)
    → tree_of (record { all = false; list = n ∷ ns }) (record { text = table; place = 0 }) [] (where_is cs) ≡ selected (n ∷ ns) table cs
same-filter n ns table [] = refl
same-filter n ns table (c ∷ cs) = refl

pub query-spelled : (n : Name) (ns : List Name) (table : List ℕ) (cs : List Cond) → AllByRecursion IsBare (n ∷ ns) → IsTrue (is_name table) → AreSayable cs → IsSpelled (selected (n ∷ ns) table cs)
query-spelled n ns table cs bare is all =
    let f = filtered cs all in
    let m = f.levels in
    let list = reference n ++ flat_map (λ b. mark (codes ",") ∷ reference b) ns in
    let from = name table 0 ∷ f.tokens in
    let what : Listed = record { all = false; list = n ∷ ns } in
    let where_from : Word = record { text = table; place = 0 } in
    let names : ListOf (MARK (codes ",")) IsReference (n ∷ ns) list =
    (n, reference n, flat_map (λ b. mark (codes ",") ∷ reference b) ns, refl, bare-spelled n bare.0, at_end _ _ (λ more. n ∷ more) ns _ refl (names-spelled ns bare.1)) in
    let listed : IsListed what list = inr (at_end (ListOf (MARK (codes ",")) IsReference) _ (λ list. record { all = false; list = list }) (n ∷ ns) _ refl names) in
    let query : IsSelect m (Says (Selects (tree_of what where_from [] (where_is cs)))) (key (codes "SELECT") ∷ (list ++ key (codes "FROM") ∷ from)) = (
      0,
      key (codes "SELECT") ∷ [],
      list ++ key (codes "FROM") ∷ from,
      refl,
      (key (codes "SELECT"), refl, refl),
      (
        what,
        list,
        key (codes "FROM") ∷ from,
        refl,
        listed,
        (
          0,
          key (codes "FROM") ∷ [],
          from,
          refl,
          (key (codes "FROM"), refl, refl),
          (
            where_from,
            name table 0 ∷ [],
            f.tokens,
            refl,
            name_one table 0,
            ([], [], f.tokens, refl, refl, at_end (IsWhere m) _ (λ filter. Says (Selects (tree_of what where_from [] filter))) (where_is cs) _ refl f.spelled),
          ),
        ),
      ),
    ) in
    let statement : IsStatement m (Says (Selects (tree_of what where_from [] (where_is cs)))) (key (codes "SELECT") ∷ (list ++ key (codes "FROM") ∷ from)) =
    (_, _, [], sym (append-nil (key (codes "SELECT") ∷ (list ++ key (codes "FROM") ∷ from))), inr (inl query), (None, [], [], refl, inr (refl, refl), (refl, refl))) in
    record {
      levels = m;
      tokens = key (codes "SELECT") ∷ (list ++ key (codes "FROM") ∷ from);
      writable =
          joined list (key (codes "FROM") ∷ from) (joined (reference n) (flat_map (λ b. mark (codes ",") ∷ reference b) ns) (bare-writable n bare.0) (names-writable ns bare.1))
          (writable_name table 0 f.tokens is f.writable);
      spelled = subst (λ z. IsStatement m (Says (Selects z)) (key (codes "SELECT") ∷ (list ++ key (codes "FROM") ∷ from))) (same-filter n ns table cs) statement;
    }

-- ---- keys

abbrev pub IsWritten : Cell → Type 0
IsWritten (Num z) = IsSmall z
IsWritten (Str s) = Unit {0}
IsWritten Null = ⊥

number-spelled : (z : ℤ) → IsSmall z → IsLiteral (literal_of (Num z)) (number z 0)
number-spelled (pos n) small = inr (token Number (decimal n) 0, ap (λ v. Some (record { cell = Num (pos v); place = 0 })) (decimal_is_IsNumeral n (omega arith)).1, refl)
number-spelled (negsuc n) small =
    inl (
      0,
      token Mark (codes "-") 0 ∷ [],
      token Number (decimal (n + 1)) 0 ∷ [],
      refl,
      (token Mark (codes "-") 0, refl, refl),
      at_end (One number_of) _ (λ m. record { cell = Num (minus m); place = 0 }) (n + 1) _ (ap (λ z. record { cell = Num z; place = 0 }) (minus_more n)) (decimal_one (n + 1) 0 small),
    )

cell-spelled : (v : Cell) → IsWritten v → IsLiteral (literal_of v) (literal (literal_of v))
cell-spelled (Num z) small = number-spelled z small
cell-spelled (Str s) small = inr (token Quoted s 0, refl, refl)
cell-spelled Null small = absurd small

cell-writable : (v : Cell) → IsWritten v → Writable (literal (literal_of v))
cell-writable (Num z) small = writable_number z 0 small
cell-writable (Str s) small = refl
cell-writable Null small = absurd small

cells-spelled : (vs : List Cell) → AllByRecursion IsWritten vs → Many (MARK (codes ",") ▸ λ _. IsLiteral) (map literal_of vs) (flat_map (λ b. mark (codes ",") ∷ literal b) (map literal_of vs))
cells-spelled [] all = refl
cells-spelled (v ∷ vs) all = (
  mark (codes ",") ∷ literal (literal_of v),
  flat_map (λ b. mark (codes ",") ∷ literal b) (map literal_of vs),
  refl,
  (comma.0, mark (codes ",") ∷ [], literal (literal_of v), refl, comma.1, cell-spelled v all.0),
  cells-spelled vs all.1,
)

cells-writable : (vs : List Cell) → AllByRecursion IsWritten vs → Writable (flat_map (λ b. mark (codes ",") ∷ literal b) (map literal_of vs))
cells-writable [] all = refl
cells-writable (v ∷ vs) all = joined (mark (codes ",") ∷ literal (literal_of v)) (flat_map (λ b. mark (codes ",") ∷ literal b) (map literal_of vs)) (cell-writable v all.0) (cells-writable vs all.1)

-- that a column is one of some values
pub in-sayable : (column : List ℕ) (v : Cell) (vs : List Cell) → IsTrue (is_name column) → AllByRecursion IsWritten (v ∷ vs)
    → IsSayable (Test (bare_reference column) (OneOf (map literal_of (v ∷ vs))))
unfolding IsUnit
in-sayable column v vs is all =
    let ls = map literal_of (v ∷ vs) in
    let list = commas literal ls in
    let each : ListOf (MARK (codes ",")) IsLiteral ls list =
    (literal_of v, literal (literal_of v), flat_map (λ b. mark (codes ",") ∷ literal b) (map literal_of vs), refl, cell-spelled v all.0, at_end _ _ (λ more. literal_of v ∷ more) (map literal_of vs) _ refl (cells-spelled vs all.1)) in
    let in_them : IsIn OneOf (OneOf ls) (one_of ls) =
    (0, key (codes "IN") ∷ [], parens list, refl, (key (codes "IN"), refl, refl), at_end _ _ (λ all. OneOf all) ls _ refl (in_parens (ListOf (MARK (codes ",")) IsLiteral) ls list each)) in
    let test : IsTest (Test (bare_reference column) (OneOf ls)) (reference (bare_reference column) ++ one_of ls) =
    (bare_reference column, reference (bare_reference column), one_of ls, refl, bare-spelled (bare_reference column) (column, refl, is), at_end IsAtom _ (λ a. Test (bare_reference column) a) (OneOf ls) _ refl (inr (inr (inl in_them)))) in
    let written : Writable list = joined (literal (literal_of v)) (flat_map (λ b. mark (codes ",") ∷ literal b) (map literal_of vs)) (cell-writable v all.0) (cells-writable vs all.1) in
    record {
      levels = 0;
      tokens = reference (bare_reference column) ++ one_of ls;
      writable = writable_name column 0 (one_of ls) is (writable_parens list written);
      spelled = test;
    }
