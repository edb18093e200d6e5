-- What the code's steps need.
use Rattle.std.proofs.Common.{◌≡◌, ℕ, zero, suc, ◌+◌, ◌<◌, ◌≤◌, Bool, true, false, List, [], ◌∷◌, ◌++◌, drop, length, map, Some, None, inl, inr, refl, sym, ap, ◌∙◌, arith, pos, if◌then◌else◌}
use Rattle.std.specs.Prelude.{nat_lt, nat_le, slice_get, slice_index_or, Ok, Err, Result, Option, IfOk, IfSome}
use Rattle.std.specs.List.{list_all}
use Rattle.std.specs.Option.{is_some, option_map, unwrap_or}
use Rattle.std.proofs.lemmas.Bool.{and_parts, lt-ltb, le-leb, leb-true}
use Rattle.std.proofs.lemmas.List.{append_assoc, at_drop_more, get_or-map}
use Rattle.std.proofs.lemmas.List.Concat.{flat_map-cons}
use Rattle.std.proofs.lemmas.Option.{get_or_from_slice_get, unwrap_or-slice_get}
use Rattle.sr_cell.specs.declared.table.Column.{Column}
use Rattle.sr_cell.specs.declared.table.Kind.TheVariants as kinds
use Rattle.sr_cell.specs.declared.table.Table.{Table}
use Rattle.sr_query.specs.Binding.{column_at}
use Rattle.sr_cell.specs.declared.cell.Cell.{Cell}
use Rattle.sr_cell.specs.declared.cell.Cell.TheVariants.{Num}
use Rattle.sr_cell.specs.declared.fault.Fault.{Fault}
use Rattle.sr_cell.specs.Cells.{Row, cell_at, cell_eq, cell_le, is_null}
use Rattle.sr_cell.proofs.Order.{cell_eq-sound}
use Rattle.sr_grammar.specs.declared.statement.Name.{Name}
use Rattle.sr_grammar.specs.declared.statement.Cond.{Cond}
use Rattle.sr_grammar.specs.Seen.{cond_seen}
use Rattle.sr_grammar.specs.Says.{Says, most_levels}
use Rattle.sr_grammar.specs.Tokens.{tokens_of}
use Rattle.sr_grammar.specs.Trees.{Statement, Tree, conds_of, statement_of}
use Rattle.sr_grammar_laws.specs.Reading.{Reading, Got, Fails}
use Rattle.sr_grammar_laws.specs.Readers.{whole}
use Rattle.sr_grammar_laws.proofs.Top.{each_is_exact}
use Rattle.sr_grammar_laws.proofs.OneSaying.{each_says_one}
use Rattle.sr_semi.specs.Going.{is_got, is_read, is_statement, joined, joined_to}
use Rattle.sr_semi.specs.Keys.{IsKeyAt, at_most, by_key, with_key, with_known, with_value, values_behind}
use Rattle.sr_semi.specs.Sides.{Sides}
use Rattle.sr_semi.specs.Texts.{all_names, names_in}

pub at-place : {A : Type 0} (p : A → Bool) (xs : List A) (i : ℕ) (d : A) → list_all p xs ≡ true → i < length xs → p (slice_index_or xs i d) ≡ true
at-place p [] i d all less = absurd (omega (arith, less))
at-place p (x ∷ xs) zero d all less = (and_parts (p x) (list_all p xs) all).0
at-place p (x ∷ xs) (suc i) d all less = at-place p xs i d (and_parts (p x) (list_all p xs) all).1 (omega (arith, less))

-- what is answered, and more of it
pub ok-weaker : {A E : Type 0} (r : Result A E) (P Q : A → Type 0) → ((a : A) → P a → Q a) → IfOk r P → IfOk r Q
ok-weaker (Ok a) P Q f h = f a h
ok-weaker (Err e) P Q f h = tt

-- ---- names

-- the first of two lists' names, where the first list's first name is seen so
pub seen-some : {B : Type 0} (f : B → Name) (o : Option B) (xs ys : List Name) → option_map f o ≡ slice_get xs 0 → is_some o ≡ true → option_map f o ≡ slice_get (xs ++ ys) 0
seen-some f None xs ys e some = absurd cc
seen-some f (Some b) [] ys e some = absurd cc
seen-some f (Some b) (x ∷ xs) ys e some = e

pub seen-none : {B : Type 0} (f : B → Name) (o : Option B) (xs ys : List Name) → option_map f o ≡ slice_get xs 0 → is_some o ≡ false → slice_get (xs ++ ys) 0 ≡ slice_get ys 0
seen-none f None [] ys e none = refl
seen-none f None (x ∷ xs) ys e none = absurd cc
seen-none f (Some b) xs ys e none = absurd cc

-- the names of a list of conditions from that place on
pub names-more : (conds : List Cond) (i : ℕ) (c : Cond) → i < length conds → c ≡ slice_index_or conds i c
    → all_names (conds_of (map cond_seen (drop i conds))) ≡ names_in (cond_seen c) ++ all_names (conds_of (map cond_seen (drop (i + 1) conds)))
names-more conds i c less is =
    at_drop_more (λ cs. all_names (conds_of (map cond_seen cs))) conds i c less
    ∙ ap (λ d. names_in (cond_seen d) ++ all_names (conds_of (map cond_seen (drop (i + 1) conds)))) (sym is)

-- ---- keys

grows-by : (vs : List Cell) (v : Cell) → length vs ≤ length (with_value vs v)
grows-by [] v = omega arith
grows-by (w ∷ ws) v = go (cell_eq v w) (cell_le v w) (grows-by ws v)
  where
    go : (a b : Bool) → length ws ≤ length (with_value ws v) → suc (length ws) ≤ length (if a then w ∷ ws else (if b then v ∷ w ∷ ws else w ∷ with_value ws v))
    go true b ih = omega arith
    go false true ih = omega arith
    go false false ih = omega (arith, ih)

grows-known : (vs : List Cell) (v : Cell) → length vs ≤ length (with_known vs v)
grows-known vs v = go (is_null v) (grows-by vs v)
  where
    go : (b : Bool) → length vs ≤ length (with_value vs v) → length vs ≤ length (if b then vs else with_value vs v)
    go true ih = omega arith
    go false ih = ih

grows : (place : ℕ) (vs : List Cell) (rows : List Row) → length vs ≤ length (values_behind place vs rows)
grows place vs [] = omega arith
grows place vs (row ∷ rows) =
    let one = grows-known vs (cell_at row place) in
    let others = grows place (with_known vs (cell_at row place)) rows in
    omega (arith, one, others)

-- where there are too many already, there are too many
pub too-many : (most place : ℕ) (vs : List Cell) (rows : List Row) (all : List Cell) → all ≡ values_behind place vs rows → most < length vs → at_most most all ≡ None
too-many most place vs rows all e less =
    let more = grows place vs rows in
    let len : length all ≡ length (values_behind place vs rows) = ap length e in
    let many : nat_lt most (length all) ≡ true = lt-ltb most (length all) (omega (arith, less, more, len)) in
    rw many refl

pub values-more : (place : ℕ) (vs : List Cell) (rows : List Row) (i : ℕ) (row : Row) → i < length rows → row ≡ slice_index_or rows i row
    → values_behind place vs (drop i rows) ≡ values_behind place (with_known vs (cell_at row place)) (drop (i + 1) rows)
values-more place vs rows i row less is =
    at_drop_more (values_behind place vs) rows i row less ∙ ap (λ r. values_behind place (with_known vs (cell_at r place)) (drop (i + 1) rows)) (sym is)

-- the rows that were found for a key are those of each value that equals it
pub found-at : (p : ℕ) (all : List Row) (keys : List Cell) (found : List (List Row)) (i : ℕ) (v : Cell) (rows : List Row)
    → found ≡ by_key p all keys → IsKeyAt keys v i → slice_get found i ≡ Some rows → rows ≡ with_key p all v
found-at p all keys found i v rows e is some =
    sym (get_or_from_slice_get found i rows [] some) ∙ (ap (λ fs. slice_index_or fs i []) e
    ∙ (get_or-map (with_key p all) keys i (Num (pos 0)) [] is.within ∙ ap (with_key p all) (sym (cell_eq-sound v (cell_at keys i) is.equal))))

-- the same of the row that is looked up, if there is one
pub found-if : (p : ℕ) (all : List Row) (keys : List Cell) (found : List (List Row)) (i : ℕ) (v : Cell) (o : Option (List Row)) → found ≡ by_key p all keys → IsKeyAt keys v i → o ≡ slice_get found i
    → IfSome o (λ rows. rows ≡ with_key p all v)
found-if p all keys found i v None e is some = tt
found-if p all keys found i v (Some rows) e is some = found-at p all keys found i v rows e is (sym some)

-- the rows that one row of the left side makes, and those of the others
pub joined-more : (s : Sides) (lefts rights : List Row) (i : ℕ) (left : Row) (old new total : List Row) → i < length lefts → left ≡ slice_index_or lefts i left
    → new ≡ old ++ joined_to s rights left → old ++ joined s (drop i lefts) rights ≡ total → new ++ joined s (drop (i + 1) lefts) rights ≡ total
joined-more s lefts rights i left old new total less is made e =
    let rest = joined s (drop (i + 1) lefts) rights in
    let first : joined s (drop i lefts) rights ≡ joined_to s rights left ++ rest =
    at_drop_more (λ ls. joined s ls rights) lefts i left less
    ∙ (flat_map-cons (joined_to s rights) (slice_index_or lefts i left) (drop (i + 1) lefts) ∙ ap (λ l. joined_to s rights l ++ rest) (sym is)) in
    ap (λ xs. xs ++ rest) made ∙ (append_assoc old (joined_to s rights left) rest ∙ (ap (λ xs. old ++ xs) (sym first) ∙ e))

pub absent_column : (t : Table) → slice_get t.columns t.key ≡ None → (column_at t t.key).name ≡ []
absent_column t none =
    let d : Column = record { name = []; kind = kinds.Str; lo = pos 0; hi = pos 0; nullable = false } in
    ap (λ (c : Column). c.name) (sym (unwrap_or-slice_get t.columns t.key d) ∙ ap (λ o. unwrap_or o d) none)

-- ---- reading

read-so : (text : List ℕ) (tree : Tree) → length text ≤ 65536 → whole most_levels (tokens_of text) ≡ Got tree [] → is_read text ≡ is_statement (statement_of tree)
read-so text tree short e = rw (le-leb (length text) 65536 short, e) refl

pub said_is_read : (text : List ℕ) (s : Statement) → Says text (Ok s) → is_read text ≡ true
said_is_read text s h = elim h [
  | inl long ↦ absurd (let e = long.1 in cc e)
  | inr short ↦ elim short.1 [
    | inl k ↦ read-so text k.0 short.0 ((each_is_exact most_levels).only (tokens_of text) k.0 k.1) ∙ ap is_statement (sym k.2)
    | inr k ↦ absurd (let e = k.2 in cc e)
  ]
]

-- what is read is said
read-is-said : (text : List ℕ) → is_read text ≡ true → (s : Statement) × Says text (Ok s)
read-is-said text e =
    let p = and_parts (nat_le (length text) 65536) (is_got (whole most_levels (tokens_of text))) e in
    go (whole most_levels (tokens_of text)) refl p.1 (leb-true (length text) 65536 p.0)
  where
    of-tree : (tree : Tree) (r : Result Statement Fault) → statement_of tree ≡ r → is_statement r ≡ true → length text ≤ 65536 → whole most_levels (tokens_of text) ≡ Got tree [] → (s : Statement) × Says text (Ok s)
    of-tree tree (Ok s) is so short e = (s, inr (short, inl (tree, ((each_is_exact most_levels).found (tokens_of text) [] tree e).1, sym is)))
    of-tree tree (Err f) is so short e = absurd cc

    go : (r : Reading Tree) → whole most_levels (tokens_of text) ≡ r → is_got r ≡ true → length text ≤ 65536 → (s : Statement) × Says text (Ok s)
    go (Got tree rest) is so short =
        let none = ((each_is_exact most_levels).found (tokens_of text) rest tree is).0 in
        of-tree tree (statement_of tree) refl so short (is ∙ ap (Got tree) none)
    go (Fails deep bad) is so short = absurd cc

pub unsaid_is_unread : (text : List ℕ) (fault : Fault) → Says text (Err fault) → is_read text ≡ false
unsaid_is_unread text fault h = go (is_read text) refl
  where
    go : (b : Bool) → is_read text ≡ b → is_read text ≡ false
    go false is = is
    go true is = absurd (let s = read-is-said text is in let same = each_says_one text (Ok s.0) (Err fault) s.1 h in cc same)
