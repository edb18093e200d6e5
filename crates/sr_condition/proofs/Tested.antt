-- The spans of a test.
use Rattle.std.proofs.Common.{◌≡◌, ℕ, ◌+◌, ◌<◌, true, false, List, [], ◌∷◌, ◌++◌, length, take, slice_index_or, refl, sym, subst, arith, ◌∙◌, ap}
use Rattle.std.specs.Prelude.{ℤ, Bool, not, ◌&&◌, ◌||◌, Option, option_to_list, if◌then◌else◌}
use Rattle.std.specs.List.{list_any}
use Rattle.std.proofs.lemmas.List.Folds.{list_any-append}
use Rattle.std.proofs.lemmas.List.{take_more}
use Rattle.std.proofs.lemmas.List.Concat.{flat_map-append}
use Rattle.sr_cell.specs.declared.cell.Cell.{Cell}
use Rattle.sr_cell.specs.declared.cell.Cell.TheVariants.{Num, Str, Null as NullCell}
use Rattle.sr_cell.specs.declared.table.Kind.{Kind}
use Rattle.sr_cell.specs.declared.table.Kind.TheVariants.{Num as Numbers, Str as Texts}
use Rattle.sr_cell.specs.declared.table.Column.{Column}
use Rattle.sr_cell.specs.Cells.{cell_le, cell_eq, is_null}
use Rattle.sr_cell.specs.Columns.{in_kind, in_column}
use Rattle.sr_cell.specs.Names.{is_bad_domain}
use Rattle.sr_cell.proofs.Order.{cell_le-trans}
use Rattle.sr_box.specs.declared.span.Span.{Span}
use Rattle.sr_box.specs.declared.span.Span.TheVariants.{Full, Nums, Strs, Null}
use Rattle.sr_box.specs.Spans.{in_span}
use Rattle.sr_union.specs.Grid.{is_among, has_cut}
use Rattle.sr_union.proofs.Cuts.{is_among-append}
use Rattle.sr_grammar.specs.declared.statement.Op.{Op}
use Rattle.sr_grammar.specs.declared.statement.Op.TheVariants as ops
use Rattle.sr_query.specs.Binding.{compared}
use Rattle.sr_model.specs.Conditions.{Test, is_so, on_value, begins_cell, passes, Eq, Ne, Lt, Le, Gt, Ge, Between, OneOf, Prefix, IsNull}
use Rattle.sr_model.specs.Ends.{next_value, test_ends, places_of}
use Rattle.sr_model.specs.Width.{test_width}
use Rattle.sr_condition.specs.Ranges.{says_test, said, range_width, is_one_range, ranged, is_range, IsRange, part_of, all_values, in_spans, without, AreSpans, AreApart}
use Rattle.sr_condition.proofs.Parts.{part-spans}
use Rattle.sr_condition.proofs.Joins.{spans-with}
use Rattle.sr_condition.proofs.Apart.{null-inside, apart-without, apart-whole}
use Rattle.sr_condition.proofs.Runs.{sides}

-- ---- a value of which a test is not true

of-value : (v : Cell) (b : Bool) → (not (is_null v) && not (is_so true (on_value v b))) ≡ is_so false (on_value v b)
of-value (Num n) b = refl
of-value (Str s) b = refl
of-value NullCell b = refl

other-null : (v : Cell) → (not (is_null v) && not (is_null v)) ≡ not (is_null v)
other-null (Num n) = refl
other-null (Str s) = refl
other-null NullCell = refl

-- it is false of it, but of Null
pub contrary-is : (t : Test) (v : Cell) → (not (is_null v) && not (passes t v)) ≡ says_test false t v
contrary-is (Eq w) v = of-value v (cell_eq v w)
contrary-is (Ne w) v = of-value v (not (cell_eq v w))
contrary-is (Lt w) v = of-value v (not (cell_le w v))
contrary-is (Le w) v = of-value v (cell_le v w)
contrary-is (Gt w) v = of-value v (not (cell_le v w))
contrary-is (Ge w) v = of-value v (cell_le w v)
contrary-is (Between a b) v = of-value v (cell_le a v && cell_le v b)
contrary-is (OneOf ws) v = of-value v (list_any (cell_eq v) ws)
contrary-is (Prefix p) v = of-value v (begins_cell p v)
contrary-is IsNull v = other-null v

flipped-value : (v : Cell) (b : Bool) → is_so false (on_value v b) ≡ is_so true (on_value v (not b))
flipped-value (Num n) b = refl
flipped-value (Str s) b = refl
flipped-value NullCell b = refl

unflipped-value : (v : Cell) (b : Bool) → is_so true (on_value v b) ≡ is_so false (on_value v (not b))
unflipped-value (Num n) b = grind arith
unflipped-value (Str s) b = grind arith
unflipped-value NullCell b = refl

-- ---- one range

range-lacks : (column : Column) (values : Cell → Bool) (places : List Cell) (s : Span) → IsRange column values places s → column.nullable ≡ true → values NullCell ≡ false
range-lacks column values places s r n = sym (r.points NullCell (null-inside column.kind column.lo column.hi column.nullable n)) ∙ none column.kind s r.kind
  where
    none : (k : Kind) (s : Span) → is_range k s ≡ true → in_span s NullCell ≡ false
    none k Full h = absurd (cc)
    none k Null h = absurd (cc)
    none k (Nums lo hi) h = refl
    none k (Strs lo hi) h = refl

twice-null : (ends : List Cell) (v : Cell) → is_among ((NullCell ∷ []) ++ (NullCell ∷ ends)) v ≡ true → is_among (NullCell ∷ ends) v ≡ true
twice-null ends v h = grind (arith, h)

pub range-inside : (column : Column) (t : Test) (s : Span) (plain : Bool) (spans : List Span) → plain ≡ true → IsRange column (passes t) (places_of t) s → spans ≡ option_to_list (part_of column s)
    → AreSpans column (says_test plain t) (range_width plain) (places_of t) spans
range-inside column t s true spans e r is = subst (AreSpans column (passes t) 1 (places_of t)) (sym is) (part-spans column (passes t) (places_of t) s r)
range-inside column t s false spans e r is = absurd (cc)

pub range-outside : (column : Column) (t : Test) (s : Span) (plain : Bool) (spans : List Span) → plain ≡ false → is_bad_domain column ≡ false → IsRange column (passes t) (places_of t) s
    → spans ≡ without column (part_of column s) (all_values column ∷ []) → AreSpans column (says_test plain t) (range_width plain) (places_of t) spans
range-outside column t s true spans e good r is = absurd (cc)
range-outside column t s false spans e good r is = subst (AreSpans column (says_test false t) 2 (places_of t)) (sym is)
    (spans-with column (λ v. not (is_null v) && not (passes t v)) (says_test false t) 2 2 ((NullCell ∷ []) ++ places_of t) (places_of t)
    (without column (part_of column s) (all_values column ∷ [])) all.are (λ v i. contrary-is t v) (omega arith) (twice-null (test_ends t)))
  where
    all : AreApart column (λ v. not (is_null v) && not (passes t v)) 2 ((NullCell ∷ []) ++ places_of t) (without column (part_of column s) (all_values column ∷ []))
    all = apart-without column (λ v. not (is_null v)) (passes t) 1 (NullCell ∷ []) (places_of t) (all_values column ∷ []) (part_of column s) good (λ n. refl) (range-lacks column (passes t) (places_of t) s r)
        (apart-whole column good) (part-spans column (passes t) (places_of t) s r)

-- ---- a test of which no value is true

pub none-spans : (column : Column) (t : Test) (plain : Bool) (spans : List Span) → is_bad_domain column ≡ false → ((v : Cell) → in_column column v ≡ true → passes t v ≡ false)
    → spans ≡ (if not plain then all_values column ∷ [] else []) → AreSpans column (says_test plain t) (range_width plain) (places_of t) spans
none-spans column t true spans good none is = subst (AreSpans column (passes t) 1 (places_of t)) (sym is)
    (record { fits = refl; points = λ v i. sym (none v i); few = omega arith; ends = tt })
none-spans column t false spans good none is = subst (AreSpans column (says_test false t) 2 (places_of t)) (sym is)
    (spans-with column (λ v. not (is_null v)) (says_test false t) 1 2 (NullCell ∷ []) (places_of t) (all_values column ∷ []) (apart-whole column good).are
    (λ v i. let c = contrary-is t v in let e = none v i in grind (arith, c, e)) (omega arith) (λ v h. grind (arith, h)))

crossed-value : (a b v : Cell) → cell_le a b ≡ false → (cell_le a v && cell_le v b) ≡ false
crossed-value a b v crossed = go (cell_le a v) refl (cell_le v b) refl
  where
    go : (x : Bool) → cell_le a v ≡ x → (y : Bool) → cell_le v b ≡ y → (x && y) ≡ false
    go true h true k = let t = cell_le-trans a v b h k in absurd (grind (arith, t, crossed))
    go true h false k = refl
    go false h y k = refl

-- BETWEEN with its second value below the first
crossed-passes : (a b v : Cell) → cell_le a b ≡ false → passes (Between a b) v ≡ false
crossed-passes a b (Num n) crossed = crossed-value a b (Num n) crossed
crossed-passes a b (Str s) crossed = crossed-value a b (Str s) crossed
crossed-passes a b NullCell crossed = refl

pub crossed-spans : (column : Column) (a b : Cell) (plain : Bool) (spans : List Span) → is_bad_domain column ≡ false → cell_le a b ≡ false → spans ≡ (if not plain then all_values column ∷ [] else [])
    → AreSpans column (says_test plain (Between a b)) (range_width plain) (places_of (Between a b)) spans
crossed-spans column a b plain spans good crossed is = none-spans column (Between a b) plain spans good (λ v i. crossed-passes a b v crossed) is

-- no number begins with a text
no-prefix : (k : Kind) (low high : ℤ) (n : Bool) (p : List ℕ) (v : Cell) → k ≡ Numbers → in_kind k low high n v ≡ true → passes (Prefix p) v ≡ false
no-prefix k low high n p (Num m) is i = refl
no-prefix Numbers low high n p (Str s) is i = absurd (cc)
no-prefix Texts low high n p (Str s) is i = absurd (cc)
no-prefix k low high n p NullCell is i = refl

pub prefix-of-number : (column : Column) (p : List ℕ) (plain : Bool) (spans : List Span) → is_bad_domain column ≡ false → column.kind ≡ Numbers → spans ≡ (if not plain then all_values column ∷ [] else [])
    → AreSpans column (says_test plain (Prefix p)) (range_width plain) (places_of (Prefix p)) spans
prefix-of-number column p plain spans good kind is = none-spans column (Prefix p) plain spans good (λ v i. no-prefix column.kind column.lo column.hi column.nullable p v kind i) is

-- ---- Null

null-in : (v : Cell) → in_spans (Null ∷ []) v ≡ is_null v
null-in (Num n) = refl
null-in (Str s) = refl
null-in NullCell = refl

no-null : (k : Kind) (low high : ℤ) (n : Bool) (v : Cell) → n ≡ false → in_kind k low high n v ≡ true → false ≡ is_null v
no-null k low high n (Num m) is i = refl
no-null k low high n (Str s) is i = refl
no-null Numbers low high n NullCell is i = absurd (cc)
no-null Texts low high n NullCell is i = absurd (cc)

null-cut : (k : Kind) (low high : ℤ) (n : Bool) (v : Cell) → n ≡ true → has_cut k low high n Null v ≡ true → is_among (NullCell ∷ []) v ≡ true
null-cut Numbers low high true v is h = h
null-cut Texts low high true v is h = h
null-cut k low high false v is h = absurd (cc)

null-spans : (column : Column) (spans : List Span) → spans ≡ (if column.nullable then Null ∷ [] else []) → AreSpans column (says_test true IsNull) 1 (NullCell ∷ []) spans
null-spans column spans is = go column.nullable refl is
  where
    go : (b : Bool) → column.nullable ≡ b → spans ≡ (if b then Null ∷ [] else []) → AreSpans column (says_test true IsNull) 1 (NullCell ∷ []) spans
    go true n is = subst (AreSpans column (says_test true IsNull) 1 (NullCell ∷ [])) (sym is)
        (record { fits = grind (arith, n); points = λ v i. null-in v; few = omega arith; ends = ((λ v h. null-cut column.kind column.lo column.hi column.nullable v n h), tt) })
    go false n is = subst (AreSpans column (says_test true IsNull) 1 (NullCell ∷ [])) (sym is)
        (record { fits = refl; points = λ v i. no-null column.kind column.lo column.hi column.nullable v n i; few = omega arith; ends = tt })

value-spans : (column : Column) (spans : List Span) → is_bad_domain column ≡ false → spans ≡ all_values column ∷ [] → AreSpans column (says_test false IsNull) 1 (NullCell ∷ []) spans
value-spans column spans good is = subst (AreSpans column (says_test false IsNull) 1 (NullCell ∷ [])) (sym is) (apart-whole column good).are

pub null-side : (column : Column) (plain : Bool) (spans : List Span) → plain ≡ true → spans ≡ (if column.nullable then Null ∷ [] else [])
    → AreSpans column (says_test plain IsNull) (test_width plain IsNull) (places_of IsNull) spans
null-side column true spans e is = null-spans column spans is
null-side column false spans e is = absurd (cc)

pub value-side : (column : Column) (plain : Bool) (spans : List Span) → is_bad_domain column ≡ false → plain ≡ false → spans ≡ all_values column ∷ []
    → AreSpans column (says_test plain IsNull) (test_width plain IsNull) (places_of IsNull) spans
value-side column true spans good e is = absurd (cc)
value-side column false spans good e is = value-spans column spans good is

-- ---- comparisons

same-says : (plain : Bool) (op : Op) (v u : Cell) → says_test (is_one_range (said plain op)) (ranged (said plain op) v) u ≡ says_test plain (compared op v) u
same-says true ops.Eq v u = refl
same-says true ops.Ne v u = flipped-value u (cell_eq u v)
same-says true ops.Lt v u = refl
same-says true ops.Le v u = refl
same-says true ops.Gt v u = refl
same-says true ops.Ge v u = refl
same-says false ops.Eq v u = refl
same-says false ops.Ne v u = unflipped-value u (cell_eq u v)
same-says false ops.Lt v u = unflipped-value u (cell_le v u)
same-says false ops.Le v u = sym (flipped-value u (cell_le u v))
same-says false ops.Gt v u = unflipped-value u (cell_le u v)
same-says false ops.Ge v u = sym (flipped-value u (cell_le v u))

same-width : (plain : Bool) (op : Op) (v : Cell) → range_width (is_one_range (said plain op)) ≡ test_width plain (compared op v)
same-width true ops.Eq v = refl
same-width true ops.Ne v = refl
same-width true ops.Lt v = refl
same-width true ops.Le v = refl
same-width true ops.Gt v = refl
same-width true ops.Ge v = refl
same-width false ops.Eq v = refl
same-width false ops.Ne v = refl
same-width false ops.Lt v = refl
same-width false ops.Le v = refl
same-width false ops.Gt v = refl
same-width false ops.Ge v = refl

same-places : (plain : Bool) (op : Op) (v : Cell) → places_of (ranged (said plain op) v) ≡ places_of (compared op v)
same-places true ops.Eq v = refl
same-places true ops.Ne v = refl
same-places true ops.Lt v = refl
same-places true ops.Le v = refl
same-places true ops.Gt v = refl
same-places true ops.Ge v = refl
same-places false ops.Eq v = refl
same-places false ops.Ne v = refl
same-places false ops.Lt v = refl
same-places false ops.Le v = refl
same-places false ops.Gt v = refl
same-places false ops.Ge v = refl

pub compared-spans : (column : Column) (plain : Bool) (op : Op) (v : Cell) (spans : List Span) (o : Op) (one : Bool) → o ≡ said plain op → one ≡ is_one_range o
    → AreSpans column (says_test one (ranged o v)) (range_width one) (places_of (ranged o v)) spans
    → AreSpans column (says_test plain (compared op v)) (test_width plain (compared op v)) (places_of (compared op v)) spans
compared-spans column plain op v spans o one is alone are =
    spans-with column (says_test (is_one_range (said plain op)) (ranged (said plain op) v)) (says_test plain (compared op v))
    (range_width (is_one_range (said plain op))) (test_width plain (compared op v)) (places_of (ranged (said plain op) v)) (places_of (compared op v)) spans
    (subst (λ (x : Op). AreSpans column (says_test (is_one_range x) (ranged x v)) (range_width (is_one_range x)) (places_of (ranged x v)) spans) is
    (subst (λ (b : Bool). AreSpans column (says_test b (ranged o v)) (range_width b) (places_of (ranged o v)) spans) alone are))
    (λ u i. same-says plain op v u) (let w = same-width plain op v in omega arith) (λ u h. subst (λ (places : List Cell). is_among places u ≡ true) (same-places plain op v) h)

-- ---- lists

sides-more : (xs : List Cell) (x : Cell) → sides (xs ++ x ∷ []) ≡ sides xs ++ test_ends (Eq x)
sides-more xs x = flat_map-append (λ v. v ∷ next_value v ∷ []) xs (x ∷ [])

list-says : (xs : List Cell) (x v : Cell) → (says_test false (OneOf xs) v && not (passes (Eq x) v)) ≡ says_test false (OneOf (xs ++ x ∷ [])) v
list-says xs x (Num n) = let e = list_any-append (cell_eq (Num n)) xs (x ∷ []) in grind (arith, e)
list-says xs x (Str s) = let e = list_any-append (cell_eq (Str s)) xs (x ∷ []) in grind (arith, e)
list-says xs x NullCell = refl

null-once : (a b : List Cell) (v : Cell) → is_among ((NullCell ∷ a) ++ (NullCell ∷ b)) v ≡ true → is_among (NullCell ∷ (a ++ b)) v ≡ true
null-once a b v h = let x = is_among-append a (NullCell ∷ b) v in let y = is_among-append a b v in grind (arith, x, y, h)

outside-more : (column : Column) (xs : List Cell) (i : ℕ) (x : Cell) (spans : List Span) (part : Option Span) → is_bad_domain column ≡ false
    → AreApart column (says_test false (OneOf xs)) i (NullCell ∷ sides xs) spans → AreSpans column (passes (Eq x)) 1 (places_of (Eq x)) (option_to_list part)
    → AreApart column (says_test false (OneOf (xs ++ x ∷ []))) (i + 1) (NullCell ∷ sides (xs ++ x ∷ [])) (without column part spans)
outside-more column xs i x spans part good apart one = record {
  are = subst (λ places. AreSpans column (says_test false (OneOf (xs ++ x ∷ []))) (i + 1) (NullCell ∷ places) (without column part spans)) (sym (sides-more xs x))
      (spans-with column (λ v. says_test false (OneOf xs) v && not (passes (Eq x) v)) (says_test false (OneOf (xs ++ x ∷ []))) (i + 1) (i + 1)
      ((NullCell ∷ sides xs) ++ places_of (Eq x)) (NullCell ∷ (sides xs ++ test_ends (Eq x))) (without column part spans) left.are
      (λ v _. list-says xs x v) (omega arith) (null-once (sides xs) (test_ends (Eq x))));
  once = left.once;
}
  where
    left : AreApart column (λ v. says_test false (OneOf xs) v && not (passes (Eq x) v)) (i + 1) ((NullCell ∷ sides xs) ++ places_of (Eq x)) (without column part spans)
    left = apart-without column (says_test false (OneOf xs)) (passes (Eq x)) i (NullCell ∷ sides xs) (places_of (Eq x)) spans part good (λ n. refl) (λ n. refl) apart one

take-item : (xs : List Cell) (i : ℕ) (x : Cell) → i < length xs → x ≡ slice_index_or xs i x → take i xs ++ x ∷ [] ≡ take (i + 1) xs
take-item xs i x l e = sym (take_more xs i x l ∙ ap (λ y. take i xs ++ y ∷ []) (sym e))

pub outside-step : (column : Column) (xs : List Cell) (i : ℕ) (x : Cell) (spans new : List Span) (part : Option Span) → is_bad_domain column ≡ false → i < length xs → x ≡ slice_index_or xs i x
    → new ≡ without column part spans → AreApart column (says_test false (OneOf (take i xs))) (i + 1) (NullCell ∷ sides (take i xs)) spans
    → AreSpans column (passes (Eq x)) 1 (places_of (Eq x)) (option_to_list part) → AreApart column (says_test false (OneOf (take (i + 1) xs))) (i + 1 + 1) (NullCell ∷ sides (take (i + 1) xs)) new
outside-step column xs i x spans new part good l e is apart one =
    subst (λ (ys : List Cell). AreApart column (says_test false (OneOf ys)) (i + 1 + 1) (NullCell ∷ sides ys) new) (take-item xs i x l e)
    (subst (AreApart column (says_test false (OneOf (take i xs ++ x ∷ []))) (i + 1 + 1) (NullCell ∷ sides (take i xs ++ x ∷ []))) (sym is) (outside-more column (take i xs) (i + 1) x spans part good apart one))
