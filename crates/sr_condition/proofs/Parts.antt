-- The part of a column inside the bounds of a test.
use Rattle.std.proofs.Common.{◌≡◌, ℕ, true, false, List, [], ◌∷◌, refl, sym, arith, ◌∙◌, cond}
use Rattle.std.specs.Prelude.{ℤ, int_le, int_lt, Bool, not, ◌&&◌, Option, Some, None, option_to_list}
use Rattle.std.specs.List.{list_all}
use Rattle.std.specs.Int.{int_max, int_min}
use Rattle.std.proofs.lemmas.Int.{ints}
use Rattle.sr_cell.specs.declared.cell.Cell.{Cell}
use Rattle.sr_cell.specs.declared.cell.Cell.TheVariants.{Num, Str, Null as NullCell}
use Rattle.sr_cell.specs.declared.table.Kind.{Kind}
use Rattle.sr_cell.specs.declared.table.Kind.TheVariants.{Num as Numbers, Str as Texts}
use Rattle.sr_cell.specs.declared.table.Column.{Column}
use Rattle.sr_cell.specs.Columns.{in_kind, in_column}
use Rattle.sr_box.specs.declared.span.Span.{Span}
use Rattle.sr_box.specs.declared.span.Span.TheVariants.{Full, Nums, Strs, Null}
use Rattle.sr_box.specs.Spans.{in_span, span_fits, is_below, is_whole}
use Rattle.sr_box.specs.Corners.{cuts_of}
use Rattle.sr_box.specs.Cut.{nums, strs, in_maybe}
use Rattle.sr_box.proofs.Fits.{maybe_fits}
use Rattle.sr_box.proofs.Parts.{meet-is}
use Rattle.sr_box.proofs.Order.{is_below-between}
use Rattle.sr_union.specs.Grid.{is_among, has_cut}
use Rattle.sr_union.proofs.Cuts.{maybe_cut, meet-cut, cut-is}
use Rattle.sr_union.proofs.SpanCuts.{no_cut-full}
use Rattle.sr_condition.specs.Ranges.{is_range, IsRange, number_part, text_part, part_of, AreSpans}

-- a part, or none, as spans
pub maybe-spans : (column : Column) (m : Option Span) (values : Cell → Bool) (places : List Cell) → maybe_fits column.kind column.lo column.hi column.nullable m ≡ true
    → ((v : Cell) → in_column column v ≡ true → in_maybe m v ≡ values v) → ((v : Cell) → maybe_cut column.kind column.lo column.hi column.nullable m v ≡ true → is_among places v ≡ true)
    → AreSpans column values 1 places (option_to_list m)
maybe-spans column None values places f h e = record { fits = refl; points = h; few = omega arith; ends = tt }
maybe-spans column (Some s) values places f h e =
    record { fits = grind arith; points = λ v p. let x = h v p in grind (arith, x); few = omega arith; ends = (e, tt) }

-- the bounds of the domain have no cut but the place before Null, which others have too
no_cut-domain : (low high : ℤ) (v : Cell) → has_cut Numbers low high false (Nums low high) v ≡ false
no_cut-domain low high v = let a : int_lt low low ≡ false = grind (arith, ints) in let b : int_lt high high ≡ false = grind (arith, ints) in rw (a, b) refl

domain-cut : (low high : ℤ) (n : Bool) (lo hi : ℤ) (v : Cell) → has_cut Numbers low high n (Nums low high) v ≡ true → has_cut Numbers low high n (Nums lo hi) v ≡ true
domain-cut low high n lo hi v h =
    let a = cut-is Numbers low high n (Nums low high) v in let b = cut-is Numbers low high n (Nums lo hi) v in let c = no_cut-domain low high v in grind (arith, a, b, c, h)

number_part-fits : (k : Kind) (low high : ℤ) (n : Bool) (lo hi : ℤ) → is_range k (Nums lo hi) ≡ true → maybe_fits k low high n (number_part n low high lo hi) ≡ true
number_part-fits Texts low high n lo hi r = absurd (grind arith)
number_part-fits Numbers low high n lo hi r = go (not n && (int_le lo low && int_le high hi)) refl
  where
    some : (d : Bool) → (not n && (int_le lo low && int_le high hi)) ≡ false → int_le (int_max lo low) (int_min hi high) ≡ d
        → maybe_fits Numbers low high n (cond d (Some (Nums (int_max lo low) (int_min hi high))) None) ≡ true
    some true e f = grind (arith, ints)
    some false e f = refl

    go : (b : Bool) → (not n && (int_le lo low && int_le high hi)) ≡ b → maybe_fits Numbers low high n (cond b (Some Full) (nums (int_max lo low) (int_min hi high))) ≡ true
    go true e = refl
    go false e = some (int_le (int_max lo low) (int_min hi high)) e refl

number_part-is : (k : Kind) (low high : ℤ) (n : Bool) (lo hi : ℤ) (v : Cell) → is_range k (Nums lo hi) ≡ true → in_kind k low high n v ≡ true → in_maybe (number_part n low high lo hi) v ≡ in_span (Nums lo hi) v
number_part-is Texts low high n lo hi v r p = absurd (grind arith)
number_part-is Numbers low high n lo hi (Str s) r p = absurd (grind arith)
number_part-is Numbers low high true lo hi NullCell r p = meet-is (Nums lo hi) (Nums low high) NullCell
number_part-is Numbers low high false lo hi NullCell r p = absurd (cc)
number_part-is Numbers low high n lo hi (Num m) r p = go (not n && (int_le lo low && int_le high hi)) refl
  where
    go : (b : Bool) → (not n && (int_le lo low && int_le high hi)) ≡ b → in_maybe (cond b (Some Full) (nums (int_max lo low) (int_min hi high))) (Num m) ≡ (int_le lo m && int_le m hi)
    go true e = grind (arith, ints)
    go false e = meet-is (Nums lo hi) (Nums low high) (Num m) ∙ grind arith

number_part-cut : (k : Kind) (low high : ℤ) (n : Bool) (lo hi : ℤ) (v : Cell) → is_range k (Nums lo hi) ≡ true → maybe_cut k low high n (number_part n low high lo hi) v ≡ true → has_cut k low high n (Nums lo hi) v ≡ true
number_part-cut Texts low high n lo hi v r h = absurd (grind arith)
number_part-cut Numbers low high n lo hi v r h = go (not n && (int_le lo low && int_le high hi)) h
  where
    go : (b : Bool) → maybe_cut Numbers low high n (cond b (Some Full) (nums (int_max lo low) (int_min hi high))) v ≡ true → has_cut Numbers low high n (Nums lo hi) v ≡ true
    go true e = absurd (grind arith)
    go false e = let x = meet-cut Numbers low high n (Nums lo hi) (Nums low high) v e in let y = domain-cut low high n lo hi v in grind (arith, x, y)

text_part-fits : (k : Kind) (low high : ℤ) (n : Bool) (lo : List ℕ) (hi : Option (List ℕ)) → is_range k (Strs lo hi) ≡ true → maybe_fits k low high n (text_part n lo hi) ≡ true
text_part-fits Numbers low high n lo hi r = absurd (grind arith)
text_part-fits Texts low high n lo hi r = go (not n && is_whole lo hi) refl
  where
    some : (d : Bool) → (not n && is_whole lo hi) ≡ false → is_below lo hi ≡ d → maybe_fits Texts low high n (cond d (Some (Strs lo hi)) None) ≡ true
    some true e f = grind arith
    some false e f = refl

    go : (b : Bool) → (not n && is_whole lo hi) ≡ b → maybe_fits Texts low high n (cond b (Some Full) (strs lo hi)) ≡ true
    go true e = refl
    go false e = some (is_below lo hi) e refl

whole-has : (lo : List ℕ) (hi : Option (List ℕ)) (s : List ℕ) → is_whole lo hi ≡ true → in_span (Strs lo hi) (Str s) ≡ true
whole-has [] None s w = refl
whole-has [] (Some hi) s w = absurd (grind arith)
whole-has (b ∷ lo) hi s w = absurd (grind arith)

some-text : (lo : List ℕ) (hi : Option (List ℕ)) (v : Cell) → in_span (Strs lo hi) v ≡ in_maybe (strs lo hi) v
some-text lo hi (Num m) = go (is_below lo hi)
  where
    go : (d : Bool) → false ≡ in_maybe (cond d (Some (Strs lo hi)) None) (Num m)
    go true = refl
    go false = refl
some-text lo hi NullCell = go (is_below lo hi)
  where
    go : (d : Bool) → false ≡ in_maybe (cond d (Some (Strs lo hi)) None) NullCell
    go true = refl
    go false = refl
some-text lo hi (Str s) = go (is_below lo hi) refl
  where
    go : (d : Bool) → is_below lo hi ≡ d → in_span (Strs lo hi) (Str s) ≡ in_maybe (cond d (Some (Strs lo hi)) None) (Str s)
    go true f = refl
    go false f = let b = is_below-between lo s hi in grind (arith, b)

text_part-is : (k : Kind) (low high : ℤ) (n : Bool) (lo : List ℕ) (hi : Option (List ℕ)) (v : Cell) → is_range k (Strs lo hi) ≡ true → in_kind k low high n v ≡ true → in_maybe (text_part n lo hi) v ≡ in_span (Strs lo hi) v
text_part-is Numbers low high n lo hi v r p = absurd (grind arith)
text_part-is Texts low high n lo hi (Num m) r p = absurd (grind arith)
text_part-is Texts low high true lo hi NullCell r p = sym (some-text lo hi NullCell)
text_part-is Texts low high false lo hi NullCell r p = absurd (cc)
text_part-is Texts low high n lo hi (Str s) r p = go (not n && is_whole lo hi) (λ e. whole-has lo hi s (grind arith))
  where
    go : (b : Bool) → (b ≡ true → in_span (Strs lo hi) (Str s) ≡ true) → in_maybe (cond b (Some Full) (strs lo hi)) (Str s) ≡ in_span (Strs lo hi) (Str s)
    go true e = sym (e refl)
    go false e = sym (some-text lo hi (Str s))

text_part-cut : (k : Kind) (low high : ℤ) (n : Bool) (lo : List ℕ) (hi : Option (List ℕ)) (v : Cell) → maybe_cut k low high n (text_part n lo hi) v ≡ true → has_cut k low high n (Strs lo hi) v ≡ true
text_part-cut k low high n lo hi v h = go (not n && is_whole lo hi) (is_below lo hi) h
  where
    go : (b d : Bool) → maybe_cut k low high n (cond b (Some Full) (cond d (Some (Strs lo hi)) None)) v ≡ true → has_cut k low high n (Strs lo hi) v ≡ true
    go true d e = let none = no_cut-full k low high n v in absurd (grind (arith, none))
    go false true e = e
    go false false e = absurd (grind arith)

-- the part of the column inside the bounds has just their values
pub part-spans : (column : Column) (values : Cell → Bool) (places : List Cell) (s : Span) → IsRange column values places s → AreSpans column values 1 places (option_to_list (part_of column s))
part-spans column values places Full r = let k = r.kind in absurd (grind arith)
part-spans column values places Null r = let k = r.kind in absurd (grind arith)
part-spans column values places (Nums lo hi) r = maybe-spans column (number_part column.nullable column.lo column.hi lo hi) values places
    (number_part-fits column.kind column.lo column.hi column.nullable lo hi r.kind)
    (λ v p. number_part-is column.kind column.lo column.hi column.nullable lo hi v r.kind p ∙ r.points v p)
    (λ v h. r.ends v (number_part-cut column.kind column.lo column.hi column.nullable lo hi v r.kind h))
part-spans column values places (Strs lo hi) r = maybe-spans column (text_part column.nullable lo hi) values places
    (text_part-fits column.kind column.lo column.hi column.nullable lo hi r.kind)
    (λ v p. text_part-is column.kind column.lo column.hi column.nullable lo hi v r.kind p ∙ r.points v p)
    (λ v h. r.ends v (text_part-cut column.kind column.lo column.hi column.nullable lo hi v h))

pub part-fits : (column : Column) (s : Span) → is_range column.kind s ≡ true → list_all (span_fits column) (option_to_list (part_of column s)) ≡ true
part-fits column s r =
    (part-spans column (in_span s) (cuts_of column.kind column.lo column.hi column.nullable s) s (record { kind = r; points = λ v i. refl; ends = λ v h. h })).fits

-- bounds that are not around the domain
pub inner-part : (n : Bool) (low high lo hi a b : ℤ) (all : Bool) (r : Option Span) → all ≡ (not n && (int_le lo low && int_le high hi)) → all ≡ false → a ≡ int_max lo low → b ≡ int_min hi high → r ≡ nums a b
    → r ≡ number_part n low high lo hi
inner-part n low high lo hi a b all r is outside first last part =
    let e : (not n && (int_le lo low && int_le high hi)) ≡ false = sym is ∙ outside in part ∙ rw (first, last, e) refl
