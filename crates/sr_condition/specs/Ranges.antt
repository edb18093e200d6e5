-- The spans of a column with the values of which a test is true, or of which it is false.
use Rattle.std.specs.Prelude.{ℕ, ℤ, ◌+◌, ◌≤◌, ◌≡◌, int_le, ◌&&◌, not, Bool, true, false, List, [], ◌∷◌, ◌++◌, length, flat_map, option_to_list, Option, Some, None, if◌then◌else◌}
use Rattle.std.specs.Int.{int_max, int_min}
use Rattle.std.specs.List.{list_all, list_any, AllByRecursion}
use Rattle.sr_cell.specs.declared.cell.Cell.{Cell}
use Rattle.sr_cell.specs.declared.table.Kind.{Kind}
use Rattle.sr_cell.specs.declared.table.Kind.TheVariants.{Num as Numbers, Str as Texts}
use Rattle.sr_cell.specs.declared.table.Column.{Column}
use Rattle.sr_cell.specs.Cells.{is_null}
use Rattle.sr_cell.specs.Columns.{in_column, are_bytes}
use Rattle.sr_box.specs.declared.span.Span.{Span}
use Rattle.sr_box.specs.declared.span.Span.TheVariants.{Full, Nums, Strs, Null}
use Rattle.sr_box.specs.Spans.{in_span, span_fits, end_bytes, is_whole}
use Rattle.sr_box.specs.Cut.{nums, strs, under, over, values}
use Rattle.sr_union.specs.Grid.{has_cut, is_among}
use Rattle.sr_model.specs.Conditions.{Test, is_so, tested, Eq, Lt, Le, Gt, Ge}
use Rattle.sr_grammar.specs.declared.statement.Op.{Op}
use Rattle.sr_grammar.specs.declared.statement.Op.TheVariants as ops

-- what is true where the comparison is false; both are unknown of Null
abbrev pub contrary : Op → Op
contrary ops.Eq = ops.Ne
contrary ops.Ne = ops.Eq
contrary ops.Lt = ops.Ge
contrary ops.Le = ops.Gt
contrary ops.Gt = ops.Le
contrary ops.Ge = ops.Lt

-- a test is true of the value, or it is false of it
abbrev pub says_test : Bool → Test → Cell → Bool
says_test plain t v = is_so plain (tested t v)

-- how many spans have the values of one, or the others
abbrev pub range_width : Bool → ℕ
range_width plain = if plain then 1 else 2

-- the comparison that is said
abbrev pub said : Bool → Op → Op
said plain op = if plain then op else contrary op

-- the comparison whose values are those of one span: of `<>`, those that it leaves out
abbrev pub ranged : Op → Cell → Test
ranged ops.Eq v = Eq v
ranged ops.Ne v = Eq v
ranged ops.Lt v = Lt v
ranged ops.Le v = Le v
ranged ops.Gt v = Gt v
ranged ops.Ge v = Ge v

-- its values are those of that span
abbrev pub is_one_range : Op → Bool
is_one_range ops.Eq = true
is_one_range ops.Ne = false
is_one_range ops.Lt = true
is_one_range ops.Le = true
is_one_range ops.Gt = true
is_one_range ops.Ge = true

-- the span begins and ends only at these values
abbrev pub EndsAt : Column → List Cell → Span → Type 0
EndsAt column places s = (v : Cell) → has_cut column.kind column.lo column.hi column.nullable s v ≡ true → is_among places v ≡ true

abbrev pub is_range : Kind → Span → Bool
is_range k Full = false
is_range k Null = false
is_range Numbers (Nums lo hi) = true
is_range Numbers (Strs lo hi) = false
is_range Texts (Nums lo hi) = false
is_range Texts (Strs lo hi) = are_bytes lo && end_bytes hi

-- Bounds of just these values of the column, which may reach out of it or hold none.
pub record IsRange (column : Column) (values : Cell → Bool) (places : List Cell) (s : Span) : Type 0 where
  pub kind : is_range column.kind s ≡ true
  pub points : (v : Cell) → in_column column v ≡ true → in_span s v ≡ values v
  pub ends : EndsAt column places s

-- the part of the bounds inside the column; it is Full where these are all its values, Null among them
abbrev pub number_part : Bool → ℤ → ℤ → ℤ → ℤ → Option Span
number_part nullable low high lo hi = if not nullable && (int_le lo low && int_le high hi) then Some Full else nums (int_max lo low) (int_min hi high)

abbrev pub text_part : Bool → List ℕ → Option (List ℕ) → Option Span
text_part nullable lo hi = if not nullable && is_whole lo hi then Some Full else strs lo hi

abbrev pub part_of : Column → Span → Option Span
part_of column Full = Some Full
part_of column (Nums lo hi) = number_part column.nullable column.lo column.hi lo hi
part_of column (Strs lo hi) = text_part column.nullable lo hi
part_of column Null = Some Null

-- all values but Null
abbrev pub all_values : Column → Span
all_values column = if column.nullable then values column.kind column.lo column.hi else Full

-- what is left of one span, and of several, without a part of the column; Null is in neither
abbrev pub beside : Column → Span → Span → List Span
beside column t s = option_to_list (under column.lo s t) ++ option_to_list (over column.hi s t)

abbrev pub without : Column → Option Span → List Span → List Span
without column None spans = spans
without column (Some t) spans = flat_map (beside column t) spans

abbrev pub in_spans : List Span → Cell → Bool
in_spans spans v = list_any (λ s. in_span s v) spans

-- the value is not Null, and lies in none of the spans
abbrev pub is_left : List Span → Cell → Bool
is_left spans v = not (is_null v) && not (in_spans spans v)

-- in how many of the spans the value lies
abbrev pub times_in : List Span → Cell → ℕ
times_in [] v = 0
times_in (s ∷ spans) v = (if in_span s v then 1 else 0) + times_in spans v

-- Spans of the column with just these values, at most so many, that begin and end only at these places.
pub record AreSpans (column : Column) (values : Cell → Bool) (most : ℕ) (places : List Cell) (spans : List Span) : Type 0 where
  pub fits : list_all (span_fits column) spans ≡ true
  pub points : (v : Cell) → in_column column v ≡ true → in_spans spans v ≡ values v
  pub few : length spans ≤ most
  pub ends : AllByRecursion (EndsAt column places) spans

-- and each value lies in one of them alone
pub record AreApart (column : Column) (values : Cell → Bool) (most : ℕ) (places : List Cell) (spans : List Span) : Type 0 where
  pub are : AreSpans column values most places spans
  pub once : (v : Cell) → in_column column v ≡ true → times_in spans v ≤ 1
