-- Lists of spans of a column.
use Rattle.std.proofs.Common.{◌≡◌, ℕ, ◌≤◌, true, List, [], ◌∷◌, ◌++◌, arith, ◌∙◌}
use Rattle.std.specs.Prelude.{Bool}
use Rattle.std.specs.List.{AllByRecursion}
use Rattle.sr_cell.specs.declared.cell.Cell.{Cell}
use Rattle.sr_cell.specs.declared.table.Column.{Column}
use Rattle.sr_cell.specs.Columns.{in_column}
use Rattle.sr_box.specs.declared.span.Span.{Span}
use Rattle.sr_union.specs.Grid.{is_among}
use Rattle.sr_union.proofs.Cuts.{is_among-append}
use Rattle.sr_condition.specs.Ranges.{EndsAt, AreSpans}

pub ends-append : (column : Column) (places : List Cell) (a b : List Span) → AllByRecursion (EndsAt column places) a → AllByRecursion (EndsAt column places) b → AllByRecursion (EndsAt column places) (a ++ b)
ends-append column places [] b h k = k
ends-append column places (s ∷ a) b h k = (h.0, ends-append column places a b h.1 k)

pub ends-more : (column : Column) (p q : List Cell) (a : List Span) → ((v : Cell) → is_among p v ≡ true → is_among q v ≡ true) → AllByRecursion (EndsAt column p) a → AllByRecursion (EndsAt column q) a
ends-more column p q [] m h = tt
ends-more column p q (s ∷ a) m h = ((λ v e. m v (h.0 v e)), ends-more column p q a m h.1)

pub in_left : (p q : List Cell) (v : Cell) → is_among p v ≡ true → is_among (p ++ q) v ≡ true
in_left p q v h = is_among-append p q v ∙ grind arith

pub in_right : (p q : List Cell) (v : Cell) → is_among q v ≡ true → is_among (p ++ q) v ≡ true
in_right p q v h = is_among-append p q v ∙ grind arith

pub spans-with : (column : Column) (a b : Cell → Bool) (m n : ℕ) (p q : List Cell) (spans : List Span) → AreSpans column a m p spans → ((v : Cell) → in_column column v ≡ true → a v ≡ b v) → m ≤ n
    → ((v : Cell) → is_among p v ≡ true → is_among q v ≡ true) → AreSpans column b n q spans
spans-with column a b m n p q spans are same more ends =
    record { fits = are.fits; points = λ v i. are.points v i ∙ same v i; few = let f = are.few in omega arith; ends = ends-more column p q spans ends are.ends }
