-- What a call of the code has read.
use Rattle.std.specs.Prelude.{◌≡◌, List, ℕ, Result, Ok, Err}
use Rattle.sr_cell.specs.declared.cell.Cell.{Cell}
use Rattle.sr_cell.specs.declared.cell.Cell.TheVariants.{Num, Str, Null as NullCell}
use Rattle.sr_box.specs.declared.span.Span.{Span}
use Rattle.sr_box.specs.declared.span.Span.TheVariants as spans
use Rattle.std.specs.Prelude.{Some, None}
use Rattle.sr_bytes.specs.declared.cursor.BadField.{BadField}
use Rattle.sr_bytes.specs.declared.views.CellView.{CellView}
use Rattle.sr_bytes.specs.declared.views.CellView.TheVariants as cells
use Rattle.sr_bytes.specs.declared.views.SpanView.{SpanView}
use Rattle.sr_bytes.specs.declared.views.SpanView.TheVariants as views
use Rattle.sr_bytes.specs.Reading.{Reading, Got, Bad}

abbrev pub cell_of : CellView → Cell
cell_of (cells.Num n) = Num n
cell_of (cells.Str text) = Str text.now
cell_of cells.Null = NullCell

abbrev pub span_of : SpanView → Span
span_of views.Full = spans.Full
span_of (views.Nums lo hi) = spans.Nums lo hi
span_of (views.Strs lo (Some hi)) = spans.Strs lo.now (Some hi.now)
span_of (views.Strs lo None) = spans.Strs lo.now None
span_of views.Null = spans.Null

-- the cursor stands at the rest: behind what was read, or before what is at fault
abbrev pub Reads : {X Y : Type 0} → (X → Y) → Result X BadField → List ℕ → Reading Y → Type 0
Reads view (Ok x) rest reading = reading ≡ Got (view x) rest
Reads view (Err bad) rest reading = reading ≡ Bad rest
