-- The texts that begin with a prefix.
use Rattle.std.specs.Prelude.{ℕ, ◌+◌, ◌==◌, Bool, true, false, ◌&&◌, List, [], ◌∷◌, ◌≡◌, Option, Some, None, if◌then◌else◌, IsTrue}
use Rattle.sr_cell.specs.declared.cell.Cell.TheVariants.{Str}
use Rattle.sr_cell.specs.declared.table.Column.{Column}
use Rattle.sr_cell.specs.declared.table.Kind.TheVariants.{Str as Texts}
use Rattle.sr_cell.specs.Columns.{are_bytes}
use Rattle.sr_box.specs.declared.span.Span.TheVariants.{Strs}
use Rattle.sr_box.specs.Spans.{in_span, span_fits}

-- the text begins with the prefix
abbrev pub begins : List ℕ → List ℕ → Bool
begins [] s = true
begins (a ∷ prefix) [] = false
begins (a ∷ prefix) (b ∷ s) = a == b && begins prefix s

abbrev pub behind_byte : ℕ → Option (List ℕ) → Option (List ℕ)
behind_byte b (Some next) = Some (b ∷ next)
behind_byte b None = if b == 255 then None else Some ((b + 1) ∷ [])

-- the least text above all that begin with the prefix: without its last bytes 255, and with one added to the last byte left
abbrev pub next_prefix : List ℕ → Option (List ℕ)
next_prefix [] = None
next_prefix (b ∷ s) = behind_byte b (next_prefix s)

-- the texts that begin with a prefix are those from it to below the next one
abbrev pub PrefixesAreSpans : Type 0
PrefixesAreSpans = (prefix s : List ℕ) → IsTrue (are_bytes prefix) → IsTrue (are_bytes s) → in_span (Strs prefix (next_prefix prefix)) (Str s) ≡ begins prefix s

-- that span fits each column of texts, unless the prefix is empty
abbrev pub PrefixesFit : Type 0
PrefixesFit = (column : Column) (b : ℕ) (prefix : List ℕ) → column.kind ≡ Texts → IsTrue (are_bytes (b ∷ prefix))
    → IsTrue (span_fits column (Strs (b ∷ prefix) (next_prefix (b ∷ prefix))))
