-- The columns that a rect constrains.
use Rattle.std.proofs.Common.{◌≡◌, ℕ, ◌<◌, ◌≤◌, ◌+◌, List, [], ◌∷◌, ◌++◌, length, drop, get_or, min, codes, inl, inr, refl, add-one, drop-cons, arith}
use Rattle.std.proofs.Math.ListN.{drop_of_length-le}
use Rattle.std.proofs.lemmas.Bool.{cases_lt}
use Rattle.sr_cell.specs.declared.table.Column.{Column}
use Rattle.sr_box.specs.declared.span.Span.{Span}
use Rattle.sr_box.specs.declared.span.Span.TheVariants.{Full, Nums, Strs, Null}
use Rattle.sr_lines.specs.Texts.{joined}
use Rattle.sr_script.specs.TraceText.{span_text, spans_text}

pub span_text_one : (c : Column) (s : Span) → (s ≡ Full → ⊥) → span_text c s ≡ joined (codes ", ") (span_text c s) ∷ []
span_text_one c Full other = absurd (other refl)
span_text_one c (Nums lo hi) other = refl
span_text_one c (Strs lo hi) other = refl
span_text_one c Null other = refl

pub spans_text_nil : (columns : List Column) → spans_text columns [] ≡ []
spans_text_nil [] = refl
spans_text_nil (c ∷ cs) = refl

pub spans_text_end : (columns : List Column) (spans : List Span) (i : ℕ) → min (length columns) (length spans) ≤ i → spans_text (drop i columns) (drop i spans) ≡ []
spans_text_end columns spans i end =
    elim (cases_lt i (length columns)) [
      | inl inside ↦ let none : drop i spans ≡ [] = drop_of_length-le spans (omega arith) in rw none (spans_text_nil (drop i columns))
      | inr past ↦ let none : drop i columns ≡ [] = drop_of_length-le columns past in rw none refl
    ]

-- a column with its span, and the columns behind it
pub spans_text_step : (columns : List Column) (spans : List Span) (i : ℕ) (c : Column) (s : Span) →
    i < min (length columns) (length spans) → c ≡ get_or columns i c → s ≡ get_or spans i s →
    spans_text (drop i columns) (drop i spans) ≡ span_text c s ++ spans_text (drop (i + 1) columns) (drop (i + 1) spans)
spans_text_step columns spans i c s inside is-c is-s =
    let first : i < length columns = omega arith in
    let second : i < length spans = omega arith in
    rw (drop-cons columns i c first, drop-cons spans i s second, add-one, ← is-c, ← is-s) refl
