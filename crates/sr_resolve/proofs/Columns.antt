-- The columns of a part, one more.
use Rattle.std.proofs.Common.{◌≡◌, ℕ, ◌<◌, ◌+◌, pos, false, List, [], ◌∷◌, ◌++◌, map, drop, length, add-one, append_assoc, drop-cons}
use Rattle.std.proofs.lemmas.List.{map-append}
use Rattle.sr_cell.specs.declared.table.Column.{Column}
use Rattle.sr_cell.specs.declared.table.Kind.TheVariants.{Str}
use Rattle.sr_model.specs.Queries as model
use Rattle.sr_query.specs.declared.condition.Output.{Output}
use Rattle.sr_query.specs.Binding.{columns_of_part}
use Rattle.sr_query.specs.Bound.{output_of}

columns_more : (part c : ℕ) (columns : List Column) → c < length columns
    → columns_of_part part c (drop c columns) ≡ record { part = part; column = c } ∷ columns_of_part part (c + 1) (drop (c + 1) columns)
columns_more part c columns h = rw (drop-cons columns c (record { name = []; kind = Str; lo = pos 0; hi = pos 0; nullable = false })) (rw add-one)

pub column_pushed : (part c : ℕ) (columns : List Column) (before after : List Output) (all : List model.Output) → c < length columns
    → map output_of before ++ columns_of_part part c (drop c columns) ≡ all → after ≡ before ++ record { part = part; column = c } ∷ []
    → map output_of after ++ columns_of_part part (c + 1) (drop (c + 1) columns) ≡ all
column_pushed part c columns before after all h so pushed =
    let more = columns_more part c columns h in
    rw pushed (rw map-append (rw append_assoc (rw more at so)))
