-- What is told of an explanation.
use Rattle.std.specs.Prelude.{ℕ, ◌<◌, ◌^◌, List, length, flat_map, Result, Ok, Err}
use Rattle.sr_cell.specs.declared.fault.Fault.{Fault}
use Rattle.sr_cell.specs.declared.table.Table.{Table}
use Rattle.sr_script.specs.TraceText.{line_text}
use Rattle.sr_explain.specs.declared.explanation.Explanation.{Explanation}
use Rattle.sr_explain.specs.Telling.{explain_lines}
use Rattle.sr_handle.specs.declared.said.Said.{Said}
use Rattle.sr_handle.specs.declared.said.Said.TheVariants as said

-- an explanation has fewer than 2 ^ 32 victims
abbrev pub IsFew : Result Explanation Fault → Type 0
IsFew (Err fault) = Unit {0}
IsFew (Ok explanation) = length explanation.victims < 2 ^ 32

abbrev pub said_of_explained : Result Explanation Fault → Said
said_of_explained (Err fault) = said.Sql fault
said_of_explained (Ok explanation) = said.Explained explanation.version

-- its lines of that client, as the lines of a trace whose event has number 0
abbrev pub explained_text : List Table → ℕ → Result Explanation Fault → List ℕ
explained_text tables id explained = flat_map (line_text tables 0) (explain_lines id explained)
