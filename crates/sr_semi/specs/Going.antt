-- What is run for a join, answer by answer.
use Rattle.std.specs.Prelude.{ℕ, ◌==◌, ◌&&◌, Bool, true, false, nat_le, List, [], ◌∷◌, length, map, flat_map, Option, Some, None, Result, Ok, Err, if◌then◌else◌}
use Rattle.sr_cell.specs.declared.cell.Cell.{Cell}
use Rattle.sr_cell.specs.declared.fault.Fault.{Fault}
use Rattle.sr_cell.specs.Cells.{Row, cell_at}
use Rattle.sr_grammar.specs.Says.{most_levels}
use Rattle.sr_grammar.specs.Tokens.{tokens_of}
use Rattle.sr_grammar.specs.Trees.{Statement, Tree, statement_of}
use Rattle.sr_grammar_laws.specs.Readers.{whole}
use Rattle.sr_grammar_laws.specs.Reading.{Reading, Got, Fails}
use Rattle.sr_model.specs.Queries.{Output}
use Rattle.sr_region.specs.Regions.{rank}
use Rattle.sr_semi.specs.declared.stage.Stage.{Stage}
use Rattle.sr_semi.specs.declared.stage.Stage.TheVariants.{Left, Right, LeftAgain, Over}
use Rattle.sr_semi.specs.declared.stage.Next.{Next}
use Rattle.sr_semi.specs.declared.stage.Next.TheVariants.{Run, Joined, Plain}
use Rattle.sr_semi.specs.declared.stage.Step.{Step}
use Rattle.sr_semi.specs.Sides.{Sides, left_place, right_place, right_text}
use Rattle.sr_semi.specs.Keys.{values_at, at_most, most_keys, all_have, with_key}

-- ---- whether a text can be read

abbrev pub is_statement : Result Statement Fault → Bool
is_statement (Ok s) = true
is_statement (Err fault) = false

abbrev pub is_got : Reading Tree → Bool
is_got (Got tree rest) = is_statement (statement_of tree)
is_got (Fails deep rest) = false

-- the text is not too long, and says a statement
abbrev pub is_read : List ℕ → Bool
is_read text = nat_le (length text) 65536 && is_got (whole most_levels (tokens_of text))

-- ---- rows

-- an output, of a row of each side
abbrev pub output_in : Sides → Row → Row → Output → Cell
output_in s l r o = if o.part == 0 then cell_at l (rank s.left.need o.column) else cell_at r (rank s.right.need o.column)

-- what the rows of the right side with the left row's key make of it
abbrev pub joined_to : Sides → List Row → Row → List Row
joined_to s rights l =
    map (λ r. map (output_in s l r) s.outputs) (with_key (right_place s) rights (cell_at l (left_place s)))

-- all rows that are joined, by the order of the left side
abbrev pub joined : Sides → List Row → List Row → List Row
joined s lefts rights = flat_map (joined_to s rights) lefts

-- ---- answers

abbrev pub ends_with : Next → Step
ends_with next = record { next = next; stage = Over }

-- the right text is run, if it can be read
abbrev pub right_if_read : Sides → ℕ → List Row → List Cell → Step
right_if_read s version lefts keys =
    if is_read (right_text s.right keys) then record { next = Run (right_text s.right keys); stage = Right version keys lefts } else ends_with Plain

-- Behind the first left text: no key, no row; too many keys, and the join is run as it is.
abbrev pub behind_left : Sides → ℕ → List Row → Option (List Cell) → Step
behind_left s version lefts None = ends_with Plain
behind_left s version lefts (Some []) = ends_with (Joined version 0 [])
behind_left s version lefts (Some (k ∷ keys)) = right_if_read s version lefts (k ∷ keys)

-- the rows of both sides, at one version
abbrev pub joins : Sides → ℕ → List Cell → List Row → List Row → Step
joins s version keys lefts rights = ends_with (Joined version (length keys) (joined s lefts rights))

-- Behind the right text: both sides are of one version, or the left text is run again. Behind that: they are, and ask for no other key.
abbrev pub step_of : Sides → Stage → ℕ → List Row → Step
step_of s Left version rows = behind_left s version rows (at_most (most_keys s.right.width) (values_at (left_place s) rows))
step_of s (Right first keys lefts) version rows =
    if version == first then joins s version keys lefts rows else record { next = Run s.left.text; stage = LeftAgain version keys rows }
step_of s (LeftAgain second keys rights) version rows =
    if version == second && all_have (left_place s) keys rows then joins s version keys rows rights else ends_with Plain
step_of s Over version rows = ends_with Plain
