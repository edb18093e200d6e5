-- The lines that tell how a query would be answered.
use Rattle.std.specs.Prelude.{ℕ, Bool, true, false, ◌+◌, ◌≡◌, List, [], ◌∷◌, ◌++◌, map, flat_map, Some, Result, Ok, Err}
use Rattle.sr_cell.specs.declared.fault.Fault.{Fault}
use Rattle.sr_box.specs.Points.{Rect}
use Rattle.sr_model.specs.Queries.{Query}
use Rattle.sr_script.specs.declared.line.TraceLine.{TraceLine}
use Rattle.sr_script.specs.declared.line.TraceLine.TheVariants as line
use Rattle.sr_session.specs.Sessions.{tables_of}
use Rattle.sr_session.specs.Clients.{Pair}
use Rattle.sr_session.specs.Scenes.{Scene, pair_at, basis_of}
use Rattle.sr_explain.specs.declared.explanation.ProbeView.{ProbeView}
use Rattle.sr_explain.specs.declared.explanation.ExplainPart.{ExplainPart}
use Rattle.sr_explain.specs.declared.explanation.Victim.{Victim}
use Rattle.sr_explain.specs.declared.explanation.Explanation.{Explanation}
use Rattle.sr_explain.specs.Explained.{count_in, ExplainStep}

-- that all would be dropped first
abbrev pub pieces_line : Bool → List TraceLine
pieces_line true = line.Pieces ∷ []
pieces_line false = []

abbrev pub probe_line : ℕ → ProbeView → TraceLine
probe_line table probe = line.Probe table probe.attrs probe.stamp probe.rects

-- a line, where something would be asked
abbrev pub rest_line : ℕ → ℕ → List Rect → List TraceLine
rest_line table attrs [] = []
rest_line table attrs (r ∷ rects) = line.Rest table attrs (r ∷ rects) ∷ []

abbrev pub part_lines : ExplainPart → List TraceLine
part_lines part = line.Need part.table part.need ∷ (map (probe_line part.table) part.probes ++ rest_line part.table part.attrs part.rest)

-- i is the place of the first
abbrev pub victim_lines : ℕ → List Victim → List TraceLine
victim_lines i [] = []
victim_lines i (v ∷ victims) = line.Victim i v.table v.attrs v.stamp v.rows ∷ victim_lines (i + 1) victims

-- the lines of details: the parts one by one, and the victims, counted from 1
abbrev pub detail_lines : Explanation → List TraceLine
detail_lines e = pieces_line e.pieces ++ (flat_map part_lines e.parts ++ victim_lines 1 e.victims)

-- all lines of client n: details, and the version; or why its text is refused
abbrev pub explain_lines : ℕ → Result Explanation Fault → List TraceLine
explain_lines n (Ok e) = detail_lines e ++ line.Explained n e.version ∷ []
explain_lines n (Err fault) = line.ExplainSql n fault ∷ []

-- The lines of explaining a text to client n of a scene; of the text there is what it says on the scene's schema. Rows are those of
-- the server's tables at the client's version.
abbrev pub ExplainsTo : Scene → ℕ → Result Query Fault → List TraceLine → Type 0
ExplainsTo s n text lines =
    (pair : Pair) × (pair_at s n ≡ Some pair)
    × (result : Result Explanation Fault)
    × ExplainStep (basis_of s) (count_in (tables_of s.database pair.client.version) pair.client.marks pair.client.queries) pair.client text result
    × (lines ≡ explain_lines n result)
