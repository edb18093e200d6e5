-- What a join of the code stands for.
use Rattle.std.specs.Prelude.{map}
use Rattle.sr_grammar.specs.Seen.{cond_seen}
use Rattle.sr_query.specs.Bound.{output_of}
use Rattle.sr_semi.specs.declared.sides.LeftSide.{LeftSide}
use Rattle.sr_semi.specs.declared.sides.RightSide.{RightSide}
use Rattle.sr_semi.specs.declared.semi.Semi.{Semi}
use Rattle.sr_semi.specs.declared.sides.Sides as code
use Rattle.sr_semi.specs.declared.stage.Stage.{Stage}
use Rattle.sr_semi.specs.Sides.{Left, Right, Sides}

abbrev pub left_seen : LeftSide → Left
left_seen s = record { text = s.text; need = s.need; column = s.column }

abbrev pub right_seen : RightSide → Right
right_seen s = record { table = s.table; need = s.need; conjuncts = map cond_seen s.conjuncts; width = s.width }

abbrev pub sides_seen : code.Sides → Sides
sides_seen s = record { left = left_seen s.left; right = right_seen s.right; outputs = map output_of s.outputs }

-- the sides of a join, and which of their texts was named last
abbrev pub sides_in : Semi → Sides
sides_in semi = sides_seen semi.sides

abbrev pub stage_in : Semi → Stage
stage_in semi = semi.stage
