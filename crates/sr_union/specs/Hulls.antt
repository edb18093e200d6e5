-- Bounds of rects in the first columns.
use Rattle.std.specs.Prelude.{pos, ◌-ℤ◌, ◌^◌, int_le, Bool, ◌&&◌}
use Rattle.sr_box.specs.declared.span.Span.{Span}
use Rattle.sr_box.specs.declared.span.Span.TheVariants.{Full, Nums, Strs, Null}
use Rattle.sr_box.specs.Points.{Rect}
use Rattle.sr_union.specs.declared.hull.Bound.{Bound}
use Rattle.sr_union.specs.declared.hull.Hull.{Hull}
use Rattle.sr_union.specs.Free.{span_at}

-- the bound has all numbers of the program
abbrev pub has_all : Bound → Bool
has_all b = int_le b.lo (pos 0 -ℤ pos (2 ^ 63)) && int_le (pos (2 ^ 63) -ℤ pos 1) b.hi

-- the numbers of the span lie within the bound, which has all where the span is not of numbers
abbrev pub in_bound : Bound → Span → Bool
in_bound b Full = has_all b
in_bound b (Nums lo hi) = int_le b.lo lo && int_le hi b.hi
in_bound b (Strs lo hi) = has_all b
in_bound b Null = has_all b

-- the first spans of the rect lie within the hull
abbrev pub in_hull : Hull → Rect → Bool
in_hull h r = in_bound h.first (span_at 0 r) && (in_bound h.second (span_at 1 r) && in_bound h.third (span_at 2 r))
