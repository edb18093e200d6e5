-- An index of the rects of a list.
use Rattle.std.specs.Prelude.{◌≡◌, ℕ, ◌+◌, int_le, Bool, true, false, ◌&&◌, nat_lt, List, [], ◌∷◌, ◌++◌, length, take, drop, slice_get, Option, Some, None, if◌then◌else◌}
use Rattle.std.specs.List.{list_all, list_any}
use Rattle.std.specs.List.Sorted.{IsPermutation}
use Rattle.std.specs.Option.{is_some}
use Rattle.sr_cell.specs.Cells.{text_le}
use Rattle.sr_box.specs.declared.span.Span.{Span}
use Rattle.sr_box.specs.declared.span.Span.TheVariants.{Full, Nums, Strs, Null}
use Rattle.sr_box.specs.Cut.{rect_meet}
use Rattle.sr_box.specs.Points.{Rect}
use Rattle.sr_box.specs.Projected.{has_part}
use Rattle.sr_image.specs.declared.index.Level.{Level}
use Rattle.sr_image.specs.declared.index.Index.{Index}
use Rattle.sr_image.specs.declared.index.Sought.{Sought}
use Rattle.sr_image.specs.declared.index.Sought.TheVariants.{Meeting, Row}
use Rattle.sr_image.specs.Reading.{meets_some}

-- the place of the first that meets one before it, where those stand before the list
abbrev pub first_met : List Rect → List Rect → Option ℕ
first_met before [] = None
first_met before (r ∷ rects) = if meets_some before r then Some (length before) else first_met (before ++ r ∷ []) rects

-- ---- what is sought

-- it is the rect of that place
abbrev pub is_sought : Sought → ℕ → Rect → Bool
is_sought (Meeting before rect) place r = nat_lt place before && is_some (rect_meet rect.now r)
is_sought (Row attrs row) place r = has_part attrs r row.now

-- it may be in a hull
abbrev pub is_in_hull : Sought → Rect → Bool
is_in_hull (Meeting before rect) hull = is_some (rect_meet rect.now hull)
is_in_hull (Row attrs row) hull = has_part attrs hull row.now

abbrev pub found_in : Sought → ℕ → Option Rect → Bool
found_in sought place None = false
found_in sought place (Some r) = is_sought sought place r

-- it is the rect of the list at that place
abbrev pub found_at : Sought → List Rect → ℕ → Bool
found_at sought rects place = found_in sought place (slice_get rects place)

-- ---- hulls

-- an upper end of texts is no upper than another
abbrev pub ends_within : Option (List ℕ) → Option (List ℕ) → Bool
ends_within end None = true
ends_within None (Some wide) = false
ends_within (Some end) (Some wide) = text_le end wide

abbrev pub span_covers : Span → Span → Bool
span_covers Full s = true
span_covers (Nums lo hi) Full = false
span_covers (Nums lo hi) (Nums low high) = int_le lo low && int_le high hi
span_covers (Nums lo hi) (Strs low high) = false
span_covers (Strs lo hi) Full = false
span_covers (Strs lo hi) (Nums low high) = false
span_covers (Strs lo hi) (Strs low high) = text_le lo low && ends_within high hi
span_covers (Nums lo hi) Null = false
span_covers (Strs lo hi) Null = false
span_covers Null Full = false
span_covers Null (Nums low high) = false
span_covers Null (Strs low high) = false
span_covers Null Null = true

-- each span of the rect lies within the hull's
abbrev pub covers : Rect → Rect → Bool
covers [] [] = true
covers [] (s ∷ r) = false
covers (h ∷ hull) [] = false
covers (h ∷ hull) (s ∷ r) = span_covers h s && covers hull r

abbrev pub is_covered : Rect → Option Rect → Bool
is_covered hull None = true
is_covered hull (Some r) = covers hull r

-- the rects of these places lie within the hull, if there is one
abbrev pub is_under : List Rect → Option Rect → List ℕ → Bool
is_under rects None places = true
is_under rects (Some hull) places = list_all (λ place. is_covered hull (slice_get rects place)) places

-- so for each block of that size, one after another
abbrev pub are_under : List Rect → ℕ → List (Option Rect) → List ℕ → Bool
are_under rects size [] places = true
are_under rects size (hull ∷ hulls) places = is_under rects hull (take size places) && are_under rects size hulls (drop size places)

-- so for each level
abbrev pub are_levels : List Rect → List ℕ → List Level → Bool
are_levels rects order levels = list_all (λ level. are_under rects level.size level.hulls.items order) levels

-- the places of the rects of a list, from that one on
abbrev pub numbered : ℕ → List Rect → List ℕ
numbered from [] = []
numbered from (r ∷ rects) = from ∷ numbered (from + 1) rects

-- the order has each place once, and each hull the rects of its block
pub record IsIndex (rects : List Rect) (index : Index) : Type 0 where
  pub same : IsPermutation (numbered 0 rects) index.order.items
  pub hulls : are_levels rects index.order.items index.levels.items ≡ true
