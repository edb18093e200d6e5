-- What is joined of both sides is the query's answer.
use Rattle.std.proofs.Common.{◌≡◌, Bool, true, false, List, [], ◌∷◌, ◌++◌, map, refl, sym, ap, ◌∙◌, inl, inr}
use Rattle.std.specs.Prelude.{◌⊎◌, ◌&&◌, filter, flat_map}
use Rattle.std.specs.List.{All}
use Rattle.std.proofs.lemmas.List.Elements.{All-head, All-tail}
use Rattle.sr_cell.specs.declared.cell.Cell.{Cell}
use Rattle.sr_cell.specs.Attrs.{has_column, project}
use Rattle.sr_cell.specs.Cells.{Row, cell_at}
use Rattle.sr_model.specs.Conditions.{Eq, passes}
use Rattle.sr_model.specs.Queries as model
use Rattle.sr_model.specs.Queries.{Part, Join, Output, Query, all_meet, combinations, joins_hold, points_of, rows_at, rows_of}
use Rattle.sr_model.specs.Statements.{Tables}
use Rattle.sr_region.specs.Regions.{rank}
use Rattle.sr_region.proofs.Ranks.{stand}
use Rattle.sr_join.proofs.Lists.{chosen-lists, chosen-images, none-chosen, some-lists, filter-both}
use Rattle.sr_semi.specs.Answers.{rows_in, with_keys}
use Rattle.sr_semi.specs.Going.{joined, output_in}
use Rattle.sr_semi.specs.Keys.{all_have}
use Rattle.sr_semi.specs.Sides.{Sides, left_place, right_place}
use Rattle.sr_semi.proofs.Deciding.{keys-decide}

-- the output is of one of two parts, which needs its column
abbrev pub IsOutput : Part → Part → Output → Type 0
IsOutput left right o = ((o.part ≡ 0) × (has_column left.need o.column ≡ true)) ⊎ ((o.part ≡ 1) × (has_column right.need o.column ≡ true))

-- The join is that of this query of two parts, each of which needs the column by which they are joined.
pub record IsOf (s : Sides) (q : Query) (left right : Part) (join : Join) : Type 0 where
  pub parts : q.parts ≡ left ∷ right ∷ []
  pub joins : q.joins ≡ join ∷ []
  pub joins_left : join.left ≡ 0
  pub joins_right : join.right ≡ 1
  pub needs_left : has_column left.need join.column ≡ true
  pub needs_right : has_column right.need join.key ≡ true
  pub needs : All (IsOutput left right) s.outputs
  pub left_need : s.left.need ≡ left.need
  pub right_need : s.right.need ≡ right.need
  pub left_column : s.left.column ≡ join.column
  pub right_column : s.right.table.key ≡ join.key
  pub outputs : s.outputs ≡ q.outputs

-- ---- lists

single : {A : Type 0} (xs : List A) → flat_map (λ x. (x ∷ []) ∷ []) xs ≡ map (λ x. x ∷ []) xs
single [] = refl
single {A} (x ∷ xs) = ap (λ (more : List (List A)). (x ∷ []) ∷ more) (single xs)

map-map : {A B C : Type 0} (f : B → C) (g : A → B) (xs : List A) → map f (map g xs) ≡ map (λ x. f (g x)) xs
map-map f g [] = refl
map-map {A} {B} {C} f g (x ∷ xs) = ap (λ (more : List C). f (g x) ∷ more) (map-map f g xs)

lists-map : {A B C : Type 0} (h : B → List C) (g : A → B) (xs : List A) → flat_map h (map g xs) ≡ flat_map (λ x. h (g x)) xs
lists-map h g [] = refl
lists-map {A} {B} {C} h g (x ∷ xs) = ap (λ (more : List C). h (g x) ++ more) (lists-map h g xs)

lists-same : {A B : Type 0} (g h : A → List B) (xs : List A) → ((x : A) → g x ≡ h x) → flat_map g xs ≡ flat_map h xs
lists-same g h [] same = refl
lists-same {A} {B} g h (x ∷ xs) same = ap (λ (front : List B). front ++ flat_map g xs) (same x) ∙ ap (λ (more : List B). h x ++ more) (lists-same g h xs same)

-- ---- tests

all-true : (a p b : Bool) → b ≡ true → ((a && true) && (b && (p && true))) ≡ (a && p)
all-true true true b e = rw e refl
all-true true false b e = rw e refl
all-true false p b e = refl

fails : (a p b : Bool) → b ≡ false → ((a && true) && (b && (p && true))) ≡ false
fails true p b e = rw e refl
fails false p b e = refl

module _ (tables : Tables) (s : Sides) (left right : Part) (join : Join) (q : Query) (is : IsOf s q left right join) where
  abbrev lefts : List Row
  lefts = rows_at tables left.table

  abbrev rights : List Row
  rights = rows_at tables right.table

  -- the choices of a row of each part
  abbrev pair : Row → Row → List Row
  pair l r = l ∷ r ∷ []

  abbrev chosen : Row → List (List Row)
  chosen l = map (pair l) rights

  abbrev test : List Row → Bool
  test rows = joins_hold (join ∷ []) rows && all_meet (left ∷ right ∷ []) rows

  abbrev two : Query
  two = record { parts = left ∷ right ∷ []; joins = join ∷ []; outputs = s.outputs }

  choices : combinations (lefts ∷ rights ∷ []) ≡ flat_map chosen lefts
  choices = lists-same (λ l. map (λ others. l ∷ others) (combinations (rights ∷ []))) chosen lefts
      (λ l. ap (map (λ (others : List Row). l ∷ others)) (single rights) ∙ map-map (λ (others : List Row). l ∷ others) (λ (r : Row). r ∷ []) rights)

  answer : rows_of two tables ≡ flat_map (λ l. map (model.output_of s.outputs) (filter test (chosen l))) lefts
  answer = ap (λ (all : List (List Row)). map (model.output_of s.outputs) (filter test all)) choices ∙ chosen-lists (model.output_of s.outputs) test chosen lefts

  -- ---- cells

  same-left : (l : Row) → cell_at (project left.need l) (left_place s) ≡ cell_at l join.column
  same-left l = ap (cell_at (project left.need l)) (ap (λ need. rank need s.left.column) is.left_need ∙ ap (rank left.need) is.left_column) ∙ stand left.need join.column l is.needs_left

  same-right : (r : Row) → cell_at (project right.need r) (right_place s) ≡ cell_at r join.key
  same-right r = ap (cell_at (project right.need r)) (ap (λ need. rank need s.right.table.key) is.right_need ∙ ap (rank right.need) is.right_column) ∙ stand right.need join.key r is.needs_right

  same-output : (l r : Row) (o : Output) → IsOutput left right o → output_in s (project left.need l) (project right.need r) o ≡ cell_at (model.row_at (pair l r) o.part) o.column
  same-output l r o (inl (zeroth, needs)) = rw (zeroth, is.left_need) (stand left.need o.column l needs)
  same-output l r o (inr (first, needs)) = rw (first, is.right_need) (stand right.need o.column r needs)

  same-outputs : (l r : Row) (outputs : List Output) → All (IsOutput left right) outputs → map (output_in s (project left.need l) (project right.need r)) outputs ≡ model.output_of outputs (pair l r)
  same-outputs l r [] all = refl
  same-outputs l r (o ∷ outputs) all =
      ap (λ (c : Cell). c ∷ map (output_in s (project left.need l) (project right.need r)) outputs) (same-output l r o (All-head (IsOutput left right) o outputs all))
      ∙ ap (λ (more : Row). cell_at (model.row_at (pair l r) o.part) o.column ∷ more) (same-outputs l r outputs (All-tail (IsOutput left right) o outputs all))

  -- ---- the rows of one row of the left side

  abbrev joins_with : Row → Row → Bool
  joins_with l r = passes (Eq (cell_at r join.key)) (cell_at l join.column)

  test-is : (l r : Row) → test (pair l r) ≡ ((joins_with l r && true) && (points_of left l && (points_of right r && true)))
  test-is l r = rw (is.joins_left, is.joins_right) refl

  abbrev own : Row → List Row
  own l = map (λ r. map (output_in s l r) s.outputs) (filter (λ r. passes (Eq (cell_at r (right_place s))) (cell_at l (left_place s))) (map (project right.need) (filter (points_of right) rights)))

  inside : (l : Row) → points_of left l ≡ true → map (model.output_of s.outputs) (filter test (chosen l)) ≡ own (project left.need l)
  inside l meets =
      chosen-images (model.output_of s.outputs) test (pair l) (λ r. model.output_of s.outputs (pair l r)) (λ r. joins_with l r && points_of right r) rights
      (λ r. test-is l r ∙ all-true (joins_with l r) (points_of right r) (points_of left l) meets) (λ r. refl)
      ∙ (ap (map (λ r. model.output_of s.outputs (pair l r))) (filter-both (joins_with l) (points_of right) rights)
      ∙ sym (chosen-images (λ r. map (output_in s (project left.need l) r) s.outputs) (λ r. passes (Eq (cell_at r (right_place s))) (cell_at (project left.need l) (left_place s))) (project right.need)
      (λ r. model.output_of s.outputs (pair l r)) (joins_with l) (filter (points_of right) rights)
      (λ r. ap (λ (v : Cell). passes (Eq (cell_at (project right.need r) (right_place s))) v) (same-left l) ∙ ap (λ (w : Cell). passes (Eq w) (cell_at l join.column)) (same-right r))
      (λ r. same-outputs l r s.outputs is.needs)))

  outside : (l : Row) → points_of left l ≡ false → map (model.output_of s.outputs) (filter test (chosen l)) ≡ []
  outside l misses = none-chosen (model.output_of s.outputs) test (pair l) rights (λ r. test-is l r ∙ fails (joins_with l r) (points_of right r) (points_of left l) misses)

  all-joined : joined s (rows_in tables left) (rows_in tables right) ≡ rows_of two tables
  all-joined = lists-map own (project left.need) (filter (points_of left) lefts)
      ∙ (sym (some-lists (points_of left) (λ l. map (model.output_of s.outputs) (filter test (chosen l))) (λ l. own (project left.need l)) lefts inside outside) ∙ sym answer)

  pub joined-is-answer : (keys : List Cell) → all_have (left_place s) keys (rows_in tables left) ≡ true → joined s (rows_in tables left) (with_keys s keys (rows_in tables right)) ≡ rows_of q tables
  joined-is-answer keys all =
      let same : two ≡ q = rw (← is.parts, ← is.joins, is.outputs) refl in
      keys-decide s keys (rows_in tables left) (rows_in tables right) all ∙ (all-joined ∙ ap (λ (x : Query). rows_of x tables) same)
