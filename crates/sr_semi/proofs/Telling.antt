-- Answers one after another: what is joined is right, and few texts are named.
use Rattle.std.proofs.Common.{◌≡◌, ℕ, ◌+◌, ◌≤◌, Bool, true, false, List, [], ◌∷◌, refl, sym, ap, subst, ◌∙◌, arith, if◌then◌else◌}
use Rattle.std.specs.Prelude.{◌==◌, ◌&&◌, Option, Some, None}
use Rattle.std.specs.List.{All, list_all}
use Rattle.std.proofs.lemmas.List.Elements.{All-cons, All-nil}
use Rattle.sr_cell.specs.declared.cell.Cell.{Cell}
use Rattle.sr_cell.specs.declared.table.Table.{Table}
use Rattle.sr_cell.specs.Cells.{Row}
use Rattle.sr_grammar.specs.Trees.{Statement}
use Rattle.sr_model.specs.Queries.{Query}
use Rattle.sr_model.specs.Statements.{Tables}
use Rattle.sr_query.specs.Binding.{is_inside}
use Rattle.sr_semi.specs.declared.stage.Next.TheVariants.{Run, Plain}
use Rattle.sr_semi.specs.declared.stage.Stage.{Stage}
use Rattle.sr_semi.specs.declared.stage.Stage.TheVariants.{Left, Right, LeftAgain, Over}
use Rattle.sr_semi.specs.declared.stage.Step.{Step}
use Rattle.sr_semi.specs.Answers.{Answer, Answers, IsAnswer, AllAnswer, IsRight, nexts, rows_in, stage_behind, with_keys}
use Rattle.sr_semi.specs.Going.{behind_left, ends_with, is_read, joins, step_of}
use Rattle.sr_semi.specs.Keys.{all_have, at_most, most_keys, values_at}
use Rattle.sr_semi.specs.Laws.{TextsAskParts, TextsGoDown, FewTexts, is_run, runs_in, texts_left}
use Rattle.sr_semi.specs.Sides.{Sides, left_place, part_at, right_text, sides_of}
use Rattle.sr_semi.proofs.Parts.{Two}
use Rattle.sr_semi.proofs.Staged.{Gives, Knows, goes}

module _ (schema : List Table) (at : ℕ → Tables) (s : Statement) (q : Query) (t : Two schema s q) (texts : (version : ℕ) → TextsAskParts schema s q (at version))
    (inside : (version : ℕ) → list_all is_inside (values_at (left_place (sides_of schema s q)) (rows_in (at version) t.left)) ≡ true) where
  gives : (stage : Stage) (a : Answer) → Knows at (sides_of schema s q) t.left t.right stage → Answers schema at (sides_of schema s q) stage a
      → Gives at (sides_of schema s q) t.left t.right stage a.version a.rows
  gives Left a knows answer = (texts a.version).left a.rows answer ∙ ap (rows_in (at a.version)) t.left_is
  gives (Right first keys lefts) a knows answer =
      let rows : a.rows ≡ with_keys (sides_of schema s q) (knows.key ∷ knows.more) (rows_in (at a.version) (part_at q 1)) =
      (texts a.version).right knows.key knows.more a.rows (ap (list_all is_inside) (sym knows.some) ∙ knows.inside)
      (subst (λ ks. IsAnswer schema (at a.version) (right_text (sides_of schema s q).right ks) a.rows) knows.some answer) in
      rows
      ∙ (ap (λ ks. with_keys (sides_of schema s q) ks (rows_in (at a.version) (part_at q 1))) (sym knows.some)
      ∙ ap (λ p. with_keys (sides_of schema s q) keys (rows_in (at a.version) p)) t.right_is)
  gives (LeftAgain second keys rights) a knows answer = (texts a.version).left a.rows answer ∙ ap (rows_in (at a.version)) t.left_is
  gives Over a knows answer = tt

  pub all-right : (stage : Stage) (answers : List Answer) → Knows at (sides_of schema s q) t.left t.right stage → AllAnswer schema at (sides_of schema s q) stage answers
      → All (IsRight at q) (nexts (sides_of schema s q) stage answers)
  all-right stage [] knows all = All-nil (IsRight at q)
  all-right stage (a ∷ more) knows all =
      let g = goes at (sides_of schema s q) q t.left t.right t.join t.is inside stage a.version a.rows knows (gives stage a knows all.0) in
      All-cons (IsRight at q) (step_of (sides_of schema s q) stage a.version a.rows).next (nexts (sides_of schema s q) (stage_behind (sides_of schema s q) stage a) more) g.next
      (all-right (stage_behind (sides_of schema s q) stage a) more g.stage all.1)

-- ---- few texts are named

abbrev Costs : ℕ → Step → Type 0
Costs n step = is_run step.next + texts_left step.stage ≤ n

if-read : (read : Bool) (s : Sides) (version : ℕ) (keys : List Cell) (rows : List Row)
    → Costs 2 (if read then record { next = Run (right_text s.right keys); stage = Right version keys rows } else ends_with Plain)
if-read true s version keys rows = omega arith
if-read false s version keys rows = omega arith

at-left : (s : Sides) (version : ℕ) (rows : List Row) (keys : Option (List Cell)) → Costs 2 (behind_left s version rows keys)
at-left s version rows None = omega arith
at-left s version rows (Some []) = omega arith
at-left s version rows (Some (k ∷ keys)) = if-read (is_read (right_text s.right (k ∷ keys))) s version (k ∷ keys) rows

at-right : (one : Bool) (s : Sides) (version : ℕ) (keys : List Cell) (lefts rows : List Row)
    → Costs 1 (if one then joins s version keys lefts rows else record { next = Run s.left.text; stage = LeftAgain version keys rows })
at-right true s version keys lefts rows = omega arith
at-right false s version keys lefts rows = omega arith

at-left-again : (one : Bool) (s : Sides) (version : ℕ) (keys : List Cell) (lefts rows : List Row) → Costs 0 (if one then joins s version keys lefts rows else ends_with Plain)
at-left-again true s version keys lefts rows = omega arith
at-left-again false s version keys lefts rows = omega arith

costs : (s : Sides) (stage : Stage) (version : ℕ) (rows : List Row) → Costs (texts_left stage) (step_of s stage version rows)
costs s Left version rows = at-left s version rows (at_most (most_keys s.right.width) (values_at (left_place s) rows))
costs s (Right first keys lefts) version rows = at-right (version == first) s version keys lefts rows
costs s (LeftAgain second keys rights) version rows = at-left-again (version == second && all_have (left_place s) keys rows) s version keys rows rights
costs s Over version rows = omega arith

few : (s : Sides) (stage : Stage) (answers : List Answer) → runs_in (nexts s stage answers) ≤ texts_left stage
few s stage [] = omega arith
few s stage (a ∷ more) =
    let now = costs s stage a.version a.rows in
    let later = few s (stage_behind s stage a) more in
    omega (arith, now, later)

pub few-texts : FewTexts
few-texts s answers = few s Left answers

-- ---- each text uses one up

abbrev Uses : Stage → Step → Type 0
Uses stage step = (text : List ℕ) → step.next ≡ Run text → texts_left stage ≡ texts_left step.stage + 1

if-read-uses : (read : Bool) (s : Sides) (version : ℕ) (keys : List Cell) (rows : List Row)
    → Uses Left (if read then record { next = Run (right_text s.right keys); stage = Right version keys rows } else ends_with Plain)
if-read-uses true s version keys rows text is = refl
if-read-uses false s version keys rows text is = absurd cc

left-uses : (s : Sides) (version : ℕ) (rows : List Row) (keys : Option (List Cell)) → Uses Left (behind_left s version rows keys)
left-uses s version rows None text is = absurd cc
left-uses s version rows (Some []) text is = absurd cc
left-uses s version rows (Some (k ∷ keys)) text is = if-read-uses (is_read (right_text s.right (k ∷ keys))) s version (k ∷ keys) rows text is

right-uses : (one : Bool) (s : Sides) (first version : ℕ) (keys : List Cell) (lefts rows : List Row)
    → Uses (Right first keys lefts) (if one then joins s version keys lefts rows else record { next = Run s.left.text; stage = LeftAgain version keys rows })
right-uses true s first version keys lefts rows text is = absurd cc
right-uses false s first version keys lefts rows text is = refl

again-uses : (one : Bool) (s : Sides) (second version : ℕ) (keys : List Cell) (rights rows : List Row)
    → Uses (LeftAgain second keys rights) (if one then joins s version keys rows rights else ends_with Plain)
again-uses true s second version keys rights rows text is = absurd cc
again-uses false s second version keys rights rows text is = absurd cc

pub texts-go-down : TextsGoDown
texts-go-down s Left version rows text is = left-uses s version rows (at_most (most_keys s.right.width) (values_at (left_place s) rows)) text is
texts-go-down s (Right first keys lefts) version rows text is = right-uses (version == first) s first version keys lefts rows text is
texts-go-down s (LeftAgain second keys rights) version rows text is = again-uses (version == second && all_have (left_place s) keys rows) s second version keys rights rows text is
texts-go-down s Over version rows text is = absurd cc
