-- What comes of an answer, stage by stage.
use Rattle.std.proofs.Common.{◌≡◌, ℕ, Bool, true, false, List, [], ◌∷◌, ◌++◌, map, length, refl, sym, ap, ◌∙◌, if◌then◌else◌}
use Rattle.std.specs.Prelude.{◌==◌, ◌&&◌, nat_lt, Option, Some, None}
use Rattle.std.specs.Cmp.{first_so, second_so}
use Rattle.std.specs.List.{list_all}
use Rattle.std.proofs.lemmas.Bool.{eqb-true}
use Rattle.std.proofs.lemmas.List.Concat.{flat_map-cons}
use Rattle.sr_cell.specs.declared.cell.Cell.{Cell}
use Rattle.sr_cell.specs.declared.cell.Cell.TheVariants.{Num, Str, Null}
use Rattle.sr_cell.specs.Cells.{Row, cell_at}
use Rattle.sr_model.specs.Queries.{Part, Join, Query, rows_of}
use Rattle.sr_model.specs.Statements.{Tables}
use Rattle.sr_query.specs.Binding.{is_inside}
use Rattle.sr_semi.specs.declared.stage.Next.TheVariants.{Run, Plain}
use Rattle.sr_semi.specs.declared.stage.Stage.{Stage}
use Rattle.sr_semi.specs.declared.stage.Stage.TheVariants.{Left, Right, LeftAgain, Over}
use Rattle.sr_semi.specs.declared.stage.Step.{Step}
use Rattle.sr_semi.specs.Answers.{rows_in, with_keys, IsRight}
use Rattle.sr_semi.specs.Going.{behind_left, ends_with, is_read, joined, joined_to, joins, output_in, step_of}
use Rattle.sr_semi.specs.Keys.{all_have, at_most, is_met, most_keys, values_at, with_key}
use Rattle.sr_semi.specs.Sides.{Sides, left_place, right_place, right_text}
use Rattle.sr_semi.proofs.Deciding.{values-are-among}
use Rattle.sr_semi.proofs.JoinedRows.{IsOf, joined-is-answer}

-- where each row has one of no keys, or Null, nothing is joined

none-with : (place : ℕ) (rows : List Row) (v : Cell) → is_met [] v ≡ true → with_key place rows v ≡ []
none-with place rows (Num n) h = absurd cc
none-with place rows (Str s) h = absurd cc
none-with place [] Null h = refl
none-with place (r ∷ rows) Null h = none-with place rows Null h

none-joined : (s : Sides) (lefts rights : List Row) → all_have (left_place s) [] lefts ≡ true → joined s lefts rights ≡ []
none-joined s [] rights all = refl
none-joined s (l ∷ lefts) rights all =
    let here = first_so (is_met [] (cell_at l (left_place s))) (all_have (left_place s) [] lefts) all in
    let others = second_so (is_met [] (cell_at l (left_place s))) (all_have (left_place s) [] lefts) all in
    flat_map-cons (joined_to s rights) l lefts
    ∙ (ap (λ (found : List Row). map (λ r. map (output_in s l r) s.outputs) found ++ joined s lefts rights) (none-with (right_place s) rights (cell_at l (left_place s)) here)
    ∙ none-joined s lefts rights others)

-- keys that are not too many are those that are there
few-keys : (most : ℕ) (all keys : List Cell) → at_most most all ≡ Some keys → keys ≡ all
few-keys most all keys e = go (nat_lt most (length all)) e
  where
    go : (many : Bool) → (if many then None else Some all) ≡ Some keys → keys ≡ all
    go true e = absurd cc
    go false e = cc

-- The rows that a stage keeps are those of a part, at the version that it names; each left row has one of the keys, which may be compared, or Null.
pub record KnowsLeft (rows : List Row) (place : ℕ) (keys : List Cell) (lefts : List Row) : Type 0 where
  pub lefts_are : lefts ≡ rows
  pub among : all_have place keys lefts ≡ true
  pub inside : list_all is_inside keys ≡ true
  pub key : Cell
  pub more : List Cell
  pub some : keys ≡ key ∷ more

abbrev pub Knows : (ℕ → Tables) → Sides → Part → Part → Stage → Type 0
Knows at s left right Left = Unit {0}
Knows at s left right (Right version keys lefts) = KnowsLeft (rows_in (at version) left) (left_place s) keys lefts
Knows at s left right (LeftAgain version keys rights) = rights ≡ with_keys s keys (rows_in (at version) right)
Knows at s left right Over = Unit {0}

-- The rows are those of the part whose text was named last; of the right part those with one of the keys.
abbrev pub Gives : (ℕ → Tables) → Sides → Part → Part → Stage → ℕ → List Row → Type 0
Gives at s left right Left version rows = rows ≡ rows_in (at version) left
Gives at s left right (Right first keys lefts) version rows = rows ≡ with_keys s keys (rows_in (at version) right)
Gives at s left right (LeftAgain second keys rights) version rows = rows ≡ rows_in (at version) left
Gives at s left right Over version rows = Unit {0}

-- what is joined is right, and the stage knows what it should
pub record Goes (at : ℕ → Tables) (s : Sides) (q : Query) (left right : Part) (step : Step) : Type 0 where
  pub next : IsRight at q step.next
  pub stage : Knows at s left right step.stage

module _ (at : ℕ → Tables) (s : Sides) (q : Query) (left right : Part) (join : Join) (is : IsOf s q left right join)
    (inside : (version : ℕ) → list_all is_inside (values_at (left_place s) (rows_in (at version) left)) ≡ true) where
  -- rows of both sides at one version
  whole : (version : ℕ) (keys : List Cell) (lefts rights : List Row) → lefts ≡ rows_in (at version) left → rights ≡ with_keys s keys (rows_in (at version) right)
      → all_have (left_place s) keys lefts ≡ true → joined s lefts rights ≡ rows_of q (at version)
  whole version keys lefts rights lefts-are rights-are all =
      ap (λ ls. joined s ls rights) lefts-are ∙ (ap (joined s (rows_in (at version) left)) rights-are
      ∙ joined-is-answer (at version) s left right join q is keys (sym (ap (λ ls. all_have (left_place s) keys ls) lefts-are) ∙ all))

  plain : Goes at s q left right (ends_with Plain)
  plain = record { next = tt; stage = tt }

  if-read : (read : Bool) (version : ℕ) (keys : List Cell) (rows : List Row) → KnowsLeft (rows_in (at version) left) (left_place s) keys rows
      → Goes at s q left right (if read then record { next = Run (right_text s.right keys); stage = Right version keys rows } else ends_with Plain)
  if-read true version keys rows knows = record { next = tt; stage = knows }
  if-read false version keys rows knows = plain

  at-left : (version : ℕ) (rows : List Row) (keys : Option (List Cell)) → keys ≡ at_most (most_keys s.right.width) (values_at (left_place s) rows) → rows ≡ rows_in (at version) left
      → Goes at s q left right (behind_left s version rows keys)
  at-left version rows None e lefts-are = plain
  at-left version rows (Some []) e lefts-are =
      let none : [] ≡ values_at (left_place s) rows = few-keys (most_keys s.right.width) (values_at (left_place s) rows) [] (sym e) in
      let all : all_have (left_place s) [] rows ≡ true = ap (λ ks. all_have (left_place s) ks rows) none ∙ values-are-among (left_place s) rows in
      record {
        next =
            sym (none-joined s rows (with_keys s [] (rows_in (at version) right)) all)
            ∙ whole version [] rows (with_keys s [] (rows_in (at version) right)) lefts-are refl all;
        stage = tt;
      }
  at-left version rows (Some (k ∷ keys)) e lefts-are =
      let are : k ∷ keys ≡ values_at (left_place s) rows = few-keys (most_keys s.right.width) (values_at (left_place s) rows) (k ∷ keys) (sym e) in
      if-read (is_read (right_text s.right (k ∷ keys))) version (k ∷ keys) rows (record {
        lefts_are = lefts-are;
        among = ap (λ ks. all_have (left_place s) ks rows) are ∙ values-are-among (left_place s) rows;
        inside = ap (list_all is_inside) (are ∙ ap (values_at (left_place s)) lefts-are) ∙ inside version;
        key = k;
        more = keys;
        some = refl;
      })

  at-right : (one : Bool) (first version : ℕ) (keys : List Cell) (lefts rows : List Row) → (version == first) ≡ one → KnowsLeft (rows_in (at first) left) (left_place s) keys lefts
      → rows ≡ with_keys s keys (rows_in (at version) right)
      → Goes at s q left right (if one then joins s version keys lefts rows else record { next = Run s.left.text; stage = LeftAgain version keys rows })
  at-right true first version keys lefts rows same knows rights-are =
      record { next = whole version keys lefts rows (knows.lefts_are ∙ ap (λ v. rows_in (at v) left) (sym (eqb-true version first same))) rights-are knows.among; stage = tt }
  at-right false first version keys lefts rows same knows rights-are = record { next = tt; stage = rights-are }

  at-left-again : (one : Bool) (second version : ℕ) (keys : List Cell) (rights rows : List Row) → (version == second && all_have (left_place s) keys rows) ≡ one
      → rights ≡ with_keys s keys (rows_in (at second) right) → rows ≡ rows_in (at version) left
      → Goes at s q left right (if one then joins s version keys rows rights else ends_with Plain)
  at-left-again true second version keys rights rows both rights-are lefts-are =
      record {
        next =
            whole version keys rows rights lefts-are
            (rights-are ∙ ap (λ v. with_keys s keys (rows_in (at v) right)) (sym (eqb-true version second (first_so (version == second) (all_have (left_place s) keys rows) both))))
            (second_so (version == second) (all_have (left_place s) keys rows) both);
        stage = tt;
      }
  at-left-again false second version keys rights rows both rights-are lefts-are = plain

  pub goes : (stage : Stage) (version : ℕ) (rows : List Row) → Knows at s left right stage → Gives at s left right stage version rows → Goes at s q left right (step_of s stage version rows)
  goes Left version rows knows gives = at-left version rows (at_most (most_keys s.right.width) (values_at (left_place s) rows)) refl gives
  goes (Right first keys lefts) version rows knows gives = at-right (version == first) first version keys lefts rows refl knows gives
  goes (LeftAgain second keys rights) version rows knows gives =
      at-left-again (version == second && all_have (left_place s) keys rows) second version keys rights rows refl knows gives
  goes Over version rows knows gives = plain
