-- An explanation has no line of an answer or an ask, and none that names a version that a client comes to.
use Rattle.std.proofs.Common.{◌≡◌, ℕ, ◌+◌, Bool, true, false, List, [], ◌∷◌, ◌++◌, refl, sym, ap, ◌∙◌, Some}
use Rattle.std.specs.Prelude.{◌||◌, flat_map, map, Result, Ok, Err}
use Rattle.std.specs.Option.{is_some}
use Rattle.std.specs.List.{list_any}
use Rattle.sr_cell.specs.declared.fault.Fault.{Fault}
use Rattle.sr_box.specs.Points.{Rect}
use Rattle.sr_model.specs.Queries.{Query}
use Rattle.sr_script.specs.declared.line.TraceLine.{TraceLine}
use Rattle.sr_script.specs.declared.line.TraceLine.TheVariants as line
use Rattle.sr_session.specs.Scenes.{Scene}
use Rattle.sr_explain.specs.declared.explanation.ExplainPart.{ExplainPart}
use Rattle.sr_explain.specs.declared.explanation.Victim.{Victim}
use Rattle.sr_explain.specs.declared.explanation.Explanation.{Explanation}
use Rattle.sr_explain.specs.Telling.{ExplainsTo, detail_lines, explain_lines, part_lines, pieces_line, probe_line, rest_line, victim_lines}
use Rattle.sr_runs.specs.Versions.{Comes, version_named}
use Rattle.sr_runs.proofs.BlockLemmas.{is_head}
use Rattle.sr_runs.proofs.Splits.{found, lacks-both, lacks-map}

-- the line of an answer or an ask, or one that names such a version
abbrev is_told : TraceLine → Bool
is_told l = is_head l || is_some (version_named l)

pieces-lack : (pieces : Bool) → list_any is_told (pieces_line pieces) ≡ false
pieces-lack true = refl
pieces-lack false = refl

rest-lacks : (table attrs : ℕ) (rest : List Rect) → list_any is_told (rest_line table attrs rest) ≡ false
rest-lacks table attrs [] = refl
rest-lacks table attrs (r ∷ rest) = refl

part-lacks : (part : ExplainPart) → list_any is_told (part_lines part) ≡ false
part-lacks part =
    lacks-both is_told (map (probe_line part.table) part.probes) (rest_line part.table part.attrs part.rest) (lacks-map is_told (probe_line part.table) part.probes (λ probe. refl))
    (rest-lacks part.table part.attrs part.rest)

parts-lack : (parts : List ExplainPart) → list_any is_told (flat_map part_lines parts) ≡ false
parts-lack [] = refl
parts-lack (part ∷ parts) = lacks-both is_told (part_lines part) (flat_map part_lines parts) (part-lacks part) (parts-lack parts)

victims-lack : (i : ℕ) (victims : List Victim) → list_any is_told (victim_lines i victims) ≡ false
victims-lack i [] = refl
victims-lack i (v ∷ victims) = victims-lack (i + 1) victims

details-lack : (e : Explanation) → list_any is_told (detail_lines e) ≡ false
details-lack e =
    lacks-both is_told (pieces_line e.pieces) (flat_map part_lines e.parts ++ victim_lines 1 e.victims) (pieces-lack e.pieces)
    (lacks-both is_told (flat_map part_lines e.parts) (victim_lines 1 e.victims) (parts-lack e.parts) (victims-lack 1 e.victims))

explain-lacks : (n : ℕ) (result : Result Explanation Fault) → list_any is_told (explain_lines n result) ≡ false
explain-lacks n (Ok e) = lacks-both is_told (detail_lines e) (line.Explained n e.version ∷ []) (details-lack e) refl
explain-lacks n (Err fault) = refl

none-told : (lines front : List TraceLine) (l : TraceLine) (own : List TraceLine) → list_any is_told lines ≡ false → is_told l ≡ true → lines ≡ front ++ l ∷ own → ⊥
none-told lines front l own lacks is there =
    let wrong : false ≡ true = sym lacks ∙ (ap (list_any is_told) there ∙ found is_told front l own is) in absurd (cc)

head-told : (l : TraceLine) → is_head l ≡ true → is_told l ≡ true
head-told l is = ap (λ b. b || is_some (version_named l)) is

named-told : (l : TraceLine) (v : Comes) → version_named l ≡ Some v → is_told l ≡ true
named-told l v is = ap (λ o. is_head l || is_some o) is ∙ or-true (is_head l)
  where
    or-true : (b : Bool) → (b || true) ≡ true
    or-true true = refl
    or-true false = refl

pub no-head : (s : Scene) (n : ℕ) (text : Result Query Fault) (front : List TraceLine) (l : TraceLine) (own : List TraceLine) → is_head l ≡ true
    → ExplainsTo s n text (front ++ l ∷ own) → ⊥
no-head s n text front l own is (pair, there, result, step, lines) = none-told (explain_lines n result) front l own (explain-lacks n result) (head-told l is) (sym lines)

pub no-version : (s : Scene) (n : ℕ) (text : Result Query Fault) (front : List TraceLine) (l : TraceLine) (own : List TraceLine) (v : Comes) → version_named l ≡ Some v
    → ExplainsTo s n text (front ++ l ∷ own) → ⊥
no-version s n text front l own v is (pair, there, result, step, lines) = none-told (explain_lines n result) front l own (explain-lacks n result) (named-told l v is) (sym lines)
