-- The lines that explain a query are of tables that are there, and of columns of theirs.
use Rattle.std.proofs.Common.{◌≡◌, ◌+◌, ℕ, Bool, true, false, List, [], ◌∷◌, ◌++◌, map, refl, sym, subst, arith}
use Rattle.std.specs.Prelude.{◌&&◌, ◌==◌, flat_map, Result, Ok, Err}
use Rattle.std.specs.List.{AllZip, AllByRecursion}
use Rattle.std.proofs.lemmas.Bool.{and_parts}
use Rattle.std.proofs.lemmas.Bool.Decides.{nat_tests}
use Rattle.std.proofs.lemmas.List.Concat.{flat_map-cons}
use Rattle.sr_cell.specs.declared.cause.Cause.TheVariants.{Regions}
use Rattle.sr_cell.specs.declared.fault.Fault.{Fault}
use Rattle.sr_cell.specs.declared.table.Table.{Table}
use Rattle.sr_cell.specs.Attrs.{includes}
use Rattle.sr_box.specs.Points.{Rect}
use Rattle.sr_model.specs.Queries.{Part, Query, points_of}
use Rattle.sr_policy.specs.declared.policy.Policy.{Policy}
use Rattle.sr_history.specs.declared.mark.Mark.{Mark}
use Rattle.sr_history.specs.Marks.{is_held}
use Rattle.sr_history.specs.Classes.{Class, Numbered, in_class, stamp}
use Rattle.sr_script.specs.declared.line.TraceLine.TheVariants as line
use Rattle.sr_session.specs.Clients.{Client}
use Rattle.sr_session.specs.Rules.{Basis}
use Rattle.sr_explain.specs.declared.explanation.ProbeView.{ProbeView}
use Rattle.sr_explain.specs.declared.explanation.ExplainPart.{ExplainPart}
use Rattle.sr_explain.specs.declared.explanation.Victim.{Victim}
use Rattle.sr_explain.specs.declared.explanation.Explanation.{Explanation}
use Rattle.sr_explain.specs.Explained.{AreVictims, ExplainStep, Explains, ExplainsPart, IsProbe, ProbesOf, class_of, entry_of, explained, marks_then, nothing, passed_by, probed, refused}
use Rattle.sr_explain.specs.Telling.{detail_lines, explain_lines, part_lines, pieces_line, probe_line, rest_line, victim_lines}
use Rattle.sr_script.specs.Printable.{IsPlaced}
use Rattle.sr_world.proofs.Placed.{ArePlacedMarks, IsPlacedAsk, IsPlacedPart, IsSpot, all-append, all-map, asks-placed, class-place, drop-placed, held-place, moved}

-- ---- a part

probe-placed : (schema : List Table) (marks : List Mark) (queries : List Numbered) (part : Part) (k : Class) (probe : ProbeView) → ArePlacedMarks schema marks
    → IsProbe schema marks queries part k probe → IsSpot schema part.table probe.attrs probe.rects
probe-placed schema marks queries part k probe all is =
    let p = is.some.0 in
    let both = and_parts (k.table == part.table && includes k.attrs part.need) (points_of part p && in_class marks queries k p) is.some.2 in
    let inside = (and_parts (points_of part p) (in_class marks queries k p) both.1).1 in
    let held = (and_parts (is_held marks k.table k.attrs p) (stamp queries k.table k.attrs p == k.stamp) inside).0 in
    let same = (and_parts (k.table == part.table) (includes k.attrs part.need) both.0).0 in
    let table : part.table ≡ k.table = grind (arith, nat_tests, same) in
    (moved schema part.table k.table probe.attrs k.attrs table is.attrs (held-place schema marks k.table k.attrs p all held), is.fits)

probes-placed : (schema : List Table) (marks : List Mark) (queries : List Numbered) (part : Part) (classes : List Class) (probes : List ProbeView) → ArePlacedMarks schema marks
    → ProbesOf schema marks queries part classes probes → AllByRecursion (λ (probe : ProbeView). IsSpot schema part.table probe.attrs probe.rects) probes
probes-placed schema marks queries part classes probes all nothing = tt
probes-placed schema marks queries part classes probes all (passed_by k others more none rest) = probes-placed schema marks queries part others more all rest
probes-placed schema marks queries part classes probes all (probed k others probe more is rest) =
    (probe-placed schema marks queries part k probe all is, probes-placed schema marks queries part others more all rest)

rest-line : (schema : List Table) (t attrs : ℕ) (rects : List Rect) → AllByRecursion (IsPlacedAsk schema) (entry_of t attrs rects)
    → AllByRecursion (IsPlaced schema) (rest_line t attrs rects)
rest-line schema t attrs [] all = tt
rest-line schema t attrs (r ∷ rects) all = (all.0, tt)

part-placed : (schema : List Table) (marks : List Mark) (queries : List Numbered) (part : Part) (e : ExplainPart) → ArePlacedMarks schema marks → IsPlacedPart schema part
    → ExplainsPart schema marks queries part e → AllByRecursion (IsPlaced schema) (part_lines e)
part-placed schema marks queries part e all own is =
    let need = moved schema e.table part.table e.need part.need is.table is.need own in
    let probes = subst (λ t. AllByRecursion (λ (probe : ProbeView). IsSpot schema t probe.attrs probe.rects) e.probes) (sym is.table)
    (probes-placed schema marks queries part is.probes.0 e.probes all is.probes.2) in
    let rest = asks-placed schema marks (part ∷ []) (entry_of e.table e.attrs e.rest) is.rest (own, tt) in (
      need,
      all-append (IsPlaced schema) (map (probe_line e.table) e.probes) (rest_line e.table e.attrs e.rest)
          (all-map (IsPlaced schema) (probe_line e.table) e.probes probes) (rest-line schema e.table e.attrs e.rest rest),
    )

parts-placed : (schema : List Table) (marks : List Mark) (queries : List Numbered) (parts : List Part) (es : List ExplainPart) → ArePlacedMarks schema marks
    → AllByRecursion (IsPlacedPart schema) parts → AllZip (ExplainsPart schema marks queries) parts es → AllByRecursion (IsPlaced schema) (flat_map part_lines es)
parts-placed schema marks queries [] [] all own zip = tt
parts-placed schema marks queries [] (e ∷ es) all own zip = absurd zip
parts-placed schema marks queries (part ∷ parts) [] all own zip = absurd zip
parts-placed schema marks queries (part ∷ parts) (e ∷ es) all own zip =
    subst (AllByRecursion (IsPlaced schema)) (sym (flat_map-cons part_lines e es))
    (all-append (IsPlaced schema) (part_lines e) (flat_map part_lines es) (part-placed schema marks queries part e all own.0 zip.0) (parts-placed schema marks queries parts es all own.1 zip.1))

-- ---- victims

victims-placed : (policy : Policy) (schema : List Table) (size : Class → ℕ) (queries : List Numbered) (marks : List Mark) (i : ℕ) (victims : List Victim) → ArePlacedMarks schema marks
    → AreVictims policy schema size queries marks victims → AllByRecursion (IsPlaced schema) (victim_lines i victims)
victims-placed policy schema size queries marks i [] all are = tt
victims-placed policy schema size queries marks i (v ∷ victims) all are =
    let own = class-place schema marks queries (class_of v) all are.0.some in
    (own, victims-placed policy schema size queries (are.2 ∷ marks) (i + 1) victims (drop-placed schema marks queries Regions (class_of v) are.2 own are.3, all) are.4)

-- ---- an explanation

pieces-placed : (schema : List Table) (b : Bool) → AllByRecursion (IsPlaced schema) (pieces_line b)
pieces-placed schema true = (tt, tt)
pieces-placed schema false = tt

then-placed : (schema : List Table) (b : Bool) (marks : List Mark) → ArePlacedMarks schema marks → ArePlacedMarks schema (marks_then b marks)
then-placed schema true marks all = tt
then-placed schema false marks all = all

details-placed : (b : Basis) (size : Class → ℕ) (c : Client) (q : Query) (e : Explanation) → ArePlacedMarks b.schema c.marks → AllByRecursion (IsPlacedPart b.schema) q.parts
    → Explains b size c q e → AllByRecursion (IsPlaced b.schema) (detail_lines e)
details-placed b size c q e all own is =
    let parts = parts-placed b.schema (marks_then e.pieces c.marks) c.queries q.parts e.parts (then-placed b.schema e.pieces c.marks all) own is.parts in
    let victims = victims-placed b.limits.policy b.schema size c.queries c.marks 1 e.victims all is.victims in
    all-append (IsPlaced b.schema) (pieces_line e.pieces) (flat_map part_lines e.parts ++ victim_lines 1 e.victims) (pieces-placed b.schema e.pieces)
    (all-append (IsPlaced b.schema) (flat_map part_lines e.parts) (victim_lines 1 e.victims) parts victims)

-- what a text asks
abbrev pub IsPlacedText : List Table → Result Query Fault → Type 0
IsPlacedText schema (Ok q) = AllByRecursion (IsPlacedPart schema) q.parts
IsPlacedText schema (Err fault) = Unit {0}

pub explain-placed : (b : Basis) (size : Class → ℕ) (c : Client) (n : ℕ) (text : Result Query Fault) (result : Result Explanation Fault) → ArePlacedMarks b.schema c.marks
    → IsPlacedText b.schema text → ExplainStep b size c text result → AllByRecursion (IsPlaced b.schema) (explain_lines n result)
explain-placed b size c n text result all own (refused fault) = (tt, tt)
explain-placed b size c n text result all own (explained q e is) =
    all-append (IsPlaced b.schema) (detail_lines e) (line.Explained n e.version ∷ []) (details-placed b size c q e all own is) (tt, tt)
