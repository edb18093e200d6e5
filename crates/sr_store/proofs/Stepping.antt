-- What an answer and drops make of marks and stamps.
use Rattle.std.proofs.Common.{◌≡◌, ℕ, ◌+◌, true, false, List, [], ◌∷◌, ◌++◌, take, drop, map, refl, sym, ap, subst, ◌∙◌, arith}
use Rattle.std.specs.Prelude.{Bool, ◌&&◌, ◌||◌, ◌==◌, if◌then◌else◌, Some, slice_get}
use Rattle.std.proofs.lemmas.Bool.Decides.{nat_tests}
use Rattle.std.proofs.lemmas.List.Elements.{All-nil}
use Rattle.sr_cell.specs.declared.table.Table.{Table}
use Rattle.sr_cell.specs.declared.cause.Cause.{Cause}
use Rattle.sr_cell.specs.declared.cause.Cause.TheVariants.{Absorbed}
use Rattle.sr_cell.specs.Cells.{Row}
use Rattle.sr_cell.specs.Columns.{table_at, is_point}
use Rattle.sr_box.specs.Corners.{have_first}
use Rattle.sr_query.specs.declared.query.Part.{Part}
use Rattle.sr_history.specs.declared.mark.Mark.{Mark}
use Rattle.sr_history.specs.Marks.{is_held, with_marks}
use Rattle.sr_history.specs.Classes.{Numbered, stamp}
use Rattle.sr_history.specs.Drops.{Absorbs}
use Rattle.sr_history.proofs.Marking.{with_marks-append}
use Rattle.sr_region.specs.declared.region.Region.{Region}
use Rattle.sr_store.specs.declared.store.Arrival.{Arrival}
use Rattle.sr_store.specs.Classes.{Stamps, occurs, IsStamped, Keeps, restamped}
use Rattle.sr_store.specs.Stores.{drop_of, IsAbsorbedIn}
use Rattle.sr_store.specs.Answered.{arrives, held_of, AreFlags, flagged, IsRenewed}
use Rattle.sr_store.proofs.Dropping.{AreFlags_length, kept_keeps, evicted_keeps}
use Rattle.sr_store.proofs.Covering.{held_more, held_less, keeps_same}
use Rattle.sr_store.proofs.Absorbing.{absorbs_is}

-- what stays after drops is what the marks say with them
less-keeps : (schema : List Table) (cause : Cause) (marks : List Mark) (stamps : Stamps) (dropped left : List Region)
    → Keeps schema (λ t a p. is_held marks t a p && occurs dropped t a p == 0) stamps left → Keeps schema (is_held (with_marks marks (map (drop_of cause) dropped))) stamps left
less-keeps schema cause marks stamps dropped left k =
    keeps_same schema (λ t a p. is_held marks t a p && occurs dropped t a p == 0) (is_held (with_marks marks (map (drop_of cause) dropped))) stamps stamps left
    (λ t a p point. sym (held_less cause marks dropped t a p)) (λ t a p point. refl) k

pub flagged_keeps : (schema : List Table) (cause : Cause) (marks : List Mark) (stamps : Stamps) (P : Region → Type 0) (fs : List Bool) (gs : List Region) → AreFlags P fs gs
    → Keeps schema (is_held marks) stamps gs → Keeps schema (is_held (with_marks marks (map (drop_of cause) (flagged true fs gs)))) stamps (flagged false fs gs)
flagged_keeps schema cause marks stamps P fs gs flags k =
    less-keeps schema cause marks stamps (flagged true fs gs) (flagged false fs gs) (kept_keeps schema (is_held marks) stamps fs gs (AreFlags_length P fs gs flags) k)

pub evicted_marks : (schema : List Table) (cause : Cause) (marks : List Mark) (stamps : Stamps) (n : ℕ) (gs : List Region) (g : Region) → slice_get gs n ≡ Some g
    → Keeps schema (is_held marks) stamps gs → Keeps schema (is_held (with_marks marks (drop_of cause g ∷ []))) stamps (take n gs ++ drop (n + 1) gs)
evicted_marks schema cause marks stamps n gs g is k =
    less-keeps schema cause marks stamps (g ∷ []) (take n gs ++ drop (n + 1) gs) (evicted_keeps schema (is_held marks) stamps n gs g is k)

pub dropped_marks : (schema : List Table) (cause : Cause) (marks : List Mark) (stamps : Stamps) (gs : List Region)
    → Keeps schema (is_held marks) stamps gs → Keeps schema (is_held (with_marks marks (map (drop_of cause) gs))) stamps []
dropped_marks schema cause marks stamps gs k = less-keeps schema cause marks stamps gs [] (record {
  points = λ t a p point. go (is_held marks t a p) (occurs gs t a p) (k.points t a p point);
  stamped = All-nil (IsStamped schema stamps);
})
  where
    go : (h : Bool) (n : ℕ) → n ≡ (if h then 1 else 0) → occurs [] 0 0 [] ≡ (if h && n == 0 then 1 else 0)
    go true n e = grind (arith, nat_tests)
    go false n e = refl

-- ---- an answer

-- the stamps after it, on the points of each table
abbrev pub AreStampsAfter : List Table → ℕ → List Part → List Numbered → List Numbered → Type 0
AreStampsAfter schema number parts before after =
    (t a : ℕ) (p : Row) → is_point (table_at schema t).columns p ≡ true → restamped number parts (stamp before) t a p ≡ stamp after t a p

module _ (schema : List Table) (number : ℕ) (parts : List Part) (arrivals : List Arrival) (old new : List Region) (more : List Mark) (h : IsRenewed schema number parts arrivals old new more)
    (marks : List Mark) (before after : List Numbered) (stamps : AreStampsAfter schema number parts before after) (k : Keeps schema (is_held marks) (stamp before) old) where
  -- all regions, before any is dropped
  all-keep : Keeps schema (is_held (with_marks marks (map held_of arrivals))) (stamp after) h.all
  all-keep =
      keeps_same schema (λ t a p. is_held marks t a p || arrives arrivals t a p) (is_held (with_marks marks (map held_of arrivals))) (restamped number parts (stamp before)) (stamp after) h.all
      (λ t a p point. sym (held_more marks arrivals t a p)) stamps (h.keeps (is_held marks) (stamp before) k)

  pub answered_keeps : Keeps schema (is_held (with_marks marks more)) (stamp after) new
  answered_keeps =
      let left = flagged_keeps schema Absorbed (with_marks marks (map held_of arrivals)) (stamp after) (IsAbsorbedIn schema h.all) h.flags h.all h.absorbed all-keep in
      let same : with_marks marks more ≡ with_marks (with_marks marks (map held_of arrivals)) (map (drop_of Absorbed) (flagged true h.flags h.all)) =
      ap (with_marks marks) h.marks_are ∙ with_marks-append marks (map held_of arrivals) (map (drop_of Absorbed) (flagged true h.flags h.all)) in
      subst (λ ms. Keeps schema (is_held ms) (stamp after) new) (sym same)
      (subst (Keeps schema (is_held (with_marks (with_marks marks (map held_of arrivals)) (map (drop_of Absorbed) (flagged true h.flags h.all)))) (stamp after)) (sym h.left) left)

  -- just the absorbed classes are dropped
  pub answered_absorbs : ((t : ℕ) → have_first (table_at schema t).columns ≡ true) → Absorbs schema (with_marks marks (map held_of arrivals)) after (map (drop_of Absorbed) (flagged true h.flags h.all))
  answered_absorbs first = absorbs_is schema (with_marks marks (map held_of arrivals)) after h.flags h.all first h.each h.order all-keep h.absorbed
