-- What an answer makes of the marks, the stamps and the regions.
use Rattle.std.proofs.Common.{◌≡◌, ℕ, true, List, ◌++◌, ap, subst, map, ◌∙◌}
use Rattle.sr_cell.specs.declared.cause.Cause.TheVariants.{Absorbed}
use Rattle.sr_cell.specs.declared.table.Table.{Table}
use Rattle.sr_cell.specs.Columns.{table_at}
use Rattle.sr_box.specs.Corners.{have_first}
use Rattle.sr_history.specs.declared.mark.Mark.{Mark}
use Rattle.sr_history.specs.Marks.{is_held, with_marks}
use Rattle.sr_history.specs.Classes.{Numbered, stamp}
use Rattle.sr_history.specs.Drops.{Absorbs}
use Rattle.sr_history.proofs.Marking.{with_marks-append}
use Rattle.sr_query.specs.declared.query.Part.{Part}
use Rattle.sr_region.specs.declared.region.Region.{Region}
use Rattle.sr_store.specs.declared.store.Arrival.{Arrival}
use Rattle.sr_store.specs.Classes.{Keeps}
use Rattle.sr_store.specs.Stores.{drop_of}
use Rattle.sr_store.specs.Answered.{held_of, flagged, IsRenewed}
use Rattle.sr_store.proofs.Stepping.{AreStampsAfter, answered_keeps, answered_absorbs}

-- each table has a first point
abbrev pub HaveFirst : List Table → Type 0
HaveFirst schema = (t : ℕ) → have_first (table_at schema t).columns ≡ true

-- what was asked is held, the absorbed classes are dropped, and the regions keep what is held then
pub record IsRenewal (schema : List Table) (arrivals : List Arrival) (new : List Region) (marks before : List Mark) (queries : List Numbered) : Type 0 where
  pub absorbed : List Mark
  pub absorbs : Absorbs schema (with_marks before (map held_of arrivals)) queries absorbed
  pub all : marks ≡ map held_of arrivals ++ absorbed
  pub keeps : Keeps schema (is_held (with_marks (with_marks before (map held_of arrivals)) absorbed)) (stamp queries) new

pub renewal : (schema : List Table) (number : ℕ) (parts : List Part) (arrivals : List Arrival) (old new : List Region) (marks before : List Mark) (queries after : List Numbered)
    → HaveFirst schema → IsRenewed schema number parts arrivals old new marks → Keeps schema (is_held before) (stamp queries) old → AreStampsAfter schema number parts queries after
    → IsRenewal schema arrivals new marks before after
renewal schema number parts arrivals old new marks before queries after first r keeps same =
    let absorbed : List Mark = map (drop_of Absorbed) (flagged true r.flags r.all) in
    record {
      absorbed = absorbed;
      absorbs = answered_absorbs schema number parts arrivals old new marks r before queries after same keeps first;
      all = r.marks_are;
      keeps = subst (λ ms. Keeps schema (is_held ms) (stamp after) new) (ap (with_marks before) r.marks_are ∙ with_marks-append before (map held_of arrivals) absorbed)
          (answered_keeps schema number parts arrivals old new marks r before queries after same keeps);
    }
