-- A region with no point of the parts.
use Rattle.std.proofs.Common.{◌≡◌, ℕ, ◌∙◌, Bool, true, false, List, sym, arith}
use Rattle.std.specs.Prelude.{◌&&◌}
use Rattle.sr_cell.specs.declared.table.Table.{Table}
use Rattle.sr_cell.specs.Columns.{table_at}
use Rattle.sr_box.specs.Points.{in_any}
use Rattle.sr_query.specs.declared.query.Part.{Part}
use Rattle.sr_region.specs.declared.region.Region.{Region}
use Rattle.sr_store.specs.Classes.{Stamps, IsStamped, touches, restamped}
use Rattle.sr_store.specs.Renewing.{touching}
use Rattle.sr_store.specs.Making.{HaveNoCommon}
use Rattle.sr_store.proofs.Touching.{touching-is}

second : (b c : Bool) → (b && c) ≡ false → b ≡ true → c ≡ false
second b c e f = grind arith

-- it keeps its stamp
pub still_stamped : (schema : List Table) (number : ℕ) (parts : List Part) (g : Region) (stamps : Stamps)
    → HaveNoCommon (table_at schema g.table).columns g.rects (touching parts g.table g.attrs) → IsStamped schema stamps g → IsStamped schema (restamped number parts stamps) g
still_stamped schema number parts g stamps none one p point inside =
    let out : touches parts g.table g.attrs p ≡ false = sym (touching-is parts g.table g.attrs p) ∙ second (in_any g.rects p) (in_any (touching parts g.table g.attrs) p) (none p point) inside in
    rw out (one p point inside)
