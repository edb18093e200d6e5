use Rattle.std.proofs.Common.{◌≡◌, ◌∷◌, ◌+◌, ap, sym, ◌∙◌, arith}
use Rattle.std.specs.Vec.Iter.{into_iter_items}
use Rattle.sr_model.specs.SortedRows.{with_rows}
use Rattle.sr_tables.specs.Inserts.{fault_from}
use Rattle.sr_tables.proofs.Keeping.{fresh-step}
use Rattle.sr_tables.proofs.fresh.fresh_rows.Goals as goal

pub loop-row-preserved : goal.loop-row-preserved
loop-row-preserved c =
    let t = c.args.table.now in
    let key = t.key in
    let rows = c.args.rows.now.rows in
    let fresh = c.loop-row.fresh.rows in
    let row = c.in-Some.row in
    let number = c.loop-row.number in
    let after = into_iter_items c.next.new.self in
    let first : into_iter_items c.loop-row.row-iterator ≡ row ∷ after = c.in-Some.ensures.steps.0 in
    let new = c.in-Ok.ensures.added in
    record {
      keyed = c.in-Ok.ensures.keyed;
      same = ap (λ k. with_rows key k.rows after) new ∙ sym (ap (λ xs. with_rows key fresh xs) first) ∙ c.loop-row.invariant.same;
      fault = c.loop-row.invariant.fault ∙ ap (λ xs. fault_from t number (with_rows key rows fresh) xs) first
          ∙ fresh-step t number rows fresh after row c.in-Ok.ensures.apart c.in-Ok.ensures.faultless
          ∙ sym (ap (λ k. fault_from t (number + 1) (with_rows key rows k.rows) after) new);
      widths = let all = c.loop-row.invariant.widths in grind (arith, first, all);
      count = let all = c.loop-row.invariant.count in grind (arith, first, all);
    }
