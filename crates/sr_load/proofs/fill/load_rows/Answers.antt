use Rattle.std.proofs.Common.{◌≡◌, ◌∷◌, ◌+◌, ap, ◌∙◌, arith}
use Rattle.std.specs.Vec.Iter.{into_iter_items}
use Rattle.sr_cell.specs.Columns.{table_at}
use Rattle.sr_model.specs.Loads.{rows_loaded}
use Rattle.sr_model.specs.Queries.{rows_at}
use Rattle.sr_model.specs.Statements.{with_table}
use Rattle.sr_load.proofs.Files.{one-loaded, one-loaded-length}
use Rattle.sr_load.proofs.fill.load_rows.Goals as goal

pub loop-row-preserved : goal.loop-row-preserved
loop-row-preserved c =
    let schema = c.args.tables.now.schema in
    let t = c.args.table in
    let tables = c.loop-row.tables in
    let row = c.in-Some.row in
    let n = c.loop-row.number + 1 in
    let after = into_iter_items c.next.new.self in
    let first : into_iter_items c.loop-row.row-iterator ≡ row ∷ after = c.in-Some.ensures.steps.0 in
    let loaded = rw c.loop-row.invariant.schema at c.in-Ok.ensures.loaded in
    record {
      same = c.loop-row.invariant.same
          ∙ ap (λ rows. with_table tables.rows t (rows_loaded (table_at schema t) n rows (rows_at tables.rows t))) first
          ∙ one-loaded schema t n row after tables.rows c.load_record.new.tables.rows c.loop-row.invariant.there loaded;
      schema = c.in-Ok.ensures.schema ∙ c.loop-row.invariant.schema;
      there = let same = one-loaded-length schema t row tables.rows c.load_record.new.tables.rows loaded in omega (arith, same, c.loop-row.invariant.there);
      widths = let all = c.loop-row.invariant.widths in grind (arith, first, all);
      count = let all = c.loop-row.invariant.count in grind (arith, first, all);
    }
