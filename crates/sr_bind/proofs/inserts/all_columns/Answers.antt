use Rattle.std.proofs.Common.{◌<◌, length, arith}
use Rattle.sr_query.specs.Writes.{numbers_from}
use Rattle.sr_bind.proofs.Writing.{one_number_more, are_columns_more}
use Rattle.sr_bind.proofs.inserts.all_columns.Goals as goal

pub loop-column-preserved : goal.loop-column-preserved
loop-column-preserved c =
    let i = c.loop-column.column in
    let table = c.args.table.now in
    let within : i < length table.columns = omega arith in
    let pushed = c.in_ok-push.ensures.pushed in
    record {
      all = one_number_more i table.columns c.loop-column.columns c.push.new.self (numbers_from 0 table.columns) within c.loop-column.invariant.all pushed;
      within = are_columns_more table c.loop-column.columns c.push.new.self i within c.loop-column.invariant.within pushed;
    }
