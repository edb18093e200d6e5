use Rattle.std.proofs.Common.{◌≡◌, ◌++◌, ◌+◌, drop, length, map, true}
use Rattle.std.specs.Prelude.{Ok, ◌==◌}
use Rattle.std.specs.List.{list_all}
use Rattle.csv.specs.Records.{fields_of}
use Rattle.sr_query.specs.Binding.{◌>>=◌}
use Rattle.sr_load.specs.Loading.{rows_from}
use Rattle.sr_load.proofs.load.rows_from.Given as goal

abbrev pub invariant-loop-i : goal.invariant-loop-i
invariant-loop-i l = record {
  decided : rows_from l.table l.columns 1 (map fields_of l.records)
      ≡ (rows_from l.table l.columns (l.i + 1) (map fields_of (drop l.i l.records)) >>= λ more. Ok (l.rows ++ more));
  widths : list_all (λ row. length row == length l.table.columns) l.rows ≡ true;
  number : length l.rows ≡ l.i;
}
