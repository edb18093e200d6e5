use Rattle.std.proofs.Common.{◌≡◌, drop, [], true}
use Rattle.std.specs.Prelude.{Some}
use Rattle.csv.specs.Records.{fields_of}
use Rattle.sr_load.specs.Loading.{columns_from}
use Rattle.sr_load.specs.Within.{are_within}
use Rattle.sr_load.proofs.header.named_columns.Given as goal

abbrev pub invariant-loop-i : goal.invariant-loop-i
invariant-loop-i l = record {
  named : columns_from l.table (Some l.named) (drop l.i (fields_of l.names)) ≡ columns_from l.table (Some []) (fields_of l.names);
  within : are_within l.table l.named ≡ true;
}
