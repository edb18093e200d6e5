use Rattle.std.proofs.Common.{◌≡◌, ◌++◌, drop, length}
use Rattle.std.specs.Prelude.{Ok}
use Rattle.csv.specs.Records.{fields_of}
use Rattle.sr_query.specs.Binding.{◌>>=◌}
use Rattle.sr_load.specs.Loading.{cells_of}
use Rattle.sr_load.proofs.load.cells_of.Given as goal

abbrev pub invariant-loop-i : goal.invariant-loop-i
invariant-loop-i l = record {
  decided : cells_of l.table l.number l.columns (fields_of l.raw)
      ≡ (cells_of l.table l.number (drop l.i l.columns) (drop l.i (fields_of l.raw)) >>= λ more. Ok (l.cells ++ more));
  alike : length l.cells ≡ l.i;
}
