use Rattle.std.proofs.Common.{◌≡◌, drop, []}
use Rattle.std.specs.Prelude.{IsTrue}
use Rattle.sr_query.specs.Writes.{columns_from}
use Rattle.sr_bind.specs.Written.{are_columns}
use Rattle.sr_bind.proofs.inserts.named_columns.Given as goal

abbrev pub invariant-loop-name : goal.invariant-loop-name
invariant-loop-name l = record {
  decided : columns_from l.table l.named (drop l.name-index l.names) ≡ columns_from l.table [] l.names;
  within : IsTrue (are_columns l.table l.named);
}
