use Rattle.std.proofs.Common.{◌≡◌, drop}
use Rattle.std.specs.List.{list_all}
use Rattle.sr_session.specs.Refusals.{has_no_nullable}
use Rattle.sr_server.proofs.misfit.all_without_nullable.Given as goal

abbrev pub invariant-loop-table : goal.invariant-loop-table
invariant-loop-table l = list_all has_no_nullable l.tables ≡ list_all has_no_nullable (drop l.table-index l.tables)
