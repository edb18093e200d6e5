use Rattle.std.proofs.Common.{◌≡◌, drop}
use Rattle.std.specs.List.{list_any}
use Rattle.sr_subs.specs.Subscription.{touches}
use Rattle.sr_server.proofs.due.some_touch.Given as goal

abbrev pub invariant-loop-change : goal.invariant-loop-change
invariant-loop-change l = list_any (touches l.subs) (drop l.change-index l.changes) ≡ list_any (touches l.subs) l.changes
