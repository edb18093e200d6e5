use Rattle.std.proofs.Common.{◌≡◌, drop}
use Rattle.std.specs.List.{list_all}
use Rattle.sr_session.specs.Misfits.{tell_suits}
use Rattle.sr_client.proofs.misfit.all_suit.Given as goal

abbrev pub invariant-loop-tell : goal.invariant-loop-tell
invariant-loop-tell l = list_all (tell_suits l.schema) (drop l.tell-index l.told) ≡ list_all (tell_suits l.schema) l.told
