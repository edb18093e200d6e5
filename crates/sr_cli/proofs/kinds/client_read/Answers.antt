use Rattle.std.proofs.Common.{◌≡◌, refl, subst}
use Rattle.std.proofs.lemmas.Result.{on_ok_weaker, IfErr-weaker}
use Rattle.std.specs.Prelude.{Some}
use Rattle.sr_cli.specs.declared.report.Refusal.TheVariants.{Write}
use Rattle.sr_cli.specs.declared.stop.Stop.TheVariants.{Refused}
use Rattle.sr_cli.proofs.LeavesLemmas.{err-of}
use Rattle.sr_dial.specs.declared.ending.Ending.{Ending}
use Rattle.sr_cli.specs.Client.{EndsOver, StopsBy, ending_of}
use Rattle.sr_cli.proofs.ClientLemmas.{stops_by, stops_written}
use Rattle.sr_cli.proofs.kinds.client_read.Goals as goal

pub returns-in-Ok-clause-whole : goal.returns-in-Ok-clause-whole
returns-in-Ok-clause-whole g c =
    on_ok_weaker c.end_by.result
    (λ is. subst (λ (e : Ending). EndsOver _ g.H.Outside.linking g.H.Outside.writing g.H.Outside.IsSteady c.args.host.now c.run_kind.new.host c.args.files.now c.args.words.now e) is c.in-Ok.ensures.ends)
    c.end_by.ensures.whole

pub returns-in-Ok-clause-stopped : goal.returns-in-Ok-clause-stopped
returns-in-Ok-clause-stopped g c =
    IfErr-weaker c.end_by.result (λ why. ending_of why ≡ Some c.in-Ok.ending) (StopsBy _ g.H.Outside.linking g.H.Outside.writing g.H.Outside.IsSteady c.args.host.now c.run_kind.new.host c.args.files.now c.args.words.now)
    (λ why is. stops_by (g.H.Outside.IsSteady c.args.host.now) c.args.files.now.schema c.args.files.now.script c.args.words.now _ _ _ _ c.in-Ok.ending why is c.in-Ok.ensures.ends) c.end_by.ensures.stopped

pub returns-in-Ok-clause-steady_writes : goal.returns-in-Ok-clause-steady_writes
returns-in-Ok-clause-steady_writes g c = λ steady failed.
    stops_written c.in-Ok.ending (Refused Write) (c.in-Ok.ensures.steady_writes steady)
    (err-of (λ why. ending_of why ≡ Some c.in-Ok.ending) c.end_by.result (Refused Write) c.end_by.ensures.stopped failed) refl
