use Rattle.std.proofs.Common.{◌≡◌, refl}
use Rattle.std.proofs.lemmas.Result.{on_ok_weaker, IfErr-weaker}
use Rattle.std.specs.Prelude.{Some}
use Rattle.sr_cli.specs.Client.{ending_of}
use Rattle.sr_cli.specs.Image.{StopsQuietly}
use Rattle.sr_cli.specs.declared.report.Refusal.TheVariants.{Write}
use Rattle.sr_cli.specs.declared.stop.Stop.TheVariants.{Refused}
use Rattle.sr_cli.proofs.ClientLemmas.{stops_written}
use Rattle.sr_cli.proofs.ImageLemmas.{quietly-stopped}
use Rattle.sr_cli.proofs.LeavesLemmas.{err-of}
use Rattle.sr_cli.proofs.save.save_quiet.Goals as goal

pub returns-in-Ok-clause-whole : goal.returns-in-Ok-clause-whole
returns-in-Ok-clause-whole g c = on_ok_weaker c.end_by.result (λ is. (is, c.in-Ok.ensures.wrote)) c.end_by.ensures.whole

pub returns-in-Ok-clause-stopped : goal.returns-in-Ok-clause-stopped
returns-in-Ok-clause-stopped g c =
    let ending = c.args.quiet.ending in
    let before = g.K.Outside.writing c.args.sink.now in
    let after = g.K.Outside.writing c.write_left.new.sink in
    IfErr-weaker c.end_by.result (λ why. ending_of why ≡ Some ending) (StopsQuietly c.args.schema.now c.args.quiet.end ending before after)
    (λ why is. quietly-stopped c.args.schema.now c.args.quiet.end ending before after why is c.requires.quiet c.in-Ok.ensures.wrote) c.end_by.ensures.stopped

pub returns-in-Ok-clause-steady_writes : goal.returns-in-Ok-clause-steady_writes
returns-in-Ok-clause-steady_writes g c = λ steady failed.
    stops_written c.args.quiet.ending (Refused Write) c.requires.quiet
    (err-of (λ why. ending_of why ≡ Some c.args.quiet.ending) c.end_by.result (Refused Write) c.end_by.ensures.stopped failed) refl

pub returns-in-Err-Refused-clause-steady_writes : goal.returns-in-Err-Refused-clause-steady_writes
returns-in-Err-Refused-clause-steady_writes g c = λ steady failed. (rw c.in-Err-Refused.field-0-is at c.in-Err-Refused.ensures.steady_writes) steady refl
