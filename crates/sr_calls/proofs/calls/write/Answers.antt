use Rattle.std.proofs.Common.{ap}
use Rattle.sr_world.proofs.ClientLemmas.{same-step}
use Rattle.sr_calls.proofs.HoldLemmas.{same_ready}
use Rattle.sr_calls.proofs.StepLemmas.{write_makes, write_sendable}
use Rattle.sr_calls.proofs.calls.write.Goals as goal

pub returns-clause-made : goal.returns-clause-made
returns-clause-made c = λ keeps past stands.
    let sql = c.args.sql.now in
    write_makes c.args.client.now c.write.new.self sql c.in_ok-step.step c.in_ok-lines.lines c.done_with.result (λ long. let t = c.in_ok-step.ensures.too_long long in (same-step _ _ t.0, t.1)) c.in_ok-step.ensures.writes c.write.ensures.stays (ap (λ s. s.regions) c.write.ensures.held)
    (λ o says. record { lines = c.in_ok-lines.ensures.lines sql o says; sent = c.in_ok-lines.ensures.sent sql o says }) c.in_ok-lines.ensures.refused c.done_with.ensures keeps past stands

pub returns-clause-sendable : goal.returns-clause-sendable
returns-clause-sendable c =
    let sql = c.args.sql.now in
    write_sendable c.args.client.now c.write.new.self sql c.in_ok-step.step c.in_ok-lines.lines c.done_with.result (λ long. let t = c.in_ok-step.ensures.too_long long in (same-step _ _ t.0, t.1)) c.in_ok-step.ensures.writes c.write.ensures.stays (ap (λ s. s.regions) c.write.ensures.held)
    (λ o says. record { lines = c.in_ok-lines.ensures.lines sql o says; sent = c.in_ok-lines.ensures.sent sql o says }) c.in_ok-lines.ensures.refused c.done_with.ensures c.requires.ready.0 c.in_ok-step.ensures.sends

pub returns-clause-ready : goal.returns-clause-ready
returns-clause-ready c = same_ready c.args.client.now c.write.new.self c.requires.ready c.write.ensures.held c.write.ensures.stands c.write.ensures.stays
