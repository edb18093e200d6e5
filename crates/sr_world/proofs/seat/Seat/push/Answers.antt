use Rattle.std.proofs.Common.{refl, subst, sym, ◌∷◌, []}
use Rattle.sr_client.proofs.Results.{if_ok}
use Rattle.sr_script.specs.declared.line.TraceLine.TheVariants as line
use Rattle.sr_server.specs.declared.server.Server.{Server}
use Rattle.sr_lines.specs.Events.{DoPush}
use Rattle.sr_runs.specs.Runs.{Acts}
use Rattle.sr_world.specs.Seats.{SeatGoes}
use Rattle.sr_world.proofs.ServeLemmas.{push-is-closed, push-some}
use Rattle.sr_world.proofs.seat.Seat.push.Goals as goal

pub returns-in-None-clause-goes : goal.returns-in-None-clause-goes
returns-in-None-clause-goes c =
    let old = c.args.self.now in
    let server = c.args.server.now in
    let none = c.in_ok-push.ensures.none.0 (rw c.in-None.is refl) in
    if_ok (SeatGoes (λ n s. Acts s (DoPush n)) old server old c.push.new.self) c.one_line.result (line.PushClosed old.client.id ∷ []) c.one_line.ensures
    (subst (λ (x : Server). SeatGoes (λ n s. Acts s (DoPush n)) old server old x (line.PushClosed old.client.id ∷ [])) (sym (c.push.ensures.same none)) (push-is-closed old server none))

pub returns-in_ok-frames-in-Some-clause-goes : goal.returns-in_ok-frames-in-Some-clause-goes
returns-in_ok-frames-in-Some-clause-goes c =
    let old = c.args.self.now in
    let server = c.args.server.now in
    let new = c.send_back.new.self in
    if_ok (SeatGoes (λ n s. Acts s (DoPush n)) old server new c.push.new.self) c.one_line-in-Some.result _ c.one_line-in-Some.ensures
    (rw c.in_ok-frames-in-Some.ensures.frames
    (push-some old new server c.push.new.self c.in-Some.sent c.in_ok-push.field-0 c.in-Some.is c.in_ok-push.ensures.none c.in_ok-push.ensures.sent
    c.in_ok-push.ensures.session c.push.ensures.stands c.in_ok-frames-in-Some.ensures.sent))
