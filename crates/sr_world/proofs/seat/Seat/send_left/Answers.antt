use Rattle.std.proofs.Common.{◌≡◌, ◌∙◌, [], ◌∷◌, ap, refl}
use Rattle.sr_server.specs.declared.outbox.Outbox.{Outbox}
use Rattle.sr_server.specs.Outboxes.{left_on}
use Rattle.sr_world.specs.declared.seat.Seat.{Seat}
use Rattle.sr_world.proofs.GivenLemmas.{all-given, next-sendable, none-given, one-more}
use Rattle.sr_world.proofs.seat.Seat.send_left.Goals as goal

pub messages-init : goal.messages-init
messages-init c = record { so_far = none-given c.args.self.now (left_on c.args.outbox.now c.args.server.now); others = refl; rest = refl }

pub push-pushed-requires : goal.push-pushed-requires
push-pushed-requires c =
    let first : left_on c.messages.outbox c.args.server.now ≡ c.in-Some.message ∷ left_on c.next.new.self c.args.server.now = rw c.in-Some.is at c.in_ok-next.ensures.given in
    record { sendable = next-sendable c.args.self.now c.messages.self _ _ _ c.in-Some.message c.messages.frames c.messages.invariant.so_far first c.requires.sendable }

pub messages-preserved : goal.messages-preserved
messages-preserved c =
    let first : left_on c.messages.outbox c.args.server.now ≡ c.in-Some.message ∷ left_on c.next.new.self c.args.server.now = rw c.in-Some.is at c.in_ok-next.ensures.given in
    record {
      so_far = one-more c.args.self.now c.messages.self _ _ _ _ c.in-Some.message c.messages.frames c.messages.invariant.so_far first
          (ap (λ ms. record c.messages.self { to_client = ms }) c.in_ok-pushed-in-Some.ensures.pushed);
      others = c.next.ensures.others ∙ ap (λ (o : Outbox). record o { left = c.next.new.self.left }) c.messages.invariant.others;
      rest = ap (λ (s : Seat). record s { to_client = c.push-pushed.new.self }) c.messages.invariant.rest;
    }

pub returns-in-None-clause-sent : goal.returns-in-None-clause-sent
returns-in-None-clause-sent c = (all-given c.args.self.now c.messages.self _ _ c.messages.frames c.messages.invariant.so_far (c.in_ok-next.ensures.none c.in-None.is)).seat

pub returns-in-None-clause-frames : goal.returns-in-None-clause-frames
returns-in-None-clause-frames c = (all-given c.args.self.now c.messages.self _ _ c.messages.frames c.messages.invariant.so_far (c.in_ok-next.ensures.none c.in-None.is)).count_is
