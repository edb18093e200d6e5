use Rattle.sr_calls.proofs.HoldLemmas.{given_ready, took_ready}
use Rattle.sr_calls.proofs.TakeLemmas.{fits_message, good_took, refuses_message, take_few, take_makes, take_sendable}
use Rattle.sr_calls.proofs.calls.take.Goals as goal

pub returns-in-Bad-clause-taken : goal.returns-in-Bad-clause-taken
returns-in-Bad-clause-taken c = λ past stands says lent.
    refuses_message c.args.client.now c.args.message c.in-Bad.why (λ meaning. (c.in_ok-took.ensures.bad c.in-Bad.why meaning).0 c.in-Bad.is) past stands

pub told_of_took-requires : goal.told_of_took-requires
told_of_took-requires c =
    let good = good_took c.in_ok-took.took c.in_default.not-Bad in
    record { taken = good; few = take_few c.args.client.now c.take.new.self c.args.message c.in_ok-took.took c.in_ok-took.ensures.takes good c.requires.ready.0 c.in_ok-took.ensures.sends }

pub returns-in_ok-done-in_default-clause-taken : goal.returns-in_ok-done-in_default-clause-taken
returns-in_ok-done-in_default-clause-taken c = λ past stands says lent.
    let lines = c.in_ok-lines-in_default in
    let answer = c.in_ok-answer-in_default in (
      take_makes c.args.keeps c.args.client.now c.take.new.self c.args.message c.in_ok-took.took lines.lines answer.answer c.in_ok-done-in_default.done c.in_ok-took.ensures.takes (good_took c.in_ok-took.took c.in_default.not-Bad) c.take.ensures.stays
          (λ o said. record { lines = lines.ensures.lines o said; sent = lines.ensures.sent o said }) answer.ensures c.in_ok-done-in_default.ensures past stands says lent,
      fits_message c.args.client.now c.args.message c.in_ok-took.took (λ why meaning. (c.in_ok-took.ensures.bad why meaning).1) c.in_default.not-Bad past stands,
    )

pub returns-in_ok-done-in_default-clause-sendable : goal.returns-in_ok-done-in_default-clause-sendable
returns-in_ok-done-in_default-clause-sendable c =
    let lines = c.in_ok-lines-in_default in
    take_sendable c.args.keeps c.args.client.now c.take.new.self c.args.message c.in_ok-took.took lines.lines c.in_ok-answer-in_default.answer c.in_ok-done-in_default.done c.in_ok-took.ensures.takes (good_took c.in_ok-took.took c.in_default.not-Bad) c.take.ensures.stays
    (λ o said. record { lines = lines.ensures.lines o said; sent = lines.ensures.sent o said }) c.in_ok-answer-in_default.ensures c.in_ok-done-in_default.ensures c.requires.ready.0 c.in_ok-took.ensures.sends

pub returns-in_err-took-clause-ready : goal.returns-in_err-took-clause-ready
returns-in_err-took-clause-ready c = given_ready c.args.client.now c.take.new.self c.requires.ready c.in_err-took.ensures.nothing_left c.take.ensures.stands c.take.ensures.stays

pub returns-in-Bad-clause-ready : goal.returns-in-Bad-clause-ready
returns-in-Bad-clause-ready c =
    took_ready c.args.client.now c.take.new.self c.in_ok-took.took c.args.message c.requires.ready c.in_ok-took.ensures.bad c.in_ok-took.ensures.takes c.in_ok-took.ensures.bad_left c.take.ensures.stays

pub returns-in_ok-done-in_default-clause-ready : goal.returns-in_ok-done-in_default-clause-ready
returns-in_ok-done-in_default-clause-ready c =
    took_ready c.args.client.now c.take.new.self c.in_ok-took.took c.args.message c.requires.ready c.in_ok-took.ensures.bad c.in_ok-took.ensures.takes c.in_ok-took.ensures.bad_left c.take.ensures.stays

pub returns-in_err-answer-in_default-clause-ready : goal.returns-in_err-answer-in_default-clause-ready
returns-in_err-answer-in_default-clause-ready c =
    took_ready c.args.client.now c.take.new.self c.in_ok-took.took c.args.message c.requires.ready c.in_ok-took.ensures.bad c.in_ok-took.ensures.takes c.in_ok-took.ensures.bad_left c.take.ensures.stays

pub returns-in_err-lines-in_default-clause-ready : goal.returns-in_err-lines-in_default-clause-ready
returns-in_err-lines-in_default-clause-ready c =
    took_ready c.args.client.now c.take.new.self c.in_ok-took.took c.args.message c.requires.ready c.in_ok-took.ensures.bad c.in_ok-took.ensures.takes c.in_ok-took.ensures.bad_left c.take.ensures.stays

pub returns-in_err-done-in_default-clause-ready : goal.returns-in_err-done-in_default-clause-ready
returns-in_err-done-in_default-clause-ready c =
    took_ready c.args.client.now c.take.new.self c.in_ok-took.took c.args.message c.requires.ready c.in_ok-took.ensures.bad c.in_ok-took.ensures.takes c.in_ok-took.ensures.bad_left c.take.ensures.stays
