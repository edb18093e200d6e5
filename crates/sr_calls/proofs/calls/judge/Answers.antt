use Rattle.sr_calls.proofs.HoldLemmas.{given_ready, query_ready}
use Rattle.sr_calls.proofs.StepLemmas.{query_few, query_makes, query_sendable}
use Rattle.sr_calls.proofs.calls.judge.Goals as goal

pub told_of_query-requires : goal.told_of_query-requires
told_of_query-requires c =
    let meant = c.requires.meant in
    record { few = query_few c.args.client.now c.query.new.self meant.0 c.in_ok-step.step (c.in_ok-step.ensures.queries meant.0 meant.1) c.requires.ready.0 c.in_ok-step.ensures.sends }

pub returns-clause-made : goal.returns-clause-made
returns-clause-made c = λ past meaning stands means.
    query_makes c.args.keeps c.args.client.now c.query.new.self meaning c.in_ok-step.step c.in_ok-lines.lines c.in_ok-answer.answer c.done_with.result (c.in_ok-step.ensures.queries meaning means) c.query.ensures.stays
    (λ p o says. record { lines = c.in_ok-lines.ensures.lines p o says; sent = c.in_ok-lines.ensures.sent p o says }) c.in_ok-answer.ensures c.done_with.ensures past stands

pub returns-clause-sendable : goal.returns-clause-sendable
returns-clause-sendable c =
    let meant = c.requires.meant in
    query_sendable c.args.keeps c.args.client.now c.query.new.self meant.0 c.in_ok-step.step c.in_ok-lines.lines c.in_ok-answer.answer c.done_with.result (c.in_ok-step.ensures.queries meant.0 meant.1) c.query.ensures.stays
    (λ p o says. record { lines = c.in_ok-lines.ensures.lines p o says; sent = c.in_ok-lines.ensures.sent p o says }) c.in_ok-answer.ensures c.done_with.ensures c.requires.ready.0 c.in_ok-step.ensures.sends

pub returns-clause-ready : goal.returns-clause-ready
returns-clause-ready c =
    let meant = c.requires.meant in
    query_ready c.args.client.now c.query.new.self meant.0 c.in_ok-step.step c.requires.ready (c.in_ok-step.ensures.queries meant.0 meant.1) c.query.ensures.stays

pub returns-in_err-lines-clause-ready : goal.returns-in_err-lines-clause-ready
returns-in_err-lines-clause-ready c =
    let meant = c.requires.meant in
    query_ready c.args.client.now c.query.new.self meant.0 c.in_ok-step.step c.requires.ready (c.in_ok-step.ensures.queries meant.0 meant.1) c.query.ensures.stays

pub returns-in_err-answer-clause-ready : goal.returns-in_err-answer-clause-ready
returns-in_err-answer-clause-ready c =
    let meant = c.requires.meant in
    query_ready c.args.client.now c.query.new.self meant.0 c.in_ok-step.step c.requires.ready (c.in_ok-step.ensures.queries meant.0 meant.1) c.query.ensures.stays

pub returns-in_err-step-clause-ready : goal.returns-in_err-step-clause-ready
returns-in_err-step-clause-ready c = given_ready c.args.client.now c.query.new.self c.requires.ready c.in_err-step.ensures.nothing_left c.query.ensures.stands c.query.ensures.stays
