use Rattle.std.proofs.Common.{◌≡◌, inl, refl, sym, subst}
use Rattle.std.specs.Prelude.{IfOk, OnErr}
use Rattle.sr_links.specs.Steps.{Resumed, WasCut}
use Rattle.sr_dial.specs.Calls.{Do}
use Rattle.sr_dial.specs.Courses.{Hands, BreaksOff}
use Rattle.sr_dial.specs.Following.{ahead_of}
use Rattle.sr_plan.specs.Plans.{Next}
use Rattle.sr_dial.specs.Runs.{none_taken}
use Rattle.sr_dial.proofs.DeedLemmas.{asked-deed, asked-text, cuts-task, does-deed, explains-text, resumes-task}
use Rattle.sr_dial.proofs.Results.{if-ok}
use Rattle.sr_dial.proofs.run.start_line.Goals as goal

pub begin-requires-clause-asks : goal.begin-requires-clause-asks
begin-requires-clause-asks g c = (Resumed, refl)

pub end-requires-clause-asks : goal.end-requires-clause-asks
end-requires-clause-asks g c = (WasCut, refl)

pub tell-requires : goal.tell-requires
tell-requires g c = record { means = asked-text (g.C.Asks.setting c.args.client.now).schema c.args.line.event _ c.in-Explain.query c.in-Explain.is c.requires.asks }

pub ask-requires-clause-asks : goal.ask-requires-clause-asks
ask-requires-clause-asks g c = asked-deed (g.C.Asks.setting c.args.client.now).schema c.args.line.event c.in_default.not-Resume c.in_default.not-Cut c.in_default.not-Explain c.requires.asks

pub returns-in-Resume-clause-started : goal.returns-in-Resume-clause-started
returns-in-Resume-clause-started g c k first s steady ahead further number failed task at same schema free is next =
    let resumed : task ≡ Do Resumed = resumes-task k.schema c.args.line.event _ task c.in-Resume.is is in
    if-ok _ _ c.begin.result (λ handed hands. subst (λ d. Hands _ g.C.Asks.stands g.C.Asks.lent g.C.Peer.is_of g.C.Hearer.has_told k handed s (ahead_of d further) c.args.line.number none_taken failed (g.H.Outside.linking c.begin.new.host) (g.H.Outside.writing c.begin.new.host) c.begin.new.feed c.begin.new.client) (sym resumed) hands)
    (c.begin.ensures.begun k first s steady ahead further number failed at same schema (inl free) refl (subst (λ d. ahead (g.C.Asks.lent c.args.client.now) ≡ Next c.args.line.number d further) resumed next))

pub returns-in-Cut-clause-started : goal.returns-in-Cut-clause-started
returns-in-Cut-clause-started g c k first s steady ahead further number failed task at same schema free is next =
    let cut : task ≡ Do WasCut = cuts-task k.schema c.args.line.event _ task c.in-Cut.is is in
    if-ok _ _ c.end.result (λ handed hands. subst (λ d. Hands _ g.C.Asks.stands g.C.Asks.lent g.C.Peer.is_of g.C.Hearer.has_told k handed s (ahead_of d further) c.args.line.number none_taken failed (g.H.Outside.linking c.end.new.host) (g.H.Outside.writing c.end.new.host) c.args.feed.now c.end.new.client) (sym cut) hands)
    (c.end.ensures.cut k first s steady ahead further number failed c.args.feed.now same schema free refl (subst (λ d. ahead (g.C.Asks.lent c.args.client.now) ≡ Next c.args.line.number d further) cut next))

pub returns-in-Explain-clause-started : goal.returns-in-Explain-clause-started
returns-in-Explain-clause-started g c k first s steady ahead further number failed task at same schema free is next =
    explains-text k.schema c.args.line.event _ c.in-Explain.query task
    (λ task. ahead (g.C.Asks.lent c.args.client.now) ≡ Next c.args.line.number task further → IfOk c.tell.result (λ handed. Hands _ g.C.Asks.stands g.C.Asks.lent g.C.Peer.is_of g.C.Hearer.has_told k handed s (ahead_of task further) c.args.line.number none_taken failed (g.H.Outside.linking c.tell.new.sink) (g.H.Outside.writing c.tell.new.sink) c.args.feed.now c.args.client.now))
    c.in-Explain.is is (λ text means on. c.tell.ensures.told k first s steady ahead further number failed c.args.feed.now text same schema free means on) next

pub returns-in_default-clause-started : goal.returns-in_default-clause-started
returns-in_default-clause-started g c k first s steady ahead further number failed task at same schema free is next =
    does-deed k.schema c.args.line.event task
    (λ task. ahead (g.C.Asks.lent c.args.client.now) ≡ Next c.args.line.number task further → IfOk c.ask.result (λ handed. Hands _ g.C.Asks.stands g.C.Asks.lent g.C.Peer.is_of g.C.Hearer.has_told k handed s (ahead_of task further) c.args.line.number none_taken failed (g.H.Outside.linking c.ask.new.host) (g.H.Outside.writing c.ask.new.host) c.args.feed.now c.ask.new.client))
    is c.in_default.not-Resume c.in_default.not-Cut c.in_default.not-Explain (λ deed is plain on. c.ask.ensures.asked k first s steady ahead further number failed c.args.feed.now deed same schema free is plain on) next

pub returns-in-Resume-clause-broken_off : goal.returns-in-Resume-clause-broken_off
returns-in-Resume-clause-broken_off g c k first s steady ahead further number failed task at same schema free is next =
    let resumed : task ≡ Do Resumed = resumes-task k.schema c.args.line.event _ task c.in-Resume.is is in
    c.begin.ensures.broken_off k first s steady ahead further number failed at same schema (inl free) refl (subst (λ d. ahead (g.C.Asks.lent c.args.client.now) ≡ Next c.args.line.number d further) resumed next)

pub returns-in-Cut-clause-broken_off : goal.returns-in-Cut-clause-broken_off
returns-in-Cut-clause-broken_off g c k first s steady ahead further number failed task at same schema free is next =
    let cut : task ≡ Do WasCut = cuts-task k.schema c.args.line.event _ task c.in-Cut.is is in
    c.end.ensures.broken_off k first s steady ahead further number failed c.args.feed.now same schema free refl (subst (λ d. ahead (g.C.Asks.lent c.args.client.now) ≡ Next c.args.line.number d further) cut next)

pub returns-in-Explain-clause-broken_off : goal.returns-in-Explain-clause-broken_off
returns-in-Explain-clause-broken_off g c k first s steady ahead further number failed task at same schema free is next =
    explains-text k.schema c.args.line.event _ c.in-Explain.query task
    (λ task. ahead (g.C.Asks.lent c.args.client.now) ≡ Next c.args.line.number task further → OnErr c.tell.result (BreaksOff _ g.C.Asks.stands g.C.Asks.lent g.C.Peer.is_of g.C.Hearer.has_told k s (g.H.Outside.linking c.tell.new.sink) (g.H.Outside.writing c.tell.new.sink)))
    c.in-Explain.is is (λ text means on. c.tell.ensures.broken_off k first s steady ahead further number failed c.args.feed.now text same schema free means on) next

pub returns-in_default-clause-broken_off : goal.returns-in_default-clause-broken_off
returns-in_default-clause-broken_off g c k first s steady ahead further number failed task at same schema free is next =
    does-deed k.schema c.args.line.event task
    (λ task. ahead (g.C.Asks.lent c.args.client.now) ≡ Next c.args.line.number task further → OnErr c.ask.result (BreaksOff _ g.C.Asks.stands g.C.Asks.lent g.C.Peer.is_of g.C.Hearer.has_told k s (g.H.Outside.linking c.ask.new.host) (g.H.Outside.writing c.ask.new.host)))
    is c.in_default.not-Resume c.in_default.not-Cut c.in_default.not-Explain (λ deed is plain on. c.ask.ensures.broken_off k first s steady ahead further number failed c.args.feed.now deed same schema free is plain on) next
