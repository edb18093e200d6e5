use Rattle.std.proofs.Common.{sym, subst, ◌≡◌}
use Rattle.std.specs.Prelude.{IfOk, string_bytes}
use Rattle.sr_dial.specs.Calls.{Say}
use Rattle.sr_plan.specs.Plans.{Next}
use Rattle.sr_dial.specs.Courses.{Hands}
use Rattle.sr_dial.specs.Following.{ahead_of}
use Rattle.sr_dial.specs.Jobs.{IsJob, number_of}
use Rattle.sr_dial.specs.Runs.{none_taken}
use Rattle.sr_dial.proofs.run.start.Goals as goal

pub start_line-requires-clause-asks : goal.start_line-requires-clause-asks
start_line-requires-clause-asks g c = subst (λ job. (task : _) × IsJob (g.C.Asks.setting c.args.client.now).schema job task) c.in-Line.is c.requires.asks

pub returns-in-Line-clause-started : goal.returns-in-Line-clause-started
returns-in-Line-clause-started g c k first s steady ahead further number failed task at same schema free is next =
    subst (λ job. IfOk c.start_line.result (λ handed. Hands _ g.C.Asks.stands g.C.Asks.lent g.C.Peer.is_of g.C.Hearer.has_told k handed s (ahead_of task further) (number_of job) none_taken failed (g.H.Outside.linking c.start_line.new.host) (g.H.Outside.writing c.start_line.new.host) c.start_line.new.feed c.start_line.new.client)) (sym c.in-Line.is)
    (c.start_line.ensures.started k first s steady ahead further number failed task at same schema free (subst (λ job. IsJob k.schema job task) c.in-Line.is is)
    (subst (λ job. ahead (g.C.Asks.lent c.args.client.now) ≡ Next (number_of job) task further) c.in-Line.is next))

pub returns-in-Say-clause-started : goal.returns-in-Say-clause-started
returns-in-Say-clause-started g c k first s steady ahead further line failed task at same schema free is next =
    let what : task ≡ Say (string_bytes c.in-Say.text) = subst (λ job. IsJob k.schema job task) c.in-Say.is is in
    let due = subst (λ job. ahead (g.C.Asks.lent c.args.client.now) ≡ Next (number_of job) task further) c.in-Say.is next in
    subst (λ job. IfOk c.write.result (λ handed. Hands _ g.C.Asks.stands g.C.Asks.lent g.C.Peer.is_of g.C.Hearer.has_told k handed s (ahead_of task further) (number_of job) none_taken failed (g.H.Outside.linking c.write.new.sink) (g.H.Outside.writing c.write.new.sink) c.args.feed.now c.args.client.now)) (sym c.in-Say.is)
    (subst (λ t. IfOk c.write.result (λ handed. Hands _ g.C.Asks.stands g.C.Asks.lent g.C.Peer.is_of g.C.Hearer.has_told k handed s (ahead_of t further) c.in-Say.number none_taken failed (g.H.Outside.linking c.write.new.sink) (g.H.Outside.writing c.write.new.sink) c.args.feed.now c.args.client.now)) (sym what)
    (c.write.ensures.told k first s steady ahead further line failed c.args.feed.now same free
    (subst (λ bytes. ahead (g.C.Asks.lent c.args.client.now) ≡ Next c.in-Say.number (Say bytes) further) (sym c.as_str.ensures.value) (subst (λ t. ahead (g.C.Asks.lent c.args.client.now) ≡ Next c.in-Say.number t further) what due))))

pub returns-in-Line-clause-broken_off : goal.returns-in-Line-clause-broken_off
returns-in-Line-clause-broken_off g c k first s steady ahead further number failed task at same schema free is next =
    c.start_line.ensures.broken_off k first s steady ahead further number failed task at same schema free (subst (λ job. IsJob k.schema job task) c.in-Line.is is)
    (subst (λ job. ahead (g.C.Asks.lent c.args.client.now) ≡ Next (number_of job) task further) c.in-Line.is next)

pub returns-in-Say-clause-broken_off : goal.returns-in-Say-clause-broken_off
returns-in-Say-clause-broken_off g c k first s steady ahead further line failed task at same schema free is next =
    let what : task ≡ Say (string_bytes c.in-Say.text) = subst (λ job. IsJob k.schema job task) c.in-Say.is is in
    let due = subst (λ job. ahead (g.C.Asks.lent c.args.client.now) ≡ Next (number_of job) task further) c.in-Say.is next in
    c.write.ensures.broken_off k first s steady ahead further line failed c.args.feed.now same free
    (subst (λ bytes. ahead (g.C.Asks.lent c.args.client.now) ≡ Next c.in-Say.number (Say bytes) further) (sym c.as_str.ensures.value) (subst (λ t. ahead (g.C.Asks.lent c.args.client.now) ≡ Next c.in-Say.number t further) what due))
