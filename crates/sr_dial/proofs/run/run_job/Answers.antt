use Rattle.std.proofs.Common.{◌∙◌, sym, subst}
use Rattle.std.specs.Prelude.{IfOk}
use Rattle.sr_dial.specs.Courses.{EndsLine, Hands}
use Rattle.sr_dial.specs.Following.{ahead_of}
use Rattle.sr_dial.specs.Runs.{none_taken}
use Rattle.sr_talk.proofs.MoveLemmas.{so-in-err}
use Rattle.sr_dial.proofs.run.run_job.Goals as goal

pub returns-clause-ended : goal.returns-clause-ended
returns-clause-ended g c k first s steady ahead further line failed task at same schema free is next =
    subst (λ n. IfOk c.finish.result (λ end. EndsLine _ g.C.Asks.stands g.C.Asks.lent g.C.Peer.is_of g.C.Hearer.has_told k end s (ahead_of task further) n failed (g.H.Outside.linking c.finish.new.host) (g.H.Outside.writing c.finish.new.host) c.finish.new.feed c.finish.new.client)) c.number-number.ensures
    (c.finish.ensures.ended k first s (λ z. c.start.ensures.stays.stays_steady (steady z)) (ahead_of task further) failed (c.start.ensures.setting ∙ same) schema
    (subst (λ n. Hands _ g.C.Asks.stands g.C.Asks.lent g.C.Peer.is_of g.C.Hearer.has_told k c.in_ok-handed.handed s (ahead_of task further) n none_taken failed (g.H.Outside.linking c.start.new.host) (g.H.Outside.writing c.start.new.host) c.start.new.feed c.start.new.client) (sym c.number-number.ensures)
    (c.in_ok-handed.ensures.started k first s steady ahead further line failed task at same schema free is next)))

pub returns-in_err-handed-clause-broken_off : goal.returns-in_err-handed-clause-broken_off
returns-in_err-handed-clause-broken_off g c k first s steady ahead further line failed task at same schema free is next =
    so-in-err c.from_residual.result (c.in_err-handed.ensures.broken_off k first s steady ahead further line failed task at same schema free is next)

pub returns-clause-broken_off : goal.returns-clause-broken_off
returns-clause-broken_off g c k first s steady ahead further line failed task at same schema free is next =
    c.finish.ensures.broken_off k first s (λ z. c.start.ensures.stays.stays_steady (steady z)) (ahead_of task further) failed (c.start.ensures.setting ∙ same) schema
    (subst (λ n. Hands _ g.C.Asks.stands g.C.Asks.lent g.C.Peer.is_of g.C.Hearer.has_told k c.in_ok-handed.handed s (ahead_of task further) n none_taken failed (g.H.Outside.linking c.start.new.host) (g.H.Outside.writing c.start.new.host) c.start.new.feed c.start.new.client) (sym c.number-number.ensures)
    (c.in_ok-handed.ensures.started k first s steady ahead further line failed task at same schema free is next))
