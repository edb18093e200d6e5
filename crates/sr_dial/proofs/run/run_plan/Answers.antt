use Rattle.std.proofs.Common.{◌∙◌, true, Option, sym, subst, arith}
use Rattle.std.specs.Prelude.{◌<◌, IfSome, option_copied}
use Rattle.sr_dial.specs.Courses.{EndsLine, Finishes}
use Rattle.sr_dial.specs.Following.{ahead_of}
use Rattle.sr_dial.specs.Jobs.{number_of}
use Rattle.sr_dial.specs.declared.plans.Job.{Job}
use Rattle.sr_dial.proofs.SoFarLemmas.{early, going-done, going-more, next-job, none-left}
use Rattle.sr_talk.proofs.MoveLemmas.{so-in-err}
use Rattle.sr_dial.proofs.OffLemmas.{off-free}
use Rattle.sr_dial.proofs.run.run_plan.Goals as goal

pub loop-job-preserved-in-Done : goal.loop-job-preserved-in-Done
loop-job-preserved-in-Done g c =
    let before = c.loop-job.invariant in
    let stays = c.run_job.ensures.stays in
    let few = before.few in
    let draws = c.run_job.ensures.draws in
    let fall = subst (λ (some : Option Job). IfSome some (λ job. g.P.Plans.depth c.next.new.self < g.P.Plans.depth c.loop-job.plans)) c.in-Some.is c.in_ok-job.ensures.falls in
    let one = next-job _ g.P.Plans.follows c.loop-job.plans c.next.new.self c.in_ok-job.field-0 c.in-Some.job (option_copied c.answer.result) (g.C.Asks.lent c.loop-job.client) c.in-Some.is c.answer.ensures c.in_ok-job.ensures.gives in
    record {
      so_far = λ k first s steady ahead number at same schema free follows.
          let h = before.so_far k first s steady ahead number at same schema free follows in
          going-more _ _ g.C.Asks.stands g.C.Asks.lent g.C.Peer.is_of g.C.Hearer.has_told g.P.Plans.follows k s c.in-Some.job c.loop-job.plans c.next.new.self c.loop-job.failed c.loop-job.failed _ _ _ _ _ _ _ _ h (one k.schema h.ahead h.follows) (λ task further is next.
          subst (λ end. EndsLine _ g.C.Asks.stands g.C.Asks.lent g.C.Peer.is_of g.C.Hearer.has_told k end s (ahead_of task further) (number_of c.in-Some.job) c.loop-job.failed (g.H.Outside.linking c.run_job.new.host) (g.H.Outside.writing c.run_job.new.host) c.run_job.new.feed c.run_job.new.client) c.in-Done.is
          (c.in_ok-run_job.ensures.ended k first s (λ z. c.loop-job.invariant.stays.stays_steady (steady z)) h.ahead further h.number c.loop-job.failed task at (before.same ∙ same) schema h.free is next));
      same = c.run_job.ensures.setting ∙ before.same;
      asks = (let n = one (g.C.Asks.setting c.args.client.now).schema before.asks.0 before.asks.1 in (ahead_of n.task n.further, n.follows));
      few = omega (arith, few, draws, fall);
      stays = record {
        stays_steady = λ s. stays.stays_steady (before.stays.stays_steady s);
        reading_stays = stays.reading_stays ∙ before.stays.reading_stays;
        held_stays = stays.held_stays ∙ before.stays.held_stays;
        complaints_stay = stays.complaints_stay ∙ before.stays.complaints_stay;
      };
    }

pub loop-job-preserved : goal.loop-job-preserved
loop-job-preserved g c =
    let before = c.loop-job.invariant in
    let stays = c.run_job.ensures.stays in
    let few = before.few in
    let draws = c.run_job.ensures.draws in
    let fall = subst (λ (some : Option Job). IfSome some (λ job. g.P.Plans.depth c.next.new.self < g.P.Plans.depth c.loop-job.plans)) c.in-Some.is c.in_ok-job.ensures.falls in
    let one = next-job _ g.P.Plans.follows c.loop-job.plans c.next.new.self c.in_ok-job.field-0 c.in-Some.job (option_copied c.answer.result) (g.C.Asks.lent c.loop-job.client) c.in-Some.is c.answer.ensures c.in_ok-job.ensures.gives in
    record {
      so_far = λ k first s steady ahead number at same schema free follows.
          let h = before.so_far k first s steady ahead number at same schema free follows in
          going-more _ _ g.C.Asks.stands g.C.Asks.lent g.C.Peer.is_of g.C.Hearer.has_told g.P.Plans.follows k s c.in-Some.job c.loop-job.plans c.next.new.self c.loop-job.failed true _ _ _ _ _ _ _ _ h (one k.schema h.ahead h.follows) (λ task further is next.
          subst (λ end. EndsLine _ g.C.Asks.stands g.C.Asks.lent g.C.Peer.is_of g.C.Hearer.has_told k end s (ahead_of task further) (number_of c.in-Some.job) c.loop-job.failed (g.H.Outside.linking c.run_job.new.host) (g.H.Outside.writing c.run_job.new.host) c.run_job.new.feed c.run_job.new.client) c.in-Failed.is
          (c.in_ok-run_job.ensures.ended k first s (λ z. c.loop-job.invariant.stays.stays_steady (steady z)) h.ahead further h.number c.loop-job.failed task at (before.same ∙ same) schema h.free is next));
      same = c.run_job.ensures.setting ∙ before.same;
      asks = (let n = one (g.C.Asks.setting c.args.client.now).schema before.asks.0 before.asks.1 in (ahead_of n.task n.further, n.follows));
      few = omega (arith, few, draws, fall);
      stays = record {
        stays_steady = λ s. stays.stays_steady (before.stays.stays_steady s);
        reading_stays = stays.reading_stays ∙ before.stays.reading_stays;
        held_stays = stays.held_stays ∙ before.stays.held_stays;
        complaints_stay = stays.complaints_stay ∙ before.stays.complaints_stay;
      };
    }

pub returns-in-Ends-clause-ended : goal.returns-in-Ends-clause-ended
returns-in-Ends-clause-ended g c k first s steady ahead number at same schema free follows =
    let before = c.loop-job.invariant in
    let h = before.so_far k first s steady ahead number at same schema free follows in
    let n = next-job _ g.P.Plans.follows c.loop-job.plans c.next.new.self c.in_ok-job.field-0 c.in-Some.job (option_copied c.answer.result) (g.C.Asks.lent c.loop-job.client) c.in-Some.is c.answer.ensures c.in_ok-job.ensures.gives k.schema h.ahead h.follows in
    let e = subst (λ end. EndsLine _ g.C.Asks.stands g.C.Asks.lent g.C.Peer.is_of g.C.Hearer.has_told k end s (ahead_of n.task n.further) (number_of c.in-Some.job) c.loop-job.failed (g.H.Outside.linking c.run_job.new.host) (g.H.Outside.writing c.run_job.new.host) c.run_job.new.feed c.run_job.new.client) c.in-Ends.is
    (c.in_ok-run_job.ensures.ended k first s (λ z. c.loop-job.invariant.stays.stays_steady (steady z)) h.ahead n.further h.number c.loop-job.failed n.task at (before.same ∙ same) schema h.free n.is n.plan_is) in
    early _ g.C.Asks.stands g.C.Asks.lent g.C.Peer.is_of g.C.Hearer.has_told k s c.in-Ends.ending _ _ _ _ e.0 e.1

pub returns-clause-ended : goal.returns-clause-ended
returns-clause-ended g c k first s steady ahead number at same schema free follows =
    let h = c.loop-job.invariant.so_far k first s steady ahead number at same schema free follows in
    subst (λ ending. Finishes _ g.C.Asks.stands g.C.Asks.lent g.C.Peer.is_of g.C.Hearer.has_told k ending s (g.H.Outside.linking c.loop-job.host) (g.H.Outside.writing c.loop-job.host) c.loop-job.feed c.loop-job.client) (sym c.ending_of.ensures)
    (going-done _ _ g.C.Asks.stands g.C.Asks.lent g.C.Peer.is_of g.C.Hearer.has_told g.P.Plans.follows k s c.loop-job.plans c.loop-job.failed _ _ _ _ h
    (none-left _ g.P.Plans.follows c.loop-job.plans c.next.new.self c.in_ok-job.field-0 (option_copied c.answer.result) (g.C.Asks.lent c.loop-job.client) c.in_default.not-Some c.answer.ensures c.in_ok-job.ensures.gives k.schema h.ahead h.follows))

pub returns-in_err-job-clause-broken_off : goal.returns-in_err-job-clause-broken_off
returns-in_err-job-clause-broken_off g c k first s steady ahead number at same schema free follows =
    let h = c.loop-job.invariant.so_far k first s steady ahead number at same schema free follows in
    so-in-err c.from_residual.result (off-free _ g.C.Asks.stands g.C.Asks.lent g.C.Peer.is_of g.C.Hearer.has_told k s h.ahead h.number c.loop-job.failed _ _ _ _ h.free)

pub returns-in_err-run_job-clause-broken_off : goal.returns-in_err-run_job-clause-broken_off
returns-in_err-run_job-clause-broken_off g c k first s steady ahead number at same schema free follows =
    let before = c.loop-job.invariant in
    let h = before.so_far k first s steady ahead number at same schema free follows in
    let n = next-job _ g.P.Plans.follows c.loop-job.plans c.next.new.self c.in_ok-job.field-0 c.in-Some.job (option_copied c.answer.result) (g.C.Asks.lent c.loop-job.client) c.in-Some.is c.answer.ensures c.in_ok-job.ensures.gives k.schema h.ahead h.follows in
    so-in-err c.from_residual-in_err-run_job.result (c.in_err-run_job.ensures.broken_off k first s (λ z. c.loop-job.invariant.stays.stays_steady (steady z)) h.ahead n.further h.number c.loop-job.failed n.task at (before.same ∙ same) schema h.free n.is n.plan_is)
