use Rattle.std.proofs.Common.{◌≡◌, ℕ, ◌-◌, drop, not, subst, arith}
use Rattle.std.proofs.lemmas.Result.{IfOk-weaker}
use Rattle.sr_model.specs.Conditions.{Not}
use Rattle.sr_query.specs.Binding.{cond_of}
use Rattle.sr_query.specs.Meant.{meant, members}
use Rattle.sr_condition.specs.Said.{all_of, AreRects}
use Rattle.sr_condition.proofs.Combined.{meet-init, meet-step, join-init, join-step, not-rects}
use Rattle.sr_condition.proofs.rects.+condition.Goals as goal

pub negation-returns : goal.negation-returns
negation-returns t c =
    IfOk-weaker c.rects_said.result (AreRects c.args.table.now.columns (not c.args.plain) (cond_of (meant c.args.one.now))) (AreRects c.args.table.now.columns c.args.plain (Not (cond_of (meant c.args.one.now))))
    (λ rects are. not-rects c.args.table.now.columns c.args.plain (cond_of (meant c.args.one.now)) rects are) c.rects_said.ensures

pub meet_all-loop-i-init : goal.meet_all-loop-i-init
meet_all-loop-i-init t c = record { inside = omega arith; are = meet-init c.args.table.now.columns c.args.plain c.args.all.now c.in_ok-both.both c.in_ok-both.ensures }

pub meet_all-loop-i-preserved : goal.meet_all-loop-i-preserved
meet_all-loop-i-preserved t c = record {
  inside = omega arith;
  are = meet-step c.args.table.now.columns c.args.plain c.args.all.now c.loop-i.i (c.loop-i.i - 1) c.index-all-i.result c.in_ok-one.one c.loop-i.both c.in_ok-both-2.both
      (omega arith) (omega arith) c.index-all-i.is c.in_ok-one.ensures c.loop-i.invariant.are (c.in_ok-both-2.ensures.points c.args.table.now.columns)
      (c.in_ok-both-2.ensures.cuts c.args.table.now.columns c.in_ok-one.ensures.fits c.loop-i.invariant.are.fits) c.in_ok-both-2.ensures.few;
}

pub meet_all-returns : goal.meet_all-returns
meet_all-returns t c =
    let none_left : c.loop-i.i ≡ 0 = omega arith in
    subst (λ (n : ℕ). AreRects c.args.table.now.columns c.args.plain (all_of c.args.plain (members (drop n c.args.all.now))) c.loop-i.both) none_left c.loop-i.invariant.are

pub join_all-loop-i-init : goal.join_all-loop-i-init
join_all-loop-i-init t c = record { inside = omega arith; are = join-init c.args.table.now.columns c.args.plain c.args.all.now c.new-any.result c.new-any.ensures }

pub join_all-loop-i-preserved : goal.join_all-loop-i-preserved
join_all-loop-i-preserved t c = record {
  inside = omega arith;
  are = join-step c.args.table.now.columns c.args.plain c.args.all.now c.loop-i.i (c.loop-i.i - 1) c.index-all-i.result c.in_ok-one.one c.loop-i.any c.append.new.self
      (omega arith) (omega arith) c.index-all-i.is c.in_ok-one.ensures c.loop-i.invariant.are c.in_ok-append.ensures.appended;
}
