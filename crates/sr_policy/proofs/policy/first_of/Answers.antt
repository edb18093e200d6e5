use Rattle.std.proofs.Common.{◌≡◌, ◌+◌, ◌<◌, ◌∙◌, true, false, length, take, sym, subst, arith}
use Rattle.sr_policy.specs.Order.{goes_before, IsVictim}
use Rattle.sr_policy.proofs.Victims.{victim_first, victim_kept, victim_taken}
use Rattle.sr_policy.proofs.policy.first_of.Goals as goal
use Rattle.sr_policy.proofs.policy.first_of.Goals.{then-goes_before, else-goes_before}

pub loop-i-init : goal.loop-i-init
loop-i-init c = record {
  behind = omega arith;
  first = victim_first c.args.policy c.args.last.now c.args.classes.now c.requires;
}

pub loop-i-preserved : goal.loop-i-preserved
loop-i-preserved c =
    let policy = c.args.policy in
    let last = c.args.last.now in
    let classes = c.args.classes.now in
    let i = c.loop-i.i in
    let next = c.index-classes-i.result in
    let found = c.index-classes-best.result in
    let inside : i < length classes = omega arith in
    let h = c.loop-i.invariant in
    elim c.if-goes_before.branch [
      | then-goes_before w ↦
          let earlier : goes_before policy last next found ≡ true = sym c.goes_before.ensures ∙ w.if-goes_before.true in
          record {
            behind = omega (arith, w.best-is);
            first = subst (IsVictim policy last (take (i + 1) classes)) (sym w.best-is)
                (victim_taken policy last classes i c.loop-i.best found next inside h.behind c.index-classes-i.is c.index-classes-best.is h.first earlier);
          }
      | else-goes_before w ↦
          let later : goes_before policy last next found ≡ false = sym c.goes_before.ensures ∙ w.if-goes_before.false in
          record {
            behind = omega (arith, w.best-is);
            first = subst (IsVictim policy last (take (i + 1) classes)) (sym w.best-is)
                (victim_kept policy last classes i c.loop-i.best found next inside h.behind c.index-classes-i.is c.index-classes-best.is h.first later);
          }
    ]
