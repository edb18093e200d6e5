use Rattle.std.proofs.Common.{arith, ◌++◌}
use Rattle.sr_client.proofs.Results.{if_ok}
use Rattle.sr_runs.specs.Runs.{Steps}
use Rattle.sr_world.specs.Worlds.{Goes}
use Rattle.sr_world.proofs.EventLemmas.{setting-twice}
use Rattle.sr_world.proofs.ServeLemmas.{always-ok}
use Rattle.sr_world.proofs.StepLemmas.{alone-goes, eager-goes}
use Rattle.sr_world.proofs.WorldLemmas.{drawn-within}
use Rattle.sr_world.proofs.world.World.happen.Goals as goal

-- ---- the deliveries behind it

pub settle_all-requires : goal.settle_all-requires
settle_all-requires c =
    let some = c.requires.world in
    let means = c.requires.means in
    let went = c.in_ok-lines.ensures.does means.0 means.1 some.0 some.1 in
    let few = c.in_ok-lines.ensures.drawn in
    let room = c.requires.room in
    record {
      world = (went.0, went.2);
      room = omega (arith, few, room);
    }

pub returns-then-eager-clause-steps : goal.returns-then-eager-clause-steps
returns-then-eager-clause-steps c = λ what is.
    if_ok (Goes (λ s. Steps c.args.self.now.eager s what) c.args.self.now c.settle_all.new.self) c.with_lines.result (c.in_ok-lines.lines ++ c.in_ok-more.more) c.with_lines.ensures
    (eager-goes c.args.self.now.eager c.args.self.now c.event.new.self c.settle_all.new.self what c.in_ok-lines.lines c.in_ok-more.more c.if-eager.true (c.in_ok-lines.ensures.does what is)
    c.in_ok-more.ensures.settles)

pub returns-then-eager-clause-drawn : goal.returns-then-eager-clause-drawn
returns-then-eager-clause-drawn c =
    let few = c.in_ok-lines.ensures.drawn in
    let light = c.in_ok-more.ensures.lightens in
    let own = drawn-within c.settle_all.new.self in
    always-ok _ c.with_lines.result (omega (arith, few, light, own))

pub returns-then-eager-clause-stays : goal.returns-then-eager-clause-stays
returns-then-eager-clause-stays c = setting-twice c.args.self.now c.event.new.self c.settle_all.new.self c.event.ensures.stays c.settle_all.ensures.stays

-- ---- none

pub returns-clause-steps : goal.returns-clause-steps
returns-clause-steps c = λ what is. alone-goes c.args.self.now.eager c.args.self.now c.event.new.self what c.in_ok-lines.lines c.if-eager.false (c.in_ok-lines.ensures.does what is)

pub returns-clause-drawn : goal.returns-clause-drawn
returns-clause-drawn c =
    let few = c.in_ok-lines.ensures.drawn in
    let own = drawn-within c.event.new.self in
    omega (arith, few, own)
